-- Document 01, types and pairs: what four bytes are, in a bundle of n classes. Ends are kept as stored, with 64 added, so that they are natural numbers.
use Rattle.std.specs.Prelude.{Bool, cond, ◌&&◌, ◌||◌, ℕ, leb, ltb, eqb}
use Rattle.ground.specs.Chain.{refuse}

-- Int, Top, a reference with its class, dip and end, or a reference of a class that may be null (document 02, Q-8); four zeros, which stand below the depth in use; any other four bytes
pub data Entry : Type 0 where
  Int : Entry
  Top : Entry
  Ref : ℕ → ℕ → ℕ → Entry
  Nullable : ℕ → Entry
  Blank : Entry
  Malformed : Entry

-- the greatest dip, the least and the greatest end
abbrev pub max_dip : ℕ
max_dip = 63

abbrev pub min_end : ℕ
min_end = 1

abbrev pub max_end : ℕ
max_end = 127

-- an end of 0
abbrev pub no_end : ℕ
no_end = 64

-- ..,0,0,0
unfoldable pub zeros : ℕ → ℕ → ℕ → Bool
zeros c d e = eqb c 0 && eqb d 0 && eqb e 0

-- one of the bundle's classes; the dip d is 0..63; the end e is -63..63
unfoldable pub pair_ok : ℕ → ℕ → ℕ → ℕ → Bool
pair_ok n c d e = ltb c n && leb d max_dip && leb min_end e && leb e max_end

-- one of the bundle's classes, and 0, 0
unfoldable pub nullable_ok : ℕ → ℕ → ℕ → ℕ → Bool
nullable_ok n c d e = ltb c n && eqb d 0 && eqb e 0

-- 1,0,0,0 is Int; 2,0,0,0 is Top; 3, class, d, e+64 is a reference; 4, class, 0, 0 is a reference that may be null; 0,0,0,0 stands below the depth in use; any other four bytes are malformed
unfoldable pub entry_of : ℕ → ℕ → ℕ → ℕ → ℕ → Entry
entry_of n kind c d e =
    cond (eqb kind 0) (refuse (zeros c d e) Malformed Blank)
    (cond (eqb kind 1) (refuse (zeros c d e) Malformed Int)
    (cond (eqb kind 2) (refuse (zeros c d e) Malformed Top)
    (cond (eqb kind 3) (refuse (pair_ok n c d e) Malformed (Ref c d e))
    (cond (eqb kind 4) (refuse (nullable_ok n c d e) Malformed (Nullable c))
    Malformed))))

-- Int, Top and a reference that may be null weigh d = 0, e = 0
abbrev pub dip_of : Entry → ℕ
dip_of Int = 0
dip_of Top = 0
dip_of (Ref c d e) = d
dip_of (Nullable c) = 0
dip_of Blank = 0
dip_of Malformed = 0

abbrev pub end_of : Entry → ℕ
end_of Int = no_end
end_of Top = no_end
end_of (Ref c d e) = e
end_of (Nullable c) = no_end
end_of Blank = no_end
end_of Malformed = no_end

-- the kind that the first byte gives; what is malformed is of none, told by the number behind them
abbrev pub kind_of : Entry → ℕ
kind_of Int = 1
kind_of Top = 2
kind_of (Ref c d e) = 3
kind_of (Nullable c) = 4
kind_of Blank = 0
kind_of Malformed = 5

abbrev pub class_of : Entry → ℕ
class_of Int = 0
class_of Top = 0
class_of (Ref c d e) = c
class_of (Nullable c) = c
class_of Blank = 0
class_of Malformed = 0

abbrev pub is_blank : Entry → Bool
is_blank x = eqb (kind_of x) 0

abbrev pub is_int : Entry → Bool
is_int x = eqb (kind_of x) 1

abbrev pub is_top : Entry → Bool
is_top x = eqb (kind_of x) 2

abbrev pub is_reference : Entry → Bool
is_reference x = eqb (kind_of x) 3

abbrev pub is_nullable : Entry → Bool
is_nullable x = eqb (kind_of x) 4

-- Int, Top or a reference, null or not: what a variable and a stack entry in use must be
abbrev pub is_type : Entry → Bool
is_type x = leb 1 (kind_of x) && leb (kind_of x) 4

-- a reference of class c
abbrev pub is_of : ℕ → Entry → Bool
is_of c x = is_reference x && eqb (class_of x) c

-- .. or one that may be null
abbrev pub may_be_of : ℕ → Entry → Bool
may_be_of c x = (is_reference x || is_nullable x) && eqb (class_of x) c

-- argument descriptors: FF is Int, otherwise a class number. An argument as its type: Int, or its class with (0,0)
unfoldable pub argument_entry : ℕ → Entry
argument_entry descriptor = cond (eqb descriptor 255) Int (Ref descriptor 0 no_end)

-- an entry that matches a descriptor: Int, or a reference of that class
unfoldable pub matches : ℕ → Entry → Bool
matches descriptor x = cond (eqb descriptor 255) (is_int x) (is_of descriptor x)

-- field descriptors likewise (document 02, Q-8). What a field holds, as its type: Int, or its class, null or not
unfoldable pub field_entry : ℕ → Entry
field_entry descriptor = cond (eqb descriptor 255) Int (Nullable descriptor)

-- an entry that matches a field's descriptor: Int, or a reference of that class, null or not
unfoldable pub matches_field : ℕ → Entry → Bool
matches_field descriptor x = cond (eqb descriptor 255) (is_int x) (may_be_of descriptor x)
