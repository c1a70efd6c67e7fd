-- Which values an entry may stand for: kinds, apart from what an entry weighs. There are n objects, of the classes cls.
use mathlib.Core.Path.{◌≡◌, refl, ◌∙◌}
use mathlib.Core.Bool.{Bool, true, false, cond, ◌||◌, false≢true, true≢false}
use mathlib.Core.List.{List}
use Prim.Native.Nat.{ℕ, ◌≤◌, ◌<◌}
use lib.ListN.{get_or}
use native.Mathlib.Omega.{arith}
use lib.Dec.{eqb}
use borrow.Author.Tests.{eqb-true, eq-eqb, lt-ltb}
use Rattle.entries.specs.Entries.{Entry, Int, Top, Ref, Nullable, Blank, Malformed, no_end, is_int, is_reference, is_nullable, is_type, is_of, may_be_of, argument_entry, matches, field_entry, matches_field}
use Rattle.entries.specs.Entries as entries
use Rattle.entries.specs.Fits.{takes}
use Rattle.values.specs.declared.Slot.{Slot}
use Rattle.values.specs.declared.Value.{Value}
use Rattle.values.specs.declared.Value.TheVariants.{Int as num, Ref as obj, Null as null}
use Rattle.values.specs.Values.{is_int_value, is_null_value, is_null, is_ref_value, object_of_value, refers_value, inc_value}
use Rattle.values.specs.Values as values
use Rattle.turns.specs.Faults.{is_object, may_be_object, is_field_value}
use Rattle.soundness.specs.Balance.{Matches}

pub nope : {A : Type 0} → false ≡ true → A
nope e = absurd (false≢true e)

pub field-type : (d : ℕ) → is_type (field_entry d) ≡ true
unfolding field_entry
field-type d = go (eqb d 255)
  where
    go : (b : Bool) → is_type (cond b Int (Nullable d)) ≡ true
    go true = refl
    go false = refl

module _ (n : ℕ) (cls : ℕ → ℕ) where
  -- ---- from one entry to another
  pub takes-kind : (f e : Entry) (v : Value) → takes f e ≡ true → Matches n cls e v → Matches n cls f v
  unfolding takes
  takes-kind Int Int v h m = m
  takes-kind Int Top v h m = nope h
  takes-kind Int (Ref c d e) v h m = nope h
  takes-kind Int (Nullable c) v h m = nope h
  takes-kind Int Blank v h m = nope h
  takes-kind Int Malformed v h m = nope h
  takes-kind Top Int (num z) h m = m
  takes-kind Top Int (obj r) h m = absurd m
  takes-kind Top Int null h m = absurd m
  takes-kind Top Top v h m = m
  takes-kind Top (Ref c d e) (num z) h m = absurd m
  takes-kind Top (Ref c d e) (obj r) h m = m.0
  takes-kind Top (Ref c d e) null h m = absurd m
  takes-kind Top (Nullable c) (num z) h m = absurd m
  takes-kind Top (Nullable c) (obj r) h m = m.0
  takes-kind Top (Nullable c) null h m = tt
  takes-kind Top Blank v h m = nope h
  takes-kind Top Malformed v h m = nope h
  takes-kind (Ref c d e) Int v h m = nope h
  takes-kind (Ref c d e) Top v h m = nope h
  takes-kind (Ref c d e) (Ref c' d' e') (num z) h m = absurd m
  takes-kind (Ref c d e) (Ref c' d' e') (obj r) h m = (m.0, m.1 ∙ eqb-true c' c h)
  takes-kind (Ref c d e) (Ref c' d' e') null h m = absurd m
  takes-kind (Ref c d e) (Nullable c') v h m = nope h
  takes-kind (Ref c d e) Blank v h m = nope h
  takes-kind (Ref c d e) Malformed v h m = nope h
  takes-kind (Nullable c) Int v h m = nope h
  takes-kind (Nullable c) Top v h m = nope h
  takes-kind (Nullable c) (Ref c' d' e') (num z) h m = absurd m
  takes-kind (Nullable c) (Ref c' d' e') (obj r) h m = (m.0, m.1 ∙ eqb-true c' c h)
  takes-kind (Nullable c) (Ref c' d' e') null h m = tt
  takes-kind (Nullable c) (Nullable c') (num z) h m = absurd m
  takes-kind (Nullable c) (Nullable c') (obj r) h m = (m.0, m.1 ∙ eqb-true c' c h)
  takes-kind (Nullable c) (Nullable c') null h m = tt
  takes-kind (Nullable c) Blank v h m = nope h
  takes-kind (Nullable c) Malformed v h m = nope h
  takes-kind Blank x v h m = tt
  takes-kind Malformed x v h m = tt

  -- more objects
  pub more-kind : (n' : ℕ) (cls' : ℕ → ℕ) → n ≤ n' → ((r : ℕ) → r < n → cls' r ≡ cls r) → (e : Entry) (v : Value)
      → Matches n cls e v → Matches n' cls' e v
  more-kind n' cls' l q Int (num z) m = tt
  more-kind n' cls' l q Int (obj r) m = m
  more-kind n' cls' l q Int null m = m
  more-kind n' cls' l q Top (num z) m = tt
  more-kind n' cls' l q Top (obj r) m = omega arith
  more-kind n' cls' l q Top null m = tt
  more-kind n' cls' l q (Ref c d e) (num z) m = m
  more-kind n' cls' l q (Ref c d e) (obj r) m = (omega (arith, m.0), q r m.0 ∙ m.1)
  more-kind n' cls' l q (Ref c d e) null m = m
  more-kind n' cls' l q (Nullable c) (num z) m = m
  more-kind n' cls' l q (Nullable c) (obj r) m = (omega (arith, m.0), q r m.0 ∙ m.1)
  more-kind n' cls' l q (Nullable c) null m = tt
  more-kind n' cls' l q Blank v m = tt
  more-kind n' cls' l q Malformed v m = tt

  -- ---- what an entry tells of the value
  pub int-value : (e : Entry) (v : Value) → is_int e ≡ true → Matches n cls e v → is_int_value v ≡ true
  int-value Int (num z) h m = refl
  int-value Int (obj r) h m = absurd m
  int-value Int null h m = absurd m
  int-value Top v h m = nope h
  int-value (Ref c d e) v h m = nope h
  int-value (Nullable c) v h m = nope h
  int-value Blank v h m = nope h
  int-value Malformed v h m = nope h

  -- the entry as Int
  pub int-kind : (e : Entry) (v : Value) → is_int e ≡ true → Matches n cls e v → Matches n cls Int v
  int-kind e (num z) h m = tt
  int-kind e (obj r) h m = absurd (false≢true (int-value e (obj r) h m))
  int-kind e null h m = absurd (false≢true (int-value e null h m))

  pub int-inc : (e : Entry) (v : Value) → is_int e ≡ true → Matches n cls e v → Matches n cls Int (inc_value v)
  int-inc e (num z) h m = tt
  int-inc e (obj r) h m = absurd (false≢true (int-value e (obj r) h m))
  int-inc e null h m = absurd (false≢true (int-value e null h m))

  -- a reference: the value is an object
  pub ref_value : (e : Entry) (v : Value) → is_reference e ≡ true → Matches n cls e v
      → (is_ref_value v ≡ true) × (object_of_value v < n) × (cls (object_of_value v) ≡ entries.class_of e) × (v ≡ obj (object_of_value v))
  ref_value Int v h m = nope h
  ref_value Top v h m = nope h
  ref_value (Ref c d e) (num z) h m = absurd m
  ref_value (Ref c d e) (obj r) h m = (refl, m.0, m.1, refl)
  ref_value (Ref c d e) null h m = absurd m
  ref_value (Nullable c) v h m = nope h
  ref_value Blank v h m = nope h
  ref_value Malformed v h m = nope h

  pub of-value : (c : ℕ) (e : Entry) (v : Value) → is_of c e ≡ true → Matches n cls e v → Matches n cls (Ref c 0 no_end) v
  of-value c Int v h m = nope h
  of-value c Top v h m = nope h
  of-value c (Ref c' d e) (num z) h m = absurd m
  of-value c (Ref c' d e) (obj r) h m = (m.0, m.1 ∙ eqb-true c' c h)
  of-value c (Ref c' d e) null h m = absurd m
  of-value c (Nullable c') v h m = nope h
  of-value c Blank v h m = nope h
  of-value c Malformed v h m = nope h

  -- a reference, null or not, of class c: null, or an object of c
  pub nullable-value : (c : ℕ) (e : Entry) (v : Value) → may_be_of c e ≡ true → Matches n cls e v → Matches n cls (Nullable c) v
  nullable-value c Int v h m = nope h
  nullable-value c Top v h m = nope h
  nullable-value c (Ref c' d e) (num z) h m = absurd m
  nullable-value c (Ref c' d e) (obj r) h m = (m.0, m.1 ∙ eqb-true c' c h)
  nullable-value c (Ref c' d e) null h m = tt
  nullable-value c (Nullable c') (num z) h m = absurd m
  nullable-value c (Nullable c') (obj r) h m = (m.0, m.1 ∙ eqb-true c' c h)
  nullable-value c (Nullable c') null h m = tt
  nullable-value c Blank v h m = nope h
  nullable-value c Malformed v h m = nope h

  -- .. and where it isn't null it is an object of its class
  pub not_null : (c : ℕ) (v : Value) → is_null_value v ≡ false → Matches n cls (Nullable c) v → Matches n cls (Ref c 0 no_end) v
  not_null c (num z) h m = absurd m
  not_null c (obj r) h m = m
  not_null c null h m = absurd (true≢false h)

  -- a reference, null or not, holds no integer; and null only where it may be
  pub no-int : (e : Entry) (v : Value) → (is_reference e || is_nullable e) ≡ true → Matches n cls e v → is_int_value v ≡ false
  no-int e (obj r) h m = refl
  no-int e null h m = refl
  no-int Int (num z) h m = nope h
  no-int Top (num z) h m = nope h
  no-int (Ref c d e) (num z) h m = absurd m
  no-int (Nullable c) (num z) h m = absurd m
  no-int Blank (num z) h m = nope h
  no-int Malformed (num z) h m = nope h

  pub null-entry : (e : Entry) (v : Value) → (is_reference e || is_nullable e) ≡ true → Matches n cls e v → is_null_value v ≡ true → is_nullable e ≡ true
  null-entry e (num z) h m q = nope q
  null-entry e (obj r) h m q = nope q
  null-entry Int null h m q = nope h
  null-entry Top null h m q = nope h
  null-entry (Ref c d e) null h m q = absurd m
  null-entry (Nullable c) null h m q = refl
  null-entry Blank null h m q = nope h
  null-entry Malformed null h m q = nope h

  -- an argument that matches its descriptor is what the started class's row 1 takes it for
  pub argument-kind : (d : ℕ) (e : Entry) (v : Value) → matches d e ≡ true → Matches n cls e v → Matches n cls (argument_entry d) v
  unfolding matches argument_entry
  argument-kind d e v h m = go (eqb d 255) h
    where
      go : (b : Bool) → cond b (is_int e) (is_of d e) ≡ true → Matches n cls (cond b Int (Ref d 0 no_end)) v
      go true h = int-kind e v h m
      go false h = of-value d e v h m

  -- a value that matches a field's descriptor is what the field holds
  pub field-kind : (d : ℕ) (e : Entry) (v : Value) → matches_field d e ≡ true → Matches n cls e v → Matches n cls (field_entry d) v
  unfolding matches_field field_entry
  field-kind d e v h m = go (eqb d 255) h
    where
      go : (b : Bool) → cond b (is_int e) (may_be_of d e) ≡ true → Matches n cls (cond b Int (Nullable d)) v
      go true h = int-kind e v h m
      go false h = nullable-value d e v h m

  -- a place in use holds an integer or null, or refers to an object
  pub type-refers : (e : Entry) (v : Value) → is_type e ≡ true → Matches n cls e v → refers_value n v ≡ true
  type-refers e (num z) h m = refl
  type-refers e null h m = refl
  type-refers Int (obj r) h m = absurd m
  type-refers Top (obj r) h m = lt-ltb r n m
  type-refers (Ref c d e) (obj r) h m = lt-ltb r n m.0
  type-refers (Nullable c) (obj r) h m = lt-ltb r n m.0
  type-refers Blank (obj r) h m = nope h
  type-refers Malformed (obj r) h m = nope h

-- ---- no fault 13
pub object-is : (n : ℕ) (classes : List ℕ) (c : ℕ) (e : Entry) (x : Slot) → is_of c e ≡ true → Matches n (λ o. get_or classes o 0) e x.value → is_object classes c x ≡ true
object-is n classes c e x h m =
    let r = ref_value n (λ o. get_or classes o 0) (Ref c 0 no_end) x.value refl (of-value n (λ o. get_or classes o 0) c e x.value h m) in
    rw (r.0, eq-eqb _ _ r.2)

pub may-be-object-is : (n : ℕ) (classes : List ℕ) (c : ℕ) (e : Entry) (x : Slot) → may_be_of c e ≡ true → Matches n (λ o. get_or classes o 0) e x.value → may_be_object classes c x ≡ true
unfolding may_be_object
may-be-object-is n classes c e x h m = go (is_null x) refl
  where
    go : (b : Bool) → is_null x ≡ b → (b || is_object classes c x) ≡ true
    go true q = refl
    go false q = object-is n classes c (Ref c 0 no_end) x (eq-eqb c c refl) (not_null n (λ o. get_or classes o 0) c x.value q (nullable-value n (λ o. get_or classes o 0) c e x.value h m))

pub field-value-is : (n : ℕ) (classes : List ℕ) (d : ℕ) (e : Entry) (x : Slot) → matches_field d e ≡ true → Matches n (λ o. get_or classes o 0) e x.value → is_field_value classes d x ≡ true
unfolding matches_field is_field_value
field-value-is n classes d e x h m = go (eqb d 255) h
  where
    go : (b : Bool) → cond b (is_int e) (may_be_of d e) ≡ true → cond b (values.is_int x) (may_be_object classes d x) ≡ true
    go true h = int-value n (λ o. get_or classes o 0) e x.value h m
    go false h = may-be-object-is n classes d e x h m
