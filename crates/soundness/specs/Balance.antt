-- A thread that stands at a row: its values against the row's entries, and its counts against their pairs.
-- Row and thread are 32 slots: slot i below 16 is variable i, slot 16 + p the stack's place p from the bottom.
use Rattle.std.specs.Prelude.{◌≡◌, Bool, false, cond, List, ℕ, ◌+◌, ◌-◌, ◌≤◌, ◌<◌, ltb, eqb, length, get_or}
use Rattle.ground.specs.Bounded.{sum_below}
use Rattle.entries.specs.Entries.{Entry, Int, Top, Ref, Nullable, Blank, Malformed, no_end, dip_of, end_of}
use Rattle.rows.specs.Rows.{Row}
use Rattle.values.specs.declared.Slot.{Slot}
use Rattle.values.specs.declared.Value.{Value}
use Rattle.values.specs.declared.Value.TheVariants.{Int as num, Ref as obj, Null as null}
use Rattle.values.specs.Values.{zero_slot}
use Rattle.threads.specs.declared.Thread.{Thread}

-- which values an entry may stand for, where there are n objects, of the classes cls; `Blank` is a place that is not in use: any value may be left there
abbrev pub Matches : ℕ → (ℕ → ℕ) → Entry → Value → Type 0
Matches n cls Int (num z) = Unit
Matches n cls Int (obj r) = ⊥
Matches n cls Int null = ⊥
Matches n cls Top (num z) = Unit
Matches n cls Top (obj r) = r < n
Matches n cls Top null = Unit
Matches n cls (Ref c d e) (num z) = ⊥
Matches n cls (Ref c d e) (obj r) = (r < n) × (cls r ≡ c)
Matches n cls (Ref c d e) null = ⊥
Matches n cls (Nullable c) (num z) = ⊥
Matches n cls (Nullable c) (obj r) = (r < n) × (cls r ≡ c)
Matches n cls (Nullable c) null = Unit
Matches n cls Blank v = Unit
Matches n cls Malformed v = Unit

-- the value refers to the object o
abbrev pub names : ℕ → Value → Bool
names o (num z) = false
names o (obj r) = eqb r o
names o null = false

-- what an entry with the value v weighs on the object o; ends keep their 64
abbrev pub dip : ℕ → Entry → Value → ℕ
dip o e v = cond (names o v) (dip_of e) 0

abbrev pub end : ℕ → Entry → Value → ℕ
end o e v = cond (names o v) (end_of e) no_end

-- what all slots weigh on it: E s is the entry of slot s, v s its value
abbrev pub dip_sum : ℕ → (ℕ → Entry) → (ℕ → Value) → ℕ
dip_sum o E v = sum_below 32 (λ s. dip o (E s) (v s))

abbrev pub end_sum : ℕ → (ℕ → Entry) → (ℕ → Value) → ℕ
end_sum o E v = sum_below 32 (λ s. end o (E s) (v s))

-- k o is the thread's count of the object o.
-- Each value is of its entry's kind; the dips on an object are covered by its count, and what is held is to be given back by the ends (2048 is 32 times their 64)
pub record Balanced (n : ℕ) (cls : ℕ → ℕ) (E : ℕ → Entry) (v : ℕ → Value) (k : ℕ → ℕ) : Type 0 where
  pub kinds : (s : ℕ) → s < 32 → Matches n cls (E s) (v s)
  pub dips : (o : ℕ) → o < 32 → dip_sum o E v ≤ k o
  pub ends : (o : ℕ) → o < 32 → k o + end_sum o E v ≤ 2048

-- a row's entry by slot, `Blank` where there is no such place
unfoldable pub slot_of : ℕ → Row → ℕ → Entry
slot_of vars x s =
    cond (ltb s 16) (cond (ltb s vars) (x.variable s) Blank)
    (cond (ltb (s - 16) x.depth) (x.stack (x.depth - (s - 16) - 1)) Blank)

-- a thread's value by slot
unfoldable pub value_in : List Slot → List Slot → ℕ → Value
value_in vars stack s = cond (ltb s 16) (get_or vars s zero_slot).value (get_or stack (s - 16) zero_slot).value

abbrev pub value_of : Thread → ℕ → Value
value_of t s = value_in t.vars t.stack s

pub record Sixteen (t : Thread) : Type 0 where
  pub vars : length t.vars ≡ 16
  pub stack : length t.stack ≡ 16

-- there are n objects, of the classes cls; the thread's counts are k
pub record Stands (vars n : ℕ) (cls k : ℕ → ℕ) (x : Row) (t : Thread) : Type 0 where
  pub sized : Sixteen t
  pub depth_exact : t.depth ≡ x.depth
  pub balanced : Balanced n cls (slot_of vars x) (value_of t) k
