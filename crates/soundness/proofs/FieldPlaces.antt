-- Where fields stand: field f of object o has the place o * 4 + f, and no two fields share one. What a field weighs, and what a new object's fields hold.
use Prim.Native.Nat.{ℕ, ◌+◌, ◌*◌, ◌≤◌, ◌<◌}
use mathlib.Core.Path.{◌≡◌, refl, ◌∙◌}
use mathlib.Core.Logic.{◌≢◌}
use mathlib.Core.List.{List}
use mathlib.Core.Bool.{Bool, true, false, cond, not}
use native.Mathlib.Omega.{arith}
use native.Mathlib.Decide.{ℕ_discrete}
use lib.Dec.{eqb}
use lib.ListN.{length, get_or, set, length-set}
use lib.Seq.{get_or-set_same, get_or-set_other}
use borrow.Author.Tests.{lt-ltb}
use Rattle.bundle.specs.Program.{Method}
use Rattle.entries.specs.Entries.{Int, Nullable, no_end, dip_of, end_of, field_entry}
use Rattle.values.specs.declared.Slot.{Slot}
use Rattle.values.specs.Values.{zero_slot, null_slot}
use Rattle.state.specs.State.{field_of, fields_with}
use Rattle.turns.specs.Moves.{first_field, first_fields}
use Rattle.machine.proofs.Changes.{first-at}
use Rattle.soundness.specs.Balance.{Matches}

-- what a field holds weighs nothing
pub field-pair : (d : ℕ) → (dip_of (field_entry d) ≡ 0) × (end_of (field_entry d) ≡ no_end)
unfolding field_entry
field-pair d = go (eqb d 255)
  where
    go : (b : Bool) → (dip_of (cond b Int (Nullable d)) ≡ 0) × (end_of (cond b Int (Nullable d)) ≡ no_end)
    go true = (refl, refl)
    go false = (refl, refl)

-- ---- a read of place j after a write of place i
pub written : (Q : Slot → Type 0) (l : List Slot) (i j : ℕ) (x : Slot) → i < length l → (j ≡ i → Q x) → (j ≢ i → Q (get_or l j zero_slot)) → Q (get_or (set l i x) j zero_slot)
written Q l i j x h new other = go (ℕ_discrete j i)
  where
    go : Dec (j ≡ i) → Q (get_or (set l i x) j zero_slot)
    go (yes q) = rw (q, get_or-set_same l i x zero_slot h) (new q)
    go (no q) = rw (get_or-set_other l i j x zero_slot q) (other q)

-- ---- .. and after the four of object o were written
module _ (l : List Slot) (o : ℕ) (first : List Slot) where
  abbrev one : List Slot
  one = set l (o * 4) (get_or first 0 zero_slot)

  abbrev two : List Slot
  two = set one (o * 4 + 1) (get_or first 1 zero_slot)

  abbrev three : List Slot
  three = set two (o * 4 + 2) (get_or first 2 zero_slot)

  one-length : length one ≡ length l
  one-length = length-set l (o * 4) (get_or first 0 zero_slot)

  two-length : length two ≡ length l
  two-length = length-set one (o * 4 + 1) (get_or first 1 zero_slot) ∙ one-length

  three-length : length three ≡ length l
  three-length = length-set two (o * 4 + 2) (get_or first 2 zero_slot) ∙ two-length

  pub fields-length : length (fields_with l o first) ≡ length l
  unfolding fields_with
  fields-length = length-set three (o * 4 + 3) (get_or first 3 zero_slot) ∙ three-length

  pub fields-written : (Q : Slot → Type 0) (p f : ℕ) → o * 4 + 4 ≤ length l → f < 4 → (p ≡ o → Q (get_or first f zero_slot)) → (p ≢ o → Q (field_of l p f))
      → Q (field_of (fields_with l o first) p f)
  unfolding fields_with
  fields-written Q p f h lf new other =
      written Q three (o * 4 + 3) (p * 4 + f) (get_or first 3 zero_slot) (omega (arith, three-length)) (λ q. at 3 (omega arith) (omega arith))
      (λ a. written Q two (o * 4 + 2) (p * 4 + f) (get_or first 2 zero_slot) (omega (arith, two-length)) (λ q. at 2 (omega arith) (omega arith))
      (λ b. written Q one (o * 4 + 1) (p * 4 + f) (get_or first 1 zero_slot) (omega (arith, one-length)) (λ q. at 1 (omega arith) (omega arith))
      (λ c. written Q l (o * 4) (p * 4 + f) (get_or first 0 zero_slot) (omega arith) (λ q. at 0 (omega arith) (omega arith))
      (λ d. other (λ q. omega arith)))))
    where
      at : (j : ℕ) → f ≡ j → p ≡ o → Q (get_or first j zero_slot)
      at j e q = rw (← e) (new q)

-- ---- each field of a new object holds what its descriptor allows: integer 0 or null
first_kind : (n : ℕ) (cls : ℕ → ℕ) (m : Method) (f : ℕ) → f < m.fields → Matches n cls (field_entry (m.field f)) (first_field m f).value
unfolding field_entry
first_kind n cls m f l = rw (lt-ltb f m.fields l) (go (eqb (m.field f) 255))
  where
    go : (b : Bool) → Matches n cls (cond b Int (Nullable (m.field f))) (cond (not b) null_slot zero_slot).value
    go true = tt
    go false = tt

pub made-kind : (n : ℕ) (cls : ℕ → ℕ) (m : Method) (f : ℕ) → m.fields ≤ 4 → f < m.fields → Matches n cls (field_entry (m.field f)) (get_or (first_fields m) f zero_slot).value
made-kind n cls m f four lf = rw (first-at m f (omega arith)) (first_kind n cls m f lf)
