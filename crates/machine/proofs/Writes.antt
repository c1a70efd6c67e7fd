-- What a read gives after a write, whatever the list's length: past the end nothing was written.
use mathlib.Core.Path.{◌≡◌}
use mathlib.Core.Logic.{◌≢◌}
use mathlib.Core.List.{List}
use Prim.Native.Nat.{ℕ, ◌+◌, ◌*◌, ◌<◌}
use lib.ListN.{length, get_or, set, get_or-eq_default}
use lib.Seq.{set_out, get_or-set_same, get_or-set_other}
use native.Mathlib.Decide.{ℕ_discrete, dec_lt}
use native.Mathlib.Omega.{arith}
use Rattle.values.specs.declared.Slot.{Slot}
use Rattle.values.specs.Values.{zero_slot}
use Rattle.state.specs.State.{field_of, fields_with}

module _ {A : Type 0} (Q : A → Type 0) (l : List A) (i j : ℕ) (x d : A) where
  -- what held at every place before the write holds after it
  pub write-or : Q (get_or l j d) → (j ≡ i → Q x) → Q (get_or (set l i x) j d)
  write-or old new = go (ℕ_discrete j i) (dec_lt i (length l))
    where
      go : Dec (j ≡ i) → Dec (i < length l) → Q (get_or (set l i x) j d)
      go (yes q) (yes k) = rw (q, get_or-set_same l i x d k) (new q)
      go (yes q) (no k) = rw (set_out l i x (omega arith)) old
      go (no q) k = rw (get_or-set_other l i j x d q) old

  -- what held at every other place, and of what is read past the end
  pub write-in : Q d → (j ≡ i → Q x) → (j ≢ i → Q (get_or l j d)) → Q (get_or (set l i x) j d)
  write-in past new other = go (ℕ_discrete j i) (dec_lt i (length l))
    where
      go : Dec (j ≡ i) → Dec (i < length l) → Q (get_or (set l i x) j d)
      go (yes q) (yes k) = rw (q, get_or-set_same l i x d k) (new q)
      go (yes q) (no k) = rw (q, set_out l i x (omega arith), get_or-eq_default l d {n = i} (omega arith)) past
      go (no q) k = rw (get_or-set_other l i j x d q) (other q)

-- a read of field f of object p, after object o's four field places were written
module _ (Q : Slot → Type 0) (l first : List Slot) (o p f : ℕ) (b : f < 4) where
  pub fields_in : Q zero_slot → (p ≡ o → Q (get_or first f zero_slot)) → (p ≢ o → Q (field_of l p f)) → Q (field_of (fields_with l o first) p f)
  unfolding fields_with
  fields_in past new other =
      write-in Q l3 (o * 4 + 3) (p * 4 + f) (x 3) zero_slot past (λ q. at 3 (omega arith) (omega arith))
      (λ q3. write-in Q l2 (o * 4 + 2) (p * 4 + f) (x 2) zero_slot past (λ q. at 2 (omega arith) (omega arith))
      (λ q2. write-in Q l1 (o * 4 + 1) (p * 4 + f) (x 1) zero_slot past (λ q. at 1 (omega arith) (omega arith))
      (λ q1. write-in Q l (o * 4) (p * 4 + f) (x 0) zero_slot past (λ q. at 0 (omega arith) (omega arith))
      (λ q0. other (λ q. omega arith)))))
    where
      x : ℕ → Slot
      x j = get_or first j zero_slot

      l1 : List Slot
      l1 = set l (o * 4) (x 0)

      l2 : List Slot
      l2 = set l1 (o * 4 + 1) (x 1)

      l3 : List Slot
      l3 = set l2 (o * 4 + 2) (x 2)

      at : (j : ℕ) → f ≡ j → p ≡ o → Q (x j)
      at j e q = rw (← e) (new q)
