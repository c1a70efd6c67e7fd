-- The row that begins at 0, and the row of single bytes, as the format writes them.
use mathlib.Core.List.{List}
use mathlib.Core.Path.{◌≡◌, refl, ap}
use Prim.Native.Nat.{ℕ, zero, suc, ◌+◌, ◌*◌}
use native.Mathlib.Nat.{zero-add, mul-one}
use Rattle.ground.specs.Bytes.{at}
use Rattle.ground.specs.Bounded.{set_below}
use Rattle.threads.specs.declared.Thread.{Thread}
use Rattle.state_bytes.specs.Format.{thread_of, threads_at, class_at}

set_alike : {A : Type 0} (f h : ℕ → A) (l : List A) → ((i : ℕ) → f i ≡ h i) → (n : ℕ) → set_below n f l ≡ set_below n h l
unfolding set_below
set_alike f h l e zero = refl
set_alike f h l e (suc n) = rw (e n, set_alike f h l e n)

module _ (g : List ℕ) where
  pub threads-alike : (l : List Thread) → set_below 8 (λ i. thread_of g (0 + i * 165)) l ≡ set_below 8 (threads_at g) l
  threads-alike l = set_alike _ (threads_at g) l (λ i. ap (thread_of g) (zero-add (i * 165))) 8

  pub classes-alike : (l : List ℕ) → set_below 32 (λ i. at g (1833 + i * 1)) l ≡ set_below 32 (class_at g) l
  classes-alike l = set_alike _ (class_at g) l (λ i. ap (λ (k : ℕ). at g (1833 + k)) (mul-one i)) 32
