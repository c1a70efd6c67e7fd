-- Appendix A against the steps: Min and Fin are what the appendix says they are, and a usage is reliable exactly when both are 0.
use mathlib.Core.Path.{◌≡◌, refl, ap, subst}
use mathlib.Core.Bool.{Bool, true, false, ◌||◌, false≢true}
use native.Mathlib.Omega.{arith}
use lib.IntN.{ℤ, pos, ◌+ℤ◌, ◌-ℤ◌}
use lib.Signed.{◌≤ℤ◌}
use Rattle.ground.proofs.Bools.{or_right, and-fst, and-snd, and_both}
use Rattle.usages.specs.Usage.{Usage, done, lock, unlock, either, both}
use Rattle.usages.specs.Counts.{min_of, fin_of}
use Rattle.usages.specs.Agreement.{MinIsLeast, FinIsGreatest, ReliableAgrees, FinishedMeans, UnlocksNextMeans}
use Rattle.usages.specs.Steps.{Step, locks, unlocks, takes_left, takes_right, on_left, on_right, Reach, here, further, finished, unlocks_next, Reliable}
use Rattle.usages.proofs.Whole.{up, down, Le, up_le, le_up, up-eq, sum-up, one_more, one_less, zero-up, zero-down}
use Rattle.usages.proofs.Bounds.{not-below, not-above}
use Rattle.usages.proofs.Ways.{way_down, way_out}

from_zero : (a : ℤ) → pos 0 +ℤ a ≡ a
from_zero a = up-eq (pos 0 +ℤ a) a (omega (arith, sum-up (pos 0) a, zero-up, zero-down))

-- THEOREM
pub min-least : MinIsLeast
min-least u =
    record {
      reached = ((way_down u (pos 0)).0, subst (λ (j : ℤ). Reach u (pos 0) (way_down u (pos 0)).0 j) (from_zero (min_of u)) (way_down u (pos 0)).1);
      lowest = λ v m r. up_le (min_of u) m (rw (from_zero (min_of u)) at (not-below r));
    }

-- THEOREM
pub fin-greatest : FinIsGreatest
fin-greatest u =
    record {
      reached = ((way_out u (pos 0)).0, (way_out u (pos 0)).1, subst (λ (j : ℤ). Reach u (pos 0) (way_out u (pos 0)).0 j) (from_zero (fin_of u)) (way_out u (pos 0)).2);
      highest = λ v m r e. up_le m (fin_of u) (rw (from_zero (fin_of u)) at (not-above r e));
    }

-- ---- the tests
unlock-step : (u : Usage) (n : ℤ) → unlocks_next u ≡ true → (v : Usage) × Step u n v (n -ℤ pos 1)
unfolding unlocks_next
unlock-step done n e = absurd (false≢true e)
unlock-step (lock u) n e = absurd (false≢true e)
unlock-step (unlock u) n e = (u, unlocks)
unlock-step (either u v) n e = absurd (false≢true e)
unlock-step (both u v) n e = go (unlocks_next u) refl (λ p. unlock-step u n p) (λ p. unlock-step v n p)
  where
    go : (t : Bool) → unlocks_next u ≡ t → (unlocks_next u ≡ true → (w : Usage) × Step u n w (n -ℤ pos 1))
        → (unlocks_next v ≡ true → (w : Usage) × Step v n w (n -ℤ pos 1)) → (w : Usage) × Step (both u v) n w (n -ℤ pos 1)
    go true p l r = let x = l p in (both x.0 v, on_left x.1)
    go false p l r = let x = r (or_right (unlocks_next u) (unlocks_next v) e p) in (both u x.0, on_right x.1)

or_left : (a b : Bool) → a ≡ true → (a || b) ≡ true
or_left a b e = rw e

or-other : (a b : Bool) → b ≡ true → (a || b) ≡ true
or-other true b e = refl
or-other false b e = e

step-unlocks : {u v : Usage} {n m : ℤ} → Step u n v m → m ≡ n -ℤ pos 1 → unlocks_next u ≡ true
unfolding unlocks_next
step-unlocks (locks {u} {n}) e = absurd (omega (arith, one_more n, one_less n, ap up e, ap down e))
step-unlocks unlocks e = refl
step-unlocks (takes_left {u} {v} {n}) e = absurd (omega (arith, one_less n, ap up e, ap down e))
step-unlocks (takes_right {u} {v} {n}) e = absurd (omega (arith, one_less n, ap up e, ap down e))
step-unlocks (on_left {u} {v} s) e = or_left (unlocks_next u) (unlocks_next v) (step-unlocks s e)
step-unlocks (on_right {u} {v} s) e = or-other (unlocks_next u) (unlocks_next v) (step-unlocks s e)

-- THEOREM
pub unlocks-next-means : UnlocksNextMeans
unlocks-next-means u n = (unlock-step u n, λ s. step-unlocks s.1 refl)

finished-stops : {u v : Usage} {n m : ℤ} → finished u ≡ true → Step u n v m → ⊥
unfolding finished
finished-stops e locks = false≢true e
finished-stops e unlocks = false≢true e
finished-stops e takes_left = false≢true e
finished-stops e takes_right = false≢true e
finished-stops e (on_left {u} {v} s) = finished-stops (and-fst (finished u) (finished v) e) s
finished-stops e (on_right {u} {v} s) = finished-stops (and-snd (finished u) (finished v) e) s

stops-finished : (u : Usage) (n : ℤ) → ((v : Usage) (m : ℤ) → Step u n v m → ⊥) → finished u ≡ true
unfolding finished
stops-finished done n h = refl
stops-finished (lock u) n h = absurd (h u (n +ℤ pos 1) locks)
stops-finished (unlock u) n h = absurd (h u (n -ℤ pos 1) unlocks)
stops-finished (either u v) n h = absurd (h u n takes_left)
stops-finished (both u v) n h =
    and_both (finished u) (finished v)
    (stops-finished u n (λ w m s. h (both w v) m (on_left s)))
    (stops-finished v n (λ w m s. h (both u w) m (on_right s)))

-- THEOREM
pub finished-means : FinishedMeans
finished-means u n = (λ e v m s. finished-stops e s, stops-finished u n)

-- a step lowers the count only where an ^L can be done, and then by one
step_down : {u v : Usage} {n m : ℤ} → Step u n v m → (unlocks_next u ≡ true → pos 1 ≤ℤ n) → Le (pos 0) n → Le (pos 0) m
unfolding unlocks_next up down
step_down (locks {u} {n}) h l = omega (arith, one_more n)
step_down (unlocks {u} {n}) h l = omega (arith, le_up (pos 1) n (h refl), one_less n)
step_down takes_left h l = l
step_down takes_right h l = l
step_down (on_left {u} {v} s) h l = step_down s (λ p. h (or_left (unlocks_next u) (unlocks_next v) p)) l
step_down (on_right {u} {v} s) h l = step_down s (λ p. h (or-other (unlocks_next u) (unlocks_next v) p)) l

never-below : {u : Usage} → Reliable u → {v : Usage} {m : ℤ} → Reach u (pos 0) v m → Le (pos 0) m
never-below rel here = omega arith
never-below rel (further {v} {w} {m} {k} r s) = step_down s (λ e. rel.held v m r e) (never-below rel r)

-- ---- reliable
pub reliable-zero : (u : Usage) → Reliable u → (min_of u ≡ pos 0) × (fin_of u ≡ pos 0)
unfolding up down
reliable-zero u rel =
    let w = (min-least u).reached in
    let x = (fin-greatest u).reached in (
      up-eq (min_of u) (pos 0) (omega (arith, never-below rel w.1, le_up (min_of u) (pos 0) ((min-least u).lowest u (pos 0) here))),
      rel.ends_free x.0 (fin_of u) x.2 x.1,
    )

pub zero-reliable : (u : Usage) → min_of u ≡ pos 0 → fin_of u ≡ pos 0 → Reliable u
unfolding up down
zero-reliable u p q =
    record {
      ends_free = λ v m r e. up-eq m (pos 0) (omega (arith, low r, le_up m (pos 0) (rw q at ((fin-greatest u).highest v m r e))));
      held = λ v m r e.
          let s = unlock-step v m e in
          up_le (pos 1) m (omega (arith, low (further r s.1), one_less m));
    }
  where
    low : {v : Usage} {m : ℤ} → Reach u (pos 0) v m → Le (pos 0) m
    low {v} {m} r = le_up (pos 0) m (rw p at ((min-least u).lowest v m r))

-- THEOREM: Q-11, "This must agree with the paper's definition over steps"
pub reliable-agrees : ReliableAgrees
reliable-agrees u = (reliable-zero u, λ h. zero-reliable u h.0 h.1)
