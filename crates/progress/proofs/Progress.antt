-- THEOREM, document 02, Q-10: progress; and why a run stands still.
use Prim.Native.Nat.{ℕ, zero, suc, ◌<◌, ◌≤◌}
use mathlib.Core.Path.{◌≡◌, refl, ap}
use mathlib.Core.Logic.{◌≢◌, ◌⊎◌, inl, inr}
use mathlib.Core.List.{List, [], ◌∷◌}
use mathlib.Core.Bool.{Bool, true, false}
use native.Mathlib.Omega.{arith}
use native.Mathlib.Decide.{dec_lt, ℕ_discrete}
use lib.ListN.{length, get_or}
use Rattle.ground.proofs.Bools.{never}
use Rattle.rows.specs.Typed.{typed_of}
use Rattle.verifier.specs.Verdict.{verdict_of}
use Rattle.order.specs.Order.{level_of, OrderHolds}
use Rattle.order.specs.Verdict.{ordered_verdict_of}
use Rattle.order.proofs.Accepts.{accepts-exactly}
use Rattle.values.specs.Values.{slot, object_of}
use Rattle.threads.specs.declared.Thread.{Thread}
use Rattle.threads.specs.Threads.{idle}
use Rattle.state.specs.declared.State.{State}
use Rattle.state.specs.State.{thread_at, class_of}
use Rattle.machine.specs.Runs.{Step, answer, reached}
use Rattle.soundness.specs.Sound.{held_by, next}
use Rattle.soundness.proofs.Verified.{accepted}
use Rattle.soundness.specs.Invariant.{Inv}
use Rattle.soundness.proofs.Demand3.{inv-reached}
use Rattle.progress.specs.Progress.{Lives, Goes, Progress}
use Rattle.progress.specs.Waiting.{Waits, WaitsFor, HeldUp, Chain, WaitingHeld, LevelsFall, NeverEachOther, NoCircle}
use Rattle.progress.proofs.Waits.{Waiting, answers-3, enters-3}
use Rattle.progress.proofs.Chain.{wanted, wanted-is, wanted-32, found, holds-higher, some-free}

-- past the end a read gives the default
read_past : {A : Type 0} (l : List A) (i : ℕ) (d : A) → length l ≤ i → get_or l i d ≡ d
read_past [] i d h = refl
read_past (x ∷ l) zero d h = absurd (omega arith)
read_past (x ∷ l) (suc i) d h = read_past l i d (omega arith)

module _ (b : List ℕ) (e : (verdict_of b).number ≡ 0) (s : State) (inv : Inv (typed_of b) s) where
  -- there are eight threads
  lives-8 : (t : ℕ) → Lives s t → t < 8
  lives-8 t lv = go (dec_lt t 8)
    where
      go : Dec (t < 8) → t < 8
      go (yes h) = h
      go (no h) = never lv (ap (λ (x : Thread). x.live) (read_past s.threads t idle (omega (arith, inv.whole.threads_8))))

  -- a live thread goes, or waits
  decide : (t : ℕ) → t < 8 → Lives s t → Goes b s t ⊎ Waiting s t (thread_at s t) (next b s t)
  decide t lt lv = go (ℕ_discrete (at false) 3) (ℕ_discrete (at true) 3)
    where
      at : Bool → ℕ
      at fails = answer b s (record { who = t; fails = fails })

      goes : at false ≢ 3 → at true ≢ 3 → Goes b s t
      goes f g false = f
      goes f g true = g

      go : Dec (at false ≡ 3) → Dec (at true ≡ 3) → Goes b s t ⊎ Waiting s t (thread_at s t) (next b s t)
      go (yes q) d = inr (answers-3 b e s inv t lt lv false q)
      go (no f) (yes q) = inr (answers-3 b e s inv t lt lv true q)
      go (no f) (no g) = inl (goes f g)

  -- a thread that waits, waits for an object that another holds
  waits-held : (t : ℕ) → Waits b s t → (o : ℕ) × WaitsFor b s t o × HeldUp s t o
  waits-held t w =
      let lt = lives-8 t w.lives in
      let x = answers-3 b e s inv t lt w.lives w.fails w.answers in
      let o = wanted (typed_of b) (accepted b e) s inv t lt w.lives x in
      let h = found (typed_of b) (accepted b e) s inv t o (wanted-32 (typed_of b) (accepted b e) s inv t lt w.lives x) x.held in (
        o,
        record {
          waits = w;
          variable = x.variable;
          handler = x.handler;
          enters = x.enters;
          refers = ap slot (wanted-is (typed_of b) (accepted b e) s inv t lt w.lives x).2;
        },
        record { holder = h.who; other = h.other; lives = h.lives; holds = h.holds },
      )

  -- what it waits for is what it wants
  module _ (t o : ℕ) (w : WaitsFor b s t o) where
    abbrev number : t < 8
    number = lives-8 t w.waits.lives

    waiting-for : Waiting s t (thread_at s t) (next b s t)
    waiting-for =
        let z = enters-3 b e s inv t number w.waits.lives w.waits.fails w.waits.answers w.variable w.handler w.enters in
        record { variable = w.variable; handler = w.handler; enters = w.enters; not_null = z.0; held = z.1 }

    wanted-for : wanted (typed_of b) (accepted b e) s inv t number w.waits.lives waiting-for ≡ o
    unfolding waiting-for
    wanted-for = ap object_of w.refers

  falls : (levels : List ℕ) → OrderHolds levels (typed_of b) → (t u o p : ℕ) → WaitsFor b s t o → 0 < held_by s u o → WaitsFor b s u p
      → level_of levels (class_of s p) < level_of levels (class_of s o)
  falls levels f t u o p w h z =
      let lo = wanted-32 (typed_of b) (accepted b e) s inv t (number t o w) w.waits.lives (waiting-for t o w) in
      rw (wanted-for u p z)
      at (holds-higher (typed_of b) (accepted b e) s inv levels f u (number u p z) z.waits.lives (waiting-for u p z) o (rw (wanted-for t o w) at lo) h)

-- THEOREM: a waiting thread waits for an object that another live thread holds
pub waiting-held : WaitingHeld
waiting-held b e xs t w = waits-held b e (reached b xs) (inv-reached b e xs) t w

-- THEOREM: while a thread lives, some live thread's next step answers something other than 3
pub progress : Progress
progress b levels e xs t lv =
    let f = (accepts-exactly b levels).0 e in
    let inv = inv-reached b f.verified xs in
    let x = some-free (typed_of b) (accepted b f.verified) (reached b xs) inv levels f.ordered (Goes b (reached b xs))
    (decide b f.verified (reached b xs) inv) t (lives-8 b f.verified (reached b xs) inv t lv) lv in
    (x.0, lives-8 b f.verified (reached b xs) inv x.0 x.1, x.1, x.2)

-- THEOREM: levels strictly fall along the chain of threads that wait
pub levels-fall : LevelsFall
levels-fall b levels e xs t u o p w h z =
    let f = (accepts-exactly b levels).0 e in
    falls b f.verified (reached b xs) (inv-reached b f.verified xs) levels f.ordered t u o p w h z

-- THEOREM: two threads never wait for each other
pub never-each-other : NeverEachOther
never-each-other b levels e xs t u o p w h z k = omega (arith, levels-fall b levels e xs t u o p w h z, levels-fall b levels e xs u t p o z k w)

-- levels strictly fall along a chain, from its first object to the one that its last thread waits for
levels-fall-along : (b levels : List ℕ) → (ordered_verdict_of b levels).number ≡ 0 → (xs : List Step)
    → (l : List (ℕ × ℕ)) (t u o v p : ℕ) → Chain b (reached b xs) t u ((o, v) ∷ l) → WaitsFor b (reached b xs) u p
    → level_of levels (class_of (reached b xs) p) < level_of levels (class_of (reached b xs) o)
levels-fall-along b levels e xs [] t u o v p c z = levels-fall b levels e xs t u o p c.0 (rw c.2 at c.1) z
levels-fall-along b levels e xs ((q, x) ∷ l) t u o v p c z =
    omega (arith, levels-fall b levels e xs t v o q c.0 c.1 c.2.0, levels-fall-along b levels e xs l v u q x p c.2 z)

-- THEOREM: no chain of threads that wait comes back to its start
pub no-circle : NoCircle
no-circle b levels e xs t (o, v) l c = omega (arith, levels-fall-along b levels e xs l t t o v o c c.0)
