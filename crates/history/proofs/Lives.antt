-- Whether a thread is live after each change, and what an object more leaves as it was.
use mathlib.Core.Path.{◌≡◌, refl}
use mathlib.Core.Bool.{Bool, true, false, cond}
use mathlib.Core.List.{List}
use Prim.Native.Nat.{ℕ, ◌+◌, ◌<◌}
use lib.Dec.{ltb}
use lib.ListN.{set}
use native.Mathlib.Omega.{arith}
use native.Mathlib.Decide.{dec_lt}
use Rattle.ground.proofs.Bools.{never}
use Rattle.bundle.specs.Program.{Program}
use Rattle.values.specs.declared.Slot.{Slot}
use Rattle.threads.specs.declared.Thread.{Thread}
use Rattle.threads.specs.Threads.{with_stack, topped, pushed, popped, stored, ended, started}
use Rattle.state.specs.declared.State.{State}
use Rattle.state.specs.State.{count_of, with_object, lowest_free}
use Rattle.belongs.proofs.Belongs.{Belongs}
use Rattle.machine.proofs.Changes.{grown}
use Rattle.machine.proofs.Clean.{free-idle}

pub topped-live : (t : Thread) (x : Slot) → (topped t x).live ≡ t.live
unfolding topped
topped-live t x = refl

pub popped-live : (n : ℕ) (t : Thread) → (popped n t).live ≡ t.live
unfolding popped
popped-live n t = refl

pub stored-live : (t : Thread) (v : ℕ) (x : Slot) → (stored t v x).live ≡ t.live
unfolding stored
stored-live t v x = refl

pub pushed-live : (t : Thread) (x : Slot) → (pushed t x).live ≡ t.live
unfolding pushed
pushed-live t x = go (ltb t.depth 16)
  where
    go : (ok : Bool) → (cond ok (with_stack t (set t.stack t.depth x) (t.depth + 1)) t).live ≡ t.live
    go true = refl
    go false = refl

pub ended-live : (v : ℕ) (t : Thread) → (ended v t).live ≡ false
unfolding ended
ended-live v t = refl

pub started-live : (old t : Thread) (c n : ℕ) → (started old t c n).live ≡ true
unfolding started
started-live old t c n = refl

-- an object made changes no thread and no count
pub made : (s : State) (c : ℕ) (first : List Slot) → ((with_object s c first).threads ≡ s.threads) × ((with_object s c first).counts ≡ s.counts)
unfolding with_object
made s c first = go (ltb s.objects 32)
  where
    go : (ok : Bool) → ((cond ok (grown s c first) s).threads ≡ s.threads) × ((cond ok (grown s c first) s).counts ≡ s.counts)
    go true = (refl, refl)
    go false = (refl, refl)

-- a number that is free has no live thread, and so holds nothing
pub free-holds-nothing : (P : Program) (s : State) → Belongs P s → lowest_free s < 8 → (o : ℕ) → o < 32 → count_of s.counts (lowest_free s) o ≡ 0
free-holds-nothing P s g l o k = go (dec_lt 0 (count_of s.counts (lowest_free s) o))
  where
    go : Dec (0 < count_of s.counts (lowest_free s) o) → count_of s.counts (lowest_free s) o ≡ 0
    go (yes q) = never ((g.counted (lowest_free s) o l k).by_live q) (free-idle s l)
    go (no q) = omega arith
