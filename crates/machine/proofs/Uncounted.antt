-- A count that has no place changes nothing beside the thread.
use mathlib.Core.Path.{◌≡◌}
use Prim.Native.Nat.{ℕ, ◌+◌, ◌*◌, ◌≤◌}
use lib.ListN.{length}
use lib.Seq.{set_out}
use native.Mathlib.Omega.{arith}
use Rattle.threads.specs.declared.Thread.{Thread}
use Rattle.state.specs.declared.State.{State}
use Rattle.state.specs.State.{with_thread, with_count}
use Rattle.state.proofs.Words.{no_word}
use Rattle.turns.specs.Stepped.{Stepped}

pub uncounted : (s : State) (i : ℕ) (u : Thread) (n o m : ℕ) {y : Stepped} → length s.counts ≡ 256 → length s.held ≡ 8
    → record { answer = n; state = with_thread (with_count s i o m) i u } ≡ y → 256 ≤ i * 32 + o → record { answer = n; state = with_thread s i u } ≡ y
uncounted s i u n o m l w e past = rw (set_out s.counts (i * 32 + o) m (omega arith), no_word s.held i o m w past) at e
