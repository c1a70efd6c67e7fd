-- A live thread of the invariant goes on: what a step of it may use, and what is enough for a good step.
use Prim.Native.Nat.{ℕ, ◌+◌, ◌≤◌, ◌<◌}
use mathlib.Core.Path.{◌≡◌}
use mathlib.Core.Bool.{true}
use native.Mathlib.Omega.{arith}
use Rattle.bundle.specs.Program.{Address}
use Rattle.rows.specs.Rows.{Row}
use Rattle.rows.specs.Typed.{Typed}
use Rattle.threads.specs.declared.Thread.{Thread}
use Rattle.threads.specs.Threads.{with_at}
use Rattle.state.specs.declared.State.{State}
use Rattle.state.specs.State.{thread_at, count_of, class_of}
use Rattle.turns.specs.Moves.{went_to}
use Rattle.matching.specs.Matching.{wants, edge}
use Rattle.soundness.specs.Balance.{Stands}
use Rattle.soundness.specs.Invariant.{Live, Inv}
use Rattle.rules.proofs.Held.{Fits}
use Rattle.soundness.proofs.Accepted.{Accepted}
use Rattle.soundness.proofs.Stands.{fit-stands}
use Rattle.soundness.proofs.Invariant.{vars_16, limit_16, depth_limit}
use Rattle.soundness.proofs.Moves.{Good, went-as}

-- a thread that stands at the row of an address, and goes there, is live
pub arrives : (P : Typed) (n : ℕ) (cls k : ℕ → ℕ) (u : Thread) (c m : ℕ) → u.live ≡ true → u.class ≡ c → Address P.program c m
    → Stands (P.program.method c).vars n cls k (P.row c m) u → Live P n cls k (with_at u m)
arrives P n cls k u c m a q ad h =
    record {
      alive = a;
      address = rw q ad;
      stands = rw q (record { sized = record { vars = h.sized.vars; stack = h.sized.stack }; depth_exact = h.depth_exact; balanced = h.balanced });
    }

module _ (P : Typed) (A : Accepted P) (s : State) (inv : Inv P s) (i : ℕ) (li : i < 8) (lv : (thread_at s i).live ≡ true) where
  abbrev pub T : Thread
  T = thread_at s i

  abbrev pub C : ℕ
  C = (thread_at s i).class

  abbrev pub vars : ℕ
  vars = (P.program.method (thread_at s i).class).vars

  abbrev pub limit : ℕ
  limit = (P.program.method (thread_at s i).class).limit

  abbrev pub here : Row
  here = P.row (thread_at s i).class (thread_at s i).at.0

  abbrev pub next : Row
  next = P.row (thread_at s i).class ((thread_at s i).at.0 + 1)

  abbrev pub Next : Type 0
  Next = Address P.program (thread_at s i).class ((thread_at s i).at.0 + 1)

  abbrev pub cls : ℕ → ℕ
  cls = class_of s

  abbrev pub cnt : ℕ → ℕ
  cnt = count_of s.counts i

  pub H : Live P s.objects cls cnt T
  H = (inv.thread i li).live lv

  pub v16 : vars ≤ 16
  v16 = vars_16 P A s.objects cls cnt T H

  pub d16 : T.depth ≤ 16
  d16 = omega (arith, depth_limit P A s.objects cls cnt T H, limit_16 P A s.objects cls cnt T H)

  pub at_here : Stands vars s.objects cls cnt here T
  at_here = H.stands

  -- there is room for a push that fits
  pub has_room : (m : ℕ) → Address P.program C m → T.depth + 1 ≤ (P.row C m).depth → T.depth < limit
  has_room m a l = omega (arith, A.depth_limit C m a)

  -- the thread goes on as u, which stands at x, along an edge that fits
  pub goes_to : (u : Thread) (x : Row) (m : ℕ) → Address P.program C m → u.live ≡ true → u.class ≡ C
      → Stands vars s.objects cls cnt x u → Fits vars (edge x (wants (P.row C m))) → Good P s i (went_to s i u m)
  goes_to u x m ad a q h f =
      went-as P s i (with_at u m) li inv (arrives P s.objects cls cnt u C m a q ad (fit-stands vars v16 s.objects cls cnt x (P.row C m) u f h))
