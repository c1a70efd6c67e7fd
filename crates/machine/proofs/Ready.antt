-- What `run` may assume, and what a step is, from the tests that `step` makes before it.
use mathlib.Core.Path.{◌≡◌, refl, sym, ◌∙◌}
use mathlib.Core.Bool.{Bool, true, false, not, ◌&&◌}
use mathlib.Core.List.{List}
use Prim.Native.Nat.{ℕ, ◌<◌}
use lib.Dec.{ltb}
use lib.ListN.{length, get_or}
use native.Mathlib.Omega.{arith}
use borrow.Author.Tests.{eqb-true, lt-ltb, not-true}
use Rattle.std.specs.Prelude.{Result, Ok, Err}
use Rattle.std.specs.Result.{is_err}
use Rattle.ground.specs.Chain.{refuse}
use Rattle.ground.proofs.Chain.{went_on_lem}
use Rattle.ground.proofs.Writes.{read-any}
use Rattle.bundle.specs.Program.{program_of}
use Rattle.verdicts.specs.declared.Refusal.{Refusal}
use Rattle.verdicts.specs.Numbers.{judgement}
use Rattle.verdicts.proofs.Numbers as numbers
use Rattle.structure.specs.Structure.{structure_of}
use Rattle.structure.proofs.Structured.{WellFormed, well-formed}
use Rattle.threads.specs.declared.Thread.{Thread}
use Rattle.threads.specs.Threads.{idle}
use Rattle.state.specs.declared.State.{State}
use Rattle.state.specs.State.{thread_at}
use Rattle.belongs.specs.Belongs.{state_ok}
use Rattle.belongs.proofs.Belongs.{Placed, belongs-elim}
use Rattle.turns.specs.Stepped.{Stepped}
use Rattle.turns.specs.Answers.{unless}
use Rattle.turns.specs.Exec.{run_of, turn_of}
use Rattle.machine.specs.Machine.{readable, step_of}

-- a bundle can be read where its structure is no refusal
pub read : (b : List ℕ) (r : Result ℕ Refusal) {w : Bool} → judgement r ≡ structure_of b → w ≡ is_err r → readable b ≡ not w
read b (Ok n) e f = rw (f, ← e)
read b (Err x) e f = rw (f, ← e) (not-true _ (numbers.refused x))

pub formed : (b : List ℕ) → readable b ≡ true → WellFormed (program_of b)
formed b e = well-formed b (eqb-true (structure_of b).number 0 e)

-- a live thread of a state of the bundle has a next address
pub ready : (b : List ℕ) (s : State) (i : ℕ) → readable b ≡ true → state_ok (program_of b) s ≡ true → i < 8 → (thread_at s i).live ≡ true
    → (thread_at s i).at.0 < 65535
ready b s i e f l a =
    let p : Placed (program_of b) s.objects (thread_at s i) = (belongs-elim (program_of b) s f).live_placed i l a in
    omega (arith, (formed b e).code_256 (thread_at s i).class p.class_known)

-- a test that holds of every live thread can be left out
live-first : (live next : Bool) (s : State) (x : Stepped) → (live ≡ true → next ≡ true) → unless live 5 s (unless next 17 s x) ≡ unless live 5 s x
unfolding refuse
live-first true next s x h = rw (h refl)
live-first false next s x h = refl

-- What `run` may assume, d being what a read past the last thread would give.
module _ (b : List ℕ) (s : State) (i : ℕ) (d : Thread) (n : length s.threads ≡ 8)
    (p : (i < 8) × (readable b ≡ true) × (state_ok (program_of b) s ≡ true)) where
  thread-read : thread_at s i ≡ get_or s.threads i d
  thread-read = read-any s.threads i idle d (omega (arith, p.0))

  -- the turn of a thread that is live has a next address
  next_fits : (get_or s.threads i d).live ≡ true → ltb (get_or s.threads i d).at.0 65535 ≡ true
  next_fits a = lt-ltb _ _ (rw thread-read at (ready b s i p.1 p.2 p.0 (rw thread-read a)))

  pub runs : (fails : Bool) {y : Stepped} → y ≡ turn_of (program_of b) s i (get_or s.threads i d) fails → y ≡ step_of b s i fails
  unfolding step_of
  runs fails e =
      let known : unless (ltb i 8 && (thread_at s i).live) 5 s (run_of (program_of b) s i (thread_at s i) fails)
      ≡ unless (get_or s.threads i d).live 5 s (run_of (program_of b) s i (get_or s.threads i d) fails)
      = rw (lt-ltb _ _ p.0, thread-read) in
      e ∙ live-first _ _ _ _ next_fits ∙ sym (went_on_lem _ _ p.1 ∙ went_on_lem _ _ p.2 ∙ known)
