use mathlib.Core.Path.{◌≡◌}
use Prim.Native.Nat.{◌<◌}
use borrow.Author.Tests.{lt-ltb}
use Rattle.ground.specs.Chain.{refuse}
use Rattle.state.specs.State.{lowest_free}
use Rattle.turns.specs.Answers.{unless_drawn}
use Rattle.machine.proofs.begun.Goals as goal

pub returns-in_default : goal.returns-in_default
unfolding unless_drawn refuse
returns-in_default c = λ q. let e : 8 ≡ lowest_free c.args.s = rw c.in_default.is at q in rw (← e)

pub returns : goal.returns
unfolding unless_drawn refuse
returns c = λ q.
    let e : (c.in-Some.j < 8) × (c.in-Some.j ≡ lowest_free c.args.s) = rw c.in-Some.is at q in
    rw (c.put_thread.ensures, c.put_thread-next.ensures, c.start-begins.ensures, c.thread.ensures, e.1, rw e.1 at (lt-ltb _ _ e.0))
