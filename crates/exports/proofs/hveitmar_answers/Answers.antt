use mathlib.Core.Path.{◌≡◌}
use lib.ListN.{length}
use native.Mathlib.Omega.{arith}
use Rattle.exports.proofs.Turns.{running_none, running_more}
use Rattle.exports.specs.Exports.{running, answers_of}
use Rattle.exports.proofs.hveitmar_answers.Goals as goal

pub loop-i-init : goal.loop-i-init
loop-i-init c = (rw (running_none, ← c.begin-r.ensures.0), c.begin-r.ensures.1)

pub loop-i-preserved : goal.loop-i-preserved
loop-i-preserved c = (rw (running_more, ← c.loop-i.invariant.0, ← c.byte.ensures) c.advance-r.ensures.0, c.advance-r.ensures.1)

pub returns : goal.returns
unfolding answers_of running
returns c = let e : c.loop-i.i ≡ length c.args.threads.now = omega arith in
    rw (← e, ← c.loop-i.invariant.0)
