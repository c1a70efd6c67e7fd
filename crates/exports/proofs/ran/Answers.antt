use Rattle.std.proofs.Common.{◌≡◌, length, arith}
use Rattle.exports.proofs.Turns.{running_none, running_more}
use Rattle.exports.specs.Exports.{scheduled}
use Rattle.exports.proofs.ran.Goals as goal

pub loop-x-init : goal.loop-x-init
loop-x-init c = (rw (running_none, ← c.begin-r.ensures.0), c.begin-r.ensures.1)

pub loop-x-preserved : goal.loop-x-preserved
loop-x-preserved c = (rw (running_more, ← c.loop-x.invariant.0) c.advance-r.ensures.0, c.advance-r.ensures.1)

pub returns : goal.returns
unfolding scheduled
returns c = let e : c.loop-x.x-index ≡ length c.args.schedule.now = omega arith in
    rw (← e, ← c.loop-x.invariant.0)
