use Rattle.std.proofs.Common.{rules}
use mathlib.Core.Path.{◌≡◌}
use lib.ListN.{length}
use native.Mathlib.Nat.{suc-mul}
use native.Mathlib.Numerals.{add-one}
use native.Mathlib.Omega.{arith}
use Rattle.state_written.proofs.Writing.{each_none, each_more}
use Rattle.state_written.proofs.laid.put_all.Goals as goal

pub loop-x-init : goal.loop-x-init
loop-x-init g c = (omega arith, λ d. each_none _ _ _)

pub loop-x-preserved : goal.loop-x-preserved
loop-x-preserved g c =
    let m = g.T.Laid in
    let at = c.loop-x.invariant.0 in (
      rw (add-one, suc-mul) (omega (arith, c.WIDTH-p.ensures, at)),
      λ d. rw (c.put.ensures, c.loop-x.invariant.1 d) (each_more m.laid m.WIDTH g.met.T.Laid.long c.args.l.now d c.loop-x.x-index _ _ _ _ c.loop-x-test.true (search rules) at),
    )

pub returns : goal.returns
returns g c d = let e : c.loop-x.x-index ≡ length c.args.l.now = omega arith in rw e at (c.loop-x.invariant.1 d)
