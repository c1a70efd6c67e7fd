use mathlib.Core.Path.{refl}
use Rattle.std.proofs.lemmas.Result.{err_from_is_err_and}
use Rattle.passes.proofs.Marks.{all-go-on, all-over, all_end}
use Rattle.pairs.proofs.settle.Goals as goal

pub returns-in_err-settle_class : goal.returns-in_err-settle_class
returns-in_err-settle_class c =
    let p = err_from_is_err_and c.from_residual.result c.from_residual.ensures.1 in
    rw p.1 (all-over _ _ c.classes-n.ensures _ _ _ _ c.loop-c-test.true c.loop-c.invariant c.in_err-settle_class.ensures refl)

pub loop-c-preserved : goal.loop-c-preserved
loop-c-preserved c = all-go-on _ _ c.classes-n.ensures _ _ _ _ c.loop-c-test.true c.loop-c.invariant c.in_ok-settle_class.ensures refl

pub returns : goal.returns
returns c = all_end _ _ c.classes-n.ensures _ _ c.loop-c-test.false c.loop-c.invariant
