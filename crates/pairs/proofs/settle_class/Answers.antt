use mathlib.Core.Path.{refl}
use native.Mathlib.Omega.{arith}
use Rattle.std.proofs.lemmas.Result.{err_from_is_err_and}
use Rattle.passes.proofs.Marks.{class-begins, class-goes-on, class-falls, class-over, class-ends, class-long}
use Rattle.pairs.proofs.Rises.{in_range}
use Rattle.pairs.proofs.settle_class.Goals as goal

pub returns-then-code-gt256 : goal.returns-then-code-gt256
returns-then-code-gt256 c = class-long _ _ _ _ c.class_at.ensures c.if-code-gt256.true

pub loop-l-init : goal.loop-l-init
loop-l-init c = (class-begins _ _ _ _ c.class_at.ensures (omega (arith, c.if-code-gt256.false)) _ (rw (c.record.ensures.numbers, c.record.ensures.bytes) at c.goals-g.ensures) _ refl, omega arith)

pub returns-in_err-rose : goal.returns-in_err-rose
returns-in_err-rose c =
    let p = err_from_is_err_and c.from_residual.result c.from_residual.ensures.1 in
    rw p.1 (class-over _ _ _ _ c.class_at.ensures (omega (arith, c.if-code-gt256.false)) _ (rw (c.record.ensures.numbers, c.record.ensures.bytes) at c.goals-g.ensures) _ (omega (arith, c.in-Some.ensures.0)) c.in-Some.ensures.1 _ _ _ _ _ c.loop-l.invariant.0 (c.in_err-rose.ensures c.args.c) refl)

pub loop-l-smaller : goal.loop-l-smaller
loop-l-smaller c = class-falls _ _ _ _ c.class_at.ensures (omega (arith, c.if-code-gt256.false)) _ (rw (c.record.ensures.numbers, c.record.ensures.bytes) at c.goals-g.ensures) _ (omega (arith, c.in-Some.ensures.0)) c.in-Some.ensures.1 _ _ _ _ _ c.loop-l.invariant.0 (c.in_ok-rose.ensures c.args.c) (in_range c.in_ok-rose.rose) c.in-Some.ensures.2

pub loop-l-preserved : goal.loop-l-preserved
loop-l-preserved c = (class-goes-on _ _ _ _ c.class_at.ensures (omega (arith, c.if-code-gt256.false)) _ (rw (c.record.ensures.numbers, c.record.ensures.bytes) at c.goals-g.ensures) _ (omega (arith, c.in-Some.ensures.0)) c.in-Some.ensures.1 _ _ _ _ _ c.loop-l.invariant.0 (c.in_ok-rose.ensures c.args.c) (in_range c.in_ok-rose.rose), c.from-start.ensures)

pub returns : goal.returns
returns c = class-ends _ _ _ _ c.class_at.ensures (omega (arith, c.if-code-gt256.false)) _ (rw (c.record.ensures.numbers, c.record.ensures.bytes) at c.goals-g.ensures) _ _ c.loop-l.invariant.0 c.in_default.ensures
