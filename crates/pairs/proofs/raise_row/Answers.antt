use Rattle.std.proofs.lemmas.Result.{err_from_is_err_and}
use Rattle.passes.proofs.Raises.{row-goes-on, row_ends, row-over}
use Rattle.pairs.proofs.Rises.{either-rose, either-over, in_range}
use Rattle.pairs.proofs.raise_row.Goals as goal

pub returns-in_err-rose : goal.returns-in_err-rose
returns-in_err-rose c =
    let p = err_from_is_err_and c.from_residual.result c.from_residual.ensures.1 in
    rw p.1 (row-over _ _ _ c.in_use-m.result _ c.instruction_at-x.result (cc) (cc) _ _ _ (either-over _)
    (row-goes-on _ _ _ _ _ c.instruction_at-x.result (cc) (cc) _ _ _ _ _ c.loop-s-test.true (in_range c.loop-s.rose) c.loop-s.invariant c.in_err-rose.ensures))

pub loop-s-preserved : goal.loop-s-preserved
loop-s-preserved c =
    rw (either-rose c.loop-s.rose c.in_ok-rose.field-0)
    (row-goes-on _ _ _ _ _ c.instruction_at-x.result (cc) (cc) _ _ _ _ _ c.loop-s-test.true (in_range c.loop-s.rose) c.loop-s.invariant c.in_ok-rose.ensures)

pub returns : goal.returns
returns c = row_ends _ _ _ _ _ c.instruction_at-x.result (cc) (cc) _ _ _ c.loop-s-test.false c.loop-s.invariant
