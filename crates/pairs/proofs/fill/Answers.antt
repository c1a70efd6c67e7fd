use Rattle.std.proofs.lemmas.Result.{err_from_is_err_and}
use Rattle.pairs.proofs.Works.{answers-malformed, answers-shared, short, answers-none, answers-filled}
use Rattle.pairs.proofs.fill.Goals as goal

pub returns-in_err-n : goal.returns-in_err-n
returns-in_err-n c = let p = err_from_is_err_and c.from_residual.result c.from_residual.ensures.1 in rw (p.1, p.2) (answers-malformed _ _ c.in_err-n.ensures)

pub returns-then-not-all_apart : goal.returns-then-not-all_apart
returns-then-not-all_apart c = answers-shared _ _ c.in_ok-n.ensures _ c.all_apart.ensures c.if-not-all_apart.true

pub worked-requires : goal.worked-requires
worked-requires c = short _ _ c.in_ok-n.ensures

pub returns-then-not-worked : goal.returns-then-not-worked
returns-then-not-worked c = answers-none _ _ c.in_ok-n.ensures _ c.all_apart.ensures c.if-not-all_apart.false _ _ c.worked.ensures c.if-not-worked.true

pub returns : goal.returns
returns c = answers-filled _ _ c.in_ok-n.ensures _ c.all_apart.ensures c.if-not-all_apart.false _ _ c.worked.ensures c.if-not-worked.false
