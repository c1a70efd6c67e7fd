use native.Mathlib.Omega.{arith}
use Rattle.std.proofs.lemmas.Result.{err_from_is_err_and}
use Rattle.passes.proofs.Marks.{look_none, look-risen}
use Rattle.pairs.proofs.look_at.Goals as goal

pub returns-in_err-rose : goal.returns-in_err-rose
returns-in_err-rose c = let p = err_from_is_err_and c.from_residual.result c.from_residual.ensures.1 in λ j. rw p.1 (look_none _ j _ _ _ _ _ _ _ (λ e. omega arith) (c.in_err-rose.ensures j))

pub returns-then-rose : goal.returns-then-rose
returns-then-rose c = λ j. rw c.if-rose.true (look-risen _ j _ _ _ _ _ _ _ (rw c.if-rose.true at (c.in_ok-rose.ensures j)) c.mark_readers.ensures)

pub returns-else-rose : goal.returns-else-rose
returns-else-rose c = λ j. rw c.if-rose.false (look_none _ j _ _ _ _ _ _ _ (λ e. omega arith) (rw c.if-rose.false at (c.in_ok-rose.ensures j)))
