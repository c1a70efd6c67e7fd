use Rattle.order.proofs.Order.{no_enter, is-enter}
use mathlib.Core.Path.{sym}
use Rattle.order.proofs.order_of.Goals as goal

pub returns-then-x-ne7 : goal.returns-then-x-ne7
returns-then-x-ne7 c = sym (no_enter _ _ _ _ _ _ c.if-x-ne7.true)

pub returns : goal.returns
returns c = rw (is-enter _ _ _ _ _ _ c.if-x-ne7.false, ← c.row_start.ensures) c.enter_order.ensures
