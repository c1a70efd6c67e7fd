use Rattle.runner.proofs.Known.{rests}
use native.Mathlib.Omega.{arith}
use mathlib.Core.Path.{sym, ◌∙◌}
use Rattle.runner.proofs.turn.turn.Goals as goal

pub returns-then-not-live : goal.returns-then-not-live
returns-then-not-live c = rests _ _ _ c.requires _ (omega arith) _ (sym c.live.ensures ∙ c.if-not-live.true)
