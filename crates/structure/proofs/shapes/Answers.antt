use native.Mathlib.Omega.{arith}
use Rattle.verdicts.proofs.Numbers.{loop-err}
use Rattle.structure.specs.Places.{shape_places}
use Rattle.structure.specs.Structure.{searched}
use Rattle.structure.proofs.FirstBroken.{by-class}
use Rattle.structure.proofs.shapes.Goals as goal

pub returns-in_err-shape_at : goal.returns-in_err-shape_at
returns-in_err-shape_at c = grind (arith, by-class, loop-err (λ d. searched c.args.b.now (shape_places d)))
