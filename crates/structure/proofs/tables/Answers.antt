use native.Mathlib.Omega.{arith}
use Rattle.verdicts.proofs.Numbers.{loop-err}
use Rattle.structure.specs.Places.{table_places}
use Rattle.structure.specs.Structure.{searched}
use Rattle.structure.proofs.FirstBroken.{by-class}
use Rattle.structure.proofs.tables.Goals as goal

pub returns-in_err-table_of_class : goal.returns-in_err-table_of_class
returns-in_err-table_of_class c = grind (arith, by-class, loop-err (λ d. searched c.args.b.now (table_places c.args.b.now d)))
