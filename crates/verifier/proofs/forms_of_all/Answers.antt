use native.Mathlib.Omega.{arith}
use Rattle.verdicts.proofs.Numbers.{loop-err}
use Rattle.verifier.specs.Places.{form_places}
use Rattle.verifier.specs.Loops.{searched}
use Rattle.verifier.proofs.FirstBroken.{by-class}
use Rattle.verifier.proofs.forms_of_all.Goals as goal

pub returns-in_err-forms_of_class : goal.returns-in_err-forms_of_class
returns-in_err-forms_of_class c = grind (arith, by-class, loop-err (λ d. searched c.args.b.now (form_places c.args.b.now d)))
