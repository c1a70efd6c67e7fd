use mathlib.Core.Path.{sym, ◌∙◌}
use native.Mathlib.Omega.{arith}
use Rattle.laying.specs.Given.{given_of}
use Rattle.laying.proofs.Lengths.{measured}
use Rattle.laying.proofs.lay.Goals as goal

pub overflow_cast-parts : goal.overflow_cast-parts
overflow_cast-parts c = let m = measured (given_of c.args.parts.now) (sym c.lengths_ok.ensures ∙ c.if-not-lengths_ok.false) in omega (arith, m.most)

pub whole-w-requires : goal.whole-w-requires
whole-w-requires c = (measured (given_of c.args.parts.now) (sym c.lengths_ok.ensures ∙ c.if-not-lengths_ok.false)).most

pub lay_bundle-requires-clause-measured : goal.lay_bundle-requires-clause-measured
lay_bundle-requires-clause-measured c = measured (given_of c.args.parts.now) (sym c.lengths_ok.ensures ∙ c.if-not-lengths_ok.false)
