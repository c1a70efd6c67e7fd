-- 1 to 8, pair bytes aside, and bytes in common, by computation.
use mathlib.Core.Path.{refl}
use Rattle.shape.specs.Shape.{aside, entry_aside, variable_aside, stack_aside, shape_verdict}
use Rattle.shape.specs.Apart.{apart, apart_from, lower_apart, directory_apart, class_apart, all_apart}
use Rattle.examples.specs.Shapes.{ShapedHold}
use Rattle.examples.proofs.Answered.{answered}

pub shaped-hold : ShapedHold
unfolding answered aside entry_aside variable_aside stack_aside shape_verdict apart apart_from lower_apart directory_apart class_apart all_apart
shaped-hold = refl
