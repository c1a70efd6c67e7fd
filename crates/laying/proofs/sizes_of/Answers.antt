use Rattle.std.proofs.Common.{rules}
use Rattle.laying.proofs.Sums.{sizes-none, sizes-more}
use Rattle.laying.proofs.sizes_of.Goals as goal

pub loop-c-init : goal.loop-c-init
loop-c-init c = record { sizes = sizes-none _ c.default-s.result c.default-s.ensures; under = search rules }

pub loop-c-preserved : goal.loop-c-preserved
loop-c-preserved c = record { sizes = sizes-more _ _ _ _ _ c.loop-c.invariant.sizes c.numbers_at.ensures c.more-s.ensures.0; under = search rules }
