use mathlib.Core.Path.{ap}
use Rattle.laying.specs.declared.Sizes.{Sizes}
use Rattle.laying.specs.Laid.{word, head_laid}
use Rattle.laying.proofs.Over.{lays-then}
use Rattle.laying.proofs.lay_head.Goals as goal

pub returns : goal.returns
unfolding word head_laid
returns c = rw (ap (λ (s : Sizes). s.records) c.sizes_of.ensures.0) at (lays-then _ _ c.lay_word-q.ensures c.requires.3 c.lay_all.ensures)
