use Rattle.std.proofs.Common.{rules}
use Rattle.laying.specs.Laid.{word, trailer_laid}
use Rattle.laying.proofs.Over.{lays-then}
use Rattle.laying.proofs.lay_trailer.Goals as goal

pub returns : goal.returns
unfolding word trailer_laid
returns c = lays-then _ _ (lays-then _ _ (lays-then _ _ c.lay_word-q.ensures (search rules) c.lay_all-r.ensures) (search rules) c.lay_word-s.ensures) c.requires.2 c.lay_all.ensures
