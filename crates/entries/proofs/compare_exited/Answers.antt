use Rattle.entries.specs.Fits.{compare}
use Rattle.entries.proofs.Words.{word-dip, word_end}
use Rattle.entries.proofs.compare_exited.Goals as goal

pub returns-then-alike : goal.returns-then-alike
unfolding compare
returns-then-alike c =
    let same = c.alike.ensures c.if-alike.true in
    rw (
      same.2,
      ← word-dip _ _ same.0,
      ← word_end _ _ same.0,
      ← word-dip _ _ same.1,
      ← word_end _ _ same.1,
      ← c.dip_in.ensures,
      ← c.end_in.ensures,
      ← c.dip_in-then-alike.ensures,
      ← c.end_in-then-alike.ensures,
      ← c.saturating_sub.ensures,
    )
    c.compared.ensures
