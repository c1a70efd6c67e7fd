use Rattle.runner.specs.Table.{first_word}
use Rattle.bundle.specs.Program.{method_of}
use borrow.Author.Tests.{lt-ltb, le-ltb, eq-eqb, ne_eqb}
use Rattle.runner.proofs.table.first_word.Goals.{else-j-m-via-then-j-m+else-field_at, else-j-m-via-else-j-m}
use Rattle.runner.proofs.table.first_word.Goals as goal

pub returns-then-field_at : goal.returns-then-field_at
unfolding first_word method_of
returns-then-field_at c = rw (lt-ltb _ _ c.if-j-m.true, ← c.field_at.ensures, ne_eqb _ _ c.if-field_at.true)

pub returns : goal.returns
unfolding first_word method_of
returns c =
    elim c.else-j-m.branch [
      | else-j-m-via-then-j-m+else-field_at w ↦ rw (lt-ltb _ _ w.if-j-m.true, ← w.field_at.ensures, eq-eqb _ _ w.if-field_at.false)
      | else-j-m-via-else-j-m w ↦ rw (le-ltb _ _ w.if-j-m.false)
    ]
