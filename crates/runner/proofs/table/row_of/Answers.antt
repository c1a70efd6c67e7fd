use Rattle.bundle.specs.Program.{method_at}
use Rattle.runner.proofs.table.row_of.Goals as goal

pub returns : goal.returns
unfolding method_at
returns c =
    rw (
      c.first_word.ensures,
      c.first_word-2.ensures,
      c.first_word-3.ensures,
      c.first_word-4.ensures,
      c.record_at-m.ensures.bytes,
      c.record_at-m.ensures.numbers,
    )
