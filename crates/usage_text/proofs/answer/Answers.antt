use Rattle.std.proofs.Common.{◌≡◌, w32, to_z, of_z, arith, rules}
use Rattle.std.proofs.lemmas.Int.{ints, to_z-of_z}
use Rattle.usage_text.proofs.Answers.{wide-dip, wide-rise, in-range}
use Rattle.usage_text.proofs.answer.Goals.{then-w-gt63-via-then-w-gt63, then-w-gt63-via-else-w-gt63+then-w}
use Rattle.usage_text.proofs.answer.Goals as goal

pub returns-then-w-gt63 : goal.returns-then-w-gt63
returns-then-w-gt63 c =
    elim c.then-w-gt63.branch [
      | then-w-gt63-via-then-w-gt63 w ↦ wide-dip c.args.w w.if-w-gt63.true
      | then-w-gt63-via-else-w-gt63+then-w w ↦ wide-rise c.args.w w.if-w-gt63.false (omega (arith, w.if-w.true))
    ]

pub returns : goal.returns
returns c =
    let e : to_z w32 (of_z w32 c.end_of.result) ≡ c.end_of.result = search (rules, ints, to_z-of_z) in
    rw (in-range c.args.w c.if-w-gt63.false c.if-w.false, e, c.end_of.ensures)
