use Rattle.bundle.specs.Program.{program_of, method_at, method_of}
use Rattle.rules.proofs.start_of.Goals as goal

pub returns : goal.returns
unfolding program_of method_at method_of
returns c = rw (← c.record_at-started.ensures.bytes, ← c.record_at-started.ensures.numbers) c.start_rule.ensures
