use Rattle.bundle.specs.Program.{method_of, method_at}
use Rattle.turns.proofs.starts.start_class.Goals as goal

pub returns : goal.returns
unfolding method_at method_of
returns c = λ P s i e. rw (← c.record_at.ensures.bytes, ← c.record_at.ensures.numbers) (c.start_turn.ensures P s i e)
