use Rattle.bundle.specs.Program.{program_of, method_at, method_of}
use Rattle.needs.proofs.stack_need.Goals as goal

pub returns-in-Start : goal.returns-in-Start
unfolding program_of method_at method_of
returns-in-Start c = rw (c.taken-in-Start.ensures, c.class_at.ensures, c.gone-in-Start.ensures, c.in-Start.is, c.next_start-q.ensures)
