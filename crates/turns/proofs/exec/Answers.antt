use Rattle.ground.specs.Chain.{refuse}
use Rattle.bundle.specs.Program.{method_of, method_at, program_of}
use Rattle.turns.specs.Answers.{unless_drawn}
use Rattle.turns.proofs.exec.Goals as goal

pub returns-in-Inc : goal.returns-in-Inc
unfolding unless_drawn refuse
returns-in-Inc c = λ m s l v o e f. rw c.in-Inc.is (c.inc_turn.ensures (program_of c.args.b.now) s c.args.view.now.number)

pub returns-in-Pop : goal.returns-in-Pop
unfolding unless_drawn refuse
returns-in-Pop c = λ m s l v o e f. rw c.in-Pop.is (c.pop_turn.ensures (program_of c.args.b.now) s c.args.view.now.number)

pub returns-in-Push0 : goal.returns-in-Push0
unfolding unless_drawn refuse
returns-in-Push0 c = λ m s l v o e f. rw (c.in-Push0.is, l) (c.push0_turn.ensures (program_of c.args.b.now) s c.args.view.now.number)

pub returns-in-Load : goal.returns-in-Load
unfolding unless_drawn refuse
returns-in-Load c = λ m s l v o e f. rw (c.in-Load.is, l) (c.load_turn.ensures (program_of c.args.b.now) s c.args.view.now.number)

pub returns-in-Store : goal.returns-in-Store
unfolding unless_drawn refuse
returns-in-Store c = λ m s l v o e f. rw c.in-Store.is (c.store_turn.ensures (program_of c.args.b.now) s c.args.view.now.number)

pub returns-in-If : goal.returns-in-If
unfolding unless_drawn refuse
returns-in-If c = λ m s l v o e f. rw c.in-If.is (c.if_turn.ensures (program_of c.args.b.now) s c.args.view.now.number)

pub returns-in-Enter : goal.returns-in-Enter
unfolding unless_drawn refuse
returns-in-Enter c = λ m s l v o e f. rw (c.in-Enter.is, l, v) (c.enter_turn.ensures (program_of c.args.b.now) s e)

pub returns-in-Exit : goal.returns-in-Exit
unfolding unless_drawn refuse
returns-in-Exit c = λ m s l v o e f. rw c.in-Exit.is (c.exit_turn.ensures (program_of c.args.b.now) s e)

pub returns-in-New : goal.returns-in-New
unfolding unless_drawn refuse
returns-in-New c = λ m s l v o e f. rw (c.in-New.is, l, v) (c.new_turn.ensures (program_of c.args.b.now) s e o)

pub returns-in-Start : goal.returns-in-Start
unfolding unless_drawn refuse program_of
returns-in-Start c = λ m s l v o e f. rw c.in-Start.is (c.start_class.ensures (program_of c.args.b.now) s c.args.view.now.number f)

pub returns-in-Throw : goal.returns-in-Throw
unfolding unless_drawn refuse program_of
returns-in-Throw c = λ m s l v o e f. rw (c.in-Throw.is, l, v, ← c.exception.ensures) (c.athrow_turn.ensures (program_of c.args.b.now) s e f)

pub returns-in-Return : goal.returns-in-Return
unfolding unless_drawn refuse
returns-in-Return c = λ m s l v o e f. rw (c.in-Return.is, v) (c.end_turn.ensures (program_of c.args.b.now) s e)

pub returns-in-Get : goal.returns-in-Get
unfolding unless_drawn refuse
returns-in-Get c = λ m s l v o e f. rw (c.in-Get.is, l, v) (c.get_turn.ensures (program_of c.args.b.now) s e f)

pub returns-in-Put : goal.returns-in-Put
unfolding unless_drawn refuse program_of method_at method_of
returns-in-Put c = λ m s l v o e f. rw (c.in-Put.is, l, v, ← c.record_at.ensures.bytes, ← c.record_at.ensures.numbers, ← c.field_at.ensures) (c.put_turn.ensures (program_of c.args.b.now) s e f)

pub returns-in-Nothing : goal.returns-in-Nothing
unfolding unless_drawn refuse
returns-in-Nothing c = λ m s l v o e f. rw (c.in-Nothing.is)
