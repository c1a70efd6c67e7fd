use native.Mathlib.Numerals.{add-one}
use borrow.Author.Tests.{lt-ltb, le-ltb}
use Rattle.ground.specs.Chain.{refuse}
use Rattle.turns.specs.Answers.{unless_drawn}
use Rattle.turns.proofs.starts.start_turn.Goals as goal

pub returns-then-t-args : goal.returns-then-t-args
unfolding unless_drawn refuse
returns-then-t-args c = λ P s i e. rw (add-one c.args.m.now.class.args, le-ltb _ _ c.if-t-args.true)

pub returns-then-not-arguments_ok : goal.returns-then-not-arguments_ok
unfolding unless_drawn refuse
returns-then-not-arguments_ok c = λ P s i e. rw (add-one c.args.m.now.class.args, lt-ltb _ _ c.if-t-args.false, e, rw c.arguments_ok.ensures at c.if-not-arguments_ok.true)

pub returns : goal.returns
unfolding unless_drawn refuse
returns c = λ P s i e. rw (c.went_on.ensures, c.pop-u.ensures, add-one c.args.m.now.class.args, lt-ltb _ _ c.if-t-args.false, e, rw c.arguments_ok.ensures at c.if-not-arguments_ok.false)
