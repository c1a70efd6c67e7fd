use borrow.Author.Tests.{lt-leb, le-leb}
use Rattle.turns.proofs.ends.new_turn.Goals as goal
use Rattle.turns.proofs.ends.new_turn.Goals.{then-fails-via-then-fails, then-fails-via-else-fails+then-view-ge32}

pub returns-then-fails : goal.returns-then-fails
returns-then-fails c = λ P s e f.
    elim c.then-fails.branch [
      | then-fails-via-then-fails w ↦ rw (w.if-fails.true, ← c.ref_slot.ensures) (c.throw_turn.ensures P s e)
      | then-fails-via-else-fails+then-view-ge32 w ↦ rw (w.if-fails.false, rw (← f) at (le-leb _ _ w.if-view-ge32.true), ← c.ref_slot.ensures) (c.throw_turn.ensures P s e)
    ]

pub returns : goal.returns
returns c = λ P s e f. rw (c.if-fails.false, rw (← f) at (lt-leb _ _ c.if-view-ge32.false)) (c.make_turn.ensures P s c.args.view.now.number f)
