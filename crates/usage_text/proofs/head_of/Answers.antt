use borrow.Author.Tests.{eq-eqb, ne_eqb}
use Rattle.usage_text.proofs.Heads.{is-nought, is-lock, is-unlock, is_open, is-other}
use Rattle.usage_text.proofs.head_of.Goals as goal

pub returns-then-a-eq48 : goal.returns-then-a-eq48
returns-then-a-eq48 c = is-nought _ (rw (← c.byte-a.ensures) (eq-eqb _ _ c.if-a-eq48.true))

pub returns-then-a-b : goal.returns-then-a-b
returns-then-a-b c = is-lock _ (rw (← c.byte-a.ensures) (ne_eqb _ _ c.if-a-eq48.false)) (rw (← c.byte-a.ensures, ← c.byte-b.ensures) c.if-a-b.true)

pub returns-then-a-b-2 : goal.returns-then-a-b-2
returns-then-a-b-2 c = is-unlock _ (rw (← c.byte-a.ensures) (ne_eqb _ _ c.if-a-eq48.false)) (rw (← c.byte-a.ensures, ← c.byte-b.ensures) c.if-a-b.false) (rw (← c.byte-a.ensures, ← c.byte-b.ensures, ← c.byte-c.ensures) c.if-a-b-2.true)

pub returns-then-a-eq40 : goal.returns-then-a-eq40
returns-then-a-eq40 c = is_open _ (rw (← c.byte-a.ensures) (ne_eqb _ _ c.if-a-eq48.false)) (rw (← c.byte-a.ensures, ← c.byte-b.ensures) c.if-a-b.false) (rw (← c.byte-a.ensures, ← c.byte-b.ensures, ← c.byte-c.ensures) c.if-a-b-2.false) (rw (← c.byte-a.ensures) (eq-eqb _ _ c.if-a-eq40.true))

pub returns : goal.returns
returns c = is-other _ (rw (← c.byte-a.ensures) (ne_eqb _ _ c.if-a-eq48.false)) (rw (← c.byte-a.ensures, ← c.byte-b.ensures) c.if-a-b.false) (rw (← c.byte-a.ensures, ← c.byte-b.ensures, ← c.byte-c.ensures) c.if-a-b-2.false) (rw (← c.byte-a.ensures) (ne_eqb _ _ c.if-a-eq40.false))
