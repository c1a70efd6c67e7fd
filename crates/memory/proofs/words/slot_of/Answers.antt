use Rattle.memory.proofs.Meaning.{word-int, word-ref, word-null}
use Rattle.memory.proofs.words.slot_of.Goals as goal

pub returns-then-w-lt-REF : goal.returns-then-w-lt-REF
returns-then-w-lt-REF c = rw (word-int _ c.if-w-lt-REF.true) c.int_slot.ensures

pub returns-then-w-lt-NULL : goal.returns-then-w-lt-NULL
returns-then-w-lt-NULL c = rw (word-ref _ c.if-w-lt-REF.false c.if-w-lt-NULL.true) c.ref_slot.ensures

pub returns : goal.returns
returns c = rw (word-null _ c.if-w-lt-NULL.false) c.null_slot.ensures
