use Rattle.std.proofs.Common.{refl, ◌∙◌, arith}
use Rattle.classfile.specs.Written.{rows_of}
use Rattle.classfile.proofs.Starts.{address-of, handler-of, last_byte, same_row}
use Rattle.java.proofs.Sizes.{size-within}
use Rattle.ground.proofs.Bounded.{told_or}
use Rattle.java.specs.Classes.{class_number}
use Rattle.classfile.proofs.rows.row_of.Goals as goal

pub overflow_add-x : goal.overflow_add-x
overflow_add-x c = omega (arith, size-within _ _ c.requires.2 c.requires.1)

pub overflow_sub-x : goal.overflow_sub-x
overflow_sub-x c = omega (arith, size-within _ _ c.requires.2 c.requires.1)

pub returns-in-Ifne : goal.returns-in-Ifne
unfolding rows_of
returns-in-Ifne c = rw c.in-Ifne.is (c.row-in-Ifne.ensures ∙ same_row 6 refl (address-of _ c.requires.0.starts c.requires.0.count c.address.ensures c.target.ensures))

pub returns-in-Enter : goal.returns-in-Enter
unfolding rows_of
returns-in-Enter c = rw (c.in-Enter.is, ← last_byte _ _ c.requires.2) (c.row-in-Enter.ensures ∙ same_row 7 refl (handler-of _ c.requires.0.starts c.requires.0.count _ _ c.handler_for.ensures))

pub returns-in-New : goal.returns-in-New
unfolding rows_of
returns-in-New c = rw c.in-New.is (c.row-in-New.ensures ∙ same_row 9 (c.unwrap_or.ensures ∙ told_or 8 (class_number c.args.m.now.classes.now c.in-New.i) _ c.class_number.ensures) (handler-of _ c.requires.0.starts c.requires.0.count _ _ c.handler_for-in-New.ensures))

pub returns-in-Athrow : goal.returns-in-Athrow
unfolding rows_of
returns-in-Athrow c = rw c.in-Athrow.is (c.row-in-Athrow.ensures ∙ same_row 11 refl (handler-of _ c.requires.0.starts c.requires.0.count _ _ c.handler_for-in-Athrow.ensures))
