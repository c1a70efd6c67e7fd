use Rattle.std.proofs.Common.{arith}
use Rattle.offsets.proofs.Turns.{past_none}
use Rattle.classfile.proofs.Order.{refused-31, refused-32, refused-entry, refused-33, refused-34, took}
use Rattle.classfile.proofs.judge.Goals as goal

pub returns-in-Some : goal.returns-in-Some
returns-in-Some c = let h = c.in-Some.ensures in refused-31 _ _ _ _ h.1 h.0

pub returns-in-Some-first_stray : goal.returns-in-Some-first_stray
returns-in-Some-first_stray c = let h = c.in-Some-first_stray.ensures in refused-32 _ _ _ _ c.in_default.ensures h.1 h.0

pub returns-in-Some-first_stray_entry : goal.returns-in-Some-first_stray_entry
returns-in-Some-first_stray_entry c =
    let h = c.in-Some-first_stray_entry.ensures in
    refused-entry _ _ _ _ c.in_default.ensures c.in_default-first_stray.ensures h.1 h.0 c.handler_at.ensures

pub returns-in-Some-past : goal.returns-in-Some-past
returns-in-Some-past c =
    let h = c.in-Some-past.ensures in
    refused-33 _ _ _ _ (record { known = c.in_default.ensures; stray = c.in_default-first_stray.ensures; entry = c.in_default-first_stray_entry.ensures }) h.0 h.1

pub returns-in-Some-past-2 : goal.returns-in-Some-past-2
returns-in-Some-past-2 c =
    let h = c.in-Some-past-2.ensures in
    refused-34 _ _ _ _ (record { known = c.in_default.ensures; stray = c.in_default-first_stray.ensures; entry = c.in_default-first_stray_entry.ensures }) c.in_default-past.ensures h.0 h.1

pub overflow_cast-result-2 : goal.overflow_cast-result-2
overflow_cast-result-2 c = omega (arith, past_none c.args.code.now 256 c.in_default-past.ensures, c.total-all.ensures)

pub returns : goal.returns
returns c =
    took _ _ _ _ (record { known = c.in_default.ensures; stray = c.in_default-first_stray.ensures; entry = c.in_default-first_stray_entry.ensures }) c.in_default-past.ensures c.in_default-past-2.ensures c.total-all.ensures
