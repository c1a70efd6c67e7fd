-- The witness, by computation.
use mathlib.Core.Path.{◌≡◌, refl}
use mathlib.Core.List.{List}
use Prim.Native.Nat.{ℕ, zero, suc, ◌+◌, ◌*◌, ◌<◌}
use native.Mathlib.Omega.{arith}
use Rattle.ground.specs.Bytes.{quad}
use Rattle.ground.specs.Bounded.{all_below, first_below, count_below, sum_below, set_below, fill_from}
use Rattle.ground.specs.Chain.{refuse, or_then, scan}
use Rattle.ground.specs.Lists.{each, first_broken}
use Rattle.instructions.specs.Table.{last_ok, instruction_ok, table, find, line_of, table_ok}
use Rattle.bundle.specs.Container.{head_at, class_at, width, size, record_fits, part_of, descriptor_count, code_from, instruction_place, code_at, instruction_at, field_at}
use Rattle.bundle.specs.Program.{method_of, method_at, program_of}
use Rattle.structure.specs.Conditions.{length_ok, trailer_ok, directory_ok, main_ok, code_ok, limits_ok, descriptor_ok, descriptors_ok, address_ok}
use Rattle.structure.specs.Structure.{structure_of}
use Rattle.threads.specs.Threads.{topped, pushed, popped, stored, ended, started}
use Rattle.held.specs.Word.{bit, set_bit, clear_bit, marked}
use Rattle.state.specs.State.{fields_with, with_object, others_free, holds_nothing, lowest_free}
use Rattle.belongs.specs.Belongs.{places_refer, placed_ok, live_ok, thread_ok, threads_ok, first_ok, objects_ok, fields_refer, fields_ok, count_ok, thread_counts_ok, counts_ok, word_agrees, words_agree, sole_holder, sole_holders, state_ok}
use Rattle.turns.specs.Answers.{unless_drawn}
use Rattle.turns.specs.Faults.{is_argument, arguments_ok, may_be_object, is_field_value}
use Rattle.turns.specs.Exec.{run_of}
use Rattle.machine.specs.Machine.{fresh_of, step_of}
use Rattle.java.specs.Opcodes.{short, aload_of, iinc_of, java_of, width_of}
use Rattle.java.specs.Instructions.{raw_at, raw_size, uncut, java_at, size_at}
use Rattle.java.specs.Classes.{is_index, class_number}
use Rattle.offsets.specs.Offsets.{left_at, begins, gives_at, count_to, total}
use Rattle.offsets.specs.Handlers.{handler_of, covers, covered_by}
use Rattle.offsets.specs.Targets.{target_of, lands, stray_at, first_stray, stray_entry, first_stray_entry}
use Rattle.offsets.specs.Offenders.{unknown_at, first_unknown, past_at, first_past}
use Rattle.classfile.specs.Attribute.{table_end, whole, code_of, table_of}
use Rattle.classfile.specs.Written.{handler_by, rows_of, rows_at, rows_to, bytes_of, laid_over}
use Rattle.classfile.specs.Taking.{judged, taken_of, bytes_taken, left, out_of}
use Rattle.faithful.specs.Frames.{throws}
use Rattle.faithful.specs.Faithful.{top_first, steps, runs, doing}
use Rattle.faithful.specs.Witness.{attribute, list, buffer, bundle, Witness}

-- to unfold `worked` is to unfold all that its line names, which is all that stands on the way
unfoldable worked : List ℕ → ℕ
unfolding all_below refuse or_then scan table find line_of table_ok each first_broken last_ok instruction_ok head_at class_at width size record_fits part_of code_from instruction_place code_at instruction_at field_at method_of method_at program_of length_ok trailer_ok directory_ok main_ok code_ok limits_ok descriptor_ok descriptors_ok address_ok structure_of first_below count_below set_below fill_from topped pushed popped stored ended started bit set_bit clear_bit marked fields_with with_object others_free holds_nothing lowest_free places_refer placed_ok live_ok thread_ok threads_ok first_ok objects_ok fields_refer fields_ok count_ok thread_counts_ok counts_ok word_agrees words_agree sole_holder sole_holders state_ok unless_drawn is_argument arguments_ok may_be_object is_field_value fresh_of run_of step_of quad sum_below short aload_of iinc_of java_of width_of raw_at raw_size uncut java_at size_at is_index class_number left_at begins gives_at count_to total handler_of covers covered_by target_of lands stray_at first_stray stray_entry first_stray_entry unknown_at first_unknown past_at first_past table_end whole code_of table_of handler_by rows_of rows_at rows_to bytes_of laid_over judged taken_of bytes_taken left out_of top_first steps runs throws doing
worked a = total (code_of a)

bytes : (n : ℕ) → n < 9 → code_from (part_of bundle (class_at bundle 0)) (descriptor_count (class_at bundle 0) + 4 * n) ≡ code_from (out_of attribute list buffer) (4 * n)
unfolding worked
bytes zero l = refl
bytes (suc zero) l = refl
bytes (suc (suc zero)) l = refl
bytes (suc (suc (suc zero))) l = refl
bytes (suc (suc (suc (suc zero)))) l = refl
bytes (suc (suc (suc (suc (suc zero))))) l = refl
bytes (suc (suc (suc (suc (suc (suc zero)))))) l = refl
bytes (suc (suc (suc (suc (suc (suc (suc zero))))))) l = refl
bytes (suc (suc (suc (suc (suc (suc (suc (suc zero)))))))) l = refl
bytes (suc (suc (suc (suc (suc (suc (suc (suc (suc n))))))))) l = absurd (omega arith)

pub witness : Witness
unfolding worked
witness =
    record {
      taken_9 = refl;
      carries = record { success = refl; length_k = refl; bytes = bytes };
      at_first = record { class = refl; address = refl; begun = refl; sized = record { threads_8 = refl; counts_256 = refl; classes_32 = refl; stack_16 = refl } };
      told_going = (omega arith, refl, (omega arith, refl, (omega arith, refl, (omega arith, refl, (omega arith, refl, tt)))));
      read_going = (refl, refl, refl, refl, refl, refl);
      written_going = (refl, refl, refl, refl, refl, refl, refl);
      told_whole = (omega arith, refl, (omega arith, refl, (omega arith, refl, (omega arith, refl, (omega arith, refl, (omega arith, refl, (omega arith, refl, tt)))))));
      read_returns = refl;
      ended = refl;
      told_caught = (omega arith, refl, tt);
      read_caught = (refl, refl);
      written_caught = (refl, refl, refl);
      told_thrown = (omega arith, refl, (omega arith, refl, tt));
      read_thrown = refl;
      ended_uncaught = refl;
    }
