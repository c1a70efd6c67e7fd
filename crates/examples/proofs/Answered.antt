-- The answers of a schedule, worked out: to unfold `answered` is to unfold all that its line names, which is all that stands on the way; `judgement` does so for verdicts.
use mathlib.Core.List.{List}
use Prim.Native.Nat.{ℕ}
use Rattle.ground.specs.Bounded.{first_below, count_below, set_below, fill_from}
use Rattle.threads.specs.Threads.{topped, pushed, popped, stored, ended, started}
use Rattle.held.specs.Word.{bit, set_bit, clear_bit, marked}
use Rattle.state.specs.State.{fields_with, with_object, others_free, holds_nothing, lowest_free}
use Rattle.belongs.specs.Belongs.{places_refer, placed_ok, live_ok, thread_ok, threads_ok, first_ok, objects_ok, fields_refer, fields_ok, count_ok, thread_counts_ok, counts_ok, word_agrees, words_agree, sole_holder, sole_holders, state_ok}
use Rattle.turns.specs.Answers.{unless_drawn}
use Rattle.turns.specs.Faults.{is_argument, arguments_ok, may_be_object, is_field_value}
use Rattle.turns.specs.Exec.{run_of}
use Rattle.machine.specs.Machine.{fresh_of, step_of}
use Rattle.machine.specs.Runs.{Step}
use Rattle.history.specs.History.{history_from}
use Rattle.cases.proofs.Judgement.{judgement}
use Rattle.examples.specs.Runs.{answers}

unfoldable pub answered : List ℕ → List Step → List ℕ
unfolding judgement history_from first_below count_below set_below fill_from topped pushed popped stored ended started bit set_bit clear_bit marked fields_with with_object others_free holds_nothing lowest_free places_refer placed_ok live_ok thread_ok threads_ok first_ok objects_ok fields_refer fields_ok count_ok thread_counts_ok counts_ok word_agrees words_agree sole_holder sole_holders state_ok unless_drawn is_argument arguments_ok may_be_object is_field_value fresh_of run_of step_of
answered b xs = answers b xs
