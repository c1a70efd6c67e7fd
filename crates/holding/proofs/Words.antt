-- THEOREMS of Q-4: along any list of steps the words agree with the counts, and a word has as many bits set as its thread holds objects.
use mathlib.Core.Path.{◌≡◌, refl, ◌∙◌}
use mathlib.Core.Logic.{◌≢◌}
use mathlib.Core.Bool.{Bool, true, false, ◌&&◌}
use mathlib.Core.List.{List, [], ◌∷◌}
use Prim.Native.Nat.{ℕ, ◌<◌}
use lib.Dec.{ltb}
use native.Mathlib.Decide.{ℕ_discrete}
use borrow.Author.Tests.{le-ltb}
use native.Mathlib.Omega.{arith}
use Rattle.ground.specs.Chain.{refuse}
use Rattle.ground.proofs.Bools.{never}
use Rattle.ground.proofs.Bounded.{count_same}
use Rattle.bundle.specs.Program.{program_of}
use Rattle.held.specs.Word.{bit, bits_set}
use Rattle.state.specs.declared.State.{State}
use Rattle.state.specs.State.{thread_at, count_of, word_of}
use Rattle.belongs.specs.Belongs.{state_ok}
use Rattle.belongs.proofs.Belongs.{belongs-elim}
use Rattle.turns.specs.Stepped.{Stepped}
use Rattle.turns.specs.Answers.{unless}
use Rattle.turns.specs.Exec.{run_of}
use Rattle.machine.specs.Machine.{readable, fresh_of, step_of}
use Rattle.machine.specs.Runs.{Step, after, run, reached}
use Rattle.machine.proofs.Changes.{Sized}
use Rattle.machine.proofs.Stays.{step-belongs}
use Rattle.machine.proofs.FreshStays.{fresh-belongs, fresh-sized}
use Rattle.holding.specs.Question.{is_held, number_held, refused, held_of}
use Rattle.holding.specs.Kept.{WordsKept, IdleWords, NumberKept, AsAStep}

-- THEOREM: in a state of the bundle the bits of a thread's word are as many as the objects that it holds
pub word_number : (b : List ℕ) (s : State) → state_ok (program_of b) s ≡ true → (i : ℕ) → i < 8 → bits_set (word_of s.held i) ≡ number_held s.counts i
unfolding bits_set number_held
word_number b s e i l =
    count_same (bit (word_of s.held i)) (is_held s.counts i) 32 (λ o k. (belongs-elim (program_of b) s e).worded i o l k)

run_ok : (b : List ℕ) (s : State) → Sized s → state_ok (program_of b) s ≡ true → (xs : List Step) → state_ok (program_of b) (run b s xs) ≡ true
unfolding run
run_ok b s z e [] = e
run_ok b s z e (x ∷ xs) = let r = step-belongs b s x.who x.fails z e in run_ok b (after b s x) r.1 r.0 xs

-- THEOREM: no state that is reached draws 18
pub reached-ok : (b : List ℕ) → readable b ≡ true → (xs : List Step) → state_ok (program_of b) (reached b xs) ≡ true
reached-ok b e xs = run_ok b (fresh_of b).state (fresh-sized b e) (fresh-belongs b e) xs

pub words-kept : WordsKept
words-kept b e xs = (belongs-elim (program_of b) (reached b xs) (reached-ok b e xs)).worded

pub idle-words : IdleWords
idle-words b e xs t i l k idle =
    let r = belongs-elim (program_of b) (reached b xs) (reached-ok b e xs) in
    let n = count_of (reached b xs).counts t i in
    r.worded t i l k ∙ go n (r.counted t i l k).by_live (ℕ_discrete n 0)
  where
    go : (n : ℕ) → (0 < n → (thread_at (reached b xs) t).live ≡ true) → Dec (n ≡ 0) → ltb 0 n ≡ false
    go n h (yes q) = le-ltb 0 n (omega arith)
    go n h (no q) = never (h (omega arith)) idle

pub number-kept : NumberKept
number-kept b e xs t l = word_number b (reached b xs) (reached-ok b e xs) t l

-- three tests in one order, whatever follows
same-refusal : (readable ok live : Bool) (s : State) (n : ℕ) (rest : Stepped)
    → (refuse readable (refused 17) (refuse ok (refused 18) (refuse live (refused 5) (record { answer = 0; number = n })))).answer ≢ 0
    → (unless readable 17 s (unless ok 18 s (unless live 5 s rest))).answer
    ≡ (refuse readable (refused 17) (refuse ok (refused 18) (refuse live (refused 5) (record { answer = 0; number = n })))).answer
unfolding refuse
same-refusal false ok live s n rest d = refl
same-refusal true false live s n rest d = refl
same-refusal true true false s n rest d = refl
same-refusal true true true s n rest d = absurd (d refl)

pub as-a-step : AsAStep
unfolding held_of step_of
as-a-step b s i fails d =
    same-refusal (readable b) (state_ok (program_of b) s) (ltb i 8 && (thread_at s i).live) s (number_held s.counts i) (run_of (program_of b) s i (thread_at s i) fails) d
