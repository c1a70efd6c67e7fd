-- Document 02, Q-7: lists of schedule bytes that are run at once, each with what the request's words give for it, worked out by hand.
use Rattle.std.specs.Prelude.{List, [], ◌∷◌, ◌++◌, map, ◌≡◌, ℕ, replicate}
use Rattle.verdicts.specs.declared.Verdict.{Verdict}
use Rattle.verdicts.specs.Verdicts.{verdict, rule_fails}
use Rattle.threads.specs.declared.Thread.{Thread}
use Rattle.state.specs.State.{empty_state}
use Rattle.cases.specs.Cases.{case_b}
use Rattle.runner.specs.Run.{Ran, ran_of}
use Rattle.examples.specs.Bundles.{push0, inc, branch, new, start, returns, int, reference, free, line, source, bundle_of}
use Rattle.examples.specs.Runs.{two_threads, caught_new}

-- what is looked at: answer, verdict, number of steps, where each of the eight threads stands (0 where it isn't live), and how many objects there are
pub record Outcome : Type 0 where
  pub answer : ℕ
  pub verdict : Verdict
  pub steps : ℕ
  pub addresses : List ℕ
  pub objects : ℕ

abbrev pub outcome : Ran → Outcome
outcome r =
    record {
      answer = r.answer;
      verdict = r.verdict;
      steps = r.steps;
      addresses = map (λ (t : Thread). t.at.0) r.state.threads;
      objects = r.state.objects;
    }

-- of an accepted bundle of so many classes
abbrev taken : ℕ → ℕ → List ℕ → ℕ → Outcome
taken classes steps addresses objects = record { answer = 0; verdict = verdict 0 classes 0; steps = steps; addresses = addresses; objects = objects }

pub record Listed : Type 0 where
  pub bundle : List ℕ
  pub schedule : List ℕ
  pub wanted : Outcome

abbrev listed : List ℕ → List ℕ → Outcome → Listed
listed bundle schedule wanted = record { bundle = bundle; schedule = schedule; wanted = wanted }

-- where threads 0 and 1 stand, and no other lives
abbrev two : ℕ → ℕ → List ℕ
two a b = a ∷ b ∷ replicate 6 0

-- main makes an object of class 1 and starts it, again and again: 1 new 1; 2 start 1; 3 push0; 4 inc; 5 if 1; 6 return (V 0, K 1); class 1: 1 return (V 0, K 0)
abbrev pub eight_threads : List ℕ
eight_threads =
    bundle_of 0
    (source 0 1 [] []
    (line (new 1 0) [] []
    ∷ line (start 1) [] (free 1 ∷ [])
    ∷ line push0 [] []
    ∷ line inc [] (int ∷ [])
    ∷ line (branch 1) [] (int ∷ [])
    ∷ line returns [] []
    ∷ [])
    ∷ source 0 0 [] [] (line returns [] [] ∷ [])
    ∷ [])

-- no step at all;
-- two threads: the second waits (3, which is passed over) while the first holds the lock;
-- .. it goes on after the first has left, which then ends;
-- .. it ends too, and then neither lives (5, passed over too);
-- .. the third list again, with other bits set in each byte;
-- new with the top bit fails, and is caught at 4; with bits 3 to 6, or bit 6 alone, it makes object 1;
-- seven rounds of five steps start seven threads, and the eighth new makes object 8; then start is answered 4, and is passed over;
-- .. thread 7 returns, and start takes its number again
abbrev pub lists : List Listed
lists =
    listed two_threads [] (taken 2 0 (two 1 0) 1)
    ∷ listed two_threads (0 ∷ 0 ∷ 0 ∷ 0 ∷ 0 ∷ 0 ∷ 1 ∷ []) (taken 2 6 (two 7 1) 3)
    ∷ listed two_threads (0 ∷ 0 ∷ 0 ∷ 0 ∷ 0 ∷ 0 ∷ 1 ∷ 0 ∷ 1 ∷ 0 ∷ []) (taken 2 9 (two 0 2) 3)
    ∷ listed two_threads (0 ∷ 0 ∷ 0 ∷ 0 ∷ 0 ∷ 0 ∷ 1 ∷ 0 ∷ 1 ∷ 0 ∷ 1 ∷ 1 ∷ 0 ∷ 1 ∷ []) (taken 2 11 (two 0 0) 3)
    ∷ listed two_threads (8 ∷ 16 ∷ 24 ∷ 32 ∷ 64 ∷ 120 ∷ 9 ∷ 8 ∷ 65 ∷ 112 ∷ []) (taken 2 9 (two 0 2) 3)
    ∷ listed caught_new (128 ∷ []) (taken 1 1 (two 4 0) 1)
    ∷ listed caught_new (120 ∷ []) (taken 1 1 (two 2 0) 2)
    ∷ listed caught_new (64 ∷ []) (taken 1 1 (two 2 0) 2)
    ∷ listed eight_threads (replicate 37 0) (taken 2 36 (2 ∷ replicate 7 1) 9)
    ∷ listed eight_threads (replicate 37 0 ++ (7 ∷ 0 ∷ [])) (taken 2 38 (3 ∷ replicate 7 1) 9)
    ∷ []

abbrev pub ran_list : Listed → Outcome
ran_list x = outcome (ran_of x.bundle x.schedule)

abbrev pub wanted_list : Listed → Outcome
wanted_list x = x.wanted

abbrev pub ListsHold : Type 0
ListsHold = map ran_list lists ≡ map wanted_list lists

-- ---- refused bundles: nothing is run, and the whole state is that of no machine, though the last three would have a fresh one with a live thread
-- an entry with dip 64; a row 1 whose variable is Int and not Top
abbrev pub dip64 : List ℕ
dip64 = bundle_of 0 (source 1 0 [] [] (line returns (reference 0 64 64 ∷ []) [] ∷ []) ∷ [])

abbrev pub first_int : List ℕ
first_int = bundle_of 0 (source 1 0 [] [] (line returns (int ∷ []) [] ∷ []) ∷ [])

abbrev nothing : Verdict → Ran
nothing v = record { answer = 19; verdict = v; state = empty_state; steps = 0 }

-- 1, 8, 9 with its why, 10
abbrev pub RefusalsHold : Type 0
RefusalsHold =
    (ran_of [] (0 ∷ []) ≡ nothing (verdict 1 0 0))
    × (ran_of dip64 (0 ∷ 1 ∷ 128 ∷ []) ≡ nothing (verdict 8 0 1))
    × (ran_of case_b (0 ∷ 0 ∷ 0 ∷ []) ≡ nothing (rule_fails 0 5 3))
    × (ran_of first_int (0 ∷ []) ≡ nothing (verdict 10 0 0))
