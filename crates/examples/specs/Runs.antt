-- Accepted bundles, a schedule of each, and what document 01 answers to it.
use Rattle.std.specs.Prelude.{List, [], ◌∷◌, ◌++◌, map, ◌≡◌, true, false, ℕ, replicate}
use Rattle.machine.specs.Runs.{Step}
use Rattle.verifier.specs.Verdict.{verdict_of}
use Rattle.history.specs.Event.{Event}
use Rattle.history.specs.History.{history}
use Rattle.cases.specs.Cases.{case_a}
use Rattle.examples.specs.Bundles.{i, inc, pop, push0, load, store, branch, enter, exit, new, start, returns, getfield, putfield, top, int, none, free, owing, nullable, line, source, bundle_of}

-- the answers of a list of steps, one after another
abbrev pub answers : List ℕ → List Step → List ℕ
answers b xs = map (λ (e : Event). e.answer) (history b xs)

-- a step of thread n, and one in which an allocation fails
abbrev pub by : ℕ → Step
by n = record { who = n; fails = false }

abbrev pub failing : ℕ → Step
failing n = record { who = n; fails = true }

-- n steps of a thread, and of thread 0
abbrev pub turns : ℕ → ℕ → List Step
turns who n = replicate n (by who)

abbrev pub main : ℕ → List Step
main n = turns 0 n

pub record Run : Type 0 where
  pub bundle : List ℕ
  pub schedule : List Step
  pub wanted : List ℕ

-- a row of one variable and one stack entry
abbrev pub row : List ℕ → ℕ → List ℕ → List ℕ
row variable depth entry = variable ++ (depth ∷ entry)

-- A with an inc before the if: 1 new 0; 2 store 0; 3 monitorenter 0; 4 push0; 5 inc; 6 if 9; 7 monitorexit 0; 8 return; 9 monitorexit 0; 10 return
abbrev pub other_arm : List ℕ
other_arm =
    i 9 0 0 ++ i 5 0 0 ++ i 7 0 0 ++ i 3 0 0 ++ i 1 0 0 ++ i 6 0 9 ++ i 8 0 0 ++ i 12 0 0 ++ i 8 0 0 ++ i 12 0 0
    ++ row top 0 none
    ++ row top 1 (free 0)
    ++ row (free 0) 0 none
    ++ row (owing 0) 0 none
    ++ row (owing 0) 1 int
    ++ row (owing 0) 1 int
    ++ row (owing 0) 0 none
    ++ row (free 0) 0 none
    ++ row (owing 0) 0 none
    ++ row (free 0) 0 none
    ++ (0 ∷ 0 ∷ 0 ∷ 1 ∷ 1 ∷ 0 ∷ 0 ∷ 10 ∷ [])
    ++ (0 ∷ 130 ∷ 1 ∷ 0 ∷ 0 ∷ 146 ∷ 76 ∷ 75 ∷ [])

-- a row of one variable and three stack entries
abbrev wide : List ℕ → ℕ → List ℕ → List ℕ → List ℕ
wide variable depth first second = variable ++ (depth ∷ first ++ second ++ none)

-- main: 1 new 1; 2 new 0; 3 store 0; 4 load 0; 5 start 1; 6 monitorenter 0; 7 monitorexit 0; 8 return (V 1, K 3);
-- class 1, with one argument of class 0: 1 monitorenter 0; 2 monitorexit 0; 3 return (V 1, K 0)
abbrev pub two_threads : List ℕ
two_threads =
    i 9 1 0 ++ i 9 0 0 ++ i 5 0 0 ++ i 4 0 0 ++ i 10 1 0 ++ i 7 0 0 ++ i 8 0 0 ++ i 12 0 0
    ++ wide top 0 none none
    ++ wide top 1 (free 1) none
    ++ wide top 2 (free 0) (free 1)
    ++ wide (free 0) 1 (free 1) none
    ++ wide (free 0) 2 (free 0) (free 1)
    ++ wide (free 0) 0 none none
    ++ wide (owing 0) 0 none none
    ++ wide (free 0) 0 none none
    ++ (0 ∷ i 7 0 0 ++ i 8 0 0 ++ i 12 0 0)
    ++ (free 0 ++ (0 ∷ []))
    ++ (owing 0 ++ (0 ∷ []))
    ++ (free 0 ++ (0 ∷ []))
    ++ (0 ∷ 0 ∷ 0 ∷ 1 ∷ 3 ∷ 0 ∷ 0 ∷ 8 ∷ [])
    ++ (0 ∷ 168 ∷ 1 ∷ 1 ∷ 0 ∷ 0 ∷ 0 ∷ 3 ∷ [])
    ++ (0 ∷ 196 ∷ 2 ∷ 0 ∷ 0 ∷ 220 ∷ 76 ∷ 75 ∷ [])

-- 1 new 0, handler 4; 2 pop; 3 return; 4 store 0; 5 monitorenter 0; 6 monitorexit 0; 7 load 0; 8 athrow, no handler (V 1, K 1)
abbrev pub caught_new : List ℕ
caught_new =
    i 9 0 4 ++ i 2 0 0 ++ i 12 0 0 ++ i 5 0 0 ++ i 7 0 0 ++ i 8 0 0 ++ i 4 0 0 ++ i 11 0 0
    ++ row top 0 none
    ++ row top 1 (free 0)
    ++ row top 0 none
    ++ row top 1 (free 0)
    ++ row (free 0) 0 none
    ++ row (owing 0) 0 none
    ++ row (free 0) 0 none
    ++ row (free 0) 1 (free 0)
    ++ (0 ∷ 0 ∷ 0 ∷ 1 ∷ 1 ∷ 0 ∷ 0 ∷ 8 ∷ [])
    ++ (0 ∷ 104 ∷ 1 ∷ 0 ∷ 0 ∷ 120 ∷ 76 ∷ 75 ∷ [])

-- a row of one variable and two stack entries
abbrev pub double : List ℕ → ℕ → List ℕ → List ℕ → List ℕ
double variable depth first second = variable ++ (depth ∷ first ++ second)

-- 1 new 0; 2 store 0; 3 monitorenter 0; 4 push0; 5 load 0; 6 athrow, handler 7; 7 store 0; 8 monitorexit 0; 9 return (V 1, K 2): what is thrown is locked, and its pair goes with it
abbrev pub caught_throw : List ℕ
caught_throw =
    i 9 0 0 ++ i 5 0 0 ++ i 7 0 0 ++ i 3 0 0 ++ i 4 0 0 ++ i 11 0 7 ++ i 5 0 0 ++ i 8 0 0 ++ i 12 0 0
    ++ double top 0 none none
    ++ double top 1 (free 0) none
    ++ double (free 0) 0 none none
    ++ double (owing 0) 0 none none
    ++ double (owing 0) 1 int none
    ++ double (free 0) 2 (owing 0) int
    ++ double (free 0) 1 (owing 0) none
    ++ double (owing 0) 0 none none
    ++ double (free 0) 0 none none
    ++ (0 ∷ 0 ∷ 0 ∷ 1 ∷ 2 ∷ 0 ∷ 0 ∷ 9 ∷ [])
    ++ (0 ∷ 153 ∷ 1 ∷ 0 ∷ 0 ∷ 169 ∷ 76 ∷ 75 ∷ [])

-- main makes a box, starts a worker with it, takes a lock, puts it into the box's field and gives it back;
-- the worker reads the field, takes what it read, gives it back and ends; where it read null, its handler goes back to 1
abbrev pub shared : List ℕ
shared =
    bundle_of 1
    (source 2 2 [] (1 ∷ [])
    (line (new 0 0) (top ∷ top ∷ []) []
    ∷ line (store 0) (top ∷ top ∷ []) (free 0 ∷ [])
    ∷ line (new 1 0) (free 0 ∷ top ∷ []) []
    ∷ line (load 0) (free 0 ∷ top ∷ []) (free 1 ∷ [])
    ∷ line (start 1) (free 0 ∷ top ∷ []) (free 0 ∷ free 1 ∷ [])
    ∷ line (new 1 0) (free 0 ∷ top ∷ []) []
    ∷ line (store 1) (free 0 ∷ top ∷ []) (free 1 ∷ [])
    ∷ line (enter 1 0) (free 0 ∷ free 1 ∷ []) []
    ∷ line (load 0) (free 0 ∷ owing 1 ∷ []) []
    ∷ line (load 1) (free 0 ∷ owing 1 ∷ []) (free 0 ∷ [])
    ∷ line (putfield 0 0 0) (free 0 ∷ owing 1 ∷ []) (free 1 ∷ free 0 ∷ [])
    ∷ line (exit 1) (free 0 ∷ owing 1 ∷ []) []
    ∷ line returns (free 0 ∷ free 1 ∷ []) []
    ∷ [])
    ∷ source 2 2 (0 ∷ []) []
    (line (load 0) (free 0 ∷ top ∷ []) []
    ∷ line (getfield 0 0 0) (free 0 ∷ top ∷ []) (free 0 ∷ [])
    ∷ line (store 1) (free 0 ∷ top ∷ []) (nullable 1 ∷ [])
    ∷ line (enter 1 7) (free 0 ∷ nullable 1 ∷ []) []
    ∷ line (exit 1) (free 0 ∷ owing 1 ∷ []) []
    ∷ line returns (free 0 ∷ free 1 ∷ []) []
    ∷ line pop (free 0 ∷ nullable 1 ∷ []) (free 1 ∷ [])
    ∷ line push0 (free 0 ∷ nullable 1 ∷ []) []
    ∷ line inc (free 0 ∷ nullable 1 ∷ []) (int ∷ [])
    ∷ line (branch 1) (free 0 ∷ nullable 1 ∷ []) (int ∷ [])
    ∷ line returns (free 0 ∷ nullable 1 ∷ []) []
    ∷ [])
    ∷ [])

-- an owner from a field that is null, at putfield and getfield, each with a handler; the lock is given back on both ways
abbrev pub null_owner : List ℕ
null_owner =
    bundle_of 0
    (source 1 3 [] (0 ∷ 255 ∷ [])
    (line (new 0 0) (top ∷ []) []
    ∷ line (store 0) (top ∷ []) (free 0 ∷ [])
    ∷ line (enter 0 0) (free 0 ∷ []) []
    ∷ line (load 0) (owing 0 ∷ []) []
    ∷ line (getfield 0 0 0) (owing 0 ∷ []) (free 0 ∷ [])
    ∷ line push0 (owing 0 ∷ []) (nullable 0 ∷ [])
    ∷ line (putfield 0 1 13) (owing 0 ∷ []) (int ∷ nullable 0 ∷ [])
    ∷ line (load 0) (owing 0 ∷ []) []
    ∷ line (getfield 0 0 0) (owing 0 ∷ []) (free 0 ∷ [])
    ∷ line (getfield 0 1 13) (owing 0 ∷ []) (nullable 0 ∷ [])
    ∷ line pop (owing 0 ∷ []) (int ∷ [])
    ∷ line (new 0 13) (owing 0 ∷ []) []
    ∷ line (exit 0) (owing 0 ∷ []) (free 0 ∷ [])
    ∷ line returns (free 0 ∷ []) (free 0 ∷ [])
    ∷ [])
    ∷ [])

-- case A: thread 0 takes the lock, falls through, gives it back and ends;
-- A with an inc: it takes the other arm and ends too;
-- two threads: the second waits (3) while the first holds, then goes on; both end;
-- a failed new is caught, the caught object is locked, given back and thrown again, and the thread ends uncaught (2);
-- a locked object is thrown, caught, and given back;
-- the worker reads null and catches it, reads the lock, waits (3) while main holds it, takes it and gives it back; both end, and then neither lives (5);
-- the same where main's lock can't be made: main ends uncaught, and the worker goes round;
-- putfield meets a null owner, and the handler gives the lock back
abbrev pub runs : List Run
runs =
    record { bundle = case_a; schedule = main 7; wanted = 0 ∷ 0 ∷ 0 ∷ 0 ∷ 0 ∷ 0 ∷ 1 ∷ [] }
    ∷ record { bundle = other_arm; schedule = main 8; wanted = 0 ∷ 0 ∷ 0 ∷ 0 ∷ 0 ∷ 0 ∷ 0 ∷ 1 ∷ [] }
    ∷ record {
      bundle = two_threads;
      schedule = main 6 ++ (by 1 ∷ by 0 ∷ by 1 ∷ by 0 ∷ by 1 ∷ by 1 ∷ []);
      wanted = 0 ∷ 0 ∷ 0 ∷ 0 ∷ 0 ∷ 0 ∷ 3 ∷ 0 ∷ 0 ∷ 1 ∷ 0 ∷ 1 ∷ [];
    }
    ∷ record { bundle = caught_new; schedule = failing 0 ∷ main 5; wanted = 0 ∷ 0 ∷ 0 ∷ 0 ∷ 0 ∷ 2 ∷ [] }
    ∷ record { bundle = caught_throw; schedule = main 9; wanted = 0 ∷ 0 ∷ 0 ∷ 0 ∷ 0 ∷ 0 ∷ 0 ∷ 0 ∷ 1 ∷ [] }
    ∷ record {
      bundle = shared;
      schedule = main 5 ++ turns 1 8 ++ main 6 ++ turns 1 4 ++ (by 0 ∷ by 1 ∷ by 0 ∷ by 1 ∷ by 1 ∷ by 0 ∷ by 1 ∷ []);
      wanted = replicate 22 0 ++ (3 ∷ 0 ∷ 0 ∷ 1 ∷ 0 ∷ 1 ∷ 5 ∷ 5 ∷ []);
    }
    ∷ record { bundle = shared; schedule = main 5 ++ (failing 0 ∷ turns 1 12) ++ main 1; wanted = replicate 5 0 ++ (2 ∷ replicate 12 0) ++ (5 ∷ []) }
    ∷ record { bundle = null_owner; schedule = main 10; wanted = 0 ∷ 0 ∷ 0 ∷ 0 ∷ 0 ∷ 0 ∷ 0 ∷ 0 ∷ 1 ∷ 5 ∷ [] }
    ∷ []

-- the verdict's number and the answers, as they are found and as they are wanted: each bundle is accepted
abbrev pub ran : Run → ℕ × List ℕ
ran r = ((verdict_of r.bundle).number, answers r.bundle r.schedule)

abbrev pub wanted_of : Run → ℕ × List ℕ
wanted_of r = (0, r.wanted)

-- demand 3 is not empty: what accepted bundles do (`runs-hold`)
abbrev pub RunsHold : Type 0
RunsHold = map ran runs ≡ map wanted_of runs
