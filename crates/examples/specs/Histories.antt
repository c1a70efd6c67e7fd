-- Document 02's Q-2 by example: runs of accepted bundles, their histories, and what a history alone says of a thread and an object.
use Rattle.std.specs.Prelude.{List, [], ◌∷◌, ◌++◌, map, ◌≡◌, Bool, true, false, ℕ}
use Rattle.bundle.specs.Container.{code_from}
use Rattle.state.specs.declared.State.{State}
use Rattle.state.specs.State.{count_of}
use Rattle.machine.specs.Runs.{Step, reached}
use Rattle.verifier.specs.Verdict.{verdict_of}
use Rattle.history.specs.Met.{Object, None, One}
use Rattle.history.specs.Event.{Event}
use Rattle.history.specs.Reading.{live_by, entered, exited}
use Rattle.history.specs.History.{history}
use Rattle.examples.specs.Bundles.{pop, load, store, enter, exit, new, start, returns, getfield, top, free, owing, nullable, line, source, bundle_of}
use Rattle.examples.specs.Runs.{by, turns, main}

-- main makes a lock, starts a worker with it, and another when the first has ended, then takes the lock by two names;
-- a worker reads the lock's field, which is null, catches that, takes the lock, gives it back and ends
abbrev workers : List ℕ
workers =
    bundle_of 0
    (source 2 2 [] (0 ∷ [])
    (line (new 0 0) (top ∷ top ∷ []) []
    ∷ line (store 0) (top ∷ top ∷ []) (free 0 ∷ [])
    ∷ line (new 1 0) (free 0 ∷ top ∷ []) []
    ∷ line (load 0) (free 0 ∷ top ∷ []) (free 1 ∷ [])
    ∷ line (start 1) (free 0 ∷ top ∷ []) (free 0 ∷ free 1 ∷ [])
    ∷ line (new 1 0) (free 0 ∷ top ∷ []) []
    ∷ line (load 0) (free 0 ∷ top ∷ []) (free 1 ∷ [])
    ∷ line (start 1) (free 0 ∷ top ∷ []) (free 0 ∷ free 1 ∷ [])
    ∷ line (load 0) (free 0 ∷ top ∷ []) []
    ∷ line (store 1) (free 0 ∷ top ∷ []) (free 0 ∷ [])
    ∷ line (enter 0 0) (free 0 ∷ free 0 ∷ []) []
    ∷ line (enter 1 0) (owing 0 ∷ free 0 ∷ []) []
    ∷ line (exit 0) (owing 0 ∷ owing 0 ∷ []) []
    ∷ line (exit 1) (free 0 ∷ owing 0 ∷ []) []
    ∷ line returns (free 0 ∷ free 0 ∷ []) []
    ∷ [])
    ∷ source 2 1 (0 ∷ []) []
    (line (load 0) (free 0 ∷ top ∷ []) []
    ∷ line (getfield 0 0 0) (free 0 ∷ top ∷ []) (free 0 ∷ [])
    ∷ line (store 1) (free 0 ∷ top ∷ []) (nullable 0 ∷ [])
    ∷ line (enter 1 7) (free 0 ∷ nullable 0 ∷ []) []
    ∷ line (exit 1) (free 0 ∷ owing 0 ∷ []) []
    ∷ line returns (free 0 ∷ free 0 ∷ []) []
    ∷ line pop (free 0 ∷ nullable 0 ∷ []) (free 0 ∷ [])
    ∷ line (enter 0 0) (free 0 ∷ nullable 0 ∷ []) []
    ∷ line (exit 0) (owing 0 ∷ nullable 0 ∷ []) []
    ∷ line returns (free 0 ∷ nullable 0 ∷ []) []
    ∷ [])
    ∷ [])

-- main makes a lock, takes it, gives it back, starts an heir with it and ends; each heir starts another, then takes the lock and gives it back
abbrev heirs : List ℕ
heirs =
    bundle_of 0
    (source 1 2 [] []
    (line (new 0 0) (top ∷ []) []
    ∷ line (store 0) (top ∷ []) (free 0 ∷ [])
    ∷ line (enter 0 0) (free 0 ∷ []) []
    ∷ line (exit 0) (owing 0 ∷ []) []
    ∷ line (new 1 0) (free 0 ∷ []) []
    ∷ line (load 0) (free 0 ∷ []) (free 1 ∷ [])
    ∷ line (start 1) (free 0 ∷ []) (free 0 ∷ free 1 ∷ [])
    ∷ line returns (free 0 ∷ []) []
    ∷ [])
    ∷ source 1 2 (0 ∷ []) []
    (line (new 1 0) (free 0 ∷ []) []
    ∷ line (load 0) (free 0 ∷ []) (free 1 ∷ [])
    ∷ line (start 1) (free 0 ∷ []) (free 0 ∷ free 1 ∷ [])
    ∷ line (enter 0 0) (free 0 ∷ []) []
    ∷ line (exit 0) (owing 0 ∷ []) []
    ∷ line returns (free 0 ∷ []) []
    ∷ [])
    ∷ [])

-- thread t met the instruction of these four bytes, and was answered n
abbrev met : ℕ → List ℕ → Object → ℕ → Event
met t code o n = record { thread = t; answer = n; met = record { instruction = code_from code 0; object = o } }

abbrev no_instruction : List ℕ
no_instruction = 0 ∷ 0 ∷ 0 ∷ 0 ∷ []

-- a worker, with its monitorenter
abbrev locked : List Event
locked =
    met 1 (load 0) None 0
    ∷ met 1 (getfield 0 0 0) None 0
    ∷ met 1 (store 1) None 0
    ∷ met 1 (enter 1 7) None 0
    ∷ met 1 pop None 0
    ∷ met 1 (enter 0 0) (One 1) 0
    ∷ []

abbrev workers_events : List Event
workers_events =
    (met 0 (new 0 0) None 0 ∷ met 0 (store 0) None 0 ∷ met 0 (new 1 0) None 0 ∷ met 0 (load 0) None 0 ∷ met 0 (start 1) None 0 ∷ [])
    ++ locked
    ++ (met 1 (exit 0) (One 1) 0 ∷ met 1 returns None 1 ∷ [])
    ++ (met 0 (new 1 0) None 0 ∷ met 0 (load 0) None 0 ∷ met 0 (start 1) None 0 ∷ [])
    ++ locked
    ++ (met 0 (load 0) None 0 ∷ met 0 (store 1) None 0 ∷ met 0 (enter 0 0) (One 1) 3 ∷ [])
    ++ (met 2 no_instruction None 5 ∷ met 1 (exit 0) (One 1) 0 ∷ [])
    ++ (met 0 (enter 0 0) (One 1) 0 ∷ met 0 (enter 1 0) (One 1) 0 ∷ met 0 (exit 0) (One 1) 0 ∷ [])

-- an heir of number t, with its start
abbrev handed_on : ℕ → List Event
handed_on t = met t (new 1 0) None 0 ∷ met t (load 0) None 0 ∷ met t (start 1) None 0 ∷ []

abbrev heirs_events : List Event
heirs_events =
    (met 0 (new 0 0) None 0 ∷ met 0 (store 0) None 0 ∷ met 0 (enter 0 0) (One 1) 0 ∷ met 0 (exit 0) (One 1) 0 ∷ [])
    ++ handed_on 0
    ++ (met 0 returns None 1 ∷ [])
    ++ handed_on 1
    ++ handed_on 0
    ++ (met 0 (enter 0 0) (One 1) 0 ∷ met 9 no_instruction None 5 ∷ [])

-- of a thread and an object: whether it is live, its monitorenters and its monitorexits, by the history alone; and its count in the state
pub record Say : Type 0 where
  pub thread : ℕ
  pub object : ℕ
  pub live : Bool
  pub enters : ℕ
  pub exits : ℕ
  pub count : ℕ

abbrev say : ℕ → ℕ → Bool → ℕ → ℕ → ℕ → Say
say t o live enters exits count = record { thread = t; object = o; live = live; enters = enters; exits = exits; count = count }

-- what is found where x is wanted
abbrev said : List Event → State → Say → Say
said h s x = say x.thread x.object (live_by h x.thread) (entered h x.thread x.object) (exited h x.thread x.object) (count_of s.counts x.thread x.object)

-- a bundle, a schedule, the events of its history, and what they say
pub record Account : Type 0 where
  pub bundle : List ℕ
  pub schedule : List Step
  pub events : List Event
  pub says : List Say

-- workers: thread 1 runs to its end; its number is started again, and holds the lock while main waits for it; there is no thread 2; thread 1 gives the lock back, and main takes it twice and gives one back.
-- It says: main's two monitorenters, and not the one that waited; the second worker's alone; of the caught null none, at object 0; and of a thread that never was;
-- heirs: main ends, thread 1 starts number 0 again, which starts thread 2 and takes the lock; there can be no thread 9.
-- It says: the heir's one monitorenter, and not main's; and that the others took nothing
abbrev histories : List Account
histories =
    record {
      bundle = workers;
      schedule = main 5 ++ turns 1 8 ++ main 3 ++ turns 1 6 ++ main 3 ++ (by 2 ∷ by 1 ∷ []) ++ main 3;
      events = workers_events;
      says = say 0 1 true 2 1 1 ∷ say 1 1 true 1 1 0 ∷ say 1 0 true 0 0 0 ∷ say 2 1 false 0 0 0 ∷ [];
    }
    ∷ record {
      bundle = heirs;
      schedule = main 8 ++ turns 1 3 ++ main 4 ++ (by 9 ∷ []);
      events = heirs_events;
      says = say 0 1 true 1 0 1 ∷ say 1 1 true 0 0 0 ∷ say 2 1 true 0 0 0 ∷ say 9 1 false 0 0 0 ∷ [];
    }
    ∷ []

-- the verdict's number, the history and what it says, as they are found and as they are wanted: each bundle is accepted
abbrev found : Account → ℕ × List Event × List Say
found x = ((verdict_of x.bundle).number, history x.bundle x.schedule, map (said x.events (reached x.bundle x.schedule)) x.says)

abbrev wanted : Account → ℕ × List Event × List Say
wanted x = (0, x.events, x.says)

-- what the histories of accepted bundles say (`histories-hold`)
abbrev pub HistoriesHold : Type 0
HistoriesHold = map found histories ≡ map wanted histories
