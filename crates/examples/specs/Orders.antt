-- Document 02, Q-10: bundles that `verify` accepts, whose threads may stand still for ever unless their locks are taken in one order; what the profile says of them.
use Rattle.std.specs.Prelude.{List, [], ◌∷◌, ◌++◌, map, ◌≡◌, Bool, ◌&&◌, ℕ, eqb, length, replicate}
use Rattle.ground.specs.Bounded.{count_below}
use Rattle.verdicts.specs.declared.Verdict.{Verdict}
use Rattle.verdicts.specs.Verdicts.{verdict, rule_fails}
use Rattle.verifier.specs.Verdict.{verdict_of}
use Rattle.order.specs.Verdict.{ordered_verdict_of}
use Rattle.state.specs.declared.State.{State}
use Rattle.state.specs.State.{thread_at}
use Rattle.machine.specs.Runs.{Step, answer, reached}
use Rattle.examples.specs.Bundles.{pop, push0, load, store, enter, exit, new, start, athrow, returns, getfield, top, int, none, reference, free, owing, nullable, Line, line, Source, source, bundle_of}
use Rattle.examples.specs.Runs.{by, failing, turns, main}

-- ---- two locks, and two methods that take both
-- main makes them, of class 1 and of class d, in its variables 0 and 1, and starts a worker with them; then it goes on with some lines
abbrev starter : ℕ → List Line → Source
starter d lines =
    source 2 3 [] []
    (line (new 1 0) (top ∷ top ∷ []) []
    ∷ line (store 0) (top ∷ top ∷ []) (free 1 ∷ [])
    ∷ line (new d 0) (free 1 ∷ top ∷ []) []
    ∷ line (store 1) (free 1 ∷ top ∷ []) (free d ∷ [])
    ∷ line (load 0) (free 1 ∷ free d ∷ []) []
    ∷ line (load 1) (free 1 ∷ free d ∷ []) (free 1 ∷ [])
    ∷ line (load 0) (free 1 ∷ free d ∷ []) (free d ∷ free 1 ∷ [])
    ∷ line (start 1) (free 1 ∷ free d ∷ []) (free 1 ∷ free d ∷ free 1 ∷ [])
    ∷ lines)

abbrev worker : ℕ → List Line → Source
worker d lines = source 2 1 (1 ∷ d ∷ []) [] lines

-- the lock of class 1 first, and the one of class d first
abbrev one_first : ℕ → List Line
one_first d =
    line (enter 0 0) (free 1 ∷ free d ∷ []) []
    ∷ line (enter 1 0) (owing 1 ∷ free d ∷ []) []
    ∷ line (exit 1) (owing 1 ∷ owing d ∷ []) []
    ∷ line (exit 0) (owing 1 ∷ free d ∷ []) []
    ∷ line returns (free 1 ∷ free d ∷ []) []
    ∷ []

abbrev other_first : ℕ → List Line
other_first d =
    line (enter 1 0) (free 1 ∷ free d ∷ []) []
    ∷ line (enter 0 0) (free 1 ∷ owing d ∷ []) []
    ∷ line (exit 0) (owing 1 ∷ owing d ∷ []) []
    ∷ line (exit 1) (free 1 ∷ owing d ∷ []) []
    ∷ line returns (free 1 ∷ free d ∷ []) []
    ∷ []

-- .. with the first lock's pair kept on the stack while the second is taken
abbrev one_kept : List Line
one_kept =
    line (enter 0 0) (free 1 ∷ free 0 ∷ []) []
    ∷ line (load 0) (owing 1 ∷ free 0 ∷ []) []
    ∷ line (enter 1 0) (free 1 ∷ free 0 ∷ []) (owing 1 ∷ [])
    ∷ line (exit 1) (free 1 ∷ owing 0 ∷ []) (owing 1 ∷ [])
    ∷ line (store 0) (free 1 ∷ free 0 ∷ []) (owing 1 ∷ [])
    ∷ line (exit 0) (owing 1 ∷ free 0 ∷ []) []
    ∷ line returns (free 1 ∷ free 0 ∷ []) []
    ∷ []

abbrev zero_kept : List Line
zero_kept =
    line (enter 1 0) (free 1 ∷ free 0 ∷ []) []
    ∷ line (load 1) (free 1 ∷ owing 0 ∷ []) []
    ∷ line (enter 0 0) (free 1 ∷ free 0 ∷ []) (owing 0 ∷ [])
    ∷ line (exit 0) (owing 1 ∷ free 0 ∷ []) (owing 0 ∷ [])
    ∷ line (store 1) (free 1 ∷ free 0 ∷ []) (owing 0 ∷ [])
    ∷ line (exit 1) (free 1 ∷ owing 0 ∷ []) []
    ∷ line returns (free 1 ∷ free 0 ∷ []) []
    ∷ []

-- .. and with an Int above it there, and below it
abbrev one_under : List Line
one_under =
    line (enter 0 0) (free 1 ∷ free 0 ∷ []) []
    ∷ line (load 0) (owing 1 ∷ free 0 ∷ []) []
    ∷ line push0 (free 1 ∷ free 0 ∷ []) (owing 1 ∷ [])
    ∷ line (enter 1 0) (free 1 ∷ free 0 ∷ []) (int ∷ owing 1 ∷ [])
    ∷ line (exit 1) (free 1 ∷ owing 0 ∷ []) (int ∷ owing 1 ∷ [])
    ∷ line pop (free 1 ∷ free 0 ∷ []) (int ∷ owing 1 ∷ [])
    ∷ line (store 0) (free 1 ∷ free 0 ∷ []) (owing 1 ∷ [])
    ∷ line (exit 0) (owing 1 ∷ free 0 ∷ []) []
    ∷ line returns (free 1 ∷ free 0 ∷ []) []
    ∷ []

abbrev one_over : List Line
one_over =
    line push0 (free 1 ∷ free 0 ∷ []) []
    ∷ line (enter 0 0) (free 1 ∷ free 0 ∷ []) (int ∷ [])
    ∷ line (load 0) (owing 1 ∷ free 0 ∷ []) (int ∷ [])
    ∷ line (enter 1 0) (free 1 ∷ free 0 ∷ []) (owing 1 ∷ int ∷ [])
    ∷ line (exit 1) (free 1 ∷ owing 0 ∷ []) (owing 1 ∷ int ∷ [])
    ∷ line (store 0) (free 1 ∷ free 0 ∷ []) (owing 1 ∷ int ∷ [])
    ∷ line (exit 0) (owing 1 ∷ free 0 ∷ []) (int ∷ [])
    ∷ line returns (free 1 ∷ free 0 ∷ []) (int ∷ [])
    ∷ []

-- .. with the first lock held for ever: the last line throws to itself, so nothing need be given back, and the pair is (0,-1)
abbrev one_looping : List Line
one_looping =
    line (enter 0 0) (free 1 ∷ free 0 ∷ []) []
    ∷ line (enter 1 0) (reference 1 0 63 ∷ free 0 ∷ []) []
    ∷ line (exit 1) (reference 1 0 63 ∷ owing 0 ∷ []) []
    ∷ line (new 0 13) (reference 1 0 63 ∷ free 0 ∷ []) []
    ∷ line (athrow 13) (reference 1 0 63 ∷ free 0 ∷ []) (free 0 ∷ [])
    ∷ []

abbrev zero_looping : List Line
zero_looping =
    line (enter 1 0) (free 1 ∷ free 0 ∷ []) []
    ∷ line (enter 0 0) (free 1 ∷ reference 0 0 63 ∷ []) []
    ∷ line (exit 0) (owing 1 ∷ reference 0 0 63 ∷ []) []
    ∷ line (new 0 5) (free 1 ∷ reference 0 0 63 ∷ []) []
    ∷ line (athrow 5) (free 1 ∷ reference 0 0 63 ∷ []) (free 0 ∷ [])
    ∷ []

-- a method that returns at once, its first row as claimed
abbrev at_once : List ℕ → List Line
at_once first = line returns (first ∷ free 0 ∷ []) [] ∷ []

-- the locks are of classes 1 and 0
abbrev two_locks : List Line → List Line → List ℕ
two_locks lines others = bundle_of 0 (starter 0 lines ∷ worker 0 others ∷ [])

-- in opposite orders; in one order; in opposite orders, the first lock kept on the stack, and held for ever; in opposite orders, both of class 1
abbrev pub opposite : List ℕ
opposite = two_locks (one_first 0) (other_first 0)

abbrev pub ordered : List ℕ
ordered = two_locks (one_first 0) (one_first 0)

abbrev pub kept : List ℕ
kept = two_locks one_kept zero_kept

abbrev pub looping : List ℕ
looping = two_locks one_looping zero_looping

abbrev pub alike : List ℕ
alike = bundle_of 0 (starter 1 (one_first 1) ∷ worker 1 (other_first 1) ∷ [])

-- the first lock in variable 2, the second in variable 0
abbrev pub third : List ℕ
third =
    bundle_of 0
    (source 3 1 [] []
    (line (new 1 0) (top ∷ top ∷ top ∷ []) []
    ∷ line (store 2) (top ∷ top ∷ top ∷ []) (free 1 ∷ [])
    ∷ line (new 0 0) (top ∷ top ∷ free 1 ∷ []) []
    ∷ line (store 0) (top ∷ top ∷ free 1 ∷ []) (free 0 ∷ [])
    ∷ line (enter 2 0) (free 0 ∷ top ∷ free 1 ∷ []) []
    ∷ line (enter 0 0) (free 0 ∷ top ∷ owing 1 ∷ []) []
    ∷ line (exit 0) (owing 0 ∷ top ∷ owing 1 ∷ []) []
    ∷ line (exit 2) (free 0 ∷ top ∷ owing 1 ∷ []) []
    ∷ line returns (free 0 ∷ top ∷ free 1 ∷ []) []
    ∷ [])
    ∷ source 0 0 [] [] (line returns [] [] ∷ [])
    ∷ [])

-- ---- one lock
-- two variables name it, and it is taken through each; what variable 1 is after that, and variable 0 at the end, as they are claimed
abbrev aliased_as : List ℕ → List ℕ → List ℕ
aliased_as second last =
    bundle_of 0
    (source 2 1 [] []
    (line (new 0 0) (top ∷ top ∷ []) []
    ∷ line (store 0) (top ∷ top ∷ []) (free 0 ∷ [])
    ∷ line (load 0) (free 0 ∷ top ∷ []) []
    ∷ line (store 1) (free 0 ∷ top ∷ []) (free 0 ∷ [])
    ∷ line (enter 0 0) (free 0 ∷ free 0 ∷ []) []
    ∷ line (enter 1 0) (owing 0 ∷ free 0 ∷ []) []
    ∷ line (exit 1) (owing 0 ∷ second ∷ []) []
    ∷ line (exit 0) (owing 0 ∷ free 0 ∷ []) []
    ∷ line returns (last ∷ free 0 ∷ []) []
    ∷ [])
    ∷ [])

abbrev pub aliased : List ℕ
aliased = aliased_as (owing 0) (free 0)

-- it is taken twice through one variable
abbrev pub again : List ℕ
again =
    bundle_of 0
    (source 1 1 [] []
    (line (new 0 0) (top ∷ []) []
    ∷ line (store 0) (top ∷ []) (free 0 ∷ [])
    ∷ line (enter 0 0) (free 0 ∷ []) []
    ∷ line (enter 0 0) (owing 0 ∷ []) []
    ∷ line (exit 0) (reference 0 2 62 ∷ []) []
    ∷ line (exit 0) (owing 0 ∷ []) []
    ∷ line returns (free 0 ∷ []) []
    ∷ [])
    ∷ [])

-- it is taken through variable 0, while variable 1 has a dip, and an end of 0; the method never ends
abbrev pub dipped : List ℕ
dipped =
    bundle_of 0
    (source 2 1 [] []
    (line (new 0 0) (top ∷ top ∷ []) []
    ∷ line (store 0) (top ∷ top ∷ []) (free 0 ∷ [])
    ∷ line (enter 0 0) (free 0 ∷ top ∷ []) []
    ∷ line (load 0) (owing 0 ∷ top ∷ []) []
    ∷ line (store 1) (reference 0 0 63 ∷ top ∷ []) (reference 0 1 64 ∷ [])
    ∷ line (enter 0 0) (reference 0 0 63 ∷ reference 0 1 64 ∷ []) []
    ∷ line (exit 0) (reference 0 1 62 ∷ reference 0 1 64 ∷ []) []
    ∷ line (new 0 9) (reference 0 0 63 ∷ reference 0 1 64 ∷ []) []
    ∷ line (athrow 9) (reference 0 0 63 ∷ reference 0 1 64 ∷ []) (free 0 ∷ [])
    ∷ [])
    ∷ [])

-- it is taken, and then what was read from its field, which may be null
abbrev pub unread : List ℕ
unread =
    bundle_of 0
    (source 2 1 [] (0 ∷ [])
    (line (new 0 0) (top ∷ top ∷ []) []
    ∷ line (store 0) (top ∷ top ∷ []) (free 0 ∷ [])
    ∷ line (load 0) (free 0 ∷ top ∷ []) []
    ∷ line (getfield 0 0 0) (free 0 ∷ top ∷ []) (free 0 ∷ [])
    ∷ line (store 1) (free 0 ∷ top ∷ []) (nullable 0 ∷ [])
    ∷ line (enter 0 0) (free 0 ∷ nullable 0 ∷ []) []
    ∷ line (enter 1 11) (owing 0 ∷ nullable 0 ∷ []) []
    ∷ line (exit 1) (owing 0 ∷ owing 0 ∷ []) []
    ∷ line (exit 0) (owing 0 ∷ free 0 ∷ []) []
    ∷ line returns (free 0 ∷ free 0 ∷ []) []
    ∷ line pop (owing 0 ∷ nullable 0 ∷ []) (free 0 ∷ [])
    ∷ line (exit 0) (owing 0 ∷ nullable 0 ∷ []) []
    ∷ line returns (free 0 ∷ nullable 0 ∷ []) []
    ∷ [])
    ∷ [])

-- ---- what they do
-- thread t lives; it waits where its next step answers 3, whether an allocation fails or not
abbrev living : State → ℕ → Bool
living s t = (thread_at s t).live

abbrev waiting : List ℕ → State → ℕ → Bool
waiting b s t = living s t && eqb (answer b s (by t)) 3 && eqb (answer b s (failing t)) 3

-- a bundle that `verify` accepts, a schedule, and then how many threads live, and how many of them wait
pub record Still : Type 0 where
  pub bundle : List ℕ
  pub schedule : List Step
  pub lives : ℕ
  pub waits : ℕ

-- each thread takes its first lock, and then every live thread waits; in one order the second finds the lock taken, the first goes on, and both end; a thread does not wait for a lock of its own, by whatever name, nor for null
abbrev pub stills : List Still
stills =
    record { bundle = opposite; schedule = main 9 ++ turns 1 1; lives = 2; waits = 2 }
    ∷ record { bundle = kept; schedule = main 10 ++ turns 1 2; lives = 2; waits = 2 }
    ∷ record { bundle = looping; schedule = main 9 ++ turns 1 1; lives = 2; waits = 2 }
    ∷ record { bundle = alike; schedule = main 9 ++ turns 1 1; lives = 2; waits = 2 }
    ∷ record { bundle = ordered; schedule = main 9 ++ turns 1 1; lives = 2; waits = 1 }
    ∷ record { bundle = ordered; schedule = main 9 ++ turns 1 1 ++ main 4 ++ turns 1 5; lives = 0; waits = 0 }
    ∷ record { bundle = aliased; schedule = main 5; lives = 1; waits = 0 }
    ∷ record { bundle = aliased; schedule = main 9; lives = 0; waits = 0 }
    ∷ record { bundle = unread; schedule = main 6; lives = 1; waits = 0 }
    ∷ []

abbrev pub found : Still → ℕ × ℕ × ℕ
found r =
    let s = reached r.bundle r.schedule in
    ((verdict_of r.bundle).number, count_below 8 (living s), count_below 8 (waiting r.bundle s))

abbrev pub wanted_of : Still → ℕ × ℕ × ℕ
wanted_of r = (0, r.lives, r.waits)

abbrev pub StillsHold : Type 0
StillsHold = map found stills ≡ map wanted_of stills

-- ---- what the profile says of them
-- refused 25 under every choice of levels
abbrev pub Refused : List ℕ → Type 0
Refused b = (levels : List ℕ) → length levels ≡ 8 → (ordered_verdict_of b levels).number ≡ 25

-- .. as these are: `never-accepted`
abbrev pub NeverAccepted : Type 0
NeverAccepted = Refused opposite × Refused kept × Refused looping × Refused alike × Refused aliased

-- levels of classes 0 and 1
abbrev levels : ℕ → ℕ → List ℕ
levels x y = x ∷ y ∷ replicate 6 0

pub record Judged : Type 0 where
  pub bundle : List ℕ
  pub list : List ℕ
  pub verdict : Verdict

-- a list of another length is 26, before all else;
-- one order suits levels that rise from class 0 to class 1, strictly, as numbers up to 255, and the other six may be anything; opposite orders break at the one method or at the other;
-- a negative end counts, with a dip or without, and an end of 0 does not; all variables are looked at, and all of the stack, and an alias, and not v's own place; what may be null has a class, and no end;
-- 9 comes before 25 at one address, and 25 before a 9 at a later one and before a later class's 10, and after its 8
abbrev pub judged : List Judged
judged =
    record { bundle = []; list = []; verdict = verdict 26 0 0 }
    ∷ record { bundle = []; list = 1 ∷ 2 ∷ replicate 5 0; verdict = verdict 26 0 0 }
    ∷ record { bundle = []; list = levels 1 2; verdict = verdict 1 0 0 }
    ∷ record { bundle = ordered; list = 1 ∷ 2 ∷ replicate 5 0; verdict = verdict 26 0 0 }
    ∷ record { bundle = ordered; list = 1 ∷ 2 ∷ replicate 7 0; verdict = verdict 26 0 0 }
    ∷ record { bundle = ordered; list = levels 1 2; verdict = verdict 0 2 0 }
    ∷ record { bundle = ordered; list = levels 1 1; verdict = verdict 25 0 10 }
    ∷ record { bundle = ordered; list = levels 127 128; verdict = verdict 0 2 0 }
    ∷ record { bundle = ordered; list = levels 128 127; verdict = verdict 25 0 10 }
    ∷ record { bundle = ordered; list = levels 255 255; verdict = verdict 25 0 10 }
    ∷ record { bundle = ordered; list = 1 ∷ 2 ∷ 8 ∷ 7 ∷ 6 ∷ 5 ∷ 4 ∷ 3 ∷ []; verdict = verdict 0 2 0 }
    ∷ record { bundle = opposite; list = levels 1 2; verdict = verdict 25 1 2 }
    ∷ record { bundle = opposite; list = levels 2 1; verdict = verdict 25 0 10 }
    ∷ record { bundle = looping; list = levels 1 2; verdict = verdict 25 1 2 }
    ∷ record { bundle = looping; list = levels 2 1; verdict = verdict 25 0 10 }
    ∷ record { bundle = looping; list = levels 1 1; verdict = verdict 25 0 10 }
    ∷ record { bundle = alike; list = levels 1 2; verdict = verdict 25 0 10 }
    ∷ record { bundle = dipped; list = levels 0 0; verdict = verdict 0 1 0 }
    ∷ record { bundle = third; list = levels 1 2; verdict = verdict 0 2 0 }
    ∷ record { bundle = third; list = levels 2 1; verdict = verdict 25 0 6 }
    ∷ record { bundle = kept; list = levels 1 2; verdict = verdict 25 1 3 }
    ∷ record { bundle = two_locks one_under (at_once (free 1)); list = levels 1 2; verdict = verdict 0 2 0 }
    ∷ record { bundle = two_locks one_under (at_once (free 1)); list = levels 2 1; verdict = verdict 25 0 12 }
    ∷ record { bundle = two_locks one_over (at_once (free 1)); list = levels 1 2; verdict = verdict 0 2 0 }
    ∷ record { bundle = two_locks one_over (at_once (free 1)); list = levels 2 1; verdict = verdict 25 0 12 }
    ∷ record { bundle = aliased; list = levels 1 2; verdict = verdict 25 0 6 }
    ∷ record { bundle = unread; list = levels 1 2; verdict = verdict 25 0 7 }
    ∷ record { bundle = again; list = levels 0 0; verdict = verdict 0 1 0 }
    ∷ record { bundle = aliased_as (free 0) (free 0); list = levels 1 2; verdict = rule_fails 0 6 3 }
    ∷ record { bundle = aliased_as (owing 0) (owing 0); list = levels 1 2; verdict = verdict 25 0 6 }
    ∷ record { bundle = two_locks (one_first 0) (at_once (owing 1)); list = levels 2 1; verdict = verdict 25 0 10 }
    ∷ record { bundle = two_locks (one_first 0) (at_once (owing 1)); list = levels 1 2; verdict = verdict 10 1 0 }
    ∷ record { bundle = two_locks (one_first 0) (at_once none); list = levels 2 1; verdict = verdict 8 1 1 }
    ∷ []

abbrev pub JudgedHold : Type 0
JudgedHold = map (λ (j : Judged). ordered_verdict_of j.bundle j.list) judged ≡ map (λ (j : Judged). j.verdict) judged
