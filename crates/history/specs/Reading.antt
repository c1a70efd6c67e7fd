-- Document 02, Q-2: "both numbers are taken from the history". What the events alone say: who is live, a thread's events since it started, its monitorenters and monitorexits on an object. Nothing here looks at a state.
use Rattle.std.specs.Prelude.{Bool, true, false, cond, not, ◌&&◌, ◌||◌, List, [], ◌∷◌, reverse, ℕ, ◌+◌, eqb, get_or, set, replicate}
use Rattle.ground.specs.Bounded.{first_below}
use Rattle.history.specs.Met.{Object, None, One}
use Rattle.history.specs.Event.{Event, is_enter, is_exit, is_start}

-- ---- one event
-- it is thread t's
abbrev pub is_of : ℕ → Event → Bool
is_of t e = eqb e.thread t

-- the object met is o
abbrev pub same_object : ℕ → Object → Bool
same_object o None = false
same_object o (One p) = eqb p o

-- "its monitorenters on that object that answered 0"
unfoldable pub enters : ℕ → Event → Bool
enters o e = eqb e.answer 0 && is_enter e.met.instruction && same_object o e.met.object

-- "its monitorexits that did"
unfoldable pub exits : ℕ → Event → Bool
exits o e = eqb e.answer 0 && is_exit e.met.instruction && same_object o e.met.object

-- a thread starts: a start answered 0
unfoldable pub starts : Event → Bool
starts e = eqb e.answer 0 && is_start e.met.instruction

-- the event's thread ends: by return (1) or uncaught (2)
unfoldable pub ends : Event → Bool
ends e = eqb e.answer 1 || eqb e.answer 2

-- ---- the events so far, `past`: the latest first
-- thread 0 is live at first
abbrev pub live_at_first : List Bool
live_at_first = set (replicate 8 false) 0 true

abbrev pub unused : List Bool → ℕ → Bool
unused live t = not (get_or live t false)

-- a start takes the lowest number that is not live
unfoldable pub taken : List Bool → ℕ
taken live = first_below 8 (unused live)

-- who is live after one more event, where these were
unfoldable pub live_then : List Bool → Event → List Bool
live_then live e = cond (starts e) (set live (taken live) true) (cond (ends e) (set live e.thread false) live)

unfoldable pub live_after : List Event → List Bool
live_after [] = live_at_first
live_after (e ∷ past) = live_then (live_after past) e

-- the event begins thread t: t is the number that its start takes
unfoldable pub begins : List Event → Event → ℕ → Bool
begins past e t = starts e && eqb t (taken (live_after past))

-- the events, with e before them where it is one of them
abbrev pub joined : Bool → Event → List Event → List Event
joined own e es = cond own (e ∷ es) es

-- "since it started": thread t's own events after the start that took its number (an event of its starter's), or all of them where there was none; the latest first
unfoldable pub since_start : ℕ → List Event → List Event
since_start t [] = []
since_start t (e ∷ past) = cond (begins past e t) [] (joined (is_of t e) e (since_start t past))

-- how many of the events are such
unfoldable pub number : (Event → Bool) → List Event → ℕ
number such [] = 0
number such (e ∷ es) = cond (such e) 1 0 + number such es

-- ---- a history h, in the order of the run
-- thread t is live at its end
abbrev pub live_by : List Event → ℕ → Bool
live_by h t = get_or (live_after (reverse h)) t false

-- "the number of its monitorenters on that object that answered 0 since it started"
abbrev pub entered : List Event → ℕ → ℕ → ℕ
entered h t o = number (enters o) (since_start t (reverse h))

-- "its monitorexits that did"
abbrev pub exited : List Event → ℕ → ℕ → ℕ
exited h t o = number (exits o) (since_start t (reverse h))
