-- THEOREM, Q-2: the counts agree with the history, of every bundle that can be run; so of every bundle with verdict 0.
use mathlib.Core.Path.{◌≡◌, refl, sym, ◌∙◌, ap}
use mathlib.Core.Bool.{Bool, true, false}
use mathlib.Core.List.{List, [], ◌∷◌, reverse_aux}
use Prim.Native.Nat.{ℕ, ◌+◌, ◌*◌, ◌≤◌, ◌<◌}
use lib.ListN.{get_or, set, replicate, get_or-replicate, get_or-eq_default}
use native.Mathlib.Omega.{arith}
use native.Mathlib.Decide.{dec_lt}
use borrow.Author.Tests.{eq-eqb}
use Rattle.ground.proofs.Bools.{never}
use Rattle.ground.specs.Chain.{refuse}
use Rattle.bundle.specs.Program.{program_of}
use Rattle.structure.specs.Structure.{structure_of}
use Rattle.verifier.proofs.FirstBroken.{agrees_back}
use Rattle.threads.specs.declared.Thread.{Thread}
use Rattle.threads.specs.Threads.{idle}
use Rattle.state.specs.declared.State.{State}
use Rattle.state.specs.State.{count_of, empty_state}
use Rattle.turns.specs.Moves.{first_fields}
use Rattle.machine.specs.Machine.{main_thread, fresh_state, readable, fresh_of}
use Rattle.machine.specs.Runs.{Step, after, run, reached}
use Rattle.history.specs.Event.{Event}
use Rattle.history.specs.Reading.{enters, exits, live_after, since_start, number, entered, exited, live_by}
use Rattle.history.specs.History.{event_of, history_from, history}
use Rattle.history.specs.Agreement.{is_live, with_step, added, CountsAgree, CountsAgreeUnchecked}
use Rattle.history.proofs.Reading.{begun, one_more, begins-new, begins-no-live}
use Rattle.history.proofs.Told.{Told, both-written}
use Rattle.history.proofs.Lives.{made}
use Rattle.history.proofs.Steps.{after-told}

-- ---- the fresh machine
no-count : (t o : ℕ) → t < 8 → o < 32 → count_of (replicate 256 0) t o ≡ 0
no-count t o l k = get_or-replicate 256 (t * 32 + o) 0 0 (omega arith)

none-live : (t : ℕ) → t < 8 → get_or (replicate 8 false) t false ≡ (get_or (replicate 8 idle) t idle).live
none-live t l = rw (get_or-replicate 8 t false false l, get_or-replicate 8 t idle idle l)

at_first : (s : State) → s.threads ≡ set (replicate 8 idle) 0 main_thread → s.counts ≡ replicate 256 0 → Told [] s
unfolding live_after since_start number
at_first s e c =
    record {
      threads_8 = rw e;
      counts_256 = rw c;
      live_8 = refl;
      lives = λ t l. rw e (both-written (replicate 8 false) (replicate 8 idle) 0 true main_thread refl refl refl (omega arith) none-live t l);
      counted = λ t o l k. rw (c, no-count t o l k);
    }

-- that the bundle can be run is used here, and nowhere else: under 17 the fresh machine has no live thread
fresh-is : (b : List ℕ) → readable b ≡ true → (fresh_of b).state ≡ fresh_state (program_of b)
unfolding fresh_of refuse
fresh-is b r = rw r

fresh-told : (b : List ℕ) → readable b ≡ true → Told [] (fresh_of b).state
fresh-told b r =
    let P = program_of b in
    let m = made empty_state P.exception (first_fields (P.method P.exception)) in
    rw (fresh-is b r) (at_first (fresh_state P) (ap (λ (l : List Thread). set l 0 main_thread) m.0) m.1)

-- ---- a list of steps
run-told : (b : List ℕ) (past : List Event) (s : State) → Told past s → (xs : List Step) → Told (reverse_aux (history_from b s xs) past) (run b s xs)
unfolding history_from run
run-told b past s h [] = h
run-told b past s h (x ∷ xs) = run-told b (event_of b s x ∷ past) (after b s x) (after-told b past s h x) xs

-- one step more is one event more, the latest
history-more : (b : List ℕ) (past : List Event) (s : State) (xs : List Step) (x : Step)
    → reverse_aux (history_from b s (with_step xs x)) past ≡ event_of b (run b s xs) x ∷ reverse_aux (history_from b s xs) past
unfolding history_from run
history-more b past s [] x = refl
history-more b past s (y ∷ xs) x = history-more b (event_of b s y ∷ past) (after b s y) xs x

-- the events of a list of steps, the latest first
abbrev past_of : List ℕ → List Step → List Event
past_of b xs = reverse_aux (history b xs) []

module _ (b : List ℕ) (r : readable b ≡ true) (xs : List Step) where
  told : Told (past_of b xs) (reached b xs)
  told = run-told b [] (fresh_of b).state (fresh-told b r) xs

  -- a number above 7 is never live, by the history or in the state
  past-eight : (t : ℕ) → 8 ≤ t → (live_by (history b xs) t ≡ false) × (is_live b xs t ≡ false)
  past-eight t l = (
    get_or-eq_default (live_after (past_of b xs)) false {n = t} (omega (arith, told.live_8)),
    ap (λ (u : Thread). u.live) (get_or-eq_default (reached b xs).threads idle {n = t} (omega (arith, told.threads_8))),
  )

  live-agrees : (t : ℕ) → live_by (history b xs) t ≡ is_live b xs t
  live-agrees t = go (dec_lt t 8)
    where
      go : Dec (t < 8) → live_by (history b xs) t ≡ is_live b xs t
      go (yes l) = told.lives t l
      go (no l) = let f = past-eight t (omega arith) in f.0 ∙ sym f.1

  count-agrees : (t o : ℕ) → is_live b xs t ≡ true → o < 32
      → entered (history b xs) t o ≡ exited (history b xs) t o + count_of (reached b xs).counts t o
  count-agrees t o a k = go (dec_lt t 8)
    where
      go : Dec (t < 8) → entered (history b xs) t o ≡ exited (history b xs) t o + count_of (reached b xs).counts t o
      go (yes l) = told.counted t o l k
      go (no l) = never a (past-eight t (omega arith)).1

-- ---- one step more: either number, of the events that are such
module _ (b : List ℕ) (r : readable b ≡ true) (xs : List Step) (x : Step) (such : Event → Bool) (t : ℕ) where
  more : past_of b (with_step xs x) ≡ event_of b (reached b xs) x ∷ past_of b xs
  more = history-more b [] (fresh_of b).state xs x

  started_none : is_live b xs t ≡ false → is_live b (with_step xs x) t ≡ true → number such (since_start t (past_of b (with_step xs x))) ≡ 0
  started_none old new =
      let a = rw more at (live-agrees b r (with_step xs x) t ∙ new) in
      rw more (begun such t (past_of b xs) (event_of b (reached b xs) x) (begins-new (past_of b xs) (event_of b (reached b xs) x) t (live-agrees b r xs t ∙ old) a))

  live-grows : is_live b xs t ≡ true → number such (since_start t (past_of b (with_step xs x))) ≡ added t such (event_of b (reached b xs) x) + number such (since_start t (past_of b xs))
  live-grows a =
      rw more
      (one_more such t (past_of b xs) (event_of b (reached b xs) x)
      (begins-no-live (past_of b xs) (event_of b (reached b xs) x) t (told b r xs).live_8 (live-agrees b r xs t ∙ a)))

none_yet : (b : List ℕ) (such : Event → Bool) (t : ℕ) → number such (since_start t (past_of b [])) ≡ 0
unfolding history_from since_start number
none_yet b such t = refl

-- THEOREM: of every bundle that can be run
pub counts-agree-unchecked : CountsAgreeUnchecked
counts-agree-unchecked b r =
    record {
      live = live-agrees b r;
      never_less = λ xs t o a k. omega (arith, count-agrees b r xs t o a k);
      count = λ xs t o a k. omega (arith, count-agrees b r xs t o a k);
      at_first = λ t o. (none_yet b (enters o) t, none_yet b (exits o) t);
      at_start = λ xs x t o old new. (started_none b r xs x (enters o) t old new, started_none b r xs x (exits o) t old new);
      enters_grow = λ xs x t o a. live-grows b r xs x (enters o) t a;
      exits_grow = λ xs x t o a. live-grows b r xs x (exits o) t a;
    }

-- COROLLARY, Q-2: verdict 0 is used here, and says no more than that the bundle can be run
pub counts-agree : CountsAgree
counts-agree b e = counts-agree-unchecked b (eq-eqb (structure_of b).number 0 (agrees_back b e))
