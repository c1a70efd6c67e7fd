-- The invariant: what the events so far tell of the state. An event with what it did to the state keeps it.
use mathlib.Core.Path.{◌≡◌, sym, ◌∙◌, ap}
use mathlib.Core.Bool.{Bool, true, false, cond, not, ◌&&◌}
use mathlib.Core.List.{List, ◌∷◌}
use Prim.Native.Nat.{ℕ, ◌+◌, ◌<◌}
use lib.Dec.{eqb}
use lib.ListN.{length, get_or, set, length-set}
use lib.Seq.{get_or-set_same, get_or-set_other}
use native.Mathlib.Omega.{arith}
use native.Mathlib.Decide.{ℕ_discrete}
use borrow.Author.Tests.{eq-eqb, ne_eqb}
use Rattle.ground.proofs.Bools.{and-false}
use Rattle.threads.specs.declared.Thread.{Thread}
use Rattle.threads.specs.Threads.{idle}
use Rattle.state.specs.declared.State.{State}
use Rattle.state.specs.State.{thread_at, count_of, not_live, lowest_free}
use Rattle.history.specs.Event.{Event}
use Rattle.history.specs.Reading.{starts, ends, enters, exits, is_of, unused, taken, live_after, begins, since_start, number}
use Rattle.history.proofs.Reading.{live_on, live-ended, live-started, begun, one_more, first-same}

-- `counted` is of all eight numbers, live or not: a thread that ends holds nothing, so its monitorenters are then its monitorexits
pub record Told (past : List Event) (s : State) : Type 0 where
  pub threads_8 : length s.threads ≡ 8
  pub counts_256 : length s.counts ≡ 256
  pub live_8 : length (live_after past) ≡ 8
  pub lives : (t : ℕ) → t < 8 → get_or (live_after past) t false ≡ (thread_at s t).live
  pub counted : (t o : ℕ) → t < 8 → o < 32
      → number (enters o) (since_start t past) ≡ number (exits o) (since_start t past) + count_of s.counts t o

-- what an event that starts no thread says of the counts: its monitorenter is one more, its monitorexit one less, of its thread and its object
abbrev pub Balanced : Event → List ℕ → List ℕ → Type 0
Balanced e before then =
    (t o : ℕ) → t < 8 → o < 32 → cond (is_of t e && enters o e) 1 0 + count_of before t o ≡ cond (is_of t e && exits o e) 1 0 + count_of then t o

-- the same write to both
pub both-written : (l : List Bool) (m : List Thread) (i : ℕ) (v : Bool) (u : Thread) → u.live ≡ v → length l ≡ 8 → length m ≡ 8 → i < 8
    → ((j : ℕ) → j < 8 → get_or l j false ≡ (get_or m j idle).live)
    → (j : ℕ) → j < 8 → get_or (set l i v) j false ≡ (get_or (set m i u) j idle).live
both-written l m i v u d p q b h j k = go (ℕ_discrete j i)
  where
    go : Dec (j ≡ i) → get_or (set l i v) j false ≡ (get_or (set m i u) j idle).live
    go (yes e) = rw (e, get_or-set_same l i v false (omega arith), get_or-set_same m i u idle (omega arith)) (sym d)
    go (no e) = rw (get_or-set_other l i j v false e, get_or-set_other m i j u idle e) (h j k)

module _ (past : List Event) (s : State) (h : Told past s) where
  no-begin : (e : Event) (t : ℕ) → starts e ≡ false → begins past e t ≡ false
  unfolding begins
  no-begin e t p = rw p

  balance : (e : Event) (s' : State) → starts e ≡ false → Balanced e s.counts s'.counts → (t o : ℕ) → t < 8 → o < 32
      → number (enters o) (since_start t (e ∷ past)) ≡ number (exits o) (since_start t (e ∷ past)) + count_of s'.counts t o
  balance e s' p c t o l k =
      rw (one_more (enters o) t past e (no-begin e t p), one_more (exits o) t past e (no-begin e t p)) (omega (arith, c t o l k, h.counted t o l k))

  -- an event that neither starts nor ends a thread
  pub goes : (e : Event) (s' : State) → starts e ≡ false → ends e ≡ false
      → length s'.threads ≡ 8 → length s'.counts ≡ 256
      → ((t : ℕ) → t < 8 → (thread_at s t).live ≡ (thread_at s' t).live)
      → Balanced e s.counts s'.counts → Told (e ∷ past) s'
  goes e s' p q n m a c =
      record {
        threads_8 = n;
        counts_256 = m;
        live_8 = rw (live_on past e p q) h.live_8;
        lives = λ t l. rw (live_on past e p q) (h.lives t l ∙ a t l);
        counted = balance e s' p c;
      }

  -- an event that ends thread i, which is u from then on
  pub ended : (e : Event) (i : ℕ) (u : Thread) (s' : State) → e.thread ≡ i → i < 8 → starts e ≡ false → ends e ≡ true
      → ((o : ℕ) → enters o e ≡ false) → ((o : ℕ) → exits o e ≡ false) → u.live ≡ false
      → s'.threads ≡ set s.threads i u → s'.counts ≡ s.counts → Told (e ∷ past) s'
  ended e i u s' w li p q x y d f g =
      record {
        threads_8 = rw (f, length-set s.threads i u) h.threads_8;
        counts_256 = rw g h.counts_256;
        live_8 = rw (live-ended past e p q, length-set (live_after past) e.thread false) h.live_8;
        lives = λ t l. rw (live-ended past e p q, w, f) (both-written (live_after past) s.threads i false u d h.live_8 h.threads_8 li h.lives t l);
        counted = balance e s' p (λ t o l k. rw (x o, y o, and-false (is_of t e), g));
      }

  -- a start takes the lowest free number
  same_number : taken (live_after past) ≡ lowest_free s
  unfolding taken lowest_free
  same_number = first-same 8 (unused (live_after past)) (not_live s) (λ j l. ap not (h.lives j l))

  beginning : (e : Event) → starts e ≡ true → (j t : ℕ) → j ≡ lowest_free s → begins past e t ≡ eqb t j
  unfolding begins
  beginning e p j t w = rw (p, same_number, w)

  -- an event that starts thread j, which is u from then on, and holds nothing
  pub began : (e : Event) (j : ℕ) (u : Thread) (s' : State) → j ≡ lowest_free s → j < 8 → starts e ≡ true
      → ((o : ℕ) → enters o e ≡ false) → ((o : ℕ) → exits o e ≡ false) → u.live ≡ true
      → length s'.threads ≡ 8 → s'.counts ≡ s.counts
      → ((t : ℕ) → t < 8 → (get_or (set s.threads j u) t idle).live ≡ (thread_at s' t).live)
      → ((o : ℕ) → o < 32 → count_of s.counts j o ≡ 0)
      → Told (e ∷ past) s'
  began e j u s' w lj p x y d n g a z =
      record {
        threads_8 = n;
        counts_256 = rw g h.counts_256;
        live_8 = rw (live-started past e p, length-set (live_after past) (taken (live_after past)) true) h.live_8;
        lives = λ t l. rw (live-started past e p, same_number, ← w) (both-written (live_after past) s.threads j true u d h.live_8 h.threads_8 lj h.lives t l ∙ a t l);
        counted = λ t o l k. go t o l k (ℕ_discrete t j);
      }
    where
      go : (t o : ℕ) → t < 8 → o < 32 → Dec (t ≡ j)
          → number (enters o) (since_start t (e ∷ past)) ≡ number (exits o) (since_start t (e ∷ past)) + count_of s'.counts t o
      go t o l k (yes q) =
          let f : begins past e t ≡ true = beginning e p j t w ∙ eq-eqb t j q in
          rw (begun (enters o) t past e f, begun (exits o) t past e f, g, q, z o k)
      go t o l k (no q) =
          let f : begins past e t ≡ false = beginning e p j t w ∙ ne_eqb t j q in
          rw (one_more (enters o) t past e f, one_more (exits o) t past e f, x o, y o, and-false (is_of t e), g) (omega (arith, h.counted t o l k))
