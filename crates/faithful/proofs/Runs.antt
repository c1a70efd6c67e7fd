-- THEOREM: instruction after instruction, what is written does what was read.
use mathlib.Core.Path.{◌≡◌, refl, ◌∙◌, subst}
use mathlib.Core.Bool.{Bool, true, false, cond, ◌||◌}
use mathlib.Core.List.{List, [], ◌∷◌}
use Prim.Native.Nat.{ℕ, ◌≤◌, ◌<◌}
use native.Mathlib.Omega.{arith}
use native.Mathlib.Decide.{ℕ_discrete}
use lib.ListN.{get_or}
use lib.Dec.{eqb, ltb, leb}
use borrow.Author.Tests.{eq-eqb, ne_eqb}
use Rattle.values.specs.declared.Slot.{Slot}
use Rattle.values.specs.Values.{zero_slot, ref_slot, is_null, object_of}
use Rattle.state.specs.declared.State.{State}
use Rattle.turns.specs.Stepped.{Stepped}
use Rattle.java.specs.declared.Java.{Java}
use Rattle.java.specs.declared.Java.TheVariants.{Nop, Pop, Iconst0, Load, Store, Ifne, Enter, Exit, New, Athrow, Return, Iinc, Other}
use Rattle.java.specs.Instructions.{java_at}
use Rattle.java.specs.Classes.{class_number}
use Rattle.offsets.specs.Handlers.{entries, handler_of, covered_by}
use Rattle.classfile.specs.Attribute.{code_of, table_of}
use Rattle.faithful.specs.Frames.{Frame, frame, top_of, changed, create, alone, Left, goes, returned, uncaught, throws, does}
use Rattle.faithful.specs.Faithful.{Carries, seen, Agree, At, steps, told, Leaves, and_then, runs, doing, Told, FaithfulRuns}
use Rattle.faithful.proofs.Moves.{low}
use Rattle.faithful.proofs.Faithful.{faithful}

-- ---- from values that agree an instruction leaves values that agree
abbrev Alike : Left → Left → Type 0
Alike (goes q f) (goes r g) = (q ≡ r) × Agree f g
Alike (goes q f) returned = ⊥
Alike (goes q f) uncaught = ⊥
Alike returned (goes r g) = ⊥
Alike returned returned = Unit
Alike returned uncaught = ⊥
Alike uncaught (goes r g) = ⊥
Alike uncaught returned = ⊥
Alike uncaught uncaught = Unit

-- a number for each object, that of o changed on both sides
changed-alike : (c d : ℕ → ℕ) → ((q : ℕ) → q < 32 → c q ≡ d q) → (o m n : ℕ) → (o < 32 → m ≡ n) → (q : ℕ) → q < 32 → changed c o m q ≡ changed d o n q
changed-alike c d h o m n k q l = go (ℕ_discrete q o)
  where
    go : Dec (q ≡ o) → changed c o m q ≡ changed d o n q
    go (yes e) = rw (eq-eqb q o e) (k (omega arith))
    go (no e) = rw (ne_eqb q o e) (h q l)

-- variables, stack and number of objects are the same; counts and classes agree
module _ (classes code table : List ℕ) (p : ℕ) (vars stack : List Slot) (objects : ℕ) (c d k l : ℕ → ℕ)
    (same-counts : (q : ℕ) → q < 32 → c q ≡ d q) (same-kinds : (q : ℕ) → q < 32 → k q ≡ l q) where
  abbrev one : Frame
  one = frame vars stack c objects k

  abbrev other : Frame
  other = frame vars stack d objects l

  plain : (vs st : List Slot) → Agree (frame vs st c objects k) (frame vs st d objects l)
  plain vs st = record { vars = refl; stack = refl; counts = same-counts; objects = refl; kinds = same-kinds }

  moved : (o m n : ℕ) → (o < 32 → m ≡ n) → Agree (frame vars stack (changed c o m) objects k) (frame vars stack (changed d o n) objects l)
  moved o m n h = record { vars = refl; stack = refl; counts = changed-alike c d same-counts o m n h; objects = refl; kinds = same-kinds }

  made : (n : ℕ) → Agree (create n one) (create n other)
  made n = record { vars = refl; stack = refl; counts = same-counts; objects = refl; kinds = changed-alike k l same-kinds objects n n (λ h. refl) }

  thrown : (offset : ℕ) (x : Slot) (st : List Slot) → Alike (throws table offset x (frame vars st c objects k)) (throws table offset x (frame vars st d objects l))
  unfolding throws
  thrown offset x st = go (ltb (covered_by table offset) (entries table))
    where
      go : (j : Bool) → Alike (cond j (goes (handler_of table (covered_by table offset)) (alone x (frame vars st c objects k))) uncaught)
          (cond j (goes (handler_of table (covered_by table offset)) (alone x (frame vars st d objects l))) uncaught)
      go true = (refl, plain vars (x ∷ []))
      go false = tt

  either : (j : Bool) (u v u' v' : Left) → Alike u u' → Alike v v' → Alike (cond j u v) (cond j u' v')
  either true u v u' v' x y = x
  either false u v u' v' x y = y

  each : (J : Java) (fails : Bool) → Alike (does classes code table p J fails one) (does classes code table p J fails other)
  each Nop fails = (refl, plain vars stack)
  each Pop fails = (refl, plain _ _)
  each Iconst0 fails = (refl, plain _ _)
  each (Load v) fails = (refl, plain _ _)
  each (Store v) fails = (refl, plain _ _)
  each (Ifne e) fails = (refl, plain _ _)
  each (Enter v) fails =
      either (is_null (get_or vars v zero_slot)) _ _ _ _ (thrown _ (ref_slot 0) _)
      (refl, moved (object_of (get_or vars v zero_slot)) _ _ (λ h. rw (same-counts _ h)))
  each (Exit v) fails = (refl, moved (object_of (get_or vars v zero_slot)) _ _ (λ h. rw (same-counts _ h)))
  each (New n) fails = either (fails || leb 32 objects) _ _ _ _ (thrown p (ref_slot 0) stack) (refl, made (class_number classes n))
  each Athrow fails = thrown p (top_of stack) stack
  each Return fails = tt
  each (Iinc v) fails = (refl, plain _ _)
  each Other fails = (refl, plain vars stack)

module _ (classes code table : List ℕ) where
  does-alike : (p : ℕ) (J : Java) (fails : Bool) (f g : Frame) → Agree f g → Alike (does classes code table p J fails f) (does classes code table p J fails g)
  does-alike p J fails f g h =
      subst (λ (vs : List Slot). Alike (does classes code table p J fails f) (does classes code table p J fails (frame vs g.stack g.counts g.objects g.kinds))) h.vars
      (subst (λ (st : List Slot). Alike (does classes code table p J fails f) (does classes code table p J fails (frame f.vars st g.counts g.objects g.kinds))) h.stack
      (subst (λ (n : ℕ). Alike (does classes code table p J fails f) (does classes code table p J fails (frame f.vars f.stack g.counts n g.kinds))) h.objects
      (each classes code table p f.vars f.stack f.objects f.counts g.counts f.kinds g.kinds h.counts h.kinds J fails)))

agree_then : (f g h : Frame) → Agree f g → Agree g h → Agree f h
agree_then f g h x y =
    record {
      vars = x.vars ∙ y.vars;
      stack = x.stack ∙ y.stack;
      counts = λ o n. x.counts o n ∙ y.counts o n;
      objects = x.objects ∙ y.objects;
      kinds = λ o n. x.kinds o n ∙ y.kinds o n;
    }

-- ---- the run
module _ (a classes out b : List ℕ) (c : ℕ) (carries : Carries b c a classes out) (i : ℕ) where
  abbrev code : List ℕ
  code = code_of a

  abbrev table : List ℕ
  table = table_of a

  -- what is claimed of the rest of a run
  abbrev Rest : List (List Bool) → Type 0
  Rest xs =
      (s : State) (p : ℕ) (f : Frame) → At code c s i p → Agree (seen s i) f → Told classes code table xs (goes p f) → (runs b i xs s).answer ≤ 2
      → Leaves code c i (runs b i xs s) (doing classes code table xs (goes p f))

  -- the instruction left u by the values that are seen, and v by those that agree
  after : (xs : List (List Bool)) → Rest xs → (r : Stepped) (u v : Left) → Leaves code c i r u → Alike u v → Told classes code table xs v
      → (and_then (runs b i xs) r).answer ≤ 2 → Leaves code c i (and_then (runs b i xs) r) (doing classes code table xs v)
  unfolding runs doing
  after xs rest r (goes q f) (goes q' g) h (e, k) t w =
      let z = eq-eqb r.answer 0 h.went in
      let there = subst (At code c r.state i) e h.there in
      rw z (rest r.state q' g there (agree_then (seen r.state i) f g h.values k) t (rw z at w))
  after [] rest r returned returned h k t w = rw (ne_eqb r.answer 0 (λ e. omega arith)) h
  after [] rest r uncaught uncaught h k t w = rw (ne_eqb r.answer 0 (λ e. omega arith)) h
  after (x ∷ xs) rest r returned returned h k t w = absurd t
  after (x ∷ xs) rest r uncaught uncaught h k t w = absurd t
  after xs rest r (goes q f) returned h k t w = absurd k
  after xs rest r (goes q f) uncaught h k t w = absurd k
  after xs rest r returned (goes q g) h k t w = absurd k
  after xs rest r returned uncaught h k t w = absurd k
  after xs rest r uncaught (goes q g) h k t w = absurd k
  after xs rest r uncaught returned h k t w = absurd k

  from : (xs : List (List Bool)) → Rest xs
  unfolding runs doing
  from [] s p f S k t w = record { went = refl; values = k; there = S }
  from (x ∷ xs) s p f S k t w =
      after xs (from xs) (steps b i x s) (does classes code table p (java_at code p) (told x) (seen s i)) (does classes code table p (java_at code p) (told x) f)
      (faithful a classes out b c carries s i p x S t.0 t.1 (low b i (runs b i xs) (steps b i x s) (eqb (steps b i x s).answer 0) refl w))
      (does-alike classes code table p (java_at code p) (told x) (seen s i) f k) t.2 w

-- THEOREM
pub faithful-runs : FaithfulRuns
faithful-runs a classes out b c h s i p xs S t w =
    from a classes out b c h i xs s p (seen s i) S (record { vars = refl; stack = refl; counts = λ o n. refl; objects = refl; kinds = λ o n. refl }) t w
