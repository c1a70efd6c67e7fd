-- A class settled: a row without a mark has what is asked of it, so that with no mark left all have it; marks and room together fall at every look.
use mathlib.Core.List.{List}
use mathlib.Core.Path.{◌≡◌, refl, sym, ap, ◌∙◌}
use mathlib.Core.Logic.{inl, inr}
use mathlib.Core.Bool.{Bool, true, false, cond, ◌||◌}
use Prim.Native.Nat.{ℕ, zero, suc, ◌+◌, ◌*◌, ◌-◌, ◌≤◌, ◌<◌}
use native.Mathlib.Omega.{arith}
use native.Mathlib.Decide.{ℕ_discrete, dec_lt}
use lib.ListN.{length, get_or, set, length-set, replicate}
use lib.Seq.{get_or-set_same, get_or-set_other}
use lib.Dec.{eqb}
use borrow.Author.Tests.{eq-eqb}
use Rattle.std.specs.Prelude.{Option, Some, None}
use Rattle.ground.specs.Bytes.{at}
use Rattle.ground.specs.Bounded.{count_below}
use Rattle.ground.proofs.Bools.{never, or-true}
use Rattle.ground.proofs.Bounded.{count_under}
use Rattle.ground.proofs.Writes.{set_below_lem, set-length}
use Rattle.bundle.specs.declared.Class.{Class}
use Rattle.bundle.specs.Container.{classes, class_at, part_of, instruction_at}
use Rattle.structure.proofs.Structured.{class-limits}
use Rattle.shape.specs.PairBytes.{Reference}
use Rattle.shape.proofs.Readable.{good}
use Rattle.choices.specs.Asked.{Enough}
use Rattle.choices.proofs.Choices.{instruction-same}
use Rattle.passes.specs.Passes.{Lower, room, goal_of, code_of, Reads, Raised, Given, GivenClass, EverySlot, ClassSettled, Settled}
use Rattle.passes.specs.Marks.{is_marked, marks_left, goal_at, goals, Marked, Found, Looked, Going}
use Rattle.passes.proofs.Writes.{reads}
use Rattle.passes.proofs.Clears.{class-is, count-is}

-- ---- how many are marked
count-le : (n : ℕ) (p q : ℕ → Bool) → ((i : ℕ) → q i ≡ true → p i ≡ true) → count_below n q ≤ count_below n p
unfolding count_below
count-le zero p q f = omega arith
count-le (suc n) p q f = go (q n) refl (count-le n p q f)
  where
    go : (t : Bool) → q n ≡ t → count_below n q ≤ count_below n p → count_below n q + cond t 1 0 ≤ count_below n p + cond (p n) 1 0
    go true e h = rw (f n e) (omega arith)
    go false e h = omega arith

count_less : (n : ℕ) (p q : ℕ → Bool) → ((i : ℕ) → q i ≡ true → p i ≡ true) → (l : ℕ) → l < n → p l ≡ true → q l ≡ false → count_below n q < count_below n p
unfolding count_below
count_less zero p q f l h a z = absurd (omega arith)
count_less (suc n) p q f l h a z = go (ℕ_discrete l n) (λ k. count_less n p q f l k a z) (count-le n p q f) (q n) refl
  where
    go : Dec (l ≡ n) → (l < n → count_below n q < count_below n p) → count_below n q ≤ count_below n p → (t : Bool) → q n ≡ t → count_below n q + cond t 1 0 < count_below n p + cond (p n) 1 0
    go (yes e) r m t d =
        let a' : p n ≡ true = rw e at a in
        let z' : q n ≡ false = rw e at z in
        last t d a' z'
      where
        last : (t : Bool) → q n ≡ t → p n ≡ true → q n ≡ false → count_below n q + cond t 1 0 < count_below n p + cond (p n) 1 0
        last true d a' z' = never d z'
        last false d a' z' = rw a' (omega arith)
    go (no e) r m true d = rw (f n d) (omega (arith, r (omega arith)))
    go (no e) r m false d = omega (arith, r (omega arith))

-- ---- all are marked
every : (i j : ℕ) → j < i → get_or (replicate i true) j false ≡ true
every zero j h = absurd (omega arith)
every (suc i) zero h = refl
every (suc i) (suc j) h = every i j (omega arith)

pub all-marked : (l : ℕ) → l ≤ 256 → is_marked (replicate 257 true) l ≡ true
all-marked l h = every 257 l (omega arith)

-- ---- a mark taken away
module _ (m : List Bool) (l : ℕ) where
  taken-same : l < length m → is_marked (set m l false) l ≡ false
  taken-same h = get_or-set_same m l false false h

  taken-other : (j : ℕ) → (j ≡ l → ⊥) → is_marked (set m l false) j ≡ is_marked m j
  taken-other j f = get_or-set_other m l j false false f

  taken-less : length m ≡ 257 → l < 257 → is_marked m l ≡ true → marks_left (set m l false) < marks_left m
  unfolding marks_left
  taken-less e h t = count_less 257 (is_marked m) (is_marked (set m l false)) back l h t (taken-same (omega arith))
    where
      back : (i : ℕ) → is_marked (set m l false) i ≡ true → is_marked m i ≡ true
      back i u = go (ℕ_discrete i l)
        where
          go : Dec (i ≡ l) → is_marked m i ≡ true
          go (yes d) = rw d t
          go (no d) = rw (taken-other i d) at u

few-left : (m : List Bool) → marks_left m ≤ 257
unfolding marks_left
few-left m = count_under (is_marked m) 257

-- ---- the targets and handlers
module _ (k : Class) (r : List ℕ) where
  pub goal-at : k.code ≤ 256 → (l : ℕ) → l ≤ k.code → at (goals k r) l ≡ goal_at k r l
  unfolding goals
  goal-at h l q = set_below_lem (goal_at k r) (replicate 257 0) (k.code + 1) l 0 (omega arith) (omega arith)

  pub goals-long : length (goals k r) ≡ 257
  unfolding goals
  goals-long = set-length (goal_at k r) (replicate 257 0) (k.code + 1)

-- ---- the rows that read row l are marked, place after place
abbrev pub MarkedBelow : List ℕ → ℕ → ℕ → List Bool → List Bool → Type 0
MarkedBelow g i l m m' = (length m' ≡ length m) × ((j : ℕ) → is_marked m' j ≡ false → is_marked m j ≡ false) × ((j : ℕ) → j < i → l ≡ at g j → is_marked m' j ≡ true)

module _ (g : List ℕ) (l : ℕ) (m : List Bool) where
  pub mark-begins : MarkedBelow g 0 l m m
  mark-begins = (refl, (λ j e. e), (λ j q. absurd (omega arith)))

  pub mark-goes-on : (i : ℕ) (m' : List Bool) (v : Bool) → i < length m → v ≡ (is_marked m' i || eqb (at g i) l) → MarkedBelow g i l m m' → MarkedBelow g (i + 1) l m (set m' i v)
  mark-goes-on i m' v h ev a =
      (length-set m' i v ∙ a.0, (λ j q. a.1 j (back j q)), (λ j q e. go j q e (ℕ_discrete j i)))
    where
      far : i < length m'
      far = omega (arith, a.0)

      from : (t u : Bool) → (t || u) ≡ false → t ≡ false
      from true u e = e
      from false u e = refl

      back : (j : ℕ) → is_marked (set m' i v) j ≡ false → is_marked m' j ≡ false
      back j e = which (ℕ_discrete j i)
        where
          which : Dec (j ≡ i) → is_marked m' j ≡ false
          which (yes d) =
              let f : is_marked (set m' i v) i ≡ false = rw d at e in
              rw d (from (is_marked m' i) (eqb (at g i) l) (sym ev ∙ sym (get_or-set_same m' i v false far) ∙ f))
          which (no d) = rw (get_or-set_other m' i j v false d) at e

      kept : (j : ℕ) → is_marked m' j ≡ true → is_marked (set m' i v) j ≡ true
      kept j e = which (is_marked (set m' i v) j) refl
        where
          which : (t : Bool) → is_marked (set m' i v) j ≡ t → is_marked (set m' i v) j ≡ true
          which true q = q
          which false q = never e (back j q)

      go : (j : ℕ) → j < i + 1 → l ≡ at g j → Dec (j ≡ i) → is_marked (set m' i v) j ≡ true
      go j q e (yes d) =
          let e' : l ≡ at g i = rw d at e in
          rw d (get_or-set_same m' i v false far ∙ ev ∙ rw (eq-eqb (at g i) l (sym e')) (or-true (is_marked m' i)))
      go j q e (no d) = kept j (a.2 j (omega arith) e)

  -- .. and last the address before it
  pub mark-ends : (code i p : ℕ) (m' : List Bool) → code < i → p < length m → l ≡ p + 1 → MarkedBelow g i l m m' → Marked g code l m (set m' p true)
  mark-ends code i p m' h k e a =
      record {
        long = length-set m' p true ∙ a.0;
        kept = λ j q. a.1 j (back j q);
        next = λ j q. let d : j ≡ p = omega arith in rw d (get_or-set_same m' p true false far);
        goal = λ j q d. on j (a.2 j (omega arith) d);
      }
    where
      far : p < length m'
      far = omega (arith, a.0)

      on : (j : ℕ) → is_marked m' j ≡ true → is_marked (set m' p true) j ≡ true
      on j q = go (ℕ_discrete j p)
        where
          go : Dec (j ≡ p) → is_marked (set m' p true) j ≡ true
          go (yes d) = rw d (get_or-set_same m' p true false far)
          go (no d) = rw (get_or-set_other m' p j true false d) q

      back : (j : ℕ) → is_marked (set m' p true) j ≡ false → is_marked m' j ≡ false
      back j q = go (is_marked m' j) refl
        where
          go : (t : Bool) → is_marked m' j ≡ t → is_marked m' j ≡ false
          go true d = never (on j d) q
          go false d = d

-- ---- marks are looked for, from the last place on
pub found-on : (m : List Bool) (l top : ℕ) → ((j : ℕ) → l < j → j ≤ top → is_marked m j ≡ false) → is_marked m l ≡ false → (j : ℕ) → l - 1 < j → j ≤ top → is_marked m j ≡ false
found-on m l top f e j h q = go (dec_lt l j)
  where
    go : Dec (l < j) → is_marked m j ≡ false
    go (yes k) = f j k q
    go (no k) = let d : j ≡ l = omega arith in rw d e

-- up to `from` first, then above it
module _ (m : List Bool) (code from : ℕ) where
  pub found_first : (l : ℕ) → Found m 0 from (Some l) → from ≤ code → Found m 0 code (Some l)
  found_first l d f = (d.0, omega (arith, d.1), d.2)

  pub found-second : Found m 0 from None → (o : Option ℕ) → Found m from code o → Found m 0 code o
  found-second d None f = λ j h q. go j h q (dec_lt from j)
    where
      go : (j : ℕ) → 0 < j → j ≤ code → Dec (from < j) → is_marked m j ≡ false
      go j h q (yes k) = f j k q
      go j h q (no k) = d j h (omega arith)
  found-second d (Some l) f = (omega (arith, f.0), f.1, f.2)

pub found-upto : (m : List Bool) (code l : ℕ) → Found m 0 code (Some l) → l ≤ code
found-upto m code l d = d.1

-- ---- a look at row l
module _ (n c : ℕ) (k : Class) (g : List ℕ) (l : ℕ) (m : List Bool) (x : List ℕ) where
  pub look_none : (o : ℕ) (x' : List ℕ) → (o ≡ 1 → ⊥) → Raised (Given n c k l) c l EverySlot x o x' → Looked n c k g l m x o (set m l false) x'
  look_none o x' f d = record { row = d; long = length-set m l false; none = λ e. refl; risen = λ e. absurd (f e) }

  pub look-risen : (m' : List Bool) (x' : List ℕ) → Raised (Given n c k l) c l EverySlot x 1 x' → Marked g k.code l (set m l false) m' → Looked n c k g l m x 1 m' x'
  look-risen m' x' d w = record { row = d; long = w.long ∙ length-set m l false; none = λ z. absurd (omega arith); risen = λ z. w }

-- ---- on the way
module _ (n c : ℕ) (k : Class) (x₀ : List ℕ) (ek : k ≡ class_at x₀ c) (few : k.code ≤ 256) (g : List ℕ) (eg : g ≡ goals k (part_of x₀ k)) where
  pub class-begins : (m : List Bool) → m ≡ replicate 257 true → Going n c x₀ m x₀
  class-begins m e =
      record {
        keeps = λ b g L. L;
        clean = λ b h L l s u r. never (rw e (all-marked l (omega (arith, r.in_use.last, ap (λ (j : Class). j.code) (class-is c k x₀ ek b (h.1, reads L)))))) u;
        others = λ b h L c' l s f r z. z;
        long = refl;
        marks = rw e;
      }

  code_is : (b : List ℕ) → GivenClass n c b → Lower b x₀ → (l : ℕ) → 1 ≤ l → l ≤ (class_at b c).code → goal_at (class_at b c) (part_of x₀ (class_at b c)) l ≡ goal_of (code_of b c l)
  unfolding instruction_at
  code_is b h L l low high = rw (instruction-same b L.readable x₀ L.choice.alike c h.1 l low high)

  goal-is : (b : List ℕ) → GivenClass n c b → Lower b x₀ → (l : ℕ) → 1 ≤ l → l ≤ k.code → at g l ≡ goal_of (code_of b c l)
  goal-is b h L l low high =
      let e = class-is c k x₀ ek b (h.1, reads L) in
      let high' : l ≤ (class_at b c).code = rw e at high in
      rw eg (goal-at k (part_of x₀ k) few l high ∙ rw e (code_is b h L l low high'))

  module _ (l : ℕ) (low : 1 ≤ l) (high : l ≤ k.code) (m m' : List Bool) (x x' : List ℕ) (o : ℕ) (a : Going n c x₀ m x) (d : Looked n c k g l m x o m' x') where
    given : (b : List ℕ) → GivenClass n c b → Lower b x₀ → Given n c k l b
    given b h L =
        let e = class-is c k x₀ ek b (h.1, reads L) in
        record { count = h.0; row = record { class_known = h.1; class = e; first = low; last = rw e at high } }

    -- a row without a mark has what is asked, still
    still-clean : (o ≡ 2 → ⊥) → (b : List ℕ) → GivenClass n c b → Lower b x₀ → (j s : ℕ) → is_marked m' j ≡ false → Reference b c j s → Enough b x' c j s
    still-clean f b h L j s u r = go (ℕ_discrete o 0) (ℕ_discrete j l)
      where
        G : Given n c k l b
        G = given b h L

        now : Lower b x
        now = a.keeps b h L

        last : j ≤ k.code
        last = omega (arith, r.in_use.last, ap (λ (i : Class). i.code) (class-is c k x₀ ek b (h.1, reads L)))

        risen : (o ≡ 0 → ⊥) → Marked g k.code l (set m l false) m'
        risen e = d.risen (omega (arith, d.row.answer, f))

        -- it does not read row l, or it would be marked
        apart : (o ≡ 0 → ⊥) → Reads b c j l → ⊥
        apart e (inl q) = never ((risen e).next j q) u
        apart e (inr q) = never ((risen e).goal j last (q ∙ sym (goal-is b h L j r.in_use.first last))) u

        go : Dec (o ≡ 0) → Dec (j ≡ l) → Enough b x' c j s
        go (yes e) (yes q) =
            let r' : Reference b c l s = rw q at r in
            rw (d.row.same e, q) (d.row.met e b G now s tt r')
        go (yes e) (no q) =
            let v : is_marked (set m l false) j ≡ false = rw (d.none e) at u in
            rw (d.row.same e) (a.clean b h L j s (rw (taken-other m l j q) at v) r)
        go (no e) (yes q) =
            let r' : Reference b c l s = rw q at r in
            let z : Reads b c l l → ⊥ = rw q at (apart e) in
            rw q (d.row.after f b G now s tt r' z)
        go (no e) (no q) =
            let v : is_marked (set m l false) j ≡ false = (risen e).kept j u in
            d.row.stays b G now c j s r (λ w. apart e) (a.clean b h L j s (rw (taken-other m l j q) at v) r)

    pub class-goes-on : (o ≡ 2 → ⊥) → Going n c x₀ m' x'
    class-goes-on f =
        record {
          keeps = λ b h L. d.row.keeps b (given b h L) (a.keeps b h L);
          clean = still-clean f;
          others = λ b h L c' j s w r z. d.row.stays b (given b h L) (a.keeps b h L) c' j s r (λ e. absurd (w e)) (a.others b h L c' j s w r z);
          long = d.row.long ∙ a.long;
          marks = d.long ∙ a.marks;
        }

    -- every look takes a mark away or some of the room
    pub class-falls : (o ≡ 2 → ⊥) → is_marked m l ≡ true → room x' * 258 + marks_left m' < room x * 258 + marks_left m
    class-falls f t = go (ℕ_discrete o 0)
      where
        go : Dec (o ≡ 0) → room x' * 258 + marks_left m' < room x * 258 + marks_left m
        go (yes e) = rw (d.row.same e, d.none e) (omega (arith, taken-less m l a.marks (omega arith) t))
        go (no e) = omega (arith, d.row.less (omega (arith, d.row.answer, f)), few-left m')

    pub class-over : o ≡ 2 → ClassSettled n c x₀ 2 x'
    class-over e =
        record {
          keeps = λ b h L. d.row.keeps b (given b h L) (a.keeps b h L);
          met = λ z. absurd (omega arith);
          others = λ b h L c' j s w r z. d.row.stays b (given b h L) (a.keeps b h L) c' j s r (λ e. absurd (w e)) (a.others b h L c' j s w r z);
          never = λ z b h L. d.row.never e b (given b h L) (a.keeps b h L);
          long = d.row.long ∙ a.long;
          answer = omega arith;
        }

  pub class-ends : (m : List Bool) (x : List ℕ) → Going n c x₀ m x → ((j : ℕ) → 1 ≤ j → j ≤ k.code → is_marked m j ≡ false) → ClassSettled n c x₀ 0 x
  class-ends m x a f =
      record {
        keeps = a.keeps;
        met = λ e b h L l s r. a.clean b h L l s (f l r.in_use.first (omega (arith, r.in_use.last, ap (λ (i : Class). i.code) (class-is c k x₀ ek b (h.1, reads L))))) r;
        others = a.others;
        never = λ e. absurd (omega arith);
        long = a.long;
        answer = omega arith;
      }

-- no bundle that can be read has more than 256 addresses in a class
pub class-long : (n c : ℕ) (k : Class) (x : List ℕ) → k ≡ class_at x c → 256 < k.code → ClassSettled n c x 0 x
class-long n c k x ek h =
    record {
      keeps = λ b g L. L;
      met = λ e b g L. absurd (few b g L);
      others = λ b g L c' l s f r z. z;
      never = λ e. absurd (omega arith);
      long = refl;
      answer = omega arith;
    }
  where
    few : (b : List ℕ) → GivenClass n c b → Lower b x → ⊥
    few b g L = omega (arith, (class-limits b (good b L.readable) c g.1).code_256, ap (λ (i : Class). i.code) (class-is c k x ek b (g.1, reads L)))

-- ---- class after class
pub record ClassesSettled (i : ℕ) (x₀ x : List ℕ) : Type 0 where
  pub keeps : (b : List ℕ) → Lower b x₀ → Lower b x
  pub met : (b : List ℕ) → Lower b x₀ → (c l s : ℕ) → c < i → Reference b c l s → Enough b x c l s
  pub long : length x ≡ length x₀

pub all-begin : (x₀ : List ℕ) → ClassesSettled 0 x₀ x₀
all-begin x₀ = record { keeps = λ b L. L; met = λ b L c l s h. absurd (omega arith); long = refl }

module _ (n : ℕ) (x₀ : List ℕ) (en : n ≡ classes x₀) where
  module _ (c o : ℕ) (x x' : List ℕ) (h : c < n) (a : ClassesSettled c x₀ x) (d : ClassSettled n c x o x') where
    given-class : (b : List ℕ) → Lower b x₀ → GivenClass n c b
    given-class b L = let e = count-is n x₀ en b (reads L) in (e, rw e at h)

    pub all-go-on : o ≡ 0 → ClassesSettled (c + 1) x₀ x'
    all-go-on e =
        record {
          keeps = λ b L. d.keeps b (given-class b L) (a.keeps b L);
          met = λ b L c' l s w r. go b L c' l s w r (ℕ_discrete c' c);
          long = d.long ∙ a.long;
        }
      where
        go : (b : List ℕ) → Lower b x₀ → (c' l s : ℕ) → c' < c + 1 → Reference b c' l s → Dec (c' ≡ c) → Enough b x' c' l s
        go b L c' l s w r (yes q) =
            let r' : Reference b c l s = rw q at r in
            rw q (d.met e b (given-class b L) (a.keeps b L) l s r')
        go b L c' l s w r (no q) = d.others b (given-class b L) (a.keeps b L) c' l s q r (a.met b L c' l s (omega arith) r)

    pub all-over : o ≡ 2 → Settled x₀ 2 x'
    all-over e =
        record {
          keeps = λ b L. d.keeps b (given-class b L) (a.keeps b L);
          met = λ z. absurd (omega arith);
          never = λ z b L. d.never e b (given-class b L) (a.keeps b L);
          long = d.long ∙ a.long;
          answer = omega arith;
        }

  pub all_end : (c : ℕ) (x : List ℕ) → n ≤ c → ClassesSettled c x₀ x → Settled x₀ 0 x
  all_end c x h a =
      record {
        keeps = a.keeps;
        met = λ e b L c' l s r. a.met b L c' l s (omega (arith, r.in_use.class_known, count-is n x₀ en b (reads L))) r;
        never = λ e. absurd (omega arith);
        long = a.long;
        answer = omega arith;
      }
