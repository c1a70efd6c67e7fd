-- The turns of the loops over the code, in the shape in which the loops ask for them: j, size, .. are what the code's calls gave.
use mathlib.Core.Path.{◌≡◌, refl, sym, ◌∙◌, ap, subst}
use mathlib.Core.Logic.{◌⊎◌, inl, inr, ⊎_elim}
use mathlib.Core.Bool.{Bool, true, false, ◌&&◌}
use mathlib.Core.List.{List}
use Prim.Native.Nat.{ℕ, zero, suc, ◌+◌, ◌≤◌, ◌<◌}
use native.Mathlib.Omega.{arith}
use native.Mathlib.Numerals.{add-one}
use native.Mathlib.Decide.{dec_lt}
use lib.ListN.{length}
use lib.Dec.{eqb}
use borrow.Author.Tests.{eq-eqb, ne_eqb, lt-ltb, le-ltb, ltb-true, ltb-false}
use Rattle.ground.specs.Bounded.{first_below}
use Rattle.ground.proofs.Bounded.{first-at, first-none, first-is, first-least}
use Rattle.ground.proofs.Bools.{never}
use Rattle.std.specs.Prelude.{Some, None}
use Rattle.java.specs.declared.Java.{Java}
use Rattle.java.specs.declared.steps.Placed.{Placed}
use Rattle.java.specs.declared.steps.Steps.{Steps}
use Rattle.java.specs.Walks.{WalksOn}
use Rattle.java.proofs.Walks.{walk-some, walk-none}
use Rattle.java.specs.Instructions.{java_at, size_at, gives_of}
use Rattle.java.proofs.Sizes.{size-pos, size_fits, gives_size}
use Rattle.offsets.specs.Offsets.{begins, count_to, total}
use Rattle.offsets.specs.Offenders.{past_at, first_past}
use Rattle.offsets.specs.Index.{Stands}
use Rattle.offsets.proofs.Offsets.{begins-next, begins-inside, begins-first, quiet_next, count-zero, count_next, count_past, count-grows, count_under}

-- ---- a search over the offsets at which instructions begin
pub record Quiet (code : List ℕ) (g : ℕ → Bool) (p : ℕ) : Type 0 where
  pub inside : p ≤ length code
  pub here : begins code p ≡ true
  pub none : (q : ℕ) → q < p → (begins code q && g q) ≡ false

module _ (code : List ℕ) (g : ℕ → Bool) where
  pub quiet-start : Quiet code g 0
  quiet-start = record { inside = omega arith; here = begins-first code; none = λ q l. absurd (omega arith) }

  pub quiet-turn : {p size : ℕ} → Quiet code g p → p < length code → g p ≡ false → size ≡ size_at code p → Quiet code g (p + size)
  quiet-turn {p} {size} h l e s =
      rw s
      record {
        inside = size_fits code p l;
        here = begins-next code p h.here;
        none = quiet_next code g p h.here h.none e;
      }

  pub quiet-found : {p : ℕ} → Quiet code g p → p < length code → g p ≡ true → p ≡ first_below (length code) (λ q. begins code q && g q)
  quiet-found {p} h l e = sym (first-at (length code) (λ q. begins code q && g q) p l h.none (rw (h.here, e)))

  pub quiet-end : {p : ℕ} → Quiet code g p → length code ≤ p → length code ≡ first_below (length code) (λ q. begins code q && g q)
  quiet-end {p} h l = sym (first-none (length code) (λ q. begins code q && g q) (λ q k. h.none q (omega arith)))

-- .. as a walk over the instructions makes it
module _ (code : List ℕ) (g : ℕ → Java → Bool) where
  pub record Passed (s : Steps) : Type 0 where
    pub code_is : s.code.now ≡ code
    pub quiet : Quiet code (λ q. g q (java_at code q)) s.at

  pub passed-first : {s u : Steps} → s ≡ u → (u.code.now ≡ code) × (u.at ≡ 0) → Passed s
  passed-first d e = rw d record { code_is = e.0; quiet = rw e.1 (quiet-start code _) }

  pub passed-next : {s t : Steps} {x : Placed} → Passed s → WalksOn s (Some x) t → g x.at x.java ≡ false → Passed t
  passed-next h w e =
      let v = walk-some h.code_is w in
      record { code_is = v.0; quiet = rw v.1.4 (quiet-turn code _ h.quiet v.1.0 (rw (v.1.1, v.1.2) at e) refl) }

  pub passed-found : {s t : Steps} {x : Placed} → Passed s → WalksOn s (Some x) t → g x.at x.java ≡ true
      → (x.at < length code) × (x.at ≡ first_below (length code) (λ q. begins code q && g q (java_at code q)))
  passed-found h w e =
      let v = walk-some h.code_is w in
      rw v.1.1 (v.1.0, quiet-found code _ h.quiet v.1.0 (rw (v.1.1, v.1.2) at e))

  pub passed-all : {s t : Steps} → Passed s → WalksOn s None t → length code ≡ first_below (length code) (λ q. begins code q && g q (java_at code q))
  passed-all h w = quiet-end code _ h.quiet (walk-none h.code_is w)

-- ---- a walk that counts
module _ (code : List ℕ) where
  pub stands-first : Stands code 0 0
  stands-first = record { inside = omega arith; here = begins-first code; count = sym (count-zero code); small = omega arith }

  pub stands-turn : {p k g size : ℕ} {j : Java} → Stands code p k → p < length code → j ≡ java_at code p → g ≡ gives_of j → size ≡ size_at code p
      → Stands code (p + size) (k + g)
  stands-turn {p} {k} {g} {size} {j} h l e f s =
      let n = count_next code p (p + size_at code p) h.here (omega (arith, size-pos code p)) (omega arith) in
      let d : g ≡ gives_of (java_at code p) = f ∙ ap gives_of e in
      rw (s, d)
      record {
        inside = size_fits code p l;
        here = begins-next code p h.here;
        count = omega (arith, h.count, n);
        small = omega (arith, h.small, gives_size code p);
      }

  pub stands-end : {p k : ℕ} → Stands code p k → length code ≤ p → k ≡ total code
  stands-end {p} h l = h.count ∙ count_past code p l

  -- the sums of a turn stay within the code's length
  pub turn-fits : {p k g size : ℕ} {j : Java} → Stands code p k → p < length code → j ≡ java_at code p → g ≡ gives_of j → size ≡ size_at code p
      → (p + size ≤ length code) × (k + g ≤ length code) × (1 ≤ size)
  turn-fits {p} {k} {g} {size} {j} h l e f s =
      let n = stands-turn h l e f s in (n.inside, omega (arith, n.small, n.inside), rw s (size-pos code p))

-- .. over the instructions
module _ (code : List ℕ) where
  pub record Counted (s : Steps) (k : ℕ) : Type 0 where
    pub code_is : s.code.now ≡ code
    pub stands : Stands code s.at k

  pub counted-first : {s u : Steps} → s ≡ u → (u.code.now ≡ code) × (u.at ≡ 0) → Counted s 0
  counted-first d e = rw d record { code_is = e.0; stands = rw e.1 (stands-first code) }

  pub counted-next : {s t : Steps} {x : Placed} {k g : ℕ} → Counted s k → WalksOn s (Some x) t → g ≡ gives_of x.java → Counted t (k + g)
  counted-next h w e =
      let v = walk-some h.code_is w in
      record { code_is = v.0; stands = rw v.1.4 (stands-turn code h.stands v.1.0 v.1.2 e refl) }

  pub counted-all : {s t : Steps} {k : ℕ} → Counted s k → WalksOn s None t → k ≡ total code
  counted-all h w = stands-end code h.stands (walk-none h.code_is w)

-- ---- the walk to an offset t
pub record Walked (code : List ℕ) (t p k : ℕ) : Type 0 where
  pub counted : Stands code p k
  pub arrived : (p ≤ t) ⊎ ((begins code t ≡ false) × (k ≡ count_to code t))

module _ (code : List ℕ) (t : ℕ) where
  pub walk_start : {p k : ℕ} → Stands code p k → p ≤ t → Walked code t p k
  walk_start s l = record { counted = s; arrived = inl l }

  pub walk_turn : {p k q m : ℕ} → Walked code t p k → p < t → Stands code q m → q ≡ p + size_at code p → m ≡ k + gives_of (java_at code p) → Walked code t q m
  walk_turn {p} {k} {q} {m} h l s e f = record { counted = s; arrived = go (dec_lt t (p + size_at code p)) }
    where
      n : t ≤ p + size_at code p → count_to code t ≡ count_to code p + gives_of (java_at code p)
      n b = count_next code p t h.counted.here l b

      go : Dec (t < p + size_at code p) → (q ≤ t) ⊎ ((begins code t ≡ false) × (m ≡ count_to code t))
      go (yes b) = inr (begins-inside code p t h.counted.here l b, omega (arith, f, n (omega arith), h.counted.count))
      go (no b) = inl (omega arith)

  pub walk_end : {p k : ℕ} → Walked code t p k → t ≤ p → (eqb p t ≡ begins code t) × (k ≡ count_to code t)
  walk_end {p} {k} h l = ⊎_elim there past h.arrived
    where
      there : p ≤ t → (eqb p t ≡ begins code t) × (k ≡ count_to code t)
      there b =
          let e : p ≡ t = omega arith in
          (eq-eqb p t e ∙ sym (subst (λ (q : ℕ). begins code q ≡ true) e h.counted.here), h.counted.count ∙ ap (count_to code) e)

      apart : begins code t ≡ false → p ≡ t → ⊥
      apart b e = never (subst (λ (q : ℕ). begins code q ≡ true) e h.counted.here) b

      past : (begins code t ≡ false) × (k ≡ count_to code t) → (eqb p t ≡ begins code t) × (k ≡ count_to code t)
      past b = (ne_eqb p t (apart b.0) ∙ sym b.0, b.1)

-- ---- 33 and 34: a walk whose count has not passed the limit
module _ (code : List ℕ) (limit : ℕ) where
  quiet-under : {p k : ℕ} → Stands code p k → k ≤ limit → (q : ℕ) → q < p → past_at code limit q ≡ false
  unfolding past_at
  quiet-under {p} h l q b = le-ltb limit (count_to code (q + 1)) (omega (arith, count-grows code (q + 1) p (omega arith), h.count))

  pub past-found : {s t : Steps} {x : Placed} {k g : ℕ} → Counted code s k → k ≤ limit → WalksOn s (Some x) t → g ≡ gives_of x.java → limit < k + g
      → (x.at < length code) × (x.at ≡ first_past code limit)
  unfolding first_past past_at
  past-found {s} h a w e b =
      let v = walk-some h.code_is w in
      let n = count_next code s.at (s.at + 1) h.stands.here (omega arith) (omega (arith, size-pos code s.at)) in
      let d = e ∙ ap gives_of v.1.2 in
      rw v.1.1 (v.1.0, sym (first-at (length code) (past_at code limit) s.at v.1.0 (quiet-under h.stands a) (lt-ltb limit (count_to code (s.at + 1)) (omega (arith, h.stands.count)))))

  pub past_end : {s t : Steps} {k : ℕ} → Counted code s k → k ≤ limit → WalksOn s None t → length code ≡ first_past code limit
  unfolding first_past
  past_end h m w =
      let l = walk-none h.code_is w in
      sym (first-none (length code) (past_at code limit) (λ q b. quiet-under h.stands m q (omega arith)))

  -- .. where one passes it, so does the count of all
  pub past_some : {p : ℕ} → p < length code → p ≡ first_past code limit → limit < total code
  unfolding first_past past_at
  past_some {p} l e =
      let f = first-is (length code) (past_at code limit) (subst (λ (q : ℕ). q < length code) e l) in
      let b : limit < count_to code (first_past code limit + 1) = ltb-true limit (count_to code (first_past code limit + 1)) f in
      omega (arith, b, count_under code (first_past code limit + 1))

  -- .. and where none does, neither does that
  pub past_none : length code ≡ first_past code limit → total code ≤ limit
  unfolding first_past past_at total
  past_none e = go (length code) refl
    where
      go : (n : ℕ) → n ≡ length code → count_to code n ≤ limit
      go zero q = omega (arith, count-zero code)
      go (suc m) q =
          let f = first-least (length code) (past_at code limit) m (omega (arith, q, e)) in
          rw (← add-one) (ltb-false limit (count_to code (m + 1)) f)

-- ---- a search over the entries of the table
pub found : (n : ℕ) (f : ℕ → Bool) (i : ℕ) → i < n → ((j : ℕ) → j < i → f j ≡ false) → f i ≡ true → i ≡ first_below n f
found n f i l h e = sym (first-at n f i l h e)

pub not_found : (n : ℕ) (f : ℕ → Bool) (i : ℕ) → i ≤ n → n ≤ i → ((j : ℕ) → j < i → f j ≡ false) → n ≡ first_below n f
not_found n f i l m h = sym (first-none n f (λ j k. h j (omega arith)))
