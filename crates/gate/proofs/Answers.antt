-- The gate's answers: what `lay` gives in 65,536 bytes, what `fill` makes of it, what is handed over; and that one call has one answer.
use mathlib.Core.List.{List, ◌++◌}
use mathlib.Core.Path.{◌≡◌, refl, sym, ap, ap₂, ◌∙◌}
use mathlib.Core.Bool.{Bool, true, false}
use mathlib.Core.Logic.{◌≢◌}
use Prim.Native.Nat.{ℕ, ◌+◌, ◌≤◌, ◌<◌}
use native.Mathlib.Omega.{arith}
use lib.Dec.{leb, ltb}
use lib.ListN.{length, take, drop, length-append}
use lib.Seq.{take_at, length-take-le}
use borrow.Author.Tests.{le-leb, lt-ltb, leb-true, leb-false, ltb-true}
use Rattle.std.specs.Prelude.{Ok, Err}
use Rattle.ground.specs.Chain.{refuse}
use Rattle.ground.proofs.Bools.{never}
use Rattle.ground.proofs.Chain.{tested}
use Rattle.verdicts.specs.declared.Refusal.{Refusal}
use Rattle.verdicts.specs.Verdicts.{verdict}
use Rattle.verdicts.specs.Numbers.{numbers}
use Rattle.verdicts.proofs.Numbers as known
use Rattle.pairs.specs.Answer.{Answer}
use Rattle.pairs.proofs.Works.{one_answer}
use Rattle.laying.specs.Given.{Given}
use Rattle.laying.specs.Lengths.{whole}
use Rattle.laying.specs.Laid.{laid}
use Rattle.laying.specs.Laying.{Layout, over, put_in, measured, layout_of, layout_in, laid_in, nameless}
use Rattle.laying.specs.Loops.{Measured}
use Rattle.laying.proofs.Lengths.{laid-long}
use Rattle.laying.proofs.Lengths as lengths
use Rattle.gate.specs.Gate.{Gate, refusal_of, unlaid, refused, short, written, packed, OneGate, OneNumber}

module _ (g : Given) where
  abbrev w : ℕ
  w = whole g.directory g.classes

  pub record Fit : Type 0 where
    pub lengths : measured g ≡ true
    pub short : w ≤ 65535
    pub exception : g.exception < g.classes

  -- past 27, 1 and 3
  pub fit : refusal_of g ≡ 0 → Fit
  unfolding refusal_of
  fit e =
      let a = tested (measured g) 26 _ e in
      let b = tested (leb w 65535) 0 _ a.1 in
      let d = tested (ltb g.exception g.classes) 2 0 b.1 in
      record { lengths = a.0; short = leb-true w 65535 b.0; exception = ltb-true g.exception g.classes d.0 }

  pub all-measured : refusal_of g ≡ 0 → Measured g
  all-measured e = lengths.measured g (fit e).lengths

  pub long : refusal_of g ≡ 0 → length (laid g) ≡ w
  long e = laid-long (all-measured e)

  lay-number : (layout_of g 65536).number ≡ refusal_of g
  unfolding layout_of refusal_of refuse
  lay-number = go (measured g) refl (leb w 65535) refl (ltb g.exception g.classes) refl
    where
      go : (a : Bool) → measured g ≡ a → (b : Bool) → leb w 65535 ≡ b → (d : Bool) → ltb g.exception g.classes ≡ d → (layout_of g 65536).number ≡ refusal_of g
      go false p b q d r = rw p
      go true p false q d r = rw (p, q)
      go true p true q false r = rw (p, q, r)
      go true p true q true r = let h = leb-true w 65535 q in rw (p, q, r, le-leb w 65536 (omega arith))

  lay-length : refusal_of g ≡ 0 → (layout_of g 65536).length ≡ w
  unfolding layout_of refuse
  lay-length e =
      let f = fit e in
      rw (
        f.lengths,
        le-leb w 65535 f.short,
        lt-ltb g.exception g.classes f.exception,
        le-leb w 65536 (omega arith),
      )

-- a refusal's number isn't 0
bad-number : (r : Refusal) → (numbers r).number ≢ 0
bad-number r z = never (known.refused r) (rw z)

-- what `lay` gives in b, and leaves in it
module _ (g : Given) (out b : List ℕ) (h : length b ≡ 65536) where
  pub gate-unlaid : (r : Refusal) → layout_in (Err r) ≡ layout_of g (length b) → nameless (Err r) → Gate g out (numbers r) 0 out
  gate-unlaid r e f =
      let k : (numbers r).number ≡ refusal_of g = ap (λ (x : Layout). x.number) e ∙ rw h (lay-number g) in
      let u : Gate g out (verdict (refusal_of g) 0 0) 0 out = unlaid (λ z. bad-number r (k ∙ z)) in
      rw f (rw k u)

  module _ (n : ℕ) (e : layout_in (Ok n) ≡ layout_of g (length b)) where
    laid-now : refusal_of g ≡ 0
    laid-now = sym (ap (λ (x : Layout). x.number) e ∙ rw h (lay-number g))

    the-length : n ≡ w g
    the-length = ap (λ (x : Layout). x.length) e ∙ rw h (lay-length g laid-now)

    pub short-enough : n ≤ 65535
    short-enough = omega (arith, the-length, (fit g laid-now).short)

    pub in-b : (b₁ : List ℕ) → length b₁ ≡ length b → n ≤ length b₁
    in-b b₁ k = omega (arith, short-enough)

    module _ (b₁ : List ℕ) (i : b₁ ≡ laid_in g b) where
      -- what is filled is the bundle
      front : take n b₁ ≡ laid g
      unfolding laid_in over refuse
      front =
          rw (i, h, lay-number g, laid-now)
          (take_at (laid g) (drop (0 + length (laid g)) b) n (long g laid-now ∙ sym the-length))

      pub gate-refused : (r : Refusal) (x : List ℕ) → Answer (take n b₁) (numbers r) x → Gate g out (numbers r) 0 out
      gate-refused r x a = refused laid-now (rw front at a) (known.refused r)

      module _ (c : ℕ) (x : List ℕ) (a : Answer (take n b₁) (verdict 0 c 0) x) (y : List ℕ) (f : y ≡ x) (t : Bool) (o : List ℕ) (q : t ≡ leb (length y) (length out)) (p : o ≡ put_in y out) where
        pub gate-short : t ≡ false → Gate g out (verdict 24 0 0) 0 o
        unfolding put_in refuse
        gate-short z =
            let l : leb (length x) (length out) ≡ false = rw (← f, ← q) z in
            let k : o ≡ out = rw (f, l) at p in
            rw k (short laid-now (rw front at a) refl (leb-false (length x) (length out) l))

        pub gate-written : length x ≡ n → t ≡ true → Gate g out (verdict 0 c 0) n o
        unfolding put_in over refuse
        gate-written m z =
            let l : leb (length x) (length out) ≡ true = rw (← f, ← q) z in
            let j : 0 + length x ≡ length x = omega arith in
            let k : o ≡ x ++ drop (length x) out = rw (f, l, j) at p in
            rw (k, ← m) (written laid-now (rw front at a) refl (leb-true (length x) (length out) l))

-- the first n bytes of b, filled, are x; what lies behind them is as it was
module _ (b x : List ℕ) (n : ℕ) (l : n ≤ length b) (k : length x ≡ length (take n b)) where
  pub filled-long : length x ≡ n
  filled-long = k ∙ length-take-le n b l

  pub filled-room : n ≤ length (x ++ drop n b)
  filled-room = omega (arith, length-append x (drop n b), filled-long)

  pub filled-first : take n (x ++ drop n b) ≡ x
  filled-first = take_at x (drop n b) n filled-long

-- THEOREM: one call has one answer
pub one-gate : OneGate
one-gate g out _ _ _ _ _ _ (unlaid p) (unlaid q) = (refl, refl, refl)
one-gate g out _ _ _ _ _ _ (unlaid p) (refused e a i) = absurd (p e)
one-gate g out _ _ _ _ _ _ (unlaid p) (short e a i k) = absurd (p e)
one-gate g out _ _ _ _ _ _ (unlaid p) (written e a i k) = absurd (p e)
one-gate g out _ _ _ _ _ _ (refused e a i) (unlaid q) = absurd (q e)
one-gate g out _ _ _ _ _ _ (refused e a i) (refused f b j) = let o = one_answer _ _ _ _ _ a b in (o.0, refl, refl)
one-gate g out _ _ _ _ _ _ (refused e a i) (short f b j k) = let o = one_answer _ _ _ _ _ a b in never (rw o.0 at i) j
one-gate g out _ _ _ _ _ _ (refused e a i) (written f b j k) = let o = one_answer _ _ _ _ _ a b in never (rw o.0 at i) j
one-gate g out _ _ _ _ _ _ (short e a i k) (unlaid q) = absurd (q e)
one-gate g out _ _ _ _ _ _ (short e a i k) (refused f b j) = let o = one_answer _ _ _ _ _ a b in never j (rw o.0 at i)
one-gate g out _ _ _ _ _ _ (short e a i k) (short f b j l) = (refl, refl, refl)
one-gate g out _ _ _ _ _ _ (short e a i k) (written f b j l) = let o = one_answer _ _ _ _ _ a b in absurd (omega (arith, ap length o.1))
one-gate g out _ _ _ _ _ _ (written e a i k) (unlaid q) = absurd (q e)
one-gate g out _ _ _ _ _ _ (written e a i k) (refused f b j) = let o = one_answer _ _ _ _ _ a b in never j (rw o.0 at i)
one-gate g out _ _ _ _ _ _ (written e a i k) (short f b j l) = let o = one_answer _ _ _ _ _ a b in absurd (omega (arith, ap length o.1))
one-gate g out _ _ _ _ _ _ (written e a i k) (written f b j l) =
    let o = one_answer _ _ _ _ _ a b in
    (o.0, ap length o.1, ap (λ (z : List ℕ). z ++ drop (length z) out) o.1)

pub one_number : OneNumber
one_number g out r s x y a b =
    let o = one-gate g out _ _ _ _ _ _ a.gate b.gate in
    (a.number ∙ ap₂ packed o.0 o.1 ∙ sym b.number, o.2)
