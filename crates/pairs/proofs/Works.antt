-- Request Q-5, put together: cleared pairs are below every choice; settled, they are the least accepted choice, or there is none. And an answer is one.
use mathlib.Core.List.{List}
use mathlib.Core.Path.{◌≡◌, refl, sym, ap, ◌∙◌}
use mathlib.Core.Logic.{◌⊎◌, inl, inr}
use mathlib.Core.Bool.{Bool, true, false, not}
use Prim.Native.Nat.{ℕ, ◌+◌, ◌≤◌, ◌<◌}
use native.Mathlib.Nat.{le_antisymm}
use native.Mathlib.Omega.{arith}
use native.Mathlib.Decide.{dec_lt}
use lib.ListN.{length}
use lib.Seq.{ext_get_or}
use Rattle.ground.specs.Bytes.{at}
use lib.Dec.{eqb}
use borrow.Author.Tests.{eq-eqb, eqb-true, not-false}
use Rattle.std.specs.Prelude.{Result, Ok, Err, is_ok}
use Rattle.ground.proofs.Bools.{never}
use Rattle.ground.proofs.Chain.{then-elim}
use Rattle.structure.specs.Structure.{structure_of}
use Rattle.structure.proofs.Structured.{lengths}
use Rattle.bundle.specs.Container.{classes}
use Rattle.verdicts.specs.declared.Refusal.{Refusal}
use Rattle.verdicts.specs.declared.Verdict.{Verdict}
use Rattle.verdicts.specs.Numbers.{numbers, judgement}
use Rattle.verdicts.specs.Verdicts.{verdict, is_bad}
use Rattle.verdicts.proofs.Numbers.{refused}
use Rattle.verifier.specs.Verdict.{verdict_of}
use Rattle.shape.specs.PairBytes.{place_of, Reference, PairByte}
use Rattle.shape.specs.Shape.{shape_verdict}
use Rattle.shape.specs.Apart.{all_apart, Readable}
use Rattle.shape.proofs.FirstBroken.{shape-judges, shape-parts}
use Rattle.choices.specs.Choice.{Alike, Choice, Accepted, Below, Least}
use Rattle.pairs.specs.Answer.{Answer, malformed, shared, none, filled, OneAnswer}
use Rattle.passes.specs.Passes.{Reading, Lower, Lowest, Cleared, Anything, Every, Settled}
use Rattle.pairs.specs.declared.OutOfRange.{OutOfRange}
use Rattle.pairs.specs.Rises.{settled_in}
use Rattle.pairs.specs.Works.{Sought, Worked}
use Rattle.choices.proofs.Complete.{complete}
use Rattle.choices.proofs.Slots.{enough-still}

-- ---- an answer is one
least-once : (b x y : List ℕ) → Least b x → Least b y → x ≡ y
least-once b x y p q =
    ext_get_or 0 x y (p.choice.alike.long ∙ sym q.choice.alike.long)
    (λ i l. le_antisymm (p.least y q.choice q.accepted i) (q.least x p.choice p.accepted i))

-- THEOREM: two answers to one bundle, with what they leave in it, are equal
pub one_answer : OneAnswer
one_answer b _ _ _ _ (malformed e) (malformed f) = (refl, refl)
one_answer b _ _ _ _ (malformed e) (shared f g) = never e f
one_answer b _ _ _ _ (malformed e) (none r f) = never e r.shaped
one_answer b _ _ _ _ (malformed e) (filled r f) = never e r.shaped
one_answer b _ _ _ _ (shared e g) (malformed f) = never f e
one_answer b _ _ _ _ (shared e g) (shared f h) = (refl, refl)
one_answer b _ _ _ _ (shared e g) (none r f) = never r.apart g
one_answer b _ _ _ _ (shared e g) (filled r f) = never r.apart g
one_answer b _ _ _ _ (none r f) (malformed e) = never e r.shaped
one_answer b _ _ _ _ (none r f) (shared e g) = never r.apart g
one_answer b _ _ _ _ (none r f) (none s g) = (refl, refl)
one_answer b _ _ _ _ (none r f) (filled {x} s g) = absurd (f x g.choice g.accepted)
one_answer b _ _ _ _ (filled r f) (malformed e) = never e r.shaped
one_answer b _ _ _ _ (filled r f) (shared e g) = never r.apart g
one_answer b _ _ _ _ (filled {x} r f) (none s g) = absurd (g x f.choice f.accepted)
one_answer b _ _ _ _ (filled {x = x} r f) (filled {x = y} s g) = (refl, least-once b x y f g)

-- ---- the beginning: every pair the least there is
module _ (b : List ℕ) (R : Readable b) (bytes : (p : ℕ) → at b p < 256) where
  unchanged : Reading b b
  unchanged = record { readable = R; bytes = bytes; alike = record { long = refl; bytes = bytes; others = λ p f. refl } }

  module _ (x : List ℕ) (P : Cleared Anything Every b x) where
    cleared-alike : Alike b x
    cleared-alike = (P.keeps b tt unchanged).alike

    low : (c l s : ℕ) → Reference b c l s → Lowest b x c l s
    low c l s r = P.lows b tt unchanged c l s tt r

    begun : Choice b x
    begun =
        record {
          alike = cleared-alike;
          dips = λ c l s r. rw (low c l s r).dip (omega arith);
          least_end = λ c l s r. rw (low c l s r).end (omega arith);
          ends = λ c l s r. rw (low c l s r).end (omega arith);
        }

    -- every choice has at least these pairs
    under_all : (y : List ℕ) → Choice b y → Below x y
    under_all y D p = go (dec_lt (at y p) (at x p))
      where
        pair : PairByte b p → at x p ≤ at y p
        pair w = which w.which
          where
            which : (p ≡ place_of b w.class w.address w.entry + 2) ⊎ (p ≡ place_of b w.class w.address w.entry + 3) → at x p ≤ at y p
            which (inl e) = rw (e, (low _ _ _ w.reference).dip) (omega arith)
            which (inr e) = rw (e, (low _ _ _ w.reference).end) (D.least_end _ _ _ w.reference)

        go : Dec (at y p < at x p) → at x p ≤ at y p
        go (no h) = omega arith
        go (yes h) =
            let f : PairByte b p → ⊥ = λ w. let k = pair w in omega arith in
            absurd (omega (arith, cleared-alike.others p f, D.alike.others p f))

    pub begins-lower : Lower b x
    begins-lower = record { readable = R; bytes = bytes; choice = begun; below = λ y D A. under_all y D }

    -- ---- the end
    module _ (o : ℕ) (z : List ℕ) (S : Settled x o z) where
      pub ends-lower : Lower b z
      ends-lower = S.keeps b begins-lower

      pub found-least : Accepted z → Least b z
      found-least A = record { choice = ends-lower.choice; accepted = A; least = ends-lower.below }

      pub out_of_range : o ≡ 2 → (y : List ℕ) → Choice b y → Accepted y → ⊥
      out_of_range e = S.never e b begins-lower

      pub not-accepted : o ≡ 0 → (Accepted z → ⊥) → (y : List ℕ) → Choice b y → Accepted y → ⊥
      not-accepted e f y D A =
          f (ap (λ (v : Verdict). v.number) (complete b ends-lower.readable z y ends-lower.choice D A (ends-lower.below y D A) (enough-still b ends-lower.readable z ends-lower.choice (λ c l s r. S.met e b begins-lower c l s r))))

-- ---- what the code finds: b is cleared (x), settled (z), and judged
module _ (b x z : List ℕ) (bytes : (p : ℕ) → at b p < 256) (P : Cleared Anything Every b x) where
  pub sought-over : (r : Result Unit OutOfRange) → is_ok r ≡ false → Settled x (settled_in r) z → Sought b false z
  sought-over (Ok _) f S = never refl f
  sought-over (Err _) f S = record { found = λ R g. never g refl; nothing = λ R g. out_of_range b R bytes x P 2 z S refl; long = S.long ∙ P.long }

  pub sought-judged : (r : Result Unit OutOfRange) → is_ok r ≡ true → Settled x (settled_in r) z → (v : Result ℕ Refusal) → judgement v ≡ verdict_of z → Sought b (is_ok v) z
  sought-judged (Ok _) e S (Ok n) q = record { found = λ R f. found-least b R bytes x P 0 z S (rw (← q)); nothing = λ R f. never refl f; long = S.long ∙ P.long }
  sought-judged (Ok _) e S (Err k) q =
      record {
        found = λ R f. never f refl;
        nothing = λ R f. not-accepted b R bytes x P 0 z S refl (λ a. never (rw q at (refused k)) (ap not (eq-eqb (verdict_of z).number 0 a)));
        long = S.long ∙ P.long;
      }
  sought-judged (Err _) e S v q = never e refl

-- ---- the answer of the code
module _ (b : List ℕ) where
  pub answers-malformed : (e : Refusal) → numbers e ≡ shape_verdict b → Answer b (numbers e) b
  answers-malformed e q = rw q (malformed (rw q at (refused e)))

  module _ (n : ℕ) (q : verdict 0 n 0 ≡ shape_verdict b) where
    fine : is_bad (shape_verdict b) ≡ false
    fine = rw (← q)

    count : n ≡ classes b
    count = let j = shape-judges b in ap (λ (v : Verdict). v.class) (q ∙ j.only (j.zero (rw (← q))))

    pub short : length b ≤ 65535
    short = (lengths b (eqb-true _ 0 (not-false (eqb (structure_of b).number 0) (then-elim is_bad (structure_of b) _ (rw (shape-parts b) at fine)).0))).1

    module _ (t : Bool) (et : t ≡ all_apart b) where
      pub answers-shared : t ≡ false → Answer b (verdict 23 0 0) b
      answers-shared f = shared fine (sym et ∙ f)

      module _ (f : t ≡ true) where
        ready : Readable b
        ready = record { shaped = fine; apart = sym et ∙ f }

        module _ (w : Bool) (x : List ℕ) (W : Worked b w x) where
          pub answers-none : w ≡ false → Answer b (verdict 22 0 0) x
          answers-none g = rw (W.back g) (none ready (W.nothing ready g))

          pub answers-filled : w ≡ true → Answer b (verdict 0 n 0) x
          answers-filled g = rw count (filled ready (W.found ready g))
