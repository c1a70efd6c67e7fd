-- What an answer says, number by number; and that pair bytes are ignored as they come in.
use mathlib.Core.List.{List}
use mathlib.Core.Path.{◌≡◌, refl, sym, ap, ◌∙◌}
use mathlib.Core.Bool.{true}
use Prim.Native.Nat.{ℕ, ◌≤◌, ◌<◌}
use native.Mathlib.Omega.{arith}
use Rattle.ground.specs.Bytes.{at}
use Rattle.ground.proofs.Bools.{never}
use Rattle.ground.proofs.Lists.{first-in}
use Rattle.bundle.specs.Container.{classes, class_at}
use Rattle.verdicts.specs.declared.Verdict.{Verdict}
use Rattle.verdicts.specs.Verdicts.{is_bad}
use Rattle.structure.specs.Places as structure
use Rattle.verifier.specs.Places.{Place, structural, form, first, rule, drawn}
use Rattle.verifier.proofs.FirstBroken.{agrees}
use Rattle.shape.specs.PairBytes.{place_of, depth_of, InUse, Reference, PairByte}
use Rattle.shape.specs.Shape.{shape_verdict, shape_holds, shape_places, ShapeWithin}
use Rattle.shape.specs.Apart.{Readable}
use Rattle.shape.proofs.FirstBroken.{shape-judges, shape-agrees}
use Rattle.choices.specs.Choice.{Alike, Choice, Least}
use Rattle.choices.proofs.Choices.{classes-same, class_same, depth_same, kind-same}
use Rattle.shape.proofs.Readable.{in_row}
use Rattle.pairs.specs.Answer.{Answer, malformed, shared, none, filled, FillMeans, ShapeAsBefore, PairsIgnored}
use Rattle.pairs.proofs.Works.{one_answer}

-- ---- 1 to 8
place-number : (b : List ℕ) (p : Place) → ShapeWithin b p → (1 ≤ (drawn b p).number) × ((drawn b p).number ≤ 8)
place-number b (structural structure.whole) w = (omega arith, omega arith)
place-number b (structural structure.trailer) w = (omega arith, omega arith)
place-number b (structural structure.directory) w = (omega arith, omega arith)
place-number b (structural (structure.limits c)) w = (omega arith, omega arith)
place-number b (structural (structure.extent c)) w = (omega arith, omega arith)
place-number b (structural (structure.descriptors c)) w = (omega arith, omega arith)
place-number b (structural (structure.instruction c l)) w = (omega arith, omega arith)
place-number b (form c l) w = (omega arith, omega arith)
place-number b (first c) w = absurd w
place-number b (rule c l) w = absurd w

number-1-8 : (b : List ℕ) → is_bad (shape_verdict b) ≡ true → (1 ≤ (shape_verdict b).number) × ((shape_verdict b).number ≤ 8)
number-1-8 b e =
    let j = shape-judges b in
    let n = j.first e in
    let p = place-number b n.place (j.within n.place (first-in (shape_holds b) (shape_places b) n.place n.first)) in
    let q = ap (λ (v : Verdict). v.number) n.is in
    (omega (arith, p.0), omega (arith, p.1))

-- THEOREM
pub fill-means : FillMeans
fill-means b _ _ (malformed e) =
    record {
      fills = λ r y c a. never e r.shaped;
      least = λ z. absurd (omega (arith, (number-1-8 b e).0));
      without = λ r f. never e r.shaped;
      nothing = λ z. absurd (omega (arith, (number-1-8 b e).1));
      sharing = λ f g. never e f;
      shares = λ z. absurd (omega (arith, (number-1-8 b e).1));
      kept = λ f. refl;
    }
fill-means b _ _ (shared e g) =
    record {
      fills = λ r y c a. never r.apart g;
      least = λ z. absurd (omega arith);
      without = λ r f. never r.apart g;
      nothing = λ z. absurd (omega arith);
      sharing = λ f h. refl;
      shares = λ z. (e, g);
      kept = λ f. refl;
    }
fill-means b _ _ (none r f) =
    record {
      fills = λ s y c a. absurd (f y c a);
      least = λ z. absurd (omega arith);
      without = λ s g. refl;
      nothing = λ z. (r, f);
      sharing = λ e g. never r.apart g;
      shares = λ z. absurd (omega arith);
      kept = λ g. refl;
    }
fill-means b _ _ (filled {x} r l) =
    record {
      fills = λ s y c a. refl;
      least = λ z. (r, l);
      without = λ s g. absurd (g x l.choice l.accepted);
      nothing = λ z. absurd (omega arith);
      sharing = λ e g. never r.apart g;
      shares = λ z. absurd (omega arith);
      kept = λ g. absurd (g refl);
    }

-- an answer where 1 to 8 refuse
bad-answer : (b : List ℕ) (v : Verdict) (x : List ℕ) → Answer b v x → is_bad (shape_verdict b) ≡ true → v ≡ shape_verdict b
bad-answer b _ _ (malformed e) h = refl
bad-answer b _ _ (shared e g) h = never h e
bad-answer b _ _ (none r f) h = never h r.shaped
bad-answer b _ _ (filled r l) h = never h r.shaped

-- THEOREM
pub shape-as-before : ShapeAsBefore
shape-as-before b v x a = (
  (λ e. let s = shape-agrees b e in bad-answer b v x a (rw s e) ∙ s ∙ sym (agrees b e)),
  (λ e. let q = bad-answer b v x a e in (q, rw q (number-1-8 b e).0, rw q (number-1-8 b e).1)),
)

-- ---- two bundles that differ in pair bytes alone have the same choices
module _ (b b' : List ℕ) (R : Readable b) (A : Alike b b') where
  place_is : (c l s : ℕ) → c < classes b → place_of b' c l s ≡ place_of b c l s
  unfolding place_of
  place_is c l s h = rw (class_same b R b' A c h)

  depth_is : (c l : ℕ) → c < classes b → 1 ≤ l → l ≤ (class_at b c).code → depth_of b' c l ≡ depth_of b c l
  unfolding depth_of
  depth_is c l h low high = rw (class_same b R b' A c h) (depth_same b R b' A c h l low high)

  use-there : {c l s : ℕ} → InUse b c l s → InUse b' c l s
  use-there {c} {l} {s} u =
      record {
        class_known = rw (classes-same b R b' A) u.class_known;
        first = u.first;
        last = rw (class_same b R b' A c u.class_known) u.last;
        used = rw (class_same b R b' A c u.class_known, depth_is c l u.class_known u.first u.last) u.used;
      }

  use-here : {c l s : ℕ} → InUse b' c l s → InUse b c l s
  use-here {c} {l} {s} u =
      let h : c < classes b = rw (classes-same b R b' A) at u.class_known in
      let m : l ≤ (class_at b c).code = rw (class_same b R b' A c h) at u.last in
      record { class_known = h; first = u.first; last = m; used = rw (class_same b R b' A c h, depth_is c l h u.first m) at u.used }

  kind-is : {c l s : ℕ} → InUse b c l s → at b' (place_of b' c l s) ≡ at b (place_of b c l s)
  kind-is {c} {l} {s} u = rw (place_is c l s u.class_known) (kind-same b R b' A c u.class_known l u.first u.last s (in_row b R u))

  reference-there : {c l s : ℕ} → Reference b c l s → Reference b' c l s
  reference-there r = record { in_use = use-there r.in_use; kind = kind-is r.in_use ∙ r.kind }

  reference-here : {c l s : ℕ} → Reference b' c l s → Reference b c l s
  reference-here r = let u = use-here r.in_use in record { in_use = u; kind = sym (kind-is u) ∙ r.kind }

  pair-here : {p : ℕ} → PairByte b' p → PairByte b p
  pair-here {p} w =
      let r = reference-here w.reference in
      record { class = w.class; address = w.address; entry = w.entry; reference = r; which = rw (place_is w.class w.address w.entry r.in_use.class_known) at w.which }

  pair-there : {p : ℕ} → PairByte b p → PairByte b' p
  pair-there {p} w =
      record { class = w.class; address = w.address; entry = w.entry; reference = reference-there w.reference; which = rw (place_is w.class w.address w.entry w.reference.in_use.class_known) w.which }

  choice-there : (x : List ℕ) → Choice b x → Choice b' x
  choice-there x C =
      record {
        alike = record { long = C.alike.long ∙ sym A.long; bytes = C.alike.bytes; others = λ p f. let g : PairByte b p → ⊥ = λ w. f (pair-there w) in C.alike.others p g ∙ sym (A.others p g) };
        dips = λ c l s r. let q = reference-here r in rw (place_is c l s q.in_use.class_known) (C.dips c l s q);
        least_end = λ c l s r. let q = reference-here r in rw (place_is c l s q.in_use.class_known) (C.least_end c l s q);
        ends = λ c l s r. let q = reference-here r in rw (place_is c l s q.in_use.class_known) (C.ends c l s q);
      }

  choice-here : (x : List ℕ) → Choice b' x → Choice b x
  choice-here x C =
      record {
        alike = record { long = C.alike.long ∙ A.long; bytes = C.alike.bytes; others = λ p f. C.alike.others p (λ w. f (pair-here w)) ∙ A.others p f };
        dips = λ c l s r. rw (place_is c l s r.in_use.class_known) at (C.dips c l s (reference-there r));
        least_end = λ c l s r. rw (place_is c l s r.in_use.class_known) at (C.least_end c l s (reference-there r));
        ends = λ c l s r. rw (place_is c l s r.in_use.class_known) at (C.ends c l s (reference-there r));
      }

  least-there : (x : List ℕ) → Least b x → Least b' x
  least-there x l = record { choice = choice-there x l.choice; accepted = l.accepted; least = λ y C. l.least y (choice-here y C) }

-- THEOREM
pub pairs-ignored : PairsIgnored
pairs-ignored b b' R R' A _ w _ y (malformed e) d = never e R.shaped
pairs-ignored b b' R R' A _ w _ y (shared e g) d = never R.apart g
pairs-ignored b b' R R' A _ w _ y (none r f) d =
    let o = one_answer b' _ w b' y (none R' (λ z C. f z (choice-here b b' R A z C))) d in (o.0, λ z. absurd (omega arith))
pairs-ignored b b' R R' A _ w _ y (filled {x} r l) d =
    let o = one_answer b' _ w x y (filled R' (least-there b b' R A x l)) d in (rw (← classes-same b R b' A) o.0, λ z. o.1)
