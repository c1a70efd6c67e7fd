-- The answer: the code's tests on the weight are the definition's on the usage, and its order of refusals is the definition's.
use mathlib.Core.Path.{◌≡◌, refl, sym, subst, ◌∙◌}
use mathlib.Core.List.{List}
use Rattle.std.specs.Prelude.{Option, Some, None}
use mathlib.Core.Bool.{Bool, true, false, cond, ◌&&◌}
use Prim.Native.Nat.{ℕ, zero, suc, ◌+◌, ◌-◌, ◌^◌, ◌<◌, ◌≤◌}
use native.Mathlib.Nat.{lt_of_not-le}
use native.Mathlib.Omega.{arith}
use lib.Dec.{eqb, leb, ltb}
use lib.ListN.{length}
use lib.IntN.{pos, negsuc, nat_abs, sub_ℕ, ◌-ℤ◌}
use borrow.Author.Tests.{le-leb, lt-leb, leb-true, leb-false, eq-eqb, ne_eqb, eqb-true}
use mir.Syntax.{w32}
use mir.Val.{SFits}
use Rattle.std.proofs.lemmas.Option.{none-some}
use Rattle.ground.specs.Chain.{refuse}
use Rattle.usages.specs.Usage.{Usage}
use Rattle.usages.specs.Counts.{min_of, fin_of}
use Rattle.usage_text.specs.declared.Weight.{Weight}
use Rattle.usage_text.specs.Reading.{Read, unread, read, read_text, is_whole}
use Rattle.usage_text.specs.Weights.{weight_of, taken_of, whole_of, Low}
use Rattle.usage_text.specs.Answer.{longest, deepest, any_depth, dip_of, in_range, is_reliable, refusal, told, weighed, usage_of, end_of, answer_of}
use Rattle.usage_text.proofs.Weights.{dip-is, end_is, end-far, end-near}
use Rattle.usage_text.proofs.Bounds.{choice-room}
use Rattle.usage_text.proofs.Turns.{Given, taken_none, taken-some}
use Rattle.usage_text.proofs.Grammar.{whole-deeper}

-- ---- the end as a machine's integer
apart_fits : (r d : ℕ) → r < 2 ^ 16 → d < 2 ^ 16 → SFits w32 (sub_ℕ r (suc d))
apart_fits r d h k = go (ltb r (suc d)) refl
  where
    go : (t : Bool) → ltb r (suc d) ≡ t → SFits w32 (cond t (negsuc (suc d - suc r)) (pos (r - suc d)))
    go true e = record { sfits = omega arith }
    go false e = record { sfits = omega arith }

pub end_fits : (r d : ℕ) → r < 2 ^ 16 → d < 2 ^ 16 → SFits w32 (pos r -ℤ pos d)
end_fits r zero h k = record { sfits = omega arith }
end_fits r (suc d) h k = apart_fits r d h (omega arith)

-- ---- the weight's tests
module _ (w : Weight) where
  pub wide-dip : 63 < w.dip → refusal 43 ≡ answer_of w
  unfolding answer_of refuse
  wide-dip h = rw (lt-leb w.dip 63 h)

  pub wide-rise : w.dip ≤ 63 → w.dip + 63 < w.rise → refusal 43 ≡ answer_of w
  unfolding answer_of refuse
  wide-rise h k = rw (le-leb w.dip 63 h, lt-leb w.rise (w.dip + 63) k)

  pub in-range : w.dip ≤ 63 → w.rise ≤ w.dip + 63
      → answer_of w ≡ record { number = 0; dip = w.dip; end = end_of w.dip w.rise; reliable = eqb w.dip 0 && eqb w.rise 0 }
  unfolding answer_of refuse
  in-range h k = rw (le-leb w.dip 63 h, le-leb w.rise (w.dip + 63) k)

-- ---- the usage's tests
range-is : (u : Usage) → leb (weight_of u).dip 63 ≡ true → leb (nat_abs (fin_of u)) 63 ≡ leb (weight_of u).rise ((weight_of u).dip + 63)
range-is u h = go (leb (weight_of u).rise ((weight_of u).dip + 63)) refl
  where
    go : (a : Bool) → leb (weight_of u).rise ((weight_of u).dip + 63) ≡ a → leb (nat_abs (fin_of u)) 63 ≡ a
    go true p =
        le-leb (nat_abs (fin_of u)) 63
        (end-near u 63 (leb-true (weight_of u).rise ((weight_of u).dip + 63) p) (omega (arith, leb-true (weight_of u).dip 63 h)))
    go false p =
        lt-leb (nat_abs (fin_of u)) 63
        (lt_of_not-le (λ l. omega (arith, (end-far u 63 l).0, leb-false (weight_of u).rise ((weight_of u).dip + 63) p)))

zero_is : (u : Usage) → (eqb (nat_abs (min_of u)) 0 && eqb (nat_abs (fin_of u)) 0) ≡ (eqb (weight_of u).dip 0 && eqb (weight_of u).rise 0)
unfolding dip_of
zero_is u = rw (dip-is u) (go (weight_of u).dip refl)
  where
    same : (n m : ℕ) → (n ≤ 0 → m ≤ 0) → (m ≤ 0 → n ≤ 0) → eqb n 0 ≡ eqb m 0
    same zero zero f g = refl
    same zero (suc m) f g = let l = f (omega arith) in absurd (omega arith)
    same (suc n) zero f g = let l = g (omega arith) in absurd (omega arith)
    same (suc n) (suc m) f g = ne_eqb (suc n) 0 (λ e. omega arith) ∙ sym (ne_eqb (suc m) 0 (λ e. omega arith))

    go : (d : ℕ) → (weight_of u).dip ≡ d → (eqb d 0 && eqb (nat_abs (fin_of u)) 0) ≡ (eqb d 0 && eqb (weight_of u).rise 0)
    go zero e =
        same (nat_abs (fin_of u)) (weight_of u).rise (λ l. omega (arith, (end-far u 0 l).0, e)) (λ l. end-near u 0 (omega (arith, e)) (omega (arith, e)))
    go (suc d) e = rw (ne_eqb (suc d) 0 (λ q. omega arith))

two : {A : Type 0} (a b c : Bool) (v x : A) → (a ≡ true → c ≡ b) → refuse a v (refuse b v x) ≡ refuse (a && c) v x
unfolding refuse
two true b c v x h = rw (h refl)
two false b c v x h = refl

weight-answer : (u : Usage) → answer_of (weight_of u) ≡ refuse (in_range u) (refusal 43) (told u)
unfolding answer_of in_range is_reliable
weight-answer u =
    two (leb (weight_of u).dip 63) (leb (weight_of u).rise ((weight_of u).dip + 63)) (leb (nat_abs (fin_of u)) 63) _ _ (range-is u)
    ∙ rw (← zero_is u, ← end_is u, ← dip-is u) refl

-- ---- the whole text
module _ {t : Option (ℕ × Weight)} (x : Read) (p : t ≡ taken_of x) where
  pub none-whole : t ≡ None → None ≡ whole_of x
  unfolding whole_of
  none-whole q = rw (taken_none x p q)

  module _ {n : ℕ} {w : Weight} (q : t ≡ Some (n, w)) where
    pub some-whole : n ≡ 0 → Some w ≡ whole_of x
    unfolding whole_of
    some-whole e = let k = taken-some x p q in rw (k.was, eq-eqb (length k.left) 0 (k.counted ∙ e), k.weighs)

    pub more-whole : (n ≡ 0 → ⊥) → None ≡ whole_of x
    unfolding whole_of
    more-whole e = let k = taken-some x p q in rw (k.was, ne_eqb (length k.left) 0 (λ z. e (sym k.counted ∙ z)))

-- a usage to its end, or none
whole-some : {t : Option Weight} {w : Weight} (x : Read) → t ≡ whole_of x → t ≡ Some w → Given x 0 w
unfolding whole_of
whole-some unread p q = absurd (none-some _ (sym p ∙ q))
whole-some {t} {w} (read u r) p q = go (eqb (length r) 0) refl (sym p ∙ q)
  where
    go : (b : Bool) → eqb (length r) 0 ≡ b → cond b (Some (weight_of u)) None ≡ Some w → Given (read u r) 0 w
    go true e f = record { usage = u; left = r; was = refl; counted = eqb-true (length r) 0 e; weighs = cc }
    go false e f = absurd (none-some _ f)

whole-none : {t : Option Weight} (x : Read) → t ≡ whole_of x → t ≡ None → is_whole x ≡ false
unfolding whole_of is_whole
whole-none unread p q = refl
whole-none (read u r) p q = go (eqb (length r) 0) (sym p ∙ q)
  where
    go : (b : Bool) → cond b (Some (weight_of u)) None ≡ None → b ≡ false
    go true f = absurd (none-some _ (sym f))
    go false f = refl

pub whole-low : (d : ℕ) (s : List ℕ) {t : Option Weight} {w : Weight} → length s ≤ 256 → t ≡ whole_of (read_text d s) → t ≡ Some w → Low 256 w
whole-low d s l p q =
    let k = whole-some (read_text d s) p q in
    let m = choice-room d s k.usage k.left k.was in
    subst (λ (v : Weight). Low 256 v) k.weighs (record { dip_low = omega (arith, m.dip_room); rise_low = omega (arith, m.rise_room) })

given-whole : {x : Read} {w : Weight} → Given x 0 w → (is_whole x ≡ true) × (answer_of w ≡ weighed x)
unfolding is_whole weighed
given-whole k = rw (k.was, ← k.weighs) (eq-eqb (length k.left) 0 k.counted, weight-answer k.usage)

module _ (s : List ℕ) where
  pub too_long : longest < length s → refusal 40 ≡ usage_of s
  unfolding usage_of refuse
  too_long h = rw (lt-leb (length s) longest h)

  module _ (short : length s ≤ longest) {t : Option Weight} (p : t ≡ whole_of (read_text deepest s)) where
    pub is_usage : {w : Weight} → t ≡ Some w → answer_of w ≡ usage_of s
    unfolding usage_of refuse
    is_usage q =
        let h = given-whole (whole-some (read_text deepest s) p q) in
        rw (le-leb (length s) longest short, whole-deeper deepest any_depth s short h.0, h.0) h.1

    module _ (e : t ≡ None) {x : Option Weight} (q : x ≡ whole_of (read_text any_depth s)) where
      pub too_deep : {w : Weight} → x ≡ Some w → refusal 42 ≡ usage_of s
      unfolding usage_of refuse
      too_deep f =
          rw (
            le-leb (length s) longest short,
            (given-whole (whole-some (read_text any_depth s) q f)).0,
            whole-none (read_text deepest s) p e,
          )

      pub not-usage : x ≡ None → refusal 41 ≡ usage_of s
      unfolding usage_of refuse
      not-usage f = rw (le-leb (length s) longest short, whole-none (read_text any_depth s) q f)
