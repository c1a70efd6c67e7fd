-- The answer means what Q-11 says, and is the only one that does.
use mathlib.Core.Path.{◌≡◌, refl, sym, ap, subst}
use mathlib.Core.Logic.{◌↔◌}
use mathlib.Core.List.{List, []}
use mathlib.Core.Bool.{Bool, true, false}
use Prim.Native.Nat.{ℕ, zero, suc, ◌+◌, ◌≤◌}
use native.Mathlib.Omega.{arith}
use lib.Dec.{eqb, leb}
use lib.ListN.{length}
use lib.IntN.{ℤ, pos, negsuc, nat_abs, neg_ℤ}
use lib.Signed.{◌≤ℤ◌}
use borrow.Author.Tests.{leb-true, leb-false, le-leb, lt-leb, eqb-true, eq-eqb}
use Rattle.ground.specs.Chain.{refuse}
use Rattle.ground.proofs.Bools.{and-fst, and-snd, and_both, never}
use Rattle.usages.specs.Usage.{Usage}
use Rattle.usages.specs.Counts.{min_of, fin_of}
use Rattle.usages.specs.Steps.{Reliable, Least, Greatest}
use Rattle.usages.proofs.Whole.{up, down, le_up, up_le, up-eq}
use Rattle.usages.proofs.Reliability.{min-least, fin-greatest, reliable-zero, zero-reliable}
use Rattle.usage_text.specs.Answer.{Reading}
use Rattle.usage_text.specs.Grammar.{TextOf}
use Rattle.usage_text.specs.Reading.{Read, read, read_text, is_whole}
use Rattle.usage_text.specs.Weights.{weight_of}
use Rattle.usage_text.specs.Answer.{longest, deepest, any_depth, dip_of, in_range, is_reliable, refusal, told, weighed, usage_of}
use Rattle.usage_text.specs.Meaning.{Weighs, InEntry, UsageMeans, UsageInEntry, Says, too_long, no_usage, too_deep, too_wide, is_usage}
use Rattle.usage_text.proofs.Weights.{min-dip}
use Rattle.usage_text.proofs.Grammar.{text-read, whole-text, text-whole}
use Rattle.usage_text.proofs.Depth.{deep-enough}

-- ---- what a usage weighs
minus-dip : (z : ℤ) (n : ℕ) → up z + n ≡ down z → z ≡ neg_ℤ (pos (nat_abs z))
unfolding up down
minus-dip (pos zero) n e = refl
minus-dip (pos (suc m)) n e = absurd (omega arith)
minus-dip (negsuc m) n e = refl

dip-least : (u : Usage) → Least u (neg_ℤ (pos (dip_of u)))
unfolding dip_of
dip-least u = subst (λ (z : ℤ). Least u z) (minus-dip (min_of u) (weight_of u).dip (min-dip u)) (min-least u)

no_size : (z : ℤ) → nat_abs z ≡ 0 → z ≡ pos 0
no_size (pos n) e = ap pos e
no_size (negsuc n) e = absurd (omega arith)

tells-reliable : (u : Usage) → (is_reliable u ≡ true) ↔ Reliable u
unfolding is_reliable
tells-reliable u = (
  λ e. zero-reliable u (no_size (min_of u) (eqb-true _ _ (and-fst (eqb (nat_abs (min_of u)) 0) (eqb (nat_abs (fin_of u)) 0) e)))
      (no_size (fin_of u) (eqb-true _ _ (and-snd (eqb (nat_abs (min_of u)) 0) (eqb (nat_abs (fin_of u)) 0) e))),
  λ r. let z = reliable-zero u r in
      and_both (eqb (nat_abs (min_of u)) 0) (eqb (nat_abs (fin_of u)) 0) (eq-eqb (nat_abs (min_of u)) 0 (ap nat_abs z.0)) (eq-eqb (nat_abs (fin_of u)) 0 (ap nat_abs z.1)),
)

pub weighs : (u : Usage) → Weighs u (dip_of u) (fin_of u) (is_reliable u)
weighs u = record { dips = dip-least u; ends = fin-greatest u; tells = tells-reliable u }

-- ---- the entry's range
near-zero : (z : ℤ) → nat_abs z ≤ 63 → (neg_ℤ (pos 63) ≤ℤ z) × (z ≤ℤ pos 63)
unfolding up down
near-zero (pos n) l = (up_le (negsuc 62) (pos n) (omega arith), up_le (pos n) (pos 63) (omega arith))
near-zero (negsuc n) l = (up_le (negsuc 62) (negsuc n) (omega arith), up_le (negsuc n) (pos 63) (omega arith))

zero-near : (z : ℤ) → neg_ℤ (pos 63) ≤ℤ z → z ≤ℤ pos 63 → nat_abs z ≤ 63
unfolding up down
zero-near (pos n) p q = omega (arith, le_up (pos n) (pos 63) q)
zero-near (negsuc n) p q = omega (arith, le_up (negsuc 62) (negsuc n) p)

in_entry : (u : Usage) → in_range u ≡ true → InEntry (dip_of u) (fin_of u)
unfolding in_range
in_entry u e =
    let z = near-zero (fin_of u) (leb-true _ _ (and-snd (leb (dip_of u) 63) (leb (nat_abs (fin_of u)) 63) e)) in
    record { dip_in = leb-true _ _ (and-fst (leb (dip_of u) 63) (leb (nat_abs (fin_of u)) 63) e); end_above = z.0; end_below = z.1 }

entry_in : (u : Usage) → InEntry (dip_of u) (fin_of u) → in_range u ≡ true
unfolding in_range
entry_in u h =
    and_both (leb (dip_of u) 63) (leb (nat_abs (fin_of u)) 63) (le-leb _ _ h.dip_in) (le-leb _ _ (zero-near (fin_of u) h.end_above h.end_below))

nothing-in : InEntry 0 (pos 0)
nothing-in =
    let z = near-zero (pos 0) (omega arith) in
    record { dip_in = omega arith; end_above = z.0; end_below = z.1 }

-- ---- the answer says so
weighed-says : (s : List ℕ) (u : Usage) → length s ≤ longest → TextOf deepest s u → (t : Bool) → in_range u ≡ t
    → Says s (refuse t (refusal 43) (told u))
unfolding refuse
weighed-says s u l p true e = is_usage l p (weighs u) (in_entry u e)
weighed-says s u l p false e = too_wide l p (weighs u) (λ h. never (entry_in u h) e)

answer-says : (s : List ℕ) → Says s (usage_of s)
unfolding usage_of refuse weighed
answer-says s = long (leb (length s) longest) refl
  where
    read_as : (x : Read) (u : Usage) → x ≡ read u [] → weighed x ≡ refuse (in_range u) (refusal 43) (told u)
    read_as x u e = ap weighed e

    deep : length s ≤ longest → (t : Bool) → is_whole (read_text deepest s) ≡ t → is_whole (read_text any_depth s) ≡ true
        → Says s (refuse t (refusal 42) (weighed (read_text deepest s)))
    deep l true e f =
        let w = whole-text deepest s e in
        subst (λ (a : Reading). Says s a) (sym (read_as (read_text deepest s) w.0 w.1)) (weighed-says s w.0 l w.2 (in_range w.0) refl)
    deep l false e f =
        let w = whole-text any_depth s f in
        too_deep l any_depth w.2 (λ v p. never (text-whole deepest s v p) e)

    none : length s ≤ longest → (t : Bool) → is_whole (read_text any_depth s) ≡ t
        → Says s (refuse t (refusal 41) (refuse (is_whole (read_text deepest s)) (refusal 42) (weighed (read_text deepest s))))
    none l true e = deep l (is_whole (read_text deepest s)) refl e
    none l false e = no_usage l (λ d u p. never (text-whole any_depth s u (deep-enough d any_depth s u l p)) e)

    long : (t : Bool) → leb (length s) longest ≡ t
        → Says s (refuse t (refusal 40) (refuse (is_whole (read_text any_depth s)) (refusal 41) (refuse (is_whole (read_text deepest s)) (refusal 42) (weighed (read_text deepest s)))))
    long true e = none (leb-true (length s) longest e) (is_whole (read_text any_depth s)) refl
    long false e = too_long (leb-false (length s) longest e)

-- ---- and no other answer does
least-once : (u : Usage) (a b : ℤ) → Least u a → Least u b → a ≡ b
least-once u a b p q =
    up-eq a b
    (omega (arith, le_up a b (p.lowest q.reached.0 b q.reached.1), le_up b a (q.lowest p.reached.0 a p.reached.1)))

greatest-once : (u : Usage) (a b : ℤ) → Greatest u a → Greatest u b → a ≡ b
greatest-once u a b p q =
    up-eq a b
    (omega (arith, le_up a b (q.highest p.reached.0 a p.reached.2 p.reached.1), le_up b a (p.highest q.reached.0 b q.reached.2 q.reached.1)))

pos-once : (d e : ℕ) → neg_ℤ (pos d) ≡ neg_ℤ (pos e) → d ≡ e
pos-once zero zero q = refl
pos-once zero (suc e) q = cc
pos-once (suc d) zero q = cc
pos-once (suc d) (suc e) q = ap nat_abs q

flag-once : {A : Type 0} (a b : Bool) → (a ≡ true) ↔ A → (b ≡ true) ↔ A → a ≡ b
flag-once true true p q = refl
flag-once false false p q = refl
flag-once true false p q = sym (q.1 (p.0 refl))
flag-once false true p q = p.1 (q.0 refl)

weighs-once : (u : Usage) {d : ℕ} {e : ℤ} {b : Bool} → Weighs u d e b → (dip_of u ≡ d) × (fin_of u ≡ e) × (is_reliable u ≡ b)
weighs-once u {d} {e} {b} w = (
  pos-once (dip_of u) d (least-once u (neg_ℤ (pos (dip_of u))) (neg_ℤ (pos d)) (dip-least u) w.dips),
  greatest-once u (fin_of u) e (fin-greatest u) w.ends,
  flag-once (is_reliable u) b (tells-reliable u) w.tells,
)

module _ (s : List ℕ) (l : length s ≤ longest) where
  usage-answer : (u : Usage) → TextOf deepest s u → (t : Bool) → in_range u ≡ t → usage_of s ≡ refuse t (refusal 43) (told u)
  unfolding usage_of refuse weighed
  usage-answer u p t e =
      rw (le-leb (length s) longest l, text-whole any_depth s u (deep-enough deepest any_depth s u l p), text-whole deepest s u p, text-read deepest s u p, e)

  no_text : (d : ℕ) → ((u : Usage) → TextOf d s u → ⊥) → is_whole (read_text d s) ≡ false
  no_text d h = go (is_whole (read_text d s)) refl
    where
      go : (t : Bool) → is_whole (read_text d s) ≡ t → t ≡ false
      go true e = let w = whole-text d s e in absurd (h w.0 w.2)
      go false e = refl

says-answer : (s : List ℕ) (a : Reading) → Says s a → a ≡ usage_of s
unfolding usage_of refuse
says-answer s a (too_long h) = rw (lt-leb (length s) longest h)
says-answer s a (no_usage l h) = rw (le-leb (length s) longest l, no_text s l any_depth (h any_depth))
says-answer s a (too_deep l d {u} p h) =
    rw (le-leb (length s) longest l, text-whole any_depth s u (deep-enough d any_depth s u l p), no_text s l deepest h)
says-answer s a (too_wide l {u} p {d} {e} {b} w h) = sym (usage-answer s l u p false (go (in_range u) refl))
  where
    go : (t : Bool) → in_range u ≡ t → t ≡ false
    go true q =
        let o = weighs-once u w in
        absurd (h (subst (λ (z : ℤ). InEntry d z) o.1 (subst (λ (n : ℕ). InEntry n (fin_of u)) o.0 (in_entry u q))))
    go false q = refl
says-answer s a (is_usage l {u} p {d} {e} {b} w h) = go (weighs-once u w)
  where
    go : (dip_of u ≡ d) × (fin_of u ≡ e) × (is_reliable u ≡ b) → record { number = 0; dip = d; end = e; reliable = b } ≡ usage_of s
    go o =
        let m : InEntry (dip_of u) (fin_of u) = subst (λ (z : ℤ). InEntry (dip_of u) z) (sym o.1) (subst (λ (n : ℕ). InEntry n e) (sym o.0) h) in
        rw (← o.0, ← o.1, ← o.2) (sym (usage-answer s l u p true (entry_in u m)))

-- THEOREM
pub usage-means : UsageMeans
usage-means s a = (says-answer s a, λ e. subst (λ (x : Reading). Says s x) (sym e) (answer-says s))

says-in-entry : {s : List ℕ} {a : Reading} → Says s a → InEntry a.dip a.end
unfolding up down
says-in-entry (too_long h) = nothing-in
says-in-entry (no_usage l h) = nothing-in
says-in-entry (too_deep l d p h) = nothing-in
says-in-entry (too_wide l p w h) = nothing-in
says-in-entry (is_usage l p w h) = h

-- THEOREM
pub usage-in-entry : UsageInEntry
usage-in-entry s = says-in-entry (answer-says s)

-- the same of the end's size, for those who compute with it
pub end-small : (s : List ℕ) → nat_abs (usage_of s).end ≤ 63
end-small s = let h = usage-in-entry s in zero-near (usage_of s).end h.end_above h.end_below
