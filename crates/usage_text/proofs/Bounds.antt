-- Neither number of a usage is more than its text has bytes, so that no sum in the reader wraps.
use mathlib.Core.Path.{◌≡◌, refl, ap}
use mathlib.Core.List.{List, [], ◌∷◌, ◌++◌}
use Prim.Native.Nat.{ℕ, zero, suc, ◌+◌, ◌≤◌}
use native.Mathlib.Omega.{arith}
use lib.ListN.{length, length-append}
use Rattle.std.proofs.Math.Nat.{max-le}
use Rattle.usages.specs.Usage.{Usage, either, both}
use Rattle.usage_text.specs.Signs.{ampersand, star, close_sign}
use Rattle.usage_text.specs.Grammar.{Texts, Joined, single, more, Prefixed, plain, locked, unlocked, bracket, Shuffle, Choice, Inside}
use Rattle.usage_text.specs.Reading.{Read, read, read_prefixed, read_shuffle, read_choice, read_inside}
use Rattle.usage_text.specs.declared.Weight.{Weight}
use Rattle.usage_text.specs.Weights.{after_lock, either_of, both_of, weight_of, Low}
use Rattle.usage_text.proofs.Sound.{Sound, sound-prefixed, sound-shuffle, sound-choice, sound-inside}

-- no text of P has a number above its length
abbrev Light : Texts → Type 0
Light P = (s : List ℕ) (u : Usage) → P s u → Low (length s) (weight_of u)

pub either-low : (n m : ℕ) (w v : Weight) → Low n w → Low m v → Low (n + m) (either_of w v)
unfolding either_of
either-low n m w v p q =
    record {
      dip_low = max-le (omega (arith, p.dip_low)) (omega (arith, q.dip_low));
      rise_low = max-le (omega (arith, p.rise_low, q.dip_low)) (omega (arith, q.rise_low, p.dip_low));
    }

pub both-low : (n m : ℕ) (w v : Weight) → Low n w → Low m v → Low (n + m) (both_of w v)
both-low n m w v p q =
    record { dip_low = omega (arith, p.dip_low, q.dip_low); rise_low = omega (arith, p.rise_low, q.rise_low) }

pub higher-low : (n m : ℕ) (w : Weight) → n ≤ m → Low n w → Low m w
higher-low n m w l p = record { dip_low = omega (arith, p.dip_low); rise_low = omega (arith, p.rise_low) }

-- the usages that are joined, as their weights are
pub either-weight : (u v : Usage) → weight_of (either u v) ≡ either_of (weight_of u) (weight_of v)
unfolding weight_of
either-weight u v = refl

pub both-weight : (u v : Usage) → weight_of (both u v) ≡ both_of (weight_of u) (weight_of v)
unfolding weight_of
both-weight u v = refl

joined-light : (P : Texts) (sign : ℕ) (join : Usage → Usage → Usage)
    → ((n m : ℕ) (u v : Usage) → Low n (weight_of u) → Low m (weight_of v) → Low (n + m) (weight_of (join u v))) → Light P → Light (Joined P sign join)
joined-light P sign join sums light s u (single p) = light s u p
joined-light P sign join sums light s u (more {s = q} {t = t} {u = v} {v = w} j p) =
    higher-low (length q + length t) (length (q ++ (sign ∷ t))) (weight_of (join v w)) (omega (arith, length-append q (sign ∷ t)))
    (sums (length q) (length t) v w (joined-light P sign join sums light q v j) (light t w p))

prefixed-light : (P : Texts) → Light P → Light (Prefixed P)
unfolding weight_of after_lock
prefixed-light P light s u plain = record { dip_low = omega arith; rise_low = omega arith }
prefixed-light P light s u (locked {s = q} {u = v} p) =
    let l = prefixed-light P light q v p in
    record { dip_low = omega (arith, l.dip_low); rise_low = omega (arith, l.rise_low) }
prefixed-light P light s u (unlocked {s = q} {u = v} p) =
    let l = prefixed-light P light q v p in
    record { dip_low = omega (arith, l.dip_low); rise_low = omega (arith, l.rise_low) }
prefixed-light P light s u (bracket {s = q} {u = v} p) =
    higher-low (length q) (suc (length (q ++ (close_sign ∷ [])))) (weight_of v) (omega (arith, length-append q (close_sign ∷ []))) (light q v p)

shuffle-light : (P : Texts) → Light P → Light (Shuffle P)
shuffle-light P light = joined-light (Prefixed P) star both (λ n m u v p q. rw (both-weight u v) (both-low n m (weight_of u) (weight_of v) p q)) (prefixed-light P light)

choice-light : (P : Texts) → Light P → Light (Choice P)
choice-light P light = joined-light (Shuffle P) ampersand either (λ n m u v p q. rw (either-weight u v) (either-low n m (weight_of u) (weight_of v) p q)) (shuffle-light P light)

inside-light : (d : ℕ) → Light (Inside d)
unfolding Inside
inside-light zero s u p = absurd p
inside-light (suc d) s u p = choice-light (Inside d) (inside-light d) s u p

-- what was read, and what is left: together they are at most the text
pub record Room (n : ℕ) (u : Usage) (r : List ℕ) : Type 0 where
  pub dip_room : (weight_of u).dip + length r ≤ n
  pub rise_room : (weight_of u).rise + length r ≤ n

room : {P : Texts} {reads : List ℕ → Read} → Sound P reads → Light P → (s : List ℕ) (u : Usage) (r : List ℕ) → reads s ≡ read u r → Room (length s) u r
room ok light s u r e =
    let t = ok s u r e in
    let l = light t.front u t.text in
    record {
      dip_room = omega (arith, l.dip_low, ap length t.split, length-append t.front r);
      rise_room = omega (arith, l.rise_low, ap length t.split, length-append t.front r);
    }

module _ (d : ℕ) where
  pub prefixed-room : (s : List ℕ) (u : Usage) (r : List ℕ) → read_prefixed (read_inside d) s ≡ read u r → Room (length s) u r
  prefixed-room = room (sound-prefixed (Inside d) (read_inside d) (sound-inside d)) (prefixed-light (Inside d) (inside-light d))

  pub shuffle-room : (s : List ℕ) (u : Usage) (r : List ℕ) → read_shuffle (read_inside d) s ≡ read u r → Room (length s) u r
  shuffle-room = room (sound-shuffle (Inside d) (read_inside d) (sound-inside d)) (shuffle-light (Inside d) (inside-light d))

  pub choice-room : (s : List ℕ) (u : Usage) (r : List ℕ) → read_choice (read_inside d) s ≡ read u r → Room (length s) u r
  choice-room = room (sound-choice (Inside d) (read_inside d) (sound-inside d)) (choice-light (Inside d) (inside-light d))
