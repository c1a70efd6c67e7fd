-- The code against the definition: one law for each turn of the reader.
use mathlib.Core.Path.{◌≡◌, refl, sym, ap, subst, ◌∙◌}
use mathlib.Core.List.{List, [], ◌∷◌}
use mathlib.Core.Bool.{true, false}
use Prim.Native.Nat.{ℕ, zero, suc, ◌+◌, ◌-◌, ◌<◌, ◌≤◌}
use native.Mathlib.Numerals.{sub-one}
use native.Mathlib.Omega.{arith}
use lib.Dec.{eqb, lit<}
use lib.ListN.{length, drop, length-drop}
use borrow.Author.Tests.{eq-eqb, ne_eqb, eqb-true}
use Rattle.ground.specs.Bytes.{at}
use Rattle.usages.specs.Usage.{Usage, lock, unlock, either, both}
use Rattle.usage_text.specs.Signs.{ampersand, star, close_sign}
use Rattle.usage_text.specs.Grammar.{Texts, Prefixed, Shuffle, Inside}
use Rattle.usage_text.specs.declared.Head.TheVariants.{Nought, Lock, Unlock, Open, Other}
use Rattle.usage_text.specs.declared.Weight.{Weight}
use Rattle.std.specs.Prelude.{Option, None, Some}
use Rattle.usage_text.specs.Reading.{Read, unread, read, head_of, under, closed, onward, chain_from, chain, read_prefixed, read_shuffle, read_choice, read_inside}
use Rattle.usage_text.specs.Weights.{weight, after_lock, after_unlock, either_of, both_of, weight_of, taken_of, Low, rest_of, Onward}
use Rattle.usage_text.proofs.Heads.{begins, head-open}
use Rattle.usage_text.proofs.Sound.{Sound, sound-prefixed, sound-shuffle, sound-inside, sound-choice}
use Rattle.usage_text.proofs.Fuel.{lock-shorter, unlock-shorter, read-nought, read-lock, read-unlock, read-open, read-other, rest-short, onward-stop, onward-more, onward-gap}
use Rattle.usage_text.proofs.Bounds.{Room, higher-low, either-low, both-low, either-weight, both-weight, prefixed-room, shuffle-room}
use Rattle.usage_text.proofs.Parts.{rest-is}

-- ---- what the code was given
pub record Given (x : Read) (n : ℕ) (w : Weight) : Type 0 where
  pub usage : Usage
  pub left : List ℕ
  pub was : x ≡ read usage left
  pub counted : length left ≡ n
  pub weighs : weight_of usage ≡ w

pub taken_none : {t : Option (ℕ × Weight)} (x : Read) → t ≡ taken_of x → t ≡ None → x ≡ unread
unfolding taken_of
taken_none unread p q = refl
taken_none (read u r) p q = cc

pub taken-some : {t : Option (ℕ × Weight)} {n : ℕ} {w : Weight} (x : Read) → t ≡ taken_of x → t ≡ Some (n, w) → Given x n w
unfolding taken_of
taken-some unread p q = let z : ◌≡◌ {A = ℕ} 0 1 = cc in absurd (omega arith)
taken-some {t} {n} {w} (read u r) p q =
    let e : ◌≡◌ {A = ℕ × Weight} (length r, weight_of u) (n, w) = cc in
    record { usage = u; left = r; was = refl; counted = ap (λ (x : ℕ × Weight). x.0) e; weighs = ap (λ (x : ℕ × Weight). x.1) e }

-- ---- parts with signs between them
-- a sign, what it joins, and what is known of the parts
pub record Joint : Type 1 where
  pub texts : Texts
  pub sign : ℕ
  pub join : Usage → Usage → Usage
  pub joins : Weight → Weight → Weight
  pub part : List ℕ → Read
  pub positive : 0 < sign
  pub ok : Sound texts part
  pub room : (s : List ℕ) (u : Usage) (r : List ℕ) → part s ≡ read u r → Room (length s) u r
  pub weighs : (u v : Usage) → weight_of (join u v) ≡ joins (weight_of u) (weight_of v)
  pub sums : (n m : ℕ) (w v : Weight) → Low n w → Low m v → Low (n + m) (joins w v)

abbrev pub shuffles : ℕ → Joint
shuffles d =
    record {
      texts = Prefixed (Inside d);
      sign = star;
      join = both;
      joins = both_of;
      part = read_prefixed (read_inside d);
      positive = lit< tt;
      ok = sound-prefixed (Inside d) (read_inside d) (sound-inside d);
      room = prefixed-room d;
      weighs = both-weight;
      sums = both-low;
    }

abbrev pub choices : ℕ → Joint
choices d =
    record {
      texts = Shuffle (Inside d);
      sign = ampersand;
      join = either;
      joins = either_of;
      part = read_shuffle (read_inside d);
      positive = lit< tt;
      ok = sound-shuffle (Inside d) (read_inside d) (sound-inside d);
      room = shuffle-room d;
      weighs = either-weight;
      sums = either-low;
    }

module _ (k : Joint) where
  open k use {texts, sign, join, joins, part, positive, ok, room, weighs, sums}

  -- the code's rest is the definition's
  left_is : {n : ℕ} {w : Weight} (s r : List ℕ) → (g : Given (part s) n w) → r ≡ rest_of s n → r ≡ g.left
  left_is s r g e =
      let t = ok s g.usage g.left g.was in
      e ∙ ap (rest_of s) (sym g.counted) ∙ rest-is s t.front g.left t.split

  pub chain-none : {t : Option (ℕ × Weight)} (s : List ℕ) → t ≡ taken_of (part s) → t ≡ None → None ≡ taken_of (chain sign join part s)
  unfolding chain chain_from taken_of
  chain-none s p q = rw (taken_none (part s) p q)

  pub chain-some : {t x : Option (ℕ × Weight)} {n : ℕ} {w : Weight} (s r : List ℕ) → t ≡ taken_of (part s) → t ≡ Some (n, w) → r ≡ rest_of s n
      → Onward sign join part r w x → x ≡ taken_of (chain sign join part s)
  unfolding chain chain_from
  chain-some {t} {x} s r p q e o =
      let g = taken-some (part s) p q in
      let a : x ≡ taken_of (onward sign join part (length r) g.usage r) = o.goes g.usage g.weighs in
      rw g.was (rw (← left_is s r g e) a)

  -- what is left, and what was read, are within the text
  part_room : {t : Option (ℕ × Weight)} {n : ℕ} {w : Weight} (s r : List ℕ) → t ≡ taken_of (part s) → t ≡ Some (n, w) → r ≡ rest_of s n
      → (length r ≤ length s) × Low (length s - length r) w
  part_room {t} {n} {w} s r p q e =
      let g = taken-some (part s) p q in
      let l : length r ≡ length g.left = ap length (left_is s r g e) in
      let m = room s g.usage g.left g.was in (
        omega (arith, l, m.dip_room),
        subst (λ (v : Weight). Low (length s - length r) v) g.weighs
            (record { dip_low = omega (arith, l, m.dip_room); rise_low = omega (arith, l, m.rise_room) }),
      )

  -- what the next call asks: the text is short enough, and the weight leaves room for it
  pub part-asks : {t : Option (ℕ × Weight)} {n : ℕ} {w : Weight} (s r : List ℕ) → t ≡ taken_of (part s) → t ≡ Some (n, w) → r ≡ rest_of s n → length s ≤ 256
      → (length r ≤ length s) × (length r ≤ 256) × Low (256 - length r) w
  part-asks {t} {n} {w} s r p q e l =
      let m = part_room s r p q e in
      (m.0, omega (arith, m.0), higher-low (length s - length r) (256 - length r) w (omega arith) m.1)

  -- ---- behind a part
  pub on-stop : (s : List ℕ) (w : Weight) → eqb (at s 0) sign ≡ false → Onward sign join part s w (Some (length s, w))
  unfolding taken_of
  on-stop s w e =
      record { goes = λ u q. rw (onward-stop sign join part (length s) u s e, q) refl }

  pub on-gap : {t : Option (ℕ × Weight)} (s b : List ℕ) (w : Weight) → eqb (at s 0) sign ≡ true → b ≡ drop 1 s → t ≡ taken_of (part b) → t ≡ None
      → Onward sign join part s w None
  unfolding taken_of
  on-gap s b w e f p q =
      record { goes = λ u m. rw (onward-gap sign join part positive (rest-short ok) u s e (ap part (sym f) ∙ taken_none (part b) p q)) refl }

  pub on-more : {t x : Option (ℕ × Weight)} {n : ℕ} {w v v' : Weight} (s b r : List ℕ) → eqb (at s 0) sign ≡ true → b ≡ drop 1 s → t ≡ taken_of (part b) → t ≡ Some (n, v)
      → r ≡ rest_of b n → v' ≡ joins w v → Onward sign join part r v' x → Onward sign join part s w x
  on-more {t} {x} {n} {w} {v} {v'} s b r e f p q i j o =
      let g = taken-some (part b) p q in
      record {
        goes = λ u m.
            let a : x ≡ taken_of (onward sign join part (length r) (join u g.usage) r) = o.goes (join u g.usage) (weighs u g.usage ∙ rw (m, g.weighs) (sym j)) in
            rw (onward-more sign join part positive (rest-short ok) u g.usage s g.left e (ap part (sym f) ∙ g.was)) (rw (← left_is b r g i) a);
      }

  pub sign-length : (s b : List ℕ) → eqb (at s 0) sign ≡ true → b ≡ drop 1 s → length s ≡ suc (length b)
  sign-length s b e f = ap length (begins sign s positive (eqb-true (at s 0) sign e)) ∙ ap (λ (l : List ℕ). suc (length l)) (sym f)

  -- no sum on the way is too large
  pub on_room : {t : Option (ℕ × Weight)} {n : ℕ} {w v v' : Weight} (s b r : List ℕ) → eqb (at s 0) sign ≡ true → b ≡ drop 1 s → t ≡ taken_of (part b) → t ≡ Some (n, v)
      → r ≡ rest_of b n → length s ≤ 256 → Low (256 - length s) w → v' ≡ joins w v → (length r < length s) × Low (256 - length r) v'
  on_room {t} {n} {w} {v} {v'} s b r e f p q i h l j =
      let g = part_room b r p q i in
      let m = sign-length s b e f in (
        omega (arith, g.0, m),
        rw j (higher-low ((256 - length s) + (length b - length r)) (256 - length r) (joins w v) (omega (arith, g.0, m, h)) (sums (256 - length s) (length b - length r) w v l g.1)),
      )

  pub on-asks : {t : Option (ℕ × Weight)} {n : ℕ} {w v : Weight} (s b r : List ℕ) → eqb (at s 0) sign ≡ true → b ≡ drop 1 s → t ≡ taken_of (part b) → t ≡ Some (n, v)
      → r ≡ rest_of b n → length s ≤ 256 → Low (256 - length s) w → Low 256 w × Low 256 v
  on-asks {t} {n} {w} {v} s b r e f p q i h l =
      let g = part_room b r p q i in
      let m = sign-length s b e f in
      (higher-low (256 - length s) 256 w (omega arith) l, higher-low (length b - length r) 256 v (omega (arith, m, h)) g.1)

-- ---- brackets
inside-deeper : (d : ℕ) (s : List ℕ) → (d ≡ 0 → ⊥) → read_inside d s ≡ read_choice (read_inside (d - 1)) s
unfolding read_inside
inside-deeper zero s e = absurd (e refl)
inside-deeper (suc d) s e = rw sub-one

pub no-bracket : (d : ℕ) (s : List ℕ) → d ≡ 0 → None ≡ taken_of (closed (read_inside d s))
unfolding read_inside closed taken_of
no-bracket d s e = rw e

module _ (d : ℕ) (s : List ℕ) (positive : d ≡ 0 → ⊥) {t : Option (ℕ × Weight)} (p : t ≡ taken_of (read_choice (read_inside (d - 1)) s)) where
  pub bracket-none : t ≡ None → None ≡ taken_of (closed (read_inside d s))
  unfolding closed taken_of
  bracket-none q = rw (inside-deeper d s positive, taken_none (read_choice (read_inside (d - 1)) s) p q)

  bracket-left : {n : ℕ} {w : Weight} (r : List ℕ) (g : Given (read_choice (read_inside (d - 1)) s) n w) → r ≡ rest_of s n → r ≡ g.left
  bracket-left r g e =
      let m = sound-choice (Inside (d - 1)) (read_inside (d - 1)) (sound-inside (d - 1)) s g.usage g.left g.was in
      e ∙ ap (rest_of s) (sym g.counted) ∙ rest-is s m.front g.left m.split

  pub bracket-closed : {n : ℕ} {w : Weight} (r : List ℕ) → t ≡ Some (n, w) → r ≡ rest_of s n → at r 0 ≡ close_sign
      → Some (length r - 1, w) ≡ taken_of (closed (read_inside d s))
  unfolding closed taken_of
  bracket-closed {n} {w} r q e f =
      let g = taken-some (read_choice (read_inside (d - 1)) s) p q in
      let l = bracket-left r g e in
      rw (inside-deeper d s positive, g.was, ← l, eq-eqb (at r 0) close_sign f, g.weighs)
      (ap (λ (k : ℕ). Some (k, w)) (sym (length-drop 1 r)))

  pub bracket-open : {n : ℕ} {w : Weight} (r : List ℕ) → t ≡ Some (n, w) → r ≡ rest_of s n → (at r 0 ≡ close_sign → ⊥)
      → None ≡ taken_of (closed (read_inside d s))
  unfolding closed taken_of
  bracket-open r q e f =
      let g = taken-some (read_choice (read_inside (d - 1)) s) p q in
      let l = bracket-left r g e in
      rw (inside-deeper d s positive, g.was, ← l, ne_eqb (at r 0) close_sign f)

pub not-empty : (s : List ℕ) (b : ℕ) → 0 < b → at s 0 ≡ b → 1 ≤ length s
not-empty [] b l e = absurd (omega arith)
not-empty (c ∷ s) b l e = omega arith

-- ---- prefixes
module _ (f : Usage → Usage) (g : Weight → Weight) (weighs : (u : Usage) → weight_of (f u) ≡ g (weight_of u)) {t : Option (ℕ × Weight)} (x : Read) (p : t ≡ taken_of x) where
  under-none : t ≡ None → None ≡ taken_of (under f x)
  unfolding taken_of
  under-none q = rw (taken_none x p q)

  under-some : {n : ℕ} {w v : Weight} → t ≡ Some (n, w) → v ≡ g w → Some (n, v) ≡ taken_of (under f x)
  unfolding taken_of
  under-some q e = let k = taken-some x p q in rw (k.was, e, weighs k.usage, k.weighs, k.counted)

lock-weight : (u : Usage) → weight_of (lock u) ≡ after_lock (weight_of u)
unfolding weight_of
lock-weight u = refl

unlock-weight : (u : Usage) → weight_of (unlock u) ≡ after_unlock (weight_of u)
unfolding weight_of
unlock-weight u = refl

pub taken-low : (d : ℕ) (s : List ℕ) {t : Option (ℕ × Weight)} {n : ℕ} {w : Weight} → t ≡ taken_of (read_prefixed (read_inside d) s) → t ≡ Some (n, w) → length s ≤ 256
    → Low 256 w
taken-low d s p q l =
    let k = taken-some (read_prefixed (read_inside d) s) p q in
    let m = prefixed-room d s k.usage k.left k.was in
    subst (λ (v : Weight). Low 256 v) k.weighs (record { dip_low = omega (arith, m.dip_room); rise_low = omega (arith, m.rise_room) })

module _ (inside : List ℕ → Read) (s r : List ℕ) where
  pub takes-nought : head_of s ≡ Nought → r ≡ drop 1 s → Some (length r, weight 0 0) ≡ taken_of (read_prefixed inside s)
  unfolding taken_of weight_of
  takes-nought h e = rw (read-nought inside s h, e)

  module _ (h : head_of s ≡ Lock) (e : r ≡ drop 2 s) {t : Option (ℕ × Weight)} (p : t ≡ taken_of (read_prefixed inside r)) where
    pub lock-none : t ≡ None → None ≡ taken_of (read_prefixed inside s)
    lock-none q = rw (read-lock inside s h, ← e) (under-none lock after_lock lock-weight (read_prefixed inside r) p q)

    pub takes-lock : {n : ℕ} {w v : Weight} → t ≡ Some (n, w) → v ≡ after_lock w → Some (n, v) ≡ taken_of (read_prefixed inside s)
    takes-lock q f = rw (read-lock inside s h, ← e) (under-some lock after_lock lock-weight (read_prefixed inside r) p q f)

  module _ (h : head_of s ≡ Unlock) (e : r ≡ drop 3 s) {t : Option (ℕ × Weight)} (p : t ≡ taken_of (read_prefixed inside r)) where
    pub unlock-none : t ≡ None → None ≡ taken_of (read_prefixed inside s)
    unlock-none q = rw (read-unlock inside s h, ← e) (under-none unlock after_unlock unlock-weight (read_prefixed inside r) p q)

    pub takes-unlock : {n : ℕ} {w v : Weight} → t ≡ Some (n, w) → v ≡ after_unlock w → Some (n, v) ≡ taken_of (read_prefixed inside s)
    takes-unlock q f = rw (read-unlock inside s h, ← e) (under-some unlock after_unlock unlock-weight (read_prefixed inside r) p q f)

  pub takes-open : {x : Option (ℕ × Weight)} → head_of s ≡ Open → r ≡ drop 1 s → x ≡ taken_of (closed (inside r)) → x ≡ taken_of (read_prefixed inside s)
  takes-open h e p = p ∙ rw e (ap taken_of (sym (read-open inside s h)))

  pub takes-other : head_of s ≡ Other → None ≡ taken_of (read_prefixed inside s)
  unfolding taken_of
  takes-other h = rw (read-other inside s h)

  pub lock-falls : head_of s ≡ Lock → r ≡ drop 2 s → length r < length s
  lock-falls h e = omega (arith, lock-shorter s h, ap length e)

  pub unlock-falls : head_of s ≡ Unlock → r ≡ drop 3 s → length r < length s
  unlock-falls h e = omega (arith, unlock-shorter s h, ap length e)

  pub open-falls : head_of s ≡ Open → r ≡ drop 1 s → length r < length s
  open-falls h e = omega (arith, ap length (head-open s h), ap length e)
