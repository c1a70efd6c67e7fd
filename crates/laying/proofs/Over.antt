-- Bytes laid one after the other over others, and the loops that lay them.
use mathlib.Core.List.{List, [], ◌∷◌, ◌++◌, append_assoc}
use mathlib.Core.Path.{◌≡◌, refl, sym, ap, ap₂, ◌∙◌}
use mathlib.Core.Logic.{⊎_elim}
use borrow.Rule.Slice.PartMut.{put_mid}
use Prim.Native.Nat.{ℕ, zero, suc, ◌+◌, ◌-◌, ◌<◌, ◌≤◌}
use native.Mathlib.Nat.{le_of_suc-le-suc, eq-or-lt_of_le}
use native.Mathlib.Numerals.{add-one}
use native.Mathlib.Omega.{arith}
use lib.ListN.{length, take, drop, set, length-append, length-take, length-drop}
use lib.Seq.{take_at, drop-append-add, drop-drop, sets-eq, paste-zero, take-suc, take-length}
use Rattle.ground.specs.Bytes.{at}
use Rattle.ground.specs.Lists.{each, numbered}
use Rattle.laying.specs.Laying.{over}
use Rattle.laying.specs.Loops.{Lays, Room}

module _ (out : List ℕ) (p : ℕ) where
  over_none : over out p [] ≡ out
  unfolding over
  over_none = sym (paste-zero out p [])

  over-one : (x : ℕ) → p + 1 ≤ length out → set out p x ≡ over out p (x ∷ [])
  unfolding over
  over-one x h = sets-eq (x ∷ []) out p h

  over-length : (xs : List ℕ) → p + length xs ≤ length out → length (over out p xs) ≡ length out
  unfolding over
  over-length xs h = simp (length-append, length-take, length-drop) (omega arith)

  over-more : (xs ys : List ℕ) → p ≤ length out → over (over out p xs) (p + length xs) ys ≡ over out p (xs ++ ys)
  unfolding over
  over-more xs ys h =
      let e : length (take p out ++ xs) ≡ p + length xs = simp (length-append, length-take) (omega arith) in
      let front : take (p + length xs) (take p out ++ xs ++ drop (p + length xs) out) ≡ take p out ++ xs = take_at (take p out ++ xs) (drop (p + length xs) out) (p + length xs) e in
      let back : drop (p + length xs + length ys) (take p out ++ xs ++ drop (p + length xs) out) ≡ drop (p + length xs + length ys) out =
      ap (λ (n : ℕ). drop (n + length ys) (take p out ++ xs ++ drop (p + length xs) out)) (sym e)
      ∙ drop-append-add (take p out ++ xs) (drop (p + length xs) out) (length ys)
      ∙ drop-drop (length ys) (p + length xs) out in
      let m : p + length xs + length ys ≡ p + length (xs ++ ys) = omega (arith, length-append xs ys) in
      ap₂ (λ (a b : List ℕ). a ++ ys ++ b) front back
      ∙ ap₂ (λ (a : List ℕ) (n : ℕ). a ++ drop n out) (append_assoc (take p out) xs ys) m

  pub lays-none : Lays out p [] p out
  lays-none = record { next = omega arith; bytes = sym over_none }

  pub lays_one : (x : ℕ) → Room out p (x ∷ []) → Lays out p (x ∷ []) (p + 1) (set out p x)
  lays_one x h = record { next = refl; bytes = over-one x h }

  module _ {xs : List ℕ} {q : ℕ} {o : List ℕ} (a : Lays out p xs q o) where
    pub lays-long : Room out p xs → length o ≡ length out
    lays-long h = ap length a.bytes ∙ over-length xs h

    -- one after the other
    pub lays-then : {ys : List ℕ} {r : ℕ} {o' : List ℕ} → Room out p (xs ++ ys) → Lays o q ys r o' → Lays out p (xs ++ ys) r o'
    lays-then {ys} h b =
        record {
          next = omega (arith, a.next, b.next, length-append xs ys);
          bytes = b.bytes ∙ ap₂ (λ (l : List ℕ) (n : ℕ). over l n ys) a.bytes a.next ∙ over-more xs ys (omega arith);
        }

    pub room_next : (ys : List ℕ) → Room out p (xs ++ ys) → Room o q ys
    room_next ys h = omega (arith, length-append xs ys, a.next, lays-long (omega (arith, length-append xs ys)))

-- .. with one byte between them
pub lays-between : (out : List ℕ) (p : ℕ) {xs : List ℕ} {y : ℕ} {ys : List ℕ} {v w r x : ℕ} {o₁ o₂ o₃ : List ℕ} → Room out p (xs ++ (y ∷ ys)) → x ≡ y
    → Lays out p xs v o₁ → Lays o₁ v (x ∷ []) w o₂ → Lays o₂ w ys r o₃ → Lays out p (xs ++ (y ∷ ys)) r o₃
lays-between out p {xs} {y} {ys} {v} {w} {r} {x} {o₁} {o₂} h e a b d =
    let b' : Lays o₁ v (y ∷ []) w o₂ = rw e at b in
    lays-then out p a h (lays-then o₁ v b' (room_next out p a (y ∷ ys) h) d)

-- ---- f 0, f 1, .. one after the other
each_within : (f : ℕ → List ℕ) (n i : ℕ) → i < n → length (each i f) + length (f i) ≤ length (each n f)
unfolding each
each_within f zero i l = absurd (omega arith)
each_within f (suc n) i l =
    ⊎_elim (λ q. rw q (omega (arith, length-append (each n f) (f n))))
    (λ k. omega (arith, length-append (each n f) (f n), each_within f n i k)) (eq-or-lt_of_le (le_of_suc-le-suc l))

module _ (f : ℕ → List ℕ) (out : List ℕ) (p : ℕ) where
  pub each_none : Lays out p (each 0 f) p out
  unfolding each
  each_none = lays-none out p

  -- a turn of the loop
  pub each_more : {q r : ℕ} {o o' : List ℕ} (n i : ℕ) → i < n → Room out p (each n f) → Lays out p (each i f) q o → Lays o q (f i) r o' → Lays out p (each (i + 1) f) r o'
  unfolding each
  each_more n i l h a b = rw (add-one i) (lays-then out p a (omega (arith, length-append (each i f) (f i), each_within f n i l)) b)

  pub each-room : {q : ℕ} {o : List ℕ} (n i : ℕ) → i < n → Room out p (each n f) → Lays out p (each i f) q o → Room o q (f i)
  each-room n i l h a =
      let w = each_within f n i l in
      omega (arith, a.next, lays-long out p a (omega arith))

  pub each_long : {q : ℕ} {o : List ℕ} (n i : ℕ) → i ≤ n → Room out p (each n f) → Lays out p (each i f) q o → length o ≡ length out
  each_long n i l h a =
      ⊎_elim (λ e. lays-long out p a (rw e h)) (λ k. let w = each_within f n i k in lays-long out p a (omega arith)) (eq-or-lt_of_le l)

  pub each-done : {q : ℕ} {o : List ℕ} (n i : ℕ) → i ≤ n → n ≤ i → Lays out p (each i f) q o → Lays out p (each n f) q o
  each-done n i l k a = let e : i ≡ n = omega arith in rw e at a

-- all of a string, byte by byte
taken-all : (s : List ℕ) (n : ℕ) → n ≤ length s → numbered n (at s) ≡ take n s
unfolding each
taken-all s zero h = refl
taken-all s (suc n) h = ap (λ (l : List ℕ). l ++ (at s n ∷ [])) (taken-all s n (omega arith)) ∙ sym (take-suc s n 0 (omega arith))

bytes-all : (s : List ℕ) → numbered (length s) (at s) ≡ s
bytes-all s = taken-all s (length s) (omega arith) ∙ take-length s

abbrev bytes : List ℕ → ℕ → List ℕ
bytes s i = at s i ∷ []

module _ (src out : List ℕ) (p : ℕ) (h : Room out p src) where
  bytes-room : Room out p (numbered (length src) (at src))
  bytes-room = rw (bytes-all src) h

  pub all_none : Lays out p (numbered 0 (at src)) p out
  all_none = each_none (bytes src) out p

  module _ {q : ℕ} {o : List ℕ} (i : ℕ) (a : Lays out p (numbered i (at src)) q o) where
    pub all_more : {r : ℕ} {o' : List ℕ} → i < length src → Lays o q (at src i ∷ []) r o' → Lays out p (numbered (i + 1) (at src)) r o'
    all_more l b = each_more (bytes src) out p (length src) i l bytes-room a b

    pub all_room : i < length src → Room o q (at src i ∷ [])
    all_room l = each-room (bytes src) out p (length src) i l bytes-room a

    pub all_done : i ≤ length src → length src ≤ i → Lays out p src q o
    all_done l k = rw (bytes-all src) at (each-done (bytes src) out p (length src) i l k a)

    pub all-long : i ≤ length src → length o ≡ length out
    all-long l = each_long (bytes src) out p (length src) i l bytes-room a

-- a part of out that src is copied over
pub lays_copied : (out : List ℕ) (p : ℕ) (src new : List ℕ) → new ≡ src → Lays out p src (p + length src) (put_mid p (p + length src - p) out new)
unfolding over
lays_copied out p src new e =
    let k : p + length src - p ≡ length src = omega arith in
    record { next = refl; bytes = rw (k, e, drop-drop (length src) p out) (sym (append_assoc (take p out) src (drop (p + length src) out))) }
