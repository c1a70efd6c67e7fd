-- What stands in a list that is counted off; and the first that is broken, of lists one after another.
use mathlib.Core.List.{List, [], ◌∷◌, ◌++◌, map}
use mathlib.Core.Path.{◌≡◌, refl, sym, ap, ◌∙◌}
use mathlib.Core.Logic.{◌⊎◌, inl, inr, ⊎_elim}
use mathlib.Core.Bool.{Bool, true, false, cond}
use Prim.Native.Nat.{ℕ, zero, suc, ◌<◌}
use native.Mathlib.Nat.{le_of_suc-le-suc, eq-or-lt_of_le}
use native.Mathlib.Omega.{arith}
use Rattle.ground.specs.Chain.{refuse, or_then, scan}
use Rattle.ground.specs.Lists.{each, numbered, In, All, First, first_broken}
use Rattle.ground.proofs.Bools.{never}

module _ {A : Type 0} where
  pub in-append : (x : A) (l m : List A) → In x (l ++ m) → In x l ⊎ In x m
  unfolding In
  in-append x [] m h = inr h
  in-append x (y ∷ l) m (inl e) = inl (inl e)
  in-append x (y ∷ l) m (inr h) = ⊎_elim (λ k. inl (inr k)) (λ k. inr k) (in-append x l m h)

  pub in_left : (x : A) (l m : List A) → In x l → In x (l ++ m)
  unfolding In
  in_left x [] m x'' = elim x'' [ ]
  in_left x (y ∷ l) m (inl e) = inl e
  in_left x (y ∷ l) m (inr h) = inr (in_left x l m h)

  pub in_right : (x : A) (l m : List A) → In x m → In x (l ++ m)
  unfolding In
  in_right x [] m h = h
  in_right x (y ∷ l) m h = inr (in_right x l m h)

  pub in-each : (x : A) (n : ℕ) (f : ℕ → List A) → In x (each n f) → (i : ℕ) × (i < n) × In x (f i)
  unfolding In each
  in-each x zero f h = elim h [ ]
  in-each x (suc n) f h = ⊎_elim (λ k. let r = in-each x n f k in (r.0, omega (arith, r.1), r.2)) (λ k. (n, omega arith, k)) (in-append x (each n f) (f n) h)

  pub each_in : (x : A) (n : ℕ) (f : ℕ → List A) (i : ℕ) → i < n → In x (f i) → In x (each n f)
  unfolding each
  each_in x zero f i l h = absurd (omega arith)
  each_in x (suc n) f i l h =
      ⊎_elim (λ q. in_right x (each n f) (f n) (rw q at h)) (λ k. in_left x (each n f) (f n) (each_in x n f i k h)) (eq-or-lt_of_le (le_of_suc-le-suc l))

  pub in-numbered : (x : A) (n : ℕ) (f : ℕ → A) → In x (numbered n f) → (i : ℕ) × (i < n) × (x ≡ f i)
  unfolding In
  in-numbered x n f h = let r = in-each x n (λ i. f i ∷ []) h in (r.0, r.1, ⊎_elim (λ e. e) (λ k. absurd k) r.2)

  pub numbered-in : (x : A) (n : ℕ) (f : ℕ → A) (i : ℕ) → i < n → x ≡ f i → In x (numbered n f)
  unfolding In
  numbered-in x n f i l e = each_in x n (λ i. f i ∷ []) i l (inl e)

  pub in_map : {P : Type 0} (f : P → A) (x : A) (l : List P) → In x (map f l) → (p : P) × (x ≡ f p) × In p l
  unfolding In
  in_map {P = P} f x [] x'' = elim x'' [ ]
  in_map f x (p ∷ l) (inl e) = (p, e, inl refl)
  in_map f x (p ∷ l) (inr h) = let r = in_map f x l h in (r.0, r.1, inr r.2)

  pub map-in : {P : Type 0} (f : P → A) (p : P) (l : List P) → In p l → In (f p) (map f l)
  unfolding In
  map-in {P = P} f p [] x' = elim x' [ ]
  map-in f p (q ∷ l) (inl e) = inl (ap f e)
  map-in f p (q ∷ l) (inr h) = inr (map-in f p l h)

module _ {A : Type 0} (holds : A → Bool) where
  pub first-in : (l : List A) (x : A) → First holds l x → In x l
  unfolding In
  first-in l x f = rw f.whole (in_right x f.front (x ∷ f.back) (inl refl))

  pub all_in : (l : List A) → All holds l → (x : A) → In x l → holds x ≡ true
  unfolding All In
  all_in [] a x x4 = elim x4 [ ]
  all_in (y ∷ l) a x (inl e) = rw e a.0
  all_in (y ∷ l) a x (inr h) = all_in l a.1 x h

  pub in_all : (l : List A) → ((x : A) → In x l → holds x ≡ true) → All holds l
  unfolding All In
  in_all [] h = tt
  in_all (y ∷ l) h = (h y (inl refl), in_all l (λ x k. h x (inr k)))

-- an answer shows that it is one of something broken
module _ {A : Type 0} {B : Type 0} (holds : A → Bool) (answer : A → B) (bad : B → Bool) (told : (x : A) → holds x ≡ false → bad (answer x) ≡ true) where
  pub first-all : (none : B) (l : List A) → All holds l → first_broken holds answer none l ≡ none
  unfolding All first_broken refuse
  first-all none [] a = refl
  first-all none (x ∷ l) a = rw a.0 (first-all none l a.1)

  pub all_first : (none : B) (l : List A) → bad (first_broken holds answer none l) ≡ false → All holds l
  unfolding All first_broken refuse
  all_first none [] h = tt
  all_first none (x ∷ l) h = go (holds x) refl h (all_first none l)
    where
      go : (t : Bool) → holds x ≡ t → bad (cond t (first_broken holds answer none l) (answer x)) ≡ false
          → (bad (first_broken holds answer none l) ≡ false → All holds l) → (holds x ≡ true) × All holds l
      go true e h ih = (e, ih h)
      go false e h ih = never (told x e) h

  pub first-is : (none : B) → bad none ≡ false → (l : List A) → bad (first_broken holds answer none l) ≡ true
      → (x : A) × First holds l x × (first_broken holds answer none l ≡ answer x)
  unfolding All first_broken refuse
  first-is none fine [] h = never h fine
  first-is none fine (x ∷ l) h = go (holds x) refl h (first-is none fine l)
    where
      go : (t : Bool) → holds x ≡ t → bad (cond t (first_broken holds answer none l) (answer x)) ≡ true
          → (bad (first_broken holds answer none l) ≡ true → (y : A) × First holds l y × (first_broken holds answer none l ≡ answer y))
          → (y : A) × First holds (x ∷ l) y × (cond t (first_broken holds answer none l) (answer x) ≡ answer y)
      go true e h ih =
          let r = ih h in
          (r.0, record { front = x ∷ r.1.front; back = r.1.back; whole = ap (λ (m : List A). x ∷ m) r.1.whole; before = (e, r.1.before); broken = r.1.broken }, r.2)
      go false e h ih = (x, record { front = []; back = l; whole = refl; before = tt; broken = e }, refl)

  -- one list after another: the first's answer where something there is broken
  pub first-append : (other none : B) → bad other ≡ false → (l m : List A)
      → first_broken holds answer none (l ++ m) ≡ or_then bad (first_broken holds answer other l) (first_broken holds answer none m)
  unfolding first_broken refuse or_then
  first-append other none fine [] m = rw fine
  first-append other none fine (x ∷ l) m = go (holds x) refl (first-append other none fine l m)
    where
      go : (t : Bool) → holds x ≡ t
          → first_broken holds answer none (l ++ m) ≡ cond (bad (first_broken holds answer other l)) (first_broken holds answer other l) (first_broken holds answer none m)
          → cond t (first_broken holds answer none (l ++ m)) (answer x)
          ≡ cond (bad (cond t (first_broken holds answer other l) (answer x))) (cond t (first_broken holds answer other l) (answer x)) (first_broken holds answer none m)
      go true e ih = ih
      go false e ih = rw (told x e)

  then-none : (none : B) (l : List A) → or_then bad (first_broken holds answer none l) none ≡ first_broken holds answer none l
  unfolding or_then
  then-none none l = go (bad (first_broken holds answer none l)) refl
    where
      go : (t : Bool) → bad (first_broken holds answer none l) ≡ t → cond t (first_broken holds answer none l) none ≡ first_broken holds answer none l
      go true e = refl
      go false e = sym (first-all none l (all_first none l e))

  -- n lists in ascending order
  pub first-each : (none : B) → bad none ≡ false → (n : ℕ) (f : ℕ → List A)
      → first_broken holds answer none (each n f) ≡ scan bad none n (λ i. first_broken holds answer none (f i))
  unfolding each scan first_broken
  first-each none fine zero f = refl
  first-each none fine (suc n) f = first-append none none fine (each n f) (f n) ∙ rw (first-each none fine n f, then-none none (f n))

pub first-map : {A : Type 0} {B : Type 0} {P : Type 0} (holds : A → Bool) (answer : A → B) (f : P → A) (none : B) (l : List P)
    → first_broken holds answer none (map f l) ≡ first_broken (λ p. holds (f p)) (λ p. answer (f p)) none l
unfolding first_broken
first-map holds answer f none [] = refl
first-map holds answer f none (p ∷ l) = ap (refuse (holds (f p)) (answer (f p))) (first-map holds answer f none l)
