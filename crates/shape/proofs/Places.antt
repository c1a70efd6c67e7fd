-- Where entries stand in a record: within it, behind its instructions, and no two at one place.
use mathlib.Core.Path.{◌≡◌, refl, sym, ap, ◌∙◌}
use mathlib.Core.Bool.{Bool, true, false, cond}
use Prim.Native.Nat.{ℕ, suc, ◌+◌, ◌*◌, ◌-◌, ◌/◌, ◌≤◌, ◌<◌}
use native.Mathlib.Nat.{suc-mul, mul-le-mul_right}
use native.Mathlib.Omega.{arith}
use lib.Dec.{ltb}
use lib.Arith.{digits_div}
use borrow.Author.Tests.{ltb-true, ltb-false}
use Rattle.bundle.specs.declared.Class.{Class}
use Rattle.bundle.specs.Container.{width, descriptor_count, size}
use Rattle.rows.specs.Rows.{start_behind, row_start}
use Rattle.shape.specs.PairBytes.{behind, place_in}

module _ (k : Class) where
  -- what comes before entry s: the depth's byte or not
  gap : (s : ℕ) (B : ℕ → Type 0) → (s < k.vars → B (4 * s + 0)) → (k.vars ≤ s → B (4 * s + 1)) → B (behind k s)
  unfolding behind
  gap s B f g = go (ltb s k.vars) refl
    where
      go : (t : Bool) → ltb s k.vars ≡ t → B (4 * s + cond t 0 1)
      go true e = f (ltb-true s k.vars e)
      go false e = g (ltb-false s k.vars e)

  pub behind-within : (s : ℕ) → s < k.vars + k.limit → behind k s + 3 < width k
  unfolding width
  behind-within s l = gap s (λ o. o + 3 < 4 * k.vars + 1 + 4 * k.limit) (λ h. omega arith) (λ h. omega arith)

  pub behind-once : (s t s' t' : ℕ) → t < 4 → t' < 4 → behind k s + t ≡ behind k s' + t' → (s ≡ s') × (t ≡ t')
  behind-once s t s' t' l l' =
      gap s (λ o. o + t ≡ behind k s' + t' → (s ≡ s') × (t ≡ t'))
      (λ h. gap s' (λ o. 4 * s + 0 + t ≡ o + t' → (s ≡ s') × (t ≡ t')) (λ h' e. (omega arith, omega arith)) (λ h' e. absurd (omega arith)))
      (λ h. gap s' (λ o. 4 * s + 1 + t ≡ o + t' → (s ≡ s') × (t ≡ t')) (λ h' e. absurd (omega arith)) (λ h' e. (omega arith, omega arith)))

  -- the depth's byte is none of an entry's
  pub behind-depth : (s t : ℕ) → t < 4 → behind k s + t ≡ 4 * k.vars → ⊥
  behind-depth s t l = gap s (λ o. o + t ≡ 4 * k.vars → ⊥) (λ h e. omega arith) (λ h e. omega arith)

  depth-within : 4 * k.vars < width k
  unfolding width
  depth-within = omega arith

  rows_before : (i : ℕ) → i < k.code → i * width k + width k ≤ k.code * width k
  rows_before i l = rw (suc-mul i (width k)) at (mul-le-mul_right {m = suc i} {n = k.code} (width k) (omega arith))

  -- byte o of the row that i rows come before
  pub row_low : (i o : ℕ) → descriptor_count k + 4 * k.code ≤ start_behind k i + o
  unfolding start_behind
  row_low i o = omega arith

  pub row-high : (i o : ℕ) → i < k.code → o < width k → start_behind k i + o < size k
  unfolding start_behind size
  row-high i o l h = omega (arith, rows_before i l)

  pub row-once : (i o i' o' : ℕ) → o < width k → o' < width k → start_behind k i + o ≡ start_behind k i' + o' → (i ≡ i') × (o ≡ o')
  unfolding start_behind
  row-once i o i' o' h h' e =
      let f : i * width k + o ≡ i' * width k + o' = omega arith in
      let g : i ≡ i' = sym (digits_div i h) ∙ ap (λ (n : ℕ). n / width k) f ∙ digits_div i' h' in
      (g, omega (arith, rw g at f))

  -- ---- the same of addresses, which run from 1
  module _ (l : ℕ) (low : 1 ≤ l) (high : l ≤ k.code) where
    pub place-low : (s t : ℕ) → descriptor_count k + 4 * k.code ≤ place_in k l s + t
    unfolding place_in row_start
    place-low s t = omega (arith, row_low (l - 1) (behind k s + t))

    pub place-high : (s t : ℕ) → s < k.vars + k.limit → t < 4 → place_in k l s + t < size k
    unfolding place_in row_start
    place-high s t h h' = omega (arith, row-high (l - 1) (behind k s + t) (omega arith) (omega (arith, behind-within s h)))

    pub depth-high : row_start k l + 4 * k.vars < size k
    unfolding row_start width
    depth-high = row-high (l - 1) (4 * k.vars) (omega arith) (omega arith)

    module _ (l' : ℕ) (low' : 1 ≤ l') (s t s' t' : ℕ) (h : s < k.vars + k.limit) (h' : s' < k.vars + k.limit) (lt : t < 4) (lt' : t' < 4) where
      pub place-once : place_in k l s + t ≡ place_in k l' s' + t' → (l ≡ l') × (s ≡ s') × (t ≡ t')
      unfolding place_in row_start
      place-once e =
          let r = row-once (l - 1) (behind k s + t) (l' - 1) (behind k s' + t') (omega (arith, behind-within s h)) (omega (arith, behind-within s' h')) (omega arith) in
          let q = behind-once s t s' t' lt lt' r.1 in
          (omega (arith, r.0), q.0, q.1)

    pub depth-alone : (l' s t : ℕ) → 1 ≤ l' → s < k.vars + k.limit → t < 4 → place_in k l' s + t ≡ row_start k l + 4 * k.vars → ⊥
    unfolding place_in row_start
    depth-alone l' s t low' h lt e =
        let w : 4 * k.vars < width k = depth-within in
        let r = row-once (l' - 1) (behind k s + t) (l - 1) (4 * k.vars) (omega (arith, behind-within s h)) w (omega arith) in
        behind-depth s t lt r.1
