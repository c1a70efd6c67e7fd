-- Refusal 23: the test on offsets and sizes says exactly that some byte is shared.
use mathlib.Core.List.{List}
use mathlib.Core.Path.{◌≡◌, refl}
use mathlib.Core.Bool.{Bool, true, false, ◌&&◌}
use Prim.Native.Nat.{ℕ, ◌+◌, ◌≤◌, ◌<◌}
use native.Mathlib.Omega.{arith}
use native.Mathlib.Decide.{dec_lt}
use lib.Dec.{leb}
use borrow.Author.Tests.{leb-false}
use Rattle.ground.proofs.Bools.{or-false-fst, or-false-snd}
use Rattle.ground.proofs.Bounded.{all-some}
use Rattle.bundle.specs.Container.{classes, class_at, size}
use Rattle.verdicts.specs.Verdicts.{is_bad}
use Rattle.structure.proofs.Structured.{class-limits}
use Rattle.shape.specs.Shape.{shape_verdict}
use Rattle.shape.specs.Apart.{apart, apart_from, lower_apart, directory_apart, class_apart, all_apart}
use Rattle.shape.specs.Sharing.{Shared, with_another, with_directory, SharedExactly}
use Rattle.shape.proofs.Readable.{structured, not-both, same_class}

-- of two parts that are not apart, neither of them empty, the later one's first byte is in both
shares : (a m e n : ℕ) → apart a m e n ≡ false → 0 < m → 0 < n → (p : ℕ) × (a ≤ p) × (p < a + m) × (e ≤ p) × (p < e + n)
unfolding apart
shares a m e n h i j =
    let x : e < a + m = leb-false (a + m) e (or-false-fst _ _ h) in
    let y : a < e + n = leb-false (e + n) a (or-false-snd (leb (a + m) e) _ h) in
    go x y (dec_lt a e)
  where
    go : e < a + m → a < e + n → Dec (a < e) → (p : ℕ) × (a ≤ p) × (p < a + m) × (e ≤ p) × (p < e + n)
    go x y (yes k) = (e, omega arith, omega arith, omega arith, omega arith)
    go x y (no k) = (a, omega arith, omega arith, omega arith, omega arith)

module _ (b : List ℕ) (s : is_bad (shape_verdict b) ≡ false) where
  -- no record is empty
  some : (c : ℕ) → c < classes b → 0 < size (class_at b c)
  unfolding size
  some c l = omega (arith, (class-limits b (structured b s) c l).some_code)

  module _ (c : ℕ) (l : c < classes b) where
    directory : directory_apart b (class_at b c) ≡ false → Shared b
    unfolding directory_apart
    directory e =
        let q = shares _ _ _ _ e (some c l) (omega arith) in
        with_directory c q.0 (record { class_known = l; begun = q.1; not_over = q.2 }) (record { begun = q.3; not_over = q.4 })

    another : (d : ℕ) → d < c → apart_from b (class_at b c) d ≡ false → Shared b
    unfolding apart_from
    another d m e =
        let q = shares _ _ _ _ e (some c l) (some d (omega arith)) in
        with_another c d q.0 (λ f. omega arith) (record { class_known = l; begun = q.1; not_over = q.2 }) (record { class_known = omega arith; begun = q.3; not_over = q.4 })

    lower : lower_apart b (class_at b c) c ≡ false → Shared b
    unfolding lower_apart
    lower h = let q = all-some (apart_from b (class_at b c)) c h in another q.0 q.1 q.2

    shared_of : class_apart b c ≡ false → Shared b
    unfolding class_apart
    shared_of h = go (directory_apart b (class_at b c)) refl h
      where
        go : (t : Bool) → directory_apart b (class_at b c) ≡ t → (t && lower_apart b (class_at b c) c) ≡ false → Shared b
        go true e h = lower h
        go false e h = directory e

  found : all_apart b ≡ false → Shared b
  unfolding all_apart
  found h = let q = all-some (class_apart b) (classes b) h in shared_of q.0 q.1 q.2

  never-apart : all_apart b ≡ true → Shared b → ⊥
  never-apart h (with_another c d p n i j) =
      n (same_class b (record { shaped = s; apart = h }) c d p i.class_known j.class_known (i.begun, i.not_over) (j.begun, j.not_over))
  never-apart h (with_directory c p i j) =
      not-both b (record { shaped = s; apart = h }) c p i.class_known (i.begun, i.not_over) j.begun j.not_over

-- THEOREM: past refusals 1 to 8 the test says exactly that a record shares a byte with another or with the directory
pub shared-exactly : SharedExactly
shared-exactly b s = (found b s, λ h. go (all_apart b) refl h)
  where
    go : (t : Bool) → all_apart b ≡ t → Shared b → t ≡ false
    go true e h = absurd (never-apart b s e h)
    go false e h = refl
