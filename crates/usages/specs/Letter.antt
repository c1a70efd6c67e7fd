-- Source 000, Definitions 3.2, 3.4 and 3.5 to the letter, as far as Q-11's usages go. Nothing else rests on them: with them
-- appendix A's "rel(U) if and only if Min = Fin = 0" is false, and here is a usage that shows it.
use Rattle.std.specs.Prelude.{◌≡◌, ◌⊎◌, ◌↔◌, ℤ, pos, ◌+ℤ◌, ◌-ℤ◌, ◌≤ℤ◌}
use Rattle.usages.specs.Usage.{Usage, done, lock, unlock, either, both}
use Rattle.usages.specs.Counts.{min_of, fin_of}

-- Definition 3.2: "the least congruence relation that satisfies the associativity and commutativity laws on ⊗ and &, and U ⊗ 0 ≡ U"
pub data Same : Usage → Usage → Type 0 where
  same : {u : Usage} → Same u u
  back : {u v : Usage} → Same u v → Same v u
  through : {u v w : Usage} → Same u v → Same v w → Same u w
  in_lock : {u v : Usage} → Same u v → Same (lock u) (lock v)
  in_unlock : {u v : Usage} → Same u v → Same (unlock u) (unlock v)
  in_either : {u v w x : Usage} → Same u v → Same w x → Same (either u w) (either v x)
  in_both : {u v w x : Usage} → Same u v → Same w x → Same (both u w) (both v x)
  either_grouped : {u v w : Usage} → Same (either (either u v) w) (either u (either v w))
  either_turned : {u v : Usage} → Same (either u v) (either v u)
  both_grouped : {u v w : Usage} → Same (both (both u v) w) (both u (both v w))
  both_turned : {u v : Usage} → Same (both u v) (both v u)
  both_done : {u : Usage} → Same (both u done) u

-- Definition 3.4. The paper counts in natural numbers, and its appendix below 0: Count says which integers are counts, and is left open
pub data LetterStep (Count : ℤ → Type 0) : Usage → ℤ → Usage → ℤ → Type 0 where
  locks : {u : Usage} {n : ℤ} → LetterStep Count (lock u) n u (n +ℤ pos 1)
  unlocks : {u : Usage} {n : ℤ} → Count (n -ℤ pos 1) → LetterStep Count (unlock u) n u (n -ℤ pos 1)
  by_left : {u v w : Usage} {n m : ℤ} → LetterStep Count u n w m → LetterStep Count (either u v) n w m
  by_right : {u v w : Usage} {n m : ℤ} → LetterStep Count v n w m → LetterStep Count (either u v) n w m
  on_left : {u v w : Usage} {n m : ℤ} → LetterStep Count u n w m → LetterStep Count (both u v) n (both w v) m
  alike : {u v w x : Usage} {n m : ℤ} → Same u v → LetterStep Count v n w m → Same w x → LetterStep Count u n x m

pub data LetterReach (Count : ℤ → Type 0) (u : Usage) (n : ℤ) : Usage → ℤ → Type 0 where
  here : LetterReach Count u n u n
  further : {v w : Usage} {m k : ℤ} → LetterReach Count u n v m → LetterStep Count v m w k → LetterReach Count u n w k

-- Definition 3.5: rel(U, 0)
pub record LetterReliable (Count : ℤ → Type 0) (u : Usage) : Type 0 where
  -- "if U' ≡ 0 or U' ≡ 0&U1 for a usage U1, then n' = 0"
  pub ends_free : (v : Usage) (m : ℤ) → LetterReach Count u (pos 0) v m
      → Same v done ⊎ ((w : Usage) × Same v (either done w)) → m ≡ pos 0
  -- "if U' ≡ (^L.U1 ⊗ U2) or U' ≡ (^L.U1 ⊗ U2)&U3, then n' ≥ 1"
  pub held : (v : Usage) (m : ℤ) → LetterReach Count u (pos 0) v m
      → ((w x : Usage) × Same v (both (unlock w) x)) ⊎ ((w x y : Usage) × Same v (either (both (unlock w) x) y)) → pos 1 ≤ℤ m

-- L.(0&0)*(0&0): with the lock held it comes to (0&0)*(0&0), which is neither 0 nor 0&U to the letter, and where nothing can be done
abbrev pub shown : Usage
shown = both (lock (either done done)) (either done done)

-- it is reliable to the letter, whatever the counts may be, and its Fin is 1
abbrev pub LetterDiffers : Type 1
LetterDiffers = ((Count : ℤ → Type 0) → LetterReliable Count shown) × (fin_of shown ≡ pos 1)

abbrev pub LetterDisagrees : Type 1
LetterDisagrees = (Count : ℤ → Type 0) → ((u : Usage) → LetterReliable Count u ↔ ((min_of u ≡ pos 0) × (fin_of u ≡ pos 0))) → ⊥
