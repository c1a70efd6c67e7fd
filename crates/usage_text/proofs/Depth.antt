-- A text with brackets nested however deep has them nested no deeper than its bytes have room for.
use mathlib.Core.List.{List, [], ◌∷◌}
use Prim.Native.Nat.{ℕ, zero, suc, ◌+◌, ◌*◌, ◌≤◌}
use native.Mathlib.Omega.{arith}
use lib.ListN.{length, length-append}
use Rattle.usages.specs.Usage.{Usage}
use Rattle.usage_text.specs.Signs.{close_sign}
use Rattle.usage_text.specs.Exact.{DeepEnough}
use Rattle.usage_text.specs.Grammar.{Texts, Joined, single, more, Prefixed, plain, locked, unlocked, bracket, Shuffle, Choice, Inside}

-- every text of P with at most n bytes is one of Q
abbrev Within : ℕ → Texts → Texts → Type 0
Within n P Q = (s : List ℕ) (u : Usage) → length s ≤ n → P s u → Q s u

module _ (P Q : Texts) (n : ℕ) (sign : ℕ) (join : Usage → Usage → Usage) (part : Within n P Q) where
  joined-within : Within n (Joined P sign join) (Joined Q sign join)
  joined-within s u l (single p) = single (part s u l p)
  joined-within s u l (more {s = q} {t = t} {u = v} {v = w} j p) =
      more (joined-within q v (omega (arith, length-append q (sign ∷ t))) j) (part t w (omega (arith, length-append q (sign ∷ t))) p)

-- a bracket takes two bytes from what stands in it
abbrev Inner : ℕ → Texts → Texts → Type 0
Inner n P Q = (s : List ℕ) (u : Usage) → length s + 2 ≤ n → P s u → Q s u

prefixed-within : (P Q : Texts) (n : ℕ) → Inner n P Q → Within n (Prefixed P) (Prefixed Q)
prefixed-within P Q n inner s u l plain = plain
prefixed-within P Q n inner s u l (locked {s = q} {u = v} p) = locked (prefixed-within P Q n inner q v (omega arith) p)
prefixed-within P Q n inner s u l (unlocked {s = q} {u = v} p) = unlocked (prefixed-within P Q n inner q v (omega arith) p)
prefixed-within P Q n inner s u l (bracket {s = q} {u = v} p) = bracket (inner q v (omega (arith, length-append q (close_sign ∷ []))) p)

choice-within : (P Q : Texts) (n : ℕ) → Inner n P Q → Within n (Choice P) (Choice Q)
choice-within P Q n inner =
    joined-within (Shuffle P) (Shuffle Q) n _ _ (joined-within (Prefixed P) (Prefixed Q) n _ _ (prefixed-within P Q n inner))

-- and what stands in it is a byte at least
prefixed-some : (P : Texts) (s : List ℕ) (u : Usage) → Prefixed P s u → 1 ≤ length s
prefixed-some P s u plain = omega arith
prefixed-some P s u (locked p) = omega arith
prefixed-some P s u (unlocked p) = omega arith
prefixed-some P s u (bracket p) = omega arith

joined-some : (P : Texts) (sign : ℕ) (join : Usage → Usage → Usage) → ((s : List ℕ) (u : Usage) → P s u → 1 ≤ length s)
    → (s : List ℕ) (u : Usage) → Joined P sign join s u → 1 ≤ length s
joined-some P sign join part s u (single p) = part s u p
joined-some P sign join part s u (more {s = q} {t = t} j p) = omega (arith, length-append q (sign ∷ t))

choice-some : (P : Texts) (s : List ℕ) (u : Usage) → Choice P s u → 1 ≤ length s
choice-some P = joined-some (Shuffle P) _ _ (joined-some (Prefixed P) _ _ (prefixed-some P))

inside-within : (d e : ℕ) → Inner (2 * e + 2) (Inside d) (Inside e)
unfolding Inside
inside-within zero e s u l p = absurd p
inside-within (suc d) zero s u l p = absurd (omega (arith, choice-some (Inside d) s u p))
inside-within (suc d) (suc e) s u l p = choice-within (Inside d) (Inside e) (2 * e + 2) (inside-within d e) s u (omega arith) p

-- THEOREM
pub deep-enough : DeepEnough
deep-enough d e s u l p = choice-within (Inside d) (Inside e) (2 * e + 2) (inside-within d e) s u l p
