-- Reading is exactly the grammar: a text is read whole, as u, exactly when it is a text of u; and it is a text of one usage at most.
use mathlib.Core.Path.{◌≡◌, refl, sym, ap, subst, ◌∙◌}
use mathlib.Core.List.{List, [], ◌∷◌, append-nil}
use mathlib.Core.Bool.{true, false≢true}
use Prim.Native.Nat.{ℕ, ◌+◌, ◌*◌, ◌≤◌}
use native.Mathlib.Omega.{arith}
use lib.ListN.{length}
use borrow.Author.Tests.{eqb-true}
use Rattle.usages.specs.Usage.{Usage}
use Rattle.usage_text.specs.Grammar.{TextOf}
use Rattle.usage_text.specs.Exact.{ReadsTexts, OneUsage}
use Rattle.usage_text.specs.Reading.{Read, unread, read, read_text, is_whole}
use Rattle.usage_text.proofs.Sound.{same-usage, sound-text}
use Rattle.usage_text.proofs.Complete.{full-text}
use Rattle.usage_text.proofs.Depth.{deep-enough}

pub text-read : (d : ℕ) (s : List ℕ) (u : Usage) → TextOf d s u → read_text d s ≡ read u []
text-read d s u p = ap (read_text d) (sym (append-nil s)) ∙ full-text d s u p [] (refl, refl)

read-text : (d : ℕ) (s : List ℕ) (u : Usage) → read_text d s ≡ read u [] → TextOf d s u
read-text d s u e =
    let t = sound-text d s u [] e in
    subst (λ (l : List ℕ). TextOf d l u) (sym (t.split ∙ append-nil t.front)) t.text

-- THEOREM
pub reads-texts : ReadsTexts
reads-texts d s u = (text-read d s u, read-text d s u)

-- THEOREM
pub one-usage : OneUsage
one-usage d e s u v p q =
    same-usage
    (sym (text-read (length s) s u (deep-enough d (length s) s u (omega arith) p))
    ∙ text-read (length s) s v (deep-enough e (length s) s v (omega arith) q))

-- ---- read whole
no_bytes : (r : List ℕ) → length r ≡ 0 → r ≡ []
no_bytes [] e = refl
no_bytes (b ∷ r) e = absurd (omega arith)

whole-read : (x : Read) → is_whole x ≡ true → (u : Usage) × (x ≡ read u [])
unfolding is_whole
whole-read unread e = absurd (false≢true e)
whole-read (read u r) e = (u, ap (read u) (no_bytes r (eqb-true (length r) 0 e)))

pub whole-text : (d : ℕ) (s : List ℕ) → is_whole (read_text d s) ≡ true → (u : Usage) × (read_text d s ≡ read u []) × TextOf d s u
whole-text d s e = let x = whole-read (read_text d s) e in (x.0, x.1, read-text d s x.0 x.1)

pub text-whole : (d : ℕ) (s : List ℕ) (u : Usage) → TextOf d s u → is_whole (read_text d s) ≡ true
unfolding is_whole
text-whole d s u p = rw (text-read d s u p)

-- what is a usage within a depth is one where there is room for all its bytes
pub whole-deeper : (d e : ℕ) (s : List ℕ) → length s ≤ 2 * e + 2 → is_whole (read_text d s) ≡ true → is_whole (read_text e s) ≡ true
whole-deeper d e s l h = let x = whole-text d s h in text-whole e s x.0 (deep-enough d e s x.0 l x.2)
