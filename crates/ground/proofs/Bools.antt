-- What a conjunction, a disjunction and a flag say. `search (and-fst, and-snd)` takes a long conjunction apart.
use mathlib.Core.Path.{◌≡◌, refl, sym, ◌∙◌}
use mathlib.Core.Bool.{Bool, true, false, ◌&&◌, ◌||◌, not, false≢true, true≢false}
use borrow.Author.Tests.{not-true, not-false}

pub and-fst : (a b : Bool) → (a && b) ≡ true → a ≡ true
and-fst true b e = refl
and-fst false b e = e

pub and-snd : (a b : Bool) → (a && b) ≡ true → b ≡ true
and-snd true b e = e
and-snd false b e = absurd (false≢true e)

pub and-false : (a : Bool) → (a && false) ≡ false
and-false true = refl
and-false false = refl

pub and-true : (a : Bool) → (a && true) ≡ a
and-true true = refl
and-true false = refl

pub and_both : (a b : Bool) → a ≡ true → b ≡ true → (a && b) ≡ true
and_both a b p q = rw (p, q)

pub or-true : (a : Bool) → (a || true) ≡ true
or-true true = refl
or-true false = refl

pub or-false : (a : Bool) → (a || false) ≡ a
or-false true = refl
or-false false = refl

pub or_right : (a b : Bool) → (a || b) ≡ true → a ≡ false → b ≡ true
or_right a b e f = rw f at e

pub or_left : (a b : Bool) → (a || b) ≡ true → b ≡ false → a ≡ true
or_left true b e f = refl
or_left false b e f = sym f ∙ e

pub or-false-fst : (a b : Bool) → (a || b) ≡ false → a ≡ false
or-false-fst true b e = e
or-false-fst false b e = refl

pub or-false-snd : (a b : Bool) → (a || b) ≡ false → b ≡ false
or-false-snd true b e = absurd (true≢false e)
or-false-snd false b e = e

-- a test that cannot be both
pub never : {A : Type 0} {t : Bool} → t ≡ true → t ≡ false → A
never p q = absurd (true≢false (sym p ∙ q))

-- the code's flag t has the definition's value ok
pub passed : {t ok : Bool} → t ≡ ok → not t ≡ false → ok ≡ true
passed {t} e f = sym e ∙ not-false t f

pub failed : {t ok : Bool} → t ≡ ok → not t ≡ true → ok ≡ false
failed {t} e f = sym e ∙ not-true t f
