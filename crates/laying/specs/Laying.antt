-- What is refused before a bundle is laid, and what the bytes lent for it hold then.
use Rattle.std.specs.Prelude.{List, ◌++◌, ◌≡◌, Bool, ℕ, ◌+◌, leb, ltb, eqb, length, take, drop, Result, Ok, Err}
use Rattle.ground.specs.Chain.{refuse}
use Rattle.verdicts.specs.declared.Refusal.{Refusal}
use Rattle.verdicts.specs.Verdicts.{verdict}
use Rattle.verdicts.specs.Numbers.{numbers}
use Rattle.laying.specs.Given.{Given}
use Rattle.laying.specs.Lengths.{lengths_ok, whole}
use Rattle.laying.specs.Laid.{laid}

-- out with the bytes xs from place p on
unfoldable pub over : List ℕ → ℕ → List ℕ → List ℕ
over out p xs = take p out ++ xs ++ drop (p + length xs) out

-- .. from the first on, where there is room for them; else out as it is
unfoldable pub put_in : List ℕ → List ℕ → List ℕ
put_in xs out = refuse (leb (length xs) (length out)) out (over out 0 xs)

-- what is given is asked
abbrev pub measured : Given → Bool
measured g = lengths_ok g.classes g.directory g.descriptors g.instructions g.kinds g.depths

-- 0 and how long the bundle is, or a refusal and no length
pub record Layout : Type 0 where
  pub number : ℕ
  pub length : ℕ

abbrev pub layout : ℕ → ℕ → Layout
layout n l = record { number = n; length = l }

-- 27 first; 1: the whole length above 65,535; 3: the exception class is none of the bundle's; 24: fewer than that many bytes are lent (m). Else 0 and the length
unfoldable pub layout_of : Given → ℕ → Layout
layout_of g m =
    refuse (measured g) (layout 27 0)
    (refuse (leb (whole g.directory g.classes) 65535) (layout 1 0)
    (refuse (ltb g.exception g.classes) (layout 3 0)
    (refuse (leb (whole g.directory g.classes) m) (layout 24 0)
    (layout 0 (whole g.directory g.classes)))))

-- .. in the code's terms
abbrev pub layout_in : Result ℕ Refusal → Layout
layout_in (Ok l) = layout 0 l
layout_in (Err r) = layout (numbers r).number 0

-- a refusal names no class and no address
abbrev pub nameless : Result ℕ Refusal → Type 0
nameless (Ok _) = Unit
nameless (Err r) = numbers r ≡ verdict (numbers r).number 0 0

-- the bundle from the first byte on, and behind it what was there; with a refusal all as it was
unfoldable pub laid_in : Given → List ℕ → List ℕ
laid_in g out = refuse (eqb (layout_of g (length out)).number 0) out (over out 0 (laid g))
