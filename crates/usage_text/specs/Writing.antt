-- A text for every usage, with brackets only where they are needed.
use Rattle.std.specs.Prelude.{List, [], ◌∷◌, ◌++◌, ℕ, suc, ◌+◌}
use Rattle.usages.specs.Usage.{Usage, done, lock, unlock, either, both}
use Rattle.usage_text.specs.Signs.{nought, ell, dot, hat, ampersand, star, open_sign, close_sign}

-- what the text stands in: all of it or a bracket, beside an &, or beside a * or behind a prefix
pub data Place : Type 0 where
  free : Place
  beside_and : Place
  bound : Place

abbrev pub bracketed : List ℕ → List ℕ
bracketed s = open_sign ∷ (s ++ (close_sign ∷ []))

-- a choice stands free only, a shuffle anywhere but bound
abbrev pub choice_in : Place → List ℕ → List ℕ
choice_in free s = s
choice_in beside_and s = bracketed s
choice_in bound s = bracketed s

abbrev pub shuffle_in : Place → List ℕ → List ℕ
shuffle_in free s = s
shuffle_in beside_and s = s
shuffle_in bound s = bracketed s

unfoldable pub written_in : Usage → Place → List ℕ
written_in done p = nought ∷ []
written_in (lock u) p = ell ∷ dot ∷ written_in u bound
written_in (unlock u) p = hat ∷ ell ∷ dot ∷ written_in u bound
written_in (either u v) p = choice_in p (written_in u free ++ (ampersand ∷ written_in v beside_and))
written_in (both u v) p = shuffle_in p (written_in u beside_and ++ (star ∷ written_in v bound))

-- the usage as the paper writes it
abbrev pub written : Usage → List ℕ
written u = written_in u free

-- how many & and * it has: brackets are never nested deeper
unfoldable pub joints : Usage → ℕ
joints done = 0
joints (lock u) = joints u
joints (unlock u) = joints u
joints (either u v) = suc (joints u + joints v)
joints (both u v) = suc (joints u + joints v)
