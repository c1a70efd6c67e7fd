-- What a step needs of a class: a row, made once of each. Nothing here has to be believed: `Turned` (Poised) ties it to document 01's step.
use Rattle.std.specs.Prelude.{List, [], ◌∷◌, cond, not, ◌&&◌, ℕ, ◌+◌, ltb, eqb}
use Rattle.bundle.specs.Container.{class_at, descriptor_count}
use Rattle.bundle.specs.Program.{Method, method_at}
use Rattle.runner.specs.declared.table.Row.{Row}

-- the word that field place j of a new object holds: null where it is a field that refers, and else 0
unfoldable pub first_word : Method → ℕ → ℕ
first_word m j = cond (ltb j m.fields && not (eqb (m.field j) 255)) 4294967552 0

-- its arguments, its variables, where its first instruction stands in the bundle, and what the fields of a new object hold
abbrev pub row_of : List ℕ → ℕ → Row
row_of b c =
    record {
      args = (class_at b c).args;
      vars = (class_at b c).vars;
      code = (class_at b c).offset + descriptor_count (class_at b c);
      first = first_word (method_at b c) 0 ∷ first_word (method_at b c) 1 ∷ first_word (method_at b c) 2 ∷ first_word (method_at b c) 3 ∷ [];
    }
