-- A quoted text as its bytes, for the cases: of signs that are one byte each.
use Rattle.std.specs.Prelude.{List, [] as none, ◌∷◌ as ◌then◌, ℕ}
use Prim.Native.Char.{code}
use Prim.Native.String.{String, [], ◌∷◌}

unfoldable pub bytes : String → List ℕ
bytes [] = none
bytes (c ∷ s) = code c then bytes s
