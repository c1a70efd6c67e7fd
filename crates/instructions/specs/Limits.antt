-- The lines of the table up to 12 as limits that the code reads. No rule speaks of them: `proofs/Limits` shows that they are the lines'.
use Rattle.std.specs.Prelude.{[], ◌∷◌, ℕ, ◌%◌, get_or}

-- an operand is below it: by its kind, 0 where there is no line, 1 where it is 0, V where it is a variable, the class count where it is a class
unfoldable pub operand_limit : ℕ → ℕ → ℕ → ℕ
operand_limit classes vars opcode =
    get_or (0 ∷ 1 ∷ vars ∷ classes ∷ [])
    (get_or (0 ∷ 1 ∷ 1 ∷ 1 ∷ 2 ∷ 2 ∷ 1 ∷ 2 ∷ 2 ∷ 3 ∷ 3 ∷ 1 ∷ 1 ∷ 0 ∷ 0 ∷ 0 ∷ []) (opcode % 16) 0 % 4)
    0

-- an address is at most this: k where it is a target or a handler
unfoldable pub address_reach : ℕ → ℕ → ℕ
address_reach code opcode = get_or (0 ∷ 0 ∷ 0 ∷ 0 ∷ 0 ∷ 0 ∷ code ∷ code ∷ 0 ∷ code ∷ 0 ∷ code ∷ 0 ∷ 0 ∷ 0 ∷ 0 ∷ []) (opcode % 16) 0
