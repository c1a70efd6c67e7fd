-- Document 02, Q-9, the taken instructions by their opcodes (Java Virtual Machine Specification): nop, pop, iconst_0, iload, aload, istore and astore with their short forms,
-- ifne, monitorenter and monitorexit directly after an aload, new, athrow, return, and iinc by 1. What is not taken is `Other`.
use Rattle.std.specs.Prelude.{Bool, cond, ◌&&◌, ◌||◌, ℕ, ◌+◌, ◌-◌, ◌*◌, leb, eqb}
use Rattle.java.specs.declared.Java.{Java}
use Rattle.java.specs.declared.Java.TheVariants.{Nop, Pop, Iconst0, Load, Store, Ifne, Enter, Exit, New, Athrow, Return, Iinc, Other}

-- the four short forms of an opcode, for the variables 0 to 3
unfoldable pub short : ℕ → ℕ → Bool
short first op = leb first op && leb op (first + 3)

-- an aload and its lock instruction, monitorenter (194) or monitorexit (195), become one
unfoldable pub aload_of : ℕ → ℕ → Java
aload_of v next = cond (eqb next 194) (Enter v) (cond (eqb next 195) (Exit v) (Load v))

-- iinc by 1 only
unfoldable pub iinc_of : ℕ → ℕ → Java
iinc_of v by = cond (eqb by 1) (Iinc v) Other

-- the instruction whose opcode is followed by the bytes x and y
unfoldable pub java_of : ℕ → ℕ → ℕ → Java
java_of op x y =
    cond (eqb op 0) Nop
    (cond (eqb op 87) Pop
    (cond (eqb op 3) Iconst0
    -- iload
    (cond (eqb op 21) (Load x)
    (cond (short 26 op) (Load (op - 26))
    -- aload
    (cond (eqb op 25) (aload_of x y)
    (cond (short 42 op) (aload_of (op - 42) x)
    -- istore
    (cond (eqb op 54) (Store x)
    (cond (short 59 op) (Store (op - 59))
    -- astore
    (cond (eqb op 58) (Store x)
    (cond (short 75 op) (Store (op - 75))
    (cond (eqb op 154) (Ifne (x * 256 + y))
    (cond (eqb op 187) (New (x * 256 + y))
    (cond (eqb op 191) Athrow
    (cond (eqb op 177) Return
    (cond (eqb op 132) (iinc_of x y)
    Other)))))))))))))))

-- an opcode with its operand bytes
unfoldable pub width_of : ℕ → ℕ
width_of op =
    -- iload, aload, istore, astore
    cond (eqb op 21 || eqb op 25 || eqb op 54 || eqb op 58) 2
    -- ifne, new, iinc
    (cond (eqb op 154 || eqb op 187 || eqb op 132) 3
    1)

-- the lock instruction of a pair is one byte more
abbrev pub lock_bytes : Java → ℕ
lock_bytes Nop = 0
lock_bytes Pop = 0
lock_bytes Iconst0 = 0
lock_bytes (Load v) = 0
lock_bytes (Store v) = 0
lock_bytes (Ifne d) = 0
lock_bytes (Enter v) = 1
lock_bytes (Exit v) = 1
lock_bytes (New i) = 0
lock_bytes Athrow = 0
lock_bytes Return = 0
lock_bytes (Iinc v) = 0
lock_bytes Other = 0
