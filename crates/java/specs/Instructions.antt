-- Document 02, Q-9: the instruction at an offset of the code, the bytes that it takes, and how many instructions it yields.
use Rattle.std.specs.Prelude.{Bool, List, ℕ, ◌+◌, length, leb}
use Rattle.ground.specs.Chain.{refuse}
use Rattle.ground.specs.Bytes.{at}
use Rattle.java.specs.declared.Java.{Java}
use Rattle.java.specs.declared.Java.TheVariants.{Nop, Pop, Iconst0, Load, Store, Ifne, Enter, Exit, New, Athrow, Return, Iinc, Other}
use Rattle.java.specs.Opcodes.{java_of, width_of, lock_bytes}

-- at offset p, were the code long enough
unfoldable pub raw_at : List ℕ → ℕ → Java
raw_at code p = java_of (at code p) (at code (p + 1)) (at code (p + 2))

unfoldable pub raw_size : List ℕ → ℕ → ℕ
raw_size code p = width_of (at code p) + lock_bytes (raw_at code p)

-- the code's end does not cut it off
unfoldable pub uncut : List ℕ → ℕ → Bool
uncut code p = leb (p + raw_size code p) (length code)

-- the instruction at offset p; one that is cut off is not taken
unfoldable pub java_at : List ℕ → ℕ → Java
java_at code p = refuse (uncut code p) Other (raw_at code p)

-- and the bytes that it takes; one that is cut off takes its first
unfoldable pub size_at : List ℕ → ℕ → ℕ
size_at code p = refuse (uncut code p) 1 (raw_size code p)

-- how many instructions are written for it: nop yields nothing, a pair one, iinc a load, an inc and a store
abbrev pub gives_of : Java → ℕ
gives_of Nop = 0
gives_of Pop = 1
gives_of Iconst0 = 1
gives_of (Load v) = 1
gives_of (Store v) = 1
gives_of (Ifne d) = 1
gives_of (Enter v) = 1
gives_of (Exit v) = 1
gives_of (New i) = 1
gives_of Athrow = 1
gives_of Return = 1
gives_of (Iinc v) = 3
gives_of Other = 0
