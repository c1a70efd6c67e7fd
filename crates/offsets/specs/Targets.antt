-- Document 02, Q-9, refusal 32: target or handler not at the first byte of a taken instruction (a pair has one) or at a nop with nothing written after it.
use Rattle.std.specs.Prelude.{Bool, true, cond, ◌&&◌, not, List, ℕ, ◌+◌, ◌-◌, length, leb, ltb}
use Rattle.ground.specs.Bounded.{first_below}
use Rattle.ground.specs.Chain.{refuse}
use Rattle.java.specs.declared.Java.{Java}
use Rattle.java.specs.declared.Java.TheVariants.{Nop, Pop, Iconst0, Load, Store, Ifne, Enter, Exit, New, Athrow, Return, Iinc, Other}
use Rattle.java.specs.Instructions.{java_at}
use Rattle.offsets.specs.Offsets.{begins, count_to, total}
use Rattle.offsets.specs.Handlers.{entries, handler_of}

-- the offset that a branch at p goes to, by a signed number of two bytes; the code's length, where nothing stands, for one below 0 (and of a branch past the end, where there is none)
unfoldable pub target_of : List ℕ → ℕ → ℕ → ℕ
target_of code p d =
    refuse (ltb p (length code)) (length code)
    (cond (ltb d 32768) (p + d)
    (cond (leb 65536 (p + d)) (p + d - 65536)
    (length code)))

-- the first byte of an instruction, with something written for what stands there or after
unfoldable pub lands : List ℕ → ℕ → Bool
lands code t = ltb t (length code) && begins code t && ltb (count_to code t) (total code)

-- the instruction at p is no ifne whose target breaks it
abbrev pub branch_ok : List ℕ → ℕ → Java → Bool
branch_ok code p Nop = true
branch_ok code p Pop = true
branch_ok code p Iconst0 = true
branch_ok code p (Load v) = true
branch_ok code p (Store v) = true
branch_ok code p (Ifne d) = lands code (target_of code p d)
branch_ok code p (Enter v) = true
branch_ok code p (Exit v) = true
branch_ok code p (New i) = true
branch_ok code p Athrow = true
branch_ok code p Return = true
branch_ok code p (Iinc v) = true
branch_ok code p Other = true

-- at offset p stands an ifne whose target breaks it
unfoldable pub stray_at : List ℕ → ℕ → Bool
stray_at code p = begins code p && not (branch_ok code p (java_at code p))

-- the first such ifne; the code's length where there is none
unfoldable pub first_stray : List ℕ → ℕ
first_stray code = first_below (length code) (stray_at code)

-- entry i of the exception table has a handler that breaks it
unfoldable pub stray_entry : List ℕ → List ℕ → ℕ → Bool
stray_entry code table i = not (lands code (handler_of table i))

-- then the first such table entry; the number of entries where there is none
unfoldable pub first_stray_entry : List ℕ → List ℕ → ℕ
first_stray_entry code table = first_below (entries table) (stray_entry code table)
