-- What the C call that takes a method's instructions gives (document 02, Q-9): a number, and the instructions in a lent buffer.
use Rattle.std.specs.Prelude.{List, ◌≡◌, ℕ, ◌+◌, ◌*◌, length}
use Rattle.classfile.specs.Taking.{Taken}
use Rattle.classfile.specs.Taking.{taken_of, out_of}

-- the number in the low byte; in the upper half how many instructions are written, or with a refusal its offset in the code
abbrev pub packed_taken : Taken → ℕ
packed_taken t = t.number + 4294967296 * t.offset

-- .. and every byte of the buffer: the instructions at its start and past them as it came, or with a refusal as it came
abbrev pub TakeGives : List ℕ → List ℕ → List ℕ → ℕ → List ℕ → Type 0
TakeGives attribute classes out r out' =
    (r ≡ packed_taken (taken_of attribute classes (length out))) × (out' ≡ out_of attribute classes out)
