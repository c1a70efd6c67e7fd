-- What the answers mean, without searches: stated by quantifiers and by an inductive definition.
use Rattle.std.specs.Prelude.{◌≡◌, Bool, true, false, List, ℕ, ◌+◌, ◌/◌, ◌<◌, ◌≤◌, length}
use Rattle.classfile.specs.Attribute.{whole, code_of, table_of}
use Rattle.java.specs.Instructions.{java_at, size_at}
use Rattle.java.specs.Classes.{known}
use Rattle.offsets.specs.Offsets.{begins, total}
use Rattle.offsets.specs.Handlers.{entries, handler_of}
use Rattle.offsets.specs.Targets.{lands, branch_ok, stray_at, stray_entry}
use Rattle.offsets.specs.Offenders.{unknown_at, past_at}
use Rattle.classfile.specs.Taking.{Taken}
use Rattle.classfile.specs.Taking.{taken, taken_of}

-- an instruction begins at offset 0, and right behind one that begins
pub data Reached (code : List ℕ) : ℕ → Type 0 where
  start : Reached code 0
  next : (p : ℕ) → Reached code p → Reached code (p + size_at code p)

-- nothing to refuse
pub record Sound (a classes : List ℕ) (room : ℕ) : Type 0 where
  pub whole_input : whole a ≡ true
  pub all_known : (p : ℕ) → p < length (code_of a) → Reached (code_of a) p → known classes (java_at (code_of a) p) ≡ true
  pub branches : (p : ℕ) → p < length (code_of a) → Reached (code_of a) p → branch_ok (code_of a) p (java_at (code_of a) p) ≡ true
  pub handlers : (i : ℕ) → i < entries (table_of a) → lands (code_of a) (handler_of (table_of a) i) ≡ true
  pub few : total (code_of a) ≤ 256
  pub roomy : total (code_of a) ≤ room / 4

-- p is the first number below n of which f holds
pub record First (n : ℕ) (f : ℕ → Bool) (p : ℕ) : Type 0 where
  pub under : p < n
  pub holds : f p ≡ true
  pub before : (q : ℕ) → q < p → f q ≡ false

-- f holds of no number below n
abbrev pub Never : ℕ → (ℕ → Bool) → Type 0
Never n f = (q : ℕ) → q < n → f q ≡ false

-- no instruction draws 31, no ifne and no entry of the exception table 32
abbrev pub AllKnown : List ℕ → List ℕ → Type 0
AllKnown a classes = Never (length (code_of a)) (unknown_at classes (code_of a))

abbrev pub AllLand : List ℕ → Type 0
AllLand a = Never (length (code_of a)) (stray_at (code_of a))

abbrev pub AllCaught : List ℕ → Type 0
AllCaught a = Never (entries (table_of a)) (stray_entry (code_of a) (table_of a))

-- what each answer names: the first offender of the first refusal that applies
pub data Named (a classes : List ℕ) (room : ℕ) : Taken → Type 0 where
  ended : whole a ≡ false → Named a classes room (taken 30 0)
  unknown : (p : ℕ) → whole a ≡ true → First (length (code_of a)) (unknown_at classes (code_of a)) p → Named a classes room (taken 31 p)
  branch : (p : ℕ) → whole a ≡ true → AllKnown a classes → First (length (code_of a)) (stray_at (code_of a)) p → Named a classes room (taken 32 p)
  handler : (i : ℕ) → whole a ≡ true → AllKnown a classes → AllLand a → First (entries (table_of a)) (stray_entry (code_of a) (table_of a)) i
      → Named a classes room (taken 32 (handler_of (table_of a) i))
  many : (p : ℕ) → whole a ≡ true → AllKnown a classes → AllLand a → AllCaught a → First (length (code_of a)) (past_at (code_of a) 256) p
      → Named a classes room (taken 33 p)
  short : (p : ℕ) → whole a ≡ true → AllKnown a classes → AllLand a → AllCaught a → total (code_of a) ≤ 256 → First (length (code_of a)) (past_at (code_of a) (room / 4)) p
      → Named a classes room (taken 34 p)
  done : Sound a classes room → Named a classes room (taken 0 (total (code_of a)))

-- the statements: `begins` is what the walk reaches; every answer is named; success means that there is nothing to refuse
abbrev pub Walks : Type 0
Walks = (code : List ℕ) (p : ℕ) → (Reached code p → begins code p ≡ true) × (begins code p ≡ true → Reached code p)

abbrev pub Names : Type 0
Names = (a classes : List ℕ) (room : ℕ) → Named a classes room (taken_of a classes room)

abbrev pub Succeeds : Type 0
Succeeds = (a classes : List ℕ) (room : ℕ) → (taken_of a classes room).number ≡ 0 → Sound a classes room
