-- Document 02, Q-9: from the same values, what is written leaves after each read instruction (a pair as one; iinc where the stack has room)
-- the variables, stack and counts that this instruction leaves.
use Rattle.std.specs.Prelude.{◌≡◌, Bool, true, false, cond, List, [], ◌∷◌, ℕ, zero, suc, ◌+◌, ◌*◌, ◌<◌, ◌≤◌, eqb, length, get_or}
use Rattle.instructions.specs.Table.{decoded}
use Rattle.bundle.specs.Container.{class_at, part_of, descriptor_count, code_from}
use Rattle.bundle.specs.Program.{program_of}
use Rattle.values.specs.declared.Slot.{Slot}
use Rattle.values.specs.Values.{zero_slot, is_int}
use Rattle.threads.specs.Threads.{var_of}
use Rattle.state.specs.declared.State.{State}
use Rattle.state.specs.State.{thread_at, count_of, class_of}
use Rattle.turns.specs.Stepped.{Stepped}
use Rattle.belongs.specs.Belongs.{state_ok}
use Rattle.machine.specs.Machine.{readable, step_of}
use Rattle.java.specs.declared.Java.TheVariants.{Iinc}
use Rattle.java.specs.Instructions.{java_at, gives_of}
use Rattle.offsets.specs.Offsets.{begins, total, address_of}
use Rattle.classfile.specs.Attribute.{code_of, table_of}
use Rattle.classfile.specs.Written.{row, rows_to}
use Rattle.classfile.specs.Taking.{taken_of, out_of}
use Rattle.faithful.specs.Frames.{Frame, frame, Left, goes, returned, uncaught, does}

-- class c of the bundle has what is written for the code as its instructions
pub record Holds (b : List ℕ) (c : ℕ) (classes code table : List ℕ) : Type 0 where
  pub row_at : (n : ℕ) → n < total code → ((program_of b).method c).instruction (n + 1) ≡ decoded (get_or (rows_to classes code table (length code)) n (row 0 0 0))

-- .. which is so where its record has, behind its descriptors, what `take` wrote into a buffer
pub record Carries (b : List ℕ) (c : ℕ) (a classes out : List ℕ) : Type 0 where
  pub success : (taken_of a classes (length out)).number ≡ 0
  pub length_k : (class_at b c).code ≡ total (code_of a)
  pub bytes : (n : ℕ) → n < total (code_of a)
      → code_from (part_of b (class_at b c)) (descriptor_count (class_at b c) + 4 * n) ≡ code_from (out_of a classes out) (4 * n)

abbrev pub Carried : Type 0
Carried = (b : List ℕ) (c : ℕ) (a classes out : List ℕ) → Carries b c a classes out → Holds b c classes (code_of a) (table_of a)

-- the n entries at the bottom of a stack, the top of them first
unfoldable pub top_first : ℕ → List Slot → List Slot
top_first zero l = []
top_first (suc n) l = get_or l n zero_slot ∷ top_first n l

-- what of the machine's state thread i has
abbrev pub seen : State → ℕ → Frame
seen s i =
    frame (thread_at s i).vars (top_first (thread_at s i).depth (thread_at s i).stack) (count_of s.counts i) s.objects (class_of s)

-- the same variables, stack and number of objects, and for each of the 32 objects the same count and the same class
pub record Agree (f g : Frame) : Type 0 where
  pub vars : f.vars ≡ g.vars
  pub stack : f.stack ≡ g.stack
  pub counts : (o : ℕ) → o < 32 → f.counts o ≡ g.counts o
  pub objects : f.objects ≡ g.objects
  pub kinds : (o : ℕ) → o < 32 → f.kinds o ≡ g.kinds o

-- what every state has, whose arrays are of document 01's sizes
pub record Sized (s : State) (i : ℕ) : Type 0 where
  pub threads_8 : length s.threads ≡ 8
  pub counts_256 : length s.counts ≡ 256
  pub classes_32 : length s.classes ≡ 32
  pub stack_16 : length (thread_at s i).stack ≡ 16

-- thread i is in class c, at the address of offset q, where an instruction begins or the code ends
pub record At (code : List ℕ) (c : ℕ) (s : State) (i q : ℕ) : Type 0 where
  pub class : (thread_at s i).class ≡ c
  pub address : (thread_at s i).at.0 ≡ address_of code q
  pub begun : begins code q ≡ true
  pub sized : Sized s i

-- on where a step answered 0
abbrev pub and_then : (State → Stepped) → Stepped → Stepped
and_then f r = cond (eqb r.answer 0) (f r.state) r

-- steps of thread i, each told whether an allocation fails, as long as they answer 0
unfoldable pub steps : List ℕ → ℕ → List Bool → State → Stepped
steps b i [] s = record { answer = 0; state = s }
steps b i (x ∷ xs) s = and_then (steps b i xs) (step_of b s i x)

-- what the first is told
abbrev pub told : List Bool → Bool
told [] = false
told (x ∷ xs) = x

-- the machine goes on with these values, at the address of the offset at which the method goes on
pub record GoesOn (code : List ℕ) (c i : ℕ) (r : Stepped) (q : ℕ) (f : Frame) : Type 0 where
  pub went : r.answer ≡ 0
  pub values : Agree (seen r.state i) f
  pub there : At code c r.state i q

-- the machine leaves what the instruction leaves: it goes on so, or the thread ends (1), or ends uncaught (2)
abbrev pub Leaves : List ℕ → ℕ → ℕ → Stepped → Left → Type 0
Leaves code c i r (goes q f) = GoesOn code c i r q f
Leaves code c i r returned = r.answer ≡ 1
Leaves code c i r uncaught = r.answer ≡ 2

-- THE STATEMENT: `take` answered 0, and class c of a bundle has as its instructions what it wrote. Thread i is at the address of an instruction that was read.
-- From the same values, the steps of what is written for it, where they answer 0, 1 or 2, leave what the instruction leaves; and there the next one can be taken.
abbrev pub Faithful : Type 0
Faithful =
    (a classes out b : List ℕ) (c : ℕ) →
    Carries b c a classes out →
    (s : State) (i p : ℕ) (fails : List Bool) →
    At (code_of a) c s i p →
    p < length (code_of a) →
    length fails ≡ gives_of (java_at (code_of a) p) →
    (steps b i fails s).answer ≤ 2 →
    Leaves (code_of a) c i (steps b i fails s) (does classes (code_of a) (table_of a) p (java_at (code_of a) p) (told fails) (seen s i))

-- .. and an iinc's three steps do all answer 0 where thread i lives in a state of this bundle, the stack has room and the variable holds an integer
abbrev pub IincGoes : Type 0
IincGoes =
    (a classes out b : List ℕ) (c : ℕ) →
    Carries b c a classes out →
    (s : State) (i p v : ℕ) (x y z : Bool) →
    At (code_of a) c s i p →
    p < length (code_of a) →
    length s.held ≡ 8 →
    java_at (code_of a) p ≡ Iinc v →
    readable b ≡ true →
    state_ok (program_of b) s ≡ true →
    i < 8 →
    (thread_at s i).live ≡ true →
    (thread_at s i).depth < ((program_of b).method c).limit →
    is_int (var_of (thread_at s i) v) ≡ true →
    (steps b i (x ∷ y ∷ z ∷ []) s).answer ≡ 0

-- ---- a whole run
-- the steps of instruction after instruction, each told what its list says, as long as they answer 0
unfoldable pub runs : List ℕ → ℕ → List (List Bool) → State → Stepped
runs b i [] s = record { answer = 0; state = s }
runs b i (x ∷ xs) s = and_then (runs b i xs) (steps b i x s)

module _ (classes code table : List ℕ) where
  -- what the instruction leaves at which the method goes on, if it does
  abbrev pub onward : Left → List Bool → Left
  onward (goes q f) x = does classes code table q (java_at code q) (told x) f
  onward returned x = returned
  onward uncaught x = uncaught

  -- what so many instructions leave, one after another
  unfoldable pub doing : List (List Bool) → Left → Left
  doing [] l = l
  doing (x ∷ xs) l = doing xs (onward l x)

  -- where an instruction is told anything, the method has not ended, nor come to its code's end; and each has as many steps as are written for it
  abbrev pub Told : List (List Bool) → Left → Type 0
  Told [] l = Unit
  Told (x ∷ xs) (goes q f) = (q < length code) × (length x ≡ gives_of (java_at code q)) × Told xs (onward (goes q f) x)
  Told (x ∷ xs) returned = ⊥
  Told (x ∷ xs) uncaught = ⊥

-- from the same values, so many instructions leave what was read leaves
abbrev pub FaithfulRuns : Type 0
FaithfulRuns =
    (a classes out b : List ℕ) (c : ℕ) →
    Carries b c a classes out →
    (s : State) (i p : ℕ) (xs : List (List Bool)) →
    At (code_of a) c s i p →
    Told classes (code_of a) (table_of a) xs (goes p (seen s i)) →
    (runs b i xs s).answer ≤ 2 →
    Leaves (code_of a) c i (runs b i xs s) (doing classes (code_of a) (table_of a) xs (goes p (seen s i)))
