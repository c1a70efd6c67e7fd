-- A method taken from its attribute, put into a bundle and run: the statements of Faithful.antt are not empty.
use Rattle.std.specs.Prelude.{◌≡◌, Bool, true, false, List, [], ◌∷◌, ◌++◌, ℕ, length, get_or, replicate}
use Rattle.values.specs.declared.Slot.{Slot}
use Rattle.values.specs.Values.{zero_slot, ref_slot, int_slot}
use Rattle.state.specs.declared.State.{State}
use Rattle.state.specs.State.{thread_at, count_of, class_of}
use Rattle.machine.specs.Machine.{fresh_of}
use Rattle.classfile.specs.Attribute.{code_of, table_of}
use Rattle.classfile.specs.Taking.{taken, taken_of, out_of}
use Rattle.faithful.specs.Frames.{Left, goes, returned, uncaught}
use Rattle.faithful.specs.Faithful.{Carries, seen, At, runs, doing, Told}

-- 0 new 7; 3 astore_0; 4 aload_0, monitorenter; 6 iinc 1 by 1; 9 nop; 10 aload_0, monitorexit; 12 return; 13 athrow, the handler of all from 0 up to 10
abbrev pub attribute : List ℕ
attribute =
    (0 ∷ 9 ∷ 0 ∷ 0 ∷ 0 ∷ 34 ∷ 0 ∷ 1 ∷ 0 ∷ 2 ∷ 0 ∷ 0 ∷ 0 ∷ 14 ∷ [])
    ++ (187 ∷ 0 ∷ 7 ∷ 75 ∷ 42 ∷ 194 ∷ 132 ∷ 1 ∷ 1 ∷ 0 ∷ 42 ∷ 195 ∷ 177 ∷ 191 ∷ [])
    ++ (0 ∷ 1 ∷ 0 ∷ 0 ∷ 0 ∷ 10 ∷ 0 ∷ 13 ∷ 0 ∷ 0 ∷ 0 ∷ 0 ∷ [])

-- class 0 has the constant-pool index 7
abbrev pub list : List ℕ
list = 0 ∷ 7 ∷ []

abbrev pub buffer : List ℕ
buffer = replicate 36 165

-- what is written, and rows, which the machine never reads; V 2, K 1
abbrev pub bundle : List ℕ
bundle =
    out_of attribute list buffer
    ++ replicate 117 0
    ++ (0 ∷ 0 ∷ 0 ∷ 2 ∷ 1 ∷ 0 ∷ 0 ∷ 9 ∷ [])
    ++ (0 ∷ 153 ∷ 1 ∷ 0 ∷ 0 ∷ 169 ∷ 76 ∷ 75 ∷ [])

abbrev pub start : State
start = (fresh_of bundle).state

-- each of so many instructions is told what it has to be
abbrev pub Given : List (List Bool) → Type 0
Given xs = Told list (code_of attribute) (table_of attribute) xs (goes 0 (seen start 0))

-- what the instructions that were read leave, and those that are written
abbrev pub left : List (List Bool) → Left
left xs = doing list (code_of attribute) (table_of attribute) xs (goes 0 (seen start 0))

abbrev pub ran : List (List Bool) → State
ran xs = (runs bundle 0 xs start).state

-- so many of thread 0's instructions, none of whose allocations fails
abbrev pub going : List (List Bool)
going = (false ∷ []) ∷ (false ∷ []) ∷ (false ∷ []) ∷ (false ∷ false ∷ false ∷ []) ∷ [] ∷ []

abbrev pub whole : List (List Bool)
whole = going ++ ((false ∷ []) ∷ (false ∷ []) ∷ [])

-- an allocation that fails, and is caught; and what was caught, thrown again
abbrev pub caught : List (List Bool)
caught = (true ∷ []) ∷ []

abbrev pub thrown : List (List Bool)
thrown = caught ++ ((false ∷ []) ∷ [])

-- the offset at which the method goes on, and the values
abbrev pub offset_of : Left → ℕ
offset_of (goes q f) = q
offset_of returned = 0
offset_of uncaught = 0

abbrev pub stack_of : Left → List Slot
stack_of (goes q f) = f.stack
stack_of returned = []
stack_of uncaught = []

abbrev pub var_at : ℕ → Left → Slot
var_at v (goes q f) = get_or f.vars v zero_slot
var_at v returned = zero_slot
var_at v uncaught = zero_slot

abbrev pub count_at : ℕ → Left → ℕ
count_at o (goes q f) = f.counts o
count_at o returned = 0
count_at o uncaught = 0

abbrev pub kind_at : ℕ → Left → ℕ
kind_at o (goes q f) = f.kinds o
kind_at o returned = 0
kind_at o uncaught = 0

pub record Witness : Type 0 where
  -- nine instructions are taken, a class has them, and thread 0 of the fresh machine is at the first
  pub taken_9 : taken_of attribute list (length buffer) ≡ taken 0 9
  pub carries : Carries bundle 0 attribute list buffer
  pub at_first : At (code_of attribute) 0 start 0 0
  -- the method goes on behind the nop: the lock is held once, variable 1 is 1
  pub told_going : Given going
  pub read_going : (offset_of (left going) ≡ 10) × (var_at 0 (left going) ≡ ref_slot 1) × (var_at 1 (left going) ≡ int_slot 1) × (stack_of (left going) ≡ []) × (count_at 1 (left going) ≡ 1) × (kind_at 1 (left going) ≡ 0)
  pub written_going : ((runs bundle 0 going start).answer ≡ 0) × ((thread_at (ran going) 0).at.0 ≡ 7) × (get_or (thread_at (ran going) 0).vars 0 zero_slot ≡ ref_slot 1) × (get_or (thread_at (ran going) 0).vars 1 zero_slot ≡ int_slot 1)
      × ((thread_at (ran going) 0).depth ≡ 0) × (count_of (ran going).counts 0 1 ≡ 1) × (class_of (ran going) 1 ≡ 0)
  -- .. and returns
  pub told_whole : Given whole
  pub read_returns : left whole ≡ returned
  pub ended : (runs bundle 0 whole start).answer ≡ 1
  -- a failed allocation is caught at 13, with object 0 alone on the stack
  pub told_caught : Given caught
  pub read_caught : (offset_of (left caught) ≡ 13) × (stack_of (left caught) ≡ ref_slot 0 ∷ [])
  pub written_caught : ((runs bundle 0 caught start).answer ≡ 0) × ((thread_at (ran caught) 0).at.0 ≡ 9) × ((thread_at (ran caught) 0).depth ≡ 1)
  -- .. and thrown again, where no entry covers
  pub told_thrown : Given thrown
  pub read_thrown : left thrown ≡ uncaught
  pub ended_uncaught : (runs bundle 0 thrown start).answer ≡ 2
