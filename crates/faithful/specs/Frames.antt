-- Document 02, Q-9: what each taken instruction does, by the Java Virtual Machine Specification, on the machine's values: to the variables, the stack and the counts.
-- Every handler is taken as one that catches all; what null and a failed new throw is object 0 (Q-6, Q-8).
use Rattle.std.specs.Prelude.{Bool, cond, ◌||◌, List, [], ◌∷◌, ℕ, ◌+◌, ◌-◌, eqb, ltb, leb, get_or, set}
use Rattle.values.specs.declared.Slot.{Slot}
use Rattle.values.specs.Values.{zero_slot, ref_slot, object_of, is_null, inc_slot, jumps}
use Rattle.java.specs.declared.Java.{Java}
use Rattle.java.specs.declared.Java.TheVariants.{Nop, Pop, Iconst0, Load, Store, Ifne, Enter, Exit, New, Athrow, Return, Iinc, Other}
use Rattle.java.specs.Instructions.{size_at}
use Rattle.java.specs.Classes.{class_number}
use Rattle.offsets.specs.Handlers.{entries, handler_of, covered_by}
use Rattle.offsets.specs.Targets.{target_of}

-- a thread's local variables, its stack with the top first, its count for each object; and how many objects there are, and the class of each
pub record Frame : Type 0 where
  pub vars : List Slot
  pub stack : List Slot
  pub counts : ℕ → ℕ
  pub objects : ℕ
  pub kinds : ℕ → ℕ

abbrev pub frame : List Slot → List Slot → (ℕ → ℕ) → ℕ → (ℕ → ℕ) → Frame
frame vars stack counts objects kinds = record { vars = vars; stack = stack; counts = counts; objects = objects; kinds = kinds }

-- other variables, another stack, other counts
abbrev pub with_vars : List Slot → Frame → Frame
with_vars l f = frame l f.stack f.counts f.objects f.kinds

abbrev pub with_stack : List Slot → Frame → Frame
with_stack l f = frame f.vars l f.counts f.objects f.kinds

abbrev pub with_counts : (ℕ → ℕ) → Frame → Frame
with_counts g f = frame f.vars f.stack g f.objects f.kinds

abbrev pub top_of : List Slot → Slot
top_of [] = zero_slot
top_of (x ∷ xs) = x

abbrev pub rest_of : List Slot → List Slot
rest_of [] = []
rest_of (x ∷ xs) = xs

abbrev pub push : Slot → Frame → Frame
push x f = with_stack (x ∷ f.stack) f

abbrev pub pop : Frame → Frame
pop f = with_stack (rest_of f.stack) f

-- iload, aload: the variable's value onto the stack
abbrev pub load : ℕ → Frame → Frame
load v f = push (get_or f.vars v zero_slot) f

-- istore, astore: the top into the variable
abbrev pub store : ℕ → Frame → Frame
store v f = with_vars (set f.vars v (top_of f.stack)) (pop f)

-- iinc by 1: the variable one more, the stack as it was
abbrev pub iinc : ℕ → Frame → Frame
iinc v f = with_vars (set f.vars v (inc_slot (get_or f.vars v zero_slot))) f

-- a number for each object, that of o changed
abbrev pub changed : (ℕ → ℕ) → ℕ → ℕ → ℕ → ℕ
changed g o n q = cond (eqb q o) n (g q)

-- monitorenter, monitorexit: the object on top of the stack is taken off; its count is one more, one less
abbrev pub enter : Frame → Frame
enter f =
    let o = object_of (top_of f.stack) in
    with_counts (changed f.counts o (f.counts o + 1)) (pop f)

abbrev pub exit : Frame → Frame
exit f =
    let o = object_of (top_of f.stack) in
    with_counts (changed f.counts o (f.counts o - 1)) (pop f)

-- new: a reference to the next object, which is of class c
abbrev pub create : ℕ → Frame → Frame
create c f = frame f.vars (ref_slot f.objects ∷ f.stack) f.counts (f.objects + 1) (changed f.kinds f.objects c)

-- what is thrown, alone on the stack
abbrev pub alone : Slot → Frame → Frame
alone x f = with_stack (x ∷ []) f

-- what an instruction leaves
pub data Left : Type 0 where
  -- the method goes on at an offset, with these values
  goes : ℕ → Frame → Left
  returned : Left
  -- what was thrown found no handler
  uncaught : Left

-- x is thrown at an offset: the handler of the first entry that covers it finds x alone on the stack
unfoldable pub throws : List ℕ → ℕ → Slot → Frame → Left
throws table offset x f =
    cond (ltb (covered_by table offset) (entries table)) (goes (handler_of table (covered_by table offset)) (alone x f)) uncaught

module _ (classes code table : List ℕ) (p : ℕ) where
  -- right behind
  abbrev pub next : Frame → Left
  next f = goes (p + size_at code p) f

  -- monitorenter, the last byte of a pair, takes the lock of what is on top of the stack; null throws
  abbrev pub lock : Frame → Left
  lock f = cond (is_null (top_of f.stack)) (throws table (p + size_at code p - 1) (ref_slot 0) f) (next (enter f))

  -- the instruction at offset p; a pair is an aload and then its lock instruction; a new fails when it is told to, or at 32 objects; what is not taken stays
  abbrev pub does : Java → Bool → Frame → Left
  does Nop fails f = next f
  does Pop fails f = next (pop f)
  does Iconst0 fails f = next (push zero_slot f)
  does (Load v) fails f = next (load v f)
  does (Store v) fails f = next (store v f)
  does (Ifne d) fails f = goes (cond (jumps (top_of f.stack)) (target_of code p d) (p + size_at code p)) (pop f)
  does (Enter v) fails f = lock (load v f)
  does (Exit v) fails f = next (exit (load v f))
  does (New i) fails f = cond (fails || leb 32 f.objects) (throws table p (ref_slot 0) f) (next (create (class_number classes i) f))
  does Athrow fails f = throws table p (top_of f.stack) f
  does Return fails f = returned
  does (Iinc v) fails f = next (iinc v f)
  does Other fails f = goes p f
