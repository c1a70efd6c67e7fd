-- Document 01, the machine: what an instruction of thread i does where it draws no fault and doesn't wait. It answers 0, 1 or 2.
use Rattle.std.specs.Prelude.{Bool, cond, not, ◌&&◌, List, [], ◌∷◌, ℕ, ◌+◌, ◌-◌, ltb, eqb}
use Rattle.instructions.specs.declared.Addr.{Addr}
use Rattle.instructions.specs.declared.Var.{Var}
use Rattle.instructions.specs.declared.Instruction.{Instruction}
use Rattle.instructions.specs.declared.Instruction.TheVariants.{Inc, Pop, Push0, Load, Store, If, Enter, Exit, New, Start, Throw, Return, Get, Put, Nothing}
use Rattle.bundle.specs.Program.{Method, Program}
use Rattle.values.specs.declared.Slot.{Slot}
use Rattle.values.specs.Values.{zero_slot, ref_slot, null_slot, is_null, object_of, inc_slot, jumps}
use Rattle.threads.specs.declared.Thread.{Thread}
use Rattle.threads.specs.Threads.{from_top, top_of, var_of, with_at, topped, pushed, popped, stored, ended, started}
use Rattle.state.specs.declared.State.{State}
use Rattle.state.specs.State.{thread_at, count_of, with_thread, with_count, field_of, with_field, with_object, lowest_free}
use Rattle.turns.specs.Stepped.{Stepped}
use Rattle.turns.specs.Faults.{lock_of, new_fails}

-- 0: thread i goes on as u, at address a
abbrev pub went_to : State → ℕ → Thread → ℕ → Stepped
went_to s i u a = record { answer = 0; state = with_thread s i (with_at u a) }

-- thread i, which stood at `here`, goes on as u at the next address
abbrev pub went_on : State → ℕ → Addr → Thread → Stepped
went_on s i here u = went_to s i u (here.0 + 1)

abbrev pub inc_move : State → ℕ → Thread → Stepped
inc_move s i t = went_on s i t.at (topped t (inc_slot (top_of t)))

abbrev pub pop_move : State → ℕ → Thread → Stepped
pop_move s i t = went_on s i t.at (popped 1 t)

abbrev pub push0_move : State → ℕ → Thread → Stepped
push0_move s i t = went_on s i t.at (pushed t zero_slot)

abbrev pub load_move : State → ℕ → Thread → Var → Stepped
load_move s i t v = went_on s i t.at (pushed t (var_of t v.0))

abbrev pub store_move : State → ℕ → Thread → Var → Stepped
store_move s i t v = went_on s i t.at (popped 1 (stored t v.0 (top_of t)))

-- `if` jumps on a value that isn't 0
abbrev pub if_move : State → ℕ → Thread → Addr → Stepped
if_move s i t a = cond (jumps (top_of t)) (went_to s i (popped 1 t) a.0) (went_on s i t.at (popped 1 t))

-- thread i's count of o becomes n
abbrev pub counted : State → ℕ → Thread → ℕ → ℕ → Stepped
counted s i t o n = went_on (with_count s i o n) i t.at t

-- monitorexit takes one away
abbrev pub exit_move : State → ℕ → Thread → Var → Stepped
exit_move s i t v = counted s i t (lock_of t v) (count_of s.counts i (lock_of t v) - 1)

-- the thread, which has V variables, ends with the answer n
abbrev pub end_move : State → ℕ → Thread → ℕ → ℕ → Stepped
end_move s i t vars n = record { answer = n; state = with_thread s i (ended vars t) }

-- the stack emptied, and x alone on it
abbrev pub caught : Thread → Slot → Thread
caught t x = pushed (popped t.depth t) x

-- x is thrown: the handler finds it alone on its stack; with no handler, the thread ends uncaught (document 02, Q-6)
abbrev pub throw_move : State → ℕ → Thread → ℕ → Addr → Slot → Stepped
throw_move s i t vars h x = cond (eqb h.0 0) (end_move s i t vars 2) (went_to s i (caught t x) h.0)

-- a failed new throws object 0 (document 02, Q-6), and so does null (Q-8)
abbrev pub fail_move : State → ℕ → Thread → ℕ → Addr → Stepped
fail_move s i t vars h = throw_move s i t vars h (ref_slot 0)

-- monitorenter adds one to the count; null throws
abbrev pub enter_move : State → ℕ → Thread → ℕ → Var → Addr → Stepped
enter_move s i t vars v h =
    cond (is_null (var_of t v.0)) (fail_move s i t vars h)
    (counted s i t (lock_of t v) (count_of s.counts i (lock_of t v) + 1))

-- field place j of a new object of the class whose method is m: null where it is a field that refers, and else integer 0
abbrev pub first_field : Method → ℕ → Slot
first_field m j = cond (ltb j m.fields && not (eqb (m.field j) 255)) null_slot zero_slot

-- .. all four
abbrev pub first_fields : Method → List Slot
first_fields m = first_field m 0 ∷ first_field m 1 ∷ first_field m 2 ∷ first_field m 3 ∷ []

-- a new that succeeds takes the next object number
abbrev pub make_move : Program → State → ℕ → Thread → ℕ → Stepped
make_move P s i t c = went_on (with_object s c (first_fields (P.method c))) i t.at (pushed t (ref_slot s.objects))

-- .. and one that fails throws
abbrev pub new_move : Program → State → ℕ → Thread → ℕ → ℕ → Addr → Bool → Stepped
new_move P s i t vars c h fails = cond (new_fails s fails) (fail_move s i t vars h) (make_move P s i t c)

-- getfield takes the owner from the top and pushes what its field f holds; a null owner throws
abbrev pub get_move : State → ℕ → Thread → ℕ → ℕ → Addr → Stepped
get_move s i t vars f h =
    cond (is_null (top_of t)) (fail_move s i t vars h)
    (went_on s i t.at (topped t (field_of s.fields (object_of (top_of t)) f)))

-- putfield takes the value from the top, then the owner, and puts the value into its field f; a null owner throws
abbrev pub put_move : State → ℕ → Thread → ℕ → ℕ → Addr → Stepped
put_move s i t vars f h =
    cond (is_null (from_top t 1)) (fail_move s i t vars h)
    (went_on (with_field s (object_of (from_top t 1)) f (top_of t)) i t.at (popped 2 t))

-- start puts the top in variable 0 of the new thread, the next in 1, and so on, and takes the object below
abbrev pub started_by : State → ℕ → Thread → ℕ → ℕ → ℕ → Stepped
started_by s i t args c j = went_on (with_thread s j (started (thread_at s j) t c args)) i t.at (popped (args + 1) t)

-- the new thread has the lowest free number
abbrev pub start_move : State → ℕ → Thread → ℕ → ℕ → Stepped
start_move s i t args c = started_by s i t args c (lowest_free s)

-- of thread i, which is t and stands in the method m; what is no instruction changes nothing
abbrev pub move_of : Program → State → ℕ → Thread → Method → Bool → Instruction → Stepped
move_of P s i t m fails Inc = inc_move s i t
move_of P s i t m fails Pop = pop_move s i t
move_of P s i t m fails Push0 = push0_move s i t
move_of P s i t m fails (Load v) = load_move s i t v
move_of P s i t m fails (Store v) = store_move s i t v
move_of P s i t m fails (If a) = if_move s i t a
move_of P s i t m fails (Enter v h) = enter_move s i t m.vars v h
move_of P s i t m fails (Exit v) = exit_move s i t v
move_of P s i t m fails (New c h) = new_move P s i t m.vars c h fails
move_of P s i t m fails (Start c) = start_move s i t (P.method c).args c
move_of P s i t m fails (Throw h) = throw_move s i t m.vars h (top_of t)
move_of P s i t m fails Return = end_move s i t m.vars 1
move_of P s i t m fails (Get c f h) = get_move s i t m.vars f h
move_of P s i t m fails (Put c f h) = put_move s i t m.vars f h
move_of P s i t m fails Nothing = record { answer = 0; state = s }
