-- Document 01, the machine: the fault that an instruction of thread i draws, the lowest number first, and 0 where it draws none.
use Rattle.std.specs.Prelude.{Bool, cond, ◌&&◌, ◌||◌, not, List, ℕ, ◌+◌, ltb, leb, eqb}
use Rattle.ground.specs.Bytes.{at}
use Rattle.ground.specs.Bounded.{all_below}
use Rattle.instructions.specs.declared.Addr.{Addr}
use Rattle.instructions.specs.declared.Var.{Var}
use Rattle.instructions.specs.declared.Instruction.{Instruction}
use Rattle.instructions.specs.declared.Instruction.TheVariants.{Inc, Pop, Push0, Load, Store, If, Enter, Exit, New, Start, Throw, Return, Get, Put, Nothing}
use Rattle.bundle.specs.Program.{Method, Program}
use Rattle.values.specs.declared.Slot.{Slot}
use Rattle.values.specs.Values.{is_int, is_null, is_ref, object_of}
use Rattle.threads.specs.declared.Thread.{Thread}
use Rattle.threads.specs.Threads.{from_top, top_of, var_of}
use Rattle.state.specs.declared.State.{State}
use Rattle.state.specs.State.{count_of, holds_nothing}
use Rattle.turns.specs.Answers.{test}

-- the stack has n entries
abbrev pub has : ℕ → Thread → Bool
has n t = leb n t.depth

-- a push stays within K
abbrev pub room : ℕ → Thread → Bool
room limit t = ltb t.depth limit

-- an object of class c, where `classes` holds the class of each object
abbrev pub is_object : List ℕ → ℕ → Slot → Bool
is_object classes c x = is_ref x && eqb (at classes (object_of x)) c

-- null, or an object of class c (document 02, Q-8): what the owner of a field is, and what a field that refers holds
unfoldable pub may_be_object : List ℕ → ℕ → Slot → Bool
may_be_object classes c x = is_null x || is_object classes c x

-- the object that variable v refers to
abbrev pub lock_of : Thread → Var → ℕ
lock_of t v = object_of (var_of t v.0)

-- pop and store take the top: 11 where there is none
abbrev pub top_fault : Thread → ℕ
top_fault t = test (has 1 t) 11 0

-- inc and `if` want an integer on top: 11, 13
abbrev pub int_fault : Thread → ℕ
int_fault t = test (has 1 t) 11 (test (is_int (top_of t)) 13 0)

-- push0, load and a new that succeeds push: 12 where the depth is K
abbrev pub push_fault : Thread → ℕ → ℕ
push_fault t limit = test (room limit t) 12 0

-- monitorexit wants a reference that isn't null (13); at count 0 it is 14
abbrev pub exit_fault : List ℕ → ℕ → Thread → Var → ℕ
exit_fault counts i t v = test (is_ref (var_of t v.0)) 13 (test (ltb 0 (count_of counts i (lock_of t v))) 14 0)

-- the thread would end with a count above 0: 15
abbrev pub end_fault : List ℕ → ℕ → ℕ
end_fault counts i = test (holds_nothing counts i) 15 0

-- the handler's stack must have room for what is thrown (12 where K is 0); with no handler, the thread ends uncaught (document 02, Q-6)
abbrev pub throw_fault : List ℕ → ℕ → ℕ → Addr → ℕ
throw_fault counts i limit h = cond (eqb h.0 0) (end_fault counts i) (test (leb 1 limit) 12 0)

-- null in an object's stead throws, as a failed new does (document 02, Q-8); what isn't null draws n
abbrev pub null_fault : List ℕ → ℕ → ℕ → Addr → Slot → ℕ → ℕ
null_fault counts i limit h x n = cond (is_null x) (throw_fault counts i limit h) n

-- monitorenter wants a reference (13); null throws; by the holder at count 2,047 it is 16
abbrev pub enter_fault : List ℕ → ℕ → Thread → Var → ℕ → Addr → ℕ
enter_fault counts i t v limit h =
    test (not (is_int (var_of t v.0))) 13
    (null_fault counts i limit h (var_of t v.0)
    (test (ltb (count_of counts i (lock_of t v)) 2047) 16 0))

-- athrow throws the top (11), a reference of the exception class (13; with K 0 there is no top, so 11 comes before 12)
abbrev pub athrow_fault : State → ℕ → Thread → ℕ → ℕ → Addr → ℕ
athrow_fault s i t exception limit h =
    test (has 1 t) 11
    (test (is_object s.classes exception (top_of t)) 13
    (throw_fault s.counts i limit h))

-- new fails when the step says so, or at 32 objects
abbrev pub new_fails : State → Bool → Bool
new_fails s fails = fails || leb 32 s.objects

-- a failed new throws
abbrev pub new_fault : State → ℕ → Thread → ℕ → Addr → Bool → ℕ
new_fault s i t limit h fails = cond (new_fails s fails) (throw_fault s.counts i limit h) (push_fault t limit)

-- an argument by its descriptor
unfoldable pub is_argument : List ℕ → ℕ → Slot → Bool
is_argument classes d x = cond (eqb d 255) (is_int x) (is_object classes d x)

abbrev pub argument_at : List ℕ → Thread → (ℕ → ℕ) → ℕ → Bool
argument_at classes t descriptor j = is_argument classes (descriptor j) (from_top t j)

-- each argument by its descriptor and below them an object of the class
unfoldable pub arguments_ok : List ℕ → Thread → ℕ → (ℕ → ℕ) → ℕ → Bool
arguments_ok classes t args descriptor c = all_below args (argument_at classes t descriptor) && is_object classes c (from_top t args)

-- start of a class with so many arguments takes them (11), each by its descriptor, and the object below (13)
abbrev pub start_fault : List ℕ → Thread → ℕ → (ℕ → ℕ) → ℕ → ℕ
start_fault classes t args descriptor c = test (has (args + 1) t) 11 (test (arguments_ok classes t args descriptor c) 13 0)

-- a value of a field by its descriptor
unfoldable pub is_field_value : List ℕ → ℕ → Slot → Bool
is_field_value classes d x = cond (eqb d 255) (is_int x) (may_be_object classes d x)

-- getfield takes the owner (11), null or an object of the class (13); null throws
abbrev pub get_fault : State → ℕ → Thread → ℕ → ℕ → Addr → ℕ
get_fault s i t c limit h =
    test (has 1 t) 11
    (test (may_be_object s.classes c (top_of t)) 13
    (null_fault s.counts i limit h (top_of t) 0))

-- putfield takes the value and the owner below it (11), the one by the field's descriptor, the other null or an object of the class (13); null throws
abbrev pub put_fault : State → ℕ → Thread → ℕ → ℕ → ℕ → Addr → ℕ
put_fault s i t c d limit h =
    test (has 2 t) 11
    (test (is_field_value s.classes d (top_of t) && may_be_object s.classes c (from_top t 1)) 13
    (null_fault s.counts i limit h (from_top t 1) 0))

-- of thread i, which is t and stands in the method m; what is no instruction is 17
abbrev pub fault_of : Program → State → ℕ → Thread → Method → Bool → Instruction → ℕ
fault_of P s i t m fails Inc = int_fault t
fault_of P s i t m fails Pop = top_fault t
fault_of P s i t m fails Push0 = push_fault t m.limit
fault_of P s i t m fails (Load v) = push_fault t m.limit
fault_of P s i t m fails (Store v) = top_fault t
fault_of P s i t m fails (If a) = int_fault t
fault_of P s i t m fails (Enter v h) = enter_fault s.counts i t v m.limit h
fault_of P s i t m fails (Exit v) = exit_fault s.counts i t v
fault_of P s i t m fails (New c h) = new_fault s i t m.limit h fails
fault_of P s i t m fails (Start c) = start_fault s.classes t (P.method c).args (P.method c).descriptor c
fault_of P s i t m fails (Throw h) = athrow_fault s i t P.exception m.limit h
fault_of P s i t m fails Return = end_fault s.counts i
fault_of P s i t m fails (Get c f h) = get_fault s i t c m.limit h
fault_of P s i t m fails (Put c f h) = put_fault s i t c ((P.method c).field f) m.limit h
fault_of P s i t m fails Nothing = 17
