-- Document 02, Q-2: "the instruction and object it met".
use Rattle.std.specs.Prelude.{cond, ◌||◌, List, ℕ}
use Rattle.instructions.specs.declared.Code.{Code}
use Rattle.bundle.specs.Container.{class_at, part_of, no_code, code_at}
use Rattle.values.specs.declared.Value.{Value}
use Rattle.values.specs.declared.Value.TheVariants.{Int, Ref, Null}
use Rattle.threads.specs.declared.Thread.{Thread}
use Rattle.threads.specs.Threads.{var_of}
use Rattle.state.specs.declared.State.{State}
use Rattle.state.specs.State.{thread_at}
use Rattle.history.specs.Met.{Object, None, One, Met}
use Rattle.history.specs.Event.{is_enter, is_exit}

-- the object that a value refers to; null is none, least of all object 0
abbrev pub object_in : Value → Object
object_in (Int z) = None
object_in (Ref o) = One o
object_in Null = None

-- a monitorenter and a monitorexit meet the object that their variable refers to; another instruction meets none
unfoldable pub object_met : Thread → Code → Object
object_met t x = cond (is_enter x || is_exit x) (object_in (var_of t x.operand).value) None

-- the instruction at the thread's address of its class, as it stands there
unfoldable pub code_here : List ℕ → Thread → Code
code_here b t = let k = class_at b t.class in code_at k (part_of b k) t.at.0

-- a thread that isn't live meets none
unfoldable pub instruction_met : List ℕ → Thread → Code
instruction_met b t = cond t.live (code_here b t) no_code

-- the instruction x, and the object that the thread meets with it
abbrev pub meeting : Thread → Code → Met
meeting t x = record { instruction = x; object = object_met t x }

-- what a step of thread i meets in the state s
abbrev pub met_of : List ℕ → State → ℕ → Met
met_of b s i = meeting (thread_at s i) (instruction_met b (thread_at s i))
