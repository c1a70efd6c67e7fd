-- What the C calls give: a verdict, a run of the machine, how many objects a thread holds, and what a step meets, each as one number.
use Rattle.std.specs.Prelude.{List, Bool, cond, ℕ, zero, suc, ◌+◌, ◌*◌, ◌%◌, length, leb, eqb}
use Rattle.ground.specs.Bytes.{at}
use Rattle.bundle.specs.Container.{class_at}
use Rattle.verdicts.specs.declared.Verdict.{Verdict}
use Rattle.structure.specs.Structure.{record_of}
use Rattle.state_bytes.specs.Format.{is_state, state_of}
use Rattle.turns.specs.Stepped.{Stepped}
use Rattle.machine.specs.Machine.{fresh_of, step_of}
use Rattle.holding.specs.Question.{held_of}
use Rattle.history.specs.Met.{Object, None, One, Met}
use Rattle.history.specs.Meeting.{met_of}
use Rattle.exports.specs.declared.Running.{Running}

-- the number in the low byte, the class in the next, the address in the two above, why in the upper half
abbrev pub packed : Verdict → ℕ
packed v = v.number + 256 * v.class + 65536 * v.address + 4294967296 * v.why

-- a class's record: its length (which is below 65,536) in the upper half, its offset in the low one; 0 where it is empty
unfoldable pub packed_record : List ℕ → ℕ → ℕ
packed_record b c =
    let n = length (record_of b c) in
    cond (eqb n 0) 0 (4294967296 * (n % 65536) + (class_at b c).offset)

-- the question how many objects thread i holds, of a state in the trace's bytes: the answer times 256, and the number; 4294901760 where g is no state
unfoldable pub packed_held : List ℕ → List ℕ → ℕ → ℕ
packed_held b g i =
    let h = held_of b (state_of g) i in
    cond (is_state g) (256 * h.answer + h.number) 4294901760

-- an object's number and one, 0 for none
abbrev pub object_number : Object → ℕ
object_number None = 0
object_number (One o) = o + 1

-- what a step meets: the opcode in the low byte, the operand in the next, the address field in the two above, the object in the upper half
abbrev pub packed_met : Met → ℕ
packed_met m =
    m.instruction.opcode + 256 * m.instruction.operand + 65536 * m.instruction.address + 4294967296 * object_number m.object

-- a schedule byte: the low four bits are the thread, the top bit says that new fails
abbrev pub who : ℕ → ℕ
who x = x % 16

abbrev pub failing : ℕ → Bool
failing x = leb 128 x

-- the answers so far, each mixed in
abbrev pub mixed : ℕ → ℕ → ℕ
mixed digest answer = (digest * 31 + answer) % 4294967296

abbrev pub begun : Stepped → Running
begun f = record { state = f.state; digest = f.answer }

abbrev pub advanced : ℕ → Stepped → Running
advanced digest o = record { state = o.state; digest = mixed digest o.answer }

-- after the first n steps from the fresh machine of b: step i is of thread w i, and says f i of an allocation
unfoldable pub running : List ℕ → (ℕ → ℕ) → (ℕ → Bool) → ℕ → Running
running b w f zero = begun (fresh_of b)
running b w f (suc n) = advanced (running b w f n).digest (step_of b (running b w f n).state (w n) (f n))

-- a schedule, a byte a step
unfoldable pub scheduled : List ℕ → List ℕ → Running
scheduled b xs = running b (λ i. who (at xs i)) (λ i. failing (at xs i)) (length xs)

abbrev pub digest_of : List ℕ → List ℕ → ℕ
digest_of b xs = (scheduled b xs).digest

-- steps of any thread number, and 1 beside each where an allocation fails
unfoldable pub answers_of : List ℕ → List ℕ → List ℕ → ℕ
answers_of b ts fs = (running b (at ts) (λ i. leb 1 (at fs i)) (length ts)).digest

-- what a step of thread t meets after a schedule
abbrev pub met_after : List ℕ → List ℕ → ℕ → ℕ
met_after b xs t = packed_met (met_of b (scheduled b xs).state t)
