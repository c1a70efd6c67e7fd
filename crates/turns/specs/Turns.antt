-- What the code's turns come to: how a thread goes on, and what else changes, found without the state and then done to it in one place.
use Rattle.std.specs.Prelude.{ℕ, Result, Ok, Err}
use Rattle.bundle.specs.Program.{Program}
use Rattle.threads.specs.declared.Thread.{Thread}
use Rattle.threads.specs.Threads.{topped, started}
use Rattle.state.specs.declared.State.{State}
use Rattle.state.specs.State.{thread_at, with_thread, with_count, field_of, with_field, with_object, lowest_free}
use Rattle.turns.specs.Stepped.{Stepped}
use Rattle.turns.specs.declared.Answer.{Answer}
use Rattle.turns.specs.declared.Change.{Change}
use Rattle.turns.specs.declared.Change.TheVariants.{Alone, Count, Object, Field, Top, Begin}
use Rattle.turns.specs.declared.Turn.{Turn}
use Rattle.turns.specs.Numbers.{answer_number}
use Rattle.turns.specs.Answers.{refused, unless_drawn}
use Rattle.turns.specs.Waits.{start_wait}
use Rattle.turns.specs.Moves.{first_fields}

-- thread i, which was t, goes on as u with the answer n, and one of class c with so many arguments begins; 4 where no number is free
abbrev pub begun : State → ℕ → Thread → Thread → ℕ → ℕ → ℕ → Stepped
begun s i t u n c args =
    unless_drawn (start_wait s) s
    (record { answer = n; state = with_thread (with_thread s (lowest_free s) (started (thread_at s (lowest_free s)) t c args)) i u })

-- thread i, which was t, goes on as u with the answer n, and the change is made
abbrev pub changed : Program → State → ℕ → Thread → Thread → ℕ → Change → Stepped
changed P s i t u n Alone = record { answer = n; state = with_thread s i u }
changed P s i t u n (Count o k) = record { answer = n; state = with_thread (with_count s i o k) i u }
changed P s i t u n (Object c) = record { answer = n; state = with_thread (with_object s c (first_fields (P.method c))) i u }
changed P s i t u n (Field o f x) = record { answer = n; state = with_thread (with_field s o f x) i u }
changed P s i t u n (Top o f) = record { answer = n; state = with_thread s i (topped u (field_of s.fields o f)) }
changed P s i t u n (Begin c args) = begun s i t u n c args

-- what the turn w of thread i, which is t, makes of the state; a refusal gives it back as given
abbrev pub turned : Program → State → ℕ → Thread → Result Turn Answer → Stepped
turned P s i t (Ok w) = changed P s i t w.thread (answer_number w.answer) w.change
turned P s i t (Err a) = refused (answer_number a) s
