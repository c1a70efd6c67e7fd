-- What a test draws, a fault or a wait, is 3 or more: no refusal answers 0, 1 or 2.
use mathlib.Core.Path.{refl}
use mathlib.Core.Logic.{◌≢◌}
use mathlib.Core.Bool.{Bool, true, false, cond}
use mathlib.Core.List.{List}
use Prim.Native.Nat.{ℕ, ◌≤◌}
use native.Mathlib.Omega.{arith}
use lib.Dec.{eqb}
use Rattle.ground.specs.Chain.{refuse}
use Rattle.instructions.specs.declared.Addr.{Addr}
use Rattle.instructions.specs.declared.Instruction.{Instruction}
use Rattle.instructions.specs.declared.Instruction.TheVariants.{Inc, Pop, Push0, Load, Store, If, Enter, Exit, New, Start, Throw, Return, Get, Put, Nothing}
use Rattle.bundle.specs.Program.{Method, Program}
use Rattle.values.specs.Values.{is_null}
use Rattle.threads.specs.declared.Thread.{Thread}
use Rattle.threads.specs.Threads.{from_top, top_of, var_of}
use Rattle.state.specs.declared.State.{State}
use Rattle.turns.specs.Answers.{test}
use Rattle.turns.specs.Faults.{top_fault, int_fault, push_fault, end_fault, throw_fault, new_fails, fault_of}
use Rattle.turns.specs.Waits.{wait_of}

pub record Drawn (n : ℕ) : Type 0 where
  pub high : n ≢ 0 → 3 ≤ n

nothing : Drawn 0
nothing = record { high = λ e. absurd (e refl) }

number : (n : ℕ) → 3 ≤ n → Drawn n
number n l = record { high = λ e. l }

whether : (ok : Bool) (n m : ℕ) → Drawn n → Drawn m → Drawn (cond ok n m)
whether true n m p q = p
whether false n m p q = q

tests : (ok : Bool) (n rest : ℕ) → 3 ≤ n → Drawn rest → Drawn (test ok n rest)
unfolding refuse
tests ok n rest l p = whether ok rest n p (number n l)

top-drawn : (t : Thread) → Drawn (top_fault t)
top-drawn t = tests _ 11 _ (omega arith) nothing

int-drawn : (t : Thread) → Drawn (int_fault t)
int-drawn t = tests _ 11 _ (omega arith) (tests _ 13 _ (omega arith) nothing)

push-drawn : (t : Thread) (limit : ℕ) → Drawn (push_fault t limit)
push-drawn t limit = tests _ 12 _ (omega arith) nothing

end-drawn : (counts : List ℕ) (i : ℕ) → Drawn (end_fault counts i)
end-drawn counts i = tests _ 15 _ (omega arith) nothing

throw-drawn : (counts : List ℕ) (i limit : ℕ) (h : Addr) → Drawn (throw_fault counts i limit h)
throw-drawn counts i limit h = whether (eqb h.0 0) _ _ (end-drawn counts i) (tests _ 12 _ (omega arith) nothing)

module _ (P : Program) (s : State) (i : ℕ) (t : Thread) where
  pub fault-drawn : (m : Method) (fails : Bool) (x : Instruction) → Drawn (fault_of P s i t m fails x)
  fault-drawn m fails Inc = int-drawn t
  fault-drawn m fails Pop = top-drawn t
  fault-drawn m fails Push0 = push-drawn t m.limit
  fault-drawn m fails (Load v) = push-drawn t m.limit
  fault-drawn m fails (Store v) = top-drawn t
  fault-drawn m fails (If a) = int-drawn t
  fault-drawn m fails (Enter v h) = tests _ 13 _ (omega arith) (whether (is_null (var_of t v.0)) _ _ (throw-drawn s.counts i m.limit h) (tests _ 16 _ (omega arith) nothing))
  fault-drawn m fails (Exit v) = tests _ 13 _ (omega arith) (tests _ 14 _ (omega arith) nothing)
  fault-drawn m fails (New c h) = whether (new_fails s fails) _ _ (throw-drawn s.counts i m.limit h) (push-drawn t m.limit)
  fault-drawn m fails (Start c) = tests _ 11 _ (omega arith) (tests _ 13 _ (omega arith) nothing)
  fault-drawn m fails (Throw h) = tests _ 11 _ (omega arith) (tests _ 13 _ (omega arith) (throw-drawn s.counts i m.limit h))
  fault-drawn m fails Return = end-drawn s.counts i
  fault-drawn m fails (Get c f h) = tests _ 11 _ (omega arith) (tests _ 13 _ (omega arith) (whether (is_null (top_of t)) _ _ (throw-drawn s.counts i m.limit h) nothing))
  fault-drawn m fails (Put c f h) = tests _ 11 _ (omega arith) (tests _ 13 _ (omega arith) (whether (is_null (from_top t 1)) _ _ (throw-drawn s.counts i m.limit h) nothing))
  fault-drawn m fails Nothing = number 17 (omega arith)

  pub wait-drawn : (x : Instruction) → Drawn (wait_of s i t x)
  wait-drawn Inc = nothing
  wait-drawn Pop = nothing
  wait-drawn Push0 = nothing
  wait-drawn (Load v) = nothing
  wait-drawn (Store v) = nothing
  wait-drawn (If a) = nothing
  wait-drawn (Enter v h) = whether (is_null (var_of t v.0)) _ _ nothing (tests _ 3 _ (omega arith) nothing)
  wait-drawn (Exit v) = nothing
  wait-drawn (New c h) = nothing
  wait-drawn (Start c) = tests _ 4 _ (omega arith) nothing
  wait-drawn (Throw h) = nothing
  wait-drawn Return = nothing
  wait-drawn (Get c f h) = nothing
  wait-drawn (Put c f h) = nothing
  wait-drawn Nothing = nothing
