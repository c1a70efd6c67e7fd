-- What rules, and what they ask of pairs, read of the program: the exception class, and of a class that is named its arguments and its fields' descriptors.
use mathlib.Core.Path.{◌≡◌, refl}
use Prim.Native.Nat.{ℕ, ◌+◌, ◌<◌}
use Rattle.ground.proofs.Bounded.{all_same}
use Rattle.instructions.specs.declared.Instruction.{Instruction}
use Rattle.instructions.specs.declared.Instruction.TheVariants.{Inc, Pop, Push0, Load, Store, If, Enter, Exit, New, Start, Throw, Return, Get, Put, Nothing}
use Rattle.instructions.proofs.Table.{InstructionFits}
use Rattle.bundle.specs.Program.{Program}
use Rattle.rows.specs.Rows.{Row}
use Rattle.rules.specs.Rules.{argument_goes, arguments_go, start_rule, rule_of}
use Rattle.needs.specs.Needs.{entry_need}

-- P and Q agree on so many classes, each with so many fields
pub record Agree (P Q : Program) (classes : ℕ) (fields : ℕ → ℕ) : Type 0 where
  pub exception : P.exception ≡ Q.exception
  pub args : (c : ℕ) → c < classes → (P.method c).args ≡ (Q.method c).args
  pub descriptor : (c j : ℕ) → c < classes → j < (Q.method c).args → (P.method c).descriptor j ≡ (Q.method c).descriptor j
  pub field : (c f : ℕ) → c < classes → f < fields c → (P.method c).field f ≡ (Q.method c).field f

start-same : (args : ℕ) (f g : ℕ → ℕ) (c : ℕ) (x y : Row) → ((j : ℕ) → j < args → f j ≡ g j) → start_rule args f c x y ≡ start_rule args g c x y
unfolding start_rule arguments_go argument_goes
start-same args f g c x y h = rw (all_same (argument_goes f x) (argument_goes g x) args (λ j l. rw (h j l)))

module _ (P Q : Program) (classes : ℕ) (fields : ℕ → ℕ) (a : Agree P Q classes fields) (vars code : ℕ) (row : ℕ → Row) (l : ℕ) where
  pub rule-same : (i : Instruction) → InstructionFits classes fields vars code l i → rule_of P vars row l i ≡ rule_of Q vars row l i
  rule-same Inc k = refl
  rule-same Pop k = refl
  rule-same Push0 k = refl
  rule-same (Load v) k = refl
  rule-same (Store v) k = refl
  rule-same (If t) k = refl
  rule-same (Enter v h) k = rw a.exception
  rule-same (Exit v) k = refl
  rule-same (New c h) k = rw a.exception
  rule-same (Start c) k = rw (a.args c k.0) (start-same (Q.method c).args (P.method c).descriptor (Q.method c).descriptor c (row l) (row (l + 1)) (λ j. a.descriptor c j k.0))
  rule-same (Throw h) k = rw a.exception
  rule-same Return k = refl
  rule-same (Get c f h) k = rw (a.exception, a.field c f k.0 k.1)
  rule-same (Put c f h) k = rw (a.exception, a.field c f k.0 k.1)
  rule-same Nothing k = refl

  pub need-same : (i : Instruction) (s : ℕ) → InstructionFits classes fields vars code l i → entry_need P vars row l i s ≡ entry_need Q vars row l i s
  unfolding entry_need
  need-same Inc s k = refl
  need-same Pop s k = refl
  need-same Push0 s k = refl
  need-same (Load v) s k = refl
  need-same (Store v) s k = refl
  need-same (If t) s k = refl
  need-same (Enter v h) s k = refl
  need-same (Exit v) s k = refl
  need-same (New c h) s k = refl
  need-same (Start c) s k = rw (a.args c k.0)
  need-same (Throw h) s k = refl
  need-same Return s k = refl
  need-same (Get c f h) s k = refl
  need-same (Put c f h) s k = refl
  need-same Nothing s k = refl
