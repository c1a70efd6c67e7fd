-- Document 02, Q-5: what `Needs` asks of pairs is exactly what the rules ask of them.
use Rattle.std.specs.Prelude.{◌≡◌, true, ℕ, ◌≤◌, ◌<◌}
use Rattle.instructions.specs.declared.Code.{Code}
use Rattle.instructions.specs.declared.Instruction.{Instruction}
use Rattle.instructions.specs.Table.{decoded, instruction_ok}
use Rattle.bundle.specs.Program.{Program}
use Rattle.entries.specs.Entries.{Entry, Ref, dip_of, end_of}
use Rattle.rows.specs.Rows.{Row}
use Rattle.rules.specs.Rule.{rule_holds}
use Rattle.rules.specs.Rules.{rule_of}
use Rattle.needs.specs.declared.Pair.{Pair}
use Rattle.needs.specs.Needs.{var_need, stack_need}

-- two entries that differ in their pairs only, the first's no larger
pub data Under : Entry → Entry → Type 0 where
  same : {x : Entry} → Under x x
  less : {c d e d' e' : ℕ} → d ≤ d' → e ≤ e' → Under (Ref c d e) (Ref c d' e')

-- two such rows: one depth, and each entry in use is under the other row's
pub record UnderRow (vars : ℕ) (x y : Row) : Type 0 where
  pub depth : x.depth ≡ y.depth
  pub variable : (i : ℕ) → i < vars → Under (x.variable i) (y.variable i)
  pub stack : (j : ℕ) → j < x.depth → Under (x.stack j) (y.stack j)

-- x has at least the pair p
pub record Has (p : Pair) (x : Entry) : Type 0 where
  pub dip : p.dip ≤ dip_of x
  pub end : p.end ≤ end_of x

-- the row x has what is asked of each entry in use
pub record AllHave (vars depth : ℕ) (of_var of_stack : ℕ → Pair) (x : Row) : Type 0 where
  pub variable : (i : ℕ) → i < vars → Has (of_var i) (x.variable i)
  pub stack : (j : ℕ) → j < depth → Has (of_stack j) (x.stack j)

-- .. what the instruction i at address l asks of row l, as the rows `cur` have those that follow
abbrev pub Met : Program → ℕ → (ℕ → Row) → ℕ → Instruction → Row → Type 0
Met P vars cur l i x = AllHave vars (cur l).depth (var_need cur l i) (stack_need P cur l i) x

-- of the rows `cur`, under the rows `acc` of which the rule at address l holds
pub record Exactly (P : Program) (vars : ℕ) (cur acc : ℕ → Row) (l : ℕ) (i : Instruction) : Type 0 where
  -- row l above has what is asked below
  pub above : Met P vars cur l i (acc l)
  -- the rule holds below exactly where row l has it there too: nothing else can fail
  pub has : rule_holds vars (rule_of P vars cur l i) ≡ true → Met P vars cur l i (cur l)
  pub holds : Met P vars cur l i (cur l) → rule_holds vars (rule_of P vars cur l i) ≡ true

-- for every instruction that keeps to the table, whatever the rows: `asks-exactly`
abbrev pub AsksExactly : Type 0
AsksExactly =
    (P : Program) (classes : ℕ) (fields : ℕ → ℕ) (vars code : ℕ) (cur acc : ℕ → Row) (l : ℕ) (x : Code)
    → 1 ≤ l → l ≤ code → instruction_ok classes fields vars code l x ≡ true → ((m : ℕ) → 1 ≤ m → m ≤ code → UnderRow vars (cur m) (acc m))
    → rule_holds vars (rule_of P vars acc l (decoded x)) ≡ true → Exactly P vars cur acc l (decoded x)
