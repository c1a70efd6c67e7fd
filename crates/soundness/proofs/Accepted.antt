-- What an accepted bundle gives to soundness: facts of its typed program, by class and address. Only `Verified` and `Demand3` see the bytes.
use mathlib.Core.Path.{◌≡◌}
use mathlib.Core.Bool.{true}
use Prim.Native.Nat.{ℕ, ◌≤◌, ◌<◌}
use Rattle.bundle.specs.Program.{Address}
use Rattle.structure.proofs.Structured.{WellFormed}
use Rattle.entries.specs.Entries.{Top, end_of, is_type, argument_entry}
use Rattle.entries.specs.Fits.{entry_fits}
use Rattle.rows.specs.Typed.{Typed}
use Rattle.rules.specs.Rule.{rule_holds}
use Rattle.rules.specs.Rules.{rule_at}

pub record Accepted (P : Typed) : Type 0 where
  pub formed : WellFormed P.program
  pub depth_limit : (c l : ℕ) → Address P.program c l → (P.row c l).depth ≤ (P.program.method c).limit
  pub variable_type : (c l i : ℕ) → Address P.program c l → i < (P.program.method c).vars → is_type ((P.row c l).variable i) ≡ true
  pub stack_type : (c l j : ℕ) → Address P.program c l → j < (P.row c l).depth → is_type ((P.row c l).stack j) ≡ true
  -- an end is at least -63
  pub variable_end : (c l i : ℕ) → 1 ≤ end_of ((P.row c l).variable i)
  pub stack_end : (c l j : ℕ) → 1 ≤ end_of ((P.row c l).stack j)
  pub first_depth : (c : ℕ) → c < P.program.classes → (P.row c 1).depth ≡ 0
  pub first_argument : (c i : ℕ) → c < P.program.classes → i < (P.program.method c).args
      → entry_fits (argument_entry ((P.program.method c).descriptor i)) ((P.row c 1).variable i) ≡ true
  pub first_other : (c i : ℕ) → c < P.program.classes → (P.program.method c).args ≤ i → i < (P.program.method c).vars → (P.row c 1).variable i ≡ Top
  pub rule : (c l : ℕ) → Address P.program c l → rule_holds (P.program.method c).vars (rule_at P c l) ≡ true
