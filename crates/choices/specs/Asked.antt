-- What the rules ask of the pair of one entry of a bundle b, where a choice x of b has the rows that follow. No promise speaks of it.
use Rattle.std.specs.Prelude.{List, ℕ, ◌+◌, ◌≤◌}
use Rattle.ground.specs.Bytes.{at}
use Rattle.bundle.specs.Container.{classes, class_at, part_of, instruction_at}
use Rattle.bundle.specs.Program.{program_of}
use Rattle.rows.specs.Rows.{row_at}
use Rattle.shape.specs.PairBytes.{place_of}
use Rattle.needs.specs.declared.Pair.{Pair}
use Rattle.needs.specs.Needs.{entry_need}

-- of entry s of row l of class c
unfoldable pub need_at : List ℕ → List ℕ → ℕ → ℕ → ℕ → Pair
need_at b x c l s =
    let k = class_at b c in
    entry_need (program_of b) k.vars (row_at (classes b) k (part_of x k)) l (instruction_at k (part_of b k) l) s

-- .. it has
pub record Enough (b x : List ℕ) (c l s : ℕ) : Type 0 where
  pub dip : (need_at b x c l s).dip ≤ at x (place_of b c l s + 2)
  pub end : (need_at b x c l s).end ≤ at x (place_of b c l s + 3)
