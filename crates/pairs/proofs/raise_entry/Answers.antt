use Prim.Native.Nat.{◌+◌}
use mathlib.Core.Path.{refl}
use Rattle.std.proofs.Common.{rules}
use Rattle.passes.specs.Passes.{still}
use Rattle.passes.proofs.Halves.{is-absent}
use Rattle.passes.proofs.Raises.{entry-raised}
use Rattle.pairs.proofs.raise_entry.Goals as goal

pub returns-then-not-is_reference : goal.returns-then-not-is_reference
returns-then-not-is_reference c = λ j. entry-raised _ j _ _ _ _ _ (c.args.k.class.offset + c.place_in.result) (rw c.place_in.ensures.0) _ refl (search rules) _ _ (still (λ h e. absurd (is-absent _ _ _ _ c.is_reference.ensures c.if-not-is_reference.true h e)))

pub returns : goal.returns
returns c = λ j. entry-raised _ j _ _ _ _ _ _ (rw c.place_in.ensures.0) _ (rw (c.record.ensures.count, c.record.ensures.numbers, c.record.ensures.bytes) at c.entry_need-q.ensures) (search rules) _ _ c.raise.ensures
