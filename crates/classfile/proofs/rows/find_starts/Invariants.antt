use Rattle.std.proofs.Common.{◌≡◌, length}
use Rattle.offsets.proofs.Turns.{Counted}
use Rattle.classfile.specs.Starts.{Starts}
use Rattle.classfile.proofs.rows.find_starts.Given as goal

abbrev pub invariant-loop-x : goal.invariant-loop-x
invariant-loop-x l = Counted l.code l.x-iterator l.k × Starts l.code l.starts l.k × (length l.starts ≡ length l.initial.starts)
