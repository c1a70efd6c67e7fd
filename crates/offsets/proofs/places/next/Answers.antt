use Rattle.offsets.proofs.Turns.{stands-turn, turn-fits}
use native.Mathlib.Omega.{arith}
use mathlib.Core.Path.{refl}
use Rattle.offsets.proofs.places.next.Goals as goal

pub overflow_add-result : goal.overflow_add-result
overflow_add-result c = omega (arith, turn-fits _ c.requires.0 c.requires.1 c.read_at-r.ensures.0 refl c.read_at-r.ensures.1)

pub overflow_add-result-2 : goal.overflow_add-result-2
overflow_add-result-2 c = omega (arith, turn-fits _ c.requires.0 c.requires.1 c.read_at-r.ensures.0 c.gives.ensures c.read_at-r.ensures.1)

pub returns : goal.returns
returns c = (
  stands-turn _ c.requires.0 c.requires.1 c.read_at-r.ensures.0 c.gives.ensures c.read_at-r.ensures.1,
  omega (arith, turn-fits _ c.requires.0 c.requires.1 c.read_at-r.ensures.0 c.gives.ensures c.read_at-r.ensures.1),
  rw c.read_at-r.ensures.1,
  rw (c.gives.ensures, c.read_at-r.ensures.0),
)
