use mathlib.Core.Logic.{inl, inr}
use mathlib.Core.Path.{◌≡◌}
use Prim.Native.Nat.{ℕ, max}
use native.Mathlib.Omega.{arith}
use Rattle.std.proofs.lemmas.Bool.Decides.{nat_tests}
use Rattle.needs.specs.Needs.{greater}
use Rattle.passes.specs.Passes.{still, over, raised, raised_to}
use Rattle.passes.proofs.Halves.{has_both, lacks-one}
use Rattle.pairs.proofs.raise.Goals as goal
use Rattle.pairs.proofs.raise.Goals.{then-q-gt63-via-then-q-gt63, then-q-gt63-via-else-q-gt63+then-q-gt127}

max-greater : (a b : ℕ) → max a b ≡ greater a b
unfolding greater
max-greater a b = grind (arith, nat_tests)

pub returns-then-q-gt63 : goal.returns-then-q-gt63
returns-then-q-gt63 c = over c.requires.0 c.requires.1 (elim c.then-q-gt63.branch [ then-q-gt63-via-then-q-gt63 w ↦ inl w.if-q-gt63.true | then-q-gt63-via-else-q-gt63+then-q-gt127 w ↦ inr w.if-q-gt127.true ])

pub returns-then-has : goal.returns-then-has
returns-then-has c = still (λ h e. has_both _ _ _ _ _ c.has.ensures c.if-has.true)

pub returns : goal.returns
unfolding raised_to
returns c = simp (c.max.ensures, c.max-2.ensures, max-greater) (raised c.requires.0 c.requires.1 (omega arith) (omega arith) (lacks-one _ _ _ _ _ c.has.ensures c.if-has.false))
