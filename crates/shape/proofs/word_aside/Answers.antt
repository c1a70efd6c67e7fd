use Rattle.std.proofs.Common.{arith}
use Rattle.shape.proofs.Entries.{entry-aside}
use Rattle.shape.proofs.word_aside.Goals as goal

pub returns : goal.returns
returns c n = rw (c.aside.ensures, c.quad.ensures) (entry-aside n c.args.r.now (λ i. omega (arith, c.type_inv.r i)) c.args.s)
