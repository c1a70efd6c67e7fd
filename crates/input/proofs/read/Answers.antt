-- One more read: what it put after the bytes that came before is what the reader lost by it.
use Rattle.std.proofs.Common.{◌∙◌, sym, ap, subst, ◌++◌, take, drop}
use Rattle.std.proofs.Math.Seq.{take-add}
use Rattle.std.proofs.KnownBytes.{Consumes-trans}
use Rattle.std.specs.Io.KnownBytes.{Consumes}
use Rattle.input.proofs.read.Goals as goal

pub loop-done-preserved : goal.loop-done-preserved
loop-done-preserved g c =
    let buf = c.read_more.new.buf in
    let more = take c.in-Ok.n (drop c.loop-done.done buf) in
    let joined = take-add c.loop-done.done c.in-Ok.n buf ∙ ap (λ l. l ++ more) c.read_more.ensures.front in
    (c.in-Ok.ensures.within, subst (Consumes _ _) (sym joined) (Consumes-trans _ _ _ _ _ c.loop-done.invariant.1 c.in-Ok.ensures.ok))
