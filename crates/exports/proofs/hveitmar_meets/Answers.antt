use mathlib.Core.Path.{ap, ◌∙◌}
use Rattle.history.specs.Meeting.{met_of}
use Rattle.exports.specs.declared.Running.{Running}
use Rattle.exports.specs.Exports.{packed_met}
use Rattle.exports.proofs.hveitmar_meets.Goals as goal

pub returns : goal.returns
returns c =
    c.pack_met.ensures ∙ ap packed_met (c.meets.ensures ∙ ap (λ (r : Running). met_of c.args.b.now r.state c.args.thread) c.ran.ensures)
