use mathlib.Core.Path.{sym, ◌∙◌}
use Rattle.ground.proofs.Bools.{and-fst, and-snd}
use Rattle.matching.proofs.Same.{same-others}
use Rattle.matching.proofs.Scans.{ok_fits}
use Rattle.matching.proofs.others_pass.Goals as goal

pub returns-then-is_ok-others_same : goal.returns-then-is_ok-others_same
returns-then-is_ok-others_same c =
    let both = c.if-is_ok-others_same.true in
    let ok = c.is_ok in
    same-others _ _ _ _ _ (ok_fits _ (sym ok.ensures.value ∙ and-fst ok.result _ both)) (c.others_same.ensures.entries (and-snd ok.result _ both))
