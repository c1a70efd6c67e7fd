use Rattle.std.proofs.Common.{rules}
use Rattle.std.proofs.lemmas.Iterator.{YieldsList-from_slice}
use Rattle.std.proofs.lemmas.Iterator.Search.{position_from_yields_List}
use Rattle.memory.specs.declared.Frame.{Frame}
use Rattle.memory.specs.Frames.{live_in}
use mathlib.Core.Bool.{not}
use native.Mathlib.Omega.{arith}
use Rattle.runner.proofs.Lowest.{lowest-found}
use Rattle.runner.proofs.starts.lowest.Goals as goal

pub returns-clause-place : goal.returns-clause-place
returns-clause-place c =
    let e = position_from_yields_List (λ (p : Frame). not (live_in p)) _ _ c.position.result c.position.ensures.ran (YieldsList-from_slice c.args.frames.now c.iter.ensures.rest) (λ x b q k. search rules) in
    rw e (lowest-found _ (omega arith))
