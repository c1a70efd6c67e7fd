-- The C call that works the pairs out: its number and what it leaves are one result.
use mathlib.Core.Path.{sym, ap, ◌∙◌}
use Rattle.pairs.proofs.Works.{one_answer}
use Rattle.exports.specs.Filling.{packed_filled, OneFilling}

-- THEOREM: two results of one bundle, with what they leave in it, are equal
pub one-filling : OneFilling
one-filling b r s x y f g =
    let e = one_answer b f.verdict g.verdict x y f.answer g.answer in
    (f.number ∙ ap packed_filled e.0 ∙ sym g.number, e.1)
