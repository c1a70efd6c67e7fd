use Rattle.exports.proofs.hveitmar_digest.Goals as goal

pub returns : goal.returns
returns c = rw c.ran.ensures
