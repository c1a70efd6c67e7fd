use Rattle.usage_text.proofs.Meaning.{end-small}
use Rattle.exports.proofs.texts.hveitmar_usage.Goals as goal

pub pack_usage-requires : goal.pack_usage-requires
pack_usage-requires c = rw c.usage.ensures (end-small c.args.text.now)
