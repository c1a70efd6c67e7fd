use Rattle.std.proofs.Common.{rules}
use mathlib.Core.Path.{◌≡◌}
use lib.ListN.{length}
use Rattle.values.specs.Values.{zero_slot}
use Rattle.state_written.proofs.Writing.{thread-written}
use Rattle.state_written.proofs.laid.ThreadLaid.put.Goals as goal

pub returns : goal.returns
returns c =
    let v : length c.args.self.now.vars ≡ 16 = search rules in
    let s : length c.args.self.now.stack ≡ 16 = search rules in
    rw (c.put_all-2.ensures zero_slot, c.put_all.ensures zero_slot, c.put.ensures, c.live_byte.ensures, v, s) (thread-written _ _ _)
