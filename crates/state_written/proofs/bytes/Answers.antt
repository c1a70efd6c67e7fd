use Rattle.std.proofs.Common.{rules}
use mathlib.Core.Path.{◌≡◌}
use Prim.Native.Nat.{ℕ}
use lib.ListN.{length, replicate, length-replicate}
use Rattle.values.specs.Values.{zero_slot}
use Rattle.threads.specs.Threads.{idle}
use Rattle.state_written.proofs.Writing.{state-written}
use Rattle.state_written.proofs.bytes.Goals as goal

pub returns : goal.returns
returns c =
    let s = c.args.s in
    let t : length s.threads ≡ 8 = search rules in
    let n : length s.counts ≡ 256 = search rules in
    let k : length s.classes ≡ 32 = search rules in
    let f : length s.fields ≡ 128 = search rules in
    let h : length s.held ≡ 8 = search rules in
    rw (c.put_all-5.ensures 0, c.put_all-4.ensures zero_slot, c.put_all-3.ensures 0, c.put.ensures, c.put_all-2.ensures 0, c.put_all.ensures idle, t, n, k, f, h)
    (state-written s (replicate 2537 0) (length-replicate {A = ℕ} 2537 0))
