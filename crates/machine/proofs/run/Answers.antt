use Rattle.std.proofs.Common.{rules}
use mathlib.Core.Path.{◌≡◌, refl, ◌∙◌}
use lib.ListN.{length}
use Rattle.bundle.specs.Program.{program_of}
use Rattle.threads.proofs.Places.{length-mapped}
use Rattle.machine.proofs.Ready.{runs}
use Rattle.machine.proofs.Uncounted.{uncounted}
use Rattle.machine.proofs.run.Goals as goal

pub returns-in-Err : goal.returns-in-Err
returns-in-Err c = runs _ c.args.s _ _ (search (rules, length-mapped, c.well_formed)) c.requires _ (rw c.in-Err.is at (c.turn_of.ensures c.args.s refl refl refl))

pub returns-in-Alone : goal.returns-in-Alone
returns-in-Alone c = runs _ c.args.s _ _ (search (rules, length-mapped, c.well_formed)) c.requires _ (rw (c.in-Ok.is, c.in-Alone.is) at (c.turn_of.ensures c.args.s refl refl refl))

pub returns-then-k-lt256 : goal.returns-then-k-lt256
returns-then-k-lt256 c = rw c.mark.ensures (runs _ c.args.s _ _ (search (rules, length-mapped, c.well_formed)) c.requires _ (rw (c.in-Ok.is, c.in-Count.is) at (c.turn_of.ensures c.args.s refl refl refl)))

pub returns-in-Count : goal.returns-in-Count
returns-in-Count c =
    let s = c.args.s in
    let l : length s.counts ≡ 256 = search (rules, c.well_formed) in
    let w : length s.held ≡ 8 = search (rules, c.well_formed) in
    runs _ c.args.s _ _ (search (rules, length-mapped, c.well_formed)) c.requires _ (uncounted s _ _ _ _ _ l w (rw (c.in-Ok.is, c.in-Count.is) at (c.turn_of.ensures c.args.s refl refl refl)) c.if-k-lt256.false)

pub returns-in-Object : goal.returns-in-Object
unfolding program_of
returns-in-Object c = rw (c.put_thread.ensures, c.add_object.ensures, c.first_fields-first.ensures) (runs _ c.args.s _ _ (search (rules, length-mapped, c.well_formed)) c.requires _ (rw (c.in-Ok.is, c.in-Object.is) at (c.turn_of.ensures c.args.s refl refl refl)))

pub returns-in-Field : goal.returns-in-Field
returns-in-Field c = rw (c.put_thread-in-Field.ensures, c.put_field.ensures) (runs _ c.args.s _ _ (search (rules, length-mapped, c.well_formed)) c.requires _ (rw (c.in-Ok.is, c.in-Field.is) at (c.turn_of.ensures c.args.s refl refl refl)))

pub returns-in-Top : goal.returns-in-Top
returns-in-Top c = rw (c.set_top.ensures, c.field.ensures) (runs _ c.args.s _ _ (search (rules, length-mapped, c.well_formed)) c.requires _ (rw (c.in-Ok.is, c.in-Top.is) at (c.turn_of.ensures c.args.s refl refl refl)))

pub returns-in-Begin : goal.returns-in-Begin
returns-in-Begin c = runs _ c.args.s _ _ (search (rules, length-mapped, c.well_formed)) c.requires _ (c.begun.ensures (c.lowest_free-lowest.ensures c.args.s refl) ∙ (rw (c.in-Ok.is, c.in-Begin.is) at (c.turn_of.ensures c.args.s refl refl refl)))
