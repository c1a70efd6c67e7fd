use mathlib.Core.Path.{◌≡◌, refl, sym, ap, ◌∙◌}
use mathlib.Core.Bool.{not}
use Rattle.ground.proofs.Chain.{stop, go}
use Rattle.bundle.proofs.Container.{fits-end}
use native.Mathlib.Omega.{arith}
use Rattle.bundle.specs.Container.{part_of, part_place}
use Rattle.bundle.proofs.part_of.Goals as goal

pub returns-then-not-record_fits : goal.returns-then-not-record_fits
unfolding part_of part_place
returns-then-not-record_fits c =
    let n = ap not c.if-not-record_fits.true in
    let e : 0 ≡ part_place c.args.b.now c.args.k = stop _ _ c.record_fits.ensures n in
    (stop _ _ c.record_fits.ensures n, (refl, omega (arith, e)))

pub slice_bounds-result-end-2 : goal.slice_bounds-result-end-2
slice_bounds-result-end-2 c = omega (arith, fits-end _ _ (sym c.record_fits.ensures ∙ c.if-not-record_fits.false))

pub returns : goal.returns
unfolding part_of part_place
returns c =
    let fits = c.record_fits.ensures in
    let n = ap not c.if-not-record_fits.false in
    let e : c.args.k.offset ≡ part_place c.args.b.now c.args.k = go _ fits n refl in
    (go _ fits n (rw c.size.ensures.0), (refl, omega (arith, e)))
