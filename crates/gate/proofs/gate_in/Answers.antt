use mathlib.Core.Path.{sym}
use lib.Seq.{length-take-le}
use Rattle.std.proofs.lemmas.Result.{err_from_is_err_and}
use Rattle.laying.specs.Given.{given_of}
use Rattle.gate.proofs.Answers.{gate-unlaid, gate-refused, gate-short, gate-written, short-enough, in-b, filled-long, filled-room, filled-first}
use Rattle.gate.proofs.gate_in.Goals as goal

pub returns-in_err-n-clause-gate : goal.returns-in_err-n-clause-gate
returns-in_err-n-clause-gate c =
    let p = err_from_is_err_and c.from_residual.result c.from_residual.ensures.1 in
    rw (p.1, p.2) (gate-unlaid _ _ c.args.b.now c.requires _ c.in_err-n.ensures.answer c.in_err-n.ensures.bare)

pub slice_bounds-fill-end : goal.slice_bounds-fill-end
slice_bounds-fill-end c = in-b (given_of c.args.parts.now) c.args.out.now c.args.b.now c.requires c.in_ok-n.n c.in_ok-n.ensures.answer c.lay.new.out c.lay.auto.out

pub slice_bounds-fill-end-2 : goal.slice_bounds-fill-end-2
slice_bounds-fill-end-2 c = sym (length-take-le _ _ (in-b (given_of c.args.parts.now) c.args.out.now c.args.b.now c.requires c.in_ok-n.n c.in_ok-n.ensures.answer c.lay.new.out c.lay.auto.out))

pub returns-in_err-classes-clause-gate : goal.returns-in_err-classes-clause-gate
returns-in_err-classes-clause-gate c =
    let p = err_from_is_err_and c.from_residual-in_err-classes.result c.from_residual-in_err-classes.ensures.1 in
    rw (p.1, p.2) (gate-refused _ _ c.args.b.now c.requires _ c.in_ok-n.ensures.answer _ c.in_ok-n.ensures.left _ _ c.in_err-classes.ensures)

pub slice_bounds-put-end : goal.slice_bounds-put-end
slice_bounds-put-end c = filled-room _ _ _ (in-b (given_of c.args.parts.now) c.args.out.now c.args.b.now c.requires c.in_ok-n.n c.in_ok-n.ensures.answer c.lay.new.out c.lay.auto.out) c.fill.auto.b

pub slice_bounds-put-end-2 : goal.slice_bounds-put-end-2
slice_bounds-put-end-2 c = sym (length-take-le _ _ (filled-room _ _ _ (in-b (given_of c.args.parts.now) c.args.out.now c.args.b.now c.requires c.in_ok-n.n c.in_ok-n.ensures.answer c.lay.new.out c.lay.auto.out) c.fill.auto.b))

pub returns-then-not-put-clause-gate : goal.returns-then-not-put-clause-gate
returns-then-not-put-clause-gate c =
    let l = in-b (given_of c.args.parts.now) c.args.out.now c.args.b.now c.requires c.in_ok-n.n c.in_ok-n.ensures.answer c.lay.new.out c.lay.auto.out in
    gate-short _ _ c.args.b.now c.requires _ c.in_ok-n.ensures.answer _ c.in_ok-n.ensures.left _ _ c.in_ok-classes.ensures _ (filled-first _ _ _ l c.fill.auto.b) _ _ c.put.ensures.0 c.put.ensures.1 c.if-not-put.true

pub returns-clause-gate : goal.returns-clause-gate
returns-clause-gate c =
    let l = in-b (given_of c.args.parts.now) c.args.out.now c.args.b.now c.requires c.in_ok-n.n c.in_ok-n.ensures.answer c.lay.new.out c.lay.auto.out in
    gate-written _ _ c.args.b.now c.requires _ c.in_ok-n.ensures.answer _ c.in_ok-n.ensures.left _ _ c.in_ok-classes.ensures _ (filled-first _ _ _ l c.fill.auto.b) _ _ c.put.ensures.0 c.put.ensures.1 (filled-long _ _ _ l c.fill.auto.b) c.if-not-put.false

pub returns-clause-short : goal.returns-clause-short
returns-clause-short c = short-enough (given_of c.args.parts.now) c.args.out.now c.args.b.now c.requires c.in_ok-n.n c.in_ok-n.ensures.answer
