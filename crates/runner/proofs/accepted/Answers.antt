use Rattle.runner.proofs.Halfway.{exception-8, number-0, begins, goes_on, arrives, ran-accepted}
use Rattle.runner.proofs.accepted.Goals.{then-is_taken, else-is_taken}
use native.Mathlib.Omega.{arith}
use Rattle.runner.proofs.accepted.Goals as goal

pub bounds-table-c : goal.bounds-table-c
bounds-table-c c = rw c.exception-c.ensures (exception-8 c.args.b.now (number-0 _ _ c.requires))

pub loop-x-init : goal.loop-x-init
loop-x-init c = begins _ (number-0 _ _ c.requires) _ _ c.table_of-table.ensures _ _ c.exception-c.ensures _ _ (rw c.new.ensures at c.add.ensures) c.begin.ensures

pub loop-x-preserved : goal.loop-x-preserved
loop-x-preserved c =
    goes_on _ _ _ _ _ _ c.loop-x.invariant c.loop-x-test.true _ _ _ c.turn.ensures
    (elim c.if-is_taken.branch [ then-is_taken w ↦ rw (← c.is_taken.ensures, w.if-is_taken.true) w.steps-is | else-is_taken w ↦ rw (← c.is_taken.ensures, w.if-is_taken.false) (omega arith) ])

pub returns : goal.returns
returns c =
    let h = arrives _ _ _ _ _ _ c.loop-x.invariant (omega arith) in
    rw (c.state.ensures, h.0, h.1) (ran-accepted _ _ _ c.requires)
