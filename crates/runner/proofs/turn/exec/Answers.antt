use Rattle.runner.proofs.Starting.{start-class, start-known, start-turned}
use Rattle.runner.proofs.Making.{new-known, new-turned, get-known, get-turned, put-known, put-turned}
use Rattle.runner.proofs.Entering.{enter-known, enter-turned, exit-known, exit-turned}
use Rattle.runner.proofs.Steps.{inc-turned, pop-turned, push0-turned, load-turned, store-turned, if-turned, throw-turned, return-turned, never-nothing}
use mathlib.Core.Path.{refl, sym, ◌∙◌}
use Rattle.runner.proofs.turn.exec.Goals as goal

pub enter-requires : goal.enter-requires
enter-requires c = rw c.stand-x.ensures.here (enter-known _ _ _ _ c.requires c.args.fails _ _ (sym c.stand-x.ensures.instruction ∙ c.in-Enter.is))

pub exit-requires : goal.exit-requires
exit-requires c = rw c.stand-x.ensures.here (exit-known _ _ _ _ c.requires c.args.fails _ (sym c.stand-x.ensures.instruction ∙ c.in-Exit.is))

pub new-requires : goal.new-requires
new-requires c = rw c.stand-x.ensures.here c.requires.thread_8

pub bounds-table-c : goal.bounds-table-c
bounds-table-c c = new-known _ _ _ _ c.requires c.args.fails _ _ (sym c.stand-x.ensures.instruction ∙ c.in-New.is)

pub bounds-table-c-in-Start : goal.bounds-table-c-in-Start
bounds-table-c-in-Start c = start-class _ _ _ _ c.requires c.args.fails _ (sym c.stand-x.ensures.instruction ∙ c.in-Start.is)

pub start-requires : goal.start-requires
start-requires c = rw c.stand-x.ensures.here (start-known _ _ _ _ c.requires c.args.fails _ (sym c.stand-x.ensures.instruction ∙ c.in-Start.is) _ _ refl)

pub get-requires : goal.get-requires
get-requires c = rw c.stand-x.ensures.here (c.requires.thread_8, get-known _ _ _ _ c.requires c.args.fails _ _ _ (sym c.stand-x.ensures.instruction ∙ c.in-Get.is))

pub put-requires : goal.put-requires
put-requires c = rw c.stand-x.ensures.here (c.requires.thread_8, put-known _ _ _ _ c.requires c.args.fails _ _ _ (sym c.stand-x.ensures.instruction ∙ c.in-Put.is))

pub returns-in-Inc : goal.returns-in-Inc
returns-in-Inc c = inc-turned _ _ _ _ c.requires _ (sym c.stand-x.ensures.instruction ∙ c.in-Inc.is) _ (rw c.stand-x.ensures.here at c.inc.ensures)

pub returns-in-Pop : goal.returns-in-Pop
returns-in-Pop c = pop-turned _ _ _ _ c.requires _ (sym c.stand-x.ensures.instruction ∙ c.in-Pop.is) _ (rw c.stand-x.ensures.here at c.pop.ensures)

pub returns-in-Push0 : goal.returns-in-Push0
returns-in-Push0 c = push0-turned _ _ _ _ c.requires _ (sym c.stand-x.ensures.instruction ∙ c.in-Push0.is) _ (rw c.stand-x.ensures.here at c.push.ensures)

pub returns-in-Load : goal.returns-in-Load
returns-in-Load c = load-turned _ _ _ _ c.requires _ _ (sym c.stand-x.ensures.instruction ∙ c.in-Load.is) _ (rw c.stand-x.ensures.here at c.load.ensures)

pub returns-in-Store : goal.returns-in-Store
returns-in-Store c = store-turned _ _ _ _ c.requires _ _ (sym c.stand-x.ensures.instruction ∙ c.in-Store.is) _ (rw c.stand-x.ensures.here at c.store.ensures)

pub returns-in-If : goal.returns-in-If
returns-in-If c = if-turned _ _ _ _ c.requires _ _ (sym c.stand-x.ensures.instruction ∙ c.in-If.is) _ (rw c.stand-x.ensures.here at c.branch-m.ensures)

pub returns-in-Enter : goal.returns-in-Enter
returns-in-Enter c = enter-turned _ _ _ _ c.requires _ _ _ (sym c.stand-x.ensures.instruction ∙ c.in-Enter.is) _ _ (rw c.stand-x.ensures.here at c.enter.ensures)

pub returns-in-Exit : goal.returns-in-Exit
returns-in-Exit c = exit-turned _ _ _ _ c.requires _ _ (sym c.stand-x.ensures.instruction ∙ c.in-Exit.is) _ (rw c.stand-x.ensures.here at c.exit.ensures)

pub returns-in-New : goal.returns-in-New
returns-in-New c = new-turned _ _ _ _ c.requires _ _ _ (sym c.stand-x.ensures.instruction ∙ c.in-New.is) _ _ _ (rw c.stand-x.ensures.here at c.new.ensures)

pub returns-in-Start : goal.returns-in-Start
returns-in-Start c = start-turned _ _ _ _ c.requires _ _ (sym c.stand-x.ensures.instruction ∙ c.in-Start.is) _ _ _ _ refl (rw c.stand-x.ensures.here at c.start.ensures)

pub returns-in-Throw : goal.returns-in-Throw
returns-in-Throw c = throw-turned _ _ _ _ c.requires _ _ (sym c.stand-x.ensures.instruction ∙ c.in-Throw.is) _ _ _ c.top-w.ensures (rw c.stand-x.ensures.here at c.throw.ensures)

pub returns-in-Return : goal.returns-in-Return
returns-in-Return c = return-turned _ _ _ _ c.requires _ (sym c.stand-x.ensures.instruction ∙ c.in-Return.is) _ (rw c.stand-x.ensures.here at c.end.ensures)

pub returns-in-Get : goal.returns-in-Get
returns-in-Get c = get-turned _ _ _ _ c.requires _ _ _ _ (sym c.stand-x.ensures.instruction ∙ c.in-Get.is) _ _ (rw c.stand-x.ensures.here at c.get.ensures)

pub returns-in-Put : goal.returns-in-Put
returns-in-Put c = put-turned _ _ _ _ c.requires _ _ _ _ (sym c.stand-x.ensures.instruction ∙ c.in-Put.is) _ _ (rw c.stand-x.ensures.here at c.put.ensures)

pub returns-in-Nothing : goal.returns-in-Nothing
returns-in-Nothing c = absurd (never-nothing _ _ _ _ c.requires c.args.fails (sym c.stand-x.ensures.instruction ∙ c.in-Nothing.is))
