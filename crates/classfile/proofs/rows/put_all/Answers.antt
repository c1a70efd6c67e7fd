use Rattle.classfile.proofs.Laid.{wrote-start, wrote-here, wrote-room, wrote-length, wrote-turn, wrote-end}
use Rattle.classfile.specs.Taking.{bytes_taken}
use Rattle.classfile.proofs.rows.put_all.Goals as goal

pub loop-x-init : goal.loop-x-init
loop-x-init c = wrote-start _ _ _ _ c.into_iter-x-iterator.ensures.into_iter_gives c.walk-x-items.ensures

pub put_rows-requires : goal.put_rows-requires
put_rows-requires c =
    let h = wrote-here _ _ _ c.loop-x.invariant c.in-Some.ensures.steps in (
      c.requires.0,
      h.0,
      h.1,
      wrote-room _ _ _ c.loop-x.invariant c.in-Some.ensures.steps c.requires.0.count,
      rw (wrote-length _ _ _ c.loop-x.invariant c.requires.0.count c.requires.1) c.requires.1,
    )

pub loop-x-preserved : goal.loop-x-preserved
loop-x-preserved c = wrote-turn _ _ _ c.loop-x.invariant c.in-Some.ensures.steps c.put_rows.ensures c.gives-k.ensures

pub returns : goal.returns
unfolding bytes_taken
returns c = wrote-end _ _ _ c.loop-x.invariant c.in-None.ensures.steps
