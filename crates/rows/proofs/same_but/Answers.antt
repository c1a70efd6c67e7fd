use borrow.Author.Tests.{ne_eqb}
use mathlib.Core.Bool.{true, false}
use mathlib.Core.Path.{sym, ◌∙◌}
use native.Mathlib.Omega.{arith}
use Rattle.ground.proofs.Bounded.{all-zero, all_more, all_left, all_done}
use Rattle.rows.proofs.Same.{same-short, same_out, same_in, same_turn, same-there, same-variables}
use Rattle.rows.proofs.same_but.Goals as goal

pub returns-then-r-size-clause-words : goal.returns-then-r-size-clause-words
returns-then-r-size-clause-words c = same-short _ _ _ _ _ c.if-r-size.true

pub returns-then-last-p-clause-words : goal.returns-then-last-p-clause-words
returns-then-last-p-clause-words c = same_out _ _ _ _ _ c.if-last-p.true

pub loop-i-init : goal.loop-i-init
loop-i-init c =
    let a = c.args in
    let b = same_in a.r.now a.p a.q a.n a.v c.if-r-size.false c.if-last-p.false in (b.0, b.1, all-zero _)

pub returns-then-i-v-clause-words : goal.returns-then-i-v-clause-words
returns-then-i-v-clause-words c =
    let a = c.args in
    let turn = c.loop-i in
    all_left _ a.n turn.i c.loop-i-test.true (same_turn a.r.now a.p a.q a.n a.v turn.i _ _ c.word_within.ensures c.word_within-in-loop-i.ensures true c.if-i-v.true)
    ∙ same-there _ _ _ _ _ turn.invariant.0 turn.invariant.1

pub loop-i-preserved : goal.loop-i-preserved
loop-i-preserved c =
    let a = c.args in
    let turn = c.loop-i in (
      turn.invariant.0,
      turn.invariant.1,
      all_more _ turn.i turn.invariant.2 (same_turn a.r.now a.p a.q a.n a.v turn.i _ _ c.word_within.ensures c.word_within-in-loop-i.ensures false c.if-i-v.false),
    )

pub returns-clause-words : goal.returns-clause-words
returns-clause-words c =
    let end = c.loop-i in
    all_done _ _ end.i (omega arith) c.loop-i-test.false end.invariant.2 ∙ same-there _ _ _ _ _ end.invariant.0 end.invariant.1

pub returns-clause-entries : goal.returns-clause-entries
returns-clause-entries c e k i l d = same-variables k _ (λ j. omega (arith, c.type_inv.r j)) _ _ _ _ (sym (returns-clause-words c)) i l (ne_eqb _ _ d)
