use Rattle.std.proofs.Common.{◌≡◌, ℕ, sym, ap, ◌∙◌, arith}
use Rattle.ground.specs.Bounded.{all_below}
use Rattle.ground.proofs.Bools.{and-snd}
use Rattle.ground.proofs.Bounded.{all-zero}
use Rattle.forms.specs.Columns.{place_formed, column_formed}
use Rattle.forms.proofs.Columns.{top-type, column-more}
use Rattle.forms.proofs.column_formed.Goals as goal

pub loop-l-init : goal.loop-l-init
loop-l-init c = (sym (all-zero _), λ e. top-type _)

pub loop-l-preserved : goal.loop-l-preserved
loop-l-preserved c =
    let m = c.args.m.now in
    let turn = c.loop-l in
    let told = c.still_formed-formed.ensures in (
      column-more m.classes m.class m.bytes.now c.args.i turn.l turn.formed _ _ _ turn.invariant.0 told c.variable_word-w.ensures.1 c.next_start.ensures,
      λ e. and-snd turn.formed _ (sym told ∙ e),
    )

pub returns : goal.returns
unfolding column_formed
returns c =
    let m = c.args.m.now in
    let end : c.loop-l.l ≡ m.class.code = omega arith in
    c.loop-l.invariant.0 ∙ ap (λ (j : ℕ). all_below j (place_formed m.classes m.class m.bytes.now c.args.i)) end
