use Rattle.std.proofs.Common.{rules, Err, ◌≡◌, refl, sym, ap, ◌∙◌}
use Rattle.classfile.specs.Taking.{Taken}
use Rattle.classfile.proofs.Order.{refused-30, roomy, took_it, refused-it, has-number}
use Rattle.classfile.proofs.take.Goals as goal

pub returns-then-not-whole-clause-value : goal.returns-then-not-whole-clause-value
returns-then-not-whole-clause-value c =
    (refused-30 c.args.attribute.now c.args.classes.now c.args.out.now refl (sym c.whole.ensures ∙ c.if-not-whole.true)).0

pub returns-then-not-whole-clause-out_after : goal.returns-then-not-whole-clause-out_after
returns-then-not-whole-clause-out_after c =
    (refused-30 c.args.attribute.now c.args.classes.now c.args.out.now refl (sym c.whole.ensures ∙ c.if-not-whole.true)).1

pub returns-in_err-count-clause-value : goal.returns-in_err-count-clause-value
returns-in_err-count-clause-value c =
    let e : c.from_residual.result ≡ Err c.in_err-count.field-0.0 = search rules in
    rw e (refused-it c.args.attribute.now c.args.classes.now c.args.out.now (sym c.whole.ensures ∙ c.if-not-whole.false) c.code_of-code.ensures.0 c.table_of-table.ensures c.in_err-count.ensures (has-number _)).0

pub returns-in_err-count-clause-out_after : goal.returns-in_err-count-clause-out_after
returns-in_err-count-clause-out_after c =
    (refused-it c.args.attribute.now c.args.classes.now c.args.out.now (sym c.whole.ensures ∙ c.if-not-whole.false) c.code_of-code.ensures.0 c.table_of-table.ensures c.in_err-count.ensures (has-number _)).1

pub write-requires : goal.write-requires
write-requires c = roomy _ _ _ _ (sym (ap (λ (r : Taken). r.number) c.in_ok-count.ensures))

pub returns-clause-value : goal.returns-clause-value
returns-clause-value c =
    (took_it c.args.attribute.now c.args.classes.now c.args.out.now (sym c.whole.ensures ∙ c.if-not-whole.false) c.code_of-code.ensures.0 c.table_of-table.ensures c.in_ok-count.ensures refl c.write.ensures).0

pub returns-clause-out_after : goal.returns-clause-out_after
returns-clause-out_after c =
    (took_it c.args.attribute.now c.args.classes.now c.args.out.now (sym c.whole.ensures ∙ c.if-not-whole.false) c.code_of-code.ensures.0 c.table_of-table.ensures c.in_ok-count.ensures refl c.write.ensures).1
