use Rattle.std.proofs.Common.{rules}
use Rattle.java.specs.Opcodes.{short, java_of}
use Rattle.java.proofs.Opcodes.{not_short}
use borrow.Author.Tests.{ne_eqb}
use Rattle.java.proofs.java_of.Goals as goal

pub returns-in-0 : goal.returns-in-0
unfolding java_of short
returns-in-0 c = rw c.in-0.is

pub returns-in-87 : goal.returns-in-87
unfolding java_of short
returns-in-87 c = rw c.in-87.is

pub returns-in-3 : goal.returns-in-3
unfolding java_of short
returns-in-3 c = rw c.in-3.is

pub returns-in-21 : goal.returns-in-21
unfolding java_of short
returns-in-21 c = rw c.in-21.is

pub returns-in-26 : goal.returns-in-26
unfolding java_of short
returns-in-26 c = rw c.in-26.is

pub returns-in-27 : goal.returns-in-27
unfolding java_of short
returns-in-27 c = rw c.in-27.is

pub returns-in-28 : goal.returns-in-28
unfolding java_of short
returns-in-28 c = rw c.in-28.is

pub returns-in-29 : goal.returns-in-29
unfolding java_of short
returns-in-29 c = rw c.in-29.is

pub returns-in-25 : goal.returns-in-25
unfolding java_of short
returns-in-25 c = rw c.in-25.is c.aload.ensures

pub returns-in-42 : goal.returns-in-42
unfolding java_of short
returns-in-42 c = rw c.in-42.is c.aload-in-42.ensures

pub returns-in-43 : goal.returns-in-43
unfolding java_of short
returns-in-43 c = rw c.in-43.is c.aload-in-43.ensures

pub returns-in-44 : goal.returns-in-44
unfolding java_of short
returns-in-44 c = rw c.in-44.is c.aload-in-44.ensures

pub returns-in-45 : goal.returns-in-45
unfolding java_of short
returns-in-45 c = rw c.in-45.is c.aload-in-45.ensures

pub returns-in-54 : goal.returns-in-54
unfolding java_of short
returns-in-54 c = rw c.in-54.is

pub returns-in-59 : goal.returns-in-59
unfolding java_of short
returns-in-59 c = rw c.in-59.is

pub returns-in-60 : goal.returns-in-60
unfolding java_of short
returns-in-60 c = rw c.in-60.is

pub returns-in-61 : goal.returns-in-61
unfolding java_of short
returns-in-61 c = rw c.in-61.is

pub returns-in-62 : goal.returns-in-62
unfolding java_of short
returns-in-62 c = rw c.in-62.is

pub returns-in-58 : goal.returns-in-58
unfolding java_of short
returns-in-58 c = rw c.in-58.is

pub returns-in-75 : goal.returns-in-75
unfolding java_of short
returns-in-75 c = rw c.in-75.is

pub returns-in-76 : goal.returns-in-76
unfolding java_of short
returns-in-76 c = rw c.in-76.is

pub returns-in-77 : goal.returns-in-77
unfolding java_of short
returns-in-77 c = rw c.in-77.is

pub returns-in-78 : goal.returns-in-78
unfolding java_of short
returns-in-78 c = rw c.in-78.is

pub returns-in-154 : goal.returns-in-154
unfolding java_of short
returns-in-154 c = rw (c.in-154.is, c.join.ensures)

pub returns-in-187 : goal.returns-in-187
unfolding java_of short
returns-in-187 c = rw (c.in-187.is, c.join-in-187.ensures)

pub returns-in-191 : goal.returns-in-191
unfolding java_of short
returns-in-191 c = rw c.in-191.is

pub returns-in-177 : goal.returns-in-177
unfolding java_of short
returns-in-177 c = rw c.in-177.is

pub returns-in-132 : goal.returns-in-132
unfolding java_of short
returns-in-132 c = rw c.in-132.is c.iinc.ensures

pub returns-in_default : goal.returns-in_default
unfolding java_of
returns-in_default c =
    let op = c.args.op in
    rw (
      ne_eqb op 0 (search rules),
      ne_eqb op 87 (search rules),
      ne_eqb op 3 (search rules),
      ne_eqb op 21 (search rules),
      not_short 26 op (search rules) (search rules) (search rules) (search rules),
      ne_eqb op 25 (search rules),
      not_short 42 op (search rules) (search rules) (search rules) (search rules),
      ne_eqb op 54 (search rules),
      not_short 59 op (search rules) (search rules) (search rules) (search rules),
      ne_eqb op 58 (search rules),
      not_short 75 op (search rules) (search rules) (search rules) (search rules),
      ne_eqb op 154 (search rules),
      ne_eqb op 187 (search rules),
      ne_eqb op 191 (search rules),
      ne_eqb op 177 (search rules),
      ne_eqb op 132 (search rules),
    )
