use Rattle.std.proofs.Common.{rules}
use mathlib.Core.Path.{sym}
use Rattle.instructions.specs.Table.{table, find, line_of}
use Rattle.instructions.proofs.Table.{NoneOf, ending, not-ending}
use Rattle.instructions.proofs.ends_code.Goals as goal

pub returns-in-11 : goal.returns-in-11
unfolding line_of find table
returns-in-11 c = rw c.in-11.is

pub returns-in-12 : goal.returns-in-12
unfolding line_of find table
returns-in-12 c = rw c.in-12.is

pub returns-in_default : goal.returns-in_default
unfolding NoneOf ending table
returns-in_default c = sym (not-ending _ (search rules))
