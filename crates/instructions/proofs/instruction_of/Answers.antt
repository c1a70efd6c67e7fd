use Rattle.std.proofs.Common.{rules}
use mathlib.Core.Path.{sym}
use Rattle.instructions.specs.Table.{table, find, line_of}
use Rattle.instructions.proofs.Table.{NoneOf, no-instruction}
use Rattle.instructions.proofs.instruction_of.Goals as goal

pub returns-in-1 : goal.returns-in-1
unfolding line_of find table
returns-in-1 c = rw c.in-1.is

pub returns-in-2 : goal.returns-in-2
unfolding line_of find table
returns-in-2 c = rw c.in-2.is

pub returns-in-3 : goal.returns-in-3
unfolding line_of find table
returns-in-3 c = rw c.in-3.is

pub returns-in-4 : goal.returns-in-4
unfolding line_of find table
returns-in-4 c = rw c.in-4.is

pub returns-in-5 : goal.returns-in-5
unfolding line_of find table
returns-in-5 c = rw c.in-5.is

pub returns-in-6 : goal.returns-in-6
unfolding line_of find table
returns-in-6 c = rw c.in-6.is

pub returns-in-7 : goal.returns-in-7
unfolding line_of find table
returns-in-7 c = rw c.in-7.is

pub returns-in-8 : goal.returns-in-8
unfolding line_of find table
returns-in-8 c = rw c.in-8.is

pub returns-in-9 : goal.returns-in-9
unfolding line_of find table
returns-in-9 c = rw c.in-9.is

pub returns-in-10 : goal.returns-in-10
unfolding line_of find table
returns-in-10 c = rw c.in-10.is

pub returns-in-11 : goal.returns-in-11
unfolding line_of find table
returns-in-11 c = rw c.in-11.is

pub returns-in-12 : goal.returns-in-12
unfolding line_of find table
returns-in-12 c = rw c.in-12.is

pub returns-in-13 : goal.returns-in-13
unfolding line_of find table
returns-in-13 c = rw c.in-13.is

pub returns-in-14 : goal.returns-in-14
unfolding line_of find table
returns-in-14 c = rw c.in-14.is

pub returns-in_default : goal.returns-in_default
unfolding NoneOf table
returns-in_default c = sym (no-instruction c.args.x (search rules))
