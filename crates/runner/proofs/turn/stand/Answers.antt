use Rattle.runner.proofs.Known.{vars-are, code_read, class_8, address_first, next_fits, place-small, instruction-here}
use mathlib.Core.Path.{◌∙◌}
use Rattle.runner.proofs.turn.stand.Goals as goal

pub bounds-table-q : goal.bounds-table-q
bounds-table-q c = rw c.class-q.ensures (class_8 _ _ _ _ c.requires)

pub overflow_add-here : goal.overflow_add-here
overflow_add-here c = record { fits = rw c.address-at.ensures (next_fits _ _ _ _ c.requires) }

pub bounds-table-q-2 : goal.bounds-table-q-2
bounds-table-q-2 c = rw c.class-q.ensures (class_8 _ _ _ _ c.requires)

pub overflow_sub-at : goal.overflow_sub-at
overflow_sub-at c = rw c.address-at.ensures (address_first _ _ _ _ c.requires)

pub overflow_add-table : goal.overflow_add-table
overflow_add-table c = record { fits = rw (c.class-q.ensures, c.address-at.ensures) (place-small _ _ _ _ c.requires _) }

pub instruction_from-requires : goal.instruction_from-requires
instruction_from-requires c = rw (c.class-q.ensures, c.address-at.ensures) (code_read _ _ _ _ c.requires _)

pub returns-clause-here : goal.returns-clause-here
returns-clause-here c = rw (c.class-q.ensures, c.address-at.ensures, vars-are _ _ _ _ c.requires _)

pub returns-clause-instruction : goal.returns-clause-instruction
returns-clause-instruction c = c.instruction_from.ensures ∙ rw (c.class-q.ensures, c.address-at.ensures) (instruction-here _ _ _ _ c.requires _)
