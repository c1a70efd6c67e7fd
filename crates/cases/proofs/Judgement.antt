-- A verdict, worked out: to unfold `judgement` is to unfold all that its line names, which is all that stands on the way.
use mathlib.Core.List.{List}
use Prim.Native.Nat.{ℕ}
use Rattle.ground.specs.Bounded.{all_below}
use Rattle.ground.specs.Chain.{refuse, or_then, scan}
use Rattle.ground.specs.Lists.{each, first_broken}
use Rattle.instructions.specs.Table.{last_ok, instruction_ok, table, find, line_of, table_ok}
use Rattle.bundle.specs.Container.{head_at, class_at, width, size, record_fits, part_of, code_from, instruction_place, code_at, instruction_at, field_at}
use Rattle.bundle.specs.Program.{method_of, method_at, program_of}
use Rattle.structure.specs.Conditions.{length_ok, trailer_ok, directory_ok, main_ok, code_ok, limits_ok, descriptor_ok, descriptors_ok, address_ok}
use Rattle.structure.specs.Structure.{structure_of}
use Rattle.entries.specs.Entries.{zeros, pair_ok, nullable_ok, entry_of, argument_entry, matches, field_entry, matches_field}
use Rattle.entries.specs.Fits.{takes, compare}
use Rattle.rows.specs.Rows.{start_behind, row_start, depth_at, variable_at, stack_at, entry_at}
use Rattle.matching.specs.Matching.{wants_loaded, edge_short, vars_go, stack_goes}
use Rattle.forms.specs.Forms.{entry_formed, vars_formed, stack_formed, row_formed, first_var, first_vars, first_row}
use Rattle.rules.specs.Rule.{met, short_of, rule_holds, why}
use Rattle.rules.specs.Rules.{inc_rule, pop_rule, push0_rule, load_rule, store_rule, if_rule, exit_rule, uncaught_goes, thrown, failure_goes, new_rule, null_goes, null_thrown, unnulled, enter_rule, owner_goes, get_rule, put_rule, throw_rule, argument_goes, object_goes, arguments_go, start_rule, return_rule}
use Rattle.verifier.specs.Verdict.{verdict_of}
use Rattle.verdicts.specs.declared.Verdict.{Verdict}

unfoldable pub judgement : List ℕ → Verdict
unfolding all_below refuse or_then scan table find line_of table_ok each first_broken last_ok instruction_ok head_at class_at width size record_fits part_of code_from instruction_place code_at instruction_at field_at method_of method_at program_of length_ok trailer_ok directory_ok main_ok code_ok limits_ok descriptor_ok descriptors_ok address_ok structure_of zeros pair_ok nullable_ok entry_of argument_entry matches field_entry matches_field takes compare start_behind row_start depth_at entry_at variable_at stack_at wants_loaded edge_short vars_go stack_goes entry_formed vars_formed stack_formed row_formed first_var first_vars first_row inc_rule pop_rule push0_rule load_rule store_rule if_rule exit_rule uncaught_goes thrown failure_goes new_rule null_goes null_thrown unnulled enter_rule owner_goes get_rule put_rule throw_rule argument_goes object_goes arguments_go start_rule return_rule met short_of rule_holds why verdict_of
judgement b = verdict_of b
