use Rattle.std.proofs.Common.{◌+◌, ◌*◌, length}
use Rattle.usage_text.proofs.+reading.Given as goal

abbrev pub decreases-read_bracket : goal.decreases-read_bracket
decreases-read_bracket l = 4 * length l.s.now + 3

abbrev pub decreases-read_choice : goal.decreases-read_choice
decreases-read_choice l = 4 * length l.s.now + 2

abbrev pub decreases-read_choice_on : goal.decreases-read_choice_on
decreases-read_choice_on l = 4 * length l.s.now

abbrev pub decreases-read_prefixed : goal.decreases-read_prefixed
decreases-read_prefixed l = 4 * length l.s.now

abbrev pub decreases-read_shuffle : goal.decreases-read_shuffle
decreases-read_shuffle l = 4 * length l.s.now + 1

abbrev pub decreases-read_shuffle_on : goal.decreases-read_shuffle_on
decreases-read_shuffle_on l = 4 * length l.s.now
