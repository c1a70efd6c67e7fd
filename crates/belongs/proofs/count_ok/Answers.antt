use Rattle.std.proofs.Common.{rules}
use Rattle.ground.proofs.Tests.{tests}
use Rattle.belongs.specs.Belongs.{count_ok}
use Rattle.belongs.proofs.count_ok.Goals as goal

pub returns-then-n-eq0 : goal.returns-then-n-eq0
unfolding count_ok
returns-then-n-eq0 c = search (rules, tests)

pub returns-then-n-gt2047 : goal.returns-then-n-gt2047
unfolding count_ok
returns-then-n-gt2047 c = search (rules, tests)

pub returns-then-objects-o : goal.returns-then-objects-o
unfolding count_ok
returns-then-objects-o c = search (rules, tests)

pub returns : goal.returns
unfolding count_ok
returns c = search (rules, tests)
