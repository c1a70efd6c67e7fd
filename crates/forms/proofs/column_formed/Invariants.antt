use Rattle.std.proofs.Common.{◌≡◌, true}
use Rattle.ground.specs.Bounded.{all_below}
use Rattle.entries.specs.Entries.{is_type}
use Rattle.entries.specs.Words.{entry_from}
use Rattle.forms.specs.Columns.{place_formed}
use Rattle.forms.proofs.column_formed.Given as goal

abbrev pub invariant-loop-l : goal.invariant-loop-l
invariant-loop-l l =
    (l.formed ≡ all_below l.l (place_formed l.m.classes l.m.class l.m.bytes.now l.i)) × (l.formed ≡ true → is_type (entry_from l.m.classes l.last) ≡ true)
