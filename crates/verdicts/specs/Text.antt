-- What is printed of a refusal.
use Rattle.std.specs.Prelude.{List, [], ℕ, ◌++◌, ◌==◌, if◌then◌else◌, codes, decimal}
use Rattle.verdicts.specs.declared.Refusal.{Refusal}
use Rattle.verdicts.specs.declared.Verdict.{Verdict}
use Rattle.verdicts.specs.Numbers.{numbers}

abbrev pub why_text : Verdict → List ℕ
why_text v = if v.number == 9 then codes " why " ++ decimal v.why else []

abbrev pub verdict_text : Verdict → List ℕ
verdict_text v = codes "refused " ++ (decimal v.number ++ (codes " class " ++ (decimal v.class ++ (codes " address " ++ (decimal v.address ++ why_text v)))))

-- refused N class C address A, and for a 9 why W
abbrev pub refusal_text : Refusal → List ℕ
refusal_text r = verdict_text (numbers r)
