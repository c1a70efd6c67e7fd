-- No promise speaks of this: what the code gives, the class count and how many bytes are written or a refusal, as a verdict and a length.
use Rattle.std.specs.Prelude.{ℕ, Result, Ok, Err}
use Rattle.verdicts.specs.declared.Refusal.{Refusal}
use Rattle.verdicts.specs.declared.Verdict.{Verdict}
use Rattle.verdicts.specs.Numbers.{numbers}
use Rattle.verdicts.specs.Verdicts.{verdict}

abbrev pub verdict_in : Result (ℕ × ℕ) Refusal → Verdict
verdict_in (Ok p) = verdict 0 p.0 0
verdict_in (Err r) = numbers r

abbrev pub written_in : Result (ℕ × ℕ) Refusal → ℕ
written_in (Ok p) = p.1
written_in (Err _) = 0
