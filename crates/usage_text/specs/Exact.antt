-- What is proved of reading and writing: a text is read exactly as the grammar says. proofs/Grammar.antt and Writing.antt prove it.
use Rattle.std.specs.Prelude.{◌≡◌, ◌↔◌, List, [], ℕ, ◌+◌, ◌*◌, ◌≤◌, length}
use Rattle.usages.specs.Usage.{Usage}
use Rattle.usage_text.specs.Grammar.{TextOf}
use Rattle.usage_text.specs.Reading.{read, read_text}
use Rattle.usage_text.specs.Writing.{written, joints}

-- a text is read whole, and as u, exactly when it is a text of u
abbrev pub ReadsTexts : Type 0
ReadsTexts = (d : ℕ) (s : List ℕ) (u : Usage) → TextOf d s u ↔ (read_text d s ≡ read u [])

-- no text is a text of two usages, however deep its brackets
abbrev pub OneUsage : Type 0
OneUsage = (d e : ℕ) (s : List ℕ) (u v : Usage) → TextOf d s u → TextOf e s v → u ≡ v

-- a bracket takes two bytes, and what it holds one at least: what is a usage at some depth is one at any for which the bytes are too few
abbrev pub DeepEnough : Type 0
DeepEnough = (d e : ℕ) (s : List ℕ) (u : Usage) → length s ≤ 2 * e + 2 → TextOf d s u → TextOf e s u

-- every usage has a text, and is read back from it
abbrev pub ReadBack : Type 0
ReadBack = (u : Usage) → TextOf (joints u) (written u) u × (read_text (joints u) (written u) ≡ read u [])
