-- What the C call that runs an accepted bundle gives (document 02, Q-7): a number, and the last state in a lent buffer.
use Rattle.std.specs.Prelude.{List, ◌≡◌, cond, ℕ, ◌+◌, ◌*◌, ◌%◌, leb, eqb, length}
use Rattle.ground.specs.Bytes.{at}
use Rattle.ground.specs.Chain.{refuse}
use Rattle.ground.specs.Bounded.{set_below}
use Rattle.state_written.specs.Written.{state_bytes}
use Rattle.runner.specs.Run.{Ran}
use Rattle.runner.specs.Run.{ran_of}
use Rattle.exports.specs.Exports.{packed}

-- the answer in the low byte, and above it, with 0 the number of steps (no list has 2^56 bytes), with 19 the verdict
unfoldable pub packed_ran : Ran → ℕ
packed_ran r = cond (eqb r.answer 0) (256 * (r.steps % 72057594037927936)) (r.answer + 256 * packed r.verdict)

-- 24 where the buffer has fewer than 2,537 bytes
unfoldable pub run_number : List ℕ → List ℕ → List ℕ → ℕ
run_number b xs out = refuse (leb 2537 (length out)) 24 (packed_ran (ran_of b xs))

-- the buffer's first 2,537 bytes are the last state, and those past them are as they came; with 24 all are as they came
unfoldable pub run_bytes : List ℕ → List ℕ → List ℕ → List ℕ
run_bytes b xs out = refuse (leb 2537 (length out)) out (set_below 2537 (at (state_bytes (ran_of b xs).state)) out)

abbrev pub RunGives : List ℕ → List ℕ → List ℕ → ℕ → List ℕ → Type 0
RunGives b xs out r out' = (r ≡ run_number b xs out) × (out' ≡ run_bytes b xs out)
