-- For the code's own use: where each row comes from, so that an address is found among at most 256 offsets, however long the code is.
use Rattle.std.specs.Prelude.{◌≡◌, List, ℕ, ◌+◌, ◌≤◌, ◌<◌, length, leb}
use Rattle.ground.specs.Bytes.{at}
use Rattle.ground.specs.Bounded.{first_below}
use Rattle.offsets.specs.Offsets.{count_to, total}
use Rattle.classfile.specs.declared.rows.Method.{Method}

-- of each of the first n rows, the offset of the instruction that it is written for
pub record Starts (code starts : List ℕ) (n : ℕ) : Type 0 where
  pub each : (k : ℕ) → k < n → (count_to code (at starts k) ≤ k) × (k < count_to code (at starts k + 1))

-- the address of the first of n rows that comes from offset t or after
unfoldable pub address_by : List ℕ → ℕ → ℕ → ℕ
address_by starts n t = first_below n (λ k. leb t (at starts k)) + 1

-- the code's own record of a method, with all its rows, of which there are no more than 256
pub record Prepared (m : Method) : Type 0 where
  pub starts : Starts m.code.now m.starts.now m.all
  pub count : m.all ≡ total m.code.now
  pub few : m.all ≤ 256
  pub room : m.all ≤ length m.starts.now
