-- Document 02, Q-12: what the weaver gives: one to eight classes with their directory numbers, descriptors, instructions, kinds and depths, and the exception class.
use Rattle.std.specs.Prelude.{List, ℕ, ◌+◌, ◌*◌}
use Rattle.ground.specs.Bytes.{at, be16}
use Rattle.bundle.specs.declared.Class.{Class}
use Rattle.laying.specs.declared.Parts.{Parts}

-- two numbers and five strings of bytes, each with all classes one after the other
pub record Given : Type 0 where
  pub classes : ℕ
  pub exception : ℕ
  pub directory : List ℕ
  pub descriptors : List ℕ
  pub instructions : List ℕ
  pub kinds : List ℕ
  pub depths : List ℕ

abbrev pub given : ℕ → ℕ → List ℕ → List ℕ → List ℕ → List ℕ → List ℕ → Given
given n x d ds is ts ps =
    record { classes = n; exception = x; directory = d; descriptors = ds; instructions = is; kinds = ts; depths = ps }

-- .. as the code is lent it
abbrev pub given_of : Parts → Given
given_of p = given p.classes p.exception p.directory.now p.descriptors.now p.instructions.now p.kinds.now p.depths.now

-- a class's directory numbers, six bytes: arguments n, variables V, stack limit K, fields f, code length k (2). Where its record begins is not said by them
unfoldable pub numbers_at : List ℕ → ℕ → Class
numbers_at d c =
    record {
      offset = 0;
      args = at d (6 * c);
      vars = at d (6 * c + 1);
      limit = at d (6 * c + 2);
      fields = at d (6 * c + 3);
      code = be16 d (6 * c + 4);
    }
