-- The abstract program that rules, machine and soundness speak of. Rows are apart: the machine never reads them.
use Rattle.std.specs.Prelude.{List, ℕ, ◌<◌, ◌≤◌}
use Rattle.ground.specs.Bytes.{at}
use Rattle.instructions.specs.declared.Instruction.{Instruction}
use Rattle.bundle.specs.declared.Class.{Class}
use Rattle.bundle.specs.Container.{classes, exception, class_at, part_of, instruction_at, field_at}

-- n arguments, V variables, stack limit K, f fields, k addresses; argument i's and field i's descriptor (255 is Int, otherwise a class); address l's instruction
pub record Method : Type 0 where
  pub args : ℕ
  pub vars : ℕ
  pub limit : ℕ
  pub fields : ℕ
  pub code : ℕ
  pub descriptor : ℕ → ℕ
  pub field : ℕ → ℕ
  pub instruction : ℕ → Instruction

-- the class count, the exception class and each class's method
pub record Program : Type 0 where
  pub classes : ℕ
  pub exception : ℕ
  pub method : ℕ → Method

-- l is an address of class c
pub record Address (P : Program) (c l : ℕ) : Type 0 where
  pub class_known : c < P.classes
  pub first : 1 ≤ l
  pub last : l ≤ (P.method c).code

-- the method that a record is
unfoldable pub method_of : Class → List ℕ → Method
method_of k r =
    record {
      args = k.args;
      vars = k.vars;
      limit = k.limit;
      fields = k.fields;
      code = k.code;
      descriptor = at r;
      field = field_at k r;
      instruction = instruction_at k r;
    }

unfoldable pub method_at : List ℕ → ℕ → Method
method_at b c = let k = class_at b c in method_of k (part_of b k)

-- the program that a bundle is
unfoldable pub program_of : List ℕ → Program
program_of b = record { classes = classes b; exception = exception b; method = method_at b }
