-- No promise speaks of this: what the writing functions, which begin at a place p and give back the place behind, say of the bytes xs that they lay; and sizes as the code adds them up.
use Rattle.std.specs.Prelude.{List, ◌≡◌, ℕ, ◌+◌, ◌*◌, ◌<◌, ◌≤◌, length}
use Rattle.bundle.specs.declared.Class.{Class}
use Rattle.bundle.specs.Container.{descriptor_count, size}
use Rattle.laying.specs.declared.Sizes.{Sizes}
use Rattle.laying.specs.Given.{Given, numbers_at}
use Rattle.laying.specs.Lengths.{code_bytes, kind_bytes, descriptors_before, instructions_before, kinds_before, depths_before, records_before}
use Rattle.laying.specs.Laying.{over}

pub record Lays (out : List ℕ) (p : ℕ) (xs : List ℕ) (r : ℕ) (out' : List ℕ) : Type 0 where
  pub next : r ≡ p + length xs
  pub bytes : out' ≡ over out p xs

-- there is room for xs
abbrev pub Room : List ℕ → ℕ → List ℕ → Type 0
Room out p xs = p + length xs ≤ length out

-- of the first c classes
abbrev pub sizes_of : List ℕ → ℕ → Sizes
sizes_of d c =
    record {
      descriptors = descriptors_before d c;
      instructions = instructions_before d c;
      kinds = kinds_before d c;
      depths = depths_before d c;
      records = records_before d c;
    }

abbrev pub more : Sizes → Class → Sizes
more s k =
    record {
      descriptors = s.descriptors + descriptor_count k;
      instructions = s.instructions + code_bytes k;
      kinds = s.kinds + kind_bytes k;
      depths = s.depths + k.code;
      records = s.records + size k;
    }

-- each size is at most m
pub record Under (m : ℕ) (s : Sizes) : Type 0 where
  pub descriptors : s.descriptors ≤ m
  pub instructions : s.instructions ≤ m
  pub kinds : s.kinds ≤ m
  pub depths : s.depths ≤ m
  pub records : s.records ≤ m

-- r is s with one class more, which has fewer than 2^28 bytes of each
pub record Near (s r : Sizes) : Type 0 where
  pub descriptors : r.descriptors ≤ s.descriptors + 268435456
  pub instructions : r.instructions ≤ s.instructions + 268435456
  pub kinds : r.kinds ≤ s.kinds + 268435456
  pub depths : r.depths ≤ s.depths + 268435456
  pub records : r.records ≤ s.records + 268435456

-- each string is as long as the class count and the directory numbers ask
pub record Measured (g : Given) : Type 0 where
  pub least : 1 ≤ g.classes
  pub most : g.classes ≤ 8
  pub directory : length g.directory ≡ 6 * g.classes
  pub descriptors : length g.descriptors ≡ descriptors_before g.directory g.classes
  pub instructions : length g.instructions ≡ instructions_before g.directory g.classes
  pub kinds : length g.kinds ≡ kinds_before g.directory g.classes
  pub depths : length g.depths ≡ depths_before g.directory g.classes

-- class c's parts are within the strings
pub record Within (g : Given) (c : ℕ) : Type 0 where
  pub class : c < 8
  pub directory : 6 * c + 6 ≤ length g.directory
  pub descriptors : descriptors_before g.directory c + descriptor_count (numbers_at g.directory c) ≤ length g.descriptors
  pub instructions : instructions_before g.directory c + code_bytes (numbers_at g.directory c) ≤ length g.instructions
  pub kinds : kinds_before g.directory c + kind_bytes (numbers_at g.directory c) ≤ length g.kinds
  pub depths : depths_before g.directory c + (numbers_at g.directory c).code ≤ length g.depths
