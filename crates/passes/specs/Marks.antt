-- No promise speaks of this. A mark for each address of a class whose row is still to be looked at: m before, m' after. Place 0 is no address.
use Rattle.std.specs.Prelude.{List, ◌≡◌, Bool, true, false, ℕ, ◌+◌, ◌≤◌, ◌<◌, Option, None, Some, length, get_or, replicate, set}
use Rattle.ground.specs.Bytes.{at}
use Rattle.ground.specs.Bounded.{set_below, count_below}
use Rattle.bundle.specs.declared.Class.{Class}
use Rattle.bundle.specs.Container.{instruction_at}
use Rattle.passes.specs.Passes.{goal_of, Given, GivenClass, Lower, Raised, EverySlot}
use Rattle.shape.specs.PairBytes.{Reference}
use Rattle.choices.specs.Asked.{Enough}

abbrev pub is_marked : List Bool → ℕ → Bool
is_marked m l = get_or m l false

unfoldable pub marks_left : List Bool → ℕ
marks_left m = count_below 257 (is_marked m)

-- the target or handler of every address
abbrev pub goal_at : Class → List ℕ → ℕ → ℕ
goal_at k r l = goal_of (instruction_at k r l)

unfoldable pub goals : Class → List ℕ → List ℕ
goals k r = set_below (k.code + 1) (goal_at k r) (replicate 257 0)

-- every address whose row reads row l is marked, and none is unmarked
pub record Marked (g : List ℕ) (code l : ℕ) (m m' : List Bool) : Type 0 where
  pub long : length m' ≡ length m
  pub kept : (j : ℕ) → is_marked m' j ≡ false → is_marked m j ≡ false
  pub next : (j : ℕ) → l ≡ j + 1 → is_marked m' j ≡ true
  pub goal : (j : ℕ) → j ≤ code → l ≡ at g j → is_marked m' j ≡ true

-- an address above floor, up to top, that is marked, or none
abbrev pub Found : List Bool → ℕ → ℕ → Option ℕ → Type 0
Found m floor top None = (j : ℕ) → floor < j → j ≤ top → is_marked m j ≡ false
Found m floor top (Some l) = (floor < l) × (l ≤ top) × (is_marked m l ≡ true)

-- row l is looked at: its mark is taken away, it is raised, and where it rose the rows that read it are marked
pub record Looked (n c : ℕ) (k : Class) (g : List ℕ) (l : ℕ) (m : List Bool) (x : List ℕ) (o : ℕ) (m' : List Bool) (x' : List ℕ) : Type 0 where
  pub row : Raised (Given n c k l) c l EverySlot x o x'
  pub long : length m' ≡ length m
  pub none : o ≡ 0 → m' ≡ set m l false
  pub risen : o ≡ 1 → Marked g k.code l (set m l false) m'

-- on the way: x₀ where the class was begun; a row without a mark has what is asked of it
pub record Going (n c : ℕ) (x₀ : List ℕ) (m : List Bool) (x : List ℕ) : Type 0 where
  pub keeps : (b : List ℕ) → GivenClass n c b → Lower b x₀ → Lower b x
  pub clean : (b : List ℕ) → GivenClass n c b → Lower b x₀ → (l s : ℕ) → is_marked m l ≡ false → Reference b c l s → Enough b x c l s
  pub others : (b : List ℕ) → GivenClass n c b → Lower b x₀ → (c' l s : ℕ) → (c' ≡ c → ⊥) → Reference b c' l s → Enough b x₀ c' l s → Enough b x c' l s
  pub long : length x ≡ length x₀
  pub marks : length m ≡ 257
