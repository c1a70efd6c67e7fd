-- No promise speaks of this. What is done to the pairs of a bundle: x before, x' after, o the answer (0: nothing changed, 1: something was raised, 2: something cannot be raised as far as it must be).
use Rattle.std.specs.Prelude.{List, ◌≡◌, cond, ◌⊎◌, ℕ, ◌+◌, ◌-◌, ◌≤◌, ◌<◌, length, set, eqb}
use Rattle.ground.specs.Bytes.{at}
use Rattle.ground.specs.Bounded.{sum_below}
use Rattle.instructions.specs.declared.Instruction.{Instruction}
use Rattle.instructions.specs.declared.Instruction.TheVariants.{Inc, Pop, Push0, Load, Store, If, Enter, Exit, New, Start, Throw, Return, Get, Put, Nothing}
use Rattle.bundle.specs.declared.Class.{Class}
use Rattle.bundle.specs.Container.{classes, class_at, part_of, instruction_at}
use Rattle.entries.specs.Entries.{max_dip, min_end, max_end}
use Rattle.needs.specs.declared.Pair.{Pair}
use Rattle.needs.specs.Needs.{greater}
use Rattle.shape.specs.PairBytes.{place_of, InUse, Reference}
use Rattle.shape.specs.Apart.{Readable}
use Rattle.choices.specs.Asked.{Enough}
use Rattle.choices.specs.Choice.{Alike, Choice, Accepted, Below}

-- ---- one entry, at place p
-- its pair raised to at least q
unfoldable pub raised_to : List ℕ → ℕ → Pair → List ℕ
raised_to x p q = set (set x (p + 2) (greater (at x (p + 2)) q.dip)) (p + 3) (greater (at x (p + 3)) q.end)

pub data Raise (x : List ℕ) (p : ℕ) (q : Pair) : ℕ → List ℕ → Type 0 where
  still : (p + 3 < length x → at x p ≡ 3 → (q.dip ≤ at x (p + 2)) × (q.end ≤ at x (p + 3))) → Raise x p q 0 x
  over : p + 3 < length x → at x p ≡ 3 → (max_dip < q.dip) ⊎ (max_end < q.end) → Raise x p q 2 x
  raised : p + 3 < length x → at x p ≡ 3 → q.dip ≤ max_dip → q.end ≤ max_end → (at x (p + 2) < q.dip) ⊎ (at x (p + 3) < q.end)
      → Raise x p q 1 (raised_to x p q)

-- its pair made the least there is
unfoldable pub lowest : List ℕ → ℕ → List ℕ
lowest x p = set (set x (p + 2) 0) (p + 3) min_end

pub data Clear (x : List ℕ) (p : ℕ) : List ℕ → Type 0 where
  other : (p + 3 < length x → at x p ≡ 3 → ⊥) → Clear x p x
  cleared : p + 3 < length x → at x p ≡ 3 → Clear x p (lowest x p)

-- ---- many entries
-- b is the bundle as it came, x what it is now
pub record Reading (b x : List ℕ) : Type 0 where
  pub readable : Readable b
  pub bytes : (p : ℕ) → at b p < 256
  pub alike : Alike b x

-- .. every pair is at most that of every accepted choice
pub record Lower (b x : List ℕ) : Type 0 where
  pub readable : Readable b
  pub bytes : (p : ℕ) → at b p < 256
  pub choice : Choice b x
  pub below : (y : List ℕ) → Choice b y → Accepted y → Below x y

pub record Lowest (b x : List ℕ) (c l s : ℕ) : Type 0 where
  pub dip : at x (place_of b c l s + 2) ≡ 0
  pub end : at x (place_of b c l s + 3) ≡ min_end

-- how far all bytes together can still rise
unfoldable pub room : List ℕ → ℕ
room x = sum_below (length x) (λ p. 255 - at x p)

-- ---- what is asked of a row is read off the next one and that of its target or handler; 0 is none
abbrev pub goal_of : Instruction → ℕ
goal_of Inc = 0
goal_of Pop = 0
goal_of Push0 = 0
goal_of (Load v) = 0
goal_of (Store v) = 0
goal_of (If a) = a.0
goal_of (Enter v h) = h.0
goal_of (Exit v) = 0
goal_of (New c h) = h.0
goal_of (Start c) = 0
goal_of (Throw h) = h.0
goal_of Return = 0
goal_of (Get c f h) = h.0
goal_of (Put c f h) = h.0
goal_of Nothing = 0

abbrev pub code_of : List ℕ → ℕ → ℕ → Instruction
code_of b c l = let k = class_at b c in instruction_at k (part_of b k) l

-- row l of class c is asked what row m has
abbrev pub Reads : List ℕ → ℕ → ℕ → ℕ → Type 0
Reads b c l m = (m ≡ l + 1) ⊎ (m ≡ goal_of (code_of b c l))

-- ---- W: the entries that were looked at; G: what is taken for granted of b
module _ (G : List ℕ → Type 0) where
  -- entries of row l₀ of class c₀ were raised to what is asked of them
  pub record Raised (c₀ l₀ : ℕ) (W : ℕ → Type 0) (x : List ℕ) (o : ℕ) (x' : List ℕ) : Type 0 where
    pub keeps : (b : List ℕ) → G b → Lower b x → Lower b x'
    pub same : o ≡ 0 → x' ≡ x
    pub met : o ≡ 0 → (b : List ℕ) → G b → Lower b x → (s : ℕ) → W s → Reference b c₀ l₀ s → Enough b x c₀ l₀ s
    -- .. which they have, where the row does not read itself
    pub after : (o ≡ 2 → ⊥) → (b : List ℕ) → G b → Lower b x → (s : ℕ) → W s → Reference b c₀ l₀ s → (Reads b c₀ l₀ l₀ → ⊥) → Enough b x' c₀ l₀ s
    -- .. and so has every row that had it and does not read this one
    pub stays : (b : List ℕ) → G b → Lower b x → (c l s : ℕ) → Reference b c l s → (c ≡ c₀ → Reads b c l l₀ → ⊥) → Enough b x c l s → Enough b x' c l s
    pub never : o ≡ 2 → (b : List ℕ) → G b → Lower b x → (y : List ℕ) → Choice b y → Accepted y → ⊥
    pub falls : room x' ≤ room x
    pub less : o ≡ 1 → room x' < room x
    pub long : length x' ≡ length x
    pub answer : o ≤ 2

  pub record Cleared (W : ℕ → ℕ → ℕ → Type 0) (x x' : List ℕ) : Type 0 where
    pub keeps : (b : List ℕ) → G b → Reading b x → Reading b x'
    pub stays : (b : List ℕ) → G b → Reading b x → (c l s : ℕ) → Reference b c l s → Lowest b x c l s → Lowest b x' c l s
    pub lows : (b : List ℕ) → G b → Reading b x → (c l s : ℕ) → W c l s → Reference b c l s → Lowest b x' c l s
    pub long : length x' ≡ length x

-- what the code hands on, of class c of the bundle as it came: its directory numbers k, an address, an entry in use; the class count and the instruction
pub record GivenRow (c : ℕ) (k : Class) (l : ℕ) (b : List ℕ) : Type 0 where
  pub class_known : c < classes b
  pub class : k ≡ class_at b c
  pub first : 1 ≤ l
  pub last : l ≤ (class_at b c).code

pub record GivenPlace (c : ℕ) (k : Class) (l s : ℕ) (b : List ℕ) : Type 0 where
  pub class : k ≡ class_at b c
  pub in_use : InUse b c l s

pub record Given (n c : ℕ) (k : Class) (l : ℕ) (b : List ℕ) : Type 0 where
  pub count : n ≡ classes b
  pub row : GivenRow c k l b

pub record GivenEntry (n c : ℕ) (k : Class) (l : ℕ) (i : Instruction) (s : ℕ) (b : List ℕ) : Type 0 where
  pub count : n ≡ classes b
  pub place : GivenPlace c k l s b
  pub instruction : i ≡ code_of b c l

abbrev pub GivenClass : ℕ → ℕ → List ℕ → Type 0
GivenClass n c b = (n ≡ classes b) × (c < classes b)

abbrev pub Anything : List ℕ → Type 0
Anything b = Unit

-- entries of one row: one; all
abbrev pub TheSlot : ℕ → ℕ → Type 0
TheSlot s s' = s' ≡ s

abbrev pub EverySlot : ℕ → Type 0
EverySlot s = Unit

-- one entry; one row; one class; all
abbrev pub TheEntry : ℕ → ℕ → ℕ → ℕ → ℕ → ℕ → Type 0
TheEntry c l s c' l' s' = (c' ≡ c) × (l' ≡ l) × (s' ≡ s)

abbrev pub TheRow : ℕ → ℕ → ℕ → ℕ → ℕ → Type 0
TheRow c l c' l' s' = (c' ≡ c) × (l' ≡ l)

abbrev pub TheClass : ℕ → ℕ → ℕ → ℕ → Type 0
TheClass c c' l' s' = c' ≡ c

abbrev pub Every : ℕ → ℕ → ℕ → Type 0
Every c l s = Unit

-- the answer of one after another
unfoldable pub either : ℕ → ℕ → ℕ
either o o' = cond (eqb o' 0) o o'

-- ---- rows raised until nothing is left to raise (0), or something cannot be (2)
-- in class c; what the others have stays
pub record ClassSettled (n c : ℕ) (x : List ℕ) (o : ℕ) (x' : List ℕ) : Type 0 where
  pub keeps : (b : List ℕ) → GivenClass n c b → Lower b x → Lower b x'
  pub met : o ≡ 0 → (b : List ℕ) → GivenClass n c b → Lower b x → (l s : ℕ) → Reference b c l s → Enough b x' c l s
  pub others : (b : List ℕ) → GivenClass n c b → Lower b x → (c' l s : ℕ) → (c' ≡ c → ⊥) → Reference b c' l s → Enough b x c' l s → Enough b x' c' l s
  pub never : o ≡ 2 → (b : List ℕ) → GivenClass n c b → Lower b x → (y : List ℕ) → Choice b y → Accepted y → ⊥
  pub long : length x' ≡ length x
  pub answer : o ≤ 2

-- in all
pub record Settled (x : List ℕ) (o : ℕ) (x' : List ℕ) : Type 0 where
  pub keeps : (b : List ℕ) → Lower b x → Lower b x'
  pub met : o ≡ 0 → (b : List ℕ) → Lower b x → (c l s : ℕ) → Reference b c l s → Enough b x' c l s
  pub never : o ≡ 2 → (b : List ℕ) → Lower b x → (y : List ℕ) → Choice b y → Accepted y → ⊥
  pub long : length x' ≡ length x
  pub answer : o ≤ 2
