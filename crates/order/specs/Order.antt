-- Document 02, Q-10, a lock order by class: each class has a level from a lent list of eight bytes. At monitorenter v, every other entry of the row that is a reference with a negative end must be of a strictly higher level than v's class.
use Rattle.std.specs.Prelude.{List, ◌≡◌, ◌≢◌, Bool, true, not, ◌&&◌, ◌||◌, ℕ, ◌<◌, ltb, eqb, length}
use Rattle.ground.specs.Bytes.{at}
use Rattle.ground.specs.Bounded.{all_below}
use Rattle.instructions.specs.declared.Addr.{Addr}
use Rattle.instructions.specs.declared.Var.{Var}
use Rattle.instructions.specs.declared.Instruction.{Instruction}
use Rattle.instructions.specs.declared.Instruction.TheVariants.{Inc, Pop, Push0, Load, Store, If, Enter, Exit, New, Start, Throw, Return, Get, Put, Nothing}
use Rattle.bundle.specs.Program.{Address}
use Rattle.entries.specs.Entries.{Entry, Ref, no_end, end_of, class_of, is_reference}
use Rattle.rows.specs.Rows.{Row}
use Rattle.rows.specs.Typed.{Typed}

-- the list is eight bytes long (else 26)
abbrev pub eight_levels : List ℕ → Bool
eight_levels levels = eqb (length levels) 8

-- each class has a level
abbrev pub level_of : List ℕ → ℕ → ℕ
level_of levels c = at levels c

-- a reference with a negative end; what may be null has no end
unfoldable pub owes : Entry → Bool
owes x = is_reference x && ltb (end_of x) no_end

-- .. must be of a strictly higher level than m
unfoldable pub above : List ℕ → ℕ → Entry → Bool
above levels m x = not (owes x) || ltb m (level_of levels (class_of x))

-- every other entry of the row: all variables but v
abbrev pub other_above : List ℕ → ℕ → ℕ → Row → ℕ → Bool
other_above levels m v x i = eqb i v || above levels m (x.variable i)

unfoldable pub others_above : List ℕ → ℕ → ℕ → ℕ → Row → Bool
others_above levels m vars v x = all_below vars (other_above levels m v x)

-- .. and the stack in use
abbrev pub entry_above : List ℕ → ℕ → Row → ℕ → Bool
entry_above levels m x j = above levels m (x.stack j)

unfoldable pub stack_above : List ℕ → ℕ → Row → Bool
stack_above levels m x = all_below x.depth (entry_above levels m x)

-- the level of v's class; where v's entry is neither a reference nor nullable, monitorenter's own rule is broken, and 9 comes first
abbrev pub lock_level : List ℕ → ℕ → Row → ℕ
lock_level levels v x = level_of levels (class_of (x.variable v))

-- at monitorenter v, in the row x of V variables
unfoldable pub enter_order : List ℕ → ℕ → ℕ → Row → Bool
enter_order levels vars v x = others_above levels (lock_level levels v x) vars v x && stack_above levels (lock_level levels v x) x

-- no other instruction has a rule of the order
abbrev pub order_of : List ℕ → ℕ → Row → Instruction → Bool
order_of levels vars x Inc = true
order_of levels vars x Pop = true
order_of levels vars x Push0 = true
order_of levels vars x (Load v) = true
order_of levels vars x (Store v) = true
order_of levels vars x (If a) = true
order_of levels vars x (Enter v h) = enter_order levels vars v.0 x
order_of levels vars x (Exit v) = true
order_of levels vars x (New c h) = true
order_of levels vars x (Start c) = true
order_of levels vars x (Throw h) = true
order_of levels vars x Return = true
order_of levels vars x (Get c f h) = true
order_of levels vars x (Put c f h) = true
order_of levels vars x Nothing = true

-- the order at address l of class c
abbrev pub order_at : List ℕ → Typed → ℕ → ℕ → Bool
order_at levels T c l = order_of levels (T.program.method c).vars (T.row c l) ((T.program.method c).instruction l)

-- ---- the same sentence without a search: proofs/Order.antt
-- in the row x of V variables, every entry but v's that is a reference with a negative end is of a strictly higher level than v's class
pub record Ordered (levels : List ℕ) (vars v : ℕ) (x : Row) : Type 0 where
  pub variables : (i c d e : ℕ) → i < vars → i ≢ v → x.variable i ≡ Ref c d e → e < no_end → lock_level levels v x < level_of levels c
  pub stack : (j c d e : ℕ) → j < x.depth → x.stack j ≡ Ref c d e → e < no_end → lock_level levels v x < level_of levels c

-- at every monitorenter of every class
abbrev pub OrderHolds : List ℕ → Typed → Type 0
OrderHolds levels T =
    (c l : ℕ) → Address T.program c l → (v : Var) (h : Addr) → (T.program.method c).instruction l ≡ Enter v h
    → Ordered levels (T.program.method c).vars v.0 (T.row c l)
