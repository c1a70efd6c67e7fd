-- What the rules share: the row after an instruction, what a row wants, and an edge from the one to the other (document 01, the rules at each address; document 02, Q-1).
use Rattle.std.specs.Prelude.{Bool, cond, not, ℕ, zero, suc, ◌+◌, ◌-◌, eqb}
use Rattle.ground.specs.Bounded.{all_below}
use Rattle.ground.specs.Chain.{or_then, scan}
use Rattle.entries.specs.Entries.{Entry, is_reference}
use Rattle.entries.specs.Fits.{Want, may_go, compare, want, want_both, want_nothing}
use Rattle.rows.specs.Rows.{Row}

-- ---- the row after an instruction: what the machine's pop, push and store do to values, done to entries
-- e on top of f
abbrev pub under {ℓ} : {A : Type ℓ} → A → (ℕ → A) → ℕ → A
under e f zero = e
under e f (suc j) = f j

-- a entries gone from the top
abbrev pub popped : ℕ → Row → Row
popped a x = record { variable = x.variable; depth = x.depth - a; stack = λ j. x.stack (a + j) }

abbrev pub pushed : Entry → Row → Row
pushed e x = record { variable = x.variable; depth = x.depth + 1; stack = under e x.stack }

abbrev pub stored : ℕ → Entry → Row → Row
stored v e x = record { variable = λ i. cond (eqb i v) e (x.variable i); depth = x.depth; stack = x.stack }

abbrev pub emptied : Row → Row
emptied x = record { variable = x.variable; depth = 0; stack = x.stack }

-- ---- what a row wants, place by place
pub record Wants : Type 0 where
  pub variable : ℕ → Want
  pub depth : ℕ
  pub stack : ℕ → Want

-- each entry as it stands
abbrev pub wants : Row → Wants
wants y = record { variable = λ i. want (y.variable i); depth = y.depth; stack = λ j. want (y.stack j) }

-- .. but for the variable v, of which the instruction says what is wanted: monitorenter and monitorexit
abbrev pub wants_at : ℕ → Want → Row → Wants
wants_at v w y = record { variable = λ i. cond (eqb i v) w (want (y.variable i)); depth = y.depth; stack = λ j. want (y.stack j) }

-- load v: Int, Top and what may be null fit both; a reference is compared with both places, summed, once at v, and of the new top nothing more is wanted
unfoldable pub wants_loaded : ℕ → Row → Row → Wants
wants_loaded v x y =
    record {
      variable = cond (is_reference (x.variable v)) (wants_at v (want_both (y.variable v) (y.stack 0)) y).variable (wants y).variable;
      depth = y.depth;
      stack = cond (is_reference (x.variable v)) (under want_nothing (λ j. want (y.stack (suc j)))) (wants y).stack;
    }

-- ---- an edge: what the row after the instruction offers, and what the row that is reached wants
pub record Edge : Type 0 where
  pub offered : Row
  pub wanted : Wants

abbrev pub edge : Row → Wants → Edge
edge x w = record { offered = x; wanted = w }

-- depths must come out exact
abbrev pub meets : Edge → Bool
meets e = eqb e.offered.depth e.wanted.depth

-- numbers of comparisons, in order: the first that isn't 0
abbrev pub is_short : ℕ → Bool
is_short w = not (eqb w 0)

abbrev pub then_short : ℕ → ℕ → ℕ
then_short first second = or_then is_short first second

abbrev pub first_short : ℕ → (ℕ → ℕ) → ℕ
first_short n f = scan is_short 0 n f

-- an edge's comparisons at variable i and at stack entry j
abbrev pub variable_short : Edge → ℕ → ℕ
variable_short e i = compare (e.offered.variable i) (e.wanted.variable i)

abbrev pub entry_short : Edge → ℕ → ℕ
entry_short e j = compare (e.offered.stack j) (e.wanted.stack j)

-- variables ascending, then the stack from the top
unfoldable pub edge_short : ℕ → Edge → ℕ
edge_short vars e = then_short (first_short vars (variable_short e)) (first_short e.offered.depth (entry_short e))

-- ---- may go
abbrev pub var_goes : Row → ℕ → Bool
var_goes x i = may_go (x.variable i)

-- each variable may go
unfoldable pub vars_go : ℕ → Row → Bool
vars_go vars x = all_below vars (var_goes x)

abbrev pub entry_goes : Row → ℕ → Bool
entry_goes x j = may_go (x.stack j)

-- every stack entry may go
unfoldable pub stack_goes : Row → Bool
stack_goes x = all_below x.depth (entry_goes x)
