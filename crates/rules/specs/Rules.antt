-- Document 01, the rules at each address. x is row l, y is row l+1, z the target's or the handler's row; V is `vars`.
use Rattle.std.specs.Prelude.{List, [], ◌∷◌, Bool, true, false, cond, ◌&&◌, ◌||◌, ℕ, ◌+◌, leb, eqb}
use Rattle.ground.specs.Bounded.{all_below}
use Rattle.instructions.specs.declared.Instruction.{Instruction}
use Rattle.instructions.specs.declared.Instruction.TheVariants.{Inc, Pop, Push0, Load, Store, If, Enter, Exit, New, Start, Throw, Return, Get, Put, Nothing}
use Rattle.bundle.specs.Program.{Program}
use Rattle.entries.specs.Entries.{Entry, Int, Ref, no_end, is_int, is_reference, is_of, matches, is_nullable, class_of, may_be_of, field_entry, matches_field}
use Rattle.entries.specs.Fits.{may_go, want_entered, want_exited}
use Rattle.rows.specs.Rows.{Row}
use Rattle.rows.specs.Typed.{Typed}
use Rattle.matching.specs.Matching.{popped, pushed, stored, emptied, wants, wants_at, wants_loaded, Edge, edge, vars_go, stack_goes}
use Rattle.rules.specs.Rule.{Rule, rule}

-- ---- what a throw asks, and its edge
-- a throw of the entry e, with the handler h (0 is none; document 02, Q-6): with none, e and each variable may go
unfoldable pub uncaught_goes : ℕ → ℕ → Entry → Row → Bool
uncaught_goes vars h e x = cond (eqb h 0) (may_go e && vars_go vars x) true

-- .. with a handler, each variable fits the handler's row, and e its only stack entry
unfoldable pub thrown : ℕ → Entry → Row → Row → List Edge
thrown h e x z = cond (eqb h 0) [] (edge (pushed e (emptied x)) (wants z) ∷ [])

-- a class with (0,0): what new makes and, of the exception class, what a failed new hands
abbrev pub made : ℕ → Entry
made c = Ref c 0 no_end

-- a failed new throws (0,0) of the exception class; every stack entry may go
unfoldable pub failure_goes : ℕ → ℕ → ℕ → Row → Bool
failure_goes vars exception h x = stack_goes x && uncaught_goes vars h (made exception) x

-- .. with a handler, that is what its row is held against
abbrev pub failure_thrown : ℕ → ℕ → Row → Row → List Edge
failure_thrown exception h x z = thrown h (made exception) x z

-- what may be null throws when it is, as a failed new does and under the same rule (document 02, Q-8)
unfoldable pub null_goes : ℕ → ℕ → ℕ → Entry → Row → Bool
null_goes vars exception h e x = cond (is_nullable e) (failure_goes vars exception h x) true

unfoldable pub null_thrown : ℕ → ℕ → Entry → Row → Row → List Edge
null_thrown exception h e x z = cond (is_nullable e) (failure_thrown exception h x z) []

-- ---- the rules, in the instruction table's order
-- inc: top is Int; next top is Int or Top; rest fits
unfoldable pub inc_rule : Row → Row → Rule
inc_rule x y = rule (leb 1 x.depth && is_int (x.stack 0)) (edge (pushed Int (popped 1 x)) (wants y) ∷ [])

-- pop: top may go; rest fits
unfoldable pub pop_rule : Row → Row → Rule
pop_rule x y = rule (leb 1 x.depth && may_go (x.stack 0)) (edge (popped 1 x) (wants y) ∷ [])

-- push0: Int fits the new top; rest fits
unfoldable pub push0_rule : Row → Row → Rule
push0_rule x y = rule true (edge (pushed Int x) (wants y) ∷ [])

-- load v: Int, Top and what may be null fit both the next variable and the new top, a reference is split over them; rest fits
unfoldable pub load_rule : ℕ → Row → Row → Rule
load_rule v x y = rule true (edge (pushed (x.variable v) x) (wants_loaded v x y) ∷ [])

-- store v: the old variable may go; top fits the new one; rest fits
unfoldable pub store_rule : ℕ → Row → Row → Rule
store_rule v x y = rule (leb 1 x.depth && may_go (x.variable v)) (edge (popped 1 (stored v (x.stack 0) x)) (wants y) ∷ [])

-- if: top is Int; the rest fits row l+1 and the target's row
unfoldable pub if_rule : Row → Row → Row → Rule
if_rule x y z = rule (leb 1 x.depth && is_int (x.stack 0)) (edge (popped 1 x) (wants y) ∷ edge (popped 1 x) (wants z) ∷ [])

-- a lock that may be null, and wasn't, counts as its class with (0,0)
unfoldable pub unnulled : ℕ → Row → Row
unnulled v x = cond (is_nullable (x.variable v)) (stored v (made (class_of (x.variable v))) x) x

-- monitorenter v: a reference (d,e), or one that may be null, which counts as (0,0); next is its class, null or not, or Top, weight (d',e'); d ≥ d'-1 and e ≥ e'+1. Rest fits
unfoldable pub enter_rule : ℕ → ℕ → ℕ → ℕ → Row → Row → Row → Rule
enter_rule vars exception v h x y z =
    rule ((is_reference (x.variable v) || is_nullable (x.variable v)) && null_goes vars exception h (x.variable v) x)
    (edge (unnulled v x) (wants_at v (want_entered (y.variable v)) y) ∷ null_thrown exception h (x.variable v) x z)

-- monitorexit v: a reference (d,e); next is its class, null or not, or Top, weight (d',e'); d ≥ d'+1 and e ≥ e'-1. Rest fits
unfoldable pub exit_rule : ℕ → Row → Row → Rule
exit_rule v x y = rule (is_reference (x.variable v)) (edge x (wants_at v (want_exited (y.variable v)) y) ∷ [])

-- new c: in row l+1 the class with (0,0) fits the new top; rest fits; and it may fail
unfoldable pub new_rule : ℕ → ℕ → ℕ → ℕ → Row → Row → Row → Rule
new_rule vars exception c h x y z = rule (failure_goes vars exception h x) (edge (pushed (made c) x) (wants y) ∷ failure_thrown exception h x z)

-- an argument that start takes: it matches its descriptor, and may go
unfoldable pub argument_goes : (ℕ → ℕ) → Row → ℕ → Bool
argument_goes descriptor x j = matches (descriptor j) (x.stack j) && may_go (x.stack j)

-- .. and the object below them, a reference of class c that may go
unfoldable pub object_goes : ℕ → Row → ℕ → Bool
object_goes c x j = is_of c (x.stack j) && may_go (x.stack j)

unfoldable pub arguments_go : ℕ → (ℕ → ℕ) → Row → Bool
arguments_go args descriptor x = all_below args (argument_goes descriptor x)

-- start c: from the top, n entries matching c's descriptors, then a reference of class c; all may go; rest fits
unfoldable pub start_rule : ℕ → (ℕ → ℕ) → ℕ → Row → Row → Rule
start_rule args descriptor c x y =
    rule (leb (args + 1) x.depth && arguments_go args descriptor x && object_goes c x args) (edge (popped (args + 1) x) (wants y) ∷ [])

-- athrow: top is a reference of the exception class; the rest of the stack may go; the top is thrown
unfoldable pub throw_rule : ℕ → ℕ → ℕ → Row → Row → Rule
throw_rule vars exception h x z =
    rule (leb 1 x.depth && is_of exception (x.stack 0) && stack_goes (popped 1 x) && uncaught_goes vars h (x.stack 0) x) (thrown h (x.stack 0) x z)

-- return: every entry, variables and stack, may go
unfoldable pub return_rule : ℕ → Row → Rule
return_rule vars x = rule (stack_goes x && vars_go vars x) []

-- the owner of a field of class c: a reference of c, null or not, that may go (document 02, Q-8)
unfoldable pub owner_goes : ℕ → Entry → Bool
owner_goes c e = may_be_of c e && may_go e

-- getfield of a field of class c with descriptor d: the owner goes from the top, and what its field holds, as Int or its class, null or not, fits the next top; rest fits
unfoldable pub get_rule : ℕ → ℕ → ℕ → ℕ → ℕ → Row → Row → Row → Rule
get_rule vars exception c d h x y z =
    rule (leb 1 x.depth && owner_goes c (x.stack 0) && null_goes vars exception h (x.stack 0) x)
    (edge (pushed (field_entry d) (popped 1 x)) (wants y) ∷ null_thrown exception h (x.stack 0) x z)

-- putfield: the value, which matches the descriptor and may go, goes from the top, then the owner; rest fits
unfoldable pub put_rule : ℕ → ℕ → ℕ → ℕ → ℕ → Row → Row → Row → Rule
put_rule vars exception c d h x y z =
    rule (leb 2 x.depth && (matches_field d (x.stack 0) && may_go (x.stack 0)) && owner_goes c (x.stack 1) && null_goes vars exception h (x.stack 1) x)
    (edge (popped 2 x) (wants y) ∷ null_thrown exception h (x.stack 1) x z)

-- the rule of the instruction at address l
abbrev pub rule_of : Program → ℕ → (ℕ → Row) → ℕ → Instruction → Rule
rule_of P vars row l Inc = inc_rule (row l) (row (l + 1))
rule_of P vars row l Pop = pop_rule (row l) (row (l + 1))
rule_of P vars row l Push0 = push0_rule (row l) (row (l + 1))
rule_of P vars row l (Load v) = load_rule v.0 (row l) (row (l + 1))
rule_of P vars row l (Store v) = store_rule v.0 (row l) (row (l + 1))
rule_of P vars row l (If a) = if_rule (row l) (row (l + 1)) (row a.0)
rule_of P vars row l (Enter v h) = enter_rule vars P.exception v.0 h.0 (row l) (row (l + 1)) (row h.0)
rule_of P vars row l (Exit v) = exit_rule v.0 (row l) (row (l + 1))
rule_of P vars row l (New c h) = new_rule vars P.exception c h.0 (row l) (row (l + 1)) (row h.0)
rule_of P vars row l (Start c) = start_rule (P.method c).args (P.method c).descriptor c (row l) (row (l + 1))
rule_of P vars row l (Throw h) = throw_rule vars P.exception h.0 (row l) (row h.0)
rule_of P vars row l Return = return_rule vars (row l)
rule_of P vars row l (Get c f h) = get_rule vars P.exception c ((P.method c).field f) h.0 (row l) (row (l + 1)) (row h.0)
rule_of P vars row l (Put c f h) = put_rule vars P.exception c ((P.method c).field f) h.0 (row l) (row (l + 1)) (row h.0)
rule_of P vars row l Nothing = rule false []

-- the rule of address l of class c
abbrev pub rule_at : Typed → ℕ → ℕ → Rule
rule_at T c l = rule_of T.program (T.program.method c).vars (T.row c) l ((T.program.method c).instruction l)
