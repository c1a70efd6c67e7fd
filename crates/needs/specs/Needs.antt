-- Document 02, Q-5: what the rules ask of the pairs of row l, entry by entry, read off what they want of the rows that follow. That this is exactly what they ask of pairs is stated in `Exactly`; no promise speaks of it.
-- x is row l, y is row l+1, z the target's or the handler's row. What is no reference weighs (0,0), so that one number serves for every kind of next entry.
use Rattle.std.specs.Prelude.{cond, ℕ, suc, ◌+◌, ◌-◌, leb, ltb, eqb}
use Rattle.instructions.specs.declared.Instruction.{Instruction}
use Rattle.instructions.specs.declared.Instruction.TheVariants.{Inc, Pop, Push0, Load, Store, If, Enter, Exit, New, Start, Throw, Return, Get, Put, Nothing}
use Rattle.bundle.specs.Program.{Program}
use Rattle.entries.specs.Entries.{Entry, no_end, is_nullable}
use Rattle.entries.specs.Fits.{Want, want, want_entered, want_exited, want_both}
use Rattle.rows.specs.Rows.{Row}
use Rattle.needs.specs.declared.Pair.{Pair}

abbrev pub pair : ℕ → ℕ → Pair
pair d e = record { dip = d; end = e }

-- what a place wants, kind and class aside
abbrev pub asked : Want → Pair
asked w = pair w.dip w.end

-- fits
abbrev pub fitting : Entry → Pair
fitting y = asked (want y)

-- may go
abbrev pub gone : Pair
gone = pair 0 no_end

unfoldable pub greater : ℕ → ℕ → ℕ
greater a b = cond (leb a b) b a

-- where two rows ask, or a row and "may go": the greater of both
unfoldable pub both : Pair → Pair → Pair
both p q = pair (greater p.dip q.dip) (greater p.end q.end)

-- "the rest fits": variable i
abbrev pub kept : Row → ℕ → Pair
kept y i = fitting (y.variable i)

-- .. but for v, of which p is asked
unfoldable pub kept_but : ℕ → Pair → Row → ℕ → Pair
kept_but v p y i = cond (eqb i v) p (kept y i)

-- the stack without its top
abbrev pub below : Row → ℕ → Entry
below y j = y.stack (suc j)

-- the stack entry j: p of the a entries that go from the top; the others fit the entries f
unfoldable pub taken : Pair → ℕ → (ℕ → Entry) → ℕ → Pair
taken p a f j = cond (ltb j a) p (fitting (f (j - a)))

-- a throw: with a handler h, each variable fits its row, with none it may go
unfoldable pub thrown_var : ℕ → Row → ℕ → Pair
thrown_var h z i = cond (eqb h 0) gone (kept z i)

-- .. and what is thrown fits its only entry, or may go
unfoldable pub thrown_top : ℕ → Row → Pair
thrown_top h z = cond (eqb h 0) gone (fitting (z.stack 0))

-- .. of a stack: its top is thrown, the rest may go
unfoldable pub throw_need : ℕ → Row → ℕ → Pair
throw_need h z j = cond (eqb j 0) (thrown_top h z) gone

-- where e may be null, p is asked besides
unfoldable pub or_null : Entry → Pair → Pair → Pair
or_null e p q = cond (is_nullable e) (both p q) q

-- what the instruction at address l asks of variable i in row l
abbrev pub var_need : (ℕ → Row) → ℕ → Instruction → ℕ → Pair
var_need row l Inc i = kept (row (l + 1)) i
var_need row l Pop i = kept (row (l + 1)) i
var_need row l Push0 i = kept (row (l + 1)) i
var_need row l (Load v) i = kept_but v.0 (asked (want_both ((row (l + 1)).variable v.0) ((row (l + 1)).stack 0))) (row (l + 1)) i
var_need row l (Store v) i = kept_but v.0 gone (row (l + 1)) i
var_need row l (If a) i = both (kept (row (l + 1)) i) (kept (row a.0) i)
var_need row l (Enter v h) i =
    or_null ((row l).variable v.0) (thrown_var h.0 (row h.0) i) (kept_but v.0 (asked (want_entered ((row (l + 1)).variable v.0))) (row (l + 1)) i)
var_need row l (Exit v) i = kept_but v.0 (asked (want_exited ((row (l + 1)).variable v.0))) (row (l + 1)) i
var_need row l (New c h) i = both (thrown_var h.0 (row h.0) i) (kept (row (l + 1)) i)
var_need row l (Start c) i = kept (row (l + 1)) i
var_need row l (Throw h) i = thrown_var h.0 (row h.0) i
var_need row l Return i = gone
var_need row l (Get c f h) i = or_null ((row l).stack 0) (thrown_var h.0 (row h.0) i) (kept (row (l + 1)) i)
var_need row l (Put c f h) i = or_null ((row l).stack 1) (thrown_var h.0 (row h.0) i) (kept (row (l + 1)) i)
var_need row l Nothing i = gone

-- .. and of its stack entry j
abbrev pub stack_need : Program → (ℕ → Row) → ℕ → Instruction → ℕ → Pair
stack_need P row l Inc j = taken gone 1 (below (row (l + 1))) j
stack_need P row l Pop j = taken gone 1 (row (l + 1)).stack j
stack_need P row l Push0 j = fitting (below (row (l + 1)) j)
stack_need P row l (Load v) j = fitting (below (row (l + 1)) j)
stack_need P row l (Store v) j = taken (kept (row (l + 1)) v.0) 1 (row (l + 1)).stack j
stack_need P row l (If a) j = both (taken gone 1 (row (l + 1)).stack j) (taken gone 1 (row a.0).stack j)
stack_need P row l (Enter v h) j = or_null ((row l).variable v.0) gone (fitting ((row (l + 1)).stack j))
stack_need P row l (Exit v) j = fitting ((row (l + 1)).stack j)
stack_need P row l (New c h) j = both gone (fitting (below (row (l + 1)) j))
stack_need P row l (Start c) j = taken gone ((P.method c).args + 1) (row (l + 1)).stack j
stack_need P row l (Throw h) j = throw_need h.0 (row h.0) j
stack_need P row l Return j = gone
stack_need P row l (Get c f h) j = or_null ((row l).stack 0) gone (taken gone 1 (below (row (l + 1))) j)
stack_need P row l (Put c f h) j = or_null ((row l).stack 1) gone (taken gone 2 (row (l + 1)).stack j)
stack_need P row l Nothing j = gone

-- .. and of its entry s: first the V variables, then the stack from its top
unfoldable pub entry_need : Program → ℕ → (ℕ → Row) → ℕ → Instruction → ℕ → Pair
entry_need P vars row l i s = cond (ltb s vars) (var_need row l i s) (stack_need P row l i (s - vars))
