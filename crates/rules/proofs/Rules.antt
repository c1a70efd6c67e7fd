-- What rules ask, with depths as the code compares them; rulings of the throws; and a rule that never holds.
use mathlib.Core.Path.{◌≡◌, refl, sym, ◌∙◌}
use mathlib.Core.List.{[], ◌∷◌}
use mathlib.Core.Bool.{Bool, true, false, cond, ◌&&◌}
use Prim.Native.Nat.{ℕ, ◌+◌, ◌-◌, ◌≤◌, ◌<◌}
use native.Mathlib.Omega.{arith}
use lib.Dec.{eqb, leb}
use borrow.Author.Tests.{lt-leb, le-leb, eqb-true}
use Rattle.ground.specs.Chain.{refuse}
use Rattle.entries.specs.Entries.{Entry, kind_of, class_of, is_int, is_reference, is_nullable, is_of, field_entry, matches_field}
use Rattle.entries.specs.Fits.{may_go, compare, want, want_entered}
use Rattle.rows.specs.Rows.{Row}
use Rattle.matching.specs.Matching.{popped, pushed, stored, emptied, wants, wants_at, edge, then_short, edge_short, vars_go, stack_goes}
use Rattle.matching.proofs.Scans.{then-nothing}
use Rattle.matching.proofs.Edges.{thrown-edge}
use Rattle.rules.specs.Rule.{rule, all_meet, met, short_along, unmet, ruling}
use Rattle.rules.specs.Rules.{inc_rule, pop_rule, store_rule, if_rule, uncaught_goes, thrown, made, failure_goes, failure_thrown, new_rule, null_goes, null_thrown, unnulled, enter_rule, owner_goes, get_rule, put_rule, throw_rule, start_rule, arguments_go, object_goes}
use Rattle.rules.proofs.Judging.{judged, and-true, and_assoc, and-swap, ruling-one, ruling-any, ruling-more, met-one, met-two, met-any, met-more, popped-depth, popped-depths, replaced-depth}

pub inc-met : (x y : Row) → met (inc_rule x y) ≡ ((leb 1 x.depth && is_int (x.stack 0)) && eqb x.depth y.depth)
unfolding inc_rule
inc-met x y = met-one _ _ ∙ replaced-depth x.depth y.depth (is_int (x.stack 0))

pub pop-met : (x y : Row) → met (pop_rule x y) ≡ (may_go (x.stack 0) && eqb x.depth (y.depth + 1))
unfolding pop_rule
pop-met x y = met-one _ _ ∙ popped-depth x.depth y.depth (may_go (x.stack 0))

pub store-met : (v : ℕ) (x y : Row) → met (store_rule v x y) ≡ (may_go (x.variable v) && eqb x.depth (y.depth + 1))
unfolding store_rule
store-met v x y = met-one _ _ ∙ popped-depth x.depth y.depth (may_go (x.variable v))

pub if-met : (x y z : Row) → met (if_rule x y z) ≡ (is_int (x.stack 0) && (eqb x.depth (y.depth + 1) && eqb x.depth (z.depth + 1)))
unfolding if_rule
if-met x y z = met-two _ _ _ ∙ popped-depths x.depth y.depth z.depth (is_int (x.stack 0))

-- a stack never holds 256 entries, since its depth is a byte
pub start-too-many : (vars args : ℕ) (descriptor : ℕ → ℕ) (c : ℕ) (x y : Row) → x.depth < args + 1
    → ruling vars (start_rule args descriptor c x y) ≡ unmet
unfolding start_rule ruling met refuse
start-too-many vars args descriptor c x y l = rw (lt-leb (args + 1) x.depth l)

module _ (args : ℕ) (descriptor : ℕ → ℕ) (c : ℕ) (x y : Row) where
  pub start-few : (vars : ℕ) → x.depth ≤ args → ruling vars (start_rule args descriptor c x y) ≡ unmet
  unfolding start_rule ruling met refuse
  start-few vars l = rw (lt-leb (args + 1) x.depth (omega arith))

  pub start-met : args < x.depth → met (start_rule args descriptor c x y) ≡ ((arguments_go args descriptor x && object_goes c x args) && eqb (x.depth - (args + 1)) y.depth)
  unfolding start_rule
  start-met l = met-one _ _ ∙ rw (le-leb (args + 1) x.depth (omega arith))

-- ---- a throw of e, with the handler h: what goes uncaught is told together with the handler's depth, the variables apart from e
module _ (vars h : ℕ) (e : Entry) (x z : Row) where
  abbrev pub throw_met : Bool
  throw_met = cond (eqb h 0) (may_go e && vars_go vars x) (eqb 1 z.depth)

  abbrev pub throw_short : ℕ
  throw_short = cond (eqb h 0) 0 (then_short (edge_short vars (edge (emptied x) (wants z))) (compare e (want (z.stack 0))))

  throw-met : (uncaught_goes vars h e x && all_meet (thrown h e x z)) ≡ throw_met
  unfolding uncaught_goes thrown
  throw-met = go (eqb h 0)
    where
      go : (t : Bool) → (cond t (may_go e && vars_go vars x) true && all_meet (cond t [] (edge (pushed e (emptied x)) (wants z) ∷ []))) ≡ cond t (may_go e && vars_go vars x) (eqb 1 z.depth)
      go true = and-true _
      go false = and-true _

  pub throw-short : short_along vars (thrown h e x z) ≡ throw_short
  unfolding thrown
  throw-short = go (eqb h 0)
    where
      go : (t : Bool) → short_along vars (cond t [] (edge (pushed e (emptied x)) (wants z) ∷ [])) ≡ cond t 0 (then_short (edge_short vars (edge (emptied x) (wants z))) (compare e (want (z.stack 0))))
      go true = refl
      go false = then-nothing _ ∙ thrown-edge vars x z e

pub throw-rule-met : (vars exception h : ℕ) (x z : Row)
    → met (throw_rule vars exception h x z) ≡ ((leb 1 x.depth && is_of exception (x.stack 0) && stack_goes (popped 1 x)) && throw_met vars h (x.stack 0) x z)
unfolding throw_rule
throw-rule-met vars exception h x z = rw (← throw-met vars h (x.stack 0) x z) (met-any _ (uncaught_goes vars h (x.stack 0) x) (thrown h (x.stack 0) x z))

pub throw-ruling : (vars exception h : ℕ) (x z : Row)
    → ruling vars (throw_rule vars exception h x z)
    ≡ judged ((leb 1 x.depth && is_of exception (x.stack 0) && stack_goes (popped 1 x)) && throw_met vars h (x.stack 0) x z) (throw_short vars h (x.stack 0) x z)
unfolding throw_rule
throw-ruling vars exception h x z =
    rw (and_assoc (leb 1 x.depth && is_of exception (x.stack 0) && stack_goes (popped 1 x)) (uncaught_goes vars h (x.stack 0) x) (all_meet (thrown h (x.stack 0) x z)), throw-met vars h (x.stack 0) x z, throw-short vars h (x.stack 0) x z)
    at (ruling-any vars (leb 1 x.depth && is_of exception (x.stack 0) && stack_goes (popped 1 x) && uncaught_goes vars h (x.stack 0) x) (thrown h (x.stack 0) x z))

-- ---- a failed new: its throw, of the exception class with (0,0)
module _ (vars exception h : ℕ) (x z : Row) where
  abbrev pub failure_met : Bool
  failure_met = failure_goes vars exception h x && all_meet (failure_thrown exception h x z)

  abbrev pub failure_short : ℕ
  failure_short = short_along vars (failure_thrown exception h x z)

  pub failure-met : (stack_goes x && throw_met vars h (made exception) x z) ≡ failure_met
  unfolding failure_goes
  failure-met =
      rw (← throw-met vars h (made exception) x z) (sym (and_assoc (stack_goes x) (uncaught_goes vars h (made exception) x) (all_meet (failure_thrown exception h x z))))

  pub failure-short : throw_short vars h (made exception) x z ≡ failure_short
  failure-short = sym (throw-short vars h (made exception) x z)

  pub new-met : (c : ℕ) (y : Row) → met (new_rule vars exception c h x y z) ≡ (failure_met && eqb (x.depth + 1) y.depth)
  unfolding new_rule
  new-met c y = met-more _ _ _

  pub new-ruling : (c : ℕ) (y : Row)
      → judged (failure_met && eqb (x.depth + 1) y.depth) (then_short (edge_short vars (edge (pushed (made c) x) (wants y))) failure_short)
      ≡ ruling vars (new_rule vars exception c h x y z)
  unfolding new_rule
  new-ruling c y = sym (ruling-more vars (failure_goes vars exception h x) (edge (pushed (made c) x) (wants y)) (failure_thrown exception h x z))

-- ---- what may be null throws when it is
no-null : (e : Entry) → is_reference e ≡ true → is_nullable e ≡ false
no-null e p = rw (eqb-true (kind_of e) 3 p)

module _ (vars exception v h : ℕ) (x y z : Row) where
  -- a reference
  pub enter-level : is_reference (x.variable v) ≡ true → met (enter_rule vars exception v h x y z) ≡ eqb x.depth y.depth
  unfolding enter_rule null_goes null_thrown unnulled met
  enter-level p = rw (p, no-null (x.variable v) p) (and-true _)

  pub enter-edge : is_reference (x.variable v) ≡ true → then_short (edge_short vars (edge x (wants_at v (want_entered (y.variable v)) y))) 0 ≡ short_along vars (enter_rule vars exception v h x y z).edges
  unfolding enter_rule null_thrown unnulled
  enter-edge p = rw (no-null (x.variable v) p)

  -- one that may be null, or no reference at all
  pub enter-met : is_reference (x.variable v) ≡ false
      → met (enter_rule vars exception v h x y z) ≡ ((is_nullable (x.variable v) && failure_met vars exception h x z) && eqb x.depth y.depth)
  unfolding enter_rule null_goes null_thrown unnulled met
  enter-met p = rw p (go (is_nullable (x.variable v)))
    where
      go : (t : Bool)
          → ((t && cond t (failure_goes vars exception h x) true)
          && all_meet (edge (cond t (stored v (made (class_of (x.variable v))) x) x) (wants_at v (want_entered (y.variable v)) y) ∷ cond t (failure_thrown exception h x z) []))
          ≡ ((t && failure_met vars exception h x z) && eqb x.depth y.depth)
      go true = sym (and-swap (failure_goes vars exception h x) (all_meet (failure_thrown exception h x z)) (eqb x.depth y.depth))
      go false = refl

  pub enter-edges : is_nullable (x.variable v) ≡ true
      → then_short (edge_short vars (edge (stored v (made (class_of (x.variable v))) x) (wants_at v (want_entered (y.variable v)) y))) (failure_short vars exception h x z)
      ≡ short_along vars (enter_rule vars exception v h x y z).edges
  unfolding enter_rule null_thrown unnulled
  enter-edges p = rw p

  -- .. and the rulings of both
  pub enter-reference : is_reference (x.variable v) ≡ true
      → judged (eqb x.depth y.depth) (edge_short vars (edge x (wants_at v (want_entered (y.variable v)) y))) ≡ ruling vars (enter_rule vars exception v h x y z)
  unfolding enter_rule null_goes null_thrown unnulled
  enter-reference p = rw (p, no-null (x.variable v) p) (sym (ruling-one vars true _))

  pub enter-other : is_reference (x.variable v) ≡ false
      → judged ((is_nullable (x.variable v) && failure_met vars exception h x z) && eqb x.depth y.depth)
      (then_short (edge_short vars (edge (stored v (made (class_of (x.variable v))) x) (wants_at v (want_entered (y.variable v)) y))) (failure_short vars exception h x z))
      ≡ ruling vars (enter_rule vars exception v h x y z)
  unfolding enter_rule null_goes null_thrown unnulled ruling met refuse
  enter-other p = rw p (go (is_nullable (x.variable v)))
    where
      go : (t : Bool)
          → judged ((t && failure_met vars exception h x z) && eqb x.depth y.depth)
          (then_short (edge_short vars (edge (stored v (made (class_of (x.variable v))) x) (wants_at v (want_entered (y.variable v)) y))) (failure_short vars exception h x z))
          ≡ ruling vars
          (rule (t && cond t (failure_goes vars exception h x) true)
          (edge (cond t (stored v (made (class_of (x.variable v))) x) x) (wants_at v (want_entered (y.variable v)) y) ∷ cond t (failure_thrown exception h x z) []))
      go true =
          sym (ruling-more vars (failure_goes vars exception h x) (edge (stored v (made (class_of (x.variable v))) x) (wants_at v (want_entered (y.variable v)) y)) (failure_thrown exception h x z))
      go false = refl

module _ (vars exception c d h : ℕ) (x y z : Row) where
  abbrev pub null_met : Entry → Bool
  null_met e = null_goes vars exception h e x && all_meet (null_thrown exception h e x z)

  abbrev pub null_short : Entry → ℕ
  null_short e = short_along vars (null_thrown exception h e x z)

  pub get-met : met (get_rule vars exception c d h x y z) ≡ (((leb 1 x.depth && owner_goes c (x.stack 0)) && null_met (x.stack 0)) && eqb (x.depth - 1 + 1) y.depth)
  unfolding get_rule
  get-met =
      rw (← and_assoc (leb 1 x.depth && owner_goes c (x.stack 0)) (null_goes vars exception h (x.stack 0) x) (all_meet (null_thrown exception h (x.stack 0) x z)))
      (met-more _ _ _)

  pub get-ruling : judged
      (((leb 1 x.depth && owner_goes c (x.stack 0)) && null_met (x.stack 0)) && eqb (x.depth - 1 + 1) y.depth)
      (then_short (edge_short vars (edge (pushed (field_entry d) (popped 1 x)) (wants y))) (null_short (x.stack 0)))
      ≡ ruling vars (get_rule vars exception c d h x y z)
  unfolding get_rule
  get-ruling =
      rw (← and_assoc (leb 1 x.depth && owner_goes c (x.stack 0)) (null_goes vars exception h (x.stack 0) x) (all_meet (null_thrown exception h (x.stack 0) x z)))
      (sym (ruling-more vars _ (edge (pushed (field_entry d) (popped 1 x)) (wants y)) (null_thrown exception h (x.stack 0) x z)))

  pub put-met : met (put_rule vars exception c d h x y z)
      ≡ (((leb 2 x.depth && (matches_field d (x.stack 0) && may_go (x.stack 0)) && owner_goes c (x.stack 1)) && null_met (x.stack 1)) && eqb (x.depth - 2) y.depth)
  unfolding put_rule
  put-met =
      rw (← and_assoc (leb 2 x.depth && (matches_field d (x.stack 0) && may_go (x.stack 0)) && owner_goes c (x.stack 1)) (null_goes vars exception h (x.stack 1) x) (all_meet (null_thrown exception h (x.stack 1) x z)))
      (met-more _ _ _)

  pub put-ruling : judged
      (((leb 2 x.depth && (matches_field d (x.stack 0) && may_go (x.stack 0)) && owner_goes c (x.stack 1)) && null_met (x.stack 1)) && eqb (x.depth - 2) y.depth)
      (then_short (edge_short vars (edge (popped 2 x) (wants y))) (null_short (x.stack 1)))
      ≡ ruling vars (put_rule vars exception c d h x y z)
  unfolding put_rule
  put-ruling =
      rw (← and_assoc (leb 2 x.depth && (matches_field d (x.stack 0) && may_go (x.stack 0)) && owner_goes c (x.stack 1)) (null_goes vars exception h (x.stack 1) x) (all_meet (null_thrown exception h (x.stack 1) x z)))
      (sym (ruling-more vars _ (edge (popped 2 x) (wants y)) (null_thrown exception h (x.stack 1) x z)))
