-- The code's way along an edge is the edge's: its first comparison that isn't 0.
use mathlib.Core.Path.{◌≡◌, refl, sym, ap, ◌∙◌}
use mathlib.Core.Bool.{Bool, true, false, cond}
use Prim.Native.Nat.{ℕ, zero, suc, ◌+◌, ◌-◌}
use native.Mathlib.Numerals.{add-one}
use native.Mathlib.Omega.{arith}
use lib.Dec.{eqb}
use borrow.Author.Tests.{eqb-true, le-leb}
use Rattle.ground.specs.Chain.{refuse, scan}
use Rattle.entries.specs.Entries.{Entry, dip_of, end_of, is_reference}
use Rattle.entries.specs.Fits.{Want, compare, want, want_both, want_nothing}
use Rattle.rows.specs.Rows.{Row}
use Rattle.matching.specs.Matching.{under, popped, pushed, stored, emptied, wants, Wants, wants_at, wants_loaded, edge, then_short, first_short, edge_short}
use Rattle.matching.specs.Passes.{var_short, other_short, rest_short, vars_pass, others_pass, rest_pass, pass, pass_but}
use Rattle.matching.proofs.Scans.{nothing_then, then-nothing, first-same, first_then}

both-same : {a b c d : ℕ} → a ≡ b → c ≡ d → then_short a c ≡ then_short b d
both-same p q = rw (p, q)

nothing-short : (x : Entry) → compare x want_nothing ≡ 0
unfolding compare refuse
nothing-short x = rw (le-leb 0 (dip_of x) (omega arith), le-leb 0 (end_of x) (omega arith))

-- a stack with one entry more
top-then : (n : ℕ) (e : Entry) (f : ℕ → Entry) (w : Want) (g : ℕ → Want)
    → first_short (n + 1) (λ j. compare (under e f j) (under w g j)) ≡ then_short (compare e w) (first_short n (λ j. compare (f j) (g j)))
top-then n e f w g = rw add-one (first_then n (λ j. compare (under e f j) (under w g j)))

-- nothing left on the stack
pub rest-none : (a b : ℕ) (x y : Row) → x.depth - a ≡ 0 → 0 ≡ rest_pass a b x y
unfolding rest_pass scan
rest-none a b x y e = rw e

module _ (vars : ℕ) (x y : Row) where
  rest-as : (a b n : ℕ) (f : ℕ → ℕ) → n ≡ x.depth - a → ((j : ℕ) → f j ≡ rest_short a b x y j) → first_short n f ≡ rest_pass a b x y
  unfolding rest_pass
  rest-as a b n f q h = rw q (first-same f (rest_short a b x y) (x.depth - a) (λ j l. h j))

  -- the variable v has a comparison of its own, w
  others-as : (v w : ℕ) (f : ℕ → ℕ) → ((i : ℕ) → f i ≡ other_short v w x y i) → first_short vars f ≡ others_pass vars v w x y
  unfolding others_pass
  others-as v w f h = first-same f (other_short v w x y) vars (λ i l. h i)

  stack_at : (i j k l : ℕ) → i ≡ k → j ≡ l → compare (x.stack i) (want (y.stack j)) ≡ compare (x.stack k) (want (y.stack l))
  stack_at i j k l p q = rw (p, q)

  rest-0-0 : first_short x.depth (λ j. compare (x.stack j) (want (y.stack j))) ≡ rest_pass 0 0 x y
  rest-0-0 = rest-as 0 0 x.depth _ (omega arith) (λ j. stack_at j j (0 + j) (0 + j) (omega arith) (omega arith))

  rest-0-1 : first_short x.depth (λ j. compare (x.stack j) (want (y.stack (suc j)))) ≡ rest_pass 0 1 x y
  rest-0-1 = rest-as 0 1 x.depth _ (omega arith) (λ j. stack_at j (suc j) (0 + j) (1 + j) (omega arith) (omega arith))

  rest-a-0 : (a : ℕ) → first_short (x.depth - a) (λ j. compare (x.stack (a + j)) (want (y.stack j))) ≡ rest_pass a 0 x y
  rest-a-0 a = rest-as a 0 (x.depth - a) _ refl (λ j. stack_at (a + j) j (a + j) (0 + j) refl (omega arith))

  rest-a-1 : (a : ℕ) → first_short (x.depth - a) (λ j. compare (x.stack (a + j)) (want (y.stack (suc j)))) ≡ rest_pass a 1 x y
  rest-a-1 a = rest-as a 1 (x.depth - a) _ refl (λ j. stack_at (a + j) (suc j) (a + j) (1 + j) refl (omega arith))

  -- pop, if and start
  pub popped-edge : (a : ℕ) → edge_short vars (edge (popped a x) (wants y)) ≡ pass vars a 0 0 x y
  unfolding edge_short pass vars_pass
  popped-edge a = ap (then_short (first_short vars (var_short x y))) (rest-a-0 a ∙ sym (nothing_then _))

  as-under : (j : ℕ) → want (y.stack j) ≡ under (want (y.stack 0)) (λ j. want (y.stack (suc j))) j
  as-under zero = refl
  as-under (suc j) = refl

  -- the comparisons of a stack with e on top
  pushed-stack : (e : Entry) (n : ℕ) (f : ℕ → Entry)
      → first_short (n + 1) (λ j. compare (under e f j) (want (y.stack j))) ≡ then_short (compare e (want (y.stack 0))) (first_short n (λ j. compare (f j) (want (y.stack (suc j)))))
  pushed-stack e n f =
      first-same _ _ (n + 1) (λ j l. ap (compare (under e f j)) (as-under j)) ∙ top-then n e f (want (y.stack 0)) (λ j. want (y.stack (suc j)))

  -- push0 and new
  pub pushed-edge : (e : Entry) → edge_short vars (edge (pushed e x) (wants y)) ≡ pass vars 0 1 (compare e (want (y.stack 0))) x y
  unfolding edge_short pass vars_pass
  pushed-edge e =
      ap (then_short (first_short vars (var_short x y))) (pushed-stack e x.depth x.stack ∙ ap (then_short (compare e (want (y.stack 0)))) rest-0-1)

  -- inc
  pub replaced-edge : (e : Entry) → edge_short vars (edge (pushed e (popped 1 x)) (wants y)) ≡ pass vars 1 1 (compare e (want (y.stack 0))) x y
  unfolding edge_short pass vars_pass
  replaced-edge e =
      ap (then_short (first_short vars (var_short x y)))
      (pushed-stack e (x.depth - 1) (λ j. x.stack (1 + j)) ∙ ap (then_short (compare e (want (y.stack 0)))) (rest-a-1 1))

  -- store
  pub stored-edge : (v : ℕ) → edge_short vars (edge (popped 1 (stored v (x.stack 0) x)) (wants y)) ≡ pass_but vars v (compare (x.stack 0) (want (y.variable v))) 1 0 0 x y
  unfolding edge_short pass_but
  stored-edge v = both-same (others-as v _ _ (λ i. go i (eqb i v) refl)) (rest-a-0 1 ∙ sym (nothing_then _))
    where
      go : (i : ℕ) (t : Bool) → eqb i v ≡ t
          → compare (cond t (x.stack 0) (x.variable i)) (want (y.variable i)) ≡ cond t (compare (x.stack 0) (want (y.variable v))) (var_short x y i)
      go i true q = rw (eqb-true i v q)
      go i false q = refl

  -- a variable with a want of its own
  named : (v : ℕ) (w : Want) (i : ℕ) (t : Bool) → eqb i v ≡ t
      → compare (x.variable i) (cond t w (want (y.variable i))) ≡ cond t (compare (x.variable v) w) (var_short x y i)
  named v w i true q = rw (eqb-true i v q)
  named v w i false q = refl

  -- monitorenter and monitorexit
  pub moved-edge : (v : ℕ) (w : Want) → edge_short vars (edge x (wants_at v w y)) ≡ pass_but vars v (compare (x.variable v) w) 0 0 0 x y
  unfolding edge_short pass_but
  moved-edge v w = both-same (others-as v _ _ (λ i. named v w i (eqb i v) refl)) (rest-0-0 ∙ sym (nothing_then _))

  -- monitorenter on a variable that is e instead
  pub stored-moved-edge : (v : ℕ) (e : Entry) (w : Want) → edge_short vars (edge (stored v e x) (wants_at v w y)) ≡ pass_but vars v (compare e w) 0 0 0 x y
  unfolding edge_short pass_but
  stored-moved-edge v e w = both-same (others-as v _ _ (λ i. go i (eqb i v))) (rest-0-0 ∙ sym (nothing_then _))
    where
      go : (i : ℕ) (t : Bool) → compare (cond t e (x.variable i)) (cond t w (want (y.variable i))) ≡ cond t (compare e w) (var_short x y i)
      go i true = refl
      go i false = refl

  -- a reference's load
  abbrev wants_split : ℕ → Wants
  wants_split v =
      record {
        variable = (wants_at v (want_both (y.variable v) (y.stack 0)) y).variable;
        depth = y.depth;
        stack = under want_nothing (λ j. want (y.stack (suc j)));
      }

  split-edge : (v : ℕ) → edge_short vars (edge (pushed (x.variable v) x) (wants_split v)) ≡ pass_but vars v (compare (x.variable v) (want_both (y.variable v) (y.stack 0))) 0 1 0 x y
  unfolding edge_short pass_but
  split-edge v =
      both-same (others-as v _ _ (λ i. named v (want_both (y.variable v) (y.stack 0)) i (eqb i v) refl))
      (top-then x.depth (x.variable v) x.stack want_nothing (λ j. want (y.stack (suc j))) ∙ both-same (nothing-short (x.variable v)) rest-0-1)

  -- the variables alone
  pub emptied-edge : edge_short vars (edge (emptied x) (wants y)) ≡ vars_pass vars x y
  unfolding edge_short vars_pass scan
  emptied-edge = then-nothing (first_short vars (var_short x y))

  variables-then : (e : Entry) → edge_short vars (edge (pushed e (emptied x)) (wants y)) ≡ then_short (vars_pass vars x y) (compare e (want (y.stack 0)))
  unfolding edge_short vars_pass scan
  variables-then e = ap (then_short (first_short vars (var_short x y))) (pushed-stack e 0 x.stack ∙ then-nothing (compare e (want (y.stack 0))))

  -- to a handler: the variables, and then what is thrown, alone on the stack
  pub thrown-edge : (e : Entry) → edge_short vars (edge (pushed e (emptied x)) (wants y)) ≡ then_short (edge_short vars (edge (emptied x) (wants y))) (compare e (want (y.stack 0)))
  thrown-edge e = variables-then e ∙ sym (ap (λ w. then_short w (compare e (want (y.stack 0)))) emptied-edge)

  -- load, by what is loaded
  pub loaded-reference : (v : ℕ) → is_reference (x.variable v) ≡ true
      → edge_short vars (edge (pushed (x.variable v) x) (wants_loaded v x y)) ≡ pass_but vars v (compare (x.variable v) (want_both (y.variable v) (y.stack 0))) 0 1 0 x y
  unfolding wants_loaded
  loaded-reference v h = rw h (split-edge v)

  pub loaded-other : (v : ℕ) → is_reference (x.variable v) ≡ false
      → edge_short vars (edge (pushed (x.variable v) x) (wants_loaded v x y)) ≡ pass vars 0 1 (compare (x.variable v) (want (y.stack 0))) x y
  unfolding wants_loaded
  loaded-other v h = rw h (pushed-edge (x.variable v))
