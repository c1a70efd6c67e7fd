-- What a ruling says of its rule; rulings of rules with one edge and with two.
use mathlib.Core.List.{List, [], ◌∷◌}
use mathlib.Core.Path.{◌≡◌, refl, sym, ap, ◌∙◌}
use Rattle.std.proofs.Common.{Result, Ok, Err}
use Rattle.std.specs.Result.{IsErrAnd}
use Rattle.entries.specs.Shorts.{short_number}
use Rattle.entries.specs.declared.Short.{Short}
use Rattle.entries.specs.declared.Short.TheVariants.{Kind, Dip, End}
use Rattle.verdicts.specs.declared.Why.{Why}
use Rattle.verdicts.specs.declared.Why.TheVariants.{Unmet, Misfit}
use mathlib.Core.Bool.{Bool, true, false, cond, ◌&&◌}
use Prim.Native.Nat.{ℕ, ◌+◌, ◌-◌, ◌≤◌}
use native.Mathlib.Omega.{arith}
use lib.Dec.{eqb, leb}
use borrow.Author.Tests.{eqb-true, eqb-false, eq-eqb, ne_eqb, le-leb, leb-true}
use Rattle.ground.proofs.Bools.{and-false, never}
use Rattle.ground.specs.Chain.{refuse, or_then}
use Rattle.entries.proofs.Types.{compare-few}
use Rattle.matching.specs.Matching.{Edge, meets, then_short, edge_short, variable_short, entry_short}
use Rattle.matching.proofs.Scans.{then-nothing, then-few, first-few}
use Rattle.rules.specs.Rule.{Rule, Ruling, rule, all_meet, met, short_along, short_of, rule_holds, why, unmet, ruling, ruling_in, asked}

-- a ruling of what is asked, and of the comparisons
abbrev pub judged : Bool → ℕ → Ruling
judged a w = refuse a unmet (record { met = true; short = w })

module _ (vars : ℕ) (r : Rule) where
  pub ruling-holds : ((ruling vars r).met && eqb (ruling vars r).short 0) ≡ rule_holds vars r
  unfolding ruling rule_holds refuse
  ruling-holds = go (met r)
    where
      go : (t : Bool) → ((refuse t unmet (record { met = true; short = short_of vars r })).met && eqb (refuse t unmet (record { met = true; short = short_of vars r })).short 0) ≡ (t && eqb (short_of vars r) 0)
      go true = refl
      go false = refl

  pub ruling-why : (ruling vars r).short ≡ why vars r
  unfolding ruling why refuse
  ruling-why = go (met r)
    where
      go : (t : Bool) → (refuse t unmet (record { met = true; short = short_of vars r })).short ≡ cond t (short_of vars r) 0
      go true = refl
      go false = refl

-- THEOREM: why is 0 to 3
along-few : (vars : ℕ) (es : List Edge) → short_along vars es ≤ 3
unfolding edge_short
along-few vars [] = omega arith
along-few vars (e ∷ es) =
    then-few _ _
    (then-few _ _ (first-few vars (variable_short e) (λ i. compare-few _ _)) (first-few e.offered.depth (entry_short e) (λ j. compare-few _ _)))
    (along-few vars es)

pub why-few : (vars : ℕ) (r : Rule) → why vars r ≤ 3
unfolding why short_of
why-few vars r = go (met r)
  where
    go : (t : Bool) → cond t (short_along vars r.edges) 0 ≤ 3
    go true = along-few vars r.edges
    go false = omega arith

pub and-true : (a : Bool) → (a && true) ≡ a
and-true true = refl
and-true false = refl

pub and_assoc : (a b c : Bool) → ((a && b) && c) ≡ (a && (b && c))
and_assoc true b c = refl
and_assoc false b c = refl

pub and-swap : (a b c : Bool) → ((a && b) && c) ≡ (a && (c && b))
and-swap true true true = refl
and-swap true true false = refl
and-swap true false true = refl
and-swap true false false = refl
and-swap false b c = refl

module _ (vars : ℕ) (a : Bool) where
  pub ruling-none : ruling vars (rule a []) ≡ judged a 0
  unfolding ruling met short_of
  ruling-none = rw (and-true a)

  pub ruling-one : (e : Edge) → ruling vars (rule a (e ∷ [])) ≡ judged (a && meets e) (edge_short vars e)
  unfolding ruling met short_of
  ruling-one e = rw (and-true (meets e), then-nothing (edge_short vars e))

  -- any number of edges
  pub ruling-any : (es : List Edge) → ruling vars (rule a es) ≡ judged (a && all_meet es) (short_along vars es)
  unfolding ruling met short_of
  ruling-any es = refl

  -- any number of edges after the first
  pub ruling-more : (e : Edge) (es : List Edge) → ruling vars (rule a (e ∷ es)) ≡ judged ((a && all_meet es) && meets e) (then_short (edge_short vars e) (short_along vars es))
  unfolding ruling met short_of
  ruling-more e es = rw (and-swap a (all_meet es) (meets e))

-- ---- what the code answers: what is asked stands in a flag b, and comparisons follow
pub answered : {E : Type 0} (v : Result Unit E) {w : E} → IsErrAnd v (λ y. y ≡ w) → v ≡ Err w
answered (Ok x) h = absurd h
answered (Err y) h = ap Err h

-- the flag did not hold, or it did
not_asked : (b : Bool) {w : Why} → Err w ≡ asked b → (b ≡ false) × (w ≡ Unmet)
not_asked true h = cc
not_asked false h = (refl, cc)

pub was_asked : (b : Bool) {u : Unit} → Ok u ≡ asked b → b ≡ true
was_asked true h = refl
was_asked false h = cc

module _ (vars : ℕ) (r : Rule) {b : Bool} (p : b ≡ met r) where
  pub answer-unmet : {w : Why} (v : Result Unit Why) → Err w ≡ asked b → IsErrAnd v (λ y. y ≡ w) → ruling_in v ≡ ruling vars r
  unfolding ruling refuse
  answer-unmet v a i = let n = not_asked b a in rw (answered v i, n.1, ← p, n.0)

  pub answer-short : {u : Unit} (s : Short) (v : Result Unit Why) → Ok u ≡ asked b → short_number s ≡ short_along vars r.edges → IsErrAnd v (λ y. y ≡ Misfit s) → ruling_in v ≡ ruling vars r
  unfolding ruling short_of refuse
  answer-short s v a n i = rw (answered v i, n, ← p, was_asked b a)

  pub answer-fits : {u : Unit} → Ok u ≡ asked b → 0 ≡ short_along vars r.edges → ruling_in (Ok tt) ≡ ruling vars r
  unfolding ruling short_of refuse
  answer-fits a n = rw (← n, ← p, was_asked b a)

-- .. and none follows
pub answer-asked : (vars : ℕ) {a b : Bool} (v : Result Unit Why) → b ≡ a → v ≡ asked b → ruling_in v ≡ ruling vars (rule a [])
unfolding ruling met short_of refuse
answer-asked vars {a} v p q = rw (q, p) (go a)
  where
    go : (t : Bool) → ruling_in (asked t) ≡ refuse (t && true) unmet (record { met = true; short = 0 })
    go true = refl
    go false = refl

-- the first of two edges falls short, or fits and the other follows
pub short-then : (s : Short) {n : ℕ} (m : ℕ) → short_number s ≡ n → short_number s ≡ then_short n m
unfolding or_then
short-then Kind m h = rw (← h)
short-then Dip m h = rw (← h)
short-then End m h = rw (← h)

pub fits-then : {k n m : ℕ} → 0 ≡ n → k ≡ m → k ≡ then_short n m
unfolding or_then
fits-then h q = rw (← h) q

-- ---- what is asked and what is short, apart; depths come last in what is met
module _ (a : Bool) where
  pub met-one : (e : Edge) → met (rule a (e ∷ [])) ≡ (a && meets e)
  unfolding met
  met-one e = rw (and-true (meets e))

  pub met-two : (e f : Edge) → met (rule a (e ∷ f ∷ [])) ≡ (a && (meets e && meets f))
  unfolding met
  met-two e f = rw (and-true (meets f))

  pub short-one : (vars : ℕ) (e : Edge) → short_of vars (rule a (e ∷ [])) ≡ edge_short vars e
  unfolding short_of
  short-one vars e = then-nothing (edge_short vars e)

  pub short-two : (vars : ℕ) (e f : Edge) → short_of vars (rule a (e ∷ f ∷ [])) ≡ then_short (edge_short vars e) (edge_short vars f)
  unfolding short_of
  short-two vars e f = rw (then-nothing (edge_short vars f))

  -- any number of edges
  pub met-any : (b : Bool) (es : List Edge) → met (rule (a && b) es) ≡ (a && (b && all_meet es))
  unfolding met
  met-any b es = and_assoc a b (all_meet es)

  -- any number of edges after the first
  pub met-more : (e : Edge) (es : List Edge) → met (rule a (e ∷ es)) ≡ ((a && all_meet es) && meets e)
  unfolding met
  met-more e es = sym (and-swap a (all_meet es) (meets e))

-- ---- depths: d is row l's, e and f are those of rows that are reached
-- a pop asks for one entry, and leaves one less
pub popped-depth : (d e : ℕ) (x : Bool) → ((leb 1 d && x) && eqb (d - 1) e) ≡ (x && eqb d (e + 1))
popped-depth d e x = go (eqb d (e + 1)) refl (leb 1 d) refl
  where
    go : (t : Bool) → eqb d (e + 1) ≡ t → (u : Bool) → leb 1 d ≡ u → ((u && x) && eqb (d - 1) e) ≡ (x && t)
    go true q true p = rw (eq-eqb (d - 1) e (omega (arith, eqb-true d (e + 1) q)))
    go true q false p = never (le-leb 1 d (omega (arith, eqb-true d (e + 1) q))) p
    go false q true p = rw (ne_eqb (d - 1) e (λ h. eqb-false d (e + 1) q (omega (arith, h, leb-true 1 d p)))) (and-false (x) ∙ sym (and-false x))
    go false q false p = sym (and-false x)

-- .. to two rows
pub popped-depths : (d e f : ℕ) (x : Bool) → ((leb 1 d && x) && (eqb (d - 1) e && eqb (d - 1) f)) ≡ (x && (eqb d (e + 1) && eqb d (f + 1)))
popped-depths d e f x = go (leb 1 d) refl
  where
    one : leb 1 d ≡ true → (e : ℕ) → eqb (d - 1) e ≡ eqb d (e + 1)
    one p e = rw p at (popped-depth d e true)

    none : leb 1 d ≡ false → (e : ℕ) → false ≡ eqb d (e + 1)
    none p e = rw p at (popped-depth d e true)

    go : (u : Bool) → leb 1 d ≡ u → ((u && x) && (eqb (d - 1) e && eqb (d - 1) f)) ≡ (x && (eqb d (e + 1) && eqb d (f + 1)))
    go true p = rw (one p e, one p f)
    go false p = rw (← none p e) (sym (and-false x))

-- a pop and a push leave as many
pub replaced-depth : (d e : ℕ) (x : Bool) → ((leb 1 d && x) && eqb (d - 1 + 1) e) ≡ ((leb 1 d && x) && eqb d e)
replaced-depth d e x = go (leb 1 d) refl
  where
    go : (u : Bool) → leb 1 d ≡ u → ((u && x) && eqb (d - 1 + 1) e) ≡ ((u && x) && eqb d e)
    go true p = let q : d - 1 + 1 ≡ d = omega (arith, leb-true 1 d p) in rw q
    go false p = refl

abbrev pub found : ℕ → Ruling
found w = record { met = true; short = w }
