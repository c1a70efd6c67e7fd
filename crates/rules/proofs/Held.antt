-- What a rule that holds says, and all that it takes: what it asks, and that along each edge every offer fits what is wanted.
use mathlib.Core.List.{List, [], ◌∷◌}
use mathlib.Core.Path.{◌≡◌, refl}
use mathlib.Core.Bool.{true, ◌&&◌}
use Prim.Native.Nat.{ℕ, ◌≤◌, ◌<◌}
use lib.Dec.{leb, eqb}
use borrow.Author.Tests.{leb-true, le-leb, eqb-true, eq-eqb}
use Rattle.ground.specs.Chain.{refuse}
use Rattle.ground.proofs.Bools.{and-fst, and-snd}
use Rattle.ground.proofs.Chain.{scan-each, tested}
use Rattle.entries.specs.Entries.{Entry, dip_of, end_of}
use Rattle.entries.specs.Fits.{Want, compare}
use Rattle.matching.specs.Matching.{Edge, meets, is_short, first_short, variable_short, entry_short, edge_short}
use Rattle.matching.proofs.Scans.{not_short, nothing_then, then-zero, first-none}
use Rattle.rules.specs.Rule.{Rule, all_meet, met, short_along, short_of, rule_holds}

-- ---- one comparison
pub record Meets (x : Entry) (w : Want) : Type 0 where
  pub kind : w.kind x ≡ true
  pub dip : w.dip ≤ dip_of x
  pub end : w.end ≤ end_of x

pub compared : (x : Entry) (w : Want) → compare x w ≡ 0 → Meets x w
unfolding compare
compared x w h =
    let a = tested (w.kind x) _ _ h in
    let b = tested (leb w.dip (dip_of x)) _ _ a.1 in
    let c = tested (leb w.end (end_of x)) _ _ b.1 in
    record { kind = a.0; dip = leb-true _ _ b.0; end = leb-true _ _ c.0 }

pub meets-compared : (x : Entry) (w : Want) → Meets x w → compare x w ≡ 0
unfolding compare refuse
meets-compared x w m = rw (m.kind, le-leb w.dip (dip_of x) m.dip, le-leb w.end (end_of x) m.end)

-- ---- an edge
pub record Fits (vars : ℕ) (e : Edge) : Type 0 where
  pub depths : e.offered.depth ≡ e.wanted.depth
  pub variables : (i : ℕ) → i < vars → Meets (e.offered.variable i) (e.wanted.variable i)
  pub entries : (j : ℕ) → j < e.offered.depth → Meets (e.offered.stack j) (e.wanted.stack j)

first-each : (n : ℕ) (f : ℕ → ℕ) → first_short n f ≡ 0 → (i : ℕ) → i < n → f i ≡ 0
first-each n f h i l = not_short (f i) (scan-each is_short 0 refl f n (rw h) i l)

fits-edge : (vars : ℕ) (e : Edge) → meets e ≡ true → edge_short vars e ≡ 0 → Fits vars e
unfolding edge_short
fits-edge vars e m h =
    let z = then-zero (first_short vars (variable_short e)) (first_short e.offered.depth (entry_short e)) h in
    record {
      depths = eqb-true _ _ m;
      variables = λ i l. compared _ _ (first-each vars (variable_short e) z.0 i l);
      entries = λ j l. compared _ _ (first-each e.offered.depth (entry_short e) z.1 j l);
    }

edge-fits : (vars : ℕ) (e : Edge) → Fits vars e → (meets e ≡ true) × (edge_short vars e ≡ 0)
unfolding edge_short
edge-fits vars e f = (
  eq-eqb _ _ f.depths,
  rw (first-none vars (variable_short e) (λ i l. meets-compared _ _ (f.variables i l)), first-none e.offered.depth (entry_short e) (λ j l. meets-compared _ _ (f.entries j l)))
      (nothing_then 0),
)

-- ---- a rule
abbrev pub AllFit : ℕ → List Edge → Type 0
AllFit vars [] = Unit
AllFit vars (e ∷ es) = Fits vars e × AllFit vars es

all_fit : (vars : ℕ) (es : List Edge) → all_meet es ≡ true → short_along vars es ≡ 0 → AllFit vars es
all_fit vars [] m h = tt
all_fit vars (e ∷ es) m h =
    let z = then-zero (edge_short vars e) (short_along vars es) h in
    (fits-edge vars e (and-fst (meets e) (all_meet es) m) z.0, all_fit vars es (and-snd (meets e) (all_meet es) m) z.1)

fit_all : (vars : ℕ) (es : List Edge) → AllFit vars es → (all_meet es ≡ true) × (short_along vars es ≡ 0)
fit_all vars [] f = (refl, refl)
fit_all vars (e ∷ es) f =
    let g = edge-fits vars e f.0 in
    let h = fit_all vars es f.1 in
    (rw (g.0, h.0), rw (g.1, h.1) (nothing_then 0))

pub held : (vars : ℕ) (r : Rule) → rule_holds vars r ≡ true → (r.asks ≡ true) × AllFit vars r.edges
unfolding rule_holds met short_of
held vars r h =
    let a : (r.asks && all_meet r.edges) ≡ true = and-fst (r.asks && all_meet r.edges) (eqb (short_along vars r.edges) 0) h in (
      and-fst r.asks (all_meet r.edges) a,
      all_fit vars r.edges (and-snd r.asks (all_meet r.edges) a) (eqb-true _ _ (and-snd (r.asks && all_meet r.edges) (eqb (short_along vars r.edges) 0) h)),
    )

pub holds : (vars : ℕ) (r : Rule) → r.asks ≡ true → AllFit vars r.edges → rule_holds vars r ≡ true
unfolding rule_holds met short_of
holds vars r a f = let g = fit_all vars r.edges f in rw (a, g.0, g.1)
