-- Each shape of an edge under a lowering of the pairs: where it fits above, row l has above what the lower rows ask (`-forced`); where row l has it below too, the edge fits below (`-holds`).
use mathlib.Core.Path.{◌≡◌, refl}
use mathlib.Core.Bool.{Bool, true, false, cond}
use Prim.Native.Nat.{ℕ, zero, suc, ◌+◌, ◌-◌, ◌≤◌, ◌<◌}
use native.Mathlib.Omega.{arith}
use lib.Dec.{eqb}
use borrow.Author.Tests.{eqb-true, eq-eqb}
use Rattle.entries.specs.Entries.{Entry, class_of, is_reference, is_nullable}
use Rattle.entries.specs.Fits.{Want, want, want_entered, want_both}
use Rattle.entries.proofs.Types.{no-dip, no_end_lem}
use Rattle.rows.specs.Rows.{Row}
use Rattle.matching.specs.Matching.{under, popped, pushed, stored, wants, Wants, wants_at, wants_loaded, edge}
use Rattle.rules.specs.Rules.{made, unnulled}
use Rattle.rules.proofs.Held.{Meets, Fits}
use Rattle.needs.specs.Needs.{asked, fitting, gone, kept, kept_but, below, taken}
use Rattle.needs.specs.Exactly.{Under, UnderRow, Has, AllHave}
use Rattle.needs.proofs.Entries.{under-class, nullable-under, reference-under, plain-under, Lower, want-lower, entered-lower, both-lower, meets-forced, meets-holds, meets-same, null-weight}
use Rattle.needs.proofs.Rows.{taken-forced, taken-top, taken-holds, kept-forced, kept-holds, but-forced, but-holds}

module _ (vars : ℕ) (x x' y y' : Row) (u : UnderRow vars x x') (v : UnderRow vars y y') where
  -- ---- a entries go from the top: pop, if, start, putfield
  module _ (a : ℕ) (deep : a ≤ x'.depth) (f : Fits vars (edge (popped a x') (wants y'))) where
    popped-next : (j : ℕ) → j < x.depth - a → Under (y.stack j) (y'.stack j)
    popped-next j l = v.stack j (omega (arith, f.depths, u.depth, v.depth))

    popped-each : (j : ℕ) → j < x.depth - a → Meets (x'.stack (a + j)) (want (y'.stack j))
    popped-each j l = f.entries j (omega (arith, u.depth))

    pub popped-forced : ((j : ℕ) → j < a → Has gone (x'.stack j)) → AllHave vars x.depth (kept y) (taken gone a y.stack) x'
    popped-forced t =
        record {
          variable = kept-forced vars x x' u y y' v f.variables;
          stack = taken-forced vars x x' u a y.stack y'.stack popped-next popped-each gone t;
        }

    module _ (h : AllHave vars x.depth (kept y) (taken gone a y.stack) x) where
      pub popped-top : (j : ℕ) → j < a → Has gone (x.stack j)
      popped-top = taken-top vars x x' u a y.stack y'.stack popped-next popped-each gone (omega (arith, u.depth)) h.stack

      pub popped-holds : Fits vars (edge (popped a x) (wants y))
      popped-holds =
          record {
            depths = omega (arith, f.depths, u.depth, v.depth);
            variables = kept-holds vars x x' u y y' v f.variables h.variable;
            entries = taken-holds vars x x' u a y.stack y'.stack popped-next popped-each gone h.stack;
          }

  -- ---- e comes in the top's stead: inc, getfield
  module _ (e : Entry) (deep : 1 ≤ x'.depth) (f : Fits vars (edge (pushed e (popped 1 x')) (wants y'))) where
    replaced-next : (j : ℕ) → j < x.depth - 1 → Under (below y j) (below y' j)
    replaced-next j l = v.stack (suc j) (omega (arith, f.depths, u.depth, v.depth))

    replaced-each : (j : ℕ) → j < x.depth - 1 → Meets (x'.stack (1 + j)) (want (below y' j))
    replaced-each j l = f.entries (suc j) (omega (arith, u.depth))

    pub replaced-forced : Has gone (x'.stack 0) → AllHave vars x.depth (kept y) (taken gone 1 (below y)) x'
    replaced-forced t =
        record {
          variable = kept-forced vars x x' u y y' v f.variables;
          stack = taken-forced vars x x' u 1 (below y) (below y') replaced-next replaced-each gone (λ j l. let q : j ≡ 0 = omega arith in rw q t);
        }

    module _ (h : AllHave vars x.depth (kept y) (taken gone 1 (below y)) x) where
      pub replaced-top : Has gone (x.stack 0)
      replaced-top = taken-top vars x x' u 1 (below y) (below y') replaced-next replaced-each gone (omega (arith, u.depth)) h.stack 0 (omega arith)

      pub replaced-holds : Fits vars (edge (pushed e (popped 1 x)) (wants y))
      replaced-holds =
          record {
            depths = omega (arith, f.depths, u.depth, v.depth);
            variables = kept-holds vars x x' u y y' v f.variables h.variable;
            entries = entries;
          }
        where
          entries : (j : ℕ) → j < x.depth - 1 + 1 → Meets (under e (λ j. x.stack (1 + j)) j) (want (y.stack j))
          entries zero l = meets-same (want-lower (v.stack 0 (omega (arith, f.depths, u.depth, v.depth)))) (f.entries 0 (omega arith))
          entries (suc j) l = taken-holds vars x x' u 1 (below y) (below y') replaced-next replaced-each gone h.stack j (omega arith)

  -- ---- e comes on top: push0, new
  module _ (e : Entry) (f : Fits vars (edge (pushed e x') (wants y'))) where
    pushed-next : (j : ℕ) → j < x.depth → Under (below y j) (below y' j)
    pushed-next j l = v.stack (suc j) (omega (arith, f.depths, u.depth, v.depth))

    pub pushed-forced : AllHave vars x.depth (kept y) (λ j. fitting (below y j)) x'
    pushed-forced =
        record {
          variable = kept-forced vars x x' u y y' v f.variables;
          stack = λ j l. meets-forced (want-lower (pushed-next j l)) (f.entries (suc j) (omega (arith, u.depth)));
        }

    pub pushed-holds : AllHave vars x.depth (kept y) (λ j. fitting (below y j)) x → Fits vars (edge (pushed e x) (wants y))
    pushed-holds h =
        record {
          depths = omega (arith, f.depths, u.depth, v.depth);
          variables = kept-holds vars x x' u y y' v f.variables h.variable;
          entries = entries;
        }
      where
        entries : (j : ℕ) → j < x.depth + 1 → Meets (under e x.stack j) (want (y.stack j))
        entries zero l = meets-same (want-lower (v.stack 0 (omega (arith, f.depths, u.depth, v.depth)))) (f.entries 0 (omega arith))
        entries (suc j) l =
            let k : j < x.depth = omega arith in
            meets-holds (want-lower (pushed-next j k)) (u.stack j k) (f.entries (suc j) (omega (arith, u.depth))) (h.stack j k)

  -- ---- a variable w is named
  module _ (w : ℕ) (lw : w < vars) where
    -- of its own entry W is wanted: monitorexit, monitorenter on what can't be null
    module _ (W W' : Want) (lower : Lower W W') (f : Fits vars (edge x' (wants_at w W' y'))) where
      moved-next : (j : ℕ) → j < x.depth → Under (y.stack j) (y'.stack j)
      moved-next j l = v.stack j (omega (arith, f.depths, u.depth, v.depth))

      pub moved-forced : AllHave vars x.depth (kept_but w (asked W) y) (λ j. fitting (y.stack j)) x'
      moved-forced =
          record {
            variable = but-forced vars x x' u y y' v w W W' lower f.variables;
            stack = λ j l. meets-forced (want-lower (moved-next j l)) (f.entries j (omega (arith, u.depth)));
          }

      pub moved_holds : AllHave vars x.depth (kept_but w (asked W) y) (λ j. fitting (y.stack j)) x → Fits vars (edge x (wants_at w W y))
      moved_holds h =
          record {
            depths = omega (arith, f.depths, u.depth, v.depth);
            variables = but-holds vars x x' u y y' v w W W' lower f.variables h.variable;
            entries = λ j l. meets-holds (want-lower (moved-next j l)) (u.stack j l) (f.entries j (omega (arith, u.depth))) (h.stack j l);
          }

    -- store: the top comes there
    module _ (deep : 1 ≤ x'.depth) (f : Fits vars (edge (popped 1 (stored w (x'.stack 0) x')) (wants y'))) where
      stored_next : (j : ℕ) → j < x.depth - 1 → Under (y.stack j) (y'.stack j)
      stored_next j l = v.stack j (omega (arith, f.depths, u.depth, v.depth))

      stored-each : (j : ℕ) → j < x.depth - 1 → Meets (x'.stack (1 + j)) (want (y'.stack j))
      stored-each j l = f.entries j (omega (arith, u.depth))

      stored_there : Meets (x'.stack 0) (want (y'.variable w))
      stored_there = rw (eq-eqb w w refl) at (f.variables w lw)

      pub stored-forced : Has gone (x'.variable w) → AllHave vars x.depth (kept_but w gone y) (taken (kept y w) 1 y.stack) x'
      unfolding kept_but
      stored-forced t =
          record {
            variable = λ i l. go i l (eqb i w) refl (f.variables i l);
            stack = taken-forced vars x x' u 1 y.stack y'.stack stored_next stored-each (kept y w) (λ j l. let q : j ≡ 0 = omega arith in rw q (meets-forced (want-lower (v.variable w lw)) stored_there));
          }
        where
          go : (i : ℕ) → i < vars → (s : Bool) → eqb i w ≡ s → Meets (cond s (x'.stack 0) (x'.variable i)) (want (y'.variable i)) → Has (cond s gone (kept y i)) (x'.variable i)
          go i l true q k = rw (eqb-true i w q) t
          go i l false q k = meets-forced (want-lower (v.variable i l)) k

      module _ (h : AllHave vars x.depth (kept_but w gone y) (taken (kept y w) 1 y.stack) x) where
        pub stored-old : Has gone (x.variable w)
        unfolding kept_but
        stored-old = rw (eq-eqb w w refl) at (h.variable w lw)

        pub stored-holds : Fits vars (edge (popped 1 (stored w (x.stack 0) x)) (wants y))
        unfolding kept_but
        stored-holds =
            record {
              depths = omega (arith, f.depths, u.depth, v.depth);
              variables = λ i l. go i l (eqb i w) refl (f.variables i l) (h.variable i l);
              entries = taken-holds vars x x' u 1 y.stack y'.stack stored_next stored-each (kept y w) h.stack;
            }
          where
            top : Meets (x.stack 0) (want (y.variable w))
            top =
                meets-holds (want-lower (v.variable w lw)) (u.stack 0 (omega (arith, u.depth))) stored_there
                (taken-top vars x x' u 1 y.stack y'.stack stored_next stored-each (kept y w) (omega (arith, u.depth)) h.stack 0 (omega arith))

            go : (i : ℕ) → i < vars → (s : Bool) → eqb i w ≡ s → Meets (cond s (x'.stack 0) (x'.variable i)) (want (y'.variable i)) → Has (cond s gone (kept y i)) (x.variable i)
                → Meets (cond s (x.stack 0) (x.variable i)) (want (y.variable i))
            go i l true q k m = rw (eqb-true i w q) top
            go i l false q k m = meets-holds (want-lower (v.variable i l)) (u.variable i l) k m

    -- monitorenter, on what may be null or not
    abbrev W : Want
    W = want_entered (y.variable w)

    abbrev W' : Want
    W' = want_entered (y'.variable w)

    lowered : Lower W W'
    lowered = entered-lower (v.variable w lw)

    null-same : is_nullable (x.variable w) ≡ is_nullable (x'.variable w)
    null-same = nullable-under (u.variable w lw)

    pub entered-forced : Fits vars (edge (unnulled w x') (wants_at w W' y')) → AllHave vars x.depth (kept_but w (asked W) y) (λ j. fitting (y.stack j)) x'
    unfolding unnulled kept_but
    entered-forced f = go (is_nullable (x'.variable w)) refl f
      where
        null : is_nullable (x'.variable w) ≡ true → Fits vars (edge (stored w (made (class_of (x'.variable w))) x') (wants_at w W' y')) → AllHave vars x.depth (kept_but w (asked W) y) (λ j. fitting (y.stack j)) x'
        null n f =
            record {
              variable = λ i l. one i l (eqb i w) refl (f.variables i l);
              stack = λ j l. meets-forced (want-lower (v.stack j (omega (arith, f.depths, u.depth, v.depth)))) (f.entries j (omega (arith, u.depth)));
            }
          where
            one : (i : ℕ) → i < vars → (s : Bool) → eqb i w ≡ s → Meets (cond s (made (class_of (x'.variable w))) (x'.variable i)) (cond s W' (want (y'.variable i)))
                → Has (cond s (asked W) (kept y i)) (x'.variable i)
            one i l true q k =
                let h : Has (asked W) (made (class_of (x'.variable w))) = meets-forced lowered k in
                let z = null-weight (x'.variable w) n in
                rw (eqb-true i w q) (record { dip = omega (arith, h.dip, z.0); end = omega (arith, h.end, z.1) })
            one i l false q k = meets-forced (want-lower (v.variable i l)) k

        go : (t : Bool) → is_nullable (x'.variable w) ≡ t → Fits vars (edge (cond t (stored w (made (class_of (x'.variable w))) x') x') (wants_at w W' y'))
            → AllHave vars x.depth (kept_but w (asked W) y) (λ j. fitting (y.stack j)) x'
        go true n f = null n f
        go false n f = moved-forced W W' lowered f

    pub entered-holds : Fits vars (edge (unnulled w x') (wants_at w W' y')) → AllHave vars x.depth (kept_but w (asked W) y) (λ j. fitting (y.stack j)) x
        → Fits vars (edge (unnulled w x) (wants_at w W y))
    unfolding unnulled kept_but
    entered-holds f h = rw (null-same, under-class (u.variable w lw)) (go (is_nullable (x'.variable w)) f)
      where
        null : Fits vars (edge (stored w (made (class_of (x'.variable w))) x') (wants_at w W' y')) → Fits vars (edge (stored w (made (class_of (x'.variable w))) x) (wants_at w W y))
        null f =
            record {
              depths = omega (arith, f.depths, u.depth, v.depth);
              variables = λ i l. one i l (eqb i w) (f.variables i l) (h.variable i l);
              entries = λ j l. meets-holds (want-lower (v.stack j (omega (arith, f.depths, u.depth, v.depth)))) (u.stack j l) (f.entries j (omega (arith, u.depth))) (h.stack j l);
            }
          where
            one : (i : ℕ) → i < vars → (s : Bool) → Meets (cond s (made (class_of (x'.variable w))) (x'.variable i)) (cond s W' (want (y'.variable i)))
                → Has (cond s (asked W) (kept y i)) (x.variable i) → Meets (cond s (made (class_of (x'.variable w))) (x.variable i)) (cond s W (want (y.variable i)))
            one i l true k m = meets-same lowered k
            one i l false k m = meets-holds (want-lower (v.variable i l)) (u.variable i l) k m

        go : (t : Bool) → Fits vars (edge (cond t (stored w (made (class_of (x'.variable w))) x') x') (wants_at w W' y')) → Fits vars (edge (cond t (stored w (made (class_of (x'.variable w))) x) x) (wants_at w W y))
        go true f = null f
        go false f = moved_holds W W' lowered f h

    -- load: a reference is split over w and the new top, anything else fits both
    abbrev B : Want
    B = want_both (y.variable w) (y.stack 0)

    abbrev B' : Want
    B' = want_both (y'.variable w) (y'.stack 0)

    abbrev loaded : Row → Row → Want → Bool → Wants
    loaded r s b t =
        record {
          variable = cond t (wants_at w b s).variable (wants s).variable;
          depth = s.depth;
          stack = cond t (under (record { kind = λ x. true; dip = 0; end = 0 }) (λ j. want (s.stack (suc j)))) (wants s).stack;
        }

    module _ (t : Bool) (it : is_reference (x'.variable w) ≡ t) (f : Fits vars (edge (pushed (x'.variable w) x') (loaded x' y' B' t))) where
      filled : 0 < y.depth
      filled = omega (arith, f.depths, u.depth, v.depth)

      loaded-next : (j : ℕ) → j < x.depth → Under (below y j) (below y' j)
      loaded-next j l = v.stack (suc j) (omega (arith, f.depths, u.depth, v.depth))

      loaded-each : (j : ℕ) → j < x.depth → Meets (x'.stack j) (want (below y' j))
      loaded-each j l = go t (f.entries (suc j) (omega (arith, u.depth)))
        where
          go : (t : Bool) → Meets (x'.stack j) ((loaded x' y' B' t).stack (suc j)) → Meets (x'.stack j) (want (below y' j))
          go true k = k
          go false k = k

      pub split-forced : AllHave vars x.depth (kept_but w (asked B) y) (λ j. fitting (below y j)) x'
      unfolding kept_but
      split-forced = record { variable = λ i l. one t it i l (f.variables i l) (f.entries 0 (omega arith)) (eqb i w) refl; stack = λ j l. meets-forced (want-lower (loaded-next j l)) (loaded-each j l) }
        where
          sum : is_reference (x'.variable w) ≡ false → Meets (x'.variable w) (want (y'.variable w)) → Meets (x'.variable w) (want (y'.stack 0)) → Has (asked B) (x'.variable w)
          sum n k m =
              let p : Has (fitting (y.variable w)) (x'.variable w) = meets-forced (want-lower (v.variable w lw)) k in
              let q : Has (fitting (y.stack 0)) (x'.variable w) = meets-forced (want-lower (v.stack 0 filled)) m in
              let d = no-dip (x'.variable w) n in
              let e = no_end_lem (x'.variable w) n in
              record { dip = omega (arith, p.dip, q.dip, d); end = omega (arith, p.end, q.end, e) }

          one : (t : Bool) → is_reference (x'.variable w) ≡ t → (i : ℕ) → i < vars → Meets (x'.variable i) ((loaded x' y' B' t).variable i) → Meets (x'.variable w) ((loaded x' y' B' t).stack 0)
              → (s : Bool) → eqb i w ≡ s → Has (cond s (asked B) (kept y i)) (x'.variable i)
          one true n i l k m true q = rw (eqb-true i w q) (meets-forced (both-lower (v.variable w lw) (v.stack 0 filled)) (rw (eqb-true i w q, eq-eqb w w refl) at k))
          one true n i l k m false q = meets-forced (want-lower (v.variable i l)) (rw q at k)
          one false n i l k m true q = rw (eqb-true i w q) (sum n (rw (eqb-true i w q) at k) m)
          one false n i l k m false q = meets-forced (want-lower (v.variable i l)) k

      pub split-holds : AllHave vars x.depth (kept_but w (asked B) y) (λ j. fitting (below y j)) x → Fits vars (edge (pushed (x.variable w) x) (loaded x y B t))
      unfolding kept_but
      split-holds h =
          record {
            depths = omega (arith, f.depths, u.depth, v.depth);
            variables = λ i l. one t it i l (f.variables i l) (eqb i w) refl (h.variable i l);
            entries = entries;
          }
        where
          one : (t : Bool) → is_reference (x'.variable w) ≡ t → (i : ℕ) → i < vars → Meets (x'.variable i) ((loaded x' y' B' t).variable i)
              → (s : Bool) → eqb i w ≡ s → Has (cond s (asked B) (kept y i)) (x.variable i) → Meets (x.variable i) ((loaded x y B t).variable i)
          one true n i l k true q m =
              rw q (meets-holds (both-lower (v.variable w lw) (v.stack 0 filled)) (u.variable i l) (rw q at k) m)
          one true n i l k false q m = rw q (meets-holds (want-lower (v.variable i l)) (u.variable i l) (rw q at k) m)
          one false n i l k true q m =
              let p : x.variable w ≡ x'.variable w = plain-under (u.variable w lw) n in
              rw (eqb-true i w q, p) (meets-same (want-lower (v.variable w lw)) (rw (eqb-true i w q) at k))
          one false n i l k false q m = meets-holds (want-lower (v.variable i l)) (u.variable i l) k m

          top : (t : Bool) → is_reference (x'.variable w) ≡ t → Meets (x'.variable w) ((loaded x' y' B' t).stack 0) → Meets (x.variable w) ((loaded x y B t).stack 0)
          top true n k = record { kind = refl; dip = omega arith; end = omega arith }
          top false n k = let p : x.variable w ≡ x'.variable w = plain-under (u.variable w lw) n in rw p (meets-same (want-lower (v.stack 0 filled)) k)

          rest : (t : Bool) (j : ℕ) → Meets (x.stack j) (want (below y j)) → Meets (x.stack j) ((loaded x y B t).stack (suc j))
          rest true j k = k
          rest false j k = k

          entries : (j : ℕ) → j < x.depth + 1 → Meets (under (x.variable w) x.stack j) ((loaded x y B t).stack j)
          entries zero l = top t it (f.entries 0 (omega arith))
          entries (suc j) l =
              let k : j < x.depth = omega arith in
              rest t j (meets-holds (want-lower (loaded-next j k)) (u.stack j k) (loaded-each j k) (h.stack j k))

    pub loaded-forced : Fits vars (edge (pushed (x'.variable w) x') (wants_loaded w x' y')) → AllHave vars x.depth (kept_but w (asked B) y) (λ j. fitting (below y j)) x'
    unfolding wants_loaded
    loaded-forced f = split-forced (is_reference (x'.variable w)) refl f

    pub loaded-holds : Fits vars (edge (pushed (x'.variable w) x') (wants_loaded w x' y')) → AllHave vars x.depth (kept_but w (asked B) y) (λ j. fitting (below y j)) x
        → Fits vars (edge (pushed (x.variable w) x) (wants_loaded w x y))
    unfolding wants_loaded
    loaded-holds f h = rw (reference-under (u.variable w lw)) (split-holds (is_reference (x'.variable w)) refl f h)
