-- A choice of a bundle that is well formed pair bytes aside is well formed; two choices, one below the other, have rows one under the other.
use mathlib.Core.List.{List}
use mathlib.Core.Path.{◌≡◌, refl, sym, ap, ◌∙◌}
use mathlib.Core.Bool.{Bool, true, false, cond, ◌&&◌}
use Prim.Native.Nat.{ℕ, ◌+◌, ◌*◌, ◌-◌, ◌≤◌, ◌<◌}
use native.Mathlib.Omega.{arith}
use native.Mathlib.Decide.{ℕ_discrete, dec_lt}
use lib.Dec.{ltb, eqb}
use borrow.Author.Tests.{le-leb, lt-ltb, le-ltb, ltb-true, eq-eqb, ne_eqb}
use Rattle.ground.specs.Bytes.{at}
use Rattle.ground.specs.Chain.{refuse}
use Rattle.ground.proofs.Bools.{and-fst, and-snd, and_both, never}
use Rattle.ground.proofs.Bounded.{all-elim, all-intro}
use Rattle.bundle.specs.declared.Class.{Class}
use Rattle.bundle.specs.Container.{classes, class_at, size, part_of}
use Rattle.entries.specs.Entries.{Entry, Ref, Malformed, min_end, pair_ok, entry_of, is_type, is_blank}
use Rattle.rows.specs.Rows.{Row, row_start, row_at}
use Rattle.forms.specs.Forms.{var_formed, entry_formed, vars_formed, stack_formed, row_formed}
use Rattle.shape.specs.PairBytes.{behind, place_in, place_of, depth_of, InUse, Reference}
use Rattle.shape.specs.Shape.{aside, entry_aside, variable_aside, stack_aside, row_aside}
use Rattle.shape.specs.Apart.{Readable}
use Rattle.shape.proofs.Places.{place-high}
use Rattle.shape.proofs.Readable.{part-byte, part-long, row-shaped, depth_limit, extent}
use Rattle.needs.specs.Exactly.{Under, same, less, UnderRow}
use Rattle.choices.specs.Choice.{Choice, Below}
use Rattle.choices.proofs.Choices.{reference-is, entry-x, kind-same, kind-class-same, entry-b, variable-x, stack-x, depth_same}

-- ---- an entry with its pair aside
module _ (n a c d e : ℕ) where
  typed-pair : is_type (entry_of n 3 c 0 min_end) ≡ true → c < n
  unfolding entry_of pair_ok refuse
  typed-pair h = go (ltb c n) refl h
    where
      go : (t : Bool) → ltb c n ≡ t → is_type (cond (t && true && true && true) (Ref c 0 1) Malformed) ≡ true → c < n
      go true q f = ltb-true c n q
      go false q f = never f refl

  pub aside-class : a ≡ 3 → is_type (aside n a c d e) ≡ true → c < n
  unfolding aside
  aside-class q h = typed-pair (rw (eq-eqb a 3 q) at h)

  pub aside-plain : (a ≡ 3 → ⊥) → aside n a c d e ≡ entry_of n a c d e
  unfolding aside
  aside-plain q = rw (ne_eqb a 3 q)

  blank-pair : is_blank (entry_of n 3 c 0 min_end) ≡ true → ⊥
  unfolding entry_of pair_ok refuse
  blank-pair h = go (ltb c n) h
    where
      go : (t : Bool) → is_blank (cond (t && true && true && true) (Ref c 0 1) Malformed) ≡ true → ⊥
      go true f = never f refl
      go false f = never f refl

  -- what stands below the depth in use is of no kind 3
  pub aside-blank : is_blank (aside n a c d e) ≡ true → is_blank (entry_of n a c d e) ≡ true
  unfolding aside
  aside-blank h = go (eqb a 3) h
    where
      go : (t : Bool) → is_blank (cond t (entry_of n 3 c 0 min_end) (entry_of n a c d e)) ≡ true → is_blank (entry_of n a c d e) ≡ true
      go true f = absurd (blank-pair f)
      go false f = f

-- ---- what a well-formed row is
module _ (vars limit : ℕ) (x : Row) (h : row_formed vars limit x ≡ true) where
  formed-variable : (i : ℕ) → i < vars → is_type (x.variable i) ≡ true
  unfolding row_formed vars_formed
  formed-variable = all-elim (var_formed x) vars (search (and-fst, and-snd))

  formed-used : (j : ℕ) → j < x.depth → j < limit → is_type (x.stack j) ≡ true
  unfolding row_formed stack_formed entry_formed
  formed-used j u l = rw (lt-ltb j x.depth u) at (all-elim (entry_formed x) limit (search (and-fst, and-snd)) j l)

  formed-unused : (j : ℕ) → x.depth ≤ j → j < limit → is_blank (x.stack j) ≡ true
  unfolding row_formed stack_formed entry_formed
  formed-unused j u l = rw (le-ltb j x.depth u) at (all-elim (entry_formed x) limit (search (and-fst, and-snd)) j l)

module _ (b : List ℕ) (R : Readable b) (c : ℕ) (lc : c < classes b) where
  abbrev k : Class
  k = class_at b c

  module _ (l : ℕ) (low : 1 ≤ l) (high : l ≤ k.code) where
    abbrev P : ℕ → ℕ
    P s = place_of b c l s

    abbrev n : ℕ
    n = classes b

    -- the four bytes as they came, pair bytes aside
    abbrev aside_b : ℕ → Entry
    aside_b s = aside n (at b (P s)) (at b (P s + 1)) (at b (P s + 2)) (at b (P s + 3))

    entry-aside : (s : ℕ) → s < k.vars + k.limit → entry_aside n (part_of b k) (place_in k l s) ≡ aside_b s
    unfolding entry_aside place_of refuse
    entry-aside s h =
        let f = extent b R c lc in
        let t1 = place-high k l low high s 1 h (omega arith) in
        let t2 = place-high k l low high s 2 h (omega arith) in
        let t3 = place-high k l low high s 3 h (omega arith) in
        let e0 : at (part_of b k) (place_in k l s) ≡ at b (k.offset + place_in k l s) = part-byte b k f (place_in k l s) (omega arith) in
        let e1 : at (part_of b k) (place_in k l s + 1) ≡ at b (k.offset + place_in k l s + 1) = part-byte b k f (place_in k l s + 1) t1 ∙ ap (at b) (omega arith) in
        let e2 : at (part_of b k) (place_in k l s + 2) ≡ at b (k.offset + place_in k l s + 2) = part-byte b k f (place_in k l s + 2) t2 ∙ ap (at b) (omega arith) in
        let e3 : at (part_of b k) (place_in k l s + 3) ≡ at b (k.offset + place_in k l s + 3) = part-byte b k f (place_in k l s + 3) t3 ∙ ap (at b) (omega arith) in
        rw (part-long b k f, lt-ltb (place_in k l s + 3) (size k) t3, e0, e1, e2, e3)

    variable-place : (i : ℕ) → i < k.vars → row_start k l + 4 * i ≡ place_in k l i
    unfolding place_in behind
    variable-place i h = rw (lt-ltb i k.vars h) (omega arith)

    stack-place : (j : ℕ) → row_start k l + 4 * k.vars + 1 + 4 * j ≡ place_in k l (k.vars + j)
    unfolding place_in behind
    stack-place j = rw (le-ltb (k.vars + j) k.vars (omega arith)) (omega arith)

    abbrev shape : Row
    shape = row_aside n k (part_of b k) (row_start k l)

    shape-variable : (i : ℕ) → i < k.vars → shape.variable i ≡ aside_b i
    unfolding variable_aside
    shape-variable i h = ap (entry_aside n (part_of b k)) (variable-place i h) ∙ entry-aside i (omega arith)

    shape-stack : (j : ℕ) → j < k.limit → shape.stack j ≡ aside_b (k.vars + j)
    unfolding stack_aside refuse
    shape-stack j h = rw (lt-ltb j k.limit h) (ap (entry_aside n (part_of b k)) (stack-place j) ∙ entry-aside (k.vars + j) (omega arith))

    used-shaped : (s : ℕ) → s < k.vars + depth_of b c l → is_type (aside_b s) ≡ true
    unfolding depth_of
    used-shaped s u = go (dec_lt s k.vars)
      where
        go : Dec (s < k.vars) → is_type (aside_b s) ≡ true
        go (yes h) = rw (shape-variable s h) at (formed-variable k.vars k.limit shape (row-shaped b R c l lc low high) s h)
        go (no h) =
            let e : k.vars + (s - k.vars) ≡ s = omega arith in
            let j : s - k.vars < shape.depth = omega arith in
            let m : s - k.vars < k.limit = omega (arith, depth_limit b R c l lc low high) in
            rw (shape-stack (s - k.vars) m, e) at (formed-used k.vars k.limit shape (row-shaped b R c l lc low high) (s - k.vars) j m)

    unused-shaped : (j : ℕ) → depth_of b c l ≤ j → j < k.limit → is_blank (aside_b (k.vars + j)) ≡ true
    unfolding depth_of
    unused-shaped j u h = rw (shape-stack j h) at (formed-unused k.vars k.limit shape (row-shaped b R c l lc low high) j u h)

    -- a reference in use is of one of the bundle's classes
    pub reference-class : (s : ℕ) → Reference b c l s → at b (P s + 1) < n
    reference-class s r = aside-class n (at b (P s)) (at b (P s + 1)) (at b (P s + 2)) (at b (P s + 3)) r.kind (used-shaped s r.in_use.used)

    -- ---- entry s of a choice x
    module _ (x : List ℕ) (C : Choice b x) where
      abbrev r : List ℕ
      r = part_of x k

      abbrev entry : ℕ → Entry
      entry s = entry_of n (at x (P s)) (at x (P s + 1)) (at x (P s + 2)) (at x (P s + 3))

      -- a reference in use, with the choice's pair
      pub reference-entry : (s : ℕ) → Reference b c l s → entry s ≡ Ref (at b (P s + 1)) (at x (P s + 2)) (at x (P s + 3))
      reference-entry s q =
          let h : s < k.vars + k.limit = omega (arith, q.in_use.used, depth_limit b R c l lc low high) in
          rw (kind-same b R x C.alike c lc l low high s h, kind-class-same b R x C.alike c lc l low high s h, q.kind)
          (reference-is n _ _ _ (reference-class s q) (C.dips c l s q) (C.least_end c l s q) (C.ends c l s q))

      in-use-of : (s : ℕ) → s < k.vars + depth_of b c l → InUse b c l s
      in-use-of s u = record { class_known = lc; first = low; last = high; used = u }

      entry-typed : (s : ℕ) → s < k.vars + depth_of b c l → is_type (entry s) ≡ true
      entry-typed s u = go (ℕ_discrete (at b (P s)) 3)
        where
          h : s < k.vars + k.limit
          h = omega (arith, depth_limit b R c l lc low high)

          go : Dec (at b (P s) ≡ 3) → is_type (entry s) ≡ true
          go (yes e) = rw (reference-entry s (record { in_use = in-use-of s u; kind = e }))
          go (no e) =
              rw (entry-b b R x C.alike c lc l low high n s h (λ q. e q.kind))
              (rw (aside-plain n (at b (P s)) (at b (P s + 1)) (at b (P s + 2)) (at b (P s + 3)) e) at (used-shaped s u))

      entry-blank : (j : ℕ) → depth_of b c l ≤ j → j < k.limit → is_blank (entry (k.vars + j)) ≡ true
      entry-blank j u h =
          rw (entry-b b R x C.alike c lc l low high n (k.vars + j) (omega arith) (λ q. omega (arith, q.in_use.used)))
          (aside-blank n (at b (P (k.vars + j))) (at b (P (k.vars + j) + 1)) (at b (P (k.vars + j) + 2)) (at b (P (k.vars + j) + 3)) (unused-shaped j u h))

      abbrev row : Row
      row = row_at n k r l

      pub row-variable : (i : ℕ) → i < k.vars → row.variable i ≡ entry i
      row-variable i h = variable-x b R x C.alike c lc l low high n i h ∙ entry-x b R x C.alike c lc l low high n i (omega arith)

      pub row-stack : (j : ℕ) → j < k.limit → row.stack j ≡ entry (k.vars + j)
      row-stack j h = stack-x b R x C.alike c lc l low high n j h ∙ entry-x b R x C.alike c lc l low high n (k.vars + j) (omega arith)

      pub row-depth : row.depth ≡ depth_of b c l
      row-depth = depth_same b R x C.alike c lc l low high

      -- THEOREM: the row is well formed
      pub row-formed : row_formed k.vars k.limit row ≡ true
      unfolding row_formed vars_formed stack_formed entry_formed
      row-formed =
          and_both _ _
          (and_both _ _ (le-leb row.depth k.limit (rw row-depth (depth_limit b R c l lc low high)))
          (all-intro (var_formed row) k.vars (λ i h. rw (row-variable i h) (entry-typed i (omega arith)))))
          (all-intro (entry_formed row) k.limit (λ j h. stack-formed j h (dec_lt j (depth_of b c l))))
        where
          stack-formed : (j : ℕ) → j < k.limit → Dec (j < depth_of b c l) → entry_formed row j ≡ true
          stack-formed j h (yes u) = rw (row-depth, lt-ltb j (depth_of b c l) u, row-stack j h) (entry-typed (k.vars + j) (omega arith))
          stack-formed j h (no u) = rw (row-depth, le-ltb j (depth_of b c l) (omega arith), row-stack j h) (entry-blank j (omega arith) h)

    -- ---- two choices, one below the other
    module _ (x y : List ℕ) (C : Choice b x) (D : Choice b y) (below : Below x y) where
      entry-under : (s : ℕ) → s < k.vars + k.limit → Under (entry x C s) (entry y D s)
      entry-under s h = go (dec_lt s (k.vars + depth_of b c l)) (ℕ_discrete (at b (P s)) 3)
        where
          plain : (Reference b c l s → ⊥) → Under (entry x C s) (entry y D s)
          plain f = rw (entry-b b R x C.alike c lc l low high n s h f, entry-b b R y D.alike c lc l low high n s h f) same

          go : Dec (s < k.vars + depth_of b c l) → Dec (at b (P s) ≡ 3) → Under (entry x C s) (entry y D s)
          go (yes u) (yes e) =
              let q : Reference b c l s = record { in_use = in-use-of x C s u; kind = e } in
              rw (reference-entry x C s q, reference-entry y D s q) (less (below _) (below _))
          go (yes u) (no e) = plain (λ q. e q.kind)
          go (no u) e = plain (λ q. u q.in_use.used)

      -- THEOREM: their rows are one under the other
      pub rows_under : UnderRow k.vars (row x C) (row y D)
      rows_under =
          record {
            depth = row-depth x C ∙ sym (row-depth y D);
            variable = λ i h. rw (row-variable x C i h, row-variable y D i h) (entry-under i (omega arith));
            stack = λ j h.
                let u : j < k.limit = omega (arith, rw (row-depth x C) at h, depth_limit b R c l lc low high) in
                rw (row-stack x C j u, row-stack y D j u) (entry-under (k.vars + j) (omega arith));
          }
