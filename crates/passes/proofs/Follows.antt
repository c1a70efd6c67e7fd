-- What is asked of a row is read off the rows that follow it, and off no other.
use mathlib.Core.List.{List}
use mathlib.Core.Path.{◌≡◌, refl, sym, ◌∙◌}
use mathlib.Core.Logic.{◌⊎◌, inl, inr}
use Prim.Native.Nat.{ℕ, ◌+◌, ◌-◌, ◌≤◌, ◌<◌}
use native.Mathlib.Omega.{arith}
use native.Mathlib.Decide.{ℕ_discrete, dec_lt}
use borrow.Author.Tests.{lt-ltb, le-ltb, eq-eqb}
use Rattle.ground.specs.Bytes.{at}
use Rattle.ground.specs.Chain.{refuse}
use Rattle.instructions.specs.declared.Instruction.{Instruction}
use Rattle.instructions.specs.declared.Instruction.TheVariants.{Inc, Pop, Push0, Load, Store, If, Enter, Exit, New, Start, Throw, Return, Get, Put, Nothing}
use Rattle.instructions.proofs.Table.{InstructionFits}
use Rattle.bundle.specs.declared.Class.{Class}
use Rattle.bundle.specs.Container.{classes, class_at, fields_of, part_of}
use Rattle.bundle.specs.Program.{Program, program_of}
use Rattle.entries.specs.Entries.{Entry, is_nullable, entry_of}
use Rattle.rows.specs.Rows.{Row, row_at, stack_at}
use Rattle.needs.specs.Needs.{kept_but, taken, thrown_var, thrown_top, throw_need, or_null, var_need, stack_need, entry_need}
use Rattle.shape.specs.PairBytes.{place_of, depth_of, Reference}
use Rattle.shape.specs.Apart.{Readable}
use Rattle.choices.specs.Choice.{Choice}
use Rattle.choices.specs.Asked.{need_at, Enough}
use Rattle.choices.proofs.Choices.{entry-b}
use Rattle.choices.proofs.Shapes.{row-variable, row-stack, reference-entry}
use Rattle.choices.proofs.Complete.{in_table}
use Rattle.passes.specs.Passes.{goal_of, code_of, Reads}

-- two rows with the same entries
pub record SameRow (vars : ℕ) (x y : Row) : Type 0 where
  pub variable : (i : ℕ) → i < vars → x.variable i ≡ y.variable i
  pub stack : (j : ℕ) → x.stack j ≡ y.stack j

-- .. that may be null at the same places
pub record SameNull (vars : ℕ) (x y : Row) : Type 0 where
  pub variable : (i : ℕ) → i < vars → is_nullable (x.variable i) ≡ is_nullable (y.variable i)
  pub stack : (j : ℕ) → is_nullable (x.stack j) ≡ is_nullable (y.stack j)

module _ (vars : ℕ) (h : ℕ) (z w : Row) (s : (h ≡ 0 → ⊥) → SameRow vars z w) where
  thrown-var-same : (i : ℕ) → i < vars → thrown_var h z i ≡ thrown_var h w i
  unfolding thrown_var
  thrown-var-same i l = go (ℕ_discrete h 0)
    where
      go : Dec (h ≡ 0) → thrown_var h z i ≡ thrown_var h w i
      go (yes e) = rw (eq-eqb h 0 e)
      go (no e) = rw ((s e).variable i l)

  throw-need-same : (j : ℕ) → throw_need h z j ≡ throw_need h w j
  unfolding throw_need thrown_top
  throw-need-same j = go (ℕ_discrete h 0)
    where
      go : Dec (h ≡ 0) → throw_need h z j ≡ throw_need h w j
      go (yes e) = rw (eq-eqb h 0 e)
      go (no e) = rw ((s e).stack 0)

module _ (P : Program) (vars : ℕ) (row row' : ℕ → Row) (l classes : ℕ) (fields : ℕ → ℕ) (code : ℕ) (low : 1 ≤ l) (null : SameNull vars (row l) (row' l)) where
  -- the rows that the instruction i at address l reads are the same
  abbrev pub SameRows : Instruction → Type 0
  SameRows i = (m : ℕ) → 1 ≤ m → m ≤ code → (m ≡ l + 1) ⊎ (m ≡ goal_of i) → SameRow vars (row m) (row' m)

  next_row : (i : Instruction) → SameRows i → l < code → SameRow vars (row (l + 1)) (row' (l + 1))
  next_row i s h = s (l + 1) (omega arith) (omega arith) (inl refl)

  goal-row : (i : Instruction) → SameRows i → goal_of i ≤ code → (goal_of i ≡ 0 → ⊥) → SameRow vars (row (goal_of i)) (row' (goal_of i))
  goal-row i s h z = s (goal_of i) (omega arith) h (inr refl)

  var-same : (i : Instruction) → InstructionFits classes fields vars code l i → SameRows i → (j : ℕ) → j < vars → var_need row l i j ≡ var_need row' l i j
  unfolding kept_but or_null
  var-same Inc k s j u = rw ((next_row Inc s k).variable j u)
  var-same Pop k s j u = rw ((next_row Pop s k).variable j u)
  var-same Push0 k s j u = rw ((next_row Push0 s k).variable j u)
  var-same (Load v) k s j u = let n = next_row (Load v) s k.1 in rw (n.variable v.0 k.0, n.stack 0, n.variable j u)
  var-same (Store v) k s j u = rw ((next_row (Store v) s k.1).variable j u)
  var-same (If a) k s j u = rw ((next_row (If a) s k.1).variable j u, (goal-row (If a) s k.0.1 (λ z. omega (arith, k.0.0))).variable j u)
  var-same (Enter v h) k s j u =
      let n = next_row (Enter v h) s k.2 in
      rw (null.variable v.0 k.0, thrown-var-same vars h.0 (row h.0) (row' h.0) (goal-row (Enter v h) s k.1) j u, n.variable v.0 k.0, n.variable j u)
  var-same (Exit v) k s j u = let n = next_row (Exit v) s k.1 in rw (n.variable v.0 k.0, n.variable j u)
  var-same (New c h) k s j u = rw (thrown-var-same vars h.0 (row h.0) (row' h.0) (goal-row (New c h) s k.1) j u, (next_row (New c h) s k.2).variable j u)
  var-same (Start c) k s j u = rw ((next_row (Start c) s k.1).variable j u)
  var-same (Throw h) k s j u = thrown-var-same vars h.0 (row h.0) (row' h.0) (goal-row (Throw h) s k) j u
  var-same Return k s j u = refl
  var-same (Get c f h) k s j u =
      rw (null.stack 0, thrown-var-same vars h.0 (row h.0) (row' h.0) (goal-row (Get c f h) s k.2) j u, (next_row (Get c f h) s k.3).variable j u)
  var-same (Put c f h) k s j u =
      rw (null.stack 1, thrown-var-same vars h.0 (row h.0) (row' h.0) (goal-row (Put c f h) s k.2) j u, (next_row (Put c f h) s k.3).variable j u)
  var-same Nothing k s j u = refl

  stack_same : (i : Instruction) → InstructionFits classes fields vars code l i → SameRows i → (j : ℕ) → stack_need P row l i j ≡ stack_need P row' l i j
  unfolding taken or_null
  stack_same Inc k s j = rw ((next_row Inc s k).stack _)
  stack_same Pop k s j = rw ((next_row Pop s k).stack (j - 1))
  stack_same Push0 k s j = rw ((next_row Push0 s k).stack _)
  stack_same (Load v) k s j = rw ((next_row (Load v) s k.1).stack _)
  stack_same (Store v) k s j = let n = next_row (Store v) s k.1 in rw (n.variable v.0 k.0, n.stack (j - 1))
  stack_same (If a) k s j = rw ((next_row (If a) s k.1).stack (j - 1), (goal-row (If a) s k.0.1 (λ z. omega (arith, k.0.0))).stack (j - 1))
  stack_same (Enter v h) k s j = rw (null.variable v.0 k.0, (next_row (Enter v h) s k.2).stack j)
  stack_same (Exit v) k s j = rw ((next_row (Exit v) s k.1).stack j)
  stack_same (New c h) k s j = rw ((next_row (New c h) s k.2).stack _)
  stack_same (Start c) k s j = rw ((next_row (Start c) s k.1).stack (j - ((P.method c).args + 1)))
  stack_same (Throw h) k s j = throw-need-same vars h.0 (row h.0) (row' h.0) (goal-row (Throw h) s k) j
  stack_same Return k s j = refl
  stack_same (Get c f h) k s j = rw (null.stack 0, (next_row (Get c f h) s k.3).stack _)
  stack_same (Put c f h) k s j = rw (null.stack 1, (next_row (Put c f h) s k.3).stack (j - 2))
  stack_same Nothing k s j = refl

  -- THEOREM: what is asked is the same where the rows that are read are
  pub need-read : (i : Instruction) → InstructionFits classes fields vars code l i → SameRows i → (s : ℕ) → entry_need P vars row l i s ≡ entry_need P vars row' l i s
  unfolding entry_need
  need-read i k r s = go (dec_lt s vars)
    where
      go : Dec (s < vars) → entry_need P vars row l i s ≡ entry_need P vars row' l i s
      go (yes h) = rw (lt-ltb s vars h) (var-same i k r s h)
      go (no h) = rw (le-ltb s vars (omega arith)) (stack_same i k r (s - vars))

-- ---- the rows of two choices x and x'
module _ (b : List ℕ) (R : Readable b) (x x' : List ℕ) (C : Choice b x) (C' : Choice b x') (c : ℕ) (lc : c < classes b) where
  abbrev k : Class
  k = class_at b c

  abbrev pub row_in : List ℕ → ℕ → Row
  row_in z = row_at (classes b) (class_at b c) (part_of z (class_at b c))

  -- the four bytes of every entry of row m
  abbrev pub SameBytes : ℕ → Type 0
  SameBytes m = (s t : ℕ) → s < k.vars + k.limit → t < 4 → at x (place_of b c m s + t) ≡ at x' (place_of b c m s + t)

  module _ (m : ℕ) (low : 1 ≤ m) (high : m ≤ k.code) where
    abbrev P : ℕ → ℕ
    P s = place_of b c m s

    abbrev entry : List ℕ → ℕ → Entry
    entry z s = entry_of (classes b) (at z (P s)) (at z (P s + 1)) (at z (P s + 2)) (at z (P s + 3))

    past-limit : (z : List ℕ) (j : ℕ) → k.limit ≤ j → is_nullable ((row_in z m).stack j) ≡ is_nullable ((row_in b m).stack j)
    unfolding stack_at refuse
    past-limit z j h = rw (le-ltb j k.limit h)

    blank-past : (z w : List ℕ) (j : ℕ) → k.limit ≤ j → (row_in z m).stack j ≡ (row_in w m).stack j
    unfolding stack_at refuse
    blank-past z w j h = rw (le-ltb j k.limit h)

    entry-same : SameBytes m → (s : ℕ) → s < k.vars + k.limit → entry x s ≡ entry x' s
    entry-same f s h =
        let z : P s + 0 ≡ P s = omega arith in
        let e0 : at x (P s) ≡ at x' (P s) = rw z at (f s 0 h (omega arith)) in
        rw (e0, f s 1 h (omega arith), f s 2 h (omega arith), f s 3 h (omega arith))

    pub row_same : SameBytes m → SameRow k.vars (row_in x m) (row_in x' m)
    row_same f =
        record {
          variable = λ i h. row-variable b R c lc m low high x C i h ∙ entry-same f i (omega arith) ∙ sym (row-variable b R c lc m low high x' C' i h);
          stack = λ j. go j (dec_lt j k.limit);
        }
      where
        go : (j : ℕ) → Dec (j < k.limit) → (row_in x m).stack j ≡ (row_in x' m).stack j
        go j (yes h) = row-stack b R c lc m low high x C j h ∙ entry-same f (k.vars + j) (omega arith) ∙ sym (row-stack b R c lc m low high x' C' j h)
        go j (no h) = blank-past x x' j (omega arith)

    -- a reference is one whatever its pair
    null-entry : (s : ℕ) → s < k.vars + k.limit → is_nullable (entry x s) ≡ is_nullable (entry x' s)
    null-entry s h = go (dec_lt s (k.vars + depth_of b c m)) (ℕ_discrete (at b (P s)) 3)
      where
        plain : (Reference b c m s → ⊥) → is_nullable (entry x s) ≡ is_nullable (entry x' s)
        plain f = rw (entry-b b R x C.alike c lc m low high (classes b) s h f, entry-b b R x' C'.alike c lc m low high (classes b) s h f)

        go : Dec (s < k.vars + depth_of b c m) → Dec (at b (P s) ≡ 3) → is_nullable (entry x s) ≡ is_nullable (entry x' s)
        go (yes u) (yes e) =
            let q : Reference b c m s = record { in_use = record { class_known = lc; first = low; last = high; used = u }; kind = e } in
            rw (reference-entry b R c lc m low high x C s q, reference-entry b R c lc m low high x' C' s q)
        go (yes u) (no e) = plain (λ q. e q.kind)
        go (no u) e = plain (λ q. u q.in_use.used)

    null-same : SameNull k.vars (row_in x m) (row_in x' m)
    null-same =
        record {
          variable = λ i h. rw (row-variable b R c lc m low high x C i h, row-variable b R c lc m low high x' C' i h) (null-entry i (omega arith));
          stack = λ j. go j (dec_lt j k.limit);
        }
      where
        go : (j : ℕ) → Dec (j < k.limit) → is_nullable ((row_in x m).stack j) ≡ is_nullable ((row_in x' m).stack j)
        go j (yes h) = rw (row-stack b R c lc m low high x C j h, row-stack b R c lc m low high x' C' j h) (null-entry (k.vars + j) (omega arith))
        go j (no h) = past-limit x j (omega arith) ∙ sym (past-limit x' j (omega arith))

  -- THEOREM: what is asked of an entry is the same in both, where the bytes of the rows that are read are
  pub need-stays : (l s : ℕ) → 1 ≤ l → l ≤ k.code → ((m : ℕ) → 1 ≤ m → m ≤ k.code → Reads b c l m → SameBytes m) → need_at b x c l s ≡ need_at b x' c l s
  unfolding need_at
  need-stays l s low high f =
      need-read (program_of b) k.vars (row_in x) (row_in x') l (classes b) (fields_of b) k.code low (null-same l low high) (code_of b c l) (in_table b R c l lc low high)
      (λ m a z r. row_same m a z (f m a z r)) s

  -- .. so that what it has is still enough
  pub enough-stays : (l s : ℕ) → need_at b x c l s ≡ need_at b x' c l s → ((p : ℕ) → at x p ≤ at x' p) → Enough b x c l s → Enough b x' c l s
  enough-stays l s e up h =
      let d : (need_at b x' c l s).dip ≤ at x (place_of b c l s + 2) = rw e at h.dip in
      let f : (need_at b x' c l s).end ≤ at x (place_of b c l s + 3) = rw e at h.end in
      record { dip = omega (arith, up (place_of b c l s + 2)); end = omega (arith, up (place_of b c l s + 3)) }
