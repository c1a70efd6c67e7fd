-- Verdict 0 gives what soundness asks of a program and its rows.
use Prim.Native.Nat.{ℕ, ◌+◌, ◌≤◌, ◌<◌}
use mathlib.Core.Path.{◌≡◌, refl}
use mathlib.Core.List.{List}
use mathlib.Core.Bool.{Bool, true, false, cond}
use native.Mathlib.Omega.{arith}
use lib.Dec.{ltb, eqb}
use lib.ListN.{length}
use borrow.Author.Tests.{leb-true, eqb-true, lt-ltb, le-ltb}
use Rattle.ground.specs.Bytes.{at}
use Rattle.ground.specs.Chain.{refuse}
use Rattle.ground.proofs.Bools.{and-fst, and-snd}
use Rattle.ground.proofs.Bounded.{all-elim}
use Rattle.bundle.specs.Container.{class_at}
use Rattle.bundle.specs.Program.{program_of}
use Rattle.structure.proofs.Structured.{WellFormed, well-formed}
use Rattle.entries.specs.Entries.{Entry, Int, Top, Ref, Nullable, Blank, Malformed, min_end, zeros, pair_ok, nullable_ok, entry_of, end_of, is_top, is_type, argument_entry}
use Rattle.entries.specs.Fits.{entry_fits}
use Rattle.rows.specs.Rows.{Row, entry_at, variable_at, stack_at}
use Rattle.rows.specs.Typed.{typed_of}
use Rattle.forms.specs.Forms.{var_formed, entry_formed, vars_formed, stack_formed, row_formed, first_var, first_vars, first_row}
use Rattle.verifier.specs.Verdict.{verdict_of}
use Rattle.verifier.specs.Places.{form, first, rule}
use Rattle.verifier.proofs.FirstBroken.{verdict-zero, agrees_back}
use Rattle.soundness.proofs.Kind.{nope}
use Rattle.soundness.proofs.Accepted.{Accepted}

-- ---- an entry's end, as it is stored, is at least 1
low : (n c d e : ℕ) → pair_ok n c d e ≡ true → 1 ≤ e
unfolding pair_ok
low n c d e h = leb-true min_end e (search (and-fst, and-snd))

either : (b : Bool) (x y : Entry) → 1 ≤ end_of x → 1 ≤ end_of y → 1 ≤ end_of (cond b x y)
either true x y p q = p
either false x y p q = q

entry-end : (n kind c d e : ℕ) → 1 ≤ end_of (entry_of n kind c d e)
unfolding entry_of refuse
entry-end n kind c d e =
    either (eqb kind 0) _ _ (either (zeros c d e) Blank Malformed (omega arith) (omega arith))
    (either (eqb kind 1) _ _ (either (zeros c d e) Int Malformed (omega arith) (omega arith))
    (either (eqb kind 2) _ _ (either (zeros c d e) Top Malformed (omega arith) (omega arith))
    (either (eqb kind 3) _ _ (pair (pair_ok n c d e) (λ h. low n c d e h))
    (either (eqb kind 4) _ _ (either (nullable_ok n c d e) (Nullable c) Malformed (omega arith) (omega arith)) (omega arith)))))
  where
    pair : (b : Bool) → (b ≡ true → 1 ≤ e) → 1 ≤ end_of (cond b (Ref c d e) Malformed)
    pair true p = p refl
    pair false p = omega arith

read-end : (n : ℕ) (r : List ℕ) (p : ℕ) → 1 ≤ end_of (entry_at n r p)
unfolding entry_at refuse
read-end n r p = either (ltb (p + 3) (length r)) _ Blank (entry-end n _ _ _ _) (omega arith)

is-top : (e : Entry) → is_top e ≡ true → e ≡ Top
is-top Int h = nope h
is-top Top h = refl
is-top (Ref c d e) h = nope h
is-top (Nullable c) h = nope h
is-top Blank h = nope h
is-top Malformed h = nope h

-- ---- what a well-formed row and a first row are
module _ (vars limit : ℕ) (x : Row) (h : row_formed vars limit x ≡ true) where
  formed-depth : x.depth ≤ limit
  unfolding row_formed
  formed-depth = leb-true _ _ (search (and-fst, and-snd))

  formed-variable : (i : ℕ) → i < vars → is_type (x.variable i) ≡ true
  unfolding row_formed vars_formed
  formed-variable = all-elim (var_formed x) vars (search (and-fst, and-snd))

  formed-stack : (j : ℕ) → j < x.depth → is_type (x.stack j) ≡ true
  unfolding row_formed stack_formed entry_formed
  formed-stack j l = rw (lt-ltb j x.depth l) at (all-elim (entry_formed x) limit (search (and-fst, and-snd)) j (omega (arith, formed-depth)))

module _ (vars args : ℕ) (descriptor : ℕ → ℕ) (x : Row) (h : first_row vars args descriptor x ≡ true) where
  first_depth : x.depth ≡ 0
  unfolding first_row
  first_depth = eqb-true _ _ (search and-fst)

  first_argument : (i : ℕ) → i < args → i < vars → entry_fits (argument_entry (descriptor i)) (x.variable i) ≡ true
  unfolding first_row first_vars first_var
  first_argument i a l = rw (lt-ltb i args a) at (all-elim (first_var args descriptor x) vars (search (and-fst, and-snd)) i l)

  first_other : (i : ℕ) → args ≤ i → i < vars → x.variable i ≡ Top
  unfolding first_row first_vars first_var
  first_other i a l = is-top (x.variable i) (rw (le-ltb i args a) at (all-elim (first_var args descriptor x) vars (search (and-fst, and-snd)) i l))

-- THEOREM: a bundle with verdict 0 is accepted
pub accepted : (b : List ℕ) → (verdict_of b).number ≡ 0 → Accepted (typed_of b)
unfolding program_of variable_at stack_at refuse
accepted b e =
    let w : WellFormed (program_of b) = well-formed b (agrees_back b e) in
    record {
      formed = w;
      depth_limit = λ c l a. formed-depth _ _ ((typed_of b).row c l) (verdict-zero b e (form c l) a);
      variable_type = λ c l i a. formed-variable _ _ ((typed_of b).row c l) (verdict-zero b e (form c l) a) i;
      stack_type = λ c l j a. formed-stack _ _ ((typed_of b).row c l) (verdict-zero b e (form c l) a) j;
      variable_end = λ c l i. read-end _ _ _;
      stack_end = λ c l j. either (ltb j (class_at b c).limit) _ Blank (read-end _ _ _) (omega arith);
      first_depth = λ c l. first_depth _ _ _ ((typed_of b).row c 1) (verdict-zero b e (first c) l);
      first_argument = λ c i l a. first_argument _ _ _ ((typed_of b).row c 1) (verdict-zero b e (first c) l) i a (omega (arith, w.args_vars c l));
      first_other = λ c i l a. first_other _ _ _ ((typed_of b).row c 1) (verdict-zero b e (first c) l) i a;
      rule = λ c l a. verdict-zero b e (rule c l) a;
    }
