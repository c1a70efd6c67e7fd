-- THEOREMS: where instructions begin, what each answer names, and that success means that there is nothing to refuse.
use mathlib.Core.Path.{◌≡◌, refl, subst}
use mathlib.Core.Bool.{Bool, true, false, cond, ◌&&◌, not}
use mathlib.Core.List.{List}
use Prim.Native.Nat.{ℕ, zero, suc, ◌+◌, ◌-◌, ◌/◌, ◌<◌, ◌≤◌}
use native.Mathlib.Omega.{arith}
use native.Mathlib.Decide.{dec_lt}
use lib.ListN.{length}
use lib.Dec.{leb}
use borrow.Author.Tests.{eqb-true, leb-true, leb-false, not-false, ltb-false}
use Rattle.ground.specs.Chain.{refuse}
use Rattle.ground.specs.Bounded.{first_below}
use Rattle.ground.proofs.Bounded.{first-least, first-is}
use Rattle.java.specs.Instructions.{java_at, size_at}
use Rattle.java.specs.Classes.{known}
use Rattle.java.proofs.Sizes.{size-pos}
use Rattle.offsets.specs.Offsets.{left_next, left_at, begins, count_to, total}
use Rattle.offsets.specs.Handlers.{entries, handler_of}
use Rattle.offsets.specs.Targets.{lands, branch_ok, stray_at, first_stray, stray_entry, first_stray_entry}
use Rattle.offsets.specs.Offenders.{unknown_at, first_unknown, past_at, first_past}
use Rattle.offsets.proofs.Offsets.{begins-first, begins-next, count-zero}
use Rattle.classfile.specs.Taking.{Taken}
use Rattle.classfile.specs.Attribute.{whole, code_of, table_of}
use Rattle.classfile.specs.Taking.{taken, judged, taken_of}
use Rattle.classfile.specs.Meaning.{Reached, start, next, First, AllKnown, AllLand, AllCaught, Walks, Names, Succeeds, Named, ended, unknown, branch, handler, many, short, done}
use Rattle.classfile.proofs.Order.{passes}

reached-begins : (code : List ℕ) (p : ℕ) → Reached code p → begins code p ≡ true
reached-begins code p start = begins-first code
reached-begins code p (next q r) = begins-next code q (reached-begins code q r)

-- the next instruction begins where what is left of this one ends
ahead : (code : List ℕ) (p : ℕ) → Reached code (p + left_at code p)
unfolding left_at
ahead code zero = start
ahead code (suc p) = go (left_at code p) refl (ahead code p)
  where
    go : (m : ℕ) → left_at code p ≡ m → Reached code (p + left_at code p) → Reached code (suc p + left_next m (size_at code p))
    go zero e r =
        let f : p + left_at code p ≡ p = omega arith in
        let g : p + size_at code p ≡ suc p + (size_at code p - 1) = omega (arith, size-pos code p) in
        subst (Reached code) g (next p (subst (Reached code) f r))
    go (suc m) e r = let f : p + left_at code p ≡ suc p + m = omega arith in subst (Reached code) f r

begins-reached : (code : List ℕ) (p : ℕ) → begins code p ≡ true → Reached code p
unfolding begins
begins-reached code p b =
    let e = eqb-true (left_at code p) 0 b in
    let f : p + left_at code p ≡ p = omega arith in
    subst (Reached code) f (ahead code p)

-- THEOREM: `begins` is what the walk reaches
pub walks : Walks
walks code p = (reached-begins code p, begins-reached code p)

-- a search that found nothing
none-at : (n : ℕ) (f : ℕ → Bool) → leb n (first_below n f) ≡ true → (i : ℕ) → i < n → f i ≡ false
none-at n f e i l = first-least n f i (omega (arith, leb-true n (first_below n f) e))

off : (b t : Bool) → (b && not t) ≡ false → b ≡ true → t ≡ true
off b t e f = not-false t (rw f at e)

-- THEOREM: success means that there is nothing to refuse
pub succeeds : Succeeds
unfolding taken_of judged first_unknown first_stray first_stray_entry unknown_at stray_at stray_entry
succeeds a classes room e =
    let h₀ = passes (whole a) 29 0 _ e in
    let h₁ = passes _ 30 _ _ h₀.1 in
    let h₂ = passes _ 31 _ _ h₁.1 in
    let h₃ = passes _ 31 _ _ h₂.1 in
    let h₄ = passes _ 32 _ _ h₃.1 in
    let h₅ = passes _ 33 _ _ h₄.1 in
    record {
      whole_input = h₀.0;
      all_known = λ p l r. off (begins (code_of a) p) (known classes (java_at (code_of a) p)) (none-at (length (code_of a)) (unknown_at classes (code_of a)) h₁.0 p l) (reached-begins (code_of a) p r);
      branches = λ p l r. off (begins (code_of a) p) (branch_ok (code_of a) p (java_at (code_of a) p)) (none-at (length (code_of a)) (stray_at (code_of a)) h₂.0 p l) (reached-begins (code_of a) p r);
      handlers = λ i l. not-false _ (none-at (entries (table_of a)) (stray_entry (code_of a) (table_of a)) h₃.0 i l);
      few = leb-true (total (code_of a)) 256 h₄.0;
      roomy = leb-true (total (code_of a)) (room / 4) h₅.0;
    }

first_of : (n : ℕ) (f : ℕ → Bool) → first_below n f < n → First n f (first_below n f)
first_of n f l = record { under = l; holds = first-is n f l; before = first-least n f }

never-past : (code : List ℕ) (limit : ℕ) → 0 < length code → limit < total code → past_at code limit (length code - 1) ≡ false → ⊥
unfolding past_at total
never-past code limit k h e =
    let f : length code - 1 + 1 ≡ length code = omega arith in
    omega (arith, rw f at (ltb-false limit (count_to code (length code - 1 + 1)) e))

empty-total : (code : List ℕ) (limit : ℕ) → length code ≤ 0 → limit < total code → ⊥
unfolding total
empty-total code limit l h = let e : length code ≡ 0 = omega arith in omega (arith, rw (e, count-zero code) at h)

-- where more is written than the limit, some instruction passes it
pass-some : (code : List ℕ) (limit : ℕ) → limit < total code → first_past code limit < length code
unfolding first_past
pass-some code limit h = go (dec_lt (first_below (length code) (past_at code limit)) (length code)) (dec_lt 0 (length code))
  where
    last : 0 < length code → length code ≤ first_below (length code) (past_at code limit) → ⊥
    last k l = never-past code limit k h (first-least (length code) (past_at code limit) (length code - 1) (omega arith))

    go : Dec (first_below (length code) (past_at code limit) < length code) → Dec (0 < length code) → first_below (length code) (past_at code limit) < length code
    go (yes l) k = l
    go (no l) (yes k) = absurd (last k (omega arith))
    go (no l) (no k) = absurd (empty-total code limit (omega arith) h)

past_first : (code : List ℕ) (limit : ℕ) → limit < total code → First (length code) (past_at code limit) (first_past code limit)
unfolding first_past
past_first code limit h = first_of (length code) (past_at code limit) (pass-some code limit h)

apart-known : (classes code : List ℕ) (p : ℕ) → unknown_at classes code p ≡ false → (begins code p && not (known classes (java_at code p))) ≡ false
unfolding unknown_at
apart-known classes code p e = e

apart-stray : (code : List ℕ) (p : ℕ) → stray_at code p ≡ false → (begins code p && not (branch_ok code p (java_at code p))) ≡ false
unfolding stray_at
apart-stray code p e = e

apart-entry : (code table : List ℕ) (i : ℕ) → stray_entry code table i ≡ false → not (lands code (handler_of table i)) ≡ false
unfolding stray_entry
apart-entry code table i e = e

module _ (a classes : List ℕ) (room : ℕ) where
  abbrev code : List ℕ
  code = code_of a

  abbrev table : List ℕ
  table = table_of a

  names : Named a classes room (taken_of a classes room)
  unfolding taken_of judged refuse first_unknown first_stray first_stray_entry
  names = go₀ (whole a) refl
    where
      go₅ : (w : whole a ≡ true) (u : AllKnown a classes) (s : AllLand a) (e : AllCaught a)
          → total code ≤ 256 → (t : Bool) → leb (total code) (room / 4) ≡ t
          → Named a classes room (cond t (taken 0 (total code)) (taken 34 (first_past code (room / 4))))
      go₅ w u s e f true q =
          done
          record {
            whole_input = w;
            all_known = λ p l r. off (begins code p) (known classes (java_at code p)) (apart-known classes code p (u p l)) (reached-begins code p r);
            branches = λ p l r. off (begins code p) (branch_ok code p (java_at code p)) (apart-stray code p (s p l)) (reached-begins code p r);
            handlers = λ i l. not-false _ (apart-entry code table i (e i l));
            few = f;
            roomy = leb-true (total code) (room / 4) q;
          }
      go₅ w u s e f false q = short (first_past code (room / 4)) w u s e f (past_first code (room / 4) (leb-false (total code) (room / 4) q))

      go₄ : (w : whole a ≡ true) (u : AllKnown a classes) (s : AllLand a) (e : AllCaught a)
          → (t : Bool) → leb (total code) 256 ≡ t
          → Named a classes room (cond t (cond (leb (total code) (room / 4)) (taken 0 (total code)) (taken 34 (first_past code (room / 4)))) (taken 33 (first_past code 256)))
      go₄ w u s e true q = go₅ w u s e (leb-true (total code) 256 q) (leb (total code) (room / 4)) refl
      go₄ w u s e false q = many (first_past code 256) w u s e (past_first code 256 (leb-false (total code) 256 q))

      rest₃ : Taken
      rest₃ = cond (leb (total code) 256) (cond (leb (total code) (room / 4)) (taken 0 (total code)) (taken 34 (first_past code (room / 4)))) (taken 33 (first_past code 256))

      go₃ : (w : whole a ≡ true) (u : AllKnown a classes) (s : AllLand a)
          → (t : Bool) → leb (entries table) (first_below (entries table) (stray_entry code table)) ≡ t
          → Named a classes room (cond t rest₃ (taken 32 (handler_of table (first_below (entries table) (stray_entry code table)))))
      go₃ w u s true q = go₄ w u s (none-at (entries table) (stray_entry code table) q) (leb (total code) 256) refl
      go₃ w u s false q = handler _ w u s (first_of (entries table) (stray_entry code table) (leb-false _ _ q))

      rest₂ : Taken
      rest₂ = cond (leb (entries table) (first_below (entries table) (stray_entry code table))) rest₃ (taken 32 (handler_of table (first_below (entries table) (stray_entry code table))))

      go₂ : (w : whole a ≡ true) (u : AllKnown a classes)
          → (t : Bool) → leb (length code) (first_below (length code) (stray_at code)) ≡ t
          → Named a classes room (cond t rest₂ (taken 32 (first_below (length code) (stray_at code))))
      go₂ w u true q = go₃ w u (none-at (length code) (stray_at code) q) (leb (entries table) (first_below (entries table) (stray_entry code table))) refl
      go₂ w u false q = branch _ w u (first_of (length code) (stray_at code) (leb-false _ _ q))

      rest₁ : Taken
      rest₁ = cond (leb (length code) (first_below (length code) (stray_at code))) rest₂ (taken 32 (first_below (length code) (stray_at code)))

      go₁ : (w : whole a ≡ true) (t : Bool) → leb (length code) (first_below (length code) (unknown_at classes code)) ≡ t
          → Named a classes room (cond t rest₁ (taken 31 (first_below (length code) (unknown_at classes code))))
      go₁ w true q = go₂ w (none-at (length code) (unknown_at classes code) q) (leb (length code) (first_below (length code) (stray_at code))) refl
      go₁ w false q = unknown _ w (first_of (length code) (unknown_at classes code) (leb-false _ _ q))

      go₀ : (t : Bool) → whole a ≡ t
          → Named a classes room (cond t (cond (leb (length code) (first_below (length code) (unknown_at classes code))) rest₁ (taken 31 (first_below (length code) (unknown_at classes code)))) (taken 30 0))
      go₀ true q = go₁ q (leb (length code) (first_below (length code) (unknown_at classes code))) refl
      go₀ false q = ended q

-- THEOREM: each answer names the first offender of the first refusal that applies
pub named : Names
named a classes room = names a classes room
