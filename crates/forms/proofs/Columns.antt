-- Rows that are all formed, asked column by column.
use mathlib.Core.Path.{◌≡◌, refl, sym}
use mathlib.Core.Bool.{Bool, true, false, ◌&&◌}
use mathlib.Core.List.{List}
use Prim.Native.Nat.{ℕ, ◌+◌, ◌<◌, ◌≤◌}
use native.Mathlib.Numerals.{add-one}
use native.Mathlib.Omega.{arith}
use lib.Dec.{leb}
use borrow.Author.Tests.{lt-ltb, le-ltb}
use Rattle.ground.specs.Chain.{refuse}
use Rattle.ground.specs.Bounded.{all_below}
use Rattle.ground.proofs.Bools.{and_both}
use Rattle.ground.proofs.Bounded.{all-elim, all-intro, all-some, all-stop}
use Rattle.bundle.specs.declared.Class.{Class}
use Rattle.entries.specs.Entries.{is_type, is_blank, entry_of, zeros}
use Rattle.entries.specs.Words.{entry_from}
use Rattle.entries.specs.declared.Short.{Short}
use Rattle.entries.specs.declared.Short.TheVariants.{Kind, Dip, End}
use Rattle.entries.specs.Shorts.{short_in}
use Rattle.std.proofs.Common.{Result, Ok, Err, eqb}
use Rattle.std.specs.Result.{is_ok}
use Rattle.rows.specs.Rows.{Row, row_start, variable_at, depth_at, stack_at, row_from, row_at}
use Rattle.forms.specs.Forms.{var_formed, entry_formed, vars_formed, stack_formed, row_formed}
use Rattle.forms.specs.Columns.{rest_formed, rest_of, place_formed, column_formed, rows_formed}

-- an entry in use, and one below: read as the word w
module _ (n : ℕ) (k : Class) (r : List ℕ) (p d j w : ℕ) (e : d ≡ depth_at r p k.vars) (s : entry_from n w ≡ stack_at n k r p j) where
  pub used-told : (t : Bool) → j < d → is_type (entry_from n w) ≡ t → entry_formed (row_from n k r p) j ≡ t
  unfolding entry_formed
  used-told t l q = rw (← e, lt-ltb j d l, ← s) q

  pub below-told : (t : Bool) → d ≤ j → is_blank (entry_from n w) ≡ t → entry_formed (row_from n k r p) j ≡ t
  unfolding entry_formed
  below-told t l q = rw (← e, le-ltb j d l, ← s) q

-- an entry that stays
pub stays : (formed t : Bool) → (formed ≡ true → t ≡ true) → formed ≡ (formed && t)
stays true t h = sym (h refl)
stays false t h = refl

pub top-type : (n : ℕ) → is_type (entry_from n 33554432) ≡ true
unfolding entry_from entry_of zeros refuse
top-type n = refl

-- a turn of a loop without an early end
all-turn : (p : ℕ → Bool) (i : ℕ) → all_below (i + 1) p ≡ (all_below i p && p i)
unfolding all_below
all-turn p i = rw add-one

pub column-more : (n : ℕ) (k : Class) (r : List ℕ) (i l : ℕ) (formed o : Bool) (w s : ℕ) → formed ≡ all_below l (place_formed n k r i) → o ≡ (formed && is_type (entry_from n w)) → entry_from n w ≡ variable_at n r s i → s ≡ row_start k (l + 1) → o ≡ all_below (l + 1) (place_formed n k r i)
column-more n k r i l formed o w s f e v q = rw (all-turn (place_formed n k r i) l, ← f, ← q, ← v) e

-- fewer that fail are enough
pub all-fewer : (p : ℕ → Bool) (m n : ℕ) → m ≤ n → all_below m p ≡ false → false ≡ all_below n p
all-fewer p m n l e = let s = all-some p m e in sym (all-stop p n s.0 (omega (arith, s.1)) s.2)

-- a row in two parts
pub row_parts : (vars limit : ℕ) (x : Row) → row_formed vars limit x ≡ (vars_formed vars x && rest_formed limit x)
unfolding row_formed rest_formed
row_parts vars limit x = go (leb x.depth limit) (vars_formed vars x)
  where
    go : (a b : Bool) → (a && b && stack_formed limit x) ≡ (b && (a && stack_formed limit x))
    go true true = refl
    go true false = refl
    go false true = refl
    go false false = refl

module _ (n : ℕ) (k : Class) (r : List ℕ) where
  abbrev row_of : ℕ → Bool
  row_of l = row_formed k.vars k.limit (row_at n k r (l + 1))

  row-of : (l : ℕ) → vars_formed k.vars (row_at n k r (l + 1)) ≡ true → rest_of n k r l ≡ true → row_of l ≡ true
  row-of l p q = rw (row_parts k.vars k.limit (row_at n k r (l + 1))) (and_both _ _ p q)

  -- all columns and all rests
  pub rows_told : all_below k.vars (column_formed n k r) ≡ true → all_below k.code (rest_of n k r) ≡ rows_formed n k r
  unfolding rows_formed column_formed vars_formed
  rows_told c = go (all_below k.code (rest_of n k r)) refl
    where
      there : (l : ℕ) → l < k.code → vars_formed k.vars (row_at n k r (l + 1)) ≡ true
      there l m = all-intro (var_formed (row_at n k r (l + 1))) k.vars (λ i j. all-elim (place_formed n k r i) k.code (all-elim (column_formed n k r) k.vars c i j) l m)

      go : (t : Bool) → all_below k.code (rest_of n k r) ≡ t → t ≡ all_below k.code row_of
      go true q = sym (all-intro row_of k.code (λ l m. row-of l (there l m) (all-elim (rest_of n k r) k.code q l m)))
      go false q = let s = all-some (rest_of n k r) k.code q in sym (all-stop row_of k.code s.0 s.1 (rw (row_parts k.vars k.limit (row_at n k r (s.0 + 1)), there s.0 s.1) s.2))

  -- a column that fails
  pub rows-refused : all_below k.vars (column_formed n k r) ≡ false → false ≡ rows_formed n k r
  unfolding rows_formed column_formed vars_formed
  rows-refused e =
      let s = all-some (column_formed n k r) k.vars e in
      let t = all-some (place_formed n k r s.0) k.code s.2 in
      sym (all-stop row_of k.code t.0 t.1 (rw (row_parts k.vars k.limit (row_at n k r (t.0 + 1)), all-stop (var_formed (row_at n k r (t.0 + 1))) k.vars s.0 s.1 t.2)))

-- a comparison that is well has the number 0, and no other has
pub fits : (r : Result Unit Short) → is_ok r ≡ eqb (short_in r) 0
fits (Ok _) = refl
fits (Err Kind) = refl
fits (Err Dip) = refl
fits (Err End) = refl
