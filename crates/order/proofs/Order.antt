-- What the order says: the test and the sentence without a search agree; and what the code looks at in its stead.
use mathlib.Core.List.{List}
use mathlib.Core.Path.{◌≡◌, refl}
use mathlib.Core.Logic.{◌≢◌}
use mathlib.Core.Bool.{Bool, true, false, cond, not, ◌&&◌}
use Prim.Native.Nat.{ℕ, ◌<◌}
use native.Mathlib.Omega.{arith}
use native.Mathlib.Decide.{ℕ_discrete, dec_lt}
use lib.Dec.{leb, ltb, eqb}
use borrow.Author.Tests.{lt-leb, le-leb, lt-ltb, le-ltb, ltb-true, eq-eqb, ne_eqb}
use Rattle.ground.proofs.Bools.{and-fst, and-snd, and_both, or_right}
use Rattle.ground.proofs.Bounded.{all-elim, all-intro}
use Rattle.instructions.specs.Table.{Line, table, find, line_of}
use Rattle.entries.specs.Entries.{Entry, Int, Top, Ref, Nullable, Blank, Malformed, no_end, is_reference}
use Rattle.entries.specs.Fits.{may_go}
use Rattle.rows.specs.Rows.{Row}
use Rattle.order.specs.Order.{level_of, owes, above, other_above, others_above, entry_above, stack_above, lock_level, enter_order, order_of, Ordered}

-- ---- what the code looks at
-- a reference that may not go has a negative end
pub owes_goes : (x : Entry) → owes x ≡ (is_reference x && not (may_go x))
unfolding owes
owes_goes Int = refl
owes_goes Top = refl
owes_goes (Ref c d e) = go (dec_lt e no_end)
  where
    go : Dec (e < no_end) → ltb e no_end ≡ not (leb no_end e)
    go (yes k) = rw (lt-leb no_end e k, lt-ltb e no_end k)
    go (no k) = rw (le-leb no_end e (omega arith), le-ltb e no_end (omega arith))
owes_goes (Nullable c) = refl
owes_goes Blank = refl
owes_goes Malformed = refl

-- an opcode other than 7 is no monitorenter
module _ (levels : List ℕ) (vars : ℕ) (x : Row) (operand address : ℕ) where
  record Free (y : Line) : Type 0 where
    free : order_of levels vars x (y.instruction operand address) ≡ true

  either : (t : Bool) (y z : Line) → Free y → Free z → Free (cond t y z)
  either true y z p q = p
  either false y z p q = q

  line-free : (opcode : ℕ) → opcode ≢ 7 → Free (line_of opcode)
  unfolding line_of find table
  line-free k n =
      rw (ne_eqb k 7 n)
      (either (eqb k 1) _ _ (record { free = refl })
      (either (eqb k 2) _ _ (record { free = refl })
      (either (eqb k 3) _ _ (record { free = refl })
      (either (eqb k 4) _ _ (record { free = refl })
      (either (eqb k 5) _ _ (record { free = refl })
      (either (eqb k 6) _ _ (record { free = refl })
      (either (eqb k 8) _ _ (record { free = refl })
      (either (eqb k 9) _ _ (record { free = refl })
      (either (eqb k 10) _ _ (record { free = refl })
      (either (eqb k 11) _ _ (record { free = refl })
      (either (eqb k 12) _ _ (record { free = refl })
      (either (eqb k 13) _ _ (record { free = refl })
      (either (eqb k 14) _ _ (record { free = refl }) (record { free = refl }))))))))))))))

  pub no_enter : (opcode : ℕ) → opcode ≢ 7 → order_of levels vars x ((line_of opcode).instruction operand address) ≡ true
  no_enter opcode n = (line-free opcode n).free

  pub is-enter : (opcode : ℕ) → opcode ≡ 7 → order_of levels vars x ((line_of opcode).instruction operand address) ≡ enter_order levels vars operand x
  unfolding line_of find table
  is-enter opcode e = rw e

-- ---- the sentence without a search
module _ (levels : List ℕ) (m : ℕ) where
  above-elim : (x : Entry) → above levels m x ≡ true → (c d e : ℕ) → x ≡ Ref c d e → e < no_end → m < level_of levels c
  unfolding above owes
  above-elim x h c d e q k = ltb-true m (level_of levels c) (rw (q, lt-ltb e no_end k) at h)

  above-intro : (x : Entry) → ((c d e : ℕ) → x ≡ Ref c d e → e < no_end → m < level_of levels c) → above levels m x ≡ true
  unfolding above owes
  above-intro Int f = refl
  above-intro Top f = refl
  above-intro (Ref c d e) f = go (dec_lt e no_end)
    where
      go : Dec (e < no_end) → above levels m (Ref c d e) ≡ true
      go (yes k) = rw (lt-ltb e no_end k) (lt-ltb m (level_of levels c) (f c d e refl k))
      go (no k) = rw (le-ltb e no_end (omega arith))
  above-intro (Nullable c) f = refl
  above-intro Blank f = refl
  above-intro Malformed f = refl

module _ (levels : List ℕ) (vars v : ℕ) (x : Row) where
  abbrev m : ℕ
  m = lock_level levels v x

  pub order-elim : enter_order levels vars v x ≡ true → Ordered levels vars v x
  unfolding enter_order others_above stack_above
  order-elim h =
      record {
        variables = λ i c d e l n q k.
            above-elim levels m (x.variable i) (or_right (eqb i v) _ (all-elim (other_above levels m v x) vars (search and-fst) i l) (ne_eqb i v n)) c d e q k;
        stack = λ j c d e l q k.
            above-elim levels m (x.stack j) (all-elim (entry_above levels m x) x.depth (search and-snd) j l) c d e q k;
      }

  pub order-intro : Ordered levels vars v x → enter_order levels vars v x ≡ true
  unfolding enter_order others_above stack_above
  order-intro o =
      and_both _ _
      (all-intro (other_above levels m v x) vars (λ i l. var i l (ℕ_discrete i v)))
      (all-intro (entry_above levels m x) x.depth (λ j l. above-intro levels m (x.stack j) (λ c d e q k. o.stack j c d e l q k)))
    where
      var : (i : ℕ) → i < vars → Dec (i ≡ v) → other_above levels m v x i ≡ true
      var i l (yes q) = rw (eq-eqb i v q)
      var i l (no n) = rw (ne_eqb i v n) (above-intro levels m (x.variable i) (λ c d e q k. o.variables i c d e l n q k))
