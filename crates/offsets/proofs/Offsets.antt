-- Laws of the walk: from an offset at which an instruction begins to the next one.
use mathlib.Core.Path.{◌≡◌, refl, subst}
use mathlib.Core.Bool.{Bool, true, false, cond, ◌&&◌}
use mathlib.Core.List.{List}
use Prim.Native.Nat.{ℕ, zero, suc, ◌+◌, ◌-◌, ◌≤◌, ◌<◌}
use native.Mathlib.Omega.{arith}
use native.Mathlib.Decide.{ℕ_discrete, dec_lt}
use lib.ListN.{length}
use borrow.Author.Tests.{eqb-true, eq-eqb, ne_eqb}
use Rattle.ground.specs.Bounded.{sum_below}
use Rattle.java.specs.Instructions.{java_at, size_at, gives_of}
use Rattle.java.proofs.Sizes.{size-pos, read_past}
use Rattle.offsets.specs.Offsets.{left_next, left_at, begins, gives_at, count_to, total}

module _ (code : List ℕ) where
  -- nothing stands past the end
  gives-past : (p : ℕ) → length code ≤ p → gives_at code p ≡ 0
  unfolding gives_at
  gives-past p l = rw (← (read_past code p l).0) (same (begins code p))
    where
      same : (t : Bool) → ◌≡◌ {A = ℕ} (cond t 0 0) 0
      same true = refl
      same false = refl

  begin-left : (p : ℕ) → begins code p ≡ true → left_at code p ≡ 0
  unfolding begins
  begin-left p b = eqb-true (left_at code p) 0 b

  left-next : (m size n : ℕ) → m ≡ suc n → left_next m size ≡ n
  left-next m size n e = rw e

  -- what is left inside an instruction
  left_in : (p : ℕ) → left_at code p ≡ 0 → (j : ℕ) → j < size_at code p → left_at code (suc (p + j)) + suc j ≡ size_at code p
  unfolding left_at
  left_in p b zero l = let e : p + 0 ≡ p = omega arith in rw (e, b) (omega arith)
  left_in p b (suc j) l =
      let e : p + suc j ≡ suc (p + j) = omega arith in
      let h = left_in p b j (omega arith) in
      let k : left_at code (suc (p + j)) ≡ suc (size_at code p - 1 - suc j) = omega arith in
      rw e (rw (left-next (left_at code (suc (p + j))) (size_at code (suc (p + j))) (size_at code p - 1 - suc j) k) (omega arith))

  shut : (q : ℕ) → left_at code q ≡ 0 → begins code q ≡ true
  unfolding begins
  shut q k = eq-eqb (left_at code q) 0 k

  pub begins-next : (p : ℕ) → begins code p ≡ true → begins code (p + size_at code p) ≡ true
  begins-next p b = rw e (shut (suc (p + (size_at code p - 1))) h)
    where
      e : p + size_at code p ≡ suc (p + (size_at code p - 1))
      e = omega (arith, size-pos code p)

      h : left_at code (suc (p + (size_at code p - 1))) ≡ 0
      h = omega (arith, size-pos code p, left_in p (begin-left p b) (size_at code p - 1) (omega (arith, size-pos code p)))

  pub begins-inside : (p q : ℕ) → begins code p ≡ true → p < q → q < p + size_at code p → begins code q ≡ false
  unfolding begins
  begins-inside p q b l k =
      let e : suc (p + (q - p - 1)) ≡ q = omega arith in
      let h = left_in p (begin-left p b) (q - p - 1) (omega arith) in
      ne_eqb (left_at code q) 0 (apart (left_at code q) (subst (λ (i : ℕ). left_at code i + suc (q - p - 1) ≡ size_at code p) e h))
    where
      apart : (m : ℕ) → m + suc (q - p - 1) ≡ size_at code p → m ≡ 0 → ⊥
      apart m h z = omega arith

  pub begins-first : begins code 0 ≡ true
  unfolding begins left_at
  begins-first = refl

  -- a search that looks only where instructions begin: it goes on to the next one
  pub quiet_next : (g : ℕ → Bool) (p : ℕ) → begins code p ≡ true → ((q : ℕ) → q < p → (begins code q && g q) ≡ false) → g p ≡ false
      → (q : ℕ) → q < p + size_at code p → (begins code q && g q) ≡ false
  quiet_next g p b h e q l = go (dec_lt q p) (ℕ_discrete q p)
    where
      off : (t : Bool) → (t && false) ≡ false
      off true = refl
      off false = refl

      go : Dec (q < p) → Dec (q ≡ p) → (begins code q && g q) ≡ false
      go (yes k) d = h q k
      go (no k) (yes d) = rw (d, e) (off (begins code p))
      go (no k) (no d) = rw (begins-inside p q b (omega arith) l)

  -- ---- counts
  count-suc : (p : ℕ) → count_to code (suc p) ≡ count_to code p + gives_at code p
  unfolding count_to sum_below
  count-suc p = refl

  pub count-zero : count_to code 0 ≡ 0
  unfolding count_to sum_below
  count-zero = refl

  gives-begin : (p : ℕ) → begins code p ≡ true → gives_at code p ≡ gives_of (java_at code p)
  unfolding gives_at
  gives-begin p b = rw b

  gives-inside : (p : ℕ) → begins code p ≡ false → gives_at code p ≡ 0
  unfolding gives_at
  gives-inside p b = rw b

  count-in : (p : ℕ) → begins code p ≡ true → (j : ℕ) → j < size_at code p → count_to code (suc (p + j)) ≡ count_to code p + gives_of (java_at code p)
  count-in p b zero l = let e : p + 0 ≡ p = omega arith in rw (e, count-suc, gives-begin p b)
  count-in p b (suc j) l =
      let e : p + suc j ≡ suc (p + j) = omega arith in
      let i : begins code (suc (p + j)) ≡ false = begins-inside p (suc (p + j)) b (omega arith) (omega arith) in
      rw (e, count-suc (suc (p + j)), gives-inside (suc (p + j)) i) (plus (count-in p b j (omega arith)))
    where
      plus : {m n : ℕ} → m ≡ n → m + 0 ≡ n
      plus h = omega arith

  -- the count at any offset within an instruction, and at its end
  pub count_next : (p q : ℕ) → begins code p ≡ true → p < q → q ≤ p + size_at code p → count_to code q ≡ count_to code p + gives_of (java_at code p)
  count_next p q b l k =
      let e : suc (p + (q - p - 1)) ≡ q = omega arith in
      subst (λ (i : ℕ). count_to code i ≡ count_to code p + gives_of (java_at code p)) e (count-in p b (q - p - 1) (omega arith))

  grows : (p j : ℕ) → count_to code p ≤ count_to code (p + j)
  grows p zero = let e : p + 0 ≡ p = omega arith in rw e (omega arith)
  grows p (suc j) = let e : p + suc j ≡ suc (p + j) = omega arith in rw (e, count-suc) (omega (arith, grows p j))

  pub count-grows : (p q : ℕ) → p ≤ q → count_to code p ≤ count_to code q
  count-grows p q l = let e : p + (q - p) ≡ q = omega arith in subst (λ (i : ℕ). count_to code p ≤ count_to code i) e (grows p (q - p))

  stays : (j : ℕ) → count_to code (length code + j) ≡ total code
  unfolding total
  stays zero = let e : length code + 0 ≡ length code = omega arith in rw e
  stays (suc j) =
      let e : length code + suc j ≡ suc (length code + j) = omega arith in
      rw (e, count-suc (length code + j), gives-past (length code + j) (omega arith)) (plus (stays j))
    where
      plus : {m n : ℕ} → m ≡ n → m + 0 ≡ n
      plus h = omega arith

  -- past the end no more is written
  pub count_past : (p : ℕ) → length code ≤ p → count_to code p ≡ total code
  count_past p l = let e : length code + (p - length code) ≡ p = omega arith in subst (λ (i : ℕ). count_to code i ≡ total code) e (stays (p - length code))

  pub count_under : (p : ℕ) → count_to code p ≤ total code
  unfolding total
  count_under p = go (dec_lt p (length code))
    where
      past : length code ≤ p → count_to code p ≡ count_to code (length code)
      past l = count_past p l

      go : Dec (p < length code) → count_to code p ≤ count_to code (length code)
      go (yes l) = count-grows p (length code) (omega arith)
      go (no l) = omega (arith, past (omega arith))
