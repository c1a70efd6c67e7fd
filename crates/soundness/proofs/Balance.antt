-- One thread against its counts, over 32 slots: E s is the entry of slot s, v s its value, k o the thread's count of the object o; and the forms in which a step keeps that.
use Prim.Native.Nat.{ℕ, zero, suc, ◌+◌, ◌*◌, ◌≤◌, ◌<◌}
use mathlib.Core.Path.{◌≡◌, refl, ap}
use mathlib.Core.Logic.{◌≢◌}
use mathlib.Core.Bool.{Bool, true, false, cond}
use native.Mathlib.Omega.{arith}
use native.Mathlib.Decide.{ℕ_discrete}
use Rattle.ground.specs.Bounded.{sum_below}
use Rattle.ground.proofs.Sums.{sum-le, sum_one, sum-two, sum-ge, sum-term, sum-some}
use Rattle.entries.specs.Entries.{Entry, Blank, no_end, dip_of, end_of}
use Rattle.values.specs.declared.Value.{Value}
use Rattle.soundness.specs.Balance.{Matches, names, dip, end, Balanced}
use Rattle.soundness.proofs.Kind.{more-kind}
use Rattle.soundness.proofs.Weights.{cond-le, cond_top, cond-low, Weaker, far-end, Slot}

sum-most : (n : ℕ) (f : ℕ → ℕ) (c : ℕ) → ((i : ℕ) → i < n → f i ≤ c) → sum_below n f ≤ c * n
unfolding sum_below
sum-most zero f c h = omega arith
sum-most (suc n) f c h = omega (arith, sum-most n f c (λ i l. h i (omega arith)), h n (omega arith))

-- ---- the sums at the slots that a rule names
split-dip : (b c : Bool) (x y z u : ℕ) → x + y ≤ z → cond b x 0 + cond b y 0 + 0 ≤ cond b z 0 + cond c u 0 + 0
split-dip true c x y z u h = omega arith
split-dip false c x y z u h = omega arith

split-end : (b c : Bool) (x y z u : ℕ) → u ≡ 64 → x + y ≤ z + 64 → cond b x 64 + cond b y 64 + 0 ≤ cond b z 64 + cond c u 64 + 0
split-end true true x y z u q h = omega arith
split-end true false x y z u q h = omega arith
split-end false true x y z u q h = omega arith
split-end false false x y z u q h = omega arith

-- the count of one object moves from k to m: up by one, down by one
up-dip : (b : Bool) (x z k m : ℕ) → (b ≡ true → m ≡ k + 1) → (b ≡ false → m ≡ k) → x ≤ z + 1 → cond b x 0 + k ≤ cond b z 0 + m
up-dip true x z k m y e h = omega (arith, y refl)
up-dip false x z k m y e h = omega (arith, e refl)

up-end : (b : Bool) (x z k m : ℕ) → (b ≡ true → m ≡ k + 1) → (b ≡ false → m ≡ k) → x + 1 ≤ z → cond b x 64 + m ≤ cond b z 64 + k
up-end true x z k m y e h = omega (arith, y refl)
up-end false x z k m y e h = omega (arith, e refl)

down-dip : (b : Bool) (x z k m : ℕ) → (b ≡ true → k ≡ m + 1) → (b ≡ false → m ≡ k) → x + 1 ≤ z → cond b x 0 + k ≤ cond b z 0 + m
down-dip true x z k m y e h = omega (arith, y refl)
down-dip false x z k m y e h = omega (arith, e refl)

down-end : (b : Bool) (x z k m : ℕ) → (b ≡ true → k ≡ m + 1) → (b ≡ false → m ≡ k) → x ≤ z + 1 → cond b x 64 + m ≤ cond b z 64 + k
down-end true x z k m y e h = omega (arith, y refl)
down-end false x z k m y e h = omega (arith, e refl)

module _ (n : ℕ) (cls : ℕ → ℕ) (E : ℕ → Entry) (v : ℕ → Value) (k : ℕ → ℕ) (E' : ℕ → Entry) (v' : ℕ → Value) where
  -- no count moves: every slot keeps
  pub keep_all : ((s : ℕ) → s < 32 → Slot n cls (E s) (v s) (E' s) (v' s)) → Balanced n cls E v k → Balanced n cls E' v' k
  keep_all h t =
      record {
        kinds = λ s l. (h s l).kind (t.kinds s l);
        dips = λ o b. omega (arith, t.dips o b, sum-le 32 (λ s. dip o (E' s) (v' s)) (λ s. dip o (E s) (v s)) (λ s l. (h s l).dips o));
        ends = λ o b. omega (arith, t.ends o b, sum-le 32 (λ s. end o (E' s) (v' s)) (λ s. end o (E s) (v s)) (λ s l. (h s l).ends o));
      }

  -- load: the reference at slot a is split over a and the place b, which comes into use
  pub keep-split : (a b : ℕ) → a < b → b < 32
      → ((s : ℕ) → s < 32 → s ≢ a → s ≢ b → Slot n cls (E s) (v s) (E' s) (v' s))
      → v' a ≡ v a → v' b ≡ v a → E b ≡ Blank
      → (Matches n cls (E a) (v a) → Matches n cls (E' a) (v a)) → (Matches n cls (E a) (v a) → Matches n cls (E' b) (v a))
      → dip_of (E' a) + dip_of (E' b) ≤ dip_of (E a) → end_of (E' a) + end_of (E' b) ≤ end_of (E a) + no_end
      → Balanced n cls E v k → Balanced n cls E' v' k
  keep-split a b ab l h qa qb u ga gb ds es t =
      record {
        kinds = λ s j. go s j (ℕ_discrete s a) (ℕ_discrete s b);
        dips = λ o z. omega (
          arith,
          t.dips o z,
          sum-two 32 (λ s. dip o (E' s) (v' s)) (λ s. dip o (E s) (v s)) a b 0 0 ab l (λ s j x y. (h s j x y).dips o)
              (rw (qa, qb) (split-dip (names o (v a)) (names o (v b)) (dip_of (E' a)) (dip_of (E' b)) (dip_of (E a)) (dip_of (E b)) ds)),
        );
        ends = λ o z. omega (
          arith,
          t.ends o z,
          sum-two 32 (λ s. end o (E' s) (v' s)) (λ s. end o (E s) (v s)) a b 0 0 ab l (λ s j x y. (h s j x y).ends o)
              (rw (qa, qb) (split-end (names o (v a)) (names o (v b)) (end_of (E' a)) (end_of (E' b)) (end_of (E a)) (end_of (E b)) (ap end_of u) es)),
        );
      }
    where
      go : (s : ℕ) → s < 32 → Dec (s ≡ a) → Dec (s ≡ b) → Matches n cls (E' s) (v' s)
      go s j (yes q) d = rw (q, qa) (ga (t.kinds a (omega arith)))
      go s j (no x) (yes q) = rw (q, qb) (gb (t.kinds a (omega arith)))
      go s j (no x) (no y) = (h s j x y).kind (t.kinds s j)

  -- store: the value of the place b, which falls out of use, comes to slot a
  pub keep-move : (a b : ℕ) → a < b → b < 32
      → ((s : ℕ) → s < 32 → s ≢ a → s ≢ b → Slot n cls (E s) (v s) (E' s) (v' s))
      → v' a ≡ v b → E' b ≡ Blank → no_end ≤ end_of (E a) → Weaker (E b) (E' a)
      → Balanced n cls E v k → Balanced n cls E' v' k
  keep-move a b ab l h qa u g f t =
      record {
        kinds = λ s j. go s j (ℕ_discrete s a) (ℕ_discrete s b);
        dips = λ o z. omega (
          arith,
          t.dips o z,
          sum-two 32 (λ s. dip o (E' s) (v' s)) (λ s. dip o (E s) (v s)) a b 0 0 ab l (λ s j x y. (h s j x y).dips o)
              (rw (qa, u) (omega (
                arith,
                cond-le (names o (v b)) (dip_of (E' a)) (dip_of (E b)) 0 f.dip_less,
                cond-low (names o (v' b)) 0 0 (omega arith),
              ))),
        );
        ends = λ o z. omega (
          arith,
          t.ends o z,
          sum-two 32 (λ s. end o (E' s) (v' s)) (λ s. end o (E s) (v s)) a b 0 0 ab l (λ s j x y. (h s j x y).ends o)
              (rw (qa, u) (omega (
                arith,
                cond-le (names o (v b)) (end_of (E' a)) (end_of (E b)) 64 f.end_less,
                cond-low (names o (v' b)) 64 64 (omega arith),
                cond_top (names o (v a)) (end_of (E a)) 64 g,
              ))),
        );
      }
    where
      go : (s : ℕ) → s < 32 → Dec (s ≡ a) → Dec (s ≡ b) → Matches n cls (E' s) (v' s)
      go s j (yes q) d = rw (q, qa) (f.kind n cls (v b) (t.kinds b l))
      go s j (no x) (yes q) = rw (q, u) tt
      go s j (no x) (no y) = (h s j x y).kind (t.kinds s j)

  -- a lock moves at the object of slot a: the counts become m, which is k but at that object
  module _ (m : ℕ → ℕ) (a : ℕ) (l : a < 32) (h : (s : ℕ) → s < 32 → s ≢ a → Slot n cls (E s) (v s) (E' s) (v' s)) (qa : v' a ≡ v a) (ga : Matches n cls (E a) (v a) → Matches n cls (E' a) (v a)) (rest : (o : ℕ) → o < 32 → names o (v a) ≡ false → m o ≡ k o) where
    lock-kinds : Balanced n cls E v k → (s : ℕ) → s < 32 → Matches n cls (E' s) (v' s)
    lock-kinds t s j = go (ℕ_discrete s a)
      where
        go : Dec (s ≡ a) → Matches n cls (E' s) (v' s)
        go (yes q) = rw (q, qa) (ga (t.kinds a l))
        go (no x) = (h s j x).kind (t.kinds s j)

    pub keep-enter : ((o : ℕ) → o < 32 → names o (v a) ≡ true → m o ≡ k o + 1) → dip_of (E' a) ≤ dip_of (E a) + 1 → end_of (E' a) + 1 ≤ end_of (E a)
        → Balanced n cls E v k → Balanced n cls E' v' m
    keep-enter up ds es t =
        record {
          kinds = lock-kinds t;
          dips = λ o z. omega (
            arith,
            t.dips o z,
            sum_one 32 (λ s. dip o (E' s) (v' s)) (λ s. dip o (E s) (v s)) a (k o) (m o) l (λ s j x. (h s j x).dips o)
                (rw qa (up-dip (names o (v a)) (dip_of (E' a)) (dip_of (E a)) (k o) (m o) (up o z) (rest o z) ds)),
          );
          ends = λ o z. omega (
            arith,
            t.ends o z,
            sum_one 32 (λ s. end o (E' s) (v' s)) (λ s. end o (E s) (v s)) a (m o) (k o) l (λ s j x. (h s j x).ends o)
                (rw qa (up-end (names o (v a)) (end_of (E' a)) (end_of (E a)) (k o) (m o) (up o z) (rest o z) es)),
          );
        }

    pub keep_exit : ((o : ℕ) → o < 32 → names o (v a) ≡ true → k o ≡ m o + 1) → dip_of (E' a) + 1 ≤ dip_of (E a) → end_of (E' a) ≤ end_of (E a) + 1
        → Balanced n cls E v k → Balanced n cls E' v' m
    keep_exit down ds es t =
        record {
          kinds = lock-kinds t;
          dips = λ o z. omega (
            arith,
            t.dips o z,
            sum_one 32 (λ s. dip o (E' s) (v' s)) (λ s. dip o (E s) (v s)) a (k o) (m o) l (λ s j x. (h s j x).dips o)
                (rw qa (down-dip (names o (v a)) (dip_of (E' a)) (dip_of (E a)) (k o) (m o) (down o z) (rest o z) ds)),
          );
          ends = λ o z. omega (
            arith,
            t.ends o z,
            sum_one 32 (λ s. end o (E' s) (v' s)) (λ s. end o (E s) (v s)) a (m o) (k o) l (λ s j x. (h s j x).ends o)
                (rw qa (down-end (names o (v a)) (end_of (E' a)) (end_of (E a)) (k o) (m o) (down o z) (rest o z) es)),
          );
        }

-- no slot is in use, and no object held
pub none-balanced : (n : ℕ) (cls : ℕ → ℕ) (v : ℕ → Value) (k : ℕ → ℕ) → ((o : ℕ) → o < 32 → k o ≡ 0) → Balanced n cls (λ s. Blank) v k
none-balanced n cls v k z =
    record {
      kinds = λ s l. tt;
      dips = λ o l. omega (arith, sum-most 32 (λ s. dip o Blank (v s)) 0 (λ s m. cond-low (names o (v s)) 0 0 (omega arith)));
      ends = λ o l. omega (arith, z o l, sum-most 32 (λ s. end o Blank (v s)) 64 (λ s m. cond-low (names o (v s)) 64 64 (omega arith)));
    }

module _ (n : ℕ) (cls : ℕ → ℕ) (E : ℕ → Entry) (v : ℕ → Value) (k : ℕ → ℕ) (t : Balanced n cls E v k) where
  -- there may be more objects, and counts are told otherwise
  pub balanced-more : (n' : ℕ) (cls' : ℕ → ℕ) (k' : ℕ → ℕ) → n ≤ n' → ((r : ℕ) → r < n → cls' r ≡ cls r) → ((o : ℕ) → o < 32 → k' o ≡ k o)
      → Balanced n' cls' E v k'
  balanced-more n' cls' k' ln lc qk =
      record {
        kinds = λ s l. more-kind n cls n' cls' ln lc (E s) (v s) (t.kinds s l);
        dips = λ o l. rw (qk o l) (t.dips o l);
        ends = λ o l. rw (qk o l) (t.ends o l);
      }

  -- what slot a refers to is held as often as its dip says
  pub dip-held : (a r : ℕ) → a < 32 → r < 32 → names r (v a) ≡ true → dip_of (E a) ≤ k r
  dip-held a r l lr q =
      let z : dip r (E a) (v a) ≡ dip_of (E a) = rw q in
      omega (arith, t.dips r lr, sum-term 32 (λ s. dip r (E s) (v s)) a l)

  -- where everything may go, nothing is held
  pub all_go : ((s : ℕ) → s < 32 → no_end ≤ end_of (E s)) → (o : ℕ) → o < 32 → k o ≡ 0
  all_go h o lo =
      omega (arith, t.ends o lo, sum-ge 32 (λ s. end o (E s) (v s)) 64 (λ s l. cond_top (names o (v s)) (end_of (E s)) 64 (h s l)))

  -- an object that is not there is not held
  pub far-free : (o : ℕ) → o < 32 → n ≤ o → k o ≡ 0
  far-free o lo h =
      omega (arith, t.ends o lo, sum-ge 32 (λ s. end o (E s) (v s)) 64 (λ s l. far-end n cls o (E s) (v s) h (t.kinds s l)))

  -- ends are at least -63
  pub count-bound : ((s : ℕ) → s < 32 → 1 ≤ end_of (E s)) → (o : ℕ) → o < 32 → k o ≤ 2016
  count-bound h o lo = omega (arith, t.ends o lo, sum-ge 32 (λ s. end o (E s) (v s)) 1 (λ s l. low (names o (v s)) (end_of (E s)) (h s l)))
    where
      low : (b : Bool) (x : ℕ) → 1 ≤ x → 1 ≤ cond b x 64
      low true x h = h
      low false x h = omega arith

  -- a thread that holds o has a slot that refers to o, with a negative end
  pub held-slot : (o : ℕ) → o < 32 → 0 < k o → (s : ℕ) × (s < 32) × (names o (v s) ≡ true) × (end_of (E s) < no_end)
  held-slot o lo h =
      let x = sum-some 32 (λ s. end o (E s) (v s)) 64 (omega (arith, t.ends o lo)) in
      let y = below (names o (v x.0)) (end_of (E x.0)) x.2 in
      (x.0, x.1, y.0, y.1)
    where
      below : (b : Bool) (x : ℕ) → cond b x 64 < 64 → (b ≡ true) × (x < 64)
      below true x h = (refl, h)
      below false x h = absurd (omega arith)
