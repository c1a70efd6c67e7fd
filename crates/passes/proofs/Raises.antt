-- Pairs raised: one entry, nothing at all, one after another; a row.
use mathlib.Core.List.{List}
use mathlib.Core.Path.{◌≡◌, refl, sym, ap, ◌∙◌}
use mathlib.Core.Logic.{◌⊎◌, inl, inr}
use mathlib.Core.Bool.{Bool, true, false, cond}
use Prim.Native.Nat.{ℕ, ◌+◌, ◌≤◌, ◌<◌}
use native.Mathlib.Nat.{le_refl}
use native.Mathlib.Omega.{arith}
use native.Mathlib.Decide.{ℕ_discrete, dec_lt}
use lib.ListN.{length}
use lib.Dec.{leb, eqb}
use borrow.Author.Tests.{eq-eqb, ne_eqb, leb-true, leb-false}
use Rattle.ground.specs.Bytes.{at}
use Rattle.instructions.specs.declared.Instruction.{Instruction}
use Rattle.instructions.specs.Table.{decoded}
use Rattle.bundle.specs.declared.Class.{Class}
use Rattle.bundle.specs.Container.{classes, class_at, fields_of, part_of, instruction_at}
use Rattle.bundle.specs.Program.{program_of}
use Rattle.entries.specs.Entries.{max_dip, max_end}
use Rattle.rows.specs.Rows.{row_at, row_start, depth_at}
use Rattle.needs.specs.declared.Pair.{Pair}
use Rattle.needs.specs.Needs.{greater, entry_need}
use Rattle.needs.proofs.Programs.{need-same}
use Rattle.shape.specs.PairBytes.{place_in, place_of, Reference}
use Rattle.choices.specs.Choice.{Choice, Accepted}
use Rattle.choices.specs.Asked.{need_at, Enough}
use Rattle.choices.proofs.Choices.{instruction-same}
use Rattle.choices.proofs.Complete.{agree, in_table}
use Rattle.choices.proofs.Slots.{forced-entry}
use Rattle.passes.specs.Passes.{raised_to, Raise, still, over, raised, Reading, Lower, room, code_of, Reads, Raised, Given, GivenEntry, TheSlot, EverySlot, either}
use Rattle.passes.proofs.Two.{two-long, two-end, two-dip, by_byte, two-room, two-less}
use Rattle.passes.proofs.Writes.{reads, two_choice, other_row, within, a-reference, of-kind-3}
use Rattle.passes.proofs.Follows.{need-stays, enough-stays}
use Rattle.passes.proofs.Clears.{RowThen, depth_is, placed-in}

-- ---- the greater of two
pub greater-from : (a b : ℕ) → (a ≤ greater a b) × (b ≤ greater a b)
unfolding greater
greater-from a b = go (leb a b) refl
  where
    go : (t : Bool) → leb a b ≡ t → (a ≤ cond t b a) × (b ≤ cond t b a)
    go true e = (leb-true a b e, le_refl b)
    go false e = (le_refl a, omega (arith, leb-false a b e))

pub greater-upto : (a b n : ℕ) → a ≤ n → b ≤ n → greater a b ≤ n
unfolding greater
greater-upto a b n p q = go (leb a b)
  where
    go : (t : Bool) → cond t b a ≤ n
    go true = q
    go false = p

-- THEOREM: an entry raised to what is asked of it keeps below every accepted choice
pub raise-lower : (b x : List ℕ) (c l s : ℕ) → Reference b c l s → (q : Pair) → q ≡ need_at b x c l s → place_of b c l s + 3 < length x → q.dip ≤ max_dip → q.end ≤ max_end
    → Lower b x → Lower b (raised_to x (place_of b c l s) q)
unfolding raised_to
raise-lower b x c l s r q e h ld le L =
    record {
      readable = L.readable;
      bytes = L.bytes;
      choice = two_choice b x c l s r v w h L.readable (greater-upto _ _ _ (L.choice.dips c l s r) ld) (omega (arith, (greater-from (at x (P + 3)) q.end).0, L.choice.least_end c l s r)) (greater-upto _ _ _ (L.choice.ends c l s r) le) L.choice;
      below = λ y D A.
          let f = forced-entry b L.readable x L.choice c l s r y D A (L.below y D A) in
          by_byte x P v w h (λ p n. n ≤ at y p)
          (greater-upto _ _ _ (L.below y D A (P + 2)) (rw e f.0))
          (greater-upto _ _ _ (L.below y D A (P + 3)) (rw e f.1))
          (λ p d g. L.below y D A p);
    }
  where
    P : ℕ
    P = place_of b c l s

    v : ℕ
    v = greater (at x (place_of b c l s + 2)) q.dip

    w : ℕ
    w = greater (at x (place_of b c l s + 3)) q.end

module _ (x : List ℕ) (p : ℕ) (q : Pair) (h : p + 3 < length x) where
  raise-room : room (raised_to x p q) ≤ room x
  unfolding raised_to
  raise-room = two-room x p _ _ h (greater-from (at x (p + 2)) q.dip).0 (greater-from (at x (p + 3)) q.end).0

  raise-less : ((r : ℕ) → at x r < 256) → q.dip ≤ max_dip → q.end ≤ max_end → (at x (p + 2) < q.dip) ⊎ (at x (p + 3) < q.end) → room (raised_to x p q) < room x
  unfolding raised_to
  raise-less small ld le f =
      two-less x p _ _ h d.0 e.0
      (greater-upto _ _ _ (omega (arith, small (p + 2))) (omega arith)) (greater-upto _ _ _ (omega (arith, small (p + 3))) (omega arith)) (more f)
    where
      d : (at x (p + 2) ≤ greater (at x (p + 2)) q.dip) × (q.dip ≤ greater (at x (p + 2)) q.dip)
      d = greater-from (at x (p + 2)) q.dip

      e : (at x (p + 3) ≤ greater (at x (p + 3)) q.end) × (q.end ≤ greater (at x (p + 3)) q.end)
      e = greater-from (at x (p + 3)) q.end

      more : (at x (p + 2) < q.dip) ⊎ (at x (p + 3) < q.end) → (at x (p + 2) < greater (at x (p + 2)) q.dip) ⊎ (at x (p + 3) < greater (at x (p + 3)) q.end)
      more (inl k) = inl (omega (arith, d.1))
      more (inr k) = inr (omega (arith, e.1))

module _ (x : List ℕ) (p : ℕ) (q : Pair) (h : p + 3 < length x) where
  -- nothing falls, and the entry has q
  raise-up : (r : ℕ) → at x r ≤ at (raised_to x p q) r
  unfolding raised_to
  raise-up = by_byte x p _ _ h (λ r n. at x r ≤ n) (greater-from (at x (p + 2)) q.dip).0 (greater-from (at x (p + 3)) q.end).0 (λ r d e. le_refl _)

  raise-dip : q.dip ≤ at (raised_to x p q) (p + 2)
  unfolding raised_to
  raise-dip = rw (two-dip x p (greater (at x (p + 2)) q.dip) (greater (at x (p + 3)) q.end) h) (greater-from (at x (p + 2)) q.dip).1

  raise-end : q.end ≤ at (raised_to x p q) (p + 3)
  unfolding raised_to
  raise-end = rw (two-end x p (greater (at x (p + 2)) q.dip) (greater (at x (p + 3)) q.end) h) (greater-from (at x (p + 3)) q.end).1

pub raise-long : (x : List ℕ) (p : ℕ) (q : Pair) (o : ℕ) (x' : List ℕ) → Raise x p q o x' → length x' ≡ length x
unfolding raised_to
raise-long x p q _ _ (still f) = refl
raise-long x p q _ _ (over h e f) = refl
raise-long x p q _ _ (raised h e ld le f) = two-long x p _ _ h

-- ---- what is asked of the rows that do not read row l, whose entry s is raised, stays
module _ (b x : List ℕ) (c l s : ℕ) (r : Reference b c l s) (q : Pair) (h : place_of b c l s + 3 < length x) (L : Lower b x) (L' : Lower b (raised_to x (place_of b c l s) q)) where
  abbrev x' : List ℕ
  x' = raised_to x (place_of b c l s) q

  same_bytes : (c' m s' t : ℕ) → c' < classes b → 1 ≤ m → m ≤ (class_at b c').code → s' < (class_at b c').vars + (class_at b c').limit → t < 4
      → (c' ≡ c → m ≡ l → ⊥) → at x (place_of b c' m s' + t) ≡ at x' (place_of b c' m s' + t)
  unfolding raised_to
  same_bytes c' m s' t lc low high ls lt f = sym (other_row b x c l s r _ _ h L.readable c' m s' t lc low high ls lt f)

  need-kept : (c' l' s' : ℕ) → Reference b c' l' s' → (c' ≡ c → Reads b c' l' l → ⊥) → need_at b x c' l' s' ≡ need_at b x' c' l' s'
  need-kept c' l' s' r' f =
      need-stays b L.readable x x' L.choice L'.choice c' r'.in_use.class_known l' s' r'.in_use.first r'.in_use.last
      (λ m low high w i t u v. same_bytes c' m i t r'.in_use.class_known low high u v (λ d e. f d (rw e at w)))

  enough-kept : (c' l' s' : ℕ) → Reference b c' l' s' → (c' ≡ c → Reads b c' l' l → ⊥) → Enough b x c' l' s' → Enough b x' c' l' s'
  enough-kept c' l' s' r' f =
      enough-stays b L.readable x x' L.choice L'.choice c' r'.in_use.class_known l' s' (need-kept c' l' s' r' f) (raise-up x (place_of b c l s) q h)

  -- .. and so has this one, where it does not read itself
  enough-raised : q ≡ need_at b x c l s → (Reads b c l l → ⊥) → Enough b x' c l s
  enough-raised e f =
      let n = e ∙ need-kept c l s r (λ d. f) in
      let d = ap (λ (p : Pair). p.dip) n in
      let g = ap (λ (p : Pair). p.end) n in
      record { dip = omega (arith, raise-dip x (place_of b c l s) q h); end = omega (arith, raise-end x (place_of b c l s) q h) }

-- ---- one entry
module _ (n c : ℕ) (k : Class) (l : ℕ) (i : Instruction) (s : ℕ) (x : List ℕ) (p : ℕ) (e : p ≡ k.offset + place_in k l s) where
  abbrev G : List ℕ → Type 0
  G = GivenEntry n c k l i s

  placed : (b : List ℕ) → G b → p ≡ place_of b c l s
  unfolding place_of
  placed b g = rw (← g.place.class) e

  module _ (q : Pair) (eq : q ≡ entry_need (program_of x) k.vars (row_at n k (part_of x k)) l i s) where
    -- what the code works out is what is asked
    asks : (b : List ℕ) → G b → Lower b x → q ≡ need_at b x c l s
    unfolding need_at
    asks b g L =
        eq
        ∙ rw (g.count, g.place.class, g.instruction)
        (need-same (program_of x) (program_of b) (classes b) (fields_of b) (agree b L.readable x L.choice) (class_at b c).vars (class_at b c).code (row_at (classes b) (class_at b c) (part_of x (class_at b c))) l _ s
        (in_table b L.readable c l g.place.in_use.class_known g.place.in_use.first g.place.in_use.last))

    pub entry-raised : ((r : ℕ) → at x r < 256) → (o : ℕ) (x' : List ℕ) → Raise x p q o x' → Raised G c l (TheSlot s) x o x'
    entry-raised small _ _ (still f) =
        record {
          keeps = λ b g L. L;
          same = λ d. refl;
          met = λ d b g L s' t r. enough b g L s' t r;
          after = λ d b g L s' t r z. enough b g L s' t r;
          stays = λ b g L c' l' s' r z h. h;
          never = λ d. absurd (omega arith);
          falls = le_refl _;
          less = λ d. absurd (omega arith);
          long = refl;
          answer = omega arith;
        }
      where
        enough : (b : List ℕ) → G b → Lower b x → (s' : ℕ) → s' ≡ s → Reference b c l s' → Enough b x c l s'
        enough b g L s' d r =
            let r' : Reference b c l s = rw d at r in
            let u = g.place.in_use in
            let m = f (rw (placed b g) (within b x (reads L) c l s u)) (rw (placed b g) (of-kind-3 b x (reads L) c l s u r')) in
            let m0 : (need_at b x c l s).dip ≤ at x (place_of b c l s + 2) = rw (asks b g L, placed b g) at m.0 in
            let m1 : (need_at b x c l s).end ≤ at x (place_of b c l s + 3) = rw (asks b g L, placed b g) at m.1 in
            rw d (record { dip = m0; end = m1 })
    entry-raised small _ _ (over h d f) =
        record {
          keeps = λ b g L. L;
          same = λ e. refl;
          met = λ e. absurd (omega arith);
          after = λ e. absurd (e refl);
          stays = λ b g L c' l' s' r z h. h;
          never = λ z b g L y D A. no_more b g L y D A f;
          falls = le_refl _;
          less = λ e. absurd (omega arith);
          long = refl;
          answer = omega arith;
        }
      where
        no_more : (b : List ℕ) → G b → Lower b x → (y : List ℕ) → Choice b y → Accepted y → (max_dip < q.dip) ⊎ (max_end < q.end) → ⊥
        no_more b g L y D A f =
            let r = a-reference b x (reads L) c l s g.place.in_use (rw (placed b g) at d) in
            let m = forced-entry b L.readable x L.choice c l s r y D A (L.below y D A) in
            let m0 : q.dip ≤ at y (place_of b c l s + 2) = rw (asks b g L) m.0 in
            let m1 : q.end ≤ at y (place_of b c l s + 3) = rw (asks b g L) m.1 in
            which f (D.dips c l s r) (D.ends c l s r) m0 m1
          where
            which : {u v : ℕ} → (max_dip < q.dip) ⊎ (max_end < q.end) → u ≤ max_dip → v ≤ max_end → q.dip ≤ u → q.end ≤ v → ⊥
            which (inl d) a b c d' = omega arith
            which (inr d) a b c d' = omega arith
    entry-raised small _ _ (raised h d ld le f) =
        record {
          keeps = λ b g L. rw (placed b g) (lower b g L);
          same = λ e. absurd (omega arith);
          met = λ e. absurd (omega arith);
          after = λ e b g L s' t r z. rw (t, placed b g) (enough-raised b x c l s (reference b g L) q (far b g) L (lower b g L) (asks b g L) z);
          stays = λ b g L c' l' s' r z m. rw (placed b g) (enough-kept b x c l s (reference b g L) q (far b g) L (lower b g L) c' l' s' r z m);
          never = λ e. absurd (omega arith);
          falls = raise-room x p q h;
          less = λ z. raise-less x p q h small ld le f;
          long = raise-long x p q _ _ (raised h d ld le f);
          answer = omega arith;
        }
      where
        reference : (b : List ℕ) → G b → Lower b x → Reference b c l s
        reference b g L = a-reference b x (reads L) c l s g.place.in_use (rw (placed b g) at d)

        far : (b : List ℕ) → G b → place_of b c l s + 3 < length x
        far b g = rw (placed b g) at h

        lower : (b : List ℕ) → G b → Lower b x → Lower b (raised_to x (place_of b c l s) q)
        lower b g L = raise-lower b x c l s (reference b g L) q (asks b g L) (far b g) ld le L

-- ---- nothing at all; one after another; seen from further off
module _ (G : List ℕ → Type 0) (c l : ℕ) where
  raised-none : (W : ℕ → Type 0) (x : List ℕ) → ((s : ℕ) → W s → ⊥) → Raised G c l W x 0 x
  raised-none W x f =
      record {
        keeps = λ b g L. L;
        same = λ e. refl;
        met = λ e b g L s t. absurd (f s t);
        after = λ e b g L s t. absurd (f s t);
        stays = λ b g L c' l' s r z h. h;
        never = λ e. absurd (omega arith);
        falls = le_refl _;
        less = λ e. absurd (omega arith);
        long = refl;
        answer = omega arith;
      }

  module _ (Z W U : ℕ → Type 0) (cover : (s : ℕ) → U s → Z s ⊎ W s) where
    raised-then : (x y z : List ℕ) (o o' : ℕ) → (o ≡ 2 → ⊥) → Raised G c l Z x o y → Raised G c l W y o' z → Raised G c l U x (either o o') z
    unfolding either
    raised-then x y z o o' h p q = go (ℕ_discrete o' 0)
      where
        later : (o' ≡ 2 → ⊥) → (b : List ℕ) → G b → Lower b x → (s : ℕ) → Reference b c l s → (Reads b c l l → ⊥) → Z s ⊎ W s → Enough b z c l s
        later d b g L s r f (inl t) = q.stays b g (p.keeps b g L) c l s r (λ e. f) (p.after h b g L s t r f)
        later d b g L s r f (inr t) = q.after d b g (p.keeps b g L) s t r f

        go : Dec (o' ≡ 0) → Raised G c l U x (cond (eqb o' 0) o o') z
        go (yes e) =
            rw (eq-eqb o' 0 e)
            (record {
              keeps = λ b g L. q.keeps b g (p.keeps b g L);
              same = λ d. q.same e ∙ p.same d;
              met = λ d b g L s t r. enough d b g L s r (cover s t);
              after = λ d b g L s t r f. later (λ k. omega arith) b g L s r f (cover s t);
              stays = λ b g L c' l' s r f m. q.stays b g (p.keeps b g L) c' l' s r f (p.stays b g L c' l' s r f m);
              never = λ d. absurd (h d);
              falls = omega (arith, p.falls, q.falls);
              less = λ d. omega (arith, p.less d, q.falls);
              long = q.long ∙ p.long;
              answer = p.answer;
            })
          where
            enough : o ≡ 0 → (b : List ℕ) → G b → Lower b x → (s : ℕ) → Reference b c l s → Z s ⊎ W s → Enough b x c l s
            enough d b g L s r (inl t) = p.met d b g L s t r
            enough d b g L s r (inr t) = rw (p.same d) at (q.met e b g (p.keeps b g L) s t r)
        go (no e) =
            rw (ne_eqb o' 0 e)
            (record {
              keeps = λ b g L. q.keeps b g (p.keeps b g L);
              same = λ d. absurd (e d);
              met = λ d. absurd (e d);
              after = λ d b g L s t r f. later d b g L s r f (cover s t);
              stays = λ b g L c' l' s r f m. q.stays b g (p.keeps b g L) c' l' s r f (p.stays b g L c' l' s r f m);
              never = λ d b g L. q.never d b g (p.keeps b g L);
              falls = omega (arith, p.falls, q.falls);
              less = λ d. omega (arith, p.falls, q.less d);
              long = q.long ∙ p.long;
              answer = q.answer;
            })

module _ (G H : List ℕ → Type 0) (c l : ℕ) (Z W : ℕ → Type 0) (x : List ℕ) (given : (b : List ℕ) → H b → Reading b x → G b) where
  raised-from : ((b : List ℕ) → H b → Reading b x → (s : ℕ) → Reference b c l s → W s → Z s) → (o : ℕ) (x' : List ℕ) → Raised G c l Z x o x' → Raised H c l W x o x'
  raised-from cover o x' q =
      record {
        keeps = λ b g L. q.keeps b (given b g (reads L)) L;
        same = q.same;
        met = λ d b g L s t r. q.met d b (given b g (reads L)) L s (cover b g (reads L) s r t) r;
        after = λ d b g L s t r f. q.after d b (given b g (reads L)) L s (cover b g (reads L) s r t) r f;
        stays = λ b g L. q.stays b (given b g (reads L)) L;
        never = λ d b g L. q.never d b (given b g (reads L)) L;
        falls = q.falls;
        less = q.less;
        long = q.long;
        answer = q.answer;
      }

-- an answer of 2 is final, whatever was left
raised-over : (G : List ℕ → Type 0) (c l : ℕ) (Z W : ℕ → Type 0) (o : ℕ) (x x' : List ℕ) → o ≡ 2 → Raised G c l Z x o x' → Raised G c l W x o x'
raised-over G c l Z W o x x' e q =
    record {
      keeps = q.keeps;
      same = q.same;
      met = λ f. absurd (omega arith);
      after = λ f. absurd (f e);
      stays = q.stays;
      never = q.never;
      falls = q.falls;
      less = q.less;
      long = q.long;
      answer = q.answer;
    }

-- ---- a row, entry after entry: x₀ is the bundle where the loop began
abbrev pub GivenThen : ℕ → ℕ → Class → ℕ → List ℕ → List ℕ → Type 0
GivenThen n c k l x₀ b = (n ≡ classes b) × RowThen c k l x₀ b

abbrev pub SlotsBelow : ℕ → ℕ → Type 0
SlotsBelow s s' = s' < s

module _ (n : ℕ) (k : Class) (l m : ℕ) (x₀ : List ℕ) (i : Instruction) (ei : i ≡ instruction_at k (part_of x₀ k) l) (em : m ≡ k.vars + depth_at (part_of x₀ k) (row_start k l) k.vars) where
  instruction-is : (c : ℕ) (b : List ℕ) → RowThen c k l x₀ b → i ≡ code_of b c l
  unfolding instruction_at
  instruction-is c b g =
      let h : i ≡ instruction_at (class_at b c) (part_of x₀ (class_at b c)) l = rw g.0.class at ei in
      h ∙ ap decoded (instruction-same b g.1.readable x₀ g.1.alike c g.0.class_known l g.0.first g.0.last)

  pub row-begins : (c : ℕ) → Raised (GivenThen n c k l x₀) c l (SlotsBelow 0) x₀ 0 x₀
  row-begins c = raised-none (GivenThen n c k l x₀) c l (SlotsBelow 0) x₀ (λ s t. omega arith)

  pub row-goes-on : (s o p : ℕ) (x x' : List ℕ) → s < m → (o ≡ 2 → ⊥) → ((c : ℕ) → Raised (GivenThen n c k l x₀) c l (SlotsBelow s) x₀ o x)
      → ((c : ℕ) → Raised (GivenEntry n c k l i s) c l (TheSlot s) x p x') → (c : ℕ) → Raised (GivenThen n c k l x₀) c l (SlotsBelow (s + 1)) x₀ (either o p) x'
  row-goes-on s o p x x' h f a d c =
      raised-then (GivenThen n c k l x₀) c l (SlotsBelow s) (TheSlot s) (SlotsBelow (s + 1)) last x₀ x x' o p f (a c)
      (raised-from (GivenEntry n c k l i s) (GivenThen n c k l x₀) c l (TheSlot s) (TheSlot s) x
      (λ b g L. record { count = g.0; place = placed-in k l m x₀ em c b g.1 s h; instruction = instruction-is c b g.1 }) (λ b g L s' r t. t) p x' (d c))
    where
      last : (s' : ℕ) → s' < s + 1 → (s' < s) ⊎ (s' ≡ s)
      last s' t = go (dec_lt s' s)
        where
          go : Dec (s' < s) → (s' < s) ⊎ (s' ≡ s)
          go (yes q) = inl q
          go (no q) = inr (omega arith)

  pub row_ends : (s o : ℕ) (x : List ℕ) → m ≤ s → ((c : ℕ) → Raised (GivenThen n c k l x₀) c l (SlotsBelow s) x₀ o x) → (c : ℕ) → Raised (Given n c k l) c l EverySlot x₀ o x
  row_ends s o x h a c =
      raised-from (GivenThen n c k l x₀) (Given n c k l) c l (SlotsBelow s) EverySlot x₀ (λ b g L. (g.count, (g.row, L)))
      (λ b g L s' r t. omega (arith, h, r.in_use.used, depth_is k l m x₀ em c b (g.row, L))) o x (a c)

  pub row-over : (s o : ℕ) (x : List ℕ) → o ≡ 2 → ((c : ℕ) → Raised (GivenThen n c k l x₀) c l (SlotsBelow s) x₀ o x) → (c : ℕ) → Raised (Given n c k l) c l EverySlot x₀ 2 x
  row-over s o x e a c =
      rw e at (raised-from (GivenThen n c k l x₀) (Given n c k l) c l EverySlot EverySlot x₀ (λ b g L. (g.count, (g.row, L))) (λ b g L s' r t. t) o x
      (raised-over (GivenThen n c k l x₀) c l (SlotsBelow s) EverySlot o x₀ x e (a c)))
