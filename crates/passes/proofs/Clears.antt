-- Pairs cleared: one entry, nothing at all, one after another, and seen from further off; a row, a class, all.
use mathlib.Core.List.{List}
use mathlib.Core.Path.{◌≡◌, refl, ◌∙◌}
use mathlib.Core.Logic.{◌⊎◌, inl, inr}
use Prim.Native.Nat.{ℕ, ◌+◌, ◌≤◌, ◌<◌}
use native.Mathlib.Omega.{arith}
use native.Mathlib.Decide.{dec_lt}
use lib.ListN.{length}
use Rattle.bundle.specs.declared.Class.{Class}
use Rattle.bundle.specs.Container.{classes, class_at, part_of}
use Rattle.entries.specs.Entries.{min_end}
use Rattle.rows.specs.Rows.{row_start, depth_at}
use Rattle.shape.specs.PairBytes.{place_in, place_of, depth_of, Reference}
use Rattle.shape.specs.Apart.{Readable}
use Rattle.choices.specs.Choice.{Alike}
use Rattle.choices.proofs.Choices.{depth_same, class_same, classes-same}
use Rattle.passes.specs.Passes.{lowest, Clear, other, cleared, Reading, Lowest, Cleared, GivenRow, GivenPlace, Anything, TheEntry, TheRow, TheClass, Every}
use Rattle.passes.proofs.Two.{two-long, two-end, two-dip}
use Rattle.passes.proofs.Writes.{two-alike, other-dip, other-end, within, a-reference, of-kind-3}

module _ (b : List ℕ) (c l s : ℕ) (x : List ℕ) where
  clear-alike : Reference b c l s → place_of b c l s + 3 < length x → Alike b x → Alike b (lowest x (place_of b c l s))
  unfolding lowest
  clear-alike r h A = two-alike b x c l s r 0 min_end h (omega arith) (omega arith) A

  clear_stays : Reference b c l s → place_of b c l s + 3 < length x → Readable b → (c' l' s' : ℕ) → Reference b c' l' s' → Lowest b x c' l' s' → Lowest b (lowest x (place_of b c l s)) c' l' s'
  unfolding lowest
  clear_stays r h R c' l' s' r' z =
      record {
        dip = other-dip b x c l s r 0 min_end h R (λ n. n ≡ 0) refl c' l' s' r' z.dip;
        end = other-end b x c l s r 0 min_end h R (λ n. n ≡ min_end) refl c' l' s' r' z.end;
      }

  clear-low : place_of b c l s + 3 < length x → Lowest b (lowest x (place_of b c l s)) c l s
  unfolding lowest
  clear-low h = record { dip = two-dip x (place_of b c l s) 0 min_end h; end = two-end x (place_of b c l s) 0 min_end h }

clear-long : (x : List ℕ) (p : ℕ) (x' : List ℕ) → Clear x p x' → length x' ≡ length x
unfolding lowest
clear-long x p _ (other f) = refl
clear-long x p _ (cleared h e) = two-long x p 0 min_end h

-- ---- one entry
module _ (c : ℕ) (k : Class) (l s : ℕ) (x : List ℕ) (p : ℕ) (e : p ≡ k.offset + place_in k l s) where
  placed : (b : List ℕ) → GivenPlace c k l s b → p ≡ place_of b c l s
  unfolding place_of
  placed b g = rw (← g.class) e

  pub entry-cleared : (x' : List ℕ) → Clear x p x' → Cleared (GivenPlace c k l s) (TheEntry c l s) x x'
  entry-cleared _ (other f) =
      record {
        keeps = λ b g L. L;
        stays = λ b g L c' l' s' r z. z;
        lows = λ b g L c' l' s' t r. absurd (f (rw (placed b g) (within b x L c l s g.in_use)) (rw (placed b g) (of-kind-3 b x L c l s g.in_use (rw (t.0, t.1, t.2) at r))));
        long = refl;
      }
  entry-cleared _ (cleared h f) =
      record {
        keeps = λ b g L. record { readable = L.readable; bytes = L.bytes; alike = rw (placed b g) (clear-alike b c l s x (reference b g L) (rw (placed b g) at h) L.alike) };
        stays = λ b g L c' l' s' r z. rw (placed b g) (clear_stays b c l s x (reference b g L) (rw (placed b g) at h) L.readable c' l' s' r z);
        lows = λ b g L c' l' s' t r. rw (t.0, t.1, t.2, placed b g) (clear-low b c l s x (rw (placed b g) at h));
        long = clear-long x p _ (cleared h f);
      }
    where
      reference : (b : List ℕ) → GivenPlace c k l s b → Reading b x → Reference b c l s
      reference b g L = a-reference b x L c l s g.in_use (rw (placed b g) at f)

-- ---- nothing at all; one after another; seen from further off
module _ (G : List ℕ → Type 0) where
  cleared-none : (W : ℕ → ℕ → ℕ → Type 0) (x : List ℕ) → ((c l s : ℕ) → W c l s → ⊥) → Cleared G W x x
  cleared-none W x f = record { keeps = λ b g L. L; stays = λ b g L c l s r z. z; lows = λ b g L c l s t. absurd (f c l s t); long = refl }

  cleared-then : (Z W U : ℕ → ℕ → ℕ → Type 0) → ((c l s : ℕ) → U c l s → Z c l s ⊎ W c l s) → (x y z : List ℕ) → Cleared G Z x y → Cleared G W y z → Cleared G U x z
  cleared-then Z W U cover x y z p q =
      record {
        keeps = λ b g L. q.keeps b g (p.keeps b g L);
        stays = λ b g L c l s r w. q.stays b g (p.keeps b g L) c l s r (p.stays b g L c l s r w);
        lows = λ b g L c l s t r. low b g L c l s r (cover c l s t);
        long = q.long ∙ p.long;
      }
    where
      low : (b : List ℕ) → G b → Reading b x → (c l s : ℕ) → Reference b c l s → Z c l s ⊎ W c l s → Lowest b z c l s
      low b g L c l s r (inl t) = q.stays b g (p.keeps b g L) c l s r (p.lows b g L c l s t r)
      low b g L c l s r (inr t) = q.lows b g (p.keeps b g L) c l s t r

cleared-from : (G H : List ℕ → Type 0) (Z W : ℕ → ℕ → ℕ → Type 0) (x : List ℕ)
    → ((b : List ℕ) → H b → Reading b x → G b) → ((b : List ℕ) → H b → Reading b x → (c l s : ℕ) → Reference b c l s → W c l s → Z c l s)
    → (x' : List ℕ) → Cleared G Z x x' → Cleared H W x x'
cleared-from G H Z W x given cover x' q =
    record {
      keeps = λ b g L. q.keeps b (given b g L) L;
      stays = λ b g L. q.stays b (given b g L) L;
      lows = λ b g L c l s t r. q.lows b (given b g L) L c l s (cover b g L c l s r t) r;
      long = q.long;
    }

-- ---- a row, a class, all: x₀ is the bundle where the loop began
-- entry after entry
abbrev pub RowThen : ℕ → Class → ℕ → List ℕ → List ℕ → Type 0
RowThen c k l x₀ b = GivenRow c k l b × Reading b x₀

abbrev pub Entries : ℕ → ℕ → ℕ → ℕ → ℕ → ℕ → Type 0
Entries c l s c' l' s' = (c' ≡ c) × (l' ≡ l) × (s' < s)

module _ (k : Class) (l m : ℕ) (x₀ : List ℕ) (em : m ≡ k.vars + depth_at (part_of x₀ k) (row_start k l) k.vars) where
  pub depth_is : (c : ℕ) (b : List ℕ) → RowThen c k l x₀ b → m ≡ (class_at b c).vars + depth_of b c l
  depth_is c b g =
      let h : m ≡ (class_at b c).vars + depth_at (part_of x₀ (class_at b c)) (row_start (class_at b c) l) (class_at b c).vars = rw g.0.class at em in
      rw (← depth_same b g.1.readable x₀ g.1.alike c g.0.class_known l g.0.first g.0.last) h

  pub placed-in : (c : ℕ) (b : List ℕ) → RowThen c k l x₀ b → (s : ℕ) → s < m → GivenPlace c k l s b
  placed-in c b g s h =
      record { class = g.0.class; in_use = record { class_known = g.0.class_known; first = g.0.first; last = g.0.last; used = rw (depth_is c b g) at h } }

  pub row-begins : (c : ℕ) → Cleared (RowThen c k l x₀) (Entries c l 0) x₀ x₀
  row-begins c = cleared-none (RowThen c k l x₀) (Entries c l 0) x₀ (λ c' l' s' t. omega (arith, t.2))

  pub row-goes-on : (s p : ℕ) (x x' : List ℕ) → s < m → p ≡ k.offset + place_in k l s → ((c : ℕ) → Cleared (RowThen c k l x₀) (Entries c l s) x₀ x) → Clear x p x'
      → (c : ℕ) → Cleared (RowThen c k l x₀) (Entries c l (s + 1)) x₀ x'
  row-goes-on s p x x' h e a d c =
      cleared-then (RowThen c k l x₀) (Entries c l s) (TheEntry c l s) (Entries c l (s + 1)) last x₀ x x' (a c)
      (cleared-from (GivenPlace c k l s) (RowThen c k l x₀) (TheEntry c l s) (TheEntry c l s) x (λ b g L. placed-in c b g s h) (λ b g L c' l' s' r t. t) x' (entry-cleared c k l s x p e x' d))
    where
      last : (c' l' s' : ℕ) → Entries c l (s + 1) c' l' s' → Entries c l s c' l' s' ⊎ TheEntry c l s c' l' s'
      last c' l' s' t = go (dec_lt s' s)
        where
          go : Dec (s' < s) → Entries c l s c' l' s' ⊎ TheEntry c l s c' l' s'
          go (yes q) = inl (t.0, t.1, q)
          go (no q) = inr (t.0, t.1, omega (arith, t.2))

  pub row_ends : (s : ℕ) (x : List ℕ) → m ≤ s → ((c : ℕ) → Cleared (RowThen c k l x₀) (Entries c l s) x₀ x) → (c : ℕ) → Cleared (GivenRow c k l) (TheRow c l) x₀ x
  row_ends s x h a c =
      cleared-from (RowThen c k l x₀) (GivenRow c k l) (Entries c l s) (TheRow c l) x₀ (λ b g L. (g, L))
      (λ b g L c' l' s' r t. (t.0, t.1, omega (arith, h, in-depth b g L c' l' s' t.0 t.1 r))) x (a c)
    where
      in-depth : (b : List ℕ) → GivenRow c k l b → Reading b x₀ → (c' l' s' : ℕ) → c' ≡ c → l' ≡ l → Reference b c' l' s' → s' < m
      in-depth b g L c' l' s' d e r = let r' : Reference b c l s' = rw (d, e) at r in rw (depth_is c b (g, L)) r'.in_use.used

-- row after row
abbrev pub ClassThen : ℕ → List ℕ → List ℕ → Type 0
ClassThen c x₀ b = (c < classes b) × Reading b x₀

abbrev pub Rows : ℕ → ℕ → ℕ → ℕ → ℕ → Type 0
Rows c i c' l' s' = (c' ≡ c) × (l' ≤ i)

module _ (c : ℕ) (k : Class) (x₀ : List ℕ) (ek : k ≡ class_at x₀ c) where
  pub class-is : (b : List ℕ) → ClassThen c x₀ b → k ≡ class_at b c
  class-is b g = ek ∙ class_same b g.1.readable x₀ g.1.alike c g.0

  pub class-begins : Cleared (ClassThen c x₀) (Rows c 0) x₀ x₀
  class-begins =
      cleared-from (ClassThen c x₀) (ClassThen c x₀) (λ c' l' s'. ⊥) (Rows c 0) x₀ (λ b g L. g) (λ b g L c' l' s' r t. omega (arith, t.1, r.in_use.first)) x₀
      (cleared-none (ClassThen c x₀) (λ c' l' s'. ⊥) x₀ (λ c' l' s' t. t))

  pub class-goes-on : (i : ℕ) (x x' : List ℕ) → i < k.code → Cleared (ClassThen c x₀) (Rows c i) x₀ x
      → ((d : ℕ) → Cleared (GivenRow d k (i + 1)) (TheRow d (i + 1)) x x') → Cleared (ClassThen c x₀) (Rows c (i + 1)) x₀ x'
  class-goes-on i x x' h a d =
      cleared-then (ClassThen c x₀) (Rows c i) (TheRow c (i + 1)) (Rows c (i + 1)) last x₀ x x' a
      (cleared-from (GivenRow c k (i + 1)) (ClassThen c x₀) (TheRow c (i + 1)) (TheRow c (i + 1)) x
      (λ b g L. record { class_known = g.0; class = class-is b g; first = omega arith; last = rw (← class-is b g) (omega arith) }) (λ b g L c' l' s' r t. t) x' (d c))
    where
      last : (c' l' s' : ℕ) → Rows c (i + 1) c' l' s' → Rows c i c' l' s' ⊎ TheRow c (i + 1) c' l' s'
      last c' l' s' t = go (dec_lt i l')
        where
          go : Dec (i < l') → Rows c i c' l' s' ⊎ TheRow c (i + 1) c' l' s'
          go (yes q) = inr (t.0, omega (arith, t.1))
          go (no q) = inl (t.0, omega arith)

  pub class-ends : (i : ℕ) (x : List ℕ) → k.code ≤ i → Cleared (ClassThen c x₀) (Rows c i) x₀ x → Cleared (λ b. c < classes b) (TheClass c) x₀ x
  class-ends i x h a = cleared-from (ClassThen c x₀) (λ b. c < classes b) (Rows c i) (TheClass c) x₀ (λ b g L. (g, L)) covers x a
    where
      covers : (b : List ℕ) → c < classes b → Reading b x₀ → (c' l' s' : ℕ) → Reference b c' l' s' → c' ≡ c → Rows c i c' l' s'
      covers b g L c' l' s' r t =
          let r' : Reference b c l' s' = rw t at r in
          let m : l' ≤ k.code = rw (class-is b (g, L)) r'.in_use.last in
          (t, omega arith)

-- class after class
abbrev pub Then : List ℕ → List ℕ → Type 0
Then x₀ b = Reading b x₀

abbrev pub Classes : ℕ → ℕ → ℕ → ℕ → Type 0
Classes i c' l' s' = c' < i

pub all-begin : (x₀ : List ℕ) → Cleared (Then x₀) (Classes 0) x₀ x₀
all-begin x₀ = cleared-none (Then x₀) (Classes 0) x₀ (λ c' l' s' t. omega arith)

module _ (n : ℕ) (x₀ : List ℕ) (en : n ≡ classes x₀) where
  pub count-is : (b : List ℕ) → Reading b x₀ → n ≡ classes b
  count-is b L = en ∙ classes-same b L.readable x₀ L.alike

  pub all-go-on : (c : ℕ) (x x' : List ℕ) → c < n → Cleared (Then x₀) (Classes c) x₀ x → Cleared (λ b. c < classes b) (TheClass c) x x' → Cleared (Then x₀) (Classes (c + 1)) x₀ x'
  all-go-on c x x' h a d =
      cleared-then (Then x₀) (Classes c) (TheClass c) (Classes (c + 1)) last x₀ x x' a
      (cleared-from (λ b. c < classes b) (Then x₀) (TheClass c) (TheClass c) x (λ b g L. rw (← count-is b g) h) (λ b g L c' l' s' r t. t) x' d)
    where
      last : (c' l' s' : ℕ) → c' < c + 1 → (c' < c) ⊎ (c' ≡ c)
      last c' l' s' t = go (dec_lt c' c)
        where
          go : Dec (c' < c) → (c' < c) ⊎ (c' ≡ c)
          go (yes q) = inl q
          go (no q) = inr (omega arith)

  pub all_end : (c : ℕ) (x : List ℕ) → n ≤ c → Cleared (Then x₀) (Classes c) x₀ x → Cleared Anything Every x₀ x
  all_end c x h a =
      cleared-from (Then x₀) Anything (Classes c) Every x₀ (λ b g L. L) (λ b g L c' l' s' r t. omega (arith, r.in_use.class_known, count-is b L)) x a
