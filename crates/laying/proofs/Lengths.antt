-- What the lengths that are asked give: each class's parts lie within the slices, and the bundle is as long as is said.
use mathlib.Core.List.{List, [], ◌∷◌, ◌++◌}
use mathlib.Core.Path.{◌≡◌, refl, sym, ap, ap₂, ◌∙◌}
use mathlib.Core.Logic.{⊎_elim}
use mathlib.Core.Bool.{true}
use Prim.Native.Nat.{ℕ, zero, suc, ◌+◌, ◌*◌, ◌<◌, ◌≤◌}
use native.Mathlib.Nat.{le_of_suc-le-suc, eq-or-lt_of_le, suc-mul}
use native.Mathlib.Omega.{arith}
use lib.ListN.{length, length-append}
use borrow.Author.Tests.{leb-true, eqb-true}
use Rattle.ground.specs.Bytes.{at, part}
use Rattle.ground.specs.Bounded.{sum_below}
use Rattle.ground.specs.Lists.{each}
use Rattle.ground.proofs.Bools.{and-fst, and-snd}
use Rattle.ground.proofs.Bytes.{part_length}
use Rattle.bundle.specs.declared.Class.{Class}
use Rattle.bundle.specs.Container.{width, descriptor_count, size}
use Rattle.laying.specs.declared.Sizes.{Sizes}
use Rattle.laying.specs.Given.{Given, numbers_at}
use Rattle.laying.specs.Lengths.{code_bytes, entries, kind_bytes, descriptors_before, instructions_before, kinds_before, depths_before, records_before, lengths_ok, whole}
use Rattle.laying.specs.Laid.{word, entry_laid, entries_laid, row_laid, record_laid, cut, record_of, head_laid, trailer_laid, laid}
use Rattle.laying.specs.Laying as spec
use Rattle.laying.specs.Loops.{Lays, Room, sizes_of, more, Measured, Within}
use Rattle.laying.proofs.Over.{lays-then}

-- ---- sums
pub sum-part : (f : ℕ → ℕ) (n c : ℕ) → c < n → sum_below c f + f c ≤ sum_below n f
unfolding sum_below
sum-part f zero c l = absurd (omega arith)
sum-part f (suc n) c l =
    ⊎_elim (λ q. rw q (omega arith)) (λ k. omega (arith, sum-part f n c k)) (eq-or-lt_of_le (le_of_suc-le-suc l))

-- a bound on all records is one on the first
pub records-upto : (d : List ℕ) (n c w : ℕ) → c < n → records_before d n ≤ w → records_before d c ≤ w
unfolding records_before
records-upto d n c w l h = omega (arith, sum-part (λ i. size (numbers_at d i)) n c l)

-- ---- n strings, each of w bytes
each-sum : (f : ℕ → List ℕ) (g : ℕ → ℕ) (n : ℕ) → ((i : ℕ) → i < n → length (f i) ≡ g i) → length (each n f) ≡ sum_below n g
unfolding each sum_below
each-sum f g zero h = refl
each-sum f g (suc n) h = length-append (each n f) (f n) ∙ ap₂ ◌+◌ (each-sum f g n (λ i l. h i (omega arith))) (h n (omega arith))

pub each-wide : (f : ℕ → List ℕ) (w n : ℕ) → ((i : ℕ) → i < n → length (f i) ≡ w) → length (each n f) ≡ n * w
unfolding each
each-wide f w zero h = omega arith
each-wide f w (suc n) h =
    length-append (each n f) (f n) ∙ ap₂ ◌+◌ (each-wide f w n (λ i l. h i (omega arith))) (h n (omega arith)) ∙ sym (suc-mul n w)

-- ---- a record
pub entries-long : (ts : List ℕ) (s n : ℕ) → length (entries_laid ts s n) ≡ 4 * n
unfolding entries_laid entry_laid
entries-long ts s n = each-wide (λ j. at ts (2 * (s + j)) ∷ at ts (2 * (s + j) + 1) ∷ 0 ∷ 0 ∷ []) 4 n (λ i l. refl) ∙ omega arith

pub row-long : (k : Class) (ts ps : List ℕ) (i : ℕ) → length (row_laid k ts ps i) ≡ width k
unfolding row_laid width
row-long k ts ps i =
    omega (
      arith,
      length-append (entries_laid ts (i * entries k) k.vars) (at ps i ∷ entries_laid ts (i * entries k + k.vars) k.limit),
      entries-long ts (i * entries k) k.vars,
      entries-long ts (i * entries k + k.vars) k.limit,
    )

pub record-long : (k : Class) (ds is ts ps : List ℕ) → length ds ≡ descriptor_count k → length is ≡ code_bytes k → length (record_laid k ds is ts ps) ≡ size k
unfolding record_laid size
record-long k ds is ts ps e f =
    let r : length (each k.code (row_laid k ts ps)) ≡ k.code * width k = each-wide (row_laid k ts ps) (width k) k.code (λ i l. row-long k ts ps i) in
    omega (
      arith,
      length-append ds (is ++ each k.code (row_laid k ts ps)),
      length-append is (each k.code (row_laid k ts ps)),
    )

pub cut-long : (s : List ℕ) (a n : ℕ) → a + n ≤ length s → length (cut s a n) ≡ n
cut-long s a n h = part_length s a (a + n) (omega arith) h ∙ omega arith

pub trailer-long : (r n x w : ℕ) → length (trailer_laid r n x w) ≡ 8
unfolding trailer_laid word
trailer-long r n x w = refl

-- ---- what 27 leaves
pub measured : (g : Given) → spec.measured g ≡ true → Measured g
unfolding lengths_ok
measured g m =
    record {
      least = leb-true 1 g.classes (search (and-fst, and-snd));
      most = leb-true g.classes 8 (search (and-fst, and-snd));
      directory = eqb-true (length g.directory) (6 * g.classes) (search (and-fst, and-snd));
      descriptors = eqb-true (length g.descriptors) (descriptors_before g.directory g.classes) (search (and-fst, and-snd));
      instructions = eqb-true (length g.instructions) (instructions_before g.directory g.classes) (search (and-fst, and-snd));
      kinds = eqb-true (length g.kinds) (kinds_before g.directory g.classes) (search (and-fst, and-snd));
      depths = eqb-true (length g.depths) (depths_before g.directory g.classes) (search (and-fst, and-snd));
    }

module _ {g : Given} (m : Measured g) where
  abbrev n : ℕ
  n = g.classes

  abbrev d : List ℕ
  d = g.directory

  pub within : (c : ℕ) → c < n → Within g c
  unfolding descriptors_before instructions_before kinds_before depths_before
  within c l =
      record {
        class = omega arith;
        directory = omega arith;
        descriptors = omega (arith, sum-part (λ i. descriptor_count (numbers_at d i)) n c l);
        instructions = omega (arith, sum-part (λ i. code_bytes (numbers_at d i)) n c l);
        kinds = omega (arith, sum-part (λ i. kind_bytes (numbers_at d i)) n c l);
        depths = omega (arith, sum-part (λ i. (numbers_at d i).code) n c l);
      }

  pub records-part : (c : ℕ) → c < n → records_before d c + size (numbers_at d c) ≤ records_before d n
  unfolding records_before
  records-part c l = sum-part (λ i. size (numbers_at d i)) n c l

  pub class-long : (c : ℕ) → c < n → length (record_of g c) ≡ size (numbers_at d c)
  unfolding record_of
  class-long c l =
      let w = within c l in
      record-long (numbers_at d c) _ _ _ _ (cut-long g.descriptors (descriptors_before d c) (descriptor_count (numbers_at d c)) w.descriptors)
      (cut-long g.instructions (instructions_before d c) (code_bytes (numbers_at d c)) w.instructions)

  pub records-long : (c : ℕ) → c ≤ n → length (each c (record_of g)) ≡ records_before d c
  unfolding records_before
  records-long c h = each-sum (record_of g) (λ i. size (numbers_at d i)) c (λ i l. class-long i (omega arith))

  pub head-long : (c : ℕ) → c < n → length (head_laid d c) ≡ 8
  unfolding head_laid word
  head-long c l = ap (λ (x : ℕ). suc (suc x)) (cut-long d (6 * c) 6 (within c l).directory)

  pub heads-long : (c : ℕ) → c ≤ n → length (each c (head_laid d)) ≡ 8 * c
  heads-long c h = each-wide (head_laid d) 8 c (λ i l. head-long i (omega arith)) ∙ omega arith

  -- THEOREM: the bundle is as long as is said
  pub laid-long : length (laid g) ≡ whole d n
  unfolding laid whole
  laid-long =
      let t : List ℕ = trailer_laid (records_before d n) n g.exception (records_before d n + 8 * n + 8) in
      omega (
        arith,
        length-append (each n (record_of g) ++ each n (head_laid d)) t,
        length-append (each n (record_of g)) (each n (head_laid d)),
        records-long n (omega arith),
        heads-long n (omega arith),
        trailer-long (records_before d n) n g.exception (records_before d n + 8 * n + 8),
      )

-- ---- a class's parts, as the code cuts them
module _ (g : Given) (c : ℕ) (s r : Sizes) (k : Class) (e : s ≡ sizes_of g.directory c) (f : k ≡ numbers_at g.directory c) (h : r ≡ more s k) where
  pub ends : Within g c
      → (s.descriptors ≤ r.descriptors) × (r.descriptors ≤ length g.descriptors) × (s.instructions ≤ r.instructions) × (r.instructions ≤ length g.instructions)
      × (s.kinds ≤ r.kinds) × (r.kinds ≤ length g.kinds) × (s.depths ≤ r.depths) × (r.depths ≤ length g.depths)
  ends w =
      rw (h, e, f)
      (omega arith, w.descriptors, omega arith, w.instructions, omega arith, w.kinds, omega arith, w.depths)

  pub record_is : record_laid k (part g.descriptors s.descriptors r.descriptors) (part g.instructions s.instructions r.instructions) (part g.kinds s.kinds r.kinds) (part g.depths s.depths r.depths)
      ≡ record_of g c
  unfolding record_of
  record_is = rw (h, e, f)

-- ---- the bundle
module _ {g : Given} (m : Measured g) (out : List ℕ) (h : whole g.directory g.classes ≤ length out) where
  pub records-room : Room out 0 (each g.classes (record_of g))
  unfolding whole
  records-room = omega (arith, records-long m g.classes (omega arith))

  module _ {p : ℕ} {o₁ : List ℕ} (a : Lays out 0 (each g.classes (record_of g)) p o₁) where
    pub records-end : p ≡ records_before g.directory g.classes
    records-end = omega (arith, a.next, records-long m g.classes (omega arith))

    heads-room : Room out 0 (each g.classes (record_of g) ++ each g.classes (head_laid g.directory))
    unfolding whole
    heads-room = omega (arith, length-append (each g.classes (record_of g)) (each g.classes (head_laid g.directory)), records-long m g.classes (omega arith), heads-long m g.classes (omega arith))

    module _ {q : ℕ} {o₂ : List ℕ} (b : Lays o₁ p (each g.classes (head_laid g.directory)) q o₂) where
      both : Lays out 0 (each g.classes (record_of g) ++ each g.classes (head_laid g.directory)) q o₂
      both = lays-then out 0 a heads-room b

      all_room : Room out 0 (each g.classes (record_of g) ++ each g.classes (head_laid g.directory) ++ trailer_laid (records_before g.directory g.classes) g.classes g.exception (whole g.directory g.classes))
      unfolding laid
      all_room = omega (arith, laid-long m)

      pub bundle-laid : {r : ℕ} {o₃ : List ℕ} (w : ℕ) → w ≡ whole g.directory g.classes → Lays o₂ q (trailer_laid p g.classes g.exception w) r o₃ → Lays out 0 (laid g) r o₃
      unfolding laid
      bundle-laid {r} {o₃} w e t =
          let t' : Lays o₂ q (trailer_laid (records_before g.directory g.classes) g.classes g.exception (whole g.directory g.classes)) r o₃ = rw (e, records-end) at t in
          lays-then out 0 both all_room t'
