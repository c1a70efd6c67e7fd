-- What the gate writes is accepted and of what was given; a refusal writes nothing; and which numbers come out.
use mathlib.Core.List.{List, ◌++◌}
use mathlib.Core.Path.{◌≡◌, refl, ap, ◌∙◌}
use mathlib.Core.Bool.{false}
use Prim.Native.Nat.{ℕ, ◌+◌, ◌*◌, ◌-◌, ◌<◌, ◌≤◌}
use native.Mathlib.Omega.{arith}
use lib.ListN.{length, take, drop}
use lib.Seq.{take_at, drop_at}
use borrow.Author.Tests.{le-leb}
use Rattle.ground.specs.Bytes.{at}
use Rattle.ground.specs.Chain.{refuse}
use Rattle.ground.proofs.Bools.{never}
use Rattle.bundle.specs.declared.Class.{Class}
use Rattle.bundle.specs.Container.{classes, class_at, width, descriptor_count, size, part_of, instruction_place, code_from, code_at}
use Rattle.bundle.specs.Program.{program_of, method_at, method_of}
use Rattle.verdicts.specs.declared.Verdict.{Verdict}
use Rattle.verdicts.specs.Verdicts.{verdict, is_bad}
use Rattle.rows.specs.Rows.{start_behind, row_start, depth_at}
use Rattle.shape.specs.PairBytes.{behind, place_in, place_of, depth_of}
use Rattle.shape.specs.Apart.{Readable}
use Rattle.shape.proofs.Places.{place-high, depth-high, behind-within}
use Rattle.shape.proofs.Readable.{part-byte}
use Rattle.choices.specs.Choice.{Alike, Least}
use Rattle.choices.proofs.Choices.{classes-same, exception-same, class_same, code_same, instruction-same, depth_same, kind-same, kind-class-same}
use Rattle.pairs.specs.Answer.{Answer, malformed, shared, none, filled}
use Rattle.laying.specs.Given.{Given, numbers_at}
use Rattle.laying.specs.Lengths.{code_bytes, entries, descriptors_before, instructions_before, records_before}
use Rattle.laying.specs.Laid.{entry_laid, row_laid, descriptors_of, instructions_of, kinds_of, depths_of, record_of, laid}
use Rattle.laying.specs.Loops.{Measured}
use Rattle.laying.proofs.Lengths.{within, records-part, cut-long}
use Rattle.gate.specs.Gate.{refusal_of, unlaid, refused, short, written}
use Rattle.gate.proofs.Answers.{all-measured}
use Rattle.woven.specs.Woven.{placed, kind_place, OfClass, Woven, Writes, Refuses}
use Rattle.woven.proofs.Standing.{row-depth, row-entry, record-descriptor, record-code, record-row, bundle-long, classes-are, exception-is, record-at, class-is}

-- ---- of the bundle that is laid, class c
module _ (g : Given) (m : Measured g) (c : ℕ) (l : c < g.classes) where
  abbrev d : List ℕ
  d = g.directory

  abbrev k : Class
  k = placed d c

  abbrev r : List ℕ
  r = record_of g c

  pub size_is : size k ≡ size (numbers_at d c)
  unfolding placed size width
  size_is = refl

  width_is : width k ≡ width (numbers_at d c)
  unfolding placed width
  width_is = refl

  pub offset-is : k.offset ≡ records_before d c
  unfolding placed
  offset-is = refl

  pub extent : k.offset + size k ≤ length (laid g) - 8
  extent = omega (arith, size_is, offset-is, records-part m c l, bundle-long m)

  part-is : (q : ℕ) → q < size k → at (part_of (laid g) k) q ≡ at r q
  part-is q h =
      part-byte (laid g) k extent q h ∙ ap (λ (y : ℕ). at (laid g) (y + q)) offset-is ∙ record-at m c l q (rw size_is at h)

  ds-long : length (descriptors_of d g.descriptors c) ≡ descriptor_count (numbers_at d c)
  ds-long = cut-long g.descriptors (descriptors_before d c) (descriptor_count (numbers_at d c)) (within m c l).descriptors

  is-long : length (instructions_of d g.instructions c) ≡ code_bytes (numbers_at d c)
  is-long = cut-long g.instructions (instructions_before d c) (code_bytes (numbers_at d c)) (within m c l).instructions

  pub descriptor-laid : (q : ℕ) → q < descriptor_count (numbers_at d c) → at (part_of (laid g) k) q ≡ at (descriptors_of d g.descriptors c) q
  unfolding size placed record_of
  descriptor-laid q h =
      part-is q (omega arith)
      ∙ record-descriptor (numbers_at d c) (descriptors_of d g.descriptors c) (instructions_of d g.instructions c) (kinds_of d g.kinds c) (depths_of d g.depths c) ds-long is-long q h

  code-laid : (q : ℕ) → q < 4 * (numbers_at d c).code → at (part_of (laid g) k) (descriptor_count (numbers_at d c) + q) ≡ at (instructions_of d g.instructions c) q
  unfolding size placed record_of
  code-laid q h =
      part-is (descriptor_count (numbers_at d c) + q) (omega arith)
      ∙ record-code (numbers_at d c) (descriptors_of d g.descriptors c) (instructions_of d g.instructions c) (kinds_of d g.kinds c) (depths_of d g.depths c) ds-long is-long q h

  pub instruction-laid : (a : ℕ) → 1 ≤ a → a ≤ (numbers_at d c).code
      → code_at k (part_of (laid g) k) a ≡ code_from (instructions_of d g.instructions c) (4 * (a - 1))
  unfolding code_at code_from instruction_place placed refuse
  instruction-laid a low high =
      let p : ℕ = descriptor_count (numbers_at d c) in
      let i1 : p + 4 * (a - 1) + 1 ≡ p + (4 * (a - 1) + 1) = omega arith in
      let i2 : p + 4 * (a - 1) + 2 ≡ p + (4 * (a - 1) + 2) = omega arith in
      let i3 : p + 4 * (a - 1) + 2 + 1 ≡ p + (4 * (a - 1) + 2 + 1) = omega arith in
      let e1 : at (part_of (laid g) k) (p + 4 * (a - 1) + 1) ≡ at (instructions_of d g.instructions c) (4 * (a - 1) + 1) =
      ap (at (part_of (laid g) k)) i1 ∙ code-laid (4 * (a - 1) + 1) (omega arith) in
      let e2 : at (part_of (laid g) k) (p + 4 * (a - 1) + 2) ≡ at (instructions_of d g.instructions c) (4 * (a - 1) + 2) =
      ap (at (part_of (laid g) k)) i2 ∙ code-laid (4 * (a - 1) + 2) (omega arith) in
      let e3 : at (part_of (laid g) k) (p + 4 * (a - 1) + 2 + 1) ≡ at (instructions_of d g.instructions c) (4 * (a - 1) + 2 + 1) =
      ap (at (part_of (laid g) k)) i3 ∙ code-laid (4 * (a - 1) + 2 + 1) (omega arith) in
      rw (le-leb 1 a low, le-leb a (numbers_at d c).code high, code-laid (4 * (a - 1)) (omega arith), e1, e2, e3)

  -- byte o of row a
  row_laid_lem : (a o : ℕ) → 1 ≤ a → a ≤ (numbers_at d c).code → o < width (numbers_at d c) → row_start k a + o < size k
      → at (laid g) (k.offset + (row_start k a + o)) ≡ at (row_laid (numbers_at d c) (kinds_of d g.kinds c) (depths_of d g.depths c) (a - 1)) o
  unfolding placed row_start start_behind width size record_of
  row_laid_lem a o low high h u =
      record-at m c l (row_start k a + o) u
      ∙ record-row (numbers_at d c) (descriptors_of d g.descriptors c) (instructions_of d g.instructions c) (kinds_of d g.kinds c) (depths_of d g.depths c) ds-long is-long (a - 1) o (omega arith) h

  module _ (e : class_at (laid g) c ≡ k) (a : ℕ) (low : 1 ≤ a) (high : a ≤ (numbers_at d c).code) where
    abbrev ts : List ℕ
    ts = kinds_of d g.kinds c

    abbrev ps : List ℕ
    ps = depths_of d g.depths c

    pub depth-laid : depth_of (laid g) c a ≡ at ps (a - 1)
    unfolding depth_of depth_at placed width
    depth-laid =
        rw e
        (part-byte (laid g) k extent (row_start k a + 4 * k.vars) (depth-high k a low high)
        ∙ row_laid_lem a (4 * k.vars) low high (omega arith) (depth-high k a low high)
        ∙ row-depth (numbers_at d c) ts ps (a - 1))

    -- byte t of entry s
    entry-laid : (s t : ℕ) → s < entries (numbers_at d c) → t < 4 → at (laid g) (place_of (laid g) c a s + t) ≡ at (entry_laid ts ((a - 1) * entries (numbers_at d c) + s)) t
    unfolding place_of place_in behind placed
    entry-laid s t h u =
        let w = behind-within k s h in
        let p = place-high k a low high s t h u in
        let i : k.offset + (row_start k a + behind k s) + t ≡ k.offset + (row_start k a + (behind k s + t)) = omega arith in
        rw e
        (ap (at (laid g)) i
        ∙ row_laid_lem a (behind k s + t) low high (omega (arith, width_is)) (omega arith)
        ∙ row-entry (numbers_at d c) ts ps (a - 1) s t h u)

    pub kind-laid : (s : ℕ) → s < entries (numbers_at d c) → at (laid g) (place_of (laid g) c a s) ≡ at ts (kind_place (numbers_at d c) a s)
    unfolding entry_laid kind_place
    kind-laid s h =
        let i : place_of (laid g) c a s ≡ place_of (laid g) c a s + 0 = omega arith in
        ap (at (laid g)) i ∙ entry-laid s 0 h (omega arith)

    pub kind-class-laid : (s : ℕ) → s < entries (numbers_at d c) → at (laid g) (place_of (laid g) c a s + 1) ≡ at ts (kind_place (numbers_at d c) a s + 1)
    unfolding entry_laid kind_place
    kind-class-laid s h = entry-laid s 1 h (omega arith)

-- ---- of what is filled
module _ (g : Given) (z : refusal_of g ≡ 0) where
  m : Measured g
  m = all-measured g z

  abbrev b : List ℕ
  b = laid g

  count : classes b ≡ g.classes
  count = classes-are m

  module _ (R : Readable b) (x : List ℕ) (A : Alike b x) where
    module _ (c : ℕ) (l : c < g.classes) where
      lc : c < classes b
      lc = rw count l

      same : class_at x c ≡ class_at b c
      same = class_same b R x A c lc

      of_class : OfClass g x c
      unfolding program_of method_at method_of place_of depth_of placed
      of_class =
          record {
            numbers = same ∙ class-is m c l;
            descriptor = λ i h. rw same (code_same b R x A c lc i (rw (class-is m c l) (omega arith)) ∙ rw (class-is m c l) (descriptor-laid g m c l i h));
            instruction = λ a low high.
                rw same (instruction-same b R x A c lc a low (rw (class-is m c l) high) ∙ rw (class-is m c l) (instruction-laid g m c l a low high));
            kind = λ a s low high h.
                rw same (kind-same b R x A c lc a low (rw (class-is m c l) high) s (rw (class-is m c l) h) ∙ kind-laid g m c l (class-is m c l) a low high s h);
            kind_class = λ a s low high h.
                rw same (kind-class-same b R x A c lc a low (rw (class-is m c l) high) s (rw (class-is m c l) h) ∙ kind-class-laid g m c l (class-is m c l) a low high s h);
            depth = λ a low high. rw same (depth_same b R x A c lc a low (rw (class-is m c l) high) ∙ depth-laid g m c l (class-is m c l) a low high);
          }

  woven : (x : List ℕ) → Readable b → Least b x → Woven g x
  unfolding program_of
  woven x R L =
      record {
        accepted = L.accepted;
        classes = classes-same b R x L.choice.alike ∙ count;
        exception = exception-same b R x L.choice.alike ∙ exception-is m;
        class = λ c l. of_class R x L.choice.alike c l;
      }

-- success of `fill`
success : (b : List ℕ) (v : Verdict) (x : List ℕ) → Answer b v x → is_bad v ≡ false → (v ≡ verdict 0 (classes b) 0) × Readable b × Least b x
success b _ _ (malformed p) i = never p i
success b _ _ (shared p q) i = never refl i
success b _ _ (none r f) i = never refl i
success b _ _ (filled r f) i = (refl, r, f)

fine : (v : Verdict) → v.number ≡ 0 → is_bad v ≡ false
fine v z = rw z

-- THEOREM
pub writes : Writes
writes g out _ _ _ (unlaid p) z = absurd (p z)
writes g out _ _ _ (refused {v} e a i) z = never i (fine v z)
writes g out _ _ _ (short e a i k) z = absurd (omega arith)
writes g out _ _ _ (written {v} {x} e a i k) z =
    let s = success (laid g) v x a i in
    let t : take (length x) (x ++ drop (length x) out) ≡ x = take_at x (drop (length x) out) (length x) refl in
    record {
      woven = rw t (woven g e x s.1 s.2);
      long = rw t;
      count = s.0 ∙ ap (λ (n : ℕ). verdict 0 n 0) (count g e);
      behind = drop_at x (drop (length x) out) (length x) refl;
    }

-- THEOREM
pub refuses : Refuses
refuses g out _ _ _ (unlaid p) z = (refl, refl)
refuses g out _ _ _ (refused e a i) z = (refl, refl)
refuses g out _ _ _ (short e a i k) z = (refl, refl)
refuses g out _ _ _ (written {v} {x} e a i k) z = absurd (z (ap (λ (w : Verdict). w.number) (success (laid g) v x a i).0))
