-- What stands where in the bundle that is laid: trailer, directory, records, and within a record descriptors, instructions and rows.
use mathlib.Core.List.{List, [], ◌∷◌, ◌++◌}
use mathlib.Core.Path.{◌≡◌, refl, sym, ap, ◌∙◌}
use mathlib.Core.Logic.{⊎_elim}
use mathlib.Core.Bool.{cond}
use Prim.Native.Nat.{ℕ, zero, suc, ◌+◌, ◌*◌, ◌-◌, ◌/◌, ◌%◌, ◌<◌, ◌≤◌}
use native.Mathlib.Nat.{le_of_suc-le-suc, eq-or-lt_of_le, div-add-mod'}
use native.Mathlib.Omega.{arith}
use native.Mathlib.Decide.{dec_lt}
use lib.Dec.{ltb}
use lib.ListN.{length, length-append, get_or-append}
use lib.Seq.{get_or-append-add}
use borrow.Author.Tests.{lt-ltb, le-ltb}
use Rattle.ground.specs.Bytes.{at, be16}
use Rattle.ground.specs.Lists.{each}
use Rattle.ground.proofs.Bytes.{part_at}
use Rattle.bundle.specs.declared.Class.{Class}
use Rattle.bundle.specs.Container.{directory_at, classes, exception, head_at, class_at, width, descriptor_count, size}
use Rattle.shape.specs.PairBytes.{behind}
use Rattle.laying.specs.Given.{Given, numbers_at}
use Rattle.laying.specs.Lengths.{code_bytes, entries, records_before, whole}
use Rattle.laying.specs.Laid.{word, entry_laid, entries_laid, row_laid, record_laid, cut, record_of, head_laid, trailer_laid, laid}
use Rattle.laying.specs.Loops.{Measured}
use Rattle.laying.proofs.Lengths.{records-part, class-long, records-long, heads-long, head-long, laid-long, entries-long, row-long, each-wide}
use Rattle.woven.specs.Woven.{placed}

-- ---- one string after another
at_left : (a b : List ℕ) (i : ℕ) → i < length a → at (a ++ b) i ≡ at a i
at_left a b i h = get_or-append a b 0 i h

at_right : (a b : List ℕ) (i : ℕ) → at (a ++ b) (length a + i) ≡ at b i
at_right a b i = get_or-append-add a b i 0

each-end : (f : ℕ → List ℕ) (n c : ℕ) → c < n → length (each c f) + length (f c) ≤ length (each n f)
unfolding each
each-end f zero c l = absurd (omega arith)
each-end f (suc n) c l =
    ⊎_elim (λ q. rw q (omega (arith, length-append (each n f) (f n))))
    (λ k. omega (arith, length-append (each n f) (f n), each-end f n c k)) (eq-or-lt_of_le (le_of_suc-le-suc l))

each_at : (f : ℕ → List ℕ) (n c o : ℕ) → c < n → o < length (f c) → at (each n f) (length (each c f) + o) ≡ at (f c) o
unfolding each
each_at f zero c o l h = absurd (omega arith)
each_at f (suc n) c o l h =
    ⊎_elim (λ q. rw q (at_right (each n f) (f n) o))
    (λ k. at_left (each n f) (f n) (length (each c f) + o) (omega (arith, each-end f n c k)) ∙ each_at f n c o k h) (eq-or-lt_of_le (le_of_suc-le-suc l))

past : (y : ℕ) (l : List ℕ) (m : ℕ) → at (y ∷ l) (1 + m) ≡ at l m
past y l m = at_right (y ∷ []) l m

-- two bytes read back
word_back : (x : ℕ) → x / 256 * 256 + x % 256 ≡ x
word_back x = div-add-mod' x 256

-- ---- entries and rows
entry-long : (ts : List ℕ) (m : ℕ) → length (entry_laid ts m) ≡ 4
unfolding entry_laid
entry-long ts m = refl

module _ (ts : List ℕ) (s n j t : ℕ) (l : j < n) (h : t < 4) where
  abbrev entry : ℕ → List ℕ
  entry m = entry_laid ts (s + m)

  before : length (each j entry) ≡ 4 * j
  before = each-wide entry 4 j (λ m k. entry-long ts (s + m)) ∙ omega arith

  pub entries_at : at (entries_laid ts s n) (4 * j + t) ≡ at (entry_laid ts (s + j)) t
  unfolding entries_laid
  entries_at =
      ap (λ (y : ℕ). at (each n entry) (y + t)) (sym before) ∙ each_at entry n j t l (omega (arith, entry-long ts (s + j)))

module _ (k : Class) (ts ps : List ℕ) (i : ℕ) where
  abbrev first : List ℕ
  first = entries_laid ts (i * entries k) k.vars

  abbrev last : List ℕ
  last = entries_laid ts (i * entries k + k.vars) k.limit

  first-long : length first ≡ 4 * k.vars
  first-long = entries-long ts (i * entries k) k.vars

  -- the depth
  pub row-depth : at (row_laid k ts ps i) (4 * k.vars) ≡ at ps i
  unfolding row_laid
  row-depth =
      let e : 4 * k.vars ≡ length first + 0 = omega (arith, first-long) in
      ap (at (first ++ (at ps i ∷ last))) e ∙ at_right first (at ps i ∷ last) 0

  -- byte t of entry s
  pub row-entry : (s t : ℕ) → s < entries k → t < 4 → at (row_laid k ts ps i) (behind k s + t) ≡ at (entry_laid ts (i * entries k + s)) t
  unfolding row_laid behind
  row-entry s t h u = go (dec_lt s k.vars)
    where
      go : Dec (s < k.vars) → at (first ++ (at ps i ∷ last)) (4 * s + cond (ltb s k.vars) 0 1 + t) ≡ at (entry_laid ts (i * entries k + s)) t
      go (yes l) =
          let e : 4 * s + 0 + t ≡ 4 * s + t = omega arith in
          rw (lt-ltb s k.vars l)
          (ap (at (first ++ (at ps i ∷ last))) e
          ∙ at_left first (at ps i ∷ last) (4 * s + t) (omega (arith, first-long))
          ∙ entries_at ts (i * entries k) k.vars s t l u)
      go (no l) =
          let j : ℕ = s - k.vars in
          let e : 4 * s + 1 + t ≡ length first + (1 + (4 * j + t)) = omega (arith, first-long) in
          let f : i * entries k + k.vars + j ≡ i * entries k + s = omega arith in
          rw (le-ltb s k.vars (omega arith))
          (ap (at (first ++ (at ps i ∷ last))) e
          ∙ at_right first (at ps i ∷ last) (1 + (4 * j + t))
          ∙ past (at ps i) last (4 * j + t)
          ∙ entries_at ts (i * entries k + k.vars) k.limit j t (omega arith) u
          ∙ ap (λ (m : ℕ). at (entry_laid ts m) t) f)

-- ---- a record
module _ (k : Class) (ds is ts ps : List ℕ) (e : length ds ≡ descriptor_count k) (f : length is ≡ code_bytes k) where
  abbrev rows : List ℕ
  rows = each k.code (row_laid k ts ps)

  pub record-descriptor : (q : ℕ) → q < descriptor_count k → at (record_laid k ds is ts ps) q ≡ at ds q
  unfolding record_laid
  record-descriptor q h = at_left ds (is ++ rows) q (omega arith)

  pub record-code : (q : ℕ) → q < 4 * k.code → at (record_laid k ds is ts ps) (descriptor_count k + q) ≡ at is q
  unfolding record_laid
  record-code q h = rw (← e) (at_right ds (is ++ rows) q ∙ at_left is rows q (omega arith))

  -- byte o of the row that i others come before
  pub record-row : (i o : ℕ) → i < k.code → o < width k → at (record_laid k ds is ts ps) (descriptor_count k + 4 * k.code + i * width k + o) ≡ at (row_laid k ts ps i) o
  unfolding record_laid
  record-row i o l h =
      let w : length (each i (row_laid k ts ps)) ≡ i * width k = each-wide (row_laid k ts ps) (width k) i (λ m b. row-long k ts ps m) in
      let q : descriptor_count k + 4 * k.code + i * width k + o ≡ length ds + (length is + (length (each i (row_laid k ts ps)) + o)) = omega arith in
      ap (at (ds ++ (is ++ rows))) q
      ∙ at_right ds (is ++ rows) (length is + (length (each i (row_laid k ts ps)) + o))
      ∙ at_right is rows (length (each i (row_laid k ts ps)) + o)
      ∙ each_at (row_laid k ts ps) k.code i o l (omega (arith, row-long k ts ps i))

-- ---- the bundle
module _ {g : Given} (m : Measured g) where
  abbrev n : ℕ
  n = g.classes

  abbrev d : List ℕ
  d = g.directory

  abbrev b : List ℕ
  b = laid g

  abbrev records : List ℕ
  records = each n (record_of g)

  abbrev heads : List ℕ
  heads = each n (head_laid d)

  abbrev trailer : List ℕ
  trailer = trailer_laid (records_before d n) n g.exception (whole d n)

  front_long : length (records ++ heads) ≡ records_before d n + 8 * n
  front_long = omega (arith, length-append records heads, records-long m n (omega arith), heads-long m n (omega arith))

  pub bundle-long : length b ≡ records_before d n + 8 * n + 8
  unfolding whole
  bundle-long = laid-long m

  trailer-at : (t : ℕ) → at b (records_before d n + 8 * n + t) ≡ at trailer t
  unfolding laid
  trailer-at t = ap (λ (y : ℕ). at (records ++ heads ++ trailer) (y + t)) (sym front_long) ∙ at_right (records ++ heads) trailer t

  back : (y t : ℕ) → y + t ≡ 8 → at b (length b - y) ≡ at trailer t
  back y t h =
      let e : length b - y ≡ records_before d n + 8 * n + t = omega (arith, bundle-long) in
      ap (at b) e ∙ trailer-at t

  pub classes-are : classes b ≡ n
  unfolding trailer_laid word
  classes-are = back 6 2 refl

  pub exception-is : exception b ≡ g.exception
  unfolding trailer_laid word
  exception-is = back 5 3 refl

  second : (t : ℕ) → at b (length b - 8 + t) ≡ at trailer t
  second t =
      let e : length b - 8 + t ≡ records_before d n + 8 * n + t = omega (arith, bundle-long) in
      ap (at b) e ∙ trailer-at t

  pub directory-is : directory_at b ≡ records_before d n
  unfolding trailer_laid word
  directory-is = rw (back 8 0 refl, second 1) (word_back (records_before d n))

  pub length-is : be16 b (length b - 4) ≡ length b
  unfolding trailer_laid word
  length-is =
      let i : length b - 4 + 1 ≡ records_before d n + 8 * n + 5 = omega (arith, bundle-long) in
      let e : at b (length b - 4 + 1) ≡ at trailer 5 = ap (at b) i ∙ trailer-at 5 in
      rw (back 4 4 refl, e) (word_back (whole d n) ∙ sym (laid-long m))

  pub mark-first : at b (length b - 2) ≡ 76
  unfolding trailer_laid word
  mark-first = back 2 6 refl

  pub mark-last : at b (length b - 1) ≡ 75
  unfolding trailer_laid word
  mark-last = back 1 7 refl

  module _ (c : ℕ) (l : c < n) where
    -- byte q of class c's record
    pub record-at : (q : ℕ) → q < size (numbers_at d c) → at b (records_before d c + q) ≡ at (record_of g c) q
    unfolding laid
    record-at q h =
        let e : records_before d c + q ≡ length (each c (record_of g)) + q = ap (λ (y : ℕ). y + q) (sym (records-long m c (omega arith))) in
        let w = records-part m c l in
        let r = records-long m n (omega arith) in
        at_left (records ++ heads) trailer (records_before d c + q) (omega (arith, front_long))
        ∙ at_left records heads (records_before d c + q) (omega arith)
        ∙ ap (at records) e
        ∙ each_at (record_of g) n c q l (rw (class-long m c l) h)

    -- byte t of its place in the directory
    head_at_lem : (t : ℕ) → t < 8 → at b (records_before d n + 8 * c + t) ≡ at (head_laid d c) t
    unfolding laid
    head_at_lem t h =
        let r = records-long m n (omega arith) in
        let e : records_before d n + 8 * c + t ≡ length records + (length (each c (head_laid d)) + t) = omega (arith, heads-long m c (omega arith)) in
        at_left (records ++ heads) trailer (records_before d n + 8 * c + t) (omega (arith, front_long))
        ∙ ap (at (records ++ heads)) e
        ∙ at_right records heads (length (each c (head_laid d)) + t)
        ∙ each_at (head_laid d) n c t l (rw (head-long m c l) h)

    -- .. of the six that are given
    number_at : (t : ℕ) → t < 6 → at b (records_before d n + 8 * c + (2 + t)) ≡ at d (6 * c + t)
    unfolding head_laid word
    number_at t h =
        head_at_lem (2 + t) (omega arith)
        ∙ at_right (word (records_before d c)) (cut d (6 * c) 6) t
        ∙ part_at d (6 * c) (6 * c + 6) t (omega arith)

    pub class-is : class_at b c ≡ placed d c
    unfolding class_at head_at placed numbers_at head_laid word
    class-is =
        let o : at b (records_before d n + 8 * c) * 256 + at b (records_before d n + 8 * c + 1) ≡ records_before d c =
        rw (ap (at b) (zero_more (records_before d n + 8 * c)) ∙ head_at_lem 0 (omega arith), head_at_lem 1 (omega arith)) (word_back (records_before d c)) in
        let e : 6 * c + 0 ≡ 6 * c = omega arith in
        let k : records_before d n + 8 * c + 6 + 1 ≡ records_before d n + 8 * c + (2 + 5) = omega arith in
        let q : 6 * c + 4 + 1 ≡ 6 * c + 5 = omega arith in
        rw (
          directory-is,
          o,
          number_at 0 (omega arith),
          number_at 1 (omega arith),
          number_at 2 (omega arith),
          number_at 3 (omega arith),
          number_at 4 (omega arith),
          k,
          number_at 5 (omega arith),
          e,
          q,
        )
      where
        zero_more : (y : ℕ) → y ≡ y + 0
        zero_more y = omega arith
