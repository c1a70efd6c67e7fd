-- What a bundle past refusals 1 to 8 and 23 is: where its parts stand, and which bytes are no pair bytes.
use mathlib.Core.List.{List, []}
use mathlib.Core.Path.{◌≡◌, refl, sym, ◌∙◌}
use mathlib.Core.Logic.{◌⊎◌, inl, inr}
use mathlib.Core.Bool.{Bool, true, false}
use Prim.Native.Nat.{ℕ, ◌+◌, ◌*◌, ◌-◌, ◌≤◌, ◌<◌}
use native.Mathlib.Omega.{arith}
use native.Mathlib.Decide.{ℕ_discrete, dec_lt}
use lib.ListN.{length}
use lib.Dec.{leb, eqb}
use borrow.Author.Tests.{leb-true, le-leb, eqb-true, not-false}
use Rattle.ground.specs.Bytes.{at, part}
use Rattle.ground.specs.Bounded.{all_below}
use Rattle.ground.proofs.Bools.{and-fst, and-snd, or_right}
use Rattle.ground.proofs.Bounded.{all-elim}
use Rattle.ground.proofs.Bytes.{part_at, part_length}
use Rattle.ground.proofs.Chain.{then-elim, went_on_lem}
use Rattle.bundle.specs.declared.Class.{Class}
use Rattle.bundle.specs.Container.{directory_at, classes, class_at, descriptor_count, size, record_fits, part_of}
use Rattle.bundle.specs.Program.{program_of, method_at, method_of}
use Rattle.verdicts.specs.Verdicts.{is_bad}
use Rattle.structure.specs.Structure.{structure_of}
use Rattle.structure.specs.Conditions.{directory_ok}
use Rattle.structure.specs.Places.{directory}
use Rattle.structure.proofs.FirstBroken.{structure-zero}
use Rattle.structure.proofs.Structured.{lengths, extents}
use Rattle.rows.specs.Rows.{row_start}
use Rattle.forms.specs.Forms.{row_formed}
use Rattle.verifier.specs.Places.{form}
use Rattle.shape.specs.PairBytes.{place_in, place_of, depth_of, InUse, Reference, PairByte}
use Rattle.shape.specs.Shape.{row_aside, shape_verdict}
use Rattle.shape.specs.Apart.{apart, apart_from, lower_apart, directory_apart, class_apart, all_apart, Readable}
use Rattle.shape.proofs.FirstBroken.{shape-zero, shape-parts}
use Rattle.shape.proofs.Places.{place-low, place-high, depth-high, place-once, depth-alone}

-- a part of a bundle as long as b, read by its place in the bundle
module _ (y : List ℕ) (k : Class) (f : k.offset + size k ≤ length y - 8) where
  fits : record_fits y k ≡ true
  unfolding record_fits
  fits = le-leb _ _ f

  pub part-is : part_of y k ≡ part y k.offset (k.offset + size k)
  unfolding part_of
  part-is = went_on_lem [] _ fits

  pub part-byte : (q : ℕ) → q < size k → at (part_of y k) q ≡ at y (k.offset + q)
  part-byte q l = rw part-is (part_at y k.offset (k.offset + size k) q (omega arith))

  pub part-long : length (part_of y k) ≡ size k
  part-long = rw part-is (part_length y k.offset (k.offset + size k) (omega arith) (omega arith) ∙ omega arith)

-- past 1 to 8, pair bytes aside, is past 1 to 7
pub structured : (b : List ℕ) → is_bad (shape_verdict b) ≡ false → (structure_of b).number ≡ 0
structured b s = eqb-true _ 0 (not-false (eqb (structure_of b).number 0) (then-elim is_bad (structure_of b) _ (rw (shape-parts b) at s)).0)

module _ (b : List ℕ) (R : Readable b) where
  pub good : (structure_of b).number ≡ 0
  good = structured b R.shaped

  -- every row is well formed, pair bytes aside
  pub row-shaped : (c l : ℕ) → c < classes b → 1 ≤ l → l ≤ (class_at b c).code
      → row_formed (class_at b c).vars (class_at b c).limit (row_aside (classes b) (class_at b c) (part_of b (class_at b c)) (row_start (class_at b c) l)) ≡ true
  unfolding program_of method_at method_of
  row-shaped c l h low high = shape-zero b R.shaped (form c l) (record { class_known = h; first = low; last = high })

  pub depth_limit : (c l : ℕ) → c < classes b → 1 ≤ l → l ≤ (class_at b c).code → depth_of b c l ≤ (class_at b c).limit
  unfolding row_formed depth_of
  depth_limit c l h low high = leb-true _ _ (and-fst _ _ (and-fst _ _ (row-shaped c l h low high)))

  pub bundle-long : 8 ≤ length b
  bundle-long = (lengths b good).0

  pub extent : (c : ℕ) → c < classes b → (class_at b c).offset + size (class_at b c) ≤ length b - 8
  unfolding record_fits
  extent c l = leb-true _ _ (extents b good c l)

  pub directory-extent : directory_at b + 8 * classes b ≤ length b - 8
  unfolding directory_ok
  directory-extent =
      let h = structure-zero b good directory tt in
      leb-true (directory_at b + 8 * classes b) (length b - 8) (search (and-fst, and-snd))

  -- ---- no byte in common
  apart-never : (a m e n p : ℕ) → apart a m e n ≡ true → a ≤ p → p < a + m → e ≤ p → p < e + n → ⊥
  unfolding apart
  apart-never a m e n p h i j k l = go (leb (a + m) e) refl
    where
      go : (t : Bool) → leb (a + m) e ≡ t → ⊥
      go true q = omega (arith, leb-true (a + m) e q)
      go false q = omega (arith, leb-true (e + n) a (or_right (leb (a + m) e) _ h q))

  apart-class : (c : ℕ) → c < classes b → class_apart b c ≡ true
  unfolding all_apart
  apart-class = all-elim (class_apart b) (classes b) R.apart

  abbrev Inside : ℕ → ℕ → Type 0
  Inside c p = ((class_at b c).offset ≤ p) × (p < (class_at b c).offset + size (class_at b c))

  pub not-both : (c p : ℕ) → c < classes b → Inside c p → directory_at b ≤ p → p < directory_at b + 8 * classes b → ⊥
  unfolding class_apart directory_apart
  not-both c p l i j k = apart-never _ _ _ _ p (and-fst _ _ (apart-class c l)) i.0 i.1 j k

  lower-never : (c d p : ℕ) → d < c → c < classes b → Inside c p → Inside d p → ⊥
  unfolding class_apart lower_apart apart_from
  lower-never c d p m l i j =
      let h : all_below c (apart_from b (class_at b c)) ≡ true = search (and-snd, apart-class c l) in
      apart-never _ _ _ _ p (all-elim (apart_from b (class_at b c)) c h d m) i.0 i.1 j.0 j.1

  pub same_class : (c d p : ℕ) → c < classes b → d < classes b → Inside c p → Inside d p → d ≡ c
  same_class c d p l m i j = go (ℕ_discrete d c) (dec_lt d c)
    where
      go : Dec (d ≡ c) → Dec (d < c) → d ≡ c
      go (yes e) t = e
      go (no e) (yes t) = absurd (lower-never c d p t l i j)
      go (no e) (no t) = absurd (lower-never d c p (omega arith) m j i)

  -- ---- an entry in use
  pub in_row : {c l s : ℕ} → InUse b c l s → s < (class_at b c).vars + (class_at b c).limit
  in_row {c} {l} {s} u = omega (arith, u.used, depth_limit c l u.class_known u.first u.last)

  pub inside : {c l s : ℕ} (t : ℕ) → t < 4 → InUse b c l s → Inside c (place_of b c l s + t)
  unfolding place_of
  inside {c} {l} {s} t h u =
      (omega arith, omega (arith, place-high (class_at b c) l u.first u.last s t (in_row u) h))

  -- a pair byte, by how far it is in its entry
  pub record Where (p : ℕ) : Type 0 where
    pub class : ℕ
    pub address : ℕ
    pub entry : ℕ
    pub byte : ℕ
    pub reference : Reference b class address entry
    pub low : 2 ≤ byte
    pub high : byte < 4
    pub is : p ≡ place_of b class address entry + byte

  pub found : {p : ℕ} → PairByte b p → Where p
  found {p} x = go x.which
    where
      go : (p ≡ place_of b x.class x.address x.entry + 2) ⊎ (p ≡ place_of b x.class x.address x.entry + 3) → Where p
      go (inl e) = record { class = x.class; address = x.address; entry = x.entry; byte = 2; reference = x.reference; low = omega arith; high = omega arith; is = e }
      go (inr e) = record { class = x.class; address = x.address; entry = x.entry; byte = 3; reference = x.reference; low = omega arith; high = omega arith; is = e }

  pub place_inside : {p : ℕ} (x : Where p) → Inside x.class p
  place_inside x = rw x.is (inside x.byte x.high x.reference.in_use)

  -- a dip's byte is no end's
  pub pair-once : {c l s c' l' s' : ℕ} → Reference b c l s → Reference b c' l' s' → place_of b c l s + 2 ≡ place_of b c' l' s' + 3 → ⊥
  unfolding place_of
  pair-once {c} {l} {s} {c'} {l'} {s'} r r' e =
      go c' r' e (same_class c c' (place_of b c l s + 2) r.in_use.class_known r'.in_use.class_known (inside 2 (omega arith) r.in_use) (rw e (inside 3 (omega arith) r'.in_use)))
    where
      go : (d : ℕ) → Reference b d l' s' → (class_at b c).offset + place_in (class_at b c) l s + 2 ≡ (class_at b d).offset + place_in (class_at b d) l' s' + 3 → d ≡ c → ⊥
      go d q f h =
          let q' : Reference b c l' s' = rw h at q in
          let f' : (class_at b c).offset + place_in (class_at b c) l s + 2 ≡ (class_at b c).offset + place_in (class_at b c) l' s' + 3 = rw h at f in
          let u = r.in_use in
          let o = place-once (class_at b c) l u.first u.last l' q'.in_use.first s 2 s' 3 (in_row u) (in_row q'.in_use) (omega arith) (omega arith) (omega arith) in
          omega (arith, o.2)

  -- ---- no pair bytes: the trailer, the directory
  pub not-trailer : (p : ℕ) → length b - 8 ≤ p → PairByte b p → ⊥
  not-trailer p h x =
      let w = found x in
      let i = place_inside w in
      omega (arith, i.1, extent w.class w.reference.in_use.class_known)

  pub not-directory : (p : ℕ) → directory_at b ≤ p → p < directory_at b + 8 * classes b → PairByte b p → ⊥
  not-directory p h k x = let w = found x in not-both w.class p w.reference.in_use.class_known (place_inside w) h k

  -- ---- in class c's record
  module _ (c : ℕ) (lc : c < classes b) where
    abbrev k : Class
    k = class_at b c

    -- a pair byte at q of the record is of an entry of this class
    pub record Here (q : ℕ) : Type 0 where
      pub address : ℕ
      pub entry : ℕ
      pub byte : ℕ
      pub reference : Reference b c address entry
      pub low : 2 ≤ byte
      pub high : byte < 4
      pub is : q ≡ place_in k address entry + byte

    pub here : (q : ℕ) → q < size k → PairByte b (k.offset + q) → Here q
    unfolding place_of
    here q h x = go (same_class c w.class (k.offset + q) lc w.reference.in_use.class_known (omega arith, omega arith) (place_inside w)) w
      where
        w : Where (k.offset + q)
        w = found x

        go : w.class ≡ c → Where (k.offset + q) → Here q
        go e v = moved w.class e w.reference w.is
          where
            moved : (d : ℕ) → d ≡ c → Reference b d w.address w.entry → k.offset + q ≡ place_of b d w.address w.entry + w.byte → Here q
            moved d e r i =
                let r' : Reference b c w.address w.entry = rw e at r in
                let i' : k.offset + q ≡ k.offset + place_in k w.address w.entry + w.byte = rw e at i in
                record { address = w.address; entry = w.entry; byte = w.byte; reference = r'; low = w.low; high = w.high; is = omega arith }

    pub not_code : (q : ℕ) → q < descriptor_count k + 4 * k.code → q < size k → PairByte b (k.offset + q) → ⊥
    not_code q h h' x =
        let w = here q h' x in
        let u = w.reference.in_use in
        omega (arith, place-low k w.address u.first u.last w.entry w.byte, w.is)

    module _ (l : ℕ) (low : 1 ≤ l) (high : l ≤ k.code) where
      pub not-depth : PairByte b (k.offset + (row_start k l + 4 * k.vars)) → ⊥
      not-depth x =
          let w = here (row_start k l + 4 * k.vars) (depth-high k l low high) x in
          let u = w.reference.in_use in
          depth-alone k l low high w.address w.entry w.byte u.first (in_row u) w.high (sym w.is)

      -- a pair byte at byte t of entry s: the entry is a reference in use, and t is 2 or 3
      pub at_entry : (s t : ℕ) → s < k.vars + k.limit → t < 4 → PairByte b (place_of b c l s + t) → Reference b c l s × (2 ≤ t)
      unfolding place_of
      at_entry s t h ht x =
          let e : k.offset + place_in k l s + t ≡ k.offset + (place_in k l s + t) = omega arith in
          let w = here (place_in k l s + t) (place-high k l low high s t h ht) (rw e at x) in
          let u = w.reference.in_use in
          let o = place-once k l low high w.address u.first s t w.entry w.byte h (in_row u) ht w.high w.is in
          (rw (← o.0, ← o.1) at w.reference, omega (arith, w.low, o.2))
