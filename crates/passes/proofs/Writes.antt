-- Two bytes of a reference in use are written: what the bundle is then.
use mathlib.Core.List.{List}
use mathlib.Core.Path.{◌≡◌, refl, sym, ◌∙◌}
use mathlib.Core.Logic.{inl, inr}
use Prim.Native.Nat.{ℕ, ◌+◌, ◌≤◌, ◌<◌}
use native.Mathlib.Omega.{arith}
use native.Mathlib.Decide.{ℕ_discrete}
use lib.ListN.{length}
use Rattle.ground.specs.Bytes.{at}
use Rattle.bundle.specs.Container.{classes, class_at}
use Rattle.entries.specs.Entries.{max_dip, min_end, max_end}
use Rattle.shape.specs.PairBytes.{place_in, place_of, InUse, Reference, PairByte}
use Rattle.shape.specs.Apart.{Readable}
use Rattle.shape.proofs.Places.{place-high, place-once}
use Rattle.shape.proofs.Readable.{in_row, inside, same_class, pair-once, extent, bundle-long}
use Rattle.choices.specs.Choice.{Alike, Choice}
use Rattle.choices.proofs.Choices.{kind-same}
use Rattle.passes.specs.Passes.{Reading, Lower}
use Rattle.passes.proofs.Two.{two, two-long, two-end, two-dip, two-other, by_byte}

pub reads : {b x : List ℕ} → Lower b x → Reading b x
reads L = record { readable = L.readable; bytes = L.bytes; alike = L.choice.alike }

-- ---- two bytes of a reference in use are written
module _ (b x : List ℕ) (c l s : ℕ) (r : Reference b c l s) (v w : ℕ) (h : place_of b c l s + 3 < length x) where
  abbrev P : ℕ
  P = place_of b c l s

  abbrev x' : List ℕ
  x' = two x P v w h

  dip-byte : PairByte b (P + 2)
  dip-byte = record { class = c; address = l; entry = s; reference = r; which = inl refl }

  end-byte : PairByte b (P + 3)
  end-byte = record { class = c; address = l; entry = s; reference = r; which = inr refl }

  pub two-alike : v < 256 → w < 256 → Alike b x → Alike b x'
  two-alike lv lw A =
      record {
        long = two-long x P v w h ∙ A.long;
        bytes = by_byte x P v w h (λ q n. n < 256) lv lw (λ q e f. A.bytes q);
        others = λ q f. two-other x P v w h q (λ e. f (rw e dip-byte)) (λ e. f (rw e end-byte)) ∙ A.others q f;
      }

  -- another reference's dip and end
  pub other-dip : Readable b → (B : ℕ → Type 0) → B v → (c' l' s' : ℕ) → Reference b c' l' s' → B (at x (place_of b c' l' s' + 2)) → B (at x' (place_of b c' l' s' + 2))
  other-dip R B bv c' l' s' r' k = go (ℕ_discrete (place_of b c' l' s' + 2) (P + 2))
    where
      go : Dec (place_of b c' l' s' + 2 ≡ P + 2) → B (at x' (place_of b c' l' s' + 2))
      go (yes e) = rw (e, two-dip x P v w h) bv
      go (no e) = rw (two-other x P v w h (place_of b c' l' s' + 2) e (pair-once b R r' r)) k

  pub other-end : Readable b → (B : ℕ → Type 0) → B w → (c' l' s' : ℕ) → Reference b c' l' s' → B (at x (place_of b c' l' s' + 3)) → B (at x' (place_of b c' l' s' + 3))
  other-end R B bw c' l' s' r' k = go (ℕ_discrete (place_of b c' l' s' + 3) (P + 3))
    where
      go : Dec (place_of b c' l' s' + 3 ≡ P + 3) → B (at x' (place_of b c' l' s' + 3))
      go (yes e) = rw (e, two-end x P v w h) bw
      go (no e) = rw (two-other x P v w h (place_of b c' l' s' + 3) (λ f. pair-once b R r r' (sym f)) e) k

  pub two_choice : Readable b → v ≤ max_dip → min_end ≤ w → w ≤ max_end → Choice b x → Choice b x'
  two_choice R lv mw lw C =
      record {
        alike = two-alike (omega arith) (omega arith) C.alike;
        dips = λ c' l' s' r'. other-dip R (λ n. n ≤ max_dip) lv c' l' s' r' (C.dips c' l' s' r');
        least_end = λ c' l' s' r'. other-end R (λ n. min_end ≤ n) mw c' l' s' r' (C.least_end c' l' s' r');
        ends = λ c' l' s' r'. other-end R (λ n. n ≤ max_end) lw c' l' s' r' (C.ends c' l' s' r');
      }

  -- the bytes of another row
  pub other_row : Readable b → (c' m s' t : ℕ) → c' < classes b → 1 ≤ m → m ≤ (class_at b c').code → s' < (class_at b c').vars + (class_at b c').limit → t < 4
      → (c' ≡ c → m ≡ l → ⊥) → at x' (place_of b c' m s' + t) ≡ at x (place_of b c' m s' + t)
  unfolding place_of
  other_row R c' m s' t lc low high ls lt f =
      two-other x P v w h (place_of b c' m s' + t) (λ e. never 2 (omega arith) e) (λ e. never 3 (omega arith) e)
    where
      never : (u : ℕ) → u < 4 → place_of b c' m s' + t ≡ place_of b c l s + u → ⊥
      never u lu e =
          go c' lc high ls e f (same_class b R c c' (place_of b c l s + u) r.in_use.class_known lc (inside b R u lu r.in_use)
          (omega arith, omega (arith, place-high (class_at b c') m low high s' t ls lt)))
        where
          go : (d : ℕ) → d < classes b → m ≤ (class_at b d).code → s' < (class_at b d).vars + (class_at b d).limit
              → (class_at b d).offset + place_in (class_at b d) m s' + t ≡ (class_at b c).offset + place_in (class_at b c) l s + u → (d ≡ c → m ≡ l → ⊥) → d ≡ c → ⊥
          go d ld hd sd i g q =
              let h' : m ≤ (class_at b c).code = rw q at hd in
              let k' : s' < (class_at b c).vars + (class_at b c).limit = rw q at sd in
              let i' : (class_at b c).offset + place_in (class_at b c) m s' + t ≡ (class_at b c).offset + place_in (class_at b c) l s + u = rw q at i in
              let o = place-once (class_at b c) m low h' l r.in_use.first s' t s u k' (in_row b R r.in_use) lt lu (omega arith) in
              g q o.0

-- ---- an entry in use
module _ (b x : List ℕ) (L : Reading b x) (c l s : ℕ) (u : InUse b c l s) where
  pub within : place_of b c l s + 3 < length x
  within =
      let i = inside b L.readable 3 (omega arith) u in
      omega (arith, i.1, extent b L.readable c u.class_known, bundle-long b L.readable, L.alike.long)

  kind-of : at x (place_of b c l s) ≡ at b (place_of b c l s)
  kind-of = kind-same b L.readable x L.alike c u.class_known l u.first u.last s (in_row b L.readable u)

  pub a-reference : at x (place_of b c l s) ≡ 3 → Reference b c l s
  a-reference e = record { in_use = u; kind = sym kind-of ∙ e }

  pub of-kind-3 : Reference b c l s → at x (place_of b c l s) ≡ 3
  of-kind-3 r = kind-of ∙ r.kind
