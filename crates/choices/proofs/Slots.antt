-- What the rules ask of one entry of a bundle: every accepted choice has it; and where every entry has it, a choice is still.
use mathlib.Core.List.{List}
use mathlib.Core.Path.{◌≡◌, sym, ap, ◌∙◌}
use mathlib.Core.Bool.{true}
use Prim.Native.Nat.{ℕ, ◌+◌, ◌-◌, ◌≤◌, ◌<◌}
use native.Mathlib.Omega.{arith}
use native.Mathlib.Decide.{dec_lt}
use lib.Dec.{eqb}
use borrow.Author.Tests.{lt-ltb, le-ltb, eqb-true}
use Rattle.ground.specs.Bytes.{at}
use Rattle.ground.proofs.Bools.{and-fst}
use Rattle.bundle.specs.declared.Class.{Class}
use Rattle.bundle.specs.Container.{classes, class_at}
use Rattle.verdicts.specs.declared.Verdict.{Verdict}
use Rattle.entries.specs.Entries.{Entry, Ref, entry_of, is_reference}
use Rattle.entries.proofs.Types.{reference-bytes}
use Rattle.shape.specs.PairBytes.{place_of, depth_of, InUse, Reference}
use Rattle.shape.specs.Apart.{Readable}
use Rattle.shape.proofs.Readable.{depth_limit}
use Rattle.needs.specs.declared.Pair.{Pair}
use Rattle.needs.specs.Needs.{entry_need}
use Rattle.needs.specs.Exactly.{Has}
use Rattle.choices.specs.Asked.{need_at, Enough}
use Rattle.choices.specs.Choice.{Choice, Accepted, Below}
use Rattle.choices.specs.Complete.{ForcedEntry, EnoughAccepted}
use Rattle.choices.proofs.Choices.{kind-same}
use Rattle.choices.proofs.Shapes.{row-variable, row-stack, row-depth, reference-entry}
use Rattle.choices.proofs.Complete.{forced, complete, HaveAt, MeetAt, Still}

-- an entry that is a reference is of kind 3
kind_3 : (n a c d e : ℕ) → is_reference (entry_of n a c d e) ≡ true → a ≡ 3
kind_3 n a c d e h = eqb-true a 3 (and-fst (eqb a 3) _ (reference-bytes n c d e a ∙ h))

module _ (b : List ℕ) (R : Readable b) (x : List ℕ) (C : Choice b x) where
  -- every accepted choice above it has what is asked
  entry-forced : (c l s : ℕ) → Reference b c l s → (y : List ℕ) → Choice b y → Accepted y → Below x y
      → ((need_at b x c l s).dip ≤ at y (place_of b c l s + 2)) × ((need_at b x c l s).end ≤ at y (place_of b c l s + 3))
  unfolding need_at entry_need
  entry-forced c l s r y D A below = go (dec_lt s (class_at b c).vars)
    where
      u : InUse b c l s
      u = r.in_use

      d : depth_of b c l ≤ (class_at b c).limit
      d = depth_limit b R c l u.class_known u.first u.last

      have : HaveAt b R x y c l
      have = forced b R x y C D A below c l u.class_known u.first u.last

      of-reference : {p : Pair} → Has p (entry_of (classes b) (at y (place_of b c l s)) (at y (place_of b c l s + 1)) (at y (place_of b c l s + 2)) (at y (place_of b c l s + 3)))
          → (p.dip ≤ at y (place_of b c l s + 2)) × (p.end ≤ at y (place_of b c l s + 3))
      of-reference {p} h =
          let g : Has p (Ref (at b (place_of b c l s + 1)) (at y (place_of b c l s + 2)) (at y (place_of b c l s + 3))) = rw (reference-entry b R c u.class_known l u.first u.last y D s r) at h in
          (g.dip, g.end)

      go : Dec (s < (class_at b c).vars) → ((need_at b x c l s).dip ≤ at y (place_of b c l s + 2)) × ((need_at b x c l s).end ≤ at y (place_of b c l s + 3))
      go (yes h) =
          rw (lt-ltb s (class_at b c).vars h)
          (of-reference (rw (row-variable b R c u.class_known l u.first u.last y D s h) at (have.variable s h)))
      go (no h) =
          let e : (class_at b c).vars + (s - (class_at b c).vars) ≡ s = omega arith in
          let j : s - (class_at b c).vars < depth_of b c l = omega (arith, u.used) in
          let k = rw (← row-depth b R c u.class_known l u.first u.last x C) at j in
          rw (le-ltb s (class_at b c).vars (omega arith))
          (of-reference (rw (row-stack b R c u.class_known l u.first u.last y D (s - (class_at b c).vars) (omega (arith, d)), e) at (have.stack (s - (class_at b c).vars) k)))

  -- where every reference has what is asked, nothing is left to raise
  module _ (f : (c l s : ℕ) → Reference b c l s → Enough b x c l s) (c l : ℕ) (lc : c < classes b) (low : 1 ≤ l) (high : l ≤ (class_at b c).code) where
    abbrev k : Class
    k = class_at b c

    abbrev entry : ℕ → Entry
    entry s = entry_of (classes b) (at x (place_of b c l s)) (at x (place_of b c l s + 1)) (at x (place_of b c l s + 2)) (at x (place_of b c l s + 3))

    of_entry : (s : ℕ) → s < k.vars + depth_of b c l → is_reference (entry s) ≡ true → Has (need_at b x c l s) (entry s)
    of_entry s h q =
        let e : at b (place_of b c l s) ≡ 3 =
        sym (kind-same b R x C.alike c lc l low high s (omega (arith, depth_limit b R c l lc low high)))
        ∙ kind_3 (classes b) (at x (place_of b c l s)) (at x (place_of b c l s + 1)) (at x (place_of b c l s + 2)) (at x (place_of b c l s + 3)) q in
        let r : Reference b c l s = record { in_use = record { class_known = lc; first = low; last = high; used = h }; kind = e } in
        rw (reference-entry b R c lc l low high x C s r) (record { dip = (f c l s r).dip; end = (f c l s r).end })

    still-at : MeetAt b R x x c l
    unfolding need_at entry_need
    still-at =
        record {
          variable = λ i h q.
              let q' : is_reference (entry i) ≡ true = rw (row-variable b R c lc l low high x C i h) at q in
              rw (row-variable b R c lc l low high x C i h) (rw (lt-ltb i k.vars h) at (of_entry i (omega arith) q'));
          stack = λ j h q.
              let d : j < depth_of b c l = rw (row-depth b R c lc l low high x C) at h in
              let m : j < k.limit = omega (arith, depth_limit b R c l lc low high) in
              let e : k.vars + j - k.vars ≡ j = omega arith in
              let q' : is_reference (entry (k.vars + j)) ≡ true = rw (row-stack b R c lc l low high x C j m) at q in
              rw (row-stack b R c lc l low high x C j m) (rw (le-ltb (k.vars + j) k.vars (omega arith), e) at (of_entry (k.vars + j) (omega arith) q'));
        }

  pub enough-still : ((c l s : ℕ) → Reference b c l s → Enough b x c l s) → Still b R x
  enough-still f c l lc low high = still-at f c l lc low high

-- THEOREM: what a choice asks of a reference, every accepted choice above it has there
pub forced-entry : ForcedEntry
forced-entry b R x C = entry-forced b R x C

-- THEOREM: a choice whose references have what it asks of them is accepted if one above it is
pub enough-accepted : EnoughAccepted
enough-accepted b R x C y D A below f = ap (λ (v : Verdict). v.number) (complete b R x y C D A below (enough-still b R x C f))
