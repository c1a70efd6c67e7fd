-- A refusal's numbers are bad; so a search that ends at a refusal answers what its first bad part draws, and one that ends well answers `pass`.
use mathlib.Core.Path.{◌≡◌, refl, sym}
use mathlib.Core.Bool.{true}
use Prim.Native.Nat.{ℕ, ◌+◌, ◌<◌, ◌≤◌}
use Rattle.ground.specs.Chain.{or_then, scan}
use Rattle.ground.proofs.Chain.{then-stop, then-go, scan-zero, scan-next, scan-left, scan-done}
use Rattle.verdicts.specs.declared.Refusal.{Refusal}
use Rattle.verdicts.specs.declared.Refusal.TheVariants.{Length, Trailer, Directory, Limits, Extent, Descriptors, Instruction, Form, Rule, FirstRow, NoPairs, Overlap, Room, Order, Levels, Given}
use Rattle.verdicts.specs.declared.Verdict.{Verdict}
use Rattle.verdicts.specs.Numbers.{numbers}
use Rattle.verdicts.specs.Verdicts.{verdict, is_bad, pass}

pub refused : (e : Refusal) → is_bad (numbers e) ≡ true
refused Length = refl
refused Trailer = refl
refused Directory = refl
refused (Limits c) = refl
refused (Extent c) = refl
refused (Descriptors c) = refl
refused (Instruction c l) = refl
refused (Form c l) = refl
refused (Rule c l w) = refl
refused (FirstRow c) = refl
refused NoPairs = refl
refused Overlap = refl
refused Room = refl
refused (Order c l) = refl
refused Levels = refl
refused Given = refl

-- a `for` over the answers of f, which a refusal leaves: `using(verdicts::proofs::Numbers::searching)` closes its goals
module _ (f : ℕ → Verdict) where
  pub loop-zero : scan is_bad pass 0 f ≡ pass
  loop-zero = scan-zero is_bad pass refl f

  pub loop-err : (n i : ℕ) (e : Refusal) → i < n → scan is_bad pass i f ≡ pass → numbers e ≡ f i → numbers e ≡ scan is_bad pass n f
  loop-err n i e l a q = scan-left is_bad pass refl f n i l a q (refused e)

  pub loop-ok : (i : ℕ) → scan is_bad pass i f ≡ pass → pass ≡ f i → scan is_bad pass (i + 1) f ≡ pass
  loop-ok i a q = scan-next is_bad pass refl f i a q refl

  pub loop-done : (n i : ℕ) → i ≤ n → n ≤ i → scan is_bad pass i f ≡ pass → pass ≡ scan is_bad pass n f
  loop-done n i l k a = scan-done is_bad pass refl f n i l k a

-- two searches one after the other, of which the first refuses or finds nothing
pub stage-err : (e : Refusal) (v : Verdict) → or_then is_bad (numbers e) v ≡ numbers e
stage-err e v = sym (then-stop is_bad (numbers e) v refl (refused e))

pub stage-ok : (n : ℕ) (v : Verdict) → or_then is_bad (verdict 0 n 0) v ≡ v
stage-ok n v = sym (then-go is_bad (verdict 0 n 0) refl refl refl)

pub ruleset searching = (loop-zero, loop-err, loop-ok, loop-done, stage-err, stage-ok)
