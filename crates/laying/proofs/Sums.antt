-- Sizes as the code adds them up, class by class; and that nothing wraps.
use mathlib.Core.List.{List}
use mathlib.Core.Path.{◌≡◌, ap, ◌∙◌}
use Prim.Native.Nat.{ℕ, ◌+◌, ◌*◌, ◌≤◌}
use native.Mathlib.Numerals.{add-one}
use native.Mathlib.Omega.{arith}
use Rattle.ground.specs.Bounded.{sum_below}
use Rattle.bundle.specs.declared.Class.{Class}
use Rattle.laying.specs.declared.Sizes.{Sizes}
use Rattle.laying.specs.Given.{numbers_at}
use Rattle.laying.specs.Lengths.{descriptors_before, instructions_before, kinds_before, depths_before, records_before}
use Rattle.laying.specs.Loops.{sizes_of, more, Under, Near}

abbrev none : Sizes
none = record { descriptors = 0; instructions = 0; kinds = 0; depths = 0; records = 0 }

module _ (d : List ℕ) where
  pub sizes-none : (s : Sizes) → (s.descriptors ≡ 0) × ((s.instructions ≡ 0) × ((s.kinds ≡ 0) × ((s.depths ≡ 0) × (s.records ≡ 0)))) → s ≡ sizes_of d 0
  unfolding descriptors_before instructions_before kinds_before depths_before records_before sum_below
  sizes-none s h =
      let e : record { descriptors = s.descriptors; instructions = s.instructions; kinds = s.kinds; depths = s.depths; records = s.records } ≡ none = rw (h.0, h.1.0, h.1.1.0, h.1.1.1.0, h.1.1.1.1) in
      e

  more_of : (c : ℕ) → more (sizes_of d c) (numbers_at d c) ≡ sizes_of d (c + 1)
  unfolding descriptors_before instructions_before kinds_before depths_before records_before sum_below
  more_of c = rw (add-one c)

  -- a turn of the loop
  pub sizes-more : (c : ℕ) (s r : Sizes) (k : Class) → s ≡ sizes_of d c → k ≡ numbers_at d c → r ≡ more s k → r ≡ sizes_of d (c + 1)
  sizes-more c s r k e f g = g ∙ rw (e, f) (more_of c)

  pub sizes-done : (c n : ℕ) (s : Sizes) → c ≤ n → n ≤ c → s ≡ sizes_of d c → s ≡ sizes_of d n
  sizes-done c n s l k e = e ∙ ap (sizes_of d) (omega arith)

pub under_none : Under (0 * 268435456) none
under_none =
    record {
      descriptors = omega arith;
      instructions = omega arith;
      kinds = omega arith;
      depths = omega arith;
      records = omega arith;
    }

module _ (c : ℕ) (s : Sizes) where
  pub under_more : (r : Sizes) → Near s r → Under (c * 268435456) s → Under ((c + 1) * 268435456) r
  under_more r h u =
      record {
        descriptors = omega arith;
        instructions = omega arith;
        kinds = omega arith;
        depths = omega arith;
        records = omega arith;
      }

  pub under-eight : c ≤ 8 → Under (c * 268435456) s → Under 8589934592 s
  under-eight l u =
      record {
        descriptors = omega arith;
        instructions = omega arith;
        kinds = omega arith;
        depths = omega arith;
        records = omega arith;
      }
