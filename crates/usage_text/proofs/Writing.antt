-- Every usage has a text, and is read back from it.
use Prim.Native.Nat.{ℕ, zero, suc, ◌≤◌}
use native.Mathlib.Nat.{le_refl}
use native.Mathlib.Omega.{arith}
use Rattle.usages.specs.Usage.{Usage, done, lock, unlock, either, both}
use Rattle.usage_text.specs.Exact.{ReadBack}
use Rattle.usage_text.specs.Grammar.{Texts, single, more, Prefixed, plain, locked, unlocked, bracket, Shuffle, Choice, Inside, TextOf}
use Rattle.usage_text.specs.Writing.{free, beside_and, bound, written_in, written, joints}
use Rattle.usage_text.proofs.Grammar.{text-read}

-- the text fits each place
record Fit (P : Texts) (u : Usage) : Type 0 where
  is_choice : Choice P (written_in u free) u
  is_shuffle : Shuffle P (written_in u beside_and) u
  is_bound : Prefixed P (written_in u bound) u

fit : (u : Usage) (d : ℕ) → joints u ≤ d → Fit (Inside d) u
unfolding written_in joints Inside
fit done d l = record { is_choice = single (single plain); is_shuffle = single plain; is_bound = plain }
fit (lock u) d l =
    let p = locked (fit u d l).is_bound in
    record { is_choice = single (single p); is_shuffle = single p; is_bound = p }
fit (unlock u) d l =
    let p = unlocked (fit u d l).is_bound in
    record { is_choice = single (single p); is_shuffle = single p; is_bound = p }
fit (either u v) zero l = absurd (omega arith)
fit (either u v) (suc d) l =
    record {
      is_choice = more (fit u (suc d) (omega arith)).is_choice (fit v (suc d) (omega arith)).is_shuffle;
      is_shuffle = single (bracket (more (fit u d (omega arith)).is_choice (fit v d (omega arith)).is_shuffle));
      is_bound = bracket (more (fit u d (omega arith)).is_choice (fit v d (omega arith)).is_shuffle);
    }
fit (both u v) zero l = absurd (omega arith)
fit (both u v) (suc d) l =
    let s = more (fit u (suc d) (omega arith)).is_shuffle (fit v (suc d) (omega arith)).is_bound in
    record {
      is_choice = single s;
      is_shuffle = s;
      is_bound = bracket (single (more (fit u d (omega arith)).is_shuffle (fit v d (omega arith)).is_bound));
    }

written-text : (u : Usage) → TextOf (joints u) (written u) u
written-text u = (fit u (joints u) (le_refl (joints u))).is_choice

-- THEOREM
pub read_back : ReadBack
read_back u = (written-text u, text-read (joints u) (written u) u (written-text u))
