-- Bytes past the end, parts, and products of bounded numbers.
use mathlib.Core.List.{List}
use mathlib.Core.Path.{◌≡◌}
use Prim.Native.Nat.{ℕ, ◌+◌, ◌*◌, ◌-◌, ◌<◌, ◌≤◌}
use lib.ListN.{length, length-take, length-drop, get_or-eq_default}
use lib.Seq.{get_or-take, get_or-drop}
use native.Mathlib.Nat.{mul-le-mul}
use native.Mathlib.Omega.{arith}
use Rattle.ground.specs.Bytes.{at, be16, part}

pub at-past : (s : List ℕ) (i : ℕ) → length s ≤ i → at s i ≡ 0
at-past s i l = get_or-eq_default s 0 l

pub be16-past : (s : List ℕ) (i : ℕ) → length s ≤ i → be16 s i ≡ 0
be16-past s i l = rw (at-past s i l, at-past s (i + 1) (omega arith))

pub part_length : (s : List ℕ) (a e : ℕ) → a ≤ e → e ≤ length s → length (part s a e) ≡ e - a
part_length s a e l k = simp (length-take, length-drop) (omega arith)

pub part_at : (s : List ℕ) (a e i : ℕ) → i < e - a → at (part s a e) i ≡ at s (a + i)
part_at s a e i l = rw (get_or-take, get_or-drop)

pub mul-under : (a b m n : ℕ) → a ≤ m → b ≤ n → a * b ≤ m * n
mul-under a b m n p q = mul-le-mul p q
