-- Parts of a text, as the code takes them.
use mathlib.Core.Path.{◌≡◌, refl, sym, ◌∙◌}
use mathlib.Core.List.{List, [], ◌∷◌, ◌++◌}
use Prim.Native.Nat.{ℕ, zero, suc, ◌-◌, ◌≤◌, ◌<◌}
use native.Mathlib.Nat.{not-suc-le-zero, le_of_suc-le-suc}
use native.Mathlib.Omega.{arith}
use lib.ListN.{length, take, drop, length-drop, length-append}
use lib.Seq.{take_all, drop_at}
use Rattle.usage_text.specs.Weights.{rest_of}

pub whole-tail : (s : List ℕ) (n : ℕ) → take (length s - n) (drop n s) ≡ drop n s
whole-tail s n = take_all (length s - n) (drop n s) (omega (arith, length-drop n s))

drop_past : (s : List ℕ) (n : ℕ) → length s ≤ n → drop n s ≡ []
drop_past [] zero l = refl
drop_past [] (suc n) l = refl
drop_past (b ∷ s) zero l = absurd (not-suc-le-zero l)
drop_past (b ∷ s) (suc n) l = drop_past s n (le_of_suc-le-suc l)

pub no-tail : (s : List ℕ) (n : ℕ) → length s < n → take (length s - length s) (drop (length s) s) ≡ drop n s
no-tail s n l = whole-tail s (length s) ∙ drop_past s (length s) (omega arith) ∙ sym (drop_past s n (omega arith))

-- a text of two parts: the second, by its length
pub rest-is : (s t r : List ℕ) → s ≡ t ++ r → rest_of s (length r) ≡ r
rest-is s t r e = rw e (drop_at t r (length (t ++ r) - length r) (omega (arith, length-append t r)))
