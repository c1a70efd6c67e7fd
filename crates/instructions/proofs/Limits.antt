-- The limits that the code reads are the table's.
use mathlib.Core.Path.{◌≡◌, refl, sym, ◌∙◌}
use mathlib.Core.Bool.{Bool, true, false, cond, ◌&&◌, ◌||◌, not}
use Prim.Native.Nat.{ℕ, zero, suc, ◌<◌, ◌≤◌, ◌/◌, ◌%◌}
use native.Mathlib.Omega.{arith}
use native.Mathlib.Decide.{ℕ_discrete}
use lib.Dec.{ltb, leb, eqb}
use borrow.Author.Tests.{le-ltb, lt-leb, le-leb, ne_eqb}
use Rattle.ground.proofs.Bools.{and-true}
use Rattle.instructions.specs.Table.{content_ok, table, find, line_of}
use Rattle.instructions.specs.Limits.{operand_limit, address_reach}
use Rattle.instructions.proofs.Table.{NoneOf, no_line_lem}

none_below : (x : ℕ) → ltb x 0 ≡ false
none_below x = le-ltb x 0 (omega arith)

zero-lt : (x : ℕ) → ltb x 1 ≡ eqb x 0
zero-lt zero = refl
zero-lt (suc x) = le-ltb (suc x) 1 (omega arith) ∙ sym (ne_eqb (suc x) 0 (λ e. omega (arith, e)))

zero-le : (a : ℕ) → leb a 0 ≡ eqb a 0
zero-le zero = refl
zero-le (suc a) = lt-leb (suc a) 0 (omega arith) ∙ sym (ne_eqb (suc a) 0 (λ e. omega (arith, e)))

one-le : (a : ℕ) → leb 1 a ≡ not (eqb a 0)
one-le zero = refl
one-le (suc a) = rw (ne_eqb (suc a) 0 (λ e. omega (arith, e))) (le-leb 1 (suc a) (omega arith))

turned : (a b c : Bool) → ((a && b) && c) ≡ (a && (c && b))
turned false b c = refl
turned true true true = refl
turned true true false = refl
turned true false true = refl
turned true false false = refl

other : (o n : ℕ) → 14 < o → n < 15 → o ≡ n → ⊥
other o n l p e = omega (arith, l, p, e)

-- what is reached is 0 but at the lines of a target and a handler
pub reach-told : (code opcode m : ℕ) → m < 16 → opcode % 16 ≡ m → cond (((eqb (opcode % 16) 6 || eqb (opcode % 16) 7) || eqb (opcode % 16) 9) || eqb (opcode % 16) 11) code 0 ≡ address_reach code opcode
unfolding address_reach
reach-told code opcode zero l e = rw e
reach-told code opcode (suc zero) l e = rw e
reach-told code opcode (suc (suc zero)) l e = rw e
reach-told code opcode (suc (suc (suc zero))) l e = rw e
reach-told code opcode (suc (suc (suc (suc zero)))) l e = rw e
reach-told code opcode (suc (suc (suc (suc (suc zero))))) l e = rw e
reach-told code opcode (suc (suc (suc (suc (suc (suc zero)))))) l e = rw e
reach-told code opcode (suc (suc (suc (suc (suc (suc (suc zero))))))) l e = rw e
reach-told code opcode (suc (suc (suc (suc (suc (suc (suc (suc zero)))))))) l e = rw e
reach-told code opcode (suc (suc (suc (suc (suc (suc (suc (suc (suc zero))))))))) l e = rw e
reach-told code opcode (suc (suc (suc (suc (suc (suc (suc (suc (suc (suc zero)))))))))) l e = rw e
reach-told code opcode (suc (suc (suc (suc (suc (suc (suc (suc (suc (suc (suc zero))))))))))) l e = rw e
reach-told code opcode (suc (suc (suc (suc (suc (suc (suc (suc (suc (suc (suc (suc zero)))))))))))) l e = rw e
reach-told code opcode (suc (suc (suc (suc (suc (suc (suc (suc (suc (suc (suc (suc (suc zero))))))))))))) l e = rw e
reach-told code opcode (suc (suc (suc (suc (suc (suc (suc (suc (suc (suc (suc (suc (suc (suc zero)))))))))))))) l e = rw e
reach-told code opcode (suc (suc (suc (suc (suc (suc (suc (suc (suc (suc (suc (suc (suc (suc (suc zero))))))))))))))) l e = rw e
reach-told code opcode (suc (suc (suc (suc (suc (suc (suc (suc (suc (suc (suc (suc (suc (suc (suc (suc m)))))))))))))))) l e = absurd (omega (arith, l))

module _ (classes : ℕ) (fields : ℕ → ℕ) (vars code : ℕ) where
  -- opcodes up to 12, one by one
  pub plain-told : (o x a : ℕ) → o < 13
      → ((ltb x (operand_limit classes vars o) && leb a (address_reach code o)) && (not (eqb o 6) || not (eqb a 0)))
      ≡ (content_ok classes fields vars code (line_of o).operand x && content_ok classes fields vars code (line_of o).address a)
  unfolding operand_limit address_reach line_of find table
  plain-told zero x a l = rw (none_below x)
  plain-told (suc zero) x a l = rw (zero-lt x, zero-le a, and-true (eqb x 0 && eqb a 0))
  plain-told (suc (suc zero)) x a l = rw (zero-lt x, zero-le a, and-true (eqb x 0 && eqb a 0))
  plain-told (suc (suc (suc zero))) x a l = rw (zero-lt x, zero-le a, and-true (eqb x 0 && eqb a 0))
  plain-told (suc (suc (suc (suc zero)))) x a l = rw (zero-le a, and-true (ltb x vars && eqb a 0))
  plain-told (suc (suc (suc (suc (suc zero))))) x a l = rw (zero-le a, and-true (ltb x vars && eqb a 0))
  plain-told (suc (suc (suc (suc (suc (suc zero)))))) x a l = rw (zero-lt x, one-le a) (turned (eqb x 0) (leb a code) (not (eqb a 0)))
  plain-told (suc (suc (suc (suc (suc (suc (suc zero))))))) x a l = and-true (ltb x vars && leb a code)
  plain-told (suc (suc (suc (suc (suc (suc (suc (suc zero)))))))) x a l = rw (zero-le a, and-true (ltb x vars && eqb a 0))
  plain-told (suc (suc (suc (suc (suc (suc (suc (suc (suc zero))))))))) x a l = and-true (ltb x classes && leb a code)
  plain-told (suc (suc (suc (suc (suc (suc (suc (suc (suc (suc zero)))))))))) x a l = rw (zero-le a, and-true (ltb x classes && eqb a 0))
  plain-told (suc (suc (suc (suc (suc (suc (suc (suc (suc (suc (suc zero))))))))))) x a l = rw (zero-lt x, and-true (eqb x 0 && leb a code))
  plain-told (suc (suc (suc (suc (suc (suc (suc (suc (suc (suc (suc (suc zero)))))))))))) x a l = rw (zero-lt x, zero-le a, and-true (eqb x 0 && eqb a 0))
  plain-told (suc (suc (suc (suc (suc (suc (suc (suc (suc (suc (suc (suc (suc o))))))))))))) x a l = absurd (omega (arith, l))

  -- 13, 14, and what is no line
  abbrev FieldTold : ℕ → ℕ → ℕ → ℕ → Type 0
  FieldTold named o x a =
      ((leb o 14 && (ltb (x / 4) classes && ltb (x % 4) named)) && leb a code)
      ≡ (content_ok classes fields vars code (line_of o).operand x && content_ok classes fields vars code (line_of o).address a)

  get-told : (named o x a : ℕ) → o ≡ 13 → named ≡ fields (x / 4) → FieldTold named o x a
  unfolding line_of find table
  get-told named o x a e h = rw (e, h)

  put-told : (named o x a : ℕ) → o ≡ 14 → named ≡ fields (x / 4) → FieldTold named o x a
  unfolding line_of find table
  put-told named o x a e h = rw (e, h)

  unlisted-told : (named o x a : ℕ) → 14 < o → FieldTold named o x a
  unfolding NoneOf table
  unlisted-told named o x a l = rw (lt-leb o 14 l, no_line_lem o ((((((((((((((tt, other o 1 l (omega arith)), other o 2 l (omega arith)), other o 3 l (omega arith)), other o 4 l (omega arith)), other o 5 l (omega arith)), other o 6 l (omega arith)), other o 7 l (omega arith)), other o 8 l (omega arith)), other o 9 l (omega arith)), other o 10 l (omega arith)), other o 11 l (omega arith)), other o 12 l (omega arith)), other o 13 l (omega arith)), other o 14 l (omega arith)))

  pub field_told : (named o x a : ℕ) → 13 ≤ o → named ≡ fields (x / 4) → FieldTold named o x a
  field_told named o x a l h = go (ℕ_discrete o 13) (ℕ_discrete o 14)
    where
      go : Dec (o ≡ 13) → Dec (o ≡ 14) → FieldTold named o x a
      go (yes e) d = get-told named o x a e h
      go (no p) (yes e) = put-told named o x a e h
      go (no p) (no q) = unlisted-told named o x a (omega (arith, l))
