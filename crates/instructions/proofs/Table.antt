-- The table by its opcodes, and what an instruction that it admits keeps to.
use mathlib.Core.Path.{◌≡◌, refl, ap}
use mathlib.Core.Bool.{Bool, true, false, cond, ◌||◌, not}
use mathlib.Core.List.{List, [], ◌∷◌}
use Prim.Native.Nat.{ℕ, ◌≤◌, ◌<◌, ◌/◌, ◌%◌}
use native.Mathlib.Omega.{arith}
use lib.Dec.{eqb}
use borrow.Author.Tests.{ltb-true, leb-true, eqb-true, eqb-false, ne_eqb}
use Rattle.ground.proofs.Bools.{and-fst, and-snd, never}
use Rattle.instructions.specs.declared.Code.{Code}
use Rattle.instructions.specs.declared.Instruction.{Instruction}
use Rattle.instructions.specs.declared.Instruction.TheVariants.{Inc, Pop, Push0, Load, Store, If, Enter, Exit, New, Start, Throw, Return, Get, Put, Nothing}
use Rattle.instructions.specs.Table.{Content, none, variable, class, field, target, handler, unlisted, Line, table, no_line, find, line_of, decoded, content_ok, table_ok, last_ok, instruction_ok}

-- an opcode is none of a list's, as the last arm of a match on all of them has it
unfoldable pub NoneOf : Type 0 → List Line → ℕ → Type 0
NoneOf A [] n = A
NoneOf A (x ∷ xs) n = NoneOf (A × (n ≡ x.opcode → ⊥)) xs n

none_found : (A : Type 0) (xs : List Line) (n : ℕ) → NoneOf A xs n → A × (find xs n ≡ no_line)
unfolding NoneOf find
none_found A [] n h = (h, refl)
none_found A (x ∷ xs) n h =
    let g = none_found (A × (n ≡ x.opcode → ⊥)) xs n h in
    (g.0.0, rw (ne_eqb n x.opcode g.0.1) g.1)

pub no_line_lem : (n : ℕ) → NoneOf (Unit {0}) table n → line_of n ≡ no_line
unfolding line_of
no_line_lem n h = (none_found (Unit {0}) table n h).1

pub no-instruction : (x : Code) → NoneOf (Unit {0}) table x.opcode → decoded x ≡ Nothing
no-instruction x h = ap (λ (y : Line). y.instruction x.operand x.address) (no_line_lem x.opcode h)

-- ---- the lines of which address k may hold the instruction
unfoldable pub ending : List Line → List Line
ending [] = []
ending (x ∷ xs) = cond x.ends (x ∷ ending xs) (ending xs)

none-ends : (A : Type 0) (xs : List Line) (n : ℕ) → NoneOf A (ending xs) n → A × ((find xs n).ends ≡ false)
unfolding NoneOf ending find
none-ends A [] n h = (h, refl)
none-ends A (x ∷ xs) n h = go x.ends refl h (none-ends (A × (n ≡ x.opcode → ⊥)) xs n) (none-ends A xs n)
  where
    other : (t : Bool) → x.ends ≡ false → (find xs n).ends ≡ false → (cond t x (find xs n)).ends ≡ false
    other true e f = e
    other false e f = f

    go : (t : Bool) → x.ends ≡ t → NoneOf A (cond t (x ∷ ending xs) (ending xs)) n
        → (NoneOf (A × (n ≡ x.opcode → ⊥)) (ending xs) n → (A × (n ≡ x.opcode → ⊥)) × ((find xs n).ends ≡ false))
        → (NoneOf A (ending xs) n → A × ((find xs n).ends ≡ false)) → A × ((cond (eqb n x.opcode) x (find xs n)).ends ≡ false)
    go true e k f g = ((f k).0.0, rw (ne_eqb n x.opcode (f k).0.1) (f k).1)
    go false e k f g = ((g k).0, other (eqb n x.opcode) e (g k).1)

pub not-ending : (n : ℕ) → NoneOf (Unit {0}) (ending table) n → (line_of n).ends ≡ false
unfolding line_of
not-ending n h = (none-ends (Unit {0}) table n h).1

-- ---- what is so of each line of a list, and of `no_line`, is so of the line that is found
data Each (P : Line → Type 0) : List Line → Type 0 where
  end : Each P []
  more : {x : Line} {xs : List Line} → P x → Each P xs → Each P (x ∷ xs)

infixr 5 ◌⨾◌
◌⨾◌ : {P : Line → Type 0} {x : Line} {xs : List Line} → P x → Each P xs → Each P (x ∷ xs)
p ⨾ ps = more p ps

found : (P : Line → Type 0) → P no_line → {xs : List Line} → Each P xs → (n : ℕ) → P (find xs n)
unfolding find
found P u end n = u
found P u (more {x} {xs} p ps) n = go (eqb n x.opcode) (found P u ps n)
  where
    go : (t : Bool) → P (find xs n) → P (cond t x (find xs n))
    go true q = p
    go false q = q

-- ---- in a bundle of so many classes, a method of so many variables and addresses
module _ (classes : ℕ) (fields : ℕ → ℕ) (vars code : ℕ) where
  ContentFits : Content → ℕ → Type 0
  ContentFits none x = x ≡ 0
  ContentFits variable x = x < vars
  ContentFits class x = x < classes
  ContentFits field x = (x / 4 < classes) × (x % 4 < fields (x / 4))
  ContentFits target x = (1 ≤ x) × (x ≤ code)
  ContentFits handler x = x ≤ code
  ContentFits unlisted x = ⊥

  content-fits : (y : Content) (x : ℕ) → content_ok classes fields vars code y x ≡ true → ContentFits y x
  unfolding ContentFits
  content-fits none x e = eqb-true x 0 e
  content-fits variable x e = ltb-true x vars e
  content-fits class x e = ltb-true x classes e
  content-fits field x e = (ltb-true (x / 4) classes (search and-fst), ltb-true (x % 4) (fields (x / 4)) (search and-snd))
  content-fits target x e = (leb-true 1 x (search and-fst), leb-true x code (search and-snd))
  content-fits handler x e = leb-true x code e
  content-fits unlisted x e = never e refl

  -- what an instruction that the table admits at address l keeps to; one that is no athrow and no return has a next address
  abbrev pub InstructionFits : ℕ → Instruction → Type 0
  InstructionFits l Inc = l < code
  InstructionFits l Pop = l < code
  InstructionFits l Push0 = l < code
  InstructionFits l (Load v) = (v.0 < vars) × (l < code)
  InstructionFits l (Store v) = (v.0 < vars) × (l < code)
  InstructionFits l (If a) = ((1 ≤ a.0) × (a.0 ≤ code)) × (l < code)
  InstructionFits l (Enter v h) = (v.0 < vars) × (h.0 ≤ code) × (l < code)
  InstructionFits l (Exit v) = (v.0 < vars) × (l < code)
  InstructionFits l (New c h) = (c < classes) × (h.0 ≤ code) × (l < code)
  InstructionFits l (Start c) = (c < classes) × (l < code)
  InstructionFits l (Throw h) = h.0 ≤ code
  InstructionFits l Return = Unit {0}
  InstructionFits l (Get c f h) = (c < classes) × (f < fields c) × (h.0 ≤ code) × (l < code)
  InstructionFits l (Put c f h) = (c < classes) × (f < fields c) × (h.0 ≤ code) × (l < code)
  InstructionFits l Nothing = ⊥

  -- whatever a line admits keeps to that
  Admits : ℕ → Line → Type 0
  Admits l y = (x a : ℕ) → ContentFits y.operand x → ContentFits y.address a → (y.ends ≡ false → l < code)
      → InstructionFits l (y.instruction x a)

  -- line by line
  table-admits : (l : ℕ) → Each (Admits l) table
  unfolding table ContentFits Admits
  table-admits l =
      (λ x a p q n. n refl)
      ⨾ (λ x a p q n. n refl)
      ⨾ (λ x a p q n. n refl)
      ⨾ (λ x a p q n. (p, n refl))
      ⨾ (λ x a p q n. (p, n refl))
      ⨾ (λ x a p q n. (q, n refl))
      ⨾ (λ x a p q n. (p, q, n refl))
      ⨾ (λ x a p q n. (p, n refl))
      ⨾ (λ x a p q n. (p, q, n refl))
      ⨾ (λ x a p q n. (p, n refl))
      ⨾ (λ x a p q n. q)
      ⨾ (λ x a p q n. tt)
      ⨾ (λ x a p q n. (p.0, p.1, q, n refl))
      ⨾ (λ x a p q n. (p.0, p.1, q, n refl))
      ⨾ end

  goes_on : (l : ℕ) (x : Code) → l ≤ code → last_ok code l x ≡ true → (line_of x.opcode).ends ≡ false → l < code
  unfolding last_ok
  goes_on l x k f e = omega (arith, eqb-false l code (not_last (eqb l code) (rw e at f)))
    where
      not_last : (t : Bool) → (not t || false) ≡ true → t ≡ false
      not_last true h = never h refl
      not_last false h = refl

  pub admitted : (l : ℕ) (x : Code) → l ≤ code → instruction_ok classes fields vars code l x ≡ true → InstructionFits l (decoded x)
  unfolding instruction_ok table_ok line_of ContentFits Admits
  admitted l x k e =
      let y = line_of x.opcode in
      found (Admits l) (λ o a p q n. p) (table-admits l) x.opcode x.operand x.address
      (content-fits y.operand x.operand (search (and-fst, and-snd)))
      (content-fits y.address x.address (search (and-fst, and-snd)))
      (goes_on l x k (search and-snd))
