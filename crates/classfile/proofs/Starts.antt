-- The rows' offsets, and an address found among them.
use mathlib.Core.Path.{◌≡◌, sym, ◌∙◌, ap, subst}
use mathlib.Core.Bool.{true, false}
use mathlib.Core.List.{List}
use Prim.Native.Nat.{ℕ, ◌+◌, ◌-◌, ◌≤◌, ◌<◌}
use native.Mathlib.Omega.{arith}
use native.Mathlib.Decide.{dec_lt}
use lib.ListN.{length}
use lib.Dec.{leb}
use borrow.Author.Tests.{le-leb, lt-leb}
use Rattle.ground.specs.Bytes.{at}
use Rattle.ground.specs.Bounded.{first_below, fill_from}
use Rattle.ground.proofs.Bounded.{first-at, first-none}
use Rattle.ground.proofs.Writes.{fill-in, fill-out}
use Rattle.std.specs.Prelude.{Some}
use Rattle.java.specs.declared.steps.Placed.{Placed}
use Rattle.java.specs.declared.steps.Steps.{Steps}
use Rattle.java.specs.Walks.{Goes, WalksOn}
use Rattle.java.specs.Instructions.{java_at, size_at, gives_of}
use Rattle.java.proofs.Sizes.{size-pos}
use Rattle.java.proofs.Walks.{walk-some}
use Rattle.offsets.specs.Offsets.{count_to, total, address_of}
use Rattle.offsets.specs.Handlers.{handler_of, covered_by}
use Rattle.offsets.proofs.Offsets.{count_next, count-grows, count_under}
use Rattle.offsets.proofs.Turns.{Counted}
use Rattle.classfile.specs.Written.{row, handler_by, handler_for}
use Rattle.classfile.specs.Starts.{Starts, address_by}

module _ (code : List ℕ) where
  pub starts_none : (starts : List ℕ) → Starts code starts 0
  starts_none starts = record { each = λ k l. absurd (omega arith) }

  -- the rows of the next instruction
  pub starts-turn : {starts next : List ℕ} {s t : Steps} {x : Placed} {k n : ℕ} → Counted code s k → Starts code starts k → WalksOn s (Some x) t → n ≡ gives_of x.java
      → k + n ≤ length starts → next ≡ fill_from k n x.at starts → Starts code next (k + n)
  starts-turn {starts} {next} {s} {t} {x} {k} {n} q h w f l d = record { each = λ i m. go i m (dec_lt i k) }
    where
      v : (t.code.now ≡ code) × Goes code s.at x t.at
      v = walk-some q.code_is w

      c : count_to code (s.at + 1) ≡ count_to code s.at + gives_of (java_at code s.at)
      c = count_next code s.at (s.at + 1) q.stands.here (omega arith) (omega (arith, size-pos code s.at))

      g : n ≡ gives_of (java_at code s.at)
      g = f ∙ ap gives_of v.1.2

      here : (i : ℕ) → k ≤ i → i < k + n → (count_to code s.at ≤ i) × (i < count_to code (s.at + 1))
      here i a b = (omega (arith, q.stands.count), omega (arith, q.stands.count, c, g))

      go : (i : ℕ) → i < k + n → Dec (i < k) → (count_to code (at next i) ≤ i) × (i < count_to code (at next i + 1))
      go i m (yes a) = rw (d, fill-out k x.at starts n i 0 (λ b. absurd (omega arith))) (h.each i a)
      go i m (no a) = rw (d, fill-in k x.at starts n i 0 (omega arith) m l, v.1.1) (here i (omega arith) m)

  -- there is room for them
  pub turn-under : {s t : Steps} {x : Placed} {k n : ℕ} → Counted code s k → WalksOn s (Some x) t → n ≡ gives_of x.java → k + n ≤ total code
  turn-under {s} q w f =
      let v = walk-some q.code_is w in
      let c = count_next code s.at (s.at + 1) q.stands.here (omega arith) (omega (arith, size-pos code s.at)) in
      let g = f ∙ ap gives_of v.1.2 in
      omega (arith, q.stands.count, count_under code (s.at + 1))

  -- THEOREM: the address found among them is the offset's
  module _ (starts : List ℕ) (h : Starts code starts (total code)) (t : ℕ) where
    below : (k : ℕ) → k < count_to code t → leb t (at starts k) ≡ false
    below k l = lt-leb t (at starts k) (go (dec_lt (at starts k) t))
      where
        go : Dec (at starts k < t) → at starts k < t
        go (yes a) = a
        go (no a) = absurd (omega (arith, (h.each k (omega (arith, count_under code t))).0, count-grows code t (at starts k) (omega arith)))

    reached : count_to code t < total code → leb t (at starts (count_to code t)) ≡ true
    reached l = le-leb t (at starts (count_to code t)) (go (dec_lt (at starts (count_to code t)) t))
      where
        go : Dec (at starts (count_to code t) < t) → t ≤ at starts (count_to code t)
        go (yes a) = absurd (omega (arith, (h.each (count_to code t) l).1, count-grows code (at starts (count_to code t) + 1) t (omega arith)))
        go (no a) = omega arith

    pub address_is : address_by starts (total code) t ≡ address_of code t
    unfolding address_by
    address_is = ap (λ (n : ℕ). n + 1) (go (dec_lt (count_to code t) (total code)))
      where
        go : Dec (count_to code t < total code) → first_below (total code) (λ k. leb t (at starts k)) ≡ count_to code t
        go (yes l) = first-at (total code) (λ k. leb t (at starts k)) (count_to code t) l below (reached l)
        go (no l) =
            let e : count_to code t ≡ total code = omega (arith, count_under code t) in
            first-none (total code) (λ k. leb t (at starts k)) (λ k m. below k (omega arith)) ∙ sym e

  pub handler-is : (starts : List ℕ) → Starts code starts (total code) → (table : List ℕ) (offset : ℕ)
      → handler_by (address_by starts (total code)) table offset ≡ handler_for code table offset
  unfolding handler_by
  handler-is starts h table offset = rw (address_is starts h (handler_of table (covered_by table offset)))

  -- as the code has them: `all` is the number of rows
  module _ {starts : List ℕ} {all : ℕ} (h : Starts code starts all) (a : all ≡ total code) where
    counted-all : Starts code starts (total code)
    counted-all = subst (Starts code starts) a h

    pub address-of : {r t u : ℕ} → r ≡ address_by starts all t → t ≡ u → r ≡ address_of code u
    address-of {r} {t} {u} e f = e ∙ rw (a, f) (address_is starts counted-all u)

    pub handler-of : (table : List ℕ) (offset : ℕ) {r : ℕ} → r ≡ handler_by (address_by starts all) table offset → r ≡ handler_for code table offset
    handler-of table offset e = e ∙ rw a (handler-is starts counted-all table offset)

  -- a pair's last byte
  pub last_byte : (p : ℕ) {size : ℕ} → size ≡ size_at code p → p + size - 1 ≡ p + size_at code p - 1
  last_byte p e = rw e

pub same_row : (opcode : ℕ) {x y a b : ℕ} → x ≡ y → a ≡ b → row opcode x a ≡ row opcode y b
same_row opcode e f = rw (e, f)
