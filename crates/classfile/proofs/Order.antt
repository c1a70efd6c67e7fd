-- The refusals in their order, one law for each place at which the code returns; and the parts of the attribute.
use mathlib.Core.Path.{◌≡◌, refl, ◌∙◌}
use mathlib.Core.Bool.{Bool, true, false, cond}
use mathlib.Core.List.{List}
use Prim.Native.Nat.{ℕ, zero, suc, ◌+◌, ◌*◌, ◌/◌, ◌≤◌, ◌<◌}
use native.Mathlib.Omega.{arith}
use native.Mathlib.Decide.{dec_lt}
use lib.ListN.{length}
use lib.Dec.{leb}
use borrow.Author.Tests.{le-leb, lt-leb, leb-true, ne_eqb}
use Rattle.ground.specs.Chain.{refuse}
use Rattle.ground.specs.Bytes.{be16, quad, part}
use Rattle.ground.proofs.Bytes.{part_length}
use Rattle.ground.proofs.Bools.{and-snd}
use Rattle.offsets.specs.Offsets.{total}
use Rattle.offsets.specs.Handlers.{entries, handler_of}
use Rattle.offsets.specs.Targets.{first_stray, first_stray_entry}
use Rattle.ground.specs.Bounded.{first_below}
use Rattle.offsets.specs.Offenders.{first_unknown, past_at, first_past}
use Rattle.classfile.specs.Attribute.{code_length, table_at, table_end, whole, code_of, table_of}
use Rattle.classfile.specs.Written.{laid_over}
use Rattle.std.specs.Prelude.{Err}
use Rattle.offsets.proofs.Turns.{past_some, past_none}
use Rattle.classfile.specs.declared.Untaken.{Untaken}
use Rattle.classfile.specs.declared.Untaken.TheVariants.{Cut, Unknown, Stray, Long, Room}
use Rattle.classfile.specs.Taking.{Taken, taken, taken_in, judged, left, bytes_taken, taken_of, out_of}

module _ (classes code table : List ℕ) (room : ℕ) where
  -- what is known once a refusal was passed
  pub record Passed32 : Type 0 where
    pub known : length code ≡ first_unknown classes code
    pub stray : length code ≡ first_stray code
    pub entry : entries table ≡ first_stray_entry code table

  pub refused-31 : {u : ℕ} → u ≡ first_unknown classes code → u < length code → taken 31 u ≡ judged classes code table room
  unfolding judged refuse
  refused-31 {u} e l = rw (← e, lt-leb (length code) u l)

  pub refused-32 : {s : ℕ} → length code ≡ first_unknown classes code → s ≡ first_stray code → s < length code → taken 32 s ≡ judged classes code table room
  unfolding judged refuse
  refused-32 {s} k e l = rw (← k, le-leb (length code) (length code) (omega arith), ← e, lt-leb (length code) s l)

  pub refused-entry : {e h : ℕ} → length code ≡ first_unknown classes code → length code ≡ first_stray code → e ≡ first_stray_entry code table → e < entries table
      → h ≡ handler_of table e → taken 32 h ≡ judged classes code table room
  unfolding judged refuse
  refused-entry {e} {h} k f g l i =
      rw (← k, ← f, le-leb (length code) (length code) (omega arith), ← g, lt-leb (entries table) e l, i)

  -- no refusal up to the second of 32
  past-32 : Passed32 → {t : Taken} → t ≡ refuse (leb (total code) 256) (taken 33 (first_past code 256)) (refuse (leb (total code) (room / 4)) (taken 34 (first_past code (room / 4))) (taken 0 (total code)))
      → t ≡ judged classes code table room
  unfolding judged refuse
  past-32 k q = rw (← k.known, ← k.stray, ← k.entry, le-leb (length code) (length code) (omega arith), le-leb (entries table) (entries table) (omega arith)) q

  pub refused-33 : {f : ℕ} → Passed32 → f < length code → f ≡ first_past code 256 → taken 33 f ≡ judged classes code table room
  unfolding refuse
  refused-33 {f} k l i = past-32 k (rw (lt-leb (total code) 256 (past_some code 256 l i), i))

  pub refused-34 : {f : ℕ} → Passed32 → length code ≡ first_past code 256 → f < length code → f ≡ first_past code (room / 4) → taken 34 f ≡ judged classes code table room
  unfolding refuse
  refused-34 {f} k m l i = past-32 k (rw (le-leb (total code) 256 (past_none code 256 m), lt-leb (total code) (room / 4) (past_some code (room / 4) l i), i))

  pub took : Passed32 → length code ≡ first_past code 256 → length code ≡ first_past code (room / 4) → {all : ℕ} → all ≡ total code → taken 0 all ≡ judged classes code table room
  unfolding refuse
  took k m n a = past-32 k (rw (le-leb (total code) 256 (past_none code 256 m), le-leb (total code) (room / 4) (past_none code (room / 4) n), a))

-- a chain whose answer is 0 passed each test
pub passes : (ok : Bool) (n m : ℕ) (rest : Taken) → (refuse ok (taken (suc n) m) rest).number ≡ 0 → (ok ≡ true) × (rest.number ≡ 0)
unfolding refuse
passes true n m rest e = (refl, e)
passes false n m rest e = absurd (omega arith)

pub roomy : (classes code table : List ℕ) (room : ℕ) → (judged classes code table room).number ≡ 0 → (total code ≤ 256) × (4 * total code ≤ room)
unfolding judged
roomy classes code table room e =
    let h₁ = passes _ 30 _ _ e in
    let h₂ = passes _ 31 _ _ h₁.1 in
    let h₃ = passes _ 31 _ _ h₂.1 in
    let h₄ = passes _ 32 _ _ h₃.1 in
    let h₅ = passes _ 33 _ _ h₄.1 in
    let l : total code ≤ room / 4 = leb-true (total code) (room / 4) h₅.0 in
    (leb-true (total code) 256 h₄.0, omega arith)

-- the offset of a search stays within the code
first_under : (n : ℕ) (p : ℕ → Bool) → first_below n p ≤ n
unfolding first_below
first_under zero p = omega arith
first_under (suc n) p = go (p 0) (first_under n (λ i. p (suc i)))
  where
    go : (t : Bool) → first_below n (λ i. p (suc i)) ≤ n → cond t 0 (suc (first_below n (λ i. p (suc i)))) ≤ suc n
    go true h = omega arith
    go false h = omega arith

pub past-under : (code : List ℕ) (limit : ℕ) {f : ℕ} → f ≡ first_past code limit → f ≤ length code
unfolding first_past
past-under code limit e = rw e (first_under (length code) (past_at code limit))

-- none is past the limit where all that is written stays within it
pub none-past : (code : List ℕ) (limit : ℕ) → total code ≤ limit → length code ≡ first_past code limit
none-past code limit l = go (dec_lt (first_past code limit) (length code))
  where
    go : Dec (first_past code limit < length code) → length code ≡ first_past code limit
    go (yes p) = absurd (omega (arith, past_some code limit p refl))
    go (no p) = omega (arith, past-under code limit refl)

-- ---- the parts of the attribute
pub whole-end : (a : List ℕ) → whole a ≡ true → (table_end a ≤ length a) × (table_at a + 2 ≤ table_end a)
unfolding whole table_end
whole-end a e = (leb-true (table_end a) (length a) (and-snd (leb 1 (code_length a)) (leb (table_end a) (length a)) e), omega arith)

pub table-ends : (a : List ℕ) {n e : ℕ} → n ≡ quad a 10 → e ≡ be16 a (14 + n) → 14 + n + 2 + 8 * e ≡ table_end a
unfolding table_end
table-ends a p q = rw (q, p)

pub part-under : (a : List ℕ) (n : ℕ) → 14 + n ≤ length a → n < 4294967296 → length (part a 14 (14 + n)) < 4294967296
part-under a n l h = omega (arith, part_length a 14 (14 + n) (omega arith) l)

-- ---- all of it
-- what is not taken has a number
pub has-number : (u : Untaken) → (taken_in (Err u)).number ≡ 0 → ⊥
has-number Cut e = absurd (omega arith)
has-number (Unknown p) e = absurd (omega arith)
has-number (Stray p) e = absurd (omega arith)
has-number (Long p) e = absurd (omega arith)
has-number (Room p) e = absurd (omega arith)

pub refused-30 : (a classes out : List ℕ) {r : Taken} → r ≡ taken 30 0 → whole a ≡ false → (r ≡ taken_of a classes (length out)) × (out ≡ out_of a classes out)
unfolding taken_of out_of refuse left
refused-30 a classes out f e = (f ∙ rw e, rw e)

module _ (a classes out : List ℕ) {code table : List ℕ} {r : Taken} (w : whole a ≡ true) (p : code ≡ code_of a) (q : table ≡ table_of a) (e : r ≡ judged classes code table (length out)) where
  judged-is : r ≡ taken_of a classes (length out)
  unfolding taken_of refuse
  judged-is = rw (w, ← p, ← q) e

  pub took_it : {next : List ℕ} → r.number ≡ 0 → next ≡ laid_over (bytes_taken classes code table) out → (r ≡ taken_of a classes (length out)) × (next ≡ out_of a classes out)
  unfolding out_of left
  took_it n f = (judged-is, rw (← judged-is, n, ← p, ← q) f)

  pub refused-it : (r.number ≡ 0 → ⊥) → (r ≡ taken_of a classes (length out)) × (out ≡ out_of a classes out)
  unfolding out_of left
  refused-it n = (judged-is, rw (← judged-is, ne_eqb r.number 0 n))
