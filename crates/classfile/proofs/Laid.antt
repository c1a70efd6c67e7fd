-- Rows laid into the buffer, one after another.
use mathlib.Core.Path.{◌≡◌, refl, sym, ◌∙◌, ap, subst}
use mathlib.Core.Bool.{Bool, true, false, cond}
use mathlib.Core.List.{List, [], ◌∷◌, ◌++◌, append_assoc, append-nil}
use Prim.Native.Nat.{ℕ, zero, suc, ◌+◌, ◌*◌, ◌-◌, ◌≤◌, ◌<◌}
use native.Mathlib.Omega.{arith}
use native.Mathlib.Nat.{add_assoc}
use lib.ListN.{length, set, take, drop, get_or, length-append, length-drop, take-append-drop}
use lib.Seq.{take-append_seam, drop-append-add, drop-drop, length-take-le, sets-eq}
use Rattle.ground.specs.Bounded.{sum_below}
use Rattle.ground.specs.Lists.{each}
use Rattle.instructions.specs.declared.Code.{Code}
use Rattle.std.specs.Prelude.{Some, None}
use Rattle.java.specs.declared.Java.{Java}
use Rattle.java.specs.declared.steps.Placed.{Placed}
use Rattle.java.specs.declared.steps.Steps.{Steps}
use Rattle.java.specs.Walks.{WalksOn}
use Rattle.java.proofs.Walks.{walk-some, walk-none}
use Rattle.java.specs.declared.Java.TheVariants.{Nop, Pop, Iconst0, Load, Store, Ifne, Enter, Exit, New, Athrow, Return, Iinc, Other}
use Rattle.java.specs.Instructions.{java_at, size_at, gives_of}
use Rattle.java.proofs.Sizes.{size-pos}
use Rattle.offsets.specs.Offsets.{begins, gives_at, count_to, total}
use Rattle.offsets.proofs.Offsets.{begins-inside, count_under}
use Rattle.offsets.proofs.Turns.{Counted, counted-first, counted-next}
use Rattle.classfile.proofs.Starts.{turn-under}
use Rattle.classfile.specs.Written.{row, rows_of, rows_at, rows_to, row_bytes, bytes_of, laid_over, laid_at}

-- ---- lists
pub laid_none : (i : ℕ) (l : List ℕ) → laid_at i [] l ≡ l
unfolding laid_at
laid_none i l = let e : i + 0 ≡ i = omega arith in rw (e, append-nil) (take-append-drop i l)

-- b right behind a prefix p of the list
laid-behind : (p b r : List ℕ) (i : ℕ) → length p ≡ i → laid_at i b (p ++ r) ≡ (p ++ b) ++ drop (length b) r
unfolding laid_at
laid-behind p b r i e = rw (← e, take-append_seam, drop-append-add)

pub laid_then : (i j : ℕ) (a b l : List ℕ) → i ≤ length l → j ≡ i + length a → laid_at j b (laid_at i a l) ≡ laid_at i (a ++ b) l
unfolding laid_at
laid_then i j a b l h e =
    laid-behind (take i l ++ a) b (drop (i + length a) l) j (rw (length-append, length-take-le i l h) (sym e))
    ∙ rw (drop-drop, length-append a b, append_assoc (take i l) a b, add_assoc i (length a) (length b))

pub laid_on : (j : ℕ) (a b l : List ℕ) → j ≡ length a → laid_at j b (laid_over a l) ≡ laid_over (a ++ b) l
unfolding laid_at laid_over
laid_on j a b l e = laid-behind a b (drop (length a) l) j (sym e) ∙ rw (drop-drop, length-append a b)

-- four stores
pub put_four : (l : List ℕ) (i a b c d : ℕ) → i + 4 ≤ length l → set (set (set (set l i a) (i + 1) b) (i + 2) c) (i + 3) d ≡ laid_at i (a ∷ b ∷ c ∷ d ∷ []) l
unfolding laid_at
put_four l i a b c d h =
    let e : i + 1 ≡ suc i = omega arith in
    let f : i + 2 ≡ suc (suc i) = omega arith in
    let g : i + 3 ≡ suc (suc (suc i)) = omega arith in
    rw (e, f, g) (sets-eq (a ∷ b ∷ c ∷ d ∷ []) l i h)

pub laid-length : (a l : List ℕ) → length a ≤ length l → length (laid_over a l) ≡ length l
unfolding laid_over
laid-length a l h = rw (length-append, length-drop) (omega arith)

-- ---- bytes of rows
pub bytes-append : (xs ys : List Code) → bytes_of (xs ++ ys) ≡ bytes_of xs ++ bytes_of ys
unfolding bytes_of
bytes-append [] ys = refl
bytes-append (x ∷ xs) ys = rw (bytes-append xs ys)

pub bytes-length : (xs : List Code) → length (bytes_of xs) ≡ 4 * length xs
unfolding bytes_of
bytes-length [] = refl
bytes-length (x ∷ xs) = let h = bytes-length xs in omega arith

module _ (classes code table : List ℕ) where
  pub rows-length : (p : ℕ) (j : Java) → length (rows_of classes code table p j) ≡ gives_of j
  unfolding rows_of
  rows-length p Nop = refl
  rows-length p Pop = refl
  rows-length p Iconst0 = refl
  rows-length p (Load v) = refl
  rows-length p (Store v) = refl
  rows-length p (Ifne d) = refl
  rows-length p (Enter v) = refl
  rows-length p (Exit v) = refl
  rows-length p (New i) = refl
  rows-length p Athrow = refl
  rows-length p Return = refl
  rows-length p (Iinc v) = refl
  rows-length p Other = refl

  at-begin : (p : ℕ) → begins code p ≡ true → rows_at classes code table p ≡ rows_of classes code table p (java_at code p)
  unfolding rows_at
  at-begin p b = rw b

  at-inside : (p : ℕ) → begins code p ≡ false → rows_at classes code table p ≡ []
  unfolding rows_at
  at-inside p b = rw b

  at_length : (p : ℕ) → length (rows_at classes code table p) ≡ gives_at code p
  unfolding rows_at gives_at
  at_length p = go (begins code p)
    where
      go : (t : Bool) → length (cond t (rows_of classes code table p (java_at code p)) []) ≡ cond t (gives_of (java_at code p)) 0
      go true = rows-length p (java_at code p)
      go false = refl

  rows-suc : (p : ℕ) → rows_to classes code table (suc p) ≡ rows_to classes code table p ++ rows_at classes code table p
  unfolding rows_to each
  rows-suc p = refl

  rows_in : (p : ℕ) → begins code p ≡ true → (j : ℕ) → j < size_at code p
      → rows_to classes code table (suc (p + j)) ≡ rows_to classes code table p ++ rows_of classes code table p (java_at code p)
  rows_in p b zero l = let e : p + 0 ≡ p = omega arith in rw (e, rows-suc, at-begin p b)
  rows_in p b (suc j) l =
      let e : p + suc j ≡ suc (p + j) = omega arith in
      let i : begins code (suc (p + j)) ≡ false = begins-inside code p (suc (p + j)) b (omega arith) (omega arith) in
      rw (e, rows-suc (suc (p + j)), at-inside (suc (p + j)) i, append-nil) (rows_in p b j (omega arith))

  -- the rows up to the next instruction
  pub rows_next : (p : ℕ) → begins code p ≡ true → rows_to classes code table (p + size_at code p) ≡ rows_to classes code table p ++ rows_of classes code table p (java_at code p)
  rows_next p b =
      let e : suc (p + (size_at code p - 1)) ≡ p + size_at code p = omega (arith, size-pos code p) in
      subst (λ (i : ℕ). rows_to classes code table i ≡ rows_to classes code table p ++ rows_of classes code table p (java_at code p)) e
      (rows_in p b (size_at code p - 1) (omega (arith, size-pos code p)))

  -- the rows of an instruction from its first, x, and how many there are
  pub rows_none : (p : ℕ) (j : Java) → gives_of j ≡ 0 → [] ≡ rows_of classes code table p j
  unfolding rows_of
  rows_none p Nop e = refl
  rows_none p Pop e = absurd (omega arith)
  rows_none p Iconst0 e = absurd (omega arith)
  rows_none p (Load v) e = absurd (omega arith)
  rows_none p (Store v) e = absurd (omega arith)
  rows_none p (Ifne d) e = absurd (omega arith)
  rows_none p (Enter v) e = absurd (omega arith)
  rows_none p (Exit v) e = absurd (omega arith)
  rows_none p (New i) e = absurd (omega arith)
  rows_none p Athrow e = absurd (omega arith)
  rows_none p Return e = absurd (omega arith)
  rows_none p (Iinc v) e = absurd (omega arith)
  rows_none p Other e = refl

  abbrev pub first_row : ℕ → Java → Code
  first_row p j = get_or (rows_of classes code table p j) 0 (row 0 0 0)

  pub rows-one : (p : ℕ) (j : Java) → gives_of j ≡ 1 → first_row p j ∷ [] ≡ rows_of classes code table p j
  unfolding rows_of
  rows-one p Nop e = absurd (omega arith)
  rows-one p Pop e = refl
  rows-one p Iconst0 e = refl
  rows-one p (Load v) e = refl
  rows-one p (Store v) e = refl
  rows-one p (Ifne d) e = refl
  rows-one p (Enter v) e = refl
  rows-one p (Exit v) e = refl
  rows-one p (New i) e = refl
  rows-one p Athrow e = refl
  rows-one p Return e = refl
  rows-one p (Iinc v) e = absurd (omega arith)
  rows-one p Other e = absurd (omega arith)

  -- an iinc
  pub rows-three : (p : ℕ) (j : Java) → (gives_of j ≡ 0 → ⊥) → (gives_of j ≡ 1 → ⊥)
      → (gives_of j ≡ 3) × (first_row p j ∷ row 1 0 0 ∷ row 5 (first_row p j).operand 0 ∷ [] ≡ rows_of classes code table p j)
  unfolding rows_of
  rows-three p Nop a b = absurd (a refl)
  rows-three p Pop a b = absurd (b refl)
  rows-three p Iconst0 a b = absurd (b refl)
  rows-three p (Load v) a b = absurd (b refl)
  rows-three p (Store v) a b = absurd (b refl)
  rows-three p (Ifne d) a b = absurd (b refl)
  rows-three p (Enter v) a b = absurd (b refl)
  rows-three p (Exit v) a b = absurd (b refl)
  rows-three p (New i) a b = absurd (b refl)
  rows-three p Athrow a b = absurd (b refl)
  rows-three p Return a b = absurd (b refl)
  rows-three p (Iinc v) a b = (refl, refl)
  rows-three p Other a b = absurd (a refl)

  -- what the code leaves after one, none or three rows
  pub laid-zero : (p i : ℕ) (j : Java) (l : List ℕ) {n : ℕ} → n ≡ gives_of j → n ≡ 0 → l ≡ laid_at i (bytes_of (rows_of classes code table p j)) l
  unfolding bytes_of
  laid-zero p i j l e z = rw (← rows_none p j (sym e ∙ z)) (sym (laid_none i l))

  pub laid_one : (p i : ℕ) (j : Java) (l : List ℕ) {n : ℕ} {x : Code} {m : List ℕ} → n ≡ gives_of j → n ≡ 1 → x ≡ first_row p j → m ≡ laid_at i (row_bytes x) l
      → m ≡ laid_at i (bytes_of (rows_of classes code table p j)) l
  unfolding bytes_of
  laid_one p i j l e z f h = rw (← rows-one p j (sym e ∙ z), ← f) h

  pub laid-three : (p k : ℕ) (j : Java) (l : List ℕ) {n : ℕ} {x y z : Code} {m₁ m₂ m₃ : List ℕ} → n ≡ gives_of j → (n ≡ 0 → ⊥) → (n ≡ 1 → ⊥) → x ≡ first_row p j
      → 4 * (k + gives_of j) ≤ length l → m₁ ≡ laid_at (4 * k) (row_bytes x) l → y ≡ row 1 0 0 → m₂ ≡ laid_at (4 * (k + 1)) (row_bytes y) m₁
      → z ≡ row 5 x.operand 0 → m₃ ≡ laid_at (4 * (k + 2)) (row_bytes z) m₂ → m₃ ≡ laid_at (4 * k) (bytes_of (rows_of classes code table p j)) l
  unfolding bytes_of
  laid-three p k j l {n} {x} {y} {z} {m₁} {m₂} {m₃} e a b f r h₁ y-is h₂ z-is h₃ =
      let w = rows-three p j (λ q. a (e ∙ q)) (λ q. b (e ∙ q)) in
      let s : m₂ ≡ laid_at (4 * k) (row_bytes x ++ row_bytes (row 1 0 0)) l
      = h₂ ∙ ap (λ (q : Code). laid_at (4 * (k + 1)) (row_bytes q) m₁) y-is ∙ ap (laid_at (4 * (k + 1)) (row_bytes (row 1 0 0))) h₁ ∙ laid_then (4 * k) (4 * (k + 1)) (row_bytes x) (row_bytes (row 1 0 0)) l (omega arith) (omega arith) in
      rw (← w.1, ← f)
      (h₃ ∙ ap (λ (q : Code). laid_at (4 * (k + 2)) (row_bytes q) m₂) z-is ∙ ap (laid_at (4 * (k + 2)) (row_bytes (row 5 x.operand 0))) s
      ∙ laid_then (4 * k) (4 * (k + 2)) (row_bytes x ++ row_bytes (row 1 0 0)) (row_bytes (row 5 x.operand 0)) l (omega arith) (omega arith))

  -- ---- the writing loop
  pub count-in-rows : (p : ℕ) → length (rows_to classes code table p) ≡ count_to code p
  unfolding rows_to each count_to sum_below
  count-in-rows zero = refl
  count-in-rows (suc p) = rw (length-append, count-in-rows p, at_length p)

  bytes-to : (p : ℕ) → length (bytes_of (rows_to classes code table p)) ≡ 4 * count_to code p
  bytes-to p = bytes-length (rows_to classes code table p) ∙ ap (λ (n : ℕ). 4 * n) (count-in-rows p)

  pub record Wrote (start out : List ℕ) (s : Steps) (k : ℕ) : Type 0 where
    pub counted : Counted code s k
    pub laid : out ≡ laid_over (bytes_of (rows_to classes code table s.at)) start

  pub wrote-start : (start : List ℕ) {s u : Steps} → s ≡ u → (u.code.now ≡ code) × (u.at ≡ 0) → Wrote start start s 0
  unfolding bytes_of rows_to each laid_over
  wrote-start start d e = record { counted = counted-first code d e; laid = rw (d, e.1) }

  pub wrote-here : {start out : List ℕ} {s t : Steps} {x : Placed} {k : ℕ} → Wrote start out s k → WalksOn s (Some x) t → (x.at < length code) × (x.size ≡ size_at code x.at)
  wrote-here h w = let v = walk-some h.counted.code_is w in rw v.1.1 (v.1.0, v.1.3)

  -- there is room for the rows of the next instruction
  pub wrote-room : {start out : List ℕ} {s t : Steps} {x : Placed} {k all : ℕ} → Wrote start out s k → WalksOn s (Some x) t → all ≡ total code → k + gives_of x.java ≤ all
  wrote-room h w a = rw a (turn-under code h.counted w refl)

  pub wrote-length : {start out : List ℕ} {s : Steps} {k all : ℕ} → Wrote start out s k → all ≡ total code → 4 * all ≤ length start → length out ≡ length start
  wrote-length {start} {out} {s} h a r =
      ap length h.laid ∙ laid-length (bytes_of (rows_to classes code table s.at)) start (omega (arith, bytes-to s.at, count_under code s.at))

  pub wrote-turn : {start out next : List ℕ} {s t : Steps} {x : Placed} {k g : ℕ} → Wrote start out s k → WalksOn s (Some x) t
      → next ≡ laid_at (4 * k) (bytes_of (rows_of classes code table x.at x.java)) out → g ≡ gives_of x.java → Wrote start next t (k + g)
  wrote-turn {start} {out} {next} {s} {t} {x} {k} h w f d =
      let v = walk-some h.counted.code_is w in
      record {
        counted = counted-next code h.counted w d;
        laid =
            rw (v.1.4, rows_next s.at h.counted.stands.here, bytes-append)
            (f ∙ rw (v.1.1, v.1.2, h.laid) (laid_on (4 * k) (bytes_of (rows_to classes code table s.at)) (bytes_of (rows_of classes code table s.at (java_at code s.at))) start (rw (bytes-to s.at, h.counted.stands.count))));
      }

  pub wrote-end : {start out : List ℕ} {s t : Steps} {k : ℕ} → Wrote start out s k → WalksOn s None t → out ≡ laid_over (bytes_of (rows_to classes code table (length code))) start
  wrote-end {start} {out} {s} h w =
      let l = walk-none h.counted.code_is w in
      let e : s.at ≡ length code = omega (arith, h.counted.stands.inside) in
      h.laid ∙ ap (λ (q : ℕ). laid_over (bytes_of (rows_to classes code table q)) start) e

pub gives-three : (j : Java) {n : ℕ} → n ≡ gives_of j → (n ≡ 0 → ⊥) → (n ≡ 1 → ⊥) → gives_of j ≡ 3
gives-three j e a b = (rows-three [] [] [] 0 j (λ q. a (e ∙ q)) (λ q. b (e ∙ q))).0

pub rows_fit : {n all room : ℕ} → n ≤ all → 4 * all ≤ room → 4 * n ≤ room
rows_fit a b = omega arith
