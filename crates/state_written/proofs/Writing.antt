-- Laws of `written`: bytes after bytes, and a loop that writes so many bytes a turn.
use mathlib.Core.List.{List, [], ◌∷◌, ◌++◌}
use mathlib.Core.Bool.{cond}
use mathlib.Core.Path.{◌≡◌, refl, sym, ap, ◌∙◌}
use Prim.Native.Nat.{ℕ, suc, ◌+◌, ◌*◌, ◌<◌}
use lib.ListN.{length, get_or, set}
use lib.Seq.{set-append_seam}
use native.Mathlib.Numerals.{add-one}
use native.Mathlib.Omega.{arith}
use Rattle.ground.specs.Lists.{each}
use Rattle.ground.proofs.Writes.{read-any}
use Rattle.threads.specs.declared.Thread.{Thread}
use Rattle.threads.specs.Threads.{idle}
use Rattle.state.specs.declared.State.{State}
use Rattle.state_written.specs.Widths.{length_more, long-each, thread-long}
use Rattle.state_written.specs.Written.{halves, place_bytes_at, thread_bytes, thread_bytes_at, count_bytes_at, class_bytes_at, word_bytes_at, state_bytes, written}

-- bytes after bytes
pub written-more : (l m : List ℕ) (p : ℕ) (g : List ℕ) → written (p + length l) m (written p l g) ≡ written p (l ++ m) g
unfolding written
written-more [] m p g = let e : p + 0 ≡ p = omega arith in rw e
written-more (x ∷ l) m p g = let e : p + suc (length l) ≡ suc p + length l = omega arith in rw e (written-more l m (suc p) (set g p x))

-- one byte
pub written_one : (p x : ℕ) (g : List ℕ) → written p (x ∷ []) g ≡ set g p x
unfolding written
written_one p x g = refl

-- a loop over l, before its first turn and after one more: each writes w bytes
pub each_none : (f : ℕ → List ℕ) (p : ℕ) (g : List ℕ) → g ≡ written p (each 0 f) g
unfolding written each
each_none f p g = refl

module _ {A : Type 0} (laid : A → List ℕ) (w : ℕ) (long : (x : A) → length (laid x) ≡ w) (l : List A) (d : A) where
  abbrev pub at_place : ℕ → List ℕ
  at_place i = laid (get_or l i d)

  pub each_more : (i p q : ℕ) (x : A) (g : List ℕ) → i < length l → x ≡ get_or l i x → q ≡ p + i * w
      → written q (laid x) (written p (each i at_place) g) ≡ written p (each (i + 1) at_place) g
  unfolding each
  each_more i p q x g k e n =
      rw (n, ← long-each at_place w (λ j. long (get_or l j d)) i, add-one, e ∙ read-any l i x d k) (written-more (each i at_place) (at_place i) p g)

-- bytes over all bytes
after_one : (front : List ℕ) (x : ℕ) (l : List ℕ) → (front ++ (x ∷ [])) ++ l ≡ front ++ (x ∷ l)
after_one [] x l = refl
after_one (y ∷ front) x l = ap (λ (m : List ℕ). y ∷ m) (after_one front x l)

written_after : (front l g : List ℕ) (p : ℕ) → length front ≡ p → length l ≡ length g → written p l (front ++ g) ≡ front ++ l
unfolding written
written_after front [] [] p e f = refl
written_after front [] (y ∷ g) p e f = absurd (omega arith)
written_after front (x ∷ l) [] p e f = absurd (omega arith)
written_after front (x ∷ l) (y ∷ g) p e f =
    ap (written (suc p) l) (rw (← e) (set-append_seam front y g x) ∙ sym (after_one front x g))
    ∙ written_after (front ++ (x ∷ [])) l g (suc p) (omega (arith, length_more front (x ∷ []))) (omega arith)
    ∙ after_one front x l

pub written-whole : (l g : List ℕ) → length l ≡ length g → written 0 l g ≡ l
written-whole l g e = written_after [] l g 0 refl e

-- ---- a thread, and a state
-- bytes from p on, and those from q on behind them
next : (l m : List ℕ) (p q : ℕ) (g : List ℕ) → p + length l ≡ q → written q m (written p l g) ≡ written p (l ++ m) g
next l m p q g e = rw (← e) (written-more l m p g)

pub thread-written : (t : Thread) (p : ℕ) (g : List ℕ)
    → written (p + 85) (each 16 (place_bytes_at t.stack)) (written (p + 5) (each 16 (place_bytes_at t.vars))
    (set (written (p + 2) (halves t.at.0) (set (set g p (cond t.live 1 0)) (p + 1) t.class)) (p + 4) t.depth))
    ≡ written p (thread_bytes t) g
unfolding thread_bytes written
thread-written t p g =
    let e₁ : p + 1 ≡ suc p = omega arith in
    let e₂ : p + 2 ≡ suc (suc p) = omega arith in
    let e₄ : p + 4 ≡ suc (suc (suc (suc p))) = omega arith in
    let e₅ : p + 5 ≡ suc (suc (suc (suc (suc p)))) = omega arith in
    rw (e₁, e₂, e₄, e₅)
    (next (each 16 (place_bytes_at t.vars)) (each 16 (place_bytes_at t.stack)) (suc (suc (suc (suc (suc p))))) (p + 85) _ (omega (arith, long-each (place_bytes_at t.vars) 5 (λ i. refl) 16)))

module _ (s : State) where
  abbrev A : List ℕ
  A = each 8 (thread_bytes_at s.threads)

  abbrev B : List ℕ
  B = each 256 (count_bytes_at s.counts)

  abbrev C : List ℕ
  C = each 32 (class_bytes_at s.classes)

  abbrev D : List ℕ
  D = each 128 (place_bytes_at s.fields)

  abbrev E : List ℕ
  E = each 8 (word_bytes_at s.held)

  pub long-A : length A ≡ 1320
  long-A = long-each (thread_bytes_at s.threads) 165 (λ i. thread-long (get_or s.threads i idle)) 8

  long-B : length B ≡ 512
  long-B = long-each (count_bytes_at s.counts) 2 (λ i. refl) 256

  long-C : length C ≡ 32
  long-C = long-each (class_bytes_at s.classes) 1 (λ i. refl) 32

  long-D : length D ≡ 640
  long-D = long-each (place_bytes_at s.fields) 5 (λ i. refl) 128

  long-E : length E ≡ 32
  long-E = long-each (word_bytes_at s.held) 4 (λ i. refl) 8

  abbrev AB : List ℕ
  AB = A ++ B

  abbrev ABO : List ℕ
  ABO = (A ++ B) ++ (s.objects ∷ [])

  abbrev ABOC : List ℕ
  ABOC = ((A ++ B) ++ (s.objects ∷ [])) ++ C

  abbrev ABOCD : List ℕ
  ABOCD = (((A ++ B) ++ (s.objects ∷ [])) ++ C) ++ D

  pub long-AB : length AB ≡ 1832
  long-AB = omega (arith, long-A, long-B, length_more A B)

  pub long-ABO : length ABO ≡ 1833
  long-ABO = omega (arith, long-AB, length_more AB (s.objects ∷ []))

  pub long-ABOC : length ABOC ≡ 1865
  long-ABOC = omega (arith, long-ABO, long-C, length_more ABO C)

  pub long-ABOCD : length ABOCD ≡ 2505
  long-ABOCD = omega (arith, long-ABOC, long-D, length_more ABOC D)

  parts-long : length (ABOCD ++ E) ≡ 2537
  parts-long = omega (arith, long-ABOCD, long-E, length_more ABOCD E)

  pub bytes-long : length (state_bytes s) ≡ 2537
  unfolding state_bytes
  bytes-long = parts-long

  pub state-written : (g : List ℕ) → length g ≡ 2537
      → written 2505 (each 8 (word_bytes_at s.held)) (written 1865 (each 128 (place_bytes_at s.fields)) (written 1833 (each 32 (class_bytes_at s.classes))
      (written 1832 (s.objects ∷ []) (written 1320 (each 256 (count_bytes_at s.counts)) (written 0 (each 8 (thread_bytes_at s.threads)) g)))))
      ≡ state_bytes s
  unfolding state_bytes
  state-written g n =
      ap (λ (x : List ℕ). written 2505 E (written 1865 D (written 1833 C (written 1832 (s.objects ∷ []) x)))) (next A B 0 1320 g (omega (arith, long-A)))
      ∙ ap (λ (x : List ℕ). written 2505 E (written 1865 D (written 1833 C x))) (next AB (s.objects ∷ []) 0 1832 g (omega (arith, long-AB)))
      ∙ ap (λ (x : List ℕ). written 2505 E (written 1865 D x)) (next ABO C 0 1833 g (omega (arith, long-ABO)))
      ∙ ap (λ (x : List ℕ). written 2505 E x) (next ABOC D 0 1865 g (omega (arith, long-ABOC)))
      ∙ next ABOCD E 0 2505 g (omega (arith, long-ABOCD))
      ∙ written-whole (ABOCD ++ E) g (parts-long ∙ sym n)
