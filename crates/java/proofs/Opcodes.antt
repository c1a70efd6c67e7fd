-- What the opcodes say of one that is none of theirs, how wide an instruction is, and how many it yields.
use mathlib.Core.Path.{◌≡◌, refl}
use mathlib.Core.Bool.{Bool, true, false, cond, ◌||◌, ◌&&◌}
use Prim.Native.Nat.{ℕ, ◌+◌, ◌-◌, ◌≤◌}
use native.Mathlib.Omega.{arith}
use native.Mathlib.Decide.{ℕ_discrete}
use lib.Dec.{eqb, leb}
use borrow.Author.Tests.{leb-true, ne_eqb}
use Rattle.java.specs.declared.Java.{Java}
use Rattle.java.specs.declared.Java.TheVariants.{Nop, Pop, Iconst0, Load, Store, Ifne, Enter, Exit, New, Athrow, Return, Iinc, Other}
use Rattle.java.specs.Opcodes.{short, aload_of, iinc_of, java_of, width_of, lock_bytes}
use Rattle.java.specs.Instructions.{gives_of}

more : (m n k : ℕ) → m ≤ n → (n ≡ m → ⊥) → k ≡ m + 1 → k ≤ n
more m n k h d e = omega arith

pub not_short : (first op : ℕ) → (op ≡ first → ⊥) → (op ≡ first + 1 → ⊥) → (op ≡ first + 2 → ⊥) → (op ≡ first + 3 → ⊥) → short first op ≡ false
unfolding short
not_short first op a b c d = go (leb first op) refl (leb op (first + 3)) refl
  where
    go : (s : Bool) → leb first op ≡ s → (t : Bool) → leb op (first + 3) ≡ t → (s && t) ≡ false
    go true p true q =
        let h = more first op (first + 1) (leb-true first op p) a refl in
        let i = more (first + 1) op (first + 2) h b (omega arith) in
        let j = more (first + 2) op (first + 3) i c (omega arith) in
        let l = more (first + 3) op (first + 4) j d (omega arith) in
        let k : op ≤ first + 3 = leb-true op (first + 3) q in
        absurd (omega arith)
    go true p false q = refl
    go false p t q = refl

pub width-under : (op : ℕ) → (1 ≤ width_of op) × (width_of op ≤ 3)
unfolding width_of
width-under op = go (eqb op 21 || eqb op 25 || eqb op 54 || eqb op 58) (eqb op 154 || eqb op 187 || eqb op 132)
  where
    go : (s t : Bool) → (1 ≤ cond s 2 (cond t 3 1)) × (cond s 2 (cond t 3 1) ≤ 3)
    go true t = (omega arith, omega arith)
    go false true = (omega arith, omega arith)
    go false false = (omega arith, omega arith)

lock-under : (j : Java) → lock_bytes j ≤ 1
lock-under Nop = omega arith
lock-under Pop = omega arith
lock-under Iconst0 = omega arith
lock-under (Load v) = omega arith
lock-under (Store v) = omega arith
lock-under (Ifne d) = omega arith
lock-under (Enter v) = omega arith
lock-under (Exit v) = omega arith
lock-under (New i) = omega arith
lock-under Athrow = omega arith
lock-under Return = omega arith
lock-under (Iinc v) = omega arith
lock-under Other = omega arith

pub size-under : (op : ℕ) (j : Java) {w l : ℕ} → w ≡ width_of op → l ≡ lock_bytes j → w + l ≤ 4
size-under op j p q = omega (arith, width-under op, lock-under j)

-- no opcode but iinc's (132) yields more than one
record Few (j : Java) : Type 0 where
  most : gives_of j ≤ 1

few : (t : Bool) {a b : Java} → Few a → Few b → Few (cond t a b)
few true p q = p
few false p q = q

few-aload : (v next : ℕ) → Few (aload_of v next)
unfolding aload_of
few-aload v next = few (eqb next 194) (record { most = omega arith }) (few (eqb next 195) (record { most = omega arith }) (record { most = omega arith }))

few-java : (op x y : ℕ) → (op ≡ 132 → ⊥) → Few (java_of op x y)
unfolding java_of
few-java op x y d =
    rw (ne_eqb op 132 d)
    (few (eqb op 0) (record { most = omega arith })
    (few (eqb op 87) (record { most = omega arith })
    (few (eqb op 3) (record { most = omega arith })
    (few (eqb op 21) (record { most = omega arith })
    (few (short 26 op) (record { most = omega arith })
    (few (eqb op 25) (few-aload x y)
    (few (short 42 op) (few-aload (op - 42) x)
    (few (eqb op 54) (record { most = omega arith })
    (few (short 59 op) (record { most = omega arith })
    (few (eqb op 58) (record { most = omega arith })
    (few (short 75 op) (record { most = omega arith })
    (few (eqb op 154) (record { most = omega arith })
    (few (eqb op 187) (record { most = omega arith })
    (few (eqb op 191) (record { most = omega arith })
    (few (eqb op 177) (record { most = omega arith })
    (record { most = omega arith }))))))))))))))))

few-iinc : (v by : ℕ) → gives_of (iinc_of v by) ≤ 3
unfolding iinc_of
few-iinc v by = go (eqb by 1)
  where
    go : (t : Bool) → gives_of (cond t (Iinc v) Other) ≤ 3
    go true = omega arith
    go false = omega arith

at-iinc : (x y : ℕ) → gives_of (java_of 132 x y) ≤ width_of 132
unfolding java_of width_of short
at-iinc x y = few-iinc x y

-- an instruction yields no more than it has bytes
pub gives-width : (op x y : ℕ) → gives_of (java_of op x y) ≤ width_of op
gives-width op x y = go (ℕ_discrete op 132)
  where
    go : Dec (op ≡ 132) → gives_of (java_of op x y) ≤ width_of op
    go (yes e) = rw e (at-iinc x y)
    go (no d) = omega (arith, (few-java op x y d).most, width-under op)
