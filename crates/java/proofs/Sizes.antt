-- The instruction at an offset: within the code it ends within it, past the end nothing stands; it yields no more than it has bytes.
use mathlib.Core.Path.{◌≡◌, refl}
use mathlib.Core.Bool.{Bool, true, false, cond}
use mathlib.Core.List.{List}
use Prim.Native.Nat.{ℕ, ◌+◌, ◌-◌, ◌≤◌, ◌<◌}
use native.Mathlib.Omega.{arith}
use lib.ListN.{length}
use lib.Dec.{leb}
use borrow.Author.Tests.{le-leb, lt-leb, leb-true}
use Rattle.ground.specs.Bytes.{at}
use Rattle.ground.specs.Chain.{refuse}
use Rattle.java.specs.declared.Java.{Java}
use Rattle.java.specs.declared.Java.TheVariants.{Other}
use Rattle.java.specs.Opcodes.{java_of, width_of, lock_bytes}
use Rattle.java.specs.Instructions.{raw_at, raw_size, uncut, java_at, size_at, gives_of}
use Rattle.java.proofs.Opcodes.{width-under, gives-width}

module _ (code : List ℕ) (p : ℕ) where
  raw-pos : 1 ≤ raw_size code p
  unfolding raw_size
  raw-pos = omega (arith, width-under (at code p))

  gives-raw : gives_of (raw_at code p) ≤ raw_size code p
  unfolding raw_at raw_size
  gives-raw = omega (arith, gives-width (at code p) (at code (p + 1)) (at code (p + 2)))

  pub size-pos : 1 ≤ size_at code p
  unfolding size_at refuse
  size-pos = go (uncut code p)
    where
      go : (t : Bool) → 1 ≤ cond t (raw_size code p) 1
      go true = raw-pos
      go false = omega arith

  pub size_fits : p < length code → p + size_at code p ≤ length code
  unfolding size_at refuse uncut
  size_fits l = go (leb (p + raw_size code p) (length code)) refl
    where
      go : (t : Bool) → leb (p + raw_size code p) (length code) ≡ t → p + cond t (raw_size code p) 1 ≤ length code
      go true e = leb-true _ _ e
      go false e = omega arith

  pub gives_size : gives_of (java_at code p) ≤ size_at code p
  unfolding java_at size_at refuse
  gives_size = go (uncut code p)
    where
      raw : gives_of (raw_at code p) ≤ raw_size code p
      raw = gives-raw

      go : (t : Bool) → gives_of (cond t (raw_at code p) Other) ≤ cond t (raw_size code p) 1
      go true = raw
      go false = omega arith

  -- ---- what the code reads: j with its width and its lock byte
  pub read_past : length code ≤ p → (Other ≡ java_at code p) × (1 ≡ size_at code p)
  unfolding java_at size_at refuse uncut
  read_past l = rw (lt-leb (p + raw_size code p) (length code) (omega (arith, raw-pos))) (refl, refl)

  pub raw-is : {j : Java} {x y : ℕ} → j ≡ java_of (at code p) x y → x ≡ at code (p + 1) → y ≡ at code (p + 2) → j ≡ raw_at code p
  unfolding raw_at
  raw-is e f g = rw (← f, ← g) e

  size_is : {j : Java} {w l : ℕ} → j ≡ raw_at code p → w ≡ width_of (at code p) → l ≡ lock_bytes j → w + l ≡ raw_size code p
  unfolding raw_size
  size_is e f g = rw (f, g, e)

  pub read-cut : {j : Java} {w l : ℕ} → j ≡ raw_at code p → w ≡ width_of (at code p) → l ≡ lock_bytes j → p < length code → length code - p < w + l
      → (Other ≡ java_at code p) × (1 ≡ size_at code p)
  unfolding java_at size_at uncut refuse
  read-cut {j} {w} {l} e f g h k =
      let d = size_is e f g in
      rw (lt-leb (p + raw_size code p) (length code) (omega arith)) (refl, refl)

  pub read_whole : {j : Java} {w l : ℕ} → j ≡ raw_at code p → w ≡ width_of (at code p) → l ≡ lock_bytes j → p < length code → w + l ≤ length code - p
      → (j ≡ java_at code p) × (w + l ≡ size_at code p)
  unfolding java_at size_at uncut refuse
  read_whole {j} {w} {l} e f g h k =
      let d = size_is e f g in
      rw (le-leb (p + raw_size code p) (length code) (omega arith)) (e, d)

  -- the next instruction begins further on, and within the code or where it ends
  pub size-within : {size : ℕ} → size ≡ size_at code p → p < length code → (p + size ≤ length code) × (1 ≤ size)
  size-within s l = rw s (size_fits l, size-pos)
