-- Document 02, Q-5: the pair bytes of a bundle: dip and end of kind 3 entries in use.
use Rattle.std.specs.Prelude.{List, ◌≡◌, cond, ◌⊎◌, ℕ, ◌+◌, ◌*◌, ◌≤◌, ◌<◌, ltb}
use Rattle.ground.specs.Bytes.{at}
use Rattle.bundle.specs.declared.Class.{Class}
use Rattle.bundle.specs.Container.{classes, class_at, part_of}
use Rattle.rows.specs.Rows.{row_start, depth_at}

-- the entries of a row are numbered: first its V variables, then, behind the byte of the depth, its stack from the top
unfoldable pub behind : Class → ℕ → ℕ
behind k s = 4 * s + cond (ltb s k.vars) 0 1

-- where entry s of row l begins in a record
unfoldable pub place_in : Class → ℕ → ℕ → ℕ
place_in k l s = row_start k l + behind k s

-- .. and in the bundle, for class c
unfoldable pub place_of : List ℕ → ℕ → ℕ → ℕ → ℕ
place_of b c l s = (class_at b c).offset + place_in (class_at b c) l s

-- the stack depth of row l of class c
unfoldable pub depth_of : List ℕ → ℕ → ℕ → ℕ
depth_of b c l = let k = class_at b c in depth_at (part_of b k) (row_start k l) k.vars

-- entry s of row l of class c is in use: a variable, or a stack entry within the depth
pub record InUse (b : List ℕ) (c l s : ℕ) : Type 0 where
  pub class_known : c < classes b
  pub first : 1 ≤ l
  pub last : l ≤ (class_at b c).code
  pub used : s < (class_at b c).vars + depth_of b c l

-- .. and of kind 3
pub record Reference (b : List ℕ) (c l s : ℕ) : Type 0 where
  pub in_use : InUse b c l s
  pub kind : at b (place_of b c l s) ≡ 3

-- dip and end of kind 3 entries in use
pub record PairByte (b : List ℕ) (p : ℕ) : Type 0 where
  pub class : ℕ
  pub address : ℕ
  pub entry : ℕ
  pub reference : Reference b class address entry
  pub which : (p ≡ place_of b class address entry + 2) ⊎ (p ≡ place_of b class address entry + 3)
