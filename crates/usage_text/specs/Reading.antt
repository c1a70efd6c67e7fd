-- How the code reads a text: from the left, each function taking what it can and giving back the rest. specs/Exact.antt says
-- that it reads exactly the texts of specs/Grammar.antt, each as its usage; believe that, not this.
use Rattle.std.specs.Prelude.{List, Bool, true, false, cond, ◌&&◌, ℕ, zero, suc, eqb, length, drop}
use Rattle.ground.specs.Bytes.{at}
use Rattle.usages.specs.Usage.{Usage, done, lock, unlock, either, both}
use Rattle.usage_text.specs.Signs.{nought, ell, dot, hat, ampersand, star, open_sign, close_sign}
use Rattle.usage_text.specs.declared.Head.{Head}
use Rattle.usage_text.specs.declared.Head.TheVariants.{Nought, Lock, Unlock, Open, Other}

-- what reading gives: nothing, or the usage that was read and the text that is left
pub data Read : Type 0 where
  unread : Read
  read : Usage → List ℕ → Read

-- what a text begins with: `0`, `L.`, `^L.`, `(`, or none of these
abbrev pub at_nought : List ℕ → Bool
at_nought s = eqb (at s 0) nought

abbrev pub at_lock : List ℕ → Bool
at_lock s = eqb (at s 0) ell && eqb (at s 1) dot

abbrev pub at_unlock : List ℕ → Bool
at_unlock s = eqb (at s 0) hat && (eqb (at s 1) ell && eqb (at s 2) dot)

abbrev pub at_open : List ℕ → Bool
at_open s = eqb (at s 0) open_sign

unfoldable pub head_of : List ℕ → Head
head_of s = cond (at_nought s) Nought (cond (at_lock s) Lock (cond (at_unlock s) Unlock (cond (at_open s) Open Other)))

-- a prefix in front of what was read
abbrev pub under : (Usage → Usage) → Read → Read
under f unread = unread
under f (read u r) = read (f u) r

-- what was read stands before a closing bracket
unfoldable pub closed : Read → Read
closed unread = unread
closed (read u r) = cond (eqb (at r 0) close_sign) (read u (drop 1 r)) unread

-- what a bracket holds, and the closing bracket
abbrev pub read_bracket : (List ℕ → Read) → List ℕ → Read
read_bracket inside s = closed (inside s)

-- prefixes, fewer than k, and then 0 or a bracket; `inside` reads what a bracket holds
unfoldable pub prefixed : (List ℕ → Read) → ℕ → List ℕ → Read
prefixed inside zero s = unread
prefixed inside (suc k) s =
    elim (head_of s) [
      | Nought ↦ read done (drop 1 s)
      | Lock ↦ under lock (prefixed inside k (drop 2 s))
      | Unlock ↦ under unlock (prefixed inside k (drop 3 s))
      | Open ↦ read_bracket inside (drop 1 s)
      | Other ↦ unread
    ]

module _ (sign : ℕ) (join : Usage → Usage → Usage) (part : List ℕ → Read) where
  -- u has been read: further parts, at most k, each behind the sign
  unfoldable pub onward : ℕ → Usage → List ℕ → Read
  onward zero u s = read u s
  onward (suc k) u s =
      elim (eqb (at s 0) sign) [
        | true ↦ elim (part (drop 1 s)) [ unread ↦ unread | read v r ↦ onward k (join u v) r ]
        | false ↦ read u s
      ]

  -- where the first part has been read
  unfoldable pub chain_from : Read → Read
  chain_from unread = unread
  chain_from (read u r) = onward (length r) u r

  -- a part, and further ones
  unfoldable pub chain : List ℕ → Read
  chain s = chain_from (part s)

module _ (inside : List ℕ → Read) where
  -- each prefix takes a byte, so there are fewer than the text has bytes, and one
  unfoldable pub read_prefixed : List ℕ → Read
  read_prefixed s = prefixed inside (suc (length s)) s

  unfoldable pub read_shuffle : List ℕ → Read
  read_shuffle s = chain star both read_prefixed s

  unfoldable pub read_choice : List ℕ → Read
  read_choice s = chain ampersand either read_shuffle s

-- what a bracket holds, where brackets may still be nested d deep
unfoldable pub read_inside : ℕ → List ℕ → Read
read_inside zero s = unread
read_inside (suc d) s = read_choice (read_inside d) s

-- what is read from the front of the text, with brackets nested at most d deep
abbrev pub read_text : ℕ → List ℕ → Read
read_text d s = read_choice (read_inside d) s

-- a usage was read, and nothing is left
unfoldable pub is_whole : Read → Bool
is_whole unread = false
is_whole (read u r) = eqb (length r) 0
