-- Q-11 on both sides of each edge: texts, and what is answered of them, worked out by hand from the request and appendix A.
use Rattle.std.specs.Prelude.{List, [], ◌∷◌, ◌++◌, Bool, true, false, ℕ, zero, suc, ℤ, pos, neg_ℤ}
use Prim.Native.String.{String}
use Rattle.usages.specs.Usage.{Usage, done, lock, unlock, either, both}
use Rattle.usage_text.specs.Answer.{Reading}
use Rattle.usage_text.specs.Answer.{refusal}
use Rattle.usage_text.specs.Quoted.{bytes}

pub record Case : Type 0 where
  pub text : List ℕ
  pub wanted : Reading

-- a text's dip and end, and whether it is reliable
abbrev reads_bytes : List ℕ → ℕ → ℤ → Bool → Case
reads_bytes s d e b = record { text = s; wanted = record { number = 0; dip = d; end = e; reliable = b } }

abbrev reads : String → ℕ → ℤ → Bool → Case
reads s d e b = reads_bytes (bytes s) d e b

-- a refusal's number
abbrev refused_bytes : List ℕ → ℕ → Case
refused_bytes s n = record { text = s; wanted = refusal n }

abbrev refused : String → ℕ → Case
refused s n = refused_bytes (bytes s) n

abbrev minus : ℕ → ℤ
minus n = neg_ℤ (pos n)

-- a text n times over, and a text in n brackets
unfoldable pub again : ℕ → String → List ℕ
again zero s = []
again (suc n) s = bytes s ++ again n s

abbrev nested : ℕ → List ℕ → List ℕ
nested n s = again n "(" ++ s ++ again n ")"

-- the request's own
abbrev requests : List Case
requests =
    reads "L.L.(^L.0*^L.0)" 0 (pos 0) true
    ∷ reads "L.(L.0*^L.0)" 0 (pos 1) false
    ∷ reads "L.^L.^L.0" 1 (minus 1) false
    ∷ []

-- the paper's: Examples 3.1, 3.2, A.1 and section 3.1
abbrev papers : List Case
papers =
    reads "L.^L.0" 0 (pos 0) true
    ∷ reads "L.(^L.0&0)" 0 (pos 1) false
    ∷ reads "(L.^L.0)&(L.^L.0)" 0 (pos 0) true
    ∷ reads "L.^L.0&L.^L.0" 0 (pos 0) true
    ∷ reads "^L.L.0" 1 (pos 0) false
    ∷ reads "L.0*^L.0" 1 (pos 0) false
    ∷ []

-- one sign, and prefixes in a row
abbrev rows : List Case
rows =
    reads "0" 0 (pos 0) true
    ∷ reads "L.0" 0 (pos 1) false
    ∷ reads "^L.0" 1 (minus 1) false
    ∷ reads "L.L.0" 0 (pos 2) false
    ∷ reads "^L.^L.0" 2 (minus 2) false
    ∷ reads "L.^L.L.0" 0 (pos 1) false
    ∷ reads "^L.L.^L.0" 1 (minus 1) false
    ∷ reads "^L.L.L.0" 1 (pos 1) false
    ∷ reads "L.L.^L.^L.0" 0 (pos 0) true
    ∷ reads "^L.^L.L.L.0" 2 (pos 0) false
    ∷ reads "L.^L.L.^L.0" 0 (pos 0) true
    ∷ []

-- & takes the larger of each, * the sums
abbrev joins : List Case
joins =
    reads "0&0" 0 (pos 0) true
    ∷ reads "0*0" 0 (pos 0) true
    ∷ reads "L.0&^L.0" 1 (pos 1) false
    ∷ reads "^L.0&^L.^L.0" 2 (minus 1) false
    ∷ reads "L.0&L.L.0" 0 (pos 2) false
    ∷ reads "^L.0*^L.^L.0" 3 (minus 3) false
    ∷ reads "L.0*L.L.0" 0 (pos 3) false
    ∷ reads "L.0&0&^L.0" 1 (pos 1) false
    ∷ reads "L.0*L.0*^L.0" 1 (pos 1) false
    ∷ reads "0&0&0&0" 0 (pos 0) true
    ∷ reads "0*0*0" 0 (pos 0) true
    ∷ reads "L.^L.0*L.^L.0" 0 (pos 0) true
    ∷ []

-- a prefix binds tightest
abbrev prefixes : List Case
prefixes =
    reads "L.(0*^L.0)" 0 (pos 0) true
    ∷ reads "L.(0&^L.0)" 0 (pos 1) false
    ∷ reads "^L.0&L.0" 1 (pos 1) false
    ∷ reads "^L.(0&L.0)" 1 (pos 0) false
    ∷ reads "^L.L.0*L.0" 1 (pos 1) false
    ∷ reads "^L.(L.0*L.0)" 1 (pos 1) false
    ∷ reads "L.(^L.0*^L.0)" 1 (minus 1) false
    ∷ []

-- then *, then &
abbrev precedence : List Case
precedence =
    reads "L.0&0*^L.0" 1 (pos 1) false
    ∷ reads "(L.0&0)*^L.0" 1 (pos 0) false
    ∷ reads "^L.0*^L.0&0" 2 (pos 0) false
    ∷ reads "^L.0*(^L.0&0)" 2 (minus 1) false
    ∷ reads "0&^L.0*^L.0" 2 (pos 0) false
    ∷ reads "(0&^L.0)*^L.0" 2 (minus 1) false
    ∷ reads "L.0*^L.0&L.^L.0" 1 (pos 0) false
    ∷ []

-- brackets
abbrev brackets : List Case
brackets =
    reads "(0)" 0 (pos 0) true
    ∷ reads "((0))" 0 (pos 0) true
    ∷ reads "L.(0)" 0 (pos 1) false
    ∷ reads "L.(^L.0)" 0 (pos 0) true
    ∷ reads "L.(^L.0&^L.0)" 0 (pos 0) true
    ∷ reads "L.(^L.0*L.^L.0)" 0 (pos 0) true
    ∷ reads "L.(^L.L.^L.0&^L.0)" 0 (pos 0) true
    ∷ reads "(L.0*L.0)*(^L.0*^L.0)" 2 (pos 0) false
    ∷ reads "L.(L.(^L.0)*^L.0)" 0 (pos 0) true
    ∷ reads "L.L.(^L.0&^L.^L.0)" 0 (pos 1) false
    ∷ reads "^L.((L.0))" 1 (pos 0) false
    ∷ []

-- not reliable, though they are to the letter of Definition 3.5
abbrev letters : List Case
letters =
    reads "L.(0&0)*(0&0)" 0 (pos 1) false
    ∷ reads "L.((0&0)*(0&0))" 0 (pos 1) false
    ∷ reads "(^L.0&^L.0)*L.0" 1 (pos 0) false
    ∷ []

-- 41: cut short
abbrev cut : List Case
cut =
    refused "" 41
    ∷ refused "L" 41
    ∷ refused "L." 41
    ∷ refused "^" 41
    ∷ refused "^L" 41
    ∷ refused "^L." 41
    ∷ refused "L.L" 41
    ∷ refused "L.L." 41
    ∷ refused "^L.^L" 41
    ∷ refused "(" 41
    ∷ refused "(0" 41
    ∷ refused "((0)" 41
    ∷ refused "L.(0" 41
    ∷ refused "0&" 41
    ∷ refused "0*" 41
    ∷ refused "0&(0*" 41
    ∷ refused "(0&0" 41
    ∷ []

-- 41: a sign that is missing, doubled, or too much
abbrev misplaced : List Case
misplaced =
    refused "()" 41
    ∷ refused "L.()" 41
    ∷ refused ")" 41
    ∷ refused "0)" 41
    ∷ refused "(0))" 41
    ∷ refused ")0(" 41
    ∷ refused "&0" 41
    ∷ refused "*0" 41
    ∷ refused "0&&0" 41
    ∷ refused "0**0" 41
    ∷ refused "0*&0" 41
    ∷ refused "L.*0" 41
    ∷ refused "(&0)" 41
    ∷ refused "00" 41
    ∷ refused "0L.0" 41
    ∷ refused "(0)(0)" 41
    ∷ refused "(0)0" 41
    ∷ refused "0(0)" 41
    ∷ refused "^0" 41
    ∷ refused "^^L.0" 41
    ∷ refused "L^L.0" 41
    ∷ refused "^L^L.0" 41
    ∷ refused "L0" 41
    ∷ refused "^L0" 41
    ∷ refused "L..0" 41
    ∷ refused ".0" 41
    ∷ refused "L.0.0" 41
    ∷ refused "L.0." 41
    ∷ []

-- 41: another sign
abbrev strangers : List Case
strangers =
    refused "l.0" 41
    ∷ refused "O" 41
    ∷ refused "1" 41
    ∷ refused "a" 41
    ∷ refused "L.a" 41
    ∷ refused "^l.0" 41
    ∷ refused " 0" 41
    ∷ refused "0 " 41
    ∷ refused "L. 0" 41
    ∷ refused "0 &0" 41
    ∷ refused "0\n" 41
    ∷ refused "\n" 41
    ∷ refused "[0]" 41
    ∷ refused "0+0" 41
    ∷ refused "0|0" 41
    ∷ refused_bytes (0 ∷ []) 41  -- a byte of 0, which is what lies behind the end
    ∷ refused_bytes (48 ∷ 0 ∷ []) 41
    ∷ refused_bytes (76 ∷ 46 ∷ 0 ∷ []) 41
    ∷ refused_bytes (255 ∷ []) 41
    ∷ refused_bytes (48 ∷ 255 ∷ []) 41
    ∷ []

-- 256 bytes are read, 257 are 40, whatever they are
abbrev lengths : List Case
lengths =
    reads_bytes (again 51 "L.^L." ++ bytes "0") 0 (pos 0) true
    ∷ reads_bytes (again 51 "L." ++ again 51 "^L." ++ bytes "0") 0 (pos 0) true
    ∷ reads_bytes (again 126 "0&" ++ bytes "^L.0") 1 (pos 0) false
    ∷ refused_bytes (again 256 "(") 41
    ∷ refused_bytes (again 256 "0") 41
    ∷ refused_bytes (again 128 "0*" ++ bytes "0") 40
    ∷ refused_bytes (again 128 "L." ++ bytes "0") 40
    ∷ refused_bytes (again 51 "L.^L." ++ bytes "0)") 40
    ∷ refused_bytes (nested 128 (bytes "0")) 40
    ∷ refused_bytes (again 257 "(") 40
    ∷ refused_bytes (again 257 "0") 40
    ∷ refused_bytes (again 300 "0 ") 40
    ∷ []

-- 16 brackets are read, 17 are 42; side by side they do not count
abbrev depths : List Case
depths =
    reads_bytes (nested 16 (bytes "0")) 0 (pos 0) true
    ∷ reads_bytes (nested 16 (bytes "^L.0")) 1 (minus 1) false
    ∷ refused_bytes (nested 17 (bytes "0")) 42
    ∷ refused_bytes (nested 17 (bytes "^L.0")) 42
    ∷ refused_bytes (nested 127 (bytes "0")) 42
    ∷ reads_bytes (again 16 "(0)*" ++ bytes "(0)") 0 (pos 0) true
    ∷ reads_bytes (again 16 "(0)&" ++ bytes "(0)") 0 (pos 0) true
    ∷ reads_bytes (again 16 "L.(" ++ bytes "0" ++ again 16 ")") 0 (pos 16) false
    ∷ refused_bytes (again 17 "L.(" ++ bytes "0" ++ again 17 ")") 42
    ∷ refused_bytes (bytes "0*" ++ nested 17 (bytes "0")) 42
    ∷ refused_bytes (nested 16 (bytes "0") ++ bytes "&" ++ nested 17 (bytes "0")) 42
    ∷ reads_bytes (nested 16 (bytes "0") ++ bytes "&" ++ nested 16 (bytes "0")) 0 (pos 0) true
    ∷ []

-- 41 before 42: the rest is read all the same
abbrev deep_and_wrong : List Case
deep_and_wrong =
    refused_bytes (nested 17 (bytes "0") ++ bytes "0") 41
    ∷ refused_bytes (again 17 "(" ++ bytes "0" ++ again 16 ")") 41
    ∷ refused_bytes (again 17 "(" ++ bytes "0" ++ again 18 ")") 41
    ∷ refused_bytes (nested 17 (bytes "L")) 41
    ∷ refused_bytes (nested 17 (bytes "")) 41
    ∷ refused_bytes (nested 17 (bytes "0&")) 41
    ∷ refused_bytes (nested 17 (bytes "0") ++ bytes "&") 41
    ∷ refused_bytes (again 128 "(" ++ bytes "0" ++ again 127 ")") 41
    ∷ []

-- a dip of 63 is read, one of 64 is 43; so are ends of 63 and -63, and of 64 and -64
abbrev ranges : List Case
ranges =
    reads_bytes (again 63 "^L." ++ bytes "0") 63 (minus 63) false
    ∷ refused_bytes (again 64 "^L." ++ bytes "0") 43
    ∷ reads_bytes (again 63 "^L." ++ bytes "L.0") 63 (minus 62) false
    ∷ refused_bytes (again 64 "^L." ++ bytes "L.0") 43  -- dip 64, end -63
    ∷ reads_bytes (again 63 "L." ++ bytes "0") 0 (pos 63) false
    ∷ refused_bytes (again 64 "L." ++ bytes "0") 43
    ∷ refused_bytes (again 127 "L." ++ bytes "0") 43
    ∷ refused_bytes (again 85 "^L." ++ bytes "0") 43
    ∷ reads_bytes (again 32 "L." ++ bytes "0*" ++ again 31 "L." ++ bytes "0") 0 (pos 63) false
    ∷ refused_bytes (again 32 "L." ++ bytes "0*" ++ again 32 "L." ++ bytes "0") 43
    ∷ reads_bytes (again 32 "^L." ++ bytes "0*" ++ again 31 "^L." ++ bytes "0") 63 (minus 63) false
    ∷ refused_bytes (again 32 "^L." ++ bytes "0*" ++ again 32 "^L." ++ bytes "0") 43
    ∷ reads_bytes (again 63 "^L." ++ bytes "0&L.0") 63 (pos 1) false
    ∷ refused_bytes (again 64 "^L." ++ bytes "0&L.0") 43
    ∷ reads_bytes (again 63 "L." ++ bytes "0&0") 0 (pos 63) false
    ∷ refused_bytes (again 64 "L." ++ bytes "0&0") 43
    ∷ []

-- of the whole usage, not of its parts
abbrev wholes : List Case
wholes =
    reads_bytes (bytes "L." ++ again 64 "^L." ++ bytes "0") 63 (minus 63) false
    ∷ reads_bytes (bytes "^L." ++ again 64 "L." ++ bytes "0") 1 (pos 63) false
    ∷ reads_bytes (again 64 "L." ++ bytes "^L.0") 0 (pos 63) false
    ∷ reads_bytes (again 64 "L." ++ bytes "0*^L.0") 1 (pos 63) false
    ∷ []

-- 41 and 42 before 43
abbrev wide_and_wrong : List Case
wide_and_wrong =
    refused_bytes (again 64 "L." ++ bytes "0)") 41
    ∷ refused_bytes (again 64 "L." ++ bytes "0&") 41
    ∷ refused_bytes (nested 17 (again 64 "L." ++ bytes "0")) 42
    ∷ refused_bytes (nested 16 (again 64 "L." ++ bytes "0")) 43
    ∷ []

abbrev pub cases : List Case
cases = requests ++ papers ++ rows ++ joins ++ prefixes ++ precedence ++ brackets ++ letters ++ cut ++ misplaced ++ strangers ++ lengths ++ depths ++ deep_and_wrong ++ ranges ++ wholes ++ wide_and_wrong

-- ---- the usage itself, where numbers do not tell: how it is grouped
pub record Shape : Type 0 where
  pub shaped : List ℕ
  pub usage : Usage

abbrev is : String → Usage → Shape
is s u = record { shaped = bytes s; usage = u }

abbrev pub shapes : List Shape
shapes =
    is "0&L.0&^L.0" (either (either done (lock done)) (unlock done))
    ∷ is "0&(L.0&^L.0)" (either done (either (lock done) (unlock done)))
    ∷ is "0*L.0*^L.0" (both (both done (lock done)) (unlock done))
    ∷ is "0*(L.0*^L.0)" (both done (both (lock done) (unlock done)))
    ∷ is "0&L.0*^L.0" (either done (both (lock done) (unlock done)))
    ∷ is "0*L.0&^L.0" (either (both done (lock done)) (unlock done))
    ∷ is "(0&L.0)*^L.0" (both (either done (lock done)) (unlock done))
    ∷ is "L.0*0" (both (lock done) done)
    ∷ is "L.(0*0)" (lock (both done done))
    ∷ is "^L.0&0" (either (unlock done) done)
    ∷ is "^L.(0&0)" (unlock (either done done))
    ∷ is "((L.(^L.0)))" (lock (unlock done))
    ∷ []
