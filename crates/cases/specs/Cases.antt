-- Document 01, cases on both sides, those marked P: what is asked, and what the document answers.
use Rattle.std.specs.Prelude.{List, [], ◌∷◌, ◌++◌, Bool, true, false, ℕ, ℤ, pos, negsuc}
use Rattle.verdicts.specs.declared.Verdict.{Verdict}
use Rattle.verdicts.specs.Verdicts.{verdict, rule_fails}
use Rattle.entries.specs.Entries.{Entry, Int, Ref, Blank}
use Rattle.rows.specs.Rows.{Row}
use Rattle.rules.specs.Rule.{rule_holds}
use Rattle.rules.specs.Rules.{load_rule, store_rule, enter_rule, exit_rule}
use Rattle.verifier.specs.Verdict.{verdict_of}
use Rattle.values.specs.Values.{inc_of}

-- what a case asks for: a verdict, whether a rule holds, or an integer
pub data Answer : Type 0 where
  judged : Verdict → Answer
  held : Bool → Answer
  number : ℤ → Answer

pub record Case : Type 0 where
  pub given : Answer
  pub wanted : Answer

-- ---- A, B, C: class 0, V 1, K 1
abbrev instruction : ℕ → ℕ → ℕ → List ℕ
instruction opcode operand address = opcode ∷ operand ∷ 0 ∷ address ∷ []

-- 1 new 0, no handler; 2 store 0; 3 monitorenter 0; 4 push0; 5 if; 6 monitorexit 0; 7 return; 8 monitorexit 0; 9 return
abbrev code : ℕ → List ℕ
code target =
    instruction 9 0 0
    ++ instruction 5 0 0
    ++ instruction 7 0 0
    ++ instruction 3 0 0
    ++ instruction 6 0 target
    ++ instruction 8 0 0
    ++ instruction 12 0 0
    ++ instruction 8 0 0
    ++ instruction 12 0 0

abbrev top : List ℕ
top = 2 ∷ 0 ∷ 0 ∷ 0 ∷ []

abbrev int : List ℕ
int = 1 ∷ 0 ∷ 0 ∷ 0 ∷ []

-- class 0 with (0,0), and with (1,-1)
abbrev free : List ℕ
free = 3 ∷ 0 ∷ 0 ∷ 64 ∷ []

abbrev owing : List ℕ
owing = 3 ∷ 0 ∷ 1 ∷ 63 ∷ []

-- a row with an empty stack, and one with an entry on it
abbrev empty : List ℕ → List ℕ
empty variable = variable ++ (0 ∷ 0 ∷ 0 ∷ 0 ∷ 0 ∷ [])

abbrev holding : List ℕ → List ℕ → List ℕ
holding variable entry = variable ++ (1 ∷ entry)

abbrev rows : List ℕ → List ℕ
rows last =
    empty top
    ++ holding top free
    ++ empty free
    ++ empty owing
    ++ holding owing int
    ++ empty owing
    ++ empty free
    ++ empty owing
    ++ empty last

-- record 117 bytes at 0, directory at 117, whole bundle 133
abbrev bundle : ℕ → List ℕ → List ℕ
bundle target last = code target ++ rows last ++ (0 ∷ 0 ∷ 0 ∷ 1 ∷ 1 ∷ 0 ∷ 0 ∷ 9 ∷ []) ++ (0 ∷ 117 ∷ 1 ∷ 0 ∷ 0 ∷ 133 ∷ 76 ∷ 75 ∷ [])

abbrev pub case_a : List ℕ
case_a = bundle 8 free

-- A with `if 9`; and that with row 9 at (1,-1)
abbrev pub case_b : List ℕ
case_b = bundle 9 free

abbrev pub case_c : List ℕ
case_c = bundle 9 owing

-- ---- D to H: a rule on two rows of one variable
abbrev row : Entry → Row
row x = record { variable = λ i. x; depth = 0; stack = λ j. Blank }

abbrev row_with : Entry → Entry → Row
row_with x y = record { variable = λ i. x; depth = 1; stack = λ j. y }

-- a reference of class 0 with dip d; the end e is given as stored, e + 64
abbrev pair : ℕ → ℕ → Entry
pair d e = Ref 0 d e

-- A, B (the end is too small), C (the dip is); D: (1,-1) loaded as (0,0) and (1,-1) holds; E: as (1,-1) twice fails; F: store over (1,-1) fails;
-- G: enter from (1,-1) to (2,-2) holds (no handler, so the third row is not looked at); H: exit from (0,0) fails; J: inc of 2147483647 gives -2147483648
abbrev pub cases : List Case
cases =
    record { given = judged (verdict_of case_a); wanted = judged (verdict 0 1 0) }
    ∷ record { given = judged (verdict_of case_b); wanted = judged (rule_fails 0 5 3) }
    ∷ record { given = judged (verdict_of case_c); wanted = judged (rule_fails 0 8 2) }
    ∷ record { given = held (rule_holds 1 (load_rule 0 (row (pair 1 63)) (row_with (pair 0 64) (pair 1 63)))); wanted = held true }
    ∷ record { given = held (rule_holds 1 (load_rule 0 (row (pair 1 63)) (row_with (pair 1 63) (pair 1 63)))); wanted = held false }
    ∷ record { given = held (rule_holds 1 (store_rule 0 (row_with (pair 1 63) Int) (row Int))); wanted = held false }
    ∷ record { given = held (rule_holds 1 (enter_rule 1 0 0 0 (row (pair 1 63)) (row (pair 2 62)) (row Int))); wanted = held true }
    ∷ record { given = held (rule_holds 1 (exit_rule 0 (row (pair 0 64)) (row (pair 0 65)))); wanted = held false }
    ∷ record { given = number (inc_of (pos 2147483647)); wanted = number (negsuc 2147483647) }
    ∷ []
