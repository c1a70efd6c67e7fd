-- Document 01, the instruction table: an instruction of four bytes (opcode, operand, address).
use Rattle.std.specs.Prelude.{Bool, true, false, cond, ◌&&◌, ◌||◌, not, List, [], ◌∷◌, ℕ, ◌/◌, ◌%◌, leb, ltb, eqb}
use Rattle.instructions.specs.declared.Addr.{Addr}
use Rattle.instructions.specs.declared.Var.{Var}
use Rattle.instructions.specs.declared.Code.{Code}
use Rattle.instructions.specs.declared.Instruction.{Instruction}
use Rattle.instructions.specs.declared.Instruction.TheVariants.{Inc, Pop, Push0, Load, Store, If, Enter, Exit, New, Start, Throw, Return, Get, Put, Nothing}

abbrev pub addr : ℕ → Addr
addr a = record { 0 = a }

abbrev pub var : ℕ → Var
var v = record { 0 = v }

-- what a part of an instruction, its operand or its address, holds (`none` is 0); `unlisted` of an opcode that is not in the table
pub data Content : Type 0 where
  none : Content
  variable : Content
  class : Content
  field : Content
  target : Content
  handler : Content
  unlisted : Content

-- a line of the table: its opcode, the instruction of an operand x and an address a, what these two hold, and whether address k may hold it
pub record Line : Type 0 where
  pub opcode : ℕ
  pub instruction : ℕ → ℕ → Instruction
  pub operand : Content
  pub address : Content
  pub ends : Bool

abbrev pub goes_on : ℕ → (ℕ → ℕ → Instruction) → Content → Content → Line
goes_on opcode instruction operand address = record { opcode = opcode; instruction = instruction; operand = operand; address = address; ends = false }

abbrev pub may_end : ℕ → (ℕ → ℕ → Instruction) → Content → Content → Line
may_end opcode instruction operand address = record { opcode = opcode; instruction = instruction; operand = operand; address = address; ends = true }

-- No., instruction, operand, address; 13, 14 and the handler of 7 are document 02's, Q-8
unfoldable pub table : List Line
table =
    goes_on 1 (λ x a. Inc) none none
    ∷ goes_on 2 (λ x a. Pop) none none
    ∷ goes_on 3 (λ x a. Push0) none none
    ∷ goes_on 4 (λ x a. Load (var x)) variable none
    ∷ goes_on 5 (λ x a. Store (var x)) variable none
    ∷ goes_on 6 (λ x a. If (addr a)) none target
    ∷ goes_on 7 (λ x a. Enter (var x) (addr a)) variable handler
    ∷ goes_on 8 (λ x a. Exit (var x)) variable none
    ∷ goes_on 9 (λ x a. New x (addr a)) class handler
    ∷ goes_on 10 (λ x a. Start x) class none
    ∷ may_end 11 (λ x a. Throw (addr a)) none handler
    ∷ may_end 12 (λ x a. Return) none none
    ∷ goes_on 13 (λ x a. Get (x / 4) (x % 4) (addr a)) field handler
    ∷ goes_on 14 (λ x a. Put (x / 4) (x % 4) (addr a)) field handler
    ∷ []

abbrev pub no_line : Line
no_line = goes_on 0 (λ x a. Nothing) unlisted unlisted

-- the first line with an opcode, and `no_line` where there is none
unfoldable pub find : List Line → ℕ → Line
find [] opcode = no_line
find (x ∷ xs) opcode = cond (eqb opcode x.opcode) x (find xs opcode)

unfoldable pub line_of : ℕ → Line
line_of opcode = find table opcode

-- the instruction that four bytes are, by their opcode; whether their operand and address keep to the table is `instruction_ok`
abbrev pub decoded : Code → Instruction
decoded x = (line_of x.opcode).instruction x.operand x.address

-- what a part may hold, in a bundle of so many classes, each with so many fields, a method of so many variables and addresses
abbrev pub content_ok : ℕ → (ℕ → ℕ) → ℕ → ℕ → Content → ℕ → Bool
-- 0
content_ok classes fields vars code none x = eqb x 0
-- a variable is below V
content_ok classes fields vars code variable x = ltb x vars
-- a class is one of the bundle's
content_ok classes fields vars code class x = ltb x classes
-- class × 4 + field
content_ok classes fields vars code field x = ltb (x / 4) classes && ltb (x % 4) (fields (x / 4))
-- target 1..k
content_ok classes fields vars code target x = leb 1 x && leb x code
-- handler 0..k, 0 is none
content_ok classes fields vars code handler x = leb x code
content_ok classes fields vars code unlisted x = false

-- the operand and the address are as the opcode's line says
unfoldable pub table_ok : ℕ → (ℕ → ℕ) → ℕ → ℕ → Code → Bool
table_ok classes fields vars code x =
    let y = line_of x.opcode in
    content_ok classes fields vars code y.operand x.operand && content_ok classes fields vars code y.address x.address

-- address k holds athrow or return
unfoldable pub last_ok : ℕ → ℕ → Code → Bool
last_ok code l x = not (eqb l code) || (line_of x.opcode).ends

-- the instruction at address l breaks nothing of the table
unfoldable pub instruction_ok : ℕ → (ℕ → ℕ) → ℕ → ℕ → ℕ → Code → Bool
instruction_ok classes fields vars code l x = table_ok classes fields vars code x && last_ok code l x
