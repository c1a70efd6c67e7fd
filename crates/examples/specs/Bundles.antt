-- Bundles written out: a line for each address, with its instruction and its row.
use Rattle.std.specs.Prelude.{List, [], ◌∷◌, ◌++◌, ℕ, ◌+◌, ◌-◌, ◌*◌, ◌/◌, ◌%◌, length, replicate}

-- ---- the four bytes of an instruction
abbrev pub i : ℕ → ℕ → ℕ → List ℕ
i opcode operand address = opcode ∷ operand ∷ 0 ∷ address ∷ []

-- h is a handler, 0 is none
abbrev pub inc : List ℕ
inc = i 1 0 0

abbrev pub pop : List ℕ
pop = i 2 0 0

abbrev pub push0 : List ℕ
push0 = i 3 0 0

abbrev pub load : ℕ → List ℕ
load v = i 4 v 0

abbrev pub store : ℕ → List ℕ
store v = i 5 v 0

abbrev pub branch : ℕ → List ℕ
branch target = i 6 0 target

abbrev pub enter : ℕ → ℕ → List ℕ
enter v h = i 7 v h

abbrev pub exit : ℕ → List ℕ
exit v = i 8 v 0

abbrev pub new : ℕ → ℕ → List ℕ
new c h = i 9 c h

abbrev pub start : ℕ → List ℕ
start c = i 10 c 0

abbrev pub athrow : ℕ → List ℕ
athrow h = i 11 0 h

abbrev pub returns : List ℕ
returns = i 12 0 0

abbrev pub getfield : ℕ → ℕ → ℕ → List ℕ
getfield c f h = i 13 (c * 4 + f) h

abbrev pub putfield : ℕ → ℕ → ℕ → List ℕ
putfield c f h = i 14 (c * 4 + f) h

-- ---- the four bytes of an entry
abbrev pub top : List ℕ
top = 2 ∷ 0 ∷ 0 ∷ 0 ∷ []

abbrev pub int : List ℕ
int = 1 ∷ 0 ∷ 0 ∷ 0 ∷ []

abbrev pub none : List ℕ
none = 0 ∷ 0 ∷ 0 ∷ 0 ∷ []

-- a reference of class c with dip d; the end e is given as stored, e + 64
abbrev pub reference : ℕ → ℕ → ℕ → List ℕ
reference c d e = 3 ∷ c ∷ d ∷ e ∷ []

-- .. with (0,0), and with (1,-1)
abbrev pub free : ℕ → List ℕ
free c = reference c 0 64

abbrev pub owing : ℕ → List ℕ
owing c = reference c 1 63

-- a reference of class c that may be null
abbrev pub nullable : ℕ → List ℕ
nullable c = 4 ∷ c ∷ 0 ∷ 0 ∷ []

-- ---- an address: its instruction, and its row's variables and stack in use, top first
pub record Line : Type 0 where
  pub code : List ℕ
  pub variables : List (List ℕ)
  pub stack : List (List ℕ)

abbrev pub line : List ℕ → List (List ℕ) → List (List ℕ) → Line
line code variables stack = record { code = code; variables = variables; stack = stack }

-- a class: V, K, the descriptors of its arguments and of its fields (255 is Int), and its addresses
pub record Source : Type 0 where
  pub vars : ℕ
  pub limit : ℕ
  pub args : List ℕ
  pub fields : List ℕ
  pub lines : List Line

abbrev pub source : ℕ → ℕ → List ℕ → List ℕ → List Line → Source
source vars limit args fields lines = record { vars = vars; limit = limit; args = args; fields = fields; lines = lines }

-- ---- the bytes of it all
abbrev pub joined : List (List ℕ) → List ℕ
joined [] = []
joined (x ∷ xs) = x ++ joined xs

abbrev pub codes : List Line → List ℕ
codes [] = []
codes (x ∷ xs) = x.code ++ codes xs

-- below the depth in use stand zeros
abbrev pub rows_of : ℕ → List Line → List ℕ
rows_of limit [] = []
rows_of limit (x ∷ xs) =
    joined x.variables
    ++ (length x.stack ∷ joined x.stack)
    ++ replicate (4 * (limit - length x.stack)) 0
    ++ rows_of limit xs

abbrev pub record_of : Source → List ℕ
record_of x = x.args ++ x.fields ++ codes x.lines ++ rows_of x.limit x.lines

abbrev pub records : List Source → List ℕ
records [] = []
records (x ∷ xs) = record_of x ++ records xs

-- a number in two bytes
abbrev pub bytes : ℕ → List ℕ
bytes n = n / 256 ∷ n % 256 ∷ []

-- the directory, the first record being at an offset
abbrev pub directory : ℕ → List Source → List ℕ
directory offset [] = []
directory offset (x ∷ xs) =
    bytes offset
    ++ (length x.args ∷ x.vars ∷ x.limit ∷ length x.fields ∷ [])
    ++ bytes (length x.lines)
    ++ directory (offset + length (record_of x)) xs

-- the records, the directory, and the trailer, which names the exception class
abbrev pub bundle_of : ℕ → List Source → List ℕ
bundle_of exception xs =
    records xs
    ++ directory 0 xs
    ++ bytes (length (records xs))
    ++ (length xs ∷ exception ∷ [])
    ++ bytes (length (records xs) + 8 * length xs + 8)
    ++ (76 ∷ 75 ∷ [])
