-- Attributes with what they give, worked out by hand from document 02's sentences.
use Rattle.std.specs.Prelude.{◌≡◌, List, [], ◌∷◌, ◌++◌, map, ℕ, zero, suc, ◌/◌, ◌%◌, ◌<◌, length, replicate, drop}
use Rattle.offsets.specs.Targets.{target_of}
use Rattle.classfile.specs.Taking.{Taken}
use Rattle.classfile.specs.Taking.{taken}

-- an attribute of this code and this exception table
abbrev attribute : List ℕ → List ℕ → List ℕ
attribute code table = 0 ∷ 1 ∷ 0 ∷ 0 ∷ 0 ∷ 0 ∷ 0 ∷ 4 ∷ 0 ∷ 4 ∷ 0 ∷ 0 ∷ 0 ∷ length code ∷ (code ++ 0 ∷ length table / 8 ∷ table)

-- the fields before the code's length, none of which is read
abbrev head : List ℕ
head = 255 ∷ 254 ∷ 253 ∷ 252 ∷ 251 ∷ 250 ∷ 249 ∷ 248 ∷ 247 ∷ 246 ∷ []

-- an entry of the exception table
abbrev entry : ℕ → ℕ → ℕ → List ℕ
entry start end handler = 0 ∷ start ∷ 0 ∷ end ∷ 0 ∷ handler ∷ 0 ∷ 0 ∷ []

-- an instruction of document 01's table
abbrev row : ℕ → ℕ → ℕ → List ℕ
row opcode operand address = opcode ∷ operand ∷ 0 ∷ address ∷ []

-- one class, whose constant-pool index is 7
abbrev list : List ℕ
list = 0 ∷ 7 ∷ []

-- a lent buffer as it comes
abbrev pub fresh : ℕ → List ℕ
fresh room = replicate room 165

pub record Case : Type 0 where
  pub input : List ℕ
  pub classes : List ℕ
  pub room : ℕ
  pub answer : Taken
  pub out : List ℕ

-- these bytes are written, and past them the buffer is as it came
abbrev writes_from : List ℕ → List ℕ → ℕ → List ℕ → Case
writes_from input classes room bytes =
    record { input = input; classes = classes; room = room; answer = taken 0 (length bytes / 4); out = bytes ++ drop (length bytes) (fresh room) }

abbrev refused_from : List ℕ → List ℕ → ℕ → ℕ → ℕ → Case
refused_from input classes room number offset =
    record { input = input; classes = classes; room = room; answer = taken number offset; out = fresh room }

abbrev writes : List ℕ → List ℕ → ℕ → List ℕ → Case
writes code table room bytes = writes_from (attribute code table) list room bytes

abbrev refused : List ℕ → List ℕ → ℕ → ℕ → ℕ → Case
refused code table room number offset = refused_from (attribute code table) list room number offset

-- what is taken, each form by itself: no handler, and room to spare
abbrev forms : List Case
forms =
    -- nop, pop, iconst_0, return, athrow
    writes (0 ∷ 87 ∷ 3 ∷ 177 ∷ 191 ∷ []) [] 17 (row 2 0 0 ++ row 3 0 0 ++ row 12 0 0 ++ row 11 0 0)
    -- iload, aload, istore, astore: long, and short for the variables 0 to 3
    ∷ writes (21 ∷ 9 ∷ 26 ∷ 27 ∷ 28 ∷ 29 ∷ []) [] 20 (row 4 9 0 ++ row 4 0 0 ++ row 4 1 0 ++ row 4 2 0 ++ row 4 3 0)
    ∷ writes (25 ∷ 9 ∷ 42 ∷ 43 ∷ 44 ∷ 45 ∷ []) [] 20 (row 4 9 0 ++ row 4 0 0 ++ row 4 1 0 ++ row 4 2 0 ++ row 4 3 0)
    ∷ writes (54 ∷ 9 ∷ 59 ∷ 60 ∷ 61 ∷ 62 ∷ []) [] 20 (row 5 9 0 ++ row 5 0 0 ++ row 5 1 0 ++ row 5 2 0 ++ row 5 3 0)
    ∷ writes (58 ∷ 9 ∷ 75 ∷ 76 ∷ 77 ∷ 78 ∷ []) [] 20 (row 5 9 0 ++ row 5 0 0 ++ row 5 1 0 ++ row 5 2 0 ++ row 5 3 0)
    -- variables up to 255
    ∷ writes (21 ∷ 255 ∷ 25 ∷ 255 ∷ 54 ∷ 255 ∷ 58 ∷ 255 ∷ []) [] 16 (row 4 255 0 ++ row 4 255 0 ++ row 5 255 0 ++ row 5 255 0)
    -- an aload and monitorenter, an aload and monitorexit: long, then short
    ∷ writes (25 ∷ 9 ∷ 194 ∷ 25 ∷ 9 ∷ 195 ∷ []) [] 8 (row 7 9 0 ++ row 8 9 0)
    ∷ writes (42 ∷ 194 ∷ 43 ∷ 194 ∷ 44 ∷ 194 ∷ 45 ∷ 194 ∷ []) [] 16 (row 7 0 0 ++ row 7 1 0 ++ row 7 2 0 ++ row 7 3 0)
    ∷ writes (42 ∷ 195 ∷ 43 ∷ 195 ∷ 44 ∷ 195 ∷ 45 ∷ 195 ∷ []) [] 16 (row 8 0 0 ++ row 8 1 0 ++ row 8 2 0 ++ row 8 3 0)
    -- a variable's number that reads as a lock instruction is none
    ∷ writes (25 ∷ 194 ∷ 177 ∷ 25 ∷ 195 ∷ 195 ∷ []) [] 12 (row 4 194 0 ++ row 12 0 0 ++ row 8 195 0)
    ∷ writes (54 ∷ 42 ∷ 177 ∷ []) [] 8 (row 5 42 0 ++ row 12 0 0)
    -- iinc by 1; ifne to what follows; new
    ∷ writes (132 ∷ 9 ∷ 1 ∷ []) [] 12 (row 4 9 0 ++ row 1 0 0 ++ row 5 9 0)
    ∷ writes (154 ∷ 0 ∷ 3 ∷ 177 ∷ []) [] 8 (row 6 0 2 ++ row 12 0 0)
    ∷ writes (187 ∷ 0 ∷ 7 ∷ []) [] 4 (row 9 0 0)
    -- only nops: nothing is written
    ∷ writes (0 ∷ 0 ∷ []) [] 5 []
    ∷ []

-- 31
abbrev unknowns : List Case
unknowns =
    -- cut off by the code's end, after one byte or two
    refused (3 ∷ 21 ∷ []) [] 8 31 1
    ∷ refused (3 ∷ 25 ∷ []) [] 8 31 1
    ∷ refused (3 ∷ 54 ∷ []) [] 8 31 1
    ∷ refused (3 ∷ 58 ∷ []) [] 8 31 1
    ∷ refused (3 ∷ 154 ∷ []) [] 8 31 1
    ∷ refused (3 ∷ 154 ∷ 0 ∷ []) [] 8 31 1
    ∷ refused (3 ∷ 187 ∷ []) [] 8 31 1
    ∷ refused (3 ∷ 132 ∷ []) [] 8 31 1
    ∷ refused (3 ∷ 132 ∷ 0 ∷ []) [] 16 31 1
    -- .. although the class with index 0 is in the list
    ∷ refused_from (attribute (3 ∷ 187 ∷ 0 ∷ []) []) (0 ∷ 0 ∷ []) 8 31 1
    -- iinc by 0, 2, -1 and -127
    ∷ refused (132 ∷ 1 ∷ 0 ∷ []) [] 12 31 0
    ∷ refused (132 ∷ 1 ∷ 2 ∷ []) [] 12 31 0
    ∷ refused (132 ∷ 1 ∷ 255 ∷ []) [] 12 31 0
    ∷ refused (132 ∷ 1 ∷ 129 ∷ []) [] 12 31 0
    -- wide, of an iload and of an iinc by 1
    ∷ refused (3 ∷ 196 ∷ 21 ∷ 0 ∷ 1 ∷ []) [] 40 31 1
    ∷ refused (196 ∷ 132 ∷ 0 ∷ 0 ∷ 0 ∷ 1 ∷ []) [] 40 31 0
    -- a lock instruction by itself, after a nop, after an iload, and after an aload that has its own
    ∷ refused (194 ∷ 177 ∷ []) [] 8 31 0
    ∷ refused (195 ∷ 177 ∷ []) [] 8 31 0
    ∷ refused (42 ∷ 0 ∷ 194 ∷ []) [] 12 31 2
    ∷ refused (42 ∷ 0 ∷ 195 ∷ []) [] 12 31 2
    ∷ refused (26 ∷ 194 ∷ []) [] 12 31 1
    ∷ refused (21 ∷ 0 ∷ 195 ∷ []) [] 12 31 2
    ∷ refused (42 ∷ 194 ∷ 194 ∷ []) [] 12 31 2
    ∷ refused (25 ∷ 0 ∷ 194 ∷ 195 ∷ []) [] 12 31 3
    -- the first of two; and before an ifne's 32 and a table entry's, however late in the code
    ∷ refused (3 ∷ 1 ∷ 1 ∷ []) [] 12 31 1
    ∷ refused (154 ∷ 0 ∷ 1 ∷ 1 ∷ []) (entry 0 0 9) 0 31 3
    ∷ []

-- class numbers
abbrev classes : List Case
classes =
    -- not in the list
    refused (187 ∷ 0 ∷ 8 ∷ []) [] 8 31 0
    ∷ refused (187 ∷ 1 ∷ 7 ∷ []) [] 8 31 0
    ∷ refused (187 ∷ 7 ∷ 0 ∷ []) [] 8 31 0
    -- the first place; two bytes a place
    ∷ writes_from (attribute (187 ∷ 0 ∷ 9 ∷ 187 ∷ 0 ∷ 7 ∷ []) []) (0 ∷ 7 ∷ 0 ∷ 9 ∷ 0 ∷ 7 ∷ []) 8 (row 9 1 0 ++ row 9 0 0)
    ∷ writes_from (attribute (187 ∷ 1 ∷ 7 ∷ []) []) (0 ∷ 7 ∷ 1 ∷ 7 ∷ []) 4 (row 9 1 0)
    ∷ refused_from (attribute (187 ∷ 0 ∷ 7 ∷ []) []) (5 ∷ 0 ∷ 7 ∷ 5 ∷ []) 4 31 0
    -- eight are read
    ∷ writes_from (attribute (187 ∷ 0 ∷ 8 ∷ []) []) (0 ∷ 1 ∷ 0 ∷ 2 ∷ 0 ∷ 3 ∷ 0 ∷ 4 ∷ 0 ∷ 5 ∷ 0 ∷ 6 ∷ 0 ∷ 7 ∷ 0 ∷ 8 ∷ 0 ∷ 9 ∷ []) 4 (row 9 7 0)
    ∷ refused_from (attribute (187 ∷ 0 ∷ 9 ∷ []) []) (0 ∷ 1 ∷ 0 ∷ 2 ∷ 0 ∷ 3 ∷ 0 ∷ 4 ∷ 0 ∷ 5 ∷ 0 ∷ 6 ∷ 0 ∷ 7 ∷ 0 ∷ 8 ∷ 0 ∷ 9 ∷ []) 4 31 0
    -- a place that is not there holds no index, half a place neither
    ∷ refused_from (attribute (187 ∷ 0 ∷ 0 ∷ []) []) [] 4 31 0
    ∷ refused_from (attribute (187 ∷ 0 ∷ 0 ∷ []) []) (0 ∷ 7 ∷ 0 ∷ []) 4 31 0
    ∷ writes_from (attribute (187 ∷ 0 ∷ 0 ∷ []) []) (0 ∷ 7 ∷ 0 ∷ 0 ∷ []) 4 (row 9 1 0)
    ∷ []

-- handlers
abbrev ranges : List Case
ranges =
    -- aload_0 monitorenter; iinc 1 1; new 7; pop; nop; aload_0 monitorexit; return; athrow: the entry covers from the lock byte up to the pop, its handler is the athrow
    writes (42 ∷ 194 ∷ 132 ∷ 1 ∷ 1 ∷ 187 ∷ 0 ∷ 7 ∷ 87 ∷ 0 ∷ 42 ∷ 195 ∷ 177 ∷ 191 ∷ []) (entry 1 9 13) 40
    (row 7 0 9 ++ row 4 1 0 ++ row 1 0 0 ++ row 5 1 0 ++ row 9 0 9 ++ row 2 0 0 ++ row 8 0 0 ++ row 12 0 0 ++ row 11 0 0)
    -- nop, athrow, return: a range from the athrow on, up to it, an empty one and a turned one
    ∷ writes (0 ∷ 191 ∷ 177 ∷ []) (entry 1 2 2) 8 (row 11 0 2 ++ row 12 0 0)
    ∷ writes (0 ∷ 191 ∷ 177 ∷ []) (entry 0 1 2) 8 (row 11 0 0 ++ row 12 0 0)
    ∷ writes (0 ∷ 191 ∷ 177 ∷ []) (entry 2 3 2) 8 (row 11 0 0 ++ row 12 0 0)
    ∷ writes (0 ∷ 191 ∷ 177 ∷ []) (entry 1 1 2) 8 (row 11 0 0 ++ row 12 0 0)
    ∷ writes (0 ∷ 191 ∷ 177 ∷ []) (entry 2 1 2) 8 (row 11 0 0 ++ row 12 0 0)
    -- of two that cover it the first wins; a handler at a nop is at what is written after it
    ∷ writes (0 ∷ 191 ∷ 177 ∷ []) (entry 1 2 2 ++ entry 0 3 0) 8 (row 11 0 2 ++ row 12 0 0)
    ∷ writes (0 ∷ 191 ∷ 177 ∷ []) (entry 1 2 0 ++ entry 0 3 2) 8 (row 11 0 1 ++ row 12 0 0)
    ∷ writes (0 ∷ 191 ∷ 177 ∷ []) (entry 0 1 1 ++ entry 0 3 2 ++ entry 0 3 1) 8 (row 11 0 2 ++ row 12 0 0)
    -- start and end are two bytes each, and are not checked; a catch type is not read
    ∷ writes (0 ∷ 191 ∷ 177 ∷ []) (1 ∷ 0 ∷ 2 ∷ 0 ∷ 0 ∷ 2 ∷ 0 ∷ 0 ∷ []) 8 (row 11 0 0 ++ row 12 0 0)
    ∷ writes (0 ∷ 191 ∷ 177 ∷ []) (0 ∷ 0 ∷ 1 ∷ 0 ∷ 0 ∷ 2 ∷ 9 ∷ 9 ∷ []) 8 (row 11 0 2 ++ row 12 0 0)
    ∷ writes (0 ∷ 191 ∷ 177 ∷ []) (0 ∷ 0 ∷ 255 ∷ 255 ∷ 0 ∷ 1 ∷ 255 ∷ 255 ∷ []) 8 (row 11 0 1 ++ row 12 0 0)
    -- a pair is covered as its lock is
    ∷ writes (42 ∷ 194 ∷ 177 ∷ []) (entry 1 2 2) 8 (row 7 0 2 ++ row 12 0 0)
    ∷ writes (42 ∷ 194 ∷ 177 ∷ []) (entry 0 1 2) 8 (row 7 0 0 ++ row 12 0 0)
    ∷ writes (25 ∷ 9 ∷ 194 ∷ 177 ∷ []) (entry 2 3 3) 8 (row 7 9 2 ++ row 12 0 0)
    ∷ writes (25 ∷ 9 ∷ 194 ∷ 177 ∷ []) (entry 0 2 3) 8 (row 7 9 0 ++ row 12 0 0)
    -- an entry that ends at the lock byte does not cover the pair; of two that cover the athrow the first wins
    ∷ writes (42 ∷ 194 ∷ 191 ∷ 177 ∷ []) (entry 0 1 3 ++ entry 2 3 3 ++ entry 0 4 2) 12 (row 7 0 2 ++ row 11 0 3 ++ row 12 0 0)
    -- new and athrow are covered by their first byte
    ∷ writes (187 ∷ 0 ∷ 7 ∷ 177 ∷ []) (entry 0 1 3) 8 (row 9 0 2 ++ row 12 0 0)
    ∷ writes (187 ∷ 0 ∷ 7 ∷ 177 ∷ []) (entry 1 3 3) 8 (row 9 0 0 ++ row 12 0 0)
    -- no other instruction has a handler
    ∷ writes (42 ∷ 195 ∷ 3 ∷ 87 ∷ 43 ∷ 76 ∷ 177 ∷ []) (entry 0 7 6) 24 (row 8 0 0 ++ row 3 0 0 ++ row 2 0 0 ++ row 4 1 0 ++ row 5 1 0 ++ row 12 0 0)
    ∷ writes (132 ∷ 1 ∷ 1 ∷ 154 ∷ 0 ∷ 3 ∷ 177 ∷ []) (entry 0 7 6) 20 (row 4 1 0 ++ row 1 0 0 ++ row 5 1 0 ++ row 6 0 5 ++ row 12 0 0)
    ∷ []

-- targets, and 32
abbrev targets : List Case
targets =
    -- a branch to a nop goes to what is written after it; a branch back
    writes (3 ∷ 154 ∷ 0 ∷ 4 ∷ 177 ∷ 0 ∷ 3 ∷ 154 ∷ 255 ∷ 249 ∷ 177 ∷ []) [] 24
    (row 3 0 0 ++ row 6 0 4 ++ row 12 0 0 ++ row 3 0 0 ++ row 6 0 1 ++ row 12 0 0)
    -- to itself; to the first instruction; behind an iinc; to the second of three nops
    ∷ writes (3 ∷ 154 ∷ 0 ∷ 0 ∷ []) [] 8 (row 3 0 0 ++ row 6 0 2)
    ∷ writes (3 ∷ 154 ∷ 255 ∷ 255 ∷ []) [] 8 (row 3 0 0 ++ row 6 0 1)
    ∷ writes (154 ∷ 0 ∷ 6 ∷ 132 ∷ 0 ∷ 1 ∷ 177 ∷ []) [] 20 (row 6 0 5 ++ row 4 0 0 ++ row 1 0 0 ++ row 5 0 0 ++ row 12 0 0)
    ∷ writes (154 ∷ 0 ∷ 4 ∷ 0 ∷ 0 ∷ 0 ∷ 177 ∷ []) [] 8 (row 6 0 2 ++ row 12 0 0)
    -- to an iinc, and to a pair: the first that is written for it
    ∷ writes (154 ∷ 0 ∷ 3 ∷ 132 ∷ 0 ∷ 1 ∷ []) [] 16 (row 6 0 2 ++ row 4 0 0 ++ row 1 0 0 ++ row 5 0 0)
    ∷ writes (154 ∷ 0 ∷ 3 ∷ 42 ∷ 194 ∷ []) [] 8 (row 6 0 2 ++ row 7 0 0)
    -- a variable's number that reads as an ifne is none
    ∷ writes (21 ∷ 154 ∷ 0 ∷ 87 ∷ []) [] 8 (row 4 154 0 ++ row 2 0 0)
    -- to the lock byte of a pair, short and long
    ∷ refused (3 ∷ 154 ∷ 0 ∷ 4 ∷ 42 ∷ 194 ∷ 177 ∷ []) [] 40 32 1
    ∷ refused (3 ∷ 154 ∷ 0 ∷ 5 ∷ 25 ∷ 0 ∷ 195 ∷ 177 ∷ []) [] 40 32 1
    -- inside itself, a long load, an iinc and a new, also where the byte there reads as an instruction
    ∷ refused (154 ∷ 0 ∷ 1 ∷ 177 ∷ []) [] 40 32 0
    ∷ refused (154 ∷ 0 ∷ 2 ∷ 177 ∷ []) [] 40 32 0
    ∷ refused (154 ∷ 0 ∷ 4 ∷ 21 ∷ 3 ∷ 177 ∷ []) [] 40 32 0
    ∷ refused (154 ∷ 0 ∷ 4 ∷ 132 ∷ 3 ∷ 1 ∷ 177 ∷ []) [] 40 32 0
    ∷ refused (154 ∷ 0 ∷ 4 ∷ 187 ∷ 0 ∷ 7 ∷ 177 ∷ []) [] 40 32 0
    -- to the code's end, past it, to a nop with nothing written after it, and to one of two
    ∷ refused (3 ∷ 154 ∷ 0 ∷ 3 ∷ []) [] 40 32 1
    ∷ refused (3 ∷ 154 ∷ 0 ∷ 4 ∷ []) [] 40 32 1
    ∷ refused (3 ∷ 154 ∷ 1 ∷ 0 ∷ []) [] 40 32 1
    ∷ refused (3 ∷ 154 ∷ 127 ∷ 255 ∷ []) [] 40 32 1
    ∷ refused (3 ∷ 154 ∷ 0 ∷ 3 ∷ 0 ∷ []) [] 40 32 1
    ∷ refused (3 ∷ 154 ∷ 0 ∷ 3 ∷ 0 ∷ 0 ∷ []) [] 40 32 1
    -- below 0
    ∷ refused (3 ∷ 154 ∷ 255 ∷ 254 ∷ []) [] 40 32 1
    ∷ refused (154 ∷ 255 ∷ 255 ∷ []) [] 40 32 0
    ∷ refused (154 ∷ 128 ∷ 0 ∷ []) [] 40 32 0
    -- the first of two; the second where the first lands; an ifne before any table entry
    ∷ refused (154 ∷ 0 ∷ 1 ∷ 154 ∷ 0 ∷ 1 ∷ []) [] 40 32 0
    ∷ refused (154 ∷ 0 ∷ 3 ∷ 154 ∷ 0 ∷ 1 ∷ []) [] 40 32 3
    ∷ refused (177 ∷ 154 ∷ 0 ∷ 1 ∷ 177 ∷ []) (entry 0 1 3) 40 32 1
    -- a handler at the lock byte, inside an iinc, at the code's end, past it, at a nop with nothing written after it; of an empty range all the same
    ∷ refused (42 ∷ 194 ∷ 177 ∷ []) (entry 0 1 1) 40 32 1
    ∷ refused (132 ∷ 3 ∷ 1 ∷ 177 ∷ []) (entry 0 1 2) 40 32 2
    ∷ refused (177 ∷ []) (entry 0 1 1) 40 32 1
    ∷ refused (177 ∷ []) (0 ∷ 0 ∷ 0 ∷ 1 ∷ 1 ∷ 0 ∷ 0 ∷ 0 ∷ []) 40 32 256
    ∷ refused (177 ∷ []) (0 ∷ 0 ∷ 0 ∷ 1 ∷ 255 ∷ 255 ∷ 0 ∷ 0 ∷ []) 40 32 65535
    ∷ refused (0 ∷ 0 ∷ []) (entry 0 0 1) 0 32 1
    ∷ refused (177 ∷ 0 ∷ []) (entry 1 0 1) 40 32 1
    -- the first such entry in the table's order
    ∷ refused (177 ∷ []) (entry 0 1 0 ++ entry 0 1 5 ++ entry 0 1 3) 40 32 5
    -- before 34
    ∷ refused (3 ∷ 154 ∷ 0 ∷ 1 ∷ []) [] 0 32 1
    ∷ refused (3 ∷ []) (entry 0 1 1) 0 32 1
    ∷ []

-- 34, and what lies behind what is written
abbrev rooms : List Case
rooms =
    writes (177 ∷ []) [] 4 (row 12 0 0)
    ∷ writes (177 ∷ []) [] 7 (row 12 0 0)
    ∷ refused (177 ∷ []) [] 3 34 0
    ∷ refused (177 ∷ []) [] 0 34 0
    ∷ refused (3 ∷ 177 ∷ []) [] 7 34 1
    ∷ refused (3 ∷ 87 ∷ 177 ∷ []) [] 4 34 1
    -- a nop is no offender
    ∷ refused (0 ∷ 0 ∷ 177 ∷ []) [] 0 34 2
    ∷ refused (177 ∷ 0 ∷ 0 ∷ 177 ∷ []) [] 4 34 3
    -- a pair by its aload's offset
    ∷ refused (0 ∷ 42 ∷ 194 ∷ []) [] 3 34 1
    ∷ refused (3 ∷ 25 ∷ 0 ∷ 195 ∷ 177 ∷ []) [] 4 34 1
    -- an iinc of which none, one or two fit is named itself
    ∷ refused (177 ∷ 132 ∷ 1 ∷ 1 ∷ []) [] 4 34 1
    ∷ refused (177 ∷ 132 ∷ 1 ∷ 1 ∷ []) [] 8 34 1
    ∷ refused (177 ∷ 132 ∷ 1 ∷ 1 ∷ 177 ∷ []) [] 15 34 1
    ∷ writes (177 ∷ 132 ∷ 1 ∷ 1 ∷ []) [] 16 (row 12 0 0 ++ row 4 1 0 ++ row 1 0 0 ++ row 5 1 0)
    ∷ refused (177 ∷ 132 ∷ 1 ∷ 1 ∷ 177 ∷ []) [] 16 34 4
    ∷ []

-- 30: the input cut short at each field, and lengths that it has not
abbrev ends : List Case
ends =
    -- no code; nothing at all; nothing behind the head; a code length cut short; no code behind it; one byte of two
    refused [] [] 4 30 0
    ∷ refused_from [] list 4 30 0
    ∷ refused_from head list 4 30 0
    ∷ refused_from (head ++ 0 ∷ 0 ∷ 0 ∷ []) list 4 30 0
    ∷ refused_from (head ++ 0 ∷ 0 ∷ 0 ∷ 1 ∷ []) list 4 30 0
    ∷ refused_from (head ++ 0 ∷ 0 ∷ 0 ∷ 2 ∷ 177 ∷ []) list 4 30 0
    -- no table length; one byte of it; a table without its only entry, and with seven bytes of it; with one entry of 256
    ∷ refused_from (head ++ 0 ∷ 0 ∷ 0 ∷ 1 ∷ 177 ∷ []) list 4 30 0
    ∷ refused_from (head ++ 0 ∷ 0 ∷ 0 ∷ 1 ∷ 177 ∷ 0 ∷ []) list 4 30 0
    ∷ refused_from (head ++ 0 ∷ 0 ∷ 0 ∷ 1 ∷ 177 ∷ 0 ∷ 1 ∷ []) list 4 30 0
    ∷ refused_from (head ++ 0 ∷ 0 ∷ 0 ∷ 1 ∷ 177 ∷ 0 ∷ 1 ∷ 0 ∷ 0 ∷ 0 ∷ 1 ∷ 0 ∷ 0 ∷ 0 ∷ []) list 4 30 0
    ∷ refused_from (head ++ 0 ∷ 0 ∷ 0 ∷ 1 ∷ 177 ∷ 1 ∷ 0 ∷ 0 ∷ 0 ∷ 0 ∷ 1 ∷ 0 ∷ 0 ∷ 0 ∷ 0 ∷ []) list 4 30 0
    -- whole, without a table, with one, and with more behind it
    ∷ writes_from (head ++ 0 ∷ 0 ∷ 0 ∷ 1 ∷ 177 ∷ 0 ∷ 0 ∷ []) list 4 (row 12 0 0)
    ∷ writes_from (head ++ 0 ∷ 0 ∷ 0 ∷ 1 ∷ 191 ∷ 0 ∷ 1 ∷ 0 ∷ 0 ∷ 0 ∷ 1 ∷ 0 ∷ 0 ∷ 0 ∷ 0 ∷ []) list 4 (row 11 0 1)
    ∷ writes_from (head ++ 0 ∷ 0 ∷ 0 ∷ 1 ∷ 191 ∷ 0 ∷ 0 ∷ 0 ∷ 0 ∷ 0 ∷ 1 ∷ 0 ∷ 0 ∷ 0 ∷ 0 ∷ []) list 4 (row 11 0 0)
    -- a code length of 257, 65537, 16777217, and near 2^32, where 14 more would be 0, 1 and 13
    ∷ refused_from (head ++ 0 ∷ 0 ∷ 1 ∷ 1 ∷ 177 ∷ 0 ∷ 0 ∷ []) list 4 30 0
    ∷ refused_from (head ++ 0 ∷ 1 ∷ 0 ∷ 1 ∷ 177 ∷ 0 ∷ 0 ∷ []) list 4 30 0
    ∷ refused_from (head ++ 1 ∷ 0 ∷ 0 ∷ 1 ∷ 177 ∷ 0 ∷ 0 ∷ []) list 4 30 0
    ∷ refused_from (head ++ 255 ∷ 255 ∷ 255 ∷ 242 ∷ 177 ∷ 0 ∷ 0 ∷ []) list 4 30 0
    ∷ refused_from (head ++ 255 ∷ 255 ∷ 255 ∷ 243 ∷ 177 ∷ 0 ∷ 0 ∷ []) list 4 30 0
    ∷ refused_from (head ++ 255 ∷ 255 ∷ 255 ∷ 255 ∷ 177 ∷ 0 ∷ 0 ∷ []) list 4 30 0
    -- .. and 0 again, where the first bytes would do for an empty table
    ∷ refused_from (replicate 10 0 ++ 255 ∷ 255 ∷ 255 ∷ 242 ∷ 177 ∷ 0 ∷ 0 ∷ []) list 4 30 0
    ∷ refused_from (replicate 10 0 ++ 255 ∷ 255 ∷ 255 ∷ 240 ∷ 177 ∷ 0 ∷ 0 ∷ []) list 4 30 0
    -- before all else
    ∷ refused_from (head ++ 0 ∷ 0 ∷ 0 ∷ 1 ∷ 1 ∷ 0 ∷ 1 ∷ []) list 0 30 0
    ∷ []

-- n numbers from a on
unfoldable pub from : ℕ → ℕ → List ℕ
from a zero = []
from a (suc n) = a ∷ from (suc a) n

-- a code of this byte, 0 and 1 (nop and aconst_null, which is not taken)
abbrev begun : ℕ → ℕ → Case
begun offset op = refused (op ∷ 0 ∷ 1 ∷ []) [] 12 31 offset

-- each first byte: behind one that is taken, of one byte or two, the 1 is not (ifne, new and iinc have three); all others are not taken themselves
unfoldable pub firsts : List Case
firsts =
    map (begun 2) (0 ∷ 3 ∷ 21 ∷ 25 ∷ from 26 4 ++ from 42 4 ++ 54 ∷ 58 ∷ from 59 4 ++ from 75 4 ++ 87 ∷ 177 ∷ 191 ∷ [])
    ++ map (begun 0) (from 1 2 ++ from 4 17 ++ from 22 3 ++ from 30 12 ++ from 46 8 ++ from 55 3 ++ from 63 12 ++ from 79 8 ++ from 88 44 ++ from 133 21 ++ from 155 22 ++ from 178 9 ++ from 188 3 ++ from 192 64)

abbrev pub cases : List Case
cases = forms ++ unknowns ++ classes ++ ranges ++ targets ++ rooms ++ ends ++ firsts

-- 33 and 34: a code of n iconst_0, n below 65,536, and what is answered; as computing it would take long, its answers are proved
pub record Many : Type 0 where
  pub count : ℕ
  pub room : ℕ
  pub answer : Taken

abbrev pub constants : ℕ → List ℕ
constants n = head ++ 0 ∷ 0 ∷ n / 256 ∷ n % 256 ∷ (replicate n 3 ++ 0 ∷ 0 ∷ [])

abbrev many : ℕ → ℕ → ℕ → ℕ → Many
many count room number offset = record { count = count; room = room; answer = taken number offset }

abbrev pub manies : List Many
manies =
    -- 256 and room for them; for all but the last; for none
    many 256 1024 0 256
    ∷ many 256 1023 34 255
    ∷ many 256 3 34 0
    -- the 257th is one too many, whatever the room
    ∷ many 257 1028 33 256
    ∷ many 257 1024 33 256
    ∷ many 257 1023 33 256
    ∷ many 257 0 33 256
    ∷ many 300 65535 33 256
    ∷ []

-- branches over more bytes than these have: the furthest forward and back, to offset 0 and below it, and one byte back
abbrev pub Far : Type 0
Far =
    (code : List ℕ) → 40000 < length code
    → (target_of code 40000 32767 ≡ 72767) × (target_of code 40000 32768 ≡ 7232) × (target_of code 32768 32768 ≡ 0) × (target_of code 32767 32768 ≡ length code)
    × (target_of code 40000 65535 ≡ 39999)
