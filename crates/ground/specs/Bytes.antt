-- Numbers and parts read from bytes. Past the end every byte is 0.
use Rattle.std.specs.Prelude.{List, cond, ◌≡◌, ℕ, ◌+◌, ◌*◌, ◌-◌, ltb, length, get_or, take, drop}
use Rattle.std.specs.Borrow.{Bor}

-- the byte at i
abbrev pub at : List ℕ → ℕ → ℕ
at s i = get_or s i 0

-- the two-byte number at i, big-endian
abbrev pub be16 : List ℕ → ℕ → ℕ
be16 s i = at s i * 256 + at s (i + 1)

-- the four-byte number at i, big-endian; 0 where it is not all there
unfoldable pub quad : List ℕ → ℕ → ℕ
quad s i = cond (ltb (i + 3) (length s)) (be16 s i * 65536 + be16 s (i + 2)) 0

-- the part from a up to e, as `&s[a..e]` has it
abbrev pub part : List ℕ → ℕ → ℕ → List ℕ
part s a e = take (e - a) (drop a s)

-- r is the part of the lent bytes b that begins at their place p: no copy, those bytes themselves
abbrev pub Begins : Bor (List ℕ) → Bor (List ℕ) → ℕ → Type 0
Begins r b p = (r.ref_ptr.0 ≡ b.ref_ptr.0) × (r.ref_ptr.1 ≡ b.ref_ptr.1 + p)
