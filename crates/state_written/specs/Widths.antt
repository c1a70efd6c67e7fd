-- How many bytes there are: of a row of equal parts, and of a thread. The laws that `Laid` asks of its types rest on these.
use mathlib.Core.List.{List, [], ◌∷◌, ◌++◌}
use mathlib.Core.Path.{◌≡◌, refl, sym}
use Prim.Native.Nat.{ℕ, zero, suc, ◌+◌, ◌*◌}
use lib.ListN.{length}
use native.Mathlib.Nat.{zero-mul, suc-mul}
use native.Mathlib.Omega.{arith}
use Rattle.ground.specs.Lists.{each}
use Rattle.threads.specs.declared.Thread.{Thread}
use Rattle.state_written.specs.Written.{place_bytes_at, thread_bytes}

pub length_more : (l m : List ℕ) → length (l ++ m) ≡ length l + length m
length_more [] m = omega arith
length_more (x ∷ l) m = omega (arith, length_more l m)

-- n parts of k bytes each
pub long-each : (f : ℕ → List ℕ) (k : ℕ) → ((i : ℕ) → length (f i) ≡ k) → (n : ℕ) → length (each n f) ≡ n * k
unfolding each
long-each f k h zero = sym (zero-mul k)
long-each f k h (suc n) = rw suc-mul (omega (arith, length_more (each n f) (f n), h n, long-each f k h n))

pub thread-long : (t : Thread) → length (thread_bytes t) ≡ 165
unfolding thread_bytes
thread-long t =
    omega (
      arith,
      length_more (each 16 (place_bytes_at t.vars)) (each 16 (place_bytes_at t.stack)),
      long-each (place_bytes_at t.vars) 5 (λ i. refl) 16,
      long-each (place_bytes_at t.stack) 5 (λ i. refl) 16,
    )
