-- What one write of a word makes of the slots, and what a read gives of the thread that a frame is.
use mathlib.Core.List.{List}
use mathlib.Core.Path.{◌≡◌, ap, ◌∙◌}
use Prim.Native.Nat.{ℕ, ◌+◌, ◌-◌, ◌%◌, ◌<◌, ◌≤◌}
use native.Mathlib.Nat.{mod-eq_of_lt}
use lib.ListN.{length, set}
use lib.Seq.{get_or-set_same, get_or-set_other}
use native.Mathlib.Omega.{arith}
use Rattle.ground.specs.Bytes.{at}
use Rattle.values.specs.Values.{zero_slot}
use Rattle.threads.specs.Threads.{from_top, top_of, var_of}
use Rattle.memory.specs.Tab.{tab}
use Rattle.memory.specs.Words.{slot_of}
use Rattle.memory.specs.declared.Frame.{Frame}
use Rattle.memory.specs.Frames.{slot_in, depth_in, thread_in, top_place, top_in, under_in, var_in}
use Rattle.memory.proofs.Tab.{tab-at, tab-set}

pub slots-set : (n : ℕ) (l : List ℕ) (v w : ℕ) → length l ≡ n → v < n → tab n (slot_in (set l v w)) ≡ set (tab n (slot_in l)) v (slot_of w)
slots-set n l v w z k =
    tab-set n (slot_in l) (slot_in (set l v w)) v (slot_of w) k (ap slot_of (get_or-set_same l v w 0 (omega arith)))
    (λ j m d. ap slot_of (get_or-set_other l v j w 0 d))

-- ---- reads
module _ (p : Frame) where
  pub var-read : (v : ℕ) → v < 16 → var_of (thread_in p) v ≡ slot_of (var_in p v)
  var-read v l = rw (mod-eq_of_lt l) (tab-at 16 (slot_in p.vars) v zero_slot l)

  pub entry_read : (j q : ℕ) → j < depth_in p → depth_in p ≤ 16 → q + j + 1 ≡ depth_in p → from_top (thread_in p) j ≡ slot_of (at p.stack q)
  entry_read j q l m e =
      let f : depth_in p - 1 - j ≡ q = omega arith in
      tab-at 16 (slot_in p.stack) (depth_in p - 1 - j) zero_slot (omega arith) ∙ (rw f)

  pub top_read : 1 ≤ depth_in p → depth_in p ≤ 16 → top_of (thread_in p) ≡ slot_of (top_in p)
  top_read l m = entry_read 0 (top_place p) (omega arith) m (omega arith)

  pub under-read : 2 ≤ depth_in p → depth_in p ≤ 16 → from_top (thread_in p) 1 ≡ slot_of (under_in p)
  under-read l m = entry_read 1 ((p.depth % 16 + 14) % 16) (omega arith) m (omega arith)
