-- Document 01, the machine: one thread, its variables and its stack. Places are counted from the bottom of the stack.
use Rattle.std.specs.Prelude.{true, false, cond, List, ℕ, ◌+◌, ◌-◌, ltb, get_or, set, replicate}
use Rattle.ground.specs.Bounded.{set_below, fill_from}
use Rattle.instructions.specs.Table.{addr}
use Rattle.values.specs.Values.{zero_slot}
use Rattle.values.specs.declared.Slot.{Slot}
use Rattle.threads.specs.declared.Thread.{Thread}

-- a number that no thread has: not live, and all else 0
abbrev pub idle : Thread
idle = record { live = false; class = 0; at = addr 0; depth = 0; vars = replicate 16 zero_slot; stack = replicate 16 zero_slot }

abbrev pub with_stack : Thread → List Slot → ℕ → Thread
with_stack t l d = record { live = t.live; class = t.class; at = t.at; depth = d; vars = t.vars; stack = l }

abbrev pub with_vars : Thread → List Slot → Thread
with_vars t l = record { live = t.live; class = t.class; at = t.at; depth = t.depth; vars = l; stack = t.stack }

abbrev pub with_at : Thread → ℕ → Thread
with_at t a = record { live = t.live; class = t.class; at = addr a; depth = t.depth; vars = t.vars; stack = t.stack }

-- the stack entry j, the top being entry 0
abbrev pub from_top : Thread → ℕ → Slot
from_top t j = get_or t.stack (t.depth - 1 - j) zero_slot

abbrev pub top_of : Thread → Slot
top_of t = from_top t 0

abbrev pub var_of : Thread → ℕ → Slot
var_of t v = get_or t.vars v zero_slot

-- the top changed in place
unfoldable pub topped : Thread → Slot → Thread
topped t x = with_stack t (set t.stack (t.depth - 1) x) t.depth

-- x on the stack (sixteen places: past them nothing changes)
unfoldable pub pushed : Thread → Slot → Thread
pushed t x = cond (ltb t.depth 16) (with_stack t (set t.stack t.depth x) (t.depth + 1)) t

-- n entries gone from the top: their places become integer 0
unfoldable pub popped : ℕ → Thread → Thread
popped n t = with_stack t (fill_from (t.depth - n) n zero_slot t.stack) (t.depth - n)

-- x in the variable v
unfoldable pub stored : Thread → ℕ → Slot → Thread
stored t v x = with_vars t (set t.vars v x)

-- an ended thread: its places in use, its class, address and depth become 0; v of its variables were in use
unfoldable pub ended : ℕ → Thread → Thread
ended v t =
    record {
      live = false;
      class = 0;
      at = addr 0;
      depth = 0;
      vars = fill_from 0 v zero_slot t.vars;
      stack = fill_from 0 t.depth zero_slot t.stack;
    }

-- a started thread at address 1 of class c: variable i below n is the starter's stack entry i, the others hold 0; its stack places are as they were
unfoldable pub started : Thread → Thread → ℕ → ℕ → Thread
started old starter c n =
    record {
      live = true;
      class = c;
      at = addr 1;
      depth = 0;
      vars = set_below n (from_top starter) (replicate 16 zero_slot);
      stack = old.stack;
    }
