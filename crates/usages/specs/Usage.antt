-- Source 000, Definition 3.1, as far as Q-11 reads it: a usage says how an object will be locked and unlocked.

pub data Usage : Type 0 where
  -- 0: neither locked nor unlocked any more
  done : Usage
  -- L.U: first locked, and then used according to U
  lock : Usage → Usage
  -- ^L.U: first unlocked, and then used according to U
  unlock : Usage → Usage
  -- U&V: used according to either U or V
  either : Usage → Usage → Usage
  -- U*V, the paper's ⊗: used according to U and V, in an interleaved manner
  both : Usage → Usage → Usage
