-- From a thread that waits to one that does not: the holder of what it waits for waits, if at all, for an object of a strictly lower level. P is the typed program.
use Prim.Native.Nat.{ℕ, zero, suc, ◌+◌, ◌-◌, ◌≤◌, ◌<◌}
use mathlib.Core.Path.{◌≡◌, refl, sym, ap, ◌∙◌}
use mathlib.Core.Logic.{◌≢◌, ◌⊎◌, inl, inr}
use mathlib.Core.List.{List}
use mathlib.Core.Bool.{Bool, true, false, true≢false, ◌||◌}
use native.Mathlib.Omega.{arith}
use native.Mathlib.Decide.{ℕ_discrete, dec_lt}
use lib.Dec.{eqb}
use borrow.Author.Tests.{eqb-true, eqb-false, eq-eqb, ne_eqb}
use Rattle.ground.proofs.Bools.{and-fst, or-false-fst, or-false-snd, never}
use Rattle.ground.proofs.Bounded.{all-intro, all-some}
use Rattle.instructions.specs.declared.Instruction.{Instruction}
use Rattle.instructions.specs.declared.Instruction.TheVariants.{Enter}
use Rattle.instructions.proofs.Table.{InstructionFits}
use Rattle.entries.specs.Entries.{Entry, Int, Top, Ref, Nullable, Blank, Malformed, no_end, end_of, is_blank, is_reference, is_nullable}
use Rattle.entries.specs.Entries as entries
use Rattle.rows.specs.Rows.{Row}
use Rattle.rows.specs.Typed.{Typed}
use Rattle.rules.specs.Rule.{rule_holds}
use Rattle.rules.specs.Rules.{rule_of, enter_rule}
use Rattle.order.specs.Order.{level_of, lock_level, Ordered, OrderHolds}
use Rattle.values.specs.declared.Value.{Value}
use Rattle.values.specs.declared.Value.TheVariants.{Int as num, Ref as obj, Null as null}
use Rattle.threads.specs.Threads.{var_of}
use Rattle.state.specs.declared.State.{State}
use Rattle.state.specs.State.{thread_at, count_of, class_of, free_of, others_free}
use Rattle.turns.specs.Faults.{lock_of}
use Rattle.rules.proofs.Held.{held}
use Rattle.soundness.specs.Balance.{Matches, names, slot_of, value_of}
use Rattle.soundness.specs.Invariant.{entry_at, Live, Inv}
use Rattle.soundness.proofs.Kind.{nope, ref_value, nullable-value, not_null}
use Rattle.soundness.proofs.Slots.{slot-var, slot-novar, slot-stack, slot-nostack}
use Rattle.soundness.proofs.Values.{value-var}
use Rattle.soundness.proofs.Stands.{variable-kind}
use Rattle.soundness.proofs.Accepted.{Accepted}
use Rattle.soundness.proofs.Invariant.{vars_16, limit_16, depth_limit, holder}
use Rattle.progress.specs.Progress.{Lives}
use Rattle.progress.proofs.Waits.{Waiting}

-- ---- the order by slots
module _ (levels : List ℕ) (vars v : ℕ) (v16 : vars ≤ 16) (x : Row) (o : Ordered levels vars v x) where
  slot-higher : (p c d e : ℕ) → p ≢ v → slot_of vars x p ≡ Ref c d e → e < no_end → lock_level levels v x < level_of levels c
  slot-higher p c d e n q k = go (dec_lt p vars) (dec_lt p 16) (dec_lt p (16 + x.depth))
    where
      no-blank : {A : Type 0} → slot_of vars x p ≡ Blank → A
      no-blank z = absurd (true≢false (ap is_blank (sym z ∙ q)))

      stk : (j : ℕ) → 16 ≤ p → p + j + 1 ≡ 16 + x.depth → lock_level levels v x < level_of levels c
      stk j h g = o.stack j c d e (omega arith) (sym (slot-stack vars v16 x p j h g) ∙ q) k

      go : Dec (p < vars) → Dec (p < 16) → Dec (p < 16 + x.depth) → lock_level levels v x < level_of levels c
      go (yes a) f g = o.variables p c d e a n (sym (slot-var vars v16 x p a) ∙ q) k
      go (no a) (yes f) g = no-blank (slot-novar vars v16 x p (omega arith) f)
      go (no a) (no f) (yes g) = stk (15 + x.depth - p) (omega arith) (omega arith)
      go (no a) (no f) (no g) = no-blank (slot-nostack vars v16 x p (omega arith))

-- ---- values and entries
names-object : (o r : ℕ) (v : Value) → v ≡ obj r → names o v ≡ true → r ≡ o
names-object o r v q h = eqb-true r o (rw q at h)

names-class : (n : ℕ) (cls : ℕ → ℕ) (c d e o : ℕ) (v : Value) → Matches n cls (Ref c d e) v → names o v ≡ true → cls o ≡ c
names-class n cls c d e o (num z) m h = nope h
names-class n cls c d e o (obj r) m h = ap cls (sym (eqb-true r o h)) ∙ m.1
names-class n cls c d e o null m h = nope h

-- a negative end: a reference
negative-ref : (x : Entry) → end_of x < no_end → (c : ℕ) × (d : ℕ) × (e : ℕ) × (x ≡ Ref c d e) × (e < no_end)
negative-ref Int h = absurd (omega arith)
negative-ref Top h = absurd (omega arith)
negative-ref (Ref c d e) h = (c, d, e, refl, h)
negative-ref (Nullable c) h = absurd (omega arith)
negative-ref Blank h = absurd (omega arith)
negative-ref Malformed h = absurd (omega arith)

module _ (P : Typed) (A : Accepted P) (s : State) (inv : Inv P s) where
  -- the next instruction of thread t, and its row
  abbrev next_of : ℕ → Instruction
  next_of t = (P.program.method (thread_at s t).class).instruction (thread_at s t).at.0

  abbrev here : ℕ → Row
  here t = P.row (thread_at s t).class (thread_at s t).at.0

  abbrev vars : ℕ → ℕ
  vars t = (P.program.method (thread_at s t).class).vars

  abbrev WaitingAt : ℕ → Type 0
  WaitingAt t = Waiting s t (thread_at s t) (next_of t)

  -- ---- a live thread that waits
  module _ (t : ℕ) (lt : t < 8) (lv : Lives s t) (w : WaitingAt t) where
    -- the object that it waits for
    abbrev pub wanted : ℕ
    wanted = lock_of (thread_at s t) w.variable

    live : Live P s.objects (class_of s) (count_of s.counts t) (thread_at s t)
    live = (inv.thread t lt).live lv

    abbrev v : ℕ
    v = w.variable.0

    v16 : vars t ≤ 16
    v16 = vars_16 P A s.objects (class_of s) (count_of s.counts t) (thread_at s t) live

    d16 : (thread_at s t).depth ≤ 16
    d16 =
        omega (
          arith,
          depth_limit P A s.objects (class_of s) (count_of s.counts t) (thread_at s t) live,
          limit_16 P A s.objects (class_of s) (count_of s.counts t) (thread_at s t) live,
        )

    var-known : v < vars t
    var-known =
        let a = live.address in
        let h : InstructionFits P.program.classes (λ d. (P.program.method d).fields) (vars t) (P.program.method (thread_at s t).class).code (thread_at s t).at.0 (Enter w.variable w.handler) = rw w.enters at (A.formed.table (thread_at s t).class (thread_at s t).at.0 a.class_known a.first a.last) in
        h.0

    abbrev lock : Entry
    lock = (here t).variable v

    -- monitorenter's rule asks for a reference, null or not
    lock-refers : (is_reference lock || is_nullable lock) ≡ true
    unfolding enter_rule
    lock-refers =
        let r : rule_holds (vars t) (rule_of P.program (vars t) (P.row (thread_at s t).class) (thread_at s t).at.0 (Enter w.variable w.handler)) ≡ true = rw w.enters at (A.rule (thread_at s t).class (thread_at s t).at.0 live.address) in
        and-fst (is_reference lock || is_nullable lock) _ (held (vars t) _ r).0

    -- so the variable refers to an object, whose class is that of v's entry
    pub wanted-is : (wanted < s.objects) × (class_of s wanted ≡ entries.class_of lock) × ((var_of (thread_at s t) v).value ≡ obj wanted)
    wanted-is =
        let c = entries.class_of lock in
        let m = variable-kind (vars t) v16 s.objects (class_of s) (count_of s.counts t) (here t) (thread_at s t) d16 live.stands v var-known in
        let x = ref_value s.objects (class_of s) (Ref c 0 no_end) (var_of (thread_at s t) v).value refl
        (not_null s.objects (class_of s) c (var_of (thread_at s t) v).value w.not_null
        (nullable-value s.objects (class_of s) c lock (var_of (thread_at s t) v).value (rw (lock-refers, eq-eqb c c refl)) m)) in
        (x.1, x.2, x.3)

    pub wanted-32 : wanted < 32
    wanted-32 = omega (arith, wanted-is.0, inv.whole.objects_32)

  -- ---- a holder does not wait for what it holds
  held-free : (u o : ℕ) → u < 8 → o < 32 → 0 < count_of s.counts u o → others_free s.counts u o ≡ true
  unfolding others_free
  held-free u o lu lo h = all-intro (free_of s.counts u o) 8 (λ j l. go j l (ℕ_discrete j u))
    where
      go : (j : ℕ) → j < 8 → Dec (j ≡ u) → free_of s.counts u o j ≡ true
      go j l (yes q) = rw (eq-eqb j u q)
      go j l (no n) = rw (ne_eqb j u n) (eq-eqb _ _ (inv.whole.one_holder u j o lu l lo (λ q. n (sym q)) h))

  -- a thread that holds something is live
  holder-lives : (u o : ℕ) → u < 8 → o < 32 → 0 < count_of s.counts u o → Lives s u
  holder-lives u o lu lo h = go (thread_at s u).live refl
    where
      go : (b : Bool) → (thread_at s u).live ≡ b → (thread_at s u).live ≡ true
      go true q = q
      go false q = absurd (omega (arith, ((inv.thread u lu).asleep q).free o lo))

  -- where another thread is in the way, it holds the object
  pub record Holder (t o : ℕ) : Type 0 where
    pub who : ℕ
    pub number : who < 8
    pub other : who ≢ t
    pub lives : Lives s who
    pub holds : 0 < count_of s.counts who o

  pub found : (t o : ℕ) → o < 32 → others_free s.counts t o ≡ false → Holder t o
  unfolding others_free
  found t o lo f =
      let x = all-some (free_of s.counts t o) 8 f in
      let n = eqb-false (count_of s.counts x.0 o) 0 (or-false-snd (eqb x.0 t) _ x.2) in
      let h : 0 < count_of s.counts x.0 o = omega arith in
      record {
        who = x.0;
        number = x.1;
        other = eqb-false x.0 t (or-false-fst (eqb x.0 t) _ x.2);
        lives = holder-lives x.0 o x.1 lo h;
        holds = h;
      }

  module _ (levels : List ℕ) (ordered : OrderHolds levels P) where
    -- the level of an object's class
    abbrev height : ℕ → ℕ
    height o = level_of levels (class_of s o)

    -- KEY: what a waiting thread holds is of a strictly higher level than what it waits for
    pub holds-higher : (t : ℕ) (lt : t < 8) (lv : Lives s t) (w : WaitingAt t) (o : ℕ) → o < 32 → 0 < count_of s.counts t o
        → height (wanted t lt lv w) < height o
    holds-higher t lt lv w o lo h =
        let x = holder P s inv t o lt lo lv h in
        let r = negative-ref (entry_at P (thread_at s t).class (thread_at s t).at.0 x.0) x.3 in
        let m : Matches s.objects (class_of s) (Ref r.0 r.1 r.2) (value_of (thread_at s t) x.0) = rw r.3 at ((live t lt lv w).stands.balanced.kinds x.0 x.1) in
        let k : class_of s o ≡ r.0 = names-class s.objects (class_of s) r.0 r.1 r.2 o (value_of (thread_at s t) x.0) m x.2 in
        let f = ordered (thread_at s t).class (thread_at s t).at.0 (live t lt lv w).address w.variable w.handler w.enters in
        let g = slot-higher levels (vars t) w.variable.0 (v16 t lt lv w) (here t) f x.0 r.0 r.1 r.2 (λ z. another (same x.0 z x.2)) r.3 r.4 in
        omega (arith, g, ap (level_of levels) (wanted-is t lt lv w).1, ap (level_of levels) k)
      where
        -- it does not hold what it waits for
        another : wanted t lt lv w ≢ o
        another q = never (held-free t o lt lo h) (rw q at w.held)

        same : (p : ℕ) → p ≡ w.variable.0 → names o (value_of (thread_at s t) p) ≡ true → wanted t lt lv w ≡ o
        same p z f =
            names-object o (wanted t lt lv w) (value_of (thread_at s t) w.variable.0)
            (value-var (thread_at s t) w.variable.0 (omega (arith, v16 t lt lv w, var-known t lt lv w)) ∙ (wanted-is t lt lv w).2) (rw z at f)

    -- ---- a live thread that does not wait
    module _ (Free : ℕ → Type 0) (decide : (t : ℕ) → t < 8 → Lives s t → Free t ⊎ WaitingAt t) where
      abbrev Some : Type 0
      Some = (u : ℕ) × Lives s u × Free u

      -- levels fall from holder to holder, so some thread does not wait
      descend : (m t : ℕ) (lt : t < 8) (lv : Lives s t) (w : WaitingAt t) → height (wanted t lt lv w) < m → Some
      descend zero t lt lv w l = absurd (omega arith)
      descend (suc m) t lt lv w l = go (found t (wanted t lt lv w) (wanted-32 t lt lv w) w.held) (descend m)
        where
          go : Holder t (wanted t lt lv w) → ((u : ℕ) (lu : u < 8) (lw : Lives s u) (z : WaitingAt u) → height (wanted u lu lw z) < m → Some) → Some
          go h ih = on (decide h.who h.number h.lives)
            where
              on : Free h.who ⊎ WaitingAt h.who → Some
              on (inl f) = (h.who, h.lives, f)
              on (inr z) =
                  ih h.who h.number h.lives z
                  (omega (arith, l, holds-higher h.who h.number h.lives z (wanted t lt lv w) (wanted-32 t lt lv w) h.holds))

      -- THEOREM: while a thread lives, some live thread does not wait
      pub some-free : (t : ℕ) → t < 8 → Lives s t → Some
      some-free t lt lv = go (decide t lt lv)
        where
          go : Free t ⊎ WaitingAt t → Some
          go (inl f) = (t, lv, f)
          go (inr w) = descend (suc (height (wanted t lt lv w))) t lt lv w (omega arith)
