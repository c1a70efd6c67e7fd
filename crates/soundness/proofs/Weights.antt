-- What an entry's pair weighs on an object, and what one slot does in a step that moves no count.
use mathlib.Core.Path.{◌≡◌, refl}
use mathlib.Core.Bool.{Bool, true, false, cond}
use Prim.Native.Nat.{ℕ, ◌≤◌}
use native.Mathlib.Nat.{le_refl}
use native.Mathlib.Omega.{arith}
use borrow.Author.Tests.{leb-true, ne_eqb}
use Rattle.ground.proofs.Bools.{and-snd, never}
use Rattle.entries.specs.Entries.{Entry, Int, Top, Ref, Nullable, Blank, Malformed, no_end, dip_of, end_of, is_int, is_reference, is_nullable, is_type}
use Rattle.entries.specs.Fits.{may_go, want}
use Rattle.values.specs.declared.Value.{Value}
use Rattle.values.specs.declared.Value.TheVariants.{Int as num, Ref as obj, Null as null}
use Rattle.soundness.specs.Balance.{Matches, names, dip, end}
use Rattle.soundness.proofs.Kind.{nope, takes-kind}
use Rattle.rules.proofs.Held.{Meets}

pub cond-le : (b : Bool) (a c x : ℕ) → a ≤ c → cond b a x ≤ cond b c x
cond-le true a c x h = h
cond-le false a c x h = le_refl x

pub cond_top : (b : Bool) (a x : ℕ) → x ≤ a → x ≤ cond b a x
cond_top true a x h = h
cond_top false a x h = le_refl x

pub cond-low : (b : Bool) (a x : ℕ) → a ≤ x → cond b a x ≤ x
cond-low true a x h = h
cond-low false a x h = le_refl x

-- ---- f asks no more than e does
pub record Weaker (e f : Entry) : Type 0 where
  pub dip_less : dip_of f ≤ dip_of e
  pub end_less : end_of f ≤ end_of e
  pub kind : (n : ℕ) (cls : ℕ → ℕ) (v : Value) → Matches n cls e v → Matches n cls f v

pub same-weaker : (e : Entry) → Weaker e e
same-weaker e = record { dip_less = le_refl _; end_less = le_refl _; kind = λ n cls v m. m }

-- THE FITTING LAW, of entries
pub meets-weaker : (e f : Entry) → Meets e (want f) → Weaker e f
meets-weaker e f h = record { dip_less = h.dip; end_less = h.end; kind = λ n cls v m. takes-kind n cls f e v h.kind m }

pub goes_end : (e : Entry) → may_go e ≡ true → no_end ≤ end_of e
goes_end e h = leb-true no_end (end_of e) (and-snd (is_type e) _ h)

-- what is no reference weighs nothing
pub plain-pair : (e : Entry) → is_reference e ≡ false → (dip_of e ≡ 0) × (end_of e ≡ no_end)
plain-pair Int h = (refl, refl)
plain-pair Top h = (refl, refl)
plain-pair (Ref c d e) h = never refl h
plain-pair (Nullable c) h = (refl, refl)
plain-pair Blank h = (refl, refl)
plain-pair Malformed h = (refl, refl)

pub int-goes : (e : Entry) → is_int e ≡ true → no_end ≤ end_of e
int-goes Int h = omega arith
int-goes Top h = nope h
int-goes (Ref c d e) h = nope h
int-goes (Nullable c) h = nope h
int-goes Blank h = nope h
int-goes Malformed h = nope h

pub nullable-goes : (e : Entry) → is_nullable e ≡ true → no_end ≤ end_of e
nullable-goes Int h = nope h
nullable-goes Top h = nope h
nullable-goes (Ref c d e) h = nope h
nullable-goes (Nullable c) h = omega arith
nullable-goes Blank h = nope h
nullable-goes Malformed h = nope h

-- an object that is not there weighs nothing
pub far-end : (n : ℕ) (cls : ℕ → ℕ) (o : ℕ) (e : Entry) (v : Value) → n ≤ o → Matches n cls e v → no_end ≤ end o e v
far-end n cls o Int v h m = cond_top (names o v) no_end no_end (omega arith)
far-end n cls o Top v h m = cond_top (names o v) no_end no_end (omega arith)
far-end n cls o (Ref c d e) (num z) h m = omega arith
far-end n cls o (Ref c d e) (obj r) h m = rw (ne_eqb r o (λ q. omega (arith, q, m.0))) (omega arith)
far-end n cls o (Ref c d e) null h m = omega arith
far-end n cls o (Nullable c) v h m = cond_top (names o v) no_end no_end (omega arith)
far-end n cls o Blank v h m = cond_top (names o v) no_end no_end (omega arith)
far-end n cls o Malformed v h m = cond_top (names o v) no_end no_end (omega arith)

-- ---- one slot, entry and value before and after: its kind holds after, and its weights do not grow
pub record Slot (n : ℕ) (cls : ℕ → ℕ) (e : Entry) (v : Value) (f : Entry) (w : Value) : Type 0 where
  pub kind : Matches n cls e v → Matches n cls f w
  pub dips : (o : ℕ) → dip o f w ≤ dip o e v
  pub ends : (o : ℕ) → end o f w ≤ end o e v

module _ (n : ℕ) (cls : ℕ → ℕ) where
  pub kept_slot : (e f : Entry) (v w : Value) → w ≡ v → Weaker e f → Slot n cls e v f w
  kept_slot e f v w q h =
      rw q
      (record {
        kind = h.kind n cls v;
        dips = λ o. cond-le (names o v) (dip_of f) (dip_of e) 0 h.dip_less;
        ends = λ o. cond-le (names o v) (end_of f) (end_of e) no_end h.end_less;
      })

  -- a place that falls out of use
  pub gone-slot : (e : Entry) (v w : Value) → no_end ≤ end_of e → Slot n cls e v Blank w
  gone-slot e v w h =
      record {
        kind = λ m. tt;
        dips = λ o. omega (arith, cond-low (names o w) 0 0 (omega arith));
        ends = λ o. omega (arith, cond-low (names o w) no_end no_end (omega arith), cond_top (names o v) (end_of e) no_end h);
      }

  -- a place that comes into use, with a value that weighs nothing
  pub fresh-slot : (v : Value) (e f : Entry) (w : Value) → dip_of e ≡ 0 → end_of e ≡ no_end → Matches n cls e w → Weaker e f → Slot n cls Blank v f w
  fresh-slot v e f w d g m h =
      record {
        kind = λ _. h.kind n cls w m;
        dips = λ o. omega (arith, cond-low (names o w) (dip_of f) 0 (omega (arith, h.dip_less)));
        ends = λ o. omega (
          arith,
          cond-low (names o w) (end_of f) no_end (omega (arith, h.end_less)),
          cond_top (names o v) no_end no_end (omega arith),
        );
      }

  -- a slot whose value changes where neither entry weighs anything
  pub light-slot : (e f : Entry) (v w : Value) → no_end ≤ end_of e → dip_of f ≡ 0 → end_of f ≤ no_end → (Matches n cls e v → Matches n cls f w)
      → Slot n cls e v f w
  light-slot e f v w g d h m =
      record {
        kind = m;
        dips = λ o. omega (arith, cond-low (names o w) (dip_of f) 0 (omega arith));
        ends = λ o. omega (arith, cond-low (names o w) (end_of f) no_end h, cond_top (names o v) (end_of e) no_end g);
      }
