-- What an instruction makes of a thread keeps to its class's method: the depth within K, and each reference in use to an object.
use mathlib.Core.Path.{◌≡◌, refl}
use mathlib.Core.Bool.{true, false, not}
use mathlib.Core.List.{List}
use Prim.Native.Nat.{ℕ, ◌+◌, ◌-◌, ◌≤◌, ◌<◌}
use native.Mathlib.Omega.{arith}
use lib.ListN.{get_or}
use borrow.Author.Tests.{lt-ltb, ltb-true, eqb-true}
use Rattle.ground.proofs.Bools.{and-fst, and-snd, or_right, never}
use Rattle.ground.proofs.Writes.{fill-out}
use Rattle.bundle.specs.Program.{Program}
use Rattle.values.specs.declared.Value.{Value}
use Rattle.values.specs.declared.Value.TheVariants.{Int, Ref, Null}
use Rattle.values.specs.declared.Slot.{Slot}
use Rattle.values.specs.Values.{zero_slot, is_int_value, is_int, is_null_value, is_null, is_ref_value, is_ref, object_of, inc_value, inc_slot, refers_value, refers}
use Rattle.threads.specs.declared.Thread.{Thread}
use Rattle.threads.specs.Threads.{var_of, from_top, with_at, topped, pushed, popped, stored}
use Rattle.belongs.proofs.Belongs.{Placed, refers-object}
use Rattle.turns.specs.Faults.{may_be_object}
use Rattle.machine.proofs.Writes.{write-or, write-in}

pub refers-inc : (objects : ℕ) (x : Slot) → refers objects x ≡ true → refers objects (inc_slot x) ≡ true
refers-inc objects x e = go x.value e
  where
    go : (v : Value) → refers_value objects v ≡ true → refers_value objects (inc_value v) ≡ true
    go (Int z) e = refl
    go (Ref o) e = e
    go Null e = refl

-- a reference to an object stays one where there is one object more
pub refers-more : (objects : ℕ) (x : Slot) → refers objects x ≡ true → refers (objects + 1) x ≡ true
refers-more objects x e = go x.value e
  where
    go : (v : Value) → refers_value objects v ≡ true → refers_value (objects + 1) v ≡ true
    go (Int z) e = refl
    go (Ref o) e = lt-ltb o (objects + 1) (omega (arith, ltb-true o objects e))
    go Null e = refl

-- what is neither an integer nor null refers
pub a-ref : (x : Slot) → not (is_int x) ≡ true → is_null x ≡ false → is_ref x ≡ true
a-ref x e f = go x.value e f
  where
    go : (v : Value) → not (is_int_value v) ≡ true → is_null_value v ≡ false → is_ref_value v ≡ true
    go (Int z) e f = never e refl
    go (Ref o) e f = refl
    go Null e f = never refl f

-- an owner that isn't null is an object of the class
pub owner : (objects : ℕ) (classes : List ℕ) (c : ℕ) (x : Slot) → refers objects x ≡ true → may_be_object classes c x ≡ true → is_null x ≡ false
    → (object_of x < objects) × (get_or classes (object_of x) 0 ≡ c)
unfolding may_be_object
owner objects classes c x r e n =
    let o = or_right (is_null x) _ e n in
    (refers-object objects x r (and-fst (is_ref x) _ o), eqb-true _ c (and-snd (is_ref x) _ o))

pub placed-more : (P : Program) (objects : ℕ) (t : Thread) → Placed P objects t → Placed P (objects + 1) t
placed-more P objects t p =
    record {
      class_known = p.class_known;
      address_first = p.address_first;
      address_last = p.address_last;
      depth_limit = p.depth_limit;
      variable_refers = λ v l. refers-more objects (var_of t v) (p.variable_refers v l);
      stack_refers = λ q l. refers-more objects (get_or t.stack q zero_slot) (p.stack_refers q l);
    }

-- u is what t became, but for its address
pub record Moved (P : Program) (objects : ℕ) (t u : Thread) : Type 0 where
  pub same_live : u.live ≡ t.live
  pub same_class : u.class ≡ t.class
  pub depth_limit : u.depth ≤ (P.method t.class).limit
  pub variable_refers : (v : ℕ) → v < (P.method t.class).vars → refers objects (var_of u v) ≡ true
  pub stack_refers : (p : ℕ) → p < u.depth → refers objects (get_or u.stack p zero_slot) ≡ true

module _ (P : Program) (objects : ℕ) (t : Thread) where
  pub unmoved : Placed P objects t → Moved P objects t t
  unmoved p =
      record {
        same_live = refl;
        same_class = refl;
        depth_limit = p.depth_limit;
        variable_refers = p.variable_refers;
        stack_refers = p.stack_refers;
      }

  pub entry-refers : Placed P objects t → (j : ℕ) → j < t.depth → refers objects (from_top t j) ≡ true
  entry-refers p j l = p.stack_refers (t.depth - 1 - j) (omega arith)

  module _ (u : Thread) (m : Moved P objects t u) where
    pub moved-topped : (x : Slot) → refers objects x ≡ true → Moved P objects t (topped u x)
    unfolding topped
    moved-topped x e =
        record {
          same_live = m.same_live;
          same_class = m.same_class;
          depth_limit = m.depth_limit;
          variable_refers = m.variable_refers;
          stack_refers = λ p l. write-or (λ (y : Slot). refers objects y ≡ true) u.stack (u.depth - 1) p x zero_slot (m.stack_refers p l) (λ q. e);
        }

    pub moved_pushed : (x : Slot) → refers objects x ≡ true → u.depth < (P.method t.class).limit → (P.method t.class).limit ≤ 16
        → Moved P objects t (pushed u x)
    unfolding pushed
    moved_pushed x e l k =
        rw (lt-ltb u.depth 16 (omega arith))
        (record {
          same_live = m.same_live;
          same_class = m.same_class;
          depth_limit = omega arith;
          variable_refers = m.variable_refers;
          stack_refers = λ p b. write-in (λ (y : Slot). refers objects y ≡ true) u.stack u.depth p x zero_slot refl (λ q. e) (λ q. m.stack_refers p (omega arith));
        })

    pub moved-popped : (n : ℕ) → Moved P objects t (popped n u)
    unfolding popped
    moved-popped n =
        record {
          same_live = m.same_live;
          same_class = m.same_class;
          depth_limit = omega (arith, m.depth_limit);
          variable_refers = m.variable_refers;
          stack_refers = λ p l. rw (fill-out (u.depth - n) zero_slot u.stack n p zero_slot (λ k. omega arith)) (m.stack_refers p (omega arith));
        }

    pub moved-stored : (v : ℕ) (x : Slot) → refers objects x ≡ true → Moved P objects t (stored u v x)
    unfolding stored
    moved-stored v x e =
        record {
          same_live = m.same_live;
          same_class = m.same_class;
          depth_limit = m.depth_limit;
          variable_refers = λ w l. write-or (λ (y : Slot). refers objects y ≡ true) u.vars v w x zero_slot (m.variable_refers w l) (λ q. e);
          stack_refers = m.stack_refers;
        }

    pub moved-placed : (a : ℕ) → t.class < P.classes → 1 ≤ a → a ≤ (P.method t.class).code → Placed P objects (with_at u a)
    moved-placed a c f k =
        record {
          class_known = rw m.same_class c;
          address_first = f;
          address_last = rw m.same_class k;
          depth_limit = rw m.same_class m.depth_limit;
          variable_refers = rw m.same_class m.variable_refers;
          stack_refers = m.stack_refers;
        }
