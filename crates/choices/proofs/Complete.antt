-- A choice that is below every accepted one, and that meets what the rules ask of it, is accepted itself if any is: and then it is the least.
use mathlib.Core.List.{List}
use mathlib.Core.Path.{◌≡◌, refl, sym, ap, ◌∙◌}
use mathlib.Core.Bool.{Bool, true, false, ◌&&◌}
use Prim.Native.Nat.{ℕ, ◌+◌, ◌-◌, ◌/◌, ◌%◌, ◌≤◌, ◌<◌}
use native.Mathlib.Omega.{arith}
use native.Mathlib.Decide.{dec_lt}
use lib.ListN.{length}
use lib.Dec.{ltb, eqb}
use borrow.Author.Tests.{lt-ltb, le-ltb, ltb-true, eq-eqb, eqb-true}
use Rattle.ground.specs.Bytes.{at}
use Rattle.ground.proofs.Bools.{and-fst, and-snd, and_both}
use Rattle.ground.proofs.Bounded.{all-elim, all-intro}
use Rattle.instructions.specs.declared.Code.{Code}
use Rattle.instructions.specs.declared.Instruction.{Instruction}
use Rattle.instructions.specs.Table.{Content, line_of, decoded, content_ok, table_ok, instruction_ok}
use Rattle.instructions.specs.Table as Table
use Rattle.instructions.proofs.Table.{InstructionFits}
use Rattle.bundle.specs.declared.Class.{Class}
use Rattle.bundle.specs.Container.{classes, class_at, fields_of, descriptor_count, record_fits, part_of, code_at, instruction_at, field_at}
use Rattle.bundle.specs.Program.{Address, method_of, method_at, program_of}
use Rattle.verdicts.specs.Verdicts.{verdict}
use Rattle.structure.specs.Conditions.{length_ok, trailer_ok, directory_ok, descriptor_ok, descriptors_ok, address_ok}
use Rattle.structure.specs.Places as structure
use Rattle.structure.proofs.FirstBroken.{structure-zero}
use Rattle.structure.proofs.Structured.{class-limits, well-formed}
use Rattle.entries.specs.Entries.{Entry, is_reference, argument_entry}
use Rattle.entries.specs.Fits.{entry_fits, compare, want}
use Rattle.rows.specs.Rows.{Row, row_at}
use Rattle.forms.specs.Forms.{first_var, first_vars, first_row}
use Rattle.rules.specs.Rule.{rule_holds}
use Rattle.rules.specs.Rules.{rule_of}
use Rattle.rules.proofs.Held.{compared, meets-compared}
use Rattle.verifier.specs.Verdict.{verdict_of}
use Rattle.verifier.specs.Places.{Place, structural, form, first, rule, Within, holds}
use Rattle.verifier.proofs.FirstBroken.{verdict-zero, zero-verdict}
use Rattle.shape.specs.Apart.{Readable}
use Rattle.shape.proofs.Readable.{good, bundle-long}
use Rattle.needs.specs.declared.Pair.{Pair}
use Rattle.needs.specs.Needs.{var_need, stack_need}
use Rattle.needs.specs.Exactly.{Under, UnderRow, Has, AllHave}
use Rattle.needs.proofs.Entries.{top-under, reference-under, plain-under, want-lower, meets-same}
use Rattle.needs.proofs.Rules.{Step, step}
use Rattle.needs.proofs.Programs.{Agree, rule-same}
use Rattle.choices.specs.Choice.{Choice, Accepted, Below}
use Rattle.choices.proofs.Choices.{classes-same, exception-same, directory-at-same, class_same, code_same, trailer-same, instruction-same}
use Rattle.choices.proofs.Shapes.{row-formed, rows_under}

-- ---- row 1 of a lower choice
first_under : (vars args : ℕ) (f g : ℕ → ℕ) (x x' : Row) → UnderRow vars x x' → args ≤ vars → ((i : ℕ) → i < args → f i ≡ g i)
    → first_row vars args g x' ≡ true → first_row vars args f x ≡ true
unfolding first_row first_vars first_var
first_under vars args f g x x' u a s h =
    and_both _ _ (eq-eqb x.depth 0 (u.depth ∙ eqb-true _ 0 (and-fst _ _ h)))
    (all-intro (first_var args f x) vars (λ i l. one i l (all-elim (first_var args g x') vars (and-snd (eqb x'.depth 0) _ h) i l)))
  where
    fits_under : (a : Entry) {y y' : Entry} → Under y y' → entry_fits a y' ≡ true → entry_fits a y ≡ true
    fits_under a {y} {y'} v h = eq-eqb _ 0 (meets-compared a (want y) (meets-same (want-lower v) (compared a (want y') (eqb-true (compare a (want y')) 0 h))))

    one : (i : ℕ) → i < vars → first_var args g x' i ≡ true → first_var args f x i ≡ true
    one i l e = go (dec_lt i args)
      where
        go : Dec (i < args) → first_var args f x i ≡ true
        go (yes k) = rw (lt-ltb i args k, s i k) (fits_under (argument_entry (g i)) (u.variable i l) (rw (lt-ltb i args k) at e))
        go (no k) = rw (le-ltb i args (omega arith)) (top-under (u.variable i l) (rw (le-ltb i args (omega arith)) at e))

-- ---- the references of a row have what is asked of them; and so do the others, where a row above has it
pub record AllMeet (vars depth : ℕ) (of_var of_stack : ℕ → Pair) (x : Row) : Type 0 where
  pub variable : (i : ℕ) → i < vars → is_reference (x.variable i) ≡ true → Has (of_var i) (x.variable i)
  pub stack : (j : ℕ) → j < depth → is_reference (x.stack j) ≡ true → Has (of_stack j) (x.stack j)

has-under : (p : Pair) {x x' : Entry} → Under x x' → Has p x' → (is_reference x ≡ true → Has p x) → Has p x
has-under p {x} {x'} u h f = go (is_reference x) refl
  where
    go : (t : Bool) → is_reference x ≡ t → Has p x
    go true q = f q
    go false q = let e : is_reference x' ≡ false = rw (reference-under u) at q in rw (plain-under u e) h

all_have : (vars depth : ℕ) (of_var of_stack : ℕ → Pair) (x x' : Row) → UnderRow vars x x' → depth ≡ x.depth → AllHave vars depth of_var of_stack x' → AllMeet vars depth of_var of_stack x
    → AllHave vars depth of_var of_stack x
all_have vars depth of_var of_stack x x' u e h m =
    record {
      variable = λ i l. has-under (of_var i) (u.variable i l) (h.variable i l) (m.variable i l);
      stack = λ j l. has-under (of_stack j) (u.stack j (omega arith)) (h.stack j l) (m.stack j l);
    }

-- ---- the table reads the fields of the bundle's classes alone
content-same : (classes : ℕ) (f g : ℕ → ℕ) → ((c : ℕ) → c < classes → f c ≡ g c) → (vars code : ℕ) (y : Content) (x : ℕ)
    → content_ok classes f vars code y x ≡ content_ok classes g vars code y x
content-same classes f g h vars code Table.none x = refl
content-same classes f g h vars code Table.variable x = refl
content-same classes f g h vars code Table.class x = refl
content-same classes f g h vars code Table.field x = go (ltb (x / 4) classes) refl
  where
    go : (t : Bool) → ltb (x / 4) classes ≡ t → (t && ltb (x % 4) (f (x / 4))) ≡ (t && ltb (x % 4) (g (x / 4)))
    go true q = rw (h (x / 4) (ltb-true (x / 4) classes q))
    go false q = refl
content-same classes f g h vars code Table.target x = refl
content-same classes f g h vars code Table.handler x = refl
content-same classes f g h vars code Table.unlisted x = refl

instruction-ok-same : (classes : ℕ) (f g : ℕ → ℕ) → ((c : ℕ) → c < classes → f c ≡ g c) → (vars code l : ℕ) (x : Code)
    → instruction_ok classes f vars code l x ≡ instruction_ok classes g vars code l x
unfolding instruction_ok table_ok
instruction-ok-same classes f g h vars code l x =
    rw (content-same classes f g h vars code (line_of x.opcode).operand x.operand, content-same classes f g h vars code (line_of x.opcode).address x.address)

-- ---- a bundle's program, read off its bytes
module _ (b : List ℕ) (c : ℕ) where
  vars-of : ((program_of b).method c).vars ≡ (class_at b c).vars
  unfolding program_of method_at method_of
  vars-of = refl

  limit-of : ((program_of b).method c).limit ≡ (class_at b c).limit
  unfolding program_of method_at method_of
  limit-of = refl

  args_of : ((program_of b).method c).args ≡ (class_at b c).args
  unfolding program_of method_at method_of
  args_of = refl

  descriptors-of : ((program_of b).method c).descriptor ≡ at (part_of b (class_at b c))
  unfolding program_of method_at method_of
  descriptors-of = refl

  address : (l : ℕ) → c < classes b → 1 ≤ l → l ≤ (class_at b c).code → Address (program_of b) c l
  unfolding program_of method_at method_of
  address l h low high = record { class_known = h; first = low; last = high }

module _ (b : List ℕ) (R : Readable b) where
  -- ---- the program of a choice is b's
  module _ (x : List ℕ) (C : Choice b x) where
    pub agree : Agree (program_of x) (program_of b) (classes b) (fields_of b)
    unfolding program_of method_at method_of field_at
    agree =
        record {
          exception = exception-same b R x C.alike;
          args = λ c l. rw (class_same b R x C.alike c l);
          descriptor = λ c j l h. rw (class_same b R x C.alike c l) (code_same b R x C.alike c l j (omega arith));
          field = λ c f l h. rw (class_same b R x C.alike c l) (code_same b R x C.alike c l ((class_at b c).args + f) (omega arith));
        }

    in_b : (c l : ℕ) → Address (program_of x) c l → (c < classes b) × (1 ≤ l) × (l ≤ (class_at b c).code)
    unfolding program_of method_at method_of
    in_b c l a =
        let h : c < classes b = rw (classes-same b R x C.alike) at a.class_known in
        let m : l ≤ (class_at b c).code = rw (class_same b R x C.alike c h) at a.last in (h, a.first, m)

    structure-holds : (p : structure.Place) → structure.Within x p → structure.holds x p ≡ true
    unfolding length_ok trailer_ok directory_ok record_fits descriptors_ok descriptor_ok address_ok
    structure-holds structure.whole w = rw C.alike.long (structure-zero b (good b R) structure.whole tt)
    structure-holds structure.trailer w =
        let e = bundle-long b R in
        rw (
          C.alike.long,
          trailer-same b R x C.alike (length b - 2) (omega arith),
          trailer-same b R x C.alike (length b - 1) (omega arith),
          trailer-same b R x C.alike (length b - 4) (omega arith),
          trailer-same b R x C.alike (length b - 4 + 1) (omega arith),
        )
        (structure-zero b (good b R) structure.trailer tt)
    structure-holds structure.directory w = rw (classes-same b R x C.alike, exception-same b R x C.alike, directory-at-same b R x C.alike, C.alike.long) (structure-zero b (good b R) structure.directory tt)
    structure-holds (structure.limits c) w = let h : c < classes b = rw (classes-same b R x C.alike) at w in
        rw (class_same b R x C.alike c h) (structure-zero b (good b R) (structure.limits c) h)
    structure-holds (structure.extent c) w = let h : c < classes b = rw (classes-same b R x C.alike) at w in
        rw (class_same b R x C.alike c h, C.alike.long) (structure-zero b (good b R) (structure.extent c) h)
    structure-holds (structure.descriptors c) w =
        let h : c < classes b = rw (classes-same b R x C.alike) at w in
        let d = structure-zero b (good b R) (structure.descriptors c) h in
        rw (classes-same b R x C.alike, class_same b R x C.alike c h)
        (all-intro (descriptor_ok (classes b) (part_of x (class_at b c))) (descriptor_count (class_at b c)) (λ i l. rw (code_same b R x C.alike c h i (omega arith)) (all-elim (descriptor_ok (classes b) (part_of b (class_at b c))) (descriptor_count (class_at b c)) d i l)))
    structure-holds (structure.instruction c l) w =
        let a = in_b c l w in
        rw (classes-same b R x C.alike, class_same b R x C.alike c a.0, instruction-same b R x C.alike c a.0 l a.1 a.2)
        (instruction-ok-same (classes b) (fields_of x) (fields_of b) (λ d m. ap (λ (k : Class). k.fields) (class_same b R x C.alike d m)) (class_at b c).vars (class_at b c).code l (code_at (class_at b c) (part_of b (class_at b c)) l)
        ∙ structure-zero b (good b R) (structure.instruction c l) (address b c l a.0 a.1 a.2))

  -- ---- the rules of a choice x, over b's program
  abbrev rows_in : List ℕ → ℕ → ℕ → Row
  rows_in x c = row_at (classes b) (class_at b c) (part_of x (class_at b c))

  abbrev pub code_in : ℕ → ℕ → Instruction
  code_in c l = instruction_at (class_at b c) (part_of b (class_at b c)) l

  -- what the instruction at address l of class c asks of row l in x: all entries of row l of z have it; the references among them do
  abbrev pub HaveAt : List ℕ → List ℕ → ℕ → ℕ → Type 0
  HaveAt x z c l =
      AllHave (class_at b c).vars (rows_in x c l).depth (var_need (rows_in x c) l (code_in c l)) (stack_need (program_of b) (rows_in x c) l (code_in c l)) (rows_in z c l)

  abbrev pub MeetAt : List ℕ → List ℕ → ℕ → ℕ → Type 0
  MeetAt x z c l =
      AllMeet (class_at b c).vars (rows_in x c l).depth (var_need (rows_in x c) l (code_in c l)) (stack_need (program_of b) (rows_in x c) l (code_in c l)) (rows_in z c l)

  -- .. everywhere
  abbrev pub Still : List ℕ → Type 0
  Still x = (c l : ℕ) → c < classes b → 1 ≤ l → l ≤ (class_at b c).code → MeetAt x x c l

  pub in_table : (c l : ℕ) → c < classes b → 1 ≤ l → l ≤ (class_at b c).code → InstructionFits (classes b) (fields_of b) (class_at b c).vars (class_at b c).code l (code_in c l)
  unfolding program_of method_at method_of
  in_table c l h low high = (well-formed b (good b R)).table c l h low high

  module _ (x y : List ℕ) (C : Choice b x) (D : Choice b y) (A : Accepted y) (below : Below x y) where
    -- the rule of a choice, over b's program
    rule-over : (z : List ℕ) → Choice b z → (c l : ℕ) → c < classes b → 1 ≤ l → l ≤ (class_at b c).code
        → holds z (rule c l) ≡ rule_holds (class_at b c).vars (rule_of (program_of b) (class_at b c).vars (rows_in z c) l (code_in c l))
    unfolding program_of method_at method_of instruction_at
    rule-over z E c l h low high = go (classes z) (classes-same b R z E.alike) (class_at z c) (class_same b R z E.alike c h)
      where
        go : (n : ℕ) → n ≡ classes b → (k : Class) → k ≡ class_at b c
            → rule_holds k.vars (rule_of (program_of z) k.vars (row_at n k (part_of z k)) l (decoded (code_at k (part_of z k) l)))
            ≡ rule_holds (class_at b c).vars (rule_of (program_of b) (class_at b c).vars (rows_in z c) l (code_in c l))
        go n e k f =
            rw (e, f, instruction-same b R z E.alike c h l low high)
            (ap (rule_holds (class_at b c).vars) (rule-same (program_of z) (program_of b) (classes b) (fields_of b) (agree z E) (class_at b c).vars (class_at b c).code (rows_in z c) l (code_in c l) (in_table c l h low high)))

    rule-y : (c l : ℕ) → c < classes b → 1 ≤ l → l ≤ (class_at b c).code → rule_holds (class_at b c).vars (rule_of (program_of b) (class_at b c).vars (rows_in y c) l (code_in c l)) ≡ true
    rule-y c l h low high =
        let h' : c < classes y = rw (classes-same b R y D.alike) h in
        let high' : l ≤ (class_at y c).code = rw (class_same b R y D.alike c h) high in
        sym (rule-over y D c l h low high) ∙ verdict-zero y A (rule c l) (address y c l h' low high')

    under : (c : ℕ) → c < classes b → (m : ℕ) → 1 ≤ m → m ≤ (class_at b c).code → UnderRow (class_at b c).vars (rows_in x c m) (rows_in y c m)
    under c h m low high = rows_under b R c h m low high x y C D below

    step-at : (c l : ℕ) → c < classes b → 1 ≤ l → l ≤ (class_at b c).code → Step (program_of b) (class_at b c).vars (rows_in x c) (rows_in y c) l (code_in c l)
    step-at c l h low high =
        step (program_of b) (class_at b c).vars (rows_in x c) (rows_in y c) l (classes b) (fields_of b) (class_at b c).code low high (under c h) (code_in c l) (in_table c l h low high)

    -- what x asks, every accepted choice above it has
    pub forced : (c l : ℕ) → c < classes b → 1 ≤ l → l ≤ (class_at b c).code → HaveAt x y c l
    forced c l h low high = (step-at c l h low high).forced (rule-y c l h low high)

    -- where x has it too, x is accepted
    pub complete : Still x → verdict_of x ≡ verdict 0 (classes x) 0
    complete S = zero-verdict x at_place
      where
        formed : (c l : ℕ) → c < classes b → 1 ≤ l → l ≤ (class_at b c).code → holds x (form c l) ≡ true
        formed c l h low high =
            rw (vars-of x c, limit-of x c, classes-same b R x C.alike, class_same b R x C.alike c h) (row-formed b R c h l low high x C)

        first_of : (z : List ℕ) → Choice b z → (c : ℕ) → c < classes b → holds z (first c) ≡ first_row (class_at b c).vars (class_at b c).args (at (part_of z (class_at b c))) (rows_in z c 1)
        first_of z E c h = rw (vars-of z c, args_of z c, descriptors-of z c, classes-same b R z E.alike, class_same b R z E.alike c h)

        at_place : (p : Place) → Within x p → holds x p ≡ true
        at_place (structural p) w = structure-holds x C p w
        at_place (form c l) w = let a = in_b x C c l w in formed c l a.0 a.1 a.2
        at_place (first c) w =
            let h : c < classes b = rw (classes-same b R x C.alike) at w in
            let h' : c < classes y = rw (classes-same b R y D.alike) h in
            let m = class-limits b (good b R) c h in
            first_of x C c h
            ∙ first_under (class_at b c).vars (class_at b c).args (at (part_of x (class_at b c))) (at (part_of y (class_at b c))) (rows_in x c 1) (rows_in y c 1) (under c h 1 (omega arith) m.some_code) m.args_vars
            (λ i l. code_same b R x C.alike c h i (omega arith) ∙ sym (code_same b R y D.alike c h i (omega arith))) (sym (first_of y D c h) ∙ verdict-zero y A (first c) h')
        at_place (rule c l) w =
            let a = in_b x C c l w in
            rule-over x C c l a.0 a.1 a.2
            ∙ (step-at c l a.0 a.1 a.2).holds (rule-y c l a.0 a.1 a.2)
            (all_have _ _ _ _ (rows_in x c l) (rows_in y c l) (under c a.0 l a.1 a.2) refl (forced c l a.0 a.1 a.2) (S c l a.0 a.1 a.2))
