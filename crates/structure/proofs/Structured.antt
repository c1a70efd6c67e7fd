-- What a bundle with none of verdicts 1 to 7 gives, as later floors use it: facts of its program, and that its records lie within it.
use mathlib.Core.List.{List}
use mathlib.Core.Path.{◌≡◌, refl}
use mathlib.Core.Logic.{◌⊎◌, inl, inr}
use mathlib.Core.Bool.{Bool, true, false, ◌||◌, not}
use Prim.Native.Nat.{ℕ, ◌+◌, ◌≤◌, ◌<◌}
use native.Mathlib.Omega.{arith}
use lib.ListN.{length}
use lib.Dec.{eqb}
use borrow.Author.Tests.{leb-true, ltb-true, eqb-true}
use Rattle.ground.specs.Bytes.{at}
use Rattle.ground.proofs.Bools.{and-fst, and-snd, or_right}
use Rattle.ground.proofs.Bounded.{all-elim}
use Rattle.instructions.proofs.Table.{InstructionFits, admitted}
use Rattle.bundle.specs.declared.Class.{Class}
use Rattle.bundle.specs.Container.{classes, exception, class_at, fields_of, record_fits, part_of, code_at, instruction_at, field_at}
use Rattle.bundle.specs.Program.{Program, method_of, method_at, program_of}
use Rattle.structure.specs.Conditions.{length_ok, directory_ok, main_ok, code_ok, limits_ok, descriptor_ok, descriptors_ok, address_ok}
use Rattle.structure.specs.Places.{whole, directory, limits, extent, descriptors, instruction}
use Rattle.structure.specs.Structure.{structure_of}
use Rattle.structure.proofs.FirstBroken.{structure-zero}

-- a class's directory numbers within their limits
pub record Limited (c : ℕ) (k : Class) : Type 0 where
  pub args_vars : k.args ≤ k.vars
  pub vars_16 : k.vars ≤ 16
  pub limit_16 : k.limit ≤ 16
  pub fields_4 : k.fields ≤ 4
  pub main_args : c ≡ 0 → k.args ≡ 0
  pub some_code : 1 ≤ k.code
  pub code_256 : k.code ≤ 256

pub limited : (c : ℕ) (k : Class) → limits_ok c k ≡ true → Limited c k
unfolding limits_ok main_ok code_ok
limited c k e =
    record {
      args_vars = leb-true _ _ (search (and-fst, and-snd));
      vars_16 = leb-true _ _ (search (and-fst, and-snd));
      limit_16 = leb-true _ _ (search (and-fst, and-snd));
      fields_4 = leb-true _ _ (search (and-fst, and-snd));
      main_args = λ q. let m : (not (eqb c 0) || eqb k.args 0) ≡ true = search (and-fst, and-snd) in eqb-true _ _ (or_right (not (eqb c 0)) _ m (rw q));
      some_code = leb-true _ _ (search (and-fst, and-snd));
      code_256 = leb-true _ _ (search (and-fst, and-snd));
    }

pub record WellFormed (P : Program) : Type 0 where
  pub some_class : 1 ≤ P.classes
  pub few_classes : P.classes ≤ 8
  pub exception : P.exception < P.classes
  pub main_args : (P.method 0).args ≡ 0
  pub args_vars : (c : ℕ) → c < P.classes → (P.method c).args ≤ (P.method c).vars
  pub vars_16 : (c : ℕ) → c < P.classes → (P.method c).vars ≤ 16
  pub limit_16 : (c : ℕ) → c < P.classes → (P.method c).limit ≤ 16
  pub fields_4 : (c : ℕ) → c < P.classes → (P.method c).fields ≤ 4
  pub some_code : (c : ℕ) → c < P.classes → 1 ≤ (P.method c).code
  pub code_256 : (c : ℕ) → c < P.classes → (P.method c).code ≤ 256
  pub descriptor : (c i : ℕ) → c < P.classes → i < (P.method c).args
      → ((P.method c).descriptor i ≡ 255) ⊎ ((P.method c).descriptor i < P.classes)
  pub field : (c f : ℕ) → c < P.classes → f < (P.method c).fields
      → ((P.method c).field f ≡ 255) ⊎ ((P.method c).field f < P.classes)
  pub table : (c l : ℕ) → c < P.classes → 1 ≤ l → l ≤ (P.method c).code
      → InstructionFits P.classes (λ d. (P.method d).fields) (P.method c).vars (P.method c).code l ((P.method c).instruction l)

descriptor-is : (n : ℕ) (r : List ℕ) (i : ℕ) → descriptor_ok n r i ≡ true → (at r i ≡ 255) ⊎ (at r i < n)
unfolding descriptor_ok
descriptor-is n r i e = go (eqb (at r i) 255) refl
  where
    go : (t : Bool) → eqb (at r i) 255 ≡ t → (at r i ≡ 255) ⊎ (at r i < n)
    go true q = inl (eqb-true _ _ q)
    go false q = inr (ltb-true _ _ (or_right (eqb (at r i) 255) _ e q))

module _ (b : List ℕ) (e : (structure_of b).number ≡ 0) where
  pub lengths : (8 ≤ length b) × (length b ≤ 65535)
  unfolding length_ok
  lengths = let h = structure-zero b e whole tt in (leb-true 8 (length b) (search (and-fst, and-snd)), leb-true (length b) 65535 (search (and-fst, and-snd)))

  pub class-limits : (c : ℕ) → c < classes b → Limited c (class_at b c)
  class-limits c l = limited c (class_at b c) (structure-zero b e (limits c) l)

  -- every record lies before the trailer
  pub extents : (c : ℕ) → c < classes b → record_fits b (class_at b c) ≡ true
  extents c l = structure-zero b e (extent c) l

  pub some-classes : (1 ≤ classes b) × (classes b ≤ 8)
  unfolding directory_ok
  some-classes =
      let h = structure-zero b e directory tt in
      (leb-true 1 (classes b) (search (and-fst, and-snd)), leb-true (classes b) 8 (search (and-fst, and-snd)))

  -- the spare byte names a class
  pub exception-class : exception b < classes b
  unfolding directory_ok
  exception-class = let h = structure-zero b e directory tt in ltb-true (exception b) (classes b) (search (and-fst, and-snd))

  pub well-formed : WellFormed (program_of b)
  unfolding program_of method_at method_of instruction_at field_at descriptors_ok address_ok
  well-formed =
      record {
        some_class = some-classes.0;
        few_classes = some-classes.1;
        exception = exception-class;
        main_args = (class-limits 0 some-classes.0).main_args refl;
        args_vars = λ c l. (class-limits c l).args_vars;
        vars_16 = λ c l. (class-limits c l).vars_16;
        limit_16 = λ c l. (class-limits c l).limit_16;
        fields_4 = λ c l. (class-limits c l).fields_4;
        some_code = λ c l. (class-limits c l).some_code;
        code_256 = λ c l. (class-limits c l).code_256;
        descriptor = λ c i l h. descriptor-is (classes b) _ i (all-elim _ ((class_at b c).args + (class_at b c).fields) (structure-zero b e (descriptors c) l) i (omega arith));
        field = λ c f l h. descriptor-is (classes b) _ ((class_at b c).args + f) (all-elim _ ((class_at b c).args + (class_at b c).fields) (structure-zero b e (descriptors c) l) ((class_at b c).args + f) (omega arith));
        table = λ c l h a z.
            let k = class_at b c in
            admitted (classes b) (fields_of b) k.vars k.code l (code_at k (part_of b k) l) z (structure-zero b e (instruction c l) (record { class_known = h; first = a; last = z }));
      }
