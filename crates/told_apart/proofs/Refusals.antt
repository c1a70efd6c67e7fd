-- The numbers of a refusal, and of the results that may be one, are told back.
use mathlib.Core.Path.{◌≡◌, refl, sym, ap, ◌∙◌}
use mathlib.Core.Bool.{false}
use Rattle.std.specs.Prelude.{ℕ, cond, eqb, Result, Ok, Err}
use Rattle.entries.specs.declared.Short.{Short}
use Rattle.entries.specs.declared.Short.TheVariants.{Kind, Dip, End}
use Rattle.entries.specs.Shorts.{short_number, short_in}
use Rattle.verdicts.specs.declared.Why.{Why}
use Rattle.verdicts.specs.declared.Why.TheVariants.{Unmet, Misfit}
use Rattle.verdicts.specs.declared.Refusal.{Refusal}
use Rattle.verdicts.specs.declared.Refusal.TheVariants.{Length, Trailer, Directory, Limits, Extent, Descriptors, Instruction, Form, Rule, FirstRow, NoPairs, Overlap, Room, Order, Levels, Given}
use Rattle.verdicts.specs.declared.Verdict.{Verdict}
use Rattle.verdicts.specs.Verdicts.{verdict}
use Rattle.verdicts.specs.Numbers.{why_number, numbers, found, judgement}
use Rattle.rules.specs.Rule.{Ruling, ruling_in}
use Rattle.instructions.specs.Table.{addr}
use Rattle.laying.specs.Laying.{Layout, layout_in, nameless}
use Rattle.runner.specs.declared.Ran as code
use Rattle.runner.specs.Run.{Ran, ran_in}
use Rattle.told_apart.specs.Apart.{ToldApart, ToldApartBy}
use Rattle.told_apart.proofs.Inverse.{from-inverse, from-inverse-by}

-- ---- how an entry falls short
abbrev short_back : ℕ → Short
short_back n = cond (eqb n 1) Kind (cond (eqb n 2) Dip End)

short-back : (s : Short) → short_back (short_number s) ≡ s
short-back Kind = refl
short-back Dip = refl
short-back End = refl

pub short_number-apart : ToldApart short_number
short_number-apart = from-inverse short_number short_back short-back

abbrev comparison_back : ℕ → Result Unit Short
comparison_back n = cond (eqb n 0) (Ok tt) (Err (short_back n))

comparison-back : (r : Result Unit Short) → comparison_back (short_in r) ≡ r
comparison-back (Ok _) = refl
comparison-back (Err Kind) = refl
comparison-back (Err Dip) = refl
comparison-back (Err End) = refl

pub short_in-apart : ToldApart short_in
short_in-apart = from-inverse short_in comparison_back comparison-back

-- ---- why a rule fails
abbrev why_back : ℕ → Why
why_back n = cond (eqb n 0) Unmet (Misfit (short_back n))

why-back : (w : Why) → why_back (why_number w) ≡ w
why-back Unmet = refl
why-back (Misfit Kind) = refl
why-back (Misfit Dip) = refl
why-back (Misfit End) = refl

pub why_number-apart : ToldApart why_number
why_number-apart = from-inverse why_number why_back why-back

abbrev ruling_back : Ruling → Result Unit Why
ruling_back x = cond x.met (cond (eqb x.short 0) (Ok tt) (Err (Misfit (short_back x.short)))) (Err Unmet)

ruling-back : (r : Result Unit Why) → ruling_back (ruling_in r) ≡ r
ruling-back (Ok _) = refl
ruling-back (Err Unmet) = refl
ruling-back (Err (Misfit Kind)) = refl
ruling-back (Err (Misfit Dip)) = refl
ruling-back (Err (Misfit End)) = refl

pub ruling_in-apart : ToldApart ruling_in
ruling_in-apart = from-inverse ruling_in ruling_back ruling-back

-- ---- the broken rule
abbrev later_back : Verdict → Refusal
later_back v =
    cond (eqb v.number 9) (Rule v.class (addr v.address) (why_back v.why))
    (cond (eqb v.number 10) (FirstRow v.class)
    (cond (eqb v.number 22) NoPairs
    (cond (eqb v.number 23) Overlap
    (cond (eqb v.number 24) Room
    (cond (eqb v.number 25) (Order v.class (addr v.address))
    (cond (eqb v.number 26) Levels Given))))))

abbrev refusal_back : Verdict → Refusal
refusal_back v =
    cond (eqb v.number 1) Length
    (cond (eqb v.number 2) Trailer
    (cond (eqb v.number 3) Directory
    (cond (eqb v.number 4) (Limits v.class)
    (cond (eqb v.number 5) (Extent v.class)
    (cond (eqb v.number 6) (Descriptors v.class)
    (cond (eqb v.number 7) (Instruction v.class (addr v.address))
    (cond (eqb v.number 8) (Form v.class (addr v.address))
    (later_back v))))))))

refusal-back : (r : Refusal) → refusal_back (numbers r) ≡ r
refusal-back Length = refl
refusal-back Trailer = refl
refusal-back Directory = refl
refusal-back (Limits c) = refl
refusal-back (Extent c) = refl
refusal-back (Descriptors c) = refl
refusal-back (Instruction c l) = refl
refusal-back (Form c l) = refl
refusal-back (Rule c l w) = ap (Rule c l) (why-back w)
refusal-back (FirstRow c) = refl
refusal-back NoPairs = refl
refusal-back Overlap = refl
refusal-back Room = refl
refusal-back (Order c l) = refl
refusal-back Levels = refl
refusal-back Given = refl

pub numbers-apart : ToldApart numbers
numbers-apart = from-inverse numbers refusal_back refusal-back

-- a refusal's number is never that of what is accepted
refused : (r : Refusal) → eqb (numbers r).number 0 ≡ false
refused Length = refl
refused Trailer = refl
refused Directory = refl
refused (Limits c) = refl
refused (Extent c) = refl
refused (Descriptors c) = refl
refused (Instruction c l) = refl
refused (Form c l) = refl
refused (Rule c l w) = refl
refused (FirstRow c) = refl
refused NoPairs = refl
refused Overlap = refl
refused Room = refl
refused (Order c l) = refl
refused Levels = refl
refused Given = refl

-- ---- a result that may be one
module _ {A : Type 0} where
  abbrev result_back : ℕ → A → Refusal → Result A Refusal
  result_back n a r = cond (eqb n 0) (Ok a) (Err r)

  result-back : (r : Refusal) (a : A) → result_back (numbers r).number a (refusal_back (numbers r)) ≡ Err r
  result-back r a = ap (λ t. cond t (Ok a) (Err (refusal_back (numbers r)))) (refused r) ∙ ap Err (refusal-back r)

abbrev search_back : Verdict → Result Unit Refusal
search_back v = result_back v.number tt (refusal_back v)

search-back : (r : Result Unit Refusal) → search_back (found r) ≡ r
search-back (Ok _) = refl
search-back (Err r) = result-back r tt

pub found-apart : ToldApart found
found-apart = from-inverse found search_back search-back

abbrev judgement_back : Verdict → Result ℕ Refusal
judgement_back v = result_back v.number v.class (refusal_back v)

judgement-back : (r : Result ℕ Refusal) → judgement_back (judgement r) ≡ r
judgement-back (Ok n) = refl
judgement-back (Err r) = result-back r (numbers r).class

pub judgement-apart : ToldApart judgement
judgement-apart = from-inverse judgement judgement_back judgement-back

-- ---- a layout: without class and address, which no refusal of `lay` names
abbrev layout_back : Layout → Result ℕ Refusal
layout_back x = result_back x.number x.length (refusal_back (verdict x.number 0 0))

layout-back : (r : Result ℕ Refusal) → nameless r → layout_back (layout_in r) ≡ r
layout-back (Ok l) _ = refl
layout-back (Err r) e = ap (λ v. result_back (numbers r).number 0 (refusal_back v)) (sym e) ∙ result-back r 0

pub layout_in-apart : ToldApartBy layout_in nameless
layout_in-apart = from-inverse-by layout_in nameless layout_back layout-back

-- ---- a run, or why the bundle is refused
abbrev ran_back : Ran → Result code.Ran Refusal
ran_back x = cond (eqb x.answer 0) (Ok (record { state = x.state; steps = x.steps; classes = x.verdict.class })) (Err (refusal_back x.verdict))

ran-back : (r : Result code.Ran Refusal) → ran_back (ran_in r) ≡ r
ran-back (Ok x) = refl
ran-back (Err r) = ap Err (refusal-back r)

pub ran_in-apart : ToldApart ran_in
ran_in-apart = from-inverse ran_in ran_back ran-back
