use mathlib.Core.Path.{sym, ◌∙◌}
use mathlib.Core.Bool.{◌&&◌}
use Rattle.ground.proofs.Bools.{and-fst, and-snd}
use Rattle.entries.proofs.Words.{alike-takes}
use Rattle.entries.proofs.alike.Goals as goal

pub returns : goal.returns
returns c = λ e.
    let a = c.is_reference in
    let b = c.is_reference-2 in
    let both = and-fst (a.result && b.result) _ e in
    let p = sym a.ensures ∙ and-fst a.result b.result both in
    let q = sym b.ensures ∙ and-snd a.result b.result both in
    (p, q, alike-takes _ _ _ p q (rw (← c.class_in.ensures, ← c.class_in-2.ensures) (and-snd (a.result && b.result) _ e)))
