use Rattle.std.proofs.Common.{[], sym, ◌∙◌, arith}
use borrow.Author.Tests.{eq-eqb, ne_eqb}
use Rattle.usage_text.specs.Reading.{read_inside, read_shuffle, read_choice}
use Rattle.usage_text.proofs.Turns.{shuffles, choices, chain-none, chain-some, part-asks, on-stop, on-gap, on-more, on_room, on-asks, no-bracket, bracket-none, bracket-closed, bracket-open, taken-low, takes-nought, lock-none, takes-lock, unlock-none, takes-unlock, takes-open, takes-other, lock-falls, unlock-falls, open-falls}
use Rattle.usage_text.proofs.+reading.Goals as goal

pub read_bracket-returns-then-depth-eq0 : goal.read_bracket-returns-then-depth-eq0
read_bracket-returns-then-depth-eq0 t c = no-bracket c.args.depth c.args.s.now c.if-depth-eq0.true

pub read_bracket-returns-in_err-left : goal.read_bracket-returns-in_err-left
read_bracket-returns-in_err-left t c = rw c.from_residual.ensures (bracket-none c.args.depth c.args.s.now c.if-depth-eq0.false c.read_choice.ensures c.in_err-left.was)

pub read_bracket-returns-then-byte-ne41 : goal.read_bracket-returns-then-byte-ne41
read_bracket-returns-then-byte-ne41 t c = bracket-open c.args.depth c.args.s.now c.if-depth-eq0.false c.read_choice.ensures _ c.in_ok-left.was c.rest-r.ensures (λ e. c.if-byte-ne41.true (c.byte.ensures ∙ e))

pub read_bracket-returns : goal.read_bracket-returns
read_bracket-returns t c = bracket-closed c.args.depth c.args.s.now c.if-depth-eq0.false c.read_choice.ensures _ c.in_ok-left.was c.rest-r.ensures (sym c.byte.ensures ∙ c.if-byte-ne41.false)

pub read_choice-returns-in_err-left : goal.read_choice-returns-in_err-left
unfolding read_choice
read_choice-returns-in_err-left t c = rw c.from_residual.ensures (chain-none (choices c.args.depth) c.args.s.now c.read_shuffle.ensures c.in_err-left.was)

pub read_choice-read_choice_on-requires : goal.read_choice-read_choice_on-requires
read_choice-read_choice_on-requires t c = let m = part-asks (choices c.args.depth) c.args.s.now _ c.read_shuffle.ensures c.in_ok-left.was c.rest-r.ensures c.requires in (omega (arith, m.0, c.decreases), (m.1, m.2))

pub read_choice-returns : goal.read_choice-returns
unfolding read_choice
read_choice-returns t c = chain-some (choices c.args.depth) c.args.s.now _ c.read_shuffle.ensures c.in_ok-left.was c.rest-r.ensures c.read_choice_on.ensures

pub read_choice_on-returns-then-byte-ne38 : goal.read_choice_on-returns-then-byte-ne38
read_choice_on-returns-then-byte-ne38 t c = on-stop (choices c.args.depth) c.args.s.now c.args.w (rw (← c.byte.ensures) (ne_eqb _ _ c.if-byte-ne38.true))

pub read_choice_on-returns-in_err-left : goal.read_choice_on-returns-in_err-left
read_choice_on-returns-in_err-left t c = rw c.from_residual.ensures (on-gap (choices c.args.depth) c.args.s.now _ c.args.w (rw (← c.byte.ensures) (eq-eqb _ _ c.if-byte-ne38.false)) c.behind-b.ensures c.read_shuffle.ensures c.in_err-left.was)

pub read_choice_on-either_of-requires : goal.read_choice_on-either_of-requires
read_choice_on-either_of-requires t c = on-asks (choices c.args.depth) c.args.s.now _ _ (rw (← c.byte.ensures) (eq-eqb _ _ c.if-byte-ne38.false)) c.behind-b.ensures c.read_shuffle.ensures c.in_ok-left.was c.rest-r.ensures c.requires.0 c.requires.1

pub read_choice_on-read_choice_on-requires : goal.read_choice_on-read_choice_on-requires
read_choice_on-read_choice_on-requires t c = let m = on_room (choices c.args.depth) c.args.s.now _ _ (rw (← c.byte.ensures) (eq-eqb _ _ c.if-byte-ne38.false)) c.behind-b.ensures c.read_shuffle.ensures c.in_ok-left.was c.rest-r.ensures c.requires.0 c.requires.1 c.either_of.ensures in (omega (arith, m.0, c.decreases), (omega (arith, m.0, c.requires.0), m.1))

pub read_choice_on-returns : goal.read_choice_on-returns
read_choice_on-returns t c = on-more (choices c.args.depth) c.args.s.now _ _ (rw (← c.byte.ensures) (eq-eqb _ _ c.if-byte-ne38.false)) c.behind-b.ensures c.read_shuffle.ensures c.in_ok-left.was c.rest-r.ensures c.either_of.ensures c.read_choice_on.ensures

pub read_shuffle-returns-in_err-left : goal.read_shuffle-returns-in_err-left
unfolding read_shuffle
read_shuffle-returns-in_err-left t c = rw c.from_residual.ensures (chain-none (shuffles c.args.depth) c.args.s.now c.read_prefixed.ensures c.in_err-left.was)

pub read_shuffle-read_shuffle_on-requires : goal.read_shuffle-read_shuffle_on-requires
read_shuffle-read_shuffle_on-requires t c = let m = part-asks (shuffles c.args.depth) c.args.s.now _ c.read_prefixed.ensures c.in_ok-left.was c.rest-r.ensures c.requires in (omega (arith, m.0, c.decreases), (m.1, m.2))

pub read_shuffle-returns : goal.read_shuffle-returns
unfolding read_shuffle
read_shuffle-returns t c = chain-some (shuffles c.args.depth) c.args.s.now _ c.read_prefixed.ensures c.in_ok-left.was c.rest-r.ensures c.read_shuffle_on.ensures

pub read_shuffle_on-returns-then-byte-ne42 : goal.read_shuffle_on-returns-then-byte-ne42
read_shuffle_on-returns-then-byte-ne42 t c = on-stop (shuffles c.args.depth) c.args.s.now c.args.w (rw (← c.byte.ensures) (ne_eqb _ _ c.if-byte-ne42.true))

pub read_shuffle_on-returns-in_err-left : goal.read_shuffle_on-returns-in_err-left
read_shuffle_on-returns-in_err-left t c = rw c.from_residual.ensures (on-gap (shuffles c.args.depth) c.args.s.now _ c.args.w (rw (← c.byte.ensures) (eq-eqb _ _ c.if-byte-ne42.false)) c.behind-b.ensures c.read_prefixed.ensures c.in_err-left.was)

pub read_shuffle_on-both_of-requires : goal.read_shuffle_on-both_of-requires
read_shuffle_on-both_of-requires t c = on-asks (shuffles c.args.depth) c.args.s.now _ _ (rw (← c.byte.ensures) (eq-eqb _ _ c.if-byte-ne42.false)) c.behind-b.ensures c.read_prefixed.ensures c.in_ok-left.was c.rest-r.ensures c.requires.0 c.requires.1

pub read_shuffle_on-read_shuffle_on-requires : goal.read_shuffle_on-read_shuffle_on-requires
read_shuffle_on-read_shuffle_on-requires t c = let m = on_room (shuffles c.args.depth) c.args.s.now _ _ (rw (← c.byte.ensures) (eq-eqb _ _ c.if-byte-ne42.false)) c.behind-b.ensures c.read_prefixed.ensures c.in_ok-left.was c.rest-r.ensures c.requires.0 c.requires.1 c.both_of.ensures in (omega (arith, m.0, c.decreases), (omega (arith, m.0, c.requires.0), m.1))

pub read_shuffle_on-returns : goal.read_shuffle_on-returns
read_shuffle_on-returns t c = on-more (shuffles c.args.depth) c.args.s.now _ _ (rw (← c.byte.ensures) (eq-eqb _ _ c.if-byte-ne42.false)) c.behind-b.ensures c.read_prefixed.ensures c.in_ok-left.was c.rest-r.ensures c.both_of.ensures c.read_shuffle_on.ensures

pub read_prefixed-read_prefixed-requires : goal.read_prefixed-read_prefixed-requires
read_prefixed-read_prefixed-requires t c = let m = lock-falls (read_inside c.args.depth) c.args.s.now _ (sym c.head_of.ensures ∙ c.in-Lock.is) c.behind-r-in-Lock.ensures in (omega (arith, m, c.decreases), omega (arith, m, c.requires))

pub read_prefixed-returns-in_err-left-in-Lock : goal.read_prefixed-returns-in_err-left-in-Lock
read_prefixed-returns-in_err-left-in-Lock t c = rw c.from_residual.ensures (lock-none (read_inside c.args.depth) c.args.s.now _ (sym c.head_of.ensures ∙ c.in-Lock.is) c.behind-r-in-Lock.ensures c.read_prefixed.ensures c.in_err-left-in-Lock.was)

pub read_prefixed-after_lock-requires : goal.read_prefixed-after_lock-requires
read_prefixed-after_lock-requires t c = taken-low c.args.depth _ c.read_prefixed.ensures c.in_ok-left-in-Lock.was (omega (arith, lock-falls (read_inside c.args.depth) c.args.s.now _ (sym c.head_of.ensures ∙ c.in-Lock.is) c.behind-r-in-Lock.ensures, c.requires))

pub read_prefixed-returns-in_ok-left-in-Lock : goal.read_prefixed-returns-in_ok-left-in-Lock
read_prefixed-returns-in_ok-left-in-Lock t c = takes-lock (read_inside c.args.depth) c.args.s.now _ (sym c.head_of.ensures ∙ c.in-Lock.is) c.behind-r-in-Lock.ensures c.read_prefixed.ensures c.in_ok-left-in-Lock.was c.after_lock.ensures

pub read_prefixed-read_prefixed-requires-in-Unlock : goal.read_prefixed-read_prefixed-requires-in-Unlock
read_prefixed-read_prefixed-requires-in-Unlock t c = let m = unlock-falls (read_inside c.args.depth) c.args.s.now _ (sym c.head_of.ensures ∙ c.in-Unlock.is) c.behind-r-in-Unlock.ensures in (omega (arith, m, c.decreases), omega (arith, m, c.requires))

pub read_prefixed-returns-in_err-left-in-Unlock : goal.read_prefixed-returns-in_err-left-in-Unlock
read_prefixed-returns-in_err-left-in-Unlock t c = rw c.from_residual-in_err-left-in-Unlock.ensures (unlock-none (read_inside c.args.depth) c.args.s.now _ (sym c.head_of.ensures ∙ c.in-Unlock.is) c.behind-r-in-Unlock.ensures c.read_prefixed-in-Unlock.ensures c.in_err-left-in-Unlock.was)

pub read_prefixed-after_unlock-requires : goal.read_prefixed-after_unlock-requires
read_prefixed-after_unlock-requires t c = taken-low c.args.depth _ c.read_prefixed-in-Unlock.ensures c.in_ok-left-in-Unlock.was (omega (arith, unlock-falls (read_inside c.args.depth) c.args.s.now _ (sym c.head_of.ensures ∙ c.in-Unlock.is) c.behind-r-in-Unlock.ensures, c.requires))

pub read_prefixed-returns-in_ok-left-in-Unlock : goal.read_prefixed-returns-in_ok-left-in-Unlock
read_prefixed-returns-in_ok-left-in-Unlock t c = takes-unlock (read_inside c.args.depth) c.args.s.now _ (sym c.head_of.ensures ∙ c.in-Unlock.is) c.behind-r-in-Unlock.ensures c.read_prefixed-in-Unlock.ensures c.in_ok-left-in-Unlock.was c.after_unlock.ensures

pub read_prefixed-read_bracket-requires : goal.read_prefixed-read_bracket-requires
read_prefixed-read_bracket-requires t c = let m = open-falls (read_inside c.args.depth) c.args.s.now _ (sym c.head_of.ensures ∙ c.in-Open.is) c.behind-r-in-Open.ensures in (omega (arith, m, c.decreases), omega (arith, m, c.requires))

pub read_prefixed-returns-in-Nought : goal.read_prefixed-returns-in-Nought
read_prefixed-returns-in-Nought t c = takes-nought (read_inside c.args.depth) c.args.s.now _ (sym c.head_of.ensures ∙ c.in-Nought.is) c.behind-r.ensures

pub read_prefixed-returns-in-Open : goal.read_prefixed-returns-in-Open
read_prefixed-returns-in-Open t c = takes-open (read_inside c.args.depth) c.args.s.now _ (sym c.head_of.ensures ∙ c.in-Open.is) c.behind-r-in-Open.ensures c.read_bracket.ensures

pub read_prefixed-returns-in-Other : goal.read_prefixed-returns-in-Other
read_prefixed-returns-in-Other t c = takes-other (read_inside c.args.depth) c.args.s.now [] (sym c.head_of.ensures ∙ c.in-Other.is)
