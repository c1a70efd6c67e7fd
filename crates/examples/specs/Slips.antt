-- Slips that weaken a rule: for each, the weakened rule, a bundle that it lets through where document 01's rule refuses, and a schedule that then faults.
use Rattle.std.specs.Prelude.{List, [], ◌∷◌, ◌++◌, map, ◌≡◌, Bool, true, ◌&&◌, ℕ, ◌-◌, leb, eqb}
use Rattle.ground.specs.Bounded.{all_below}
use Rattle.verdicts.specs.declared.Verdict.{Verdict}
use Rattle.verdicts.specs.Verdicts.{rule_fails}
use Rattle.entries.specs.Entries.{Entry, end_of, is_int, is_reference, is_of}
use Rattle.entries.specs.Fits.{may_go, takes, Want}
use Rattle.rows.specs.Rows.{Row}
use Rattle.rows.specs.Typed.{Typed, typed_of}
use Rattle.matching.specs.Matching.{popped, pushed, stored, emptied, wants, wants_at, edge, vars_go, stack_goes}
use Rattle.rules.specs.Rule.{Rule, rule, rule_holds}
use Rattle.rules.specs.Rules.{uncaught_goes, thrown, made}
use Rattle.machine.specs.Runs.{Step}
use Rattle.verifier.specs.Verdict.{verdict_of}
use Rattle.examples.specs.Bundles.{i, top, int, none, free, owing}
use Rattle.examples.specs.Runs.{answers, failing, main, row, double}

-- ---- the weakened rules
-- the pair copied at load instead of split
abbrev load_copies : ℕ → Row → Row → Rule
load_copies v x y = rule true (edge (pushed (x.variable v) x) (wants y) ∷ [])

-- only the arm that falls through
abbrev if_one_arm : Row → Row → Rule
if_one_arm x y = rule (leb 1 x.depth && is_int (x.stack 0)) (edge (popped 1 x) (wants y) ∷ [])

-- a failed new without handler that skips the rule for variables
abbrev new_skips : ℕ → Row → Row → Rule
new_skips c x y = rule (stack_goes x) (edge (pushed (made c) x) (wants y) ∷ [])

-- store that doesn't ask the old variable to go
abbrev store_drops : ℕ → Row → Row → Rule
store_drops v x y = rule (leb 1 x.depth) (edge (popped 1 (stored v (x.stack 0) x)) (wants y) ∷ [])

-- return with may go at -1
abbrev goes_at_minus_one : Row → ℕ → Bool
goes_at_minus_one x j = leb 63 (end_of (x.variable j))

abbrev return_at_minus_one : ℕ → Row → Rule
return_at_minus_one vars x = rule (stack_goes x && all_below vars (goes_at_minus_one x)) []

-- exit that doesn't ask d
abbrev want_exited_free : Entry → Want
want_exited_free y = record { kind = takes y; dip = 0; end = end_of y - 1 }

abbrev exit_without_dip : ℕ → Row → Row → Rule
exit_without_dip v x y = rule (is_reference (x.variable v)) (edge x (wants_at v (want_exited_free (y.variable v)) y) ∷ [])

-- ---- .. of the throws (document 02, Q-6), X being class 0 and the handler's row z
-- a handler whose row has depth 0
abbrev new_to_empty : ℕ → Row → Row → Row → Rule
new_to_empty c x y z = rule (stack_goes x) (edge (pushed (made c) x) (wants y) ∷ edge (emptied x) (wants z) ∷ [])

-- a handler whose row has depth 1 or more
abbrev new_to_deeper : ℕ → Row → Row → Row → Rule
new_to_deeper c x y z =
    rule (stack_goes x && leb 1 z.depth)
    (edge (pushed (made c) x) (wants y) ∷ edge (pushed (made 0) (emptied x)) (wants (record { variable = z.variable; depth = 1; stack = z.stack })) ∷ [])

-- the handler's only entry not compared
abbrev new_to_any : ℕ → Row → Row → Row → Rule
new_to_any c x y z = rule (stack_goes x && eqb z.depth 1) (edge (pushed (made c) x) (wants y) ∷ edge (emptied x) (wants (emptied z)) ∷ [])

-- the handler's variables not compared
abbrev new_to_any_variables : ℕ → Row → Row → Row → Rule
new_to_any_variables c x y z = rule (stack_goes x) (edge (pushed (made c) x) (wants y) ∷ edge (pushed (made 0) (emptied z)) (wants z) ∷ [])

-- a failed new whose stack need not go, without a handler
abbrev new_keeps_stack : ℕ → ℕ → Row → Row → Rule
new_keeps_stack vars c x y = rule (vars_go vars x) (edge (pushed (made c) x) (wants y) ∷ [])

-- athrow of any class
abbrev throw_any : ℕ → ℕ → Row → Row → Rule
throw_any vars h x z =
    rule (leb 1 x.depth && is_reference (x.stack 0) && stack_goes (popped 1 x) && uncaught_goes vars h (x.stack 0) x) (thrown h (x.stack 0) x z)

-- with a handler, the rest of the stack need not go
abbrev throw_keeps_rest : ℕ → Row → Row → Rule
throw_keeps_rest h x z = rule (leb 1 x.depth && is_of 0 (x.stack 0)) (thrown h (x.stack 0) x z)

-- with none, the top, the rest, or the variables need not go
abbrev ends_with_top : ℕ → Row → Rule
ends_with_top vars x = rule (leb 1 x.depth && is_of 0 (x.stack 0) && stack_goes (popped 1 x) && vars_go vars x) []

abbrev ends_with_rest : ℕ → Row → Rule
ends_with_rest vars x = rule (leb 1 x.depth && is_of 0 (x.stack 0) && may_go (x.stack 0) && vars_go vars x) []

abbrev ends_with_vars : Row → Rule
ends_with_vars x = rule (leb 1 x.depth && is_of 0 (x.stack 0) && stack_goes x) []

-- ---- the bundles: V 1, K 1, but for the first, V 2, K 1, and where K 2 is said
abbrev one : ℕ → ℕ → ℕ → List ℕ
one offset k length = (0 ∷ 0 ∷ 0 ∷ 1 ∷ 1 ∷ 0 ∷ 0 ∷ k ∷ []) ++ (0 ∷ offset ∷ 1 ∷ 0 ∷ 0 ∷ length ∷ 76 ∷ 75 ∷ [])

abbrev one_of2 : ℕ → ℕ → ℕ → List ℕ
one_of2 offset k length = (0 ∷ 0 ∷ 0 ∷ 1 ∷ 2 ∷ 0 ∷ 0 ∷ k ∷ []) ++ (0 ∷ offset ∷ 1 ∷ 0 ∷ 0 ∷ length ∷ 76 ∷ 75 ∷ [])

-- 1 new 0; 2 store 0; 3 monitorenter 0; 4 load 0; 5 store 1; 6 monitorexit 0; 7 monitorexit 1; 8 return
abbrev two : List ℕ → List ℕ → ℕ → List ℕ → List ℕ
two first second depth entry = first ++ second ++ (depth ∷ entry)

abbrev copied : List ℕ
copied =
    i 9 0 0 ++ i 5 0 0 ++ i 7 0 0 ++ i 4 0 0 ++ i 5 1 0 ++ i 8 0 0 ++ i 8 1 0 ++ i 12 0 0
    ++ two top top 0 none
    ++ two top top 1 (free 0)
    ++ two (free 0) top 0 none
    ++ two (owing 0) top 0 none
    ++ two (owing 0) top 1 (owing 0)
    ++ two (owing 0) (owing 0) 0 none
    ++ two (free 0) (owing 0) 0 none
    ++ two (free 0) (free 0) 0 none
    ++ (0 ∷ 0 ∷ 0 ∷ 2 ∷ 1 ∷ 0 ∷ 0 ∷ 8 ∷ [])
    ++ (0 ∷ 136 ∷ 1 ∷ 0 ∷ 0 ∷ 152 ∷ 76 ∷ 75 ∷ [])

-- 1 new 0; 2 store 0; 3 monitorenter 0: the beginning of the others
abbrev locks : List ℕ
locks = i 9 0 0 ++ i 5 0 0 ++ i 7 0 0

abbrev locked : List ℕ
locked = row top 0 none ++ row top 1 (free 0) ++ row (free 0) 0 none ++ row (owing 0) 0 none

-- .. 4 push0; 5 inc; 6 if 8; 7 monitorexit 0; 8 return: the other arm keeps the lock
abbrev one_arm : List ℕ
one_arm =
    locks ++ i 3 0 0 ++ i 1 0 0 ++ i 6 0 8 ++ i 8 0 0 ++ i 12 0 0
    ++ locked
    ++ row (owing 0) 1 int
    ++ row (owing 0) 1 int
    ++ row (owing 0) 0 none
    ++ row (free 0) 0 none
    ++ one 104 8 120

-- .. 4 new 0, no handler; 5 pop; 6 monitorexit 0; 7 return
abbrev skipped : List ℕ
skipped =
    locks ++ i 9 0 0 ++ i 2 0 0 ++ i 8 0 0 ++ i 12 0 0
    ++ locked
    ++ row (owing 0) 1 (free 0)
    ++ row (owing 0) 0 none
    ++ row (free 0) 0 none
    ++ one 91 7 107

-- .. 4 push0; 5 store 0; 6 return
abbrev dropped : List ℕ
dropped = locks ++ i 3 0 0 ++ i 5 0 0 ++ i 12 0 0 ++ locked ++ row (owing 0) 1 int ++ row int 0 none ++ one 78 6 94

-- .. 4 return
abbrev kept : List ℕ
kept = locks ++ i 12 0 0 ++ locked ++ one 52 4 68

-- 1 new 0; 2 store 0; 3 monitorexit 0; 4 return
abbrev unheld : List ℕ
unheld = i 9 0 0 ++ i 5 0 0 ++ i 8 0 0 ++ i 12 0 0 ++ row top 0 none ++ row top 1 (free 0) ++ row (free 0) 0 none ++ row (free 0) 0 none ++ one 52 4 68

-- 1 new 0, handler 4; 2 pop; 3 return: the beginning of those that catch
abbrev catches : List ℕ
catches = i 9 0 4 ++ i 2 0 0 ++ i 12 0 0

abbrev caught : List ℕ
caught = row top 0 none ++ row top 1 (free 0) ++ row top 0 none

-- .. 4 push0; 5 pop; 6 return: no room for the push
abbrev to_empty : List ℕ
to_empty = catches ++ i 3 0 0 ++ i 2 0 0 ++ i 12 0 0 ++ caught ++ row top 0 none ++ row top 1 int ++ row top 0 none ++ one 78 6 94

-- .. 4 pop; 5 pop; 6 return (K 2): nothing for the second pop
abbrev to_deeper : List ℕ
to_deeper =
    catches ++ i 2 0 0 ++ i 2 0 0 ++ i 12 0 0
    ++ double top 0 none none
    ++ double top 1 (free 0) none
    ++ double top 0 none none
    ++ double top 2 (free 0) (free 0)
    ++ double top 1 (free 0) none
    ++ double top 0 none none
    ++ one_of2 102 6 118

-- .. 4 store 0; 5 monitorexit 0; 6 return: the caught object isn't held
abbrev to_any : List ℕ
to_any = catches ++ i 5 0 0 ++ i 8 0 0 ++ i 12 0 0 ++ caught ++ row top 1 (owing 0) ++ row (owing 0) 0 none ++ row (free 0) 0 none ++ one 78 6 94

-- 1 new 0; 2 store 0; 3 monitorenter 0; 4 new 0, handler 8; 5 pop; 6 monitorexit 0; 7 return; 8 pop; 9 return: the handler forgets the lock
abbrev to_any_variables : List ℕ
to_any_variables =
    locks ++ i 9 0 8 ++ i 2 0 0 ++ i 8 0 0 ++ i 12 0 0 ++ i 2 0 0 ++ i 12 0 0
    ++ locked
    ++ row (owing 0) 1 (free 0)
    ++ row (owing 0) 0 none
    ++ row (free 0) 0 none
    ++ row top 1 (free 0)
    ++ row top 0 none
    ++ one 117 9 133

-- 1 new 0; 2 store 0; 3 monitorenter 0; 4 load 0; 5 new 0, no handler; 6 pop; 7 store 0; 8 monitorexit 0; 9 return (K 2): the lock is on the stack
abbrev on_stack : List ℕ
on_stack =
    locks ++ i 4 0 0 ++ i 9 0 0 ++ i 2 0 0 ++ i 5 0 0 ++ i 8 0 0 ++ i 12 0 0
    ++ double top 0 none none
    ++ double top 1 (free 0) none
    ++ double (free 0) 0 none none
    ++ double (owing 0) 0 none none
    ++ double (free 0) 1 (owing 0) none
    ++ double (free 0) 2 (free 0) (owing 0)
    ++ double (free 0) 1 (owing 0) none
    ++ double (owing 0) 0 none none
    ++ double (free 0) 0 none none
    ++ one_of2 153 9 169

-- 1 new 0; 2 athrow, no handler: X is class 1, which has the same record
abbrev other_class : List ℕ
other_class =
    i 9 0 0 ++ i 11 0 0 ++ row top 0 none ++ row top 1 (free 0)
    ++ (0 ∷ 0 ∷ 0 ∷ 1 ∷ 1 ∷ 0 ∷ 0 ∷ 2 ∷ []) ++ (0 ∷ 0 ∷ 0 ∷ 1 ∷ 1 ∷ 0 ∷ 0 ∷ 2 ∷ []) ++ (0 ∷ 26 ∷ 2 ∷ 1 ∷ 0 ∷ 50 ∷ 76 ∷ 75 ∷ [])

-- 1 new 0; 2 store 0; 3 monitorenter 0; 4 load 0; 5 load 0 (K 2): the lock goes with the lower entry
abbrev below : List ℕ
below = locks ++ i 4 0 0 ++ i 4 0 0

abbrev below_rows : List ℕ
below_rows =
    double top 0 none none
    ++ double top 1 (free 0) none
    ++ double (free 0) 0 none none
    ++ double (owing 0) 0 none none
    ++ double (free 0) 1 (owing 0) none
    ++ double (free 0) 2 (free 0) (owing 0)

-- .. 6 athrow, handler 7; 7 pop; 8 return
abbrev rest_kept : List ℕ
rest_kept = below ++ i 11 0 7 ++ i 2 0 0 ++ i 12 0 0 ++ below_rows ++ double (free 0) 1 (free 0) none ++ double (free 0) 0 none none ++ one_of2 136 8 152

-- .. 6 athrow, no handler
abbrev rest_ends : List ℕ
rest_ends = below ++ i 11 0 0 ++ below_rows ++ one_of2 102 6 118

-- 1 new 0; 2 store 0; 3 monitorenter 0; 4 load 0; 5 athrow, no handler: the lock goes with the top, or stays with the variable
abbrev top_ends : List ℕ
top_ends = locks ++ i 4 0 0 ++ i 11 0 0 ++ locked ++ row (free 0) 1 (owing 0) ++ one 65 5 81

abbrev var_ends : List ℕ
var_ends = locks ++ i 4 0 0 ++ i 11 0 0 ++ locked ++ row (owing 0) 1 (free 0) ++ one 65 5 81

-- the address of class 0 where document 01's verdict is 9 with this why, the weakened rule there, of the rows of class 0, and the answers of a schedule
pub record Slip : Type 0 where
  pub bundle : List ℕ
  pub address : ℕ
  pub why : ℕ
  pub weaker : (ℕ → Row) → Rule
  pub schedule : List Step
  pub wanted : List ℕ

abbrev pub slips : List Slip
slips =
    record { bundle = copied; address = 4; why = 2; weaker = λ rows. load_copies 0 (rows 4) (rows 5); schedule = main 7; wanted = 0 ∷ 0 ∷ 0 ∷ 0 ∷ 0 ∷ 0 ∷ 14 ∷ [] }
    ∷ record { bundle = one_arm; address = 6; why = 3; weaker = λ rows. if_one_arm (rows 6) (rows 7); schedule = main 7; wanted = 0 ∷ 0 ∷ 0 ∷ 0 ∷ 0 ∷ 0 ∷ 15 ∷ [] }
    ∷ record { bundle = skipped; address = 4; why = 0; weaker = λ rows. new_skips 0 (rows 4) (rows 5); schedule = main 3 ++ (failing 0 ∷ []); wanted = 0 ∷ 0 ∷ 0 ∷ 15 ∷ [] }
    ∷ record { bundle = dropped; address = 5; why = 0; weaker = λ rows. store_drops 0 (rows 5) (rows 6); schedule = main 6; wanted = 0 ∷ 0 ∷ 0 ∷ 0 ∷ 0 ∷ 15 ∷ [] }
    ∷ record { bundle = kept; address = 4; why = 0; weaker = λ rows. return_at_minus_one 1 (rows 4); schedule = main 4; wanted = 0 ∷ 0 ∷ 0 ∷ 15 ∷ [] }
    ∷ record { bundle = unheld; address = 3; why = 2; weaker = λ rows. exit_without_dip 0 (rows 3) (rows 4); schedule = main 3; wanted = 0 ∷ 0 ∷ 14 ∷ [] }
    ∷ record { bundle = to_empty; address = 1; why = 0; weaker = λ rows. new_to_empty 0 (rows 1) (rows 2) (rows 4); schedule = failing 0 ∷ main 1; wanted = 0 ∷ 12 ∷ [] }
    ∷ record { bundle = to_deeper; address = 1; why = 0; weaker = λ rows. new_to_deeper 0 (rows 1) (rows 2) (rows 4); schedule = failing 0 ∷ main 2; wanted = 0 ∷ 0 ∷ 11 ∷ [] }
    ∷ record { bundle = to_any; address = 1; why = 2; weaker = λ rows. new_to_any 0 (rows 1) (rows 2) (rows 4); schedule = failing 0 ∷ main 2; wanted = 0 ∷ 0 ∷ 14 ∷ [] }
    ∷ record { bundle = to_any_variables; address = 4; why = 3; weaker = λ rows. new_to_any_variables 0 (rows 4) (rows 5) (rows 8); schedule = main 3 ++ (failing 0 ∷ main 2); wanted = 0 ∷ 0 ∷ 0 ∷ 0 ∷ 0 ∷ 15 ∷ [] }
    ∷ record { bundle = on_stack; address = 5; why = 0; weaker = λ rows. new_keeps_stack 1 0 (rows 5) (rows 6); schedule = main 4 ++ (failing 0 ∷ []); wanted = 0 ∷ 0 ∷ 0 ∷ 0 ∷ 15 ∷ [] }
    ∷ record { bundle = other_class; address = 2; why = 0; weaker = λ rows. throw_any 1 0 (rows 2) (rows 2); schedule = main 2; wanted = 0 ∷ 13 ∷ [] }
    ∷ record { bundle = rest_kept; address = 6; why = 0; weaker = λ rows. throw_keeps_rest 7 (rows 6) (rows 7); schedule = main 8; wanted = 0 ∷ 0 ∷ 0 ∷ 0 ∷ 0 ∷ 0 ∷ 0 ∷ 15 ∷ [] }
    ∷ record { bundle = top_ends; address = 5; why = 0; weaker = λ rows. ends_with_top 1 (rows 5); schedule = main 5; wanted = 0 ∷ 0 ∷ 0 ∷ 0 ∷ 15 ∷ [] }
    ∷ record { bundle = rest_ends; address = 6; why = 0; weaker = λ rows. ends_with_rest 1 (rows 6); schedule = main 6; wanted = 0 ∷ 0 ∷ 0 ∷ 0 ∷ 0 ∷ 15 ∷ [] }
    ∷ record { bundle = var_ends; address = 5; why = 0; weaker = λ rows. ends_with_vars (rows 5); schedule = main 5; wanted = 0 ∷ 0 ∷ 0 ∷ 0 ∷ 15 ∷ [] }
    ∷ []

-- the weakened rule holds
abbrev weakened : Typed → ((ℕ → Row) → Rule) → Bool
weakened T weaker = rule_holds (T.program.method 0).vars (weaker (T.row 0))

-- the verdict, what the weakened rule says and the answers, as they are found and as they are wanted: refused at the address, let through there, and the schedule ends in a fault
abbrev pub found : Slip → Verdict × Bool × List ℕ
found s = (verdict_of s.bundle, weakened (typed_of s.bundle) s.weaker, answers s.bundle s.schedule)

abbrev pub wanted_of : Slip → Verdict × Bool × List ℕ
wanted_of s = (rule_fails 0 s.address s.why, true, s.wanted)

-- no rule is idle: what each slip would let through faults (`slips-hold`)
abbrev pub SlipsHold : Type 0
SlipsHold = map found slips ≡ map wanted_of slips
