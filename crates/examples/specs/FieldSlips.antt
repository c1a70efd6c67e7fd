-- Slips that weaken a rule of document 02's Q-8: fields, and references that may be null. Of each as in Slips.
use Rattle.std.specs.Prelude.{List, [], ◌∷◌, map, ◌≡◌, Bool, true, cond, ◌&&◌, ◌||◌, ℕ, ◌+◌, leb}
use Rattle.ground.specs.Bounded.{all_below}
use Rattle.entries.specs.Entries.{Entry, Int, dip_of, end_of, class_of, is_top, is_reference, is_nullable, may_be_of, field_entry, matches_field}
use Rattle.entries.specs.Fits.{may_go, takes, Want, want_entered}
use Rattle.rows.specs.Rows.{Row}
use Rattle.matching.specs.Matching.{popped, pushed, stored, emptied, Wants, wants, wants_at, Edge, edge, vars_go, stack_goes}
use Rattle.rules.specs.Rule.{Rule, rule}
use Rattle.rules.specs.Rules.{made, failure_thrown, unnulled, owner_goes, object_goes}
use Rattle.examples.specs.Bundles.{pop, push0, load, store, enter, exit, new, start, athrow, returns, getfield, putfield, top, int, reference, free, owing, nullable, line, source, bundle_of}
use Rattle.examples.specs.Runs.{main}
use Rattle.examples.specs.Slips.{Slip, found, wanted_of}

-- ---- the weakened rules, X being class 0 and the handler's row z: what fits
-- each entry of a row as w says
abbrev wants_by : (Entry → Want) → Row → Wants
wants_by w y = record { variable = λ i. w (y.variable i); depth = y.depth; stack = λ j. w (y.stack j) }

-- what is wanted of an entry, its kind told otherwise
abbrev want_kind : (Entry → Entry → Bool) → Entry → Want
want_kind k y = record { kind = k y; dip = dip_of y; end = end_of y }

-- what may be null takes what may be null of any class
abbrev takes_any_class : Entry → Entry → Bool
takes_any_class y x = (is_nullable y && is_nullable x) || takes y x

abbrev load_any_class : ℕ → Row → Row → Rule
load_any_class v x y = rule true (edge (pushed (x.variable v) x) (wants_by (want_kind takes_any_class) y) ∷ [])

-- .. takes a reference with a negative end
abbrev want_forgetful : Entry → Want
want_forgetful y = record { kind = takes y; dip = dip_of y; end = cond (is_nullable y) 0 (end_of y) }

abbrev push_forgets : Row → Row → Rule
push_forgets x y = rule true (edge (pushed Int x) (wants_by want_forgetful y) ∷ [])

-- .. fits a reference of its class that may not
abbrev takes_null : Entry → Entry → Bool
takes_null y x = (is_reference y && may_be_of (class_of y) x) || takes y x

abbrev store_trusts : ℕ → Row → Row → Rule
store_trusts v x y = rule (leb 1 x.depth && may_go (x.variable v)) (edge (popped 1 (stored v (x.stack 0) x)) (wants_by (want_kind takes_null) y) ∷ [])

-- .. takes Top
abbrev takes_top : Entry → Entry → Bool
takes_top y x = (is_nullable y && is_top x) || takes y x

abbrev load_from_top : ℕ → Row → Row → Rule
load_from_top v x y = rule true (edge (pushed (x.variable v) x) (wants_by (want_kind takes_top) y) ∷ [])

-- ---- .. what still needs a reference that may not be null
-- monitorexit of what may be null
abbrev exit_null : ℕ → Row → Row → Rule
exit_null v x y = rule (is_nullable (x.variable v)) (edge x (wants y) ∷ [])

-- start with an argument that may be null
abbrev argument_may_be_null : (ℕ → ℕ) → Row → ℕ → Bool
argument_may_be_null descriptor x j = matches_field (descriptor j) (x.stack j) && may_go (x.stack j)

abbrev start_null : ℕ → (ℕ → ℕ) → ℕ → Row → Row → Rule
start_null args descriptor c x y =
    rule (leb (args + 1) x.depth && all_below args (argument_may_be_null descriptor x) && object_goes c x args) (edge (popped (args + 1) x) (wants y) ∷ [])

-- ---- .. the throw of null, which is under all of a failed new's rule
-- the stack below the owner need not go
abbrev get_keeps_stack : ℕ → ℕ → ℕ → Row → Row → Row → Rule
get_keeps_stack c d h x y z = rule (leb 1 x.depth && owner_goes c (x.stack 0)) (edge (pushed (field_entry d) (popped 1 x)) (wants y) ∷ failure_thrown 0 h x z)

-- monitorenter v of what may be null, with other edges for the throw
abbrev enter_null : ℕ → Row → Row → List Edge → Rule
enter_null v x y throws = rule (is_nullable (x.variable v) && stack_goes x) (edge (unnulled v x) (wants_at v (want_entered (y.variable v)) y) ∷ throws)

-- a handler whose row has depth 0
abbrev enter_to_empty : ℕ → Row → Row → Row → Rule
enter_to_empty v x y z = enter_null v x y (edge (emptied x) (wants z) ∷ [])

-- the handler's only entry compared with itself
abbrev enter_to_any : ℕ → Row → Row → Row → Rule
enter_to_any v x y z = enter_null v x y (edge (pushed (z.stack 0) (emptied x)) (wants z) ∷ [])

-- the handler's variables compared with themselves
abbrev enter_to_any_variables : ℕ → Row → Row → Row → Rule
enter_to_any_variables v x y z = enter_null v x y (edge (pushed (made 0) (emptied z)) (wants z) ∷ [])

-- with no handler, the variables need not go
abbrev enter_skips : ℕ → Row → Row → Rule
enter_skips v x y = enter_null v x y []

-- v, which is null there, compared with the handler's row as an object
abbrev enter_trusts : ℕ → Row → Row → Row → Rule
enter_trusts v x y z = enter_null v x y (edge (pushed (made 0) (emptied (unnulled v x))) (wants z) ∷ [])

-- ---- .. and what the new instructions give and take
-- after a monitorenter the variable is (0,0), not from (0,0)
abbrev enter_to_zero : ℕ → ℕ → Row → Row → Rule
enter_to_zero vars v x y = rule (is_nullable (x.variable v) && stack_goes x && vars_go vars x) (edge (unnulled v x) (wants y) ∷ [])

-- getfield gives a reference that may not be null
abbrev get_makes : ℕ → ℕ → Row → Row → Rule
get_makes c d x y = rule (leb 1 x.depth && owner_goes c (x.stack 0)) (edge (pushed (made d) (popped 1 x)) (wants y) ∷ [])

-- an owner with a negative end
abbrev get_owing : ℕ → ℕ → Row → Row → Rule
get_owing c d x y = rule (leb 1 x.depth && may_be_of c (x.stack 0)) (edge (pushed (field_entry d) (popped 1 x)) (wants y) ∷ [])

-- a value that is Top
abbrev put_top : ℕ → ℕ → Row → Row → Rule
put_top c d x y =
    rule (leb 2 x.depth && ((is_top (x.stack 0) || matches_field d (x.stack 0)) && may_go (x.stack 0)) && owner_goes c (x.stack 1)) (edge (popped 2 x) (wants y) ∷ [])

-- a value with a negative end
abbrev put_owing : ℕ → ℕ → Row → Row → Rule
put_owing c d x y = rule (leb 2 x.depth && matches_field d (x.stack 0) && owner_goes c (x.stack 1)) (edge (popped 2 x) (wants y) ∷ [])

-- ---- the bundles: what goes wrong in each
-- an object of class 0 comes as class 1, null or not, and goes into a field of class 1
abbrev any_class : List ℕ
any_class =
    bundle_of 0
    (source 1 2 [] (1 ∷ [])
    (line (new 0 0) (top ∷ []) []
    ∷ line (store 0) (top ∷ []) (free 0 ∷ [])
    ∷ line (load 0) (nullable 0 ∷ []) []
    ∷ line (load 0) (nullable 0 ∷ []) (nullable 0 ∷ [])
    ∷ line (putfield 0 0 0) (nullable 0 ∷ []) (nullable 1 ∷ nullable 0 ∷ [])
    ∷ line returns (nullable 0 ∷ []) []
    ∷ [])
    ∷ source 0 0 [] [] (line returns [] [] ∷ [])
    ∷ [])

-- the lock is taken, and the next row forgets that it is owing
abbrev forgotten : List ℕ
forgotten =
    bundle_of 0
    (source 1 1 [] []
    (line (new 0 0) (top ∷ []) []
    ∷ line (store 0) (top ∷ []) (free 0 ∷ [])
    ∷ line (enter 0 0) (free 0 ∷ []) []
    ∷ line push0 (owing 0 ∷ []) []
    ∷ line returns (nullable 0 ∷ []) (int ∷ [])
    ∷ [])
    ∷ [])

-- null from a field passes for an object, and is thrown
abbrev trusted : List ℕ
trusted =
    bundle_of 0
    (source 1 1 [] (0 ∷ [])
    (line (new 0 0) (top ∷ []) []
    ∷ line (getfield 0 0 0) (top ∷ []) (free 0 ∷ [])
    ∷ line (store 0) (top ∷ []) (nullable 0 ∷ [])
    ∷ line (load 0) (free 0 ∷ []) []
    ∷ line (athrow 0) (free 0 ∷ []) (free 0 ∷ [])
    ∷ [])
    ∷ [])

-- an integer, taken for Top, comes back as an owner
abbrev from_top : List ℕ
from_top =
    bundle_of 0
    (source 1 1 [] (255 ∷ [])
    (line push0 (top ∷ []) []
    ∷ line (store 0) (top ∷ []) (int ∷ [])
    ∷ line (load 0) (top ∷ []) []
    ∷ line (getfield 0 0 0) (top ∷ []) (nullable 0 ∷ [])
    ∷ line returns (top ∷ []) (int ∷ [])
    ∷ [])
    ∷ [])

-- null from a field is given back
abbrev exits_null : List ℕ
exits_null =
    bundle_of 0
    (source 1 1 [] (0 ∷ [])
    (line (new 0 0) (top ∷ []) []
    ∷ line (getfield 0 0 0) (top ∷ []) (free 0 ∷ [])
    ∷ line (store 0) (top ∷ []) (nullable 0 ∷ [])
    ∷ line (exit 0) (nullable 0 ∷ []) []
    ∷ line returns (nullable 0 ∷ []) []
    ∷ [])
    ∷ [])

-- null from a field is an argument
abbrev starts_with_null : List ℕ
starts_with_null =
    bundle_of 0
    (source 0 2 [] (1 ∷ [])
    (line (new 1 0) [] []
    ∷ line (new 0 0) [] (free 1 ∷ [])
    ∷ line (getfield 0 0 0) [] (free 0 ∷ free 1 ∷ [])
    ∷ line (start 1) [] (nullable 1 ∷ free 1 ∷ [])
    ∷ line returns [] []
    ∷ [])
    ∷ source 1 0 (1 ∷ []) [] (line returns (free 1 ∷ []) [] ∷ [])
    ∷ [])

-- the lock lies below the owner, and the handler returns
abbrev stack_kept : List ℕ
stack_kept =
    bundle_of 0
    (source 1 2 [] (0 ∷ [])
    (line (new 0 0) (top ∷ []) []
    ∷ line (store 0) (top ∷ []) (free 0 ∷ [])
    ∷ line (enter 0 0) (free 0 ∷ []) []
    ∷ line (load 0) (owing 0 ∷ []) []
    ∷ line (load 0) (free 0 ∷ []) (owing 0 ∷ [])
    ∷ line (getfield 0 0 0) (free 0 ∷ []) (free 0 ∷ owing 0 ∷ [])
    ∷ line (getfield 0 0 10) (free 0 ∷ []) (nullable 0 ∷ owing 0 ∷ [])
    ∷ line pop (free 0 ∷ []) (nullable 0 ∷ owing 0 ∷ [])
    ∷ line (athrow 9) (free 0 ∷ []) (owing 0 ∷ [])
    ∷ line returns (free 0 ∷ []) (free 0 ∷ [])
    ∷ [])
    ∷ [])

-- no room for the handler's push
abbrev depth_unasked : List ℕ
depth_unasked =
    bundle_of 0
    (source 1 1 [] (0 ∷ [])
    (line (new 0 0) (top ∷ []) []
    ∷ line (getfield 0 0 0) (top ∷ []) (free 0 ∷ [])
    ∷ line (store 0) (top ∷ []) (nullable 0 ∷ [])
    ∷ line (enter 0 6) (nullable 0 ∷ []) []
    ∷ line (exit 0) (owing 0 ∷ []) []
    ∷ line push0 (nullable 0 ∷ []) []
    ∷ line returns (nullable 0 ∷ []) (int ∷ [])
    ∷ [])
    ∷ [])

-- the handler takes the caught object and keeps it
abbrev entry_unasked : List ℕ
entry_unasked =
    bundle_of 0
    (source 1 1 [] (0 ∷ [])
    (line (new 0 0) (top ∷ []) []
    ∷ line (getfield 0 0 0) (top ∷ []) (free 0 ∷ [])
    ∷ line (store 0) (top ∷ []) (nullable 0 ∷ [])
    ∷ line (enter 0 7) (nullable 0 ∷ []) []
    ∷ line (exit 0) (owing 0 ∷ []) []
    ∷ line returns (nullable 0 ∷ []) []
    ∷ line (store 0) (nullable 0 ∷ []) (reference 0 0 65 ∷ [])
    ∷ line (enter 0 0) (reference 0 0 65 ∷ []) []
    ∷ line returns (free 0 ∷ []) []
    ∷ [])
    ∷ [])

-- the handler forgets that variable 1 is held
abbrev variables_unasked : List ℕ
variables_unasked =
    bundle_of 0
    (source 2 1 [] (0 ∷ [])
    (line (new 0 0) (top ∷ top ∷ []) []
    ∷ line (store 1) (top ∷ top ∷ []) (free 0 ∷ [])
    ∷ line (load 1) (top ∷ free 0 ∷ []) []
    ∷ line (getfield 0 0 0) (top ∷ free 0 ∷ []) (free 0 ∷ [])
    ∷ line (store 0) (top ∷ free 0 ∷ []) (nullable 0 ∷ [])
    ∷ line (enter 1 0) (nullable 0 ∷ free 0 ∷ []) []
    ∷ line (enter 0 11) (nullable 0 ∷ owing 0 ∷ []) []
    ∷ line (exit 0) (owing 0 ∷ owing 0 ∷ []) []
    ∷ line (exit 1) (free 0 ∷ owing 0 ∷ []) []
    ∷ line returns (free 0 ∷ free 0 ∷ []) []
    ∷ line returns (top ∷ top ∷ []) (free 0 ∷ [])
    ∷ [])
    ∷ [])

-- the thread ends uncaught while variable 1 is held
abbrev variables_kept : List ℕ
variables_kept =
    bundle_of 0
    (source 2 1 [] (0 ∷ [])
    (line (new 0 0) (top ∷ top ∷ []) []
    ∷ line (store 1) (top ∷ top ∷ []) (free 0 ∷ [])
    ∷ line (load 1) (top ∷ free 0 ∷ []) []
    ∷ line (getfield 0 0 0) (top ∷ free 0 ∷ []) (free 0 ∷ [])
    ∷ line (store 0) (top ∷ free 0 ∷ []) (nullable 0 ∷ [])
    ∷ line (enter 1 0) (nullable 0 ∷ free 0 ∷ []) []
    ∷ line (enter 0 0) (nullable 0 ∷ owing 0 ∷ []) []
    ∷ line (exit 0) (owing 0 ∷ owing 0 ∷ []) []
    ∷ line (exit 1) (free 0 ∷ owing 0 ∷ []) []
    ∷ line returns (free 0 ∷ free 0 ∷ []) []
    ∷ [])
    ∷ [])

-- the handler throws the variable, which is null
abbrev lock_trusted : List ℕ
lock_trusted =
    bundle_of 0
    (source 1 1 [] (0 ∷ [])
    (line (new 0 0) (top ∷ []) []
    ∷ line (getfield 0 0 0) (top ∷ []) (free 0 ∷ [])
    ∷ line (store 0) (top ∷ []) (nullable 0 ∷ [])
    ∷ line (enter 0 7) (nullable 0 ∷ []) []
    ∷ line (exit 0) (owing 0 ∷ []) []
    ∷ line returns (free 0 ∷ []) []
    ∷ line pop (free 0 ∷ []) (free 0 ∷ [])
    ∷ line (load 0) (free 0 ∷ []) []
    ∷ line (athrow 0) (free 0 ∷ []) (free 0 ∷ [])
    ∷ [])
    ∷ [])

-- the lock is taken, and nothing is owing
abbrev unentered : List ℕ
unentered =
    bundle_of 0
    (source 1 1 [] []
    (line (new 0 0) (top ∷ []) []
    ∷ line (store 0) (top ∷ []) (free 0 ∷ [])
    ∷ line (enter 0 0) (nullable 0 ∷ []) []
    ∷ line returns (free 0 ∷ []) []
    ∷ [])
    ∷ [])

-- null from a field is taken for an object, and thrown
abbrev made_by_get : List ℕ
made_by_get =
    bundle_of 0
    (source 0 1 [] (0 ∷ [])
    (line (new 0 0) [] []
    ∷ line (getfield 0 0 0) [] (free 0 ∷ [])
    ∷ line (athrow 0) [] (free 0 ∷ [])
    ∷ [])
    ∷ [])

-- the lock goes with the owner
abbrev owner_owing : List ℕ
owner_owing =
    bundle_of 0
    (source 1 1 [] (255 ∷ [])
    (line (new 0 0) (top ∷ []) []
    ∷ line (store 0) (top ∷ []) (free 0 ∷ [])
    ∷ line (enter 0 0) (free 0 ∷ []) []
    ∷ line (load 0) (owing 0 ∷ []) []
    ∷ line (getfield 0 0 0) (free 0 ∷ []) (owing 0 ∷ [])
    ∷ line returns (free 0 ∷ []) (int ∷ [])
    ∷ [])
    ∷ [])

-- an object goes into an integer field
abbrev top_value : List ℕ
top_value =
    bundle_of 0
    (source 0 2 [] (255 ∷ [])
    (line (new 0 0) [] []
    ∷ line (new 0 0) [] (free 0 ∷ [])
    ∷ line (putfield 0 0 0) [] (top ∷ free 0 ∷ [])
    ∷ line returns [] []
    ∷ [])
    ∷ [])

-- the lock goes with the value
abbrev value_owing : List ℕ
value_owing =
    bundle_of 0
    (source 1 2 [] (0 ∷ [])
    (line (new 0 0) (top ∷ []) []
    ∷ line (store 0) (top ∷ []) (free 0 ∷ [])
    ∷ line (enter 0 0) (free 0 ∷ []) []
    ∷ line (load 0) (owing 0 ∷ []) []
    ∷ line (load 0) (owing 0 ∷ []) (free 0 ∷ [])
    ∷ line (putfield 0 0 0) (free 0 ∷ []) (owing 0 ∷ free 0 ∷ [])
    ∷ line returns (free 0 ∷ []) []
    ∷ [])
    ∷ [])

-- in the order of the rules above: what fits, what still needs a reference that may not be null, the throw of null, what the new instructions give and take
abbrev pub field_slips : List Slip
field_slips =
    record { bundle = any_class; address = 4; why = 1; weaker = λ rows. load_any_class 0 (rows 4) (rows 5); schedule = main 5; wanted = 0 ∷ 0 ∷ 0 ∷ 0 ∷ 13 ∷ [] }
    ∷ record { bundle = forgotten; address = 4; why = 3; weaker = λ rows. push_forgets (rows 4) (rows 5); schedule = main 5; wanted = 0 ∷ 0 ∷ 0 ∷ 0 ∷ 15 ∷ [] }
    ∷ record { bundle = trusted; address = 3; why = 1; weaker = λ rows. store_trusts 0 (rows 3) (rows 4); schedule = main 5; wanted = 0 ∷ 0 ∷ 0 ∷ 0 ∷ 13 ∷ [] }
    ∷ record { bundle = from_top; address = 3; why = 1; weaker = λ rows. load_from_top 0 (rows 3) (rows 4); schedule = main 4; wanted = 0 ∷ 0 ∷ 0 ∷ 13 ∷ [] }
    ∷ record { bundle = exits_null; address = 4; why = 0; weaker = λ rows. exit_null 0 (rows 4) (rows 5); schedule = main 4; wanted = 0 ∷ 0 ∷ 0 ∷ 13 ∷ [] }
    ∷ record { bundle = starts_with_null; address = 4; why = 0; weaker = λ rows. start_null 1 (λ j. 1) 1 (rows 4) (rows 5); schedule = main 4; wanted = 0 ∷ 0 ∷ 0 ∷ 13 ∷ [] }
    ∷ record { bundle = stack_kept; address = 7; why = 0; weaker = λ rows. get_keeps_stack 0 0 10 (rows 7) (rows 8) (rows 10); schedule = main 8; wanted = 0 ∷ 0 ∷ 0 ∷ 0 ∷ 0 ∷ 0 ∷ 0 ∷ 15 ∷ [] }
    ∷ record { bundle = depth_unasked; address = 4; why = 0; weaker = λ rows. enter_to_empty 0 (rows 4) (rows 5) (rows 6); schedule = main 5; wanted = 0 ∷ 0 ∷ 0 ∷ 0 ∷ 12 ∷ [] }
    ∷ record { bundle = entry_unasked; address = 4; why = 3; weaker = λ rows. enter_to_any 0 (rows 4) (rows 5) (rows 7); schedule = main 7; wanted = 0 ∷ 0 ∷ 0 ∷ 0 ∷ 0 ∷ 0 ∷ 15 ∷ [] }
    ∷ record { bundle = variables_unasked; address = 7; why = 3; weaker = λ rows. enter_to_any_variables 0 (rows 7) (rows 8) (rows 11); schedule = main 8; wanted = 0 ∷ 0 ∷ 0 ∷ 0 ∷ 0 ∷ 0 ∷ 0 ∷ 15 ∷ [] }
    ∷ record { bundle = variables_kept; address = 7; why = 0; weaker = λ rows. enter_skips 0 (rows 7) (rows 8); schedule = main 7; wanted = 0 ∷ 0 ∷ 0 ∷ 0 ∷ 0 ∷ 0 ∷ 15 ∷ [] }
    ∷ record { bundle = lock_trusted; address = 4; why = 1; weaker = λ rows. enter_trusts 0 (rows 4) (rows 5) (rows 7); schedule = main 7; wanted = 0 ∷ 0 ∷ 0 ∷ 0 ∷ 0 ∷ 0 ∷ 13 ∷ [] }
    ∷ record { bundle = unentered; address = 3; why = 3; weaker = λ rows. enter_to_zero 1 0 (rows 3) (rows 4); schedule = main 4; wanted = 0 ∷ 0 ∷ 0 ∷ 15 ∷ [] }
    ∷ record { bundle = made_by_get; address = 2; why = 1; weaker = λ rows. get_makes 0 0 (rows 2) (rows 3); schedule = main 3; wanted = 0 ∷ 0 ∷ 13 ∷ [] }
    ∷ record { bundle = owner_owing; address = 5; why = 0; weaker = λ rows. get_owing 0 255 (rows 5) (rows 6); schedule = main 6; wanted = 0 ∷ 0 ∷ 0 ∷ 0 ∷ 0 ∷ 15 ∷ [] }
    ∷ record { bundle = top_value; address = 3; why = 0; weaker = λ rows. put_top 0 255 (rows 3) (rows 4); schedule = main 3; wanted = 0 ∷ 0 ∷ 13 ∷ [] }
    ∷ record { bundle = value_owing; address = 6; why = 0; weaker = λ rows. put_owing 0 0 (rows 6) (rows 7); schedule = main 7; wanted = 0 ∷ 0 ∷ 0 ∷ 0 ∷ 0 ∷ 0 ∷ 15 ∷ [] }
    ∷ []

-- none of these clauses is idle: what each slip would let through faults (`field-slips-hold`)
abbrev pub FieldSlipsHold : Type 0
FieldSlipsHold = map found field_slips ≡ map wanted_of field_slips
