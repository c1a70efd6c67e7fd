-- Document 01, fits and may go, and what load, monitorenter and monitorexit ask of the entries that they name: one comparison, which says what is short (document 02, Q-1).
use Rattle.std.specs.Prelude.{Bool, true, cond, ◌&&◌, ℕ, ◌+◌, ◌-◌, leb, eqb}
use Rattle.ground.specs.Chain.{refuse}
use Rattle.entries.specs.Entries.{Entry, no_end, dip_of, end_of, kind_of, class_of, is_top, is_nullable, is_type, may_be_of}

-- may go: Int, Top, a reference that may be null, or a reference with e ≥ 0 (the others weigh e = 0)
abbrev pub may_go : Entry → Bool
may_go x = is_type x && leb no_end (end_of x)

-- Int fits Int or Top, Top fits Top, a reference fits one of the same class, or Top; one that may be null takes its class, null or not, and fits none that may not (document 02, Q-8): y takes x, pairs aside. What is no type fits only its like, and no rule sees it, since 8 comes before 9
unfoldable pub takes : Entry → Entry → Bool
takes y x =
    cond (is_top y) (is_type x)
    (cond (is_nullable y) (may_be_of (class_of y) x)
    (eqb (kind_of x) (kind_of y) && eqb (class_of x) (class_of y)))

-- what a place wants of the entry that comes there: kind and class, and a pair that it must not fall short of
pub record Want : Type 0 where
  pub kind : Entry → Bool
  pub dip : ℕ
  pub end : ℕ

-- the comparison of an entry with what is wanted: fits (0), kind or class differs (1), dip too small (2), end too small (3); the lowest that applies
unfoldable pub compare : Entry → Want → ℕ
compare x w = refuse (w.kind x) 1 (refuse (leb w.dip (dip_of x)) 2 (refuse (leb w.end (end_of x)) 3 0))

-- the entry y as it stands: d ≥ d' and e ≥ e'
abbrev pub want : Entry → Want
want y = record { kind = takes y; dip = dip_of y; end = end_of y }

-- monitorenter: d ≥ d'-1 and e ≥ e'+1
abbrev pub want_entered : Entry → Want
want_entered y = record { kind = takes y; dip = dip_of y - 1; end = end_of y + 1 }

-- monitorexit: d ≥ d'+1 and e ≥ e'-1
abbrev pub want_exited : Entry → Want
want_exited y = record { kind = takes y; dip = dip_of y + 1; end = end_of y - 1 }

-- load: to each as Top or as its own class, null or not, d ≥ the sum of both dips and e ≥ the sum of both ends
abbrev pub want_both : Entry → Entry → Want
want_both y z = record { kind = λ x. takes y x && takes z x; dip = dip_of y + dip_of z; end = end_of y + end_of z - no_end }

-- nothing: what comes there is compared elsewhere
abbrev pub want_nothing : Want
want_nothing = record { kind = λ x. true; dip = 0; end = 0 }

-- x fits y
abbrev pub entry_fits : Entry → Entry → Bool
entry_fits x y = eqb (compare x (want y)) 0
