-- How a condition is met from its last entry on: what is left, and what its verdict becomes. Definitions only.
use Rattle.std.specs.Prelude.{Bool, cond, not, ◌&&◌, ℕ, ◌-◌, eqb, ltb}
use Rattle.table.specs.declared.Entry.{Entry}
use Rattle.table.specs.Kinds.{not_kind, and_kind, or_kind, if_kind}
use Rattle.meaning.specs.declared.Verdict.{Verdict}
use Rattle.meaning.specs.declared.Verdict.TheVariants.{Yes, No, Missing}
use Rattle.ways.specs.declared.Way.{Way}

-- where the part ends that is met first: what `if` asks, and the right part of `&&` and `||`
abbrev pub first_met : ℕ → Entry → ℕ
first_met at x = cond (eqb x.kind if_kind) x.first (at - 1)

-- the same, or all that is left
abbrev pub part_met : ℕ → Entry → ℕ
part_met at x = cond (ltb x.kind and_kind) at (first_met at x)

-- what is left becomes k
unfoldable pub ended_by : Way → Verdict → Way
ended_by w k = record { at = 0; yes = w.yes; no = k; rest = w.rest; held = w.held; kept = w.kept }

-- what ends before `at` is left, and its Yes and No become these
unfoldable pub gone_on : Way → ℕ → Verdict → Verdict → Way
gone_on w at a b = record { at = at; yes = a; no = b; rest = w.rest; held = w.held; kept = w.kept }

-- the part that is met first is left, and ends before `part`; the rest is kept for then
unfoldable pub entered_at : Way → ℕ → Way
entered_at w part = record { at = part; yes = Yes; no = No; rest = w.at; held = w.yes; kept = w.no }

-- what was kept is left
unfoldable pub come_back : Way → Way
come_back w = record { at = w.rest; yes = w.held; no = w.kept; rest = 0; held = Yes; kept = Yes }

-- after a Yes of the part that is met first; it stops `||` where nothing before it can be Missing
unfoldable pub after_yes : Bool → Way → Entry → Way
after_yes settles w x =
    cond (eqb x.kind and_kind) (gone_on w x.first w.yes w.no)
    (cond (eqb x.kind if_kind) (gone_on w x.second w.yes w.no)
    (cond (eqb x.kind or_kind && not settles) (gone_on w x.first w.yes w.yes)
    (ended_by w w.yes)))

-- after a No, which stops `&&` so
unfoldable pub after_no : Bool → Way → Entry → Way
after_no settles w x =
    cond (eqb x.kind or_kind) (gone_on w x.first w.yes w.no)
    (cond (eqb x.kind if_kind) (gone_on w (w.at - 1) w.yes w.no)
    (cond (eqb x.kind and_kind && not settles) (gone_on w x.first w.no w.no)
    (ended_by w w.no)))

-- after a Missing, which counts as a No where `settles`
unfoldable pub after_missing : Bool → Way → Entry → Way
after_missing settles w x =
    cond settles (after_no settles w x)
    (cond (eqb x.kind or_kind) (gone_on w x.first w.yes Missing)
    (cond (eqb x.kind and_kind) (gone_on w x.first Missing w.no)
    (ended_by w Missing)))

-- after the part that is met first, by its verdict
abbrev pub after_part : Bool → Way → Entry → Verdict → Way
after_part settles w x Yes = after_yes settles w x
after_part settles w x No = after_no settles w x
after_part settles w x Missing = after_missing settles w x

-- inside `!` or brackets
unfoldable pub inside_part : Way → Entry → Way
inside_part w x = cond (eqb x.kind not_kind) (gone_on w (w.at - 1) w.no w.yes) (gone_on w (w.at - 1) w.yes w.no)
