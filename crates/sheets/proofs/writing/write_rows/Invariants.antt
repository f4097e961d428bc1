-- `sheets::writing::write_rows` meets its contract: the rows passed are written, and the walk stands at the row. Assumes nothing.
use borrow.Author.Rules.{rules}
use Rattle.views.specs.Places.{kept_heads}
use Rattle.turns.specs.Turns.{AtRow}
use Rattle.turns.proofs.RowLaws.{choices_small, stands_first, kept_first, ends_few, policy_fits, walked_gone, underway_gone, at_gone, at_back}
use Rattle.placing.specs.Said.{words_of}
use Rattle.sheets.specs.Asked.{Asked, WalkFor}
use Rattle.table.specs.Recorded.{recorded}
use Rattle.sheets.specs.Sheets.{rows_in, decision_at, row_mark}
use Rattle.pages.proofs.Progress.{Progress, begun, turn_yes, turn_no, turn_full, turn_none}
use Rattle.pages.specs.Listing.{row_size, listed}
use Rattle.bags.specs.declared.sections.Sections.{Sections}
use Rattle.meaning.specs.Targets.{Request}
use Rattle.meaning.specs.declared.Decision.{Decision}
use Rattle.meaning.specs.Decisions.{is_allowed, policy_of}
use Rattle.stored.specs.ReadBack.{policies_at}
use lib.ListN.{length, get_or, length-drop, length-take}
use native.Mathlib.Omega.{arith}
use Prim.Native.Nat.{ℕ, ◌≤◌, ◌<◌, ◌*◌, ◌+◌, ◌-◌}
use mathlib.Core.List.{List}
use mathlib.Core.Path.{◌≡◌, refl, sym, ap, ◌∙◌, subst}
use Rattle.sheets.proofs.writing.write_rows.Given as goal

abbrev pub invariant-loop-row : goal.invariant-loop-row
invariant-loop-row l =
    (l.all ≤ 262144) × (l.row ≤ l.all) × (l.start + l.written ≤ l.row) × (l.at ≡ row_size * l.written) × (length l.part ≡ length l.initial.part)
    × ((q : Request) → WalkFor l.text l.table l.walk l.looks l.action q
    → Progress (decision_at (recorded l.table) l.s l.walk.p q (words_of l.text (policies_at l.table l.walk.entries))) (row_mark (recorded l.table) l.s l.walk.p q (words_of l.text (policies_at l.table l.walk.entries)))
    (listed (decision_at (recorded l.table) l.s l.walk.p q (words_of l.text (policies_at l.table l.walk.entries))) l.all l.start)
    l.initial.part l.written l.part (listed (decision_at (recorded l.table) l.s l.walk.p q (words_of l.text (policies_at l.table l.walk.entries))) l.all l.row)
    × AtRow l.text l.table l.s l.walk (kept_heads l.places) l.grid l.ends l.looks l.action q l.row l.choices l.values l.from l.notes l.kept)

abbrev pub decreases-loop-row : goal.decreases-loop-row
decreases-loop-row l = l.all - l.row
