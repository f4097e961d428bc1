-- `tallies::counting::count_rows` meets its contract: the rows passed are counted, and the walk stands at the row. Assumes nothing.
use Rattle.sheets.specs.Asked.{WalkFor}
use Rattle.table.specs.Recorded.{recorded}
use Rattle.sheets.specs.Sheets.{decision_at}
use Rattle.views.specs.Places.{kept_heads}
use Rattle.turns.specs.Turns.{AtRow}
use Rattle.pages.specs.Tally.{group_size, tally_of}
use Rattle.meaning.specs.Targets.{Request}
use Rattle.placing.specs.Said.{words_of}
use Rattle.stored.specs.ReadBack.{policies_at}
use lib.ListN.{length}
use Prim.Native.Nat.{◌-◌, ◌≤◌}
use mathlib.Core.Path.{◌≡◌}
use Rattle.tallies.proofs.counting.count_rows.Given as goal

abbrev pub invariant-loop : goal.invariant-loop
invariant-loop l =
    (l.all ≤ 262144) × (l.counter ≤ l.all) × (length l.group ≡ group_size)
    × ((q : Request) → WalkFor l.text l.table l.walk l.looks l.action q
    → (l.group ≡ tally_of (decision_at (recorded l.table) l.s l.walk.p q (words_of l.text (policies_at l.table l.walk.entries))) l.counter)
    × AtRow l.text l.table l.s l.walk (kept_heads l.places) l.grid l.ends l.looks l.action q l.counter l.choices l.values l.from l.notes l.kept)
