use Rattle.std.proofs.Common.{◌≡◌, ◌+◌, ◌-◌, ◌*◌, ◌≤◌, length}
use Rattle.targets.specs.Matching.{request}
use Rattle.pages.specs.Listing.{listed}
use Rattle.sheets.specs.Sheets.{decisions}
use Rattle.printing.specs.Printed.{page_room, all_listed}
use Rattle.printing.proofs.print_pages.Given as goal

abbrev pub invariant-loop-start : goal.invariant-loop-start
invariant-loop-start g l = record {
  few : l.listed ≤ page_room * l.start + page_room;
  within : l.start ≤ l.rows;
  all : l.listed + length (listed (decisions l.text l.table l.question (request l.subject l.action l.resource)) l.rows l.start)
      ≡ all_listed l.text l.table l.question (request l.subject l.action l.resource) l.rows;
}

abbrev pub decreases-loop-start : goal.decreases-loop-start
decreases-loop-start g l = l.rows - l.start
