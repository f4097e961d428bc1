use Rattle.std.proofs.Common.{◌≡◌, ◌+◌, ◌-◌, ◌≤◌, length}
use Rattle.ask.specs.Lines.{cases_from}
use Rattle.ask.proofs.print_cases.Given as goal

abbrev pub invariant-loop-next : goal.invariant-loop-next
invariant-loop-next g l = record {
  within : l.next ≤ length l.cases;
  few : l.answered ≤ l.next;
  counted : cases_from l.cases 0 ≡ l.answered + cases_from l.cases l.next;
}

abbrev pub decreases-loop-next : goal.decreases-loop-next
decreases-loop-next g l = length l.cases - l.next
