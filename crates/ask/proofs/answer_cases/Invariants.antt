use Rattle.std.proofs.Common.{◌-◌, ◌*◌, ◌≤◌, length}
use Rattle.ask.specs.Lines.{CasesAnswered}
use Rattle.ask.proofs.answer_cases.Given as goal

abbrev pub invariant-loop-next : goal.invariant-loop-next
invariant-loop-next l = record {
  so_far : CasesAnswered l.text l.table l.cases l.at l.out l.answered (record { next = l.next; filled = l.filled });
  room : l.filled ≤ 92 * l.answered;
}

abbrev pub decreases-loop-next : goal.decreases-loop-next
decreases-loop-next l = length l.cases - l.next
