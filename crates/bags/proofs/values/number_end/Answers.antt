-- `bags::values::number_end` meets its contract. Assumes nothing.
use Rattle.std.proofs.Common.{◌≤◌, length, ◌+◌, arith, sym, ◌∙◌}
use Rattle.bags.proofs.ValueLaws.{number_cut, number_infinite, number_whole}
use Rattle.bags.proofs.values.number_end.Goals as goal
use Rattle.bags.proofs.values.number_end.Goals.{else-at-s-via-then-at-s+then-s-at-ge8+else-is_number_at, else-at-s-via-then-at-s+else-s-at-ge8, else-at-s-via-else-at-s}

pub returns-then-is_number_at : goal.returns-then-is_number_at
returns-then-is_number_at c = number_whole _ _ (omega arith) (sym c.is_number_at.ensures ∙ c.if-is_number_at.true)

pub returns-else-at-s : goal.returns-else-at-s
returns-else-at-s c = elim c.else-at-s.branch [
  | else-at-s-via-then-at-s+then-s-at-ge8+else-is_number_at w ↦
      number_infinite _ _ (omega arith) (sym w.is_number_at.ensures ∙ w.if-is_number_at.false)
  | else-at-s-via-then-at-s+else-s-at-ge8 w ↦ number_cut _ _ (omega arith)
  | else-at-s-via-else-at-s w ↦ number_cut _ _ (omega arith)
]
