-- `kept::late::effects` meets its contract: the mark of those met becomes that of all. Assumes nothing.
use mathlib.Core.Path.{◌≡◌, refl, ◌∙◌}
use Prim.Native.Nat.{◌-◌, ◌^◌, ◌≤◌, ◌<◌}
use native.Mathlib.Omega.{arith}
use lib.Dec.{eqb}
use lib.ListN.{length}
use Rattle.table.specs.Kinds.{permit_kind}
use Rattle.stored.specs.ReadBack.{policies_at}
use Rattle.stored.specs.Ready.{Last}
use Rattle.stored.proofs.Evaluating.{some_left, number_falls, last_there}
use Rattle.meaning.proofs.Marking.{mark_after, none_met}
use Rattle.marks.specs.Marks.{permits_of}
use Rattle.marks.proofs.ByMarks.{bit_there, bit_fits, no_bits}
use Rattle.deciding.proofs.MarkLaws.{all_marked, mark_one, effect_there}
use Rattle.kept.specs.Notes.{ReadyOfSome}
use Rattle.kept.proofs.late.effects.Given as goal

abbrev pub invariant-loop-end : goal.invariant-loop-end
invariant-loop-end l =
    ReadyOfSome l.table l.end
    × (length (policies_at l.table l.end) ≤ 64)
    × (l.mark < 2 ^ (64 - length (policies_at l.table l.end)))
    × (mark_after (λ p. p.permits) (policies_at l.table l.end) l.mark ≡ permits_of (policies_at l.table l.entries))

abbrev pub decreases-loop-end : goal.decreases-loop-end
decreases-loop-end l = l.end
