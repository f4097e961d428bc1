-- `deciding::row::decision` meets its contract. The invariant: the marks of those met become those of all. Assumes nothing.
use native.Mathlib.Omega.{arith}
use borrow.Author.Rules.{rules}
use Rattle.marks.specs.Marks.{permits_of}
use Rattle.marks.proofs.ByMarks.{permits_words, bit_there, bit_fits, no_bits}
use Rattle.stored.proofs.Evaluating.{some_left, number_falls, last_there}
use Rattle.deciding.proofs.MarkLaws.{all_marked, mark_one, none_marked, effect_there}
use Rattle.targets.specs.Matching.{request}
use Rattle.placing.specs.Said.{policy_words, words_of}
use Rattle.table.specs.Kinds.{permit_kind}
use Rattle.table.specs.Recorded.{recorded}
use Rattle.meaning.specs.Decisions.{under, satisfied, mark_of}
use Rattle.meaning.proofs.Marking.{mark_after, none_met}
use Rattle.meaning.proofs.WordLaws.{many_words}
use Rattle.views.specs.Meaning.{look}
use Rattle.views.specs.Places.{BagPlaced}
use Rattle.views.specs.Values.{base_bag}
use Rattle.stored.specs.Ready.{ReadyPolicies, Last}
use Rattle.stored.specs.ReadBack.{policies_at}
use Prim.Native.Nat.{◌-◌, ◌^◌, ◌≤◌, ◌<◌}
use lib.Dec.{eqb}
use lib.ListN.{length}
use mathlib.Core.Path.{◌≡◌, refl, ◌∙◌}
use Rattle.deciding.proofs.row.decision.Given as goal

abbrev pub invariant-loop-end : goal.invariant-loop-end
invariant-loop-end l =
    ReadyPolicies l.text l.table l.end
    × (length (policies_at l.table l.end) ≤ 64)
    × (l.permits < 2 ^ (64 - length (policies_at l.table l.end)))
    × (l.mark < 2 ^ (64 - length (policies_at l.table l.end)))
    × (mark_after (λ p. p.permits) (policies_at l.table l.end) l.permits ≡ permits_of (policies_at l.table l.entries))
    × (mark_after (λ r. satisfied (under (recorded l.table) (look (base_bag l.bag l.fn.p))) (request l.subject l.action l.resource) (policy_words l.text r)) (policies_at l.table l.end) l.mark
    ≡ mark_of (under (recorded l.table) (look (base_bag l.bag l.fn.p))) (request l.subject l.action l.resource) (words_of l.text (policies_at l.table l.entries)))

abbrev pub decreases-loop-end : goal.decreases-loop-end
decreases-loop-end l = l.end
