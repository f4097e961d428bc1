-- `kept::decision_from` meets its contract: notes and mark of the policies met are right for this row, and of those that are not to be met already were; the notes of
-- the policies still to be met are right for the row before. Assumes nothing.
use mathlib.Core.Path.{◌≡◌, sym, ap, ◌∙◌, subst}
use mathlib.Core.Bool.{true, false}
use mathlib.Core.List.{List}
use Prim.Native.Nat.{ℕ, suc, ◌-◌, ◌^◌, ◌<◌, ◌≤◌}
use native.Mathlib.Nat.{lt_of_lt_of_le, one-le-pow, pow-le-pow_right}
use native.Mathlib.Omega.{arith}
use borrow.Author.Rules.{rules}
use lib.Bits.{and_le_l}
use lib.ListN.{length, get_or}
use Rattle.grammar.specs.Policies.{Policy}
use Rattle.table.specs.Recorded.{recorded}
use Rattle.stored.specs.ReadBack.{policies_at}
use Rattle.views.specs.Rows.{row_view}
use Rattle.views.specs.Places.{kept_heads}
use Rattle.views.proofs.PlacedLaws.{stands_placed, same_view}
use Rattle.placing.specs.Said.{policy_words, words_of}
use Rattle.meaning.specs.Targets.{Request}
use Rattle.meaning.specs.Decisions.{under, satisfied, Numbered}
use Rattle.meaning.proofs.WordLaws.{many_words}
use Rattle.marks.specs.Marks.{is_set}
use Rattle.marks.proofs.Bits.{lowest_some, lowest_set, set_below, taken_fits, numbered_there}
use Rattle.marks.proofs.ByMarks.{permits_words}
use Rattle.depths.specs.Looks.{own_of, end_at, policy_ending, PolicyEnds}
use Rattle.kept.specs.Notes.{Kept, sat_by}
use Rattle.kept.proofs.Noting.{Halfway, none_met_yet, one_met, all_met, all_clear, still_clear, bit_below, sat_here, sat_where, note_holds}
use Rattle.kept.proofs.decision_from.Given as goal

abbrev pub invariant-loop-left : goal.invariant-loop-left
invariant-loop-left l =
    (length l.notes ≡ 512)
    × (l.left < 2 ^ l.walk.policies)
    × (l.mark < 2 ^ l.walk.policies)
    × ((k : ℕ) → is_set l.left k ≡ true → is_set l.mark k ≡ false)
    × ((q : Request) → q.action ≡ l.action
    → (k : Kept (recorded l.table) l.text l.s l.walk (kept_heads l.places) q (policies_at l.table l.walk.entries) l.looks l.values l.walk.from l.initial.notes l.walk.mark)
    → Halfway (recorded l.table) l.text l.s l.walk.p l.walk.n (kept_heads l.places) q (policies_at l.table l.walk.entries) l.looks k.carried.before l.values l.left l.notes l.mark)

abbrev pub decreases-loop-left : goal.decreases-loop-left
decreases-loop-left l = l.left
