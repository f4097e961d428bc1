-- `evaluating::evaluate_by` meets its contract: what is left to be met gives the verdict of the whole. It ends: each part ends before. Assumes nothing.
use Rattle.evaluating.proofs.Verdicts.{joins, flat_counted}
use Rattle.evaluating.proofs.Steps.{length_of, Going, turn_less, set_out, met, part_ready, part_falls, part_node, flat_part, after_turn, verdict_turn, inside_turn, entering, entering_less, arrived, rest_ready, back_at, back_turn, back_less}
use Rattle.stored.proofs.Evaluating.{node_of}
use Rattle.grammar.specs.Policies.{Tree}
use Rattle.placing.specs.Said.{tree_words}
use Rattle.meaning.specs.Conditions.{verdict}
use Rattle.meaning.specs.Values.{with_action}
use Rattle.views.specs.Places.{placed_view}
use borrow.Author.Rules.{rules}
use native.Mathlib.Omega.{arith}
use mathlib.Core.Path.{refl, sym, subst}
use Prim.Native.Nat.{ℕ, ◌<◌}
use Rattle.evaluating.proofs.+evaluate_by.Given as goal

abbrev pub decreases-evaluate_by : goal.decreases-evaluate_by
decreases-evaluate_by l = l.end

abbrev pub invariant-loop-w : goal.invariant-loop-w
invariant-loop-w l =
    Going l.row.text.now l.row.table.now (λ (c : Tree). verdict l.settles (with_action l.row.action.now (placed_view l.row.s.now l.row.places.now l.row.values.now)) (tree_words l.row.text.now c)) l.end l.w

abbrev pub decreases-loop-w : goal.decreases-loop-w
decreases-loop-w l =
    length_of l.w.rest l.w.at
