-- `evaluating::evaluate_by` meets its contract: what is left to be met gives the verdict of the whole. It ends: each part ends before. Assumes nothing.
use Rattle.evaluating.proofs.Verdicts.{joins, flat_counted}
use Rattle.evaluating.proofs.Steps.{length_of, Going, turn_less, set_out, met, part_ready, part_falls, part_node, flat_part, after_turn, verdict_turn, inside_turn, entering, entering_less, arrived, rest_ready, back_at, back_turn, back_less}
use Rattle.stored.proofs.Evaluating.{node_of}
use Rattle.grammar.specs.Policies.{Tree}
use Rattle.placing.specs.Said.{tree_words}
use Rattle.meaning.specs.Conditions.{verdict}
use Rattle.meaning.specs.Values.{with_action}
use Rattle.views.specs.Places.{placed_view}
use borrow.Author.Rules.{rules}
use native.Mathlib.Omega.{arith}
use mathlib.Core.Path.{refl, sym, subst}
use Prim.Native.Nat.{ℕ, ◌<◌}
use Rattle.evaluating.proofs.+evaluate_by.Goals as goal

pub loop-w-init : goal.loop-w-init
loop-w-init t c = set_out c.requires.ready

pub returns-then-w-lt1-2 : goal.returns-then-w-lt1-2
returns-then-w-lt1-2 t c = arrived (joins _ _ _) c.loop-w.invariant c.if-w-lt1.true c.if-w-lt1-2.true

pub entry_in-x-requires : goal.entry_in-x-requires
entry_in-x-requires t c = let g = c.loop-w.invariant in let none = c.if-w-lt1.true in let z = c.if-w-lt1-2.false in let k = node_of (rest_ready (joins _ _ _) g none z) in omega (arith, k.here, k.some)

pub after_part-w-requires : goal.after_part-w-requires
after_part-w-requires t c = let g = c.loop-w.invariant in let none = c.if-w-lt1.true in let z = c.if-w-lt1-2.false in subst (λ (e : ℕ). 0 < e) (sym (back_at (joins _ _ _) g none c.come_back-u.ensures)) (omega (arith, z))

pub loop-w-smaller-then-w-lt1 : goal.loop-w-smaller-then-w-lt1
loop-w-smaller-then-w-lt1 t c =
    let g = c.loop-w.invariant in let none = c.if-w-lt1.true in let z = c.if-w-lt1-2.false in let d = c.come_back-u.ensures in
    back_less (joins _ _ _) g none z d (back_turn (joins _ _ _) g none z c.entry_in-x.ensures d c.after_part-w.ensures)

pub loop-w-preserved-then-w-lt1 : goal.loop-w-preserved-then-w-lt1
loop-w-preserved-then-w-lt1 t c =
    let g = c.loop-w.invariant in let none = c.if-w-lt1.true in let z = c.if-w-lt1-2.false in let d = c.come_back-u.ensures in
    (back_turn (joins _ _ _) g none z c.entry_in-x.ensures d c.after_part-w.ensures).going

pub overflow_sub-at : goal.overflow_sub-at
overflow_sub-at t c = let some = c.if-w-lt1.false in omega (arith, some)

pub entry_in-x-requires-in-loop-w : goal.entry_in-x-requires-in-loop-w
entry_in-x-requires-in-loop-w t c = let g = c.loop-w.invariant in let some = c.if-w-lt1.false in let k = node_of (g.here some) in omega (arith, k.here, k.some)

pub part_met-part-requires : goal.part_met-part-requires
part_met-part-requires t c = c.if-w-lt1.false

pub overflow_sub-part : goal.overflow_sub-part
overflow_sub-part t c = let g = c.loop-w.invariant in let some = c.if-w-lt1.false in let n = met (joins _ _ _) g some c.entry_in-x-in-loop-w.ensures in let q = c.part_met-part.ensures in let k = node_of (part_ready (joins _ _ _) g some n q) in omega (arith, k.some)

pub entry_in-y-requires : goal.entry_in-y-requires
entry_in-y-requires t c = let g = c.loop-w.invariant in let some = c.if-w-lt1.false in let n = met (joins _ _ _) g some c.entry_in-x-in-loop-w.ensures in let q = c.part_met-part.ensures in let k = node_of (part_ready (joins _ _ _) g some n q) in omega (arith, k.here, k.some)

pub flat-v-requires : goal.flat-v-requires
flat-v-requires t c =
    let g = c.loop-w.invariant in let some = c.if-w-lt1.false in let n = met (joins _ _ _) g some c.entry_in-x-in-loop-w.ensures in let q = c.part_met-part.ensures in
    record {
      node = part_node (joins _ _ _) g some n q refl;
      end_bound = rw c.entry_in-y.ensures at c.if-y-le-CONTAINS_ANY.true;
    }

pub after_part-w-requires-then-y-le-CONTAINS_ANY : goal.after_part-w-requires-then-y-le-CONTAINS_ANY
after_part-w-requires-then-y-le-CONTAINS_ANY t c = c.if-w-lt1.false

pub loop-w-smaller-then-y-le-CONTAINS_ANY : goal.loop-w-smaller-then-y-le-CONTAINS_ANY
loop-w-smaller-then-y-le-CONTAINS_ANY t c =
    let g = c.loop-w.invariant in let some = c.if-w-lt1.false in let n = met (joins _ _ _) g some c.entry_in-x-in-loop-w.ensures in let q = c.part_met-part.ensures in
    turn_less (after_turn (joins _ _ _) g some n q _ (flat_part (joins _ _ _) g some n q refl (flat_counted _ _ _ _ _ _ (rw c.entry_in-y.ensures at c.if-y-le-CONTAINS_ANY.true) c.flat-v.ensures)) c.after_part-w-then-y-le-CONTAINS_ANY.ensures)

pub loop-w-preserved-then-y-le-CONTAINS_ANY : goal.loop-w-preserved-then-y-le-CONTAINS_ANY
loop-w-preserved-then-y-le-CONTAINS_ANY t c =
    let g = c.loop-w.invariant in let some = c.if-w-lt1.false in let n = met (joins _ _ _) g some c.entry_in-x-in-loop-w.ensures in let q = c.part_met-part.ensures in
    (after_turn (joins _ _ _) g some n q _ (flat_part (joins _ _ _) g some n q refl (flat_counted _ _ _ _ _ _ (rw c.entry_in-y.ensures at c.if-y-le-CONTAINS_ANY.true) c.flat-v.ensures)) c.after_part-w-then-y-le-CONTAINS_ANY.ensures).going

pub inside_part-w-requires : goal.inside_part-w-requires
inside_part-w-requires t c = c.if-w-lt1.false

pub loop-w-smaller-then-x-lt-AND : goal.loop-w-smaller-then-x-lt-AND
loop-w-smaller-then-x-lt-AND t c =
    let g = c.loop-w.invariant in let some = c.if-w-lt1.false in let n = met (joins _ _ _) g some c.entry_in-x-in-loop-w.ensures in let q = c.part_met-part.ensures in
    turn_less (inside_turn (joins _ _ _) g some n q c.entry_in-x-in-loop-w.ensures c.entry_in-y.ensures c.if-y-le-CONTAINS_ANY.false c.if-x-lt-AND.true c.inside_part-w.ensures)

pub loop-w-preserved-then-x-lt-AND : goal.loop-w-preserved-then-x-lt-AND
loop-w-preserved-then-x-lt-AND t c =
    let g = c.loop-w.invariant in let some = c.if-w-lt1.false in let n = met (joins _ _ _) g some c.entry_in-x-in-loop-w.ensures in let q = c.part_met-part.ensures in
    (inside_turn (joins _ _ _) g some n q c.entry_in-x-in-loop-w.ensures c.entry_in-y.ensures c.if-y-le-CONTAINS_ANY.false c.if-x-lt-AND.true c.inside_part-w.ensures).going

pub loop-w-smaller-then-w-lt1-3 : goal.loop-w-smaller-then-w-lt1-3
loop-w-smaller-then-w-lt1-3 t c =
    let g = c.loop-w.invariant in let some = c.if-w-lt1.false in let n = met (joins _ _ _) g some c.entry_in-x-in-loop-w.ensures in let q = c.part_met-part.ensures in
    entering_less (joins _ _ _) g some n q c.if-x-lt-AND.false c.if-w-lt1-3.true c.entered-w.ensures

pub loop-w-preserved-then-w-lt1-3 : goal.loop-w-preserved-then-w-lt1-3
loop-w-preserved-then-w-lt1-3 t c =
    let g = c.loop-w.invariant in let some = c.if-w-lt1.false in let n = met (joins _ _ _) g some c.entry_in-x-in-loop-w.ensures in let q = c.part_met-part.ensures in
    entering (joins _ _ _) g some n q c.entry_in-x-in-loop-w.ensures c.if-w-lt1-3.true c.entered-w.ensures

pub evaluate_by-v-requires : goal.evaluate_by-v-requires
evaluate_by-v-requires t c =
    let g = c.loop-w.invariant in let some = c.if-w-lt1.false in let n = met (joins _ _ _) g some c.entry_in-x-in-loop-w.ensures in let q = c.part_met-part.ensures in
    (omega (arith, part_falls (joins _ _ _) g some n q c.if-x-lt-AND.false, c.decreases), part_ready (joins _ _ _) g some n q)

pub after_part-w-requires-in-loop-w : goal.after_part-w-requires-in-loop-w
after_part-w-requires-in-loop-w t c = c.if-w-lt1.false

pub loop-w-smaller : goal.loop-w-smaller
loop-w-smaller t c =
    let g = c.loop-w.invariant in let some = c.if-w-lt1.false in let n = met (joins _ _ _) g some c.entry_in-x-in-loop-w.ensures in let q = c.part_met-part.ensures in
    turn_less (verdict_turn (joins _ _ _) g some n q c.evaluate_by-v.ensures c.after_part-w-in-loop-w.ensures)

pub loop-w-preserved : goal.loop-w-preserved
loop-w-preserved t c =
    let g = c.loop-w.invariant in let some = c.if-w-lt1.false in let n = met (joins _ _ _) g some c.entry_in-x-in-loop-w.ensures in let q = c.part_met-part.ensures in
    (verdict_turn (joins _ _ _) g some n q c.evaluate_by-v.ensures c.after_part-w-in-loop-w.ensures).going
