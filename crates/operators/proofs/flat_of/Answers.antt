-- `operators::flat_of` meets its contract, by the kind of the last entry. Assumes nothing.
use Prim.Native.Nat.{ℕ, ◌<◌, ◌≤◌}
use mathlib.Core.Path.{◌∙◌, ap}
use native.Mathlib.Omega.{arith}
use borrow.Author.Rules.{rules}
use Rattle.table.specs.Layout.{entry_at}
use Rattle.meaning.specs.Conditions.{told}
use Rattle.operators.proofs.FlatLaws.{left_low, left_placed, has_placed, contains_placed, flat_has, flat_constant, flat_contains}
use Rattle.operators.proofs.flat_of.Goals as goal

below : {k : ℕ} → k < 22 → k ≤ 21
below h = omega arith

pub overflow_sub-root : goal.overflow_sub-root
overflow_sub-root c = omega (arith, c.requires.node.low)

pub has_attribute-requires : goal.has_attribute-requires
has_attribute-requires c = has_placed c.requires.node c.if-kind-le-HAS_ACTION.true

pub returns-then-kind-le-HAS_ACTION : goal.returns-then-kind-le-HAS_ACTION
returns-then-kind-le-HAS_ACTION c = flat_has _ _ _ _ _ _ c.if-kind-le-HAS_ACTION.true (c.told_of.ensures ∙ ap told (c.has_attribute.ensures _))

pub returns-then-kind-le-FALSE : goal.returns-then-kind-le-FALSE
returns-then-kind-le-FALSE c = flat_constant _ _ _ _ _ _ c.if-kind-le-HAS_ACTION.false c.if-kind-le-FALSE.true c.told_of-then-kind-le-FALSE.ensures

pub overflow_sub-at : goal.overflow_sub-at
overflow_sub-at c = omega (arith, c.requires.node.room.contains c.if-kind-ge-CONTAINS_ALL.true c.requires.kind_le_contains_any_kind)

pub overflow_sub-at-then-kind-ge-CONTAINS_ALL : goal.overflow_sub-at-then-kind-ge-CONTAINS_ALL
overflow_sub-at-then-kind-ge-CONTAINS_ALL c = omega (arith, c.requires.node.room.contains c.if-kind-ge-CONTAINS_ALL.true c.requires.kind_le_contains_any_kind)

pub overflow_sub-end : goal.overflow_sub-end
overflow_sub-end c = omega (arith, c.requires.node.room.contains c.if-kind-ge-CONTAINS_ALL.true c.requires.kind_le_contains_any_kind)

pub overflow_sub-end-then-kind-ge-CONTAINS_ALL : goal.overflow_sub-end-then-kind-ge-CONTAINS_ALL
overflow_sub-end-then-kind-ge-CONTAINS_ALL c = omega (arith, c.requires.node.room.contains c.if-kind-ge-CONTAINS_ALL.true c.requires.kind_le_contains_any_kind)

pub entry_in-a-requires : goal.entry_in-a-requires
entry_in-a-requires c = omega (arith, c.requires.node.here, c.requires.node.some)

pub contains_literals-requires : goal.contains_literals-requires
contains_literals-requires c =
    let (p, q) = contains_placed c.requires.node _ c.if-kind-ge-CONTAINS_ALL.true c.requires.kind_le_contains_any_kind c.entry_in-a.ensures in
    record {
      path_placed = p;
      each = q;
      count_bound = omega (arith, c.requires.node.room.contains c.if-kind-ge-CONTAINS_ALL.true c.requires.kind_le_contains_any_kind, c.requires.node.here);
    }

pub returns-then-kind-ge-CONTAINS_ALL : goal.returns-then-kind-ge-CONTAINS_ALL
returns-then-kind-ge-CONTAINS_ALL c = flat_contains _ _ _ _ _ _ _ c.if-kind-ge-CONTAINS_ALL.true c.requires.kind_le_contains_any_kind c.entry_in-a.ensures (c.contains_literals.ensures _)

pub left_at-requires : goal.left_at-requires
left_at-requires c = record {
  room = c.requires.node.room;
  false_kind_lt_kind = (c.if-kind-le-FALSE.false, below c.if-kind-ge-CONTAINS_ALL.false);
}

pub entry_in-a-requires-2 : goal.entry_in-a-requires-2
entry_in-a-requires-2 c = omega (arith, left_low _ _ c.requires.node.room c.if-kind-le-FALSE.false (below c.if-kind-ge-CONTAINS_ALL.false), c.left_at.ensures, c.requires.node.here)

pub operand_value-v-requires : goal.operand_value-v-requires
operand_value-v-requires c = left_placed c.requires.node _ c.if-kind-le-FALSE.false (below c.if-kind-ge-CONTAINS_ALL.false) (c.entry_in-a-2.ensures ∙ ap (entry_at c.args.row.now.table.now) c.left_at.ensures)

pub left_verdict-requires : goal.left_verdict-requires
left_verdict-requires c = record {
  node = c.requires.node;
  false_kind_lt_kind = (c.if-kind-le-FALSE.false, below c.if-kind-ge-CONTAINS_ALL.false);
  a_value = c.entry_in-a-2.ensures ∙ ap (entry_at c.args.row.now.table.now) c.left_at.ensures;
  v_value = c.operand_value-v.ensures;
}

pub returns : goal.returns
returns c = c.left_verdict.ensures
