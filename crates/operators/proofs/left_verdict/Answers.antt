-- `operators::left_verdict` meets its contract, by the kind of the last entry. Assumes nothing.
use Prim.Native.Nat.{ℕ, ◌<◌, ◌≤◌}
use mathlib.Core.Path.{◌≡◌, ◌∙◌, ap}
use native.Mathlib.Omega.{arith}
use Rattle.table.specs.Layout.{entry_at}
use Rattle.operators.proofs.FlatLaws.{left_compared, left_liked, left_listed, left_within, compare_placed, like_placed, among_placed, within_placed, flat_compare, flat_like, flat_among, flat_within}
use Rattle.operators.proofs.left_verdict.Goals as goal

is-list : {k : ℕ} → k ≤ 21 → 18 < k → (k ≡ 19 → ⊥) → (k ≡ 21 → ⊥) → k ≡ 20
is-list h l a b = omega arith

pub overflow_sub-end : goal.overflow_sub-end
overflow_sub-end c = omega (arith, c.requires.node.room.compared c.requires.false_kind_lt_kind.0 c.if-kind-le-AT_MOST.true)

pub entry_in-b-requires : goal.entry_in-b-requires
entry_in-b-requires c = omega (arith, c.requires.node.here, c.requires.node.some)

pub compare_operands-requires : goal.compare_operands-requires
compare_operands-requires c =
    let (p, q) = compare_placed c.requires.node _ _ c.requires.false_kind_lt_kind.0 c.if-kind-le-AT_MOST.true (c.requires.a_value ∙ ap (entry_at c.args.row.now.table.now) (left_compared c.args.end c.args.x c.if-kind-le-AT_MOST.true)) c.entry_in-b.ensures in
    record {
      operand_placed = p;
      operand_placed_2 = q;
      v_value = c.requires.v_value;
    }

pub returns-then-kind-le-AT_MOST : goal.returns-then-kind-le-AT_MOST
returns-then-kind-le-AT_MOST c = flat_compare _ _ _ _ _ _ _ _ c.requires.false_kind_lt_kind.0 c.if-kind-le-AT_MOST.true (c.requires.a_value ∙ ap (entry_at c.args.row.now.table.now) (left_compared c.args.end c.args.x c.if-kind-le-AT_MOST.true)) c.entry_in-b.ensures c.compare_operands.ensures

pub like_operand-requires : goal.like_operand-requires
like_operand-requires c =
    let (p, q) = like_placed c.requires.node _ c.if-kind-eq-LIKE.true (c.requires.a_value ∙ ap (entry_at c.args.row.now.table.now) (left_liked c.args.end c.args.x c.if-kind-eq-LIKE.true)) in
    record {
      operand_placed = p;
      string_placed = q;
      v_value = c.requires.v_value;
    }

pub returns-then-kind-eq-LIKE : goal.returns-then-kind-eq-LIKE
returns-then-kind-eq-LIKE c = flat_like _ _ _ _ _ _ _ c.if-kind-eq-LIKE.true (c.requires.a_value ∙ ap (entry_at c.args.row.now.table.now) (left_liked c.args.end c.args.x c.if-kind-eq-LIKE.true)) c.like_operand.ensures

pub overflow_sub-end-then-kind-eq-IN_ATTRIBUTE : goal.overflow_sub-end-then-kind-eq-IN_ATTRIBUTE
overflow_sub-end-then-kind-eq-IN_ATTRIBUTE c = omega (arith, c.requires.node.room.within c.if-kind-eq-IN_ATTRIBUTE.true)

pub entry_in-b-requires-then-kind-eq-IN_ATTRIBUTE : goal.entry_in-b-requires-then-kind-eq-IN_ATTRIBUTE
entry_in-b-requires-then-kind-eq-IN_ATTRIBUTE c = omega (arith, c.requires.node.here, c.requires.node.some)

pub operand_in_attribute-requires : goal.operand_in_attribute-requires
operand_in_attribute-requires c =
    let (p, q) = within_placed c.requires.node _ _ c.if-kind-eq-IN_ATTRIBUTE.true (c.requires.a_value ∙ ap (entry_at c.args.row.now.table.now) (left_within c.args.end c.args.x c.if-kind-eq-IN_ATTRIBUTE.true)) c.entry_in-b-then-kind-eq-IN_ATTRIBUTE.ensures in
    record {
      operand_placed = p;
      path_placed = q;
      v_value = c.requires.v_value;
    }

pub returns-then-kind-eq-IN_ATTRIBUTE : goal.returns-then-kind-eq-IN_ATTRIBUTE
returns-then-kind-eq-IN_ATTRIBUTE c = flat_within _ _ _ _ _ _ _ _ c.if-kind-eq-IN_ATTRIBUTE.true (c.requires.a_value ∙ ap (entry_at c.args.row.now.table.now) (left_within c.args.end c.args.x c.if-kind-eq-IN_ATTRIBUTE.true)) c.entry_in-b-then-kind-eq-IN_ATTRIBUTE.ensures c.operand_in_attribute.ensures

pub overflow_sub-at : goal.overflow_sub-at
overflow_sub-at c = omega (arith, c.requires.node.room.among (is-list c.requires.false_kind_lt_kind.1 c.if-kind-le-AT_MOST.false c.if-kind-eq-LIKE.false c.if-kind-eq-IN_ATTRIBUTE.false))

pub overflow_sub-at-2 : goal.overflow_sub-at-2
overflow_sub-at-2 c = omega (arith, c.requires.node.room.among (is-list c.requires.false_kind_lt_kind.1 c.if-kind-le-AT_MOST.false c.if-kind-eq-LIKE.false c.if-kind-eq-IN_ATTRIBUTE.false))

pub operand_in_list-requires : goal.operand_in_list-requires
operand_in_list-requires c =
    let e = is-list c.requires.false_kind_lt_kind.1 c.if-kind-le-AT_MOST.false c.if-kind-eq-LIKE.false c.if-kind-eq-IN_ATTRIBUTE.false in
    let (p, q) = among_placed c.requires.node _ e (c.requires.a_value ∙ ap (entry_at c.args.row.now.table.now) (left_listed c.args.end c.args.x (e))) in
    record {
      operand_placed = p;
      each = q;
      count_bound = omega (arith, c.requires.node.room.among e, c.requires.node.here);
      v_value = c.requires.v_value;
    }

pub returns : goal.returns
returns c =
    let e = is-list c.requires.false_kind_lt_kind.1 c.if-kind-le-AT_MOST.false c.if-kind-eq-LIKE.false c.if-kind-eq-IN_ATTRIBUTE.false in
    flat_among _ _ _ _ _ _ _ e (c.requires.a_value ∙ ap (entry_at c.args.row.now.table.now) (left_listed c.args.end c.args.x (e))) c.operand_in_list.ensures
