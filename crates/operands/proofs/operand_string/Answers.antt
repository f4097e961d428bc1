-- `operands::operand_string` meets its contract. Assumes nothing.
use Rattle.operands.proofs.OperandLaws.{literal_placed, string_placed, string_cut, string_inside, no_string, string_of_bag, string_quoted, string_action}
use Rattle.bags.specs.Reading.{byte}
use lib.ListN.{length}
use Prim.Native.Nat.{◌+◌, ◌≤◌}
use mathlib.Core.Path.{sym, ◌∙◌}
use native.Mathlib.Omega.{arith}
use borrow.Author.Rules.{rules}
use Rattle.operands.proofs.operand_string.Goals as goal

pub returns-then-v-ne-STRING : goal.returns-then-v-ne-STRING
returns-then-v-ne-STRING c = no_string _ _ _ _ _ c.if-v-ne-STRING.true

pub overflow_add-start : goal.overflow_add-start
overflow_add-start c =
    let inside : c.args.v.place + 1 + byte c.args.s.now c.args.v.place ≤ length c.args.s.now = string_inside c.args.s.now c.args.v (c.requires.value_whole (sym c.of_bag.ensures ∙ c.if-of_bag.true)) c.if-v-ne-STRING.false in
    omega (arith, inside)

pub bounds-s-v : goal.bounds-s-v
bounds-s-v c =
    let inside : c.args.v.place + 1 + byte c.args.s.now c.args.v.place ≤ length c.args.s.now = string_inside c.args.s.now c.args.v (c.requires.value_whole (sym c.of_bag.ensures ∙ c.if-of_bag.true)) c.if-v-ne-STRING.false in
    omega (arith, inside)

pub overflow_cast-end : goal.overflow_cast-end
overflow_cast-end c =
    let inside : c.args.v.place + 1 + byte c.args.s.now c.args.v.place ≤ length c.args.s.now = string_inside c.args.s.now c.args.v (c.requires.value_whole (sym c.of_bag.ensures ∙ c.if-of_bag.true)) c.if-v-ne-STRING.false in
    omega (arith, inside)

pub overflow_add-end : goal.overflow_add-end
overflow_add-end c =
    let inside : c.args.v.place + 1 + byte c.args.s.now c.args.v.place ≤ length c.args.s.now = string_inside c.args.s.now c.args.v (c.requires.value_whole (sym c.of_bag.ensures ∙ c.if-of_bag.true)) c.if-v-ne-STRING.false in
    omega (arith, inside)

pub slice_bounds-result-end : goal.slice_bounds-result-end
slice_bounds-result-end c =
    let inside : c.args.v.place + 1 + byte c.args.s.now c.args.v.place ≤ length c.args.s.now = string_inside c.args.s.now c.args.v (c.requires.value_whole (sym c.of_bag.ensures ∙ c.if-of_bag.true)) c.if-v-ne-STRING.false in
    omega (arith, inside)

pub returns-then-of_bag : goal.returns-then-of_bag
returns-then-of_bag c = string_cut c.args.s.now c.args.v.place ∙ string_of_bag _ _ _ _ _ c.if-v-ne-STRING.false (sym c.of_bag.ensures ∙ c.if-of_bag.true)

pub quoted-requires : goal.quoted-requires
quoted-requires c = string_placed _ _ c.if-o-eq-STRING.true (literal_placed _ _ (omega arith) c.requires.operand_placed)

pub returns-then-o-eq-STRING : goal.returns-then-o-eq-STRING
returns-then-o-eq-STRING c = c.quoted.ensures ∙ string_quoted _ _ _ _ _ c.if-v-ne-STRING.false (sym c.of_bag.ensures ∙ c.if-of_bag.false) c.if-o-eq-STRING.true

pub returns : goal.returns
returns c = string_action _ _ _ _ _ c.if-v-ne-STRING.false (sym c.of_bag.ensures ∙ c.if-of_bag.false) c.if-o-eq-STRING.false
