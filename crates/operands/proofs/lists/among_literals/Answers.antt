-- `operands::lists::among_literals` meets its contract. Assumes nothing.
use Rattle.operands.proofs.ListLaws.{is_same, same_by_13, FirstPlaced, first_placed, at_entry, some_done, some_here, some_more}
use Rattle.table.specs.Layout.{entry_at}
use Rattle.table.proofs.Holding.{many_few}
use native.Mathlib.Omega.{arith}
use Prim.Native.Nat.{◌+◌, ◌-◌, ◌<◌}
use mathlib.Core.List.{List}
use mathlib.Core.Path.{◌≡◌, refl, sym, ◌∙◌}
use Rattle.operands.proofs.lists.among_literals.Goals as goal

pub loop-k-init : goal.loop-k-init
loop-k-init c = let z : c.args.at + c.args.n - c.args.at ≡ c.args.n = omega arith in (rw z c.requires.each, λ q. rw z)

pub overflow_add-k-end : goal.overflow_add-k-end
overflow_add-k-end c = omega (arith, c.requires.n_bound, many_few c.args.row.now.table.now)

pub literal_holds-requires : goal.literal_holds-requires
literal_holds-requires c =
    let some : 0 < c.args.at + c.args.n - c.loop-k.k = omega arith in
    let one : FirstPlaced c.args.row.now.text.now (c.args.at + c.args.n - c.loop-k.k) (entry_at c.args.row.now.table.now) c.loop-k.k = first_placed _ _ _ _ some c.loop-k.invariant.0 in
    rw c.entry_in-literal.ensures one.here

pub returns-then-literal_holds : goal.returns-then-literal_holds
returns-then-literal_holds c =
    λ l.
    let some : 0 < c.args.at + c.args.n - c.loop-k.k = omega arith in
    let test = is_same c.args.row.now.text.now c.args.v c.args.x.now l in
    some_here test _ _ _ some (at_entry _ test _ _ _ (same_by_13 _ _ (c.literal_holds.ensures l)) c.entry_in-literal.ensures c.if-literal_holds.true) ∙ c.loop-k.invariant.1 l

pub loop-k-preserved : goal.loop-k-preserved
loop-k-preserved c =
    let some : 0 < c.args.at + c.args.n - c.loop-k.k = omega arith in
    let one : FirstPlaced c.args.row.now.text.now (c.args.at + c.args.n - c.loop-k.k) (entry_at c.args.row.now.table.now) c.loop-k.k = first_placed _ _ _ _ some c.loop-k.invariant.0 in
    let less : c.args.at + c.args.n - (c.loop-k.k + 1) ≡ c.args.at + c.args.n - c.loop-k.k - 1 = omega arith in (
      rw less one.later,
      λ l.
          let test = is_same c.args.row.now.text.now c.args.v c.args.x.now l in
          rw less (sym (some_more test _ _ _ some (at_entry _ test _ _ _ (same_by_13 _ _ (c.literal_holds.ensures l)) c.entry_in-literal.ensures c.if-literal_holds.false)) ∙ c.loop-k.invariant.1 l),
    )

pub returns : goal.returns
returns c = λ q. some_done (is_same c.args.row.now.text.now c.args.v c.args.x.now q) _ _ _ (omega arith) ∙ c.loop-k.invariant.1 q
