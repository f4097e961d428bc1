-- `operands::lists::literals_listed` meets its contract. Assumes nothing.
use Rattle.operands.proofs.ListLaws.{is_listed, FirstPlaced, first_placed, at_entry, asked_done, asked_here, asked_more}
use Rattle.operands.proofs.ValueLaws.{flags_same}
use Rattle.meaning.specs.Values.{same_flag}
use Rattle.table.specs.Layout.{entry_at}
use Rattle.table.proofs.Holding.{many_few}
use native.Mathlib.Omega.{arith}
use Prim.Native.Nat.{◌+◌, ◌-◌, ◌<◌}
use mathlib.Core.Bool.{Bool}
use mathlib.Core.Path.{◌≡◌, sym, ◌∙◌, ap}
use Rattle.operands.proofs.lists.literals_listed.Goals as goal

pub loop-k-init : goal.loop-k-init
loop-k-init c = let z : c.args.at + c.args.n - c.args.at ≡ c.args.n = omega arith in (rw z c.requires.each, rw z)

pub overflow_add-k-end : goal.overflow_add-k-end
overflow_add-k-end c = omega (arith, c.requires.n_bound, many_few c.args.row.now.table.now)

pub literal_listed-requires : goal.literal_listed-requires
literal_listed-requires c =
    let some : 0 < c.args.at + c.args.n - c.loop-k.k = omega arith in
    let one : FirstPlaced c.args.row.now.text.now (c.args.at + c.args.n - c.loop-k.k) (entry_at c.args.row.now.table.now) c.loop-k.k = first_placed _ _ _ _ some c.loop-k.invariant.0 in
    record {
      literal_placed = rw c.entry_in-o.ensures one.here;
      by_index = c.requires.by_index;
    }

pub returns-then-literal_listed-any : goal.returns-then-literal_listed-any
returns-then-literal_listed-any c =
    let some : 0 < c.args.at + c.args.n - c.loop-k.k = omega arith in
    let test = is_listed c.args.row.now.text.now c.args.row.now.s.now c.args.place in
    asked_here test (entry_at c.args.row.now.table.now) c.args.any _ _ some
    (at_entry _ (λ o. same_flag (test o) c.args.any) _ _ _ (flags_same _ _ ∙ ap (λ (b : Bool). same_flag b c.args.any) c.literal_listed.ensures) c.entry_in-o.ensures c.if-literal_listed-any.true)
    ∙ c.loop-k.invariant.1

pub loop-k-preserved : goal.loop-k-preserved
loop-k-preserved c =
    let some : 0 < c.args.at + c.args.n - c.loop-k.k = omega arith in
    let one : FirstPlaced c.args.row.now.text.now (c.args.at + c.args.n - c.loop-k.k) (entry_at c.args.row.now.table.now) c.loop-k.k = first_placed _ _ _ _ some c.loop-k.invariant.0 in
    let less : c.args.at + c.args.n - (c.loop-k.k + 1) ≡ c.args.at + c.args.n - c.loop-k.k - 1 = omega arith in
    let test = is_listed c.args.row.now.text.now c.args.row.now.s.now c.args.place in (
      rw less one.later,
      rw less
          (sym (asked_more test (entry_at c.args.row.now.table.now) c.args.any _ _ some
          (at_entry _ (λ o. same_flag (test o) c.args.any) _ _ _ (flags_same _ _ ∙ ap (λ (b : Bool). same_flag b c.args.any) c.literal_listed.ensures) c.entry_in-o.ensures c.if-literal_listed-any.false))
          ∙ c.loop-k.invariant.1),
    )

pub returns : goal.returns
returns c = asked_done (is_listed c.args.row.now.text.now c.args.row.now.s.now c.args.place) (entry_at c.args.row.now.table.now) c.args.any _ _ (omega arith) ∙ c.loop-k.invariant.1
