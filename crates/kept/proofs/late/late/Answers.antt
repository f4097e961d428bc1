-- `kept::late::late` meets its contract: the bits of the policies passed are set where the column matters. Assumes nothing.
use mathlib.Core.Path.{◌≡◌, ap₂}
use mathlib.Core.Bool.{Bool, ◌||◌}
use Prim.Native.Nat.{ℕ, ◌+◌, ◌-◌, ◌^◌, ◌≤◌, ◌<◌}
use native.Mathlib.Omega.{arith}
use borrow.Author.Rules.{rules}
use lib.Dec.{leb, ltb}
use Rattle.marks.specs.Marks.{is_set}
use Rattle.kept.specs.Notes.{matters}
use Rattle.kept.proofs.Noting.{late_none, late_more, late_fits, late_room, late_all}
use Rattle.kept.proofs.late.late.Goals as goal

pub loop-i-init : goal.loop-i-init
loop-i-init c = (omega arith, late_none _, λ k h. absurd (omega arith))

pub mark_with-mark-requires : goal.mark_with-mark-requires
mark_with-mark-requires c =
    let hit : Bool = leb c.args.column c.wide-own.result || ltb c.args.column c.wide-other.result in
    let inv = c.loop-i.invariant in
    late_room c.args.looks.now c.args.policies c.args.column c.loop-i.i c.loop-i.mark c.loop-i-test.true inv.0 c.requires hit inv.1

pub loop-i-preserved : goal.loop-i-preserved
loop-i-preserved c =
    let hit : Bool = leb c.args.column c.wide-own.result || ltb c.args.column c.wide-other.result in
    let hit-is : hit ≡ matters c.args.looks.now c.args.column (c.loop-i.i - 1) = ap₂ (λ (x y : ℕ). leb c.args.column x || ltb c.args.column y) c.wide-own.ensures c.wide-other.ensures in
    let inv = c.loop-i.invariant in
    let some = c.loop-i-test.true in (
      omega (arith, inv.0),
      rw c.mark_with-mark.ensures
          (late_fits c.args.looks.now c.args.policies c.args.column c.loop-i.i c.loop-i.mark some inv.0 c.requires hit inv.1),
      λ k h.
          rw c.mark_with-mark.ensures
          (late_more c.args.looks.now c.args.policies c.args.column c.loop-i.i c.loop-i.mark some inv.0 c.requires hit inv.1
          hit-is inv.2 k h),
    )

pub returns : goal.returns
returns c = late_all _ _ _ _ _ c.loop-i-test.false c.loop-i.invariant.1 c.loop-i.invariant.2
