-- `lookups::bytes::same_bytes` meets its contract. The invariant: the bytes passed are the same in both. Assumes nothing.
use Prim.Native.Nat.{ℕ, ◌+◌, ◌-◌, ◌*◌, ◌<◌, ◌≤◌}
use borrow.Author.Rules.{rules}
use borrow.Author.Tests.{not-true, not-false}
use mathlib.Core.Path.{◌≡◌}
use native.Mathlib.Omega.{arith}
use Rattle.bags.specs.Reading.{byte}
use Rattle.slices.proofs.Equal.{same_is}
use Rattle.lookups.proofs.WordLaws.{four_other, four_more, fours_same}
use Rattle.std.proofs.Common.{◌≡◌, ℕ, ◌+◌, ◌<◌}
use Rattle.bags.specs.Reading.{byte}
use Rattle.lookups.proofs.bytes.same_bytes.Goals as goal

pub returns-then-a-lt4 : goal.returns-then-a-lt4
returns-then-a-lt4 c = same_is _ _ c.same.ensures

pub same_four-requires : goal.same_four-requires
same_four-requires c = record {
  i_in_bounds = omega arith;
  i_in_bounds_2 = omega arith;
}

pub returns-then-not-same_four : goal.returns-then-not-same_four
returns-then-not-same_four c = four_other _ _ _ _ c.same_four.ensures c.if-not-same_four.true

pub loop-n-init : goal.loop-n-init
loop-n-init c k h = absurd (omega arith)

pub returns-then-not-same_four-2 : goal.returns-then-not-same_four-2
returns-then-not-same_four-2 c = four_other _ _ _ _ c.same_four-in-loop-n.ensures c.if-not-same_four-2.true

pub loop-n-preserved : goal.loop-n-preserved
loop-n-preserved c k h =
    four_more c.args.a.now c.args.b.now _ c.loop-n.invariant _ c.same_four-in-loop-n.ensures c.if-not-same_four-2.false k (omega arith)

pub returns : goal.returns
returns c = fours_same c.args.a.now c.args.b.now c.requires _ (4 * c.loop-n.n) (omega arith) (omega arith) c.loop-n.invariant _ c.same_four.ensures c.if-not-same_four.false
