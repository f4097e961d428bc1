-- `depths::depth` meets its contract: the entries left make the depth of all. Assumes nothing.
use mathlib.Core.Path.{◌≡◌, refl, ◌∙◌}
use Prim.Native.Nat.{◌+◌, ◌-◌, ◌≤◌}
use native.Mathlib.Omega.{arith}
use borrow.Author.Rules.{rules}
use Rattle.table.specs.Layout.{entry_at}
use Rattle.depths.specs.Columns.{depth_from}
use Rattle.depths.proofs.Steady.{depth_done, depth_on}
use Rattle.depths.proofs.depth.Goals as goal

pub entry_at-x-requires : goal.entry_at-x-requires
entry_at-x-requires c = omega (arith, c.requires.end_lt_field_numbers)

pub column_of-k-requires : goal.column_of-k-requires
column_of-k-requires c = c.requires.counted

pub loop-at-preserved : goal.loop-at-preserved
loop-at-preserved c =
    rw (c.deeper_of-deepest.ensures, c.column_of-k.ensures, c.entry_at-x.ensures)
    (depth_on c.args.text.now (entry_at c.args.table.now) c.args.s.now c.args.n c.args.heads.now c.args.but (c.args.end - c.loop-at.at)
    (c.args.end - (c.loop-at.at + 1)) c.loop-at.at c.loop-at.deepest (omega arith) ∙ c.loop-at.invariant)

pub returns : goal.returns
returns c = depth_done c.args.text.now (entry_at c.args.table.now) c.args.s.now c.args.n c.args.heads.now c.args.but (c.args.end - c.loop-at.at) c.loop-at.at c.loop-at.deepest (omega arith) ∙ c.loop-at.invariant
