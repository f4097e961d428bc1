-- `depths::depth` meets its contract: the entries left make the depth of all. Assumes nothing.
use mathlib.Core.Path.{◌≡◌, refl, ◌∙◌}
use Prim.Native.Nat.{◌+◌, ◌-◌, ◌≤◌}
use native.Mathlib.Omega.{arith}
use borrow.Author.Rules.{rules}
use Rattle.table.specs.Layout.{entry_at}
use Rattle.depths.specs.Columns.{depth_from}
use Rattle.depths.proofs.Steady.{depth_done, depth_on}
use Rattle.depths.proofs.depth.Given as goal

abbrev pub invariant-loop-at : goal.invariant-loop-at
invariant-loop-at l = depth_from (l.end - l.at) l.text l.table l.s l.n l.heads l.but l.at l.deepest ≡ depth_from (l.end - l.first) l.text l.table l.s l.n l.heads l.but l.first 0
