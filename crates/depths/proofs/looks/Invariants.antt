-- `depths::looks` meets its contract: what is found of the policies met is right. Assumes nothing.
use mathlib.Core.Path.{refl}
use Prim.Native.Nat.{◌-◌, ◌≤◌, ◌<◌}
use native.Mathlib.Omega.{arith}
use borrow.Author.Rules.{rules}
use Rattle.table.specs.Layout.{entry_at}
use Rattle.stored.specs.ReadBack.{policy_at, policies_at}
use Rattle.stored.specs.Ready.{Last}
use Rattle.targets.specs.Matching.{request}
use Rattle.stored.proofs.Evaluating.{last_there}
use Rattle.depths.proofs.Steady.{depth_few, last_steady}
use Rattle.meaning.proofs.Deciding.{numbered_few, numbered_some}
use Rattle.depths.proofs.Numbering.{Left, all_left, none_there, fewer_left, last_numbered, one_left}
use Rattle.depths.proofs.Finding.{Found, found_more, zeros_say, ends_there}
use Rattle.depths.proofs.looks.Given as goal

abbrev pub invariant-loop-end : goal.invariant-loop-end
invariant-loop-end l = Left l.text l.table l.entries l.end l.number × (l.end ≤ l.entries) × Found l.text l.table l.s l.n l.heads (request l.subject l.action l.resource) (policies_at l.table l.entries) l.number l.found

abbrev pub decreases-loop-end : goal.decreases-loop-end
decreases-loop-end l = l.end
