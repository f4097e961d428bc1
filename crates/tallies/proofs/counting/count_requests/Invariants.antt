-- `tallies::counting::count_requests` meets its contract: the groups of the requests passed stand in the counts, and zeros behind them. Assumes nothing.
use Rattle.tallies.proofs.Groups.{Filled}
use Rattle.tallies.specs.Counted.{group_by}
use Rattle.tallies.specs.Tallies.{first_wrong}
use Rattle.tallies.specs.Lent.{requests_of}
use lib.ListN.{length, drop}
use Prim.Native.Nat.{◌-◌, ◌≤◌}
use mathlib.Core.Path.{◌≡◌}
use Rattle.tallies.proofs.counting.count_requests.Given as goal

abbrev pub invariant-loop-k : goal.invariant-loop-k
invariant-loop-k l =
    (l.k ≤ l.many) × (l.at ≤ length l.requests) × (first_wrong (requests_of (l.many - l.k) (drop l.at l.requests)) ≡ 0)
    × Filled (group_by l.text l.table l.s l.asking) (requests_of l.many l.requests) l.counts l.k (requests_of (l.many - l.k) (drop l.at l.requests))
