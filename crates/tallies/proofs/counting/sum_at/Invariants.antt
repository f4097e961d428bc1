-- `tallies::counting::sum_at` meets its contract: what is summed, and the groups that are left. Assumes nothing.
use Rattle.tallies.specs.Tallies.{group_count, sum_from}
use Prim.Native.Nat.{◌+◌, ◌-◌, ◌*◌, ◌≤◌}
use mathlib.Core.Path.{◌≡◌}
use Rattle.tallies.proofs.counting.sum_at.Given as goal

abbrev pub invariant-loop : goal.invariant-loop
invariant-loop l = (l.at ≡ l.i + 68 * l.counter) × (l.sum ≤ 262144 * l.counter) × (sum_from group_count l.counts l.i ≡ l.sum + sum_from (8 - l.counter) l.counts l.at)
