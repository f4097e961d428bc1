-- `tallies::lent::first_wrong` meets its contract: what was found so far, and what is found in the requests that are left. Assumes nothing.
use Rattle.tallies.specs.Tallies.{some_asks, first_wrong}
use Rattle.tallies.specs.Lent.{requests_of}
use lib.ListN.{length, drop}
use Prim.Native.Nat.{◌-◌, ◌≤◌}
use mathlib.Core.Bool.{◌||◌}
use mathlib.Core.Path.{◌≡◌}
use Rattle.tallies.proofs.lent.first_wrong.Given as goal

abbrev pub invariant-loop : goal.invariant-loop
invariant-loop l =
    (l.at ≤ length l.requests) × (some_asks (requests_of l.many l.requests) ≡ l.asks || some_asks (requests_of (l.many - l.counter) (drop l.at l.requests)))
    × (first_wrong (requests_of l.many l.requests) ≡ first_wrong (requests_of (l.many - l.counter) (drop l.at l.requests)))
