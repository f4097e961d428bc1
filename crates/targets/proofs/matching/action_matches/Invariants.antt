-- `targets::matching::action_matches` meets its contract. The invariant: the action is among the strings exactly if it is among those left. Assumes nothing.
use Rattle.targets.proofs.MatchLaws.{among_at}
use Rattle.stored.specs.ReadBack.{literals_at}
use Rattle.placing.specs.Placed.{Each, ActionPlaced}
use Prim.Native.Nat.{◌-◌}
use mathlib.Core.Path.{◌≡◌}
use Rattle.targets.proofs.matching.action_matches.Given as goal

abbrev pub invariant-loop-e : goal.invariant-loop-e
invariant-loop-e l = (among_at l.text l.action l.table (l.e-end - l.e) l.e ≡ among_at l.text l.action l.table (l.initial.e-end - l.initial.e) l.initial.e) × Each (ActionPlaced l.text) (literals_at (l.e-end - l.e) l.table l.e)
