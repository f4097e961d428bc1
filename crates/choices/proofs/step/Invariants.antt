-- `choices::step` meets its contract: the choices and a unit for the column before k count one row more. Assumes nothing.
use Rattle.pages.proofs.Digits.{counts_length}
use Rattle.pages.proofs.Combinations.{as_many}
use Rattle.pages.proofs.Stepping.{Carried, carry_one, hand_on, take_next, pick_set, Passed, none_passed, pass_on, moved_at, all_passed, moved_on, moved_round}
use Rattle.pages.specs.Rows.{counts_by, row_of, Picked}
use lib.ListN.{length, length-set}
use native.Mathlib.Omega.{arith}
use Prim.Native.Nat.{suc, ◌≤◌, ◌-◌}
use mathlib.Core.Path.{◌≡◌}
use Rattle.choices.proofs.step.Given as goal

abbrev pub invariant-loop-k : goal.invariant-loop-k
invariant-loop-k l = (length l.choices ≡ 6) × Picked l.grid l.choices l.values × Carried (counts_by l.lasts) (row_of (counts_by l.lasts) l.initial.choices) l.k l.choices × Passed l.lasts l.initial.choices l.k l.choices
