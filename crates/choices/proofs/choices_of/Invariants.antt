-- `choices::choices_of` meets its contract: from k on `choices` has the digits of the row, and `rest` is what the columns before are to hold. Assumes nothing.
use Rattle.pages.proofs.Digits.{counts_length, no_digits, Digits, more_digits}
use Rattle.pages.specs.Rows.{counts_by}
use lib.ListN.{length, get_or, length-set, drop_of_length-le}
use native.Mathlib.Omega.{arith}
use native.Mathlib.Nat.{mod-lt, div-one}
use Prim.Native.Nat.{suc, ◌+◌, ◌%◌, ◌≤◌, ◌<◌, ◌-◌}
use mathlib.Core.Path.{◌≡◌, refl, sym}
use Rattle.choices.proofs.choices_of.Given as goal

abbrev pub invariant-loop-k : goal.invariant-loop-k
invariant-loop-k l = (length l.choices ≡ 6) × Digits (counts_by l.lasts) l.row l.k l.choices l.rest
