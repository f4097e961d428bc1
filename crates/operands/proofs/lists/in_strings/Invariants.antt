-- `operands::lists::in_strings` meets its contract. Assumes nothing.
use Prim.Native.Nat.{◌-◌}
use mathlib.Core.Path.{◌≡◌}
use Rattle.operands.proofs.ListLaws.{among}
use Rattle.bags.specs.Values.{string_end}
use Rattle.bags.specs.Reading.{many}
use Rattle.operands.proofs.lists.in_strings.Given as goal

abbrev pub invariant-loop : goal.invariant-loop
invariant-loop l = (many (l.n - l.counter) (string_end l.s) l.next ≡ many l.n (string_end l.s) l.at) × (among l.x l.s (l.n - l.counter) l.next ≡ among l.x l.s l.n l.at)
