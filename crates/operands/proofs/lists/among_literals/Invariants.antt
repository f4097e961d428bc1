-- `operands::lists::among_literals` meets its contract. Assumes nothing.
use Prim.Native.Nat.{ℕ, ◌+◌, ◌-◌}
use mathlib.Core.List.{List}
use mathlib.Core.Path.{◌≡◌}
use Rattle.operands.proofs.ListLaws.{is_same}
use Rattle.meaning.specs.Conditions.{some}
use Rattle.stored.specs.ReadBack.{literals_at}
use Rattle.placing.specs.Placed.{Each, LiteralPlaced}
use Rattle.operands.proofs.lists.among_literals.Given as goal

-- of the literals from k on, which are left
abbrev pub invariant-loop-k : goal.invariant-loop-k
invariant-loop-k l = Each (LiteralPlaced l.row.text.now) (literals_at (l.at + l.n - l.k) l.row.table.now l.k) × ((q : List (List ℕ)) → some (is_same l.row.text.now l.v l.x q) (literals_at (l.at + l.n - l.k) l.row.table.now l.k) ≡ some (is_same l.row.text.now l.v l.x q) (literals_at l.n l.row.table.now l.at))
