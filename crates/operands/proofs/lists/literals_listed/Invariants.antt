-- `operands::lists::literals_listed` meets its contract. Assumes nothing.
use Prim.Native.Nat.{◌+◌, ◌-◌}
use mathlib.Core.Path.{◌≡◌}
use Rattle.operands.proofs.ListLaws.{is_listed}
use Rattle.operands.specs.Operands.{which_by}
use Rattle.meaning.specs.Conditions.{asked}
use Rattle.stored.specs.ReadBack.{literals_at}
use Rattle.placing.specs.Placed.{Each, LiteralPlaced}
use Rattle.operands.proofs.lists.literals_listed.Given as goal

-- of the literals from k on, which are left
abbrev pub invariant-loop-k : goal.invariant-loop-k
invariant-loop-k l = Each (LiteralPlaced l.row.text.now) (literals_at (l.at + l.n - l.k) l.row.table.now l.k) × (asked (which_by l.any) (is_listed l.row.text.now l.row.s.now l.place) (literals_at (l.at + l.n - l.k) l.row.table.now l.k) ≡ asked (which_by l.any) (is_listed l.row.text.now l.row.s.now l.place) (literals_at l.n l.row.table.now l.at))
