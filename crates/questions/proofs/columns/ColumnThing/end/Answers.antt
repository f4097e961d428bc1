-- The reader of a column meets its contract. Assumes nothing.
use Prim.Native.Nat.{◌+◌}
use borrow.Author.Rules.{rules}
use mathlib.Core.Path.{sym, ◌∙◌, ap}
use native.Mathlib.Omega.{arith}
use Rattle.bags.proofs.ReadLaws.{part_to}
use Rattle.bags.specs.Paths.{is_path}
use Rattle.questions.proofs.ColumnLaws.{column_cut, column_head, column_path_lem, column_whole}
use Rattle.questions.proofs.ColumnLaws.{heads_told}
use Rattle.questions.proofs.columns.ColumnThing.end.Goals as goal
use Rattle.questions.proofs.columns.ColumnThing.end.Goals.{else-head_ok-via-then-head_ok+else-is_path, else-head_ok-via-else-head_ok}

pub returns-then-s-at : goal.returns-then-s-at
returns-then-s-at c = column_cut _ _ (omega arith)

pub returns-then-s-at-lt2 : goal.returns-then-s-at-lt2
returns-then-s-at-lt2 c = column_cut _ _ (omega arith)

pub overflow_cast-n : goal.overflow_cast-n
overflow_cast-n c = omega (arith, c.type_inv.s (c.args.at + 1))

pub returns-then-s-at-2 : goal.returns-then-s-at-2
returns-then-s-at-2 c = column_cut _ _ (omega arith)

pub overflow_cast-count : goal.overflow_cast-count
overflow_cast-count c = omega (arith, (heads_told _ _ (sym c.head_ok.ensures ∙ c.if-head_ok.true)).3)

pub returns-then-is_path : goal.returns-then-is_path
returns-then-is_path c =
    c.candidates_end.ensures
    ∙ column_whole _ _ (omega arith) (sym c.head_ok.ensures ∙ c.if-head_ok.true) (ap is_path (sym (part_to _ _ _)) ∙ sym c.is_path.ensures ∙ c.if-is_path.true)

pub returns-else-head_ok : goal.returns-else-head_ok
returns-else-head_ok c = elim c.else-head_ok.branch [
  | else-head_ok-via-then-head_ok+else-is_path w ↦
      column_path_lem _ _ (omega arith) (sym c.head_ok.ensures ∙ w.if-head_ok.true) (ap is_path (sym (part_to _ _ _)) ∙ sym w.is_path.ensures ∙ w.if-is_path.false)
  | else-head_ok-via-else-head_ok w ↦ column_head _ _ (omega arith) (sym c.head_ok.ensures ∙ w.if-head_ok.false)
]
