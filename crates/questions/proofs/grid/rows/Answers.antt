-- `questions::grid::rows` meets its contract: the rows so far times the rows of the columns left are all rows. Assumes nothing.
use Prim.Native.Nat.{◌*◌, ◌≤◌}
use borrow.Author.Rules.{rules}
use mathlib.Core.Path.{◌≡◌, refl, sym, ◌∙◌}
use native.Mathlib.Nat.{one-mul}
use native.Mathlib.Omega.{arith}
use Rattle.bags.proofs.ReadLaws.{First, first, many_more}
use Rattle.bags.specs.Reading.{many}
use Rattle.questions.proofs.ColumnLaws.{Columned, column_at}
use Rattle.questions.proofs.PlaceLaws.{eights, eights_few, still_few, product_few, end_few, rows_on, rows_end}
use Rattle.questions.specs.Columns.{column_end}
use Rattle.questions.specs.Questions.{rows_of}
use Rattle.std.proofs.Common.{◌≡◌, ◌-◌, ◌+◌}
use Rattle.questions.proofs.grid.rows.Goals as goal

pub loop-init : goal.loop-init
loop-init c = let e : c.args.n - 0 ≡ c.args.n = omega arith in rw e (one-mul _, eights_few _ c.requires.n_le_most_columns, refl)

pub overflow_add-count_at : goal.overflow_add-count_at
overflow_add-count_at c =
    let this : First (column_end c.args.s.now) (c.args.n - c.loop.counter) c.loop.next c.requires.by_index.0 = first _ _ _ _ (omega arith) (c.loop.invariant.2 ∙ c.requires.by_index.1) in
    let column : Columned c.args.s.now c.loop.next this.stop = column_at _ _ _ this.ends in
    omega (arith, column.counted)

pub overflow_add-count_at-in-loop : goal.overflow_add-count_at-in-loop
overflow_add-count_at-in-loop c =
    let this : First (column_end c.args.s.now) (c.args.n - c.loop.counter) c.loop.next c.requires.by_index.0 = first _ _ _ _ (omega arith) (c.loop.invariant.2 ∙ c.requires.by_index.1) in
    let column : Columned c.args.s.now c.loop.next this.stop = column_at _ _ _ this.ends in
    omega (arith, column.counted)

pub bounds-s-next : goal.bounds-s-next
bounds-s-next c =
    let this : First (column_end c.args.s.now) (c.args.n - c.loop.counter) c.loop.next c.requires.by_index.0 = first _ _ _ _ (omega arith) (c.loop.invariant.2 ∙ c.requires.by_index.1) in
    let column : Columned c.args.s.now c.loop.next this.stop = column_at _ _ _ this.ends in
    omega (arith, column.counted)

pub overflow_cast-count_at : goal.overflow_cast-count_at
overflow_cast-count_at c =
    let this : First (column_end c.args.s.now) (c.args.n - c.loop.counter) c.loop.next c.requires.by_index.0 = first _ _ _ _ (omega arith) (c.loop.invariant.2 ∙ c.requires.by_index.1) in
    let column : Columned c.args.s.now c.loop.next this.stop = column_at _ _ _ this.ends in
    omega (arith, column.counted)

pub overflow_add-count_at-in-loop-2 : goal.overflow_add-count_at-in-loop-2
overflow_add-count_at-in-loop-2 c =
    let this : First (column_end c.args.s.now) (c.args.n - c.loop.counter) c.loop.next c.requires.by_index.0 = first _ _ _ _ (omega arith) (c.loop.invariant.2 ∙ c.requires.by_index.1) in
    let column : Columned c.args.s.now c.loop.next this.stop = column_at _ _ _ this.ends in
    omega (arith, column.counted)

pub bounds-s-count_at : goal.bounds-s-count_at
bounds-s-count_at c =
    let this : First (column_end c.args.s.now) (c.args.n - c.loop.counter) c.loop.next c.requires.by_index.0 = first _ _ _ _ (omega arith) (c.loop.invariant.2 ∙ c.requires.by_index.1) in
    let column : Columned c.args.s.now c.loop.next this.stop = column_at _ _ _ this.ends in
    omega (arith, column.counted)

pub overflow_cast-total : goal.overflow_cast-total
overflow_cast-total c =
    let this : First (column_end c.args.s.now) (c.args.n - c.loop.counter) c.loop.next c.requires.by_index.0 = first _ _ _ _ (omega arith) (c.loop.invariant.2 ∙ c.requires.by_index.1) in
    let column : Columned c.args.s.now c.loop.next this.stop = column_at _ _ _ this.ends in
    omega (arith, column.few)

pub overflow_mul-total : goal.overflow_mul-total
overflow_mul-total c =
    let this : First (column_end c.args.s.now) (c.args.n - c.loop.counter) c.loop.next c.requires.by_index.0 = first _ _ _ _ (omega arith) (c.loop.invariant.2 ∙ c.requires.by_index.1) in
    let column : Columned c.args.s.now c.loop.next this.stop = column_at _ _ _ this.ends in
    omega (arith, product_few _ _ _ _ (omega arith) column.few c.loop.invariant.1)

pub next-next-requires : goal.next-next-requires
next-next-requires c =
    let this : First (column_end c.args.s.now) (c.args.n - c.loop.counter) c.loop.next c.requires.by_index.0 = first _ _ _ _ (omega arith) (c.loop.invariant.2 ∙ c.requires.by_index.1) in
    (this.stop, this.ends)

pub loop-preserved : goal.loop-preserved
loop-preserved c =
    let this : First (column_end c.args.s.now) (c.args.n - c.loop.counter) c.loop.next c.requires.by_index.0 = first _ _ _ _ (omega arith) (c.loop.invariant.2 ∙ c.requires.by_index.1) in
    let column : Columned c.args.s.now c.loop.next this.stop = column_at _ _ _ this.ends in
    let e : c.args.n - (c.loop.counter + 1) ≡ c.args.n - c.loop.counter - 1 = omega arith in
    rw e (
      rows_on _ _ _ _ _ _ (omega arith) c.next-next.ensures c.loop.invariant.0,
      still_few _ _ _ _ (omega arith) column.few c.loop.invariant.1,
      sym (many_more _ _ _ _ (omega arith) c.next-next.ensures) ∙ c.loop.invariant.2,
    )

pub returns : goal.returns
returns c = record {
  is = rows_end _ _ _ _ _ (omega arith) c.loop.invariant.0;
  few = end_few _ _ _ (omega arith) c.loop.invariant.1;
}
