-- `questions::grid::places` meets its contract: the first `i` columns have their places, and the others 0. Assumes nothing.
use Rattle.std.specs.Prelude.{Some}
use Prim.Native.Nat.{ℕ, ◌<◌, ◌≤◌, ◌-◌}
use borrow.Author.Rules.{rules}
use lib.ListN.{length, get_or, replicate, get_or-replicate, length-set}
use mathlib.Core.List.{List, []}
use mathlib.Core.Path.{◌≡◌, refl, ◌∙◌, ap}
use native.Mathlib.Omega.{arith}
use Rattle.bags.proofs.ReadLaws.{many_done, many_last}
use Rattle.bags.specs.Reading.{many}
use Rattle.questions.proofs.ColumnLaws.{Columned, column_at}
use Rattle.questions.proofs.PlaceLaws.{at_number, grid_none, grid_more}
use Rattle.questions.specs.Columns.{column_end}
use Rattle.questions.specs.Questions.{cell}
use Rattle.questions.proofs.grid.places.Goals as goal

pub loop-i-init : goal.loop-i-init
loop-i-init c = (
  many_done _ _ _ (omega arith),
  refl,
  (λ k j hk hj.
      ap (λ (l : List ℕ). get_or l j 0) (get_or-replicate 6 k (replicate 8 0) [] hk) ∙ get_or-replicate 8 j 0 0 hj ∙ grid_none c.args.s.now c.args.at k j),
  omega arith,
)

pub overflow_add-count_at : goal.overflow_add-count_at
overflow_add-count_at c =
    let this : (stop : ℕ) × (column_end c.args.s.now c.loop-i.next ≡ Some stop) = at_number _ c.args.n c.loop-i.i _ _ _ c.loop-i-test.true c.requires.by_index.1 c.loop-i.invariant.0 in
    let column : Columned c.args.s.now c.loop-i.next this.0 = column_at _ _ _ this.1 in
    omega (arith, column.counted)

pub overflow_add-count_at-in-loop-i : goal.overflow_add-count_at-in-loop-i
overflow_add-count_at-in-loop-i c =
    let this : (stop : ℕ) × (column_end c.args.s.now c.loop-i.next ≡ Some stop) = at_number _ c.args.n c.loop-i.i _ _ _ c.loop-i-test.true c.requires.by_index.1 c.loop-i.invariant.0 in
    let column : Columned c.args.s.now c.loop-i.next this.0 = column_at _ _ _ this.1 in
    omega (arith, column.counted)

pub bounds-s-next : goal.bounds-s-next
bounds-s-next c =
    let this : (stop : ℕ) × (column_end c.args.s.now c.loop-i.next ≡ Some stop) = at_number _ c.args.n c.loop-i.i _ _ _ c.loop-i-test.true c.requires.by_index.1 c.loop-i.invariant.0 in
    let column : Columned c.args.s.now c.loop-i.next this.0 = column_at _ _ _ this.1 in
    omega (arith, column.counted)

pub overflow_cast-count_at : goal.overflow_cast-count_at
overflow_cast-count_at c =
    let this : (stop : ℕ) × (column_end c.args.s.now c.loop-i.next ≡ Some stop) = at_number _ c.args.n c.loop-i.i _ _ _ c.loop-i-test.true c.requires.by_index.1 c.loop-i.invariant.0 in
    let column : Columned c.args.s.now c.loop-i.next this.0 = column_at _ _ _ this.1 in
    omega (arith, column.counted)

pub overflow_add-count_at-in-loop-i-2 : goal.overflow_add-count_at-in-loop-i-2
overflow_add-count_at-in-loop-i-2 c =
    let this : (stop : ℕ) × (column_end c.args.s.now c.loop-i.next ≡ Some stop) = at_number _ c.args.n c.loop-i.i _ _ _ c.loop-i-test.true c.requires.by_index.1 c.loop-i.invariant.0 in
    let column : Columned c.args.s.now c.loop-i.next this.0 = column_at _ _ _ this.1 in
    omega (arith, column.counted)

pub overflow_add-count_at-in-loop-i-3 : goal.overflow_add-count_at-in-loop-i-3
overflow_add-count_at-in-loop-i-3 c =
    let this : (stop : ℕ) × (column_end c.args.s.now c.loop-i.next ≡ Some stop) = at_number _ c.args.n c.loop-i.i _ _ _ c.loop-i-test.true c.requires.by_index.1 c.loop-i.invariant.0 in
    let column : Columned c.args.s.now c.loop-i.next this.0 = column_at _ _ _ this.1 in
    omega (arith, column.counted)

pub bounds-s-count_at : goal.bounds-s-count_at
bounds-s-count_at c =
    let this : (stop : ℕ) × (column_end c.args.s.now c.loop-i.next ≡ Some stop) = at_number _ c.args.n c.loop-i.i _ _ _ c.loop-i-test.true c.requires.by_index.1 c.loop-i.invariant.0 in
    let column : Columned c.args.s.now c.loop-i.next this.0 = column_at _ _ _ this.1 in
    omega (arith, column.counted)

pub overflow_cast-s : goal.overflow_cast-s
overflow_cast-s c =
    let this : (stop : ℕ) × (column_end c.args.s.now c.loop-i.next ≡ Some stop) = at_number _ c.args.n c.loop-i.i _ _ _ c.loop-i-test.true c.requires.by_index.1 c.loop-i.invariant.0 in
    let column : Columned c.args.s.now c.loop-i.next this.0 = column_at _ _ _ this.1 in
    omega (arith, column.few)

pub candidate_places-cells-requires : goal.candidate_places-cells-requires
candidate_places-cells-requires c =
    let this : (stop : ℕ) × (column_end c.args.s.now c.loop-i.next ≡ Some stop) = at_number _ c.args.n c.loop-i.i _ _ _ c.loop-i-test.true c.requires.by_index.1 c.loop-i.invariant.0 in
    let column : Columned c.args.s.now c.loop-i.next this.0 = column_at _ _ _ this.1 in
    record {
      n_le_most_candidates = column.few;
      by_index = (this.0, column.candidates);
    }

pub next-next-requires : goal.next-next-requires
next-next-requires c =
    let this : (stop : ℕ) × (column_end c.args.s.now c.loop-i.next ≡ Some stop) = at_number _ c.args.n c.loop-i.i _ _ _ c.loop-i-test.true c.requires.by_index.1 c.loop-i.invariant.0 in
    this

pub loop-i-preserved : goal.loop-i-preserved
loop-i-preserved c = (
  many_last _ _ _ _ c.loop-i.invariant.0 ∙ c.next-next.ensures,
  simp length-set c.loop-i.invariant.1,
  grid_more c.args.s.now c.args.at c.loop-i.grid c.loop-i.i c.loop-i.next c.candidate_places-cells.result (omega arith) c.loop-i.invariant.0 c.candidate_places-cells.ensures c.loop-i.invariant.2,
  omega arith,
)

pub returns : goal.returns
returns c =
    let e : c.loop-i.i ≡ c.args.n = omega arith in
    λ k j hk hj. c.loop-i.invariant.2 k j hk hj ∙ ap (λ (n : ℕ). cell c.args.s.now c.args.at n k j) e
