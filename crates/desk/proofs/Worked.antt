-- Document 01's worked example holds of the desk: computed from bytes to answers. Assumes nothing.
use mathlib.Core.Path.{◌≡◌, refl, sym, ap, ◌∙◌}
use mathlib.Core.List.{List, [], ◌∷◌}
use Prim.Native.Nat.{ℕ, zero, suc, ◌<◌}
use native.Mathlib.Omega.{arith}
use borrow.Author.Tests.{ne_eqb}
use Rattle.bags.specs.Forms.{Contents, BagBytes}
use Rattle.questions.specs.Forms.{Column, QuestionBytes}
use Rattle.views.specs.Meaning.{View, look}
use Rattle.views.specs.Rows.{bag_of_row}
use Rattle.deciding.specs.Answers.{view_of}
use Rattle.pages.specs.Rows.{Combination, none, chosen, row_of}
use Rattle.pages.specs.Lines.{counts}
use Rattle.pages.proofs.AskedForms.{combination_shows}
use Rattle.sheets.specs.Sheets.{columns_in, first_in, sections_in}
use Rattle.sheets.proofs.Opened.{sheets_opened}
use Rattle.sheets.proofs.Promised.{counts_asked, counts_asked_lem}
use Rattle.desk.specs.Answers.{decide_says, sheet_says, rows_say}
use Rattle.desk.specs.Cases.{question, grade_three, WorkedExample}
use Rattle.desk.specs.Promises.{Shows}
use Rattle.desk.proofs.RequestsPromised.{seen}

-- the attributes of row 3, by the question's bytes
abbrev third_row : View
third_row = look (bag_of_row question (sections_in question) (columns_in question (sections_in question)) (first_in (sections_in question)) (1 ∷ 0 ∷ []))

-- they are what the bag knows
by_bytes : (root : ℕ) (path : List ℕ) → view_of grade_three root path ≡ third_row root path
unfolding sheets_opened
by_bytes zero path = refl
by_bytes (suc zero) path = refl
by_bytes (suc (suc zero)) path = refl
by_bytes (suc (suc (suc zero))) path = refl
by_bytes (suc (suc (suc (suc n)))) path =
    let root = suc (suc (suc (suc n))) in
    rw (ne_eqb root 1 (λ e. omega arith), ne_eqb root 2 (λ e. omega arith), ne_eqb root 3 (λ e. omega arith), ne_eqb 1 root (λ e. omega arith))

three_each : counts_asked question ≡ 3 ∷ 3 ∷ []
unfolding sheets_opened
three_each = refl

row_three : (contents base : Contents) (columns : List Column) → BagBytes grade_three contents → QuestionBytes question base columns
    → (row_of (counts columns) (1 ∷ 0 ∷ []) ≡ 3) × Shows contents base columns (1 ∷ 0 ∷ [])
unfolding sheets_opened row_of
row_three contents base columns b w =
    let three : counts columns ≡ 3 ∷ 3 ∷ [] = sym (counts_asked_lem w) ∙ three_each in
    let second : 1 < 3 = omega arith in
    let first : 0 < 3 = omega arith in
    let ok : Combination (counts columns) (1 ∷ 0 ∷ []) = rw three (chosen second (chosen first none)) in
    let shown = combination_shows (sections_in question) refl w ok in
    (rw three, λ root path. sym (ap (λ (view : View). view root path) (seen b)) ∙ by_bytes root path ∙ ap (λ (view : View). view root path) shown)

pub worked_example : WorkedExample
unfolding sheets_opened decide_says sheet_says rows_say
worked_example = record {
  rows = refl;
  listed = refl;
  written = refl;
  row_three = row_three;
  decided_three = refl;
}
