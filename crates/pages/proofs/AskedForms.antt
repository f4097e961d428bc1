-- A question's counts, its rows and what a combination shows, by what its bytes say. Assumes nothing.
use Rattle.std.specs.Prelude.{Option, Some}
use mathlib.Core.Path.{◌≡◌, sym, ◌∙◌, ap, fun_ext}
use mathlib.Core.Bool.{true}
use mathlib.Core.List.{List}
use Prim.Native.Nat.{ℕ, ◌+◌, ◌≤◌, ◌<◌}
use native.Mathlib.Nat.{le_refl, mul-le-mul, mul-pos}
use native.Mathlib.Omega.{arith}
use lib.ListN.{length}
use Rattle.bags.specs.Reading.{byte}
use Rattle.bags.specs.Forms.{InTurn, none, more, Contents}
use Rattle.bags.specs.Sections.{sections_of}
use Rattle.bags.specs.declared.sections.Sections.{Sections}
use Rattle.bags.proofs.Told.{map_each, each_agree}
use Rattle.questions.specs.Columns.{candidate_end, count_at, column_end}
use Rattle.questions.specs.Questions.{count_of, is_question, product, Question}
use Rattle.questions.specs.Forms.{Column, ColumnBytes, column, ColumnsBytes, columns, Parts, parts, QuestionBytes}
use Rattle.questions.proofs.ColumnLaws.{column_at, question_is_lem}
use Rattle.questions.proofs.PlaceLaws.{eights, eights_few}
use Rattle.questions.proofs.Exactly.{choice_here, choices_here, column_here, columns_here, columns_at, question_stands, question_exactly}
use Rattle.views.specs.Meaning.{as_bag, look, row_bag}
use Rattle.views.specs.Rows.{bag_of_row, picked_all}
use Rattle.views.proofs.RowForms.{row_holds}
use Rattle.pages.specs.Rows.{counts_of, Combination}
use Rattle.pages.specs.Lines.{counts}
use Rattle.pages.proofs.SixColumns.{each_length, combination_chooses}

-- ---- how many rows

-- 8 candidates at most in each column
eights_most : {b : List ℕ} {cs : List Column} → InTurn ColumnBytes b cs → product (counts cs) ≤ eights (length cs)
unfolding eights
eights_most none = le_refl 1
eights_most (more (column a b p s f i d) m) = mul-le-mul f (eights_most m)

one_least : {b : List ℕ} {cs : List Column} → InTurn ColumnBytes b cs → 0 < product (counts cs)
one_least none = le_refl 1
one_least (more (column a b p s f i d) m) = mul-pos s (one_least m)

rows_of_columns : {b : List ℕ} {cs : List Column} → ColumnsBytes b cs → (0 < product (counts cs)) × (product (counts cs) ≤ 262144)
rows_of_columns (columns {cs = cs} few m d) = (one_least m, let k = eights_few (length cs) few in let h = eights_most m in omega arith)

rows_of_parts : {s : List ℕ} {base : Contents} {cs : List Column} → Parts s base cs → (0 < product (counts cs)) × (product (counts cs) ≤ 262144)
rows_of_parts (parts a b) = rows_of_columns b

-- a question has a row, and at most 262,144
pub rows_few : {s : List ℕ} {base : Contents} {cs : List Column} → QuestionBytes s base cs → (0 < product (counts cs)) × (product (counts cs) ≤ 262144)
rows_few w = rows_of_parts w.all

-- ---- counts and attributes

module _ (s : List ℕ) where
  count_here : (c e : ℕ) → column_end s c ≡ Some e → length (column_here s c).choices ≡ count_of s c
  unfolding choices_here
  count_here c e h = each_length (candidate_end s) (choice_here s) (count_of s c) (count_at s c + 1) e (column_at s c e h).candidates

  counts_here : (n at : ℕ) → counts (columns_here s n at) ≡ counts_of n s at
  unfolding columns_here counts_of
  counts_here n at =
      map_each (λ (c : Column). length c.choices) n (column_end s) (λ at e. column_here s at) at
      ∙ each_agree n (column_end s) (λ at e. length (column_here s at).choices) (λ c e. count_of s c) (count_here) at

module _ {s : List ℕ} {base : Contents} {cs : List Column} (p : Sections) (divided : sections_of s ≡ Some p) (w : QuestionBytes s base cs) where
  question_is : Question s p
  question_is = let i : is_question s ≡ true = (question_exactly s).1 (base, (cs, w)) in question_is_lem s p (rw i divided)

  -- how many candidates each column has
  pub counts_are : counts_of (byte s p.end) s (p.end + 1) ≡ counts cs
  unfolding columns_at
  counts_are =
      let d = question_stands w in
      let q : d.places ≡ p = same_places d.read divided in
      let c : cs ≡ columns_at s p.end = rw q at d.columns_are in
      sym (ap counts c ∙ counts_here s (byte s p.end) (p.end + 1))
    where
      same_places : {x : Option Sections} {a c : Sections} → x ≡ Some a → x ≡ Some c → a ≡ c
      same_places h k = cc

  -- what a combination shows is the base with each column's attribute set to its choice, or removed
  pub combination_shows : {choices : List ℕ} → Combination (counts cs) choices
      → look (bag_of_row s p (byte s p.end) (p.end + 1) choices) ≡ look (row_bag (as_bag base) (picked_all cs choices))
  combination_shows {choices} ok =
      let here : Combination (counts_of (byte s p.end) s (p.end + 1)) choices = rw counts_are ok in
      let ch = combination_chooses s (byte s p.end) (p.end + 1) question_is.last question_is.few question_is.columns here in
      fun_ext (λ root. fun_ext (λ path. row_holds p divided w choices ch root path))
