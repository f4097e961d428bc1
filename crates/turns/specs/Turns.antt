-- A walk over the rows of a question: what it rests on, where it stands, and what a row's turn does. Definitions only.
use Rattle.std.specs.Prelude.{◌≡◌, cond, List, [], ℕ, ◌+◌, ◌-◌, ◌%◌, ◌≤◌, ◌<◌, ltb, length, get_or}
use Rattle.tokens.specs.Sizes.{most_policies}
use Rattle.bags.specs.declared.sections.Sections.{Sections}
use Rattle.questions.specs.Questions.{Question, head_of, count_of, cell, product}
use Rattle.table.specs.Recorded.{recorded}
use Rattle.stored.specs.ReadBack.{policies_at}
use Rattle.stored.specs.Ready.{ReadyPolicies}
use Rattle.placing.specs.Said.{words_of}
use Rattle.questions.specs.Sizes.{most_columns, most_candidates}
use Rattle.meaning.specs.Targets.{Request, is_system}
use Rattle.pages.specs.Rows.{choices_at, counts_by, Picked}
use Rattle.marks.specs.Marks.{permits_of}
use Rattle.depths.specs.Looks.{Depths, Ends}
use Rattle.kept.specs.Notes.{Kept}
use Rattle.kept.specs.declared.Walk.{Walk}
use Rattle.turns.specs.Rows.{columns_in, first_in, rows_in, decision_at, row_mark}
use Rattle.turns.specs.declared.Turn.{Turn}

-- the places of the question's columns and candidates, and the last choice of each column
pub record Laid (s : List ℕ) (p : Sections) (n : ℕ) (starts : List ℕ) (grid : List (List ℕ)) (ends : List ℕ) : Type 0 where
  pub many : n ≡ columns_in s p
  pub starts_are : (i : ℕ) → i < most_columns → get_or starts i 0 ≡ cond (ltb i n) (head_of s (first_in p) i) 0
  pub grid_is : (i j : ℕ) → i < most_columns → j < most_candidates → get_or (get_or grid i []) j 0 ≡ cell s (first_in p) n i j
  pub six : length ends ≡ most_columns
  pub ends_are : (i : ℕ) → i < most_columns → get_or ends i 0 ≡ cond (ltb i n) (count_of s (get_or starts i 0) - 1) 0

-- What a walk rests on: a question and its places, a table of at most 64 policies that can be evaluated, which columns can matter to each of them and where
-- its entries end, and which of them permit.
pub record Walked (text table s : List ℕ) (w : Walk) (starts : List ℕ) (grid : List (List ℕ)) (ends looks : List ℕ) : Type 0 where
  pub question : Question s w.p
  pub laid : Laid s w.p w.n starts grid ends
  pub ready : ReadyPolicies text table w.entries
  pub many : w.policies ≡ length (policies_at table w.entries)
  pub few : w.policies ≤ most_policies
  pub depths : Depths text s w.n starts (policies_at table w.entries) looks
  pub ended : Ends text table (policies_at table w.entries) looks
  pub permits : w.permits ≡ permits_of (policies_at table w.entries)

-- the choices of a row, and their places; past the last row it begins anew
pub record Standing (grid : List (List ℕ)) (ends choices values : List ℕ) (row : ℕ) : Type 0 where
  pub choices_are : choices ≡ choices_at (counts_by ends) (row % product (counts_by ends))
  pub values_are : Picked grid choices values

-- they are those of some row of the question
pub record Somewhere (s : List ℕ) (p : Sections) (grid : List (List ℕ)) (ends choices values : List ℕ) : Type 0 where
  pub row : ℕ
  pub below : row < rows_in s p
  pub standing : Standing grid ends choices values row

-- The walk for a request stands at a row: its choices and their places, the first column in which it may choose otherwise, and what is kept of the rows
-- before.
pub record AtRow (text table s : List ℕ) (w : Walk) (starts : List ℕ) (grid : List (List ℕ)) (ends looks action : List ℕ) (q : Request) (row : ℕ)
    (choices values : List ℕ) (from : ℕ) (notes : List ℕ) (mark : ℕ) : Type 0 where
  pub acts : q.action ≡ action
  pub whose : w.system ≡ is_system q.subject
  pub standing : Standing grid ends choices values row
  pub within : from < most_columns
  pub kept : Kept (recorded table) text s w starts q (policies_at table w.entries) looks values from notes mark

-- A row's turn: its decision and its mark are given, and the walk stands at the next row.
pub record Turned (text table s : List ℕ) (w : Walk) (starts : List ℕ) (grid : List (List ℕ)) (ends looks action : List ℕ) (q : Request) (row : ℕ) (r : Turn)
    (choices values notes : List ℕ) : Type 0 where
  pub decided : r.d ≡ decision_at (recorded table) s w.p q (words_of text (policies_at table w.entries)) row
  pub marked : r.mark ≡ row_mark (recorded table) s w.p q (words_of text (policies_at table w.entries)) row
  pub next : AtRow text table s w starts grid ends looks action q (row + 1) choices values r.from notes r.kept
