-- What the sheet's call answers and leaves in the sheet, as functions of all that it is given (document 01, 'The sheet', 'Refusal numbers').
-- The version is the one that the table records (document 02, request 7). Definitions only.
use Rattle.pages.specs.declared.Page.{Page}
use Rattle.std.specs.Prelude.{◌≡◌, cond, List, ◌++◌, ℕ, zero, suc, ◌+◌, leb, length, take, drop, None, Option, Some, Err, Ok, Result}
use Rattle.table.specs.Recorded.{recorded}
use Rattle.compiling.specs.Outcome.{begins_of}
use Rattle.bags.specs.Sections.{sections_of}
use Rattle.bags.specs.declared.sections.Sections.{Sections}
use Rattle.questions.specs.Questions.{is_question}
use Rattle.meaning.specs.Targets.{Request, is_system, is_subject, is_action, is_resource}
use Rattle.meaning.specs.declared.Decision.{Decision}
use Rattle.deciding.specs.Answers.{words_in}
pub use Rattle.turns.specs.Rows.{columns_in, first_in, counts_in, rows_in, view_by, decision_at, row_mark}
unfoldable pub use Rattle.turns.specs.Rows.{decision_by, mark_there}
use Rattle.pages.specs.Listing.{page_rows, next_row, row_size, rows_bytes, over, room_in}

-- ---- the sections of a question

-- sections as they are divided, and none where they are broken
unfoldable pub divided_as : Option Sections → Sections
divided_as (Some p) = p
divided_as None = record { resource = 0; env = 0; end = 0 }

-- the sections of a question
abbrev pub sections_in : List ℕ → Sections
sections_in s = divided_as (sections_of s)

-- ---- refusals: the number of the first rule that is broken, and 0 where none is

-- the system's rows are all outcome 4; else subject, action, resource, and the text with its table
unfoldable pub request_refusal : List ℕ → List ℕ → Request → ℕ
request_refusal text table q =
    cond (is_system q.subject) 0
    (cond (is_subject q.subject) (cond (is_action q.action) (cond (is_resource q.resource) (cond (begins_of text table) 0 20) 23) 22) 21)

-- before them: a row's bytes from the named byte on, a question, and a start row that is not above the number of rows
unfoldable pub refusal_of : List ℕ → List ℕ → List ℕ → Request → ℕ → List ℕ → ℕ → ℕ
refusal_of text table s q start sheet at =
    cond (leb (at + row_size) (length sheet)) (cond (is_question s) (cond (leb start (rows_in s (sections_in s))) (request_refusal text table q) 26) 24) 25

-- what is there without a refusal, else what the refusal's number gives
unfoldable pub unless : {A : Type 0} → ℕ → A → (ℕ → A) → A
unless zero a refused = a
unless (suc n) a refused = refused (suc n)

-- ---- a page

-- so many rows are written, and this is the row to go on with
abbrev pub page_of : ℕ → ℕ → Result Page ℕ
page_of written next = Ok (record { written = written; next = next })

-- the answer for a part of the sheet: the rows written, and the first listed row at or after the start that was not written, else the number of rows
abbrev pub listed_on : (ℕ → Decision) → ℕ → ℕ → List ℕ → Result Page ℕ
listed_on d rows start part = page_of (length (page_rows d rows start (room_in part))) (next_row d rows start (room_in part))

-- the part afterwards
abbrev pub written_over : (ℕ → Decision) → (ℕ → ℕ) → ℕ → ℕ → List ℕ → List ℕ
written_over d m rows start part = over (rows_bytes d m (page_rows d rows start (room_in part))) part

-- a page for a question whose sections are p
pub record PartListed (text table s : List ℕ) (p : Sections) (q : Request) (start : ℕ) (before : List ℕ) (answer : Result Page ℕ) (after : List ℕ) : Type 0 where
  pub answered : answer ≡ unless (request_refusal text table q) (listed_on (decision_at (recorded table) s p q (words_in text)) (rows_in s p) start before) Err
  pub bytes : after ≡ unless (request_refusal text table q)
      (written_over (decision_at (recorded table) s p q (words_in text)) (row_mark (recorded table) s p q (words_in text)) (rows_in s p) start before) (λ _. before)

-- ---- the call

-- the decision of each row of the question
abbrev pub decisions : List ℕ → List ℕ → List ℕ → Request → ℕ → Decision
decisions text table s q = decision_at (recorded table) s (sections_in s) q (words_in text)

-- and its mark
abbrev pub row_marks : List ℕ → List ℕ → List ℕ → Request → ℕ → ℕ
row_marks text table s q = row_mark (recorded table) s (sections_in s) q (words_in text)

-- how many rows the question has
abbrev pub rows_asked : List ℕ → ℕ
rows_asked s = rows_in s (sections_in s)

-- what the call answers
unfoldable pub sheet_answer : List ℕ → List ℕ → List ℕ → Request → ℕ → List ℕ → ℕ → Result Page ℕ
sheet_answer text table s q start sheet at =
    unless (refusal_of text table s q start sheet at) (listed_on (decisions text table s q) (rows_asked s) start (drop at sheet)) Err

-- the sheet afterwards: the page is written into the part from the named byte on; a refusal changes nothing
unfoldable pub sheet_after : List ℕ → List ℕ → List ℕ → Request → ℕ → List ℕ → ℕ → List ℕ
sheet_after text table s q start sheet at =
    unless (refusal_of text table s q start sheet at)
    (take at sheet ++ written_over (decisions text table s q) (row_marks text table s q) (rows_asked s) start (drop at sheet))
    (λ _. sheet)

-- what the call promises
pub record SheetListed (text table s : List ℕ) (q : Request) (start : ℕ) (before : List ℕ) (at : ℕ) (answer : Result Page ℕ) (after : List ℕ) : Type 0 where
  pub answered : answer ≡ sheet_answer text table s q start before at
  pub sheet : after ≡ sheet_after text table s q start before at

-- what document 01 calls an answer: the refusal's number, the rows written and the row to go on with, with 0 for what there is none of
pub record SheetSaid : Type 0 where
  pub refusal : ℕ
  pub written : ℕ
  pub next : ℕ

-- document 01's numbers for each answer
unfoldable pub sheet_said : Result Page ℕ → SheetSaid
sheet_said (Ok page) = record { refusal = 0; written = page.written; next = page.next }
sheet_said (Err number) = record { refusal = number; written = 0; next = 0 }

-- what the call says
abbrev pub said_to : List ℕ → List ℕ → List ℕ → Request → ℕ → List ℕ → ℕ → SheetSaid
said_to text table s q start sheet at = sheet_said (sheet_answer text table s q start sheet at)
