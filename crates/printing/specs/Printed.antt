-- What is printed of a folder's sheet for a text that compiles: a refusal's number, or the number of rows and the listed rows, a page at a time. Definitions only.
use Rattle.std.specs.Prelude.{◌≡◌, cond, List, ℕ, ◌+◌, ◌*◌, ◌≤◌, length, Result, Ok, Err}
use Rattle.questions.specs.Sizes.{most_rows}
use Rattle.questions.specs.Questions.{is_question}
use Rattle.meaning.specs.Targets.{Request}
use Rattle.pages.specs.Listing.{listed, page_rows, next_row}
use Rattle.pages.specs.declared.Page.{Page}
use Rattle.sheets.specs.Sheets.{decisions, rows_asked, request_refusal, unless}
use Rattle.printing.specs.declared.Printed.{Printed}

-- the sheet's refusal number, and 0 where it gets none: printing lends room for a row, and starts with row 0
unfoldable pub sheet_refusal : List ℕ → List ℕ → List ℕ → Request → ℕ
sheet_refusal text table s q = cond (is_question s) (request_refusal text table q) 24

-- so many rows are asked for, and the sheet is not refused
pub record Accepted (text table s : List ℕ) (q : Request) (rows : ℕ) : Type 0 where
  pub no_refusal : sheet_refusal text table s q ≡ 0
  pub counted : rows ≡ rows_asked s
  pub few : rows ≤ most_rows

-- a page that is printed has up to 10,000 rows
abbrev pub page_room : ℕ
page_room = 10000

-- a page's rows and the row to go on with are those of the sheet
pub record PagePrinted (text table s : List ℕ) (q : Request) (rows start : ℕ) (page : Page) : Type 0 where
  pub written : page.written ≡ length (page_rows (decisions text table s q) rows start page_room)
  pub next : page.next ≡ next_row (decisions text table s q) rows start page_room

-- how many rows are printed in all
abbrev pub all_listed : List ℕ → List ℕ → List ℕ → Request → ℕ → ℕ
all_listed text table s q rows = length (listed (decisions text table s q) rows 0)

-- so many rows are listed before a start row
pub record ListedBefore (text table s : List ℕ) (q : Request) (rows start before : ℕ) : Type 0 where
  pub all : before + length (listed (decisions text table s q) rows start) ≡ all_listed text table s q rows
  pub within : start ≤ rows
  pub few : before ≤ page_room * start + page_room

-- what is printed of a sheet: its refusal's number, or how many rows there are and how many of them are listed
unfoldable pub printed_for : List ℕ → List ℕ → List ℕ → Request → Result Printed ℕ
printed_for text table s q = unless (sheet_refusal text table s q) (Ok (record { rows = rows_asked s; allowed = all_listed text table s q (rows_asked s) })) Err
