-- When a call for a page gets which refusal, and that the words of its text and the recorded version alone decide what it lists. Demand 3 itself stands on
-- the desk's page, and over any decisions in pages. Definitions only.
use Rattle.std.specs.Prelude.{◌≡◌, ◌↔◌, true, List, ℕ, ◌+◌, ◌≤◌, ◌<◌, length}
use Rattle.table.specs.Recorded.{recorded}
use Rattle.compiling_promise.specs.Promise.{Begun}
use Rattle.bags.specs.Forms.{Contents}
use Rattle.questions.specs.Questions.{product}
use Rattle.questions.specs.Forms.{Column, QuestionBytes, NoQuestion}
use Rattle.meaning.specs.Targets.{Request, is_system}
use Rattle.deciding.specs.Answers.{words_in}
use Rattle.deciding.specs.Promise.{Wellformed, RequestRefused}
use Rattle.pages.specs.Lines.{counts}
use Rattle.pages.specs.Listing.{row_size}
use Rattle.sheets.specs.Sheets.{sheet_answer, sheet_after, said_to}

-- what a call for a page is lent and told: rule text and table, question, request, start row, sheet, and the byte of it from which on the page is written
pub record SheetCall : Type 0 where
  pub text : List ℕ
  pub table : List ℕ
  pub question : List ℕ
  pub request : Request
  pub start : ℕ
  pub sheet : List ℕ
  pub at : ℕ

-- ---- refusals

-- nothing is wrong with the sheet, the question and the start row
pub record Wellasked (c : SheetCall) : Type 0 where
  pub room : c.at + row_size ≤ length c.sheet
  pub base : Contents
  pub columns : List Column
  pub question_says : QuestionBytes c.question base columns
  pub within : c.start ≤ product (counts columns)

-- When a call gets which refusal number; 0 where it gets none.
pub data SheetRefused (c : SheetCall) : ℕ → Type 0 where
  no_room : length c.sheet < c.at + row_size → SheetRefused c 25
  no_question : c.at + row_size ≤ length c.sheet → NoQuestion c.question → SheetRefused c 24
  above : {base : Contents} {columns : List Column} → c.at + row_size ≤ length c.sheet → QuestionBytes c.question base columns
      → product (counts columns) < c.start → SheetRefused c 26
  never_the_system : Wellasked c → is_system c.request.subject ≡ true → SheetRefused c 0
  bad_request : {number : ℕ} → Wellasked c → RequestRefused c.request number → SheetRefused c number
  not_compiled : Wellasked c → Wellformed c.request → (Begun c.text c.table → ⊥) → SheetRefused c 20
  none_wrong : Wellasked c → Wellformed c.request → Begun c.text c.table → SheetRefused c 0

-- Each refusal is given exactly when document 01 says.
unfoldable pub SheetRefusedExactly : Type 0
SheetRefusedExactly = (c : SheetCall) (number : ℕ)
    → ((said_to c.text c.table c.question c.request c.start c.sheet c.at).refusal ≡ number) ↔ SheetRefused c number

-- ---- what a text says

-- Two texts that say the same, each with its table of the same version, get the same pages, wherever they say it and whatever else stands in them.
unfoldable pub ListedAlike : Type 0
ListedAlike = (text text' table table' s : List ℕ) (q : Request) (start : ℕ) (sheet : List ℕ) (at : ℕ)
    → words_in text ≡ words_in text' → recorded table ≡ recorded table' → Begun text table → Begun text' table'
    → (sheet_answer text table s q start sheet at ≡ sheet_answer text' table' s q start sheet at)
    × (sheet_after text table s q start sheet at ≡ sheet_after text' table' s q start sheet at)
