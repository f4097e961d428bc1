-- What printing knows of the sheet's answers: its first page is refused or none is, and the pages have all listed rows. Assumes nothing.
use mathlib.Core.Path.{◌≡◌, refl, sym, ap, ◌∙◌}
use mathlib.Core.Bool.{Bool, true, false, cond}
use mathlib.Core.List.{List}
use Prim.Native.Nat.{ℕ, zero, suc, ◌+◌, ◌-◌, ◌*◌, ◌≤◌, ◌<◌}
use native.Mathlib.Omega.{arith}
use borrow.Author.Tests.{le-leb}
use lib.ListN.{length, take, drop, length-take, length-drop}
use Rattle.std.specs.Prelude.{Result, Ok, Err}
use Rattle.questions.specs.Questions.{is_question}
use Rattle.meaning.specs.Targets.{Request}
use Rattle.meaning.specs.declared.Decision.{Decision}
use Rattle.targets.specs.Matching.{request}
use Rattle.pages.specs.Listing.{yes_of, listed, page_rows, next_row, row_size}
use Rattle.pages.specs.declared.Page.{Page}
use Rattle.pages.proofs.Listed.{next_lists, next_within, next_past}
use Rattle.sheets.specs.Sheets.{rows_asked, decisions, request_refusal, refusal_of, unless, sheet_answer, SheetListed}
use Rattle.request_lines.specs.Lines.{request_in, EndsAt, GoesOnAt}
use Rattle.request_lines.proofs.LineLaws.{lines_cut}
use Rattle.printing.specs.declared.Printed.{Printed}
use Rattle.printing.specs.Printed.{sheet_refusal, Accepted, PagePrinted, page_room, ListedBefore, all_listed, printed_for}

-- ---- refusals

-- the refusal's number of an answer, and 0 where it has none
abbrev pub refused_by : Result Page ℕ → ℕ
refused_by (Ok page) = 0
refused_by (Err number) = number

told_by : (n : ℕ) (p : Page) → refused_by (unless n (Ok p) Err) ≡ n
unfolding unless
told_by zero p = refl
told_by (suc n) p = refl

module _ {text table s : List ℕ} {q : Request} {start : ℕ} {page after : List ℕ} {answer : Result Page ℕ} (l : SheetListed text table s q start page 0 answer after) where
  refusal_is : row_size ≤ length page → start ≤ rows_asked s → refusal_of text table s q start page 0 ≡ sheet_refusal text table s q
  unfolding refusal_of sheet_refusal
  refusal_is long h = rw (le-leb row_size (length page) long, le-leb start (rows_asked s) h)

  pub refusal_told : row_size ≤ length page → start ≤ rows_asked s → {a : Result Page ℕ} → answer ≡ a → refused_by a ≡ sheet_refusal text table s q
  unfolding sheet_answer
  refusal_told long h e = ap refused_by (sym e ∙ l.answered) ∙ told_by (refusal_of text table s q start page 0) _ ∙ refusal_is long h

  module _ {rows : ℕ} (a : Accepted text table s q rows) (h : start ≤ rows) (long : length page ≡ row_size * page_room) where
    answer_is : answer ≡ Ok (record { written = length (page_rows (decisions text table s q) rows start page_room); next = next_row (decisions text table s q) rows start page_room })
    unfolding sheet_answer unless
    answer_is = l.answered ∙ rw (refusal_is (omega arith) (rw (← a.counted) (omega arith)), a.no_refusal, a.counted, long) refl

    page_is : {p : Page} → answer ≡ Ok p → p ≡ record { written = length (page_rows (decisions text table s q) rows start page_room); next = next_row (decisions text table s q) rows start page_room }
    page_is e = let i = answer_is in cc

    pub page_printed : {p : Page} → answer ≡ Ok p → PagePrinted text table s q rows start p
    page_printed e = rw (page_is e) (record { written = refl; next = refl })

    pub never_refused : {number : ℕ} {A : Type 0} → answer ≡ Err number → A
    never_refused e = absurd (let i = answer_is in let z : ◌≡◌ {A = ℕ} 0 1 = cc in omega arith)

    pub rows_fit : {p : Page} → answer ≡ Ok p → row_size * p.written ≤ row_size * page_room
    unfolding page_rows
    rows_fit e = omega (arith, (page_printed e).written, length-take page_room (listed (decisions text table s q) rows start))

-- what is not refused is a question
a_question : (b : Bool) (n m : ℕ) {rows : ℕ} → cond b n 24 ≡ 0 → rows ≡ cond b m 0 → rows ≡ m
a_question true n m e f = f
a_question false n m e f = absurd (let z : ◌≡◌ {A = ℕ} 24 0 = e in omega arith)

pub accepted : {text table s : List ℕ} {q : Request} {number rows : ℕ} → number ≡ sheet_refusal text table s q → number ≤ 0 → rows ≡ cond (is_question s) (rows_asked s) 0 → rows ≤ 262144
    → Accepted text table s q rows
unfolding sheet_refusal
accepted {text} {table} {s} {q} r h e few =
    let none : sheet_refusal text table s q ≡ 0 = omega arith in
    record { no_refusal = none; counted = a_question (is_question s) (request_refusal text table q) (rows_asked s) none e; few = few }

-- ---- what is printed in all

refused_as : (n : ℕ) {m number : ℕ} {answer : Result Page ℕ} (a : Result Printed ℕ) (p : Page) → answer ≡ unless m (Ok p) Err → m ≡ n → answer ≡ Err number → ◌≡◌ {A = Result Printed ℕ} (Err number) (unless n a Err)
unfolding unless
refused_as zero a p told same e = absurd (let none : unless 0 (Ok p) Err ≡ Ok p = refl in let z : ◌≡◌ {A = ℕ} 0 1 = cc in omega arith)
refused_as (suc n) a p told same e = cc

-- what is refused on its first page
pub refusal_printed : {text table s : List ℕ} {q : Request} {page after : List ℕ} {answer : Result Page ℕ} {number : ℕ} → SheetListed text table s q 0 page 0 answer after
    → row_size ≤ length page → answer ≡ Err number → Err number ≡ printed_for text table s q
unfolding printed_for sheet_answer
refusal_printed l long e = refused_as _ _ _ l.answered (refusal_is l long (omega arith)) e

-- what is accepted
pub rows_printed : {text table s : List ℕ} {q : Request} {rows all : ℕ} → Accepted text table s q rows → all ≡ all_listed text table s q rows → Ok (record { rows = rows; allowed = all }) ≡ printed_for text table s q
unfolding printed_for unless
rows_printed a e = rw (a.no_refusal, e, a.counted) refl

-- ---- pages

module _ {text table s : List ℕ} {q : Request} {rows start : ℕ} {page : Page} (w : PagePrinted text table s q rows start page) (h : start ≤ rows) where
  abbrev d : ℕ → Decision
  d = decisions text table s q

  pub goes_on : start < rows → start < page.next
  goes_on below = rw w.next (next_past d rows start page_room below (omega arith))

  pub goes_within : page.next ≤ rows
  goes_within = rw w.next (next_within d rows start page_room (omega arith))

  pub few_written : page.written ≤ page_room
  unfolding page_rows
  few_written = omega (arith, w.written, length-take page_room (listed d rows start))

  -- the rows of the page and those from where it goes on are those from its start on
  pub rows_joined : page.written + length (listed d rows page.next) ≡ length (listed d rows start)
  unfolding page_rows
  rows_joined =
      let rest : length (listed d rows page.next) ≡ length (listed d rows start) - page_room = rw (w.next, next_lists d rows start page_room (omega arith)) (length-drop page_room (listed d rows start)) in
      omega (arith, w.written, length-take page_room (listed d rows start), rest)

-- from the last row on there is none
pub all_counted : (d : ℕ → Decision) (rows start : ℕ) {so_far all : ℕ} → so_far + length (listed d rows start) ≡ all → rows ≤ start → so_far ≡ all
unfolding listed yes_of
all_counted d rows start e h =
    let k : rows - start ≡ 0 = omega arith in
    let none : length (listed d rows start) ≡ 0 = rw k in
    omega arith

-- behind the first page
pub first_counted : {text table s : List ℕ} {q : Request} {rows : ℕ} {page : Page} → PagePrinted text table s q rows 0 page → ListedBefore text table s q rows page.next page.written
first_counted w = record { all = rows_joined w (omega arith); within = goes_within w (omega arith); few = omega (arith, few_written w (omega arith)) }

-- what is listed on its first page is accepted, and that page is the sheet's
module _ {text table s : List ℕ} {q : Request} {page after : List ℕ} {answer : Result Page ℕ} {p : Page} {rows : ℕ} (l : SheetListed text table s q 0 page 0 answer after)
    (long : length page ≡ row_size * page_room) (e : answer ≡ Ok p) (counted : rows ≡ cond (is_question s) (rows_asked s) 0) (few : rows ≤ 262144) where
  pub first_accepted : Accepted text table s q rows
  first_accepted = accepted (refusal_told l (omega arith) (omega arith) e) (omega arith) counted few

  pub first_printed : PagePrinted text table s q rows 0 p
  first_printed = page_printed l first_accepted (omega arith) long e

-- for the three lines that are cut
pub printed_for_lines : (text table question : List ℕ) {s : List ℕ} {a b c d e : ℕ} {r : Result Printed ℕ}
    → r ≡ printed_for text table question (request (take a s) (take (c - b) (drop b s)) (take (e - d) (drop d s)))
    → EndsAt s 0 a → GoesOnAt s a b → EndsAt s b c → GoesOnAt s c d → EndsAt s d e → r ≡ printed_for text table question (request_in s)
printed_for_lines text table question p first on second on_again third = p ∙ ap (printed_for text table question) (lines_cut first on second on_again third)
