-- What the desk promises of sheets: the one list of lines, its pages, the refusals. Assumes nothing.
use mathlib.Core.Path.{◌≡◌, refl, sym, ap, ◌∙◌, subst, fun_ext}
use mathlib.Core.Logic.Iff
use mathlib.Core.Logic.{◌↔◌}
use mathlib.Core.Bool.{Bool, true, false, cond}
use mathlib.Core.List.{List, [], ◌∷◌, ◌++◌, Memᴰ}
use Prim.Native.Nat.{ℕ, zero, suc, ◌+◌, ◌*◌, ◌≤◌, ◌<◌, zero-le}
use native.Mathlib.Nat.{le_refl}
use native.Mathlib.Decide.{dec_le}
use native.Mathlib.Omega.{arith}
use lib.ListN.{length, take, drop}
use lib.Seq.{take_at}
use Rattle.tokens.proofs.TokenLaws.{never}
use Rattle.table.specs.Recorded.{recorded}
use Rattle.compiling_promise.specs.Promise.{Begun}
use Rattle.bags.specs.Forms.{Contents, BagBytes}
use Rattle.questions.specs.Forms.{Column, QuestionBytes, NoQuestion}
use Rattle.questions.specs.Questions.{is_question, product}
use Rattle.questions.proofs.Exactly.{question_exactly, not_a_question}
use Rattle.views.specs.Meaning.{View, as_bag, look}
use Rattle.meaning.specs.Targets.{Request, is_system}
use Rattle.meaning.specs.Decisions.{Terms, under, outcome_of, policy_of, is_allowed}
use Rattle.meaning.specs.declared.Decision.{Decision}
use Rattle.deciding.specs.Answers.{words_in}
use Rattle.deciding.specs.Promise.{DecideCall, Wellformed, RequestRefused, bad_subject, bad_action, bad_resource}
use Rattle.pages.specs.declared.Page.{Page}
use Rattle.pages.specs.Rows.{Combination, choices_at}
use Rattle.pages.specs.Listing.{page_rows, row_size, room_in, rows_bytes, PageWritten}
use Rattle.pages.specs.Pages as pages
use Rattle.pages.specs.Pages.{Written}
use Rattle.pages.specs.Lines.{Line, counts, lines_bytes, lines_from}
use Rattle.pages.proofs.Listed.{all_written}
use Rattle.pages.proofs.LineLaws.{one_list, line_of, decided_at, marked_at, lines_of, lines_yes, lines_ordered, lines_from_lem, lines_bytes_lem, page_lines}
use Rattle.pages.proofs.AskedForms as asked_forms
use Rattle.pages.proofs.Progress.{bytes_length}
use Rattle.sheets.specs.Sheets.{sections_in, decision_by, mark_there, decisions, row_marks, rows_asked}
use Rattle.sheets.specs.Promise.{SheetCall, Wellasked, SheetRefused, no_room, no_question, above, never_the_system, bad_request, not_compiled, none_wrong, SheetRefusedExactly, ListedAlike}
use Rattle.sheets.proofs.Promised as sheets_proofs
use Rattle.sheets.proofs.Promised.{counts_asked_lem, rows_asked_lem, decision_asked, mark_asked}
use Rattle.desk.specs.Answers.{decision_for, sheet_says, sheet_leaves, page_for, sheet_for, rows_say}
use Rattle.desk.specs.Promises.{SayAlike, OutcomeIs, MarkIs, attributes, terms_of, LineOf, Sheet, written_by, PageOf, again, Pages, no_page, page, TheSheet, Shows}
use Rattle.desk.proofs.RequestsPromised.{among, decided_over, mark_over, outcome_over, system_over, decided_as, mark_over_lem, system_marks, marked_as, yes_by_outcome, begun_says, alike_words, request_some, outcome_rightly, mark_exactly}

-- ---- the number of rows

pub rows_counted : (question : List ℕ) (base : Contents) (columns : List Column) → QuestionBytes question base columns → rows_say question ≡ product (counts columns)
unfolding rows_say
rows_counted question base columns w = rw ((question_exactly question).1 (base, (columns, w))) (rows_asked_lem w)

pub rows_few : (question : List ℕ) → rows_say question ≤ 262144
unfolding rows_say
rows_few question = go (is_question question) refl
  where
    go : (b : Bool) → is_question question ≡ b → cond b (rows_asked question) 0 ≤ 262144
    go true e = let w = (question_exactly question).0 e in rw (rows_asked_lem w.1.1) (asked_forms.rows_few w.1.1).1
    go false e = zero-le

pub rows_exactly : (question : List ℕ) → (rows_say question ≡ 0) ↔ NoQuestion question
unfolding rows_say
rows_exactly question = Iff.trans (go (is_question question) refl) (not_a_question question)
  where
    go : (b : Bool) → is_question question ≡ b → (cond b (rows_asked question) 0 ≡ 0) ↔ (b ≡ false)
    go true e =
        let w = (question_exactly question).0 e in
        (λ z. absurd (let h = (asked_forms.rows_few w.1.1).0 in let k = rows_asked_lem w.1.1 in omega arith), λ f. absurd (never (sym f)))
    go false e = (λ z. refl, λ f. refl)

-- ---- a line

-- a line is what it has
line_is : (choices : List ℕ) {o o' n n' m m' : ℕ} → o ≡ o' → n ≡ n' → m ≡ m'
    → ◌≡◌ {A = Line} (record { choices = choices; outcome = o; policy = n; mark = m }) (record { choices = choices; outcome = o'; policy = n'; mark = m' })
line_is choices p q r = λ i. record { choices = choices; outcome = p i; policy = q i; mark = r i }

-- ---- the refusals

module _ (c : SheetCall) where
  pub sheet_exactly : (number : ℕ) → ((page_for c).refusal ≡ number) ↔ SheetRefused c number
  unfolding sheet_says SheetRefusedExactly
  sheet_exactly number = sheets_proofs.sheet_refused_exactly c number

  request_is : {n : ℕ} → RequestRefused c.request n → Memᴰ n (0 ∷ 20 ∷ 21 ∷ 22 ∷ 23 ∷ 24 ∷ 25 ∷ 26 ∷ [])
  request_is (bad_subject s t) = among 21 _ refl
  request_is (bad_action s t u) = among 22 _ refl
  request_is (bad_resource s t u v) = among 23 _ refl

  number_is : {n : ℕ} → SheetRefused c n → Memᴰ n (0 ∷ 20 ∷ 21 ∷ 22 ∷ 23 ∷ 24 ∷ 25 ∷ 26 ∷ [])
  number_is (no_room h) = among 25 _ refl
  number_is (no_question h e) = among 24 _ refl
  number_is (above h w l) = among 26 _ refl
  number_is (never_the_system w e) = among 0 _ refl
  number_is (bad_request w r) = request_is r
  number_is (not_compiled w f n) = among 20 _ refl
  number_is (none_wrong w f b) = among 0 _ refl

  pub sheet_refusals : Memᴰ (page_for c).refusal (0 ∷ 20 ∷ 21 ∷ 22 ∷ 23 ∷ 24 ∷ 25 ∷ 26 ∷ [])
  sheet_refusals = number_is ((sheet_exactly (page_for c).refusal).0 refl)

  pub sheet_stays : ((page_for c).refusal ≡ 0 → ⊥) → sheet_for c ≡ c.sheet
  unfolding sheet_says
  sheet_stays n = (sheets_proofs.nothing_changed c.text c.table c.question c.request c.start c.sheet c.at n).0

  pub sheet_zeros : ((page_for c).refusal ≡ 0 → ⊥) → ((page_for c).written ≡ 0) × ((page_for c).next ≡ 0)
  unfolding sheet_says
  sheet_zeros n = let z = sheets_proofs.nothing_changed c.text c.table c.question c.request c.start c.sheet c.at n in (z.1, z.2)

  -- ---- a call that is not refused

  -- whose it is: the system's, or one for which the text says its policies
  pub data Heard : Type 0 where
    of_the_system : Wellasked c → is_system c.request.subject ≡ true → Heard
    of_another : Wellasked c → Wellformed c.request → Begun c.text c.table → Heard

  heard_by : {n : ℕ} → n ≡ 0 → SheetRefused c n → Heard
  heard_by z (no_room h) = absurd (omega arith)
  heard_by z (no_question h e) = absurd (omega arith)
  heard_by z (above h w l) = absurd (omega arith)
  heard_by z (never_the_system w e) = of_the_system w e
  heard_by z (bad_request w r) = absurd (request_some r z)
  heard_by z (not_compiled w f n) = absurd (omega arith)
  heard_by z (none_wrong w f b) = of_another w f b

  heard : (page_for c).refusal ≡ 0 → Heard
  heard e = heard_by e ((sheet_exactly (page_for c).refusal).0 refl)

  well_asked : Heard → Wellasked c
  well_asked (of_the_system w s) = w
  well_asked (of_another w f b) = w

  -- what is decided on any terms
  pub outcome_there : Heard → (terms : Terms)
      → OutcomeIs c.text terms c.request (outcome_of (decided_over c.text terms c.request)) (policy_of (decided_over c.text terms c.request))
  outcome_there (of_the_system w s) terms = system_over c.text terms c.request s
  outcome_there (of_another w f b) terms = outcome_over c.text terms c.request b.value (begun_says b)

  -- and its mark
  marked_there : Heard → (terms : Terms) → MarkIs c.text terms c.request (mark_over c.text terms c.request)
  marked_there (of_the_system w s) terms = system_marks c.text terms c.request s
  marked_there (of_another w f b) terms = mark_over_lem c.text terms c.request b.value (begun_says b)

  -- a call with another start row is not refused either
  starts_at : (row : ℕ) → Wellasked (again c row c.sheet c.at) → Heard → SheetRefused (again c row c.sheet c.at) 0
  starts_at row w (of_the_system v s) = never_the_system w s
  starts_at row w (of_another v f b) = none_wrong w f b

-- ---- the one list

module _ (c : SheetCall) (h : Heard c) {base : Contents} {columns : List Column} (w : QuestionBytes c.question base columns) where
  -- the terms of a combination: its attributes under the version that the table records
  abbrev pub terms_there : List ℕ → Terms
  terms_there choices = terms_of (recorded c.table) base columns choices

  -- what is decided of a combination
  abbrev pub of_choices : List ℕ → Decision
  of_choices choices = decision_by (recorded c.table) c.question (sections_in c.question) c.request (words_in c.text) choices

  -- and its mark
  abbrev pub of_marks : List ℕ → ℕ
  of_marks choices = mark_there (recorded c.table) c.question (sections_in c.question) c.request (words_in c.text) choices

  abbrev pub ns : List ℕ
  ns = counts columns

  abbrev pub lines : List Line
  lines = lines_of of_choices of_marks ns

  -- over its attributes
  pub over_attributes : {choices : List ℕ} → Combination ns choices → of_choices choices ≡ decided_over c.text (terms_there choices) c.request
  over_attributes ok = decision_asked w ok (recorded c.table) c.request (words_in c.text)

  marked_over : {choices : List ℕ} → Combination ns choices → of_marks choices ≡ mark_over c.text (terms_there choices) c.request
  marked_over ok = mark_asked w ok (recorded c.table) c.request (words_in c.text)

  listed_line : (l : Line) → Combination ns l.choices → l ≡ line_of of_choices of_marks ns l.choices → is_allowed (of_choices l.choices) ≡ true
      → LineOf (recorded c.table) c.text base columns c.request l
  listed_line l ok e y =
      let d = over_attributes ok in
      let o : l.outcome ≡ outcome_of (of_choices l.choices) = ap (λ (x : Line). x.outcome) e in
      let n : l.policy ≡ policy_of (of_choices l.choices) = ap (λ (x : Line). x.policy) e in
      let m : l.mark ≡ of_marks l.choices = ap (λ (x : Line). x.mark) e in
      record {
        combination = ok;
        decided = rw (o, n, d) (outcome_there c h (terms_there l.choices));
        marked = rw (m, marked_over ok) (marked_there c h (terms_there l.choices));
        yes = (yes_by_outcome (of_choices l.choices) o).0 y;
      }

  line_listed : (l : Line) → LineOf (recorded c.table) c.text base columns c.request l → Memᴰ l lines
  line_listed l r =
      let d = over_attributes r.combination in
      let k = decided_as c.text (terms_there l.choices) c.request r.decided in
      let o : l.outcome ≡ outcome_of (of_choices l.choices) = k.0 ∙ ap outcome_of (sym d) in
      let n : l.policy ≡ policy_of (of_choices l.choices) = k.1 ∙ ap policy_of (sym d) in
      let m : l.mark ≡ of_marks l.choices = marked_as c.text (terms_there l.choices) c.request r.marked ∙ sym (marked_over r.combination) in
      (lines_yes of_choices of_marks ns l).1 (r.combination, line_is l.choices o n m, (yes_by_outcome (of_choices l.choices) o).1 r.yes)

  is_sheet : Sheet (recorded c.table) c.text base columns c.request lines
  is_sheet = record {
    lists = λ l. ((λ i. let y = (lines_yes of_choices of_marks ns l).0 i in listed_line l y.0 y.1 y.2), line_listed l);
    in_order = lines_ordered of_choices of_marks ns;
  }

  pub no_other : (others : List Line) → Sheet (recorded c.table) c.text base columns c.request others → others ≡ lines
  no_other others s =
      one_list others lines s.in_order is_sheet.in_order (λ l i. (is_sheet.lists l).1 ((s.lists l).0 i)) (λ l i. (s.lists l).1 ((is_sheet.lists l).0 i))

  -- ---- its pages

  pub decisions_are : decisions c.text c.table c.question c.request ≡ decided_at of_choices ns
  decisions_are = ap {B = ℕ → Decision} (λ ks row. of_choices (choices_at ks row)) (counts_asked_lem w)

  marks_are : row_marks c.text c.table c.question c.request ≡ marked_at of_marks ns
  marks_are = ap {B = ℕ → ℕ} (λ ks row. of_marks (choices_at ks row)) (counts_asked_lem w)

  -- what a call for a page of it writes
  page_there : (start : ℕ) (sheet : List ℕ) (at : ℕ) → (page_for (again c start sheet at)).refusal ≡ 0
      → PageWritten (decided_at of_choices ns) (marked_at of_marks ns) (product ns) start (drop at sheet)
      (record { written = (page_for (again c start sheet at)).written; next = (page_for (again c start sheet at)).next }) (drop at (sheet_for (again c start sheet at)))
  unfolding sheet_says
  page_there start sheet at e =
      let p : Page = record { written = (page_for (again c start sheet at)).written; next = (page_for (again c start sheet at)).next } in
      let after = drop at (sheet_for (again c start sheet at)) in
      subst (λ (rows : ℕ). PageWritten (decided_at of_choices ns) (marked_at of_marks ns) rows start (drop at sheet) p after) (rows_asked_lem w)
      (subst (λ (m : ℕ → ℕ). PageWritten (decided_at of_choices ns) m (rows_asked c.question) start (drop at sheet) p after) marks_are
      (subst (λ (d : ℕ → Decision). PageWritten d (row_marks c.text c.table c.question c.request) (rows_asked c.question) start (drop at sheet) p after) decisions_are
      (sheets_proofs.page_written c.text c.table c.question c.request start sheet at e)))

  within : (start : ℕ) (sheet : List ℕ) (at : ℕ) → (page_for (again c start sheet at)).refusal ≡ 0 → start ≤ product ns
  unfolding sheet_says
  within start sheet at e = rw (rows_asked_lem w) at (sheets_proofs.passed c.text c.table c.question c.request start sheet at e).1

  as_written : {start last : ℕ} {bytes : List ℕ} → Pages c start bytes last → Written (decided_at of_choices ns) (marked_at of_marks ns) (product ns) start bytes last
  as_written no_page = pages.nothing
  as_written (page {start = start} sheet at e more) = pages.page (within start sheet at e) (page_there start sheet at e) (as_written more)

  -- pages to a row that is there start at one
  starts_within : {start last : ℕ} {bytes : List ℕ} → last ≤ product ns → Pages c start bytes last → start ≤ product ns
  starts_within l no_page = l
  starts_within l (page {start = start} sheet at e more) = within start sheet at e

  joined_from : (start : ℕ) (bytes : List ℕ) → Pages c start bytes (product ns) → bytes ≡ lines_bytes ns (lines_from ns start lines)
  joined_from start bytes p =
      all_written (decided_at of_choices ns) (marked_at of_marks ns) (product ns) (as_written p) ∙ lines_bytes_lem of_choices of_marks ns start (starts_within (le_refl (product ns)) p)

  joined : (bytes : List ℕ) → Pages c 0 bytes (product ns) → bytes ≡ lines_bytes ns lines
  joined bytes p = joined_from 0 bytes p ∙ ap (lines_bytes ns) (lines_from_lem of_choices of_marks ns 0 zero-le)

  this_page : (page_for c).refusal ≡ 0 → PageOf c ns lines
  unfolding sheet_says
  this_page e =
      let room = room_in (drop c.at c.sheet) in
      let p = page_there c.start c.sheet c.at e in
      let k = page_lines of_choices of_marks ns c.start room (within c.start c.sheet c.at e) in
      let rows = page_rows (decided_at of_choices ns) (product ns) c.start room in
      let bytes = rows_bytes (decided_at of_choices ns) (marked_at of_marks ns) rows in
      let long : length bytes ≡ row_size * (page_for c).written = bytes_length (decided_at of_choices ns) (marked_at of_marks ns) rows ∙ ap (λ (n : ℕ). row_size * n) (sym p.written) in
      let others = sheets_proofs.others_there c.text c.table c.question c.request c.start c.sheet c.at e in
      record {
        written = p.written ∙ k.0;
        bytes = ap (take (row_size * (page_for c).written)) p.bytes ∙ take_at bytes (drop (length bytes) (drop c.at c.sheet)) (row_size * (page_for c).written) long ∙ k.1;
        next = p.next ∙ k.2;
        inside = sheets_proofs.fits_there c.text c.table c.question c.request c.start c.sheet c.at e;
        before_stays = others.0;
        behind_stays = others.1;
      }

pub the_sheet : (c : SheetCall) → (page_for c).refusal ≡ 0 → TheSheet c
the_sheet c e =
    let h = heard c e in
    let a = well_asked c h in
    let rows = rows_counted c.question a.base a.columns a.question_says in
    record {
      base = a.base;
      columns = a.columns;
      question_says = a.question_says;
      lines = lines c h a.question_says;
      is_sheet = is_sheet c h a.question_says;
      no_other = no_other c h a.question_says;
      joined = λ bytes p. joined c h a.question_says bytes (subst (λ (n : ℕ). Pages c 0 bytes n) rows p);
      joined_from = λ start bytes p. joined_from c h a.question_says start bytes (subst (λ (n : ℕ). Pages c start bytes n) rows p);
      this_page = this_page c h a.question_says e;
    }

pub decided_alike : (c : DecideCall) (contents base : Contents) (columns : List Column) (choices : List ℕ) → (decision_for c).refusal ≡ 0 → BagBytes c.bag contents
    → Shows contents base columns choices
    → OutcomeIs c.text (terms_of (recorded c.table) base columns choices) c.request (decision_for c).outcome (decision_for c).policy
    × MarkIs c.text (terms_of (recorded c.table) base columns choices) c.request (decision_for c).mark
decided_alike c contents base columns choices e w shows =
    let same : look (as_bag contents) ≡ attributes base columns choices = fun_ext (λ root. fun_ext (shows root)) in
    subst (λ (view : View). OutcomeIs c.text (under (recorded c.table) view) c.request (decision_for c).outcome (decision_for c).policy
    × MarkIs c.text (under (recorded c.table) view) c.request (decision_for c).mark) same
    (outcome_rightly c contents e w, mark_exactly c contents e w)

-- ---- to the last page

-- the rows that are told are those that are asked for
rows_told : (c : SheetCall) → Wellasked c → rows_say c.question ≡ rows_asked c.question
rows_told c a = rows_counted c.question a.base a.columns a.question_says ∙ sym (rows_asked_lem a.question_says)

pub goes_on : (c : SheetCall) → (page_for c).refusal ≡ 0
    → (c.start < rows_say c.question → c.start < (page_for c).next) × ((page_for c).next ≤ rows_say c.question)
unfolding sheet_says
goes_on c e =
    let g = sheets_proofs.gets_on c.text c.table c.question c.request c.start c.sheet c.at e in
    rw (rows_told c (well_asked c (heard c e))) g

pub none_refused : (c : SheetCall) (row : ℕ) → (page_for c).refusal ≡ 0 → row ≤ rows_say c.question → (page_for (again c row c.sheet c.at)).refusal ≡ 0
none_refused c row e l =
    let h = heard c e in
    let a = well_asked c h in
    (sheet_exactly (again c row c.sheet c.at) 0).1
    (starts_at c row
    (record {
      room = a.room;
      base = a.base;
      columns = a.columns;
      question_says = a.question_says;
      within = rw (rows_counted c.question a.base a.columns a.question_says) at l;
    })
    h)

-- so many rows are left at most
pages_left : (c : SheetCall) (left start : ℕ) → rows_say c.question ≤ start + left → start ≤ rows_say c.question
    → (page_for (again c start c.sheet c.at)).refusal ≡ 0 → (bytes : List ℕ) × Pages c start bytes (rows_say c.question)
pages_left c zero start enough within e =
    let last : start ≡ rows_say c.question = omega arith in
    ([], rw (← last) no_page)
pages_left c (suc left) start enough within e = elim (dec_le (rows_say c.question) start) [
  | yes l ↦ let last : start ≡ rows_say c.question = omega arith in ([], rw (← last) no_page)
  | no l ↦
      let here = again c start c.sheet c.at in
      let next = (page_for here).next in
      let on = goes_on here e in
      let further : start < next = on.0 (omega arith) in
      let more = pages_left c left next (omega arith) on.1 (none_refused here next e on.1) in
      (written_by here ++ more.0, page c.sheet c.at e more.1)
]

pub to_the_last : (c : SheetCall) → (page_for c).refusal ≡ 0 → (bytes : List ℕ) × Pages c c.start bytes (rows_say c.question)
to_the_last c e =
    let a = well_asked c (heard c e) in
    let l : c.start ≤ rows_say c.question = rw (rows_counted c.question a.base a.columns a.question_says) a.within in
    pages_left c (rows_say c.question) c.start (omega arith) l e

-- ---- what a text says

pub words_list : (text text' table table' question : List ℕ) (q : Request) (start : ℕ) (sheet : List ℕ) (at : ℕ) → SayAlike text text'
    → recorded table ≡ recorded table' → Begun text table → Begun text' table'
    → (sheet_says text table question q start sheet at ≡ sheet_says text' table' question q start sheet at)
    × (sheet_leaves text table question q start sheet at ≡ sheet_leaves text' table' question q start sheet at)
unfolding sheet_says ListedAlike
words_list text text' table table' question q start sheet at a v b b' =
    let k = sheets_proofs.listed_alike text text' table table' question q start sheet at (alike_words a) v b b' in
    (rw k.0, k.1)
