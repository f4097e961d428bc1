-- The cases of a call for a page, test by test in document 01's order. Assumes nothing.
use Rattle.compiling.specs.Outcome.{table_size}
use Rattle.std.specs.Prelude.{Some, Err, Ok, Result, None}
use mathlib.Core.Path.{◌≡◌, sym, ◌∙◌}
use mathlib.Core.Bool.{true, false, cond}
use mathlib.Core.List.{List, ◌++◌}
use Prim.Native.Nat.{ℕ, zero, suc, ◌+◌, ◌-◌, ◌≤◌, ◌<◌}
use borrow.Author.Tests.{le-leb, lt-leb}
use borrow.Rule.Slice.PartMut.{put_mid}
use lib.ListN.{length, take, drop, take-append-drop}
use Rattle.slices.proofs.Parts.{tail_lent, tail_back}
use Rattle.grammar.specs.Policies.{PolicyOf}
use Rattle.placing.specs.Said.{Word, words_of}
use Rattle.compiling.specs.Outcome.{held_of}
use Rattle.compiling.proofs.Outcomes.{right_begins, wrong_begins}
use Rattle.bags.specs.Sections.{sections_of}
use Rattle.bags.specs.declared.sections.Sections.{Sections}
use Rattle.questions.specs.Questions.{is_question}
use Rattle.stored.specs.ReadBack.{policies_at}
use Rattle.meaning.specs.Targets.{Request, is_system, is_subject, is_action, is_resource}
use Rattle.meaning.specs.Decisions.{decision_of, decided_mark}
use Rattle.meaning.specs.declared.Decision.{Decision}
use Rattle.deciding.specs.Answers.{words_in}
use Rattle.deciding.proofs.HeldLaws.{held_says}
use Rattle.pages.specs.Listing.{row_size, PageWritten}
use Rattle.pages.specs.declared.Page.{Page}
use Rattle.table.specs.Recorded.{recorded}
use Rattle.sheets.specs.Sheets.{rows_in, rows_asked, decision_by, decision_at, mark_there, row_mark, divided_as, sections_in, request_refusal, refusal_of, unless, PartListed, sheet_answer, sheet_after, SheetListed}

-- ---- a page for a question

module _ (text table s : List ℕ) (p : Sections) (q : Request) (start : ℕ) (part : List ℕ) where
  refused_by : (n : ℕ) → request_refusal text table q ≡ suc n → PartListed text table s p q start part (Err (suc n)) part
  unfolding unless
  refused_by n e = record { answered = rw e; bytes = rw e }

  -- the decisions and marks by any policies that decide and mark alike
  listed_by : request_refusal text table q ≡ 0 → (ps : List (PolicyOf Word)) → ((row : ℕ) → decision_at (recorded table) s p q ps row ≡ decision_at (recorded table) s p q (words_in text) row)
      → ((row : ℕ) → row_mark (recorded table) s p q ps row ≡ row_mark (recorded table) s p q (words_in text) row)
      → {all : ℕ} → all ≡ rows_in s p → {page : Page} {after : List ℕ}
      → PageWritten (decision_at (recorded table) s p q ps) (row_mark (recorded table) s p q ps) all start part page after → PartListed text table s p q start part (Ok page) after
  unfolding unless
  listed_by e ps same marks a {page} {after} w =
      let alike : ◌≡◌ {A = ℕ → Decision} (decision_at (recorded table) s p q ps) (decision_at (recorded table) s p q (words_in text)) = λ i row. same row i in
      let marked : ◌≡◌ {A = ℕ → ℕ} (row_mark (recorded table) s p q ps) (row_mark (recorded table) s p q (words_in text)) = λ i row. marks row i in
      let v : PageWritten (decision_at (recorded table) s p q (words_in text)) (row_mark (recorded table) s p q (words_in text)) (rows_in s p) start part page after = rw (alike, marked, a) at w in
      record { answered = rw e (λ i. Ok (record { written = v.written i; next = v.next i })); bytes = rw e v.bytes }

  pub system_listed : is_system q.subject ≡ true → (ps : List (PolicyOf Word)) → {all : ℕ} → all ≡ rows_in s p → {page : Page} {after : List ℕ}
      → PageWritten (decision_at (recorded table) s p q ps) (row_mark (recorded table) s p q ps) all start part page after
      → PartListed text table s p q start part (Ok page) after
  unfolding request_refusal decision_by mark_there decision_of decided_mark
  system_listed e ps = listed_by (rw e) ps (λ row. rw e) (λ row. rw e)

  module _ (other : is_system q.subject ≡ false) where
    pub refused_21 : is_subject q.subject ≡ false → PartListed text table s p q start part (Err 21) part
    unfolding request_refusal
    refused_21 e = refused_by 20 (rw (other, e))

    module _ (subject : is_subject q.subject ≡ true) where
      pub refused_22 : is_action q.action ≡ false → PartListed text table s p q start part (Err 22) part
      unfolding request_refusal
      refused_22 e = refused_by 21 (rw (other, subject, e))

      module _ (action : is_action q.action ≡ true) where
        pub refused_23 : is_resource q.resource ≡ false → PartListed text table s p q start part (Err 23) part
        unfolding request_refusal
        refused_23 e = refused_by 22 (rw (other, subject, action, e))

        module _ (resource : is_resource q.resource ≡ true) where
          pub refused_20 : held_of text table ≡ None → PartListed text table s p q start part (Err 20) part
          unfolding request_refusal
          refused_20 e = refused_by 19 (rw (other, subject, action, resource, ← wrong_begins text table (sym e)))

          pub held_listed : {policies entries : ℕ} → held_of text table ≡ Some (table_size policies entries) → {all : ℕ} → all ≡ rows_in s p
              → {page : Page} {after : List ℕ}
              → PageWritten (decision_at (recorded table) s p q (words_of text (policies_at table entries))) (row_mark (recorded table) s p q (words_of text (policies_at table entries))) all start part page after
              → PartListed text table s p q start part (Ok page) after
          unfolding request_refusal
          held_listed {policies} {entries} e =
              listed_by (rw (other, subject, action, resource, ← right_begins text table (sym e))) (words_of text (policies_at table entries))
              (λ row. rw (held_says text table policies entries e)) (λ row. rw (held_says text table policies entries e))

-- ---- the call

-- the sheet with its part back
joined_back : (at : ℕ) (sheet : List ℕ) (n : ℕ) (written after : List ℕ) → after ≡ unless n written (λ _. drop at sheet)
    → take at sheet ++ after ≡ unless n (take at sheet ++ written) (λ _. sheet)
unfolding unless
joined_back at sheet zero written after e = rw e
joined_back at sheet (suc n) written after e = rw e (take-append-drop at sheet)

module _ (text table s : List ℕ) (q : Request) (start : ℕ) (sheet : List ℕ) (at : ℕ) where
  refused_with : (n : ℕ) → refusal_of text table s q start sheet at ≡ suc n → SheetListed text table s q start sheet at (Err (suc n)) sheet
  unfolding unless sheet_answer sheet_after
  refused_with n e = record { answered = rw e; sheet = rw e }

  pub refused_25 : length sheet < at + row_size → SheetListed text table s q start sheet at (Err 25) sheet
  unfolding refusal_of
  refused_25 h = refused_with 24 (rw (lt-leb (at + row_size) (length sheet) h))

  module _ (h : at + row_size ≤ length sheet) where
    pub refused_24 : is_question s ≡ false → SheetListed text table s q start sheet at (Err 24) sheet
    unfolding refusal_of
    refused_24 e = refused_with 23 (rw (le-leb (at + row_size) (length sheet) h, e))

    module _ (form : is_question s ≡ true) (p : Sections) (divided : sections_of s ≡ Some p) where
      sections_are : sections_in s ≡ p
      unfolding divided_as
      sections_are = rw divided

      pub refused_26 : rows_in s p < start → SheetListed text table s q start sheet at (Err 26) sheet
      unfolding refusal_of
      refused_26 g = refused_with 25 (rw (le-leb (at + row_size) (length sheet) h, form, sections_are, lt-leb start (rows_in s p) g))

      passes : start ≤ rows_in s p → refusal_of text table s q start sheet at ≡ request_refusal text table q
      unfolding refusal_of
      passes g = rw (le-leb (at + row_size) (length sheet) h, form, sections_are, le-leb start (rows_in s p) g)

      -- what is said of the part that is lent
      pub listed_there : start ≤ rows_in s p → {answer : Result Page ℕ} {after : List ℕ}
          → PartListed text table s p q start (take (length sheet - at) (drop at sheet)) answer after
          → SheetListed text table s q start sheet at answer (put_mid at (length sheet - at) sheet after)
      unfolding sheet_answer sheet_after
      listed_there g {answer} {after} w =
          let v : PartListed text table s (sections_in s) q start (drop at sheet) answer after = rw (sections_are, ← tail_lent at sheet) w in
          record { answered = rw (passes g) v.answered; sheet = rw (tail_back at sheet after, passes g) (joined_back at sheet (request_refusal text table q) _ after v.bytes) }

-- ---- the number of rows

pub rows_counted : (s : List ℕ) (p : Sections) → is_question s ≡ true → sections_of s ≡ Some p → {r : ℕ} → r ≡ rows_in s p → r ≡ cond (is_question s) (rows_asked s) 0
unfolding divided_as
rows_counted s p form divided e = rw (form, divided) e

pub none_counted : (s : List ℕ) → is_question s ≡ false → 0 ≡ cond (is_question s) (rows_asked s) 0
none_counted s form = rw form
