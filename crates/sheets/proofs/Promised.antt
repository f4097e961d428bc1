-- What is promised of the sheet holds. Assumes nothing.
use Rattle.std.specs.Prelude.{Some, Err, Ok}
use mathlib.Core.Path.{◌≡◌, refl, sym, ap, ◌∙◌, subst}
use mathlib.Core.Bool.{Bool, true, false, cond}
use mathlib.Core.List.{List, ◌++◌}
use Prim.Native.Nat.{ℕ, zero, suc, ◌+◌, ◌*◌, ◌≤◌, ◌<◌}
use native.Mathlib.Omega.{arith}
use borrow.Author.Tests.{leb-true, leb-false, le-leb, lt-leb}
use lib.Dec.{leb}
use lib.ListN.{length, take, drop, length-drop, length-take}
use lib.Seq.{take_at, drop_at, drop-drop, length-take-le}
use Rattle.compiling.specs.Outcome.{begins_of}
use Rattle.grammar.specs.Policies.{PolicyOf}
use Rattle.grammar.specs.declared.Version.{Version}
use Rattle.bags.specs.Forms.{Contents}
use Rattle.bags.specs.Sections.{sections_of}
use Rattle.questions.specs.Questions.{is_question, product, rows_of}
use Rattle.questions.specs.Forms.{Column, QuestionBytes}
use Rattle.questions.proofs.Exactly.{question_stands, question_exactly, not_a_question}
use Rattle.views.specs.Meaning.{View, as_bag, look, row_bag}
use Rattle.views.specs.Rows.{picked_all}
use Rattle.placing.specs.Said.{Word}
use Rattle.meaning.specs.Targets.{Request, is_system, is_subject, is_action, is_resource}
use Rattle.meaning.specs.Decisions.{under, decision_of, decided_mark}
use Rattle.meaning.specs.declared.Decision.{Decision}
use Rattle.deciding.specs.Promise.{Wellformed, RequestRefused, bad_subject, bad_action, bad_resource}
use Rattle.deciding.proofs.Promised.{begun, begins_then, not_begun, begins_not}
use Rattle.pages.specs.Rows.{counts_of, Combination}
use Rattle.pages.specs.Lines.{counts}
use Rattle.pages.specs.Listing.{listed, page_rows, next_row, row_size, rows_bytes, room_in, PageWritten}
use Rattle.pages.proofs.Progress.{bytes_length}
use Rattle.pages.proofs.Listed.{next_within, next_past}
use Rattle.pages.proofs.AskedForms.{counts_are, combination_shows}
use Rattle.sheets.specs.Sheets.{page_of, counts_in, sections_in, divided_as, decision_by, mark_there, decisions, row_marks, rows_asked, request_refusal, refusal_of, unless, written_over, sheet_answer, sheet_after, SheetSaid, sheet_said, said_to}
use Rattle.sheets.specs.Promise.{SheetCall, Wellasked, SheetRefused, no_room, no_question, above, never_the_system, bad_request, not_compiled, none_wrong, SheetRefusedExactly, ListedAlike}

-- ---- the question's counts, rows and attributes, by what its bytes say

-- how many candidates each column has, by places
abbrev pub counts_asked : List ℕ → List ℕ
counts_asked s = counts_in s (sections_in s)

module _ {s : List ℕ} {base : Contents} {cs : List Column} (w : QuestionBytes s base cs) where
  divided : sections_of s ≡ Some (question_stands w).places
  divided = (question_stands w).read

  sections_are : sections_in s ≡ (question_stands w).places
  unfolding divided_as
  sections_are = rw divided

  pub counts_asked_lem : counts_asked s ≡ counts cs
  counts_asked_lem = rw sections_are (counts_are (question_stands w).places divided w)

  -- there are as many rows as the counts have combinations
  pub rows_asked_lem : rows_asked s ≡ product (counts cs)
  unfolding rows_of counts_of
  rows_asked_lem = ap product counts_asked_lem

  -- a combination is decided over the base with each column's attribute set to its choice, or removed
  pub decision_asked : {choices : List ℕ} → Combination (counts cs) choices → (version : Version) (q : Request) (ps : List (PolicyOf Word))
      → decision_by version s (sections_in s) q ps choices ≡ decision_of (under version (look (row_bag (as_bag base) (picked_all cs choices)))) q ps
  unfolding decision_by
  decision_asked ok version q ps = rw sections_are (ap (λ (view : View). decision_of (under version view) q ps) (combination_shows (question_stands w).places divided w ok))

  -- and marked
  pub mark_asked : {choices : List ℕ} → Combination (counts cs) choices → (version : Version) (q : Request) (ps : List (PolicyOf Word))
      → mark_there version s (sections_in s) q ps choices ≡ decided_mark (under version (look (row_bag (as_bag base) (picked_all cs choices)))) q ps
  unfolding mark_there
  mark_asked ok version q ps = rw sections_are (ap (λ (view : View). decided_mark (under version view) q ps) (combination_shows (question_stands w).places divided w ok))

-- ---- a call that lists

none_refused : (n w o : ℕ) → (sheet_said (unless n (page_of w o) Err)).refusal ≡ 0 → n ≡ 0
unfolding unless sheet_said
none_refused zero w o e = refl
none_refused (suc n) w o e = e

tests_pass : (a b c : Bool) (n : ℕ) → cond a (cond b (cond c n 26) 24) 25 ≡ 0 → (a ≡ true) × (b ≡ true) × (c ≡ true)
tests_pass true true true n e = (refl, refl, refl)
tests_pass true true false n e = absurd (let z : ◌≡◌ {A = ℕ} 26 0 = e in omega arith)
tests_pass true false c n e = absurd (let z : ◌≡◌ {A = ℕ} 24 0 = e in omega arith)
tests_pass false b c n e = absurd (let z : ◌≡◌ {A = ℕ} 25 0 = e in omega arith)

module _ (text table s : List ℕ) (q : Request) (start : ℕ) (sheet : List ℕ) (at : ℕ) (e : (said_to text table s q start sheet at).refusal ≡ 0) where
  abbrev d : ℕ → Decision
  d = decisions text table s q

  abbrev m : ℕ → ℕ
  m = row_marks text table s q

  abbrev room : ℕ
  room = room_in (drop at sheet)

  abbrev said : SheetSaid
  said = said_to text table s q start sheet at

  accepted : refusal_of text table s q start sheet at ≡ 0
  unfolding sheet_answer
  accepted = none_refused (refusal_of text table s q start sheet at) (length (page_rows d (rows_asked s) start room)) (next_row d (rows_asked s) start room) e

  pub passed : (at + row_size ≤ length sheet) × (start ≤ rows_asked s)
  unfolding refusal_of
  passed =
      let t = tests_pass (leb (at + row_size) (length sheet)) (is_question s) (leb start (rows_asked s)) (request_refusal text table q) accepted in
      (leb-true (at + row_size) (length sheet) t.0, leb-true start (rows_asked s) t.2)

  written_is : length (page_rows d (rows_asked s) start room) ≡ said.written
  unfolding sheet_answer unless sheet_said
  written_is = rw accepted

  next_is : next_row d (rows_asked s) start room ≡ said.next
  unfolding sheet_answer unless sheet_said
  next_is = rw accepted

  after_is : sheet_after text table s q start sheet at ≡ take at sheet ++ written_over d m (rows_asked s) start (drop at sheet)
  unfolding sheet_after unless
  after_is = rw accepted

  front : length (take at sheet) ≡ at
  front = length-take-le at sheet (omega (arith, passed.0))

  part_is : drop at (sheet_after text table s q start sheet at) ≡ written_over d m (rows_asked s) start (drop at sheet)
  part_is = rw after_is (drop_at (take at sheet) (written_over d m (rows_asked s) start (drop at sheet)) at front)

  -- the page on the part
  pub page_written : PageWritten (decisions text table s q) (row_marks text table s q) (rows_asked s) start (drop at sheet)
      (record { written = (said_to text table s q start sheet at).written; next = (said_to text table s q start sheet at).next }) (drop at (sheet_after text table s q start sheet at))
  page_written = record { written = sym written_is; next = sym next_is; bytes = part_is }

  pub gets_on : (start < rows_asked s → start < said.next) × (said.next ≤ rows_asked s)
  gets_on =
      let some : 1 ≤ room = omega (arith, passed.0, length-drop at sheet) in
      rw (← next_is) (λ h. next_past d (rows_asked s) start room h some, next_within d (rows_asked s) start room passed.1)

  pub fits_there : at + row_size * said.written ≤ length sheet
  unfolding page_rows
  fits_there = omega (arith, written_is, length-take room (listed d (rows_asked s) start), passed.0, length-drop at sheet)

  bytes_long : length (rows_bytes d m (page_rows d (rows_asked s) start room)) ≡ row_size * said.written
  bytes_long = bytes_length d m (page_rows d (rows_asked s) start room) ∙ ap (λ (n : ℕ). row_size * n) written_is

  pub others_there : (take at (sheet_after text table s q start sheet at) ≡ take at sheet)
      × (drop (at + row_size * said.written) (sheet_after text table s q start sheet at) ≡ drop (at + row_size * said.written) sheet)
  others_there =
      let bytes = rows_bytes d m (page_rows d (rows_asked s) start room) in (
        rw after_is (take_at (take at sheet) (written_over d m (rows_asked s) start (drop at sheet)) at front),
        sym (drop-drop (row_size * said.written) at (sheet_after text table s q start sheet at)) ∙ ap (drop (row_size * said.written)) part_is
            ∙ drop_at bytes (drop (length bytes) (drop at sheet)) (row_size * said.written) bytes_long ∙ ap (λ (n : ℕ). drop n (drop at sheet)) bytes_long ∙ drop-drop (row_size * said.written) at sheet,
      )

-- ---- the refusals

-- with a refusal
refused_as_told : {A : Type 0} (n w o : ℕ) (a b : A) → ((sheet_said (unless n (page_of w o) Err)).refusal ≡ 0 → ⊥)
    → (unless n a (λ _. b) ≡ b) × ((sheet_said (unless n (page_of w o) Err)).written ≡ 0) × ((sheet_said (unless n (page_of w o) Err)).next ≡ 0)
unfolding unless sheet_said
refused_as_told zero w o a b h = absurd (h refl)
refused_as_told (suc n) w o a b h = (refl, refl, refl)

-- a refusal changes nothing, and has zeros beside its number
pub nothing_changed : (text table s : List ℕ) (q : Request) (start : ℕ) (sheet : List ℕ) (at : ℕ) → ((said_to text table s q start sheet at).refusal ≡ 0 → ⊥)
    → (sheet_after text table s q start sheet at ≡ sheet) × ((said_to text table s q start sheet at).written ≡ 0) × ((said_to text table s q start sheet at).next ≡ 0)
unfolding sheet_answer sheet_after
nothing_changed text table s q start sheet at h = refused_as_told (refusal_of text table s q start sheet at) _ _ _ sheet h

number_is : (n w o : ℕ) → (sheet_said (unless n (page_of w o) Err)).refusal ≡ n
unfolding sheet_said unless
number_is zero w o = refl
number_is (suc n) w o = refl

module _ (text table s : List ℕ) (q : Request) (start : ℕ) (sheet : List ℕ) (at : ℕ) where
  abbrev call : SheetCall
  call = record { text = text; table = table; question = s; request = q; start = start; sheet = sheet; at = at }

  begun_or_not : Wellasked call → Wellformed q → (b : Bool) → begins_of text table ≡ b → SheetRefused call (cond b 0 20)
  begun_or_not ask form true e = none_wrong ask form (begun text table e)
  begun_or_not ask form false e = not_compiled ask form (begins_not text table e)

  asked_well : Wellasked call → SheetRefused call (request_refusal text table q)
  unfolding request_refusal
  asked_well ask = go (is_system q.subject) refl (is_subject q.subject) refl (is_action q.action) refl (is_resource q.resource) refl
    where
      go : (a : Bool) → is_system q.subject ≡ a → (b : Bool) → is_subject q.subject ≡ b → (c : Bool) → is_action q.action ≡ c → (d : Bool) → is_resource q.resource ≡ d
          → SheetRefused call (cond a 0 (cond b (cond c (cond d (cond (begins_of text table) 0 20) 23) 22) 21))
      go true e b f c g d h = never_the_system ask e
      go false e false f c g d h = bad_request ask (bad_subject e f)
      go false e true f false g d h = bad_request ask (bad_action e f g)
      go false e true f true g false h = bad_request ask (bad_resource e f g h)
      go false e true f true g true h = begun_or_not ask (record { other = e; subject_is = f; action_is = g; resource_is = h }) (begins_of text table) refl

  refused_as : SheetRefused call (refusal_of text table s q start sheet at)
  unfolding refusal_of
  refused_as = go (leb (at + row_size) (length sheet)) refl (is_question s) refl (leb start (rows_asked s)) refl
    where
      go : (a : Bool) → leb (at + row_size) (length sheet) ≡ a → (b : Bool) → is_question s ≡ b → (c : Bool) → leb start (rows_asked s) ≡ c
          → SheetRefused call (cond a (cond b (cond c (request_refusal text table q) 26) 24) 25)
      go false e b f c g = no_room (leb-false _ _ e)
      go true e false f c g = no_question (leb-true _ _ e) ((not_a_question s).0 f)
      go true e true f false g = let w = (question_exactly s).0 f in above (leb-true _ _ e) w.1.1 (rw (rows_asked_lem w.1.1) at (leb-false start (rows_asked s) g))
      go true e true f true g =
          let w = (question_exactly s).0 f in
          asked_well (record {
            room = leb-true _ _ e;
            base = w.0;
            columns = w.1.0;
            question_says = w.1.1;
            within = rw (rows_asked_lem w.1.1) at (leb-true start (rows_asked s) g);
          })

  reaches : Wellasked call → refusal_of text table s q start sheet at ≡ request_refusal text table q
  unfolding refusal_of
  reaches w =
      let l : start ≤ rows_asked s = rw (rows_asked_lem w.question_says) w.within in
      rw (le-leb (at + row_size) (length sheet) w.room, (question_exactly s).1 (w.base, (w.columns, w.question_says)), le-leb start (rows_asked s) l)

  request_told : {n : ℕ} → RequestRefused q n → request_refusal text table q ≡ n
  unfolding request_refusal
  request_told (bad_subject e f) = rw (e, f)
  request_told (bad_action e f g) = rw (e, f, g)
  request_told (bad_resource e f g h) = rw (e, f, g, h)

  told : {n : ℕ} → SheetRefused call n → refusal_of text table s q start sheet at ≡ n
  unfolding refusal_of request_refusal
  told (no_room h) = rw (lt-leb (at + row_size) (length sheet) h)
  told (no_question h e) = rw (le-leb (at + row_size) (length sheet) h, (not_a_question s).1 e)
  told (above {base = base} {columns = columns} h w l) =
      let k : rows_asked s < start = rw (rows_asked_lem w) l in
      rw (le-leb (at + row_size) (length sheet) h, (question_exactly s).1 (base, (columns, w)), lt-leb start (rows_asked s) k)
  told (never_the_system w e) = rw (reaches w, e)
  told (bad_request w r) = reaches w ∙ request_told r
  told (not_compiled w f n) = rw (reaches w, f.other, f.subject_is, f.action_is, f.resource_is, not_begun text table n)
  told (none_wrong w f b) = rw (reaches w, f.other, f.subject_is, f.action_is, f.resource_is, begins_then text table b)

  refusal_said : (said_to text table s q start sheet at).refusal ≡ refusal_of text table s q start sheet at
  unfolding sheet_answer
  refusal_said = number_is (refusal_of text table s q start sheet at) _ _

pub sheet_refused_exactly : SheetRefusedExactly
unfolding SheetRefusedExactly
sheet_refused_exactly c number =
    let said = refusal_said c.text c.table c.question c.request c.start c.sheet c.at in (
      λ e. subst (SheetRefused c) (sym said ∙ e) (refused_as c.text c.table c.question c.request c.start c.sheet c.at),
      λ r. said ∙ told c.text c.table c.question c.request c.start c.sheet c.at r,
    )

-- ---- what a text says

pub listed_alike : ListedAlike
unfolding ListedAlike sheet_answer sheet_after refusal_of request_refusal
listed_alike text text' table table' s q start sheet at same version b b' =
    (rw (begins_then text table b, begins_then text' table' b', same, version), rw (begins_then text table b, begins_then text' table' b', same, version))
