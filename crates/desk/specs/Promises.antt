-- The desk's promises on one page: the three demands, the versions of the rules, the tally, what a look-up finds, when each refusal is given, locks, and that
-- every call has one result.
-- proofs/Promised.antt proves each record. Definitions only.
-- `compile_says`, `decision_for`, `lookup_says`, `page_for` and `refusal_for` are what the calls answer, `compile_leaves`, `sheet_for` and `counts_for` what they leave
-- in the table, the sheet and the counts (Answers.antt; src/lib.rt has the contracts). That every call ends and reads nothing outside what it is lent is what the
-- prover shows of every function; no call has a `requires`, so this holds for arbitrary bytes.
use Rattle.std.specs.Prelude.{◌≡◌, ◌⊎◌, ◌↔◌, Bool, true, false, ℕ, suc, ◌+◌, ◌-◌, ◌*◌, ◌^◌, ◌≤◌, ◌<◌, length, get_or, take, drop, Some}
use mathlib.Core.List.{List, [], ◌∷◌, ◌++◌, map, Memᴰ}
use Rattle.std.specs.Borrow.{Bor}
use Rattle.slices.specs.Parts.{IsPart, part}
use Rattle.tokens.specs.Sizes.{most_text_bytes, most_policies}
use Rattle.numbers.specs.Bits.{number_at}
use Rattle.grammar.specs.Policies.{Policy, PolicyOf, any, pinned, one_of, text}
use Rattle.grammar.specs.Grammar.{SaysPolicies}
use Rattle.grammar.specs.Versions.{version_number}
use Rattle.grammar.specs.declared.Version.{Version}
use Rattle.grammar.specs.declared.Version.TheVariants.{First, Second}
use Rattle.slices.specs.Parts.{Begins}
use Rattle.table.specs.Recorded.{recorded}
use Rattle.compiling.specs.Outcome.{room_for, compiled_bytes, spot, nowhere}
use Rattle.compiling_promise.specs.Promise.{RefusedThere, Lengths, NoVersion, Begun}
use Rattle.compiling.specs.declared.Spot.{Spot}
use Rattle.bags.specs.Forms.{Contents, BagBytes, NoBag}
use Rattle.bags.specs.Reading.{byte}
use Rattle.bags.specs.Sections.{path_at, kind_at, sections_of}
use Rattle.bags.specs.declared.sections.Sections.{Sections}
use Rattle.questions.specs.Forms.{Column, QuestionBytes, NoQuestion}
use Rattle.questions.specs.Questions.{product}
use Rattle.questions.specs.Sizes.{most_rows}
use Rattle.views.specs.Meaning as views
use Rattle.views.specs.Meaning.{View, Datum, as_bag, look, row_bag}
use Rattle.views.specs.Values.{string_at, list_at}
use Rattle.views.specs.Rows.{picked_all}
use Rattle.placing.specs.Said.{Word, words_of}
use Rattle.meaning.specs.Targets.{Request, is_system}
use Rattle.meaning.specs.Decisions.{Terms, under, satisfied, Numbered, SomeSatisfied, LowestSatisfied, BitSet, SatisfiedAt}
use Rattle.meaning.specs.Versions.{MissingExactly, SecondExactly, SatisfiedSecond}
use Rattle.meaning.specs.Decisions.{outcome_of, policy_of, effects_of, decided_by}
use Rattle.deciding.specs.Promise.{DecideCall, DecideRefused}
use Rattle.lookups.specs.Lookups.{lookup_of, start_of, length_of, EntryOf}
use Rattle.lookups.specs.Values.{nought, unit}
use Rattle.pages.specs.Rows.{Combination, row_of, choices_at}
use Rattle.pages.specs.Listing.{row_size, room_in, listed_bytes}
use Rattle.pages.specs.Lines.{Line, Sooner, InOrder, counts, lines_bytes, little_endian, lines_from, first_row}
use Rattle.pages.specs.Tally.{SoMany, sum_of, from_on, group_size}
use Rattle.sheets.specs.Promise.{SheetCall, SheetRefused}
use Rattle.tallies.specs.Tallies.{group_count}
use Rattle.tallies.specs.Promise.{TallyCall, Lent, TallyRefused}
use Rattle.permits.specs.Permits.{Test}
use Rattle.permits.specs.Meaning.{LockHolds}
use Rattle.locks.specs.Forms.{NoLock}
use Rattle.locks.specs.Promise as locks
use Rattle.locks.specs.Promise.{LockCall, permit_for}
use Rattle.desk.specs.Answers.{lock_says, lock_leaves, lock_for, lock_room}
use Rattle.desk.specs.Answers.{spot_said, compile_says, compile_leaves, says_under, leaves_under, begins_says, decide_says, decision_for, lookup_says, string_says}
use Rattle.desk.specs.Answers.{sheet_says, sheet_leaves, page_for, sheet_for, tally_says, tally_leaves, refusal_for, counts_for, rows_say}
use Rattle.desk.specs.declared.DeskCompiled.{DeskCompiled}
use Rattle.desk.specs.declared.DeskDecision.{DeskDecision}
use Rattle.desk.specs.declared.DeskValue.{DeskValue}
use Rattle.desk.specs.declared.DeskString.{DeskString}
use Rattle.desk.specs.declared.DeskPage.{DeskPage}
use Rattle.desk.specs.declared.DeskLock.{DeskLock}

-- ---- Demand 1. Every public call gives either its answer or one refusal from document 01's list. A refused rule text also gets line and column, and by
-- document 02 how many bytes its token has. A refused call changes no table and no sheet.

pub record DemandOne : Type 0 where
  -- the refusals that each call can give; 0 is none
  pub compile_refusals : (number : ℕ) (text table : List ℕ) → ((compile_says number text table).refusal ≤ 17) ⊎ ((compile_says number text table).refusal ≡ 30)
  pub decide_refusals : (c : DecideCall) → Memᴰ (decision_for c).refusal (0 ∷ 20 ∷ 21 ∷ 22 ∷ 23 ∷ 24 ∷ [])
  pub lookup_refusals : (bag : List ℕ) (root : ℕ) (path : List ℕ) → Memᴰ (lookup_says bag root path).refusal (0 ∷ 24 ∷ [])
  pub sheet_refusals : (c : SheetCall) → Memᴰ (page_for c).refusal (0 ∷ 20 ∷ 21 ∷ 22 ∷ 23 ∷ 24 ∷ 25 ∷ 26 ∷ [])
  pub tally_refusals : (c : TallyCall) → Memᴰ (refusal_for c) (0 ∷ 20 ∷ 21 ∷ 22 ∷ 23 ∷ 24 ∷ 27 ∷ [])
  -- refusals 3 to 17 stand at the one token before which nothing is broken and at which a rule is, with its line, column and length; 1, 2 and 30 have the
  -- place 0, 0 and the length 0
  pub placed : (number : ℕ) (text table : List ℕ) → 2 < (compile_says number text table).refusal → (compile_says number text table).refusal ≤ 17
      → RefusedThere text (compile_says number text table).refusal (spot_said (compile_says number text table))
  pub lengths : (text : List ℕ) (number : ℕ) (at : Spot) (r : RefusedThere text number at) → Lengths text number at.length r.rest
  pub no_place : (number : ℕ) (text table : List ℕ)
      → ((compile_says number text table).refusal ≤ 2) ⊎ ((compile_says number text table).refusal ≡ 30) → spot_said (compile_says number text table) ≡ nowhere
  -- a refused call changes nothing
  pub table_stays : (number : ℕ) (text table : List ℕ) → ((compile_says number text table).refusal ≡ 0 → ⊥) → compile_leaves number text table ≡ table
  pub sheet_stays : (c : SheetCall) → ((page_for c).refusal ≡ 0 → ⊥) → sheet_for c ≡ c.sheet
  pub tally_stays : (c : TallyCall) → (refusal_for c ≡ 0 → ⊥) → counts_for c ≡ c.counts
  -- the same of locks (document 02, request 2)
  pub lock_refusals : (c : LockCall) → Memᴰ (lock_for c).refusal (0 ∷ 28 ∷ 29 ∷ [])
  pub lock_stays : (c : LockCall) → ((lock_for c).refusal ≡ 0 → ⊥) → lock_room c ≡ c.room

-- ---- Demand 2. A rule text lent table enough is accepted exactly when it belongs to the drafts' grammar under document 01's limits and rulings.

-- the text has at most 8,192 bytes, and it is a rule text that says these policies
pub record Says (text : List ℕ) (ps : List Policy) : Type 0 where
  pub short : length text ≤ most_text_bytes
  pub belongs : SaysPolicies text ps

-- the text is a rule text within the limits
pub record Belongs (text : List ℕ) : Type 0 where
  pub policies : List Policy
  pub says : Says text policies

-- two texts say the same: their policies have the same words, wherever these stand and whatever else stands there
pub record SayAlike (text text' : List ℕ) : Type 0 where
  pub policies : List Policy
  pub policies' : List Policy
  pub says : Says text policies
  pub says' : Says text' policies'
  pub alike : words_of text policies ≡ words_of text' policies'

-- A request whose inputs are accepted gets yes exactly if the subject is the system, or some permit is satisfied and no forbid is.

-- yes is outcome 1 or 4
pub data Yes (outcome : ℕ) : Type 0 where
  allowed : outcome ≡ 1 → Yes outcome
  system : outcome ≡ 4 → Yes outcome

-- under a version, over what the bag holds, some permit that the text says is satisfied, and no forbid is
pub record Granted (version : Version) (text bag : List ℕ) (q : Request) : Type 0 where
  pub policies : List Policy
  pub says : Says text policies
  pub contents : Contents
  pub bag_says : BagBytes bag contents
  pub permit : SomeSatisfied (under version (look (as_bag contents))) q (words_of text policies) true
  pub no_forbid : SomeSatisfied (under version (look (as_bag contents))) q (words_of text policies) false → ⊥

-- For any subject but the system the answer names the lowest-numbered satisfied forbid, else the lowest-numbered satisfied permit, else none; for the system it
-- names none.

-- outcome and policy on these terms: 1 where a permit decides, 2 where a forbid does, 3 where nothing is satisfied, 4 for the system, the last two with
-- policy 0
pub data OutcomeIs (text : List ℕ) (terms : Terms) (q : Request) : ℕ → ℕ → Type 0 where
  by_permit : {n : ℕ} {ps : List Policy} → is_system q.subject ≡ false → Says text ps
      → (SomeSatisfied terms q (words_of text ps) false → ⊥) → LowestSatisfied terms q (words_of text ps) true n → OutcomeIs text terms q 1 n
  by_forbid : {n : ℕ} {ps : List Policy} → is_system q.subject ≡ false → Says text ps
      → LowestSatisfied terms q (words_of text ps) false n → OutcomeIs text terms q 2 n
  by_none : {ps : List Policy} → is_system q.subject ≡ false → Says text ps
      → (SomeSatisfied terms q (words_of text ps) false → ⊥) → (SomeSatisfied terms q (words_of text ps) true → ⊥) → OutcomeIs text terms q 3 0
  by_system : is_system q.subject ≡ true → OutcomeIs text terms q 4 0

-- The decision carries a 64-bit mark, bit n-1 set exactly when policy n is satisfied; 0 for the system (document 02, request 6).

-- the mark on these terms
pub data MarkIs (text : List ℕ) (terms : Terms) (q : Request) : ℕ → Type 0 where
  every_bit : {mark : ℕ} {ps : List Policy} → is_system q.subject ≡ false → Says text ps
      → ((n : ℕ) → BitSet mark n ↔ SatisfiedAt terms q (words_of text ps) n) → MarkIs text terms q mark
  no_bit : is_system q.subject ≡ true → MarkIs text terms q 0

pub record DemandTwo : Type 0 where
  pub accepted_exactly : (version : Version) (text table : List ℕ) → room_for text ≤ length table → ((says_under version text table).refusal ≡ 0) ↔ Belongs text
  -- what an accepted text gets: the number of its policies, and its compiled bytes at the table's start; the bytes past those stay
  pub compiled : (version : Version) (text table : List ℕ) (ps : List Policy) → (says_under version text table).refusal ≡ 0 → Says text ps
      → ((says_under version text table).policies ≡ length ps)
      × ((says_under version text table).bytes ≡ length (compiled_bytes version ps))
      × (leaves_under version text table ≡ compiled_bytes version ps ++ drop (length (compiled_bytes version ps)) table)
  -- a table into which a text was compiled begins right
  pub compiled_begins : (number : ℕ) (text table : List ℕ) → (compile_says number text table).refusal ≡ 0
      → begins_says text (compile_leaves number text table) ≡ true
  -- and so do the bytes used, alone
  pub used_begins : (number : ℕ) (text table : List ℕ) → (compile_says number text table).refusal ≡ 0
      → begins_says text (take (compile_says number text table).bytes (compile_leaves number text table)) ≡ true
  -- 8 bytes of table for each byte of text are enough, and no policies use no bytes
  pub enough_room : (number : ℕ) (text table : List ℕ) → (compile_says number text table).bytes ≤ room_for text
  pub no_policies_no_bytes : (number : ℕ) (text table : List ℕ) → (compile_says number text table).policies ≡ 0 → (compile_says number text table).bytes ≡ 0
  -- a text has at most 64 policies
  pub policies_few : (number : ℕ) (text table : List ℕ) → (compile_says number text table).policies ≤ most_policies
  -- a text says one list of policies
  pub one_reading : (text : List ℕ) (ps qs : List Policy) → Says text ps → Says text qs → ps ≡ qs
  pub yes_exactly : (c : DecideCall) → (decision_for c).refusal ≡ 0
      → Yes (decision_for c).outcome ↔ ((is_system c.request.subject ≡ true) ⊎ Granted (recorded c.table) c.text c.bag c.request)
  -- outcome and policy are those of the policies under the recorded version over what the bag holds, and there are no others
  pub outcome_rightly : (c : DecideCall) (contents : Contents) → (decision_for c).refusal ≡ 0 → BagBytes c.bag contents
      → OutcomeIs c.text (under (recorded c.table) (look (as_bag contents))) c.request (decision_for c).outcome (decision_for c).policy
  pub one_outcome : (text : List ℕ) (terms : Terms) (q : Request) (outcome outcome' policy policy' : ℕ)
      → OutcomeIs text terms q outcome policy → OutcomeIs text terms q outcome' policy' → (outcome ≡ outcome') × (policy ≡ policy')
  pub system_names_none : (c : DecideCall) → is_system c.request.subject ≡ true → decision_for c ≡ record { refusal = 0; outcome = 4; policy = 0; mark = 0 }
  -- so a policy's number fits its byte in a sheet
  pub policy_few : (text : List ℕ) (terms : Terms) (q : Request) (outcome policy : ℕ) → OutcomeIs text terms q outcome policy → policy ≤ most_policies
  -- the mark is that of the policies under the recorded version over what the bag holds, there is no other, and it has no bit beyond the 64
  pub mark_exactly : (c : DecideCall) (contents : Contents) → (decision_for c).refusal ≡ 0 → BagBytes c.bag contents
      → MarkIs c.text (under (recorded c.table) (look (as_bag contents))) c.request (decision_for c).mark
  pub one_mark : (text : List ℕ) (terms : Terms) (q : Request) (mark mark' : ℕ) → MarkIs text terms q mark → MarkIs text terms q mark' → mark ≡ mark'
  pub mark_few : (text : List ℕ) (terms : Terms) (q : Request) (mark : ℕ) → MarkIs text terms q mark → mark < 2 ^ most_policies
  -- outcome and policy follow from the mark and the effects of the policies
  pub mark_decides : (text : List ℕ) (terms : Terms) (q : Request) (ps : List Policy) (outcome policy mark : ℕ) → is_system q.subject ≡ false
      → Says text ps → OutcomeIs text terms q outcome policy → MarkIs text terms q mark
      → (outcome ≡ outcome_of (decided_by (effects_of (words_of text ps)) mark)) × (policy ≡ policy_of (decided_by (effects_of (words_of text ps)) mark))
  -- the words that the policies say decide, and the version, without the text's other bytes: two texts that say the same, each with its table of the same
  -- version, get the same decisions
  pub words_decide : (text text' table table' bag : List ℕ) (q : Request) → SayAlike text text' → recorded table ≡ recorded table' → Begun text table
      → Begun text' table' → decide_says text table bag q ≡ decide_says text' table' bag q

-- ---- Rules of version 2 (document 02, request 7). The caller names the version when compiling; the table records it, and later calls read it there.

pub record Versions : Type 0 where
  -- the table records the version under which a text was compiled, where the text has policies
  pub records : (version : Version) (text table : List ℕ) → (says_under version text table).refusal ≡ 0 → ((says_under version text table).policies ≡ 0 → ⊥)
      → recorded (leaves_under version text table) ≡ version
  -- a table begins right under one version at most: the one that it records. So one whose bytes are under neither, or under another than it records, does not
  -- begin right (`begins_exactly`), and gets 20
  pub one_version : (version : Version) (text table : List ℕ) (ps : List Policy) → Says text ps → (ps ≡ [] → ⊥) → Begins (compiled_bytes version ps) table
      → recorded table ≡ version
  -- a text without policies has no version: it uses no bytes under each, every table begins right for it, and outcome, policy and mark are the same on any
  -- terms, so under each version
  pub no_policies_no_version : (version : Version) → compiled_bytes version [] ≡ []
  pub any_table : (text table : List ℕ) → Says text [] → Begun text table
  pub outcomes_alike : (text : List ℕ) → Says text [] → (terms terms' : Terms) (q : Request) (outcome policy : ℕ) → OutcomeIs text terms q outcome policy
      → OutcomeIs text terms' q outcome policy
  pub marks_alike : (text : List ℕ) → Says text [] → (terms terms' : Terms) (q : Request) (mark : ℕ) → MarkIs text terms q mark → MarkIs text terms' q mark
  -- under version 2 a condition is missing exactly where an absent attribute is met in it by any operator but `has`
  pub missing_exactly : MissingExactly
  -- it is true exactly where version 1 calls it true and nothing that was met is absent, and false likewise
  pub second_exactly : SecondExactly
  -- so a policy is satisfied exactly where it is under version 1 and its condition meets nothing absent, even under `!`
  pub satisfied_second : SatisfiedSecond

-- ---- Demand 3. The sheet lists every combination that demand 2 answers with yes, and no other, each exactly once, first column slowest, with its deciding
-- rule. Asked for page by page from row 0 to the last, each page starting where the one before says to go on, the joined pages are that same list.

-- what a combination's bag holds: the base with each column's attribute set to its choice, or removed, however many entries that makes
abbrev pub attributes : Contents → List Column → List ℕ → View
attributes base columns choices = look (row_bag (as_bag base) (picked_all columns choices))

-- this under a version
abbrev pub terms_of : Version → Contents → List Column → List ℕ → Terms
terms_of version base columns choices = under version (attributes base columns choices)

-- a line of the sheet: a combination that demand 2 answers with yes, with its outcome, its deciding policy and its mark
pub record LineOf (version : Version) (text : List ℕ) (base : Contents) (columns : List Column) (q : Request) (l : Line) : Type 0 where
  pub combination : Combination (counts columns) l.choices
  pub decided : OutcomeIs text (terms_of version base columns l.choices) q l.outcome l.policy
  pub marked : MarkIs text (terms_of version base columns l.choices) q l.mark
  pub yes : Yes l.outcome

-- the sheet: all these lines, and no other; the first column slowest, so that each is there exactly once
pub record Sheet (version : Version) (text : List ℕ) (base : Contents) (columns : List Column) (q : Request) (lines : List Line) : Type 0 where
  pub lists : (l : Line) → Memᴰ l lines ↔ LineOf version text base columns q l
  pub in_order : InOrder lines

-- the bytes that a call writes, from the named byte on
abbrev pub written_by : SheetCall → List ℕ
written_by c = take (row_size * (page_for c).written) (drop c.at (sheet_for c))

-- as many of these lines as fit there, from the start row on; and those that are left
abbrev pub on_page : SheetCall → List ℕ → List Line → List Line
on_page c ns lines = take (room_in (drop c.at c.sheet)) (lines_from ns c.start lines)

abbrev pub not_on_page : SheetCall → List ℕ → List Line → List Line
not_on_page c ns lines = drop (room_in (drop c.at c.sheet)) (lines_from ns c.start lines)

-- a page of these lines: how many, their bytes, and as next the row of the first that is not on it, else the number of rows; all other bytes of the sheet stay
pub record PageOf (c : SheetCall) (ns : List ℕ) (lines : List Line) : Type 0 where
  pub written : (page_for c).written ≡ length (on_page c ns lines)
  pub bytes : written_by c ≡ lines_bytes ns (on_page c ns lines)
  pub next : (page_for c).next ≡ first_row ns (not_on_page c ns lines)
  pub inside : c.at + row_size * (page_for c).written ≤ length c.sheet
  pub before_stays : take c.at (sheet_for c) ≡ take c.at c.sheet
  pub behind_stays : drop (c.at + row_size * (page_for c).written) (sheet_for c) ≡ drop (c.at + row_size * (page_for c).written) c.sheet

-- the same call for another page: from another start row, into another sheet, from another byte on
abbrev pub again : SheetCall → ℕ → List ℕ → ℕ → SheetCall
again c start sheet at =
    record { text = c.text; table = c.table; question = c.question; request = c.request; start = start; sheet = sheet; at = at }

-- calls for pages, each starting where the one before says to go on: from a start row, what they wrote, joined, and where the last one says to go on;
-- each may lend another sheet and name another byte
pub data Pages (c : SheetCall) : ℕ → List ℕ → ℕ → Type 0 where
  no_page : {start : ℕ} → Pages c start [] start
  page : {start last : ℕ} {bytes : List ℕ} (sheet : List ℕ) (at : ℕ) → (page_for (again c start sheet at)).refusal ≡ 0
      → Pages c (page_for (again c start sheet at)).next bytes last → Pages c start (written_by (again c start sheet at) ++ bytes) last

-- what a call that is not refused is about: the base and columns that its question says, the one list of lines under the
-- recorded version, its page of them, and the bytes of all pages
pub record TheSheet (c : SheetCall) : Type 0 where
  pub base : Contents
  pub columns : List Column
  pub question_says : QuestionBytes c.question base columns
  pub lines : List Line
  pub is_sheet : Sheet (recorded c.table) c.text base columns c.request lines
  pub no_other : (others : List Line) → Sheet (recorded c.table) c.text base columns c.request others → others ≡ lines
  -- the joined pages are that list: from row 0 to the last, and from any other row the lines from there on
  pub joined : (bytes : List ℕ) → Pages c 0 bytes (rows_say c.question) → bytes ≡ lines_bytes (counts columns) lines
  pub joined_from : (start : ℕ) (bytes : List ℕ) → Pages c start bytes (rows_say c.question)
      → bytes ≡ lines_bytes (counts columns) (lines_from (counts columns) start lines)
  -- this call's page
  pub this_page : PageOf c (counts columns) lines

-- a bag that holds this has the attributes of a combination. A combination may have more attributes than a bag can hold; nothing rests on there being such a
-- bag, since lines are decided over the attributes themselves
abbrev pub Shows : Contents → Contents → List Column → List ℕ → Type 0
Shows contents base columns choices = (root : ℕ) (path : List ℕ) → look (as_bag contents) root path ≡ attributes base columns choices root path

pub record DemandThree : Type 0 where
  pub the_sheet : (c : SheetCall) → (page_for c).refusal ≡ 0 → TheSheet c
  -- a combination is decided and marked as demand 2 decides and marks over any bag that has its attributes
  pub decided_alike : (c : DecideCall) (contents base : Contents) (columns : List Column) (choices : List ℕ) → (decision_for c).refusal ≡ 0
      → BagBytes c.bag contents → Shows contents base columns choices
      → OutcomeIs c.text (terms_of (recorded c.table) base columns choices) c.request (decision_for c).outcome (decision_for c).policy
      × MarkIs c.text (terms_of (recorded c.table) base columns choices) c.request (decision_for c).mark
  -- a question has as many rows as its columns' candidates have combinations, at most 262,144
  pub rows_counted : (question : List ℕ) (base : Contents) (columns : List Column) → QuestionBytes question base columns
      → rows_say question ≡ product (counts columns)
  pub rows_few : (question : List ℕ) → rows_say question ≤ most_rows
  -- each combination has a row of its own, each row is a combination's, and the combination that comes first has the lower row
  pub row_within : (ns choices : List ℕ) → Combination ns choices → row_of ns choices < product ns
  pub row_there : (ns : List ℕ) (row : ℕ) → row < product ns → Combination ns (choices_at ns row) × (row_of ns (choices_at ns row) ≡ row)
  pub one_row : (ns choices choices' : List ℕ) → Combination ns choices → Combination ns choices' → row_of ns choices ≡ row_of ns choices' → choices ≡ choices'
  pub first_slowest : (ns choices choices' : List ℕ) → Combination ns choices → Combination ns choices'
      → Sooner choices choices' ↔ (row_of ns choices < row_of ns choices')
  -- the first four bytes of a row say its number, and the last eight its mark
  pub row_read : (row outcome policy mark : ℕ) → row ≤ most_rows → little_endian (take 4 (listed_bytes row outcome policy mark)) ≡ row
  pub mark_read : (row outcome policy mark : ℕ) → mark < 2 ^ most_policies → little_endian (drop 6 (listed_bytes row outcome policy mark)) ≡ mark
  -- whoever follows the pages gets on, is refused no page, and gets to the last row
  pub goes_on : (c : SheetCall) → (page_for c).refusal ≡ 0
      → (c.start < rows_say c.question → c.start < (page_for c).next) × ((page_for c).next ≤ rows_say c.question)
  pub none_refused : (c : SheetCall) (row : ℕ) → (page_for c).refusal ≡ 0 → row ≤ rows_say c.question → (page_for (again c row c.sheet c.at)).refusal ≡ 0
  pub to_the_last : (c : SheetCall) → (page_for c).refusal ≡ 0 → (bytes : List ℕ) × Pages c c.start bytes (rows_say c.question)
  -- and, for the same words and the same version, the same sheets
  pub words_list : (text text' table table' question : List ℕ) (q : Request) (start : ℕ) (sheet : List ℕ) (at : ℕ) → SayAlike text text'
      → recorded table ≡ recorded table' → Begun text table → Begun text' table'
      → (sheet_says text table question q start sheet at ≡ sheet_says text' table' question q start sheet at)
      × (sheet_leaves text table question q start sheet at ≡ sheet_leaves text' table' question q start sheet at)

-- ---- The tally (document 02, request 1). How many rows have each outcome, and for each policy how many rows it decides, each a count of its own over the rows;
-- for one to eight requests over one question, with their sums.

-- the counts are nine groups of 68 numbers; this is group k, from 0 on
abbrev pub group_in : List ℕ → ℕ → List ℕ
group_in counts k = take group_size (drop (group_size * k) counts)

-- a group's count of an outcome, 1 to 4; and behind these, of a policy, 1 to 64
abbrev pub of_outcome : List ℕ → ℕ → ℕ
of_outcome group outcome = get_or group (outcome - 1) 0

abbrev pub of_policy : List ℕ → ℕ → ℕ
of_policy group policy = get_or group (policy + 3) 0

-- what a group of counts says of a request under a version: so many combinations have the outcome, and so many the policy decides
pub record TallyOf (version : Version) (text : List ℕ) (base : Contents) (columns : List Column) (q : Request) (group : List ℕ) : Type 0 where
  pub outcomes : (o : ℕ) → 1 ≤ o → o ≤ 4
      → SoMany (counts columns) (λ choices. (policy : ℕ) × OutcomeIs text (terms_of version base columns choices) q o policy) (of_outcome group o)
  pub policies : (n : ℕ) → 1 ≤ n → n ≤ 64
      → SoMany (counts columns) (λ choices. (outcome : ℕ) × OutcomeIs text (terms_of version base columns choices) q outcome n) (of_policy group n)
  -- the four add up to the number of rows, and the policies to outcomes 1 and 2 together
  pub rows_add_up : sum_of (take 4 group) ≡ product (counts columns)
  pub policies_add_up : sum_of (drop 4 group) ≡ of_outcome group 1 + of_outcome group 2
  -- the sheet of the same request lists the rows of outcomes 1 and 4
  pub listed : (lines : List Line) → Sheet version text base columns q lines → length lines ≡ of_outcome group 1 + of_outcome group 4

-- what a call that is not refused leaves: a group for each request that was lent, zeros for those that were not, and as the ninth group the sums of the eight
pub record TheTally (c : TallyCall) : Type 0 where
  pub base : Contents
  pub columns : List Column
  pub question_says : QuestionBytes c.question base columns
  pub requests : List Request
  pub lent : Lent c.many c.requests requests
  pub counted : (k : ℕ) (q : Request) → Numbered (suc k) q requests → TallyOf (recorded c.table) c.text base columns q (group_in (counts_for c) k)
  pub others_none : (k i : ℕ) → c.many ≤ k → k < group_count → i < group_size → get_or (group_in (counts_for c) k) i 0 ≡ 0
  pub summed : (i : ℕ) → i < group_size
      → get_or (group_in (counts_for c) group_count) i 0 ≡ sum_of (from_on (λ k. get_or (group_in (counts_for c) k) i 0) 0 group_count)
  pub no_more : length (counts_for c) ≡ group_size * suc group_count

-- what is promised of the tally
pub record TheTallies : Type 0 where
  pub the_tally : (c : TallyCall) → refusal_for c ≡ 0 → TheTally c
  -- bytes lend one list of so many requests
  pub one_lent : (n : ℕ) (bytes : List ℕ) → (qs : List Request) × Lent n bytes qs × ((others : List Request) → Lent n bytes others → others ≡ qs)
  -- a request has one tally
  pub one_tally : (version : Version) (text : List ℕ) (base : Contents) (columns : List Column) (q : Request) (group group' : List ℕ)
      → TallyOf version text base columns q group → TallyOf version text base columns q group' → (k : ℕ) → k < group_size → get_or group k 0 ≡ get_or group' k 0

-- ---- Look-ups. What is found in a bag is the attribute that deciding sees.

-- the kind, number and place that stand for an attribute: a flag counts 0 or 1, a string and a list 0, and an absent one has zeros
pub data Means (bag : List ℕ) (found : DeskValue) : Datum → Type 0 where
  a_string : found.kind ≡ 1 → found.number ≡ nought → Means bag found (views.text (string_at bag found.place))
  a_number : found.kind ≡ 2 → found.number ≡ number_at bag found.place → Means bag found (views.number found.number)
  flag_off : found.kind ≡ 3 → found.number ≡ nought → Means bag found (views.flag false)
  flag_on : found.kind ≡ 3 → found.number ≡ unit → Means bag found (views.flag true)
  a_list : found.kind ≡ 4 → found.number ≡ nought → Means bag found (views.texts (list_at bag found.place))
  none_found : found.kind ≡ 0 → found.number ≡ nought → found.place ≡ 0 → Means bag found views.absent

-- where the section of a root byte starts, by its count byte: 1 principal, 2 resource, 3 env
pub data SectionOf (p : Sections) : ℕ → ℕ → Type 0 where
  principal : SectionOf p 1 0
  resource : SectionOf p 2 p.resource
  env : SectionOf p 3 p.env

-- an entry with exactly this path stands in the section of this root; its kind, and the place of the byte after its kind byte
pub record StandsIn (bag : List ℕ) (root : ℕ) (path : List ℕ) (kind place : ℕ) : Type 0 where
  pub sections : Sections
  pub divided : sections_of bag ≡ Some sections
  pub start : ℕ
  pub section : SectionOf sections root start
  pub entry : ℕ
  pub among : EntryOf bag (byte bag start) (start + 1) entry
  pub path_is : path_at bag entry ≡ path
  pub kind_is : kind ≡ byte bag (kind_at bag entry)
  pub place_is : place ≡ kind_at bag entry + 1

-- what the contract of `string_part` allows: a string's bytes as a part of the caller's bag
abbrev pub StringAllows : Bor (List ℕ) → ℕ → List ℕ → Bor (List ℕ) → Type 0
StringAllows bag root path r = IsPart bag r (start_of (lookup_of bag.now root path)) (length_of bag.now (lookup_of bag.now root path))

-- what is found, where it stands, and where a string's bytes are
pub record LookUps : Type 0 where
  -- it is what deciding sees
  pub looked_rightly : (bag : List ℕ) (contents : Contents) (root : ℕ) (path : List ℕ) → BagBytes bag contents
      → Means bag (lookup_says bag root path) (look (as_bag contents) root path)
  -- an attribute is found, with its kind and its place, exactly where an entry with its path stands in its root's section
  pub found_rightly : (bag : List ℕ) (root : ℕ) (path : List ℕ) → ((lookup_says bag root path).kind ≡ 0 → ⊥)
      → StandsIn bag root path (lookup_says bag root path).kind (lookup_says bag root path).place
  pub found_where_it_stands : (bag : List ℕ) (contents : Contents) (root : ℕ) (path : List ℕ) (kind place : ℕ) → BagBytes bag contents
      → StandsIn bag root path kind place
      → ((lookup_says bag root path).kind ≡ kind) × ((lookup_says bag root path).place ≡ place)
  -- a section has one entry at most with a path
  pub stands_once : (bag : List ℕ) (contents : Contents) (root : ℕ) (path : List ℕ) (kind kind' place place' : ℕ) → BagBytes bag contents
      → StandsIn bag root path kind place → StandsIn bag root path kind' place' → (kind ≡ kind') × (place ≡ place')
  -- a string's bytes are the part of the bag that is told, behind the length byte at its place
  pub string_rightly : (bag : List ℕ) (contents : Contents) (root : ℕ) (path : List ℕ) → BagBytes bag contents → (lookup_says bag root path).kind ≡ 1
      → (look (as_bag contents) root path ≡ views.text (part bag (string_says bag root path).start (string_says bag root path).length))
      × ((string_says bag root path).start + (string_says bag root path).length ≤ length bag)
  pub string_placed : (bag : List ℕ) (root : ℕ) (path : List ℕ) → (lookup_says bag root path).kind ≡ 1
      → ((string_says bag root path).start ≡ (lookup_says bag root path).place + 1)
      × ((string_says bag root path).length ≡ byte bag (lookup_says bag root path).place)
  -- `string_part` gives that part itself
  pub part_rightly : (bag : Bor (List ℕ)) (root : ℕ) (path : List ℕ) (r : Bor (List ℕ)) → StringAllows bag root path r
      → IsPart bag r (string_says bag.now root path).start (string_says bag.now root path).length
  -- any other kind has the empty part, and so has what is no bag, which has kind 0
  pub string_empty : (bag : List ℕ) (root : ℕ) (path : List ℕ) → ((lookup_says bag root path).kind ≡ 1 → ⊥)
      → string_says bag root path ≡ record { start = 0; length = 0 }
  pub string_none : (bag : List ℕ) (root : ℕ) (path : List ℕ) → NoBag bag → string_says bag root path ≡ record { start = 0; length = 0 }

-- ---- Refusals. Each is given exactly when document 01 says, in its order, with zeros beside its number.

-- when each number is given, and what stands beside it
pub record Refusals : Type 0 where
  -- 30 before all: a number that names no version
  pub other_version : (number : ℕ) (text table : List ℕ) → ((compile_says number text table).refusal ≡ 30) ↔ NoVersion number
  pub too_long : (version : Version) (text table : List ℕ) → ((says_under version text table).refusal ≡ 1) ↔ (most_text_bytes < length text)
  pub no_room : (version : Version) (text table : List ℕ)
      → ((says_under version text table).refusal ≡ 2) ↔ ((length text ≤ most_text_bytes) × (length table < room_for text))
  -- 3 to 17, where the sizes are right: exactly by the number, at the line and column, and with the length, of the one token at which a rule is first broken
  pub token_exactly : (version : Version) (text table : List ℕ) (number line column size : ℕ) → length text ≤ most_text_bytes → room_for text ≤ length table
      → 2 < number
      → (says_under version text table ≡ record { refusal = number; line = line; column = column; length = size; policies = 0; bytes = 0 })
      ↔ RefusedThere text number (spot line column size)
  pub decide_exactly : (c : DecideCall) (number : ℕ) → ((decision_for c).refusal ≡ number) ↔ DecideRefused c number
  pub lookup_exactly : (bag : List ℕ) (root : ℕ) (path : List ℕ) → ((lookup_says bag root path).refusal ≡ 24) ↔ NoBag bag
  pub sheet_exactly : (c : SheetCall) (number : ℕ) → ((page_for c).refusal ≡ number) ↔ SheetRefused c number
  pub tally_exactly : (c : TallyCall) (number : ℕ) → (refusal_for c ≡ number) ↔ TallyRefused c number
  -- the number of rows is 0 exactly where the bytes are no question
  pub rows_exactly : (question : List ℕ) → (rows_say question ≡ 0) ↔ NoQuestion question
  -- a table begins right exactly when the text belongs to the grammar and the table begins with its compiled bytes
  pub begins_exactly : (text table : List ℕ) → (begins_says text table ≡ true) ↔ Begun text table
  pub compile_zeros : (number : ℕ) (text table : List ℕ) → ((compile_says number text table).refusal ≡ 0 → ⊥)
      → ((compile_says number text table).policies ≡ 0) × ((compile_says number text table).bytes ≡ 0)
  pub decide_zeros : (c : DecideCall) → ((decision_for c).refusal ≡ 0 → ⊥)
      → ((decision_for c).outcome ≡ 0) × ((decision_for c).policy ≡ 0) × ((decision_for c).mark ≡ 0)
  pub lookup_zeros : (bag : List ℕ) (root : ℕ) (path : List ℕ) → ((lookup_says bag root path).refusal ≡ 0 → ⊥)
      → lookup_says bag root path ≡ record { refusal = 24; kind = 0; number = nought; place = 0 }
  pub sheet_zeros : (c : SheetCall) → ((page_for c).refusal ≡ 0 → ⊥) → ((page_for c).written ≡ 0) × ((page_for c).next ≡ 0)

-- ---- Locks (document 02, request 2). With an action list and a resource string the desk writes one permit pinned to that resource. Its text compiles, and is
-- satisfied exactly when target and every test hold.

-- a lock says these actions and these tests, in a permit that would compile
abbrev pub SaysLock : LockCall → List Word → List Test → Type 0
SaysLock c actions tests = locks.CallSays c actions tests

-- what is written for a lock: the permit for its actions, its resource and its tests
pub record TheLock (c : LockCall) (actions : List Word) (tests : List Test) : Type 0 where
  -- in its one spelling over the start of the room, with its length; all other bytes stay
  pub long : (lock_for c).length ≡ length (permit_for c actions tests)
  pub written : lock_room c ≡ permit_for c actions tests ++ drop (length (permit_for c actions tests)) c.room
  -- it compiles, lent table enough
  pub compiles : (version : Version) (table : List ℕ) → room_for (permit_for c actions tests) ≤ length table
      → (says_under version (permit_for c actions tests) table).refusal ≡ 0
  -- as one policy: a permit for any principal, with that action list, pinned to that resource
  pub policies : List Policy
  pub says : Says (permit_for c actions tests) policies
  pub policy : PolicyOf Word
  pub one_policy : words_of (permit_for c actions tests) policies ≡ policy ∷ []
  pub permits : policy.permits ≡ true
  pub any_principal : policy.principal ≡ any
  pub these_actions : policy.action ≡ one_of (map text actions)
  pub pinned_there : policy.resource ≡ pinned c.resource
  -- satisfied exactly when target and every test hold: under each version, whatever the attributes are, so over every bag and every row of a question
  pub satisfied_exactly : (version : Version) (view : View) (q : Request)
      → (satisfied (under version view) q policy ≡ true) ↔ LockHolds view q actions c.resource tests
  pub over_bag : (version : Version) (contents : Contents) (q : Request)
      → (satisfied (under version (look (as_bag contents))) q policy ≡ true) ↔ LockHolds (look (as_bag contents)) q actions c.resource tests
  pub over_row : (version : Version) (base : Contents) (columns : List Column) (choices : List ℕ) (q : Request)
      → (satisfied (terms_of version base columns choices) q policy ≡ true) ↔ LockHolds (attributes base columns choices) q actions c.resource tests
  -- so both versions agree on it
  pub agree : (view : View) (q : Request) → satisfied (under First view) q policy ≡ satisfied (under Second view) q policy
  -- and so the desk decides by it: a request of anybody but the system is allowed exactly when the lock holds
  pub decided : (table bag : List ℕ) (contents : Contents) (q : Request) → (decide_says (permit_for c actions tests) table bag q).refusal ≡ 0
      → BagBytes bag contents → is_system q.subject ≡ false
      → ((decide_says (permit_for c actions tests) table bag q).outcome ≡ 1) ↔ LockHolds (look (as_bag contents)) q actions c.resource tests

-- when a lock gets which refusal number, 0 where it gets none: 28 first, then 29
pub data LockRefused (c : LockCall) : ℕ → Type 0 where
  no_lock : NoLock c.vocabulary c.lock c.actions c.resource → LockRefused c 28
  longer_than_its_room : {actions : List Word} {tests : List Test} → SaysLock c actions tests → length c.room < length (permit_for c actions tests)
      → LockRefused c 29
  none_wrong : {actions : List Word} {tests : List Test} → SaysLock c actions tests → length (permit_for c actions tests) ≤ length c.room → LockRefused c 0

pub record Locks : Type 0 where
  pub the_lock : (c : LockCall) (actions : List Word) (tests : List Test) → (lock_for c).refusal ≡ 0 → SaysLock c actions tests → TheLock c actions tests
  -- a call says one lock
  pub one_lock : (c : LockCall) (actions actions' : List Word) (tests tests' : List Test) → SaysLock c actions tests → SaysLock c actions' tests'
      → (actions ≡ actions') × (tests ≡ tests')
  pub lock_exactly : (c : LockCall) (number : ℕ) → ((lock_for c).refusal ≡ number) ↔ LockRefused c number
  pub lock_zeros : (c : LockCall) → ((lock_for c).refusal ≡ 0 → ⊥) → (lock_for c).length ≡ 0

-- what the contract of a lock allows: the answer, and the room afterwards
pub record LockAllows (vocabulary lock actions resource before after : List ℕ) (r : DeskLock) : Type 0 where
  pub answered : r ≡ lock_says vocabulary lock actions resource before
  pub room : after ≡ lock_leaves vocabulary lock actions resource before

-- ---- One result. What a call's contract allows, for each call; any two allowed results coincide, refusals included, and so do what they leave.

-- what the contract of compiling allows: the answer, and the table afterwards
pub record CompileAllows (number : ℕ) (text before after : List ℕ) (r : DeskCompiled) : Type 0 where
  pub answered : r ≡ compile_says number text before
  pub table : after ≡ compile_leaves number text before

-- what the contract of the sheet allows: the answer, and the sheet afterwards
pub record SheetAllows (text table question : List ℕ) (q : Request) (start : ℕ) (before : List ℕ) (at : ℕ) (after : List ℕ) (r : DeskPage) : Type 0 where
  pub answered : r ≡ sheet_says text table question q start before at
  pub sheet : after ≡ sheet_leaves text table question q start before at

-- the same, of what travels together
abbrev pub PageAllows : SheetCall → List ℕ → DeskPage → Type 0
PageAllows c after r = SheetAllows c.text c.table c.question c.request c.start c.sheet c.at after r

-- what the contract of the tally allows: the answer, and the counts afterwards
pub record TallyAllows (text table question : List ℕ) (many : ℕ) (requests before after : List ℕ) (r : ℕ) : Type 0 where
  pub answered : r ≡ tally_says text table question many requests
  pub counts : after ≡ tally_leaves text table question many requests before

-- the same, of what travels together
abbrev pub CountsAllow : TallyCall → List ℕ → ℕ → Type 0
CountsAllow c after r = TallyAllows c.text c.table c.question c.many c.requests c.counts after r

-- two results that a contract allows are the same
pub record OneResult : Type 0 where
  pub of_compile : (number : ℕ) (text before after after' : List ℕ) (r r' : DeskCompiled) → CompileAllows number text before after r
      → CompileAllows number text before after' r' → (r ≡ r') × (after ≡ after')
  pub of_begins : (text table : List ℕ) (r r' : Bool) → r ≡ begins_says text table → r' ≡ begins_says text table → r ≡ r'
  pub of_decide : (c : DecideCall) (r r' : DeskDecision) → r ≡ decision_for c → r' ≡ decision_for c → r ≡ r'
  pub of_lookup : (bag : List ℕ) (root : ℕ) (path : List ℕ) (r r' : DeskValue) → r ≡ lookup_says bag root path → r' ≡ lookup_says bag root path → r ≡ r'
  pub of_string : (bag : Bor (List ℕ)) (root : ℕ) (path : List ℕ) (r r' : Bor (List ℕ)) → StringAllows bag root path r → StringAllows bag root path r'
      → (r.now ≡ r'.now) × (r.ref_ptr ≡ r'.ref_ptr)
  pub of_string_place : (bag : List ℕ) (root : ℕ) (path : List ℕ) (r r' : DeskString) → r ≡ string_says bag root path → r' ≡ string_says bag root path
      → r ≡ r'
  pub of_sheet : (c : SheetCall) (after after' : List ℕ) (r r' : DeskPage) → PageAllows c after r → PageAllows c after' r' → (r ≡ r') × (after ≡ after')
  pub of_tally : (c : TallyCall) (after after' : List ℕ) (r r' : ℕ) → CountsAllow c after r → CountsAllow c after' r' → (r ≡ r') × (after ≡ after')
  pub of_rows : (question : List ℕ) (r r' : ℕ) → r ≡ rows_say question → r' ≡ rows_say question → r ≡ r'
  pub of_lock : (vocabulary lock actions resource before after after' : List ℕ) (r r' : DeskLock) → LockAllows vocabulary lock actions resource before after r
      → LockAllows vocabulary lock actions resource before after' r' → (r ≡ r') × (after ≡ after')
