-- What each call of the desk answers and leaves, as functions of what it is lent: document 01's numbers and values for each case. Definitions only.
use Rattle.std.specs.Prelude.{Bool, cond, List, ℕ, length, Ok, Err}
use Rattle.grammar.specs.Versions.{version_number}
use Rattle.grammar.specs.declared.Version.{Version}
use Rattle.compiling.specs.Outcome as compiling
use Rattle.compiling.specs.Outcome.{spot}
use Rattle.compiling.specs.declared.Spot.{Spot}
use Rattle.meaning.specs.Targets.{Request}
use Rattle.deciding.specs.Answers as deciding
use Rattle.deciding.specs.Promise.{DecideCall}
use Rattle.lookups.specs.Lookups as lookups
use Rattle.questions.specs.Questions.{is_question}
use Rattle.sheets.specs.Sheets as sheets
use Rattle.sheets.specs.Promise.{SheetCall}
use Rattle.tallies.specs.Tallies as tallies
use Rattle.tallies.specs.Promise.{TallyCall}
use Rattle.locks.specs.Answers as locks
use Rattle.locks.specs.Answers.{LockAnswer}
use Rattle.locks.specs.Promise.{LockCall}
use Rattle.desk.specs.declared.DeskCompiled.{DeskCompiled}
use Rattle.desk.specs.declared.DeskDecision.{DeskDecision}
use Rattle.desk.specs.declared.DeskValue.{DeskValue}
use Rattle.desk.specs.declared.DeskString.{DeskString}
use Rattle.desk.specs.declared.DeskPage.{DeskPage}
use Rattle.desk.specs.declared.DeskLock.{DeskLock}

-- ---- compile(text, table, version)

-- the refusal with its place and length, or the policies and bytes used
abbrev pub compiled_as : compiling.CompileSaid → DeskCompiled
compiled_as s =
    record { refusal = s.refusal; line = s.line; column = s.column; length = s.size; policies = s.policies; bytes = s.bytes }

-- the line, the column and the length that are answered
abbrev pub spot_said : DeskCompiled → Spot
spot_said c = spot c.line c.column c.length

-- what is answered, where this number names the version
unfoldable pub compile_says : ℕ → List ℕ → List ℕ → DeskCompiled
compile_says number text table = compiled_as (compiling.compile_said (compiling.compiled_of number text (length table)))

-- the table afterwards
abbrev pub compile_leaves : ℕ → List ℕ → List ℕ → List ℕ
compile_leaves number text table = compiling.table_after number text table

-- the same under a version, by its number
abbrev pub says_under : Version → List ℕ → List ℕ → DeskCompiled
says_under version text table = compile_says (version_number version) text table

abbrev pub leaves_under : Version → List ℕ → List ℕ → List ℕ
leaves_under version text table = compile_leaves (version_number version) text table

-- ---- begins(text, table)

-- whether the text compiles and the table begins with its compiled bytes
abbrev pub begins_says : List ℕ → List ℕ → Bool
begins_says text table = compiling.begins_of text table

-- ---- decide(text, table, bag, subject, action, resource)

-- the refusal, or the outcome, the policy and the mark
abbrev pub decided_as : deciding.DecideSaid → DeskDecision
decided_as s = record { refusal = s.refusal; outcome = s.outcome; policy = s.policy; mark = s.mark }

-- what is answered
unfoldable pub decide_says : List ℕ → List ℕ → List ℕ → Request → DeskDecision
decide_says text table bag q = decided_as (deciding.decide_said (deciding.decide_answer text table bag q))

-- the same, of what travels together
abbrev pub decision_for : DecideCall → DeskDecision
decision_for c = decide_says c.text c.table c.bag c.request

-- ---- lookup(bag, root, path), string(bag, root, path)

-- the refusal, or the kind, the number and the place
abbrev pub found_as : lookups.LookupSaid → DeskValue
found_as s = record { refusal = s.refusal; kind = s.kind; number = s.number; place = s.place }

-- what the look-up answers
unfoldable pub lookup_says : List ℕ → ℕ → List ℕ → DeskValue
lookup_says bag root path = found_as (lookups.lookup_said (lookups.lookup_of bag root path))

-- where a string's bytes start, and how many they are; zeros for anything else
unfoldable pub string_says : List ℕ → ℕ → List ℕ → DeskString
string_says bag root path = record { start = lookups.start_of (lookups.lookup_of bag root path); length = lookups.length_of bag (lookups.lookup_of bag root path) }

-- ---- sheet(text, table, question, subject, action, resource, start, sheet, at)

-- the refusal, or the rows written and the row to go on with
abbrev pub listed_as : sheets.SheetSaid → DeskPage
listed_as s = record { refusal = s.refusal; written = s.written; next = s.next }

-- what is answered
unfoldable pub sheet_says : List ℕ → List ℕ → List ℕ → Request → ℕ → List ℕ → ℕ → DeskPage
sheet_says text table question q start sheet at = listed_as (sheets.said_to text table question q start sheet at)

-- the sheet afterwards
abbrev pub sheet_leaves : List ℕ → List ℕ → List ℕ → Request → ℕ → List ℕ → ℕ → List ℕ
sheet_leaves text table question q start sheet at = sheets.sheet_after text table question q start sheet at

-- the same, of what travels together
abbrev pub page_for : SheetCall → DeskPage
page_for c = sheet_says c.text c.table c.question c.request c.start c.sheet c.at

abbrev pub sheet_for : SheetCall → List ℕ
sheet_for c = sheet_leaves c.text c.table c.question c.request c.start c.sheet c.at

-- ---- tally(text, table, question, many, requests, counts)

-- the refusal's number, 0 where nothing is refused
unfoldable pub tally_says : List ℕ → List ℕ → List ℕ → ℕ → List ℕ → ℕ
tally_says text table question many requests = tallies.tally_refusal text table question many requests

-- the counts afterwards
abbrev pub tally_leaves : List ℕ → List ℕ → List ℕ → ℕ → List ℕ → List ℕ → List ℕ
tally_leaves text table question many requests counts = tallies.counts_after text table question many requests counts

-- the same, of what travels together
abbrev pub refusal_for : TallyCall → ℕ
refusal_for c = tally_says c.text c.table c.question c.many c.requests

abbrev pub counts_for : TallyCall → List ℕ
counts_for c = tally_leaves c.text c.table c.question c.many c.requests c.counts

-- ---- rows(question): how many it has, and 0 where the bytes are no question

unfoldable pub rows_say : List ℕ → ℕ
rows_say question = cond (is_question question) (sheets.rows_asked question) 0

-- ---- lock(vocabulary, lock, actions, resource, room)

-- the refusal, or the permit's length
unfoldable pub locked_as : LockAnswer → DeskLock
locked_as (Ok length) = record { refusal = 0; length = length }
locked_as (Err number) = record { refusal = number; length = 0 }

-- what is answered
unfoldable pub lock_says : List ℕ → List ℕ → List ℕ → List ℕ → List ℕ → DeskLock
lock_says vocabulary lock actions resource room = locked_as (locks.answer_of vocabulary lock actions resource room)

-- the room afterwards
abbrev pub lock_leaves : List ℕ → List ℕ → List ℕ → List ℕ → List ℕ → List ℕ
lock_leaves vocabulary lock actions resource room = locks.room_after vocabulary lock actions resource room

-- the same, of what travels together
abbrev pub lock_for : LockCall → DeskLock
lock_for c = lock_says c.vocabulary c.lock c.actions c.resource c.room

abbrev pub lock_room : LockCall → List ℕ
lock_room c = lock_leaves c.vocabulary c.lock c.actions c.resource c.room
