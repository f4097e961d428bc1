-- What is promised of compiling: demand 1 and the first half of demand 2, and what a table is that begins right. proofs/Promised.antt proves each statement.
-- Definitions only.
-- `compiled_of` and `table_after` are what `compile` answers and leaves in the table by its contract, `compiled_under` and `table_under` the same where the number
-- that it is given names a version, `begins_of` and `held_of` what `begins` and `held_policies` answer (crates/compiling/specs/Outcome.antt).
use Rattle.std.specs.Prelude.{◌≡◌, ◌⊎◌, ◌↔◌, true, List, [], ◌∷◌, ℕ, ◌+◌, ◌≤◌, length, take, drop, Some, Result}
use Rattle.tokens.specs.Sizes.{most_text_bytes}
use Rattle.reading.specs.Listed.{Lexeme, size, TokensOf}
use Rattle.reading.specs.Reader as reader
use Rattle.reading.specs.Reader.{took, refuse}
use Rattle.grammar.specs.Policies.{Policy}
use Rattle.grammar.specs.Grammar.{SaysPolicies}
use Rattle.grammar.specs.Lowest.{RefusedBy}
use Rattle.grammar.specs.Versions.{version_number}
use Rattle.grammar.specs.declared.Version.{Version}
use Rattle.table.specs.Entries.{policies_entries}
use Rattle.slices.specs.Parts.{Begins}
use Rattle.table.specs.Layout.{held}
use Rattle.table.specs.Recorded.{recorded}
use Rattle.compiling.specs.Outcome.{room_for, said, compiled_bytes, table_size, compiled_to, refused, nowhere, spot_of, compiled_under, compiled_of, compile_said, table_under, table_after}
use Rattle.compiling.specs.Outcome.{CompiledInto, held_of}
use Rattle.compiling.specs.Outcome.{begins_of}
use Rattle.compiling.specs.declared.Spot.{Spot}
use Rattle.compiling.specs.declared.Compiled.{Compiled}
use Rattle.compiling.specs.declared.Refused.{Refused}

-- ---- versions

-- Under the number of a version a text is compiled under that version.
unfoldable pub UnderItsNumber : Type 0
UnderItsNumber = (version : Version) (text old : List ℕ) (room : ℕ)
    → (compiled_of (version_number version) text room ≡ compiled_under version text room)
    × (table_after (version_number version) text old ≡ table_under version text old)

-- the number names no version
abbrev pub NoVersion : ℕ → Type 0
NoVersion number = (version : Version) → version_number version ≡ number → ⊥

-- Any other number is refused by 30 before all, with no place, and changes nothing.
unfoldable pub OtherVersion : Type 0
OtherVersion = (number : ℕ) (text old : List ℕ) (room : ℕ)
    → (((compile_said (compiled_of number text room)).refusal ≡ 30) ↔ NoVersion number)
    × (NoVersion number → (compiled_of number text room ≡ refused 30 nowhere) × (table_after number text old ≡ old))

-- ---- acceptance

-- the text is a rule text within document 01's limits; it says so many policies, which compile to so many bytes under a version
pub record BelongsAs (version : Version) (text : List ℕ) (policies bytes : ℕ) : Type 0 where
  pub value : List Policy
  pub belongs : SaysPolicies text value
  pub many : policies ≡ length value
  pub used : bytes ≡ length (compiled_bytes version value)

-- A text that is not too long and is lent table enough is accepted exactly when its tokens belong to the grammar; it gets the number of its policies and of
-- their bytes.
unfoldable pub AcceptedExactly : Type 0
AcceptedExactly = (version : Version) (text : List ℕ) (room policies bytes : ℕ) → length text ≤ most_text_bytes → room_for text ≤ room
    → (compiled_under version text room ≡ compiled_to policies bytes) ↔ BelongsAs version text policies bytes

-- Refusals 1 and 2 go by the lengths of text and table alone, and come first, 1 before 2; their place is 0, 0, and their length 0.
unfoldable pub UnfitExactly : Type 0
UnfitExactly = (version : Version) (text : List ℕ) (room : ℕ)
    → ((compiled_under version text room ≡ refused 1 nowhere) ↔ (¬ (length text ≤ most_text_bytes)))
    × ((compiled_under version text room ≡ refused 2 nowhere) ↔ ((length text ≤ most_text_bytes) × (¬ (room_for text ≤ room))))

-- ---- refusal

-- where the first of the tokens r starts; [] is the end of the text, one past the last byte
unfoldable pub token_start : List ℕ → List Lexeme → ℕ
token_start text [] = length text
token_start text (x ∷ r) = x.start

-- how many bytes the first of the tokens r has: a string counts its quotes, an unended one goes to the end of the text, a bad byte is one; the end of the text
-- has none
unfoldable pub first_length : List Lexeme → ℕ
first_length [] = 0
first_length (x ∷ r) = size x

-- the refusal names the first of the text's tokens `rest`, which is the first that breaks a rule, by the lowest number that applies to it, and tells its line,
-- its column and how many bytes it has
pub record RefusedThere (text : List ℕ) (number : ℕ) (at : Spot) : Type 0 where
  pub tokens : List Lexeme
  pub listed : TokensOf text 0 tokens
  pub rest : List Lexeme
  pub refused : RefusedBy tokens rest number
  pub place_is : spot_of text (token_start text rest) (first_length rest) ≡ at

-- what document 02 says of the length n that a refusal by `number` tells of the first of the tokens `rest`: it counts that token's bytes, so a string's quotes
-- too; it is 1 where the place is a single bad byte, and 0 at the end of the text and only there; an unended string goes to the end of the text
pub record Lengths (text : List ℕ) (number n : ℕ) (rest : List Lexeme) : Type 0 where
  pub counts : (x : Lexeme) (on : List Lexeme) → rest ≡ x ∷ on → n ≡ length x.bytes
  pub single : (number ≡ 3) ⊎ (number ≡ 4) → n ≡ 1
  pub to_the_end : number ≡ 5 → token_start text rest + n ≡ length text
  pub none_exactly : (n ≡ 0) ↔ (rest ≡ [])

-- A text that is not too long and is lent table enough is refused by a number, with a line, a column and a length, exactly when that holds.
unfoldable pub RefusedExactly : Type 0
RefusedExactly = (version : Version) (text : List ℕ) (room number : ℕ) (at : Spot) → length text ≤ most_text_bytes → room_for text ≤ room
    → (compiled_under version text room ≡ refused number at) ↔ RefusedThere text number at

-- A refusal gives its number and place, and zeros for policies and bytes.
unfoldable pub ZerosElsewhere : Type 0
ZerosElsewhere = (r : Result Compiled Refused) → ((compile_said r).refusal ≡ 0 → ⊥) → ((compile_said r).policies ≡ 0) × ((compile_said r).bytes ≡ 0)

-- ---- the table

-- the bytes of the policies that the tokens say, none where they are refused
unfoldable pub bytes_said : Version → reader.Answer (List Policy) → List ℕ
bytes_said version (took ps r) = compiled_bytes version ps
bytes_said version (refuse n r) = []

-- the bytes that a text compiles to under a version
abbrev pub bytes_for : Version → List ℕ → List ℕ
bytes_for version text = bytes_said version (said text)

-- They are those of the policies that the text says.
unfoldable pub BytesOfPolicies : Type 0
BytesOfPolicies = (version : Version) (text : List ℕ) (ps : List Policy) → SaysPolicies text ps → bytes_for version text ≡ compiled_bytes version ps

-- A text that is accepted has these bytes at the table's start, a function of the text and the version alone; the bytes past those stay.
unfoldable pub TextAndVersionAlone : Type 0
TextAndVersionAlone = (version : Version) (text old : List ℕ) (policies bytes : ℕ) → compiled_under version text (length old) ≡ compiled_to policies bytes
    → (take bytes (table_under version text old) ≡ bytes_for version text) × (drop bytes (table_under version text old) ≡ drop bytes old)

-- A refusal changes no byte of the table.
unfoldable pub NothingChanged : Type 0
NothingChanged = (number : ℕ) (text old : List ℕ) (refusal : ℕ) (at : Spot) → compiled_of number text (length old) ≡ refused refusal at
    → table_after number text old ≡ old

-- 8 bytes of table for each byte of text are enough.
unfoldable pub EnoughRoom : Type 0
EnoughRoom = (version : Version) (text : List ℕ) (room policies bytes : ℕ) → compiled_under version text room ≡ compiled_to policies bytes → bytes ≤ room_for text

-- No policies use no bytes.
unfoldable pub NoPoliciesNoBytes : Type 0
NoPoliciesNoBytes = (version : Version) (text : List ℕ) (room bytes : ℕ) → compiled_under version text room ≡ compiled_to 0 bytes → bytes ≡ 0

-- Policies use as many bytes under one version as under another.
unfoldable pub AsManyBytes : Type 0
AsManyBytes = (version version' : Version) (ps : List Policy) → length (compiled_bytes version ps) ≡ length (compiled_bytes version' ps)

-- ---- the recorded version

-- A table that begins with the bytes of one policy or more under a version records that version. So a table begins right under one version at most.
unfoldable pub VersionRecorded : Type 0
VersionRecorded = (version : Version) (table : List ℕ) (p : Policy) (ps : List Policy) → Begins (compiled_bytes version (p ∷ ps)) table
    → recorded table ≡ version

-- So a table into which a text with a policy was compiled records the version that it was compiled under.
unfoldable pub CompiledRecords : Type 0
CompiledRecords = (version : Version) (text old : List ℕ) (policies bytes : ℕ) → compiled_under version text (length old) ≡ compiled_to policies bytes
    → (policies ≡ 0 → ⊥) → recorded (table_under version text old) ≡ version

-- A text without policies has no version: it has the same bytes, none, under each.
unfoldable pub NoPoliciesNoVersion : Type 0
NoPoliciesNoVersion = (version : Version) → compiled_bytes version [] ≡ []

-- ---- one result, and a table that begins right

-- Any two results that the contract of `compile` allows coincide, and so do the tables.
unfoldable pub OneCompiled : Type 0
OneCompiled = (number : ℕ) (text old new new' : List ℕ) (r r' : Result Compiled Refused) → CompiledInto number text old new r → CompiledInto number text old new' r'
    → (r ≡ r') × (new ≡ new')

-- the text is a rule text of at most 8,192 bytes, and the table begins with the bytes that it compiles to under some version
pub record Begun (text table : List ℕ) : Type 0 where
  pub short : length text ≤ most_text_bytes
  pub value : List Policy
  pub belongs : SaysPolicies text value
  pub version : Version
  pub begins : Begins (compiled_bytes version value) table

-- A table begins right exactly then.
unfoldable pub BeginsExactly : Type 0
BeginsExactly = (text table : List ℕ) → (begins_of text table ≡ true) ↔ Begun text table

-- A table into which a text was compiled begins right.
unfoldable pub CompiledBegins : Type 0
CompiledBegins = (version : Version) (text old : List ℕ) (policies bytes : ℕ) → compiled_under version text (length old) ≡ compiled_to policies bytes
    → begins_of text (table_under version text old) ≡ true

-- the text is a rule text of at most 8,192 bytes that says so many policies, and the table has their entries from its beginning on, under the version that it
-- records, no more of them than the text has bytes
pub record TableHolds (text table : List ℕ) (policies entries : ℕ) : Type 0 where
  pub short : length text ≤ most_text_bytes
  pub value : List Policy
  pub is : said text ≡ took value []
  pub belongs : SaysPolicies text value
  pub many : policies ≡ length value
  pub count : entries ≡ length (policies_entries (recorded table) 0 value)
  pub few : entries ≤ length text
  pub held_all : held table 0 (policies_entries (recorded table) 0 value) ≡ true

-- What a reader of a table may count on that begins right.
unfoldable pub HeldRightly : Type 0
HeldRightly = (text table : List ℕ) (policies entries : ℕ) → held_of text table ≡ Some (table_size policies entries) → TableHolds text table policies entries
