-- What compiling answers and leaves in the table, and whether a table begins right, as functions of the version, the text and the table that is lent.
-- Crate compiling_promise says what these functions promise. Definitions only.
use Rattle.std.specs.Prelude.{◌≡◌, Bool, false, List, ◌++◌, ℕ, ◌*◌, length, drop, ltb, Option, Some, None, Result, Ok, Err}
use Rattle.places.specs.Places.{place_of}
use Rattle.tokens.specs.Sizes.{most_text_bytes}
use Rattle.reading.specs.Lexemes.{choose, tokens_of}
use Rattle.reading.specs.Reader as reader
use Rattle.reading.specs.Reader.{took, refuse}
use Rattle.grammar.specs.Policies.{Policy}
use Rattle.grammar.specs.Parser.{read_text}
use Rattle.grammar.specs.Versions.{if_version}
use Rattle.grammar.specs.declared.Version.{Version}
use Rattle.table.specs.Entries.{policies_entries}
use Rattle.table.specs.Layout.{entry_size, bytes_of, starts_with}
use Rattle.table.specs.Recorded.{recorded}
use Rattle.parts.specs.Answers.{refusal_at}
use Rattle.parts.specs.declared.answers.Refusal.{Refusal}
use Rattle.compiling.specs.declared.TableSize.{TableSize}
use Rattle.compiling.specs.declared.Unaccepted.{Unaccepted}
use Rattle.compiling.specs.declared.Unaccepted.TheVariants.{Unfit, Turned}
use Rattle.compiling.specs.declared.Spot.{Spot}
use Rattle.compiling.specs.declared.Compiled.{Compiled}
use Rattle.compiling.specs.declared.Refused.{Refused}

-- how many bytes of table must be lent for each byte of text
abbrev pub table_per_byte : ℕ
table_per_byte = 8

-- and for a text
abbrev pub room_for : List ℕ → ℕ
room_for text = table_per_byte * length text

-- what the text's tokens say: the policies, or the number of a refusal and the tokens from the refused one on
unfoldable pub said : List ℕ → reader.Answer (List Policy)
said text = read_text (tokens_of text)

-- the bytes that policies compile to under a version
unfoldable pub compiled_bytes : Version → List Policy → List ℕ
compiled_bytes version ps = bytes_of (policies_entries version 0 ps)

-- how many policies a text has and how many entries they take
abbrev pub table_size : ℕ → ℕ → TableSize
table_size policies entries = record { policies = policies; entries = entries }

-- what compiling answers where nothing is refused, and what it tells of a refusal
abbrev pub compiled_to : ℕ → ℕ → Result Compiled Refused
compiled_to policies bytes = Ok (record { policies = policies; bytes = bytes })

abbrev pub refused : ℕ → Spot → Result Compiled Refused
refused number at = Err (record { number = number; spot = at })

-- what is found by what the tokens say: how many policies and entries, or the refusal with its place
unfoldable pub found_by : Version → List ℕ → reader.Answer (List Policy) → Result TableSize Unaccepted
found_by version text (took ps r) = Ok (table_size (length ps) (length (policies_entries version 0 ps)))
found_by version text (refuse n r) = Err (Turned (refusal_at text n r))

-- what is found where so many bytes of table are lent. 1: the text is too long; 2: the table has under 8 bytes for a byte of text; else by what the tokens say
unfoldable pub found_of : Version → List ℕ → ℕ → Result TableSize Unaccepted
found_of version text room =
    choose (ltb most_text_bytes (length text)) (λ _. Err (Unfit 1))
    (λ _. choose (ltb room (room_for text)) (λ _. Err (Unfit 2)) (λ _. found_by version text (said text)))

-- a line, a column and a length
abbrev pub spot : ℕ → ℕ → ℕ → Spot
spot line column size = record { line = line; column = column; length = size }

-- no place: the refusal goes by a size
abbrev pub nowhere : Spot
nowhere = spot 0 0 0

-- where so many bytes stand from a place on
abbrev pub spot_of : List ℕ → ℕ → ℕ → Spot
spot_of text at size = spot (place_of text at).line (place_of text at).column size

-- what is told of a refusal at a token: its number, where the token stands, and its length
abbrev pub told_at : List ℕ → Refusal → Refused
told_at text f = record { number = f.number; spot = spot_of text f.start f.size }

-- what is told of a text that is not accepted; a refusal by a size has no place
abbrev pub refused_for : List ℕ → Unaccepted → Refused
refused_for text (Unfit number) = record { number = number; spot = nowhere }
refused_for text (Turned f) = told_at text f

-- what is told of what is found: policies and bytes used; or the refusal's number, and where the token stands that is refused, with its length; 1 and 2 have
-- no place
unfoldable pub told_of : List ℕ → Result TableSize Unaccepted → Result Compiled Refused
told_of text (Ok found) = compiled_to found.policies (entry_size * found.entries)
told_of text (Err why) = Err (refused_for text why)

-- what compiling under a version answers where so many bytes of table are lent
unfoldable pub compiled_under : Version → List ℕ → ℕ → Result Compiled Refused
compiled_under version text room = told_of text (found_of version text room)

-- the same under the version that a number names; 30 before all where it names none
unfoldable pub compiled_of : ℕ → List ℕ → ℕ → Result Compiled Refused
compiled_of number text room = if_version number (λ version. compiled_under version text room) (refused 30 nowhere)

-- document 01's numbers for an answer: the refusal's, with its line, column and length, and the policies and the bytes used
pub record CompileSaid : Type 0 where
  pub refusal : ℕ
  pub line : ℕ
  pub column : ℕ
  pub size : ℕ
  pub policies : ℕ
  pub bytes : ℕ

-- what each answer says: zeros where there is nothing to say
unfoldable pub compile_said : Result Compiled Refused → CompileSaid
compile_said (Ok c) = record { refusal = 0; line = 0; column = 0; size = 0; policies = c.policies; bytes = c.bytes }
compile_said (Err r) = record { refusal = r.number; line = r.spot.line; column = r.spot.column; size = r.spot.length; policies = 0; bytes = 0 }

-- the table afterwards, by what the tokens say
unfoldable pub table_by : Version → reader.Answer (List Policy) → List ℕ → List ℕ
table_by version (took ps r) old = compiled_bytes version ps ++ drop (length (compiled_bytes version ps)) old
table_by version (refuse n r) old = old

-- the table afterwards, under a version: the compiled bytes and then what was there; after a refusal all that was there
unfoldable pub table_under : Version → List ℕ → List ℕ → List ℕ
table_under version text old =
    choose (ltb most_text_bytes (length text)) (λ _. old) (λ _. choose (ltb (length old) (room_for text)) (λ _. old) (λ _. table_by version (said text) old))

-- the same under the version that a number names; where it names none all that was there
unfoldable pub table_after : ℕ → List ℕ → List ℕ → List ℕ
table_after number text old = if_version number (λ version. table_under version text old) old

-- what `compile` promises: its answer, and what is in the table afterwards
pub record CompiledInto (number : ℕ) (text old new : List ℕ) (r : Result Compiled Refused) : Type 0 where
  pub answered : r ≡ compiled_of number text (length old)
  pub table : new ≡ table_after number text old

-- what a table holds of what the tokens say, under the version that it records
unfoldable pub held_by : List ℕ → reader.Answer (List Policy) → Option TableSize
held_by table (took ps r) =
    choose (starts_with (compiled_bytes (recorded table) ps) table) (λ _. Some (table_size (length ps) (length (policies_entries (recorded table) 0 ps)))) (λ _. None)
held_by table (refuse n r) = None

-- how many policies and entries a text has that compiles and whose table begins with its bytes; the table's room is not asked for
unfoldable pub held_of : List ℕ → List ℕ → Option TableSize
held_of text table = choose (ltb most_text_bytes (length text)) (λ _. None) (λ _. held_by table (said text))

-- whether a table begins with the bytes of what the tokens say, under the version that it records
unfoldable pub begins_by : List ℕ → reader.Answer (List Policy) → Bool
begins_by table (took ps r) = starts_with (compiled_bytes (recorded table) ps) table
begins_by table (refuse n r) = false

-- whether a text compiles and the table begins with its bytes; the table's room is not asked for
unfoldable pub begins_of : List ℕ → List ℕ → Bool
begins_of text table = choose (ltb most_text_bytes (length text)) (λ _. false) (λ _. begins_by table (said text))
