-- What the desk's promises rest on, on one page: theorems of the crates below that no other page of specs/ states. proofs/Grounded.antt cites the proof of
-- each. Definitions only. That a look-up has one answer, and that a string's bytes are one part of the bag, is in `OneResult` (Promises.antt).
use Rattle.std.specs.Prelude.{◌≡◌, true, false, cond, List, [], ◌↔◌, ℕ, ◌^◌, ◌≤◌, ◌<◌, ltb, length, get_or, pos, Some}
use Rattle.std.specs.Float.{binary64}
use Rattle.std.specs.Float.Ieee.{of_int, div}
use Rattle.slices.specs.Decides.{Decides}
use Rattle.utf8.specs.Characters.{Spells, Utf8}
use Rattle.utf8.specs.Reading.{utf8, points}
use Rattle.tokens.specs.Forms.{StandsAt}
use Rattle.places.specs.Places.{OneColumn}
use Rattle.tokens.specs.Tokens.{token_at}
use Rattle.tokens.specs.declared.reader.Token.{Token}
use Rattle.tokens.specs.Sizes.{most_digits}
use Rattle.reading.specs.Listed.{Lexeme, TokensOf}
use Rattle.reading.specs.Lexemes.{tokens_of}
use Rattle.numbers.specs.Literals.{NumberLiteral, WellFormed, literal_bytes, signed, quotient, all_digits, places, number_in}
use Rattle.patterns.specs.Like.{Matches}
use Rattle.patterns.specs.Likes.{likes, likes_text}
use Rattle.grammar.specs.Policies.{Policy}
use Rattle.grammar.specs.declared.Version.{Version}
use Rattle.placing.specs.Placed.{Each, PoliciesPlaced}
use Rattle.placing.specs.Said.{words_of}
use Rattle.placing.specs.Words.{SameWords}
use Rattle.table.specs.Entries.{policies_entries}
use Rattle.slices.specs.Parts.{Begins}
use Rattle.stored.specs.ReadBack.{policies_at}
use Rattle.compiling.specs.Outcome.{compiled_bytes}
use Rattle.bags.specs.Paths.{is_path}
use Rattle.bags.specs.Sections.{sections_of, is_bag}
use Rattle.bags.specs.Forms.{Contents, BagBytes, ABag}
use Rattle.bags.specs.declared.sections.Sections.{Sections}
use Rattle.lookups.specs.Values.{nought}
use Rattle.questions.specs.Questions.{Question, head_of, cell, is_question}
use Rattle.questions.specs.Forms.{Column, QuestionBytes, AQuestion}
use Rattle.questions.specs.Sizes.{most_columns, most_candidates}
use Rattle.views.specs.Meaning.{Datum, Bag, as_bag, Chosen, present, look, has_path, row_bag, columns_first}
use Rattle.views.specs.Rows.{row_view, bag_of_row, Chooses, picked_all}
use Rattle.deciding.specs.Answers.{view_of}
use Rattle.sheets.specs.Sheets.{columns_in, first_in}
use Rattle.desk.specs.Answers.{lookup_says}
use Rattle.desk.specs.Promises.{Says}
use Rattle.desk.specs.declared.DeskValue.{DeskValue}

-- what a look-up says of an attribute that is not there
abbrev pub not_there : DeskValue
not_there = record { refusal = 0; kind = 0; number = nought; place = 0 }

-- the places that code holds for a row of a question: where its columns start, where each candidate's kind byte stands, and where the chosen ones' do;
-- six columns, eight candidates
pub record RowHeld (question : List ℕ) (p : Sections) (choices heads : List ℕ) (grid : List (List ℕ)) (values : List ℕ) : Type 0 where
  pub question_is : Question question p
  pub chooses : Chooses (columns_in question p) question (first_in p) choices
  pub heads_are : (i : ℕ) → i < most_columns → get_or heads i 0 ≡ cond (ltb i (columns_in question p)) (head_of question (first_in p) i) 0
  pub grid_is : (i j : ℕ) → i < most_columns → j < most_candidates → get_or (get_or grid i []) j 0 ≡ cell question (first_in p) (columns_in question p) i j
  pub values_are : (i : ℕ) → i < most_columns → get_or values i 0 ≡ cond (ltb i (columns_in question p)) (get_or (get_or grid i []) (get_or choices i 0) 0) 0

-- the theorems, each after document 01's words
pub record Grounds : Type 0 where
  -- The longest possible token is read, and at each place of a text stands one token, or one refusal.
  pub longest_token : (text : List ℕ) (at : ℕ) → at ≤ length text → StandsAt text at (token_at text at)
  pub one_token : (text : List ℕ) (at : ℕ) (t u : Token) → StandsAt text at t → StandsAt text at u → t ≡ u
  -- A text's tokens are read one after the other up to its end, and it has one list of them.
  pub tokens_stand : (text : List ℕ) → TokensOf text 0 (tokens_of text)
  pub one_list : (text : List ℕ) (ts us : List Lexeme) → TokensOf text 0 ts → TokensOf text 0 us → ts ≡ us
  -- A number literal of digits N with k after the point: its value is N divided by ten to the k, rounded once to binary64, negated under a minus.
  pub written_value : (l : NumberLiteral) → WellFormed l → number_in (literal_bytes l) ≡ signed l.negative (quotient (all_digits l) (places l))
  -- the one division of two whole numbers is that quotient
  pub rounded_once : (n k : ℕ) → n ≤ 10 ^ most_digits → k ≤ most_digits → div binary64 (of_int binary64 (pos n)) (of_int binary64 (pos (10 ^ k))) ≡ quotient n k
  -- Bytes are UTF-8, and say these characters, exactly as RFC 3629's table has it.
  pub characters_exactly : (s numbers : List ℕ) → Spells s numbers ↔ ((utf8 s ≡ true) × (numbers ≡ points s))
  -- Where characters count, a character takes one column, however many bytes it has.
  pub one_column : OneColumn
  -- `like` matches as document 01 says, over characters (document 02, request 5): a string that is not UTF-8 matches no pattern.
  pub likes_decides : (pattern s : List ℕ) → Decides (Matches pattern s) (likes pattern s)
  pub text_decides : (pattern s : List ℕ) → Decides (Utf8 s × Matches (points pattern) (points s)) (likes_text pattern s)
  -- The strings, numbers and paths of a text's policies lie in the text and have their forms and sizes there.
  pub policies_placed : (text : List ℕ) (ps : List Policy) → Says text ps → PoliciesPlaced text ps
  -- A table that begins with a text's compiled bytes, under either version, says the text's policies.
  pub compiled_says : (version : Version) (text table : List ℕ) (ps : List Policy) → Says text ps → Begins (compiled_bytes version ps) table
      → policies_at table (length (policies_entries version 0 ps)) ≡ ps
  -- The policies are said without the text's other bytes: what they say depends on the bytes at the places that they hold.
  pub said_alike : (text text' : List ℕ) (ps : List Policy) → Each (SameWords text text') ps → words_of text ps ≡ words_of text' ps
  -- A bag is the three sections, with nothing after them: `is_bag` takes these bytes and no others, and they say one bag.
  pub bag_exactly : (s : List ℕ) → (is_bag s ≡ true) ↔ ABag s
  pub one_bag : (s : List ℕ) (b c : Contents) → BagBytes s b → BagBytes s c → b ≡ c
  -- What deciding sees of a bag is what the bag has that its bytes say.
  pub bag_shows : (s : List ℕ) (b : Contents) → BagBytes s b → (root : ℕ) (path : List ℕ) → view_of s root path ≡ look (as_bag b) root path
  -- A question is those sections and the columns, with nothing after them: `is_question` takes these bytes and no others, and they say one question.
  pub question_exactly : (s : List ℕ) → (is_question s ≡ true) ↔ AQuestion s
  pub one_question : (s : List ℕ) (base base' : Contents) (cs cs' : List Column) → QuestionBytes s base cs → QuestionBytes s base' cs'
      → (base ≡ base') × (cs ≡ cs')
  -- What deciding sees of a row is the base that its bytes say, with each column's attribute set to the candidate of its choice, or removed.
  pub row_holds : (s : List ℕ) (base : Contents) (cs : List Column) (p : Sections) (choices : List ℕ) → QuestionBytes s base cs → sections_of s ≡ Some p
      → Chooses (columns_in s p) s (first_in p) choices → (root : ℕ) (path : List ℕ)
      → look (bag_of_row s p (columns_in s p) (first_in p) choices) root path ≡ look (row_bag (as_bag base) (picked_all cs choices)) root path
  -- An impossible path or a root byte other than 1 to 3 is absent: kind 0, number and place 0.
  pub impossible_path : (bag : List ℕ) (root : ℕ) (path : List ℕ) → ABag bag → is_path path ≡ false → lookup_says bag root path ≡ not_there
  pub impossible_root : (bag : List ℕ) (root : ℕ) (path : List ℕ) → ABag bag → (root ≡ 1 → ⊥) → (root ≡ 2 → ⊥) → (root ≡ 3 → ⊥)
      → lookup_says bag root path ≡ not_there
  -- The base with each column's attribute set to its choice or removed shows the choices where columns are named, and else the base.
  pub row_view_is : (base : Bag) (columns : List (Chosen Datum)) (root : ℕ) (path : List ℕ)
      → look (row_bag base columns) root path ≡ columns_first columns (look base) root path
  -- So does what code shows of a row, by the places that it holds.
  pub row_shows : (question : List ℕ) (p : Sections) (choices heads : List ℕ) (grid : List (List ℕ)) (values : List ℕ) (root : ℕ) (path : List ℕ)
      → RowHeld question p choices heads grid values
      → row_view question p (columns_in question p) heads values root path ≡ look (bag_of_row question p (columns_in question p) (first_in p) choices) root path
  -- `has`: an entry with exactly that path, in a bag (a row without columns) and in a row.
  pub has_is_presence : (s : List ℕ) (p : Sections) (n at : ℕ) (choices : List ℕ) (root : ℕ) (path : List ℕ) → sections_of s ≡ Some p
      → present (look (bag_of_row s p n at choices) root path) ≡ has_path (bag_of_row s p n at choices root) path
