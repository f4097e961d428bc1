-- The token that starts at a place of a text, as document 01 has it; or its refusal, 3 to 6, with the bytes that are refused. Definitions only.
use Rattle.std.specs.Prelude.{◌≡◌, ℕ, ◌+◌, ◌-◌, ◌≤◌, ◌<◌, Bool, cond, ◌&&◌, ◌||◌, List, leb, eqb, length, get_or, take, drop}
use Prim.Native.Char.{code}
use Rattle.tokens.specs.Bytes.{class_of, mark, digit, letter}
use Rattle.tokens.specs.Kinds as kinds
use Rattle.tokens.specs.Runs.{is_of, run_end}
use Rattle.tokens.specs.Words.{word_kind}
use Rattle.tokens.specs.declared.classes.Sort.TheVariants.{Blanks, WordBytes, Digits, StringBytes}
use Rattle.tokens.specs.declared.reader.Token.{Token}
use Rattle.tokens.specs.Sizes.{most_word_bytes, most_string_bytes, most_digits}

-- a token's kind, and its bytes from `start` up to `end`
abbrev pub token : ℕ → ℕ → ℕ → Token
token kind start end = record { kind = kind; start = start; end = end }

-- a byte at which no token starts, or that may not stand in a string
abbrev pub bad_byte_token : ℕ → Token
bad_byte_token at = token kinds.bad_byte at (at + 1)

-- a token of some size, which is refused where it has more than `most`
unfoldable pub sized : ℕ → ℕ → ℕ → ℕ → ℕ → Token
sized kind most size start end = cond (leb size most) (token kind start end) (token kinds.too_long start end)

-- the word from `start` up to `end`
abbrev pub word_to : List ℕ → ℕ → ℕ → Token
word_to text start end = sized (word_kind (take (end - start) (drop start text))) most_word_bytes (end - start) start end

-- a word: the longest run of word bytes, at most 64
unfoldable pub word_token : List ℕ → ℕ → Token
word_token text start = word_to text start (run_end WordBytes text start)

-- what starts with the quote at `start`, where the run of string bytes behind it goes up to `end`: a string, if a quote stands there
abbrev pub string_to : List ℕ → ℕ → ℕ → Token
string_to text start end =
    cond (leb (length text) end) (token kinds.unended start end)
    (cond (eqb (get_or text end 0) (code "\"")) (sized kinds.string most_string_bytes (end - (start + 1)) start (end + 1)) (bad_byte_token end))

-- a string: a quote, the longest run of string bytes, at most 127, and a quote
unfoldable pub string_token : List ℕ → ℕ → Token
string_token text start = string_to text start (run_end StringBytes text (start + 1))

-- whether a point and a digit stand at a place
abbrev pub fraction : List ℕ → ℕ → Bool
fraction text whole = eqb (get_or text whole 0) (code ".") && is_of Digits (get_or text (whole + 1) 0)

-- the number whose digits before the point go from `first` up to `whole`
abbrev pub number_to : List ℕ → ℕ → ℕ → ℕ → Token
number_to text start first whole =
    cond (fraction text whole)
    (sized kinds.number most_digits (run_end Digits text (whole + 1) - first - 1) start (run_end Digits text (whole + 1)))
    (sized kinds.number most_digits (whole - first) start whole)

-- a number: the longest run of digits from its first digit, which a point and the longest run of digits may follow; at most 15 digits in all
unfoldable pub number_token : List ℕ → ℕ → ℕ → Token
number_token text start first = number_to text start first (run_end Digits text first)

-- a byte that is a mark only twice in a row: `&&`, `||` and `==`
abbrev pub doubled : ℕ → Bool
doubled b = eqb b (code "&") || eqb b (code "|") || eqb b (code "=")

-- a byte that is a longer mark with `=` behind it: `!=`, `<=` and `>=`
abbrev pub before_equals : ℕ → Bool
before_equals b = eqb b (code "!") || eqb b (code "<") || eqb b (code ">")

-- a mark, by its first byte and the next; no token starts with `_`
unfoldable pub mark_token : ℕ → ℕ → ℕ → Token
mark_token start first next =
    cond (doubled first) (cond (eqb next first) (token first start (start + 2)) (bad_byte_token start))
    (cond (before_equals first && eqb next (code "=")) (token (first + 128) start (start + 2))
    (cond (eqb first (code "_")) (bad_byte_token start) (token first start (start + 1))))

-- what starts with a byte of the class of the marks, by that byte and the next: a string, a number with a minus, or a mark
abbrev pub mark_from : List ℕ → ℕ → ℕ → ℕ → Token
mark_from text start first next =
    cond (eqb first (code "\"")) (string_token text start)
    (cond (eqb first (code "-")) (cond (is_of Digits next) (number_token text start (start + 1)) (bad_byte_token start)) (mark_token start first next))

-- the same, by the text
unfoldable pub mark_at : List ℕ → ℕ → Token
mark_at text start = mark_from text start (get_or text start 0) (get_or text (start + 1) 0)

-- what is refused of a byte with which no token begins: a colon has its own number
abbrev pub stray_byte : ℕ → ℕ → Token
stray_byte start first = cond (eqb first (code ":")) (token kinds.colon_outside start (start + 1)) (bad_byte_token start)

-- what starts at a place where no blank is, by its first byte and that byte's class
abbrev pub token_by : List ℕ → ℕ → ℕ → ℕ → Token
token_by text start first class =
    cond (eqb class letter) (word_token text start)
    (cond (eqb class digit) (number_token text start start)
    (cond (eqb class mark) (mark_at text start) (stray_byte start first)))

-- what starts at a place where no blank is: the end of the text, or a token
abbrev pub token_from : List ℕ → ℕ → Token
token_from text start =
    cond (leb (length text) start) (token kinds.end_of_text start start) (token_by text start (get_or text start 0) (class_of (get_or text start 0)))

-- the token at or after a place: blanks are passed first
unfoldable pub token_at : List ℕ → ℕ → Token
token_at text at = token_from text (run_end Blanks text at)

-- what a caller may know of the token that it reads at a place: it lies in the text from there on, and only at the text's end it has no byte
pub record Reads (text : List ℕ) (at : ℕ) (t : Token) : Type 0 where
  pub low : at ≤ t.start
  pub order : t.start ≤ t.end
  pub high : t.end ≤ length text
  pub some : (t.kind ≡ kinds.end_of_text → ⊥) → t.start < t.end
