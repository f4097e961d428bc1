-- The tokens as document 01 words them: which bytes have the form of a token, and which token, or which refusal, stands at a place of a text: the longest possible.
-- That the token reader follows this paper, and that it leaves one token at each place, is proved in proofs/Longest.antt. Definitions only.
use Rattle.std.specs.Prelude.{◌≡◌, true, false, cond, List, [], ◌∷◌, ◌++◌, ◌⊎◌, ◌≢◌, ℕ, suc, ◌+◌, ◌-◌, ◌≤◌, ◌<◌, eqb, length, get_or, drop}
use Prim.Native.Char.{code}
use Prim.Native.String.{String}
use Rattle.slices.specs.Ascii.{bytes}
use Rattle.slices.specs.Parts.{Begins}
use Rattle.tokens.specs.Kinds as kinds
use Rattle.tokens.specs.Runs.{is_of}
use Rattle.tokens.specs.Tokens.{token, bad_byte_token}
use Rattle.tokens.specs.Words.{word_kind}
use Rattle.tokens.specs.declared.classes.Sort.{Sort}
use Rattle.tokens.specs.declared.classes.Sort.TheVariants.{Blanks, Digits, Letters, WordBytes, StringBytes}
use Rattle.tokens.specs.declared.reader.Token.{Token}
use Rattle.tokens.specs.Sizes.{most_word_bytes, most_string_bytes, most_digits}

-- ---- the forms

-- what a string stands between
abbrev pub quote : ℕ
quote = code "\""

-- bytes that are all of a sort
pub data All (sort : Sort) : List ℕ → Type 0 where
  empty : All sort []
  next : {b : ℕ} {rest : List ℕ} → is_of sort b ≡ true → All sort rest → All sort (b ∷ rest)

-- digits, at least one
pub data SomeDigits : List ℕ → Type 0 where
  digits_from : {b : ℕ} {rest : List ℕ} → is_of Digits b ≡ true → All Digits rest → SomeDigits (b ∷ rest)

-- digits, optionally `.` and digits
pub data Unsigned : List ℕ → Type 0 where
  whole : {w : List ℕ} → SomeDigits w → Unsigned w
  pointed : {w f : List ℕ} → SomeDigits w → SomeDigits f → Unsigned (w ++ code "." ∷ f)

-- optional `-` directly before them
pub data Number : List ℕ → Type 0 where
  signless : {l : List ℕ} → Unsigned l → Number l
  minus : {l : List ℕ} → Unsigned l → Number (code "-" ∷ l)

-- the marks, and their kinds
unfoldable pub marks : List (String × ℕ)
marks =
    ("(", kinds.left_round)
    ∷ (")", kinds.right_round)
    ∷ ("{", kinds.left_brace)
    ∷ ("}", kinds.right_brace)
    ∷ ("[", kinds.left_square)
    ∷ ("]", kinds.right_square)
    ∷ (",", kinds.comma)
    ∷ (";", kinds.semicolon)
    ∷ (".", kinds.dot)
    ∷ ("!", kinds.bang)
    ∷ ("&&", kinds.and)
    ∷ ("||", kinds.or)
    ∷ ("==", kinds.equal)
    ∷ ("!=", kinds.not_equal)
    ∷ (">", kinds.more)
    ∷ (">=", kinds.at_least)
    ∷ ("<", kinds.less)
    ∷ ("<=", kinds.at_most)
    ∷ []

-- one of a list of marks, by its kind and its bytes
pub data Among : List (String × ℕ) → ℕ → List ℕ → Type 0 where
  first : {s : String} {kind : ℕ} {rest : List (String × ℕ)} → Among ((s, kind) ∷ rest) kind (bytes s)
  later : {m : String × ℕ} {rest : List (String × ℕ)} {kind : ℕ} {l : List ℕ} → Among rest kind l → Among (m ∷ rest) kind l

-- a token's kind, and bytes that have its form:
-- word: a letter, then letters, digits, `_`, `-`; string: between two `"`, bytes 0x20 to 0x7E and 0x80 up, without `"`, may be empty; number; mark
pub data Form : ℕ → List ℕ → Type 0 where
  a_word : {b : ℕ} {rest : List ℕ} → is_of Letters b ≡ true → All WordBytes rest → Form (word_kind (b ∷ rest)) (b ∷ rest)
  a_string : {inside : List ℕ} → All StringBytes inside → Form kinds.string (quote ∷ (inside ++ quote ∷ []))
  a_number : {l : List ℕ} → Number l → Form kinds.number l
  a_mark : {kind : ℕ} {l : List ℕ} → Among marks kind l → Form kind l

-- ---- the sizes: word 64 bytes, string 127 inside its quotes, number 15 digits in all; no mark has more than two bytes

-- how many of some bytes are digits
unfoldable pub digits : List ℕ → ℕ
digits [] = 0
digits (b ∷ rest) = cond (is_of Digits b) (suc (digits rest)) (digits rest)

-- the size of a token, by its kind
abbrev pub size_of : ℕ → List ℕ → ℕ
size_of kind l = cond (eqb kind kinds.string) (length l - 2) (cond (eqb kind kinds.number) (digits l) (length l))

-- the largest size that is admitted
abbrev pub most_of : ℕ → ℕ
most_of kind = cond (eqb kind kinds.string) most_string_bytes (cond (eqb kind kinds.number) most_digits most_word_bytes)

-- ---- the token at a place

-- no beginning of a list has a form
pub record NoForm (l : List ℕ) : Type 0 where
  pub none : {kind : ℕ} {p : List ℕ} → Form kind p → Begins p l → ⊥

-- a beginning of a list has a form, and no longer beginning has one
pub record Longest (kind : ℕ) (p l : List ℕ) : Type 0 where
  pub form : Form kind p
  pub begins : Begins p l
  pub none_longer : {k : ℕ} {o : List ℕ} → Form k o → Begins o l → length o ≤ length p

-- the token, or the refusal, at the place `start` of a text that goes on from there with the bytes of the list; no blank stands there. In turn:
-- the end of the text; the longest form, within its size; 6, the same beyond its size; 4, a colon at which no token starts; 3, another byte at which none starts;
-- 5, a quote and bytes of a string up to the text's end; 3, the first byte behind a quote that is below 0x20 or is 0x7F, where no quote comes before it
pub data Stands (start : ℕ) : List ℕ → Token → Type 0 where
  end_of_text : Stands start [] (token kinds.end_of_text start start)
  a_token : {kind : ℕ} {p l : List ℕ} → Longest kind p l → size_of kind p ≤ most_of kind → Stands start l (token kind start (start + length p))
  a_token_too_long : {kind : ℕ} {p l : List ℕ} → Longest kind p l → most_of kind < size_of kind p → Stands start l (token kinds.too_long start (start + length p))
  a_colon : {l : List ℕ} → NoForm (code ":" ∷ l) → Stands start (code ":" ∷ l) (token kinds.colon_outside start (start + 1))
  bad_byte : {b : ℕ} {l : List ℕ} → NoForm (b ∷ l) → b ≢ code ":" → b ≢ quote → Stands start (b ∷ l) (bad_byte_token start)
  unended : {inside : List ℕ} → NoForm (quote ∷ inside) → All StringBytes inside
      → Stands start (quote ∷ inside) (token kinds.unended start (start + 1 + length inside))
  bad_inside : {inside : List ℕ} {b : ℕ} (l : List ℕ) → NoForm (quote ∷ (inside ++ b ∷ l)) → All StringBytes inside → (b < 0x20) ⊎ (b ≡ 0x7f)
      → Stands start (quote ∷ (inside ++ b ∷ l)) (bad_byte_token (start + 1 + length inside))

-- the token at or after a place: the blanks there are passed, and the rest, which may be empty, begins with none
pub record StandsAt (text : List ℕ) (at : ℕ) (t : Token) : Type 0 where
  pub blanks : List ℕ
  pub rest : List ℕ
  pub parts : drop at text ≡ blanks ++ rest
  pub passed : All Blanks blanks
  pub no_blank : is_of Blanks (get_or rest 0 0) ≡ false
  pub stands : Stands (at + length blanks) rest t
