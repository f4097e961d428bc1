-- Tokens, spelled, and what may stand behind them. Definitions only.
use Rattle.std.specs.Prelude.{Bool, true, cond, not, ◌&&◌, ◌||◌, List, [], ◌∷◌, ℕ, ◌+◌, ◌≤◌, eqb, length, get_or}
use Prim.Native.Char.{code}
use Rattle.tokens.specs.Forms.{Form, size_of, most_of}
use Rattle.tokens.specs.Kinds as kinds
use Rattle.tokens.specs.Runs.{is_of}
use Rattle.tokens.specs.Tokens.{before_equals}
use Rattle.tokens.specs.declared.classes.Sort.TheVariants.{Digits, Letters, WordBytes}
use Rattle.reading.specs.Lexemes.{Lexeme}
use Rattle.reading.specs.Lexemes as lexemes

-- a token, spelled: its kind, and bytes that have the kind's form and are within its size
pub record Spelling : Type 0 where
  pub kind : ℕ
  pub bytes : List ℕ
  pub form : Form kind bytes
  pub fits : size_of kind bytes ≤ most_of kind

-- a token that starts at a place
abbrev pub lexeme_at : ℕ → ℕ → List ℕ → Lexeme
lexeme_at start kind p = record { kind = kind; start = start; end = start + length p; bytes = p }

-- what a token says, apart from its place; and what a spelling does
abbrev pub lexeme_says : Lexeme → ℕ × List ℕ
lexeme_says x = (x.kind, x.bytes)

abbrev pub spelling_says : Spelling → ℕ × List ℕ
spelling_says x = (x.kind, x.bytes)

-- the byte b behind the bytes p of a token makes it no longer (0 at the text's end): no byte of words behind a word, no digit and no point behind a number,
-- no `=` behind a mark that may have one. A number with a fraction needs no care for a point; the test asks it all the same.
unfoldable pub apart : List ℕ → ℕ → Bool
apart p b =
    cond (is_of Letters (get_or p 0 0)) (not (is_of WordBytes b))
    (cond (is_of Digits (get_or p 0 0) || eqb (get_or p 0 0) (code "-")) (not (is_of Digits b) && not (eqb b (code ".")))
    (not (eqb (length p) 1 && (before_equals (get_or p 0 0) && eqb b (code "=")))))

-- a byte that makes no token longer: of no word, no point and no `=`
unfoldable pub calm : ℕ → Bool
calm b = not (is_of WordBytes b) && (not (eqb b (code ".")) && not (eqb b (code "=")))

-- the last of some tokens, if there is one, is `;`
unfoldable pub closed : List Lexeme → Bool
closed [] = true
closed (x ∷ []) = lexemes.is kinds.semicolon x
closed (x ∷ y ∷ ts) = closed (y ∷ ts)

-- a text with these tokens may have the byte b behind it: the last token is `;`, or it is no dot and b makes no token longer
unfoldable pub border : List Lexeme → ℕ → Bool
border [] b = true
border (x ∷ []) b = lexemes.is kinds.semicolon x || (not (lexemes.is kinds.dot x) && calm b)
border (x ∷ y ∷ ts) b = border (y ∷ ts) b
