-- Texts that are laid out token by token, each with any blanks before it. Definitions only.
use Rattle.std.specs.Prelude.{◌≡◌, true, cond, List, [], ◌∷◌, ◌++◌, ℕ, ◌+◌, ◌≤◌, leb, length, get_or}
use Prim.Native.Char.{code}
use Rattle.tokens.specs.Forms.{All, Form, size_of, most_of}
use Rattle.tokens.specs.Kinds as kinds
use Rattle.tokens.specs.declared.classes.Sort.TheVariants.{Blanks}
use Rattle.reading.specs.Lexemes.{Lexeme}
use Rattle.spelling.specs.Spelling.{Spelling, lexeme_at, apart}

-- a token as it is written: the blanks before it, its kind and its bytes
pub record WrittenToken : Type 0 where
  pub blanks : List ℕ
  pub kind : ℕ
  pub bytes : List ℕ

-- the same in one line
abbrev pub written : List ℕ → ℕ → List ℕ → WrittenToken
written b kind p = record { blanks = b; kind = kind; bytes = p }

-- the text of tokens one behind the other
unfoldable pub laid_out : List WrittenToken → List ℕ
laid_out [] = []
laid_out (x ∷ xs) = x.blanks ++ (x.bytes ++ laid_out xs)

-- the kind that bytes of a kind's form are read as: a token beyond its size is too long
unfoldable pub reads_as : ℕ → List ℕ → ℕ
reads_as kind p = cond (leb (size_of kind p) (most_of kind)) kind kinds.too_long

-- a written token as it is read, where its blanks begin at a place
abbrev pub lexeme_of : ℕ → WrittenToken → Lexeme
lexeme_of at x = lexeme_at (at + length x.blanks) (reads_as x.kind x.bytes) x.bytes

-- tokens one behind the other as they are read, where the text of them begins at a place
unfoldable pub standing : ℕ → List WrittenToken → List Lexeme
standing at [] = []
standing at (x ∷ xs) = lexeme_of at x ∷ standing (at + length x.blanks + length x.bytes) xs

-- tokens that may be written one behind the other before the bytes q: blanks stand before each, its bytes have its kind's form, of any size,
-- and the byte behind them makes it no longer
pub data WellWritten : List WrittenToken → List ℕ → Type 0 where
  none : {q : List ℕ} → WellWritten [] q
  one : {x : WrittenToken} {xs : List WrittenToken} {q : List ℕ} → All Blanks x.blanks → Form x.kind x.bytes
      → apart x.bytes (get_or (laid_out xs ++ q) 0 0) ≡ true → WellWritten xs q → WellWritten (x ∷ xs) q

-- a token that is within its kind's size
pub record Sized (x : WrittenToken) : Type 0 where
  pub within : size_of x.kind x.bytes ≤ most_of x.kind

-- tokens with single blanks between them, the first behind the blanks b
unfoldable pub singly : List ℕ → List Spelling → List WrittenToken
singly b [] = []
singly b (x ∷ xs) = written b x.kind x.bytes ∷ singly (code " " ∷ []) xs

-- the text of them, with no blank before the first
abbrev pub spelled : List Spelling → List ℕ
spelled xs = laid_out (singly [] xs)
