-- The line and the column of a byte, both from 1: a line feed ends a line, and columns count characters (document 02, request 5). Definitions only.
use Rattle.std.specs.Prelude.{◌≡◌, ◌≢◌, cond, List, [], ◌∷◌, ◌++◌, ℕ, zero, suc, ◌+◌, eqb, length}
use Prim.Native.Char.{code}
use Rattle.utf8.specs.Characters.{Character}
use Rattle.utf8.specs.Reading.{utf8, goes_on_character}
use Rattle.places.specs.declared.Counting.{Counting}
use Rattle.places.specs.declared.Counting.TheVariants.{Outside, Characters, Bytes}
use Rattle.places.specs.declared.Place.{Place}

-- a line and a column
abbrev pub place : ℕ → ℕ → Place
place line column = record { line = line; column = column }

-- a string's bytes, where these begin: up to the next quote, or to the end of the text
unfoldable pub up_to_quote : List ℕ → List ℕ
up_to_quote [] = []
up_to_quote (b ∷ rest) = cond (eqb b (code "\"")) [] (b ∷ up_to_quote rest)

-- in a string that is UTF-8 characters count, in any other each byte; it is judged whole, whatever stands in it
abbrev pub judged : List ℕ → Counting
judged rest = cond (utf8 (up_to_quote rest)) Characters Bytes

-- how the bytes behind a quote count, where these follow it: it opens a string or ends one
abbrev pub behind_quote : List ℕ → Counting → Counting
behind_quote rest Outside = judged rest
behind_quote rest Characters = Outside
behind_quote rest Bytes = Outside

-- how the bytes behind a byte count, where these follow it
unfoldable pub behind_byte : ℕ → List ℕ → Counting → Counting
behind_byte b rest k = cond (eqb b (code "\"")) (behind_quote rest k) k

-- how many columns a byte takes: one; but where characters count, a byte that goes on a character takes none
unfoldable pub columns_taken : Counting → ℕ → ℕ
columns_taken Outside b = 1
columns_taken Characters b = cond (goes_on_character b) 0 1
columns_taken Bytes b = 1

-- the place after a byte
unfoldable pub past : Counting → ℕ → Place → Place
past k b p = cond (eqb b (code "\n")) (place (p.line + 1) 1) (place p.line (p.column + columns_taken k b))

-- the place after the first n bytes of a text, or after all
unfoldable pub past_all : ℕ → List ℕ → Counting → Place → Place
past_all zero text k p = p
past_all (suc n) [] k p = p
past_all (suc n) (b ∷ rest) k p = past_all n rest (behind_byte b rest k) (past k b p)

-- the place of the byte at an offset, or of the text's end
abbrev pub place_of : List ℕ → ℕ → Place
place_of text at = past_all at text Outside (place 1 1)

-- Where characters count, a character of a string takes one column, however many bytes it has.
unfoldable pub OneColumn : Type 0
OneColumn = (c : List ℕ) (number n : ℕ) (rest : List ℕ) (p : Place) → Character c number → number ≢ code "\"" → number ≢ code "\n"
    → past_all (length c + n) (c ++ rest) Characters p ≡ past_all n rest Characters (place p.line (p.column + 1))
