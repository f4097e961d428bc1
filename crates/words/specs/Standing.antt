-- Reserved words where they stand in a text. Definitions only.
use Rattle.std.specs.Prelude.{ℕ, suc, ◌+◌, Bool, cond, not, ◌&&◌, List, [], ◌∷◌, Option, Some, None, length, get_or}
use Rattle.slices.specs.Standing.{stands_at}
use Rattle.tokens.specs.Kinds.{permit_word}
use Rattle.tokens.specs.Runs.{word_byte}
use Rattle.tokens.specs.Tokens.{token}
use Rattle.tokens.specs.Words.{reserved}
use Rattle.tokens.specs.declared.reader.Token.{Token}

-- these bytes stand at a place, and no word byte follows them
unfoldable pub ends_in : List ℕ → List ℕ → ℕ → Bool
ends_in w text at = stands_at w text at && not (word_byte (get_or text (at + length w) 0))

-- the first of `words` that so stands at a place, where their kinds count from `first` on, if one does
unfoldable pub reserved_among : List (List ℕ) → ℕ → List ℕ → ℕ → Option Token
reserved_among [] first text at = None
reserved_among (w ∷ more) first text at = cond (ends_in w text at) (Some (token first at (at + length w))) (reserved_among more (suc first) text at)

-- the reserved word at a place, if there is one
abbrev pub reserved_at : List ℕ → ℕ → Option Token
reserved_at text at = reserved_among reserved permit_word text at
