-- Reserved words. Definitions only.
use Rattle.std.specs.Prelude.{ℕ, suc, Bool, false, cond, ◌||◌, List, [], ◌∷◌, map}
use Rattle.slices.specs.Ascii.{bytes}
use Rattle.slices.specs.Same.{same}
use Rattle.tokens.specs.Kinds.{name, permit_word}

-- the reserved words
unfoldable pub reserved : List (List ℕ)
reserved =
    map bytes
    ("permit"
    ∷ "forbid"
    ∷ "when"
    ∷ "principal"
    ∷ "resource"
    ∷ "action"
    ∷ "env"
    ∷ "is"
    ∷ "in"
    ∷ "has"
    ∷ "like"
    ∷ "true"
    ∷ "false"
    ∷ "if"
    ∷ "then"
    ∷ "else"
    ∷ "containsAll"
    ∷ "containsAny"
    ∷ [])

-- the number of the first of `words` that is the word, where they count from `first` on; any other word is a name
unfoldable pub kind_among : List (List ℕ) → ℕ → List ℕ → ℕ
kind_among [] first word = name
kind_among (w ∷ more) first word = cond (same word w) first (kind_among more (suc first) word)

-- a word's kind
abbrev pub word_kind : List ℕ → ℕ
word_kind word = kind_among reserved permit_word word

-- a word is one of these
unfoldable pub is_among : List (List ℕ) → List ℕ → Bool
is_among [] word = false
is_among (w ∷ more) word = same word w || is_among more word

-- a word is reserved
abbrev pub is_reserved_word : List ℕ → Bool
is_reserved_word word = is_among reserved word
