-- Paths: names joined by dots, 64 bytes at most. A name is a word that is not reserved. Definitions only.
use Prim.Native.Char.{code}
use Rattle.std.specs.Prelude.{ℕ, Bool, true, ◌&&◌, cond, List, [], ◌∷◌, leb, eqb, length, get_or}
use Rattle.tokens.specs.Kinds.{name}
use Rattle.tokens.specs.Runs.{is_of}
use Rattle.tokens.specs.Words.{word_kind}
use Rattle.tokens.specs.declared.classes.Sort.TheVariants.{Letters, WordBytes}
use Rattle.tokens.specs.Sizes.{most_path_bytes}

-- whether a test holds of each
unfoldable pub every : {A : Type 0} → (A → Bool) → List A → Bool
every test [] = true
every test (x ∷ xs) = test x && every test xs

-- a word: a letter, then letters, digits, `_`, `-`
abbrev pub is_word_bytes : List ℕ → Bool
is_word_bytes w = is_of Letters (get_or w 0 0) && every (is_of WordBytes) w

-- any word but a reserved one
unfoldable pub is_name : List ℕ → Bool
is_name w = is_word_bytes w && eqb (word_kind w) name

-- a byte more at the front of the first piece
abbrev pub onto : ℕ → List (List ℕ) → List (List ℕ)
onto b [] = (b ∷ []) ∷ []
onto b (p ∷ ps) = (b ∷ p) ∷ ps

-- the pieces between the dots
unfoldable pub dot_pieces : List ℕ → List (List ℕ)
dot_pieces [] = [] ∷ []
dot_pieces (b ∷ rest) = cond (eqb b (code ".")) ([] ∷ dot_pieces rest) (onto b (dot_pieces rest))

-- a path: names joined by dots, 64 bytes at most
unfoldable pub is_path : List ℕ → Bool
is_path p = leb (length p) most_path_bytes && every is_name (dot_pieces p)
