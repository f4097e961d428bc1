-- `Matches` as a test that computes. Definitions only.
use Rattle.std.specs.Prelude.{Bool, true, false, not, ◌&&◌, ◌||◌, cond, List, [], ◌∷◌, ℕ, eqb}
use Rattle.utf8.specs.Reading.{utf8, points}
use Rattle.patterns.specs.Like.{star, question_mark, colon}

-- whether a pattern's character that is no star stands for a character
unfoldable pub stands : ℕ → ℕ → Bool
stands x c = cond (eqb x question_mark) (not (eqb c colon)) (eqb x c)

-- such a character, and then what f tests
unfoldable pub steps : ℕ → (List ℕ → Bool) → List ℕ → Bool
steps x f [] = false
steps x f (c ∷ s) = stands x c && f s

-- a star, and then what f tests
unfoldable pub runs : (List ℕ → Bool) → List ℕ → Bool
runs f [] = f []
runs f (c ∷ s) = f (c ∷ s) || (not (eqb c colon) && runs f s)

-- whether a pattern matches a string whole
unfoldable pub likes : List ℕ → List ℕ → Bool
likes [] [] = true
likes [] (c ∷ s) = false
likes (x ∷ p) s = cond (eqb x star) (runs (likes p) s) (steps x (likes p) s)

-- whether a string's bytes are UTF-8 and its characters matched by a pattern's: other bytes match no pattern, not even `*`
unfoldable pub likes_text : List ℕ → List ℕ → Bool
likes_text p s = utf8 s && likes (points p) (points s)
