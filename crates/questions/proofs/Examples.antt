-- Worked examples of questions. Assumes nothing.
use Prim.Native.Nat.{ℕ, zero, suc}
use Prim.Native.String.{String}
use mathlib.Core.Bool.{true, false}
use mathlib.Core.List.{List, [], ◌∷◌, ◌++◌}
use mathlib.Core.Path.{◌≡◌, refl}
use lib.ListN.{length, replicate}
use Rattle.slices.specs.Ascii.{bytes}
use Rattle.bags.specs.Sections.{is_bag}
use Rattle.questions.specs.Questions.{is_question, head_of, cell, rows_of}
use Rattle.questions.proofs.Opened.{questions_opened}

-- a question with an empty base
abbrev asked : ℕ → List ℕ → List ℕ
asked n columns = 0 ∷ 0 ∷ 0 ∷ n ∷ columns

abbrev column : ℕ → String → List ℕ → List ℕ
column root path candidates = root ∷ length (bytes path) ∷ (bytes path ++ candidates)

-- absent, 0 and -0
abbrev grades : List ℕ
grades = 3 ∷ 0 ∷ 2 ∷ 0 ∷ 0 ∷ 0 ∷ 0 ∷ 0 ∷ 0 ∷ 0 ∷ 0 ∷ 2 ∷ 0 ∷ 0 ∷ 0 ∷ 0 ∷ 0 ∷ 0 ∷ 0 ∷ 128 ∷ []

-- "own" and a flag
abbrev hired : List ℕ
hired = 2 ∷ 1 ∷ 3 ∷ (bytes "own" ++ (3 ∷ 1 ∷ []))

abbrev both : List ℕ
both = asked 2 (column 1 "grade" grades ++ column 2 "hired" hired)

pub questions :
    (is_question (asked 0 []) ≡ true)
    × (is_question (0 ∷ 0 ∷ 0 ∷ []) ≡ false)
    × (is_bag (asked 0 []) ≡ false)
    × (is_question both ≡ true)
    × (is_question (both ++ (0 ∷ [])) ≡ false)
    × (is_question (asked 1 (column 1 "grade" (0 ∷ []))) ≡ false)
    × (is_question (asked 1 (column 4 "grade" hired)) ≡ false)
    × (is_question (asked 1 (column 1 "if" hired)) ≡ false)
    × (is_question (asked 1 (column 1 "grade" (2 ∷ 0 ∷ 0 ∷ []))) ≡ false)
    × (is_question (asked 2 (column 1 "hired" hired ++ column 2 "hired" hired)) ≡ true)
    × (is_question (asked 2 (column 1 "hired" hired ++ column 1 "hired" (1 ∷ 0 ∷ []))) ≡ false)
unfolding questions_opened
questions = (refl, refl, refl, refl, refl, refl, refl, refl, refl, refl, refl)

-- n columns of one candidate, whose paths are k times a, once more each time
abbrev many_columns : ℕ → ℕ → List ℕ
many_columns zero k = []
many_columns (suc n) k = 1 ∷ k ∷ (replicate k 97 ++ (1 ∷ 0 ∷ many_columns n (suc k)))

-- n strings of one byte, each one higher than the one before it
abbrev many_strings : ℕ → ℕ → List ℕ
many_strings zero b = []
many_strings (suc n) b = 1 ∷ 1 ∷ b ∷ many_strings n (suc b)

-- columns and candidates at their limits, and one above
pub limits :
    (is_question (asked 6 (many_columns 6 1)) ≡ true)
    × (is_question (asked 7 (many_columns 7 1)) ≡ false)
    × (is_question (asked 1 (column 1 "a" (8 ∷ many_strings 8 0))) ≡ true)
    × (is_question (asked 1 (column 1 "a" (9 ∷ many_strings 9 0))) ≡ false)
unfolding questions_opened
limits = (refl, refl, refl, refl)

-- the places of `both` by column and choice, and its rows
pub places :
    (head_of both 4 0 ≡ 4)
    × (head_of both 4 1 ≡ 31)
    × (cell both 4 2 0 0 ≡ 12)
    × (cell both 4 2 0 1 ≡ 13)
    × (cell both 4 2 0 2 ≡ 22)
    × (cell both 4 2 0 3 ≡ 0)
    × (cell both 4 2 1 1 ≡ 44)
    × (cell both 4 2 2 0 ≡ 0)
    × (rows_of 2 both 4 ≡ 6)
    × (rows_of 0 both 4 ≡ 1)
unfolding questions_opened
places = (refl, refl, refl, refl, refl, refl, refl, refl, refl, refl)
