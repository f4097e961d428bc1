-- The rows of a question: one for each way to choose a candidate in every column, the first column slowest. Definitions only.
use Rattle.std.specs.Prelude.{ℕ, suc, ◌+◌, ◌-◌, ◌*◌, ◌/◌, ◌%◌, ◌≤◌, ◌<◌, ◌≡◌, List, [], ◌∷◌, map, length, get_or}
use Rattle.bags.specs.Reading.{each}
use Rattle.questions.specs.Columns.{count_at, column_end}
use Rattle.questions.specs.Questions.{count_of, product}
use Rattle.questions.specs.Sizes.{most_columns, most_candidates}

-- how many candidates each of the n columns from a place on has
unfoldable pub counts_of : ℕ → List ℕ → ℕ → List ℕ
counts_of n s at = each n (column_end s) (λ c e. count_of s c) at

-- a combination: a choice among the candidates of each column
pub data Combination : List ℕ → List ℕ → Type 0 where
  none : Combination [] []
  chosen : {n c : ℕ} {ns cs : List ℕ} → c < n → Combination ns cs → Combination (n ∷ ns) (c ∷ cs)

-- the row of a combination, the first column slowest
unfoldable pub row_of : List ℕ → List ℕ → ℕ
row_of [] choices = 0
row_of (n ∷ ns) [] = 0
row_of (n ∷ ns) (c ∷ cs) = c * product ns + row_of ns cs

-- the choices of a row
unfoldable pub choices_at : List ℕ → ℕ → List ℕ
choices_at [] row = []
choices_at (n ∷ ns) row = row / product ns ∷ choices_at ns (row % product ns)

-- ---- what code holds of six columns: their last choices, a row's choices, and the places of what is chosen

-- the counts of columns whose last choices these are
unfoldable pub counts_by : List ℕ → List ℕ
counts_by lasts = map suc lasts

-- six columns with at most 8 candidates
pub record Few (lasts : List ℕ) : Type 0 where
  pub six : length lasts ≡ most_columns
  pub few : (i : ℕ) → i < most_columns → get_or lasts i 0 ≤ most_candidates - 1

-- n columns at these places have their count bytes, of 1 to 8
pub record Counted (s : List ℕ) (n : ℕ) (heads : List ℕ) : Type 0 where
  pub few : n ≤ most_columns
  pub inside : (i : ℕ) → i < n → count_at s (get_or heads i 0) < length s
  pub some : (i : ℕ) → i < n → 1 ≤ count_of s (get_or heads i 0)

-- the places of the chosen candidates, from those of all, by column and choice
pub record Picked (grid : List (List ℕ)) (choices values : List ℕ) : Type 0 where
  pub six : length values ≡ most_columns
  pub picked : (i : ℕ) → i < most_columns → get_or values i 0 ≡ get_or (get_or grid i []) (get_or choices i 0) 0

-- a row's choices among at most 8 candidates of six columns, and their places
pub record RowPlaced (grid : List (List ℕ)) (lasts choices values : List ℕ) : Type 0 where
  pub few : Few lasts
  pub combines : Combination (counts_by lasts) choices
  pub values_are : Picked grid choices values

-- `column` is the last column that has a choice left, or 0, and the columns before it keep their choices
pub record MovedAt (lasts before : List ℕ) (column : ℕ) (choices : List ℕ) : Type 0 where
  pub within : column < most_columns
  pub free : 0 < column → get_or before column 0 < get_or lasts column 0
  pub full : (i : ℕ) → column < i → i < most_columns → get_or lasts i 0 ≤ get_or before i 0
  pub kept : (i : ℕ) → i < column → get_or choices i 0 ≡ get_or before i 0

-- on to the next row, and from the last row to the first
pub record Moved (grid : List (List ℕ)) (lasts before : List ℕ) (column : ℕ) (choices values : List ℕ) : Type 0 where
  pub choices_are : choices ≡ choices_at (counts_by lasts) ((row_of (counts_by lasts) before + 1) % product (counts_by lasts))
  pub values_are : Picked grid choices values
  pub moved : MovedAt lasts before column choices
