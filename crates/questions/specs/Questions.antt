-- Questions, the places of their columns and candidates, and the number of their rows. Definitions only.
use Rattle.std.specs.Prelude.{ℕ, ◌+◌, ◌*◌, ◌<◌, ◌≤◌, ◌≡◌, List, [], ◌∷◌, Bool, false, ◌&&◌, cond, ltb, leb, length, None, Option, Some}
use Rattle.bags.specs.Reading.{byte, only, ends_at, end_place, many, each}
use Rattle.bags.specs.Sections.{sections_of, Sectioned}
use Rattle.bags.specs.declared.sections.Sections.{Sections}
use Rattle.questions.specs.Columns.{candidate_end, count_at, column_end, columns_end}
use Rattle.questions.specs.Sizes.{most_question_bytes, most_columns}

-- the fourth section: a count byte of 0 to 6, and that many columns
unfoldable pub fourth_end : List ℕ → ℕ → Option ℕ
fourth_end s at = only (ltb at (length s) && leb (byte s at) most_columns) (columns_end (byte s at) s (at + 1))

-- whether the columns follow the three sections, with nothing after them
abbrev pub follows : List ℕ → Option Sections → Bool
follows s (Some p) = ends_at (fourth_end s p.end) (length s)
follows s None = false

-- a question: the three sections of a bag and the columns, with nothing after them, 4,096 bytes at most
unfoldable pub is_question : List ℕ → Bool
is_question s = leb (length s) most_question_bytes && follows s (sections_of s)

-- of a question whose sections are p: these are whole, and after their end stand at most 6 columns, which end at `last`
pub record Question (s : List ℕ) (p : Sections) : Type 0 where
  pub sections : Sectioned s p
  pub counted : p.end < length s
  pub few : byte s p.end ≤ most_columns
  pub last : ℕ
  pub columns : many (byte s p.end) (column_end s) (p.end + 1) ≡ Some last

-- ---- places, by column and choice

-- where column i of those from a place on starts
abbrev pub head_of : List ℕ → ℕ → ℕ → ℕ
head_of s at i = end_place (many i (column_end s) at)

-- how many candidates the column at a place has
abbrev pub count_of : List ℕ → ℕ → ℕ
count_of s c = byte s (count_at s c)

-- where the kind byte of candidate j of the column at a place stands, and 0 where there is none
unfoldable pub choice_at : List ℕ → ℕ → ℕ → ℕ
choice_at s c j = cond (ltb j (count_of s c)) (end_place (many j (candidate_end s) (count_at s c + 1))) 0

-- the same for column i of the n columns from a place on
unfoldable pub cell : List ℕ → ℕ → ℕ → ℕ → ℕ → ℕ
cell s at n i j = cond (ltb i n) (choice_at s (head_of s at i) j) 0

-- ---- rows

-- the product of numbers, 1 where there are none
abbrev pub product : List ℕ → ℕ
product [] = 1
product (n ∷ ns) = n * product ns

-- the number of rows: the product of the counts of the n columns from a place on
unfoldable pub rows_of : ℕ → List ℕ → ℕ → ℕ
rows_of n s at = product (each n (column_end s) (λ c e. count_of s c) at)
