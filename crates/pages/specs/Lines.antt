-- The sheet as lines: a combination with its outcome, its deciding policy and its mark, the order of lines, and their bytes (document 01, 'The sheet'; document
-- 02, request 6). Definitions only.
use Rattle.std.specs.Prelude.{ℕ, ◌+◌, ◌*◌, ◌<◌, cond, List, [], ◌∷◌, ◌++◌, map, leb, length}
use Rattle.questions.specs.Questions.{product}
use Rattle.questions.specs.Forms.{Column}
use Rattle.pages.specs.Rows.{row_of}
use Rattle.pages.specs.Listing.{listed_bytes}

-- a line: what is chosen in each column, the outcome there, the policy that decided, and the mark
pub record Line : Type 0 where
  pub choices : List ℕ
  pub outcome : ℕ
  pub policy : ℕ
  pub mark : ℕ

-- first column slowest: of two combinations that one comes first which has the earlier choice in the first column where they differ
pub data Sooner : List ℕ → List ℕ → Type 0 where
  here : {c c' : ℕ} {cs cs' : List ℕ} → c < c' → Sooner (c ∷ cs) (c' ∷ cs')
  later : {c : ℕ} {cs cs' : List ℕ} → Sooner cs cs' → Sooner (c ∷ cs) (c ∷ cs')

-- each line comes before the next: so no combination has two
pub data InOrder : List Line → Type 0 where
  none : InOrder []
  one : {l : Line} → InOrder (l ∷ [])
  more : {l m : Line} {ls : List Line} → Sooner l.choices m.choices → InOrder (m ∷ ls) → InOrder (l ∷ m ∷ ls)

-- how many candidates each column has
abbrev pub counts : List Column → List ℕ
counts = map (λ c. length c.choices)

-- a line's bytes, where the columns have so many candidates: the number of the combination's row, the outcome, the policy and the mark
abbrev pub line_bytes : List ℕ → Line → List ℕ
line_bytes ns l = listed_bytes (row_of ns l.choices) l.outcome l.policy l.mark

-- the bytes of lines, one after the other
unfoldable pub lines_bytes : List ℕ → List Line → List ℕ
lines_bytes ns [] = []
lines_bytes ns (l ∷ ls) = line_bytes ns l ++ lines_bytes ns ls

-- the number that bytes say, the lowest first
abbrev pub little_endian : List ℕ → ℕ
little_endian [] = 0
little_endian (b ∷ bs) = b + 256 * little_endian bs

-- ---- from a row on

-- the lines whose rows are not before this one
unfoldable pub lines_from : List ℕ → ℕ → List Line → List Line
lines_from ns start [] = []
lines_from ns start (l ∷ ls) = cond (leb start (row_of ns l.choices)) (l ∷ lines_from ns start ls) (lines_from ns start ls)

-- the row of the first of these lines, and the number of rows where there is none
abbrev pub first_row : List ℕ → List Line → ℕ
first_row ns [] = product ns
first_row ns (l ∷ ls) = row_of ns l.choices
