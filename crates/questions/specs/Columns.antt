-- Candidates and columns: where each ends, and what tells it from the others. Definitions only.
use Rattle.std.specs.Prelude.{ℕ, ◌+◌, ◌-◌, ◌≤◌, ◌≡◌, List, Bool, ◌&&◌, cond, ltb, leb, eqb, length, Option, Some}
use Rattle.slices.specs.Parts.{part}
use Rattle.bags.specs.Reading.{byte, only, many, each}
use Rattle.bags.specs.Paths.{is_path}
use Rattle.bags.specs.Values.{value_end}
use Rattle.questions.specs.Distinct.{distinct}
use Rattle.questions.specs.Sizes.{most_candidates}

-- a candidate: a kind byte and a value; kind 0 has no value
unfoldable pub candidate_end : List ℕ → ℕ → Option ℕ
candidate_end s at = only (ltb at (length s)) (cond (eqb (byte s at) 0) (Some (at + 1)) (value_end (byte s at) s (at + 1)))

-- of the column at a place: its path, after the root byte and the path's length, and where its count byte stands
abbrev pub column_path : List ℕ → ℕ → List ℕ
column_path s at = part s (at + 2) (byte s (at + 1))

abbrev pub count_at : List ℕ → ℕ → ℕ
count_at s at = at + 2 + byte s (at + 1)

-- what tells a candidate from the others: its bytes
unfoldable pub candidate_bytes : List ℕ → ℕ → ℕ → List ℕ
candidate_bytes s at e = part s at (e - at)

-- what tells a column from the others: its root byte, path length and path
unfoldable pub column_bytes : List ℕ → ℕ → ℕ → List ℕ
column_bytes s at e = part s at (2 + byte s (at + 1))

-- n candidates with different bytes
unfoldable pub candidates_end : ℕ → List ℕ → ℕ → Option ℕ
candidates_end n s at = only (distinct (each n (candidate_end s) (candidate_bytes s) at)) (many n (candidate_end s) at)

-- a root byte of 1 to 3, and a count byte of 1 to 8
unfoldable pub head_ok : ℕ → ℕ → Bool
head_ok root count = leb 1 root && leb root 3 && leb 1 count && leb count most_candidates

-- a column: a root byte, a path length, the path, a count byte, and that many candidates
unfoldable pub column_end : List ℕ → ℕ → Option ℕ
column_end s at =
    only (ltb (count_at s at) (length s) && head_ok (byte s at) (byte s (count_at s at)) && is_path (column_path s at))
    (candidates_end (byte s (count_at s at)) s (count_at s at + 1))

-- n columns with different roots and paths
unfoldable pub columns_end : ℕ → List ℕ → ℕ → Option ℕ
columns_end n s at = only (distinct (each n (column_end s) (column_bytes s) at)) (many n (column_end s) at)

-- r is where the name of the element from `at` to `e` ends
pub record NameEnd (name : List ℕ → ℕ → ℕ → List ℕ) (s : List ℕ) (at e r : ℕ) : Type 0 where
  pub low : at ≤ r
  pub high : r ≤ length s
  pub is : name s at e ≡ part s at (r - at)
