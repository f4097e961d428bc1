-- The lines that are printed of a page's rows, in decimal digits. Definitions only.
use Rattle.std.specs.Prelude.{◌≡◌, List, [], ◌∷◌, ◌++◌, ℕ, zero, suc, ◌≤◌, length, get_or, take, drop}
use Rattle.folder.specs.Decimals.{numbers_line}
use Rattle.pages.specs.Listing.{row_size}
use Rattle.pages.specs.Lines.{little_endian}

-- the line of the row whose bytes come first: row number, outcome, policy and mark, in decimal digits
unfoldable pub row_at : List ℕ → List ℕ
row_at s = numbers_line (little_endian (take 4 s) ∷ get_or s 4 0 ∷ get_or s 5 0 ∷ little_endian (take 8 (drop 6 s)) ∷ [])

-- the lines of so many rows
unfoldable pub row_lines : ℕ → List ℕ → List ℕ
row_lines zero s = []
row_lines (suc n) s = row_at s ++ row_lines n (drop row_size s)

-- the buffer is filled with the lines of so many rows of a page
pub record RowsPut (page : List ℕ) (written : ℕ) (new : List ℕ) (filled : ℕ) : Type 0 where
  pub lines : take filled new ≡ row_lines written page
  pub inside : filled ≤ length new
