-- Pages that are asked for one after the other, each starting where the one before says to go on. Definitions only.
use Rattle.std.specs.Prelude.{ℕ, ◌*◌, ◌≤◌, List, [], ◌∷◌, ◌++◌, take}
use Rattle.meaning.specs.declared.Decision.{Decision}
use Rattle.pages.specs.declared.Page.{Page}
use Rattle.pages.specs.Listing.{row_size, page_rows, next_row, PageWritten}

-- A list of rooms has, for each page, the number of rows that it has room for.

-- the rows of the pages, joined
unfoldable pub joined : (ℕ → Decision) → ℕ → ℕ → List ℕ → List ℕ
joined d rows start [] = []
joined d rows start (room ∷ rooms) = page_rows d rows start room ++ joined d rows (next_row d rows start room) rooms

-- where the last page says to go on
unfoldable pub go_on : (ℕ → Decision) → ℕ → ℕ → List ℕ → ℕ
go_on d rows start [] = start
go_on d rows start (room ∷ rooms) = go_on d rows (next_row d rows start room) rooms

-- every page has room for a row
pub data EachHasRoom : List ℕ → Type 0 where
  no_page : EachHasRoom []
  a_page : {room : ℕ} {rooms : List ℕ} → 1 ≤ room → EachHasRoom rooms → EachHasRoom (room ∷ rooms)

-- pages written into parts of their own: from a start row, what they wrote, joined, and where the last one says to go on
pub data Written (d : ℕ → Decision) (m : ℕ → ℕ) (rows : ℕ) : ℕ → List ℕ → ℕ → Type 0 where
  nothing : {start : ℕ} → Written d m rows start [] start
  page : {start : ℕ} {before : List ℕ} {p : Page} {after bytes : List ℕ} {last : ℕ}
      → start ≤ rows → PageWritten d m rows start before p after → Written d m rows p.next bytes last
      → Written d m rows start (take (row_size * p.written) after ++ bytes) last
