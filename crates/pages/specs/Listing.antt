-- The sheet: which rows are listed, a page of them, and their bytes (document 01, 'The sheet'; document 02, request 6). All is said over `d`, any function that
-- gives each row its decision, and the bytes over `m` beside it, which gives each row its mark. Definitions only.
use Rattle.std.specs.Prelude.{◌≡◌, ℕ, zero, suc, ◌-◌, ◌/◌, ◌%◌, Bool, true, false, List, [], ◌∷◌, ◌++◌, length, take, drop, get_or}
use Rattle.meaning.specs.Decisions.{outcome_of, policy_of, is_allowed}
use Rattle.meaning.specs.declared.Decision.{Decision}
use Rattle.pages.specs.declared.Page.{Page}

-- a row in front of others, where the test holds
abbrev pub cons_if : Bool → ℕ → List ℕ → List ℕ
cons_if true row rows = row ∷ rows
cons_if false row rows = rows

-- of the n rows from a row on, those that are answered with yes, in order
unfoldable pub yes_of : (ℕ → Decision) → ℕ → ℕ → List ℕ
yes_of d row zero = []
yes_of d row (suc n) = cons_if (is_allowed (d row)) row (yes_of d (suc row) n)

-- the listed rows from a start row on, where there are `rows` rows in all
unfoldable pub listed : (ℕ → Decision) → ℕ → ℕ → List ℕ
listed d rows start = yes_of d start (rows - start)

-- a page: as many of them as there is room for
unfoldable pub page_rows : (ℕ → Decision) → ℕ → ℕ → ℕ → List ℕ
page_rows d rows start room = take room (listed d rows start)

-- the first listed row at or after the start that has no room on the page, else the number of rows
unfoldable pub next_row : (ℕ → Decision) → ℕ → ℕ → ℕ → ℕ
next_row d rows start room = get_or (listed d rows start) room rows

-- so many bytes of a number, the lowest first
abbrev pub low_first : ℕ → ℕ → List ℕ
low_first zero n = []
low_first (suc k) n = n % 256 ∷ low_first k (n / 256)

-- a listed row has so many bytes: row number, four bytes, little-endian; outcome; policy; mark, eight bytes, little-endian
abbrev pub row_size : ℕ
row_size = 14

abbrev pub listed_bytes : ℕ → ℕ → ℕ → ℕ → List ℕ
listed_bytes row outcome policy mark = low_first 4 row ++ outcome ∷ policy ∷ low_first 8 mark

-- the bytes of a row with its decision and mark
abbrev pub row_bytes : ℕ → Decision → ℕ → List ℕ
row_bytes row d mark = listed_bytes row (outcome_of d) (policy_of d) mark

-- and of rows, one after the other
unfoldable pub rows_bytes : (ℕ → Decision) → (ℕ → ℕ) → List ℕ → List ℕ
rows_bytes d m [] = []
rows_bytes d m (row ∷ rows) = row_bytes row (d row) (m row) ++ rows_bytes d m rows

-- a part with some bytes written over its start
abbrev pub over : List ℕ → List ℕ → List ℕ
over bytes part = bytes ++ drop (length bytes) part

-- how many rows fit
abbrev pub room_in : List ℕ → ℕ
room_in part = length part / row_size

-- what writing a page into a part does: the answer, and the part's bytes after it
pub record PageWritten (d : ℕ → Decision) (m : ℕ → ℕ) (rows start : ℕ) (before : List ℕ) (page : Page) (after : List ℕ) : Type 0 where
  pub written : page.written ≡ length (page_rows d rows start (room_in before))
  pub next : page.next ≡ next_row d rows start (room_in before)
  pub bytes : after ≡ over (rows_bytes d m (page_rows d rows start (room_in before))) before
