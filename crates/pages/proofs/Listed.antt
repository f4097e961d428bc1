-- Demand 3 over any decisions `d`: the list has the rows that are answered with yes, ascending, and pages joined are the list. Assumes nothing.
use mathlib.Core.Path.{◌≡◌, refl, sym, ap, ◌∙◌}
use mathlib.Core.Logic.{◌↔◌, ◌⊎◌, inl, inr, ⊎_elim}
use mathlib.Core.List.Memᴰ
use mathlib.Core.List.{List, [], ◌∷◌, ◌++◌, append_assoc, append-nil, Memᴰ}
use mathlib.Core.Bool.{Bool, true, false}
use Prim.Native.Nat.{ℕ, zero, suc, ◌+◌, ◌-◌, ◌*◌, ◌≤◌, ◌<◌}
use native.Mathlib.Nat.{le_refl, not-suc-le-zero}
use native.Mathlib.Decide.{dec_le, ℕ_discrete}
use native.Mathlib.Omega.{arith}
use lib.ListN.{length, get_or, take, drop, take-append-drop, length-drop, get_or-eq_default}
use lib.Seq.{drop-nil, take_at}
use Rattle.questions.specs.Questions.{product}
use Rattle.meaning.specs.Decisions.{is_allowed}
use Rattle.meaning.specs.declared.Decision.{Decision}
use Rattle.pages.specs.declared.Page.{Page}
use Rattle.pages.specs.Rows.{Combination, row_of, choices_at}
use Rattle.pages.specs.Listing.{cons_if, yes_of, listed, page_rows, next_row, row_size, rows_bytes, room_in, PageWritten}
use Rattle.pages.specs.Pages.{joined, go_on, EachHasRoom, no_page, a_page, Written, nothing, page}
use Rattle.pages.proofs.Combinations.{row_below, choices_of_row}
use Rattle.pages.proofs.Progress.{listed_none, bytes_length, bytes_append}

module _ (d : ℕ → Decision) (rows : ℕ) where
  pub listed_at : (n row : ℕ) → row + n ≡ rows → listed d rows row ≡ yes_of d row n
  unfolding listed
  listed_at n row e = let k : rows - row ≡ n = omega arith in rw k

  -- ---- the row to go on with

  -- from the row at a place of the list on, the list is what stands from that place on
  go_on_step : (b : Bool) (row room : ℕ) (l : List ℕ) → listed d rows row ≡ cons_if b row l
      → ((k : ℕ) → listed d rows (get_or l k rows) ≡ drop k l)
      → listed d rows (get_or (cons_if b row l) room rows) ≡ drop room (cons_if b row l)
  go_on_step true row zero l here ih = here
  go_on_step true row (suc k) l here ih = ih k
  go_on_step false row room l here ih = ih room

  go_on_lem : (n row room : ℕ) → row + n ≡ rows → listed d rows (get_or (yes_of d row n) room rows) ≡ drop room (yes_of d row n)
  unfolding yes_of
  go_on_lem zero row room e = listed_none d rows ∙ sym (drop-nil room)
  go_on_lem (suc n) row room e =
      go_on_step (is_allowed (d row)) row room (yes_of d (suc row) n) (listed_at (suc n) row e) (λ k. go_on_lem n (suc row) k (omega arith))

  -- the row to go on with is where the rows that had no room start
  pub next_lists : (start room : ℕ) → start ≤ rows → listed d rows (next_row d rows start room) ≡ drop room (listed d rows start)
  unfolding next_row
  next_lists start room h = rw (listed_at (rows - start) start (omega arith)) (go_on_lem (rows - start) start room (omega arith))

  next_le_step : (b : Bool) (row room : ℕ) (l : List ℕ) → row ≤ rows → ((k : ℕ) → get_or l k rows ≤ rows) → get_or (cons_if b row l) room rows ≤ rows
  next_le_step true row zero l h ih = h
  next_le_step true row (suc k) l h ih = ih k
  next_le_step false row room l h ih = ih room

  next_le : (n row room : ℕ) → row + n ≡ rows → get_or (yes_of d row n) room rows ≤ rows
  unfolding yes_of
  next_le zero row room e = le_refl rows
  next_le (suc n) row room e =
      next_le_step (is_allowed (d row)) row room (yes_of d (suc row) n) (omega arith) (λ k. next_le n (suc row) k (omega arith))

  pub next_within : (start room : ℕ) → start ≤ rows → next_row d rows start room ≤ rows
  unfolding next_row
  next_within start room h = rw (listed_at (rows - start) start (omega arith)) (next_le (rows - start) start room (omega arith))

  -- a page with room for a row goes on past its start, so that whoever follows the pages ends
  past_step : (b : Bool) (row room : ℕ) (l : List ℕ) → ((k : ℕ) → row < get_or l k rows) → 1 ≤ room → row < get_or (cons_if b row l) room rows
  past_step true row zero l later r = absurd (not-suc-le-zero r)
  past_step true row (suc k) l later r = later k
  past_step false row room l later r = later room

  later_step : (b : Bool) (row k : ℕ) (l : List ℕ) → ((j : ℕ) → row < get_or l j rows) → row ≤ get_or (cons_if b row l) k rows
  later_step true row zero l h = le_refl row
  later_step true row (suc k) l h = omega (arith, h k)
  later_step false row k l h = omega (arith, h k)

  later : (n row k : ℕ) → row + n ≡ rows → row ≤ get_or (yes_of d row n) k rows
  unfolding yes_of
  later zero row k e = omega arith
  later (suc n) row k e = later_step (is_allowed (d row)) row k (yes_of d (suc row) n) (λ j. later n (suc row) j (omega arith))

  past : (n row room : ℕ) → row + n ≡ rows → row < rows → 1 ≤ room → row < get_or (yes_of d row n) room rows
  unfolding yes_of
  past zero row room e h r = absurd (omega arith)
  past (suc n) row room e h r = past_step (is_allowed (d row)) row room (yes_of d (suc row) n) (λ k. later n (suc row) k (omega arith)) r

  pub next_past : (start room : ℕ) → start < rows → 1 ≤ room → start < next_row d rows start room
  unfolding next_row
  next_past start room h r = rw (listed_at (rows - start) start (omega arith)) (past (rows - start) start room (omega arith) h r)

  -- ---- pages joined

  -- what the pages list, with what is listed from there on, is the list
  pages_so_far : (rooms : List ℕ) (start : ℕ) → start ≤ rows → joined d rows start rooms ++ listed d rows (go_on d rows start rooms) ≡ listed d rows start
  unfolding page_rows joined go_on
  pages_so_far [] start h = refl
  pages_so_far (room ∷ rooms) start h =
      let next = next_row d rows start room in
      rw (append_assoc, pages_so_far rooms next (next_within start room h), next_lists start room h, take-append-drop)

  -- from any start row to the last row, whatever each page has room for, the pages joined are the list
  pub pages_joined : (rooms : List ℕ) (start : ℕ) → start ≤ rows → go_on d rows start rooms ≡ rows → joined d rows start rooms ≡ listed d rows start
  pages_joined rooms start h e = rw (e, listed_none, append-nil) at (pages_so_far rooms start h)

  stays : (rooms : List ℕ) → go_on d rows rows rooms ≡ rows
  unfolding next_row go_on
  stays [] = refl
  stays (room ∷ rooms) = rw listed_none (stays rooms)

  next_last : (start room : ℕ) → length (listed d rows start) ≤ room → next_row d rows start room ≡ rows
  unfolding next_row
  next_last start room h = get_or-eq_default (listed d rows start) rows h

  end_step : (room start : ℕ) (rooms : List ℕ) → start ≤ rows → 1 ≤ room → length (listed d rows start) < suc (length rooms)
      → (length (listed d rows (next_row d rows start room)) < length rooms → go_on d rows (next_row d rows start room) rooms ≡ rows)
      → Dec (length (listed d rows start) ≤ room) → go_on d rows (next_row d rows start room) rooms ≡ rows
  end_step room start rooms h r l ih (yes k) = rw (next_last start room k) (stays rooms)
  end_step room start rooms h r l ih (no k) = ih (omega (arith, ap length (next_lists start room h), length-drop room (listed d rows start)))

  -- and the last row is reached: after one page more than there are listed rows at the latest
  pub pages_end : {rooms : List ℕ} (start : ℕ) → start ≤ rows → EachHasRoom rooms → length (listed d rows start) < length rooms → go_on d rows start rooms ≡ rows
  unfolding go_on
  pages_end start h no_page l = absurd (not-suc-le-zero l)
  pages_end start h (a_page {room = room} {rooms = rooms} r more) l =
      end_step room start rooms h r l (pages_end (next_row d rows start room) (next_within start room h) more) (dec_le (length (listed d rows start)) room)

  -- ---- what is listed

  abbrev Yes : ℕ → Type 0
  Yes row = is_allowed (d row) ≡ true

  in_step : (b : Bool) (row : ℕ) (l : List ℕ) (r : ℕ) → is_allowed (d row) ≡ b → Memᴰ r (cons_if b row l) → ((r ≡ row) × Yes row) ⊎ Memᴰ r l
  in_step true row l r e m = ⊎_elim (λ q. inl (q, e)) inr (Memᴰ.cases_cons m)
  in_step false row l r e m = inr m

  in_yes : (n row r : ℕ) → Memᴰ r (yes_of d row n) → (row ≤ r) × (r < row + n) × Yes r
  unfolding yes_of
  in_yes zero row r m = absurd (Memᴰ.not-nil m)
  in_yes (suc n) row r m =
      ⊎_elim
      (λ q. (omega arith, omega arith, rw q.0 q.1))
      (λ k. let h = in_yes n (suc row) r k in (omega arith, omega arith, h.2))
      (in_step (is_allowed (d row)) row (yes_of d (suc row) n) r refl m)

  yes_step : (b : Bool) (row : ℕ) (l : List ℕ) (r : ℕ) → is_allowed (d row) ≡ b → Yes r → (r ≡ row) ⊎ Memᴰ r l → Memᴰ r (cons_if b row l)
  yes_step true row l r e y (inl q) = Memᴰ.head q
  yes_step true row l r e y (inr m) = Memᴰ.tail m
  yes_step false row l r e y (inl q) = absurd (let z : ◌≡◌ {A = ℕ} 0 1 = cc in omega arith)
  yes_step false row l r e y (inr m) = m

  yes_in : (n row r : ℕ) → row ≤ r → r < row + n → Yes r → Memᴰ r (yes_of d row n)
  unfolding yes_of
  yes_in zero row r h l y = absurd (omega arith)
  yes_in (suc n) row r h l y =
      yes_step (is_allowed (d row)) row (yes_of d (suc row) n) r refl y
      (elim (ℕ_discrete r row) [ yes q ↦ inl q | no k ↦ inr (yes_in n (suc row) r (omega arith) (omega arith) y) ])

  -- from each start row on, the list has exactly the rows that are answered with yes
  pub lists_yes : (start row : ℕ) → Memᴰ row (listed d rows start) ↔ ((start ≤ row) × (row < rows) × Yes row)
  unfolding listed
  lists_yes start row = (
    λ m. let h = in_yes (rows - start) start row m in (h.0, omega arith, h.2),
    λ h. yes_in (rows - start) start row h.0 (omega arith) h.2,
  )

  low_step : (b : Bool) (row : ℕ) (l : List ℕ) → ((i : ℕ) → i < length l → suc row ≤ get_or l i 0) → (i : ℕ) → i < length (cons_if b row l) → row ≤ get_or (cons_if b row l) i 0
  low_step true row l ih zero h = le_refl row
  low_step true row l ih (suc i) h = omega (arith, ih i (omega arith))
  low_step false row l ih i h = omega (arith, ih i h)

  low : (n row i : ℕ) → i < length (yes_of d row n) → row ≤ get_or (yes_of d row n) i 0
  unfolding yes_of
  low zero row i h = absurd (not-suc-le-zero h)
  low (suc n) row i h = low_step (is_allowed (d row)) row (yes_of d (suc row) n) (low n (suc row)) i h

  asc_step : (b : Bool) (row : ℕ) (l : List ℕ) → ((i : ℕ) → i < length l → suc row ≤ get_or l i 0) → ((i j : ℕ) → i < j → j < length l → get_or l i 0 < get_or l j 0)
      → (i j : ℕ) → i < j → j < length (cons_if b row l) → get_or (cons_if b row l) i 0 < get_or (cons_if b row l) j 0
  asc_step true row l lo ih i zero g h = absurd (not-suc-le-zero g)
  asc_step true row l lo ih zero (suc j) g h = lo j (omega arith)
  asc_step true row l lo ih (suc i) (suc j) g h = ih i j (omega arith) (omega arith)
  asc_step false row l lo ih i j g h = ih i j g h

  asc : (n row i j : ℕ) → i < j → j < length (yes_of d row n) → get_or (yes_of d row n) i 0 < get_or (yes_of d row n) j 0
  unfolding yes_of
  asc zero row i j g h = absurd (not-suc-le-zero h)
  asc (suc n) row i j g h = asc_step (is_allowed (d row)) row (yes_of d (suc row) n) (low n (suc row)) (asc n (suc row)) i j g h

  -- the list ascends, so that it has each row once
  pub list_ascends : (start i j : ℕ) → i < j → j < length (listed d rows start) → get_or (listed d rows start) i 0 < get_or (listed d rows start) j 0
  unfolding listed
  list_ascends start i j = asc (rows - start) start i j

-- ---- combinations

-- the list has the row of a combination exactly if the combination is answered with yes
pub lists_combinations : (f : List ℕ → Decision) {counts choices : List ℕ} → Combination counts choices
    → Memᴰ (row_of counts choices) (listed (λ row. f (choices_at counts row)) (product counts) 0) ↔ (is_allowed (f choices) ≡ true)
lists_combinations f {counts} {choices} ok =
    let both = lists_yes (λ row. f (choices_at counts row)) (product counts) 0 (row_of counts choices) in
    let same = choices_of_row ok in (
      λ m. rw same at (both.0 m).2,
      λ y. both.1 (omega arith, row_below ok, rw same y),
    )

-- ---- what is written, page by page

module _ (d : ℕ → Decision) (m : ℕ → ℕ) (rows : ℕ) where
  module _ (start : ℕ) (before : List ℕ) (p : Page) (after : List ℕ) (within : start ≤ rows) (w : PageWritten d m rows start before p after) where
    page_bytes : take (row_size * p.written) after ≡ rows_bytes d m (page_rows d rows start (room_in before))
    page_bytes =
        let l = page_rows d rows start (room_in before) in
        rw w.bytes (take_at (rows_bytes d m l) (drop (length (rows_bytes d m l)) before) (row_size * p.written) (bytes_length d m l ∙ ap (λ (n : ℕ). row_size * n) (sym w.written)))

    -- what a page wrote, with what is listed from there on
    page_lists : take (row_size * p.written) after ++ rows_bytes d m (listed d rows p.next) ≡ rows_bytes d m (listed d rows start)
    unfolding page_rows
    page_lists =
        let room = room_in before in
        rw (page_bytes, w.next, next_lists d rows start room within, ← bytes_append d m (take room (listed d rows start)) (drop room (listed d rows start)), take-append-drop)

  written_so_far : {start : ℕ} {bytes : List ℕ} {last : ℕ} → Written d m rows start bytes last → bytes ++ rows_bytes d m (listed d rows last) ≡ rows_bytes d m (listed d rows start)
  written_so_far nothing = refl
  written_so_far (page {start = start} {before = before} {p = p} {after = after} h w more) = rw (append_assoc, written_so_far more) (page_lists start before p after h w)

  no_bytes : rows_bytes d m (listed d rows rows) ≡ []
  unfolding rows_bytes
  no_bytes = rw (listed_none d rows)

  -- from any start row to the last row, what the pages wrote, joined, is the bytes of the list
  pub all_written : {start : ℕ} {bytes : List ℕ} → Written d m rows start bytes rows → bytes ≡ rows_bytes d m (listed d rows start)
  all_written w = rw (no_bytes, append-nil) at (written_so_far w)
