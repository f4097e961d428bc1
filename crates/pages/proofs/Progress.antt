-- The state of a page that is being written, and its steps, over any list of rows to write. Assumes nothing.
use mathlib.Core.Path.{◌≡◌, refl, sym, ap, ◌∙◌}
use mathlib.Core.List.{List, [], ◌∷◌, ◌++◌, append_assoc}
use mathlib.Core.Bool.{Bool, true, false}
use Prim.Native.Nat.{ℕ, suc, ◌+◌, ◌*◌, ◌-◌, ◌≤◌, ◌<◌, zero-le}
use native.Mathlib.Numerals.{add-one}
use native.Mathlib.Omega.{arith}
use lib.ListN.{length, get_or, take, drop, length-drop, get_or-eq_default}
use lib.Seq.{length-take-le, take-suc, drop-cons, drop-drop, drop_at, take_at, take_all}
use borrow.Rule.Slice.PartMut.{put_mid}
use Rattle.slices.proofs.Parts.{tail_lent, tail_back}
use Rattle.meaning.specs.Decisions.{is_allowed}
use Rattle.meaning.specs.declared.Decision.{Decision}
use Rattle.pages.specs.Listing.{cons_if, yes_of, listed, page_rows, next_row, row_size, row_bytes, rows_bytes, room_in, PageWritten}

-- ---- listed rows and their bytes

-- a row that is looked at
pub listed_more : (d : ℕ → Decision) (rows row : ℕ) → row < rows → listed d rows row ≡ cons_if (is_allowed (d row)) row (listed d rows (suc row))
unfolding listed yes_of
listed_more d rows row h = let e : rows - row ≡ suc (rows - suc row) = omega arith in rw e

pub listed_none : (d : ℕ → Decision) (rows : ℕ) → listed d rows rows ≡ []
unfolding listed yes_of
listed_none d rows = let e : rows - rows ≡ 0 = omega arith in rw e

pub bytes_length : (d : ℕ → Decision) (m : ℕ → ℕ) (rs : List ℕ) → length (rows_bytes d m rs) ≡ row_size * length rs
unfolding rows_bytes
bytes_length d m [] = refl
bytes_length d m (r ∷ rs) = omega (arith, bytes_length d m rs)

pub bytes_append : (d : ℕ → Decision) (m : ℕ → ℕ) (rs ss : List ℕ) → rows_bytes d m (rs ++ ss) ≡ rows_bytes d m rs ++ rows_bytes d m ss
unfolding rows_bytes
bytes_append d m [] ss = refl
bytes_append d m (r ∷ rs) ss = rw (bytes_append d m rs ss, append_assoc)

bytes_one : (d : ℕ → Decision) (m : ℕ → ℕ) (row : ℕ) → rows_bytes d m (row ∷ []) ≡ row_bytes row (d row) (m row)
unfolding rows_bytes
bytes_one d m row = refl

-- ---- the state

-- w of the rows l are written over the start of the part p, which is q now, and `rest` is still to write
pub record Progress (d : ℕ → Decision) (m : ℕ → ℕ) (l p : List ℕ) (w : ℕ) (q rest : List ℕ) : Type 0 where
  pub room : row_size * w ≤ length p
  pub some : w ≤ length l
  pub left : drop w l ≡ rest
  pub bytes : q ≡ rows_bytes d m (take w l) ++ drop (row_size * w) p

pub begun : (d : ℕ → Decision) (m : ℕ → ℕ) (l p : List ℕ) → Progress d m l p 0 p l
unfolding rows_bytes
begun d m l p = record { room = zero-le; some = zero-le; left = refl; bytes = refl }

module _ (d : ℕ → Decision) (m : ℕ → ℕ) (l p : List ℕ) (w : ℕ) (q rest : List ℕ) (s : Progress d m l p w q rest) where
  head_length : length (rows_bytes d m (take w l)) ≡ row_size * w
  head_length = bytes_length d m (take w l) ∙ ap (λ (n : ℕ). row_size * n) (length-take-le w l s.some)

-- one row more
module _ (d : ℕ → Decision) (m : ℕ → ℕ) (l p : List ℕ) (w : ℕ) (q : List ℕ) (row : ℕ) (rest : List ℕ) (s : Progress d m l p w q (row ∷ rest)) where
  more_some : w < length l
  more_some = omega (arith, length-drop w l, ap length s.left)

  row_there : (z : ℕ) → get_or l w z ≡ row
  row_there z = cc (drop-cons l w z more_some)

  rest_there : drop (suc w) l ≡ rest
  rest_there = cc (drop-cons l w 0 more_some)

  more : row_size * w + row_size ≤ length p
      → Progress d m l p (w + 1) (take (row_size * w) q ++ (row_bytes row (d row) (m row) ++ drop row_size (drop (row_size * w) q))) rest
  more h =
      let head = rows_bytes d m (take w l) in
      let n = head_length d m l p w q (row ∷ rest) s in
      let front : take (row_size * w) q ≡ head = rw s.bytes (take_at head (drop (row_size * w) p) (row_size * w) n) in
      let back : drop (row_size * w) q ≡ drop (row_size * w) p = rw s.bytes (drop_at head (drop (row_size * w) p) (row_size * w) n) in
      let k : row_size * w + row_size ≡ row_size * (w + 1) = omega arith in
      let past : drop row_size (drop (row_size * w) p) ≡ drop (row_size * (w + 1)) p = rw (drop-drop, k) in
      let rows : take (w + 1) l ≡ take w l ++ (row ∷ []) = rw (add-one, take-suc l w 0 more_some, row_there 0) refl in
      let bytes : rows_bytes d m (take (w + 1) l) ≡ head ++ row_bytes row (d row) (m row) = ap (rows_bytes d m) rows ∙ bytes_append d m (take w l) (row ∷ []) ∙ ap (λ (x : List ℕ). head ++ x) (bytes_one d m row) in
      record {
        room = omega arith;
        some = omega (arith, more_some);
        left = rw add-one rest_there;
        bytes = rw (front, back, past, bytes, append_assoc) refl;
      }

  -- the page is full
  full : (rows : ℕ) → length p < row_size * w + row_size → (take (room_in p) l ≡ take w l) × (get_or l (room_in p) rows ≡ row)
  full rows h =
      let e : room_in p ≡ w = omega (arith, s.room) in
      (ap (λ (k : ℕ). take k l) e, ap (λ (k : ℕ). get_or l k rows) e ∙ row_there rows)

-- no row is left
done : (d : ℕ → Decision) (m : ℕ → ℕ) (l p : List ℕ) (w : ℕ) (q : List ℕ) → Progress d m l p w q [] → (rows : ℕ)
    → (take (room_in p) l ≡ take w l) × (get_or l (room_in p) rows ≡ rows)
done d m l p w q s rows =
    let short : length l ≤ w = omega (arith, length-drop w l, ap length s.left) in
    let wide : length l ≤ room_in p = omega (arith, s.room) in
    (take_all (room_in p) l wide ∙ sym (take_all w l short), get_or-eq_default l rows wide)

-- what a page that is written says
written_page : (d : ℕ → Decision) (m : ℕ → ℕ) (rows start : ℕ) (p : List ℕ) (w : ℕ) (q rest : List ℕ) (next : ℕ)
    → Progress d m (listed d rows start) p w q rest
    → (take (room_in p) (listed d rows start) ≡ take w (listed d rows start)) × (get_or (listed d rows start) (room_in p) rows ≡ next)
    → PageWritten d m rows start p (record { written = w; next = next }) q
unfolding page_rows next_row
written_page d m rows start p w q rest next s e =
    let l = listed d rows start in
    record {
      written = sym (ap length e.0 ∙ length-take-le w l s.some);
      next = sym e.1;
      bytes = rw (e.0, head_length d m l p w q rest s) s.bytes;
    }

-- ---- a turn, at a row that is listed and at one that is not

module _ (d : ℕ → Decision) (m : ℕ → ℕ) (rows start : ℕ) (p : List ℕ) (w : ℕ) (q : List ℕ) (row : ℕ) (h : row < rows)
    (s : Progress d m (listed d rows start) p w q (listed d rows row)) where
  here : (b : Bool) → is_allowed (d row) ≡ b → Progress d m (listed d rows start) p w q (cons_if b row (listed d rows (row + 1)))
  here b e = rw (← e, add-one, ← listed_more d rows row h) s

  pub turn_no : is_allowed (d row) ≡ false → Progress d m (listed d rows start) p w q (listed d rows (row + 1))
  turn_no e = here false e

  pub turn_yes : is_allowed (d row) ≡ true → (at : ℕ) → at ≡ row_size * w → at + row_size ≤ length p
      → (ys : List ℕ) → ys ≡ row_bytes row (d row) (m row) ++ drop row_size (take (length q - at) (drop at q))
      → Progress d m (listed d rows start) p (w + 1) (put_mid at (length q - at) q ys) (listed d rows (row + 1))
  turn_yes e at f g ys y =
      rw (tail_back at q ys, y, tail_lent at q, f) (more d m (listed d rows start) p w q row (listed d rows (row + 1)) (here true e) (omega arith))

  pub turn_full : is_allowed (d row) ≡ true → length p < row_size * w + row_size → PageWritten d m rows start p (record { written = w; next = row }) q
  turn_full e g =
      written_page d m rows start p w q (row ∷ listed d rows (row + 1)) row (here true e)
      (full d m (listed d rows start) p w q row (listed d rows (row + 1)) (here true e) rows g)

-- after the last row
pub turn_none : (d : ℕ → Decision) (m : ℕ → ℕ) (rows start : ℕ) (p : List ℕ) (w : ℕ) (q : List ℕ) (row : ℕ) → row ≡ rows
    → Progress d m (listed d rows start) p w q (listed d rows row)
    → PageWritten d m rows start p (record { written = w; next = rows }) q
turn_none d m rows start p w q row e s =
    let none : Progress d m (listed d rows start) p w q [] = rw (e, listed_none) at s in
    written_page d m rows start p w q [] rows none (done d m (listed d rows start) p w q none rows)
