-- Laws of the lines of listed rows. Assumes nothing.
use mathlib.Core.Path.{◌≡◌, refl, sym, ap, ◌∙◌}
use mathlib.Core.List.{List, [], ◌∷◌, ◌++◌, append_assoc, append-nil}
use Prim.Native.Nat.{ℕ, zero, suc, ◌+◌, ◌*◌, ◌≤◌, ◌<◌}
use native.Mathlib.Numerals.{add-one}
use native.Mathlib.Omega.{arith}
use lib.ListN.{length, get_or, take, drop}
use lib.Seq.{get_or-drop, drop-drop}
use Rattle.folder.specs.Added.{Added}
use Rattle.folder.specs.Decimals.{numbers_line}
use Rattle.folder.proofs.PutLaws.{none_added, both_added}
use Rattle.folder.proofs.DecimalLaws.{four_long}
use Rattle.pages.specs.Listing.{row_size}
use Rattle.pages.specs.Lines.{little_endian}
use Rattle.row_lines.specs.RowLines.{row_at, row_lines, RowsPut}

-- ---- numbers in bytes, the lowest first

four_first : (l : List ℕ) → little_endian (take 4 l) ≡ get_or l 0 0 + 256 * get_or l 1 0 + 65536 * get_or l 2 0 + 16777216 * get_or l 3 0
four_first [] = refl
four_first (a ∷ []) = omega arith
four_first (a ∷ b ∷ []) = omega arith
four_first (a ∷ b ∷ c ∷ []) = omega arith
four_first (a ∷ b ∷ c ∷ d ∷ l) = omega arith

eight_first : (l : List ℕ) → little_endian (take 8 l) ≡ little_endian (take 4 l) + 4294967296 * little_endian (take 4 (drop 4 l))
eight_first [] = refl
eight_first (a ∷ []) = omega arith
eight_first (a ∷ b ∷ []) = omega arith
eight_first (a ∷ b ∷ c ∷ []) = omega arith
eight_first (a ∷ b ∷ c ∷ d ∷ l) = omega arith

-- at a place of a page
pub four_there : (page : List ℕ) (at : ℕ)
    → get_or page at 0 + 256 * get_or page (at + 1) 0 + 65536 * get_or page (at + 2) 0 + 16777216 * get_or page (at + 3) 0 ≡ little_endian (take 4 (drop at page))
four_there page at =
    let z : at + 0 ≡ at = omega arith in
    rw (four_first (drop at page), get_or-drop at page 0 0, get_or-drop at page 1 0, get_or-drop at page 2 0, get_or-drop at page 3 0, z) refl

pub eight_there : (page : List ℕ) (at : ℕ) {low high : ℕ} → low ≡ little_endian (take 4 (drop at page)) → high ≡ little_endian (take 4 (drop (at + 4) page))
    → low + 4294967296 * high ≡ little_endian (take 8 (drop at page))
eight_there page at e f = rw (eight_first (drop at page), drop-drop 4 at page, e, f) refl

-- ---- the line of a row

module _ (page : List ℕ) (at : ℕ) {n m o w : ℕ} (row : n ≡ little_endian (take 4 (drop at page))) (outcome : m ≡ get_or page (at + 4) 0) (policy : o ≡ get_or page (at + 5) 0)
    (mark : w ≡ little_endian (take 8 (drop (at + 6) page))) where
  -- the line of the bytes at a place
  row_there : numbers_line (n ∷ m ∷ o ∷ w ∷ []) ≡ row_at (drop at page)
  unfolding row_at
  row_there = rw (get_or-drop at page 4 0, get_or-drop at page 5 0, drop-drop 6 at page, row, outcome, policy, mark) refl

  pub row_put : {a b : List ℕ} {filled next : ℕ} → Added a filled (numbers_line (n ∷ m ∷ o ∷ w ∷ [])) b next → n < 4294967296 → m ≤ 255 → o ≤ 255
      → w < 18446744073709551616 → Added a filled (row_at (drop at page)) b next × (next ≤ filled + 40)
  row_put p f g h k = (rw row_there at p, omega (arith, p.counted, four_long n m o w f (omega arith) (omega arith) k))

-- one line more
one_more : (n : ℕ) (s : List ℕ) → row_lines (suc n) s ≡ row_lines n s ++ row_at (drop (row_size * n) s)
unfolding row_lines
one_more zero s = append-nil (row_at s)
one_more (suc n) s =
    let e : row_size + row_size * n ≡ row_size * suc n = omega arith in
    ap (λ (l : List ℕ). row_at s ++ l)
    (one_more n (drop row_size s) ∙ ap (λ (l : List ℕ). row_lines n (drop row_size s) ++ row_at l) (drop-drop (row_size * n) row_size s ∙ ap (λ (k : ℕ). drop k s) e))
    ∙ sym (append_assoc (row_at s) (row_lines n (drop row_size s)) (row_at (drop (row_size * suc n) s)))

pub row_on : (page : List ℕ) (n : ℕ) {a b c : List ℕ} {filled next : ℕ} → Added a 0 (row_lines n page) b filled
    → Added b filled (row_at (drop (row_size * n) page)) c next → Added a 0 (row_lines (n + 1) page) c next
row_on page n p q = rw (add-one n, one_more n page) (both_added p q)

pub no_row : (page a : List ℕ) → Added a 0 (row_lines 0 page) a 0
unfolding row_lines
no_row page a = none_added a 0

-- all lines
pub rows_done : (page : List ℕ) (written : ℕ) {a b : List ℕ} {filled : ℕ} → Added a 0 (row_lines written page) b filled → filled ≤ length b → RowsPut page written b filled
rows_done page written p h = record { lines = p.filled; inside = h }
