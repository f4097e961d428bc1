-- Rows and combinations are the same, in order: each combination has one row and each row one combination, and the first column is the slowest. Assumes nothing.
use mathlib.Core.Path.{◌≡◌, refl, sym}
use mathlib.Core.List.{List, [], ◌∷◌}
use Prim.Native.Nat.{ℕ, zero, suc, ◌*◌, ◌%◌, ◌<◌}
use native.Mathlib.Nat.{le_refl, mul-zero, not-suc-le-zero, mod-lt, div-add-mod', div-lt_iff_lt-mul, lt_of_lt_of_le, le-add_right}
use native.Mathlib.Omega.{arith}
use lib.Arith.{digits_lt, digits_div, digits_mod, lt-one}
use lib.ListN.{length, get_or}
use Rattle.questions.specs.Questions.{product}
use Rattle.pages.specs.Rows.{Combination, none, chosen, row_of, choices_at}

-- a combination's row is one of the rows
pub row_below : {ns cs : List ℕ} → Combination ns cs → row_of ns cs < product ns
unfolding row_of
row_below none = le_refl 1
row_below (chosen h ok) = digits_lt h (row_below ok)

-- and its choices are the combination
pub choices_of_row : {ns cs : List ℕ} → Combination ns cs → choices_at ns (row_of ns cs) ≡ cs
unfolding row_of choices_at
choices_of_row none = refl
choices_of_row (chosen {c = c} h ok) = let below = row_below ok in rw (digits_div c below, digits_mod c below, choices_of_row ok)

-- where there is a row, the other columns have one
pub positive : (n w row : ℕ) → row < n * w → 0 < w
positive n zero row h = absurd (not-suc-le-zero (rw mul-zero at h))
positive n (suc w) row h = omega arith

-- a row's choices are a combination
pub choices_combine : (ns : List ℕ) (row : ℕ) → row < product ns → Combination ns (choices_at ns row)
unfolding choices_at
choices_combine [] row h = none
choices_combine (n ∷ ns) row h =
    let w = positive n (product ns) row h in
    chosen ((div-lt_iff_lt-mul w).1 h) (choices_combine ns (row % product ns) (mod-lt row w))

-- and the combination's row is that row
pub row_of_choices : (ns : List ℕ) (row : ℕ) → row < product ns → row_of ns (choices_at ns row) ≡ row
unfolding row_of choices_at
row_of_choices [] row h = sym (lt-one h)
row_of_choices (n ∷ ns) row h =
    rw (row_of_choices ns (row % product ns) (mod-lt row (positive n (product ns) row h))) (div-add-mod' row (product ns))

-- the first column is the slowest: a later choice in it has a later row, whatever the other columns' choices
pub first_slowest : (n : ℕ) {ns : List ℕ} (c c' : ℕ) {cs : List ℕ} (cs' : List ℕ) → Combination ns cs → c < c' → row_of (n ∷ ns) (c ∷ cs) < row_of (n ∷ ns) (c' ∷ cs')
unfolding row_of
first_slowest n {ns} c c' cs' ok h = lt_of_lt_of_le (digits_lt h (row_below ok)) (le-add_right (c' * product ns) (row_of ns cs'))

-- each choice is below its column's count, and there is one for each column
pub choice_below : {ns cs : List ℕ} → Combination ns cs → (i : ℕ) → i < length ns → get_or cs i 0 < get_or ns i 0
choice_below none i h = absurd (not-suc-le-zero h)
choice_below (chosen l ok) zero h = l
choice_below (chosen l ok) (suc i) h = choice_below ok i (omega arith)

pub as_many : {ns cs : List ℕ} → Combination ns cs → length cs ≡ length ns
as_many none = refl
as_many (chosen l ok) = let e = as_many ok in omega arith
