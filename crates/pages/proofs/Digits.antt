-- The digits of a row number, over any list of counts. Assumes nothing.
use mathlib.Core.Path.{◌≡◌, refl, sym, ap}
use mathlib.Core.List.{List, [], ◌∷◌}
use Prim.Native.Nat.{ℕ, zero, suc, ◌+◌, ◌*◌, ◌/◌, ◌%◌, ◌<◌}
use native.Mathlib.Nat.{le_refl, mul_comm, mul-pos, mod-lt, div-div-eq-div-mul, le_of_suc-le-suc, not-suc-le-zero}
use native.Mathlib.Omega.{arith}
use lib.ListN.{length, get_or, drop, set}
use lib.Arith.{mod-mul, digits_div, digits_mod}
use Rattle.questions.specs.Questions.{product}
use Rattle.pages.specs.Rows.{counts_by, choices_at}

-- ---- counts by last choices

pub counts_length : (lasts : List ℕ) → length (counts_by lasts) ≡ length lasts
unfolding counts_by
counts_length [] = refl
counts_length (l ∷ ls) = ap suc (counts_length ls)

-- the columns from number j on
pub counts_from : (lasts : List ℕ) (j : ℕ) → j < length lasts → drop j (counts_by lasts) ≡ (get_or lasts j 0 + 1) ∷ drop (suc j) (counts_by lasts)
unfolding counts_by
counts_from [] j h = absurd (not-suc-le-zero h)
counts_from (l ∷ ls) zero h = let e : suc l ≡ l + 1 = omega arith in rw e
counts_from (l ∷ ls) (suc j) h = counts_from ls j (omega arith)

pub rows_from : (lasts : List ℕ) (j : ℕ) → j < length lasts → product (drop j (counts_by lasts)) ≡ (get_or lasts j 0 + 1) * product (drop (suc j) (counts_by lasts))
rows_from lasts j h = ap product (counts_from lasts j h)

pub rows_some : (lasts : List ℕ) (j : ℕ) → 0 < product (drop j (counts_by lasts))
unfolding counts_by
rows_some [] zero = le_refl 1
rows_some [] (suc j) = le_refl 1
rows_some (l ∷ ls) zero = mul-pos {m = suc l} (omega arith) (rows_some ls 0)
rows_some (l ∷ ls) (suc j) = rows_some ls j

pub count_is : (lasts : List ℕ) (j : ℕ) → j < length lasts → get_or (counts_by lasts) j 0 ≡ get_or lasts j 0 + 1
unfolding counts_by
count_is [] j h = absurd (not-suc-le-zero h)
count_is (l ∷ ls) zero h = omega arith
count_is (l ∷ ls) (suc j) h = count_is ls j (omega arith)

-- ---- one digit more in front

digit : (n : ℕ) (ns : List ℕ) (row : ℕ) → 0 < n → 0 < product ns
    → choices_at (n ∷ ns) (row % product (n ∷ ns)) ≡ row / product ns % n ∷ choices_at ns (row % product ns)
unfolding choices_at
digit n ns row hn hw = rw (mod-mul row hn hw, digits_div (row / product ns % n) (mod-lt row hw), digits_mod (row / product ns % n) (mod-lt row hw))

-- a store in front of the digits that are there
drop_set_same : (l : List ℕ) (j v : ℕ) → j < length l → drop j (set l j v) ≡ v ∷ drop (suc j) l
drop_set_same [] j v h = absurd (not-suc-le-zero h)
drop_set_same (x ∷ xs) zero v h = refl
drop_set_same (x ∷ xs) (suc j) v h = drop_set_same xs j v (le_of_suc-le-suc h)

-- from column k on the choices are those of the row, and rest is what the columns before k are to hold
pub record Digits (counts : List ℕ) (row k : ℕ) (choices : List ℕ) (rest : ℕ) : Type 0 where
  pub some : drop k choices ≡ choices_at (drop k counts) (row % product (drop k counts))
  pub left : rest ≡ row / product (drop k counts)

-- a turn of `choices_of`: one column more
pub more_digits : (lasts : List ℕ) (row j : ℕ) (choices : List ℕ) (rest : ℕ) → j < length lasts → j < length choices
    → Digits (counts_by lasts) row (suc j) choices rest
    → Digits (counts_by lasts) row j (set choices j (rest % (get_or lasts j 0 + 1))) (rest / (get_or lasts j 0 + 1))
more_digits lasts row j choices rest hj hc d =
    let n = get_or lasts j 0 + 1 in
    let ns = drop (suc j) (counts_by lasts) in
    record {
      some = rw (drop_set_same choices j (rest % n) hc, d.left, d.some, counts_from lasts j hj) (sym (digit n ns row (omega arith) (rows_some lasts (suc j))));
      left = rw (d.left, rows_from lasts j hj, mul_comm n (product ns)) (div-div-eq-div-mul row (product ns) n);
    }

pub no_digits : (row : ℕ) → ◌≡◌ {A = List ℕ} [] (choices_at [] row)
unfolding choices_at
no_digits row = refl
