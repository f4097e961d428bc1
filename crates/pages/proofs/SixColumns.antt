-- The six columns that code holds have the question's columns in front, and columns of one choice behind them. Assumes nothing.
use Rattle.std.specs.Prelude.{Option, Some}
use mathlib.Core.Path.{◌≡◌, refl, sym, ap, ◌∙◌}
use mathlib.Core.Bool.{Bool, true, false}
use mathlib.Core.List.{List, [], ◌∷◌, ◌++◌}
use Prim.Native.Nat.{ℕ, zero, suc, ◌+◌, ◌-◌, ◌%◌, ◌≤◌, ◌<◌}
use native.Mathlib.Nat.{mod-lt, one-mul, not-suc-le-zero}
use native.Mathlib.Omega.{arith}
use borrow.Author.Tests.{lt-ltb, le-ltb, ltb-true, ltb-false}
use lib.Arith.{lt-one}
use lib.Dec.{ltb}
use lib.ListN.{length, get_or, replicate, length-replicate, get_or-replicate, length-append, get_or-append}
use lib.Seq.{get_or-append-add, ext_get_or}
use Rattle.bags.specs.Reading.{end_place, many, each}
use Rattle.bags.proofs.ReadLaws.{first, many_done, many_more, each_done, each_more}
use Rattle.questions.specs.Columns.{column_end}
use Rattle.questions.specs.Questions.{head_of, count_of, product, rows_of}
use Rattle.questions.proofs.ColumnLaws.{Columned}
use Rattle.questions.proofs.PlaceLaws.{first_of, first_is, column_of}
use Rattle.views.specs.Rows.{Chooses}
use Rattle.pages.specs.Rows.{counts_of, Combination, choices_at, counts_by, Few, Counted}
use Rattle.pages.proofs.Combinations.{positive, choices_combine, choice_below, as_many}
use Rattle.pages.proofs.Digits.{counts_length, count_is}

-- ---- columns of one choice behind others

product_padded : (ns : List ℕ) (k : ℕ) → product (ns ++ replicate k 1) ≡ product ns
product_padded [] zero = refl
product_padded [] (suc k) = one-mul (product (replicate k 1)) ∙ product_padded [] k
product_padded (n ∷ ns) k = rw (product_padded ns k)

zeros : (k : ℕ) → choices_at (replicate k 1) 0 ≡ replicate k 0
unfolding choices_at
zeros zero = refl
zeros (suc k) = rw (product_padded [] k, zeros k)

choices_padded : (ns : List ℕ) (k row : ℕ) → row < product ns → choices_at (ns ++ replicate k 1) row ≡ choices_at ns row ++ replicate k 0
unfolding choices_at
choices_padded [] k row h = rw (lt-one h) (zeros k)
choices_padded (n ∷ ns) k row h =
    rw (product_padded ns k, choices_padded ns k (row % product ns) (mod-lt row (positive n (product ns) row h)))

-- ---- the counts of a question's columns

pub each_length : {A : Type 0} (next : ℕ → Option ℕ) (what : ℕ → ℕ → A) (n at e : ℕ) → many n next at ≡ Some e → length (each n next what at) ≡ n
each_length next what zero at e h = rw (each_done next what 0 at (omega arith))
each_length next what (suc n) at e h =
    let f = first next (suc n) at e (omega arith) h in
    let m : suc n - 1 ≡ n = omega arith in
    rw (each_more next what (suc n) at f.stop (omega arith) f.ends, m) (ap suc (each_length next what n f.stop e (rw m at f.later)))

module _ {A : Type 0} (next : ℕ → Option ℕ) (what : ℕ → A) where
  each_at : (n i at e : ℕ) (z : A) → i < n → many n next at ≡ Some e → get_or (each n next (λ c e. what c) at) i z ≡ what (end_place (many i next at))
  each_at zero i at e z l h = absurd (not-suc-le-zero l)
  each_at (suc n) zero at e z l h =
      let f = first next (suc n) at e (omega arith) h in
      rw (each_more next (λ c e. what c) (suc n) at f.stop (omega arith) f.ends, many_done next 0 at (omega arith))
  each_at (suc n) (suc i) at e z l h =
      let f = first next (suc n) at e (omega arith) h in
      let m : suc n - 1 ≡ n = omega arith in
      let k : suc i - 1 ≡ i = omega arith in
      rw (each_more next (λ c e. what c) (suc n) at f.stop (omega arith) f.ends, m, many_more next (suc i) at f.stop (omega arith) f.ends, k)
      (each_at n i f.stop e z (omega arith) (rw m at f.later))

module _ (s : List ℕ) (n at last : ℕ) (most : n ≤ 6) (columns : many n (column_end s) at ≡ Some last) where
  column : (i : ℕ) → i < n → (e : ℕ) × Columned s (head_of s at i) e
  column = column_of s n at last columns

  counts_many : length (counts_of n s at) ≡ n
  unfolding counts_of
  counts_many = each_length (column_end s) (λ c e. count_of s c) n at last columns

  count_at : (i : ℕ) → i < n → get_or (counts_of n s at) i 0 ≡ count_of s (head_of s at i)
  unfolding counts_of
  count_at i l = each_at (column_end s) (count_of s) n i at last 0 l columns

  -- the number of rows is the product of the counts
  pub rows_are : rows_of n s at ≡ product (counts_of n s at)
  unfolding rows_of counts_of
  rows_are = refl

  -- a combination's choices are candidates of their columns
  pub combination_chooses : {choices : List ℕ} → Combination (counts_of n s at) choices → Chooses n s at choices
  combination_chooses ok i l = rw (count_at i l) at (choice_below ok i (rw counts_many l))

  -- so are a row's
  pub row_chooses : (row : ℕ) → row < product (counts_of n s at) → Chooses n s at (choices_at (counts_of n s at) row)
  row_chooses row h = combination_chooses (choices_combine (counts_of n s at) row h)

  module _ (heads lasts : List ℕ) (six : length lasts ≡ 6)
      (heads_are : (i : ℕ) → i < 6 → get_or heads i 0 ≡ first_of n (head_of s at) i)
      (Lasts_are : (i : ℕ) → i < 6 → get_or lasts i 0 ≡ first_of n (λ i. count_of s (get_or heads i 0) - 1) i) where
    head_is : (i : ℕ) → i < n → get_or heads i 0 ≡ head_of s at i
    head_is i l = first_is (head_of s at) heads most heads_are l

    last_is : (i : ℕ) → i < n → get_or lasts i 0 + 1 ≡ count_of s (head_of s at i)
    last_is i l =
        let e : get_or lasts i 0 ≡ count_of s (head_of s at i) - 1 = Lasts_are i (omega arith) ∙ simp (lt-ltb i n l, head_is i l) in
        let some = (column i l).1.some in
        omega arith

    last_none : (i : ℕ) → i < 6 → n ≤ i → get_or lasts i 0 ≡ 0
    last_none i h l = Lasts_are i h ∙ simp (le-ltb i n l)

    pub lasts_few : Few lasts
    lasts_few = record { six = six; few = λ i h. go (ltb i n) refl h }
      where
        go : {i : ℕ} (b : Bool) → ltb i n ≡ b → i < 6 → get_or lasts i 0 ≤ 7
        go {i} true q h = let l = ltb-true i n q in omega (arith, last_is i l, (column i l).1.few)
        go {i} false q h = omega (arith, last_none i h (ltb-false i n q))

    counts_padded : counts_by lasts ≡ counts_of n s at ++ replicate (6 - n) 1
    counts_padded =
        ext_get_or 0 (counts_by lasts) (counts_of n s at ++ replicate (6 - n) 1)
        (counts_length lasts ∙ six ∙ sym (length-append (counts_of n s at) (replicate (6 - n) 1) ∙ all))
        (λ i h. go i (ltb i n) refl (omega (arith, counts_length lasts)))
      where
        all : length (counts_of n s at) + length (replicate {A = ℕ} (6 - n) 1) ≡ 6
        all = rw (counts_many, length-replicate {A = ℕ} (6 - n) 1) (omega arith)

        go : (i : ℕ) (b : Bool) → ltb i n ≡ b → i < 6 → get_or (counts_by lasts) i 0 ≡ get_or (counts_of n s at ++ replicate (6 - n) 1) i 0
        go i true q h =
            let l = ltb-true i n q in
            count_is lasts i (rw six h) ∙ last_is i l ∙ sym (count_at i l) ∙ sym (get_or-append (counts_of n s at) (replicate (6 - n) 1) 0 i (rw counts_many l))
        go i false q h =
            let l = ltb-false i n q in
            let e : i ≡ length (counts_of n s at) + (i - n) = rw counts_many (omega arith) in
            count_is lasts i (rw six h) ∙ ap (λ (x : ℕ). x + 1) (last_none i h l)
            ∙ sym (ap (λ (x : ℕ). get_or (counts_of n s at ++ replicate (6 - n) 1) x 0) e ∙ get_or-append-add (counts_of n s at) (replicate (6 - n) 1) (i - n) 0
            ∙ get_or-replicate (6 - n) (i - n) 1 0 (omega arith))

    -- so there are as many rows
    pub six_rows : product (counts_by lasts) ≡ rows_of n s at
    six_rows = ap product counts_padded ∙ product_padded (counts_of n s at) (6 - n) ∙ sym rows_are

    -- and the same choices
    pub six_choices : (row : ℕ) → row < rows_of n s at → (i : ℕ) → i < n → get_or (choices_at (counts_by lasts) row) i 0 ≡ get_or (choices_at (counts_of n s at) row) i 0
    six_choices row h i l =
        let h' : row < product (counts_of n s at) = rw rows_are at h in
        ap (λ (ns : List ℕ). get_or (choices_at ns row) i 0) counts_padded ∙ ap (λ (cs : List ℕ). get_or cs i 0) (choices_padded (counts_of n s at) (6 - n) row h')
        ∙ get_or-append (choices_at (counts_of n s at) row) (replicate (6 - n) 0) 0 i (rw (as_many (choices_combine (counts_of n s at) row h'), counts_many) l)

  -- what `lasts` asks for
  pub heads_counted : (heads : List ℕ) → ((i : ℕ) → i < 6 → get_or heads i 0 ≡ first_of n (head_of s at) i) → Counted s n heads
  heads_counted heads heads_are = record {
    few = most;
    inside = λ i l. rw (first_is (head_of s at) heads most heads_are l) (column i l).1.counted;
    some = λ i l. rw (first_is (head_of s at) heads most heads_are l) (column i l).1.some;
  }
