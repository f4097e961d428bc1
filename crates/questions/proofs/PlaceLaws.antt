-- Laws of the cells that hold places, and of the number of rows. Assumes nothing.
use Rattle.std.specs.Prelude.{Option, Some}
use Prim.Native.Nat.{ℕ, zero, suc, ◌+◌, ◌-◌, ◌*◌, ◌<◌, ◌≤◌}
use mathlib.Core.List.{List, []}
use mathlib.Core.Bool.{Bool, true, false, cond}
use mathlib.Core.Path.{◌≡◌, refl, sym, ◌∙◌, ap}
use borrow.Author.Tests.{lt-ltb, le-ltb, eqb-true, eqb-false, ltb-true, ltb-false}
use native.Mathlib.Nat.{mul_assoc, mul-one, mul-le-mul_left, mul-le-mul_right, le-mul_of_pos_right}
use native.Mathlib.Omega.{arith}
use lib.Dec.{eqb, ltb}
use lib.ListN.{length, get_or, set}
use lib.Seq.{get_or-set_same, get_or-set_other}
use Rattle.bags.specs.Reading.{end_place, many}
use Rattle.bags.proofs.ReadLaws.{same_end, nth, each_done, each_more}
use Rattle.questions.specs.Columns.{candidate_end, count_at, column_end}
use Rattle.questions.specs.Questions.{head_of, count_of, choice_at, cell, rows_of}
use Rattle.questions.proofs.ColumnLaws.{Columned, column_at}

-- ---- a store

module _ {A : Type 0} (l : List A) (j : ℕ) (v d : A) (fits : j < length l) (P : A → Type 0) where
  -- what holds of the value at its place, and elsewhere of the old one, holds after the store
  pub set_cases : (k : ℕ) → (k ≡ j → P v) → ((k ≡ j → ⊥) → P (get_or l k d)) → P (get_or (set l j v) k d)
  set_cases k same other = go (eqb k j) refl
    where
      go : (b : Bool) → eqb k j ≡ b → P (get_or (set l j v) k d)
      go true p = let e : k ≡ j = eqb-true k j p in rw (e, get_or-set_same l j v d fits) (same e)
      go false p = rw (get_or-set_other l j k v d (eqb-false k j p)) (other (eqb-false k j p))

-- the first n of some values, and 0 for the others
abbrev pub first_of : ℕ → (ℕ → ℕ) → ℕ → ℕ
first_of n f k = cond (ltb k n) (f k) 0

-- one of the first n, where they are the cells of a list
pub first_is : {n i most : ℕ} (f : ℕ → ℕ) (cells : List ℕ) → n ≤ most → ((k : ℕ) → k < most → get_or cells k 0 ≡ first_of n f k) → i < n → get_or cells i 0 ≡ f i
first_is {n} {i} f cells few are l = are i (omega arith) ∙ simp (lt-ltb i n l)

pub first_none : (f : ℕ → ℕ) (k : ℕ) → 0 ≡ first_of 0 f k
first_none f k = let h : 0 ≤ k = omega arith in simp (le-ltb _ _ h)

-- one more
module _ (f : ℕ → ℕ) (k j : ℕ) where
  pub first_here : k ≡ j → f k ≡ first_of (j + 1) f k
  first_here e = let h : k < j + 1 = omega arith in simp (lt-ltb _ _ h)

  pub first_before : (k ≡ j → ⊥) → first_of j f k ≡ first_of (j + 1) f k
  first_before d = go (ltb k j) refl
    where
      go : (b : Bool) → ltb k j ≡ b → first_of j f k ≡ first_of (j + 1) f k
      go true p = let h : k < j + 1 = omega (arith, ltb-true k j p) in simp (p, lt-ltb _ _ h)
      go false p = let h : j + 1 ≤ k = omega (arith, ltb-false k j p) in simp (p, le-ltb _ _ h)

pub fill_more : (most : ℕ) (f : ℕ → ℕ) (cells : List ℕ) (j v : ℕ) → j < length cells → v ≡ f j
    → ((k : ℕ) → k < most → get_or cells k 0 ≡ first_of j f k) → (k : ℕ) → k < most → get_or (set cells j v) k 0 ≡ first_of (j + 1) f k
fill_more most f cells j v fits is cells_are k h =
    set_cases cells j v 0 fits (λ x. x ≡ first_of (j + 1) f k) k (λ e. is ∙ ap f (sym e) ∙ first_here f k j e) (λ d. cells_are k h ∙ first_before f k j d)

-- number j of n that end, by where it starts
pub at_number : (next : ℕ → Option ℕ) (n j at x e : ℕ) → j < n → many n next at ≡ Some e → many j next at ≡ Some x → (stop : ℕ) × (next x ≡ Some stop)
at_number next n j at x e l h p = let r = nth next n j at e l h in (r.stop, rw (same_end r.starts p) at r.stops)

-- the columns that end are columns
pub column_of : (s : List ℕ) (n at last : ℕ) → many n (column_end s) at ≡ Some last → (i : ℕ) → i < n → (e : ℕ) × Columned s (head_of s at i) e
column_of s n at last columns i l = let r = nth (column_end s) n i at last l columns in (r.stop, rw r.starts (column_at s r.start r.stop r.stops))

-- ---- the grid

module _ (s : List ℕ) (at : ℕ) where
  pub grid_none : (i j : ℕ) → 0 ≡ cell s at 0 i j
  unfolding cell
  grid_none i j = first_none (λ i. choice_at s (head_of s at i) j) i

  pub grid_more : (grid : List (List ℕ)) (n next : ℕ) (cells : List ℕ) → n < length grid → many n (column_end s) at ≡ Some next
      → ((j : ℕ) → j < 8 → get_or cells j 0 ≡ first_of (count_of s next) (λ j. end_place (many j (candidate_end s) (count_at s next + 1))) j)
      → ((i j : ℕ) → i < 6 → j < 8 → get_or (get_or grid i []) j 0 ≡ cell s at n i j)
      → (i j : ℕ) → i < 6 → j < 8 → get_or (get_or (set grid n cells) i []) j 0 ≡ cell s at (n + 1) i j
  unfolding cell choice_at
  grid_more grid n next cells fits is cells_are grid_is i j hi hj =
      set_cases grid n cells [] fits (λ x. get_or x j 0 ≡ cell s at (n + 1) i j) i
      (λ e. cells_are j hj ∙ ap (λ (a : Option ℕ). choice_at s (end_place a) j) (sym is) ∙ ap (λ (i : ℕ). choice_at s (head_of s at i) j) (sym e) ∙ first_here (λ i. choice_at s (head_of s at i) j) i n e)
      (λ d. grid_is i j hi hj ∙ first_before (λ i. choice_at s (head_of s at i) j) i n d)

-- ---- rows

module _ (s : List ℕ) (n at : ℕ) where
  pub rows_done : n ≤ 0 → rows_of n s at ≡ 1
  unfolding rows_of
  rows_done h = rw (each_done (column_end s) (λ c e. count_of s c) n at h)

  pub rows_more : (e : ℕ) → 0 < n → column_end s at ≡ Some e → rows_of n s at ≡ count_of s at * rows_of (n - 1) s e
  unfolding rows_of
  rows_more e h q = rw (each_more (column_end s) (λ c e. count_of s c) n at e h q)

-- eight to the power of n
unfoldable pub eights : ℕ → ℕ
eights zero = 1
eights (suc n) = 8 * eights n

pub eights_few : (n : ℕ) → n ≤ 6 → 1 * eights n ≤ 262144
unfolding eights
eights_few zero h = omega arith
eights_few (suc zero) h = omega arith
eights_few (suc (suc zero)) h = omega arith
eights_few (suc (suc (suc zero))) h = omega arith
eights_few (suc (suc (suc (suc zero)))) h = omega arith
eights_few (suc (suc (suc (suc (suc zero))))) h = omega arith
eights_few (suc (suc (suc (suc (suc (suc zero)))))) h = omega arith
eights_few (suc (suc (suc (suc (suc (suc (suc n))))))) h = absurd (omega arith)

eights_some : (n : ℕ) → 0 < eights n
unfolding eights
eights_some zero = omega arith
eights_some (suc n) = let h = eights_some n in omega arith

eights_more : (n : ℕ) → 0 < n → eights n ≡ 8 * eights (n - 1)
unfolding eights
eights_more zero h = absurd (omega arith)
eights_more (suc n) h = let m : suc n - 1 ≡ n = omega arith in rw m

module _ (total count left most : ℕ) (h : 0 < left) (few : count ≤ 8) (bound : total * eights left ≤ most) where
  pub still_few : total * count * eights (left - 1) ≤ most
  still_few =
      let e = eights_more left h in
      let k : count * eights (left - 1) ≤ 8 * eights (left - 1) = mul-le-mul_right (eights (left - 1)) few in
      let m = mul-le-mul_left total k in
      let a = mul_assoc total count (eights (left - 1)) in
      let b : total * (8 * eights (left - 1)) ≤ most = rw (← e) bound in
      rw a (omega arith)

  pub product_few : total * count ≤ most
  product_few = let a = le-mul_of_pos_right (total * count) (eights_some (left - 1)) in let b = still_few in omega arith

pub end_few : (total left most : ℕ) → left ≤ 0 → total * eights left ≤ most → total ≤ most
unfolding eights
end_few total zero most h b = let m = mul-one total in omega arith
end_few total (suc n) most h b = absurd (omega arith)

pub rows_on : (s : List ℕ) (total left next e goal : ℕ) → 0 < left → column_end s next ≡ Some e → total * rows_of left s next ≡ goal
    → total * count_of s next * rows_of (left - 1) s e ≡ goal
rows_on s total left next e goal h q is = mul_assoc total (count_of s next) (rows_of (left - 1) s e) ∙ ap (λ (n : ℕ). total * n) (sym (rows_more s left next e h q)) ∙ is

pub rows_end : (s : List ℕ) (total left next goal : ℕ) → left ≤ 0 → total * rows_of left s next ≡ goal → total ≡ goal
rows_end s total left next goal h is = sym (mul-one total) ∙ ap (λ (n : ℕ). total * n) (sym (rows_done s left next h)) ∙ is
