-- On to the next row: a unit that the columns from a number on could not take is handed to the column before them. Assumes nothing.
use mathlib.Core.Path.{◌≡◌, refl, sym, ap, ◌∙◌}
use mathlib.Core.Bool.{Bool, true, false}
use mathlib.Core.List.{List, []}
use Prim.Native.Nat.{ℕ, zero, suc, ◌+◌, ◌*◌, ◌%◌, ◌≤◌, ◌<◌}
use native.Mathlib.Nat.{mod-eq_of_lt, mod_self, not-suc-le-zero, add-mul, one-mul, zero-mul}
use native.Mathlib.Omega.{arith}
use borrow.Author.Tests.{eqb-true, eqb-false}
use lib.Dec.{eqb}
use lib.ListN.{length, get_or, drop, set, length-set, drop_of_length-le}
use lib.Seq.{get_or-set_same, get_or-set_other}
use Rattle.questions.specs.Questions.{product}
use Rattle.questions.proofs.PlaceLaws.{set_cases}
use Rattle.pages.specs.Rows.{Combination, none, chosen, counts_by, row_of, choices_at, Picked, MovedAt, Moved}
use Rattle.pages.proofs.Combinations.{row_below, choices_of_row, choice_below}
use Rattle.pages.proofs.Digits.{counts_length, count_is, rows_from}

-- a choice that is set counts as often as the columns after it have rows
pub row_set : {ns cs : List ℕ} → Combination ns cs → (j v : ℕ) → j < length ns
    → row_of ns (set cs j v) + get_or cs j 0 * product (drop (suc j) ns) ≡ row_of ns cs + v * product (drop (suc j) ns)
unfolding row_of
row_set none j v h = absurd (not-suc-le-zero h)
row_set (chosen l ok) zero v h = omega arith
row_set (chosen l ok) (suc j) v h = let e = row_set ok j v (omega arith) in omega arith

pub set_combines : {ns cs : List ℕ} → Combination ns cs → (j v : ℕ) → v < get_or ns j 0 → Combination ns (set cs j v)
set_combines none j v h = none
set_combines (chosen l ok) zero v h = chosen h ok
set_combines (chosen l ok) (suc j) v h = chosen l (set_combines ok j v h)

-- the choices count `row` and a unit for the column before number k
pub record Carried (counts : List ℕ) (row k : ℕ) (choices : List ℕ) : Type 0 where
  pub combines : Combination counts choices
  pub counted : row_of counts choices + product (drop k counts) ≡ row + 1

-- ---- the turns of `step`, at column j

module _ (lasts : List ℕ) (row j : ℕ) (choices : List ℕ) (here : j < length lasts) (s : Carried (counts_by lasts) row (suc j) choices) where
  fits : j < length (counts_by lasts)
  fits = omega (arith, counts_length lasts)

  -- the column has no choice left
  pub hand_on : get_or lasts j 0 ≤ get_or choices j 0 → Carried (counts_by lasts) row j (set choices j 0)
  hand_on full =
      let w = product (drop (suc j) (counts_by lasts)) in
      let c = get_or choices j 0 in
      let last : c < get_or (counts_by lasts) j 0 = choice_below s.combines j fits in
      let n = count_is lasts j here in
      let e : get_or lasts j 0 + 1 ≡ c + 1 = omega arith in
      let set_is = row_set s.combines j 0 fits in
      let rows : product (drop j (counts_by lasts)) ≡ (c + 1) * w = rows_from lasts j here ∙ ap (λ (x : ℕ). x * w) e in
      let split = add-mul c 1 w in
      record {
        combines = set_combines s.combines j 0 (omega arith);
        counted = omega (arith, s.counted, one-mul w, zero-mul w);
      }

  -- the column takes its next choice
  pub take_next : get_or choices j 0 < get_or lasts j 0
      → (Combination (counts_by lasts) (set choices j (get_or choices j 0 + 1))) × (row_of (counts_by lasts) (set choices j (get_or choices j 0 + 1)) ≡ row + 1)
  take_next free =
      let w = product (drop (suc j) (counts_by lasts)) in
      let c = get_or choices j 0 in
      let n = count_is lasts j here in
      let set_is = row_set s.combines j (c + 1) fits in
      let split = add-mul c 1 w in
      (set_combines s.combines j (c + 1) (omega arith), omega (arith, s.counted, one-mul w))

-- before the first turn
pub carry_one : (lasts choices : List ℕ) → length lasts ≡ 6 → Combination (counts_by lasts) choices → Carried (counts_by lasts) (row_of (counts_by lasts) choices) 6 choices
carry_one lasts choices six ok =
    record { combines = ok; counted = rw (drop_of_length-le (counts_by lasts) {i = 6} (omega (arith, counts_length lasts))) }

-- ---- the column that moves

-- the columns before number k keep their choices, and those from it on have none left
pub record Passed (lasts before : List ℕ) (k : ℕ) (choices : List ℕ) : Type 0 where
  pub kept : (i : ℕ) → i < k → get_or choices i 0 ≡ get_or before i 0
  pub full : (i : ℕ) → k ≤ i → i < 6 → get_or lasts i 0 ≤ get_or before i 0

module _ (lasts before choices : List ℕ) (j v : ℕ) (s : Passed lasts before (suc j) choices) where
  still : (i : ℕ) → i < j → get_or (set choices j v) i 0 ≡ get_or before i 0
  still i h = get_or-set_other choices j i v 0 (λ e. omega arith) ∙ s.kept i (omega arith)

  pub pass_on : get_or lasts j 0 ≤ get_or choices j 0 → Passed lasts before j (set choices j v)
  pass_on full = record { kept = still; full = λ i l h. go i l h (eqb i j) refl }
    where
      go : (i : ℕ) → j ≤ i → i < 6 → (b : Bool) → eqb i j ≡ b → get_or lasts i 0 ≤ get_or before i 0
      go i l h true e = rw (eqb-true i j e, ← s.kept j (omega arith)) full
      go i l h false e = s.full i (let d = eqb-false i j e in omega arith) h

  pub moved_at : j < 6 → get_or choices j 0 < get_or lasts j 0 → MovedAt lasts before j (set choices j v)
  moved_at h free = record { within = h; free = λ z. rw (← s.kept j (omega arith)) free; full = λ i l h. s.full i (omega arith) h; kept = still }

pub none_passed : (lasts choices : List ℕ) → Passed lasts choices 6 choices
none_passed lasts choices = record { kept = λ i h. refl; full = λ i l h. absurd (omega arith) }

pub all_passed : {lasts before choices : List ℕ} {k : ℕ} → k ≤ 0 → Passed lasts before k choices → MovedAt lasts before 0 choices
all_passed z s = record { within = omega arith; free = λ h. absurd (omega arith); full = λ i l h. s.full i (omega arith) h; kept = λ i h. absurd (omega arith) }

-- ---- the row afterwards

-- the place of a choice that is set
pub pick_set : (grid : List (List ℕ)) (choices values : List ℕ) (j v : ℕ) → length choices ≡ 6 → j < 6 → Picked grid choices values
    → Picked grid (set choices j v) (set values j (get_or (get_or grid j []) v 0))
pick_set grid choices values j v hc h p = record {
  six = length-set values j _ ∙ p.six;
  picked = λ i l.
      set_cases values j (get_or (get_or grid j []) v 0) 0 (omega (arith, p.six)) (λ x. x ≡ get_or (get_or grid i []) (get_or (set choices j v) i 0) 0) i
      (λ e. rw (e, get_or-set_same choices j v 0 (omega arith)))
      (λ n. rw (get_or-set_other choices j i v 0 n) (p.picked i l));
}

module _ (grid : List (List ℕ)) (lasts before : List ℕ) (column : ℕ) (choices values : List ℕ) (p : Picked grid choices values) (at : MovedAt lasts before column choices) where
  pub moved_on : (Combination (counts_by lasts) choices) × (row_of (counts_by lasts) choices ≡ row_of (counts_by lasts) before + 1) → Moved grid lasts before column choices values
  moved_on h =
      let below = row_below h.0 in
      record {
        choices_are = sym (choices_of_row h.0) ∙ ap (choices_at (counts_by lasts)) (h.1 ∙ sym (mod-eq_of_lt (rw h.1 at below)));
        values_are = p;
        moved = at;
      }

  -- past the last row
  pub moved_round : Combination (counts_by lasts) before → (k : ℕ) → k ≡ 0 → Carried (counts_by lasts) (row_of (counts_by lasts) before) k choices → Moved grid lasts before column choices values
  moved_round ok k z s =
      let c : row_of (counts_by lasts) choices + product (counts_by lasts) ≡ row_of (counts_by lasts) before + 1 = rw z at s.counted in
      let below = row_below ok in
      let first : row_of (counts_by lasts) choices ≡ 0 = omega arith in
      let last : row_of (counts_by lasts) before + 1 ≡ product (counts_by lasts) = omega arith in
      record {
        choices_are = sym (choices_of_row s.combines) ∙ ap (choices_at (counts_by lasts)) (first ∙ sym (mod_self (product (counts_by lasts))) ∙ ap (λ (n : ℕ). n % product (counts_by lasts)) (sym last));
        values_are = p;
        moved = at;
      }
