-- A row by its places: the numbers behind the base's say where its columns stand, and the row is that of the base and these columns. Assumes nothing.
use Rattle.std.specs.Prelude.{Some}
use Prim.Native.Nat.{ℕ, ◌+◌, ◌-◌, ◌<◌, ◌≤◌}
use mathlib.Core.List.{List}
use mathlib.Core.Bool.{Bool, true, false, and-eq-true_iff}
use mathlib.Core.Path.{◌≡◌, refl, sym, ◌∙◌, ap}
use borrow.Author.Tests.{ltb-true, ltb-false, leb-true}
use native.Mathlib.Omega.{arith}
use lib.Dec.{ltb, leb}
use lib.ListN.{length, get_or, set, length-set, length-drop}
use lib.Seq.{get_or-set_same, get_or-set_other, get_or-drop, ext_get_or}
use Rattle.bags.specs.Reading.{many}
use Rattle.bags.specs.Sections.{sections_of}
use Rattle.bags.specs.declared.sections.Sections.{Sections}
use Rattle.slots.specs.Slots.{kept_sections, Indexed}
use Rattle.slots.proofs.SlotLaws.{sections_by_slots, indexed_by_slots}
use Rattle.questions.specs.Columns.{column_end}
use Rattle.questions.specs.Questions.{follows, is_question, head_of}
use Rattle.questions.proofs.ColumnLaws.{question_only, question_divided}
use Rattle.questions.proofs.PlaceLaws.{set_cases, first_of, column_of}
use Rattle.views.specs.Rows.{row_view, RowStands}
use Rattle.views.specs.Places.{kept_heads, placed_view, RowAt, WithColumns, PlacesOf}

-- ---- the places of columns are put behind those of a base

-- of places that had the number of columns only, the first i columns have theirs now
pub record Columning (n : ℕ) (heads counted places : List ℕ) (i : ℕ) : Type 0 where
  pub sized : length places ≡ 202
  pub most : i ≤ 6
  pub slots : (k : ℕ) → k < 195 → get_or places k 0 ≡ get_or counted k 0
  pub count : get_or places 195 0 ≡ n
  pub starts : (k : ℕ) → k < i → get_or places (196 + k) 0 ≡ get_or heads k 0

-- none of them yet
pub columning_starts : (n : ℕ) (heads base : List ℕ) → length base ≡ 202 → Columning n heads (set base 195 n) (set base 195 n) 0
columning_starts n heads base sized = record {
  sized = simp length-set sized;
  most = omega arith;
  slots = λ k h. refl;
  count = get_or-set_same base 195 n 0 (omega arith);
  starts = λ k h. absurd (omega arith);
}

-- one more
pub columning_on : (n : ℕ) (heads counted places : List ℕ) (i : ℕ) → Columning n heads counted places i → i < 6
    → Columning n heads counted (set places (196 + i) (get_or heads i 0)) (i + 1)
columning_on n heads counted places i w l = record {
  sized = simp length-set w.sized;
  most = omega arith;
  slots = λ k h. get_or-set_other places (196 + i) k (get_or heads i 0) 0 (λ e. omega arith) ∙ w.slots k h;
  count = get_or-set_other places (196 + i) 195 (get_or heads i 0) 0 (λ e. omega arith) ∙ w.count;
  starts = λ k h.
      set_cases places (196 + i) (get_or heads i 0) 0 (omega (arith, w.sized)) (λ x. x ≡ get_or heads k 0) (196 + k)
      (λ e. let q : i ≡ k = omega arith in ap (λ (m : ℕ). get_or heads m 0) q) (λ d. w.starts k (before k h d));
}
  where
    before : (k : ℕ) → k < i + 1 → (196 + k ≡ 196 + i → ⊥) → k < i
    before k h d = go (ltb k i) refl
      where
        go : (b : Bool) → ltb k i ≡ b → k < i
        go true p = ltb-true k i p
        go false p = let g = ltb-false k i p in absurd (d (omega arith))

-- all of them
pub columned : (n : ℕ) (heads base places : List ℕ) (i : ℕ) → Columning n heads (set base 195 n) places i → n ≤ 6 → 6 ≤ i → WithColumns base n heads places
columned n heads base places i w few done = record {
  sized = w.sized;
  few = few;
  slots = λ k h. w.slots k h ∙ get_or-set_other base 195 k n 0 (λ e. omega arith);
  count = w.count;
  starts = λ k h. get_or-drop 196 places k 0 ∙ w.starts k (omega arith);
}

-- ---- what such places are those of

-- of columns that stand where the list says
pub heads_same : {base places : List ℕ} {n : ℕ} {heads : List ℕ} → WithColumns base n heads places → length heads ≡ 6 → kept_heads places ≡ heads
heads_same {places = places} {heads = heads} w six =
    let long : length (kept_heads places) ≡ 6 = length-drop 196 places ∙ ap (λ (m : ℕ). m - 196) w.sized in
    ext_get_or 0 (kept_heads places) heads (long ∙ sym six) (λ i h. w.starts i (omega arith))

module _ (s base places : List ℕ) (p : Sections) (n : ℕ) (heads : List ℕ) (w : WithColumns base n heads places) where
  -- and of the base's sections
  pub places_of : kept_sections base ≡ p → Indexed s base → PlacesOf s p n places
  places_of is indexed = record {
    sections = sections_by_slots s base places w.slots ∙ is;
    columns = w.count;
    indexed = indexed_by_slots s base places w.slots indexed;
  }

-- ---- the row of places is that of their sections and columns

module _ {s : List ℕ} {p : Sections} {n : ℕ} {places : List ℕ} (w : PlacesOf s p n places) (values : List ℕ) where
  -- it stands where that row stands
  pub stands_placed : RowStands s p n (kept_heads places) values → RowAt s places values
  stands_placed h = record { stands = rw (w.sections, w.columns) h; indexed = w.indexed }

  -- and shows what that row shows
  pub same_view : placed_view s places values ≡ row_view s p n (kept_heads places) values
  same_view = rw (w.sections, w.columns) refl

-- ---- the heads of a question's columns

-- a question has at most 4,096 bytes
pub question_small : (s : List ℕ) (p : Sections) → question_only s ≡ Some p → length s ≤ 4096
unfolding is_question
question_small s p h = leb-true (length s) 4096 ((and-eq-true_iff (leb (length s) 4096) (follows s (sections_of s))).0 (question_divided s p h).0).0

-- a column starts in the question's bytes, and beyond the columns stands 0
pub heads_low : (s : List ℕ) (n at last most : ℕ) (heads : List ℕ) → many n (column_end s) at ≡ Some last → length s ≤ most
    → ((i : ℕ) → i < 6 → get_or heads i 0 ≡ first_of n (head_of s at) i) → (i : ℕ) → i < 6 → get_or heads i 0 ≤ most
heads_low s n at last most heads columns small are i h = go (ltb i n) refl
  where
    go : (b : Bool) → ltb i n ≡ b → get_or heads i 0 ≤ most
    go true q =
        let e : get_or heads i 0 ≡ head_of s at i = are i h ∙ simp q in
        let c = (column_of s n at last columns i (ltb-true i n q)).1.counted in
        omega arith
    go false q = let e : get_or heads i 0 ≡ 0 = are i h ∙ simp q in omega arith
