-- A row that is made of a question's places stands in its bytes, and its view is the look-up in the row's bag. Assumes nothing.
use Rattle.std.specs.Prelude.{Some}
use Prim.Native.Nat.{ℕ, ◌+◌, ◌<◌, ◌≤◌}
use mathlib.Core.List.{List, [], map}
use mathlib.Core.Path.{◌≡◌, refl, sym, ◌∙◌, ap, subst}
use borrow.Author.Tests.{lt-ltb}
use native.Mathlib.Omega.{arith}
use lib.Dec.{T}
use lib.Ieee.Scale.{finite}
use lib.ListN.{get_or}
use Rattle.bags.specs.Reading.{many}
use Rattle.bags.specs.Sections.{Sectioned}
use Rattle.bags.specs.declared.sections.Sections.{Sections}
use Rattle.bags.proofs.ReadLaws.{nth}
use Rattle.lookups.specs.Values.{value_at, Valued, ValueWhole}
use Rattle.lookups.specs.Lookups.{base_of}
use Rattle.lookups.specs.declared.values.Value.{Value}
use Rattle.lookups.proofs.BagLaws.{value_whole, value_finite, base_whole, base_finite}
use Rattle.questions.specs.Columns.{candidate_end, count_at, column_end}
use Rattle.questions.specs.Questions.{head_of, count_of, choice_at, cell}
use Rattle.questions.proofs.ColumnLaws.{Columned, candidate_valued}
use Rattle.questions.proofs.PlaceLaws.{first_of, first_is, column_of}
use Rattle.views.specs.Meaning.{present, look, has_path, Chosen, row_bag, columns_first}
use Rattle.views.specs.Values.{datum_in, StandsFor, base_bag, chosen_meant}
use Rattle.views.specs.Rows.{chosen_at, chosen_of, base_value, row_value, row_view, RowStands, columns_of, bag_of_row, Chooses}
use Rattle.slots.specs.Slots.{kept_sections}
use Rattle.views.specs.Places.{kept_columns, kept_heads, placed_view, RowAt, BagPlaced}
use Rattle.views.proofs.RowBag.{row_view_is, has_in_row}
use Rattle.views.proofs.ReadLaws.{look_means, columns_mean, base_filled}
use Rattle.views.proofs.ViewLaws.{listed_alike, columns_have}

-- ---- what the code's places show

module _ (s : List ℕ) (p : Sections) (n : ℕ) (heads values : List ℕ) (w : RowStands s p n heads values) (root : ℕ) (path : List ℕ) where
  row_is : datum_in s (row_value s p n heads values root path) ≡ row_view s p n heads values root path
  unfolding row_value row_view base_bag
  row_is = columns_mean s (chosen_of n s heads values) (base_value s p) (look (base_bag s p)) root path (look_means s (base_of s p root) path)

  -- what the base's values have, and those of the candidates
  row_has : (P : Value → Type 0) → P (base_value s p root path) → ((k : ℕ) → Valued s k → P (value_at s k)) → P (row_value s p n heads values root path)
  unfolding row_value chosen_of
  row_has P base some =
      columns_have (λ i. chosen_at s (get_or heads i 0) (get_or values i 0)) (base_value s p) root path P base n 0
      (λ j l. let z : 0 + j ≡ j = omega arith in rw z (some (get_or values j 0) (w.valued j l)))

  row_whole : ValueWhole s (row_value s p n heads values root path)
  row_whole = row_has (ValueWhole s) (base_whole s path p root w.sections) (value_whole s)

  -- a number of the row is finite
  pub row_finite : T (finite (row_value s p n heads values root path).number)
  row_finite = row_has (λ v. T (finite v.number)) (base_finite s path p root w.sections) (value_finite s)

  pub row_reads : StandsFor s (row_value s p n heads values root path) (row_view s p n heads values root path)
  row_reads = record { is = row_is; whole = row_whole }

-- ---- a row of a question

module _ (s : List ℕ) (p : Sections) (n at last : ℕ) (few : n ≤ 6) (columns : many n (column_end s) at ≡ Some last) (choices : List ℕ) (chooses : Chooses n s at choices) where
  column : (i : ℕ) → i < n → (e : ℕ) × Columned s (head_of s at i) e
  column = column_of s n at last columns

  -- a choice is below 8
  pub choices_small : (i : ℕ) → i < n → get_or choices i 0 < 8
  choices_small i l = omega (arith, chooses i l, (column i l).1.few)

  choice_valued : (i : ℕ) → i < n → Valued s (choice_at s (head_of s at i) (get_or choices i 0))
  unfolding choice_at
  choice_valued i l =
      let c = (column i l).1 in
      let r = nth (candidate_end s) (count_of s (head_of s at i)) (get_or choices i 0) (count_at s (head_of s at i) + 1) (column i l).0 (chooses i l) c.candidates in
      simp (lt-ltb _ _ (chooses i l), r.starts) (candidate_valued s r.start r.stop r.stops)

  module _ (heads values : List ℕ) (grid : List (List ℕ))
      (heads_are : (i : ℕ) → i < 6 → get_or heads i 0 ≡ first_of n (head_of s at) i)
      (grid_is : (i j : ℕ) → i < 6 → j < 8 → get_or (get_or grid i []) j 0 ≡ cell s at n i j)
      (values_are : (i : ℕ) → i < 6 → get_or values i 0 ≡ first_of n (λ i. get_or (get_or grid i []) (get_or choices i 0) 0) i) where
    head_is : (i : ℕ) → i < n → get_or heads i 0 ≡ head_of s at i
    head_is i l = first_is (head_of s at) heads few heads_are l

    value_is : (i : ℕ) → i < n → get_or values i 0 ≡ choice_at s (head_of s at i) (get_or choices i 0)
    unfolding cell
    value_is i l =
        let here : i < 6 = omega arith in
        values_are i here ∙ simp (lt-ltb i n l) (grid_is i (get_or choices i 0) here (choices_small i l) ∙ simp (lt-ltb i n l))

    pub row_stands : Sectioned s p → RowStands s p n heads values
    row_stands w = record {
      sections = w;
      few = few;
      named = λ i l. rw (head_is i l) (column i l).1.counted;
      valued = λ i l. rw (value_is i l) (choice_valued i l);
    }

    same_columns : chosen_of n s heads values ≡ columns_of n s at choices
    unfolding chosen_of columns_of
    same_columns =
        listed_alike (λ i. chosen_at s (get_or heads i 0) (get_or values i 0)) (λ i. chosen_at s (head_of s at i) (choice_at s (head_of s at i) (get_or choices i 0))) 0 n
        (λ i l. let z : 0 + i ≡ i = omega arith in rw (z, head_is i l, value_is i l))

    -- the row's view is the look-up in the base with each column's attribute set to its choice, or removed
    pub row_shows : (root : ℕ) (path : List ℕ) → row_view s p n heads values root path ≡ look (bag_of_row s p n at choices) root path
    unfolding row_view bag_of_row
    row_shows root path =
        ap (λ (cs : List (Chosen Value)). columns_first (map (chosen_meant s) cs) (look (base_bag s p)) root path) same_columns
        ∙ sym (row_view_is (base_bag s p) (map (chosen_meant s) (columns_of n s at choices)) root path)

-- `has` of a row: an entry of the row's bag with exactly that path
pub has_is_presence : (s : List ℕ) (p : Sections) (n at : ℕ) (choices : List ℕ) (root : ℕ) (path : List ℕ) → Sectioned s p
    → present (look (bag_of_row s p n at choices) root path) ≡ has_path (bag_of_row s p n at choices root) path
unfolding bag_of_row
has_is_presence s p n at choices root path w =
    has_in_row (base_bag s p) (map (chosen_meant s) (columns_of n s at choices)) root path (base_filled s p root w)

-- ---- a bag: the row without columns

pub plain_stands : (s : List ℕ) (p : Sections) (heads values : List ℕ) → Sectioned s p → RowStands s p 0 heads values
plain_stands s p heads values w = record { sections = w; few = omega arith; named = λ i l. absurd (omega arith); valued = λ i l. absurd (omega arith) }

-- the row without columns has the base for its bag
pub plain_bag : (s : List ℕ) (p : Sections) (at : ℕ) (choices : List ℕ) → bag_of_row s p 0 at choices ≡ base_bag s p
unfolding bag_of_row columns_of row_bag
plain_bag s p at choices = refl

-- the same by its places
pub plain_placed : (s places values : List ℕ) → BagPlaced s places → RowAt s places values
plain_placed s places values b = record {
  stands = subst (λ (n : ℕ). RowStands s (kept_sections places) n (kept_heads places) values) (sym b.plain) (plain_stands s (kept_sections places) (kept_heads places) values b.sections);
  indexed = b.indexed;
}

-- and the view of that row is what the bag shows
pub plain_view : (s places values : List ℕ) → kept_columns places ≡ 0 → placed_view s places values ≡ look (base_bag s (kept_sections places))
unfolding row_view chosen_of columns_first
plain_view s places values e = ap (λ (n : ℕ). row_view s (kept_sections places) n (kept_heads places) values) e
