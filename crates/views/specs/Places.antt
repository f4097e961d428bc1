-- A row by its places: one list of numbers has the slots of the base's entries, the sections and the columns, another what is chosen for the columns.
-- Definitions only.
use Rattle.std.specs.Prelude.{ℕ, ◌<◌, ◌≤◌, List, ◌≡◌, length, get_or, drop}
use Rattle.bags.specs.Sections.{Sectioned}
use Rattle.bags.specs.declared.sections.Sections.{Sections}
use Rattle.slots.specs.Slots.{places_size, kept_sections, Indexed}
use Rattle.lookups.specs.declared.values.Value.{Value}
use Rattle.questions.specs.Sizes.{most_columns}
use Rattle.views.specs.Meaning.{View}
use Rattle.views.specs.Rows.{row_value, row_view, RowStands}

-- where the number of columns is kept, and behind it the places of the columns
abbrev pub columns_at : ℕ
columns_at = 195

-- how many columns there are
abbrev pub kept_columns : List ℕ → ℕ
kept_columns places = get_or places columns_at 0

-- where they stand
abbrev pub kept_heads : List ℕ → List ℕ
kept_heads places = drop 196 places

-- the attribute in the row of these places, with these values chosen
abbrev pub placed_value : List ℕ → List ℕ → List ℕ → ℕ → List ℕ → Value
placed_value s places values = row_value s (kept_sections places) (kept_columns places) (kept_heads places) values

-- what each attribute of that row stands for
abbrev pub placed_view : List ℕ → List ℕ → List ℕ → View
placed_view s places values = row_view s (kept_sections places) (kept_columns places) (kept_heads places) values

-- its sections, columns and choices lie in the bytes, and the slots hold the entries of the base
pub record RowAt (s places values : List ℕ) : Type 0 where
  pub stands : RowStands s (kept_sections places) (kept_columns places) (kept_heads places) values
  pub indexed : Indexed s places

-- a bag by its places: a row without columns
pub record BagPlaced (s places : List ℕ) : Type 0 where
  pub sections : Sectioned s (kept_sections places)
  pub indexed : Indexed s places
  pub plain : kept_columns places ≡ 0

-- places of the sections p and of n columns
pub record PlacesOf (s : List ℕ) (p : Sections) (n : ℕ) (places : List ℕ) : Type 0 where
  pub sections : kept_sections places ≡ p
  pub columns : kept_columns places ≡ n
  pub indexed : Indexed s places

-- the places are those of a base, with n columns at these heads
pub record WithColumns (base : List ℕ) (n : ℕ) (heads places : List ℕ) : Type 0 where
  pub sized : length places ≡ places_size
  pub few : n ≤ most_columns
  pub slots : (k : ℕ) → k < columns_at → get_or places k 0 ≡ get_or base k 0
  pub count : kept_columns places ≡ n
  pub starts : (i : ℕ) → i < most_columns → get_or (kept_heads places) i 0 ≡ get_or heads i 0
