-- A row of a question: where its columns stand and what they choose, and the view of attributes that it gives. Definitions only.
use Rattle.std.specs.Prelude.{ℕ, ◌<◌, ◌≤◌, List, [], ◌∷◌, map, length, get_or, drop}
use Rattle.tokens.specs.Table.{values_from}
use Rattle.bags.specs.Reading.{byte}
use Rattle.bags.specs.Sections.{Sectioned}
use Rattle.bags.specs.declared.sections.Sections.{Sections}
use Rattle.lookups.specs.Values.{absent as absent_value, value_at, Valued}
use Rattle.lookups.specs.Lookups.{look_in, base_of}
use Rattle.lookups.specs.declared.values.Value.{Value}
use Rattle.questions.specs.Columns.{column_path, count_at}
use Rattle.questions.specs.Questions.{head_of, count_of, choice_at}
use Rattle.questions.specs.Forms.{Column}
use Rattle.questions.specs.Sizes.{most_columns}
use Rattle.views.specs.Meaning.{Datum, absent, View, Bag, look, Chosen, row_bag, columns_first}
use Rattle.views.specs.Values.{base_bag, chosen_meant}

-- the column at c, with the value whose kind byte stands at k
abbrev pub chosen_at : List ℕ → ℕ → ℕ → Chosen Value
chosen_at s c k = record { root = byte s c; path = column_path s c; value = value_at s k }

-- ---- by the places that code holds: those of n columns, and those of what is chosen for them

-- each column with what is chosen for it
unfoldable pub chosen_of : ℕ → List ℕ → List ℕ → List ℕ → List (Chosen Value)
chosen_of n s heads values = values_from (λ i. chosen_at s (get_or heads i 0) (get_or values i 0)) 0 n

-- the attribute in the base
abbrev pub base_value : List ℕ → Sections → ℕ → List ℕ → Value
base_value s p root path = look_in absent_value (base_of s p root) path

-- the attribute in the row: its columns, then the base
unfoldable pub row_value : List ℕ → Sections → ℕ → List ℕ → List ℕ → ℕ → List ℕ → Value
row_value s p n heads values = columns_first (chosen_of n s heads values) (base_value s p)

-- what each attribute of the row stands for
unfoldable pub row_view : List ℕ → Sections → ℕ → List ℕ → List ℕ → View
row_view s p n heads values = columns_first (map (chosen_meant s) (chosen_of n s heads values)) (look (base_bag s p))

-- the row's sections, columns and choices lie in the bytes
pub record RowStands (s : List ℕ) (p : Sections) (n : ℕ) (heads values : List ℕ) : Type 0 where
  pub sections : Sectioned s p
  pub few : n ≤ most_columns
  pub named : (i : ℕ) → i < n → count_at s (get_or heads i 0) < length s
  pub valued : (i : ℕ) → i < n → Valued s (get_or values i 0)

-- ---- by the question's bytes: the row in which column i, of the n columns from a place on, has choice `choices i`

-- each column with its choice
unfoldable pub columns_of : ℕ → List ℕ → ℕ → List ℕ → List (Chosen Value)
columns_of n s at choices = values_from (λ i. chosen_at s (head_of s at i) (choice_at s (head_of s at i) (get_or choices i 0))) 0 n

-- the bag of the row: the base with each column's attribute set to its choice, or removed
unfoldable pub bag_of_row : List ℕ → Sections → ℕ → ℕ → List ℕ → Bag
bag_of_row s p n at choices = row_bag (base_bag s p) (map (chosen_meant s) (columns_of n s at choices))

-- each choice is one of its column's candidates
abbrev pub Chooses : ℕ → List ℕ → ℕ → List ℕ → Type 0
Chooses n s at choices = (i : ℕ) → i < n → get_or choices i 0 < count_of s (head_of s at i)

-- ---- by what the question's bytes say: its base, and its columns with their candidates

-- a column with its candidate of this number
abbrev pub picked : Column → ℕ → Chosen Datum
picked c j = record { root = c.names.root; path = c.names.path; value = get_or (map (λ x. x.is) c.choices) j absent }

-- each column with its choice
unfoldable pub picked_all : List Column → List ℕ → List (Chosen Datum)
picked_all [] choices = []
picked_all (c ∷ cs) choices = picked c (get_or choices 0 0) ∷ picked_all cs (drop 1 choices)
