-- Values, bags, and the bag of a row: what they are, apart from any bytes. Definitions only.
use Rattle.std.specs.Prelude.{ℕ, List, [], ◌∷◌, Bool, true, false, ◌&&◌, ◌||◌, cond, eqb}
use Rattle.slices.specs.Same.{same}
use Rattle.bags.specs.Forms.{Contents}
use Rattle.lookups.specs.Lookups.{Entry, look_in}
-- what an attribute or a literal is
pub use Rattle.bags.specs.Data.{Datum, text, number, flag, texts, absent}

-- whether there is a value
abbrev pub present : Datum → Bool
present (text b) = true
present (number x) = true
present (flag b) = true
present (texts l) = true
present absent = false

-- what each attribute is, by root byte and dotted path
abbrev pub View : Type 0
View = ℕ → List ℕ → Datum

-- a section of entries for each root byte
abbrev pub Bag : Type 0
Bag = ℕ → List (Entry Datum)

-- what the three sections hold, by root byte: 1 principal, 2 resource, 3 env; any other has none
unfoldable pub as_bag : Contents → Bag
as_bag c root = cond (eqb root 1) c.principal (cond (eqb root 2) c.resource (cond (eqb root 3) c.env []))

-- an attribute of a bag: the value of the entry with its path, or absent
abbrev pub look : Bag → View
look bag root path = look_in absent (bag root) path

-- `has`: an entry with exactly that path
unfoldable pub has_path : List (Entry Datum) → List ℕ → Bool
has_path [] path = false
has_path (e ∷ es) path = same e.path path || has_path es path

-- ---- the bag of a row: the base with each column's attribute set to its choice, or removed

-- a column's attribute, and what is chosen for it
pub record Chosen (A : Type 0) : Type 0 where
  pub root : ℕ
  pub path : List ℕ
  pub value : A

-- the entries with other paths
unfoldable pub without : List ℕ → List (Entry Datum) → List (Entry Datum)
without path [] = []
without path (e ∷ es) = cond (same e.path path) (without path es) (e ∷ without path es)

-- the entries, with the value under the path; an absent value removes what stands there
unfoldable pub set_in : List ℕ → Datum → List (Entry Datum) → List (Entry Datum)
set_in path v es = cond (present v) (record { path = path; value = v } ∷ without path es) (without path es)

-- the bag with one column's attribute set to its choice, or removed
unfoldable pub set_to : Chosen Datum → Bag → Bag
set_to c bag root = cond (eqb c.root root) (set_in c.path c.value (bag root)) (bag root)

-- the same for each column
unfoldable pub row_bag : Bag → List (Chosen Datum) → Bag
row_bag base [] = base
row_bag base (c ∷ cs) = set_to c (row_bag base cs)

-- ---- the same by looking at the columns first

-- what is chosen for the attribute, where a column names it; else what the view has
unfoldable pub columns_first : {A : Type 0} → List (Chosen A) → (ℕ → List ℕ → A) → ℕ → List ℕ → A
columns_first [] view root path = view root path
columns_first (c ∷ cs) view root path = cond (eqb c.root root && same c.path path) c.value (columns_first cs view root path)
