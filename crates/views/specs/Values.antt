-- What a read value stands for. Definitions only.
use Rattle.std.specs.Prelude.{ℕ, List, map, cond, ◌≡◌, eqb}
use Rattle.std.specs.Float.Ieee.{eq}
use Rattle.bags.specs.declared.sections.Sections.{Sections}
use Rattle.lookups.specs.Values.{unit, ValueWhole}
use Rattle.lookups.specs.Lookups.{Entry, base_of}
use Rattle.lookups.specs.declared.values.Value.{Value}
use Rattle.views.specs.Meaning.{Datum, text, number, flag, texts, absent, Bag, Chosen}
-- what the bytes at a place say
unfoldable pub use Rattle.bags.specs.Data.{string_at, list_at, datum_at}

-- what a read value stands for, where its string is x and its list's strings are l
unfoldable pub datum_of : Value → List ℕ → List (List ℕ) → Datum
datum_of v x l =
    cond (eqb v.kind 1) (text x)
    (cond (eqb v.kind 2) (number v.number)
    (cond (eqb v.kind 3) (flag (eq v.number unit)) (cond (eqb v.kind 4) (texts l) absent)))

-- what a value read from s stands for
abbrev pub datum_in : List ℕ → Value → Datum
datum_in s v = datum_of v (string_at s v.place) (list_at s v.place)

-- v was read from s, and stands for d
pub record StandsFor (s : List ℕ) (v : Value) (d : Datum) : Type 0 where
  pub is : datum_in s v ≡ d
  pub whole : ValueWhole s v

-- ---- the same of entries, of the base, and of what is chosen

-- an entry
abbrev pub entry_meant : List ℕ → Entry Value → Entry Datum
entry_meant s e = record { path = e.path; value = datum_in s e.value }

-- the three sections as a bag
unfoldable pub base_bag : List ℕ → Sections → Bag
base_bag s p root = map (entry_meant s) (base_of s p root)

-- a column with what is chosen for it
abbrev pub chosen_meant : List ℕ → Chosen Value → Chosen Datum
chosen_meant s c = record { root = c.root; path = c.path; value = datum_in s c.value }
