-- What a look-up by bag, root byte and dotted path answers. Definitions only.
use Rattle.std.specs.Prelude.{ℕ, suc, ◌+◌, List, [], ◌∷◌, cond, ◌≡◌, eqb, Float, None, Option, Some, Result, Ok, Err}
use Rattle.slices.specs.Same.{same}
use Rattle.bags.specs.Reading.{byte, each}
use Rattle.bags.specs.Sections.{path_at, kind_at, entry_end, sections_of, is_bag}
-- a path and what stands under it
pub use Rattle.bags.specs.Data.{Entry}
use Rattle.bags.specs.declared.sections.Sections.{Sections}
use Rattle.lookups.specs.Values.{nought, absent, value_at}
use Rattle.lookups.specs.declared.values.Value.{Value}
use Rattle.lookups.specs.declared.Stretch.{Stretch}

-- the value of the entry with this path, or else none
unfoldable pub look_in : {A : Type 0} → A → List (Entry A) → List ℕ → A
look_in none [] path = none
look_in none (e ∷ es) path = cond (same e.path path) e.value (look_in none es path)

-- the entry from a place to its end: its path, and the value after it
abbrev pub bag_entry_at : List ℕ → ℕ → ℕ → Entry Value
bag_entry_at s at e = record { path = path_at s at; value = value_at s (kind_at s at) }

-- the entries of the section whose count byte stands at b
unfoldable pub section_at : List ℕ → ℕ → List (Entry Value)
section_at s b = each (byte s b) (entry_end s) (bag_entry_at s) (b + 1)

-- of n entries from a place on, one starts at the other place
pub data EntryOf (s : List ℕ) : ℕ → ℕ → ℕ → Type 0 where
  the_first : {n at next : ℕ} → entry_end s at ≡ Some next → EntryOf s (suc n) at at
  a_later : {n at next entry : ℕ} → entry_end s at ≡ Some next → EntryOf s n next entry → EntryOf s (suc n) at entry

-- the section of a root byte: 1 principal, 2 resource, 3 env; any other has none
unfoldable pub base_of : List ℕ → Sections → ℕ → List (Entry Value)
base_of s p root =
    cond (eqb root 1) (section_at s 0) (cond (eqb root 2) (section_at s p.resource) (cond (eqb root 3) (section_at s p.env) []))

-- what bytes in three sections have; other bytes have no entry
abbrev pub divided : Option Sections → (Sections → List (Entry Value)) → List (Entry Value)
divided (Some p) f = f p
divided None f = []

-- the entries of a root byte, in bytes that begin with three sections
unfoldable pub bag_of : List ℕ → ℕ → List (Entry Value)
bag_of s root = divided (sections_of s) λ p. base_of s p root

-- the attribute of a bag; 24 where the bytes are no bag
unfoldable pub lookup_of : List ℕ → ℕ → List ℕ → Result Value ℕ
lookup_of s root path = cond (is_bag s) (Ok (look_in absent (bag_of s root) path)) (Err 24)

-- what an answer says in document 01's numbers: the refusal's, or 0; the kind, the number and the place
pub record LookupSaid : Type 0 where
  pub refusal : ℕ
  pub kind : ℕ
  pub number : Float
  pub place : ℕ

-- what each answer says; a refusal has zeros elsewhere
abbrev pub lookup_said : Result Value ℕ → LookupSaid
lookup_said (Err n) = record { refusal = n; kind = 0; number = nought; place = 0 }
lookup_said (Ok v) = record { refusal = 0; kind = v.kind; number = v.number; place = v.place }

-- ---- the part of the bag that a string's bytes are

-- where the bytes start, and how many they are: none unless it is a string
unfoldable pub start_of : Result Value ℕ → ℕ
start_of (Err n) = 0
start_of (Ok v) = cond (eqb v.kind 1) (v.place + 1) 0

unfoldable pub length_of : List ℕ → Result Value ℕ → ℕ
length_of s (Err n) = 0
length_of s (Ok v) = cond (eqb v.kind 1) (byte s v.place) 0

-- both, as they are told to a caller that cannot take a part
abbrev pub stretch_of : List ℕ → Result Value ℕ → Stretch
stretch_of s a = record { start = start_of a; length = length_of s a }
