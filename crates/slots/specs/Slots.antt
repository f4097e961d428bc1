-- The places of a bag's entries, kept in one list of numbers, so that an attribute is found by its path without going through its section. Definitions only.
use Rattle.std.specs.Prelude.{ℕ, ◌+◌, ◌-◌, ◌*◌, ◌/◌, ◌%◌, ◌<◌, ◌≤◌, List, ◌≡◌, length, get_or, None, Option, Some}
use Rattle.bags.specs.Reading.{byte}
use Rattle.bags.specs.Sections.{path_at}
use Rattle.bags.specs.declared.sections.Sections.{Sections}
use Rattle.lookups.specs.Lookups.{EntryOf}

-- how many slots a root has: those of principal are the first, then those of resource, then those of env
abbrev pub slot_count : ℕ
slot_count = 64

-- how many numbers there are: the slots, behind them the three places of the sections, and seven that belong to a row's columns
abbrev pub places_size : ℕ
places_size = 202

-- the sections whose places are kept behind the slots
abbrev pub kept_sections : List ℕ → Sections
kept_sections places = record { resource = get_or places 192 0; env = get_or places 193 0; end = get_or places 194 0 }

-- the slot at which the search for a path starts, by its length and by its last, first and middle byte
unfoldable pub start_slot : List ℕ → ℕ
start_slot path = (5 * (length path + byte path (length path - 1)) + 3 * byte path 0 + 9 * byte path (length path / 2)) % slot_count

-- what stands in slot k of the root whose slots begin at a place; after its last slot comes its first
abbrev pub slot_at : List ℕ → ℕ → ℕ → ℕ
slot_at places base k = get_or places (base + k % slot_count) 0

-- an entry of the section whose count byte stands at b
abbrev pub EntryIn : List ℕ → ℕ → ℕ → Type 0
EntryIn s b entry = EntryOf s (byte s b) (b + 1) entry

-- who goes through the slots from a start on comes to this number before any empty slot
pub record MetFrom (places : List ℕ) (base start x : ℕ) : Type 0 where
  pub before : (d : ℕ) → d < slot_count → slot_at places base (start + d) ≡ 0 → (j : ℕ) × ((j < d) × (slot_at places base (start + j) ≡ x))

-- the slots of a root hold the entries of its section, whose count byte stands at b: a slot is 0 or the place of one, and each is met from its path's start on
pub record SlotsHold (s places : List ℕ) (base b : ℕ) : Type 0 where
  pub held : (k : ℕ) → k < slot_count → (get_or places (base + k) 0 ≡ 0 → ⊥) → EntryIn s b (get_or places (base + k) 0)
  pub met : (x : ℕ) → EntryIn s b x → MetFrom places base (start_slot (path_at s x)) x

-- all three roots' slots hold the entries of their sections
pub record Indexed (s places : List ℕ) : Type 0 where
  pub principal : SlotsHold s places 0 0
  pub resource : SlotsHold s places 64 (kept_sections places).resource
  pub env : SlotsHold s places 128 (kept_sections places).env

-- ---- what the steps of keeping do

-- the number of the first empty slot from a start on, or None where none is empty
pub data FirstFree (places : List ℕ) (base start : ℕ) : Option ℕ → Type 0 where
  some : {d : ℕ} → d < slot_count → slot_at places base (start + d) ≡ 0 → ((j : ℕ) → j < d → slot_at places base (start + j) ≡ 0 → ⊥)
      → FirstFree places base start (Some (base + (start + d) % slot_count))
  none : ((j : ℕ) → j < slot_count → slot_at places base (start + j) ≡ 0 → ⊥) → FirstFree places base start None

-- a number is put into the slots of a root: it is met, and only an empty slot has changed
pub record SlotPut (before after : List ℕ) (base start x : ℕ) : Type 0 where
  pub sized : length after ≡ places_size
  pub met : MetFrom after base start x
  pub full : (k : ℕ) → (get_or before k 0 ≡ 0 → ⊥) → get_or after k 0 ≡ get_or before k 0
  pub same : (k : ℕ) → (get_or after k 0 ≡ x → ⊥) → get_or after k 0 ≡ get_or before k 0
  pub below : (k : ℕ) → k < base → get_or after k 0 ≡ get_or before k 0
  pub above : (k : ℕ) → base + slot_count ≤ k → get_or after k 0 ≡ get_or before k 0

-- the slots of a root are filled from a section, and all other numbers are as before
pub record Filled (s before after : List ℕ) (base b : ℕ) : Type 0 where
  pub sized : length after ≡ places_size
  pub kept : SlotsHold s after base b
  pub below : (k : ℕ) → k < base → get_or after k 0 ≡ get_or before k 0
  pub above : (k : ℕ) → base + slot_count ≤ k → get_or after k 0 ≡ get_or before k 0
