-- Entries, sections and bags. Definitions only.
use Rattle.std.specs.Prelude.{ℕ, ◌+◌, List, [], ◌∷◌, ◌≡◌, Bool, true, false, ◌&&◌, ltb, leb, eqb, length, None, Option, Some}
use Rattle.slices.specs.Order.{SortsBefore, sorts_before}
use Rattle.slices.specs.Parts.{part}
use Rattle.bags.specs.Reading.{byte, only, many, each}
use Rattle.bags.specs.Paths.{is_path}
use Rattle.bags.specs.Values.{value_end}
use Rattle.bags.specs.declared.sections.Sections.{Sections}
use Rattle.bags.specs.Sizes.{most_bag_bytes, most_entries}

-- of the entry at a place: its path, after a length byte, and where its kind byte stands
abbrev pub path_at : List ℕ → ℕ → List ℕ
path_at s at = part s (at + 1) (byte s at)

abbrev pub kind_at : List ℕ → ℕ → ℕ
kind_at s at = at + 1 + byte s at

-- an entry: a path length byte, the path, a kind byte and a value
unfoldable pub entry_end : List ℕ → ℕ → Option ℕ
entry_end s at = only (ltb (kind_at s at) (length s) && is_path (path_at s at)) (value_end (byte s (kind_at s at)) s (kind_at s at + 1))

-- the paths that follow p: each stands after the one before it, the first after p
unfoldable pub ascends : List ℕ → List (List ℕ) → Bool
ascends p [] = true
ascends p (q ∷ qs) = sorts_before p q && ascends q qs

-- each path stands before the next
unfoldable pub ascending : List (List ℕ) → Bool
ascending [] = true
ascending (p ∷ ps) = ascends p ps

-- the same without computing: every two neighbours are in order
pub data Ascending : List (List ℕ) → Type 0 where
  none : Ascending []
  one : {p : List ℕ} → Ascending (p ∷ [])
  more : {p q : List ℕ} {ps : List (List ℕ)} → SortsBefore p q → Ascending (q ∷ ps) → Ascending (p ∷ q ∷ ps)

-- the paths of n entries
abbrev pub paths_of : ℕ → List ℕ → ℕ → List (List ℕ)
paths_of n s at = each n (entry_end s) (λ at e. path_at s at) at

-- n entries that ascend strictly by path bytes
unfoldable pub entries_end : ℕ → List ℕ → ℕ → Option ℕ
entries_end n s at = only (ascending (paths_of n s at)) (many n (entry_end s) at)

-- a section: a count byte of 0 to 32, and that many entries
unfoldable pub section_end : List ℕ → ℕ → Option ℕ
section_end s at = only (ltb at (length s) && leb (byte s at) most_entries) (entries_end (byte s at) s (at + 1))

-- go on where a section ended
abbrev pub afterwards : Option ℕ → (ℕ → Option Sections) → Option Sections
afterwards (Some e) next = next e
afterwards None next = None

-- the sections, where the second and the third start at these places
abbrev pub from_env : List ℕ → ℕ → ℕ → Option Sections
from_env s resource env = afterwards (section_end s env) λ end. Some (record { resource = resource; env = env; end = end })

-- the sections, where the second starts at this place
abbrev pub from_resource : List ℕ → ℕ → Option Sections
from_resource s resource = afterwards (section_end s resource) λ env. from_env s resource env

-- the sections principal, resource and env from the first byte on: where the second and the third start, and where that one ends
unfoldable pub sections_of : List ℕ → Option Sections
sections_of s = afterwards (section_end s 0) λ resource. from_resource s resource

-- what that says of each section
pub record Sectioned (s : List ℕ) (p : Sections) : Type 0 where
  pub principal : section_end s 0 ≡ Some p.resource
  pub resource : section_end s p.resource ≡ Some p.env
  pub env : section_end s p.env ≡ Some p.end

-- whether the sections end at a place
abbrev pub fill : Option Sections → ℕ → Bool
fill (Some p) n = eqb p.end n
fill None n = false

-- a bag: the three sections, with nothing after them, 4,096 bytes at most
unfoldable pub is_bag : List ℕ → Bool
is_bag s = leb (length s) most_bag_bytes && fill (sections_of s) (length s)
