-- Which columns the condition of a policy names, by its entries. Columns count from 1 on here, and 0 stands for none. Definitions only.
use Rattle.std.specs.Prelude.{Bool, cond, not, ◌&&◌, List, ℕ, zero, suc, ◌+◌, ◌-◌, eqb, leb, ltb, length, get_or}
use Rattle.slices.specs.Same.{same}
use Rattle.bags.specs.Reading.{byte}
use Rattle.questions.specs.Columns.{column_path}
use Rattle.placing.specs.Placed.{unblanked_at}
use Rattle.table.specs.declared.Entry.{Entry}
use Rattle.table.specs.Kinds.{action_kind, has_action_kind, roots}
use Rattle.table.specs.Layout.{entry_at}
use Rattle.stored.specs.ReadBack.{span_of_entry}

-- the first of n columns, of which i stand before, that names the attribute
unfoldable pub naming : ℕ → List ℕ → List ℕ → ℕ → ℕ → List ℕ → ℕ
naming zero s heads i root path = 0
naming (suc n) s heads i root path =
    cond (eqb (byte s (get_or heads i 0)) root && same (column_path s (get_or heads i 0)) path) (i + 1) (naming n s heads (i + 1) root path)

-- the root byte of an attribute's entry, and of one of `has`
unfoldable pub root_by : ℕ → ℕ
root_by kind = cond (leb kind action_kind) kind (kind - roots)

-- an entry of a path in the text
unfoldable pub is_attribute : List ℕ → Entry → Bool
is_attribute t x = (leb x.kind has_action_kind && leb x.first x.second) && leb x.second (length t)

-- the column that an entry names
unfoldable pub column_of : List ℕ → List ℕ → ℕ → List ℕ → Entry → ℕ
column_of t s n heads x = cond (is_attribute t x) (naming n s heads 0 (root_by x.kind) (unblanked_at t (span_of_entry x))) 0

-- the larger of two, where the second is not the column `but`
unfoldable pub deeper : ℕ → ℕ → ℕ → ℕ
deeper but a k = cond (ltb a k && not (eqb k but)) k a

-- the last column but one that m entries from number e on name, or a; the accessor `at` gives an entry by its number
unfoldable pub depth_by : ℕ → List ℕ → (ℕ → Entry) → List ℕ → ℕ → List ℕ → ℕ → ℕ → ℕ → ℕ
depth_by zero t at s n heads but e a = a
depth_by (suc m) t at s n heads but e a = depth_by m t at s n heads but (e + 1) (deeper but a (column_of t s n heads (at e)))

-- the same of a table, whose accessor is `entry_at table`
abbrev pub depth_from : ℕ → List ℕ → List ℕ → List ℕ → ℕ → List ℕ → ℕ → ℕ → ℕ → ℕ
depth_from m t table s n heads but e a = depth_by m t (entry_at table) s n heads but e a
