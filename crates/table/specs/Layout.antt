-- The bytes of the table: 5 for each entry, its kind and its two fields of 16 bits, the low byte first; no other file says how they lie.
-- An entry is there whole or not at all. Definitions only.
use Rattle.std.specs.Prelude.{List, [], ◌∷◌, ◌++◌, Bool, true, false, cond, ◌&&◌, ℕ, ◌+◌, ◌*◌, ◌/◌, ◌%◌, length, get_or, eqb, leb}
use Rattle.std.proofs.lemmas.List.Edits.{sets}
use Rattle.table.specs.declared.Entry.{Entry}
use Rattle.table.specs.Entries.{entry}

-- how many bytes an entry takes
abbrev pub entry_size : ℕ
entry_size = 5

-- how many numbers a field can hold: it has 16 bits
abbrev pub field_numbers : ℕ
field_numbers = 65536

-- the bytes of an entry: its kind, the two of its first field, the two of its second
unfoldable pub entry_bytes : Entry → List ℕ
entry_bytes x = x.kind ∷ x.first % 256 ∷ x.first / 256 % 256 ∷ x.second % 256 ∷ x.second / 256 % 256 ∷ []

-- the bytes of entries, one after another
unfoldable pub bytes_of : List Entry → List ℕ
bytes_of [] = []
bytes_of (x ∷ xs) = entry_bytes x ++ bytes_of xs

-- how many entries a table has room for
unfoldable pub entries_in : List ℕ → ℕ
entries_in table = length table / entry_size

-- whether the table has room for entry number e
abbrev pub fits : List ℕ → ℕ → Bool
fits table e = leb (entry_size * e + entry_size) (length table)

-- the table with this entry put at number e, where there is room for all of it
unfoldable pub put_at : List ℕ → ℕ → Entry → List ℕ
put_at table e x = cond (fits table e) (sets table (entry_size * e) (entry_bytes x)) table

-- the table with these entries put at their places from number e on, as far as it goes
unfoldable pub puts : List ℕ → ℕ → List Entry → List ℕ
puts table e [] = table
puts table e (x ∷ xs) = puts (put_at table e x) (e + 1) xs

-- the number of two bytes
abbrev pub of_two_bytes : ℕ → ℕ → ℕ
of_two_bytes low high = low + 256 * high

-- entry number e of a table, with zeros where the table has none
unfoldable pub entry_at : List ℕ → ℕ → Entry
entry_at table e =
    cond (fits table e)
    (entry (get_or table (entry_size * e) 0)
    (of_two_bytes (get_or table (entry_size * e + 1) 0) (get_or table (entry_size * e + 2) 0))
    (of_two_bytes (get_or table (entry_size * e + 3) 0) (get_or table (entry_size * e + 4) 0)))
    (entry 0 0 0)

-- whether the table has this entry at number e
unfoldable pub entry_is : List ℕ → ℕ → Entry → Bool
entry_is table e x =
    fits table e
    && eqb (get_or table (entry_size * e) 0) x.kind
    && eqb (get_or table (entry_size * e + 1) 0) (x.first % 256)
    && eqb (get_or table (entry_size * e + 2) 0) (x.first / 256 % 256)
    && eqb (get_or table (entry_size * e + 3) 0) (x.second % 256)
    && eqb (get_or table (entry_size * e + 4) 0) (x.second / 256 % 256)

-- whether the table has these entries from number e on
unfoldable pub held : List ℕ → ℕ → List Entry → Bool
held table e [] = true
held table e (x ∷ xs) = entry_is table e x && held table (e + 1) xs

-- whether the bytes s begin with the bytes a
unfoldable pub starts_with : List ℕ → List ℕ → Bool
starts_with [] s = true
starts_with (x ∷ a) [] = false
starts_with (x ∷ a) (y ∷ s) = eqb y x && starts_with a s
