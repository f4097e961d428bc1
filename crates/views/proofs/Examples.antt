-- Worked examples of a row's bag: a column's attribute is set, and removed. Assumes nothing.
use Prim.Native.Nat.{ℕ}
use Prim.Native.String.{String}
use mathlib.Core.Bool.{true, false}
use mathlib.Core.List.{[], ◌∷◌}
use mathlib.Core.Path.{◌≡◌, refl}
use Rattle.slices.specs.Ascii.{bytes}
use Rattle.slices.specs.Same.{same}
use Rattle.lookups.specs.Lookups.{Entry, look_in}
use Rattle.views.specs.Meaning.{Datum, text, flag, absent, Bag, look, has_path, Chosen, without, set_in, set_to, row_bag}

abbrev entry : String → Datum → Entry Datum
entry path value = record { path = bytes path; value = value }

abbrev set : ℕ → String → Datum → Chosen Datum
set root path value = record { root = root; path = bytes path; value = value }

-- every root has the flag a and the string b
abbrev base : Bag
base root = entry "a" (flag true) ∷ entry "b" (text (bytes "x")) ∷ []

-- a row in which a of root 1 is a string, b of root 1 is removed, and c of root 2 is added
abbrev row : Bag
row = row_bag base (set 1 "a" (text (bytes "y")) ∷ set 1 "b" absent ∷ set 2 "c" (flag false) ∷ [])

pub rows :
    (look row 1 (bytes "a") ≡ text (bytes "y"))
    × (look row 1 (bytes "b") ≡ absent)
    × (has_path (row 1) (bytes "b") ≡ false)
    × (look row 2 (bytes "a") ≡ flag true)
    × (look row 2 (bytes "b") ≡ text (bytes "x"))
    × (look row 2 (bytes "c") ≡ flag false)
    × (has_path (row 2) (bytes "c") ≡ true)
    × (look row 3 (bytes "c") ≡ absent)
unfolding look_in has_path without set_in set_to row_bag same
rows = (refl, refl, refl, refl, refl, refl, refl, refl)
