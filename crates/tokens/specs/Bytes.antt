-- The class of a byte, as document 01 has it. Definitions only.
use Rattle.std.specs.Prelude.{ℕ, Bool, false, cond, ◌&&◌, ◌||◌, List, [], ◌∷◌, leb, ltb, eqb}
use Prim.Native.Char.{code}
use Rattle.slices.specs.Ascii.{bytes}

-- whether a byte is one of those from `low` to `high`
abbrev pub within : ℕ → ℕ → ℕ → Bool
within low high b = leb low b && leb b high

-- whether a byte is one of some
abbrev pub one_of : List ℕ → ℕ → Bool
one_of [] b = false
one_of (x ∷ xs) b = eqb b x || one_of xs b

-- the classes: never, text only, blank, mark, digit, letter
abbrev pub never : ℕ
never = 0

abbrev pub text_only : ℕ
text_only = 1

abbrev pub blank : ℕ
blank = 2

abbrev pub mark : ℕ
mark = 3

abbrev pub digit : ℕ
digit = 4

abbrev pub letter : ℕ
letter = 5

-- what class a byte is of: the first line that fits. A mark is every other byte that some token has outside a string, `_` in words too
unfoldable pub class_of : ℕ → ℕ
class_of b =
    cond (within (code "A") (code "Z") b || within (code "a") (code "z") b) letter
    (cond (within (code "0") (code "9") b) digit
    (cond (one_of (bytes " \t\n\r") b) blank
    (cond (one_of (bytes "(){}[],;.!&|=<>\"-_") b) mark
    (cond (ltb b 0x20 || eqb b 0x7f) never text_only))))
