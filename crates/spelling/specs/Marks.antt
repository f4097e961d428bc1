-- How strings and comparators are written. Definitions only.
use Rattle.std.specs.Prelude.{List, [], ◌∷◌, ◌++◌, ℕ}
use Rattle.slices.specs.Ascii.{bytes}
use Rattle.tokens.specs.Forms.{quote}
use Rattle.grammar.specs.Policies.{Comparator, Comparator.Equal, Comparator.NotEqual, Comparator.More, Comparator.AtLeast, Comparator.Less, Comparator.AtMost}

-- a string with its quotes
abbrev pub quoted : List ℕ → List ℕ
quoted s = quote ∷ (s ++ quote ∷ [])

-- a comparator's sign
unfoldable pub sign_of : Comparator → List ℕ
sign_of Equal = bytes "=="
sign_of NotEqual = bytes "!="
sign_of More = bytes ">"
sign_of AtLeast = bytes ">="
sign_of Less = bytes "<"
sign_of AtMost = bytes "<="
