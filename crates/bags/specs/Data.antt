-- Values and entries: what they are, apart from any bytes, and what the bytes at a place say. Definitions only.
use Rattle.std.specs.Prelude.{ℕ, ◌+◌, List, Bool, cond, eqb, Float}
use Rattle.numbers.specs.Bits.{number_at}
use Rattle.slices.specs.Parts.{part}
use Rattle.bags.specs.Reading.{byte, each}
use Rattle.bags.specs.Values.{string_end}

-- what an attribute or a literal is: a string, a number, a flag, a list of strings, or absent
pub data Datum : Type 0 where
  text : List ℕ → Datum
  number : Float → Datum
  flag : Bool → Datum
  texts : List (List ℕ) → Datum
  absent : Datum

-- a path and what stands under it
pub record Entry (A : Type 0) : Type 0 where
  pub path : List ℕ
  pub value : A

-- a string: a length byte and its bytes; a list: a count byte and its strings
unfoldable pub string_at : List ℕ → ℕ → List ℕ
string_at s at = part s (at + 1) (byte s at)

unfoldable pub list_at : List ℕ → ℕ → List (List ℕ)
list_at s at = each (byte s at) (string_end s) (λ at e. string_at s at) (at + 1)

-- what the kind byte at k and the bytes after it say
unfoldable pub datum_at : List ℕ → ℕ → Datum
datum_at s k =
    cond (eqb (byte s k) 1) (text (string_at s (k + 1)))
    (cond (eqb (byte s k) 2) (number (number_at s (k + 1)))
    (cond (eqb (byte s k) 3) (flag (eqb (byte s (k + 1)) 1)) (cond (eqb (byte s k) 4) (texts (list_at s (k + 1))) absent)))
