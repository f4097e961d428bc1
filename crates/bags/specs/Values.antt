-- Values: where the value of each kind ends that starts at a place, or Bad. Definitions only.
use Rattle.std.specs.Prelude.{ℕ, ◌+◌, List, ◌&&◌, cond, ltb, leb, eqb, length, None, Option, Some}
use Rattle.std.specs.Float.Ieee.Scale.{finite}
use Rattle.tokens.specs.Sizes.{most_string_bytes}
use Rattle.numbers.specs.Bits.{number_at}
use Rattle.bags.specs.Reading.{byte, only, many}
use Rattle.bags.specs.Sizes.{most_strings}

-- a string: a length byte of 0 to 127, and that many bytes
unfoldable pub string_end : List ℕ → ℕ → Option ℕ
string_end s at = only (leb (at + 1 + byte s at) (length s) && leb (byte s at) most_string_bytes) (Some (at + 1 + byte s at))

-- a number: eight bytes that are a finite binary64
unfoldable pub number_end : List ℕ → ℕ → Option ℕ
number_end s at = only (leb (at + 8) (length s) && finite (number_at s at)) (Some (at + 8))

-- a flag: a byte, 0 or 1
unfoldable pub flag_end : List ℕ → ℕ → Option ℕ
flag_end s at = only (ltb at (length s) && leb (byte s at) 1) (Some (at + 1))

-- a list: a count byte of 0 to 16, and that many strings
unfoldable pub list_end : List ℕ → ℕ → Option ℕ
list_end s at = only (ltb at (length s) && leb (byte s at) most_strings) (many (byte s at) (string_end s) (at + 1))

-- by the kind: 1 string, 2 number, 3 flag, 4 list
unfoldable pub value_end : ℕ → List ℕ → ℕ → Option ℕ
value_end kind s at =
    cond (eqb kind 1) (string_end s at)
    (cond (eqb kind 2) (number_end s at) (cond (eqb kind 3) (flag_end s at) (cond (eqb kind 4) (list_end s at) None)))
