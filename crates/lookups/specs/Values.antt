-- Read values: a kind, a number and a place. Definitions only.
use Rattle.std.specs.Prelude.{ℕ, ◌+◌, ◌<◌, List, ◌&&◌, cond, ◌≡◌, eqb, Float, length, Some}
use Rattle.std.specs.Float.{binary64}
use Rattle.std.specs.Float.Ieee.{of_bits}
use Rattle.numbers.specs.Bits.{number_at}
use Rattle.bags.specs.Reading.{byte}
use Rattle.bags.specs.Values.{value_end}
use Rattle.lookups.specs.declared.values.Value.{Value}

-- the numbers 0 and 1
abbrev pub nought : Float
nought = of_bits binary64 0

abbrev pub unit : Float
unit = of_bits binary64 0x3FF0000000000000

-- what an absent attribute is
abbrev pub absent : Value
absent = record { kind = 0; number = nought; place = 0 }

-- the number of a value: a flag counts 0 or 1, a string and a list 0
unfoldable pub value_number : ℕ → List ℕ → ℕ → Float
value_number kind s at = cond (eqb kind 2) (number_at s at) (cond (eqb kind 3 && eqb (byte s at) 1) unit nought)

-- the value whose kind byte stands at k; kind 0 is absent
unfoldable pub value_at : List ℕ → ℕ → Value
value_at s k = cond (eqb (byte s k) 0) absent (record { kind = byte s k; number = value_number (byte s k) s (k + 1); place = k + 1 })

-- a kind byte stands at k, and after it, unless it is 0, a value that is whole
pub record Valued (s : List ℕ) (k : ℕ) : Type 0 where
  pub inside : k < length s
  pub whole : (byte s k ≡ 0 → ⊥) → (e : ℕ) × (value_end (byte s k) s (k + 1) ≡ Some e)

-- a value that is not absent lies in the bytes as a whole
abbrev pub ValueWhole : List ℕ → Value → Type 0
ValueWhole s v = (v.kind ≡ 0 → ⊥) → (e : ℕ) × (value_end v.kind s v.place ≡ Some e)

-- a place shows a value: its kind byte stands there, and after it, unless it is 0, a value that is whole; past the end of the bytes nothing stands, and it
-- shows that the attribute is absent
pub record ShownAt (s : List ℕ) (k : ℕ) (v : Value) : Type 0 where
  pub is : value_at s k ≡ v
  pub valued : k < length s → Valued s k
