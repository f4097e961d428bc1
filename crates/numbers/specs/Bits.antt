-- A bag's number: 8 bytes, little-endian binary64, finite. Definitions only.
use Rattle.std.specs.Prelude.{List, ℕ, ◌+◌, ◌*◌, ◌^◌, get_or, Float}
use Rattle.std.specs.Float.{binary64}
use Rattle.std.specs.Float.Ieee.{of_bits}

-- the bits that the eight bytes from `at` are, the lowest byte first
abbrev pub bits_at : List ℕ → ℕ → ℕ
bits_at s at =
    get_or s at 0
    + 2 ^ 8 * get_or s (at + 1) 0
    + 2 ^ 16 * get_or s (at + 2) 0
    + 2 ^ 24 * get_or s (at + 3) 0
    + 2 ^ 32 * get_or s (at + 4) 0
    + 2 ^ 40 * get_or s (at + 5) 0
    + 2 ^ 48 * get_or s (at + 6) 0
    + 2 ^ 56 * get_or s (at + 7) 0

-- the binary64 with those bits
unfoldable pub number_at : List ℕ → ℕ → Float
number_at s at = of_bits binary64 (bits_at s at)
