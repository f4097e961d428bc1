-- Bytes that stand at a place of a byte string, and four bytes as one number. Definitions only.
use Rattle.std.specs.Prelude.{ℕ, ◌+◌, ◌*◌, Bool, true, ◌&&◌, List, [], ◌∷◌, eqb, get_or}

-- these bytes stand at a place
unfoldable pub stands_at : List ℕ → List ℕ → ℕ → Bool
stands_at [] s at = true
stands_at (x ∷ w) s at = eqb (get_or s at 0) x && stands_at w s (at + 1)

-- four bytes as one number, the lowest first
abbrev pub joined_of : ℕ → ℕ → ℕ → ℕ → ℕ
joined_of a b c d = a + 256 * b + 65536 * c + 16777216 * d
