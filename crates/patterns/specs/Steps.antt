-- A step over one character of UTF-8. Definitions only.
use Rattle.std.specs.Prelude.{◌≡◌, List, ◌∷◌, ℕ, ◌+◌, ◌<◌, ◌≤◌, length, drop}
use Rattle.utf8.specs.Characters.{Utf8}
use Rattle.utf8.specs.Reading.{width, point, points}

-- the character that stands at `at` ends at r, and what is left from there on is UTF-8
pub record Stepped (s : List ℕ) (at r : ℕ) : Type 0 where
  pub is : r ≡ at + width (drop at s)
  pub low : at < r
  pub high : r ≤ length s
  pub good : Utf8 (drop r s)
  pub says : points (drop at s) ≡ point (drop at s) ∷ points (drop r s)
