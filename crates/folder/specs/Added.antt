-- What putting bytes into a lent buffer does. Definitions only.
use Rattle.std.specs.Prelude.{◌≡◌, List, ◌++◌, ℕ, ◌+◌, length, take}

-- behind the first `at` bytes these are added; then the first `next` bytes are the old ones and these
pub record Added (old : List ℕ) (at : ℕ) (bytes new : List ℕ) (next : ℕ) : Type 0 where
  pub counted : next ≡ at + length bytes
  pub filled : take next new ≡ take at old ++ bytes
  pub long : length new ≡ length old
