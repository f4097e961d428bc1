-- The request that request.txt's bytes have: subject, action, resource, each up to a line feed, a missing line being empty. Definitions only.
use Rattle.std.specs.Prelude.{◌≡◌, cond, List, [], ◌∷◌, ℕ, zero, suc, ◌+◌, ◌≤◌, eqb, length, drop}
use Prim.Native.Char.{code}
use Rattle.meaning.specs.Targets.{Request}
use Rattle.targets.specs.Matching.{request}

-- the bytes up to the first line feed, or all where there is none
unfoldable pub up_to_feed : List ℕ → List ℕ
up_to_feed [] = []
up_to_feed (b ∷ rest) = cond (eqb b (code "\n")) [] (b ∷ up_to_feed rest)

-- the bytes behind the first line feed, and none where there is none
unfoldable pub past_feed : List ℕ → List ℕ
past_feed [] = []
past_feed (b ∷ rest) = cond (eqb b (code "\n")) rest (past_feed rest)

-- the line of a number, from 0
unfoldable pub line_of : ℕ → List ℕ → List ℕ
line_of zero s = up_to_feed s
line_of (suc n) s = line_of n (past_feed s)

-- subject, action and resource are the first three lines
abbrev pub request_in : List ℕ → Request
request_in s = request (line_of 0 s) (line_of 1 s) (line_of 2 s)

-- the line that starts at a place ends where its bytes up to a line feed end
abbrev pub line_end : List ℕ → ℕ → ℕ
line_end s at = at + length (up_to_feed (drop at s))

-- it ends there, inside the bytes
pub record EndsAt (s : List ℕ) (at end : ℕ) : Type 0 where
  pub place : end ≡ line_end s at
  pub low : at ≤ end
  pub high : end ≤ length s

-- behind a line that ends at a place, all but its line feed is left
pub record GoesOnAt (s : List ℕ) (end next : ℕ) : Type 0 where
  pub bytes : drop next s ≡ drop (end + 1) s
  pub low : end ≤ next
  pub high : next ≤ length s
