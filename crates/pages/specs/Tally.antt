-- The tally: how many rows have each outcome, and how many each policy decides (document 02, request 1). What it counts is said of combinations (`SoMany`),
-- and computed over `d`, any function that gives each row its decision. Definitions only.
use Rattle.std.specs.Prelude.{◌≡◌, ◌↔◌, ℕ, zero, suc, ◌+◌, ◌-◌, ◌≤◌, Bool, cond, eqb, ltb, length, get_or, set}
use mathlib.Core.List.{List, [], ◌∷◌, Memᴰ}
use Rattle.meaning.specs.Decisions.{outcome_of, policy_of}
use Rattle.meaning.specs.declared.Decision.{Decision}
use Rattle.meaning.specs.declared.Decision.TheVariants.{Allowed, Forbidden, Nothing, System}
use Rattle.pages.specs.Rows.{Combination}
use Rattle.pages.specs.Lines.{Sooner}

-- ---- how many combinations

-- combinations, each before the next: so none is there twice
pub data OneByOne : List (List ℕ) → Type 0 where
  none : OneByOne []
  one : {c : List ℕ} → OneByOne (c ∷ [])
  more : {c c' : List ℕ} {cs : List (List ℕ)} → Sooner c c' → OneByOne (c' ∷ cs) → OneByOne (c ∷ c' ∷ cs)

-- so many combinations are such: a list has them all and no other, each once, and is so long
pub record SoMany (ns : List ℕ) (Such : List ℕ → Type 0) (n : ℕ) : Type 0 where
  pub those : List (List ℕ)
  pub lists : (choices : List ℕ) → Memᴰ choices those ↔ (Combination ns choices × Such choices)
  pub in_order : OneByOne those
  pub many : length those ≡ n

-- the sum of numbers
unfoldable pub sum_of : List ℕ → ℕ
sum_of [] = 0
sum_of (n ∷ ns) = n + sum_of ns

-- ---- how many rows

-- of the rows below n, how many pass a test
unfoldable pub how_many : (ℕ → Bool) → ℕ → ℕ
how_many test zero = 0
how_many test (suc n) = how_many test n + cond (test n) 1 0

-- what f gives for n numbers, from k on
unfoldable pub from_on : (ℕ → ℕ) → ℕ → ℕ → List ℕ
from_on f k zero = []
from_on f k (suc n) = f k ∷ from_on f (suc k) n

-- ---- a group of counts: at places 0 to 3 those of outcomes 1 to 4, at places 4 to 67 those of policies 1 to 64

abbrev pub group_size : ℕ
group_size = 68

-- whether a row that is decided so counts at a place
unfoldable pub counts_at : ℕ → Decision → Bool
counts_at k d = cond (ltb k 4) (eqb (outcome_of d) (k + 1)) (eqb (policy_of d) (k - 3))

-- the counts of all rows: each is a count of its own over the rows
unfoldable pub tally_of : (ℕ → Decision) → ℕ → List ℕ
tally_of d rows = from_on (λ k. how_many (λ row. counts_at k (d row)) rows) 0 group_size

-- ---- a row more

-- one more at a place
abbrev pub bumped : List ℕ → ℕ → List ℕ
bumped l k = set l k (get_or l k 0 + 1)

-- counts with one more row: at its outcome, and at the policy that decides it
unfoldable pub counted_in : Decision → List ℕ → List ℕ
counted_in (Allowed n) l = bumped (bumped l 0) (3 + n)
counted_in (Forbidden n) l = bumped (bumped l 1) (3 + n)
counted_in Nothing l = bumped l 2
counted_in System l = bumped l 3

-- the least number of the policy that decides, 0 where none does
unfoldable pub least_policy : Decision → ℕ
least_policy (Allowed n) = 1
least_policy (Forbidden n) = 1
least_policy Nothing = 0
least_policy System = 0

-- the policy that decides, if any, has a number of 1 to 64
pub record Countable (d : Decision) : Type 0 where
  pub some : least_policy d ≤ policy_of d
  pub few : policy_of d ≤ 64
