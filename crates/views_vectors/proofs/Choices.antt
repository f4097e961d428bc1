-- A choice whose place is not 0 is one of its column's candidates. Assumes nothing.
use Prim.Native.Nat.{ℕ, ◌+◌, ◌<◌, ◌≤◌}
use mathlib.Core.List.{List, []}
use mathlib.Core.Bool.{Bool, true, false, cond}
use mathlib.Core.Path.{◌≡◌, refl}
use borrow.Author.Tests.{ltb-true}
use native.Mathlib.Omega.{arith}
use lib.Dec.{ltb}
use lib.ListN.{get_or}
use Rattle.bags.specs.Reading.{end_place, many}
use Rattle.questions.specs.Columns.{candidate_end, count_at}
use Rattle.questions.specs.Questions.{head_of, count_of, choice_at, cell}
use Rattle.views.specs.Rows.{Chooses}

a_candidate : (s : List ℕ) (at n i j : ℕ) → 0 < cell s at n i j → j < count_of s (head_of s at i)
unfolding cell choice_at
a_candidate s at n i j h = go (ltb i n) (ltb j (count_of s (head_of s at i))) refl h
  where
    go : (a b : Bool) → ltb j (count_of s (head_of s at i)) ≡ b
        → 0 < cond a (cond b (end_place (many j (candidate_end s) (count_at s (head_of s at i) + 1))) 0) 0 → j < count_of s (head_of s at i)
    go true true e h = ltb-true _ _ e
    go true false e h = absurd (omega arith)
    go false b e h = absurd (omega arith)

-- the choices, by the places of all candidates
pub all_candidates : (s : List ℕ) (n at : ℕ) (choices : List ℕ) (grid : List (List ℕ)) → n ≤ 6
    → ((i j : ℕ) → i < 6 → j < 8 → get_or (get_or grid i []) j 0 ≡ cell s at n i j)
    → ((i : ℕ) → i < n → (get_or choices i 0 < 8) × (0 < get_or (get_or grid i []) (get_or choices i 0) 0))
    → Chooses n s at choices
all_candidates s n at choices grid few is h i l =
    a_candidate s at n i (get_or choices i 0) (rw (is i (get_or choices i 0) (omega arith) (h i l).0) at (h i l).1)
