-- `questions::grid::candidate_places` meets its contract: the first `j` cells have their places, and the others 0. Assumes nothing.
use Rattle.std.specs.Prelude.{Some}
use Prim.Native.Nat.{ℕ, ◌<◌, ◌≤◌, ◌-◌}
use lib.ListN.{length, get_or, get_or-replicate, length-set}
use mathlib.Core.Path.{◌≡◌, refl, sym, ◌∙◌, ap}
use native.Mathlib.Omega.{arith}
use Rattle.bags.proofs.ReadLaws.{many_done, many_last}
use Rattle.bags.specs.Reading.{many, end_place}
use Rattle.questions.proofs.PlaceLaws.{first_of, first_none, fill_more, at_number}
use Rattle.questions.specs.Columns.{candidate_end}
use Rattle.questions.proofs.grid.candidate_places.Given as goal

abbrev pub invariant-loop-j : goal.invariant-loop-j
invariant-loop-j l =
    (many l.j (candidate_end l.s) l.at ≡ Some l.next)
    × (length l.cells ≡ 8)
    × ((k : ℕ) → k < 8 → get_or l.cells k 0 ≡ first_of l.j (λ j. end_place (many j (candidate_end l.s) l.at)) k)
    × (l.j ≤ l.n)
