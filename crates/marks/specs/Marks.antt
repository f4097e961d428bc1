-- A mark by its bits: which are set, and the lowest that is. Definitions only.
use Rattle.std.specs.Prelude.{Bool, cond, List, ℕ, zero, suc, ◌+◌, ◌/◌, ◌%◌, eqb}
use Rattle.std.specs.Int.Count.{count_trailing_zeros}
use Rattle.tokens.specs.Sizes.{most_policies}
use Rattle.grammar.specs.Policies.{PolicyOf}
use Rattle.meaning.specs.Decisions.{mark_by}

-- bit k of a mark is set, k from 0 on
unfoldable pub is_set : ℕ → ℕ → Bool
is_set mark zero = eqb (mark % 2) 1
is_set mark (suc k) = is_set (mark / 2) k

-- the number of a mark's lowest bit that is set, from 1 on; 0 where none is
unfoldable pub lowest_of : ℕ → ℕ
lowest_of mark = cond (eqb mark 0) 0 (count_trailing_zeros most_policies mark + 1)

-- the mark of the permits among policies
abbrev pub permits_of : {W : Type 0} → List (PolicyOf W) → ℕ
permits_of ps = mark_by (λ p. p.permits) ps
