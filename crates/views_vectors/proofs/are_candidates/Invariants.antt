use Rattle.std.proofs.Common.{ℕ, ◌<◌, [], get_or}
use Rattle.views_vectors.proofs.are_candidates.Given as goal

abbrev pub invariant-loop-i : goal.invariant-loop-i
invariant-loop-i l = (k : ℕ) → k < l.i → (get_or l.choices k 0 < 8) × (0 < get_or (get_or l.grid k []) (get_or l.choices k 0) 0)
