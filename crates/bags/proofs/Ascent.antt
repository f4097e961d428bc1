-- The test `ascending` decides whether paths ascend strictly. Assumes nothing.
use Prim.Native.Nat.{ℕ}
use mathlib.Core.List.{List, [], ◌∷◌}
use Rattle.slices.specs.Decides.{Decides}
use Rattle.slices.proofs.Decided.{yes_to, both, carried}
use Rattle.slices.specs.Order.{SortsBefore, sorts_before}
use Rattle.slices.proofs.Order.{before_decides}
use Rattle.bags.specs.Sections.{ascends, ascending, Ascending, none, one, more}

apart : {p q : List ℕ} {ps : List (List ℕ)} → Ascending (p ∷ q ∷ ps) → SortsBefore p q × Ascending (q ∷ ps)
apart (more b r) = (b, r)

after : (p : List ℕ) (ps : List (List ℕ)) → Decides (Ascending (p ∷ ps)) (ascends p ps)
unfolding ascends
after p [] = yes_to one
after p (q ∷ ps) = carried (apart, (λ w. more w.0 w.1)) (both (sorts_before p q) (ascends q ps) (before_decides p q) (after q ps))

pub ascending_decides : (ps : List (List ℕ)) → Decides (Ascending ps) (ascending ps)
unfolding ascending
ascending_decides [] = yes_to none
ascending_decides (p ∷ ps) = after p ps
