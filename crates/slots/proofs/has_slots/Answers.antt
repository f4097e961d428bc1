-- `slots::has_slots` meets its contract. Assumes nothing.
use borrow.Author.Tests.{ltb-true, leb-true}
use mathlib.Core.Bool.{and-eq-true_iff}
use Rattle.slots.proofs.has_slots.Goals as goal

pub returns : goal.returns
returns c =
    λ h.
    let both = (and-eq-true_iff _ _).0 h in
    let n = (and-eq-true_iff _ _).0 both.0 in
    let root = (and-eq-true_iff _ _).0 both.1 in
    ((ltb-true _ _ n.0, leb-true _ _ n.1), (ltb-true _ _ root.0, leb-true _ _ root.1))
