-- `lookups::string_part` meets its contract: it takes the part that `string_place` tells. Assumes nothing.
use borrow.Author.Rules.{rules}
use mathlib.Core.Path.{refl, sym, ap, ◌∙◌}
use native.Mathlib.Nat.{add-sub_cancel_left}
use Rattle.slices.proofs.Parts.{part_is}
use Rattle.lookups.specs.declared.Stretch.{Stretch}
use Rattle.lookups.proofs.string_part.Goals as goal

pub returns : goal.returns
returns c =
    let is = sym c.string_place-start.ensures.is in
    part_is _ _ _ _ _ _ (ap (λ (p : Stretch). p.start) is) (ap (λ (p : Stretch). p.length) is ∙ sym (add-sub_cancel_left _ _)) refl refl
