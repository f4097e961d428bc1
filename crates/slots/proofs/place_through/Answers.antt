-- `slots::place_through` meets its contract. Assumes nothing.
use Rattle.lookups.specs.Lookups.{look_in, base_of}
use Rattle.lookups.specs.Values.{absent}
use Rattle.tokens.specs.Blanks.{unblanked}
use Rattle.bags.specs.declared.sections.Sections.{Sections}
use Rattle.lookups.proofs.StepLaws.{shown_as}
use mathlib.Core.Path.{ap}
use borrow.Author.Rules.{rules}
use Rattle.slots.proofs.place_through.Goals as goal

pub base_place-requires : goal.base_place-requires
base_place-requires c = rw c.sections_in.ensures c.requires

pub returns : goal.returns
returns c =
    shown_as _ _ c.base_place.ensures
    (ap (λ (p : Sections). look_in absent (base_of c.args.s.now p c.args.root) (unblanked c.args.path.now)) c.sections_in.ensures)
