-- `desk::desk_string` meets its contract: it hands on what `string_place` answers. Assumes nothing.
use borrow.Author.Rules.{rules}
use mathlib.Core.Path.{ap}
use Rattle.lookups.specs.declared.Stretch.{Stretch}
use Rattle.desk.specs.Answers.{string_says}
use Rattle.desk.specs.declared.DeskString.{DeskString}
use Rattle.desk.proofs.desk_string.Goals as goal

handed : Stretch → DeskString
handed p = record { start = p.start; length = p.length }

pub returns : goal.returns
unfolding string_says handed
returns c = ap handed c.string_place-p.ensures.is
