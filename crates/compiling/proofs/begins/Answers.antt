-- `compiling::begins` meets its contract: by whether the table is held. Assumes nothing.
use Rattle.compiling.proofs.Outcomes.{held_begins}
use Rattle.std.specs.Option.{is_some}
use mathlib.Core.Path.{◌∙◌, ap}
use Rattle.compiling.proofs.begins.Goals as goal

pub returns : goal.returns
returns c = c.is_some.ensures ∙ ap is_some c.held_policies.ensures ∙ held_begins c.args.text.now c.args.table.now
