use borrow.Author.Rules.{rules}
use mathlib.Core.Path.{sym, ◌∙◌}
use lib.Seq.{get_or-drop}
use Rattle.views.proofs.head_of.Reads as reads
use Rattle.views.proofs.head_of.Lts as lts
use Rattle.views.proofs.head_of.Goals as goal

-- src/lib.rt:38:1
pub returns : goal.returns
returns c = sym (get_or-drop 196 c.args.places.now c.args.i 0)
