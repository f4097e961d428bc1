-- `targets::forms::type_end` meets its contract: the first colon's place, or the length. Assumes nothing.
use Rattle.std.proofs.lemmas.Iterator.{YieldsList-from_slice}
use Rattle.std.proofs.lemmas.Iterator.Search.{position_from_yields_List}
use Rattle.std.proofs.Common.{rules, tests}
use Rattle.targets.proofs.FormLaws.{type_ends}
use Prim.Native.Char.{code}
use mathlib.Core.Path.{◌∙◌}
use lib.Dec.{eqb}
use Rattle.targets.proofs.forms.type_end.Goals as goal

pub returns : goal.returns
returns c =
    c.unwrap_or.ensures
    ∙ type_ends c.args.s.now _ (position_from_yields_List (λ b. eqb b (code ":")) _ _ c.position.result c.position.ensures.ran (YieldsList-from_slice c.args.s.now cc) (λ x b q k. search (rules, tests)))
