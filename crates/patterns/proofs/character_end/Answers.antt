-- `patterns::character_end` meets its contract. Assumes nothing.
use Rattle.patterns.proofs.Texts.{step, some_width}
use Rattle.utf8.proofs.Places.{by_first}
use mathlib.Core.Path.{◌∙◌}
use native.Mathlib.Omega.{arith}
use Rattle.patterns.proofs.character_end.Goals as goal

pub known_size-n-requires : goal.known_size-n-requires
known_size-n-requires c = omega (arith, by_first _ _ c.requires.0 (some_width _ _ c.requires.0 c.requires.1), some_width _ _ c.requires.0 c.requires.1)

pub overflow_add-result : goal.overflow_add-result
overflow_add-result c = omega (arith, (step _ _ _ c.requires.0 c.requires.1 (c.known_size-n.ensures ∙ by_first _ _ c.requires.0 (some_width _ _ c.requires.0 c.requires.1))).high)

pub returns : goal.returns
returns c = step _ _ _ c.requires.0 c.requires.1 (c.known_size-n.ensures ∙ by_first _ _ c.requires.0 (some_width _ _ c.requires.0 c.requires.1))
