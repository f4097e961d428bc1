-- The step over a string meets its contract. Assumes nothing.
use native.Mathlib.Omega.{arith}
use Rattle.lookups.proofs.StepLaws.{string_fits, string_stop}
use Rattle.lookups.proofs.steps.TextStepped.next.Goals as goal

pub overflow_add-result : goal.overflow_add-result
overflow_add-result c = omega (arith, string_fits _ _ _ c.requires.1)

pub bounds-s-at : goal.bounds-s-at
bounds-s-at c = omega (arith, string_fits _ _ _ c.requires.1)

pub overflow_cast-result : goal.overflow_cast-result
overflow_cast-result c = omega (arith, string_fits _ _ _ c.requires.1)

pub overflow_add-result-2 : goal.overflow_add-result-2
overflow_add-result-2 c = omega (arith, string_fits _ _ _ c.requires.1)

pub returns : goal.returns
returns c = string_stop _ _ _ c.requires.1
