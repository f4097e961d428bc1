-- The step over a candidate meets its contract. Assumes nothing.
use mathlib.Core.Path.{sym, ◌∙◌}
use native.Mathlib.Omega.{arith}
use Rattle.questions.proofs.ColumnLaws.{candidate_absent, candidate_value, candidate_starts, candidate_whole}
use Rattle.questions.proofs.elements.CandidateStepped.next.Goals as goal

pub bounds-s-at : goal.bounds-s-at
bounds-s-at c = candidate_starts _ _ _ c.requires.1

pub overflow_add-result : goal.overflow_add-result
overflow_add-result c = omega (arith, candidate_starts _ _ _ c.requires.1)

pub returns-in-0 : goal.returns-in-0
returns-in-0 c = sym (candidate_absent _ _ (candidate_starts _ _ _ c.requires.1) c.in-0.is)

pub overflow_add-at : goal.overflow_add-at
overflow_add-at c = omega (arith, candidate_starts _ _ _ c.requires.1)

pub value_next-requires : goal.value_next-requires
value_next-requires c = (c.requires.0, candidate_whole _ _ _ c.requires.1 (omega arith))

pub returns-in_default : goal.returns-in_default
returns-in_default c = sym (candidate_value _ _ (candidate_starts _ _ _ c.requires.1) (omega arith)) ∙ c.value_next.ensures
