-- A policy of a text is satisfied where it is behind another text: it says the same words there. Assumes nothing.
use mathlib.Core.Path.{◌≡◌, sym, ap}
use mathlib.Core.Bool.{Bool, false}
use mathlib.Core.List.{List, [], ◌∷◌}
use Rattle.grammar.specs.Policies.{PolicyOf}
use Rattle.placing.specs.Said.{Word, words_of}
use Rattle.placing.specs.Moved.{WordsMoved}
use Rattle.placing.proofs.Moved.{words_moved}
use Rattle.meaning.specs.Targets.{Request}
use Rattle.meaning.specs.Decisions.{Terms, satisfied}
use Rattle.shifted.specs.Shifted.{SatisfiedBehind}

-- whether the first of policies is satisfied
first_satisfied : Terms → Request → List (PolicyOf Word) → Bool
first_satisfied terms q [] = false
first_satisfied terms q (p ∷ ps) = satisfied terms q p

pub satisfied_behind : SatisfiedBehind
unfolding SatisfiedBehind WordsMoved words_of first_satisfied
satisfied_behind t u p terms q = ap (first_satisfied terms q) (sym (words_moved t u (p ∷ [])))
