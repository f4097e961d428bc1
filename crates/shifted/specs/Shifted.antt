-- A policy of a text that stands behind another. Definitions only.
use Rattle.std.specs.Prelude.{◌≡◌, List, ◌++◌, ℕ, length}
use Rattle.grammar.specs.Policies.{Policy}
use Rattle.grammar.specs.Moves.{further, moved_policy}
use Rattle.placing.specs.Said.{policy_words}
use Rattle.meaning.specs.Targets.{Request}
use Rattle.meaning.specs.Decisions.{Terms, satisfied}

-- A policy of the text u is satisfied exactly when it is where t stands before u, and the policy is so much further on; under every version.
unfoldable pub SatisfiedBehind : Type 0
SatisfiedBehind = (t u : List ℕ) (p : Policy) (terms : Terms) (q : Request)
    → satisfied terms q (policy_words u p) ≡ satisfied terms q (policy_words (t ++ u) (moved_policy (further (length t)) p))
