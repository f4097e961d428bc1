-- What policies say where their text stands behind or before other text. Definitions only.
use Rattle.std.specs.Prelude.{◌≡◌, List, ◌++◌, ℕ, length}
use Rattle.grammar.specs.Policies.{Policy}
use Rattle.grammar.specs.Moves.{further_on}
use Rattle.placing.specs.Placed.{PoliciesPlaced}
use Rattle.placing.specs.Said.{words_of}

-- Behind other text the same is said at the places that are that much further on.
unfoldable pub WordsMoved : Type 0
WordsMoved = (a t : List ℕ) (ps : List Policy) → words_of (a ++ t) (further_on (length a) ps) ≡ words_of t ps

-- And before other text the same is said at the same places.
unfoldable pub WordsKept : Type 0
WordsKept = (t b : List ℕ) (ps : List Policy) → PoliciesPlaced t ps → words_of (t ++ b) ps ≡ words_of t ps
