-- Paths of bags and paths of texts are the same bytes (document 01, 'Bags and questions': 'Paths are as in the text, without blanks'). Definitions only.
use Rattle.std.specs.Prelude.{◌≡◌, true, List, ◌↔◌, ℕ, ◌≤◌, length}
use Rattle.tokens.specs.Sizes.{most_path_bytes}
use Rattle.bags.specs.Paths.{is_path}
use Rattle.grammar.specs.Policies.{Span, Root}
use Rattle.placing.specs.Placed.{unblanked_at, IsPath, PathPlaced}

-- Bytes are a path of a bag exactly when they are names joined by dots, as in a text, with at most 64 bytes.
unfoldable pub PathsAlike : Type 0
PathsAlike = (p : List ℕ) → (is_path p ≡ true) ↔ (IsPath p × (length p ≤ most_path_bytes))

-- A path that lies in a text, as those of its policies do, is without its blanks a path that an entry of a bag may have.
unfoldable pub PathsShared : Type 0
PathsShared = (t : List ℕ) (root : Root) (s : Span) → PathPlaced t root s → is_path (unblanked_at t s) ≡ true
