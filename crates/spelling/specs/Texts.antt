-- What texts say that are put one behind the other. Definitions only.
use Rattle.std.specs.Prelude.{◌≡◌, List, ◌++◌, ℕ, length}
use Rattle.reading.specs.Lexemes.{tokens_of}
use Rattle.grammar.specs.Policies.{Policy}
use Rattle.grammar.specs.Grammar.{RuleText, sizes}
use Rattle.grammar.specs.Moves.{further_on}

-- a text says policies
abbrev pub TokensSay : List ℕ → List Policy → Type 0
TokensSay text ps = RuleText sizes (tokens_of text) ps

-- The text u behind t: what both say is what t says and then policies that u says too, by its own places.
pub record FollowedBy (t u : List ℕ) (ps rs : List Policy) : Type 0 where
  pub rest : List Policy
  pub says : TokensSay u rest
  pub whole : rs ≡ ps ++ further_on (length t) rest

-- A text by two texts: what the first says, and what the second says, by its own places.
pub record TwoTexts (text : List ℕ) (ps qs : List Policy) : Type 0 where
  pub first : List ℕ
  pub second : List ℕ
  pub parts : text ≡ first ++ second
  pub first_says : TokensSay first ps
  pub rest : List Policy
  pub second_says : TokensSay second rest
  pub moved : qs ≡ further_on (length first) rest
