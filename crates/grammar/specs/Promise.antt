-- What is promised of the reader of rule texts. Definitions only.
use Rattle.std.specs.Prelude.{◌≡◌, ◌↔◌, List, [], ◌∷◌, ◌++◌, ℕ}
use Rattle.reading.specs.Listed.{Lexeme}
use Rattle.reading.specs.Reader.{took, refuse}
use Rattle.grammar.specs.Policies.{Policy}
use Rattle.grammar.specs.Grammar.{RuleText, sizes, sizes_before}
use Rattle.grammar.specs.Parser.{read_text}

-- A list of tokens is accepted, with policies, exactly when it is a rule text that says these policies.
unfoldable pub TokensAcceptedExactly : Type 0
TokensAcceptedExactly = (i : List Lexeme) (ps : List Policy) → (read_text i ≡ took ps []) ↔ RuleText sizes i ps

-- A rule text says one list of policies.
unfoldable pub Unambiguous : Type 0
Unambiguous = (i : List Lexeme) (ps qs : List Policy) → RuleText sizes i ps → RuleText sizes i qs → ps ≡ qs

-- The tokens b break no rule: some rule text begins with them, the sizes being asked of b alone.
pub record Sofar (b : List Lexeme) : Type 0 where
  pub on : List Lexeme
  pub policies : List Policy
  pub belongs : RuleText (sizes_before on) (b ++ on) policies

-- Refused from r on: the tokens before r break no rule. With r's first token they do, whatever follows; where r is the end, they are no rule text.
pub record Refused (i r : List Lexeme) : Type 0 where
  pub before : List Lexeme
  pub split : i ≡ before ++ r
  pub alive : Sofar before
  pub dead : (x : Lexeme) (s : List Lexeme) → r ≡ x ∷ s → ¬ Sofar (before ++ x ∷ [])
  pub no_text : (ps : List Policy) → r ≡ [] → ¬ RuleText sizes before ps

-- A refusal's place is such a place.
unfoldable pub RefusedRightly : Type 0
RefusedRightly = (i r : List Lexeme) (n : ℕ) → read_text i ≡ refuse n r → Refused i r

-- So it leaves one place.
unfoldable pub OnePlace : Type 0
OnePlace = (i r s : List Lexeme) → Refused i r → Refused i s → r ≡ s
