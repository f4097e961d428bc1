-- The reader of a text's tokens in order; what it must give is said on paper in Listed.antt, whose words it passes on. Definitions only.
use Rattle.std.specs.Prelude.{Bool, true, false, List, [], ◌∷◌, ℕ, zero, suc, eqb, length}
use Rattle.tokens.specs.declared.reader.Token.{Token}
use Rattle.tokens.specs.Kinds.{end_of_text}
use Rattle.tokens.specs.Tokens.{token_at}
pub use Rattle.reading.specs.Listed.{Lexeme, lexeme, is, size, TokensOf, ended, goes_on}

-- the first of two where the test holds, else the second; only the one that is chosen is computed
unfoldable pub choose : {A : Type 0} → Bool → (Unit {0} → A) → (Unit {0} → A) → A
choose true f g = f tt
choose false f g = g tt

-- a token of a text, and those that `rest` gives from its end on; none where it is the end of the text
unfoldable pub tokens_after : List ℕ → Token → (ℕ → List Lexeme) → List Lexeme
tokens_after text t rest = choose (eqb t.kind end_of_text) (λ _. []) (λ _. lexeme text t ∷ rest t.end)

-- the first n tokens of a text from a place on, or all there are
unfoldable pub tokens_up_to : ℕ → List ℕ → ℕ → List Lexeme
tokens_up_to zero text at = []
tokens_up_to (suc n) text at = tokens_after text (token_at text at) (tokens_up_to n text)

-- the tokens of a text from a place on, up to its end: no text has more tokens than bytes
unfoldable pub tokens_from : List ℕ → ℕ → List Lexeme
tokens_from text at = tokens_up_to (suc (length text)) text at

-- the tokens of a text from a token on that was read there
unfoldable pub stream : List ℕ → Token → List Lexeme
stream text t = tokens_after text t (tokens_from text)

-- all tokens of a text
abbrev pub tokens_of : List ℕ → List Lexeme
tokens_of text = tokens_from text 0
