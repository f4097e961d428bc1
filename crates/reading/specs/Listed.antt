-- The tokens of a text, one after the other up to its end, on paper: what a reader of a text must give. Definitions only.
use Rattle.std.specs.Prelude.{◌≡◌, Bool, List, [], ◌∷◌, ℕ, ◌-◌, eqb, take, drop}
use Rattle.tokens.specs.declared.reader.Token.{Token}
use Rattle.tokens.specs.Kinds.{end_of_text}
use Rattle.tokens.specs.Forms.{StandsAt}

-- a token: its kind, where it stands, and its bytes
pub record Lexeme : Type 0 where
  pub kind : ℕ
  pub start : ℕ
  pub end : ℕ
  pub bytes : List ℕ

-- a token of a text
abbrev pub lexeme : List ℕ → Token → Lexeme
lexeme text t = record { kind = t.kind; start = t.start; end = t.end; bytes = take (t.end - t.start) (drop t.start text) }

-- a token of this kind
abbrev pub is : ℕ → Lexeme → Bool
is k x = eqb x.kind k

-- how many bytes a token has, by its places
abbrev pub size : Lexeme → ℕ
size x = x.end - x.start

-- The tokens of a text from a place on: none where the text ends, else the token that stands there, and then those from its end on.
-- What is no token stands there too, with its refusal's number as its kind.
pub data TokensOf (text : List ℕ) : ℕ → List Lexeme → Type 0 where
  ended : {at : ℕ} {t : Token} → StandsAt text at t → t.kind ≡ end_of_text → TokensOf text at []
  goes_on : {at : ℕ} {t : Token} {ts : List Lexeme}
      → StandsAt text at t → (t.kind ≡ end_of_text → ⊥) → TokensOf text t.end ts → TokensOf text at (lexeme text t ∷ ts)
