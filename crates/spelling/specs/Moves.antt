-- Tokens at other places. Definitions only.
use Rattle.std.specs.Prelude.{List, [], ◌∷◌, ◌≡◌}
use Rattle.reading.specs.Lexemes.{Lexeme, size}
use Rattle.grammar.specs.Moves.{Move}

-- a token at another place; one that keeps its size there
abbrev pub moved_lexeme : Move → Lexeme → Lexeme
moved_lexeme m x = record { kind = x.kind; start = m.first x.start; end = m.behind x.end; bytes = x.bytes }

abbrev pub KeepsSize : Move → Lexeme → Type 0
KeepsSize m x = size (moved_lexeme m x) ≡ size x

-- all tokens of a list do
pub data AllKeep (m : Move) : List Lexeme → Type 0 where
  nothing : AllKeep m []
  keeps : {x : Lexeme} {ts : List Lexeme} → KeepsSize m x → AllKeep m ts → AllKeep m (x ∷ ts)
