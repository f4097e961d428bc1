-- The tokens of a rule text, policy by policy. Definitions only.
use Rattle.std.specs.Prelude.{cond, List, [], ◌∷◌, ℕ, suc}
use Rattle.tokens.specs.Kinds as kinds
use Rattle.reading.specs.Lexemes.{Lexeme, is}
use Rattle.grammar.specs.Policies.{Policy}
use Rattle.grammar.specs.Grammar.{RuleText, sizes}

-- a token put before the first of some pieces
unfoldable pub on_first : Lexeme → List (List Lexeme) → List (List Lexeme)
on_first x [] = (x ∷ []) ∷ []
on_first x (p ∷ ps) = (x ∷ p) ∷ ps

-- tokens cut behind each `;`; what stands behind the last one, if anything does, is a piece too
unfoldable pub pieces : List Lexeme → List (List Lexeme)
pieces [] = []
pieces (x ∷ ts) = cond (is kinds.semicolon x) ((x ∷ []) ∷ pieces ts) (on_first x (pieces ts))

-- how many `;` there are
unfoldable pub semicolons : List Lexeme → ℕ
semicolons [] = 0
semicolons (x ∷ ts) = cond (is kinds.semicolon x) (suc (semicolons ts)) (semicolons ts)

-- each of some pieces is a rule text that says one policy, in turn
pub data EachSays : List (List Lexeme) → List Policy → Type 0 where
  none : EachSays [] []
  one : {ts : List Lexeme} {p : Policy} {tss : List (List Lexeme)} {ps : List Policy}
      → RuleText sizes ts (p ∷ []) → EachSays tss ps → EachSays (ts ∷ tss) (p ∷ ps)
