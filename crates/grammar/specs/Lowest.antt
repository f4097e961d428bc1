-- Which rows of document 01's table of refusal numbers apply to a token behind tokens that break no rule, and that a refusal's number is the lowest of them.
-- Definitions only.
use Rattle.std.specs.Prelude.{◌≡◌, ◌⊎◌, ◌↔◌, true, cond, List, [], ◌∷◌, ◌++◌, ℕ, ◌≤◌, ◌<◌, eqb}
use Rattle.tokens.specs.Kinds as kinds
use Rattle.tokens.specs.Sizes.{most_inside}
use Rattle.reading.specs.Listed.{Lexeme}
use Rattle.reading.specs.Reader.{refuse}
use Rattle.grammar.specs.Policies.{Operand, Policy}
use Rattle.grammar.specs.Rules.{is_reserved, ends_bare}
use Rattle.grammar.specs.Grammar.{lifting, Beyond, unlimited, Attribute, RuleText}
use Rattle.grammar.specs.Parser.{read_text}
use Rattle.grammar.specs.Promise.{Refused}

-- ---- what is admitted, and which limits it keeps

-- Some rule text begins with b, where of b the limits with the numbers Asked are asked and no other. Of what follows b none is asked; but where 12 is asked,
-- the text's conditions have no more levels inside them than document 01 says.
pub record Under (Asked : ℕ → Type 0) (b : List Lexeme) : Type 0 where
  pub on : List Lexeme
  pub levels : ℕ
  pub policies : List Policy
  pub shallow : Asked 12 → levels ≤ most_inside
  pub belongs : RuleText (lifting levels (λ n r. (¬ Asked n) ⊎ Beyond on r)) (b ++ on) policies

-- The token x is admitted behind b: by the productions alone.
pub record Admitted (b : List Lexeme) (x : Lexeme) : Type 0 where
  pub under : Under (λ n. ⊥) (b ++ x ∷ [])

-- It keeps the limit with the number n: by the productions and that limit alone.
pub record Keeps (n : ℕ) (b : List Lexeme) (x : Lexeme) : Type 0 where
  pub under : Under (λ m. m ≡ n) (b ++ x ∷ [])

-- ---- places of the table

-- Some token of the kind k is admitted behind b.
pub record SomeAdmitted (k : ℕ) (b : List Lexeme) : Type 0 where
  pub token : Lexeme
  pub is_one : token.kind ≡ k
  pub admitted : Admitted b token

-- A path name must stand behind b: any name is admitted there, whatever it says.
pub record NameMustStand (b : List Lexeme) : Type 0 where
  pub any_name : (y : Lexeme) → y.kind ≡ kinds.name → Admitted b y

-- b ends in an attribute as left operand: it stands where a condition may begin, for `!` is admitted there too.
pub record EndsInOperand (b : List Lexeme) : Type 0 where
  pub before : List Lexeme
  pub tokens : List Lexeme
  pub value : Operand
  pub split : b ≡ before ++ tokens
  pub attribute : Attribute unlimited tokens [] value
  pub begins : SomeAdmitted kinds.bang before

-- ---- the table

-- the row of that number applies to the token x behind b, which breaks no rule
pub data Applies (b : List Lexeme) (x : Lexeme) : ℕ → Type 0 where
  -- 3 to 6: what is no token has its refusal's number as its kind
  no_token : x.kind < 7 → Applies b x x.kind
  -- reserved word where a path name must stand
  reserved : ¬ Admitted b x → NameMustStand b → is_reserved x ≡ true → Applies b x 7
  -- bare attribute
  bare : ¬ Admitted b x → EndsInOperand b → ends_bare x ≡ true → Applies b x 8
  -- name after `is` that is no type there: some other name is admitted
  no_type : ¬ Admitted b x → SomeAdmitted kinds.name b → x.kind ≡ kinds.name → Applies b x 9
  -- any token not admitted
  not_admitted : ¬ Admitted b x → Applies b x 10
  -- admitted, but over a limit: 11 the path after action, 12 levels, 13 the pattern, 14 literals, 15 policies, 16 any other path (after action 11 is lower),
  -- 17 the string
  limit : {n : ℕ} → 11 ≤ n → n ≤ 17 → Admitted b x → ¬ Keeps n b x → Applies b x n

-- the same of the first of the tokens r behind b; at the end of the text it is 10
pub data AppliesAt (b : List Lexeme) : List Lexeme → ℕ → Type 0 where
  token : {x : Lexeme} {r : List Lexeme} {n : ℕ} → Applies b x n → AppliesAt b (x ∷ r) n
  end : AppliesAt b [] 10

-- The order in which the numbers go: of those that apply the one with the least rank is told. Document 01's is the order of the numbers themselves; by document
-- 02, request 5, 17 goes before 13. So 13 goes last: what is a pattern is no literal of a list, no policy and no name, so 13 meets none of 14 to 16.
abbrev pub rank : ℕ → ℕ
rank n = cond (eqb n 13) 18 n

-- the lowest number that applies there
pub record LowestNumber (b r : List Lexeme) (n : ℕ) : Type 0 where
  pub applies : AppliesAt b r n
  pub least : (m : ℕ) → AppliesAt b r m → rank n ≤ rank m

-- A refusal has the lowest number that applies to the token that is refused.
unfoldable pub NumberedLowest : Type 0
NumberedLowest = (b r : List Lexeme) (n : ℕ) → read_text (b ++ r) ≡ refuse n r → LowestNumber b r n

-- So it leaves one number.
unfoldable pub OneNumber : Type 0
OneNumber = (b r : List Lexeme) (n m : ℕ) → LowestNumber b r n → LowestNumber b r m → n ≡ m

-- ---- refusal, exactly

-- refused from r on by the number n: at the right place, by the lowest number there
pub record RefusedBy (i r : List Lexeme) (n : ℕ) : Type 0 where
  pub rightly : Refused i r
  pub lowest : LowestNumber rightly.before r n

-- A list of tokens is so refused exactly when document 01 says.
unfoldable pub TokensRefusedExactly : Type 0
TokensRefusedExactly = (i r : List Lexeme) (n : ℕ) → (read_text i ≡ refuse n r) ↔ RefusedBy i r n
