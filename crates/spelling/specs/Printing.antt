-- Words printed as tokens: wherever these are laid out, the grammar reads them as something that has these words. Definitions only.
use Rattle.std.specs.Prelude.{◌≡◌, Bool, true, false, List, [], ◌∷◌, ◌++◌, ℕ, ◌+◌, length, drop}
use Rattle.slices.specs.Ascii.{bytes}
use Rattle.tokens.specs.Forms.{All}
use Rattle.tokens.specs.Kinds as kinds
use Rattle.tokens.specs.declared.classes.Sort.TheVariants.{Blanks}
use Rattle.reading.specs.Lexemes.{Lexeme}
use Rattle.reading.specs.Reads.{Reading}
use Rattle.grammar.specs.Policies.{Comparator, Comparator.Equal, Comparator.NotEqual, Comparator.More, Comparator.AtLeast, Comparator.Less, Comparator.AtMost}
use Rattle.grammar.specs.Policies.{Span, Root, Root.Principal, Root.Resource, Root.Env, Root.Action, LiteralOf, attribute, Policy, PolicyOf}
use Rattle.grammar.specs.Policies.{Which}
use Rattle.grammar.specs.Policies as policies
use Rattle.grammar.specs.Rules.{literal_of, is_text}
use Rattle.grammar.specs.Grammar.{Path, spanned, Attribute, RuleText, sizes}
use Rattle.placing.specs.Placed.{unblanked_at, IsName}
use Rattle.placing.specs.Said.{Word, literal_words, words_of}
use Rattle.spelling.specs.Layout.{WrittenToken, written, laid_out, reads_as, lexeme_of, standing}

-- a text has these bytes from a place on
pub record HasAt (text : List ℕ) (at : ℕ) (l : List ℕ) : Type 0 where
  pub rest : List ℕ
  pub is : drop at text ≡ l ++ rest

-- a written token that is read as one of this kind
pub record OfKind (kind : ℕ) (x : WrittenToken) : Type 0 where
  pub read_as : reads_as x.kind x.bytes ≡ kind

-- Tokens that are written from a place on, with the tokens r behind them: R reads them, and what it reads has the words w in every text that has them there.
pub record PrintsAt {A B : Type 0} (R : Reading A) (words : List ℕ → A → B) (xs : List WrittenToken) (w : B) (at : ℕ) (r : List Lexeme) : Type 0 where
  pub what : A
  pub reads : R (standing at xs ++ r) r what
  pub says : (text : List ℕ) → HasAt text at (laid_out xs) → words text what ≡ w

-- The words w are printed as these tokens: so from every place on, and before any tokens.
pub record Prints {A B : Type 0} (R : Reading A) (words : List ℕ → A → B) (xs : List WrittenToken) (w : B) : Type 0 where
  pub anywhere : (at : ℕ) (r : List Lexeme) → PrintsAt R words xs w at r

-- A literal is printed as this token, of the sort that the test says, and UTF-8 where it is a string.
pub record PrintsLiteral (sort : Lexeme → Bool) (x : WrittenToken) (l : LiteralOf Word) : Type 0 where
  pub of_sort : (at : ℕ) → sort (lexeme_of at x) ≡ true
  pub is_a_text : (at : ℕ) → is_text (lexeme_of at x) ≡ true
  pub says : (at : ℕ) (text : List ℕ) → HasAt text (at + length x.blanks) x.bytes → literal_words text (literal_of (lexeme_of at x)) ≡ l

-- Literals of a sort are printed as these tokens, with commas between them.
pub data PrintsList (sort : Lexeme → Bool) : List WrittenToken → List (LiteralOf Word) → Type 0 where
  first : {x : WrittenToken} {l : LiteralOf Word} → PrintsLiteral sort x l → PrintsList sort (x ∷ []) (l ∷ [])
  more : {xs : List WrittenToken} {c x : WrittenToken} {ls : List (LiteralOf Word)} {l : LiteralOf Word}
      → PrintsList sort xs ls → OfKind kinds.comma c → PrintsLiteral sort x l → PrintsList sort (xs ++ (c ∷ x ∷ [])) (ls ++ l ∷ [])

-- A path is printed as these tokens, the first behind the blanks b: names with dots between them.
pub data PrintsPath (b : List ℕ) : List WrittenToken → Word → Type 0 where
  first : {n : Word} → All Blanks b → IsName n → PrintsPath b (written b kinds.name n ∷ []) n
  more : {xs : List WrittenToken} {p n : Word} {c d : List ℕ} → PrintsPath b xs p → All Blanks c → All Blanks d → IsName n
      → PrintsPath b (xs ++ (written c kinds.dot (bytes ".") ∷ written d kinds.name n ∷ [])) (p ++ kinds.dot ∷ n)

-- the kind of a comparator's mark
unfoldable pub mark_kind : Comparator → ℕ
mark_kind Equal = kinds.equal
mark_kind NotEqual = kinds.not_equal
mark_kind More = kinds.more
mark_kind AtLeast = kinds.at_least
mark_kind Less = kinds.less
mark_kind AtMost = kinds.at_most

-- the words of the four roots, and of the two effects, by their kinds
unfoldable pub root_kind : Root → ℕ
root_kind Principal = kinds.principal_word
root_kind Resource = kinds.resource_word
root_kind Env = kinds.env_word
root_kind Action = kinds.action_word

unfoldable pub effect_word : Bool → ℕ
effect_word true = kinds.permit_word
effect_word false = kinds.forbid_word

-- of true and false, and of the two calls
unfoldable pub truth_kind : Bool → ℕ
truth_kind true = kinds.true_word
truth_kind false = kinds.false_word

unfoldable pub call_kind : Which → ℕ
call_kind policies.Which.All = kinds.contains_all_word
call_kind policies.Which.Any = kinds.contains_any_word

-- the words of a path
abbrev pub path_words : List ℕ → Path → Word
path_words t p = unblanked_at t (spanned p)

-- an attribute by its root and its path, and its words
abbrev pub RootedPath : Reading (Root × Span)
RootedPath i r a = Attribute sizes i r (attribute a.0 a.1)

abbrev pub rooted_words : List ℕ → Root × Span → Root × Word
rooted_words t a = (a.0, unblanked_at t a.1)

-- Policies are printed as these tokens, as a whole rule text.
pub record PrintsText (xs : List WrittenToken) (ws : List (PolicyOf Word)) : Type 0 where
  pub policies : List Policy
  pub belongs : RuleText sizes (standing 0 xs) policies
  pub says : words_of (laid_out xs) policies ≡ ws
