-- The grammar of rule texts over their tokens: the drafts' productions under document 01's rulings and limits. Definitions only.
use Rattle.std.specs.Prelude.{◌≡◌, ◌⊎◌, Bool, true, List, [], ◌∷◌, ◌++◌, ℕ, zero, suc, ◌+◌, ◌<◌, ltb, length}
use Rattle.std.proofs.Math.Option.{Option, none, some}
use Rattle.tokens.specs.Kinds as kinds
use Rattle.tokens.specs.Sizes.{most_literals, most_policies, most_inside}
use Rattle.reading.specs.Listed.{Lexeme, is, size, TokensOf}
use Rattle.reading.specs.Reads.{Reading, Chain, Onto, Before, After}
use Rattle.grammar.specs.Policies.{Span, span, Root, Root.Principal, Root.Resource, Root.Env, Root.Action, Literal, Operand, attribute, literal, Tree}
use Rattle.grammar.specs.Policies.{constant, compare, like, among, within, contains, has, not, brackets, both, either, choice, Part, any, typed, pinned}
use Rattle.grammar.specs.Policies.{Actions, every, one_of, Policy}
use Rattle.grammar.specs.Rules.{inside, span_of, is_effect, is_root, root_of, is_truth, is_literal, literal_of, is_comparator, comparator_of, is_contains, which_of}
use Rattle.grammar.specs.Rules.{principal_types, resource_types, type_of, is_type, admitted, is_pattern, is_text}

-- ---- limits

-- What has a limit: a name on a path after the root, of which so many bytes are used; a pattern; a string; a literal with so many before it in its list;
-- a policy with so many before it in its text.
pub data Limit : Type 0 where
  a_name : Root → ℕ → Lexeme → Limit
  a_pattern a_string : Lexeme → Limit
  a_literal a_policy : ℕ → Limit

-- the number of the limit of a path after the root
abbrev pub path_number : Root → ℕ
path_number Principal = 16
path_number Resource = 16
path_number Env = 16
path_number Action = 11

-- its number in document 01's table (levels, which are counted apart, have 12)
abbrev pub limit_number : Limit → ℕ
limit_number (a_name root used x) = path_number root
limit_number (a_pattern x) = 13
limit_number (a_string x) = 17
limit_number (a_literal k) = 14
limit_number (a_policy k) = 15

-- whether it is kept
abbrev pub kept : Limit → Bool
kept (a_name root used x) = admitted root used x
kept (a_pattern x) = is_pattern (inside x)
kept (a_string x) = is_text x
kept (a_literal k) = ltb k most_literals
kept (a_policy k) = ltb k most_policies

-- Which limits are asked, each with the tokens behind it; and how many levels conditions may have inside them.
pub record Limits : Type 1 where
  pub Asks : Limit → List Lexeme → Type 0
  pub levels : ℕ

-- document 01's, but for the levels
abbrev pub sizes_to : ℕ → Limits
sizes_to levels = record { Asks = λ l r. kept l ≡ true; levels = levels }

-- document 01's
abbrev pub sizes : Limits
sizes = sizes_to most_inside

-- document 01's, where Lifted n r says that the one with the number n is not asked of a token before r
abbrev pub lifting : ℕ → (ℕ → List Lexeme → Type 0) → Limits
lifting levels Lifted = record { Asks = λ l r. (kept l ≡ true) ⊎ Lifted (limit_number l) r; levels = levels }

-- a token with r behind it is one of the last tokens `on`
abbrev pub Beyond : List Lexeme → List Lexeme → Type 0
Beyond on r = length r < length on

-- document 01's, asked only of what stands before the last tokens `on`
abbrev pub sizes_before : List Lexeme → Limits
sizes_before on = lifting most_inside (λ n r. Beyond on r)

-- none
abbrev pub unlimited : Limits
unlimited = record { Asks = λ l r. Unit {0}; levels = 0 }

-- ---- paths: names joined by dots

-- a path that is being read: where it starts and ends, and its bytes with its dots, without blanks
pub record Path : Type 0 where
  pub start : ℕ
  pub end : ℕ
  pub used : ℕ

-- a path of one name
abbrev pub first_path : Lexeme → Path
first_path x = record { start = x.start; end = x.end; used = size x }

-- a path with a dot and one name more
abbrev pub longer_path : Path → Lexeme → Path
longer_path p x = record { start = p.start; end = x.end; used = p.used + 1 + size x }

-- where a path lies
abbrev pub spanned : Path → Span
spanned p = span p.start p.end

-- the first name of a path after the root
pub data FirstName (L : Limits) (root : Root) : List Lexeme → List Lexeme → Path → Type 0 where
  first : {x : Lexeme} {r : List Lexeme} → x.kind ≡ kinds.name → L.Asks (a_name root 0 x) r → FirstName L root (x ∷ r) r (first_path x)

-- one name more on the path p
pub data NextName (L : Limits) (root : Root) (p : Path) : List Lexeme → List Lexeme → Path → Type 0 where
  next : {x : Lexeme} {r : List Lexeme} → x.kind ≡ kinds.name → L.Asks (a_name root (p.used + 1) x) r → NextName L root p (x ∷ r) r (longer_path p x)

-- a path after the root
abbrev pub APath : Limits → Root → Reading Path
APath L root = Chain (λ p. is kinds.dot) (FirstName L root) (λ p d. NextName L root p)

-- ---- operands

-- an attribute: a root, a dot and a path
pub data Attribute (L : Limits) : List Lexeme → List Lexeme → Operand → Type 0 where
  rooted : {x d : Lexeme} {i r : List Lexeme} {p : Path} → is_root x ≡ true → d.kind ≡ kinds.dot → APath L (root_of x) i r p
      → Attribute L (x ∷ d ∷ i) r (attribute (root_of x) (spanned p))

-- an operand: an attribute or a literal
pub data AnOperand (L : Limits) : List Lexeme → List Lexeme → Operand → Type 0 where
  given : {i r : List Lexeme} {a : Operand} → Attribute L i r a → AnOperand L i r a
  literally : {x : Lexeme} {r : List Lexeme} → is_literal x ≡ true → L.Asks (a_string x) r → AnOperand L (x ∷ r) r (literal (literal_of x))

-- ---- lists: at least one literal, with commas between them, in square brackets

-- one literal more after ls, of the sort that the test says
pub data Element (L : Limits) (sort : Lexeme → Bool) (ls : List Literal) : List Lexeme → List Lexeme → List Literal → Type 0 where
  element : {x : Lexeme} {r : List Lexeme}
      → sort x ≡ true → L.Asks (a_literal (length ls)) r → L.Asks (a_string x) r → Element L sort ls (x ∷ r) r (ls ++ literal_of x ∷ [])

-- a list's literals of a sort, and its `]`
abbrev pub Literals : Limits → (Lexeme → Bool) → Reading (List Literal)
Literals L sort = Before kinds.right_square (Chain (λ ls. is kinds.comma) (Element L sort []) (λ ls comma. Element L sort ls))

-- a list of literals of a sort
abbrev pub Listing : Limits → (Lexeme → Bool) → Reading (List Literal)
Listing L sort = After kinds.left_square (Literals L sort)

-- ---- conditions that hold no other

-- bare true or false; two operands with a comparator; an operand `like` a string, `in` a list, `in` an attribute; a call; a root, `has` and a path
pub data Simple (L : Limits) : List Lexeme → List Lexeme → Tree → Type 0 where
  bare : {x : Lexeme} {r : List Lexeme} → is_truth x ≡ true → Simple L (x ∷ r) r (constant (is kinds.true_word x))
  comparison : {x : Lexeme} {i m r : List Lexeme} {a b : Operand}
      → AnOperand L i (x ∷ m) a → is_comparator x ≡ true → AnOperand L m r b → Simple L i r (compare (comparator_of x) a b)
  likeness : {x s : Lexeme} {i r : List Lexeme} {a : Operand}
      → AnOperand L i (x ∷ s ∷ r) a → x.kind ≡ kinds.like_word → s.kind ≡ kinds.string → L.Asks (a_string s) r → L.Asks (a_pattern s) r
      → Simple L i r (like a (span_of s))
  listed : {x : Lexeme} {i m r : List Lexeme} {a : Operand} {ls : List Literal}
      → AnOperand L i (x ∷ m) a → x.kind ≡ kinds.in_word → Listing L is_literal m r ls → Simple L i r (among a ls)
  held : {x : Lexeme} {i m r : List Lexeme} {a : Operand} {root : Root} {p : Span}
      → AnOperand L i (x ∷ m) a → x.kind ≡ kinds.in_word → Attribute L m r (attribute root p) → Simple L i r (within a root p)
  call : {d w o : Lexeme} {i m r : List Lexeme} {root : Root} {p : Span} {ls : List Literal}
      → Attribute L i (d ∷ w ∷ o ∷ m) (attribute root p) → d.kind ≡ kinds.dot → is_contains w ≡ true → o.kind ≡ kinds.left_round
      → Before kinds.right_round (Listing L is_literal) m r ls → Simple L i r (contains (which_of w) root p ls)
  having : {x h : Lexeme} {i r : List Lexeme} {p : Path}
      → is_root x ≡ true → h.kind ≡ kinds.has_word → APath L (root_of x) i r p → Simple L (x ∷ h ∷ i) r (has (root_of x) (spanned p))

-- ---- conditions

-- one or more of what C reads, joined from the left
abbrev pub Joined : ℕ → (Tree → Tree → Tree) → Reading Tree → Reading Tree
Joined sep join C = Chain (λ a. is sep) C (λ a x. Onto (join a) C)

-- conditions joined by `&&`
abbrev pub Conjunction : Reading Tree → Reading Tree
Conjunction C = Joined kinds.and both C

-- conjunctions joined by `||`
abbrev pub Disjunction : Reading Tree → Reading Tree
Disjunction C = Joined kinds.or either (Conjunction C)

-- a condition: one that holds no other, `!`, brackets or `if`, where Inner reads the conditions one level deeper
pub data ConditionOver (L : Limits) (Inner : Reading Tree) : List Lexeme → List Lexeme → Tree → Type 0 where
  simple : {i r : List Lexeme} {t : Tree} → Simple L i r t → ConditionOver L Inner i r t
  negation : {x : Lexeme} {i r : List Lexeme} {t : Tree} → x.kind ≡ kinds.bang → Inner i r t → ConditionOver L Inner (x ∷ i) r (not t)
  bracketed : {x : Lexeme} {i r : List Lexeme} {t : Tree} → x.kind ≡ kinds.left_round → Before kinds.right_round (Disjunction Inner) i r t
      → ConditionOver L Inner (x ∷ i) r (brackets t)
  conditional : {x : Lexeme} {i m n r : List Lexeme} {c a b : Tree}
      → x.kind ≡ kinds.if_word → Before kinds.then_word Inner i m c → Before kinds.else_word Inner m n a → Inner n r b
      → ConditionOver L Inner (x ∷ i) r (choice c a b)

-- where no level is left, there is no condition
pub data Nothing : List Lexeme → List Lexeme → Tree → Type 0 where

-- a condition with at most d levels inside it
abbrev pub Condition : Limits → ℕ → Reading Tree
Condition L zero = ConditionOver L Nothing
Condition L (suc d) = ConditionOver L (Condition L d)

-- what stands in the braces after `when`
abbrev pub Conditions : Limits → Reading Tree
Conditions L = Disjunction (Condition L L.levels)

-- ---- policies

-- a part that is bare, or `is` one of the types
pub data Typed (types : List (List ℕ)) : List Lexeme → List Lexeme → Part → Type 0 where
  bare : {r : List Lexeme} → Typed types r r any
  one : {x n : Lexeme} {r : List Lexeme} → x.kind ≡ kinds.is_word → is_type types n ≡ true → Typed types (x ∷ n ∷ r) r (typed (type_of types n))

-- the resource part: bare, `is` one of its types, or `==` a string
pub data ResourceRest (L : Limits) : List Lexeme → List Lexeme → Part → Type 0 where
  sort : {i r : List Lexeme} {p : Part} → Typed resource_types i r p → ResourceRest L i r p
  string : {x s : Lexeme} {r : List Lexeme}
      → x.kind ≡ kinds.equal → s.kind ≡ kinds.string → L.Asks (a_string s) r → ResourceRest L (x ∷ s ∷ r) r (pinned (span_of s))

-- the action part: bare, or `in` a list of strings
pub data ActionRest (L : Limits) : List Lexeme → List Lexeme → Actions → Type 0 where
  bare : {r : List Lexeme} → ActionRest L r r every
  list : {x : Lexeme} {i r : List Lexeme} {ls : List Literal} → x.kind ≡ kinds.in_word → Listing L (is kinds.string) i r ls → ActionRest L (x ∷ i) r (one_of ls)

-- the `when` part, if there is one
pub data When (L : Limits) : List Lexeme → List Lexeme → Option Tree → Type 0 where
  bare : {r : List Lexeme} → When L r r none
  braces : {x : Lexeme} {i r : List Lexeme} {t : Tree} → x.kind ≡ kinds.when_word
      → After kinds.left_brace (Before kinds.right_brace (Conditions L)) i r t → When L (x ∷ i) r (some t)

-- a policy's tokens behind its effect
pub data PolicyRest (L : Limits) (permits : Bool) : List Lexeme → List Lexeme → Policy → Type 0 where
  rest : {i j k l r : List Lexeme} {p : Part} {a : Actions} {s : Part} {c : Option Tree}
      → After kinds.left_round (After kinds.principal_word (Before kinds.comma (Typed principal_types))) i j p
      → After kinds.action_word (Before kinds.comma (ActionRest L)) j k a
      → After kinds.resource_word (Before kinds.right_round (ResourceRest L)) k l s
      → Before kinds.semicolon (When L) l r c
      → PolicyRest L permits i r (record { permits = permits; principal = p; action = a; resource = s; condition = c })

-- a text, of which the policies ps were read: zero or more policies follow, and it says qs in all
pub data Policies (L : Limits) : List Policy → List Lexeme → List Policy → Type 0 where
  end : {ps : List Policy} → Policies L ps [] ps
  policy : {x : Lexeme} {i m : List Lexeme} {p : Policy} {ps qs : List Policy}
      → is_effect x ≡ true → L.Asks (a_policy (length ps)) i → PolicyRest L (is kinds.permit_word x) i m p → Policies L (ps ++ p ∷ []) m qs
      → Policies L ps (x ∷ i) qs

-- the tokens of a rule text that says these policies
abbrev pub RuleText : Limits → List Lexeme → List Policy → Type 0
RuleText L i ps = Policies L [] i ps

-- a text of bytes says these policies: its tokens are a rule text within document 01's limits
pub record SaysPolicies (text : List ℕ) (ps : List Policy) : Type 0 where
  pub tokens : List Lexeme
  pub listed : TokensOf text 0 tokens
  pub belongs : RuleText sizes tokens ps
