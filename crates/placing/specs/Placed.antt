-- Where the strings, numbers and paths of a text's policies lie in the text, and what bytes stand there. Definitions only.
use Rattle.std.specs.Prelude.{◌≡◌, Bool, true, List, [], ◌∷◌, ◌++◌, ℕ, suc, ◌+◌, ◌-◌, ◌≤◌, ◌<◌, max, length, get_or, take, drop}
use Rattle.std.proofs.Math.Option.{Option, none, some}
use Rattle.slices.specs.Ascii.{bytes}
use Rattle.utf8.specs.Reading.{utf8}
use Rattle.tokens.specs.Blanks.{unblanked}
use Rattle.tokens.specs.Kinds as kinds
use Rattle.tokens.specs.Runs.{is_of}
use Rattle.tokens.specs.Words.{word_kind}
use Rattle.tokens.specs.Forms.{All, quote}
use Rattle.tokens.specs.declared.classes.Sort.TheVariants.{Letters, WordBytes, StringBytes}
use Rattle.tokens.specs.Sizes.{most_path_bytes, most_literals, most_policies, most_string_bytes, most_levels}
use Rattle.numbers.specs.Literals.{IsNumber}
use Rattle.grammar.specs.Policies.{Span, Root, Root.Action, Comparator, Literal, text, number, truth, Operand, attribute, literal, Which, Tree, constant, compare, like, among, within, contains, has, not, brackets, both, either, choice, Part, any, typed, pinned, Actions, every, one_of, Policy}
use Rattle.grammar.specs.Rules.{is_pattern}

-- ---- bytes

-- the bytes of a text at a span
abbrev pub bytes_at : List ℕ → Span → List ℕ
bytes_at t s = take (s.end - s.start) (drop s.start t)

-- the bytes between the quotes of the string at a span
abbrev pub quoted_at : List ℕ → Span → List ℕ
quoted_at t s = take (s.end - s.start - 2) (drop (s.start + 1) t)

-- the bytes of the path at a span: blanks may stand about its dots
abbrev pub unblanked_at : List ℕ → Span → List ℕ
unblanked_at t s = unblanked (bytes_at t s)

-- a name: a letter, then word bytes, and no reserved word
pub data IsName : List ℕ → Type 0 where
  a_name : {b : ℕ} {rest : List ℕ} → is_of Letters b ≡ true → All WordBytes rest → word_kind (b ∷ rest) ≡ kinds.name → IsName (b ∷ rest)

-- a path: names joined by dots
pub data IsPath : List ℕ → Type 0 where
  one_name : {n : List ℕ} → IsName n → IsPath n
  one_more : {p n : List ℕ} → IsPath p → IsName n → IsPath (p ++ kinds.dot ∷ n)

-- ---- spans

-- a span of at least one byte of a text
pub record Lies (t : List ℕ) (s : Span) : Type 0 where
  pub some : s.start < s.end
  pub high : s.end ≤ length t

-- a string with its quotes, at most 127 bytes inside them, which are UTF-8
pub record StringPlaced (t : List ℕ) (s : Span) : Type 0 where
  pub lies : Lies t s
  pub two : s.start + 2 ≤ s.end
  pub few : s.end ≤ s.start + (most_string_bytes + 2)
  pub opened : get_or t s.start 0 ≡ quote
  pub inside : All StringBytes (quoted_at t s)
  pub characters : utf8 (quoted_at t s) ≡ true
  pub closed : get_or t (s.end - 1) 0 ≡ quote

-- a number
pub record NumberPlaced (t : List ℕ) (s : Span) : Type 0 where
  pub lies : Lies t s
  pub number : IsNumber (bytes_at t s)

-- a path after a root: at most 64 bytes with its dots, and after action only `name`
pub record PathPlaced (t : List ℕ) (root : Root) (s : Span) : Type 0 where
  pub lies : Lies t s
  pub path : IsPath (unblanked_at t s)
  pub few : length (unblanked_at t s) ≤ most_path_bytes
  pub action : root ≡ Action → unblanked_at t s ≡ bytes "name"

-- ---- literals, operands, lists

-- each of some things
pub data Each {A : Type 0} (P : A → Type 0) : List A → Type 0 where
  none_left : Each P []
  and_each : {a : A} {l : List A} → P a → Each P l → Each P (a ∷ l)

-- a literal: a string or a number that lies in the text, or true or false
pub data LiteralPlaced (t : List ℕ) : Literal → Type 0 where
  a_string : {s : Span} → StringPlaced t s → LiteralPlaced t (text s)
  a_number : {s : Span} → NumberPlaced t s → LiteralPlaced t (number s)
  a_truth : {b : Bool} → LiteralPlaced t (truth b)

-- a literal of an action part: a string
pub data ActionPlaced (t : List ℕ) : Literal → Type 0 where
  an_action : {s : Span} → StringPlaced t s → ActionPlaced t (text s)

-- an operand: an attribute whose path lies in the text, or a literal
pub data OperandPlaced (t : List ℕ) : Operand → Type 0 where
  an_attribute : {root : Root} {s : Span} → PathPlaced t root s → OperandPlaced t (attribute root s)
  a_literal : {l : Literal} → LiteralPlaced t l → OperandPlaced t (literal l)

-- a list of 1 to 16 literals
pub record Listed (P : Literal → Type 0) (ls : List Literal) : Type 0 where
  pub some : 0 < length ls
  pub few : length ls ≤ most_literals
  pub each : Each P ls

-- ---- conditions

-- a condition: what it has lies in the text, its patterns keep their rule, and its lists have 1 to 16 literals
pub data TreePlaced (t : List ℕ) : Tree → Type 0 where
  a_constant : {b : Bool} → TreePlaced t (constant b)
  a_comparison : {c : Comparator} {a b : Operand} → OperandPlaced t a → OperandPlaced t b → TreePlaced t (compare c a b)
  a_likeness : {a : Operand} {s : Span} → OperandPlaced t a → StringPlaced t s → is_pattern (quoted_at t s) ≡ true → TreePlaced t (like a s)
  in_list : {a : Operand} {ls : List Literal} → OperandPlaced t a → Listed (LiteralPlaced t) ls → TreePlaced t (among a ls)
  in_an_attribute : {a : Operand} {root : Root} {s : Span} → OperandPlaced t a → PathPlaced t root s → TreePlaced t (within a root s)
  a_call : {w : Which} {root : Root} {s : Span} {ls : List Literal} → PathPlaced t root s → Listed (LiteralPlaced t) ls → TreePlaced t (contains w root s ls)
  a_presence : {root : Root} {s : Span} → PathPlaced t root s → TreePlaced t (has root s)
  a_negation : {c : Tree} → TreePlaced t c → TreePlaced t (not c)
  in_brackets : {c : Tree} → TreePlaced t c → TreePlaced t (brackets c)
  a_conjunction : {a b : Tree} → TreePlaced t a → TreePlaced t b → TreePlaced t (both a b)
  a_disjunction : {a b : Tree} → TreePlaced t a → TreePlaced t b → TreePlaced t (either a b)
  a_choice : {c a b : Tree} → TreePlaced t c → TreePlaced t a → TreePlaced t b → TreePlaced t (choice c a b)

-- how many levels a condition has: brackets, `!` and `if` each put their conditions one deeper
unfoldable pub depth : Tree → ℕ
depth (constant b) = 1
depth (compare c a b) = 1
depth (like a s) = 1
depth (among a ls) = 1
depth (within a root s) = 1
depth (contains w root s ls) = 1
depth (has root s) = 1
depth (not c) = suc (depth c)
depth (brackets c) = suc (depth c)
depth (both a b) = max (depth a) (depth b)
depth (either a b) = max (depth a) (depth b)
depth (choice c a b) = suc (max (depth c) (max (depth a) (depth b)))

-- ---- policies

-- a principal part: one of two types
pub data PrincipalPlaced : Part → Type 0 where
  any_principal : PrincipalPlaced any
  principal_type : {n : ℕ} → 0 < n → n ≤ 2 → PrincipalPlaced (typed n)

-- a resource part: one of four types, or a string
pub data ResourcePlaced (t : List ℕ) : Part → Type 0 where
  any_resource : ResourcePlaced t any
  resource_type : {n : ℕ} → 0 < n → n ≤ 4 → ResourcePlaced t (typed n)
  one_resource : {s : Span} → StringPlaced t s → ResourcePlaced t (pinned s)

-- an action part: 1 to 16 strings
pub data ActionsPlaced (t : List ℕ) : Actions → Type 0 where
  any_action : ActionsPlaced t every
  one_of_placed : {ls : List Literal} → Listed (ActionPlaced t) ls → ActionsPlaced t (one_of ls)

-- a condition, if there is one: it nests to 32 levels
pub data ConditionPlaced (t : List ℕ) : Option Tree → Type 0 where
  no_condition : ConditionPlaced t none
  a_condition : {c : Tree} → TreePlaced t c → depth c ≤ most_levels → ConditionPlaced t (some c)

-- a policy: its parts and its condition
pub record PolicyPlaced (t : List ℕ) (p : Policy) : Type 0 where
  pub principal : PrincipalPlaced p.principal
  pub action : ActionsPlaced t p.action
  pub resource : ResourcePlaced t p.resource
  pub condition : ConditionPlaced t p.condition

-- a text's policies: at most 64
pub record PoliciesPlaced (t : List ℕ) (ps : List Policy) : Type 0 where
  pub few : length ps ≤ most_policies
  pub each : Each (PolicyPlaced t) ps
