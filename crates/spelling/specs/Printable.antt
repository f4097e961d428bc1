-- Which policies, by their words, keep document 01's grammar and limits: those that a rule text can say. Definitions only.
use Rattle.std.specs.Prelude.{◌≡◌, Bool, true, List, ℕ, zero, suc, ◌≤◌, ◌<◌, length}
use Rattle.std.proofs.Math.Option.{Option, none, some}
use Rattle.slices.specs.Ascii.{bytes}
use Rattle.utf8.specs.Characters.{Utf8}
use Rattle.tokens.specs.Forms.{All, Number, digits}
use Rattle.tokens.specs.Sizes.{most_path_bytes, most_string_bytes, most_digits, most_literals, most_policies, most_inside}
use Rattle.tokens.specs.declared.classes.Sort.TheVariants.{StringBytes}
use Rattle.grammar.specs.Policies.{Root, Root.Action, Comparator, Which, LiteralOf, text, number, truth, OperandOf, attribute, literal}
use Rattle.grammar.specs.Policies.{TreeOf, constant, compare, like, among, within, contains, has, not, brackets, both, either, choice}
use Rattle.grammar.specs.Policies.{PartOf, any, typed, pinned, ActionsOf, every, one_of, PolicyOf}
use Rattle.grammar.specs.Rules.{is_pattern, principal_types, resource_types}
use Rattle.placing.specs.Placed.{IsPath, Each}
use Rattle.placing.specs.Said.{Word}

-- ---- words

-- what stands between a string's quotes
pub record PrintableString (s : Word) : Type 0 where
  pub all : All StringBytes s
  pub size : length s ≤ most_string_bytes
  pub characters : Utf8 s

-- a number
pub record PrintableNumber (n : Word) : Type 0 where
  pub form : Number n
  pub size : digits n ≤ most_digits

-- a path after a root: after action only `name`
pub record PrintablePath (root : Root) (p : Word) : Type 0 where
  pub path : IsPath p
  pub few : length p ≤ most_path_bytes
  pub action : root ≡ Action → p ≡ bytes "name"

-- ---- literals, operands, lists

-- a literal
pub data PrintableLiteral : LiteralOf Word → Type 0 where
  of_string : {s : Word} → PrintableString s → PrintableLiteral (text s)
  of_number : {n : Word} → PrintableNumber n → PrintableLiteral (number n)
  of_truth : {b : Bool} → PrintableLiteral (truth b)

-- a literal of an action part: a string
pub data PrintableAction : LiteralOf Word → Type 0 where
  of_action : {s : Word} → PrintableString s → PrintableAction (text s)

-- an operand
pub data PrintableOperand : OperandOf Word → Type 0 where
  of_attribute : {root : Root} {p : Word} → PrintablePath root p → PrintableOperand (attribute root p)
  of_literal : {l : LiteralOf Word} → PrintableLiteral l → PrintableOperand (literal l)

-- a list of 1 to 16 literals
pub record PrintableList (P : LiteralOf Word → Type 0) (ls : List (LiteralOf Word)) : Type 0 where
  pub some : 0 < length ls
  pub few : length ls ≤ most_literals
  pub each : Each P ls

-- ---- conditions

-- one that holds no other
pub data PrintableSimple : TreeOf Word → Type 0 where
  of_constant : {b : Bool} → PrintableSimple (constant b)
  of_comparison : {c : Comparator} {a b : OperandOf Word} → PrintableOperand a → PrintableOperand b → PrintableSimple (compare c a b)
  of_likeness : {a : OperandOf Word} {s : Word} → PrintableOperand a → PrintableString s → is_pattern s ≡ true → PrintableSimple (like a s)
  of_list : {a : OperandOf Word} {ls : List (LiteralOf Word)} → PrintableOperand a → PrintableList PrintableLiteral ls → PrintableSimple (among a ls)
  of_member : {a : OperandOf Word} {root : Root} {p : Word} → PrintableOperand a → PrintablePath root p → PrintableSimple (within a root p)
  of_call : {w : Which} {root : Root} {p : Word} {ls : List (LiteralOf Word)} → PrintablePath root p → PrintableList PrintableLiteral ls
      → PrintableSimple (contains w root p ls)
  of_presence : {root : Root} {p : Word} → PrintablePath root p → PrintableSimple (has root p)

-- one or more of them, joined from the left
pub data PrintableJoined (join : TreeOf Word → TreeOf Word → TreeOf Word) (C : TreeOf Word → Type 0) : TreeOf Word → Type 0 where
  alone : {c : TreeOf Word} → C c → PrintableJoined join C c
  more : {a b : TreeOf Word} → PrintableJoined join C a → C b → PrintableJoined join C (join a b)

-- conditions joined by `&&`, and such joined by `||`
abbrev pub PrintableDisjunction : (TreeOf Word → Type 0) → TreeOf Word → Type 0
PrintableDisjunction C = PrintableJoined either (PrintableJoined both C)

-- a condition, where Inner is of those one level deeper: what stands in `!` and `if` is joined by neither `&&` nor `||`, unless in brackets
pub data PrintableOver (Inner : TreeOf Word → Type 0) : TreeOf Word → Type 0 where
  of_simple : {c : TreeOf Word} → PrintableSimple c → PrintableOver Inner c
  of_negation : {c : TreeOf Word} → Inner c → PrintableOver Inner (not c)
  of_brackets : {c : TreeOf Word} → PrintableDisjunction Inner c → PrintableOver Inner (brackets c)
  of_choice : {c a b : TreeOf Word} → Inner c → Inner a → Inner b → PrintableOver Inner (choice c a b)

-- where no level is left, there is no condition
pub data NoneDeeper : TreeOf Word → Type 0 where

-- a condition with at most d levels inside it
abbrev pub PrintableCondition : ℕ → TreeOf Word → Type 0
PrintableCondition zero = PrintableOver NoneDeeper
PrintableCondition (suc d) = PrintableOver (PrintableCondition d)

-- what stands in the braces after `when`, if anything does
pub data PrintableWhen : Option (TreeOf Word) → Type 0 where
  without : PrintableWhen none
  of_when : {c : TreeOf Word} → PrintableDisjunction (PrintableCondition most_inside) c → PrintableWhen (some c)

-- ---- policies

-- a part that is bare, or one of its types
pub data PrintableTyped (types : List (List ℕ)) : PartOf Word → Type 0 where
  of_any : PrintableTyped types any
  of_type : {n : ℕ} → 0 < n → n ≤ length types → PrintableTyped types (typed n)

-- a resource part: the same, or a string
pub data PrintableResource : PartOf Word → Type 0 where
  of_sort : {p : PartOf Word} → PrintableTyped resource_types p → PrintableResource p
  of_pin : {s : Word} → PrintableString s → PrintableResource (pinned s)

-- an action part: bare, or 1 to 16 strings
pub data PrintableActions : ActionsOf Word → Type 0 where
  of_every : PrintableActions every
  of_some : {ls : List (LiteralOf Word)} → PrintableList PrintableAction ls → PrintableActions (one_of ls)

-- a policy
pub record PrintablePolicy (p : PolicyOf Word) : Type 0 where
  pub principal : PrintableTyped principal_types p.principal
  pub action : PrintableActions p.action
  pub resource : PrintableResource p.resource
  pub condition : PrintableWhen p.condition

-- at most 64 policies
pub record PrintablePolicies (ps : List (PolicyOf Word)) : Type 0 where
  pub few : length ps ≤ most_policies
  pub each : Each PrintablePolicy ps
