-- Policies are said without the text's other bytes (document 01, 'The table'): what they say depends on a text by the bytes at the places that they hold. Definitions only.
use Rattle.std.specs.Prelude.{◌≡◌, List, [], ◌∷◌, ◌++◌, ℕ}
use Rattle.std.proofs.Math.Option.{Option, none, some}
use Rattle.grammar.specs.Policies.{Span, Literal, text, number, truth, Operand, attribute, literal, Tree, constant, compare, like, among, within, contains, has, not, brackets, both, either, choice, Part, any, typed, pinned, Actions, every, one_of, Policy}
use Rattle.placing.specs.Placed.{bytes_at, Each}
use Rattle.placing.specs.Said.{policy_words, words_of}

-- ---- the places that a policy holds: of its paths, strings and numbers

-- of a literal: a flag's word is said by the policy itself
unfoldable pub literal_places : Literal → List Span
literal_places (text s) = s ∷ []
literal_places (number s) = s ∷ []
literal_places (truth b) = []

-- of the literals of a list
unfoldable pub list_places : List Literal → List Span
list_places [] = []
list_places (l ∷ ls) = literal_places l ++ list_places ls

-- of an operand
unfoldable pub operand_places : Operand → List Span
operand_places (attribute root s) = s ∷ []
operand_places (literal l) = literal_places l

-- of a condition
unfoldable pub tree_places : Tree → List Span
tree_places (constant b) = []
tree_places (compare c a b) = operand_places a ++ operand_places b
tree_places (like a s) = s ∷ operand_places a
tree_places (among a ls) = operand_places a ++ list_places ls
tree_places (within a root s) = s ∷ operand_places a
tree_places (contains w root s ls) = s ∷ list_places ls
tree_places (has root s) = s ∷ []
tree_places (not a) = tree_places a
tree_places (brackets a) = tree_places a
tree_places (both a b) = tree_places a ++ tree_places b
tree_places (either a b) = tree_places a ++ tree_places b
tree_places (choice c a b) = tree_places c ++ (tree_places a ++ tree_places b)

-- of a principal part or a resource part: a type is said by the policy itself
unfoldable pub part_places : Part → List Span
part_places any = []
part_places (typed n) = []
part_places (pinned s) = s ∷ []

-- of an action part
unfoldable pub action_places : Actions → List Span
action_places every = []
action_places (one_of ls) = list_places ls

-- of a condition, if there is one
unfoldable pub condition_places : Option Tree → List Span
condition_places none = []
condition_places (some c) = tree_places c

-- of a policy
unfoldable pub policy_places : Policy → List Span
policy_places p = part_places p.principal ++ (action_places p.action ++ (part_places p.resource ++ condition_places p.condition))

-- ---- two texts with the same words there

-- the same bytes at a place
pub record SameAt (t t' : List ℕ) (s : Span) : Type 0 where
  pub same : bytes_at t s ≡ bytes_at t' s

-- the same bytes at each place that a policy holds
pub record SameWords (t t' : List ℕ) (p : Policy) : Type 0 where
  pub there : Each (SameAt t t') (policy_places p)

-- Where the bytes there are the same, a policy says the same, and so do policies, whatever stands elsewhere in the two texts.
unfoldable pub SaidAlike : Type 0
SaidAlike = (t t' : List ℕ) (p : Policy) → SameWords t t' p → policy_words t p ≡ policy_words t' p

unfoldable pub AllSaidAlike : Type 0
AllSaidAlike = (t t' : List ℕ) (ps : List Policy) → Each (SameWords t t') ps → words_of t ps ≡ words_of t' ps
