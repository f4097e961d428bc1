-- What the policies of a text say, without where they say it: each path, string and number by its bytes in place of its place. Definitions only.
use Rattle.std.specs.Prelude.{List, [], ◌∷◌, ℕ}
use Rattle.std.proofs.Math.Option.{Option, none, some}
use Rattle.grammar.specs.Policies.{LiteralOf, text, number, truth, OperandOf, attribute, literal, TreeOf, constant, compare, like, among, within, contains, has, not, brackets, both, either, choice, PartOf, any, typed, pinned, ActionsOf, every, one_of, PolicyOf, Literal, Operand, Tree, Part, Actions, Policy}
use Rattle.placing.specs.Placed.{bytes_at, quoted_at, unblanked_at}

-- a path without its blanks, what stands between a string's quotes, the bytes of a number
abbrev pub Word : Type 0
Word = List ℕ

-- ---- conditions

unfoldable pub literal_words : List ℕ → Literal → LiteralOf Word
literal_words t (text s) = text (quoted_at t s)
literal_words t (number s) = number (bytes_at t s)
literal_words t (truth b) = truth b

unfoldable pub list_words : List ℕ → List Literal → List (LiteralOf Word)
list_words t [] = []
list_words t (l ∷ ls) = literal_words t l ∷ list_words t ls

unfoldable pub operand_words : List ℕ → Operand → OperandOf Word
operand_words t (attribute root s) = attribute root (unblanked_at t s)
operand_words t (literal l) = literal (literal_words t l)

unfoldable pub tree_words : List ℕ → Tree → TreeOf Word
tree_words t (constant b) = constant b
tree_words t (compare c a b) = compare c (operand_words t a) (operand_words t b)
tree_words t (like a s) = like (operand_words t a) (quoted_at t s)
tree_words t (among a ls) = among (operand_words t a) (list_words t ls)
tree_words t (within a root s) = within (operand_words t a) root (unblanked_at t s)
tree_words t (contains w root s ls) = contains w root (unblanked_at t s) (list_words t ls)
tree_words t (has root s) = has root (unblanked_at t s)
tree_words t (not a) = not (tree_words t a)
tree_words t (brackets a) = brackets (tree_words t a)
tree_words t (both a b) = both (tree_words t a) (tree_words t b)
tree_words t (either a b) = either (tree_words t a) (tree_words t b)
tree_words t (choice c a b) = choice (tree_words t c) (tree_words t a) (tree_words t b)

-- ---- policies

unfoldable pub part_words : List ℕ → Part → PartOf Word
part_words t any = any
part_words t (typed n) = typed n
part_words t (pinned s) = pinned (quoted_at t s)

unfoldable pub action_words : List ℕ → Actions → ActionsOf Word
action_words t every = every
action_words t (one_of ls) = one_of (list_words t ls)

unfoldable pub condition_words : List ℕ → Option Tree → Option (TreeOf Word)
condition_words t none = none
condition_words t (some c) = some (tree_words t c)

abbrev pub policy_words : List ℕ → Policy → PolicyOf Word
policy_words t p = record {
  permits = p.permits;
  principal = part_words t p.principal;
  action = action_words t p.action;
  resource = part_words t p.resource;
  condition = condition_words t p.condition;
}

-- what the policies of a text say: two texts say the same where these are equal
unfoldable pub words_of : List ℕ → List Policy → List (PolicyOf Word)
words_of t [] = []
words_of t (p ∷ ps) = policy_words t p ∷ words_of t ps
