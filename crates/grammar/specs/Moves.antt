-- Policies at other places: what a text says is the same, but for where its words, paths, strings and numbers lie. Definitions only.
use Rattle.std.specs.Prelude.{List, map, ℕ, ◌+◌}
use Rattle.std.proofs.Math.Option.{Option, none, some}
use Rattle.grammar.specs.Policies.{Span, span, Literal, text, number, truth, Operand, attribute, literal, Tree, constant, compare, like, among, within}
use Rattle.grammar.specs.Policies.{contains, has, not, brackets, both, either, choice, Part, any, typed, pinned, Actions, every, one_of, Policy}

-- where the first byte of a thing goes, and where the byte behind its last one does
pub record Move : Type 0 where
  pub first : ℕ → ℕ
  pub behind : ℕ → ℕ

-- so many bytes further
abbrev pub further : ℕ → Move
further n = record { first = λ i. n + i; behind = λ i. n + i }

-- what a text says, part by part
module _ (m : Move) where
  abbrev pub moved_span : Span → Span
  moved_span s = span (m.first s.start) (m.behind s.end)

  abbrev pub moved_literal : Literal → Literal
  moved_literal (text s) = text (moved_span s)
  moved_literal (number s) = number (moved_span s)
  moved_literal (truth b) = truth b

  abbrev pub moved_operand : Operand → Operand
  moved_operand (attribute root p) = attribute root (moved_span p)
  moved_operand (literal l) = literal (moved_literal l)

  abbrev pub moved_tree : Tree → Tree
  moved_tree (constant b) = constant b
  moved_tree (compare c a b) = compare c (moved_operand a) (moved_operand b)
  moved_tree (like a s) = like (moved_operand a) (moved_span s)
  moved_tree (among a ls) = among (moved_operand a) (map moved_literal ls)
  moved_tree (within a root p) = within (moved_operand a) root (moved_span p)
  moved_tree (contains w root p ls) = contains w root (moved_span p) (map moved_literal ls)
  moved_tree (has root p) = has root (moved_span p)
  moved_tree (not t) = not (moved_tree t)
  moved_tree (brackets t) = brackets (moved_tree t)
  moved_tree (both a b) = both (moved_tree a) (moved_tree b)
  moved_tree (either a b) = either (moved_tree a) (moved_tree b)
  moved_tree (choice c a b) = choice (moved_tree c) (moved_tree a) (moved_tree b)

  abbrev pub moved_part : Part → Part
  moved_part any = any
  moved_part (typed n) = typed n
  moved_part (pinned s) = pinned (moved_span s)

  abbrev pub moved_actions : Actions → Actions
  moved_actions every = every
  moved_actions (one_of ls) = one_of (map moved_literal ls)

  abbrev pub moved_when : Option Tree → Option Tree
  moved_when none = none
  moved_when (some t) = some (moved_tree t)

  abbrev pub moved_policy : Policy → Policy
  moved_policy p = record {
    permits = p.permits;
    principal = moved_part p.principal;
    action = moved_actions p.action;
    resource = moved_part p.resource;
    condition = moved_when p.condition;
  }

-- policies so many bytes further on
abbrev pub further_on : ℕ → List Policy → List Policy
further_on n ps = map (moved_policy (further n)) ps
