-- The policies that entries say, read back from the last to the first. An accessor `at` gives each entry by its number. Definitions only.
use Rattle.std.specs.Prelude.{false, cond, List, [], ◌∷◌, ◌++◌, ℕ, zero, suc, ◌+◌, ◌-◌, eqb, leb}
use Rattle.std.proofs.Math.Option.{Option, none, some}
use Rattle.grammar.specs.Policies.{Span, span, Root, Root.Principal, Root.Resource, Root.Env, Root.Action, Comparator, Comparator.Equal, Comparator.NotEqual, Comparator.More, Comparator.AtLeast, Comparator.Less, Comparator.AtMost, Literal, text, number, truth, Operand, attribute, literal, Which.All, Which.Any, Tree, constant, compare, like, among, within, contains, has, not, brackets, both, either, choice, Part, any, typed, pinned, Actions, every, one_of, Policy}
use Rattle.table.specs.declared.Entry.{Entry}
use Rattle.table.specs.Kinds.{principal_kind, resource_kind, env_kind, action_kind, has_action_kind, string_kind, number_kind, true_kind, false_kind, equal_kind, not_equal_kind, more_kind, at_least_kind, less_kind, at_most_kind, like_kind, in_list_kind, in_attribute_kind, contains_all_kind, contains_any_kind, not_kind, brackets_kind, and_kind, or_kind, bare_part_kind, typed_part_kind, bare_action_kind, permit_kind, roots}
use Rattle.table.specs.Layout.{entry_at}
use Rattle.table.specs.Recorded.{lowered}

-- ---- operands and literals

-- the place that an entry holds
abbrev pub span_of_entry : Entry → Span
span_of_entry x = span x.first x.second

-- the root of an attribute, by its kind
unfoldable pub root_of_kind : ℕ → Root
root_of_kind k = cond (eqb k principal_kind) Principal (cond (eqb k resource_kind) Resource (cond (eqb k env_kind) Env Action))

-- the literal of an entry
unfoldable pub literal_of_entry : Entry → Literal
literal_of_entry x =
    cond (eqb x.kind string_kind) (text (span_of_entry x))
    (cond (eqb x.kind number_kind) (number (span_of_entry x)) (truth (eqb x.kind true_kind)))

-- the operand of an entry
unfoldable pub operand_of_entry : Entry → Operand
operand_of_entry x = cond (leb x.kind action_kind) (attribute (root_of_kind x.kind) (span_of_entry x)) (literal (literal_of_entry x))

-- the comparator, by its kind
unfoldable pub comparator_of_kind : ℕ → Comparator
comparator_of_kind k =
    cond (eqb k equal_kind) Equal
    (cond (eqb k not_equal_kind) NotEqual
    (cond (eqb k more_kind) More
    (cond (eqb k at_least_kind) AtLeast
    (cond (eqb k less_kind) Less AtMost))))

-- so many literals, whose entries begin at number e
unfoldable pub literals_by : ℕ → (ℕ → Entry) → ℕ → List Literal
literals_by zero at e = []
literals_by (suc n) at e = literal_of_entry (at e) ∷ literals_by n at (e + 1)

-- the literals before the entry x, number end - 1, which says how many they are
abbrev pub list_by : (ℕ → Entry) → ℕ → Entry → List Literal
list_by at end x = literals_by x.first at (end - x.first - 1)

-- the operand's entry, which stands before them
abbrev pub owner_by : (ℕ → Entry) → ℕ → Entry → Entry
owner_by at end x = at (end - x.first - 2)

-- ---- conditions

-- the condition of which x is the last entry, number end - 1, where `part` gives those that end before
unfoldable pub tree_from : (ℕ → Tree) → (ℕ → Entry) → ℕ → Entry → Tree
tree_from part at end x =
    cond (leb x.kind has_action_kind) (has (root_of_kind (x.kind - roots)) (span_of_entry x))
    (cond (leb x.kind false_kind) (constant (eqb x.kind true_kind))
    (cond (leb x.kind at_most_kind) (compare (comparator_of_kind x.kind) (operand_of_entry (at (end - 3))) (operand_of_entry (at (end - 2))))
    (cond (eqb x.kind like_kind) (like (operand_of_entry (at (end - 2))) (span_of_entry x))
    (cond (eqb x.kind in_list_kind) (among (operand_of_entry (owner_by at end x)) (list_by at end x))
    (cond (eqb x.kind in_attribute_kind) (within (operand_of_entry (at (end - 3))) (root_of_kind (at (end - 2)).kind) (span_of_entry (at (end - 2))))
    (cond (eqb x.kind contains_all_kind) (contains All (root_of_kind (owner_by at end x).kind) (span_of_entry (owner_by at end x)) (list_by at end x))
    (cond (eqb x.kind contains_any_kind) (contains Any (root_of_kind (owner_by at end x).kind) (span_of_entry (owner_by at end x)) (list_by at end x))
    (cond (eqb x.kind not_kind) (not (part (end - 1)))
    (cond (eqb x.kind brackets_kind) (brackets (part (end - 1)))
    (cond (eqb x.kind and_kind) (both (part x.first) (part (end - 1)))
    (cond (eqb x.kind or_kind) (either (part x.first) (part (end - 1)))
    (choice (part x.first) (part x.second) (part (end - 1))))))))))))))

-- the condition whose entries end before number `end`, in at most n levels
unfoldable pub tree_in : ℕ → (ℕ → Entry) → ℕ → Tree
tree_in zero at end = constant false
tree_in (suc n) at end = tree_from (tree_in n at) at end (at (end - 1))

-- the same: no condition has more levels than entries
abbrev pub tree_by : (ℕ → Entry) → ℕ → Tree
tree_by at end = tree_in end at end

-- ---- policies

-- the principal or resource part of an entry
unfoldable pub part_of_entry : Entry → Part
part_of_entry x = cond (eqb x.kind bare_part_kind) any (cond (eqb x.kind typed_part_kind) (typed x.first) (pinned (span_of_entry x)))

-- the action part of which x is the last entry, number end - 1
unfoldable pub actions_by : (ℕ → Entry) → ℕ → Entry → Actions
actions_by at end x = cond (eqb x.kind bare_action_kind) every (one_of (list_by at end x))

-- the condition from number `first` up to number `end`, or none where they are the same
unfoldable pub condition_by : (ℕ → Entry) → ℕ → ℕ → Option Tree
condition_by at first end = cond (eqb first end) none (some (tree_by at end))

-- the policy of which x is the last entry, number end - 1; its version is not looked at
unfoldable pub policy_by : (ℕ → Entry) → ℕ → Entry → Policy
policy_by at end x = record {
  permits = eqb x.kind permit_kind;
  principal = part_of_entry (lowered (at x.first));
  action = actions_by at (x.second - 1) (at (x.second - 2));
  resource = part_of_entry (at (x.second - 1));
  condition = condition_by at x.second (end - 1);
}

-- the policies whose entries end before number `end`, but at most n
unfoldable pub policies_up_to : ℕ → (ℕ → Entry) → ℕ → List Policy
policies_up_to zero at end = []
policies_up_to (suc n) at end = cond (eqb end 0) [] (policies_up_to n at (at (end - 1)).first ++ policy_by at end (at (end - 1)) ∷ [])

-- the same: there are no more policies than entries
abbrev pub policies_by : (ℕ → Entry) → ℕ → List Policy
policies_by at end = policies_up_to end at end

-- ---- the same of a table, whose accessor is `entry_at table`

-- so many literals, whose entries begin at number e
abbrev pub literals_at : ℕ → List ℕ → ℕ → List Literal
literals_at n table e = literals_by n (entry_at table) e

-- the condition whose entries end before number `end`
abbrev pub tree_at : List ℕ → ℕ → Tree
tree_at table end = tree_by (entry_at table) end

-- the condition of which x is the last entry, number end - 1
abbrev pub tree_of : List ℕ → ℕ → Entry → Tree
tree_of table end x = tree_from (tree_at table) (entry_at table) end x

-- the action part of which x is the last entry, number end - 1
abbrev pub actions_of : List ℕ → ℕ → Entry → Actions
actions_of table end x = actions_by (entry_at table) end x

-- the policy of which x is the last entry, number end - 1
abbrev pub policy_at : List ℕ → ℕ → Entry → Policy
policy_at table end x = policy_by (entry_at table) end x

-- the policies whose entries end before number `end`
abbrev pub policies_at : List ℕ → ℕ → List Policy
policies_at table end = policies_by (entry_at table) end
