-- The entries that say a text's policies under a version: a kind and two fields each, the parts of a thing before the thing itself (docs/TABLE.md).
-- Definitions only.
use Rattle.std.specs.Prelude.{Bool, true, false, List, [], ◌∷◌, ◌++◌, map, ℕ, ◌+◌, length}
use Rattle.std.proofs.Math.Option.{Option, none, some}
use Rattle.table.specs.declared.Entry.{Entry}
use Rattle.table.specs.Kinds.{has_principal_kind, has_resource_kind, has_env_kind, has_action_kind, string_kind, number_kind, true_kind, false_kind, equal_kind, not_equal_kind, more_kind, at_least_kind, less_kind, at_most_kind, like_kind, in_list_kind, in_attribute_kind, contains_all_kind, contains_any_kind, not_kind, brackets_kind, and_kind, or_kind, if_kind, bare_part_kind, typed_part_kind, pinned_part_kind, bare_action_kind, listed_action_kind, permit_kind, forbid_kind, second_step}
use Rattle.grammar.specs.Policies.{Span, Root, root_byte, Root.Principal, Root.Resource, Root.Env, Root.Action, Comparator, Comparator.Equal, Comparator.NotEqual, Comparator.More, Comparator.AtLeast, Comparator.Less, Comparator.AtMost, Literal, text, number, truth, Operand, attribute, literal, Which, Which.All, Which.Any, Tree, constant, compare, like, among, within, contains, has, not, brackets, both, either, choice, Part, any, typed, pinned, Actions, every, one_of, Policy}
use Rattle.grammar.specs.declared.Version.{Version}
use Rattle.grammar.specs.declared.Version.TheVariants.{First, Second}

-- an entry of this kind, with these two fields
abbrev pub entry : ℕ → ℕ → ℕ → Entry
entry kind first second = record { kind = kind; first = first; second = second }

-- an entry that holds a place in the text
abbrev pub placed : ℕ → Span → Entry
placed kind s = entry kind s.start s.end

-- ---- operands and literals

-- `has`, by its root
abbrev pub has_kind : Root → ℕ
has_kind Principal = has_principal_kind
has_kind Resource = has_resource_kind
has_kind Env = has_env_kind
has_kind Action = has_action_kind

-- a literal: a string and a number by their places
unfoldable pub literal_entry : Literal → Entry
literal_entry (text s) = placed string_kind s
literal_entry (number s) = placed number_kind s
literal_entry (truth true) = entry true_kind 0 0
literal_entry (truth false) = entry false_kind 0 0

-- an operand: an attribute by its root and its path's place, or a literal
unfoldable pub operand_entry : Operand → Entry
operand_entry (attribute root s) = placed (root_byte root) s
operand_entry (literal l) = literal_entry l

-- the literals of a list
abbrev pub literal_entries : List Literal → List Entry
literal_entries ls = map literal_entry ls

-- `==`, `!=`, `>`, `>=`, `<`, `<=`
abbrev pub comparator_kind : Comparator → ℕ
comparator_kind Equal = equal_kind
comparator_kind NotEqual = not_equal_kind
comparator_kind More = more_kind
comparator_kind AtLeast = at_least_kind
comparator_kind Less = less_kind
comparator_kind AtMost = at_most_kind

-- containsAll, containsAny
abbrev pub which_kind : Which → ℕ
which_kind All = contains_all_kind
which_kind Any = contains_any_kind

-- ---- conditions

-- a node after its two parts: it says where the second begins
abbrev pub joint : ℕ → ℕ → List Entry → (ℕ → List Entry) → List Entry
joint kind e left right = (left ++ right (e + length left)) ++ entry kind (e + length left) 0 ∷ []

-- a node after its three parts: it says where the second and the third begin
abbrev pub fork : ℕ → List Entry → (ℕ → List Entry) → (ℕ → List Entry) → List Entry
fork e a b c = let f = e + length a in let g = f + length (b f) in ((a ++ b f) ++ c g) ++ entry if_kind f g ∷ []

-- the entries of a condition whose first is number e
unfoldable pub tree_entries : ℕ → Tree → List Entry
tree_entries e (constant true) = entry true_kind 0 0 ∷ []
tree_entries e (constant false) = entry false_kind 0 0 ∷ []
tree_entries e (compare c a b) = operand_entry a ∷ operand_entry b ∷ entry (comparator_kind c) 0 0 ∷ []
tree_entries e (like a s) = operand_entry a ∷ placed like_kind s ∷ []
tree_entries e (among a ls) = (operand_entry a ∷ literal_entries ls) ++ entry in_list_kind (length ls) 0 ∷ []
tree_entries e (within a root s) = operand_entry a ∷ placed (root_byte root) s ∷ entry in_attribute_kind 0 0 ∷ []
tree_entries e (contains w root s ls) = (placed (root_byte root) s ∷ literal_entries ls) ++ entry (which_kind w) (length ls) 0 ∷ []
tree_entries e (has root s) = placed (has_kind root) s ∷ []
tree_entries e (not t) = tree_entries e t ++ entry not_kind 0 0 ∷ []
tree_entries e (brackets t) = tree_entries e t ++ entry brackets_kind 0 0 ∷ []
tree_entries e (both l r) = joint and_kind e (tree_entries e l) (λ f. tree_entries f r)
tree_entries e (either l r) = joint or_kind e (tree_entries e l) (λ f. tree_entries f r)
tree_entries e (choice a b c) = fork e (tree_entries e a) (λ f. tree_entries f b) (λ f. tree_entries f c)

-- ---- policies

-- a principal or resource part: bare, with a type's number, with a string's place
unfoldable pub part_entry : Part → Entry
part_entry any = entry bare_part_kind 0 0
part_entry (typed k) = entry typed_part_kind k 0
part_entry (pinned s) = placed pinned_part_kind s

-- an entry whose kind is so much higher
unfoldable pub raised : ℕ → Entry → Entry
raised step x = entry (x.kind + step) x.first x.second

-- how much higher the kind of a principal part is under a version
unfoldable pub step_of : Version → ℕ
step_of First = 0
step_of Second = second_step

-- a principal part, which records the version by its kind
unfoldable pub principal_entry : Version → Part → Entry
principal_entry version p = raised (step_of version) (part_entry p)

-- an action part: bare, or its strings and how many they are
unfoldable pub action_entries : Actions → List Entry
action_entries every = entry bare_action_kind 0 0 ∷ []
action_entries (one_of ls) = literal_entries ls ++ entry listed_action_kind (length ls) 0 ∷ []

-- a policy's condition, if it has one
unfoldable pub condition_entries : ℕ → Option Tree → List Entry
condition_entries e none = []
condition_entries e (some t) = tree_entries e t

-- permit, forbid
unfoldable pub effect_kind : Bool → ℕ
effect_kind true = permit_kind
effect_kind false = forbid_kind

-- a policy's target: its principal, action and resource parts
unfoldable pub target_entries : Version → Policy → List Entry
target_entries version p = (principal_entry version p.principal ∷ action_entries p.action) ++ part_entry p.resource ∷ []

-- a policy's own entry after its target and its condition: where the policy begins, and where its condition does
abbrev pub policy_end : ℕ → Bool → List Entry → (ℕ → List Entry) → List Entry
policy_end e permits target condition = (target ++ condition (e + length target)) ++ entry (effect_kind permits) e (e + length target) ∷ []

-- the entries of a policy whose first is number e
unfoldable pub policy_entries : Version → ℕ → Policy → List Entry
policy_entries version e p = policy_end e p.permits (target_entries version p) (λ f. condition_entries f p.condition)

-- entries from number e on, and those of the rest, which go by the number after them
abbrev pub and_then : ℕ → List Entry → (ℕ → List Entry) → List Entry
and_then e first rest = first ++ rest (e + length first)

-- the entries of policies of which the first begins at number e
unfoldable pub policies_entries : Version → ℕ → List Policy → List Entry
policies_entries version e [] = []
policies_entries version e (p ∷ ps) = and_then e (policy_entries version e p) (λ f. policies_entries version f ps)
