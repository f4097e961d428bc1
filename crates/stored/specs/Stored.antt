-- Entries that say a condition or some policies, and what is found by the last of them. An accessor `at` gives each entry by its number. Definitions only.
use Rattle.std.specs.Prelude.{◌≡◌, true, false, List, [], ◌∷◌, ◌++◌, ℕ, ◌+◌, ◌-◌, ◌≤◌, ◌<◌, length}
use Rattle.std.proofs.Math.Option.{Option, none, some}
use Rattle.tokens.specs.Sizes.{most_text_bytes}
use Rattle.reading.specs.Lexemes.{tokens_of}
use Rattle.reading.specs.Reader.{took}
use Rattle.grammar.specs.Parser.{read_text}
use Rattle.grammar.specs.Policies.{Span, Root, root_byte, Comparator, Literal, Operand, Which, Tree, constant, compare, like, among, within, contains, has, not, brackets, both, either, choice, Actions, every, one_of, Policy}
use Rattle.grammar.specs.declared.Version.{Version}
use Rattle.table.specs.declared.Entry.{Entry}
use Rattle.table.specs.Kinds.{true_kind, false_kind, like_kind, in_list_kind, in_attribute_kind, not_kind, brackets_kind, and_kind, or_kind, if_kind, bare_action_kind, listed_action_kind}
use Rattle.table.specs.Entries.{entry, placed, has_kind, literal_entries, operand_entry, comparator_kind, which_kind, tree_entries, part_entry, effect_kind, principal_entry, policy_entries, policies_entries}
use Rattle.table.specs.Layout.{field_numbers}

-- a text of at most 8,192 bytes that says these policies
pub record TextSays (text : List ℕ) (ps : List Policy) : Type 0 where
  pub short : length text ≤ most_text_bytes
  pub read : read_text (tokens_of text) ≡ took ps []

-- these entries stand from number e on
pub data StandFrom (at : ℕ → Entry) : ℕ → List Entry → Type 0 where
  none_left : {e : ℕ} → StandFrom at e []
  one_more : {e : ℕ} {x : Entry} {es : List Entry} → at e ≡ x → StandFrom at (e + 1) es → StandFrom at e (x ∷ es)

-- they stand from number `first` on and end before number `end`, which fits into a field
pub record EntriesStand (at : ℕ → Entry) (first end : ℕ) (es : List Entry) : Type 0 where
  pub from : StandFrom at first es
  pub ends : end ≡ first + length es
  pub few : end < field_numbers

-- a condition's entries end before number `end`
pub record Stored (at : ℕ → Entry) (end : ℕ) (t : Tree) : Type 0 where
  pub first : ℕ
  pub stands : EntriesStand at first end (tree_entries first t)

-- A condition by its last entry, number end - 1: what stands before it, and where its parts end.
pub data TreeByLast (at : ℕ → Entry) (end : ℕ) : Tree → Entry → Type 0 where
  is_true : TreeByLast at end (constant true) (entry true_kind 0 0)
  is_false : TreeByLast at end (constant false) (entry false_kind 0 0)
  is_comparison : {c : Comparator} {a b : Operand} {k : ℕ} → k ≡ comparator_kind c → 3 ≤ end → at (end - 3) ≡ operand_entry a → at (end - 2) ≡ operand_entry b
      → TreeByLast at end (compare c a b) (entry k 0 0)
  is_like : {a : Operand} {s : Span} → 2 ≤ end → at (end - 2) ≡ operand_entry a → TreeByLast at end (like a s) (placed like_kind s)
  is_among : {a : Operand} {ls : List Literal} → length ls + 2 ≤ end → at (end - length ls - 2) ≡ operand_entry a
      → StandFrom at (end - length ls - 1) (literal_entries ls) → TreeByLast at end (among a ls) (entry in_list_kind (length ls) 0)
  is_within : {a : Operand} {root : Root} {s : Span} → 3 ≤ end → at (end - 3) ≡ operand_entry a → at (end - 2) ≡ placed (root_byte root) s
      → TreeByLast at end (within a root s) (entry in_attribute_kind 0 0)
  is_contains : {w : Which} {root : Root} {s : Span} {ls : List Literal} {k : ℕ} → k ≡ which_kind w → length ls + 2 ≤ end
      → at (end - length ls - 2) ≡ placed (root_byte root) s → StandFrom at (end - length ls - 1) (literal_entries ls)
      → TreeByLast at end (contains w root s ls) (entry k (length ls) 0)
  is_has : {root : Root} {s : Span} {k : ℕ} → k ≡ has_kind root → TreeByLast at end (has root s) (placed k s)
  is_not : {t : Tree} → Stored at (end - 1) t → TreeByLast at end (not t) (entry not_kind 0 0)
  is_brackets : {t : Tree} → Stored at (end - 1) t → TreeByLast at end (brackets t) (entry brackets_kind 0 0)
  is_both : {l r : Tree} {m : ℕ} → m < end → Stored at m l → Stored at (end - 1) r → TreeByLast at end (both l r) (entry and_kind m 0)
  is_either : {l r : Tree} {m : ℕ} → m < end → Stored at m l → Stored at (end - 1) r → TreeByLast at end (either l r) (entry or_kind m 0)
  is_choice : {c a b : Tree} {m n : ℕ} → m < end → n < end → Stored at m c → Stored at n a → Stored at (end - 1) b
      → TreeByLast at end (choice c a b) (entry if_kind m n)

-- ---- policies

-- some policies' entries, under some version, end before number `end`
pub record StoredPolicies (at : ℕ → Entry) (end : ℕ) (ps : List Policy) : Type 0 where
  pub version : Version
  pub stands : EntriesStand at 0 end (policies_entries version 0 ps)

-- one policy's
pub record StoredPolicy (at : ℕ → Entry) (end : ℕ) (p : Policy) : Type 0 where
  pub version : Version
  pub first : ℕ
  pub stands : EntriesStand at first end (policy_entries version first p)

-- an action part by its last entry, number end - 1: its strings before it
pub data ActionByLast (at : ℕ → Entry) (end : ℕ) : Actions → Entry → Type 0 where
  is_every : ActionByLast at end every (entry bare_action_kind 0 0)
  is_one_of : {ls : List Literal} → length ls + 1 ≤ end → StandFrom at (end - length ls - 1) (literal_entries ls)
      → ActionByLast at end (one_of ls) (entry listed_action_kind (length ls) 0)

-- a condition between two numbers of entries, or none
pub data ConditionBetween (at : ℕ → Entry) (first end : ℕ) : Option Tree → Type 0 where
  no_condition : first ≡ end → ConditionBetween at first end none
  a_condition : {t : Tree} → first < end → Stored at end t → ConditionBetween at first end (some t)

-- A policy by its last entry, number end - 1, which says where the policy begins and where its condition does.
pub record PolicyByLast (at : ℕ → Entry) (end : ℕ) (p : Policy) (x : Entry) : Type 0 where
  pub version : Version
  pub kind : x.kind ≡ effect_kind p.permits
  pub begins : x.first + 3 ≤ x.second
  pub ends : x.second < end
  pub principal : at x.first ≡ principal_entry version p.principal
  pub action : ActionByLast at (x.second - 1) p.action (at (x.second - 2))
  pub resource : at (x.second - 1) ≡ part_entry p.resource
  pub condition : ConditionBetween at x.second (end - 1) p.condition

-- Some policies by their last entry, number end - 1: the last policy, and those before it, which end where it begins.
pub record LastPolicy (at : ℕ → Entry) (end : ℕ) (ps : List Policy) : Type 0 where
  pub front : List Policy
  pub last : Policy
  pub is : ps ≡ front ++ last ∷ []
  pub policy : PolicyByLast at end last (at (end - 1))
  pub before : StoredPolicies at (at (end - 1)).first front
