-- Entries from which a condition, or policies, can be evaluated one by one: what is read back is stored there and lies in the text.
-- An accessor `at` gives each entry by its number, and there are `many` of them. Definitions only.
use Rattle.std.specs.Prelude.{◌≡◌, List, [], ◌∷◌, ◌++◌, ℕ, ◌+◌, ◌-◌, ◌≤◌, ◌<◌}
use Rattle.placing.specs.Placed.{Each, TreePlaced, PolicyPlaced}
use Rattle.table.specs.declared.Entry.{Entry}
use Rattle.table.specs.Kinds.{has_principal_kind, equal_kind, at_most_kind, like_kind, in_list_kind, in_attribute_kind, contains_all_kind, contains_any_kind, not_kind, and_kind, if_kind}
use Rattle.table.specs.Layout.{entry_at, entries_in, field_numbers}
use Rattle.stored.specs.Stored.{Stored, StoredPolicies}
use Rattle.stored.specs.ReadBack.{tree_from, tree_by, policy_by, policies_by}

-- a condition of the text ends before entry number `end`
pub record ReadyBy (text : List ℕ) (at : ℕ → Entry) (many end : ℕ) : Type 0 where
  pub stored : Stored at end (tree_by at end)
  pub placed : TreePlaced text (tree_by at end)
  pub here : end ≤ many

-- one of its parts
pub record PartReadyBy (text : List ℕ) (at : ℕ → Entry) (many end part : ℕ) : Type 0 where
  pub ready : ReadyBy text at many part
  pub falls : part < end

-- What stands before the entry x, number end - 1: both operands of a comparator, those of `in` an attribute, the one of `like`, and a list with its owner.
pub record Room (end : ℕ) (x : Entry) : Type 0 where
  pub compared : equal_kind ≤ x.kind → x.kind ≤ at_most_kind → 3 ≤ end
  pub like : x.kind ≡ like_kind → 2 ≤ end
  pub among : x.kind ≡ in_list_kind → x.first + 2 ≤ end
  pub within : x.kind ≡ in_attribute_kind → 3 ≤ end
  pub contains : contains_all_kind ≤ x.kind → x.kind ≤ contains_any_kind → x.first + 2 ≤ end

-- The last part of `!`, brackets, `&&`, `||` and `if`; the left part of `&&` and `||`, and what `if` asks; the then-part of `if`.
pub record PartsBy (text : List ℕ) (at : ℕ → Entry) (many end : ℕ) (x : Entry) : Type 0 where
  pub last : not_kind ≤ x.kind → PartReadyBy text at many end (end - 1)
  pub left : and_kind ≤ x.kind → PartReadyBy text at many end x.first
  pub middle : x.kind ≡ if_kind → PartReadyBy text at many end x.second

-- what the condition's last entry x, number end - 1, says; it is there, and all before it
pub record NodeBy (text : List ℕ) (at : ℕ → Entry) (many end : ℕ) (x : Entry) : Type 0 where
  pub is : tree_by at end ≡ tree_from (tree_by at) at end x
  pub placed : TreePlaced text (tree_from (tree_by at) at end x)
  pub some : 0 < end
  pub few : end < field_numbers
  pub here : end ≤ many
  pub low : has_principal_kind ≤ x.kind
  pub high : x.kind ≤ if_kind
  pub room : Room end x
  pub parts : PartsBy text at many end x

-- policies of the text end before entry number `end`
pub record PoliciesReadyBy (text : List ℕ) (at : ℕ → Entry) (many end : ℕ) : Type 0 where
  pub stored : StoredPolicies at end (policies_by at end)
  pub placed : Each (PolicyPlaced text) (policies_by at end)
  pub here : end ≤ many

-- What the last policy's last entry x, number end - 1, says; it is there, and all before it; its action part's last entry says how many strings stand
-- before that one.
pub record LastBy (text : List ℕ) (at : ℕ → Entry) (many end : ℕ) (x : Entry) : Type 0 where
  pub is : policies_by at end ≡ policies_by at x.first ++ policy_by at end x ∷ []
  pub placed : PolicyPlaced text (policy_by at end x)
  pub begins : x.first + 3 ≤ x.second
  pub ends : x.second < end
  pub listed : (at (x.second - 2)).first + 2 ≤ x.second
  pub few : end < field_numbers
  pub here : end ≤ many
  pub before : PoliciesReadyBy text at many x.first
  pub condition : x.second < end - 1 → ReadyBy text at many (end - 1)

-- ---- the same of a table, whose accessor is `entry_at table`

-- a condition of the text ends before entry number `end`
abbrev pub Ready : List ℕ → List ℕ → ℕ → Type 0
Ready text table end = ReadyBy text (entry_at table) (entries_in table) end

-- one of its parts
abbrev pub ReadyPart : List ℕ → List ℕ → ℕ → ℕ → Type 0
ReadyPart text table end part = PartReadyBy text (entry_at table) (entries_in table) end part

-- what the condition's last entry x, number end - 1, says
abbrev pub Node : List ℕ → List ℕ → ℕ → Entry → Type 0
Node text table end x = NodeBy text (entry_at table) (entries_in table) end x

-- policies of the text end before entry number `end`
abbrev pub ReadyPolicies : List ℕ → List ℕ → ℕ → Type 0
ReadyPolicies text table end = PoliciesReadyBy text (entry_at table) (entries_in table) end

-- what the last policy's last entry x, number end - 1, says
abbrev pub Last : List ℕ → List ℕ → ℕ → Entry → Type 0
Last text table end x = LastBy text (entry_at table) (entries_in table) end x
