-- Which condition is read back from an entry, by its kind. Assumes nothing.
use mathlib.Core.Path.{◌≡◌}
use Prim.Native.Nat.{ℕ, ◌-◌, ◌≤◌}
use native.Mathlib.Omega.{arith}
use borrow.Author.Tests.{le-leb, lt-leb}
use Rattle.grammar.specs.Policies.{Which.All, Which.Any, Tree, compare, like, among, within, contains, has, not, brackets, both, either, choice}
use Rattle.table.specs.declared.Entry.{Entry}
use Rattle.stored.specs.ReadBack.{span_of_entry, root_of_kind, operand_of_entry, comparator_of_kind, list_by, owner_by, tree_from}

module _ (part : ℕ → Tree) (at : ℕ → Entry) (end : ℕ) (x : Entry) where
  pub as_has : x.kind ≤ 8 → tree_from part at end x ≡ has (root_of_kind (x.kind - 4)) (span_of_entry x)
  unfolding tree_from
  as_has h = rw (le-leb x.kind 8 h)

  pub as_compare : 13 ≤ x.kind → x.kind ≤ 18
      → tree_from part at end x ≡ compare (comparator_of_kind x.kind) (operand_of_entry (at (end - 3))) (operand_of_entry (at (end - 2)))
  unfolding tree_from
  as_compare l h = rw (lt-leb x.kind 8 (omega arith), lt-leb x.kind 12 (omega arith), le-leb x.kind 18 h)

  pub as_like : x.kind ≡ 19 → tree_from part at end x ≡ like (operand_of_entry (at (end - 2))) (span_of_entry x)
  unfolding tree_from
  as_like e = rw e

  pub as_among : x.kind ≡ 20 → tree_from part at end x ≡ among (operand_of_entry (owner_by at end x)) (list_by at end x)
  unfolding tree_from
  as_among e = rw e

  pub as_within : x.kind ≡ 21
      → tree_from part at end x ≡ within (operand_of_entry (at (end - 3))) (root_of_kind (at (end - 2)).kind) (span_of_entry (at (end - 2)))
  unfolding tree_from
  as_within e = rw e

  pub as_contains_all : x.kind ≡ 22 → tree_from part at end x ≡ contains All (root_of_kind (owner_by at end x).kind) (span_of_entry (owner_by at end x)) (list_by at end x)
  unfolding tree_from
  as_contains_all e = rw e

  pub as_contains_any : x.kind ≡ 23 → tree_from part at end x ≡ contains Any (root_of_kind (owner_by at end x).kind) (span_of_entry (owner_by at end x)) (list_by at end x)
  unfolding tree_from
  as_contains_any e = rw e

  pub as_not : x.kind ≡ 24 → tree_from part at end x ≡ not (part (end - 1))
  unfolding tree_from
  as_not e = rw e

  pub as_brackets : x.kind ≡ 25 → tree_from part at end x ≡ brackets (part (end - 1))
  unfolding tree_from
  as_brackets e = rw e

  pub as_both : x.kind ≡ 26 → tree_from part at end x ≡ both (part x.first) (part (end - 1))
  unfolding tree_from
  as_both e = rw e

  pub as_either : x.kind ≡ 27 → tree_from part at end x ≡ either (part x.first) (part (end - 1))
  unfolding tree_from
  as_either e = rw e

  pub as_choice : x.kind ≡ 28 → tree_from part at end x ≡ choice (part x.first) (part x.second) (part (end - 1))
  unfolding tree_from
  as_choice e = rw e
