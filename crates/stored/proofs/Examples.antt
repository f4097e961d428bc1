-- The worked example of docs/TABLE.md, whose text says its policy (placing, Examples.antt): the policy's entries under each version, and that policy and
-- version are read back from their bytes. Assumes nothing.
use mathlib.Core.Path.{◌≡◌, refl}
use mathlib.Core.List.{List, [], ◌∷◌}
use Prim.Native.Nat.{ℕ}
use Rattle.grammar.specs.declared.Version.TheVariants.{First, Second}
use Rattle.table.specs.declared.Entry.{Entry}
use Rattle.table.specs.Entries.{entry, policies_entries}
use Rattle.table.specs.Layout.{bytes_of}
use Rattle.table.specs.Recorded.{recorded}
use Rattle.stored.specs.ReadBack.{root_of_kind, literal_of_entry, operand_of_entry, comparator_of_kind, literals_by, tree_from, tree_in, part_of_entry, actions_by, condition_by, policy_by, policies_up_to, policies_at}
use Rattle.placing.proofs.Examples.{policy}
use Rattle.table.proofs.Opened.{table_opened}

-- the entries, the first of them of this kind: it alone records the version
abbrev entries : ℕ → List Entry
entries first =
    entry first 1 0 ∷ entry 9 39 46 ∷ entry 33 1 0 ∷ entry 30 2 0 ∷ entry 1 87 92 ∷ entry 10 96 97 ∷ entry 16 0 0 ∷ entry 5 117 121 ∷ entry 25 0 0
    ∷ entry 24 0 0 ∷ entry 26 7 0 ∷ entry 34 0 4 ∷ []

pub table_written : (policies_entries First 0 (policy ∷ []) ≡ entries 30) × (policies_entries Second 0 (policy ∷ []) ≡ entries 37)
unfolding table_opened
table_written = (refl, refl)

pub table_read : (policies_at (bytes_of (entries 30)) 12 ≡ policy ∷ []) × (policies_at (bytes_of (entries 37)) 12 ≡ policy ∷ [])
unfolding table_opened root_of_kind literal_of_entry operand_of_entry comparator_of_kind literals_by tree_from tree_in part_of_entry actions_by condition_by policy_by policies_up_to
table_read = (refl, refl)

pub version_read : (recorded (bytes_of (entries 30)) ≡ First) × (recorded (bytes_of (entries 37)) ≡ Second)
unfolding table_opened
version_read = (refl, refl)
