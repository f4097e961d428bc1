-- One word for proofs that compute: who unfolds it sees through the entries of policies and their bytes. Assumes nothing.
use Rattle.table.specs.Entries.{tree_entries, literal_entry, operand_entry, part_entry, raised, step_of, principal_entry, action_entries, condition_entries, effect_kind, target_entries, policy_entries, policies_entries}
use Rattle.table.specs.Layout.{entry_bytes, bytes_of, starts_with, entry_at}
use Rattle.table.specs.Recorded.{recorded_by, lowered}

unfoldable pub table_opened : Unit {0}
unfolding tree_entries literal_entry operand_entry part_entry raised step_of principal_entry action_entries condition_entries effect_kind target_entries policy_entries policies_entries entry_bytes bytes_of starts_with entry_at recorded_by lowered
table_opened = tt
