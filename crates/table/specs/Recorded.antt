-- The version that a table records: its first entry is a principal part, whose kind tells it (docs/TABLE.md). Definitions only.
use Rattle.std.specs.Prelude.{Bool, cond, List, ℕ, ◌-◌, ltb}
use Rattle.grammar.specs.declared.Version.{Version}
use Rattle.grammar.specs.declared.Version.TheVariants.{First, Second}
use Rattle.table.specs.declared.Entry.{Entry}
use Rattle.table.specs.Kinds.{forbid_kind, second_step}
use Rattle.table.specs.Entries.{entry}
use Rattle.table.specs.Layout.{entry_at}

-- an entry has a kind that only version 2 writes: that of a principal part
abbrev pub of_second : Entry → Bool
of_second x = ltb forbid_kind x.kind

-- the version of a principal part, by its entry; an accessor `at` gives each entry by its number
unfoldable pub recorded_by : (ℕ → Entry) → Version
recorded_by at = cond (of_second (at 0)) Second First

-- the same of a table, whose accessor is `entry_at table`
abbrev pub recorded : List ℕ → Version
recorded table = recorded_by (entry_at table)

-- the entry of a principal part as it is under version 1
unfoldable pub lowered : Entry → Entry
lowered x = cond (of_second x) (entry (x.kind - second_step) x.first x.second) x
