-- Requests as contracts name them, and what an action part's last entry asks. Definitions only.
use Rattle.std.specs.Prelude.{◌≡◌, List, ℕ, ◌+◌, ◌≤◌}
use Rattle.placing.specs.Placed.{ActionsPlaced}
use Rattle.table.specs.declared.Entry.{Entry}
use Rattle.table.specs.Layout.{entries_in}
use Rattle.stored.specs.ReadBack.{actions_of}
use Rattle.grammar.specs.Rules.{principal_types, resource_types}
use Rattle.meaning.specs.Targets.{Request, type_in}
use Rattle.targets.specs.declared.Types.{Types}

-- a request of these three
abbrev pub request : List ℕ → List ℕ → List ℕ → Request
request subject action resource = record { subject = subject; action = action; resource = resource }

-- the types of a request's subject and resource, by their numbers
pub record TypesOf (types : Types) (subject resource : List ℕ) : Type 0 where
  pub subject_type : types.subject ≡ type_in principal_types subject
  pub resource_type : types.resource ≡ type_in resource_types resource

-- the action part of which x is the last entry, number end - 1, which the table has: its strings stand before x and lie in the text
pub record ActionsAt (text table : List ℕ) (end : ℕ) (x : Entry) : Type 0 where
  pub placed : ActionsPlaced text (actions_of table end x)
  pub room : x.first + 1 ≤ end
  pub here : end ≤ entries_in table
