-- What `read_all` tells of a whole text under a version, by what the text's tokens say (p). Definitions only.
use Rattle.std.specs.Prelude.{◌≡◌, Bool, true, List, [], ℕ, ◌≤◌, length, Result, Ok, Err}
use Rattle.tokens.specs.Sizes.{most_policies}
use Rattle.reading.specs.Reader as reader
use Rattle.reading.specs.Reader.{took}
use Rattle.grammar.specs.Policies.{Policy}
use Rattle.grammar.specs.declared.Version.{Version}
use Rattle.table.specs.Entries.{policies_entries}
use Rattle.table.specs.Layout.{puts}
use Rattle.parts.specs.Answers.{TurnedAway, EntriesCounted}
use Rattle.parts.specs.declared.answers.Refusal.{Refusal}
use Rattle.policies.specs.declared.Whole.{Whole}

-- all its policies: how many, their entries counted and compared, and put into the table; no more entries than the text has bytes
pub record Complete (version : Version) (text seen old new : List ℕ) (p : reader.Answer (List Policy)) (policies free : ℕ) (ok : Bool) : Type 0 where
  pub value : List Policy
  pub is : p ≡ took value []
  pub many : policies ≡ length value
  pub few : policies ≤ most_policies
  pub room : free ≤ length text
  pub counted : EntriesCounted seen (policies_entries version 0 value) 0 true free ok
  pub stored : new ≡ puts old 0 (policies_entries version 0 value)

-- a text with so many policies and entries, which the table that is seen has or has not
abbrev pub whole : ℕ → ℕ → Bool → Result Whole Refusal
whole policies entries same = Ok (record { policies = policies; entries = entries; same = same })

-- what is told: all the policies, or the refusal of a token
pub data Told (version : Version) (text seen old new : List ℕ) (p : reader.Answer (List Policy)) : Result Whole Refusal → Type 0 where
  complete : {policies free : ℕ} {ok : Bool} → Complete version text seen old new p policies free ok
      → Told version text seen old new p (whole policies free ok)
  lost : {f : Refusal} → TurnedAway text p f → Told version text seen old new p (Err f)
