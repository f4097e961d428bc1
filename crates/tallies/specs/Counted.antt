-- What the code that counts has in hand. Definitions only.
use Rattle.std.specs.Prelude.{◌≡◌, List, ℕ, ◌≤◌, ◌<◌, length, get_or}
use Rattle.bags.specs.declared.sections.Sections.{Sections}
use Rattle.table.specs.Recorded.{recorded}
use Rattle.stored.specs.ReadBack.{policies_at}
use Rattle.stored.specs.Ready.{ReadyPolicies}
use Rattle.placing.specs.Said.{words_of}
use Rattle.meaning.specs.Targets.{Request}
use Rattle.pages.specs.Tally.{tally_of}
use Rattle.turns.specs.Turns.{Laid}
use Rattle.sheets.specs.Sheets.{decision_at}
use Rattle.sheets.specs.Asked.{Asked}
use Rattle.tallies.specs.declared.counting.Asking.{Asking}

-- at most 64 policies that can be evaluated
pub record RulesHeld (text table : List ℕ) (policies entries : ℕ) : Type 0 where
  pub ready : ReadyPolicies text table entries
  pub many : policies ≡ length (policies_at table entries)
  pub few : policies ≤ 64

-- a question with so many rows, the places of its columns and candidates, and the rules
pub record Surveyed (text table s : List ℕ) (a : Asking) (starts : List ℕ) (grid : List (List ℕ)) (ends : List ℕ) : Type 0 where
  pub asked : Asked s a.p a.all 0
  pub laid : Laid s a.p a.n starts grid ends
  pub rules : RulesHeld text table a.policies a.entries

-- the group of a request by the policies of so many entries of the table
abbrev pub counted_by : List ℕ → List ℕ → List ℕ → Sections → ℕ → ℕ → Request → List ℕ
counted_by text table s p entries all q = tally_of (decision_at (recorded table) s p q (words_of text (policies_at table entries))) all

-- by those that it holds
abbrev pub group_by : List ℕ → List ℕ → List ℕ → Asking → Request → List ℕ
group_by text table s a q = counted_by text table s a.p a.entries a.all q

-- no count of eight groups is above the number of rows that a question can have
pub record CountsFew (counts : List ℕ) : Type 0 where
  pub few : (k : ℕ) → k < 544 → get_or counts k 0 ≤ 262144
