-- What the code that writes a page has in hand. Definitions only.
use Rattle.std.specs.Prelude.{◌≡◌, List, ℕ, ◌≤◌, ◌<◌, length}
use Rattle.tokens.specs.Sizes.{most_policies}
use Rattle.bags.specs.declared.sections.Sections.{Sections}
use Rattle.questions.specs.Questions.{Question}
use Rattle.stored.specs.ReadBack.{policies_at}
use Rattle.stored.specs.Ready.{ReadyPolicies}
use Rattle.questions.specs.Sizes.{most_question_bytes, most_rows}
use Rattle.meaning.specs.Targets.{Request, is_system}
use Rattle.targets.specs.Matching.{TypesOf}
use Rattle.targets.specs.declared.Types.{Types}
use Rattle.depths.specs.Looks.{Aims}
use Rattle.kept.specs.declared.Walk.{Walk}
use Rattle.turns.specs.Turns.{Walked}
use Rattle.sheets.specs.Sheets.{rows_in}
use Rattle.sheets.specs.declared.writing.Rules.{Rules}

-- a question with so many rows, and a start row that is not above their number
pub record Asked (s : List ℕ) (p : Sections) (all start : ℕ) : Type 0 where
  pub question : Question s p
  pub short : length s ≤ most_question_bytes
  pub all_rows : all ≡ rows_in s p
  pub few : all ≤ most_rows
  pub within : start ≤ all

-- The rules for a subject: at most 64 policies that can be evaluated, and, where there are any, the types of subject and resource.
pub record RulesFor (rules : Rules) (text table subject resource : List ℕ) (types : Types) : Type 0 where
  pub whose : rules.system ≡ is_system subject
  pub ready : ReadyPolicies text table rules.entries
  pub many : rules.policies ≡ length (policies_at table rules.entries)
  pub few : rules.policies ≤ most_policies
  pub typed : 0 < rules.entries → TypesOf types subject resource

-- a walk over the rows of such a question
pub record RowsAsked (text table s : List ℕ) (w : Walk) (starts : List ℕ) (grid : List (List ℕ)) (ends looks : List ℕ) (all start : ℕ) : Type 0 where
  pub asked : Asked s w.p all start
  pub walked : Walked text table s w starts grid ends looks

-- it is for this request
pub record WalkFor (text table : List ℕ) (w : Walk) (looks action : List ℕ) (q : Request) : Type 0 where
  pub acts : q.action ≡ action
  pub whose : w.system ≡ is_system q.subject
  pub aims : Aims text q (policies_at table w.entries) looks

-- it is for some request
pub record WalkForSome (text table : List ℕ) (w : Walk) (looks action : List ℕ) : Type 0 where
  pub q : Request
  pub walk_for : WalkFor text table w looks action q
