-- How requests are lent to the tally, and when its call gets which refusal. What it counts stands on the desk's page. Definitions only.
use Rattle.std.specs.Prelude.{◌≡◌, ◌↔◌, true, List, [], ◌∷◌, ◌++◌, ℕ, zero, suc, ◌≤◌, ◌<◌, length}
use Rattle.compiling_promise.specs.Promise.{Begun}
use Rattle.bags.specs.Forms.{Contents}
use Rattle.questions.specs.Forms.{Column, QuestionBytes, NoQuestion}
use Rattle.meaning.specs.Targets.{Request, is_system}
use Rattle.targets.specs.Matching.{request}
use Rattle.deciding.specs.Promise.{Wellformed, RequestRefused}
use Rattle.tallies.specs.Tallies.{tally_refusal, group_count}

-- what a call for a tally is lent and told: rule text and table, question, how many requests, their bytes, and the counts
pub record TallyCall : Type 0 where
  pub text : List ℕ
  pub table : List ℕ
  pub question : List ℕ
  pub many : ℕ
  pub requests : List ℕ
  pub counts : List ℕ

-- ---- how requests are lent

-- at the start of the bytes stands a part behind its length byte; behind it stands the rest. What is not wholly there is empty, and so is all behind it
pub data PartLent : List ℕ → List ℕ → List ℕ → Type 0 where
  whole : {part rest : List ℕ} → PartLent (length part ∷ part ++ rest) part rest
  missing : {bytes : List ℕ} → ((part rest : List ℕ) → bytes ≡ length part ∷ part ++ rest → ⊥) → PartLent bytes [] []

-- so many requests: subject, action and resource of each
pub data Lent : ℕ → List ℕ → List Request → Type 0 where
  none : {bytes : List ℕ} → Lent zero bytes []
  more : {n : ℕ} {bytes subject behind action behind' resource rest : List ℕ} {qs : List Request} → PartLent bytes subject behind
      → PartLent behind action behind' → PartLent behind' resource rest → Lent n rest qs → Lent (suc n) bytes (request subject action resource ∷ qs)

-- ---- refusals

-- nothing is refused of a request: it is the system's, or it is well-formed and the table is the text's
pub data Passes (text table : List ℕ) (q : Request) : Type 0 where
  the_system : is_system q.subject ≡ true → Passes text table q
  none_wrong : Wellformed q → Begun text table → Passes text table q

-- the refusals of the requests in turn: the first refused request refuses the tally; 0 where none is refused
pub data FirstRefused (text table : List ℕ) : List Request → ℕ → Type 0 where
  none_refused : FirstRefused text table [] 0
  passed : {q : Request} {qs : List Request} {number : ℕ} → Passes text table q → FirstRefused text table qs number → FirstRefused text table (q ∷ qs) number
  bad_request : {q : Request} {qs : List Request} {number : ℕ} → RequestRefused q number → FirstRefused text table (q ∷ qs) number
  not_compiled : {q : Request} {qs : List Request} → Wellformed q → (Begun text table → ⊥) → FirstRefused text table (q ∷ qs) 20

-- When a call gets which refusal number; 0 where it gets none.
pub data TallyRefused (c : TallyCall) : ℕ → Type 0 where
  no_request : c.many ≡ 0 → TallyRefused c 27
  too_many : group_count < c.many → TallyRefused c 27
  no_question : 1 ≤ c.many → c.many ≤ group_count → NoQuestion c.question → TallyRefused c 24
  by_request : {base : Contents} {columns : List Column} {qs : List Request} {number : ℕ} → 1 ≤ c.many → c.many ≤ group_count
      → QuestionBytes c.question base columns → Lent c.many c.requests qs → FirstRefused c.text c.table qs number → TallyRefused c number

-- Each refusal is given exactly when document 02 says.
unfoldable pub TallyRefusedExactly : Type 0
TallyRefusedExactly = (c : TallyCall) (number : ℕ)
    → (tally_refusal c.text c.table c.question c.many c.requests ≡ number) ↔ TallyRefused c number

-- Bytes lend one list of so many requests.
unfoldable pub OneLent : Type 0
OneLent = (n : ℕ) (bytes : List ℕ) → (qs : List Request) × Lent n bytes qs × ((others : List Request) → Lent n bytes others → others ≡ qs)
