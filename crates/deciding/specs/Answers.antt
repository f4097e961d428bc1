-- What is answered to a request over a bag, under the version that the table records (document 01, 'Deciding' and 'Refusal numbers'; document 02, request 7).
-- Definitions only.
use Rattle.meaning.specs.declared.Marked.{Marked}
use Rattle.bags.specs.declared.sections.Sections.{Sections}
use Rattle.std.specs.Prelude.{Bool, cond, not, ◌||◌, List, [], ℕ, eqb, None, Option, Some, Err, Ok, Result}
use Rattle.reading.specs.Reader as reader
use Rattle.reading.specs.Reader.{took, refuse}
use Rattle.grammar.specs.Policies.{PolicyOf, Policy}
use Rattle.table.specs.Recorded.{recorded}
use Rattle.compiling.specs.Outcome.{said, begins_of}
use Rattle.bags.specs.Sections.{sections_of, is_bag}
use Rattle.views.specs.Meaning.{absent, View, look}
use Rattle.views.specs.Values.{base_bag}
use Rattle.placing.specs.Said.{Word, words_of}
use Rattle.meaning.specs.Targets.{Request, is_system, is_subject, is_action, is_resource}
use Rattle.meaning.specs.Decisions.{under, outcome_of, policy_of, policies_marked, marked_of, system_marked}

-- the policies that reading a text gave; none, where it was refused
unfoldable pub policies_in : reader.Answer (List Policy) → List Policy
policies_in (took ps r) = ps
policies_in (refuse n r) = []

-- the policies that a text says
abbrev pub policies_of : List ℕ → List Policy
policies_of text = policies_in (said text)

-- and what they say, wherever it stands in the text
abbrev pub words_in : List ℕ → List (PolicyOf Word)
words_in text = words_of text (policies_of text)

-- the attributes in a bag's sections; none, where there are no such sections
unfoldable pub view_in : List ℕ → Option Sections → View
view_in bag (Some p) = look (base_bag bag p)
view_in bag None = λ root path. absent

-- the attributes that a bag holds
abbrev pub view_of : List ℕ → View
view_of bag = view_in bag (sections_of bag)

-- what the policies decide over these attributes, where the table begins with the bytes that the text compiles to; else refusal 20
unfoldable pub held_decide : List ℕ → List ℕ → View → Request → Result Marked ℕ
held_decide text table view q = cond (begins_of text table) (Ok (policies_marked (under (recorded table) view) q (words_in text))) (Err 20)

-- the answer: the system first, with nothing else looked at; then refusals 21, 22, 23, 24 and 20; else what is decided
unfoldable pub decide_answer : List ℕ → List ℕ → List ℕ → Request → Result Marked ℕ
decide_answer text table bag q =
    cond (is_system q.subject) (Ok system_marked)
    (cond (not (is_subject q.subject)) (Err 21)
    (cond (not (is_action q.action)) (Err 22)
    (cond (not (is_resource q.resource)) (Err 23)
    (cond (not (is_bag bag)) (Err 24)
    (cond (not (begins_of text table)) (Err 20) (Ok (marked_of (under (recorded table) (view_of bag)) q (words_in text))))))))

-- the numbers of an answer: of the refusal, the outcome, the policy and the mark, with 0 for what there is none of
pub record DecideSaid : Type 0 where
  pub refusal : ℕ
  pub outcome : ℕ
  pub policy : ℕ
  pub mark : ℕ

-- what an answer says in these numbers
unfoldable pub decide_said : Result Marked ℕ → DecideSaid
decide_said (Ok m) = record { refusal = 0; outcome = outcome_of m.d; policy = policy_of m.d; mark = m.mark }
decide_said (Err number) = record { refusal = number; outcome = 0; policy = 0; mark = 0 }

-- yes: outcome 1 or 4
unfoldable pub says_yes : Result Marked ℕ → Bool
says_yes a = eqb (decide_said a).outcome 1 || eqb (decide_said a).outcome 4
