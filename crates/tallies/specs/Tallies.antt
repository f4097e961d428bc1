-- What the tally's call answers and leaves in the counts, as functions of all that it is given (document 02, request 1). Definitions only.
use Rattle.std.specs.Prelude.{◌≡◌, Bool, false, cond, ◌&&◌, ◌||◌, List, [], ◌∷◌, ◌++◌, ℕ, zero, suc, ◌+◌, leb, get_or, replicate}
use Rattle.table.specs.Recorded.{recorded}
use Rattle.bags.specs.declared.sections.Sections.{Sections}
use Rattle.questions.specs.Questions.{is_question}
use Rattle.meaning.specs.Targets.{Request, is_system, is_subject, is_action, is_resource}
use Rattle.deciding.specs.Answers.{words_in}
use Rattle.pages.specs.Tally.{group_size, from_on, tally_of}
use Rattle.sheets.specs.Sheets.{rows_in, decision_at, sections_in, request_refusal, unless}
use Rattle.tallies.specs.Lent.{requests_of}
use Rattle.tallies.specs.declared.lent.RequestForm.{RequestForm}

-- ---- refusals

-- what is refused of a request by itself: nothing for the system; else subject, action, resource
unfoldable pub form_refusal : Request → ℕ
form_refusal q =
    cond (is_system q.subject) 0 (cond (is_subject q.subject) (cond (is_action q.action) (cond (is_resource q.resource) 0 23) 22) 21)

-- whether the text and its table are looked at for it
unfoldable pub asks_table : Request → Bool
asks_table q = cond (is_system q.subject) false (is_subject q.subject && is_action q.action && is_resource q.resource)

-- a request's form
abbrev pub form_of : Request → RequestForm
form_of q = record { asks = asks_table q; refusal = form_refusal q }

-- the refusal of the first request that is refused by itself
unfoldable pub first_wrong : List Request → ℕ
first_wrong [] = 0
first_wrong (q ∷ qs) = unless (form_refusal q) (first_wrong qs) (λ n. n)

-- whether the text and its table are looked at for one before it
unfoldable pub some_asks : List Request → Bool
some_asks [] = false
some_asks (q ∷ qs) = asks_table q || unless (form_refusal q) (some_asks qs) (λ _. false)

-- both
abbrev pub forms_of : List Request → RequestForm
forms_of qs = record { asks = some_asks qs; refusal = first_wrong qs }

-- the refusal of the first request that is refused, the text and its table included
unfoldable pub first_refusal : List ℕ → List ℕ → List Request → ℕ
first_refusal text table [] = 0
first_refusal text table (q ∷ qs) = unless (request_refusal text table q) (first_refusal text table qs) (λ n. n)

-- ---- the counts: eight groups, one for each request, and behind them their sums

abbrev pub group_count : ℕ
group_count = 8

-- how many counts these are
abbrev pub counts_size : ℕ
counts_size = 612

-- a group for each request, and zeros for those that were not lent
unfoldable pub groups_of : ℕ → (Request → List ℕ) → List Request → List ℕ
groups_of zero group qs = []
groups_of (suc n) group [] = replicate group_size 0 ++ groups_of n group []
groups_of (suc n) group (q ∷ qs) = group q ++ groups_of n group qs

-- the sum of n counts, from a place on and each a group further on
unfoldable pub sum_from : ℕ → List ℕ → ℕ → ℕ
sum_from zero counts at = 0
sum_from (suc n) counts at = get_or counts at 0 + sum_from n counts (at + group_size)

-- the sums of eight groups, place by place
abbrev pub sums_of : List ℕ → List ℕ
sums_of counts = from_on (sum_from group_count counts) 0 group_size

-- eight groups, and behind them their sums
unfoldable pub with_sums : List ℕ → List ℕ
with_sums groups = groups ++ sums_of groups

-- the group of a request over a question whose sections are p
abbrev pub group_for : List ℕ → List ℕ → List ℕ → Sections → Request → List ℕ
group_for text table s p q = tally_of (decision_at (recorded table) s p q (words_in text)) (rows_in s p)

-- the tally of requests
abbrev pub tallied_of : List ℕ → List ℕ → List ℕ → Sections → List Request → List ℕ
tallied_of text table s p qs = with_sums (groups_of group_count (group_for text table s p) qs)

-- ---- the call

-- a tally for a question whose sections are p
pub record RequestsTallied (text table s : List ℕ) (p : Sections) (qs : List Request) (before : List ℕ) (answer : ℕ) (after : List ℕ) : Type 0 where
  pub answered : answer ≡ first_refusal text table qs
  pub counts : after ≡ unless (first_refusal text table qs) (tallied_of text table s p qs) (λ _. before)

-- the refusal's number, 0 where nothing is refused: before all, no request or more than eight; then what is no question
unfoldable pub tally_refusal : List ℕ → List ℕ → List ℕ → ℕ → List ℕ → ℕ
tally_refusal text table s many requests =
    cond (leb 1 many && leb many group_count) (cond (is_question s) (first_refusal text table (requests_of many requests)) 24) 27

-- the counts afterwards: a refusal changes nothing
unfoldable pub counts_after : List ℕ → List ℕ → List ℕ → ℕ → List ℕ → List ℕ → List ℕ
counts_after text table s many requests counts =
    unless (tally_refusal text table s many requests) (tallied_of text table s (sections_in s) (requests_of many requests)) (λ _. counts)

-- what the call promises
pub record Tallied (text table s : List ℕ) (many : ℕ) (requests before : List ℕ) (answer : ℕ) (after : List ℕ) : Type 0 where
  pub answered : answer ≡ tally_refusal text table s many requests
  pub counts : after ≡ counts_after text table s many requests before
