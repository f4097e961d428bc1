-- What the desk promises of the tally: what each count counts, what they add up to, the sums, the refusals. Assumes nothing.
use mathlib.Core.Path.{◌≡◌, refl, sym, ap, ◌∙◌, subst}
use mathlib.Core.Logic.{◌↔◌}
use mathlib.Core.Bool.{true}
use mathlib.Core.List.Memᴰ
use mathlib.Core.List.{List, [], ◌∷◌, ◌++◌, map, Memᴰ}
use Prim.Native.Nat.{ℕ, suc, ◌+◌, ◌-◌, ◌*◌, ◌≤◌, ◌<◌, zero-le}
use native.Mathlib.Decide.{dec_lt}
use native.Mathlib.Omega.{arith}
use lib.ListN.{length, get_or, take, drop, replicate, length-append, length-map, length-replicate, get_or-replicate}
use Rattle.grammar.specs.declared.Version.{Version}
use Rattle.table.specs.Recorded.{recorded}
use Rattle.compiling_promise.specs.Promise.{Begun}
use Rattle.bags.specs.Forms.{Contents}
use Rattle.questions.specs.Forms.{Column, QuestionBytes}
use Rattle.questions.specs.Questions.{product}
use Rattle.views.specs.Meaning.{look}
use Rattle.views.specs.Rows.{bag_of_row}
use Rattle.meaning.specs.Targets.{Request}
use Rattle.meaning.specs.Decisions.{Terms, under, Numbered, outcome_of, policy_of, is_allowed}
use Rattle.meaning.specs.declared.Decision.{Decision}
use Rattle.meaning.proofs.Deciding.{numbered_few}
use Rattle.deciding.specs.Answers.{words_in}
use Rattle.deciding.specs.Promise.{RequestRefused, bad_subject, bad_action, bad_resource}
use Rattle.pages.specs.Rows.{Combination, choices_at}
use Rattle.pages.specs.Lines as pages_lines
use Rattle.pages.specs.Lines.{Line, InOrder, counts}
use Rattle.pages.specs.Listing.{row_size, listed}
use Rattle.pages.specs.Tally.{OneByOne, none, one, more, SoMany, sum_of, from_on, group_size, how_many, counts_at, tally_of, Countable}
use Rattle.pages.proofs.LineLaws.{one_list, line_at, decided_at, lines_of}
use Rattle.pages.proofs.Tallying.{group_long, group_at, from_on_long}
use Rattle.pages.proofs.AddingUp as adding
use Rattle.pages.proofs.SoManyLaws.{so_many, such_alike, listed_many}
use Rattle.sheets.specs.Sheets.{columns_in, first_in, rows_in, sections_in, decision_by, decision_at, decisions, rows_asked}
use Rattle.sheets.specs.Promise.{SheetCall, Wellasked}
use Rattle.sheets.proofs.Promised.{rows_asked_lem}
use Rattle.tallies.specs.Lent.{requests_of}
use Rattle.tallies.specs.Tallies.{group_count, groups_of, sum_from, sums_of, with_sums, group_for}
use Rattle.tallies.specs.Promise as tallies
use Rattle.tallies.specs.Promise.{TallyCall, Lent, Passes, the_system, none_wrong, FirstRefused, TallyRefused, no_request, too_many, no_question, by_request}
use Rattle.tallies.specs.Promise.{TallyRefusedExactly, OneLent}
use Rattle.tallies.proofs.Groups.{groups_long, group_there, group_behind, sums_there}
use Rattle.tallies.proofs.Deciders.{decided_some, counts_outcome, counts_policy, yes_counted}
use Rattle.tallies.proofs.Promised as tallies_proofs
use Rattle.tallies.proofs.Promised.{tally_heard, counts_there, requests_many}
use Rattle.desk.specs.Answers.{tally_says, refusal_for, counts_for}
use Rattle.desk.specs.Promises.{OutcomeIs, terms_of, Sheet, group_in, of_outcome, of_policy, TallyOf, TheTally}
use Rattle.desk.proofs.RequestsPromised.{among, decided_over, decided_as, policy_few}
use Rattle.desk.proofs.SheetsPromised as sheets_desk
use Rattle.desk.proofs.SheetsPromised.{Heard, of_the_system, of_another, outcome_there, of_choices, of_marks, over_attributes, no_other, decisions_are}

-- ---- the refusals

pub tally_exactly : (c : TallyCall) (number : ℕ) → (refusal_for c ≡ number) ↔ TallyRefused c number
unfolding tally_says TallyRefusedExactly
tally_exactly c number = tallies_proofs.tally_refused_exactly c number

abbrev numbers : List ℕ
numbers = 0 ∷ 20 ∷ 21 ∷ 22 ∷ 23 ∷ 24 ∷ 27 ∷ []

request_is : {q : Request} {n : ℕ} → RequestRefused q n → Memᴰ n numbers
request_is (bad_subject s t) = among 21 _ refl
request_is (bad_action s t u) = among 22 _ refl
request_is (bad_resource s t u v) = among 23 _ refl

first_is : {text table : List ℕ} {qs : List Request} {n : ℕ} → FirstRefused text table qs n → Memᴰ n numbers
first_is tallies.none_refused = among 0 _ refl
first_is (tallies.passed a f) = first_is f
first_is (tallies.bad_request r) = request_is r
first_is (tallies.not_compiled f n) = among 20 _ refl

number_is : {c : TallyCall} {n : ℕ} → TallyRefused c n → Memᴰ n numbers
number_is (no_request e) = among 27 _ refl
number_is (too_many h) = among 27 _ refl
number_is (no_question h l e) = among 24 _ refl
number_is (by_request h l w q f) = first_is f

pub tally_refusals : (c : TallyCall) → Memᴰ (refusal_for c) (0 ∷ 20 ∷ 21 ∷ 22 ∷ 23 ∷ 24 ∷ 27 ∷ [])
tally_refusals c = number_is ((tally_exactly c (refusal_for c)).0 refl)

pub tally_stays : (c : TallyCall) → (refusal_for c ≡ 0 → ⊥) → counts_for c ≡ c.counts
unfolding tally_says
tally_stays c n = tallies_proofs.nothing_changed c.text c.table c.question c.many c.requests c.counts n

pub lent_one : (n : ℕ) (bytes : List ℕ) → (qs : List Request) × Lent n bytes qs × ((others : List Request) → Lent n bytes others → others ≡ qs)
unfolding OneLent
lent_one n bytes = tallies_proofs.one_lent n bytes

-- ---- so many are one number

abbrev as_line : List ℕ → Line
as_line choices = record { choices = choices; outcome = 0; policy = 0; mark = 0 }

in_order : {cs : List (List ℕ)} → OneByOne cs → InOrder (map as_line cs)
in_order none = pages_lines.none
in_order one = pages_lines.one
in_order (more s o) = pages_lines.more s (in_order o)

one_many : (ns : List ℕ) (Such : List ℕ → Type 0) (n n' : ℕ) → SoMany ns Such n → SoMany ns Such n' → n ≡ n'
one_many ns Such n n' a b =
    let e = one_list (map as_line a.those) (map as_line b.those) (in_order a.in_order) (in_order b.in_order) (λ l. carry a b l) (λ l. carry b a l) in
    sym a.many ∙ sym (length-map a.those as_line) ∙ ap length e ∙ length-map b.those as_line ∙ b.many
  where
    carry : {m m' : ℕ} (x : SoMany ns Such m) (y : SoMany ns Such m') (l : Line) → Memᴰ l (map as_line x.those) → Memᴰ l (map as_line y.those)
    carry x y l i =
        let r = Memᴰ.of_map as_line x.those i in
        subst (λ (l : Line). Memᴰ l (map as_line y.those)) r.2 (Memᴰ.map as_line ((y.lists r.0).1 ((x.lists r.0).0 r.1)))

pub one_tally : (version : Version) (text : List ℕ) (base : Contents) (columns : List Column) (q : Request) (group group' : List ℕ)
    → TallyOf version text base columns q group → TallyOf version text base columns q group' → (k : ℕ) → k < group_size → get_or group k 0 ≡ get_or group' k 0
one_tally version text base columns q group group' a b k h = elim (dec_lt k 4) [
  | yes l ↦
      let e : k + 1 - 1 ≡ k = omega arith in
      let same = one_many _ _ _ _ (a.outcomes (k + 1) (omega arith) (omega arith)) (b.outcomes (k + 1) (omega arith) (omega arith)) in
      rw e at same
  | no l ↦
      let e : k - 3 + 3 ≡ k = omega arith in
      let same = one_many _ _ _ _ (a.policies (k - 3) (omega arith) (omega arith)) (b.policies (k - 3) (omega arith) (omega arith)) in
      rw e at same
]

-- ---- what a request's group says

module _ (text table question : List ℕ) (q : Request) (a : Passes text table q) {base : Contents} {columns : List Column} (w : QuestionBytes question base columns) where
  -- the first page of its sheet, which has the same rows
  abbrev call : SheetCall
  call = record { text = text; table = table; question = question; request = q; start = 0; sheet = replicate row_size 0; at = 0 }

  asked : Wellasked call
  asked = record { room = omega (arith, length-replicate {A = ℕ} row_size 0); base = base; columns = columns; question_says = w; within = zero-le }

  heard_as : Passes text table q → Heard call
  heard_as (the_system s) = of_the_system asked s
  heard_as (none_wrong f b) = of_another asked f b

  h : Heard call
  h = heard_as a

  abbrev of : List ℕ → Decision
  of choices = of_choices call h w choices

  abbrev ns : List ℕ
  ns = counts columns

  abbrev group : List ℕ
  group = group_for text table question (sections_in question) q

  group_is : group ≡ tally_of (decided_at of ns) (product ns)
  group_is = ap (λ (d : ℕ → Decision). tally_of d (rows_asked question)) (decisions_are call h w) ∙ ap (tally_of (decided_at of ns)) (rows_asked_lem w)

  count_is : (k : ℕ) → k < group_size → get_or group k 0 ≡ how_many (λ row. counts_at k (of (choices_at ns row))) (product ns)
  count_is k l = ap (λ (g : List ℕ). get_or g k 0) group_is ∙ group_at (decided_at of ns) (product ns) k l

  -- what is decided over a combination's attributes
  decided_there : {choices : List ℕ} → Combination ns choices → OutcomeIs text (terms_of (recorded table) base columns choices) q (outcome_of (of choices)) (policy_of (of choices))
  decided_there {choices} ok = rw (over_attributes call h w ok) (outcome_there call h (terms_of (recorded table) base columns choices))

  told_there : {choices : List ℕ} {o n : ℕ} → Combination ns choices → OutcomeIs text (terms_of (recorded table) base columns choices) q o n
      → (outcome_of (of choices) ≡ o) × (policy_of (of choices) ≡ n)
  told_there {choices} ok r =
      let d = over_attributes call h w ok in
      let k = decided_as text (terms_of (recorded table) base columns choices) q r in
      (ap outcome_of d ∙ sym k.0, ap policy_of d ∙ sym k.1)

  outcomes : (o : ℕ) → 1 ≤ o → o ≤ 4 → SoMany ns (λ choices. (policy : ℕ) × OutcomeIs text (terms_of (recorded table) base columns choices) q o policy) (of_outcome group o)
  outcomes o some few =
      subst (λ (m : ℕ). SoMany ns (λ choices. (policy : ℕ) × OutcomeIs text (terms_of (recorded table) base columns choices) q o policy) m) (sym (count_is (o - 1) (omega arith)))
      (such_alike
      (λ choices ok. (
        (λ t. (policy_of (of choices), subst (λ (x : ℕ). OutcomeIs text (terms_of (recorded table) base columns choices) q x (policy_of (of choices))) ((counts_outcome o some few (of choices)).0 t) (decided_there ok))),
        λ r. (counts_outcome o some few (of choices)).1 (told_there ok r.1).0,
      ))
      (so_many (λ choices. counts_at (o - 1) (of choices)) ns))

  policies : (n : ℕ) → 1 ≤ n → n ≤ 64 → SoMany ns (λ choices. (outcome : ℕ) × OutcomeIs text (terms_of (recorded table) base columns choices) q outcome n) (of_policy group n)
  policies n some few =
      subst (λ (m : ℕ). SoMany ns (λ choices. (outcome : ℕ) × OutcomeIs text (terms_of (recorded table) base columns choices) q outcome n) m) (sym (count_is (n + 3) (omega arith)))
      (such_alike
      (λ choices ok. (
        (λ t. (outcome_of (of choices), subst (λ (x : ℕ). OutcomeIs text (terms_of (recorded table) base columns choices) q (outcome_of (of choices)) x) ((counts_policy n (of choices) some).0 t) (decided_there ok))),
        λ r. (counts_policy n (of choices) some).1 (told_there ok r.1).1,
      ))
      (so_many (λ choices. counts_at (n + 3) (of choices)) ns))

  -- whatever is decided can be counted
  countable : (row : ℕ) → Countable (of (choices_at ns row))
  unfolding decision_by
  countable row =
      let p = sections_in question in
      let terms : Terms = under (recorded table) (look (bag_of_row question p (columns_in question p) (first_in p) (choices_at ns row))) in
      record { some = decided_some terms q (words_in text); few = policy_few text terms q _ _ (outcome_there call h terms) }

  listed_as : (lines : List Line) → Sheet (recorded table) text base columns q lines → length lines ≡ of_outcome group 1 + of_outcome group 4
  listed_as lines s =
      ap length (no_other call h w lines s) ∙ length-map (listed (decided_at of ns) (product ns) 0) (line_at of (of_marks call h w) ns) ∙ listed_many (decided_at of ns) (product ns)
      ∙ yes_counted (decided_at of ns) (product ns)
      ∙ (let x = count_is 0 (omega arith) in let y = count_is 3 (omega arith) in omega (arith, x, y))

  tally_of_lem : TallyOf (recorded table) text base columns q group
  tally_of_lem = record {
    outcomes = outcomes;
    policies = policies;
    rows_add_up = ap (λ (g : List ℕ). sum_of (take 4 g)) group_is ∙ adding.outcomes_add_up (decided_at of ns) (product ns);
    policies_add_up = rw group_is (adding.policies_add_up (decided_at of ns) (product ns) countable);
    listed = listed_as;
  }

-- ---- the call

module _ (c : TallyCall) (e : refusal_for c ≡ 0) where
  abbrev qs : List Request
  qs = requests_of c.many c.requests

  abbrev groups_by : Request → List ℕ
  groups_by q = group_for c.text c.table c.question (sections_in c.question) q

  long_by : (q : Request) → length (groups_by q) ≡ group_size
  long_by q = group_long (decisions c.text c.table c.question q) (rows_asked c.question)

  abbrev groups : List ℕ
  groups = groups_of group_count groups_by qs

  counts_are : counts_for c ≡ with_sums groups
  unfolding tally_says
  counts_are = counts_there c.text c.table c.question c.many c.requests c.counts e

  group_are : (k : ℕ) → k < group_count → group_in (counts_for c) k ≡ take group_size (drop (group_size * k) (groups ++ sums_of groups))
  unfolding with_sums
  group_are k l = rw counts_are

  whole : length (with_sums groups) ≡ group_size * suc group_count
  unfolding with_sums
  whole =
      let a = length-append groups (sums_of groups) in
      let b = groups_long groups_by long_by group_count qs in
      let d = from_on_long (sum_from group_count groups) 0 group_size in
      omega (arith, a, b, d)

  the_tally_by : TheTally c
  unfolding tally_says
  the_tally_by =
      let t = tally_heard c e in
      record {
        base = t.base;
        columns = t.columns;
        question_says = t.question_says;
        requests = qs;
        lent = t.lent;
        counted = λ k q i.
            let l : k < group_count = omega (arith, numbered_few i, requests_many c.many c.requests, t.few) in
            subst (λ (g : List ℕ). TallyOf (recorded c.table) c.text t.base t.columns q g)
            (sym (group_are k l ∙ group_there groups_by long_by i group_count k refl l (sums_of groups)))
            (tally_of_lem c.text c.table c.question q (t.accepted i) t.question_says);
        others_none = λ k i m l h.
            let few : length qs ≤ k = omega (arith, requests_many c.many c.requests) in
            ap (λ (g : List ℕ). get_or g i 0) (group_are k l ∙ group_behind groups_by long_by qs group_count k few l (sums_of groups)) ∙ get_or-replicate {A = ℕ} group_size i 0 0 h;
        summed = λ i h. rw counts_are (sums_there groups (groups_long groups_by long_by group_count qs) i h);
        no_more = ap length counts_are ∙ whole;
      }

pub the_tally : (c : TallyCall) → refusal_for c ≡ 0 → TheTally c
the_tally c e = the_tally_by c e
