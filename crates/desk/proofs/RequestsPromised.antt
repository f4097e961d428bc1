-- What the desk promises of requests and of look-ups: the refusals, yes, the policy named, zeros beside a refusal. Assumes nothing.
use mathlib.Core.Path.{◌≡◌, refl, sym, ◌∙◌, ap, subst, fun_ext}
use mathlib.Core.Logic.{◌⊎◌, inl, inr, ⊎_elim, ◌↔◌}
use mathlib.Core.Bool.{Bool, true, false, cond}
use mathlib.Core.List.{List, [], ◌∷◌, Memᴰ}
use Prim.Native.Nat.{ℕ, zero, suc, ◌^◌, ◌≤◌, ◌<◌}
use native.Mathlib.Nat.{lt_of_lt_of_le, pow-le-pow_right}
use native.Mathlib.Omega.{arith}
use borrow.Author.Tests.{eqb-true}
use lib.Dec.{eqb}
use lib.Ieee.{Float}
use lib.ListN.{length}
use Rattle.tokens.specs.Bytes.{one_of}
use Rattle.tokens.proofs.TokenLaws.{never, or_cases}
use Rattle.grammar.specs.Policies.{PolicyOf, Policy}
use Rattle.grammar.specs.declared.Version.TheVariants.{First}
use Rattle.table.specs.Recorded.{recorded}
use Rattle.compiling.specs.Outcome.{said}
use Rattle.compiling_promise.specs.Promise.{Begun, NoPoliciesNoVersion}
use Rattle.compiling_promise.proofs.Promised.{no_policies_no_version}
use Rattle.bags.specs.Sections.{is_bag}
use Rattle.bags.specs.Forms.{Contents, BagBytes, ABag, NoBag}
use Rattle.bags.proofs.Laid.{laid_whole}
use Rattle.bags.proofs.Exactly.{sections_complete, bag_exactly, not_a_bag}
use Rattle.views.specs.Meaning.{View, as_bag, look}
use Rattle.views.proofs.BagForms.{bag_shows}
use Rattle.placing.specs.Said.{Word, words_of}
use Rattle.placing.proofs.Theorems.{policies_placed}
use Rattle.meaning.specs.Targets.{Request, is_system}
use Rattle.meaning.specs.Decisions.{Terms, under, Numbered, first, later, SomeSatisfied, LowestSatisfied, NamesPolicy, the_system as nobody, a_forbid, a_permit, none_named, by_numbers, policies_decide, decision_of, outcome_of, policy_of, is_allowed, satisfied, mark_of, decided_mark, marked_of, effects_of, decided_by, BitSet, SatisfiedAt, MarksExactly, for_the_system, for_another}
use Rattle.meaning.specs.Decisions as meaning
use Rattle.meaning.specs.declared.Decision.{Decision}
use Rattle.meaning.specs.declared.Decision.TheVariants.{Allowed, Forbidden, Nothing, System}
use Rattle.meaning.proofs.Deciding as meaning_proofs
use Rattle.meaning.proofs.Marking as marking
use Rattle.deciding.specs.Answers.{words_in, view_in, view_of, decide_answer, decide_said}
use Rattle.deciding.specs.Promise.{DecideCall, Wellformed, RequestRefused, bad_subject, bad_action, bad_resource, DecideRefused, never_the_system, bad_request, no_bag, not_compiled, none_wrong, DecideRefusedExactly, AnsweredAlike}
use Rattle.deciding.proofs.Answering.{the_system}
use Rattle.deciding.proofs.HeldLaws.{policies_said}
use Rattle.deciding.proofs.Promised.{decide_refused_exactly, zeros_elsewhere, begins_then, answered_alike}
use Rattle.lookups.specs.Lookups as lookups
use Rattle.lookups.specs.Lookups.{look_in, bag_of, lookup_of}
use Rattle.lookups.specs.Values.{nought, absent}
use Rattle.std.specs.Prelude.{Result, Ok, Err}
use Rattle.lookups.specs.declared.values.Value.{Value}
use Rattle.lookups.proofs.Answers.{refused}
use Rattle.desk.specs.Answers.{decide_says, decision_for, found_as, lookup_says}
use Rattle.desk.specs.Promises.{Says, SayAlike, Yes, allowed, system, Granted, OutcomeIs, by_permit, by_forbid, by_none, by_system, MarkIs, every_bit, no_bit}
use Rattle.desk.specs.declared.DeskValue.{DeskValue}
use Rattle.desk.proofs.TextsPromised.{read_as, one_reading}

-- ---- a number is one of a list

pub among : (n : ℕ) (l : List ℕ) → one_of l n ≡ true → Memᴰ n l
among n [] e = absurd (never e)
among n (m ∷ l) e = ⊎_elim (λ (h : eqb n m ≡ true). Memᴰ.head (eqb-true n m h)) (λ (h : one_of l n ≡ true). Memᴰ.tail (among n l h)) (or_cases _ _ e)

-- ---- a decision's outcome and policy

-- what the policies can decide: the number of a permit, or of a forbid, or nothing
data Sorted : Decision → Type 0 where
  a_permit_there : {n : ℕ} → Sorted (Allowed (suc n))
  a_forbid_there : {n : ℕ} → Sorted (Forbidden (suc n))
  none_there : Sorted Nothing

sorted : (forbid permit : ℕ) → Sorted (by_numbers forbid permit)
unfolding by_numbers
sorted zero zero = none_there
sorted zero (suc permit) = a_permit_there
sorted (suc forbid) permit = a_forbid_there

-- the outcome by what is known of the policy named
one_if_allowed : {d : Decision} → Sorted d → is_allowed d ≡ true → outcome_of d ≡ 1
unfolding is_allowed outcome_of
one_if_allowed a_permit_there y = refl
one_if_allowed a_forbid_there y = absurd (never y)
one_if_allowed none_there y = absurd (never y)

two_if_named : {d : Decision} → Sorted d → (is_allowed d ≡ true → ⊥) → 0 < policy_of d → outcome_of d ≡ 2
unfolding is_allowed outcome_of policy_of
two_if_named a_permit_there y n = absurd (y refl)
two_if_named a_forbid_there y n = refl
two_if_named none_there y n = absurd (omega arith)

three_if_none : {d : Decision} → Sorted d → policy_of d ≡ 0 → outcome_of d ≡ 3
unfolding outcome_of policy_of
three_if_none a_permit_there n = absurd (omega arith)
three_if_none a_forbid_there n = absurd (omega arith)
three_if_none none_there n = refl

from_one : {A : Type 0} {n : ℕ} {p : A} {ps : List A} → Numbered n p ps → 0 < n
from_one first = omega arith
from_one (later h) = omega arith

module _ (terms : Terms) (q : Request) (ps : List (PolicyOf Word)) where
  abbrev decision : Decision
  decision = decision_of terms q ps

  by_policies : is_system q.subject ≡ false → Sorted decision
  unfolding decision_of policies_decide
  by_policies s = rw s (sorted _ _)

  four_for_system : is_system q.subject ≡ true → outcome_of decision ≡ 4
  unfolding decision_of outcome_of
  four_for_system s = rw s

  allowed_then : is_system q.subject ≡ false → is_allowed decision ≡ true → SomeSatisfied terms q ps false → ⊥
  unfolding meaning.YesExactly
  allowed_then s y = ⊎_elim (λ t. absurd (meaning_proofs.never s t)) (λ w. w.1) ((meaning_proofs.yes_exactly terms q ps).0 y)

  permit_allowed : SomeSatisfied terms q ps true → (SomeSatisfied terms q ps false → ⊥) → is_allowed decision ≡ true
  unfolding meaning.YesExactly
  permit_allowed p f = (meaning_proofs.yes_exactly terms q ps).1 (inr (p, f))

  named_then : {n : ℕ} → policy_of decision ≡ n → LowestSatisfied terms q ps false n → 0 < policy_of decision
  named_then e l = rw e (from_one l.satisfied_as.numbered)

  -- the outcome, by the policy that is named
  one_for_permit : {n : ℕ} → is_system q.subject ≡ false → (SomeSatisfied terms q ps false → ⊥) → LowestSatisfied terms q ps true n → outcome_of decision ≡ 1
  one_for_permit {n} s f l = one_if_allowed (by_policies s) (permit_allowed (record { number = n; satisfied_as = l.satisfied_as }) f)

  two_for_forbid : {n : ℕ} → is_system q.subject ≡ false → policy_of decision ≡ n → LowestSatisfied terms q ps false n → outcome_of decision ≡ 2
  two_for_forbid {n} s e l = two_if_named (by_policies s) (λ y. allowed_then s y (record { number = n; satisfied_as = l.satisfied_as })) (named_then e l)

  -- and the policy that is named
  named_as : {n : ℕ} → NamesPolicy terms q ps n → policy_of decision ≡ n
  unfolding meaning.NamedRightly meaning.OneName
  named_as {n} m = meaning_proofs.one_name terms q ps (policy_of decision) n (meaning_proofs.named_rightly terms q ps) m

-- ---- on any terms

module _ (text : List ℕ) (terms : Terms) (q : Request) where
  -- the decision of the policies that the text says
  abbrev pub decided_over : Decision
  decided_over = decision_of terms q (words_in text)

  words_said : (ps : List Policy) → Says text ps → words_in text ≡ words_of text ps
  unfolding said
  words_said ps says = ap (words_of text) (policies_said text ps (read_as text ps says))

  outcome_named : (ps : List Policy) → Says text ps → (n : ℕ) → policy_of (decision_of terms q (words_of text ps)) ≡ n → NamesPolicy terms q (words_of text ps) n
      → OutcomeIs text terms q (outcome_of (decision_of terms q (words_of text ps))) n
  outcome_named ps says n e (nobody s) = rw (four_for_system terms q (words_of text ps) s) (by_system s)
  outcome_named ps says n e (a_forbid s l) = rw (two_for_forbid terms q (words_of text ps) s e l) (by_forbid s says l)
  outcome_named ps says n e (a_permit s f l) = rw (one_for_permit terms q (words_of text ps) s f l) (by_permit s says f l)
  outcome_named ps says n e (none_named s f g) = rw (three_if_none (by_policies terms q (words_of text ps) s) e) (by_none s says f g)

  -- what the policies that a text says decide
  pub outcome_over : (ps : List Policy) → Says text ps → OutcomeIs text terms q (outcome_of decided_over) (policy_of decided_over)
  unfolding meaning.NamedRightly
  outcome_over ps says =
      rw (words_said ps says) (outcome_named ps says (policy_of (decision_of terms q (words_of text ps))) refl (meaning_proofs.named_rightly terms q (words_of text ps)))

  -- what is decided for the system
  pub system_over : is_system q.subject ≡ true → OutcomeIs text terms q (outcome_of decided_over) (policy_of decided_over)
  unfolding decision_of outcome_of policy_of
  system_over s = rw s (by_system s)

  -- and nothing else is
  pub decided_as : {o n : ℕ} → OutcomeIs text terms q o n → (o ≡ outcome_of decided_over) × (n ≡ policy_of decided_over)
  unfolding decision_of outcome_of policy_of
  decided_as (by_permit {ps = ps} s says f l) =
      rw (words_said ps says) (sym (one_for_permit terms q (words_of text ps) s f l), sym (named_as terms q (words_of text ps) (a_permit s f l)))
  decided_as (by_forbid {ps = ps} s says l) =
      let n = named_as terms q (words_of text ps) (a_forbid s l) in
      rw (words_said ps says) (sym (two_for_forbid terms q (words_of text ps) s n l), sym n)
  decided_as (by_none {ps = ps} s says f g) =
      let n = named_as terms q (words_of text ps) (none_named s f g) in
      rw (words_said ps says) (sym (three_if_none (by_policies terms q (words_of text ps) s) n), sym n)
  decided_as (by_system s) = rw s (refl, refl)

  -- the mark of the policies that the text says
  abbrev pub mark_over : ℕ
  mark_over = decided_mark terms q (words_in text)

  marks_said : (ps : List Policy) → Says text ps → {mark : ℕ} → MarksExactly terms q (words_of text ps) mark → MarkIs text terms q mark
  marks_said ps says (for_the_system s) = no_bit s
  marks_said ps says (for_another s f) = every_bit s says f

  pub mark_over_lem : (ps : List Policy) → Says text ps → MarkIs text terms q mark_over
  unfolding meaning.MarkedRightly
  mark_over_lem ps says = rw (words_said ps says) (marks_said ps says (marking.marked_rightly terms q (words_of text ps)))

  -- none for the system
  pub system_marks : is_system q.subject ≡ true → MarkIs text terms q mark_over
  unfolding decided_mark
  system_marks s = rw s (no_bit s)

  -- and there is no other
  marked_by : (ps : List Policy) {mark : ℕ} → MarksExactly terms q (words_of text ps) mark → mark ≡ decided_mark terms q (words_of text ps)
  unfolding meaning.MarkedRightly meaning.OneMark
  marked_by ps {mark} m = marking.one_mark terms q (words_of text ps) mark _ m (marking.marked_rightly terms q (words_of text ps))

  pub marked_as : {mark : ℕ} → MarkIs text terms q mark → mark ≡ mark_over
  unfolding decided_mark
  marked_as (every_bit {ps = ps} s says f) = rw (words_said ps says) (marked_by ps (for_another s f))
  marked_as (no_bit s) = rw s

  -- who gets yes
  pub yes_over : (ps : List Policy) → Says text ps
      → (is_allowed decided_over ≡ true) ↔ ((is_system q.subject ≡ true) ⊎ (SomeSatisfied terms q (words_of text ps) true × (SomeSatisfied terms q (words_of text ps) false → ⊥)))
  unfolding meaning.YesExactly
  yes_over ps says = rw (words_said ps says) (meaning_proofs.yes_exactly terms q (words_of text ps))

  words_many : (ps : List Policy) → length (words_of text ps) ≡ length ps
  unfolding words_of
  words_many [] = refl
  words_many (p ∷ ps) = ap suc (words_many ps)

  number_few : {effect : Bool} {n : ℕ} (ps : List Policy) → Says text ps → LowestSatisfied terms q (words_of text ps) effect n → n ≤ 64
  number_few ps says l =
      let few = (policies_placed text ps (read_as text ps says)).few in
      let k = meaning_proofs.numbered_few l.satisfied_as.numbered in
      omega (arith, words_many ps)

  pub policy_few : (outcome policy : ℕ) → OutcomeIs text terms q outcome policy → policy ≤ 64
  policy_few o n (by_permit {ps = ps} s says f l) = number_few ps says l
  policy_few o n (by_forbid {ps = ps} s says l) = number_few ps says l
  policy_few o n (by_none s says f g) = omega arith
  policy_few o n (by_system s) = omega arith

  others_marked : (ps : List Policy) → is_system q.subject ≡ false → decided_mark terms q (words_of text ps) ≡ mark_of terms q (words_of text ps)
  unfolding decided_mark
  others_marked ps s = rw s

  pub mark_few : (mark : ℕ) → MarkIs text terms q mark → mark < 2 ^ 64
  mark_few mark (every_bit {ps = ps} s says f) =
      let few : length (words_of text ps) ≤ 64 = rw (words_many ps) (policies_placed text ps (read_as text ps says)).few in
      let is : mark ≡ mark_of terms q (words_of text ps) = marked_by ps (for_another s f) ∙ others_marked ps s in
      rw is (lt_of_lt_of_le (marking.mark_below (satisfied terms q) (words_of text ps)) (pow-le-pow_right (omega arith) few))
  mark_few mark (no_bit s) = omega arith

  -- outcome and policy follow from it
  pub mark_decides : (ps : List Policy) (outcome policy mark : ℕ) → is_system q.subject ≡ false → Says text ps → OutcomeIs text terms q outcome policy
      → MarkIs text terms q mark
      → (outcome ≡ outcome_of (decided_by (effects_of (words_of text ps)) mark)) × (policy ≡ policy_of (decided_by (effects_of (words_of text ps)) mark))
  unfolding meaning.MarkedRightly meaning.MarkDecides
  mark_decides ps outcome policy mark s says o m =
      let same = words_said ps says in
      let is : mark ≡ decided_mark terms q (words_of text ps) = marked_as m ∙ ap (decided_mark terms q) same in
      let marks : MarksExactly terms q (words_of text ps) mark = subst (MarksExactly terms q (words_of text ps)) (sym is) (marking.marked_rightly terms q (words_of text ps)) in
      let by : decided_over ≡ decided_by (effects_of (words_of text ps)) mark = ap (decision_of terms q) same ∙ marking.mark_decides terms q (words_of text ps) mark s marks in
      let k = decided_as o in
      (k.0 ∙ ap outcome_of by, k.1 ∙ ap policy_of by)

pub one_mark : (text : List ℕ) (terms : Terms) (q : Request) (mark mark' : ℕ) → MarkIs text terms q mark → MarkIs text terms q mark' → mark ≡ mark'
one_mark text terms q mark mark' a b = marked_as text terms q a ∙ sym (marked_as text terms q b)

pub one_outcome : (text : List ℕ) (terms : Terms) (q : Request) (outcome outcome' policy policy' : ℕ)
    → OutcomeIs text terms q outcome policy → OutcomeIs text terms q outcome' policy' → (outcome ≡ outcome') × (policy ≡ policy')
one_outcome text terms q outcome outcome' policy policy' a b =
    let x = decided_as text terms q a in let y = decided_as text terms q b in (x.0 ∙ sym y.0, x.1 ∙ sym y.1)

-- a decision is yes by its outcome
no_yes : {o : ℕ} → (o ≡ 1 → ⊥) → (o ≡ 4 → ⊥) → Yes o → ⊥
no_yes f g (allowed e) = f e
no_yes f g (system e) = g e

pub yes_by_outcome : (d : Decision) {o : ℕ} → o ≡ outcome_of d → (is_allowed d ≡ true) ↔ Yes o
unfolding is_allowed outcome_of
yes_by_outcome (Allowed n) e = (λ y. allowed e, λ y. refl)
yes_by_outcome (Forbidden n) e = (λ y. absurd (never y), λ y. absurd (no_yes (λ z. omega arith) (λ z. omega arith) y))
yes_by_outcome Nothing e = (λ y. absurd (never y), λ y. absurd (no_yes (λ z. omega arith) (λ z. omega arith) y))
yes_by_outcome System e = (λ y. system e, λ y. refl)

-- ---- bags

-- what deciding sees of a bag is what its bytes say
pub seen : {s : List ℕ} {b : Contents} → BagBytes s b → view_of s ≡ look (as_bag b)
unfolding view_in
seen {s} {b} w = let d = sections_complete w.all (laid_whole s) in fun_ext (λ root. fun_ext (λ path. rw d.read (bag_shows d.places d.read w root path)))

pub a_bag : {s : List ℕ} {b : Contents} → BagBytes s b → is_bag s ≡ true
a_bag {s} {b} w = (bag_exactly s).1 (b, w)

-- ---- texts

pub begun_says : {text table : List ℕ} (b : Begun text table) → Says text b.value
begun_says b = record { short = b.short; belongs = b.belongs }

-- texts that say the same
pub alike_words : {text text' : List ℕ} → SayAlike text text' → words_in text ≡ words_in text'
unfolding said
alike_words {text} {text'} a =
    ap (words_of text) (policies_said text a.policies (read_as text a.policies a.says)) ∙ a.alike
    ∙ sym (ap (words_of text') (policies_said text' a.policies' (read_as text' a.policies' a.says')))

pub words_decide : (text text' table table' bag : List ℕ) (q : Request) → SayAlike text text' → recorded table ≡ recorded table' → Begun text table
    → Begun text' table' → decide_says text table bag q ≡ decide_says text' table' bag q
unfolding decide_says AnsweredAlike
words_decide text text' table table' bag q a v b b' = rw (answered_alike text text' table table' bag q (alike_words a) v b b')

-- ---- a text without policies

module _ (text : List ℕ) (none : Says text []) where
  pub any_table : (table : List ℕ) → Begun text table
  unfolding NoPoliciesNoVersion
  any_table table = record {
    short = none.short;
    value = [];
    belongs = none.belongs;
    version = First;
    begins = rw (no_policies_no_version First) (record { rest = table; is = refl });
  }

  -- whatever else it says, no policy has a number
  nobody_there : (ps : List Policy) → Says text ps → {n : ℕ} {p : PolicyOf Word} → Numbered n p (words_of text ps) → ⊥
  unfolding words_of
  nobody_there ps s h = meaning_proofs.nowhere (rw (one_reading text ps [] s none) at h)

  module _ (terms terms' : Terms) (q : Request) where
    none_satisfied : (ps : List Policy) → Says text ps → (permits : Bool) → SomeSatisfied terms' q (words_of text ps) permits → ⊥
    none_satisfied ps s permits h = nobody_there ps s h.satisfied_as.numbered

    pub outcomes_alike : (outcome policy : ℕ) → OutcomeIs text terms q outcome policy → OutcomeIs text terms' q outcome policy
    outcomes_alike _ _ (by_permit {n} {ps} other s no_forbid low) = absurd (nobody_there ps s low.satisfied_as.numbered)
    outcomes_alike _ _ (by_forbid {n} {ps} other s low) = absurd (nobody_there ps s low.satisfied_as.numbered)
    outcomes_alike _ _ (by_none {ps} other s no_forbid no_permit) = by_none other s (none_satisfied ps s false) (none_satisfied ps s true)
    outcomes_alike _ _ (by_system is) = by_system is

    pub marks_alike : (mark : ℕ) → MarkIs text terms q mark → MarkIs text terms' q mark
    marks_alike _ (every_bit {mark} {ps} other s bits) =
        every_bit other s
        (λ n. (
          (λ (b : BitSet mark n). absurd (nobody_there ps s ((bits n).0 b).numbered)),
          λ (t : SatisfiedAt terms' q (words_of text ps) n). absurd (nobody_there ps s t.numbered),
        ))
    marks_alike _ (no_bit is) = no_bit is

-- ---- deciding

pub request_some : {q : Request} {n : ℕ} → RequestRefused q n → n ≡ 0 → ⊥
request_some (bad_subject s t) e = omega arith
request_some (bad_action s t u) e = omega arith
request_some (bad_resource s t u v) e = omega arith

module _ (c : DecideCall) where
  pub decide_exactly : (number : ℕ) → ((decision_for c).refusal ≡ number) ↔ DecideRefused c number
  unfolding decide_says DecideRefusedExactly
  decide_exactly number = decide_refused_exactly c number

  request_is : {n : ℕ} → RequestRefused c.request n → Memᴰ n (0 ∷ 20 ∷ 21 ∷ 22 ∷ 23 ∷ 24 ∷ [])
  request_is (bad_subject s t) = among 21 _ refl
  request_is (bad_action s t u) = among 22 _ refl
  request_is (bad_resource s t u v) = among 23 _ refl

  number_is : {n : ℕ} → DecideRefused c n → Memᴰ n (0 ∷ 20 ∷ 21 ∷ 22 ∷ 23 ∷ 24 ∷ [])
  number_is (never_the_system s) = among 0 _ refl
  number_is (bad_request r) = request_is r
  number_is (no_bag f w) = among 24 _ refl
  number_is (not_compiled f w b) = among 20 _ refl
  number_is (none_wrong f w b) = among 0 _ refl

  pub decide_refusals : Memᴰ (decision_for c).refusal (0 ∷ 20 ∷ 21 ∷ 22 ∷ 23 ∷ 24 ∷ [])
  decide_refusals = number_is ((decide_exactly (decision_for c).refusal).0 refl)

  pub decide_zeros : ((decision_for c).refusal ≡ 0 → ⊥) → ((decision_for c).outcome ≡ 0) × ((decision_for c).policy ≡ 0) × ((decision_for c).mark ≡ 0)
  unfolding decide_says
  decide_zeros = zeros_elsewhere (decide_answer c.text c.table c.bag c.request)

  -- ---- a request that is not refused

  -- whose it is: the system's, or one that the policies of the text decide
  data Heard : Type 0 where
    of_the_system : is_system c.request.subject ≡ true → Heard
    of_another : Wellformed c.request → ABag c.bag → Begun c.text c.table → Heard

  heard_by : {n : ℕ} → n ≡ 0 → DecideRefused c n → Heard
  heard_by e (never_the_system s) = of_the_system s
  heard_by e (bad_request r) = absurd (request_some r e)
  heard_by e (no_bag f w) = absurd (omega arith)
  heard_by e (not_compiled f w b) = absurd (omega arith)
  heard_by e (none_wrong f w b) = of_another f w b

  heard : (decision_for c).refusal ≡ 0 → Heard
  heard e = heard_by e ((decide_exactly (decision_for c).refusal).0 refl)

  -- attributes as this call meets them: under the version that its table records
  abbrev recorded_for : View → Terms
  recorded_for view = under (recorded c.table) view

  -- what deciding sees, and what it decides over that
  abbrev terms : Terms
  terms = recorded_for (view_of c.bag)

  abbrev decision_there : Decision
  decision_there = decided_over c.text terms c.request

  abbrev mark_there : ℕ
  mark_there = mark_over c.text terms c.request

  answered : Heard → decide_answer c.text c.table c.bag c.request ≡ Ok (marked_of terms c.request (words_in c.text))
  unfolding decide_answer decision_of decided_mark
  answered (of_the_system s) = rw s
  answered (of_another f w b) = rw (f.other, f.subject_is, f.action_is, f.resource_is, (bag_exactly c.bag).1 w, begins_then c.text c.table b)

  outcome_told : Heard → ((decision_for c).outcome ≡ outcome_of decision_there) × ((decision_for c).policy ≡ policy_of decision_there) × ((decision_for c).mark ≡ mark_there)
  unfolding decide_says decide_said
  outcome_told h = rw (answered h) (refl, refl, refl)

  outcome_there : Heard → OutcomeIs c.text terms c.request (outcome_of decision_there) (policy_of decision_there)
  outcome_there (of_the_system s) = system_over c.text terms c.request s
  outcome_there (of_another f w b) = outcome_over c.text terms c.request b.value (begun_says b)

  pub outcome_rightly : (contents : Contents) → (decision_for c).refusal ≡ 0 → BagBytes c.bag contents
      → OutcomeIs c.text (recorded_for (look (as_bag contents))) c.request (decision_for c).outcome (decision_for c).policy
  outcome_rightly contents e w =
      let h = heard e in
      let t = outcome_told h in
      subst (λ (v : View). OutcomeIs c.text (recorded_for v) c.request (decision_for c).outcome (decision_for c).policy) (seen w) (rw (t.0, t.1) (outcome_there h))

  marked_there : Heard → MarkIs c.text terms c.request mark_there
  marked_there (of_the_system s) = system_marks c.text terms c.request s
  marked_there (of_another f w b) = mark_over_lem c.text terms c.request b.value (begun_says b)

  pub mark_exactly : (contents : Contents) → (decision_for c).refusal ≡ 0 → BagBytes c.bag contents
      → MarkIs c.text (recorded_for (look (as_bag contents))) c.request (decision_for c).mark
  mark_exactly contents e w =
      let h = heard e in
      subst (λ (v : View). MarkIs c.text (recorded_for v) c.request (decision_for c).mark) (seen w) (rw (outcome_told h).2 (marked_there h))

  -- ---- yes

  granted_there : Heard → (is_allowed decision_there ≡ true) ↔ ((is_system c.request.subject ≡ true) ⊎ Granted (recorded c.table) c.text c.bag c.request)
  unfolding decision_of is_allowed
  granted_there (of_the_system s) = (λ y. inl s, λ y. rw s)
  granted_there (of_another f w b) =
      let yes = yes_over c.text terms c.request b.value (begun_says b) in (
        λ y. ⊎_elim inl (λ g. inr (rightly w.1 g)) (yes.0 y),
        λ g. yes.1 (⊎_elim inl (λ g. inr (granted g)) g),
      )
    where
      rightly : {contents : Contents} → BagBytes c.bag contents
          → SomeSatisfied terms c.request (words_of c.text b.value) true × (SomeSatisfied terms c.request (words_of c.text b.value) false → ⊥)
          → Granted (recorded c.table) c.text c.bag c.request
      rightly {contents} w g =
          let h = subst (λ (v : View). SomeSatisfied (recorded_for v) c.request (words_of c.text b.value) true × (SomeSatisfied (recorded_for v) c.request (words_of c.text b.value) false → ⊥)) (seen w) g in
          record { policies = b.value; says = begun_says b; contents = contents; bag_says = w; permit = h.0; no_forbid = h.1 }

      granted : Granted (recorded c.table) c.text c.bag c.request
          → SomeSatisfied terms c.request (words_of c.text b.value) true × (SomeSatisfied terms c.request (words_of c.text b.value) false → ⊥)
      granted g =
          let same = one_reading c.text g.policies b.value g.says (begun_says b) in
          subst (λ (v : View). SomeSatisfied (recorded_for v) c.request (words_of c.text b.value) true × (SomeSatisfied (recorded_for v) c.request (words_of c.text b.value) false → ⊥)) (sym (seen g.bag_says))
          (subst (λ (ps : List Policy). SomeSatisfied (recorded_for (look (as_bag g.contents))) c.request (words_of c.text ps) true × (SomeSatisfied (recorded_for (look (as_bag g.contents))) c.request (words_of c.text ps) false → ⊥)) same (g.permit, g.no_forbid))

  pub yes_exactly : (decision_for c).refusal ≡ 0 → Yes (decision_for c).outcome ↔ ((is_system c.request.subject ≡ true) ⊎ Granted (recorded c.table) c.text c.bag c.request)
  yes_exactly e =
      let h = heard e in
      let y = yes_by_outcome decision_there (outcome_told h).0 in
      let g = granted_there h in
      (λ x. g.0 (y.1 x), λ x. y.0 (g.1 x))

  pub system_names_none : is_system c.request.subject ≡ true → decision_for c ≡ record { refusal = 0; outcome = 4; policy = 0; mark = 0 }
  unfolding decide_says decide_said outcome_of policy_of
  system_names_none s = rw (← the_system c.text c.table c.bag c.request s)

-- ---- look-ups

module _ (bag : List ℕ) (root : ℕ) (path : List ℕ) where
  -- what is found, or the refusal
  data Looked : DeskValue → Type 0 where
    looked_up : {kind place : ℕ} {number : Float} → is_bag bag ≡ true → Looked (record { refusal = 0; kind = kind; number = number; place = place })
    refused_there : is_bag bag ≡ false → Looked (record { refusal = 24; kind = 0; number = nought; place = 0 })

  looked : Looked (lookup_says bag root path)
  unfolding lookup_says lookup_of
  looked = go (is_bag bag) refl
    where
      go : (b : Bool) → is_bag bag ≡ b → Looked (found_as (lookups.lookup_said (cond {A = Result Value ℕ} b (Ok (look_in absent (bag_of bag root) path)) (Err 24))))
      go true e = looked_up e
      go false e = refused_there e

  number_looked : {r : DeskValue} → Looked r → Memᴰ r.refusal (0 ∷ 24 ∷ [])
  number_looked (looked_up e) = among 0 _ refl
  number_looked (refused_there e) = among 24 _ refl

  pub lookup_refusals : Memᴰ (lookup_says bag root path).refusal (0 ∷ 24 ∷ [])
  lookup_refusals = number_looked looked

  no_bag_then : {r : DeskValue} → Looked r → r.refusal ≡ 24 → is_bag bag ≡ false
  no_bag_then (looked_up e) n = absurd (omega arith)
  no_bag_then (refused_there e) n = e

  pub lookup_exactly : ((lookup_says bag root path).refusal ≡ 24) ↔ NoBag bag
  unfolding lookup_says
  lookup_exactly = ((λ n. (not_a_bag bag).0 (no_bag_then looked n)), λ e. rw (← refused bag root path ((not_a_bag bag).1 e)))

  zeros : {r : DeskValue} → Looked r → (r.refusal ≡ 0 → ⊥) → r ≡ record { refusal = 24; kind = 0; number = nought; place = 0 }
  zeros (looked_up e) n = absurd (n refl)
  zeros (refused_there e) n = refl

  pub lookup_zeros : ((lookup_says bag root path).refusal ≡ 0 → ⊥) → lookup_says bag root path ≡ record { refusal = 24; kind = 0; number = nought; place = 0 }
  lookup_zeros = zeros looked
