-- What is decided of a row can be counted, and the system's rows count alike whatever the policies are. Assumes nothing.
use mathlib.Core.Path.{◌≡◌, refl, ap, ◌∙◌}
use mathlib.Core.Bool.{Bool, true, false, cond}
use mathlib.Core.List.{List}
use Prim.Native.Nat.{ℕ, zero, suc, ◌+◌, ◌-◌, ◌≤◌}
use mathlib.Core.Logic.{◌↔◌}
use borrow.Author.Tests.{eq-eqb, eqb-true, lt-ltb, le-ltb}
use native.Mathlib.Decide.{dec_lt, ℕ_discrete}
use native.Mathlib.Omega.{arith}
use lib.ListN.{length, get_or}
use lib.Seq.{get_or-set_same, get_or-set_other, set_out}
use Rattle.grammar.specs.Policies.{PolicyOf, Policy}
use Rattle.grammar.specs.declared.Version.{Version}
use Rattle.bags.specs.declared.sections.Sections.{Sections}
use Rattle.placing.specs.Said.{Word, words_of}
use Rattle.meaning.specs.Targets.{Request, is_system}
use Rattle.meaning.specs.Decisions.{Terms, decision_of, policies_decide, by_numbers, outcome_of, policy_of, is_allowed}
use Rattle.meaning.specs.declared.Decision.{Decision}
use Rattle.meaning.specs.declared.Decision.TheVariants.{Allowed, Forbidden, Nothing, System}
use Rattle.pages.specs.Tally.{how_many, counts_at, tally_of, bumped, counted_in, least_policy, Countable}
use Rattle.sheets.specs.Sheets.{decision_by, decision_at}
use Rattle.pages.proofs.Tallying.{group_more}
use Rattle.turns.proofs.RowLaws.{policy_few}

numbers_some : (f g : ℕ) → least_policy (by_numbers f g) ≤ policy_of (by_numbers f g)
unfolding least_policy policy_of by_numbers
numbers_some zero zero = omega arith
numbers_some zero (suc g) = omega arith
numbers_some (suc f) g = omega arith

some_by : (b : Bool) (d : Decision) → least_policy d ≤ policy_of d → least_policy (cond b System d) ≤ policy_of (cond b System d)
unfolding least_policy policy_of
some_by true d h = omega arith
some_by false d h = h

pub decided_some : (terms : Terms) (q : Request) (ps : List (PolicyOf Word)) → least_policy (decision_of terms q ps) ≤ policy_of (decision_of terms q ps)
unfolding decision_of policies_decide
decided_some terms q ps = some_by (is_system q.subject) (policies_decide terms q ps) (numbers_some _ _)

pub countable_there : (version : Version) (text s : List ℕ) (p : Sections) (q : Request) (ps : List Policy) (row : ℕ) → length ps ≤ 64
    → Countable (decision_at version s p q (words_of text ps) row)
unfolding decision_by
countable_there version text s p q ps row h = record { some = decided_some _ q (words_of text ps); few = policy_few version text s p q ps row h }

pub system_counts : (version : Version) (s : List ℕ) (p : Sections) (q : Request) (ps ps' : List (PolicyOf Word)) (n : ℕ) → is_system q.subject ≡ true
    → tally_of (decision_at version s p q ps) n ≡ tally_of (decision_at version s p q ps') n
unfolding decision_by decision_of
system_counts version s p q ps ps' n e =
    let same : (row : ℕ) → decision_at version s p q ps row ≡ decision_at version s p q ps' row = λ row. rw e in
    let alike : ◌≡◌ {A = ℕ → Decision} (decision_at version s p q ps) (decision_at version s p q ps') = λ i row. same row i in
    ap (λ (d : ℕ → Decision). tally_of d n) alike

-- the policy's number where one decides
pub allowed_numbered : {d : Decision} {n : ℕ} → Countable d → d ≡ Allowed n → (1 ≤ n) × (n ≤ 64)
unfolding least_policy policy_of
allowed_numbered {d} {n} c e = let k : Countable (Allowed n) = rw e at c in (k.some, k.few)

pub forbidden_numbered : {d : Decision} {n : ℕ} → Countable d → d ≡ Forbidden n → (1 ≤ n) × (n ≤ 64)
unfolding least_policy policy_of
forbidden_numbered {d} {n} c e = let k : Countable (Forbidden n) = rw e at c in (k.some, k.few)

-- one more at a place makes no count much larger
pub bumped_few : (l : List ℕ) (j k : ℕ) → get_or (bumped l j) k 0 ≤ get_or l k 0 + 1
bumped_few l j k = elim (ℕ_discrete k j) [
  | yes e ↦ elim (dec_lt j (length l)) [
    | yes h ↦ rw (e, get_or-set_same l j (get_or l j 0 + 1) 0 h) (omega arith)
    | no h ↦ rw (set_out l j (get_or l j 0 + 1) (omega arith)) (omega arith)
  ]
  | no e ↦ rw (get_or-set_other l j k (get_or l j 0 + 1) 0 e) (omega arith)
]

-- a row is counted
pub counted_allowed : {d : Decision} {n : ℕ} (l : List ℕ) → d ≡ Allowed n → bumped (bumped l 0) (3 + n) ≡ counted_in d l
unfolding counted_in
counted_allowed l e = rw e

pub counted_forbidden : {d : Decision} {n : ℕ} (l : List ℕ) → d ≡ Forbidden n → bumped (bumped l 1) (3 + n) ≡ counted_in d l
unfolding counted_in
counted_forbidden l e = rw e

pub counted_nothing : {d : Decision} (l : List ℕ) → d ≡ Nothing → bumped l 2 ≡ counted_in d l
unfolding counted_in
counted_nothing l e = rw e

pub counted_system : {d : Decision} (l : List ℕ) → d ≡ System → bumped l 3 ≡ counted_in d l
unfolding counted_in
counted_system l e = rw e

-- a row's turn in the count
pub counted_turn : (d : ℕ → Decision) (row : ℕ) {group last : List ℕ} {e : Decision} → group ≡ tally_of d row → e ≡ d row → last ≡ counted_in e group → Countable (d row)
    → last ≡ tally_of d (row + 1)
counted_turn d row {group} {last} {e} g is l c = l ∙ rw (is, g) (group_more d row c)

-- ---- what a count counts

-- at places 0 to 3, the outcomes
pub counts_outcome : (o : ℕ) → 1 ≤ o → o ≤ 4 → (d : Decision) → (counts_at (o - 1) d ≡ true) ↔ (outcome_of d ≡ o)
unfolding counts_at
counts_outcome o some few d =
    let e : o - 1 + 1 ≡ o = omega arith in
    rw (lt-ltb (o - 1) 4 (omega arith), e) (λ h. eqb-true (outcome_of d) o h, λ h. eq-eqb (outcome_of d) o h)

-- at places 4 to 67, the policies
pub counts_policy : (n : ℕ) (d : Decision) → 1 ≤ n → (counts_at (n + 3) d ≡ true) ↔ (policy_of d ≡ n)
unfolding counts_at
counts_policy n d some =
    let e : n + 3 - 3 ≡ n = omega arith in
    rw (le-ltb (n + 3) 4 (omega arith), e) (λ h. eqb-true (policy_of d) n h, λ h. eq-eqb (policy_of d) n h)

yes_or_system : (d : Decision) → cond (is_allowed d) 1 0 ≡ cond (counts_at 0 d) 1 0 + cond (counts_at 3 d) 1 0
unfolding is_allowed counts_at outcome_of
yes_or_system (Allowed n) = refl
yes_or_system (Forbidden n) = refl
yes_or_system Nothing = refl
yes_or_system System = refl

-- the rows that get yes are those of outcomes 1 and 4
pub yes_counted : (d : ℕ → Decision) (n : ℕ) → how_many (λ row. is_allowed (d row)) n ≡ how_many (λ row. counts_at 0 (d row)) n + how_many (λ row. counts_at 3 (d row)) n
unfolding how_many
yes_counted d zero = refl
yes_counted d (suc n) = omega (arith, yes_counted d n, yes_or_system (d n))
