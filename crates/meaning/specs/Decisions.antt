-- When a policy is satisfied, what is decided, and the mark (document 01, 'Deciding'; demand 2; document 02, requests 6 and 7). Definitions only.
use Rattle.std.specs.Prelude.{◌≡◌, ◌⊎◌, ◌↔◌, Bool, true, false, cond, not, ◌&&◌, List, [], ◌∷◌, map, ℕ, zero, suc, ◌+◌, ◌-◌, ◌*◌, ◌/◌, ◌%◌, ◌^◌, ◌≤◌, ◌<◌, eqb}
use Rattle.std.proofs.Math.Option.{Option, none, some}
use Rattle.grammar.specs.Policies.{TreeOf, PolicyOf}
use Rattle.grammar.specs.Rules.{principal_types, resource_types}
use Rattle.grammar.specs.declared.Version.{Version}
use Rattle.placing.specs.Said.{Word}
use Rattle.views.specs.Meaning.{View}
use Rattle.meaning.specs.Values.{with_action}
use Rattle.meaning.specs.Conditions.{settles, verdict, is_yes}
use Rattle.meaning.specs.Targets.{Request, is_system, part_matches, action_matches}
use Rattle.meaning.specs.declared.Decision.{Decision}
use Rattle.meaning.specs.declared.Decision.TheVariants.{Allowed, Forbidden, Nothing, System}
use Rattle.meaning.specs.declared.Marked.{Marked}

-- ---- satisfied policies

-- the terms on which policies are met: the version of the rules, and what the attributes are
pub record Terms : Type 0 where
  pub version : Version
  pub view : View

-- these attributes, under a version
abbrev pub under : Version → View → Terms
under version view = record { version = version; view = view }

-- the three parts of a policy's target match the request
unfoldable pub target_matches : Request → PolicyOf Word → Bool
target_matches q p =
    part_matches principal_types q.subject p.principal && action_matches q.action p.action && part_matches resource_types q.resource p.resource

-- its condition, if any, is true
unfoldable pub condition_holds : Terms → Option (TreeOf Word) → Bool
condition_holds terms none = true
condition_holds terms (some c) = is_yes (verdict (settles terms.version) terms.view c)

-- a policy is satisfied if its target parts match and its condition, if any, is true
unfoldable pub satisfied : Terms → Request → PolicyOf Word → Bool
satisfied terms q p = target_matches q p && condition_holds (under terms.version (with_action q.action terms.view)) p.condition

-- ---- the decision

-- the number of the first of a list that passes the test, where they count from n on; 0 where none does
unfoldable pub first_of : {A : Type 0} → (A → Bool) → ℕ → List A → ℕ
first_of test n [] = 0
first_of test n (p ∷ ps) = cond (test p) n (first_of test (suc n) ps)

-- the lowest-numbered satisfied forbid decides, else the lowest-numbered satisfied permit
unfoldable pub by_numbers : ℕ → ℕ → Decision
by_numbers zero zero = Nothing
by_numbers zero (suc permit) = Allowed (suc permit)
by_numbers (suc forbid) permit = Forbidden (suc forbid)

-- a satisfied forbid, and a satisfied permit
abbrev pub forbids : Terms → Request → PolicyOf Word → Bool
forbids terms q p = not p.permits && satisfied terms q p

abbrev pub permits : Terms → Request → PolicyOf Word → Bool
permits terms q p = p.permits && satisfied terms q p

-- what the policies decide
unfoldable pub policies_decide : Terms → Request → List (PolicyOf Word) → Decision
policies_decide terms q ps = by_numbers (first_of (forbids terms q) 1 ps) (first_of (permits terms q) 1 ps)

-- the system may do all
unfoldable pub decision_of : Terms → Request → List (PolicyOf Word) → Decision
decision_of terms q ps = cond (is_system q.subject) System (policies_decide terms q ps)

-- document 01's number of each outcome
unfoldable pub outcome_of : Decision → ℕ
outcome_of (Allowed n) = 1
outcome_of (Forbidden n) = 2
outcome_of Nothing = 3
outcome_of System = 4

-- and of the policy: 0 where nothing is satisfied, and for the system
unfoldable pub policy_of : Decision → ℕ
policy_of (Allowed n) = n
policy_of (Forbidden n) = n
policy_of Nothing = 0
policy_of System = 0

-- the request gets yes: outcome 1 or 4
unfoldable pub is_allowed : Decision → Bool
is_allowed (Allowed n) = true
is_allowed (Forbidden n) = false
is_allowed Nothing = false
is_allowed System = true

-- ---- the mark

-- the mark of a list: bit n - 1 is set exactly when number n of it passes the test
unfoldable pub mark_by : {A : Type 0} → (A → Bool) → List A → ℕ
mark_by test [] = 0
mark_by test (p ∷ ps) = cond (test p) 1 0 + 2 * mark_by test ps

-- that of the satisfied policies
abbrev pub mark_of : Terms → Request → List (PolicyOf Word) → ℕ
mark_of terms q ps = mark_by (satisfied terms q) ps

-- a decision's mark: none for the system
unfoldable pub decided_mark : Terms → Request → List (PolicyOf Word) → ℕ
decided_mark terms q ps = cond (is_system q.subject) 0 (mark_of terms q ps)

-- what the policies decide, with their mark
abbrev pub policies_marked : Terms → Request → List (PolicyOf Word) → Marked
policies_marked terms q ps = record { d = policies_decide terms q ps; mark = mark_of terms q ps }

-- the same, the system first
abbrev pub marked_of : Terms → Request → List (PolicyOf Word) → Marked
marked_of terms q ps = record { d = decision_of terms q ps; mark = decided_mark terms q ps }

-- the system's
abbrev pub system_marked : Marked
system_marked = record { d = System; mark = 0 }

-- whether each policy permits
abbrev pub effects_of : List (PolicyOf Word) → List Bool
effects_of ps = map (λ p. p.permits) ps

-- the number of the first policy of this effect whose bit is set, where they count from n on; 0 where there is none
unfoldable pub first_marked : (Bool → Bool) → ℕ → List Bool → ℕ → ℕ
first_marked effect n [] mark = 0
first_marked effect n (permits ∷ rest) mark = cond (effect permits && eqb (mark % 2) 1) n (first_marked effect (suc n) rest (mark / 2))

-- the decision by the mark and the effects alone: the lowest-numbered forbid whose bit is set, else the lowest-numbered such permit
unfoldable pub decided_by : List Bool → ℕ → Decision
decided_by effects mark = by_numbers (first_marked not 1 effects mark) (first_marked (λ permits. permits) 1 effects mark)

-- ---- demand 2, without computing

-- number n of a list, from 1 on
pub data Numbered {A : Type 0} : ℕ → A → List A → Type 0 where
  first : {p : A} {ps : List A} → Numbered 1 p (p ∷ ps)
  later : {n : ℕ} {p q : A} {ps : List A} → Numbered n p ps → Numbered (suc n) p (q ∷ ps)

-- policy number n has this effect and is satisfied
pub record SatisfiedAs (terms : Terms) (q : Request) (ps : List (PolicyOf Word)) (permits : Bool) (n : ℕ) : Type 0 where
  pub policy : PolicyOf Word
  pub numbered : Numbered n policy ps
  pub effect : policy.permits ≡ permits
  pub satisfied_there : satisfied terms q policy ≡ true

-- some policy of this effect is satisfied
pub record SomeSatisfied (terms : Terms) (q : Request) (ps : List (PolicyOf Word)) (permits : Bool) : Type 0 where
  pub number : ℕ
  pub satisfied_as : SatisfiedAs terms q ps permits number

-- n is the lowest number of a satisfied policy of this effect
pub record LowestSatisfied (terms : Terms) (q : Request) (ps : List (PolicyOf Word)) (permits : Bool) (n : ℕ) : Type 0 where
  pub satisfied_as : SatisfiedAs terms q ps permits n
  pub lowest : (m : ℕ) → SatisfiedAs terms q ps permits m → n ≤ m

-- A request gets yes exactly if the subject is the system, or some permit is satisfied and no forbid is.
unfoldable pub YesExactly : Type 0
YesExactly = (terms : Terms) (q : Request) (ps : List (PolicyOf Word))
    → (is_allowed (decision_of terms q ps) ≡ true)
    ↔ ((is_system q.subject ≡ true) ⊎ (SomeSatisfied terms q ps true × (SomeSatisfied terms q ps false → ⊥)))

-- For any subject but the system the answer names the lowest-numbered satisfied forbid, else the lowest-numbered satisfied permit, else none; for the system it
-- names none.
pub data NamesPolicy (terms : Terms) (q : Request) (ps : List (PolicyOf Word)) : ℕ → Type 0 where
  the_system : is_system q.subject ≡ true → NamesPolicy terms q ps 0
  a_forbid : {n : ℕ} → is_system q.subject ≡ false → LowestSatisfied terms q ps false n → NamesPolicy terms q ps n
  a_permit : {n : ℕ} → is_system q.subject ≡ false → (SomeSatisfied terms q ps false → ⊥) → LowestSatisfied terms q ps true n
      → NamesPolicy terms q ps n
  none_named : is_system q.subject ≡ false → (SomeSatisfied terms q ps false → ⊥) → (SomeSatisfied terms q ps true → ⊥)
      → NamesPolicy terms q ps 0

-- What is decided names so.
unfoldable pub NamedRightly : Type 0
NamedRightly = (terms : Terms) (q : Request) (ps : List (PolicyOf Word)) → NamesPolicy terms q ps (policy_of (decision_of terms q ps))

-- And there is one such number.
unfoldable pub OneName : Type 0
OneName = (terms : Terms) (q : Request) (ps : List (PolicyOf Word)) (m n : ℕ) → NamesPolicy terms q ps m → NamesPolicy terms q ps n → m ≡ n

-- ---- the mark, without computing

-- bit n - 1 of a mark is set, n from 1 on
pub record BitSet (mark n : ℕ) : Type 0 where
  pub some : 0 < n
  pub set : mark / 2 ^ (n - 1) % 2 ≡ 1

-- policy number n is satisfied
pub record SatisfiedAt (terms : Terms) (q : Request) (ps : List (PolicyOf Word)) (n : ℕ) : Type 0 where
  pub policy : PolicyOf Word
  pub numbered : Numbered n policy ps
  pub satisfied_there : satisfied terms q policy ≡ true

-- A mark for any subject but the system: bit n - 1 is set exactly when policy n is satisfied, for every n. For the system no bit is.
pub data MarksExactly (terms : Terms) (q : Request) (ps : List (PolicyOf Word)) : ℕ → Type 0 where
  for_the_system : is_system q.subject ≡ true → MarksExactly terms q ps 0
  for_another : {mark : ℕ} → is_system q.subject ≡ false → ((n : ℕ) → BitSet mark n ↔ SatisfiedAt terms q ps n) → MarksExactly terms q ps mark

-- A decision's mark marks so.
unfoldable pub MarkedRightly : Type 0
MarkedRightly = (terms : Terms) (q : Request) (ps : List (PolicyOf Word)) → MarksExactly terms q ps (decided_mark terms q ps)

-- And there is one such number.
unfoldable pub OneMark : Type 0
OneMark = (terms : Terms) (q : Request) (ps : List (PolicyOf Word)) (m n : ℕ) → MarksExactly terms q ps m → MarksExactly terms q ps n → m ≡ n

-- Outcome and policy follow from mark and effects.
unfoldable pub MarkDecides : Type 0
MarkDecides = (terms : Terms) (q : Request) (ps : List (PolicyOf Word)) (mark : ℕ) → is_system q.subject ≡ false → MarksExactly terms q ps mark
    → decision_of terms q ps ≡ decided_by (effects_of ps) mark
