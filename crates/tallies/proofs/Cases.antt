-- The cases of a call for a tally, test by test in document 02's order; and the rules that a request is counted by. Assumes nothing.
use Rattle.std.specs.Prelude.{Some, None}
use Rattle.std.proofs.lemmas.Option.{none-some, same_Some}
use mathlib.Core.Path.{◌≡◌, refl, sym, ap, ◌∙◌}
use mathlib.Core.Bool.{Bool, true, false, cond, ◌||◌}
use mathlib.Core.List.{List}
use Prim.Native.Nat.{ℕ, zero, suc, ◌≤◌, ◌<◌}
use native.Mathlib.Decide.{ℕ_discrete}
use native.Mathlib.Omega.{arith}
use borrow.Author.Tests.{le-leb, lt-leb, eq-eqb, ne_eqb, ltb-true, ltb-false}
use lib.Dec.{eqb, ltb}
use Rattle.grammar.specs.Rules.{principal_types, resource_types}
use Rattle.placing.specs.Said.{words_of}
use Rattle.compiling.specs.Outcome.{table_size, held_of, begins_of}
use Rattle.compiling.proofs.Outcomes.{right_begins, wrong_begins}
use Rattle.bags.specs.Sections.{sections_of}
use Rattle.bags.specs.declared.sections.Sections.{Sections}
use Rattle.questions.specs.Questions.{is_question}
use Rattle.stored.specs.ReadBack.{policies_at}
use Rattle.meaning.specs.Targets.{Request, is_typed, type_in, is_system}
use Rattle.targets.specs.Matching.{TypesOf}
use Rattle.targets.specs.declared.Types.{Types}
use Rattle.deciding.specs.Answers.{words_in}
use Rattle.deciding.proofs.HeldLaws.{held_says, held_ready, held_many, held_few}
use Rattle.pages.specs.Tally.{tally_of}
use Rattle.table.specs.Recorded.{recorded}
use Rattle.sheets.specs.Sheets.{rows_in, decision_at, divided_as, unless}
use Rattle.turns.proofs.RowLaws.{none_ready, none_many}
use Rattle.tallies.specs.Lent.{requests_of}
use Rattle.tallies.specs.Tallies.{form_refusal, first_wrong, some_asks, first_refusal, group_count, groups_of, with_sums, group_for, RequestsTallied, tally_refusal, counts_after, Tallied}
use Rattle.tallies.specs.Counted.{RulesHeld}
use Rattle.compiling.specs.declared.TableSize.{TableSize}
use Rattle.tallies.proofs.Refusing.{first_refusal_is, groups_alike, parts_right}
use Rattle.tallies.proofs.Deciders.{system_counts}

-- ---- the rules

-- what the table holds where it was looked at, and nothing where it was not
pub held_rules : (text table : List ℕ) (b : Bool) {rules : TableSize} → cond b (held_of text table) (Some (table_size 0 0)) ≡ Some rules
    → RulesHeld text table rules.policies rules.entries
held_rules text table true {rules} h =
    let policies = rules.policies in
    let entries = rules.entries in
    record { ready = held_ready text table policies entries h; many = held_many text table policies entries h; few = held_few text table policies entries h }
held_rules text table false h =
    rw (← same_Some _ _ h) (record { ready = none_ready text table; many = none_many table; few = omega arith })

-- those for a request: none for the system
module _ {r : TableSize} (b : Bool) (policies entries : ℕ) (is : r ≡ record { policies = cond b 0 policies; entries = cond b 0 entries }) where
  many_are : r.policies ≡ cond b 0 policies
  many_are = ap (λ (r : TableSize). r.policies) is

  entries_are : r.entries ≡ cond b 0 entries
  entries_are = ap (λ (r : TableSize). r.entries) is

  pub rules_are : {text table : List ℕ} → RulesHeld text table policies entries → RulesHeld text table r.policies r.entries
  rules_are {text} {table} h = rw (many_are, entries_are) (go b)
    where
      go : (b : Bool) → RulesHeld text table (cond b 0 policies) (cond b 0 entries)
      go true = record { ready = none_ready text table; many = none_many table; few = omega arith }
      go false = h

  module _ (q : Request) (whose : b ≡ is_system q.subject) where
    -- any other subject has its type, and so has the resource
    pub types_are : form_refusal q ≡ 0 → {types : Types}
        → types.subject ≡ cond (is_typed principal_types q.subject) (type_in principal_types q.subject) 0
        → types.resource ≡ cond (is_typed resource_types q.resource) (type_in resource_types q.resource) 0
        → 0 < r.entries → TypesOf types q.subject q.resource
    types_are right {types} s t some = go b refl
      where
        go : (a : Bool) → b ≡ a → TypesOf types q.subject q.resource
        go true e = absurd (let z : r.entries ≡ 0 = rw e at entries_are in omega arith)
        go false e =
            let k = parts_right q right (sym whose ∙ e) in
            record { subject_type = rw k.0 at s; resource_type = rw k.2 at t }

    -- and the counts are those by all that the table holds
    pub counts_are : (text table s : List ℕ) (p : Sections) (n : ℕ)
        → tally_of (decision_at (recorded table) s p q (words_of text (policies_at table r.entries))) n ≡ tally_of (decision_at (recorded table) s p q (words_of text (policies_at table entries))) n
    counts_are text table s p n = go b refl
      where
        go : (a : Bool) → b ≡ a
            → tally_of (decision_at (recorded table) s p q (words_of text (policies_at table r.entries))) n ≡ tally_of (decision_at (recorded table) s p q (words_of text (policies_at table entries))) n
        go true e = system_counts (recorded table) s p q (words_of text (policies_at table r.entries)) (words_of text (policies_at table entries)) n (sym whose ∙ e)
        go false e = let z : r.entries ≡ entries = rw e at entries_are in ap (λ (m : ℕ). tally_of (decision_at (recorded table) s p q (words_of text (policies_at table m))) n) z

-- ---- a tally for a question

module _ (text table s : List ℕ) (p : Sections) (qs : List Request) (before : List ℕ) where
  refused_by : (n : ℕ) → first_refusal text table qs ≡ suc n → RequestsTallied text table s p qs before (suc n) before
  unfolding unless
  refused_by n e = record { answered = sym e; counts = rw e }

  -- the table is looked at and wrong
  pub wrong_table : (b : Bool) → some_asks qs ≡ b → cond b (held_of text table) (Some (table_size 0 0)) ≡ None → RequestsTallied text table s p qs before 20 before
  wrong_table false a h = absurd (none-some _ (sym h))
  wrong_table true a h =
      let w : begins_of text table ≡ false = sym (wrong_begins text table (sym h)) in
      refused_by 19 (first_refusal_is text table qs ∙ rw (a, w))

  -- it is right, or not looked at
  table_right : (b : Bool) → some_asks qs ≡ b → {rules : TableSize} → cond b (held_of text table) (Some (table_size 0 0)) ≡ Some rules
      → first_refusal text table qs ≡ first_wrong qs
  table_right false a h = first_refusal_is text table qs ∙ rw a
  table_right true a {rules} h =
      let held : Some (table_size rules.policies rules.entries) ≡ held_of text table = sym h in
      let w : begins_of text table ≡ true = sym (right_begins text table held) in
      first_refusal_is text table qs ∙ rw (a, w)

  wrong_by : (n : ℕ) → (n ≡ 0 → ⊥) → first_refusal text table qs ≡ n → RequestsTallied text table s p qs before n before
  wrong_by zero h e = absurd (h refl)
  wrong_by (suc n) h e = refused_by n e

  -- a request is refused by itself
  pub wrong_request : (b : Bool) → some_asks qs ≡ b → {rules : TableSize} {n : ℕ} → cond b (held_of text table) (Some (table_size 0 0)) ≡ Some rules
      → n ≡ first_wrong qs → (n ≡ 0 → ⊥) → RequestsTallied text table s p qs before n before
  wrong_request b a {n = n} h e z = wrong_by n z (table_right b a h ∙ sym e)

  -- nothing is refused: the groups are those by the policies that the text says
  groups_said : (b : Bool) → some_asks qs ≡ b → {rules : TableSize} → cond b (held_of text table) (Some (table_size 0 0)) ≡ Some rules → first_wrong qs ≡ 0
      → groups_of group_count (λ q. tally_of (decision_at (recorded table) s p q (words_of text (policies_at table rules.entries))) (rows_in s p)) qs ≡ groups_of group_count (group_for text table s p) qs
  groups_said true a {rules} h w = rw (held_says text table rules.policies rules.entries h)
  groups_said false a {rules} h w =
      groups_alike (λ q. tally_of (decision_at (recorded table) s p q (words_of text (policies_at table rules.entries))) (rows_in s p)) (group_for text table s p)
      (λ q e. system_counts (recorded table) s p q (words_of text (policies_at table rules.entries)) (words_in text) (rows_in s p) e) group_count qs w a

  pub all_tallied : (b : Bool) → some_asks qs ≡ b → {rules : TableSize} {n : ℕ} → cond b (held_of text table) (Some (table_size 0 0)) ≡ Some rules
      → n ≡ first_wrong qs → n ≡ 0 → {after : List ℕ}
      → after ≡ with_sums (groups_of group_count (λ q. tally_of (decision_at (recorded table) s p q (words_of text (policies_at table rules.entries))) (rows_in s p)) qs)
      → RequestsTallied text table s p qs before n after
  unfolding unless
  all_tallied b a h e z c =
      let w : first_wrong qs ≡ 0 = sym e ∙ z in
      let none : first_refusal text table qs ≡ 0 = table_right b a h ∙ w in
      record { answered = z ∙ sym none; counts = rw none (c ∙ ap with_sums (groups_said b a h w)) }

-- ---- the call

module _ (text table s : List ℕ) (many : ℕ) (requests before : List ℕ) where
  refused_with : (n : ℕ) → tally_refusal text table s many requests ≡ suc n → Tallied text table s many requests before (suc n) before
  unfolding unless counts_after
  refused_with n e = record { answered = sym e; counts = rw e }

  pub refused_none : many ≡ 0 → Tallied text table s many requests before 27 before
  unfolding tally_refusal
  refused_none h = let l : many < 1 = omega arith in refused_with 26 (rw (lt-leb 1 many l))

  pub refused_many : group_count < many → Tallied text table s many requests before 27 before
  unfolding tally_refusal
  refused_many h = let l : 1 ≤ many = omega arith in refused_with 26 (rw (le-leb 1 many l, lt-leb many group_count h))

  pub refused_27 : (eqb many 0 || ltb group_count many) ≡ true → Tallied text table s many requests before 27 before
  refused_27 h = elim (ℕ_discrete many 0) [
    | yes e ↦ refused_none e
    | no e ↦ refused_many (ltb-true group_count many (rw (ne_eqb many 0 e) at h))
  ]

  module _ (some : 1 ≤ many) (few : many ≤ group_count) where
    pub refused_24 : is_question s ≡ false → Tallied text table s many requests before 24 before
    unfolding tally_refusal
    refused_24 e = refused_with 23 (rw (le-leb 1 many some, le-leb many group_count few, e))

    pub tallied_there : is_question s ≡ true → (p : Sections) → sections_of s ≡ Some p → {answer : ℕ} {after : List ℕ}
        → RequestsTallied text table s p (requests_of many requests) before answer after → Tallied text table s many requests before answer after
    unfolding tally_refusal counts_after divided_as
    tallied_there form p divided w =
        let is : tally_refusal text table s many requests ≡ first_refusal text table (requests_of many requests) = rw (le-leb 1 many some, le-leb many group_count few, form) in
        record { answered = w.answered ∙ sym is; counts = w.counts ∙ rw (le-leb 1 many some, le-leb many group_count few, form, divided) }

-- one to eight requests
pub one_to_eight : (many : ℕ) → (eqb many 0 || ltb group_count many) ≡ false → (1 ≤ many) × (many ≤ group_count)
one_to_eight many h = elim (ℕ_discrete many 0) [
  | yes e ↦ absurd (let z : true ≡ false = rw (eq-eqb many 0 e) at h in let y : ◌≡◌ {A = ℕ} 0 1 = cc in omega arith)
  | no e ↦ (omega arith, ltb-false group_count many (rw (ne_eqb many 0 e) at h))
]
