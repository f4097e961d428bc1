-- A table that begins with a text's entries has its policies stored: their fields fit into two bytes each. Assumes nothing.
use mathlib.Core.Path.{◌≡◌, ◌∙◌}
use mathlib.Core.Bool.{true, false}
use mathlib.Core.List.{List, [], ◌∷◌, ◌++◌}
use mathlib.Core.Option.{Option}
use Prim.Native.Nat.{ℕ, ◌+◌, ◌≤◌, ◌<◌}
use native.Mathlib.Omega.{arith}
use lib.ListN.{length, length-append}
use Rattle.grammar.specs.Policies.{Span, Literal, Operand, Tree, Part, Actions, Policy}
use Rattle.grammar.specs.declared.Version.{Version}
use Rattle.placing.specs.Placed.{Lies, Each, none_left, and_each, LiteralPlaced, a_string, a_number, a_truth, ActionPlaced, an_action, OperandPlaced, an_attribute, a_literal, Listed, TreePlaced, a_constant, a_comparison, a_likeness, in_list, in_an_attribute, a_call, a_presence, a_negation, in_brackets, a_conjunction, a_disjunction, a_choice, PrincipalPlaced, any_principal, principal_type, ResourcePlaced, any_resource, resource_type, one_resource, ActionsPlaced, any_action, one_of_placed, ConditionPlaced, no_condition, a_condition, PolicyPlaced}
use Rattle.placing.proofs.Theorems.{policies_placed, span_fits}
use Rattle.table.specs.declared.Entry.{Entry}
use Rattle.table.specs.Entries.{entry, placed, literal_entry, literal_entries, operand_entry, which_kind, tree_entries, part_entry, raised, principal_entry, action_entries, condition_entries, effect_kind, target_entries, policy_entries, policies_entries}
use Rattle.slices.specs.Parts.{Begins}
use Rattle.table.specs.Layout.{entry_at, held, bytes_of, starts_with}
use Rattle.stored.specs.Stored.{TextSays, StandFrom, StoredPolicies}
use Rattle.stored.specs.Stored as stored
use Rattle.table.proofs.Holding.{held_starts, held_entry, held_right, starts_decides}
use Rattle.placing.proofs.EachLaws.{each_append}
use Rattle.table.proofs.Counting.{entries_few}

-- both fields of an entry fit into their two bytes
record Small (x : Entry) : Type 0 where
  first : x.first < 65536
  second : x.second < 65536

small : {k : ℕ} (a b : ℕ) → a < 65536 → b < 65536 → Small (entry k a b)
small a b h i = record { first = h; second = i }

no_fields : {k : ℕ} → Small (entry k 0 0)
no_fields = small 0 0 (omega arith) (omega arith)

one : {x : Entry} → Small x → Each Small (x ∷ [])
one h = and_each h none_left

module _ (t : List ℕ) (short : length t ≤ 8192) where
  -- ---- places

  placed_small : {k : ℕ} {s : Span} → Lies t s → Small (placed k s)
  placed_small l = let (a, b) = span_fits l short in record { first = a; second = b }

  literal_small : {l : Literal} → LiteralPlaced t l → Small (literal_entry l)
  unfolding literal_entry
  literal_small (a_string p) = placed_small p.lies
  literal_small (a_number p) = placed_small p.lies
  literal_small (a_truth {b = true}) = no_fields
  literal_small (a_truth {b = false}) = no_fields

  operand_small : {a : Operand} → OperandPlaced t a → Small (operand_entry a)
  unfolding operand_entry
  operand_small (an_attribute p) = placed_small p.lies
  operand_small (a_literal l) = literal_small l

  literals_small : {P : Literal → Type 0} → ((l : Literal) → P l → Small (literal_entry l)) → {ls : List Literal} → Each P ls → Each Small (literal_entries ls)
  literals_small f none_left = none_left
  literals_small f (and_each p h) = and_each (f _ p) (literals_small f h)

  listed_small : {P : Literal → Type 0} → ((l : Literal) → P l → Small (literal_entry l)) → (k : ℕ) (ls : List Literal) → Listed P ls
      → Each Small (literal_entries ls ++ entry k (length ls) 0 ∷ [])
  listed_small f k ls h = let few = h.few in each_append (literal_entries ls) _ (literals_small f h.each) (one (small (length ls) 0 (omega arith) (omega arith)))

  -- ---- conditions

  node_small : (k : ℕ) (es : List Entry) (a b : ℕ) → Each Small es → a < 65536 → b < 65536 → Each Small (es ++ entry k a b ∷ [])
  node_small k es a b h i j = each_append es _ h (one (small a b i j))

  module _ (e : ℕ) (a : List Entry) (b : ℕ → List Entry) where
    joint_small : (k : ℕ) → e + length ((a ++ b (e + length a)) ++ entry k (e + length a) 0 ∷ []) < 65536
        → (e + length a < 65536 → Each Small a) → (e + length a + length (b (e + length a)) < 65536 → Each Small (b (e + length a)))
        → Each Small ((a ++ b (e + length a)) ++ entry k (e + length a) 0 ∷ [])
    joint_small k few f g =
        let m = e + length a in
        let n = length-append (a ++ b m) (entry k m 0 ∷ []) in let o = length-append a (b m) in
        node_small k (a ++ b m) m 0 (each_append a (b m) (f (omega arith)) (g (omega arith))) (omega arith) (omega arith)

  tree_small : {c : Tree} → TreePlaced t c → (e : ℕ) → e + length (tree_entries e c) < 65536 → Each Small (tree_entries e c)
  unfolding tree_entries
  tree_small (a_constant {b = true}) e few = one no_fields
  tree_small (a_constant {b = false}) e few = one no_fields
  tree_small (a_comparison a b) e few = and_each (operand_small a) (and_each (operand_small b) (one no_fields))
  tree_small (a_likeness a s p) e few = and_each (operand_small a) (one (placed_small s.lies))
  tree_small (in_list {ls = ls} a l) e few = and_each (operand_small a) (listed_small (λ x p. literal_small p) 20 ls l)
  tree_small (in_an_attribute a p) e few = and_each (operand_small a) (and_each (placed_small p.lies) (one no_fields))
  tree_small (a_call {w = w} {ls = ls} p l) e few = and_each (placed_small p.lies) (listed_small (λ x q. literal_small q) (which_kind w) ls l)
  tree_small (a_presence p) e few = one (placed_small p.lies)
  tree_small (a_negation {c = c} h) e few =
      let n = length-append (tree_entries e c) (entry 24 0 0 ∷ []) in node_small 24 (tree_entries e c) 0 0 (tree_small h e (omega arith)) (omega arith) (omega arith)
  tree_small (in_brackets {c = c} h) e few =
      let n = length-append (tree_entries e c) (entry 25 0 0 ∷ []) in node_small 25 (tree_entries e c) 0 0 (tree_small h e (omega arith)) (omega arith) (omega arith)
  tree_small (a_conjunction {a = a} {b = b} h i) e few = joint_small e (tree_entries e a) (λ f. tree_entries f b) 26 few (tree_small h e) (tree_small i (e + length (tree_entries e a)))
  tree_small (a_disjunction {a = a} {b = b} h i) e few = joint_small e (tree_entries e a) (λ f. tree_entries f b) 27 few (tree_small h e) (tree_small i (e + length (tree_entries e a)))
  tree_small (a_choice {c = c} {a = a} {b = b} h i j) e few =
      let m = e + length (tree_entries e c) in let n = m + length (tree_entries m a) in
      let es = tree_entries e c ++ tree_entries m a in
      let k = length-append (es ++ tree_entries n b) (entry 28 m n ∷ []) in
      let o = length-append es (tree_entries n b) in let q = length-append (tree_entries e c) (tree_entries m a) in
      let whole : e + length ((es ++ tree_entries n b) ++ entry 28 m n ∷ []) < 65536 = few in
      node_small 28 (es ++ tree_entries n b) m n
      (each_append es (tree_entries n b) (each_append (tree_entries e c) (tree_entries m a) (tree_small h e (omega arith)) (tree_small i m (omega arith))) (tree_small j n (omega arith)))
      (omega arith) (omega arith)

  -- ---- policies

  principal_small : (version : Version) {p : Part} → PrincipalPlaced p → Small (principal_entry version p)
  unfolding principal_entry raised part_entry
  principal_small version any_principal = no_fields
  principal_small version (principal_type {n = n} h i) = small n 0 (omega arith) (omega arith)

  resource_small : {p : Part} → ResourcePlaced t p → Small (part_entry p)
  unfolding part_entry
  resource_small any_resource = no_fields
  resource_small (resource_type {n = n} h i) = small n 0 (omega arith) (omega arith)
  resource_small (one_resource s) = placed_small s.lies

  action_small : {l : Literal} → ActionPlaced t l → Small (literal_entry l)
  unfolding literal_entry
  action_small (an_action p) = placed_small p.lies

  actions_small : {a : Actions} → ActionsPlaced t a → Each Small (action_entries a)
  unfolding action_entries
  actions_small any_action = one no_fields
  actions_small (one_of_placed {ls = ls} h) = listed_small (λ x p. action_small p) 33 ls h

  condition_small : {c : Option Tree} → ConditionPlaced t c → (e : ℕ) → e + length (condition_entries e c) < 65536 → Each Small (condition_entries e c)
  unfolding condition_entries
  condition_small no_condition e few = none_left
  condition_small (a_condition h d) e few = tree_small h e few

  target_small : (version : Version) {p : Policy} → PolicyPlaced t p → Each Small (target_entries version p)
  unfolding target_entries
  target_small version {p} h =
      and_each (principal_small version h.principal) (each_append (action_entries p.action) _ (actions_small h.action) (one (resource_small h.resource)))

  policy_small : (version : Version) {p : Policy} → PolicyPlaced t p → (e : ℕ) → e + length (policy_entries version e p) < 65536
      → Each Small (policy_entries version e p)
  unfolding policy_entries
  policy_small version {p} h e few =
      let a = target_entries version p in let m = e + length a in let b = condition_entries m p.condition in
      let n = length-append (a ++ b) (entry (effect_kind p.permits) e m ∷ []) in let o = length-append a b in
      node_small (effect_kind p.permits) (a ++ b) e m (each_append a b (target_small version h) (condition_small h.condition m (omega arith))) (omega arith) (omega arith)

  policies_small : (version : Version) {ps : List Policy} → Each (PolicyPlaced t) ps → (e : ℕ) → e + length (policies_entries version e ps) < 65536
      → Each Small (policies_entries version e ps)
  unfolding policies_entries
  policies_small version none_left e few = none_left
  policies_small version (and_each {a = p} {l = ps} h hs) e few =
      let a = policy_entries version e p in let m = e + length a in let b = policies_entries version m ps in let n = length-append a b in
      each_append a b (policy_small version h e (omega arith)) (policies_small version hs m (omega arith))

-- ---- a table that begins with a text's entries

-- entries that a table has, with such fields, are those that its accessor gives
stand_by : (T : List ℕ) (e : ℕ) (es : List Entry) → Each Small es → held T e es ≡ true → StandFrom (entry_at T) e es
stand_by T e [] s h = stored.none_left
stand_by T e (x ∷ es) (and_each m s) h = stored.one_more (held_entry T e x es m.first m.second h) (stand_by T (e + 1) es s (held_right T e (x ∷ []) es h))

module _ (version : Version) (table : List ℕ) {t : List ℕ} {ps : List Policy} (says : TextSays t ps) where
  pub begun_stored : held table 0 (policies_entries version 0 ps) ≡ true → StoredPolicies (entry_at table) (length (policies_entries version 0 ps)) ps
  begun_stored h =
      let short = says.short in
      let n = entries_few version t ps says.read in
      let fit = policies_small t short version (policies_placed t ps says.read).each 0 (omega arith) in
      record { version = version; stands = record { from = stand_by table 0 _ fit h; ends = omega arith; few = omega arith } }

  -- the same where it begins with their bytes, by the test and by the statement
  pub starts_stored : starts_with (bytes_of (policies_entries version 0 ps)) table ≡ true → StoredPolicies (entry_at table) (length (policies_entries version 0 ps)) ps
  starts_stored h = begun_stored (held_starts table 0 (policies_entries version 0 ps) ∙ h)

  pub begins_stored : Begins (bytes_of (policies_entries version 0 ps)) table → StoredPolicies (entry_at table) (length (policies_entries version 0 ps)) ps
  begins_stored b = starts_stored ((starts_decides (bytes_of (policies_entries version 0 ps)) table).complete b)
