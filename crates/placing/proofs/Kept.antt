-- Policies say the same where other text is put behind theirs: what they hold lies in their own. Assumes nothing.
use mathlib.Core.Path.{◌≡◌, refl, ap}
use mathlib.Core.List.{List, [], ◌∷◌, ◌++◌}
use mathlib.Core.Option.{Option}
use Prim.Native.Nat.{ℕ, zero, suc, ◌+◌, ◌≤◌, ◌-◌}
use native.Mathlib.Omega.{arith}
use lib.ListN.{length, take, drop}
use Rattle.grammar.specs.Policies.{Span, Literal, Operand, Tree, Part, Actions, Policy}
use Rattle.placing.specs.Placed.{Each, none_left, and_each, Lies, LiteralPlaced, a_string, a_number, a_truth, ActionPlaced, an_action, OperandPlaced, an_attribute, a_literal, TreePlaced, a_constant, a_comparison, a_likeness, in_list, in_an_attribute, a_call, a_presence, a_negation, in_brackets, a_conjunction, a_disjunction, a_choice, PrincipalPlaced, any_principal, principal_type, ResourcePlaced, any_resource, resource_type, one_resource, ActionsPlaced, any_action, one_of_placed, ConditionPlaced, no_condition, a_condition, PolicyPlaced}
use Rattle.placing.specs.Words.{literal_places, list_places, operand_places, tree_places, part_places, action_places, condition_places, policy_places, SameAt, SameWords, AllSaidAlike}
use Rattle.placing.specs.Moved.{WordsKept}
use Rattle.placing.proofs.EachLaws.{each_append, each_as}
use Rattle.placing.proofs.Words.{all_said_alike}

-- ---- the places of placed policies lie in the text

module _ {t : List ℕ} where
  literal_lies : {l : Literal} → LiteralPlaced t l → Each (Lies t) (literal_places l)
  unfolding literal_places
  literal_lies (a_string p) = and_each p.lies none_left
  literal_lies (a_number p) = and_each p.lies none_left
  literal_lies a_truth = none_left

  action_lies : {l : Literal} → ActionPlaced t l → Each (Lies t) (literal_places l)
  unfolding literal_places
  action_lies (an_action p) = and_each p.lies none_left

  list_lies : {P : Literal → Type 0} {ls : List Literal} → ((l : Literal) → P l → Each (Lies t) (literal_places l)) → Each P ls → Each (Lies t) (list_places ls)
  unfolding list_places
  list_lies f none_left = none_left
  list_lies f (and_each p h) = each_append _ _ (f _ p) (list_lies f h)

  operand_lies : {a : Operand} → OperandPlaced t a → Each (Lies t) (operand_places a)
  unfolding operand_places
  operand_lies (an_attribute p) = and_each p.lies none_left
  operand_lies (a_literal p) = literal_lies p

  tree_lies : {c : Tree} → TreePlaced t c → Each (Lies t) (tree_places c)
  unfolding tree_places
  tree_lies a_constant = none_left
  tree_lies (a_comparison p q) = each_append _ _ (operand_lies p) (operand_lies q)
  tree_lies (a_likeness p q r) = and_each q.lies (operand_lies p)
  tree_lies (in_list p q) = each_append _ _ (operand_lies p) (list_lies (λ l. literal_lies) q.each)
  tree_lies (in_an_attribute p q) = and_each q.lies (operand_lies p)
  tree_lies (a_call p q) = and_each p.lies (list_lies (λ l. literal_lies) q.each)
  tree_lies (a_presence p) = and_each p.lies none_left
  tree_lies (a_negation p) = tree_lies p
  tree_lies (in_brackets p) = tree_lies p
  tree_lies (a_conjunction p q) = each_append _ _ (tree_lies p) (tree_lies q)
  tree_lies (a_disjunction p q) = each_append _ _ (tree_lies p) (tree_lies q)
  tree_lies (a_choice p q r) = each_append _ _ (tree_lies p) (each_append _ _ (tree_lies q) (tree_lies r))

  principal_lies : {p : Part} → PrincipalPlaced p → Each (Lies t) (part_places p)
  unfolding part_places
  principal_lies any_principal = none_left
  principal_lies (principal_type l h) = none_left

  resource_lies : {p : Part} → ResourcePlaced t p → Each (Lies t) (part_places p)
  unfolding part_places
  resource_lies any_resource = none_left
  resource_lies (resource_type l h) = none_left
  resource_lies (one_resource p) = and_each p.lies none_left

  actions_lie : {a : Actions} → ActionsPlaced t a → Each (Lies t) (action_places a)
  unfolding action_places
  actions_lie any_action = none_left
  actions_lie (one_of_placed p) = list_lies (λ l. action_lies) p.each

  condition_lies : {c : Option Tree} → ConditionPlaced t c → Each (Lies t) (condition_places c)
  unfolding condition_places
  condition_lies no_condition = none_left
  condition_lies (a_condition p d) = tree_lies p

  policy_lies : {p : Policy} → PolicyPlaced t p → Each (Lies t) (policy_places p)
  unfolding policy_places
  policy_lies h = each_append _ _ (principal_lies h.principal) (each_append _ _ (actions_lie h.action) (each_append _ _ (resource_lies h.resource) (condition_lies h.condition)))

-- ---- and have the same bytes there

front : (t b : List ℕ) (k n : ℕ) → k + n ≤ length t → take n (drop k (t ++ b)) ≡ take n (drop k t)
front t b k zero h = refl
front [] b k (suc n) h = absurd (omega arith)
front (x ∷ t) b zero (suc n) h = ap (λ (l : List ℕ). x ∷ l) (front t b 0 n (omega arith))
front (x ∷ t) b (suc k) (suc n) h = front t b k (suc n) (omega arith)

pub words_kept : WordsKept
unfolding WordsKept AllSaidAlike
words_kept t b ps h = all_said_alike (t ++ b) t ps (each_as (λ p q. same_words p q) h.each)
  where
    same_at : (s : Span) → Lies t s → SameAt (t ++ b) t s
    same_at s l = record { same = front t b s.start (s.end - s.start) (let u = l.some in let v = l.high in omega arith) }

    same_words : (p : Policy) → PolicyPlaced t p → SameWords (t ++ b) t p
    same_words p q = record { there = each_as same_at (policy_lies q) }
