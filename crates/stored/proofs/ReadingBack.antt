-- What is read back from entries is what is stored there, so they say one condition and one list of policies. Assumes nothing.
use mathlib.Core.Path.{◌≡◌, refl, sym, ◌∙◌, ap, subst}
use mathlib.Core.Bool.{Bool, true, false}
use mathlib.Core.List.{List, [], ◌∷◌}
use mathlib.Core.Option.{Option}
use Prim.Native.Nat.{ℕ, zero, suc, ◌+◌, ◌-◌, ◌≤◌, ◌<◌}
use native.Mathlib.Omega.{arith}
use lib.Dec.{eqb}
use lib.ListN.{length}
use borrow.Author.Tests.{eq-eqb, ne_eqb}
use Rattle.grammar.specs.Policies.{Span, Root, root_byte, Root.Principal, Root.Resource, Root.Env, Root.Action, Comparator, Comparator.Equal, Comparator.NotEqual, Comparator.More, Comparator.AtLeast, Comparator.Less, Comparator.AtMost, Literal, text, number, truth, Operand, attribute, literal, Which, Which.All, Which.Any, Tree, compare, contains, has, not, brackets, Part, any, typed, pinned, Actions, Policy}
use Rattle.table.specs.declared.Entry.{Entry}
use Rattle.table.specs.Entries.{entry, placed, literal_entry, literal_entries, operand_entry, comparator_kind, which_kind, has_kind, part_entry, effect_kind, principal_entry}
use Rattle.grammar.specs.declared.Version.{Version}
use Rattle.table.specs.Recorded.{lowered}
use Rattle.table.proofs.Versions.{lowered_part}
use Rattle.stored.specs.Stored.{Stored, StandFrom, none_left, one_more, TreeByLast, is_true, is_false, is_comparison, is_like, is_among, is_within, is_contains, is_has, is_not, is_brackets, is_both, is_either, is_choice, StoredPolicies, ActionByLast, is_every, is_one_of, ConditionBetween, no_condition, a_condition, PolicyByLast}
use Rattle.stored.specs.ReadBack.{span_of_entry, root_of_kind, literal_of_entry, operand_of_entry, comparator_of_kind, literals_by, tree_from, tree_in, tree_by, part_of_entry, actions_by, condition_by, policy_by, policies_up_to, policies_by}
use Rattle.stored.proofs.Views.{view_of, stored_some}
use Rattle.stored.proofs.Policies.{last_policy, none_stored}

-- ---- operands and literals

root_back : (root : Root) → root_of_kind (root_byte root) ≡ root
unfolding root_of_kind
root_back Principal = refl
root_back Resource = refl
root_back Env = refl
root_back Action = refl

literal_back : (l : Literal) → literal_of_entry (literal_entry l) ≡ l
unfolding literal_of_entry literal_entry
literal_back (text s) = refl
literal_back (number s) = refl
literal_back (truth true) = refl
literal_back (truth false) = refl

plain_back : (l : Literal) → operand_of_entry (literal_entry l) ≡ literal (literal_of_entry (literal_entry l))
unfolding operand_of_entry literal_entry
plain_back (text s) = refl
plain_back (number s) = refl
plain_back (truth true) = refl
plain_back (truth false) = refl

operand_back : (a : Operand) → operand_of_entry (operand_entry a) ≡ a
unfolding operand_of_entry operand_entry root_of_kind
operand_back (attribute Principal s) = refl
operand_back (attribute Resource s) = refl
operand_back (attribute Env s) = refl
operand_back (attribute Action s) = refl
operand_back (literal l) = plain_back l ∙ ap literal (literal_back l)

literals_back : {at : ℕ → Entry} {e : ℕ} (ls : List Literal) → StandFrom at e (literal_entries ls) → literals_by (length ls) at e ≡ ls
unfolding literals_by
literals_back [] none_left = refl
literals_back {at} {e} (l ∷ ls) (one_more h k) = rw (h, literal_back l, literals_back {at = at} {e = e + 1} ls k)

operand_at : {x : Entry} (a : Operand) → x ≡ operand_entry a → operand_of_entry x ≡ a
operand_at a h = ap operand_of_entry h ∙ operand_back a

module _ (at : ℕ → Entry) where
  -- ---- conditions

  module _ (part : ℕ → Tree) (end : ℕ) where
    abbrev here : Entry → Tree
    here x = tree_from part at end x

    comparison_back : (c : Comparator) → here (entry (comparator_kind c) 0 0) ≡ compare c (operand_of_entry (at (end - 3))) (operand_of_entry (at (end - 2)))
    unfolding tree_from comparator_of_kind
    comparison_back Equal = refl
    comparison_back NotEqual = refl
    comparison_back More = refl
    comparison_back AtLeast = refl
    comparison_back Less = refl
    comparison_back AtMost = refl

    has_back : (root : Root) (s : Span) → here (placed (has_kind root) s) ≡ has root s
    unfolding tree_from root_of_kind
    has_back Principal s = refl
    has_back Resource s = refl
    has_back Env s = refl
    has_back Action s = refl

    contains_back : (w : Which) (n : ℕ) → here (entry (which_kind w) n 0)
        ≡ contains w (root_of_kind (at (end - n - 2)).kind) (span_of_entry (at (end - n - 2))) (literals_by n at (end - n - 1))
    unfolding tree_from
    contains_back All n = refl
    contains_back Any n = refl

    module _ (below : (m : ℕ) (u : Tree) → Stored at m u → m < end → part m ≡ u) (more : 0 < end) where
      pub seen_back : {t : Tree} {x : Entry} → TreeByLast at end t x → here x ≡ t
      unfolding tree_from
      seen_back is_true = refl
      seen_back is_false = refl
      seen_back (is_comparison {c = c} {a = a} {b = b} q n h k) = ap (λ (i : ℕ). here (entry i 0 0)) q ∙ comparison_back c ∙ rw (operand_at a h, operand_at b k)
      seen_back (is_like {a = a} n h) = rw (operand_at a h)
      seen_back (is_among {a = a} {ls = ls} n h k) = rw (operand_at a h, literals_back ls k)
      seen_back (is_within {a = a} {root = root} n h k) = rw (operand_at a h, k, root_back root)
      seen_back (is_contains {w = w} {root = root} {ls = ls} q n h k) = ap (λ (i : ℕ). here (entry i (length ls) 0)) q ∙ contains_back w (length ls) ∙ rw (h, root_back root, literals_back ls k)
      seen_back (is_has {root = root} {s = s} q) = ap (λ (i : ℕ). here (placed i s)) q ∙ has_back root s
      seen_back (is_not s) = ap not (below _ _ s (omega arith))
      seen_back (is_brackets s) = ap brackets (below _ _ s (omega arith))
      seen_back (is_both n l r) = rw (below _ _ l n, below _ _ r (omega arith))
      seen_back (is_either n l r) = rw (below _ _ l n, below _ _ r (omega arith))
      seen_back (is_choice m n c a b) = rw (below _ _ c m, below _ _ a n, below _ _ b (omega arith))

  tree_in_lem : (n end : ℕ) (t : Tree) → Stored at end t → end ≤ n → tree_in n at end ≡ t
  unfolding tree_in
  tree_in_lem zero end t h l = let k = stored_some h in absurd (omega arith)
  tree_in_lem (suc n) end t h l = seen_back (tree_in n at) end (λ m u k b. tree_in_lem n m u k (omega arith)) (stored_some h) (view_of t h)

-- the condition that is stored is the one that is read back
pub tree_back : {at : ℕ → Entry} {end : ℕ} {t : Tree} → Stored at end t → tree_by at end ≡ t
tree_back {at} {end} {t} h = tree_in_lem at end end t h (omega arith)

-- ---- policies

part_back : (p : Part) → part_of_entry (part_entry p) ≡ p
unfolding part_of_entry part_entry
part_back any = refl
part_back (typed n) = refl
part_back (pinned s) = refl

part_at : {x : Entry} (p : Part) → x ≡ part_entry p → part_of_entry x ≡ p
part_at p h = ap part_of_entry h ∙ part_back p

principal_at : {x : Entry} (version : Version) (p : Part) → x ≡ principal_entry version p → part_of_entry (lowered x) ≡ p
principal_at version p h = part_at p (ap lowered h ∙ lowered_part version p)

effect_back : (b : Bool) → eqb (effect_kind b) 34 ≡ b
unfolding effect_kind
effect_back true = refl
effect_back false = refl

abbrev policy : Bool → Part → Actions → Part → Option Tree → Policy
policy permits principal action resource condition =
    record { permits = permits; principal = principal; action = action; resource = resource; condition = condition }

-- policies with the same parts are one
same_parts : {p q : Policy} → p.permits ≡ q.permits → p.principal ≡ q.principal → p.action ≡ q.action → p.resource ≡ q.resource
    → p.condition ≡ q.condition → p ≡ q
same_parts {p} {q} a b c d e =
    let same : policy p.permits p.principal p.action p.resource p.condition
    ≡ policy q.permits q.principal q.action q.resource q.condition = cc in
    same

actions_back : {at : ℕ → Entry} {end : ℕ} {a : Actions} {x : Entry} → ActionByLast at end a x → actions_by at end x ≡ a
unfolding actions_by
actions_back is_every = refl
actions_back (is_one_of {ls = ls} n h) = rw (literals_back ls h)

condition_back : {at : ℕ → Entry} {first end : ℕ} {c : Option Tree} → ConditionBetween at first end c → condition_by at first end ≡ c
unfolding condition_by
condition_back {first = first} {end} (no_condition e) = rw (eq-eqb first end e)
condition_back {first = first} {end} (a_condition l h) = rw (ne_eqb first end (λ (e : first ≡ end). omega arith), tree_back h)

pub policy_back : {at : ℕ → Entry} {end : ℕ} {p : Policy} {x : Entry} → PolicyByLast at end p x → policy_by at end x ≡ p
unfolding policy_by
policy_back {p = p} v =
    same_parts
    (ap (λ (k : ℕ). eqb k 34) v.kind ∙ effect_back p.permits)
    (principal_at v.version p.principal v.principal)
    (actions_back v.action)
    (part_at p.resource v.resource)
    (condition_back v.condition)

policies_in : {at : ℕ → Entry} (n end : ℕ) (ps : List Policy) → StoredPolicies at end ps → end ≤ n → policies_up_to n at end ≡ ps
unfolding policies_up_to
policies_in {at} zero end ps h l =
    let e : end ≡ 0 = omega arith in sym (none_stored ps (subst (λ (i : ℕ). StoredPolicies at i ps) e h))
policies_in {at} (suc n) zero ps h l = sym (none_stored ps h)
policies_in {at} (suc n) (suc m) ps h l =
    let k = last_policy ps h (omega arith) in
    let v = k.policy in
    let b = v.begins in let c = v.ends in
    rw (ne_eqb (suc m) 0 (λ (e : suc m ≡ 0). omega arith), policies_in n _ k.front k.before (omega arith), policy_back v) (sym k.is)

-- the policies that are stored are those that are read back
pub policies_back : {at : ℕ → Entry} {end : ℕ} {ps : List Policy} → StoredPolicies at end ps → policies_by at end ≡ ps
policies_back {end = end} {ps = ps} h = policies_in end end ps h (omega arith)

-- two lists of policies that end at the same number are one
pub one_list : {at : ℕ → Entry} {end : ℕ} {ps qs : List Policy} → StoredPolicies at end ps → StoredPolicies at end qs → ps ≡ qs
one_list h k = sym (policies_back h) ∙ policies_back k
