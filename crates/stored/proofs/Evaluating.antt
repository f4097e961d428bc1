-- From a condition's last entry to its parts, and from the last policy to those before it. Assumes nothing.
use mathlib.Core.Path.{◌≡◌, sym, ap, ◌∙◌, subst}
use mathlib.Core.List.{List, [], ◌∷◌}
use mathlib.Core.Option.{Option, some}
use Prim.Native.Nat.{ℕ, suc, ◌+◌, ◌-◌, ◌≤◌, ◌<◌}
use native.Mathlib.Omega.{arith}
use lib.ListN.{length, length-append}
use Rattle.placing.specs.Placed.{Each, TreePlaced, a_negation, in_brackets, a_conjunction, a_disjunction, a_choice, PolicyPlaced, ConditionPlaced}
use Rattle.placing.specs.Placed as placing
use Rattle.grammar.specs.Policies.{Root, Root.Principal, Root.Resource, Root.Env, Root.Action, Comparator, Comparator.Equal, Comparator.NotEqual, Comparator.More, Comparator.AtLeast, Comparator.Less, Comparator.AtMost, Which, Which.All, Which.Any, Tree, Actions, Policy}
use Rattle.table.specs.declared.Entry.{Entry}
use Rattle.table.specs.Entries.{comparator_kind, which_kind, has_kind}
use Rattle.stored.specs.Stored.{Stored, StoredPolicies, TreeByLast, is_true, is_false, is_comparison, is_like, is_among, is_within, is_contains, is_has, is_not, is_brackets, is_both, is_either, is_choice, ActionByLast, is_every, is_one_of, ConditionBetween, no_condition, a_condition}
use Rattle.stored.specs.ReadBack.{tree_by, policy_by, policies_by}
use Rattle.stored.specs.Ready.{ReadyBy, PartReadyBy, Room, PartsBy, NodeBy, PoliciesReadyBy, LastBy}
use Rattle.placing.proofs.EachLaws.{each_first, each_left, each_right}
use Rattle.stored.proofs.Views.{view_of, stored_some, stored_few}
use Rattle.stored.proofs.Policies.{last_policy}
use Rattle.stored.proofs.ReadingBack.{tree_back, seen_back, policy_back, policies_back}

-- what is stored, and lies in the text, is read back
pub ready : {text : List ℕ} {at : ℕ → Entry} {many end : ℕ} {t : Tree} → end ≤ many → Stored at end t → TreePlaced text t → ReadyBy text at many end
ready {text} {at} {end = end} l h p =
    record { stored = subst (Stored at end) (sym (tree_back h)) h; placed = subst (TreePlaced text) (sym (tree_back h)) p; here = l }

comparator_kind_lem : (c : Comparator) → (13 ≤ comparator_kind c) × (comparator_kind c ≤ 18)
comparator_kind_lem Equal = (omega arith, omega arith)
comparator_kind_lem NotEqual = (omega arith, omega arith)
comparator_kind_lem More = (omega arith, omega arith)
comparator_kind_lem AtLeast = (omega arith, omega arith)
comparator_kind_lem Less = (omega arith, omega arith)
comparator_kind_lem AtMost = (omega arith, omega arith)

which_kind_lem : (w : Which) → (22 ≤ which_kind w) × (which_kind w ≤ 23)
which_kind_lem All = (omega arith, omega arith)
which_kind_lem Any = (omega arith, omega arith)

has_kind_lem : (root : Root) → (5 ≤ has_kind root) × (has_kind root ≤ 8)
has_kind_lem Principal = (omega arith, omega arith)
has_kind_lem Resource = (omega arith, omega arith)
has_kind_lem Env = (omega arith, omega arith)
has_kind_lem Action = (omega arith, omega arith)

-- ---- conditions

module _ {at : ℕ → Entry} {end : ℕ} where
  kind_of : {t : Tree} {x : Entry} → TreeByLast at end t x → (5 ≤ x.kind) × (x.kind ≤ 28)
  kind_of is_true = (omega arith, omega arith)
  kind_of is_false = (omega arith, omega arith)
  kind_of (is_comparison {c = c} q n h k) = let (a, b) = comparator_kind_lem c in (omega arith, omega arith)
  kind_of (is_like n h) = (omega arith, omega arith)
  kind_of (is_among n h k) = (omega arith, omega arith)
  kind_of (is_within n h k) = (omega arith, omega arith)
  kind_of (is_contains {w = w} q n h k) = let (a, b) = which_kind_lem w in (omega arith, omega arith)
  kind_of (is_has {root = root} q) = let (a, b) = has_kind_lem root in (omega arith, omega arith)
  kind_of (is_not s) = (omega arith, omega arith)
  kind_of (is_brackets s) = (omega arith, omega arith)
  kind_of (is_both n l r) = (omega arith, omega arith)
  kind_of (is_either n l r) = (omega arith, omega arith)
  kind_of (is_choice m n c a b) = (omega arith, omega arith)

no_operands : {end : ℕ} {x : Entry} → (13 ≤ x.kind → x.kind ≤ 23 → ⊥) → Room end x
no_operands n = record {
  compared = λ a b. absurd (n a (omega arith));
  like = λ a. absurd (n (omega arith) (omega arith));
  among = λ a. absurd (n (omega arith) (omega arith));
  within = λ a. absurd (n (omega arith) (omega arith));
  contains = λ a b. absurd (n (omega arith) b);
}

two_operands : {end : ℕ} {x : Entry} → 3 ≤ end → x.kind ≤ 21 → (x.kind ≡ 20 → ⊥) → Room end x
two_operands n h l = record { compared = λ a b. n; like = λ a. omega arith; among = λ a. absurd (l a); within = λ a. n; contains = λ a b. absurd (omega arith) }

a_list : {end : ℕ} {x : Entry} → x.first + 2 ≤ end → 20 ≤ x.kind → (x.kind ≡ 21 → ⊥) → Room end x
a_list n h w = record { compared = λ a b. absurd (omega arith); like = λ a. omega arith; among = λ a. n; within = λ a. absurd (w a); contains = λ a b. n }

room_of : {at : ℕ → Entry} {end : ℕ} {t : Tree} {x : Entry} → TreeByLast at end t x → Room end x
room_of is_true = no_operands (λ l h. omega arith)
room_of is_false = no_operands (λ l h. omega arith)
room_of (is_comparison {c = c} q n h k) = let (a, b) = comparator_kind_lem c in two_operands n (omega arith) (λ e. omega arith)
room_of (is_like n h) =
    record { compared = λ a b. absurd (omega arith); like = λ a. n; among = λ a. absurd (omega arith); within = λ a. absurd (omega arith); contains = λ a b. absurd (omega arith) }
room_of (is_among n h k) = a_list n (omega arith) (λ e. omega arith)
room_of (is_within n h k) = two_operands n (omega arith) (λ e. omega arith)
room_of (is_contains {w = w} q n h k) = let (a, b) = which_kind_lem w in a_list n (omega arith) (λ e. omega arith)
room_of (is_has {root = root} q) = let (a, b) = has_kind_lem root in no_operands (λ l h. omega arith)
room_of (is_not s) = no_operands (λ l h. omega arith)
room_of (is_brackets s) = no_operands (λ l h. omega arith)
room_of (is_both n l r) = no_operands (λ l h. omega arith)
room_of (is_either n l r) = no_operands (λ l h. omega arith)
room_of (is_choice m n c a b) = no_operands (λ l h. omega arith)

module _ {text : List ℕ} {at : ℕ → Entry} {many end : ℕ} where
  part_ready : {m : ℕ} {t : Tree} → end ≤ many → m < end → Stored at m t → TreePlaced text t → PartReadyBy text at many end m
  part_ready k l h p = record { ready = ready (omega arith) h p; falls = l }

  no_parts : {x : Entry} → x.kind < 24 → PartsBy text at many end x
  no_parts h = record { last = λ a. absurd (omega arith); left = λ a. absurd (omega arith); middle = λ a. absurd (omega arith) }

  one_part : {x : Entry} → x.kind < 26 → PartReadyBy text at many end (end - 1) → PartsBy text at many end x
  one_part h p = record { last = λ a. p; left = λ a. absurd (omega arith); middle = λ a. absurd (omega arith) }

  two_parts : {x : Entry} → x.kind < 28 → PartReadyBy text at many end x.first → PartReadyBy text at many end (end - 1) → PartsBy text at many end x
  two_parts h l r = record { last = λ a. r; left = λ a. l; middle = λ a. absurd (omega arith) }

  parts_of : {t : Tree} {x : Entry} → end ≤ many → 0 < end → TreeByLast at end t x → TreePlaced text t → PartsBy text at many end x
  parts_of few n is_true p = no_parts (omega arith)
  parts_of few n is_false p = no_parts (omega arith)
  parts_of few n (is_comparison {c = c} q m h k) p = let (a, b) = comparator_kind_lem c in no_parts (omega arith)
  parts_of few n (is_like m h) p = no_parts (omega arith)
  parts_of few n (is_among m h k) p = no_parts (omega arith)
  parts_of few n (is_within m h k) p = no_parts (omega arith)
  parts_of few n (is_contains {w = w} q m h k) p = let (a, b) = which_kind_lem w in no_parts (omega arith)
  parts_of few n (is_has {root = root} q) p = let (a, b) = has_kind_lem root in no_parts (omega arith)
  parts_of few n (is_not s) (a_negation p) = one_part (omega arith) (part_ready few (omega arith) s p)
  parts_of few n (is_brackets s) (in_brackets p) = one_part (omega arith) (part_ready few (omega arith) s p)
  parts_of few n (is_both m l r) (a_conjunction p q) = two_parts (omega arith) (part_ready few m l p) (part_ready few (omega arith) r q)
  parts_of few n (is_either m l r) (a_disjunction p q) = two_parts (omega arith) (part_ready few m l p) (part_ready few (omega arith) r q)
  parts_of few n (is_choice i j c a b) (a_choice p q r) =
      record { last = λ x. part_ready few (omega arith) b r; left = λ x. part_ready few i c p; middle = λ x. part_ready few j a q }

  -- a condition's last entry says which it is and where its parts are, each ready
  pub node_of : ReadyBy text at many end → NodeBy text at many end (at (end - 1))
  node_of r =
      let n = stored_some r.stored in let v = view_of (tree_by at end) r.stored in let (low, high) = kind_of v in
      let back = seen_back at (tree_by at) end (λ m u h l. tree_back h) n v in
      record {
        is = sym back;
        placed = subst (TreePlaced text) (sym back) r.placed;
        some = n;
        few = stored_few r.stored;
        here = r.here;
        low = low;
        high = high;
        room = room_of v;
        parts = parts_of r.here n v r.placed;
      }

-- ---- policies

pub ready_policies : {text : List ℕ} {at : ℕ → Entry} {many end : ℕ} {ps : List Policy} → end ≤ many → StoredPolicies at end ps → Each (PolicyPlaced text) ps
    → PoliciesReadyBy text at many end
ready_policies {text} {at} {end = end} l h p =
    record { stored = subst (StoredPolicies at end) (sym (policies_back h)) h; placed = subst (Each (PolicyPlaced text)) (sym (policies_back h)) p; here = l }

condition_ready : {text : List ℕ} {at : ℕ → Entry} {many first end : ℕ} {c : Option Tree} → end ≤ many → ConditionBetween at first end c → ConditionPlaced text c → first < end
    → ReadyBy text at many end
condition_ready n (no_condition e) p l = absurd (omega arith)
condition_ready n (a_condition m h) (placing.a_condition p d) l = ready n h p

-- the strings of an action part stand before its last entry
listed_before : {at : ℕ → Entry} {end : ℕ} {a : Actions} {x : Entry} → 0 < end → ActionByLast at end a x → x.first + 1 ≤ end
listed_before n is_every = omega arith
listed_before n (is_one_of l h) = l

-- the last policy, and those before it, ready too
pub last_of : {text : List ℕ} {at : ℕ → Entry} {many end : ℕ} → PoliciesReadyBy text at many end → 0 < end → LastBy text at many end (at (end - 1))
last_of {text} {at} {end = end} r n =
    let all = r.here in
    let k = last_policy (policies_by at end) r.stored n in
    let v = k.policy in
    let each = subst (Each (PolicyPlaced text)) k.is r.placed in
    let p = each_first (each_right k.front (k.last ∷ []) each) in
    record {
      is = k.is ∙ rw (← policies_back k.before, ← policy_back v);
      placed = subst (PolicyPlaced text) (sym (policy_back v)) p;
      begins = v.begins;
      ends = v.ends;
      listed = let b = v.begins in let l = listed_before (omega arith) v.action in omega arith;
      few = r.stored.stands.few;
      here = r.here;
      before = ready_policies (let b = v.begins in let e = v.ends in omega arith) k.before (each_left k.front (k.last ∷ []) each);
      condition = condition_ready (omega arith) v.condition p.condition;
    }

-- the last policy left, of which x is the last entry
pub last_there : {t : List ℕ} {at : ℕ → Entry} {many end : ℕ} {x : Entry} → PoliciesReadyBy t at many end → 0 < end → x ≡ at (end - 1) → LastBy t at many end x
last_there r l e = rw e (last_of r l)

-- how many are left before it
module _ {t : List ℕ} {at : ℕ → Entry} {many end number : ℕ} {x : Entry} (last : LastBy t at many end x) (count : number ≡ length (policies_by at end)) where
  count_is : number ≡ suc (length (policies_by at x.first))
  count_is =
      let l = length-append (policies_by at x.first) (policy_by at end x ∷ []) in
      let e = count ∙ ap length last.is in
      omega arith

  pub some_left : 1 ≤ number
  some_left = let e = count_is in omega arith

  pub number_falls : number - 1 ≡ length (policies_by at x.first)
  number_falls = let e = count_is in omega arith
