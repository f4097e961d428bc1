-- Policies that are stored, from the last to the first. Assumes nothing.
use mathlib.Core.Path.{◌≡◌, refl, sym, ap, subst}
use mathlib.Core.List.{List, [], ◌∷◌, ◌++◌}
use mathlib.Core.Option.{Option, none, some}
use Prim.Native.Nat.{ℕ, ◌+◌, ◌-◌, ◌<◌}
use native.Mathlib.Omega.{arith}
use lib.ListN.{length, length-append, length-map}
use Rattle.grammar.specs.Policies.{Tree, Actions, every, one_of, Policy}
use Rattle.grammar.specs.declared.Version.{Version}
use Rattle.table.proofs.Counting.{policies_append}
use Rattle.table.specs.declared.Entry.{Entry}
use Rattle.table.specs.Entries.{entry, literal_entry, literal_entries, part_entry, principal_entry, action_entries, condition_entries, effect_kind, target_entries, policy_entries, policies_entries}
use Rattle.stored.specs.Stored.{EntriesStand, StoredPolicy, StoredPolicies, ActionByLast, is_every, is_one_of, ConditionBetween, no_condition, a_condition, PolicyByLast, LastPolicy}
use Rattle.stored.proofs.Standing.{stands_left, stands_right, stands_head, stands_tail, stands_before, stands_last, stands_from}
use Rattle.stored.proofs.Views.{some_entries}

-- ---- one policy

action_view : {at : ℕ → Entry} {first end : ℕ} (a : Actions) → EntriesStand at first end (action_entries a) → ActionByLast at end a (at (end - 1))
unfolding action_entries
action_view {at} {first} {end} every s = subst (ActionByLast at end every) (sym (stands_last [] (entry 32 0 0) s)) is_every
action_view {at} {first} {end} (one_of ls) s =
    let n = length-map ls literal_entry in let m = length-append (literal_entries ls) (entry 33 (length ls) 0 ∷ []) in let e = s.ends in
    let place : first ≡ end - length ls - 1 = omega arith in
    subst (ActionByLast at end (one_of ls)) (sym (stands_last (literal_entries ls) (entry 33 (length ls) 0) s))
    (is_one_of (omega arith) (stands_from place (stands_before (literal_entries ls) (entry 33 (length ls) 0) s)).from)

condition_view : {at : ℕ → Entry} {first end : ℕ} (c : Option Tree) → EntriesStand at first end (condition_entries first c) → ConditionBetween at first end c
unfolding condition_entries
condition_view none s = let e = s.ends in no_condition (omega arith)
condition_view {first = first} (some t) s = let e = s.ends in let n = some_entries first t in a_condition (omega arith) (record { first = first; stands = s })

actions_some : (a : Actions) → 0 < length (action_entries a)
unfolding action_entries
actions_some every = omega arith
actions_some (one_of ls) = let m = length-append (literal_entries ls) (entry 33 (length ls) 0 ∷ []) in omega arith

-- a policy by its last entry, which also says where it begins
pub policy_view : {at : ℕ → Entry} {end : ℕ} (p : Policy) (h : StoredPolicy at end p) → PolicyByLast at end p (at (end - 1)) × ((at (end - 1)).first ≡ h.first)
unfolding policy_entries target_entries
policy_view {at} {end} p h =
    let first = h.first in let s = h.stands in
    let principal = principal_entry h.version p.principal in
    let front = principal ∷ action_entries p.action in
    let last = part_entry p.resource in
    let target = front ++ last ∷ [] in
    let m = first + length target in
    let x = entry (effect_kind p.permits) first m in
    let inner = stands_before (target ++ condition_entries m p.condition) x s in
    let ts = stands_left target (condition_entries m p.condition) inner in
    let cs = stands_right target (condition_entries m p.condition) inner in
    let fs = stands_before front last ts in
    let k = actions_some p.action in
    let lt = length-append front (last ∷ []) in
    let lc = length-append target (condition_entries m p.condition) in
    let lw = length-append (target ++ condition_entries m p.condition) (x ∷ []) in
    let e : end ≡ first + length ((target ++ condition_entries m p.condition) ++ x ∷ []) = s.ends in
    let back : m - 1 - 1 ≡ m - 2 = omega arith in
    let view : PolicyByLast at end p x = record {
      version = h.version;
      kind = refl;
      begins = omega arith;
      ends = omega arith;
      principal = stands_head principal (action_entries p.action) fs;
      action = subst (λ (i : ℕ). ActionByLast at (m - 1) p.action (at i)) back (action_view p.action (stands_tail principal (action_entries p.action) fs));
      resource = stands_last front last ts;
      condition = condition_view p.condition cs;
    } in
    let is = stands_last (target ++ condition_entries m p.condition) x s in
    (subst (PolicyByLast at end p) (sym is) view, ap (λ (y : Entry). y.first) is)

-- ---- all policies

pub policies_view : {at : ℕ → Entry} {end : ℕ} (ps : List Policy) (p : Policy) → StoredPolicies at end (ps ++ p ∷ []) → LastPolicy at end (ps ++ p ∷ [])
policies_view {at} {end} ps p h =
    let version = h.version in
    let es = policies_entries version 0 ps in
    let f = 0 + length es in
    let s = subst (EntriesStand at 0 end) (policies_append version 0 ps p) h.stands in
    let a = stands_left es (policy_entries version f p) s in
    let b = stands_right es (policy_entries version f p) s in
    let (v, e) = policy_view p (record { version = version; first = f; stands = b }) in
    let before : StoredPolicies at (at (end - 1)).first ps = record { version = version; stands = subst (λ (i : ℕ). EntriesStand at 0 i es) (sym e) a } in
    record { front = ps; last = p; is = refl; policy = v; before = before }

pub no_policies : {at : ℕ → Entry} {end : ℕ} → StoredPolicies at end [] → end ≡ 0
unfolding policies_entries
no_policies h = let e = h.stands.ends in omega arith

-- where entries stand before the end there is a last policy, and at 0 there is none
record Ended (ps : List Policy) : Type 0 where
  front : List Policy
  last : Policy
  is : ps ≡ front ++ last ∷ []

ended : (p : Policy) (ps : List Policy) → Ended (p ∷ ps)
ended p [] = record { front = []; last = p; is = refl }
ended p (q ∷ ps) = let k = ended q ps in record { front = p ∷ k.front; last = k.last; is = ap (λ (l : List Policy). p ∷ l) k.is }

pub last_policy : {at : ℕ → Entry} {end : ℕ} (ps : List Policy) → StoredPolicies at end ps → 0 < end → LastPolicy at end ps
last_policy [] h more = let e = no_policies h in absurd (omega arith)
last_policy {at} {end} (p ∷ ps) h more =
    let k = ended p ps in
    subst (LastPolicy at end) (sym k.is) (policies_view k.front k.last (subst (StoredPolicies at end) k.is h))

policy_some : (version : Version) (e : ℕ) (p : Policy) → 0 < length (policy_entries version e p)
unfolding policy_entries
policy_some version e p =
    let target = target_entries version p in let m = e + length target in
    let n = length-append (target ++ condition_entries m p.condition) (entry (effect_kind p.permits) e m ∷ []) in omega arith

pub none_stored : {at : ℕ → Entry} (ps : List Policy) → StoredPolicies at 0 ps → ps ≡ []
unfolding policies_entries
none_stored [] h = refl
none_stored (p ∷ ps) h =
    let a = policy_entries h.version 0 p in let b = policies_entries h.version (0 + length a) ps in
    let e : 0 ≡ 0 + length (a ++ b) = h.stands.ends in
    let n = length-append a b in let k = policy_some h.version 0 p in absurd (omega arith)
