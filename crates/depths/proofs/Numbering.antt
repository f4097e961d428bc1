-- Policies by their numbers. Assumes nothing.
use mathlib.Core.Path.{◌≡◌}
use mathlib.Core.List.{List, [], ◌∷◌, ◌++◌}
use Prim.Native.Nat.{ℕ, zero, suc, ◌-◌, ◌≤◌}
use native.Mathlib.Omega.{arith}
use lib.ListN.{length}
use Rattle.grammar.specs.Policies.{Policy}
use Rattle.table.specs.declared.Entry.{Entry}
use Rattle.stored.specs.ReadBack.{policy_at, policies_up_to, policies_at}
use Rattle.stored.specs.Ready.{ReadyPolicies, Last}
use Rattle.meaning.specs.Decisions.{Numbered, first, later}
use Rattle.stored.proofs.Evaluating.{some_left, number_falls}

pub numbered_left : {n : ℕ} {p : Policy} {ps : List Policy} (qs : List Policy) → Numbered n p ps → Numbered n p (ps ++ qs)
numbered_left qs first = first
numbered_left qs (later h) = later (numbered_left qs h)

pub numbered_last : (ps : List Policy) (p : Policy) → Numbered (suc (length ps)) p (ps ++ p ∷ [])
numbered_last [] p = first
numbered_last (q ∷ ps) p = later (numbered_last ps p)

-- ---- the policies left, as they are met from the last to the first

-- those before entry `end` are policies 1 to `number` of all those before entry `entries`
pub record Left (t table : List ℕ) (entries end number : ℕ) : Type 0 where
  pub ready : ReadyPolicies t table end
  pub count : number ≡ length (policies_at table end)
  pub few : number ≤ 64
  pub among : (m : ℕ) (policy : Policy) → Numbered m policy (policies_at table end) → Numbered m policy (policies_at table entries)

pub all_left : {t table : List ℕ} {entries policies : ℕ} → ReadyPolicies t table entries → policies ≡ length (policies_at table entries) → policies ≤ 64
    → Left t table entries entries policies
all_left r c f = record { ready = r; count = c; few = f; among = λ m policy h. h }

pub none_there : {t table : List ℕ} {entries end number : ℕ} → Left t table entries end number → end ≤ 0 → number ≡ 0
unfolding policies_up_to
none_there {end = zero} l h = l.count
none_there {end = suc end} l h = absurd (omega arith)

module _ {t table : List ℕ} {entries end number : ℕ} {x : Entry} (l : Left t table entries end number) (last : Last t table end x) where
  pub fewer_left : Left t table entries x.first (number - 1)
  fewer_left = record {
    ready = last.before;
    count = number_falls last l.count;
    few = let f = l.few in omega arith;
    among = λ m policy h. l.among m policy (rw last.is (numbered_left (policy_at table end x ∷ []) h));
  }

  pub last_numbered : Numbered number (policy_at table end x) (policies_at table entries)
  last_numbered =
      let e : suc (length (policies_at table x.first)) ≡ number = let f = number_falls last l.count in let s = some_left last l.count in omega arith in
      l.among number (policy_at table end x) (rw last.is (rw e at (numbered_last (policies_at table x.first) (policy_at table end x))))

  pub one_left : 1 ≤ number
  one_left = some_left last l.count
