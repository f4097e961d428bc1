-- The columns that the entries of a policy's condition name lie before its depth, but for one: so the policy is steady. Assumes nothing.
use mathlib.Core.Path.{◌≡◌, refl, sym, ◌∙◌, subst}
use mathlib.Core.Bool.{Bool, true, false, cond, not, ◌&&◌}
use mathlib.Core.List.{List, [], ◌∷◌, ◌++◌}
use Prim.Native.Nat.{ℕ, zero, suc, ◌+◌, ◌-◌, ◌≤◌, ◌<◌}
use native.Mathlib.Omega.{arith}
use borrow.Author.Tests.{ltb-true, ltb-false, eqb-true}
use lib.Dec.{eqb, ltb}
use lib.ListN.{length, get_or}
use Rattle.grammar.specs.Policies.{Policy}
use Rattle.placing.specs.Placed.{Each, none_left, and_each, unblanked_at}
use Rattle.table.specs.declared.Entry.{Entry}
use Rattle.table.specs.Entries.{entry, effect_kind, condition_entries, target_entries, policy_entries, policies_entries}
use Rattle.table.proofs.Counting.{policies_append}
use Rattle.stored.specs.Stored.{EntriesStand, StoredPolicies, StoredPolicy}
use Rattle.stored.specs.ReadBack.{span_of_entry, policy_by, policies_by}
use Rattle.stored.specs.Ready.{PoliciesReadyBy, LastBy}
use Rattle.stored.proofs.Standing.{stands_right, stands_head, stands_tail, stands_before, stands_last}
use Rattle.views.specs.Rows.{row_view}
use Rattle.depths.specs.Columns.{naming, root_by, is_attribute, column_of, deeper, depth_by}
use Rattle.depths.specs.Looks.{Alike, Steady}
use Rattle.depths.proofs.Agreeing.{Shows, policy_agrees}
use Rattle.depths.proofs.Naming.{naming_few, row_same}

-- ---- the deepest column but one

-- a column is the one left out, or not above the depth
data Covered (but low k : ℕ) : Type 0 where
  left_out : k ≡ but → Covered but low k
  below : k ≤ low → Covered but low k

deeper_cases : (but a k : ℕ) (b c : Bool) → ltb a k ≡ b → eqb k but ≡ c → (a ≤ cond (b && not c) k a) × Covered but (cond (b && not c) k a) k
deeper_cases but a k true true p q = (omega arith, left_out (eqb-true k but q))
deeper_cases but a k true false p q = (omega (arith, ltb-true a k p), below (omega arith))
deeper_cases but a k false c p q = (omega arith, below (ltb-false a k p))

deeper_covers : (but a k : ℕ) → (a ≤ deeper but a k) × Covered but (deeper but a k) k
unfolding deeper
deeper_covers but a k = deeper_cases but a k (ltb a k) (eqb k but) refl refl

deeper_few : (but a k most : ℕ) → a ≤ most → k ≤ most → deeper but a k ≤ most
unfolding deeper
deeper_few but a k most h l = go (ltb a k && not (eqb k but))
  where
    go : (b : Bool) → cond b k a ≤ most
    go true = l
    go false = h

covered_on : {but low low' k : ℕ} → low ≤ low' → Covered but low k → Covered but low' k
covered_on h (left_out e) = left_out e
covered_on h (below l) = below (omega arith)

module _ (t : List ℕ) (table : ℕ → Entry) (s : List ℕ) (n : ℕ) (heads : List ℕ) (but : ℕ) where
  abbrev column : ℕ → ℕ
  column i = column_of t s n heads (table i)

  depth_grows : (m at a : ℕ) → a ≤ depth_by m t table s n heads but at a
  unfolding depth_by
  depth_grows zero at a = omega arith
  depth_grows (suc m) at a =
      let g = depth_grows m (at + 1) (deeper but a (column at)) in
      let d = (deeper_covers but a (column at)).0 in omega arith

  depth_covers : (m at a i : ℕ) → at ≤ i → i < at + m → Covered but (depth_by m t table s n heads but at a) (column i)
  unfolding depth_by
  depth_covers zero at a i l h = absurd (omega arith)
  depth_covers (suc m) at a i l h = go (eqb i at) refl (depth_covers m (at + 1) (deeper but a (column at)) i)
    where
      low : ℕ
      low = depth_by m t table s n heads but (at + 1) (deeper but a (column at))

      go : (b : Bool) → eqb i at ≡ b → (at + 1 ≤ i → i < at + 1 + m → Covered but low (column i)) → Covered but low (column i)
      go true e rest = rw (eqb-true i at e) (covered_on (depth_grows m (at + 1) (deeper but a (column at))) (deeper_covers but a (column at)).1)
      go false e rest = rest (omega (arith, borrow.Author.Tests.eqb-false i at e)) (omega arith)

  column_few : (x : Entry) → column_of t s n heads x ≤ n
  unfolding column_of
  column_few x = go (is_attribute t x)
    where
      go : (b : Bool) → cond b (naming n s heads 0 (root_by x.kind) (unblanked_at t (span_of_entry x))) 0 ≤ n
      go true = omega (arith, naming_few s heads (root_by x.kind) (unblanked_at t (span_of_entry x)) n 0)
      go false = omega arith

  pub depth_few : n ≤ 6 → (m at a : ℕ) → a ≤ 6 → depth_by m t table s n heads but at a ≤ 6
  unfolding depth_by
  depth_few h zero at a l = l
  depth_few h (suc m) at a l =
      depth_few h m (at + 1) (deeper but a (column at)) (deeper_few but a (column at) 6 l (omega (arith, column_few (table at))))

  -- the code's turns
  pub depth_done : (m at a : ℕ) → m ≤ 0 → a ≡ depth_by m t table s n heads but at a
  unfolding depth_by
  depth_done zero at a h = refl
  depth_done (suc m) at a h = absurd (omega arith)

  pub depth_on : (m m' at a : ℕ) → m ≡ suc m' → depth_by m' t table s n heads but (at + 1) (deeper but a (column at)) ≡ depth_by m t table s n heads but at a
  unfolding depth_by
  depth_on m m' at a e = rw e

-- ---- entries that stand in a table

each_stands : {at : ℕ → Entry} {P : Entry → Type 0} (first end : ℕ) (es : List Entry) → EntriesStand at first end es → ((i : ℕ) → first ≤ i → i < end → P (at i)) → Each P es
each_stands first end [] s f = none_left
each_stands {P = P} first end (x ∷ es) s f =
    let e = s.ends in
    and_each (subst P (stands_head x es s) (f first (omega arith) (omega arith))) (each_stands (first + 1) end es (stands_tail x es s) (λ i l h. f i (omega arith) h))

-- the condition of a policy stands between the entry that its own entry says and its own
condition_stands : {at : ℕ → Entry} {end : ℕ} (p : Policy) → StoredPolicy at end p
    → EntriesStand at (at (end - 1)).second (end - 1) (condition_entries (at (end - 1)).second p.condition)
unfolding policy_entries
condition_stands {at} {end} p h =
    let first = h.first in let s = h.stands in
    let target = target_entries h.version p in
    let m = first + length target in
    let x = entry (effect_kind p.permits) first m in
    let inner = stands_before (target ++ condition_entries m p.condition) x s in
    let is = stands_last (target ++ condition_entries m p.condition) x s in
    subst (λ (y : Entry). EntriesStand at y.second (end - 1) (condition_entries y.second p.condition)) (sym is) (stands_right target (condition_entries m p.condition) inner)

stored_last : {at : ℕ → Entry} {end : ℕ} (ps : List Policy) (p : Policy) → StoredPolicies at end (ps ++ p ∷ []) → StoredPolicy at end p
stored_last {at} {end} ps p h =
    let version = h.version in
    let f = 0 + length (policies_entries version 0 ps) in
    record {
      version = version;
      first = f;
      stands =
          stands_right (policies_entries version 0 ps) (policy_entries version f p) (subst (EntriesStand at 0 end) (policies_append version 0 ps p) h.stands);
    }

-- ---- the last policy is steady

entry_shows : (t s : List ℕ) (n : ℕ) (heads : List ℕ) (but low : ℕ) (x : Entry) → Covered but low (column_of t s n heads x) → (p : _) (u v : List ℕ) → Alike low u v
    → get_or u (but - 1) 0 ≡ get_or v (but - 1) 0 → Shows t (row_view s p n heads u) (row_view s p n heads v) x
unfolding column_of
entry_shows t s n heads but low x covered p u v a own = record { same = λ m. row_same s p n heads (root_by x.kind) (unblanked_at t (span_of_entry x)) u v (same_choice m covered) }
  where
    k : ℕ
    k = naming n s heads 0 (root_by x.kind) (unblanked_at t (span_of_entry x))

    same_choice : is_attribute t x ≡ true → Covered but low (cond (is_attribute t x) k 0) → (j : ℕ) → k ≡ j + 1 → get_or u j 0 ≡ get_or v j 0
    same_choice m (left_out e) j is =
        let c : k ≡ but = sym (rw m) ∙ e in
        let place : but - 1 ≡ j = omega arith in rw place at own
    same_choice m (below l) j is =
        let c : k ≤ low = rw m at l in a.alike j (omega arith)

pub last_steady : {t : List ℕ} {table : ℕ → Entry} {many end : ℕ} {x : Entry} → PoliciesReadyBy t table many end → x ≡ table (end - 1) → LastBy t table many end x → (s : List ℕ) (n : ℕ) (heads : List ℕ) (but : ℕ)
    → Steady t s n heads (policy_by table end x) (but - 1) (depth_by (end - 1 - x.second) t table s n heads but x.second 0)
last_steady {t} {table} {end = end} {x} r is last s n heads but =
    let stored = stored_last (policies_by table x.first) (policy_by table end x) (subst (StoredPolicies table end) last.is r.stored) in
    let stands : EntriesStand table x.second (end - 1) (condition_entries x.second (policy_by table end x).condition) = rw is (rw is at (condition_stands (policy_by table end x) stored)) in
    record {
      same = λ version p q u v a own.
          policy_agrees version t (row_view s p n heads u) (row_view s p n heads v) q (policy_by table end x) last.placed x.second
          (each_stands x.second (end - 1) _ stands
          (λ i l h. entry_shows t s n heads but _ (table i) (depth_covers t table s n heads but (end - 1 - x.second) x.second 0 i l (omega arith)) p u v a own));
    }
