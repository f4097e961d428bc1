-- A condition that is stored, by its last entry. Assumes nothing.
use mathlib.Core.Path.{◌≡◌, refl, sym, ◌∙◌, ap, subst}
use mathlib.Core.Bool.{true, false}
use mathlib.Core.List.{List, [], ◌∷◌, ◌++◌}
use Prim.Native.Nat.{ℕ, ◌+◌, ◌-◌, ◌≤◌, ◌<◌}
use native.Mathlib.Omega.{arith}
use lib.ListN.{length, length-append, length-map}
use Rattle.grammar.specs.Policies.{root_byte, Literal, Tree, constant, compare, like, among, within, contains, has, not, brackets, both, either, choice}
use Rattle.table.specs.declared.Entry.{Entry}
use Rattle.table.specs.Entries.{entry, placed, literal_entry, literal_entries, operand_entry, comparator_kind, which_kind, has_kind, tree_entries}
use Rattle.stored.specs.Stored.{EntriesStand, Stored, StandFrom, TreeByLast, is_true, is_false, is_comparison, is_like, is_among, is_within, is_contains, is_has, is_not, is_brackets, is_both, is_either, is_choice}
use Rattle.stored.proofs.Standing.{stands_left, stands_right, stands_head, stands_tail, stands_before, stands_last, stands_from}

longer : (a : List Entry) (x : Entry) → 0 < length (a ++ x ∷ [])
longer a x = let n = length-append a (x ∷ []) in omega arith

module _ {at : ℕ → Entry} {first end : ℕ} where
  -- three entries
  three_stand : (x y z : Entry) → EntriesStand at first end (x ∷ y ∷ z ∷ []) → (3 ≤ end) × (at (end - 3) ≡ x) × (at (end - 2) ≡ y) × (at (end - 1) ≡ z)
  three_stand x y z s =
      let e = s.ends in
      let p : end - 3 ≡ first = omega arith in
      let q : end - 2 ≡ first + 1 = omega arith in
      (omega arith, ap at p ∙ stands_head x _ s, ap at q ∙ stands_head y _ (stands_tail x _ s), stands_last (x ∷ y ∷ []) z s)

  -- an entry, a list's literals, and an entry
  list_stands : (x : Entry) (ls : List Literal) (y : Entry) → EntriesStand at first end ((x ∷ literal_entries ls) ++ y ∷ [])
      → (length ls + 2 ≤ end) × (at (end - length ls - 2) ≡ x) × StandFrom at (end - length ls - 1) (literal_entries ls) × (at (end - 1) ≡ y)
  list_stands x ls y s =
      let n = length-map ls literal_entry in
      let m = length-append (literal_entries ls) (y ∷ []) in let e = s.ends in
      let p : end - length ls - 2 ≡ first = omega arith in
      let q : first + 1 ≡ end - length ls - 1 = omega arith in
      let inner = stands_before (x ∷ literal_entries ls) y s in
      (omega arith, ap at p ∙ stands_head x _ s, (stands_from q (stands_tail x (literal_entries ls) inner)).from, stands_last (x ∷ literal_entries ls) y s)

  -- two parts and a node
  joint_stands : (kind : ℕ) (l r : Tree)
      → EntriesStand at first end ((tree_entries first l ++ tree_entries (first + length (tree_entries first l)) r) ++ entry kind (first + length (tree_entries first l)) 0 ∷ [])
      → (first + length (tree_entries first l) < end) × Stored at (first + length (tree_entries first l)) l × Stored at (end - 1) r
  joint_stands kind l r s =
      let m = first + length (tree_entries first l) in
      let inner = stands_before (tree_entries first l ++ tree_entries m r) (entry kind m 0) s in
      let left = stands_left (tree_entries first l) (tree_entries m r) inner in
      let right = stands_right (tree_entries first l) (tree_entries m r) inner in
      let n = length-append (tree_entries first l ++ tree_entries m r) (entry kind m 0 ∷ []) in
      let o = length-append (tree_entries first l) (tree_entries m r) in
      let e = s.ends in
      (omega arith, record { first = first; stands = left }, record { first = m; stands = right })

module _ {at : ℕ → Entry} {end : ℕ} where
  seen_as : (t : Tree) {x : Entry} → at (end - 1) ≡ x → TreeByLast at end t x → TreeByLast at end t (at (end - 1))
  seen_as t e v = subst (TreeByLast at end t) (sym e) v

  -- the entry before number `end` says which condition ends there, and where its parts do
  pub view_of : (t : Tree) → Stored at end t → TreeByLast at end t (at (end - 1))
  unfolding tree_entries
  view_of (constant true) h = seen_as (constant true) (stands_last [] (entry 11 0 0) h.stands) is_true
  view_of (constant false) h = seen_as (constant false) (stands_last [] (entry 12 0 0) h.stands) is_false
  view_of (compare c a b) h =
      let (n, x, y, z) = three_stand (operand_entry a) (operand_entry b) (entry (comparator_kind c) 0 0) h.stands in
      seen_as (compare c a b) z (is_comparison refl n x y)
  view_of (like a s) h =
      let k = h.stands in let e = k.ends in
      let p : end - 2 ≡ h.first = omega arith in
      seen_as (like a s) (stands_last (operand_entry a ∷ []) (placed 19 s) k) (is_like (omega arith) (ap at p ∙ stands_head _ _ k))
  view_of (among a ls) h =
      let (n, x, l, y) = list_stands (operand_entry a) ls (entry 20 (length ls) 0) h.stands in
      seen_as (among a ls) y (is_among n x l)
  view_of (within a root s) h =
      let (n, x, y, z) = three_stand (operand_entry a) (placed (root_byte root) s) (entry 21 0 0) h.stands in
      seen_as (within a root s) z (is_within n x y)
  view_of (contains w root s ls) h =
      let (n, x, l, y) = list_stands (placed (root_byte root) s) ls (entry (which_kind w) (length ls) 0) h.stands in
      seen_as (contains w root s ls) y (is_contains refl n x l)
  view_of (has root s) h = seen_as (has root s) (stands_last [] (placed (has_kind root) s) h.stands) (is_has refl)
  view_of (not t) h =
      seen_as (not t) (stands_last (tree_entries h.first t) (entry 24 0 0) h.stands) (is_not (record { first = h.first; stands = stands_before (tree_entries h.first t) (entry 24 0 0) h.stands }))
  view_of (brackets t) h =
      seen_as (brackets t) (stands_last (tree_entries h.first t) (entry 25 0 0) h.stands) (is_brackets (record { first = h.first; stands = stands_before (tree_entries h.first t) (entry 25 0 0) h.stands }))
  view_of (both l r) h =
      let (n, left, right) = joint_stands 26 l r h.stands in
      seen_as (both l r) (stands_last (tree_entries h.first l ++ tree_entries (h.first + length (tree_entries h.first l)) r) _ h.stands) (is_both n left right)
  view_of (either l r) h =
      let (n, left, right) = joint_stands 27 l r h.stands in
      seen_as (either l r) (stands_last (tree_entries h.first l ++ tree_entries (h.first + length (tree_entries h.first l)) r) _ h.stands) (is_either n left right)
  view_of (choice c a b) h =
      let f = h.first in let m = f + length (tree_entries f c) in let n = m + length (tree_entries m a) in
      let k = h.stands in
      let es = tree_entries f c ++ tree_entries m a in
      let whole = (es ++ tree_entries n b) in
      let inner = stands_before whole (entry 28 m n) k in
      let ca = stands_left es (tree_entries n b) inner in
      let q : f + length es ≡ n = (let o = length-append (tree_entries f c) (tree_entries m a) in omega arith) in
      let lw = length-append whole (entry 28 m n ∷ []) in
      let lb = length-append es (tree_entries n b) in
      let e : end ≡ f + length (whole ++ entry 28 m n ∷ []) = k.ends in
      seen_as (choice c a b) (stands_last whole (entry 28 m n) k) (is_choice (omega arith) (omega arith)
      (record { first = f; stands = stands_left (tree_entries f c) (tree_entries m a) ca })
      (record { first = m; stands = subst (λ (i : ℕ). EntriesStand at m i (tree_entries m a)) q (stands_right (tree_entries f c) (tree_entries m a) ca) })
      (record { first = n; stands = stands_from q (stands_right es (tree_entries n b) inner) }))

-- ---- ends fall from a condition to its parts

pub some_entries : (e : ℕ) (t : Tree) → 0 < length (tree_entries e t)
unfolding tree_entries
some_entries e (constant true) = omega arith
some_entries e (constant false) = omega arith
some_entries e (compare c a b) = omega arith
some_entries e (like a s) = omega arith
some_entries e (among a ls) = omega arith
some_entries e (within a root s) = omega arith
some_entries e (contains w root s ls) = omega arith
some_entries e (has root s) = omega arith
some_entries e (not t) = longer (tree_entries e t) (entry 24 0 0)
some_entries e (brackets t) = longer (tree_entries e t) (entry 25 0 0)
some_entries e (both l r) = longer (tree_entries e l ++ tree_entries (e + length (tree_entries e l)) r) (entry 26 (e + length (tree_entries e l)) 0)
some_entries e (either l r) = longer (tree_entries e l ++ tree_entries (e + length (tree_entries e l)) r) (entry 27 (e + length (tree_entries e l)) 0)
some_entries e (choice c a b) =
    let m = e + length (tree_entries e c) in let n = m + length (tree_entries m a) in
    longer ((tree_entries e c ++ tree_entries m a) ++ tree_entries n b) (entry 28 m n)

-- an entry stands before the end of a condition
pub stored_some : {at : ℕ → Entry} {end : ℕ} {t : Tree} → Stored at end t → 0 < end
stored_some {t = t} h = let n = some_entries h.first t in let e = h.stands.ends in omega arith

pub stored_few : {at : ℕ → Entry} {end : ℕ} {t : Tree} → Stored at end t → end < 65536
stored_few h = h.stands.few
