-- A condition without parts, by the kind of its last entry: where its operands lie, what its verdict is, and what that counts as. Assumes nothing.
use Prim.Native.Nat.{ℕ, ◌+◌, ◌-◌, ◌≤◌, ◌<◌}
use mathlib.Core.List.{List}
use mathlib.Core.Bool.{Bool, true, false, cond}
use mathlib.Core.Path.{◌≡◌, refl, sym, ◌∙◌, ap, subst}
use borrow.Author.Tests.{eqb-true, eqb-false, ne_eqb, le-leb, lt-leb, leb-true, leb-false}
use native.Mathlib.Omega.{arith}
use lib.Dec.{eqb, leb}
use Rattle.views.specs.Meaning.{View}
use Rattle.grammar.specs.Policies.{Span, Root, Comparator, Literal, Operand, Which, Tree, constant, compare, like, among, within, contains, has}
use Rattle.placing.specs.Placed.{quoted_at, StringPlaced, PathPlaced, Each, LiteralPlaced, OperandPlaced, TreePlaced, a_comparison, a_likeness, in_list, in_an_attribute, a_call, a_presence, unblanked_at}
use Rattle.placing.specs.Said.{operand_words, tree_words}
use Rattle.table.specs.declared.Entry.{Entry}
use Rattle.stored.specs.ReadBack.{span_of_entry, root_of_kind, comparator_of_kind, operand_of_entry, literals_by, list_by, owner_by, tree_from, tree_by}
use Rattle.stored.specs.Ready.{Room, NodeBy}
use Rattle.stored.proofs.Nodes.{as_has, as_compare, as_like, as_among, as_within, as_contains_all, as_contains_any}
use Rattle.meaning.specs.Values.{attribute_value, operand_value}
use Rattle.meaning.specs.Conditions.{told, settled_if, compared, likened, in_attribute, had, verdict}
use Rattle.meaning.specs.declared.Verdict.{Verdict}
use Rattle.operands.specs.Operands.{which_by}
use Rattle.operators.specs.Verdicts.{given_among, given_listed, left_at}
use Rattle.operators.proofs.VerdictLaws.{constant_says, compare_says, like_says, among_says, within_says, contains_says, has_says}
use Rattle.operators.proofs.VerdictLaws.{constant_counts, compare_counts, like_counts, among_counts, within_counts, contains_counts, has_counts}

-- ---- which condition it is

module _ (at : ℕ → Entry) (end : ℕ) (x : Entry) where
  as_constant : 8 < x.kind → x.kind ≤ 12 → tree_from (tree_by at) at end x ≡ constant (eqb x.kind 11)
  unfolding tree_from
  as_constant l h = rw (lt-leb x.kind 8 l, le-leb x.kind 12 h)

  as_contains : 22 ≤ x.kind → x.kind ≤ 23
      → tree_from (tree_by at) at end x ≡ contains (which_by (eqb x.kind 23)) (root_of_kind (owner_by at end x).kind) (span_of_entry (owner_by at end x)) (list_by at end x)
  as_contains l h = go (eqb x.kind 23) refl
    where
      go : (any : Bool) → eqb x.kind 23 ≡ any
          → tree_from (tree_by at) at end x ≡ contains (which_by any) (root_of_kind (owner_by at end x).kind) (span_of_entry (owner_by at end x)) (list_by at end x)
      go true e = as_contains_any (tree_by at) at end x (eqb-true x.kind 23 e)
      go false e = let n = eqb-false x.kind 23 e in as_contains_all (tree_by at) at end x (omega arith)

-- ---- where its left operand stands

module _ (end : ℕ) (x : Entry) where
  pub left_compared : x.kind ≤ 18 → left_at end x ≡ end - 3
  left_compared h = rw (ne_eqb x.kind 19 (λ e. omega arith), ne_eqb x.kind 20 (λ e. omega arith))

  pub left_liked : x.kind ≡ 19 → left_at end x ≡ end - 2
  left_liked e = rw e

  pub left_listed : x.kind ≡ 20 → left_at end x ≡ end - x.first - 2
  left_listed e = rw e

  pub left_within : x.kind ≡ 21 → left_at end x ≡ end - 3
  left_within e = rw e

  module _ (room : Room end x) (l : 12 < x.kind) (h : x.kind ≤ 21) where
    pub three_before : (x.kind ≡ 19 → ⊥) → (x.kind ≡ 20 → ⊥) → 3 ≤ end
    three_before a b = go (eqb x.kind 21) refl
      where
        go : (c : Bool) → eqb x.kind 21 ≡ c → 3 ≤ end
        go true e = room.within (eqb-true x.kind 21 e)
        go false e = let n = eqb-false x.kind 21 e in room.compared (omega arith) (omega arith)

    pub left_low : left_at end x + 1 ≤ end
    left_low = go (eqb x.kind 19) (eqb x.kind 20) refl refl
      where
        go : (i j : Bool) → eqb x.kind 19 ≡ i → eqb x.kind 20 ≡ j → cond i (end - 2) (cond j (end - x.first - 2) (end - 3)) + 1 ≤ end
        go true j e f = let r = room.like (eqb-true x.kind 19 e) in omega arith
        go false true e f = let r = room.among (eqb-true x.kind 20 f) in omega arith
        go false false e f = let r = three_before (eqb-false x.kind 19 e) (eqb-false x.kind 20 f) in omega arith

-- ---- where it lies

module _ {t : List ℕ} where
  both_operands : {c : Comparator} {a b : Operand} → TreePlaced t (compare c a b) → OperandPlaced t a × OperandPlaced t b
  both_operands (a_comparison p q) = (p, q)

  with_pattern : {a : Operand} {s : Span} → TreePlaced t (like a s) → OperandPlaced t a × StringPlaced t s
  with_pattern (a_likeness p q r) = (p, q)

  sought : {a : Operand} {ls : List Literal} → TreePlaced t (among a ls) → OperandPlaced t a × Each (LiteralPlaced t) ls
  sought (in_list p q) = (p, q.each)

  sought_within : {a : Operand} {root : Root} {s : Span} → TreePlaced t (within a root s) → OperandPlaced t a × PathPlaced t root s
  sought_within (in_an_attribute p q) = (p, q)

  called : {w : Which} {root : Root} {s : Span} {ls : List Literal} → TreePlaced t (contains w root s ls) → PathPlaced t root s × Each (LiteralPlaced t) ls
  called (a_call p q) = (p, q.each)

  asked_for : {root : Root} {s : Span} → TreePlaced t (has root s) → PathPlaced t root s
  asked_for (a_presence p) = p

module _ {t : List ℕ} {at : ℕ → Entry} {many end : ℕ} {x : Entry} (node : NodeBy t at many end x) where
  pub has_placed : x.kind ≤ 8 → PathPlaced t (root_of_kind (x.kind - 4)) (span_of_entry x)
  has_placed h = asked_for (subst (TreePlaced t) (as_has (tree_by at) at end x h) node.placed)

  pub compare_placed : (a b : Entry) → 12 < x.kind → x.kind ≤ 18 → a ≡ at (end - 3) → b ≡ at (end - 2)
      → OperandPlaced t (operand_of_entry a) × OperandPlaced t (operand_of_entry b)
  compare_placed a b l h p q = rw (p, q) (both_operands (subst (TreePlaced t) (as_compare (tree_by at) at end x (omega arith) h) node.placed))

  pub like_placed : (a : Entry) → x.kind ≡ 19 → a ≡ at (end - 2) → OperandPlaced t (operand_of_entry a) × StringPlaced t (span_of_entry x)
  like_placed a k p = rw p (with_pattern (subst (TreePlaced t) (as_like (tree_by at) at end x k) node.placed))

  pub among_placed : (a : Entry) → x.kind ≡ 20 → a ≡ owner_by at end x
      → OperandPlaced t (operand_of_entry a) × Each (LiteralPlaced t) (literals_by x.first at (end - x.first - 1))
  among_placed a k p = rw p (sought (subst (TreePlaced t) (as_among (tree_by at) at end x k) node.placed))

  pub within_placed : (a b : Entry) → x.kind ≡ 21 → a ≡ at (end - 3) → b ≡ at (end - 2)
      → OperandPlaced t (operand_of_entry a) × PathPlaced t (root_of_kind b.kind) (span_of_entry b)
  within_placed a b k p q = rw (p, q) (sought_within (subst (TreePlaced t) (as_within (tree_by at) at end x k) node.placed))

  pub contains_placed : (b : Entry) → 22 ≤ x.kind → x.kind ≤ 23 → b ≡ owner_by at end x
      → PathPlaced t (root_of_kind b.kind) (span_of_entry b) × Each (LiteralPlaced t) (literals_by x.first at (end - x.first - 1))
  contains_placed b l h p = rw p (called (subst (TreePlaced t) (as_contains at end x l h) node.placed))

  -- the left operand
  pub left_placed : (a : Entry) → 12 < x.kind → x.kind ≤ 21 → a ≡ at (left_at end x) → OperandPlaced t (operand_of_entry a)
  left_placed a l h p = go (leb x.kind 18) (eqb x.kind 19) (eqb x.kind 20) refl refl refl
    where
      go : (i j k : Bool) → leb x.kind 18 ≡ i → eqb x.kind 19 ≡ j → eqb x.kind 20 ≡ k → OperandPlaced t (operand_of_entry a)
      go true j k e f g = let q = leb-true x.kind 18 e in (compare_placed a (at (end - 2)) l q (p ∙ ap at (left_compared end x q)) refl).0
      go false true k e f g = let q = eqb-true x.kind 19 f in (like_placed a q (p ∙ ap at (left_liked end x q))).0
      go false false true e f g = let q = eqb-true x.kind 20 g in (among_placed a q (p ∙ ap at (left_listed end x q))).0
      go false false false e f g =
          let u = leb-false x.kind 18 e in let v = eqb-false x.kind 19 f in let w = eqb-false x.kind 20 g in let q : x.kind ≡ 21 = omega arith in
          (within_placed a (at (end - 2)) q (p ∙ ap at (left_within end x q)) refl).0

-- ---- its verdict

module _ (t : List ℕ) (view : View) (r : Verdict) where
  verdict_is : (tree c : Tree) → tree ≡ c → r ≡ verdict false view (tree_words t c) → r ≡ verdict false view (tree_words t tree)
  verdict_is tree c is q = q ∙ ap (λ (c : Tree). verdict false view (tree_words t c)) (sym is)

  module _ (at : ℕ → Entry) (end : ℕ) (x : Entry) where
    pub flat_has : x.kind ≤ 8 → r ≡ had (attribute_value view (root_of_kind (x.kind - 4)) (unblanked_at t (span_of_entry x)))
        → r ≡ verdict false view (tree_words t (tree_from (tree_by at) at end x))
    flat_has k q = verdict_is _ _ (as_has (tree_by at) at end x k) (q ∙ sym (has_says t view _ _))

    pub flat_constant : 8 < x.kind → x.kind ≤ 12 → r ≡ told (eqb x.kind 11) → r ≡ verdict false view (tree_words t (tree_from (tree_by at) at end x))
    flat_constant l k q = verdict_is _ _ (as_constant at end x l k) (q ∙ sym (constant_says t view _))

    pub flat_compare : (a b : Entry) → 12 < x.kind → x.kind ≤ 18 → a ≡ at (end - 3) → b ≡ at (end - 2)
        → r ≡ compared (comparator_of_kind x.kind) (operand_value view (operand_words t (operand_of_entry a))) (operand_value view (operand_words t (operand_of_entry b)))
        → r ≡ verdict false view (tree_words t (tree_from (tree_by at) at end x))
    flat_compare a b l k i j q =
        verdict_is _ _ (as_compare (tree_by at) at end x (omega arith) k)
        (q ∙ (rw (i, j)) ∙ sym (compare_says t view (comparator_of_kind x.kind) (operand_of_entry (at (end - 3))) (operand_of_entry (at (end - 2)))))

    pub flat_like : (a : Entry) → x.kind ≡ 19 → a ≡ at (end - 2) → r ≡ likened (operand_value view (operand_words t (operand_of_entry a))) (quoted_at t (span_of_entry x))
        → r ≡ verdict false view (tree_words t (tree_from (tree_by at) at end x))
    flat_like a k i q = verdict_is _ _ (as_like (tree_by at) at end x k) (q ∙ (rw i) ∙ sym (like_says t view (operand_of_entry (at (end - 2))) (span_of_entry x)))

    pub flat_among : (a : Entry) → x.kind ≡ 20 → a ≡ owner_by at end x
        → r ≡ given_among t (operand_value view (operand_words t (operand_of_entry a))) (literals_by x.first at (end - x.first - 1))
        → r ≡ verdict false view (tree_words t (tree_from (tree_by at) at end x))
    flat_among a k i q = verdict_is _ _ (as_among (tree_by at) at end x k) (q ∙ (rw i) ∙ sym (among_says t view (operand_of_entry (owner_by at end x)) (list_by at end x)))

    pub flat_within : (a b : Entry) → x.kind ≡ 21 → a ≡ at (end - 3) → b ≡ at (end - 2)
        → r ≡ in_attribute (operand_value view (operand_words t (operand_of_entry a))) (attribute_value view (root_of_kind b.kind) (unblanked_at t (span_of_entry b)))
        → r ≡ verdict false view (tree_words t (tree_from (tree_by at) at end x))
    flat_within a b k i j q =
        verdict_is _ _ (as_within (tree_by at) at end x k)
        (q ∙ (rw (i, j)) ∙ sym (within_says t view (operand_of_entry (at (end - 3))) (root_of_kind (at (end - 2)).kind) (span_of_entry (at (end - 2)))))

    pub flat_contains : (b : Entry) → 22 ≤ x.kind → x.kind ≤ 23 → b ≡ owner_by at end x
        → r ≡ given_listed t (eqb x.kind 23) (attribute_value view (root_of_kind b.kind) (unblanked_at t (span_of_entry b))) (literals_by x.first at (end - x.first - 1))
        → r ≡ verdict false view (tree_words t (tree_from (tree_by at) at end x))
    flat_contains b l k i q =
        verdict_is _ _ (as_contains at end x l k)
        (q ∙ (rw i) ∙ sym (contains_says t view (which_by (eqb x.kind 23)) (root_of_kind (owner_by at end x).kind) (span_of_entry (owner_by at end x)) (list_by at end x)))

-- ---- what it counts as: it is settled once

module _ (settles : Bool) (t : List ℕ) (view : View) (at : ℕ → Entry) (end : ℕ) (x : Entry) where
  counts_as : (tree c : Tree) → tree ≡ c → verdict settles view (tree_words t c) ≡ settled_if settles (verdict false view (tree_words t c))
      → verdict settles view (tree_words t tree) ≡ settled_if settles (verdict false view (tree_words t tree))
  counts_as tree c is = subst (λ (c : Tree). verdict settles view (tree_words t c) ≡ settled_if settles (verdict false view (tree_words t c))) (sym is)

  pub flat_counts : x.kind ≤ 23
      → verdict settles view (tree_words t (tree_from (tree_by at) at end x)) ≡ settled_if settles (verdict false view (tree_words t (tree_from (tree_by at) at end x)))
  flat_counts h = go (leb x.kind 8) (leb x.kind 12) (leb x.kind 18) (eqb x.kind 19) (eqb x.kind 20) (eqb x.kind 21) refl refl refl refl refl refl
    where
      go : (a b c d e f : Bool) → leb x.kind 8 ≡ a → leb x.kind 12 ≡ b → leb x.kind 18 ≡ c → eqb x.kind 19 ≡ d → eqb x.kind 20 ≡ e → eqb x.kind 21 ≡ f
          → verdict settles view (tree_words t (tree_from (tree_by at) at end x)) ≡ settled_if settles (verdict false view (tree_words t (tree_from (tree_by at) at end x)))
      go true b c d e f i j k l m n = counts_as _ _ (as_has (tree_by at) at end x (leb-true x.kind 8 i)) (has_counts settles t view _ _)
      go false true c d e f i j k l m n = counts_as _ _ (as_constant at end x (leb-false x.kind 8 i) (leb-true x.kind 12 j)) (constant_counts settles t view _)
      go false false true d e f i j k l m n =
          counts_as _ _ (as_compare (tree_by at) at end x (leb-false x.kind 12 j) (leb-true x.kind 18 k)) (compare_counts settles t view _ _ _)
      go false false false true e f i j k l m n = counts_as _ _ (as_like (tree_by at) at end x (eqb-true x.kind 19 l)) (like_counts settles t view _ _)
      go false false false false true f i j k l m n = counts_as _ _ (as_among (tree_by at) at end x (eqb-true x.kind 20 m)) (among_counts settles t view _ _)
      go false false false false false true i j k l m n = counts_as _ _ (as_within (tree_by at) at end x (eqb-true x.kind 21 n)) (within_counts settles t view _ _ _)
      go false false false false false false i j k l m n =
          let o = leb-false x.kind 18 k in let p = eqb-false x.kind 19 l in let q = eqb-false x.kind 20 m in let r = eqb-false x.kind 21 n in
          counts_as _ _ (as_contains at end x (omega arith) h) (contains_counts settles t view _ _ _ _)
