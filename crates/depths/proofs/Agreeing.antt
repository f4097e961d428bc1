-- Under every version a policy depends on the attributes that the entries of its condition name, and on nothing else of a row. Assumes nothing.
use mathlib.Core.Path.{◌≡◌, refl, ap}
use mathlib.Core.Bool.{Bool, true, cond}
use mathlib.Core.List.{List, ◌++◌}
use mathlib.Core.Option.{Option, none, some}
use Prim.Native.Nat.{ℕ, ◌+◌, ◌≤◌}
use native.Mathlib.Omega.{arith}
use borrow.Author.Tests.{le-leb}
use lib.Dec.{eqb}
use lib.ListN.{length}
use Rattle.slices.specs.Ascii.{bytes}
use Rattle.slices.specs.Same.{same as alike}
use Rattle.grammar.specs.Policies.{Span, Root, root_byte, Root.Principal, Root.Resource, Root.Env, Root.Action, Operand, attribute, literal, Tree, constant, compare, like, among, within, contains, has, not, brackets, both, either, choice, Policy}
use Rattle.grammar.specs.declared.Version.{Version}
use Rattle.placing.specs.Placed.{Each, Lies, unblanked_at, OperandPlaced, an_attribute, TreePlaced, a_comparison, a_likeness, in_list, in_an_attribute, a_call, a_presence, a_negation, in_brackets, a_conjunction, a_disjunction, a_choice, ConditionPlaced, a_condition, PolicyPlaced}
use Rattle.placing.specs.Said.{condition_words, operand_words, policy_words, tree_words}
use Rattle.table.specs.declared.Entry.{Entry}
use Rattle.table.specs.Entries.{placed, has_kind, operand_entry, tree_entries, condition_entries}
use Rattle.stored.specs.ReadBack.{span_of_entry}
use Rattle.placing.proofs.EachLaws.{each_first, each_rest, each_left, each_right, each_as}
use Rattle.views.specs.Meaning.{Datum, text, absent, View}
use Rattle.meaning.specs.Values.{with_action, attribute_value, operand_value}
use Rattle.meaning.specs.Conditions.{settles, verdict, is_yes}
use Rattle.meaning.specs.Targets.{Request}
use Rattle.meaning.specs.Decisions.{under, condition_holds, satisfied}
use Rattle.depths.specs.Columns.{root_by, is_attribute}

-- two views show the same for the attribute of an entry
pub record Shows (t : List ℕ) (u v : View) (x : Entry) : Type 0 where
  pub same : is_attribute t x ≡ true → u (root_by x.kind) (unblanked_at t (span_of_entry x)) ≡ v (root_by x.kind) (unblanked_at t (span_of_entry x))

is_attribute_lem : (t : List ℕ) (x : Entry) → x.kind ≤ 8 → Lies t (span_of_entry x) → is_attribute t x ≡ true
unfolding is_attribute
is_attribute_lem t x k l =
    let s = l.some in let h = l.high in
    rw (le-leb x.kind 8 k, le-leb x.first x.second (omega arith), le-leb x.second (length t) h)

module _ (t : List ℕ) (u v : View) where
  -- ---- attributes and operands

  attribute_agrees : (root : Root) (s : Span) → Lies t s → Shows t u v (placed (root_byte root) s) → attribute_value u root (unblanked_at t s) ≡ attribute_value v root (unblanked_at t s)
  unfolding attribute_value root_by
  attribute_agrees Principal s l h = h.same (is_attribute_lem t (placed 1 s) (omega arith) l)
  attribute_agrees Resource s l h = h.same (is_attribute_lem t (placed 2 s) (omega arith) l)
  attribute_agrees Env s l h = h.same (is_attribute_lem t (placed 3 s) (omega arith) l)
  attribute_agrees Action s l h = h.same (is_attribute_lem t (placed 4 s) (omega arith) l)

  presence_agrees : (root : Root) (s : Span) → Lies t s → Shows t u v (placed (has_kind root) s) → attribute_value u root (unblanked_at t s) ≡ attribute_value v root (unblanked_at t s)
  unfolding attribute_value root_by
  presence_agrees Principal s l h = h.same (is_attribute_lem t (placed 5 s) (omega arith) l)
  presence_agrees Resource s l h = h.same (is_attribute_lem t (placed 6 s) (omega arith) l)
  presence_agrees Env s l h = h.same (is_attribute_lem t (placed 7 s) (omega arith) l)
  presence_agrees Action s l h = h.same (is_attribute_lem t (placed 8 s) (omega arith) l)

  operand_agrees : (a : Operand) → OperandPlaced t a → Shows t u v (operand_entry a) → operand_value u (operand_words t a) ≡ operand_value v (operand_words t a)
  unfolding operand_value operand_words operand_entry
  operand_agrees (attribute root s) (an_attribute p) h = attribute_agrees root s p.lies h
  operand_agrees (literal l) p h = refl

  -- ---- conditions

  pub verdict_agrees : (settles : Bool) (c : Tree) → TreePlaced t c → (e : ℕ) → Each (Shows t u v) (tree_entries e c)
      → verdict settles u (tree_words t c) ≡ verdict settles v (tree_words t c)
  unfolding verdict tree_words tree_entries
  verdict_agrees settles (constant b) p e h = refl
  verdict_agrees settles (compare k a b) (a_comparison p q) e h = simp (operand_agrees a p (each_first h), operand_agrees b q (each_first (each_rest h)))
  verdict_agrees settles (like a s) (a_likeness p q r) e h = simp (operand_agrees a p (each_first h))
  verdict_agrees settles (among a ls) (in_list p q) e h = simp (operand_agrees a p (each_first h))
  verdict_agrees settles (within a root s) (in_an_attribute p q) e h = simp (operand_agrees a p (each_first h), attribute_agrees root s q.lies (each_first (each_rest h)))
  verdict_agrees settles (contains w root s ls) (a_call p q) e h = simp (attribute_agrees root s p.lies (each_first h))
  verdict_agrees settles (has root s) (a_presence p) e h = simp (presence_agrees root s p.lies (each_first h))
  verdict_agrees settles (not a) (a_negation p) e h = rw (verdict_agrees settles a p e (each_left (tree_entries e a) _ h))
  verdict_agrees settles (brackets a) (in_brackets p) e h = verdict_agrees settles a p e (each_left (tree_entries e a) _ h)
  verdict_agrees settles (both a b) (a_conjunction p q) e h =
      let m = e + length (tree_entries e a) in
      let parts = each_left (tree_entries e a ++ tree_entries m b) _ h in
      rw (verdict_agrees settles a p e (each_left (tree_entries e a) _ parts), verdict_agrees settles b q m (each_right (tree_entries e a) _ parts))
  verdict_agrees settles (either a b) (a_disjunction p q) e h =
      let m = e + length (tree_entries e a) in
      let parts = each_left (tree_entries e a ++ tree_entries m b) _ h in
      rw (verdict_agrees settles a p e (each_left (tree_entries e a) _ parts), verdict_agrees settles b q m (each_right (tree_entries e a) _ parts))
  verdict_agrees settles (choice a b c) (a_choice p q r) e h =
      let m = e + length (tree_entries e a) in
      let k = m + length (tree_entries m b) in
      let parts = each_left ((tree_entries e a ++ tree_entries m b) ++ tree_entries k c) _ h in
      let front = each_left (tree_entries e a ++ tree_entries m b) _ parts in
      rw (
        verdict_agrees settles a p e (each_left (tree_entries e a) _ front),
        verdict_agrees settles b q m (each_right (tree_entries e a) _ front),
        verdict_agrees settles c r k (each_right (tree_entries e a ++ tree_entries m b) _ parts),
      )

  condition_agrees : (version : Version) (c : Option Tree) → ConditionPlaced t c → (e : ℕ) → Each (Shows t u v) (condition_entries e c)
      → condition_holds (under version u) (condition_words t c) ≡ condition_holds (under version v) (condition_words t c)
  unfolding condition_holds condition_words condition_entries
  condition_agrees version none p e h = refl
  condition_agrees version (some c) (a_condition p d) e h = ap is_yes (verdict_agrees (settles version) c p e h)

-- ---- policies

shows_with : (t action : List ℕ) (u v : View) (x : Entry) → Shows t u v x → Shows t (with_action action u) (with_action action v) x
unfolding with_action
shows_with t action u v x h = record {
  same = λ m. ap (λ (d : Datum). cond (eqb (root_by x.kind) (root_byte Action)) (cond (alike (unblanked_at t (span_of_entry x)) (bytes "name")) (text action) absent) d) (h.same m);
}

pub policy_agrees : (version : Version) (t : List ℕ) (u v : View) (q : Request) (policy : Policy) → PolicyPlaced t policy → (e : ℕ)
    → Each (Shows t u v) (condition_entries e policy.condition) → satisfied (under version u) q (policy_words t policy) ≡ satisfied (under version v) q (policy_words t policy)
unfolding satisfied
policy_agrees version t u v q policy p e h =
    rw (condition_agrees t (with_action q.action u) (with_action q.action v) version policy.condition p.condition e (each_as (shows_with t q.action u v) h))
