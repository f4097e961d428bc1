-- Inside a policy there is no `;` and no refused token: of all that the grammar reads there. Assumes nothing.
use mathlib.Core.Path.{◌≡◌, refl}
use mathlib.Core.Bool.{Bool, true, false, not, ◌&&◌, ◌||◌}
use mathlib.Core.List.{List, ◌∷◌}
use mathlib.Core.Logic.{⊎_elim}
use mathlib.Core.Option.{Option}
use Prim.Native.Nat.{ℕ, zero, suc, ◌≤◌}
use native.Mathlib.Omega.{arith}
use lib.Dec.{eqb, leb}
use borrow.Author.Tests.{eqb-true, ne_eqb, le-leb, leb-true}
use Rattle.tokens.specs.Kinds as kinds
use Rattle.tokens.proofs.TokenLaws.{and_left, or_cases}
use Rattle.reading.specs.Lexemes.{Lexeme, is}
use Rattle.reading.specs.Reads.{Reading, Chain, Chain.alone, Chain.more, Onto, Onto.onto, Before, Before.ended, After, After.begun}
use Rattle.grammar.specs.Policies.{Root, Literal, Operand, Tree, Part, Actions, Policy}
use Rattle.grammar.specs.Rules.{is_effect, is_root, is_truth, is_literal, is_comparator, is_contains, principal_types, resource_types}
use Rattle.grammar.specs.Grammar.{Limits, Path, FirstName, first, NextName, next, APath, Attribute, rooted, AnOperand, given, Element, element, Listing}
use Rattle.grammar.specs.Grammar.{Simple, comparison, likeness, listed, held, call, having, Conjunction, Disjunction, ConditionOver, simple, negation}
use Rattle.grammar.specs.Grammar.{bracketed, conditional, Condition, Typed, ResourceRest, ActionRest, When, PolicyRest}
use Rattle.grammar.specs.Grammar as grammar

-- a kind that is no refusal and not `;`
unfoldable pub inner : ℕ → Bool
inner k = leb 7 k && not (eqb k kinds.semicolon)

-- the tokens i end in r, and those before it are of such kinds
pub data Spends : List Lexeme → List Lexeme → Type 0 where
  none : {r : List Lexeme} → Spends r r
  one : {x : Lexeme} {i r : List Lexeme} → inner x.kind ≡ true → Spends i r → Spends (x ∷ i) r

pub spends_then : {i m r : List Lexeme} → Spends i m → Spends m r → Spends i r
spends_then none b = b
spends_then (one e a) b = one e (spends_then a b)

-- ---- kinds

inner_is : (k : ℕ) → 7 ≤ k → (k ≡ kinds.semicolon → ⊥) → inner k ≡ true
unfolding inner
inner_is k h n = rw (le-leb 7 k h, ne_eqb k 59 n)

-- of a token of this kind
kind_inner : (x : Lexeme) (k : ℕ) → inner k ≡ true → x.kind ≡ k → inner x.kind ≡ true
kind_inner x k h e = rw e h

test_inner : (x : Lexeme) (k : ℕ) → inner k ≡ true → is k x ≡ true → inner x.kind ≡ true
test_inner x k h e = kind_inner x k h (eqb-true x.kind k e)

-- by one of two tests
abbrev Inner : Lexeme → Bool → Type 0
Inner x test = test ≡ true → inner x.kind ≡ true

or_inner : (x : Lexeme) (a b : Bool) → Inner x a → Inner x b → Inner x (a || b)
or_inner x a b f g e = ⊎_elim f g (or_cases a b e)

module _ (x : Lexeme) where
  pub effect_inner : Inner x (is_effect x)
  unfolding inner
  effect_inner = or_inner x _ _ (test_inner x kinds.permit_word refl) (test_inner x kinds.forbid_word refl)

  root_inner : Inner x (is_root x)
  root_inner e = let h = leb-true 204 x.kind (and_left _ _ e) in inner_is x.kind (omega arith) (λ z. omega arith)

  truth_inner : Inner x (is_truth x)
  unfolding inner
  truth_inner = or_inner x _ _ (test_inner x kinds.true_word refl) (test_inner x kinds.false_word refl)

  string_inner : Inner x (is kinds.string x)
  unfolding inner
  string_inner = test_inner x kinds.string refl

  literal_inner : Inner x (is_literal x)
  unfolding inner
  literal_inner = or_inner x _ _ (or_inner x _ _ string_inner (test_inner x kinds.number refl)) truth_inner

  comparator_inner : Inner x (is_comparator x)
  unfolding inner
  comparator_inner =
      or_inner x _ _ (or_inner x _ _ (or_inner x _ _ (or_inner x _ _ (or_inner x _ _ (test_inner x kinds.equal refl) (test_inner x kinds.not_equal refl))
      (test_inner x kinds.more refl)) (test_inner x kinds.at_least refl)) (test_inner x kinds.less refl)) (test_inner x kinds.at_most refl)

  contains_inner : Inner x (is_contains x)
  unfolding inner
  contains_inner = or_inner x _ _ (test_inner x kinds.contains_all_word refl) (test_inner x kinds.contains_any_word refl)

-- ---- what is read of such tokens

-- R spends such tokens only
record Spending {A : Type 0} (R : Reading A) : Type 0 where
  at : {i r : List Lexeme} {a : A} → R i r a → Spends i r

module _ {A : Type 0} {R : Reading A} (s : Spending R) where
  spending_onto : {B : Type 0} {f : A → B} → Spending (Onto f R)
  spending_onto {B = B} {f = f} = record { at = go }
    where
      go : {i r : List Lexeme} {b : B} → Onto f R i r b → Spends i r
      go (onto h) = s.at h

  spending_before : (k : ℕ) → inner k ≡ true → Spending (Before k R)
  spending_before k e = record { at = go }
    where
      go : {i r : List Lexeme} {a : A} → Before k R i r a → Spends i r
      go (ended {x = x} h t) = spends_then (s.at h) (one (kind_inner x k e t) none)

  spending_after : (k : ℕ) → inner k ≡ true → Spending (After k R)
  spending_after k e = record { at = go }
    where
      go : {i r : List Lexeme} {a : A} → After k R i r a → Spends i r
      go (begun {x = x} t h) = one (kind_inner x k e t) (s.at h)

  spending_chain : (sep : ℕ) → inner sep ≡ true → {Next : A → Lexeme → Reading A} → ((a : A) (x : Lexeme) → Spending (Next a x))
      → Spending (Chain (λ a. is sep) R Next)
  spending_chain sep e {Next} n = record { at = go }
    where
      go : {i r : List Lexeme} {a : A} → Chain (λ a. is sep) R Next i r a → Spends i r
      go (alone h) = s.at h
      go (more {x = x} {a = a} j t h) = spends_then (go j) (one (test_inner x sep e t) ((n a x).at h))

-- what stands behind a policy's effect: tokens that are no refusal and not `;`, and then one `;`
pub record Closing (i r : List Lexeme) : Type 0 where
  pub semicolon : Lexeme
  pub is_one : semicolon.kind ≡ kinds.semicolon
  pub spends : Spends i (semicolon ∷ r)

module _ (L : Limits) where
  spending_path : (root : Root) → Spending (APath L root)
  unfolding inner
  spending_path root = spending_chain (record { at = go }) kinds.dot refl (λ p d. record { at = go_on })
    where
      go : {i r : List Lexeme} {p : Path} → FirstName L root i r p → Spends i r
      go (first {x = x} k l) = one (kind_inner x kinds.name refl k) none

      go_on : {p : Path} {i r : List Lexeme} {q : Path} → NextName L root p i r q → Spends i r
      go_on (next {x = x} k l) = one (kind_inner x kinds.name refl k) none

  spending_attribute : Spending (Attribute L)
  unfolding inner
  spending_attribute = record { at = go }
    where
      go : {i r : List Lexeme} {a : Operand} → Attribute L i r a → Spends i r
      go (rooted {x = x} {d = d} t k h) = one (root_inner x t) (one (kind_inner d kinds.dot refl k) ((spending_path _).at h))

  spending_operand : Spending (AnOperand L)
  spending_operand = record { at = go }
    where
      go : {i r : List Lexeme} {a : Operand} → AnOperand L i r a → Spends i r
      go (given h) = spending_attribute.at h
      go (grammar.AnOperand.literally {x = x} t l) = one (literal_inner x t) none

  spending_listing : (sort : Lexeme → Bool) → ((x : Lexeme) → Inner x (sort x)) → Spending (Listing L sort)
  unfolding inner
  spending_listing sort f =
      spending_after (spending_before (spending_chain (record { at = go }) kinds.comma refl (λ ls x. record { at = go })) kinds.right_square refl)
      kinds.left_square refl
    where
      go : {ls : List Literal} {i r : List Lexeme} {ks : List Literal} → Element L sort ls i r ks → Spends i r
      go (element {x = x} t c l) = one (f x t) none

  spending_simple : Spending (Simple L)
  unfolding inner
  spending_simple = record { at = go }
    where
      go : {i r : List Lexeme} {t : Tree} → Simple L i r t → Spends i r
      go (grammar.Simple.bare {x = x} t) = one (truth_inner x t) none
      go (comparison {x = x} h t k) = spends_then (spending_operand.at h) (one (comparator_inner x t) (spending_operand.at k))
      go (likeness {x = x} {s = s} h e e' l f) =
          spends_then (spending_operand.at h) (one (kind_inner x kinds.like_word refl e) (one (kind_inner s kinds.string refl e') none))
      go (listed {x = x} h e k) = spends_then (spending_operand.at h) (one (kind_inner x kinds.in_word refl e) ((spending_listing is_literal literal_inner).at k))
      go (held {x = x} h e k) = spends_then (spending_operand.at h) (one (kind_inner x kinds.in_word refl e) (spending_attribute.at k))
      go (call {d = d} {w = w} {o = o} h e t e' k) =
          spends_then (spending_attribute.at h)
          (one (kind_inner d kinds.dot refl e) (one (contains_inner w t) (one (kind_inner o kinds.left_round refl e')
          ((spending_before (spending_listing is_literal literal_inner) kinds.right_round refl).at k))))
      go (having {x = x} {h = h} t e j) = one (root_inner x t) (one (kind_inner h kinds.has_word refl e) ((spending_path _).at j))

  spending_conjunction : {R : Reading Tree} → Spending R → Spending (Conjunction R)
  unfolding inner
  spending_conjunction s = spending_chain s kinds.and refl (λ a x. spending_onto s)

  spending_disjunction : {R : Reading Tree} → Spending R → Spending (Disjunction R)
  unfolding inner
  spending_disjunction s = spending_chain (spending_conjunction s) kinds.or refl (λ a x. spending_onto (spending_conjunction s))

  spending_form : {R : Reading Tree} → Spending R → Spending (ConditionOver L R)
  unfolding inner
  spending_form {R = R} s = record { at = go }
    where
      go : {i r : List Lexeme} {t : Tree} → ConditionOver L R i r t → Spends i r
      go (simple h) = spending_simple.at h
      go (negation {x = x} e h) = one (kind_inner x kinds.bang refl e) (s.at h)
      go (bracketed {x = x} e h) = one (kind_inner x kinds.left_round refl e) ((spending_before (spending_disjunction s) kinds.right_round refl).at h)
      go (conditional {x = x} e h₁ h₂ h₃) =
          one (kind_inner x kinds.if_word refl e)
          (spends_then ((spending_before s kinds.then_word refl).at h₁) (spends_then ((spending_before s kinds.else_word refl).at h₂) (s.at h₃)))

  spending_condition : (d : ℕ) → Spending (Condition L d)
  spending_condition zero = spending_form (record { at = λ h. elim h [ ] })
  spending_condition (suc d) = spending_form (spending_condition d)

  spending_typed : (types : List (List ℕ)) → Spending (Typed types)
  unfolding inner
  spending_typed types = record { at = go }
    where
      go : {i r : List Lexeme} {p : Part} → Typed types i r p → Spends i r
      go grammar.Typed.bare = none
      go (grammar.Typed.one {x = x} {n = n} k t) = one (kind_inner x kinds.is_word refl k) (one (test_inner n kinds.name refl (and_left _ _ t)) none)

  spending_resource : Spending (ResourceRest L)
  unfolding inner
  spending_resource = record { at = go }
    where
      go : {i r : List Lexeme} {p : Part} → ResourceRest L i r p → Spends i r
      go (grammar.ResourceRest.sort h) = (spending_typed resource_types).at h
      go (grammar.ResourceRest.string {x = x} {s = s} k e l) = one (kind_inner x kinds.equal refl k) (one (kind_inner s kinds.string refl e) none)

  spending_action : Spending (ActionRest L)
  unfolding inner
  spending_action = record { at = go }
    where
      go : {i r : List Lexeme} {a : Actions} → ActionRest L i r a → Spends i r
      go grammar.ActionRest.bare = none
      go (grammar.ActionRest.list {x = x} k h) = one (kind_inner x kinds.in_word refl k) ((spending_listing (is kinds.string) string_inner).at h)

  spending_when : Spending (When L)
  unfolding inner
  spending_when = record { at = go }
    where
      go : {i r : List Lexeme} {c : Option Tree} → When L i r c → Spends i r
      go grammar.When.bare = none
      go (grammar.When.braces {x = x} k h) =
          one (kind_inner x kinds.when_word refl k)
          ((spending_after (spending_before (spending_disjunction (spending_condition L.levels)) kinds.right_brace refl) kinds.left_brace refl).at h)

  spending_principals : Spending (After kinds.left_round (After kinds.principal_word (Before kinds.comma (Typed principal_types))))
  unfolding inner
  spending_principals =
      spending_after (spending_after (spending_before (spending_typed principal_types) kinds.comma refl) kinds.principal_word refl) kinds.left_round refl

  -- a policy closes so
  pub policy_closes : {permits : Bool} {i r : List Lexeme} {p : Policy} → PolicyRest L permits i r p → Closing i r
  unfolding inner
  policy_closes (grammar.PolicyRest.rest h₁ h₂ h₃ (ended {x = x} h e)) = record {
    semicolon = x;
    is_one = e;
    spends =
        spends_then (spending_principals.at h₁)
        (spends_then ((spending_after (spending_before spending_action kinds.comma refl) kinds.action_word refl).at h₂)
        (spends_then ((spending_after (spending_before spending_resource kinds.right_round refl) kinds.resource_word refl).at h₃) (spending_when.at h)));
  }
