-- Where a name, a type and `!` stand in a rule text, by the tokens before them, whatever limits are asked. Assumes nothing.
use mathlib.Core.Path.{◌≡◌, refl, sym}
use mathlib.Core.Logic.{◌⊎◌, inl, inr}
use mathlib.Core.Bool.{Bool, true, false, ◌||◌, or-true}
use mathlib.Core.List.{List, [], ◌∷◌, ◌++◌, reverse_aux}
use mathlib.Core.Option.{Option}
use Prim.Native.Nat.{ℕ, zero, suc}
use native.Mathlib.Omega.{arith}
use lib.Dec.{eqb}
use borrow.Author.Tests.{eqb-true}
use Rattle.tokens.specs.Kinds as kinds
use Rattle.tokens.proofs.TokenLaws.{never, and_left}
use Rattle.reading.specs.Lexemes.{Lexeme, is}
use Rattle.reading.specs.Reads.{Reading, Chain, Chain.alone, Chain.more, Onto.onto, Before.ended, After.begun}
use Rattle.grammar.specs.Policies.{Root, Literal, Operand, Tree, Part, Actions, Policy}
use Rattle.grammar.specs.Rules.{is_effect, is_root, is_truth, is_literal, is_comparator, is_contains, principal_types, resource_types, is_type}
use Rattle.grammar.specs.Grammar.{Limits, Path, first, next, APath, Attribute, rooted, AnOperand, given, Element, element, Listing, Simple, comparison, likeness, listed, held, call, having, Joined, Disjunction, ConditionOver, simple, negation, bracketed, conditional, Condition, Typed, ResourceRest, ActionRest, When, PolicyRest, Policies, policy}
use Rattle.grammar.specs.Grammar as grammar
use Rattle.grammar.specs.Numbers.{last_passes, at_name, at_type, at_condition}
use Rattle.grammar.proofs.Begun.{made}
use Rattle.grammar.proofs.Completeness.{other_kind}
use Rattle.grammar.proofs.Spots.{no_other}

-- ---- what stands where

-- a name of some part's types
abbrev pub some_type : Lexeme → Bool
some_type x = is_type principal_types x || is_type resource_types x

-- a token that is no name, no `!` and no `is`
pub record Plain (x : Lexeme) : Type 0 where
  name : is kinds.name x ≡ false
  bang : is kinds.bang x ≡ false
  type : is kinds.is_word x ≡ false

-- The tokens behind c, whose last comes first, up to the end of the text: a name stands where a path goes on or is a type behind `is`, `!` stands where a condition begins, and behind `is` stands a type.
pub data Walks : List Lexeme → List Lexeme → Type 0 where
  done : {c : List Lexeme} → Walks c []
  step : {x : Lexeme} {c i : List Lexeme} → Plain x → Walks (x ∷ c) i → Walks c (x ∷ i)
  named : {x : Lexeme} {c i : List Lexeme} → x.kind ≡ kinds.name → at_name c ≡ true → Walks (x ∷ c) i → Walks c (x ∷ i)
  negated : {x : Lexeme} {c i : List Lexeme} → x.kind ≡ kinds.bang → at_condition c ≡ true → Walks (x ∷ c) i → Walks c (x ∷ i)
  typed : {x n : Lexeme} {c i : List Lexeme} → x.kind ≡ kinds.is_word → n.kind ≡ kinds.name → some_type n ≡ true → Walks (n ∷ x ∷ c) i → Walks c (x ∷ n ∷ i)

by_kind : (k : ℕ) → (eqb k kinds.name ≡ false) × (eqb k kinds.bang ≡ false) × (eqb k kinds.is_word ≡ false) → {x : Lexeme} → x.kind ≡ k → Plain x
by_kind k h e = record { name = rw e h.0; bang = rw e h.1; type = rw e h.2 }

by_test : (test : ℕ → Bool) → (test kinds.name ≡ false) × (test kinds.bang ≡ false) × (test kinds.is_word ≡ false) → (x : Lexeme) → test x.kind ≡ true → Plain x
by_test test h x t = record { name = other_kind test x.kind _ t h.0; bang = other_kind test x.kind _ t h.1; type = other_kind test x.kind _ t h.2 }

root : (x : Lexeme) → is_root x ≡ true → Plain x
root x t = by_test (λ k. is_root (made k)) (refl, refl, refl) x t

literal : (x : Lexeme) → is_literal x ≡ true → Plain x
literal x t = by_test (λ k. is_literal (made k)) (refl, refl, refl) x t

-- ---- each production

-- whatever stands before r
abbrev pub Ends : List Lexeme → Type 0
Ends r = (d : List Lexeme) → Walks d r

-- a token of the kind k that is no name, no `!` and no `is`, and then r
past : (k : ℕ) → (eqb k kinds.name ≡ false) × (eqb k kinds.bang ≡ false) × (eqb k kinds.is_word ≡ false) → {x : Lexeme} {r : List Lexeme} → x.kind ≡ k → Ends r → Ends (x ∷ r)
past k h e f d = step (by_kind k h e) (f _)

-- behind a dot and behind `has` stands a name
behind_dot : (x : Lexeme) (d : List Lexeme) → x.kind ≡ kinds.dot → at_name (x ∷ d) ≡ true
unfolding last_passes
behind_dot x d e = rw e

behind_has : (x : Lexeme) (d : List Lexeme) → x.kind ≡ kinds.has_word → at_name (x ∷ d) ≡ true
unfolding last_passes
behind_has x d e = rw e

-- behind a token of the kind k, which is no name, no `!` and no `is`, a condition begins
record Opens (k : ℕ) : Type 0 where
  plain : (eqb k kinds.name ≡ false) × (eqb k kinds.bang ≡ false) × (eqb k kinds.is_word ≡ false)
  begins : (x : Lexeme) (d : List Lexeme) → x.kind ≡ k → at_condition (x ∷ d) ≡ true

and_opens : Opens kinds.and
unfolding at_condition
and_opens = record { plain = (refl, refl, refl); begins = λ x d e. rw e }

or_opens : Opens kinds.or
unfolding at_condition
or_opens = record { plain = (refl, refl, refl); begins = λ x d e. rw e }

if_opens : Opens kinds.if_word
unfolding at_condition
if_opens = record { plain = (refl, refl, refl); begins = λ x d e. rw e }

then_opens : Opens kinds.then_word
unfolding at_condition
then_opens = record { plain = (refl, refl, refl); begins = λ x d e. rw e }

else_opens : Opens kinds.else_word
unfolding at_condition
else_opens = record { plain = (refl, refl, refl); begins = λ x d e. rw e }

brace_opens : Opens kinds.left_brace
unfolding at_condition
brace_opens = record { plain = (refl, refl, refl); begins = λ x d e. rw e }

behind_bang : (x : Lexeme) (d : List Lexeme) → x.kind ≡ kinds.bang → at_condition (x ∷ d) ≡ true
unfolding at_condition
behind_bang x d e = rw e

behind_round : (x : Lexeme) (d : List Lexeme) → x.kind ≡ kinds.left_round → at_condition d ≡ true → at_condition (x ∷ d) ≡ true
unfolding at_condition
behind_round x d e a = rw (e, no_other d a)

-- what R reads where a condition begins
record Begins (R : Reading Tree) : Type 0 where
  at : {i r : List Lexeme} {t : Tree} → R i r t → Ends r → (c : List Lexeme) → at_condition c ≡ true → Walks c i

-- what opens a condition, and then the condition
opened : {k : ℕ} → Opens k → {R : Reading Tree} → Begins R → {x : Lexeme} {i r : List Lexeme} {t : Tree} → x.kind ≡ k → R i r t → Ends r → Ends (x ∷ i)
opened o b {x = x} e h f d = step (by_kind _ o.plain e) (b.at h f (x ∷ d) (o.begins x d e))

walk_joined : (sep : ℕ) → Opens sep → {join : Tree → Tree → Tree} {R : Reading Tree} → Begins R → Begins (Joined sep join R)
walk_joined sep o {join = join} {R = R} b = record { at = go }
  where
    go : {i r : List Lexeme} {t : Tree} → Joined sep join R i r t → Ends r → (c : List Lexeme) → at_condition c ≡ true → Walks c i
    go (alone h) f c a = b.at h f c a
    go (more j e (onto h)) f c a = go j (opened o b (eqb-true _ _ e) h f) c a

walk_disjunction : {R : Reading Tree} → Begins R → Begins (Disjunction R)
walk_disjunction b = walk_joined kinds.or or_opens (walk_joined kinds.and and_opens b)

walk_typed : (types : List (List ℕ)) → ((n : Lexeme) → is_type types n ≡ true → some_type n ≡ true) → {i r : List Lexeme} {p : Part} → Typed types i r p → Ends r → Ends i
walk_typed types g grammar.Typed.bare f c = f c
walk_typed types g (grammar.Typed.one {n = n} e t) f c = typed e (eqb-true _ _ (and_left _ _ t)) (g n t) (f _)

walk_resource : {L : Limits} {i r : List Lexeme} {p : Part} → ResourceRest L i r p → Ends r → Ends i
walk_resource (grammar.ResourceRest.sort h) f = walk_typed resource_types (λ n t. rw t (or-true (is_type principal_types n))) h f
walk_resource (grammar.ResourceRest.string e e' l) f = past kinds.equal (refl, refl, refl) e (past kinds.string (refl, refl, refl) e' f)

module _ (L : Limits) where
  walk_names : (root : Root) {i r : List Lexeme} {p : Path} → APath L root i r p → Ends r → (c : List Lexeme) → at_name c ≡ true → Walks c i
  walk_names root (alone (first e l)) f c a = named e a (f _)
  walk_names root (more {x = x} j e (next k l)) f c a =
      walk_names root j (λ d. step (by_kind kinds.dot (refl, refl, refl) (eqb-true _ _ e)) (named k (behind_dot x d (eqb-true _ _ e)) (f _))) c a

  walk_attribute : {i r : List Lexeme} {a : Operand} → Attribute L i r a → Ends r → Ends i
  walk_attribute (rooted {x = x} {d = d} t e j) f c = step (root x t) (step (by_kind kinds.dot (refl, refl, refl) e) (walk_names _ j f _ (behind_dot d _ e)))

  walk_operand : {i r : List Lexeme} {a : Operand} → AnOperand L i r a → Ends r → Ends i
  walk_operand (given h) f c = walk_attribute h f c
  walk_operand (grammar.AnOperand.literally {x = x} t l) f c = step (literal x t) (f _)

  module _ (sort : Lexeme → Bool) (sorts : (x : Lexeme) → sort x ≡ true → is_literal x ≡ true) where
    walk_element : {ls ks : List Literal} {i r : List Lexeme} → Element L sort ls i r ks → Ends r → Ends i
    walk_element (element {x = x} t l k) f c = step (literal x (sorts x t)) (f _)

    walk_elements : {ls : List Literal} {i r : List Lexeme} → Chain (λ ls. is kinds.comma) (Element L sort []) (λ ls comma. Element L sort ls) i r ls → Ends r → Ends i
    walk_elements (alone h) f c = walk_element h f c
    walk_elements (more j e h) f c = walk_elements j (past kinds.comma (refl, refl, refl) (eqb-true _ _ e) (walk_element h f)) c

    walk_listing : {ls : List Literal} {i r : List Lexeme} → Listing L sort i r ls → Ends r → Ends i
    walk_listing (begun e (ended h e')) f = past kinds.left_square (refl, refl, refl) e (walk_elements h (past kinds.right_square (refl, refl, refl) e' f))

  walk_simple : {i r : List Lexeme} {t : Tree} → Simple L i r t → Ends r → Ends i
  walk_simple (grammar.Simple.bare {x = x} t) f = λ c. step (by_test (λ k. is_truth (made k)) (refl, refl, refl) x t) (f _)
  walk_simple (comparison {x = x} h t k) f = walk_operand h (λ d. step (by_test (λ k. is_comparator (made k)) (refl, refl, refl) x t) (walk_operand k f _))
  walk_simple (likeness h e e' l k) f = walk_operand h (past kinds.like_word (refl, refl, refl) e (past kinds.string (refl, refl, refl) e' f))
  walk_simple (listed h e k) f = walk_operand h (past kinds.in_word (refl, refl, refl) e (walk_listing is_literal (λ x t. t) k f))
  walk_simple (held h e k) f = walk_operand h (past kinds.in_word (refl, refl, refl) e (walk_attribute k f))
  walk_simple (call {w = w} h e t e' (ended k e'')) f =
      walk_attribute h (past kinds.dot (refl, refl, refl) e (λ d. step (by_test (λ k. is_contains (made k)) (refl, refl, refl) w t)
      (past kinds.left_round (refl, refl, refl) e' (walk_listing is_literal (λ x t. t) k (past kinds.right_round (refl, refl, refl) e'' f)) _)))
  walk_simple (having {x = x} {h = h} t e j) f = λ c. step (root x t) (step (by_kind kinds.has_word (refl, refl, refl) e) (walk_names _ j f _ (behind_has h _ e)))

  walk_form : {R : Reading Tree} → Begins R → Begins (ConditionOver L R)
  walk_form {R = R} b = record { at = go }
    where
      go : {i r : List Lexeme} {t : Tree} → ConditionOver L R i r t → Ends r → (c : List Lexeme) → at_condition c ≡ true → Walks c i
      go (simple h) f c a = walk_simple h f c
      go (negation {x = x} e h) f c a = negated e a (b.at h f (x ∷ c) (behind_bang x c e))
      go (bracketed {x = x} e (ended h e')) f c a =
          step (by_kind kinds.left_round (refl, refl, refl) e) ((walk_disjunction b).at h (past kinds.right_round (refl, refl, refl) e' f) (x ∷ c) (behind_round x c e a))
      go (conditional e (ended h₁ e₁) (ended h₂ e₂) h₃) f c a = opened if_opens b e h₁ (opened then_opens b e₁ h₂ (opened else_opens b e₂ h₃ f)) c

  walk_condition : (n : ℕ) → Begins (Condition L n)
  walk_condition zero = walk_form (record { at = λ h. elim h [ ] })
  walk_condition (suc n) = walk_form (walk_condition n)

  walk_action : {i r : List Lexeme} {a : Actions} → ActionRest L i r a → Ends r → Ends i
  walk_action grammar.ActionRest.bare f = f
  walk_action (grammar.ActionRest.list e h) f = past kinds.in_word (refl, refl, refl) e (walk_listing (is kinds.string) (λ x t. rw t) h f)

  walk_when : {i r : List Lexeme} {c : Option Tree} → When L i r c → Ends r → Ends i
  walk_when grammar.When.bare f = f
  walk_when (grammar.When.braces e (begun e₁ (ended h e₂))) f =
      past kinds.when_word (refl, refl, refl) e (opened brace_opens (walk_disjunction (walk_condition L.levels)) e₁ h (past kinds.right_brace (refl, refl, refl) e₂ f))

  walk_policy : {permits : Bool} {i r : List Lexeme} {p : Policy} → PolicyRest L permits i r p → Ends r → Ends i
  walk_policy (grammar.PolicyRest.rest (begun k₁ (begun k₂ (ended h₁ e₁))) (begun k₃ (ended h₂ e₂)) (begun k₄ (ended h₃ e₃)) (ended h₄ e₄)) f =
      past kinds.left_round (refl, refl, refl) k₁ (past kinds.principal_word (refl, refl, refl) k₂ (walk_typed principal_types (λ n t. rw t) h₁
      (past kinds.comma (refl, refl, refl) e₁ (past kinds.action_word (refl, refl, refl) k₃ (walk_action h₂
      (past kinds.comma (refl, refl, refl) e₂ (past kinds.resource_word (refl, refl, refl) k₄ (walk_resource h₃
      (past kinds.right_round (refl, refl, refl) e₃ (walk_when h₄ (past kinds.semicolon (refl, refl, refl) e₄ f)))))))))))

  pub walk_policies : {i : List Lexeme} {ps qs : List Policy} → Policies L ps i qs → Ends i
  walk_policies grammar.Policies.end c = done
  walk_policies (policy {x = x} t l h k) c = step (by_test (λ k. is_effect (made k)) (refl, refl, refl) x t) (walk_policy h (walk_policies k) _)

-- ---- what a walk says of a place

-- where a name stands
pub name_place : (y : Lexeme) (on b : List Lexeme) {c : List Lexeme} → Walks c (b ++ y ∷ on) → y.kind ≡ kinds.name
    → (at_name (reverse_aux b c) ≡ true) ⊎ ((at_type (reverse_aux b c) ≡ true) × (some_type y ≡ true))
unfolding last_passes
name_place y on [] (step p w) e = absurd (never (sym (rw e at p.name)))
name_place y on [] (named q a w) e = inl a
name_place y on [] (negated q a w) e = absurd (let z : kinds.name ≡ kinds.bang = cc in omega arith)
name_place y on [] (typed q n t w) e = absurd (let z : kinds.name ≡ kinds.is_word = cc in omega arith)
name_place y on (x ∷ []) (step p w) e = name_place y on [] w e
name_place y on (x ∷ []) (named q a w) e = name_place y on [] w e
name_place y on (x ∷ []) (negated q a w) e = name_place y on [] w e
name_place y on (x ∷ []) (typed q n t w) e = inr (rw q, t)
name_place y on (x ∷ z ∷ b) (step p w) e = name_place y on (z ∷ b) w e
name_place y on (x ∷ z ∷ b) (named q a w) e = name_place y on (z ∷ b) w e
name_place y on (x ∷ z ∷ b) (negated q a w) e = name_place y on (z ∷ b) w e
name_place y on (x ∷ z ∷ b) (typed q n t w) e = name_place y on b w e

-- where `!` stands
pub bang_place : (y : Lexeme) (on b : List Lexeme) {c : List Lexeme} → Walks c (b ++ y ∷ on) → y.kind ≡ kinds.bang → at_condition (reverse_aux b c) ≡ true
bang_place y on [] (step p w) e = absurd (never (sym (rw e at p.bang)))
bang_place y on [] (named q a w) e = absurd (let z : kinds.name ≡ kinds.bang = cc in omega arith)
bang_place y on [] (negated q a w) e = a
bang_place y on [] (typed q n t w) e = absurd (let z : kinds.is_word ≡ kinds.bang = cc in omega arith)
bang_place y on (x ∷ []) (step p w) e = bang_place y on [] w e
bang_place y on (x ∷ []) (named q a w) e = bang_place y on [] w e
bang_place y on (x ∷ []) (negated q a w) e = bang_place y on [] w e
bang_place y on (x ∷ []) (typed q n t w) e = absurd (let z : kinds.name ≡ kinds.bang = cc in omega arith)
bang_place y on (x ∷ z ∷ b) (step p w) e = bang_place y on (z ∷ b) w e
bang_place y on (x ∷ z ∷ b) (named q a w) e = bang_place y on (z ∷ b) w e
bang_place y on (x ∷ z ∷ b) (negated q a w) e = bang_place y on (z ∷ b) w e
bang_place y on (x ∷ z ∷ b) (typed q n t w) e = bang_place y on b w e

-- tokens that begin with a name
pub data NameFirst : List Lexeme → Type 0 where
  name_first : {y : Lexeme} {on : List Lexeme} → y.kind ≡ kinds.name → NameFirst (y ∷ on)

-- behind `is` stand such
pub type_next : (on b : List Lexeme) {c : List Lexeme} → at_type c ≡ false → Walks c (b ++ on) → at_type (reverse_aux b c) ≡ true → NameFirst on
unfolding last_passes
type_next on [] f w e = absurd (never (rw f at e))
type_next on (x ∷ []) f (step p w) e = type_next on [] p.type w e
type_next on (x ∷ []) f (named q a w) e = type_next on [] (rw q) w e
type_next on (x ∷ []) f (negated q a w) e = type_next on [] (rw q) w e
type_next on (x ∷ []) f (typed q n t w) e = name_first n
type_next on (x ∷ z ∷ b) f (step p w) e = type_next on (z ∷ b) p.type w e
type_next on (x ∷ z ∷ b) f (named q a w) e = type_next on (z ∷ b) (rw q) w e
type_next on (x ∷ z ∷ b) f (negated q a w) e = type_next on (z ∷ b) (rw q) w e
type_next on (x ∷ z ∷ b) f (typed q n t w) e = type_next on b (rw n) w e
