-- What the grammar reads from a text's tokens lies in the text: one walk over its productions. Assumes nothing.
use mathlib.Core.Path.{◌≡◌, refl}
use mathlib.Core.Bool.{Bool, true, false, cond}
use mathlib.Core.List.{List, [], ◌∷◌, ◌++◌}
use mathlib.Core.Logic.{◌⊎◌, inl, inr, ⊎_elim}
use mathlib.Core.Option.{Option, some}
use Prim.Native.Nat.{ℕ, zero, suc, ◌+◌, ◌≤◌, ◌<◌}
use native.Mathlib.Omega.{arith}
use lib.ListN.{length, length-append}
use borrow.Author.Tests.{eqb-true, eqb-false, ltb-true, not-true}
use Rattle.slices.specs.Same.{same}
use Rattle.utf8.specs.Reading.{utf8}
use Rattle.tokens.specs.Kinds as kinds
use Rattle.tokens.proofs.TokenLaws.{and_right}
use Rattle.tokens.specs.Sizes.{most_literals, most_policies}
use Rattle.reading.specs.Lexemes.{Lexeme, is}
use Rattle.reading.specs.Reads.{Reading, Chain, Chain.alone, Chain.more, Onto, Onto.onto, Before, Before.ended, After, After.begun}
use Rattle.grammar.specs.Policies.{Span, Root, Literal, text, number, truth, Operand, attribute, Tree, both, either, Part, any, typed, Actions, Policy}
use Rattle.grammar.specs.Rules.{inside, span_of, is_literal, literal_of, type_among, type_of, is_type, principal_types, resource_types, is_pattern, is_text}
use Rattle.grammar.specs.Grammar.{sizes, spanned, APath, Attribute, rooted, AnOperand, given, Element, element, Listing, Simple, comparison, likeness, listed, held, call, having, Conjunction, Disjunction, ConditionOver, simple, negation, bracketed, conditional, Condition, Typed, ResourceRest, ActionRest, When, PolicyRest, Policies}
use Rattle.grammar.specs.Grammar as grammar
use Rattle.placing.specs.Placed.{quoted_at, StringPlaced, NumberPlaced, PathPlaced, Each, none_left, and_each, LiteralPlaced, a_string, a_number, a_truth, ActionPlaced, an_action, OperandPlaced, an_attribute, a_literal, Listed, TreePlaced, a_constant, a_comparison, a_likeness, in_list, in_an_attribute, a_call, a_presence, a_negation, in_brackets, a_conjunction, a_disjunction, a_choice, depth, PrincipalPlaced, any_principal, principal_type, ResourcePlaced, any_resource, resource_type, one_resource, ActionsPlaced, any_action, one_of_placed, ConditionPlaced, no_condition, a_condition, PolicyPlaced, PoliciesPlaced}
use Rattle.placing.proofs.EachLaws.{each_append}
use Rattle.placing.proofs.Standing.{Lexed, FromText, head_of, tail_of, inside_text, string_of}
use Rattle.placing.proofs.Paths.{walked}

each_more : {A : Type 0} {P : A → Type 0} {l : List A} {a : A} → Each P l → P a → Each P (l ++ a ∷ [])
each_more {l = l} e h = each_append l _ e (and_each h none_left)

-- ---- types

-- a name's number among some types
type_from : (types : List (List ℕ)) (first : ℕ) (name : List ℕ)
    → (type_among types first name ≡ 0) ⊎ ((first ≤ type_among types first name) × (type_among types first name < first + length types))
unfolding type_among
type_from [] first name = inl refl
type_from (w ∷ types) first name = go (same name w) (type_from types (suc first) name)
  where
    rest : ℕ
    rest = type_among types (suc first) name

    go : (b : Bool) → (rest ≡ 0) ⊎ ((suc first ≤ rest) × (rest < suc first + length types))
        → (cond b first rest ≡ 0) ⊎ ((first ≤ cond b first rest) × (cond b first rest < first + suc (length types)))
    go true h = inr (omega arith, omega arith)
    go false h = ⊎_elim (λ (e : rest ≡ 0). inl e) (λ (l : (suc first ≤ rest) × (rest < suc first + length types)). inr (omega arith, omega arith)) h

type_among_lem : (types : List (List ℕ)) (name : List ℕ) → (type_among types 1 name ≡ 0 → ⊥) → (0 < type_among types 1 name) × (type_among types 1 name ≤ length types)
type_among_lem types name n =
    ⊎_elim (λ (e : type_among types 1 name ≡ 0). absurd (n e))
    (λ (l : (1 ≤ type_among types 1 name) × (type_among types 1 name < 1 + length types)). (omega arith, omega arith))
    (type_from types 1 name)

type_some : (types : List (List ℕ)) (x : Lexeme) → is_type types x ≡ true → type_of types x ≡ 0 → ⊥
type_some types x e = eqb-false (type_of types x) 0 (not-true _ (and_right (is kinds.name x) _ e))

-- ---- readings of readings

-- Of what R reads from a text's tokens P holds, and the tokens behind it are the text's too.
pub record Gives {A : Type 0} (t : List ℕ) (R : Reading A) (P : A → Type 0) : Type 0 where
  pub at : {i r : List Lexeme} {a : A} → R i r a → FromText t i → P a × FromText t r

module _ {A : Type 0} {t : List ℕ} {R : Reading A} {P : A → Type 0} where
  gives_after : {k : ℕ} → Gives t R P → Gives t (After k R) P
  gives_after {k} s = record { at = go }
    where
      go : {i r : List Lexeme} {a : A} → After k R i r a → FromText t i → P a × FromText t r
      go (begun e h) f = s.at h (tail_of f)

  gives_before : {k : ℕ} → Gives t R P → Gives t (Before k R) P
  gives_before {k} s = record { at = go }
    where
      go : {i r : List Lexeme} {a : A} → Before k R i r a → FromText t i → P a × FromText t r
      go (ended h e) f = let y = s.at h f in (y.0, tail_of y.1)

  gives_onto : {B : Type 0} {Q : B → Type 0} {g : A → B} → Gives t R P → ((a : A) → P a → Q (g a)) → Gives t (Onto g R) Q
  gives_onto {B} {Q} {g} s k = record { at = go }
    where
      go : {i r : List Lexeme} {b : B} → Onto g R i r b → FromText t i → Q b × FromText t r
      go (onto h) f = let y = s.at h f in (k _ y.0, y.1)

  gives_chain : {sep : A → Lexeme → Bool} {Next : A → Lexeme → Reading A} → Gives t R P → ((a : A) (x : Lexeme) → P a → Gives t (Next a x) P) → Gives t (Chain sep R Next) P
  gives_chain {sep} {Next} s n = record { at = go }
    where
      go : {i r : List Lexeme} {a : A} → Chain sep R Next i r a → FromText t i → P a × FromText t r
      go (alone h) f = s.at h f
      go (more {x = x} {a = a} j e h) f = let y = go j f in (n a x y.0).at h (tail_of y.1)

-- a condition that lies in the text and has so many levels at most
record Nested (t : List ℕ) (d : ℕ) (c : Tree) : Type 0 where
  placed : TreePlaced t c
  levels : depth c ≤ d

-- ---- literals, operands, lists

module _ {t : List ℕ} where
  literal_placed : {at : ℕ} {x : Lexeme} → is_text x ≡ true → Lexed t at x → LiteralPlaced t (literal_of x)
  unfolding literal_of
  literal_placed {at} {x} u l = go (is kinds.string x) (is kinds.number x) (λ e. string_of l (eqb-true _ _ e) u) (λ e. l.number (eqb-true _ _ e))
    where
      go : (b c : Bool) → (b ≡ true → StringPlaced t (span_of x)) → (c ≡ true → NumberPlaced t (span_of x))
          → LiteralPlaced t (cond b (text (span_of x)) (cond c (number (span_of x)) (truth (is kinds.true_word x))))
      go true c f g = a_string (f refl)
      go false true f g = a_number (g refl)
      go false false f g = a_truth

  action_placed : {at : ℕ} {x : Lexeme} → is kinds.string x ≡ true → is_text x ≡ true → Lexed t at x → ActionPlaced t (literal_of x)
  unfolding literal_of
  action_placed e u l = rw e (an_action (string_of l (eqb-true _ _ e) u))

  gives_names : (root : Root) → Gives t (APath sizes root) (λ p. PathPlaced t root (spanned p))
  gives_names root = record { at = λ h f. let y = walked h f.running in (y.0.placed, record { at = _; running = y.1 }) }

  gives_attribute : Gives t (Attribute sizes) (OperandPlaced t)
  gives_attribute = record { at = go }
    where
      go : {i r : List Lexeme} {a : Operand} → Attribute sizes i r a → FromText t i → OperandPlaced t a × FromText t r
      go (rooted e k h) f = let y = (gives_names _).at h (tail_of (tail_of f)) in (an_attribute y.0, y.1)

  path_of : {root : Root} {s : Span} → OperandPlaced t (attribute root s) → PathPlaced t root s
  path_of (an_attribute h) = h

  gives_operand : Gives t (AnOperand sizes) (OperandPlaced t)
  gives_operand = record { at = go }
    where
      go : {i r : List Lexeme} {a : Operand} → AnOperand sizes i r a → FromText t i → OperandPlaced t a × FromText t r
      go (given h) f = gives_attribute.at h f
      go (grammar.AnOperand.literally e u) f = (a_literal (literal_placed u (head_of f)), tail_of f)

  module _ (sort : Lexeme → Bool) (P : Literal → Type 0) (one : (at : ℕ) (x : Lexeme) → sort x ≡ true → is_text x ≡ true → Lexed t at x → P (literal_of x)) where
    gives_element : (ls : List Literal) → Each P ls → Gives t (Element sizes sort ls) (Listed P)
    gives_element ls e = record { at = go }
      where
        go : {i r : List Lexeme} {ks : List Literal} → Element sizes sort ls i r ks → FromText t i → Listed P ks × FromText t r
        go (element {x} s c u) f =
            let n = length-append ls (literal_of x ∷ []) in let m = ltb-true (length ls) most_literals c in
            (record { some = omega arith; few = omega arith; each = each_more e (one _ _ s u (head_of f)) }, tail_of f)

    gives_listing : Gives t (Listing sizes sort) (Listed P)
    gives_listing = gives_after (gives_before (gives_chain (gives_element [] none_left) (λ ls x h. gives_element ls h.each)))

  literals : Gives t (Listing sizes is_literal) (Listed (LiteralPlaced t))
  literals = gives_listing is_literal (LiteralPlaced t) (λ at x e u l. literal_placed u l)

  -- ---- conditions

  inside_passes : (test : List ℕ → Bool) {at : ℕ} {x : Lexeme} → Lexed t at x → StringPlaced t (span_of x) → test (inside x) ≡ true → test (quoted_at t (span_of x)) ≡ true
  inside_passes test {at} {x} l s e = rw (← inside_text t x.start x.end s.two, ← l.bytes) e

  gives_simple : Gives t (Simple sizes) (Nested t 1)
  unfolding depth
  gives_simple = record { at = go }
    where
      go : {i r : List Lexeme} {c : Tree} → Simple sizes i r c → FromText t i → Nested t 1 c × FromText t r
      go (grammar.Simple.bare e) f = (record { placed = a_constant; levels = omega arith }, tail_of f)
      go (comparison h e k) f =
          let y = gives_operand.at h f in
          let z = gives_operand.at k (tail_of y.1) in
          (record { placed = a_comparison y.0 z.0; levels = omega arith }, z.1)
      go (likeness h e s u p) f =
          let y = gives_operand.at h f in
          let l = head_of (tail_of y.1) in
          let q = string_of l s u in
          (record { placed = a_likeness y.0 q (inside_passes is_pattern l q p); levels = omega arith }, tail_of (tail_of y.1))
      go (listed h e k) f =
          let y = gives_operand.at h f in
          let z = literals.at k (tail_of y.1) in
          (record { placed = in_list y.0 z.0; levels = omega arith }, z.1)
      go (held h e k) f =
          let y = gives_operand.at h f in
          let z = gives_attribute.at k (tail_of y.1) in
          (record { placed = in_an_attribute y.0 (path_of z.0); levels = omega arith }, z.1)
      go (call h e w o k) f =
          let y = gives_attribute.at h f in
          let z = (gives_before literals).at k (tail_of (tail_of (tail_of y.1))) in
          (record { placed = a_call (path_of y.0) z.0; levels = omega arith }, z.1)
      go (having e k h) f = let y = (gives_names _).at h (tail_of (tail_of f)) in (record { placed = a_presence y.0; levels = omega arith }, y.1)

  deeper : {d e : ℕ} {c : Tree} → d ≤ e → Nested t d c → Nested t e c
  deeper l n = let m = n.levels in record { placed = n.placed; levels = omega arith }

  module _ {d : ℕ} {C : Reading Tree} (s : Gives t C (Nested t d)) where
    joins_both : (a b : Tree) → Nested t d a → Nested t d b → Nested t d (both a b)
    unfolding depth
    joins_both a b h k = record { placed = a_conjunction h.placed k.placed; levels = omega arith }

    joins_either : (a b : Tree) → Nested t d a → Nested t d b → Nested t d (either a b)
    unfolding depth
    joins_either a b h k = record { placed = a_disjunction h.placed k.placed; levels = omega arith }

    gives_conjunction : Gives t (Conjunction C) (Nested t d)
    gives_conjunction = gives_chain s (λ a x h. gives_onto s (λ b k. joins_both a b h k))

    gives_disjunction : Gives t (Disjunction C) (Nested t d)
    gives_disjunction = gives_chain gives_conjunction (λ a x h. gives_onto gives_conjunction (λ b k. joins_either a b h k))

    gives_form : Gives t (ConditionOver sizes C) (Nested t (suc d))
    unfolding depth
    gives_form = record { at = go }
      where
        go : {i r : List Lexeme} {c : Tree} → ConditionOver sizes C i r c → FromText t i → Nested t (suc d) c × FromText t r
        go (simple h) f = let y = gives_simple.at h f in (deeper (omega arith) y.0, y.1)
        go (negation e h) f =
            let y = s.at h (tail_of f) in let n = y.0 in (record { placed = a_negation n.placed; levels = omega (arith, n.levels) }, y.1)
        go (bracketed e h) f =
            let y = (gives_before gives_disjunction).at h (tail_of f) in let n = y.0 in (record { placed = in_brackets n.placed; levels = omega (arith, n.levels) }, y.1)
        go (conditional e h₁ h₂ h₃) f =
            let x = (gives_before s).at h₁ (tail_of f) in
            let y = (gives_before s).at h₂ x.1 in
            let z = s.at h₃ y.1 in
            (record { placed = a_choice x.0.placed y.0.placed z.0.placed; levels = omega (arith, x.0.levels, y.0.levels, z.0.levels) }, z.1)

  gives_condition : (d : ℕ) → Gives t (Condition sizes d) (Nested t (suc d))
  gives_condition zero = gives_form (record { at = λ h. elim h [ ] })
  gives_condition (suc d) = gives_form (gives_condition d)

  -- ---- policies

  gives_typed : (types : List (List ℕ)) (P : Part → Type 0) → P any → ((n : ℕ) → 0 < n → n ≤ length types → P (typed n)) → Gives t (Typed types) P
  gives_typed types P a o = record { at = go }
    where
      go : {i r : List Lexeme} {p : Part} → Typed types i r p → FromText t i → P p × FromText t r
      go grammar.Typed.bare f = (a, f)
      go (grammar.Typed.one {n = n} k e) f = let h = type_among_lem types n.bytes (type_some types n e) in (o _ h.0 h.1, tail_of (tail_of f))

  gives_principal : Gives t (Typed principal_types) PrincipalPlaced
  unfolding principal_types
  gives_principal = gives_typed principal_types PrincipalPlaced any_principal (λ n l h. principal_type l h)

  gives_resource : Gives t (ResourceRest sizes) (ResourcePlaced t)
  unfolding resource_types
  gives_resource = record { at = go }
    where
      go : {i r : List Lexeme} {p : Part} → ResourceRest sizes i r p → FromText t i → ResourcePlaced t p × FromText t r
      go (grammar.ResourceRest.sort h) f = (gives_typed resource_types (ResourcePlaced t) any_resource (λ n l h. resource_type l h)).at h f
      go (grammar.ResourceRest.string k e u) f = (one_resource (string_of (head_of (tail_of f)) e u), tail_of (tail_of f))

  gives_actions : Gives t (ActionRest sizes) (ActionsPlaced t)
  gives_actions = record { at = go }
    where
      go : {i r : List Lexeme} {a : Actions} → ActionRest sizes i r a → FromText t i → ActionsPlaced t a × FromText t r
      go grammar.ActionRest.bare f = (any_action, f)
      go (grammar.ActionRest.list k h) f =
          let y = (gives_listing (is kinds.string) (ActionPlaced t) (λ at x e u l. action_placed e u l)).at h (tail_of f) in (one_of_placed y.0, y.1)

  gives_when : Gives t (When sizes) (ConditionPlaced t)
  gives_when = record { at = go }
    where
      go : {i r : List Lexeme} {c : Option Tree} → When sizes i r c → FromText t i → ConditionPlaced t c × FromText t r
      go grammar.When.bare f = (no_condition, f)
      go (grammar.When.braces k h) f =
          let y = (gives_after (gives_before (gives_disjunction (gives_condition 31)))).at h (tail_of f) in (a_condition y.0.placed y.0.levels, y.1)

  gives_policy : (permits : Bool) → Gives t (PolicyRest sizes permits) (PolicyPlaced t)
  gives_policy permits = record { at = go }
    where
      go : {i r : List Lexeme} {p : Policy} → PolicyRest sizes permits i r p → FromText t i → PolicyPlaced t p × FromText t r
      go (grammar.PolicyRest.rest h₁ h₂ h₃ h₄) f =
          let x = (gives_after (gives_after (gives_before gives_principal))).at h₁ f in
          let y = (gives_after (gives_before gives_actions)).at h₂ x.1 in
          let z = (gives_after (gives_before gives_resource)).at h₃ y.1 in
          let w = (gives_before gives_when).at h₄ z.1 in
          (record { principal = x.0; action = y.0; resource = z.0; condition = w.0 }, w.1)

  -- the policies so far, and those that follow them
  pub policies_walk : {i : List Lexeme} {ps qs : List Policy} → Policies sizes ps i qs → FromText t i → PoliciesPlaced t ps → PoliciesPlaced t qs
  policies_walk grammar.Policies.end f p = p
  policies_walk (grammar.Policies.policy {p = q} {ps = ps} e n h k) f p =
      let y = (gives_policy _).at h (tail_of f) in let m = ltb-true (length ps) most_policies n in
      policies_walk k y.1 (record { few = omega (arith, length-append ps (q ∷ [])); each = each_more p.each y.0 })
