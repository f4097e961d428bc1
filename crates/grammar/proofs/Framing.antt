-- What the grammar reads has a token, and it is read before any other rest too, where no more is asked of sizes. Assumes nothing.
use mathlib.Core.Path.{◌≡◌}
use mathlib.Core.Bool.{Bool}
use mathlib.Core.List.{List, []}
use mathlib.Core.Option.{Option}
use Prim.Native.Nat.{ℕ, zero, suc, ◌≤◌, ◌<◌}
use native.Mathlib.Omega.{arith}
use lib.ListN.{length}
use Rattle.tokens.specs.Kinds as kinds
use Rattle.reading.specs.Lexemes.{Lexeme, is}
use Rattle.reading.specs.Reads.{Reading, Before, Before.ended, After, After.begun}
use Rattle.reading.proofs.Readers.{Shrinks, shrinks_onto, shrinks_before, shrinks_chain}
use Rattle.grammar.specs.Policies.{Root, Literal, Operand, Tree, both, either, Part, Actions, Policy}
use Rattle.grammar.specs.Rules.{is_literal, principal_types, resource_types}
use Rattle.grammar.specs.Grammar.{Limits, Path, FirstName, first, NextName, next, APath, Attribute, rooted, AnOperand, given, Element, element, Literals, Listing, Simple, comparison, likeness, listed, held, call, having, Conjunction, Disjunction, ConditionOver, simple, negation, bracketed, conditional, Nothing, Condition, Typed, ResourceRest, ActionRest, When, PolicyRest}
use Rattle.grammar.specs.Grammar as grammar
use Rattle.grammar.proofs.Begun.{Family, Swap, step, Moved, Eases, Framed, framed_onto, framed_before, framed_after, framed_chain}

-- ---- each thing has a token

module _ (L : Limits) where
  pub shrinks_names : (root : Root) → Shrinks (APath L root)
  shrinks_names root = shrinks_chain (record { at = one }) (λ p d. record { at = another })
    where
      one : {i r : List Lexeme} {p : Path} → FirstName L root i r p → length r < length i
      one (first k l) = omega arith

      another : {i r : List Lexeme} {p q : Path} → NextName L root p i r q → length r < length i
      another (next k l) = omega arith

  shrinks_attribute : Shrinks (Attribute L)
  shrinks_attribute = record { at = go }
    where
      go : {i r : List Lexeme} {a : Operand} → Attribute L i r a → length r < length i
      go (rooted t k j) = let y = (shrinks_names _).at j in omega arith

  shrinks_operand : Shrinks (AnOperand L)
  shrinks_operand = record { at = go }
    where
      go : {i r : List Lexeme} {a : Operand} → AnOperand L i r a → length r < length i
      go (given h) = shrinks_attribute.at h
      go (grammar.AnOperand.literally t l) = omega arith

  pub shrinks_element : (sort : Lexeme → Bool) (ls : List Literal) → Shrinks (Element L sort ls)
  shrinks_element sort ls = record { at = go }
    where
      go : {i r : List Lexeme} {ks : List Literal} → Element L sort ls i r ks → length r < length i
      go (element t c l) = omega arith

  shrinks_listing : (sort : Lexeme → Bool) → Shrinks (Listing L sort)
  shrinks_listing sort = record { at = go }
    where
      go : {i r : List Lexeme} {ls : List Literal} → Listing L sort i r ls → length r < length i
      go (begun k h) = let y = (shrinks_before (shrinks_chain (shrinks_element sort []) (λ ls x. shrinks_element sort ls))).at h in omega arith

  shrinks_simple : Shrinks (Simple L)
  shrinks_simple = record { at = go }
    where
      go : {i r : List Lexeme} {t : Tree} → Simple L i r t → length r < length i
      go (grammar.Simple.bare t) = omega arith
      go (comparison h t k) = let x = shrinks_operand.at h in let y = shrinks_operand.at k in omega arith
      go (likeness h e e' l f) = let x = shrinks_operand.at h in omega arith
      go (listed h e k) = let x = shrinks_operand.at h in let y = (shrinks_listing is_literal).at k in omega arith
      go (held h e k) = let x = shrinks_operand.at h in let y = shrinks_attribute.at k in omega arith
      go (call h e t e' k) = let x = shrinks_attribute.at h in let y = (shrinks_before (shrinks_listing is_literal)).at k in omega arith
      go (having t e j) = let y = (shrinks_names _).at j in omega arith

  pub shrinks_conjunction : {R : Reading Tree} → Shrinks R → Shrinks (Conjunction R)
  shrinks_conjunction s = shrinks_chain s (λ a x. shrinks_onto s)

  shrinks_disjunction : {R : Reading Tree} → Shrinks R → Shrinks (Disjunction R)
  shrinks_disjunction s = shrinks_chain (shrinks_conjunction s) (λ a x. shrinks_onto (shrinks_conjunction s))

  shrinks_form : {R : Reading Tree} → Shrinks R → Shrinks (ConditionOver L R)
  shrinks_form {R = R} s = record { at = go }
    where
      go : {i r : List Lexeme} {t : Tree} → ConditionOver L R i r t → length r < length i
      go (simple h) = shrinks_simple.at h
      go (negation e h) = let x = s.at h in omega arith
      go (bracketed e h) = let x = (shrinks_before (shrinks_disjunction s)).at h in omega arith
      go (conditional e h₁ h₂ h₃) = let x = (shrinks_before s).at h₁ in let y = (shrinks_before s).at h₂ in let z = s.at h₃ in omega arith

  pub shrinks_condition : (d : ℕ) → Shrinks (Condition L d)
  shrinks_condition zero = shrinks_form (record { at = λ h. elim h [ ] })
  shrinks_condition (suc d) = shrinks_form (shrinks_condition d)

  pub shrinks_policy : (permits : Bool) → Shrinks (PolicyRest L permits)
  shrinks_policy permits = record { at = go }
    where
      typed_part : {types : List (List ℕ)} {i r : List Lexeme} {p : Part} → Typed types i r p → length r ≤ length i
      typed_part grammar.Typed.bare = omega arith
      typed_part (grammar.Typed.one k t) = omega arith

      resource_part : {i r : List Lexeme} {p : Part} → ResourceRest L i r p → length r ≤ length i
      resource_part (grammar.ResourceRest.sort h) = typed_part h
      resource_part (grammar.ResourceRest.string k e l) = omega arith

      action_part : {i r : List Lexeme} {a : Actions} → ActionRest L i r a → length r ≤ length i
      action_part grammar.ActionRest.bare = omega arith
      action_part (grammar.ActionRest.list k h) = let y = (shrinks_listing (is kinds.string)).at h in omega arith

      when_part : {i r : List Lexeme} {c : Option Tree} → When L i r c → length r ≤ length i
      when_part grammar.When.bare = omega arith
      when_part (grammar.When.braces k (begun e h)) = let y = (shrinks_before (shrinks_disjunction (shrinks_condition L.levels))).at h in omega arith

      go : {i r : List Lexeme} {p : Policy} → PolicyRest L permits i r p → length r < length i
      go (grammar.PolicyRest.rest (begun k₁ (begun k₂ (ended h₁ e₁))) (begun k₃ (ended h₂ e₂)) (begun k₄ (ended h₃ e₃)) (ended h₄ e₄)) =
          let u = typed_part h₁ in let v = action_part h₂ in let w = resource_part h₃ in let z = when_part h₄ in omega arith

-- ---- another rest, and less asked

pub framed_names : (root : Root) → Framed (λ L. APath L root)
framed_names root = framed_chain (record { at = one }) (λ p d. record { at = another })
  where
    one : {L M : Limits} {r s i m n : List Lexeme} {p : Path} → Eases L M r s → FirstName L root i m p → Swap r s m n → Moved (FirstName M root) r s i n p
    one e (first k l) w = (_, step w, first k (e.asks w _ l))

    another : {L M : Limits} {r s i m n : List Lexeme} {p q : Path} → Eases L M r s → NextName L root p i m q → Swap r s m n → Moved (NextName M root p) r s i n q
    another e (next k l) w = (_, step w, next k (e.asks w _ l))

pub framed_attribute : Framed Attribute
framed_attribute = record { at = go }
  where
    go : {L M : Limits} {r s i m n : List Lexeme} {a : Operand} → Eases L M r s → Attribute L i m a → Swap r s m n → Moved (Attribute M) r s i n a
    go e (rooted t k h) w = let q = (framed_names _).at e h w in (_, step (step q.1), rooted t k q.2)

pub framed_operand : Framed AnOperand
framed_operand = record { at = go }
  where
    go : {L M : Limits} {r s i m n : List Lexeme} {a : Operand} → Eases L M r s → AnOperand L i m a → Swap r s m n → Moved (AnOperand M) r s i n a
    go e (given h) w = let q = framed_attribute.at e h w in (_, q.1, given q.2)
    go e (grammar.AnOperand.literally t l) w = (_, step w, grammar.AnOperand.literally t (e.asks w _ l))

pub framed_element : (sort : Lexeme → Bool) (ls : List Literal) → Framed (λ L. Element L sort ls)
framed_element sort ls = record { at = go }
  where
    go : {L M : Limits} {r s i m n : List Lexeme} {ks : List Literal} → Eases L M r s → Element L sort ls i m ks → Swap r s m n → Moved (Element M sort ls) r s i n ks
    go e (element t c l) w = (_, step w, element t (e.asks w _ c) (e.asks w _ l))

pub framed_list : (sort : Lexeme → Bool) → Framed (λ L. Literals L sort)
framed_list sort = framed_before (framed_chain (framed_element sort []) (λ ls x. framed_element sort ls)) kinds.right_square

framed_listing : (sort : Lexeme → Bool) → Framed (λ L. Listing L sort)
framed_listing sort = framed_after (framed_list sort) kinds.left_square

framed_simple : Framed Simple
framed_simple = record { at = go }
  where
    go : {L M : Limits} {r s i m n : List Lexeme} {t : Tree} → Eases L M r s → Simple L i m t → Swap r s m n → Moved (Simple M) r s i n t
    go e (grammar.Simple.bare t) w = (_, step w, grammar.Simple.bare t)
    go e (comparison h t k) w = let q = framed_operand.at e k w in let p = framed_operand.at e h (step q.1) in (_, p.1, comparison p.2 t q.2)
    go e (likeness h t t' l f) w = let p = framed_operand.at e h (step (step w)) in (_, p.1, likeness p.2 t t' (e.asks w _ l) (e.asks w _ f))
    go e (listed h t k) w = let q = (framed_listing is_literal).at e k w in let p = framed_operand.at e h (step q.1) in (_, p.1, listed p.2 t q.2)
    go e (held h t k) w = let q = framed_attribute.at e k w in let p = framed_operand.at e h (step q.1) in (_, p.1, held p.2 t q.2)
    go e (call h t t' t'' k) w =
        let q = (framed_before (framed_listing is_literal) kinds.right_round).at e k w in let p = framed_attribute.at e h (step (step (step q.1))) in (_, p.1, call p.2 t t' t'' q.2)
    go e (having t k h) w = let q = (framed_names _).at e h w in (_, step (step q.1), having t k q.2)

module _ {R : Family Tree} (f : Framed R) where
  pub framed_conjunction : Framed (λ L. Conjunction (R L))
  framed_conjunction = framed_chain f (λ a x. framed_onto f (both a))

  pub framed_disjunction : Framed (λ L. Disjunction (R L))
  framed_disjunction = framed_chain framed_conjunction (λ a x. framed_onto framed_conjunction (either a))

  framed_form : Framed (λ L. ConditionOver L (R L))
  framed_form = record { at = go }
    where
      go : {L M : Limits} {r s i m n : List Lexeme} {t : Tree} → Eases L M r s → ConditionOver L (R L) i m t → Swap r s m n → Moved (ConditionOver M (R M)) r s i n t
      go e (simple h) w = let q = framed_simple.at e h w in (_, q.1, simple q.2)
      go e (negation t h) w = let q = f.at e h w in (_, step q.1, negation t q.2)
      go e (bracketed t h) w = let q = (framed_before framed_disjunction kinds.right_round).at e h w in (_, step q.1, bracketed t q.2)
      go e (conditional t h₁ h₂ h₃) w =
          let p = f.at e h₃ w in let q = (framed_before f kinds.else_word).at e h₂ p.1 in let o = (framed_before f kinds.then_word).at e h₁ q.1 in
          (_, step o.1, conditional t o.2 q.2 p.2)

pub framed_condition : (d : ℕ) → Framed (λ L. Condition L d)
framed_condition zero = framed_form {R = λ L. Nothing} (record { at = λ e h w. elim h [ ] })
framed_condition (suc d) = framed_form (framed_condition d)

pub framed_typed : (types : List (List ℕ)) → Framed (λ L. Typed types)
framed_typed types = record { at = go }
  where
    go : {L M : Limits} {r s i m n : List Lexeme} {p : Part} → Eases L M r s → Typed types i m p → Swap r s m n → Moved (Typed types) r s i n p
    go e grammar.Typed.bare w = (_, w, grammar.Typed.bare)
    go e (grammar.Typed.one k t) w = (_, step (step w), grammar.Typed.one k t)

pub framed_resource : Framed ResourceRest
framed_resource = record { at = go }
  where
    go : {L M : Limits} {r s i m n : List Lexeme} {p : Part} → Eases L M r s → ResourceRest L i m p → Swap r s m n → Moved (ResourceRest M) r s i n p
    go e (grammar.ResourceRest.sort h) w = let q = (framed_typed resource_types).at e h w in (_, q.1, grammar.ResourceRest.sort q.2)
    go e (grammar.ResourceRest.string k t l) w = (_, step (step w), grammar.ResourceRest.string k t (e.asks w _ l))

pub framed_action : Framed ActionRest
framed_action = record { at = go }
  where
    go : {L M : Limits} {r s i m n : List Lexeme} {a : Actions} → Eases L M r s → ActionRest L i m a → Swap r s m n → Moved (ActionRest M) r s i n a
    go e grammar.ActionRest.bare w = (_, w, grammar.ActionRest.bare)
    go e (grammar.ActionRest.list k h) w = let q = (framed_listing (is kinds.string)).at e h w in (_, step q.1, grammar.ActionRest.list k q.2)

pub same_depth : (L : Limits) {d e : ℕ} {i r : List Lexeme} {t : Tree} → d ≡ e → After kinds.left_brace (Before kinds.right_brace (Disjunction (Condition L d))) i r t
    → After kinds.left_brace (Before kinds.right_brace (Disjunction (Condition L e))) i r t
same_depth L q h = rw (← q) h

pub framed_when : Framed When
framed_when = record { at = go }
  where
    go : {L M : Limits} {r s i m n : List Lexeme} {c : Option Tree} → Eases L M r s → When L i m c → Swap r s m n → Moved (When M) r s i n c
    go e grammar.When.bare w = (_, w, grammar.When.bare)
    go {L = L} {M = M} e (grammar.When.braces k h) w =
        let q = (framed_after (framed_before (framed_disjunction (framed_condition M.levels)) kinds.right_brace) kinds.left_brace).at e (same_depth L e.levels h) w in
        (_, step q.1, grammar.When.braces k q.2)

-- the parts of a policy's target
pub framed_principals : Framed (λ L. After kinds.left_round (After kinds.principal_word (Before kinds.comma (Typed principal_types))))
framed_principals = framed_after (framed_after (framed_before (framed_typed principal_types) kinds.comma) kinds.principal_word) kinds.left_round

pub framed_actions : Framed (λ L. After kinds.action_word (Before kinds.comma (ActionRest L)))
framed_actions = framed_after (framed_before framed_action kinds.comma) kinds.action_word

pub framed_resources : Framed (λ L. After kinds.resource_word (Before kinds.right_round (ResourceRest L)))
framed_resources = framed_after (framed_before framed_resource kinds.right_round) kinds.resource_word

pub framed_policy : (permits : Bool) → Framed (λ L. PolicyRest L permits)
framed_policy permits = record { at = go }
  where
    go : {L M : Limits} {r s i m n : List Lexeme} {p : Policy} → Eases L M r s → PolicyRest L permits i m p → Swap r s m n → Moved (PolicyRest M permits) r s i n p
    go e (grammar.PolicyRest.rest h₁ h₂ h₃ h₄) w =
        let q₄ = (framed_before framed_when kinds.semicolon).at e h₄ w in let q₃ = framed_resources.at e h₃ q₄.1 in
        let q₂ = framed_actions.at e h₂ q₃.1 in let q₁ = framed_principals.at e h₁ q₂.1 in
        (_, q₁.1, grammar.PolicyRest.rest q₁.2 q₂.2 q₃.2 q₄.2)
