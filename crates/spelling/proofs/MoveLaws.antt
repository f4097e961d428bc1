-- A rule text whose tokens are moved says its policies moved. Assumes nothing.
use mathlib.Core.Path.{◌≡◌, refl, ap, ◌∙◌, subst}
use mathlib.Core.Bool.{Bool, true, false, cond}
use mathlib.Core.List.{List, [], ◌∷◌, ◌++◌, map, map-append}
use mathlib.Core.Option.{Option}
use Prim.Native.Nat.{ℕ, zero, suc, ◌+◌, ◌<◌}
use lib.Dec.{ltb}
use lib.ListN.{length, length-map}
use Rattle.tokens.specs.Kinds as kinds
use Rattle.tokens.specs.Sizes.{most_literals, most_policies}
use Rattle.reading.specs.Lexemes.{Lexeme, is, size}
use Rattle.reading.specs.Reads.{Reading, Chain, Chain.alone, Chain.more, Onto, Onto.onto, Before, Before.ended, After, After.begun}
use Rattle.grammar.specs.Policies.{Root, Root.Principal, Root.Resource, Root.Env, Root.Action, Literal, text, Operand, Tree, both, either, Part, Actions}
use Rattle.grammar.specs.Policies.{Policy}
use Rattle.grammar.specs.Rules.{inside, is_literal, root_of, literal_of, comparator_of, which_of, principal_types, resource_types, admitted, is_text}
use Rattle.grammar.specs.Rules.{is_pattern}
use Rattle.grammar.specs.Grammar.{sizes, Path, FirstName, first, NextName, next, APath, Attribute, rooted, AnOperand, given, Element, element, Listing}
use Rattle.grammar.specs.Grammar.{Simple, comparison, likeness, listed, held, call, having, Conjunction, Disjunction, ConditionOver, simple, negation}
use Rattle.grammar.specs.Grammar.{bracketed, conditional, Condition, Typed, ResourceRest, ActionRest, When, PolicyRest, Policies, policy, RuleText}
use Rattle.grammar.specs.Grammar as grammar
use Rattle.grammar.specs.Moves.{Move, moved_literal, moved_operand, moved_tree, moved_part, moved_actions, moved_when, moved_policy}
use Rattle.spelling.specs.Moves.{moved_lexeme, KeepsSize, AllKeep, nothing, keeps}

cond_map : {A B : Type 0} (f : A → B) (b : Bool) (x y : A) → f (cond b x y) ≡ cond b (f x) (f y)
cond_map f true x y = refl
cond_map f false x y = refl

module _ (m : Move) where
  moved_path : Path → Path
  moved_path p = record { start = m.first p.start; end = m.behind p.end; used = p.used }

  -- what R reads, S reads where the tokens and what they say are moved
  record Carries {A : Type 0} (f : A → A) (R S : Reading A) : Type 0 where
    at : {i r : List Lexeme} {a : A} → AllKeep m i → R i r a → AllKeep m r × S (map (moved_lexeme m) i) (map (moved_lexeme m) r) (f a)

  -- what is left behind a token, and that the second token keeps its size
  behind : {x : Lexeme} {r : List Lexeme} → AllKeep m (x ∷ r) → AllKeep m r
  behind (keeps e a) = a

  second : {x y : Lexeme} {r : List Lexeme} → AllKeep m (x ∷ y ∷ r) → KeepsSize m y
  second (keeps e (keeps e' a)) = e'

  module _ {A : Type 0} {f : A → A} {R S : Reading A} (c : Carries f R S) where
    carries_onto : {B : Type 0} (o : B → B) (g h : A → B) → ((a : A) → h (f a) ≡ o (g a)) → Carries o (Onto g R) (Onto h S)
    carries_onto {B = B} o g h e = record { at = go }
      where
        go : {i r : List Lexeme} {b : B} → AllKeep m i → Onto g R i r b → AllKeep m r × Onto h S (map (moved_lexeme m) i) (map (moved_lexeme m) r) (o b)
        go k (onto {a = a} j) = let q = c.at k j in (q.0, subst (Onto h S _ _) (e a) (onto q.1))

    carries_before : (k : ℕ) → Carries f (Before k R) (Before k S)
    carries_before k = record { at = go }
      where
        go : {i r : List Lexeme} {a : A} → AllKeep m i → Before k R i r a → AllKeep m r × Before k S (map (moved_lexeme m) i) (map (moved_lexeme m) r) (f a)
        go a (ended j t) = let q = c.at a j in (behind q.0, ended q.1 t)

    carries_after : (k : ℕ) → Carries f (After k R) (After k S)
    carries_after k = record { at = go }
      where
        go : {i r : List Lexeme} {a : A} → AllKeep m i → After k R i r a → AllKeep m r × After k S (map (moved_lexeme m) i) (map (moved_lexeme m) r) (f a)
        go (keeps e a) (begun t j) = let q = c.at a j in (q.0, begun t q.1)
        go {r = r} {a = a} nothing h = elim h [ ]

    carries_chain : (sep : ℕ) {Next Then : A → Lexeme → Reading A} → ((a : A) (x : Lexeme) → Carries f (Next a x) (Then (f a) (moved_lexeme m x)))
        → Carries f (Chain (λ a. is sep) R Next) (Chain (λ a. is sep) S Then)
    carries_chain sep {Next} {Then} n = record { at = go }
      where
        go : {i r : List Lexeme} {a : A} → AllKeep m i → Chain (λ a. is sep) R Next i r a
            → AllKeep m r × Chain (λ a. is sep) S Then (map (moved_lexeme m) i) (map (moved_lexeme m) r) (f a)
        go k (alone h) = let q = c.at k h in (q.0, alone q.1)
        go k (more {x = x} {a = a} j t h) = let q = go k j in let p = (n a x).at (behind q.0) h in (p.0, more q.1 t p.1)

  -- ---- single tokens

  admitted_moved : (root : Root) (used : ℕ) (x : Lexeme) → KeepsSize m x → admitted root used x ≡ true → admitted root used (moved_lexeme m x) ≡ true
  unfolding admitted
  admitted_moved Principal used x k h = rw k h
  admitted_moved Resource used x k h = rw k h
  admitted_moved Env used x k h = rw k h
  admitted_moved Action used x k h = h

  string_moved : (x : Lexeme) → KeepsSize m x → is_text x ≡ true → is_text (moved_lexeme m x) ≡ true
  string_moved x k h = rw k h

  pattern_moved : (x : Lexeme) → KeepsSize m x → is_pattern (inside x) ≡ true → is_pattern (inside (moved_lexeme m x)) ≡ true
  pattern_moved x k h = rw k h

  literal_moved : (x : Lexeme) → literal_of (moved_lexeme m x) ≡ moved_literal m (literal_of x)
  unfolding literal_of
  literal_moved x = simp (cond_map (moved_literal m))

  -- ---- paths, operands, lists

  carries_path : (root : Root) → Carries moved_path (APath sizes root) (APath sizes root)
  unfolding moved_path
  carries_path root = carries_chain (record { at = go }) kinds.dot (λ p d. record { at = go_on })
    where
      go : {i r : List Lexeme} {p : Path} → AllKeep m i → FirstName sizes root i r p
          → AllKeep m r × FirstName sizes root (map (moved_lexeme m) i) (map (moved_lexeme m) r) (moved_path p)
      go (keeps e a) (first {x = x} {r = r} k l) =
          let path : ℕ → Path = λ n. record { start = m.first x.start; end = m.behind x.end; used = n } in (
            a,
            subst (λ (n : ℕ). FirstName sizes root (map (moved_lexeme m) (x ∷ r)) (map (moved_lexeme m) r) (path n)) e
                (first k (admitted_moved root 0 x e l)),
          )
      go {r = r} {p = p} nothing h = elim h [ ]

      go_on : {p : Path} {i r : List Lexeme} {q : Path} → AllKeep m i → NextName sizes root p i r q
          → AllKeep m r × NextName sizes root (moved_path p) (map (moved_lexeme m) i) (map (moved_lexeme m) r) (moved_path q)
      go_on {p = p} (keeps e a) (next {x = x} {r = r} k l) =
          let path : ℕ → Path = λ n. record { start = m.first p.start; end = m.behind x.end; used = p.used + 1 + n } in (
            a,
            subst (λ (n : ℕ). NextName sizes root (moved_path p) (map (moved_lexeme m) (x ∷ r)) (map (moved_lexeme m) r) (path n)) e
                (next k (admitted_moved root (p.used + 1) x e l)),
          )
      go_on {p = p} {r = r} {q = q} nothing h = elim h [ ]

  carries_attribute : Carries (moved_operand m) (Attribute sizes) (Attribute sizes)
  unfolding root_of moved_path
  carries_attribute = record { at = go }
    where
      go : {i r : List Lexeme} {a : Operand} → AllKeep m i → Attribute sizes i r a
          → AllKeep m r × Attribute sizes (map (moved_lexeme m) i) (map (moved_lexeme m) r) (moved_operand m a)
      go (keeps e (keeps e' a)) (rooted t k h) = let q = (carries_path _).at a h in (q.0, rooted t k q.1)
      go {r = r} {a = a} nothing h = elim h [ ]
      go {r = r} {a = a} (keeps e nothing) h = elim h [ ]

  carries_operand : Carries (moved_operand m) (AnOperand sizes) (AnOperand sizes)
  carries_operand = record { at = go }
    where
      go : {i r : List Lexeme} {a : Operand} → AllKeep m i → AnOperand sizes i r a
          → AllKeep m r × AnOperand sizes (map (moved_lexeme m) i) (map (moved_lexeme m) r) (moved_operand m a)
      go k (given h) = let q = carries_attribute.at k h in (q.0, given q.1)
      go (keeps e a) (grammar.AnOperand.literally {x = x} t l) = (a, rw (← literal_moved x) (grammar.AnOperand.literally t (string_moved x e l)))

  -- tests of lists that go by the kind
  record ByKind (sort : Lexeme → Bool) : Type 0 where
    same : (x : Lexeme) → sort (moved_lexeme m x) ≡ sort x

  carries_listing : (sort : Lexeme → Bool) → ByKind sort → Carries (map (moved_literal m)) (Listing sizes sort) (Listing sizes sort)
  carries_listing sort b =
      carries_after (carries_before (carries_chain (record { at = go }) kinds.comma (λ ls x. record { at = go })) kinds.right_square) kinds.left_square
    where
      go : {ls : List Literal} {i r : List Lexeme} {ks : List Literal} → AllKeep m i → Element sizes sort ls i r ks
          → AllKeep m r × Element sizes sort (map (moved_literal m) ls) (map (moved_lexeme m) i) (map (moved_lexeme m) r) (map (moved_literal m) ks)
      go {ls = ls} (keeps e a) (element {x = x} t c l) =
          let few : ltb (length (map (moved_literal m) ls)) most_literals ≡ true = rw (length-map ls (moved_literal m)) c in
          (a, rw (map-append (moved_literal m) ls (literal_of x ∷ []), ← literal_moved x) (element (b.same x ∙ t) few (string_moved x e l)))
      go {ls = ls} {r = r} {ks = ks} nothing h = elim h [ ]

  literals : ByKind is_literal
  literals = record { same = λ x. refl }

  -- ---- conditions

  carries_simple : Carries (moved_tree m) (Simple sizes) (Simple sizes)
  unfolding root_of comparator_of which_of moved_path
  carries_simple = record { at = go }
    where
      go : {i r : List Lexeme} {t : Tree} → AllKeep m i → Simple sizes i r t → AllKeep m r × Simple sizes (map (moved_lexeme m) i) (map (moved_lexeme m) r) (moved_tree m t)
      go (keeps e a) (grammar.Simple.bare t) = (a, grammar.Simple.bare t)
      go k (comparison h t j) = let p = carries_operand.at k h in let q = carries_operand.at (behind p.0) j in (q.0, comparison p.1 t q.1)
      go k (likeness {s = s} h t t' l f) =
          let p = carries_operand.at k h in (behind (behind p.0), likeness p.1 t t' (string_moved s (second p.0) l) (pattern_moved s (second p.0) f))
      go k (listed h t j) =
          let p = carries_operand.at k h in let q = (carries_listing is_literal literals).at (behind p.0) j in (q.0, listed p.1 t q.1)
      go k (held h t j) = let p = carries_operand.at k h in let q = carries_attribute.at (behind p.0) j in (q.0, held p.1 t q.1)
      go k (call h t t' t'' j) =
          let p = carries_attribute.at k h in
          let q = (carries_before (carries_listing is_literal literals) kinds.right_round).at (behind (behind (behind p.0))) j in
          (q.0, call p.1 t t' t'' q.1)
      go (keeps e (keeps e' a)) (having t k h) = let q = (carries_path _).at a h in (q.0, having t k q.1)

  module _ {R : Reading Tree} (c : Carries (moved_tree m) R R) where
    carries_conjunction : Carries (moved_tree m) (Conjunction R) (Conjunction R)
    carries_conjunction = carries_chain c kinds.and (λ a x. carries_onto c (moved_tree m) (both a) (both (moved_tree m a)) (λ t. refl))

    carries_disjunction : Carries (moved_tree m) (Disjunction R) (Disjunction R)
    carries_disjunction =
        carries_chain carries_conjunction kinds.or (λ a x. carries_onto carries_conjunction (moved_tree m) (either a) (either (moved_tree m a)) (λ t. refl))

    carries_form : Carries (moved_tree m) (ConditionOver sizes R) (ConditionOver sizes R)
    carries_form = record { at = go }
      where
        go : {i r : List Lexeme} {t : Tree} → AllKeep m i → ConditionOver sizes R i r t
            → AllKeep m r × ConditionOver sizes R (map (moved_lexeme m) i) (map (moved_lexeme m) r) (moved_tree m t)
        go k (simple h) = let q = carries_simple.at k h in (q.0, simple q.1)
        go (keeps e a) (negation t h) = let q = c.at a h in (q.0, negation t q.1)
        go (keeps e a) (bracketed t h) = let q = (carries_before carries_disjunction kinds.right_round).at a h in (q.0, bracketed t q.1)
        go (keeps e a) (conditional t h₁ h₂ h₃) =
            let o = (carries_before c kinds.then_word).at a h₁ in let p = (carries_before c kinds.else_word).at o.0 h₂ in let q = c.at p.0 h₃ in
            (q.0, conditional t o.1 p.1 q.1)

  carries_condition : (d : ℕ) → Carries (moved_tree m) (Condition sizes d) (Condition sizes d)
  carries_condition zero = carries_form (record { at = λ k h. elim h [ ] })
  carries_condition (suc d) = carries_form (carries_condition d)

  -- ---- policies

  carries_typed : (types : List (List ℕ)) → Carries (moved_part m) (Typed types) (Typed types)
  carries_typed types = record { at = go }
    where
      go : {i r : List Lexeme} {p : Part} → AllKeep m i → Typed types i r p → AllKeep m r × Typed types (map (moved_lexeme m) i) (map (moved_lexeme m) r) (moved_part m p)
      go k grammar.Typed.bare = (k, grammar.Typed.bare)
      go (keeps e (keeps e' a)) (grammar.Typed.one k t) = (a, grammar.Typed.one k t)

  carries_resource : Carries (moved_part m) (ResourceRest sizes) (ResourceRest sizes)
  carries_resource = record { at = go }
    where
      go : {i r : List Lexeme} {p : Part} → AllKeep m i → ResourceRest sizes i r p → AllKeep m r × ResourceRest sizes (map (moved_lexeme m) i) (map (moved_lexeme m) r) (moved_part m p)
      go k (grammar.ResourceRest.sort h) = let q = (carries_typed resource_types).at k h in (q.0, grammar.ResourceRest.sort q.1)
      go (keeps e (keeps e' a)) (grammar.ResourceRest.string {s = s} k t l) = (a, grammar.ResourceRest.string k t (string_moved s e' l))

  strings : ByKind (is kinds.string)
  strings = record { same = λ x. refl }

  carries_action : Carries (moved_actions m) (ActionRest sizes) (ActionRest sizes)
  carries_action = record { at = go }
    where
      go : {i r : List Lexeme} {a : Actions} → AllKeep m i → ActionRest sizes i r a
          → AllKeep m r × ActionRest sizes (map (moved_lexeme m) i) (map (moved_lexeme m) r) (moved_actions m a)
      go k grammar.ActionRest.bare = (k, grammar.ActionRest.bare)
      go (keeps e a) (grammar.ActionRest.list k h) = let q = (carries_listing (is kinds.string) strings).at a h in (q.0, grammar.ActionRest.list k q.1)

  carries_when : Carries (moved_when m) (When sizes) (When sizes)
  carries_when = record { at = go }
    where
      go : {i r : List Lexeme} {t : Option Tree} → AllKeep m i → When sizes i r t
          → AllKeep m r × When sizes (map (moved_lexeme m) i) (map (moved_lexeme m) r) (moved_when m t)
      go k grammar.When.bare = (k, grammar.When.bare)
      go (keeps e a) (grammar.When.braces k h) =
          let q = (carries_after (carries_before (carries_disjunction (carries_condition 31)) kinds.right_brace) kinds.left_brace).at a h in
          (q.0, grammar.When.braces k q.1)

  carries_policy : (permits : Bool) → Carries (moved_policy m) (PolicyRest sizes permits) (PolicyRest sizes permits)
  carries_policy permits = record { at = go }
    where
      go : {i r : List Lexeme} {p : Policy} → AllKeep m i → PolicyRest sizes permits i r p
          → AllKeep m r × PolicyRest sizes permits (map (moved_lexeme m) i) (map (moved_lexeme m) r) (moved_policy m p)
      go k (grammar.PolicyRest.rest h₁ h₂ h₃ h₄) =
          let q₁ = (carries_after (carries_after (carries_before (carries_typed principal_types) kinds.comma) kinds.principal_word) kinds.left_round).at k h₁ in
          let q₂ = (carries_after (carries_before carries_action kinds.comma) kinds.action_word).at q₁.0 h₂ in
          let q₃ = (carries_after (carries_before carries_resource kinds.right_round) kinds.resource_word).at q₂.0 h₃ in
          let q₄ = (carries_before carries_when kinds.semicolon).at q₃.0 h₄ in
          (q₄.0, grammar.PolicyRest.rest q₁.1 q₂.1 q₃.1 q₄.1)

  moved_policies : {ps qs : List Policy} {i : List Lexeme} → AllKeep m i → Policies sizes ps i qs
      → Policies sizes (map (moved_policy m) ps) (map (moved_lexeme m) i) (map (moved_policy m) qs)
  moved_policies k grammar.Policies.end = grammar.Policies.end
  moved_policies {ps} {qs} (keeps e a) (policy {x = x} {m = r} {p = p} t l h j) =
      let q = (carries_policy (is kinds.permit_word x)).at a h in
      let rest : Policies sizes (map (moved_policy m) ps ++ moved_policy m p ∷ []) (map (moved_lexeme m) r) (map (moved_policy m) qs) =
      subst (λ (l : List Policy). Policies sizes l (map (moved_lexeme m) r) (map (moved_policy m) qs)) (map-append (moved_policy m) ps (p ∷ []))
      (moved_policies q.0 j) in
      let few : ltb (length (map (moved_policy m) ps)) most_policies ≡ true = rw (length-map ps (moved_policy m)) l in
      policy t few q.1 rest

  -- moved tokens say the policies, moved
  pub text_moved : {i : List Lexeme} {ps : List Policy} → AllKeep m i → RuleText sizes i ps → RuleText sizes (map (moved_lexeme m) i) (map (moved_policy m) ps)
  text_moved k h = moved_policies k h
