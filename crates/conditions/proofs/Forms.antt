-- A condition by its first token. Assumes nothing.
use mathlib.Core.Path.{◌≡◌, refl, ◌∙◌}
use mathlib.Core.Bool.{Bool, true, false}
use mathlib.Core.List.{List, [], ◌∷◌}
use Prim.Native.Nat.{ℕ, zero, suc, ◌-◌, ◌≤◌}
use native.Mathlib.Omega.{arith}
use native.Mathlib.Numerals.{sub-one}
use lib.Dec.{eqb}
use lib.ListN.{length}
use borrow.Author.Tests.{eq-eqb, ne_eqb, eqb-true, eqb-false}
use Rattle.tokens.specs.Kinds as kinds
use Rattle.tokens.specs.declared.reader.Token.{Token}
use Rattle.tokens.specs.Tokens.{token_at}
use Rattle.reading.specs.Lexemes.{Lexeme, lexeme, is, choose, stream}
use Rattle.reading.specs.Reader.{Reader, took, numbered, refuse_by, bind, on, before, mapped}
use Rattle.reading.proofs.Stream.{stream_end, stream_token, next_on, next_off}
use Rattle.grammar.specs.Policies.{Tree, literal, choice}
use Rattle.grammar.specs.Rules.{is_literal, literal_of, is_root, root_of}
use Rattle.grammar.specs.Parser.{no_text, no_level, is_text_of, read_operator, read_rooted, read_simple, read_negated, read_bracketed, read_conditional, read_deeper, read_condition}
use Rattle.grammar.proofs.Completeness.{no_sort_of, of_sort}
use Rattle.parts.specs.Names.{root_from}
use Rattle.parts.proofs.Sorts.{literal_some, root_some}

on_same : {A : Type 0} (k : Lexeme → Bool) (f : Lexeme → Reader A) (g g' : Reader A) (i : List Lexeme) → g i ≡ g' i → on k f g i ≡ on k f g' i
unfolding on choose
on_same k f g g' [] h = h
on_same {A = A} k f g g' (x ∷ r) h = go (k x)
  where
    go : (b : Bool) → choose b (λ _. f x r) (λ _. g (x ∷ r)) ≡ choose b (λ _. f x r) (λ _. g' (x ∷ r))
    go true = refl
    go false = h

deeper_is : (d : ℕ) → (d ≡ 0 → ⊥) → read_condition d ≡ read_simple (read_deeper (read_condition (d - 1)))
unfolding read_condition
deeper_is zero h = absurd (h refl)
deeper_is (suc d) h = rw sub-one

module _ (text : List ℕ) (t : Token) where
  level : (t.kind ≡ kinds.bang → ⊥) → (t.kind ≡ kinds.left_round → ⊥) → (t.kind ≡ kinds.if_word → ⊥) → no_text (lexeme text t) ≡ no_level (lexeme text t)
  unfolding no_level
  level n₁ n₂ n₃ = rw (ne_eqb _ _ n₁, ne_eqb _ _ n₂, ne_eqb _ _ n₃)

  refused_same : {A : Type 0} (number number' : Lexeme → ℕ) → number (lexeme text t) ≡ number' (lexeme text t) → refuse_by {A = A} number (stream text t) ≡ refuse_by number' (stream text t)
  unfolding refuse_by numbered
  refused_same {A = A} number number' h = go (eqb t.kind 0) refl
    where
      go : (b : Bool) → eqb t.kind 0 ≡ b → refuse_by {A = A} number (stream text t) ≡ refuse_by number' (stream text t)
      go true e = rw (stream_end text t (eqb-true _ _ e))
      go false e = rw (stream_token text t (eqb-false _ _ e), h)

  simple_same : (inner : Reader Tree) → read_deeper inner (stream text t) ≡ refuse_by no_level (stream text t) → read_simple (read_deeper inner) (stream text t) ≡ read_condition 0 (stream text t)
  unfolding read_condition read_simple
  simple_same inner h = on_same (is_text_of is_literal) _ _ _ (stream text t) (on_same is_root _ _ _ (stream text t) h)

  module _ (n : Token) (q : n ≡ token_at text t.end) (high : t.end ≤ length text) where
    pub literal_first : is_text_of is_literal (lexeme text t) ≡ true → read_condition 0 (stream text t) ≡ read_operator (literal (literal_of (lexeme text t))) (stream text n)
    unfolding read_condition read_simple
    literal_first e = next_on text t (is_text_of is_literal) _ _ n (literal_some (lexeme text t) (of_sort is_literal (lexeme text t) e)) high q e

    module _ (n₁ : is_text_of is_literal (lexeme text t) ≡ false) where
      pub root_first : is_root (lexeme [] t) ≡ true → read_condition 0 (stream text t) ≡ read_rooted (root_from t.kind) (stream text n)
      unfolding read_condition read_simple root_of
      root_first e = next_off text t (is_text_of is_literal) _ _ n₁ ∙ next_on text t is_root _ _ n (root_some (lexeme [] t) e) high q e

      pub none_first : is_root (lexeme [] t) ≡ false → read_condition 0 (stream text t) ≡ refuse_by no_level (stream text t)
      unfolding read_condition read_simple
      none_first e = next_off text t (is_text_of is_literal) _ _ n₁ ∙ next_off text t is_root _ _ e

    module _ (d : ℕ) (deep : d ≡ 0 → ⊥) where
      -- a token that is no literal and no root goes one deeper
      deeper_first : is_literal (lexeme text t) ≡ false → is_root (lexeme text t) ≡ false → read_condition d (stream text t) ≡ read_deeper (read_condition (d - 1)) (stream text t)
      unfolding read_simple
      deeper_first l r = rw (deeper_is d deep) (next_off text t (is_text_of is_literal) _ _ (no_sort_of is_literal (lexeme text t) l) ∙ next_off text t is_root _ _ r)

      pub negation_first : t.kind ≡ kinds.bang → read_condition d (stream text t) ≡ read_negated (read_condition (d - 1)) (stream text n)
      unfolding read_deeper
      negation_first e = deeper_first (rw e) (rw e) ∙ next_on text t (is kinds.bang) _ _ n (λ (z : t.kind ≡ 0). omega arith) high q (eq-eqb _ _ e)

      module _ (n₁ : t.kind ≡ kinds.bang → ⊥) where
        pub group_first : t.kind ≡ kinds.left_round → read_condition d (stream text t) ≡ read_bracketed (read_condition (d - 1)) (stream text n)
        unfolding read_deeper
        group_first e =
            deeper_first (rw e) (rw e) ∙ next_off text t (is kinds.bang) _ _ (ne_eqb _ _ n₁)
            ∙ next_on text t (is kinds.left_round) _ _ n (λ (z : t.kind ≡ 0). omega arith) high q (eq-eqb _ _ e)

        module _ (n₂ : t.kind ≡ kinds.left_round → ⊥) where
          pub choice_first : t.kind ≡ kinds.if_word → read_condition d (stream text t) ≡ read_conditional (read_condition (d - 1)) (stream text n)
          unfolding read_deeper
          choice_first e =
              deeper_first (rw e) (rw e) ∙ next_off text t (is kinds.bang) _ _ (ne_eqb _ _ n₁) ∙ next_off text t (is kinds.left_round) _ _ (ne_eqb _ _ n₂)
              ∙ next_on text t (is kinds.if_word) _ _ n (λ (z : t.kind ≡ 0). omega arith) high q (eq-eqb _ _ e)

          -- any other token stands as where no level is left
          pub flat_first : (t.kind ≡ kinds.if_word → ⊥) → read_condition d (stream text t) ≡ read_condition 0 (stream text t)
          unfolding read_deeper
          flat_first n₃ = rw (deeper_is d deep) (simple_same (read_condition (d - 1)) (
              next_off text t (is kinds.bang) _ _ (ne_eqb _ _ n₁) ∙ next_off text t (is kinds.left_round) _ _ (ne_eqb _ _ n₂) ∙ next_off text t (is kinds.if_word) _ _ (ne_eqb _ _ n₃)
              ∙ refused_same no_text no_level (level n₁ n₂ n₃)))
