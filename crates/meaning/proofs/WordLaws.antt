-- What is asked of the words of a list's literals or policies is asked of the literals or policies by their words. Assumes nothing.
use mathlib.Core.Path.{◌≡◌, refl}
use mathlib.Core.Bool.{Bool}
use mathlib.Core.List.{List, [], ◌∷◌}
use Prim.Native.Nat.{ℕ, suc}
use lib.ListN.{length}
use Rattle.grammar.specs.Policies.{LiteralOf, Literal, Which, Which.All, Which.Any, PolicyOf, Policy}
use Rattle.placing.specs.Said.{Word, literal_words, list_words, policy_words, words_of}
use Rattle.meaning.specs.Conditions.{some, all, asked}
use Rattle.meaning.specs.Decisions.{first_of, mark_by}

module _ (t : List ℕ) where
  pub some_words : (test : LiteralOf Word → Bool) (ls : List Literal) → some test (list_words t ls) ≡ some (λ l. test (literal_words t l)) ls
  unfolding some list_words
  some_words test [] = refl
  some_words test (l ∷ ls) = rw (some_words test ls)

  all_words : (test : LiteralOf Word → Bool) (ls : List Literal) → all test (list_words t ls) ≡ all (λ l. test (literal_words t l)) ls
  unfolding all list_words
  all_words test [] = refl
  all_words test (l ∷ ls) = rw (all_words test ls)

  pub asked_words : (w : Which) (test : LiteralOf Word → Bool) (ls : List Literal) → asked w test (list_words t ls) ≡ asked w (λ l. test (literal_words t l)) ls
  asked_words All test ls = all_words test ls
  asked_words Any test ls = some_words test ls

  pub first_words : (test : PolicyOf Word → Bool) (n : ℕ) (ps : List Policy) → first_of test n (words_of t ps) ≡ first_of (λ p. test (policy_words t p)) n ps
  unfolding first_of words_of
  first_words test n [] = refl
  first_words test n (p ∷ ps) = rw (first_words test (suc n) ps)

  pub mark_words : (test : PolicyOf Word → Bool) (ps : List Policy) → mark_by test (words_of t ps) ≡ mark_by (λ p. test (policy_words t p)) ps
  unfolding mark_by words_of
  mark_words test [] = refl
  mark_words test (p ∷ ps) = rw (mark_words test ps)

  pub many_words : (ps : List Policy) → length (words_of t ps) ≡ length ps
  unfolding words_of
  many_words [] = refl
  many_words (p ∷ ps) = rw (many_words ps)
