-- A type's name after `is`. Assumes nothing.
use mathlib.Core.Path.{◌≡◌}
use mathlib.Core.Bool.{true, false}
use mathlib.Core.List.{List}
use Prim.Native.Nat.{ℕ}
use borrow.Author.Tests.{eq-eqb, ne_eqb}
use Rattle.tokens.specs.Kinds as kinds
use Rattle.tokens.specs.declared.reader.Token.{Token}
use Rattle.reading.specs.Lexemes.{lexeme}
use Rattle.grammar.specs.Rules.{type_of, is_type}
use Rattle.grammar.specs.Parser.{no_type}

module _ (types : List (List ℕ)) (s : List ℕ) (t : Token) where
  pub no_type_name : (t.kind ≡ kinds.name → ⊥) → is_type types (lexeme s t) ≡ false
  no_type_name n = rw (ne_eqb _ _ n)

  pub is_type_lem : t.kind ≡ kinds.name → (type_of types (lexeme s t) ≡ 0 → ⊥) → is_type types (lexeme s t) ≡ true
  is_type_lem e n = rw (eq-eqb _ _ e, ne_eqb _ _ n)

  pub no_type_lem : t.kind ≡ kinds.name → type_of types (lexeme s t) ≡ 0 → is_type types (lexeme s t) ≡ false
  no_type_lem e z = rw (eq-eqb _ _ e, z)

module _ (s : List ℕ) (t : Token) where
  pub ten_for_type : (t.kind ≡ kinds.name → ⊥) → no_type (lexeme s t) ≡ 10
  unfolding no_type
  ten_for_type n = rw (ne_eqb _ _ n)

  pub nine_for_type : t.kind ≡ kinds.name → no_type (lexeme s t) ≡ 9
  unfolding no_type
  nine_for_type e = rw (eq-eqb _ _ e)
