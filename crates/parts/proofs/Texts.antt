-- What a string has between its quotes, in its text, and whether it is UTF-8. Assumes nothing.
use mathlib.Core.Path.{◌≡◌, refl, sym, ◌∙◌}
use mathlib.Core.Bool.{Bool, true, false, not, or-true}
use mathlib.Core.List.{List, [], ◌∷◌}
use Prim.Native.Nat.{ℕ, zero, suc, ◌+◌, ◌-◌, ◌≤◌}
use native.Mathlib.Omega.{arith}
use lib.Dec.{eqb}
use lib.ListN.{take, drop}
use lib.Seq.{drop-drop, take-take, take-nil}
use borrow.Author.Tests.{ne_eqb}
use Rattle.slices.specs.Decides.{Decides}
use Rattle.slices.proofs.Decided.{one_answer}
use Rattle.utf8.specs.Characters.{Utf8}
use Rattle.utf8.specs.Reading.{utf8, utf8_after}
use Rattle.utf8.proofs.Readings.{utf8_decides}
use Rattle.tokens.specs.Kinds as kinds
use Rattle.tokens.specs.declared.reader.Token.{Token}
use Rattle.reading.specs.Lexemes.{lexeme}
use Rattle.grammar.specs.Rules.{inside, is_text}

-- the bytes from a place up to the last before `end`, which is a quote
abbrev pub between : List ℕ → ℕ → ℕ → List ℕ
between text end i = take (end - 1 - i) (drop i text)

rest_of_take : (n : ℕ) (l : List ℕ) → drop 1 (take n l) ≡ take (n - 1) (drop 1 l)
rest_of_take zero [] = refl
rest_of_take zero (x ∷ l) = refl
rest_of_take (suc n) [] = sym (take-nil (suc n - 1))
rest_of_take (suc n) (x ∷ l) = let e : suc n - 1 ≡ n = omega arith in rw e

pub inside_is : (text : List ℕ) (t : Token) → inside (lexeme text t) ≡ between text t.end (t.start + 1)
inside_is text t =
    let n : t.end - t.start - 2 ≡ t.end - 1 - (t.start + 1) = omega arith in
    rw (rest_of_take (t.end - t.start) (drop t.start text), drop-drop 1 t.start text, n)
    (take-take (t.end - 1 - (t.start + 1)) (t.end - t.start - 1) (drop (t.start + 1) text) (omega arith))

-- ---- whether a token keeps the limit of strings

module _ (text : List ℕ) (t : Token) where
  pub no_string_text : (t.kind ≡ kinds.string → ⊥) → true ≡ is_text (lexeme text t)
  no_string_text n = rw (ne_eqb t.kind kinds.string n)

  pub empty_text : t.end - t.start ≤ 2 → true ≡ is_text (lexeme text t)
  unfolding utf8 utf8_after
  empty_text h = let n : t.end - t.start - 2 ≡ 0 = omega arith in rw n (sym (or-true (not (eqb t.kind kinds.string))))

  pub inside_utf8 : t.kind ≡ kinds.string → utf8 (inside (lexeme text t)) ≡ is_text (lexeme text t)
  inside_utf8 k = rw k

  pub string_text : t.kind ≡ kinds.string → (r : Bool) → Decides (Utf8 (between text t.end (t.start + 1))) r → r ≡ is_text (lexeme text t)
  string_text k r d =
      let e : utf8 (between text t.end (t.start + 1)) ≡ utf8 (inside (lexeme text t)) = rw (inside_is text t) in
      one_answer r (utf8 (between text t.end (t.start + 1))) d (utf8_decides (between text t.end (t.start + 1))) ∙ (e ∙ inside_utf8 k)
