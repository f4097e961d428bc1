-- Reserved words and marks among tokens that are laid out, computed; and any token before a byte that makes none longer. Assumes nothing.
use mathlib.Core.Path.{◌≡◌, subst}
use mathlib.Core.Bool.{Bool, true, false, ◌&&◌, ◌||◌}
use mathlib.Core.List.{List, [], ◌∷◌, ◌++◌}
use mathlib.Core.Logic.{⊎_elim}
use Prim.Native.Nat.{ℕ}
use lib.Dec.{eqb, leb}
use lib.ListN.{get_or}
use borrow.Author.Tests.{eqb-true, leb-true}
use Rattle.tokens.specs.Runs.{is_of}
use Rattle.tokens.specs.Words.{word_kind}
use Rattle.tokens.specs.Forms.{All, empty, next, marks, Form, a_word, a_mark, size_of, most_of}
use Rattle.tokens.specs.declared.classes.Sort.{Sort}
use Rattle.tokens.specs.declared.classes.Sort.TheVariants.{Blanks, Letters, WordBytes}
use Rattle.tokens.proofs.TokenLaws.{never, and_left, and_right, or_cases, every}
use Rattle.tokens.proofs.FormLaws.{is_among, is_among_lem}
use Rattle.tokens.proofs.Opened.{tokens_opened}
use Rattle.spelling.specs.Spelling.{apart, calm}
use Rattle.spelling.specs.Layout.{WrittenToken, written, laid_out, reads_as, standing, WellWritten, one}
use Rattle.spelling.specs.Printed.{PlainToken}
use Rattle.spelling.proofs.Apart.{calm_apart}
use Rattle.spelling.proofs.Laid.{read_fitting}

all_of : (sort : Sort) (l : List ℕ) → every (is_of sort) l ≡ true → All sort l
unfolding every
all_of sort [] e = empty
all_of sort (b ∷ l) e = next (and_left _ _ e) (all_of sort l (and_right (is_of sort b) _ e))

-- bytes that are a word of this kind
is_word : ℕ → List ℕ → Bool
is_word kind [] = false
is_word kind (b ∷ l) = is_of Letters b && (every (is_of WordBytes) l && eqb (word_kind (b ∷ l)) kind)

word_form : (kind : ℕ) (l : List ℕ) → is_word kind l ≡ true → Form kind l
unfolding is_word
word_form kind [] e = absurd (never e)
word_form kind (b ∷ l) e =
    let rest = and_right (is_of Letters b) _ e in
    subst (λ (k : ℕ). Form k (b ∷ l)) (eqb-true (word_kind (b ∷ l)) kind (and_right (every (is_of WordBytes) l) _ rest))
    (a_word (and_left _ _ e) (all_of WordBytes l (and_left _ _ rest)))

-- a word or a mark of its kind behind blanks, that the next byte makes no longer
unfoldable pub is_fixed : WrittenToken → ℕ → Bool
unfolding is_word
is_fixed x b = every (is_of Blanks) x.blanks && ((is_word x.kind x.bytes || is_among marks x.kind x.bytes) && apart x.bytes b)

-- a word or a mark of its kind has a form
fixed_form : (kind : ℕ) (p : List ℕ) → (is_word kind p || is_among marks kind p) ≡ true → Form kind p
fixed_form kind p e =
    ⊎_elim (λ (h : is_word kind p ≡ true). word_form kind p h) (λ (h : is_among marks kind p ≡ true). a_mark (is_among_lem marks kind p h))
    (or_cases (is_word kind p) _ e)

-- one within its size, as it is written plainly
unfoldable pub is_fixed_token : PlainToken → Bool
unfolding is_word
is_fixed_token t = (is_word t.0 t.1 || is_among marks t.0 t.1) && leb (size_of t.0 t.1) (most_of t.0)

-- a token that has a form
pub record FormedToken (t : PlainToken) : Type 0 where
  pub form : Form t.0 t.1

-- and is read as one of the kind k
pub record FixedToken (k : ℕ) (t : PlainToken) : Type 0 where
  pub formed : FormedToken t
  pub read : reads_as t.0 t.1 ≡ k

pub fixed : {t : PlainToken} → is_fixed_token t ≡ true → FixedToken t.0 t
unfolding is_fixed_token
fixed {t} e = record {
  formed = record { form = fixed_form t.0 t.1 (and_left _ _ e) };
  read = read_fitting t.0 t.1 (leb-true _ _ (and_right (is_word t.0 t.1 || is_among marks t.0 t.1) _ e));
}

module _ {xs : List WrittenToken} {q : List ℕ} (w : WellWritten xs q) where
  pub well_fixed : {x : WrittenToken} → is_fixed x (get_or (laid_out xs ++ q) 0 0) ≡ true → WellWritten (x ∷ xs) q
  unfolding is_fixed
  well_fixed {x} e =
      let rest = and_right (every (is_of Blanks) x.blanks) _ e in
      let form = and_left _ _ rest in
      one (all_of Blanks x.blanks (and_left _ _ e))
      (fixed_form x.kind x.bytes form)
      (and_right (is_word x.kind x.bytes || is_among marks x.kind x.bytes) _ rest)
      w

  -- any token before a byte that makes none longer
  pub well_calm : {b p : List ℕ} {kind : ℕ} → All Blanks b → Form kind p → calm (get_or (laid_out xs ++ q) 0 0) ≡ true → WellWritten (written b kind p ∷ xs) q
  well_calm {p = p} a f e = one a f (calm_apart p (get_or (laid_out xs ++ q) 0 0) e) w

-- One word for proofs that compute with written tokens.
unfoldable pub written_opened : Unit {0}
unfolding tokens_opened every is_word is_fixed is_fixed_token is_among marks apart calm laid_out reads_as standing
written_opened = tt
