-- A word is compared with the reserved words of its length only. Assumes nothing.
use mathlib.Core.Path.{◌≡◌, refl, sym, ap, ◌∙◌}
use mathlib.Core.Bool.{Bool, true, false, cond, not, ◌&&◌, ◌||◌}
use mathlib.Core.List.{List, [], ◌∷◌}
use mathlib.Core.Logic.{◌≢◌}
use Prim.Native.Nat.{ℕ, suc, ◌<◌}
use native.Mathlib.Omega.{arith}
use lib.Dec.{eqb}
use lib.ListN.{length}
use borrow.Author.Tests.{eqb-false, ne_eqb}
use Rattle.slices.specs.Same.{same}
use Rattle.slices.proofs.Equal.{other_length}
use Rattle.tokens.specs.Kinds.{name}
use Rattle.tokens.specs.Words.{reserved, kind_among, word_kind, is_among, is_reserved_word}

-- `kind_among`, with the words of length `n` only
unfoldable pub kind_by : ℕ → List (List ℕ) → ℕ → List ℕ → ℕ
kind_by n [] first word = name
kind_by n (w ∷ more) first word = cond (eqb n (length w) && same word w) first (kind_by n more (suc first) word)

by_length : (words : List (List ℕ)) (first : ℕ) (word : List ℕ) → kind_among words first word ≡ kind_by (length word) words first word
unfolding kind_among kind_by
by_length [] first word = refl
by_length (w ∷ more) first word = go (eqb (length word) (length w)) (eqb-false (length word) (length w)) (by_length more (suc first) word)
  where
    rest : ℕ
    rest = kind_by (length word) more (suc first) word

    go : (t : Bool) → (t ≡ false → length word ≢ length w) → kind_among more (suc first) word ≡ rest
        → cond (same word w) first (kind_among more (suc first) word) ≡ cond (t && same word w) first rest
    go true f e = ap (λ (k : ℕ). cond (same word w) first k) e
    go false f e = rw (other_length word w (f refl)) e

pub of_length : (n : ℕ) (word : List ℕ) → length word ≡ n → word_kind word ≡ kind_by n reserved 201 word
of_length n word e = by_length reserved 201 word ∙ ap (λ (k : ℕ). kind_by k reserved 201 word) e

pub of_no_length : (word : List ℕ) → (length word ≢ 2) → (length word ≢ 3) → (length word ≢ 4) → (length word ≢ 5) → (length word ≢ 6) → (length word ≢ 8)
    → (length word ≢ 9) → (length word ≢ 11) → word_kind word ≡ name
unfolding reserved kind_by
of_no_length word n2 n3 n4 n5 n6 n8 n9 n11 =
    by_length reserved 201 word
    ∙ simp (ne_eqb _ _ n2, ne_eqb _ _ n3, ne_eqb _ _ n4, ne_eqb _ _ n5, ne_eqb _ _ n6, ne_eqb _ _ n8, ne_eqb _ _ n9, ne_eqb _ _ n11)

-- a choice among words, where the word has been compared with the first of them
pub is_word : (word w : List ℕ) {kind : ℕ} (rest : ℕ) → true ≡ same word w → cond (same word w) kind rest ≡ kind
is_word word w {kind} rest e = ap (λ (t : Bool). cond t kind rest) (sym e)

pub no_word : (word w : List ℕ) {rest last : ℕ} (kind : ℕ) → false ≡ same word w → rest ≡ last → cond (same word w) kind rest ≡ last
no_word word w {rest} kind e l = ap (λ (t : Bool). cond t kind rest) (sym e) ∙ l

-- ---- whether a word is reserved

named : (words : List (List ℕ)) (first : ℕ) (word : List ℕ) → name < first → eqb (kind_among words first word) name ≡ not (is_among words word)
unfolding kind_among is_among
named [] first word h = refl
named (w ∷ more) first word h = go (same word w) (named more (suc first) word (omega arith))
  where
    go : (t : Bool) → eqb (kind_among more (suc first) word) name ≡ not (is_among more word)
        → eqb (cond t first (kind_among more (suc first) word)) name ≡ not (t || is_among more word)
    go true e = ne_eqb first name (omega arith)
    go false e = e

-- a word is a name exactly when it is not reserved
pub name_or_reserved : (word : List ℕ) → eqb (word_kind word) name ≡ not (is_reserved_word word)
name_or_reserved word = named reserved 201 word (omega arith)

pub reserved_or_name : (word : List ℕ) → not (eqb (word_kind word) name) ≡ is_reserved_word word
reserved_or_name word = ap not (name_or_reserved word) ∙ twice (is_reserved_word word)
  where
    twice : (t : Bool) → not (not t) ≡ t
    twice true = refl
    twice false = refl
