-- The kinds of words: a word is a name or a reserved word. Assumes nothing.
use mathlib.Core.Path.{◌≡◌, refl}
use mathlib.Core.Bool.{Bool, true, false, cond}
use mathlib.Core.List.{List, [], ◌∷◌}
use mathlib.Core.Logic.{◌⊎◌, inl, inr, ⊎_elim}
use Prim.Native.Nat.{ℕ, suc, ◌≤◌, ◌<◌}
use native.Mathlib.Omega.{arith}
use Rattle.slices.specs.Same.{same}
use Rattle.tokens.specs.Kinds.{name, number, permit_word}
use Rattle.tokens.specs.Words.{kind_among, reserved, word_kind}

-- a word is a name, or one of the words that count from `first` on
pub kind_among_lem : (words : List (List ℕ)) (first : ℕ) (word : List ℕ) → (kind_among words first word ≡ name) ⊎ (first ≤ kind_among words first word)
unfolding kind_among
kind_among_lem [] first word = inl refl
kind_among_lem (w ∷ more) first word = go (same word w) (kind_among_lem more (suc first) word)
  where
    rest : ℕ
    rest = kind_among more (suc first) word

    go : (t : Bool) → (rest ≡ name) ⊎ (suc first ≤ rest) → (cond t first rest ≡ name) ⊎ (first ≤ cond t first rest)
    go true h = inr (omega arith)
    go false h = ⊎_elim (λ (e : rest ≡ name). inl e) (λ (l : suc first ≤ rest). inr (omega arith)) h

-- a word's kind is above that of strings and that of numbers
pub word_high : (word : List ℕ) → number < word_kind word
word_high word =
    ⊎_elim (λ (n : word_kind word ≡ name). omega arith) (λ (l : permit_word ≤ word_kind word). omega arith) (kind_among_lem reserved permit_word word)
