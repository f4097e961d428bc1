-- A token depends only on the text from its place on: with bytes put before the text, it is the same token, further on. Assumes nothing.
use mathlib.Core.Path.{◌≡◌, refl, ap, ◌∙◌}
use mathlib.Core.Bool.{Bool, true, false, cond}
use mathlib.Core.List.{List, ◌++◌}
use Prim.Native.Nat.{ℕ, ◌+◌, ◌-◌}
use native.Mathlib.Nat.{add_assoc}
use native.Mathlib.Omega.{arith}
use lib.Dec.{leb}
use lib.ListN.{length, length-append}
use lib.Seq.{drop-append-add, get_or-append-add}
use borrow.Author.Tests.{le-leb, lt-leb, leb-true, leb-false}
use Rattle.tokens.specs.Runs.{run_end}
use Rattle.tokens.specs.Tokens.{token, sized, word_token, string_token, number_token, mark_token, mark_at, token_from, token_at}
use Rattle.tokens.specs.declared.classes.Sort.TheVariants.{Blanks}
use Rattle.tokens.specs.declared.reader.Token.{Token}

-- the same token, so many bytes further
unfoldable pub further : ℕ → Token → Token
further n t = token t.kind (n + t.start) (n + t.end)

further_token : (n kind start end : ℕ) → further n (token kind start end) ≡ token kind (n + start) (n + end)
unfolding further
further_token n kind start end = refl

further_cond : (n : ℕ) (test : Bool) (a b : Token) → further n (cond test a b) ≡ cond test (further n a) (further n b)
further_cond n true a b = refl
further_cond n false a b = refl

less : (n a b : ℕ) → n + a - (n + b) ≡ a - b
less n a b = omega arith

below : (n a b : ℕ) → leb (n + a) (n + b) ≡ leb a b
below n a b = go (leb a b) refl
  where
    go : (t : Bool) → leb a b ≡ t → leb (n + a) (n + b) ≡ t
    go true e = le-leb (n + a) (n + b) (omega (arith, leb-true a b e))
    go false e = lt-leb (n + a) (n + b) (omega (arith, leb-false a b e))

sized_further : (n kind most size start end : ℕ) → further n (sized kind most size start end) ≡ sized kind most size (n + start) (n + end)
unfolding sized
sized_further n kind most size start end = simp (further_cond, further_token)

mark_of_further : (n at first next : ℕ) → mark_token (n + at) first next ≡ further n (mark_token at first next)
unfolding mark_token
mark_of_further n at first next = simp (further_cond, further_token, add_assoc)

module _ (pre rest : List ℕ) where
  word_further : (at : ℕ) → word_token (pre ++ rest) (length pre + at) ≡ further (length pre) (word_token rest at)
  unfolding word_token
  word_further at = simp (drop-append-add, add_assoc, less, sized_further)

  string_further : (at : ℕ) → string_token (pre ++ rest) (length pre + at) ≡ further (length pre) (string_token rest at)
  unfolding string_token
  string_further at =
      simp (drop-append-add, get_or-append-add, length-append, add_assoc, below, less, sized_further, further_cond, further_token)

  number_further : (at first : ℕ) → number_token (pre ++ rest) (length pre + at) (length pre + first) ≡ further (length pre) (number_token rest at first)
  unfolding number_token
  number_further at first = simp (drop-append-add, get_or-append-add, add_assoc, less, sized_further, further_cond)

  mark_further : (at : ℕ) → mark_at (pre ++ rest) (length pre + at) ≡ further (length pre) (mark_at rest at)
  unfolding mark_at
  mark_further at =
      simp (get_or-append-add, add_assoc, string_further, number_further, mark_of_further, further_cond, further_token)

  -- what starts at a place of `rest` is what starts at that place of `pre ++ rest`, but for its place
  pub from_further : (at : ℕ) → token_from (pre ++ rest) (length pre + at) ≡ further (length pre) (token_from rest at)
  from_further at =
      simp (get_or-append-add, length-append, add_assoc, below, word_further, number_further, mark_further, further_cond, further_token)

  -- the token at a place of `rest` is the one at that place of `pre ++ rest`, but for its place
  pub token_further : (at : ℕ) → token_at (pre ++ rest) (length pre + at) ≡ further (length pre) (token_at rest at)
  unfolding token_at
  token_further at = ap (token_from (pre ++ rest)) passed ∙ from_further (run_end Blanks rest at)
    where
      passed : run_end Blanks (pre ++ rest) (length pre + at) ≡ length pre + run_end Blanks rest at
      passed = simp (drop-append-add, add_assoc)
