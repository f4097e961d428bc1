-- The token at a mark that stands by itself. Assumes nothing.
use mathlib.Core.Path.{◌≡◌, refl}
use mathlib.Core.Bool.{Bool, true, false, not}
use mathlib.Core.List.{List}
use Prim.Native.Nat.{ℕ, ◌+◌}
use lib.Dec.{eqb}
use lib.ListN.{get_or}
use borrow.Author.Tests.{eqb-true, not-true}
use Rattle.slices.specs.Ascii.{bytes}
use Rattle.tokens.specs.Bytes.{class_of, mark}
use Rattle.tokens.specs.Runs.{lone_mark}
use Rattle.tokens.specs.Tokens.{token, doubled, before_equals, mark_token, mark_at, token_by}
use Rattle.tokens.proofs.TokenLaws.{every, one_passes}

lone_class : (b : ℕ) → lone_mark b ≡ true → class_of b ≡ mark
unfolding class_of every
lone_class b e = eqb-true (class_of b) mark (one_passes (λ (c : ℕ). eqb (class_of c) mark) (bytes "(){}[],;.") b refl e)

-- a test that each of these marks fails, which `refl` shows
lone_fails : (test : ℕ → Bool) → every (λ (c : ℕ). not (test c)) (bytes "(){}[],;.") ≡ true → (b : ℕ) → lone_mark b ≡ true → test b ≡ false
lone_fails test v b e = not-true (test b) (one_passes (λ (c : ℕ). not (test c)) (bytes "(){}[],;.") b v e)

-- it starts no string, no number and no longer mark
pub lone_token : (text : List ℕ) (start : ℕ) → lone_mark (get_or text start 0) ≡ true
    → token_by text start (get_or text start 0) (class_of (get_or text start 0)) ≡ token (get_or text start 0) start (start + 1)
unfolding every mark_at mark_token
lone_token text start e =
    let b = get_or text start 0 in
    simp (
      lone_class b e,
      lone_fails (λ (c : ℕ). eqb c 34) refl b e,
      lone_fails (λ (c : ℕ). eqb c 45) refl b e,
      lone_fails (λ (c : ℕ). eqb c 95) refl b e,
      lone_fails doubled refl b e,
      lone_fails before_equals refl b e,
    )
