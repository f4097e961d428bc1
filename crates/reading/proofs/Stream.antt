-- The tokens of a text one after the other, for code that holds one token and reads the next. Assumes nothing.
use mathlib.Core.Path.{◌≡◌, refl, ◌∙◌, ap}
use mathlib.Core.Bool.{Bool, true, false}
use mathlib.Core.List.{List, [], ◌∷◌}
use Prim.Native.Nat.{ℕ, zero, suc, ◌+◌, ◌≤◌, ◌<◌}
use native.Mathlib.Omega.{arith}
use lib.Dec.{eqb}
use lib.ListN.{length}
use borrow.Author.Tests.{ne_eqb, eqb-true, eqb-false}
use Rattle.tokens.specs.declared.reader.Token.{Token}
use Rattle.tokens.specs.Tokens.{token_at}
use Rattle.tokens.proofs.ReadLaws.{reads}
use Rattle.reading.specs.Lexemes.{Lexeme, lexeme, choose, tokens_after, tokens_up_to, tokens_from, stream}
use Rattle.reading.specs.Reader.{Reader, on}
use Rattle.reading.proofs.Readers.{on_token, on_other}

module _ (text : List ℕ) where
  -- the token at a place, and then f or g: they need only agree on what is left
  followed : (f g : ℕ → List Lexeme) (at : ℕ) → at ≤ length text → ((end : ℕ) → at < end → end ≤ length text → f end ≡ g end)
      → tokens_after text (token_at text at) f ≡ tokens_after text (token_at text at) g
  unfolding tokens_after choose
  followed f g at h k = go (eqb (token_at text at).kind 0) refl
    where
      go : (b : Bool) → eqb (token_at text at).kind 0 ≡ b
          → choose b (λ _. []) (λ _. lexeme text (token_at text at) ∷ f (token_at text at).end) ≡ choose b (λ _. []) (λ _. lexeme text (token_at text at) ∷ g (token_at text at).end)
      go true e = refl
      go false e =
          let r = reads text at h in let s = r.some (eqb-false _ _ e) in let low = r.low in
          ap (λ (l : List Lexeme). lexeme text (token_at text at) ∷ l) (k (token_at text at).end (omega arith) r.high)

  -- one turn more than there are tokens changes nothing
  enough : (n k at : ℕ) → at ≤ length text → length text < n + at → length text < k + at → tokens_up_to n text at ≡ tokens_up_to k text at
  unfolding tokens_up_to
  enough zero k at h l m = absurd (omega arith)
  enough (suc n) zero at h l m = absurd (omega arith)
  enough (suc n) (suc k) at h l m = followed _ _ at h (λ end low high. enough n k end high (omega arith) (omega arith))

  -- the tokens from a place on are those from the token there on
  pub tokens_from_lem : (at : ℕ) → at ≤ length text → tokens_from text at ≡ stream text (token_at text at)
  unfolding tokens_from stream tokens_up_to
  tokens_from_lem at h = followed _ _ at h (λ end low high. enough (length text) (suc (length text)) end high (omega arith) (omega arith))

  module _ (t : Token) where
    pub stream_end : t.kind ≡ 0 → stream text t ≡ []
    unfolding stream tokens_after choose
    stream_end e = rw e

    pub stream_token : (t.kind ≡ 0 → ⊥) → stream text t ≡ lexeme text t ∷ tokens_from text t.end
    unfolding stream tokens_after choose
    stream_token e = rw (ne_eqb t.kind 0 e)

    -- with the next token n
    pub stream_step : (n : Token) → (t.kind ≡ 0 → ⊥) → t.end ≤ length text → n ≡ token_at text t.end → stream text t ≡ lexeme text t ∷ stream text n
    stream_step n e h q = stream_token e ∙ rw (tokens_from_lem t.end h, ← q)

    -- a test that the token passes, and one that it does not
    pub next_on : {A : Type 0} (k : Lexeme → Bool) (f : Lexeme → Reader A) (g : Reader A) (n : Token) → (t.kind ≡ 0 → ⊥) → t.end ≤ length text → n ≡ token_at text t.end
        → k (lexeme text t) ≡ true → on k f g (stream text t) ≡ f (lexeme text t) (stream text n)
    next_on k f g n e h q p = rw (stream_step n e h q) (on_token k f g (lexeme text t) _ p)

    pub next_off : {A : Type 0} (k : Lexeme → Bool) (f : Lexeme → Reader A) (g : Reader A) → k (lexeme text t) ≡ false → on k f g (stream text t) ≡ g (stream text t)
    unfolding on
    next_off k f g p = go (eqb t.kind 0) refl
      where
        go : (b : Bool) → eqb t.kind 0 ≡ b → on k f g (stream text t) ≡ g (stream text t)
        go true e = rw (stream_end (eqb-true _ _ e))
        go false e = rw (stream_token (eqb-false _ _ e)) (on_other k f g (lexeme text t) _ p)
