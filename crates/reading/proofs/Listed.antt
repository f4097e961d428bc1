-- The tokens of a text are its tokens on paper, one after the other up to its end, and there is one such list. Assumes nothing.
use mathlib.Core.Path.{◌≡◌, refl, ap, ◌∙◌, sym, subst}
use mathlib.Core.Bool.{Bool, true, false}
use mathlib.Core.List.{List, ◌∷◌}
use Prim.Native.Nat.{ℕ, zero, suc, ◌+◌, ◌≤◌, ◌<◌}
use native.Mathlib.Omega.{arith}
use lib.Dec.{eqb}
use lib.ListN.{length}
use borrow.Author.Tests.{eqb-true, eqb-false}
use Rattle.tokens.specs.declared.reader.Token.{Token}
use Rattle.tokens.specs.Tokens.{token_at}
use Rattle.tokens.proofs.ReadLaws.{reads}
use Rattle.tokens.proofs.Longest.{longest_token, one_token}
use Rattle.reading.specs.Lexemes.{Lexeme, lexeme, tokens_from, stream, tokens_of, TokensOf, ended, goes_on}
use Rattle.reading.proofs.Stream.{tokens_from_lem, stream_end, stream_token}

module _ (text : List ℕ) where
  -- the token at a place, and then the list from its end on
  listed_next : (at : ℕ) → at ≤ length text → ((end : ℕ) → at < end → end ≤ length text → TokensOf text end (tokens_from text end))
      → TokensOf text at (stream text (token_at text at))
  listed_next at h f = go (eqb t.kind 0) refl
    where
      t : Token
      t = token_at text at

      go : (b : Bool) → eqb t.kind 0 ≡ b → TokensOf text at (stream text t)
      go true e = rw (stream_end text t (eqb-true _ _ e)) (ended (longest_token text at h) (eqb-true _ _ e))
      go false e =
          let r = reads text at h in let s = r.some (eqb-false _ _ e) in let low = r.low in
          rw (stream_token text t (eqb-false _ _ e)) (goes_on (longest_token text at h) (eqb-false _ _ e) (f t.end (omega arith) r.high))

  -- with enough turns for what is left of the text
  listed : (n at : ℕ) → at ≤ length text → length text < n + at → TokensOf text at (tokens_from text at)
  listed zero at h l = absurd (omega arith)
  listed (suc n) at h l = rw (tokens_from_lem text at h) (listed_next at h (λ end low high. listed n end high (omega arith)))

  -- the tokens from a place on are those on paper
  pub tokens_stand_from : (at : ℕ) → at ≤ length text → TokensOf text at (tokens_from text at)
  tokens_stand_from at h = listed (suc (length text)) at h (omega arith)

  -- all tokens of a text are those on paper
  pub tokens_stand : TokensOf text 0 (tokens_of text)
  tokens_stand = tokens_stand_from 0 (omega arith)

  -- and paper leaves one list from each place on
  pub one_list : {at : ℕ} {ts us : List Lexeme} → TokensOf text at ts → TokensOf text at us → ts ≡ us
  one_list (ended s e) (ended s' e') = refl
  one_list {at} (ended {t = t} s e) (goes_on {t = u} s' n l) = absurd (n (ap (λ (x : Token). x.kind) (one_token text at u t s' s) ∙ e))
  one_list {at} (goes_on {t = t} s n l) (ended {t = u} s' e) = absurd (n (ap (λ (x : Token). x.kind) (one_token text at t u s s') ∙ e))
  one_list {at} (goes_on {t = t} s n l) (goes_on {t = u} {ts = us} s' n' m) =
      let same : u ≡ t = one_token text at u t s' s in
      let m' : TokensOf text t.end us = subst (λ (x : Token). TokensOf text x.end us) same m in
      ap (λ (l : List Lexeme). lexeme text t ∷ l) (one_list l m') ∙ ap (λ (x : Token). lexeme text x ∷ us) (sym same)

  -- so a list on paper is the list of all tokens
  pub tokens_are : {ts : List Lexeme} → TokensOf text 0 ts → tokens_of text ≡ ts
  tokens_are l = one_list tokens_stand l
