-- The token that stands next: where it lies, what its refusal says, and what a reader makes of it. Assumes nothing.
use mathlib.Core.Path.{◌≡◌, refl, ◌∙◌, ap}
use mathlib.Core.Bool.{Bool, true, false}
use mathlib.Core.List.{List, [], ◌∷◌}
use Prim.Native.Nat.{ℕ, ◌+◌, ◌^◌, ◌≤◌, ◌<◌}
use native.Mathlib.Omega.{arith}
use lib.Dec.{eqb, ltb}
use lib.ListN.{length}
use borrow.Author.Tests.{eq-eqb, ne_eqb, eqb-true, eqb-false}
use Rattle.tokens.specs.declared.reader.Token.{Token}
use Rattle.tokens.specs.Tokens.{token_at, Reads}
use Rattle.tokens.proofs.ReadLaws.{reads}
use Rattle.reading.specs.Lexemes.{Lexeme, lexeme, is, stream, tokens_from}
use Rattle.reading.specs.Reader as reader
use Rattle.reading.specs.Reader.{Reader, refuse_by, numbered, bind, on, need, ten}
use Rattle.reading.proofs.Stream.{stream_end, stream_token, next_on, next_off}
use Rattle.parts.specs.declared.answers.Refusal.{Refusal}
use Rattle.parts.specs.Answers.{ReadyToRead, refusal_at, turned_away, TurnedAway}

-- ---- places

-- from any place that is not after the token
pub standing : {text : List ℕ} {low high : ℕ} (t : Token) → low ≤ t.start → Reads text high t → Reads text low t
standing t l r = record { low = l; order = r.order; high = r.high; some = r.some }

pub lowered : {text : List ℕ} {low high : ℕ} {t : Token} → low ≤ high → Reads text high t → Reads text low t
lowered l r = record { low = let x = r.low in omega arith; order = r.order; high = r.high; some = r.some }

-- the token after a token lies past its first byte
pub past : {text : List ℕ} {from : ℕ} (t : Token) {n : Token} → Reads text from t → (t.kind ≡ 0 → ⊥) → Reads text t.end n → Reads text (t.start + 1) n
past t r e s = let x = r.some e in lowered (omega arith) s

-- and there is less of the text after it
pub ahead : {text : List ℕ} {low : ℕ} (t : Token) {n : Token} → Reads text low t → (t.kind ≡ 0 → ⊥) → n ≡ token_at text t.end → (t.start < n.start) × (n.start ≤ length text)
ahead {text} t r e q = rw q (let s = reads text t.end r.high in let x = r.some e in let y = s.low in let z = s.order in let w = s.high in (omega arith, omega arith))

pub ready_past : {text : List ℕ} {from low : ℕ} (t : Token) {n : Token} → ReadyToRead text from t → (t.kind ≡ 0 → ⊥) → Reads text t.end n → low ≤ t.start + 1
    → ReadyToRead text low n
ready_past t r e s l = record { lies = lowered l (past t r.lies e s); small = r.small }

-- no entry's number is larger than the place of the token that stands next
pub number_small : {text : List ℕ} {from : ℕ} {t : Token} → ReadyToRead text from t → from < 2 ^ 60
number_small r = omega (arith, r.lies.low, r.lies.order, r.lies.high, r.small)

-- ---- refusals

pub turned_as : {A : Type 0} {text : List ℕ} {p q : reader.Answer A} {f : Refusal} → q ≡ p → TurnedAway text p f → TurnedAway text q f
turned_as e h = record { number = h.number; rest = h.rest; is = e ∙ h.is; told = h.told }

pub turned_bind : {A B : Type 0} {text : List ℕ} {p : reader.Answer A} {f : Refusal} (g : A → Reader B) → TurnedAway text p f → TurnedAway text (bind p g) f
unfolding bind
turned_bind g h = record { number = h.number; rest = h.rest; is = rw h.is; told = h.told }

module _ (text : List ℕ) (t : Token) where
  pub turned : {A : Type 0} (number : Lexeme → ℕ) {f : Refusal} → f ≡ turned_away (length text) (number (lexeme text t)) t → TurnedAway text {A = A} (refuse_by number (stream text t)) f
  unfolding turned_away refuse_by refusal_at numbered
  turned {A = A} number {f} p = go (eqb t.kind 0) refl
    where
      token_turned : (b : Bool) → eqb t.kind 0 ≡ false → ltb t.kind 7 ≡ b → TurnedAway text {A = A} (refuse_by number (stream text t)) f
      token_turned true e e' = record { number = t.kind; rest = lexeme text t ∷ tokens_from text t.end; is = rw (stream_token text t (eqb-false _ _ e), e'); told = p ∙ rw (e, e') }
      token_turned false e e' = record { number = number (lexeme text t); rest = lexeme text t ∷ tokens_from text t.end; is = rw (stream_token text t (eqb-false _ _ e), e'); told = p ∙ rw (e, e') }

      go : (b : Bool) → eqb t.kind 0 ≡ b → TurnedAway text {A = A} (refuse_by number (stream text t)) f
      go true e = record { number = 10; rest = []; is = rw (stream_end text t (eqb-true _ _ e)); told = p ∙ rw e }
      go false e = token_turned (ltb t.kind 7) e refl

  -- the same by a number that was found otherwise
  pub turned_for : {A : Type 0} (number : Lexeme → ℕ) {n : ℕ} → n ≡ number (lexeme text t) → {f : Refusal} → f ≡ turned_away (length text) n t → TurnedAway text {A = A} (refuse_by number (stream text t)) f
  turned_for number e p = turned number (p ∙ ap (λ (n : ℕ). turned_away (length text) n t) e)

  -- a token of a kind stands next, or none does
  pub kind_on : {A : Type 0} (k : ℕ) (f : Lexeme → Reader A) (g : Reader A) (n : Token) → 0 < k → t.kind ≡ k → t.end ≤ length text → n ≡ token_at text t.end → on (is k) f g (stream text t) ≡ f (lexeme text t) (stream text n)
  kind_on k f g n l e h q = next_on text t (is k) f g n (λ (z : t.kind ≡ 0). omega arith) h q (eq-eqb _ _ e)

  pub kind_off : {A : Type 0} (k : ℕ) (f : Lexeme → Reader A) (g : Reader A) → (t.kind ≡ k → ⊥) → on (is k) f g (stream text t) ≡ g (stream text t)
  kind_off k f g e = next_off text t (is k) f g (ne_eqb _ _ e)

  -- the same where it must
  pub need_on : {A : Type 0} (k : ℕ) (f : Reader A) (n : Token) → 0 < k → t.kind ≡ k → t.end ≤ length text → n ≡ token_at text t.end → need k f (stream text t) ≡ f (stream text n)
  unfolding need
  need_on k f n = kind_on k (λ _. f) (refuse_by ten) n

  pub need_off : {A : Type 0} (k : ℕ) (f : Reader A) {g : Refusal} → (t.kind ≡ k → ⊥) → g ≡ turned_away (length text) 10 t → TurnedAway text (need k f (stream text t)) g
  unfolding need
  need_off k f e p = turned_as (kind_off k (λ _. f) (refuse_by ten) e) (turned ten p)
