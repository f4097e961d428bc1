-- What is read and what is refused lies in the text, so places and numbers of entries stay small. Assumes nothing.
use mathlib.Core.Path.{◌≡◌, sym, ◌∙◌}
use mathlib.Core.Bool.{Bool, true, false, cond}
use mathlib.Core.List.{List, [], ◌∷◌, ◌++◌}
use Prim.Native.Nat.{ℕ, zero, suc, ◌+◌, ◌-◌, ◌≤◌, ◌<◌}
use native.Mathlib.Omega.{arith}
use lib.Dec.{eqb, ltb}
use lib.ListN.{length}
use Rattle.std.specs.Prelude.{Result, Ok, Err}
use Rattle.tokens.specs.declared.reader.Token.{Token}
use Rattle.tokens.specs.Tokens.{token_at, Reads}
use Rattle.tokens.specs.Sizes.{most_text_bytes}
use Rattle.tokens.proofs.ReadLaws.{reads}
use Rattle.reading.specs.Lexemes.{Lexeme, lexeme, choose, tokens_after, tokens_up_to, tokens_from, stream}
use Rattle.reading.specs.Reader as reader
use Rattle.reading.specs.Reader.{Reader}
use Rattle.reading.proofs.Local.{Near, rest}
use Rattle.table.specs.declared.Entry.{Entry}
use Rattle.parts.specs.Answers.{refusal, refusal_at, turned_away, TurnedAway, AnswerIs, read, refused}
use Rattle.parts.specs.declared.answers.Refusal.{Refusal}

-- how many numbers a place, or the next free entry, can be
abbrev pub place_numbers : ℕ
place_numbers = 65536

-- a refusal lies in a text, with the token that it refuses, so its place and its size are small
pub record RefusalHeld (text : List ℕ) (f : Refusal) : Type 0 where
  pub lies : f.start + f.size ≤ length text
  pub start_small : f.start < place_numbers
  pub size_small : f.size < place_numbers

-- what was read lies in a text, with the token that stands next, and has no more entries than the text has bytes; so places and the next free entry are small
pub record ReadHeld (text : List ℕ) (next : Token) (free : ℕ) : Type 0 where
  pub order : next.start ≤ next.end
  pub high : next.end ≤ length text
  pub some : free ≤ length text
  pub start_small : next.start < place_numbers
  pub end_small : next.end < place_numbers
  pub free_small : free < place_numbers

-- the same of an answer
abbrev pub AnswerHeld : List ℕ → Token → ℕ → Result (Unit {0}) ℕ → Type 0
AnswerHeld text next free (Ok u) = ReadHeld text next free
AnswerHeld text next free (Err n) = RefusalHeld text (turned_away (length text) n next)

-- the refusal of a token that lies in the text
pub turned_held : (text : List ℕ) (n : ℕ) (t : Token) → t.start ≤ t.end → t.end ≤ length text → length text ≤ most_text_bytes → RefusalHeld text (turned_away (length text) n t)
unfolding turned_away
turned_held text n t o h l = go (eqb t.kind 0)
  where
    go : (b : Bool) → RefusalHeld text (cond b (refusal 10 (length text) 0) (refusal (cond (ltb t.kind 7) t.kind n) t.start (t.end - t.start)))
    go true = record { lies = omega arith; start_small = omega arith; size_small = omega arith }
    go false = record { lies = omega arith; start_small = omega arith; size_small = omega arith }

-- where a token of a text stands
pub record Within (text : List ℕ) (x : Lexeme) : Type 0 where
  pub order : x.start ≤ x.end
  pub end : x.end ≤ length text

module _ (text : List ℕ) where
  -- a token, and those that follow it
  first_within : {at : ℕ} (t : Token) → Reads text at t → (f : ℕ → List Lexeme) (before : List Lexeme) (x : Lexeme) (s : List Lexeme) → ((b : List Lexeme) → f t.end ≡ b ++ x ∷ s → Within text x)
      → tokens_after text t f ≡ before ++ x ∷ s → Within text x
  unfolding tokens_after choose
  first_within t l f before x s h e = go (eqb t.kind 0) before e
    where
      go : (o : Bool) (before : List Lexeme) → choose o (λ _. []) (λ _. lexeme text t ∷ f t.end) ≡ before ++ x ∷ s → Within text x
      go true [] e = absurd (let z : ◌≡◌ {A = ℕ} 0 1 = cc in omega arith)
      go true (y ∷ before) e = absurd (let z : ◌≡◌ {A = ℕ} 0 1 = cc in omega arith)
      go false [] e =
          let same : lexeme text t ≡ x = cc in
          let o = l.order in let g = l.high in
          rw (← same) (record { order = omega arith; end = omega arith })
      go false (y ∷ before) e = h before (cc)

  up_to_within : (n at : ℕ) → at ≤ length text → (before : List Lexeme) (x : Lexeme) (s : List Lexeme) → tokens_up_to n text at ≡ before ++ x ∷ s → Within text x
  unfolding tokens_up_to
  up_to_within zero at h [] x s e = absurd (let z : ◌≡◌ {A = ℕ} 0 1 = cc in omega arith)
  up_to_within zero at h (y ∷ before) x s e = absurd (let z : ◌≡◌ {A = ℕ} 0 1 = cc in omega arith)
  up_to_within (suc n) at h before x s e =
      let l = reads text at h in first_within (token_at text at) l (tokens_up_to n text) before x s (λ b q. up_to_within n (token_at text at).end l.high b x s q) e

  stream_within : {at : ℕ} (t : Token) → Reads text at t → (before : List Lexeme) (x : Lexeme) (s : List Lexeme) → stream text t ≡ before ++ x ∷ s → Within text x
  unfolding stream tokens_from
  stream_within t l before x s e = first_within t l (tokens_from text) before x s (λ b q. up_to_within (suc (length text)) t.end l.high b x s q) e

module _ {A : Type 0} {text : List ℕ} {at : ℕ} (p : Reader A) (t : Token) (near : (i : List Lexeme) → Near p i) (l : Reads text at t)
    (small : length text ≤ most_text_bytes) where
  pub refusal_held : {f : Refusal} → TurnedAway text (p (stream text t)) f → RefusalHeld text f
  unfolding refusal_at
  refusal_held {f} h = go h.rest h.told (n.split ∙ rw h.is)
    where
      n : Near p (stream text t)
      n = near (stream text t)

      go : (r : List Lexeme) → f ≡ refusal_at text h.number r → stream text t ≡ n.before ++ r → RefusalHeld text f
      go [] e q = rw e (record { lies = omega arith; start_small = omega arith; size_small = omega arith })
      go (x ∷ s) e q =
          let w = stream_within text t l n.before x s q in let a = w.order in let b = w.end in
          rw e (record { lies = omega arith; start_small = omega arith; size_small = omega arith })

  -- an answer of a reader that goes by its tokens alone
  pub answer_held : {es : ℕ → A → List Entry} {seen : List ℕ} {from first : ℕ} {same : Bool} {next : Token} {free : ℕ} {ok : Bool} {r : Result (Unit {0}) ℕ} → first ≤ from
      → AnswerIs es text seen from first same (p (stream text t)) next free ok r → AnswerHeld text next free r
  answer_held low (read k) =
      let o = k.lies.order in let g = k.lies.high in let z = k.room in
      record { order = o; high = g; some = omega arith; start_small = omega arith; end_small = omega arith; free_small = omega arith }
  answer_held low (refused h) = refusal_held h
