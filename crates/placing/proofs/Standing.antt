-- What a text's tokens are: their bytes have the form of their kind, and between them stand only blanks. Assumes nothing.
use mathlib.Core.Path.{◌≡◌, refl, sym, ap, ◌∙◌}
use mathlib.Core.Bool.{Bool, true, false, not, ◌&&◌, ◌||◌}
use mathlib.Core.List.{List, [], ◌∷◌, ◌++◌}
use Prim.Native.Nat.{ℕ, zero, suc, ◌+◌, ◌-◌, ◌≤◌, ◌<◌}
use native.Mathlib.Nat.{add-zero}
use native.Mathlib.Omega.{arith}
use lib.Dec.{eqb}
use lib.ListN.{length, get_or, take, drop, length-append, length-drop}
use lib.Seq.{take-append_seam, drop-drop, length-take-le, take-take, get_or-take, get_or-drop, get_or-append_seam}
use borrow.Author.Tests.{eqb-false, not-true}
use Rattle.slices.specs.Same.{same}
use Rattle.slices.proofs.Equal.{same_decides}
use Rattle.utf8.specs.Reading.{utf8}
use Rattle.tokens.specs.Kinds as kinds
use Rattle.tokens.specs.Tokens.{token_at}
use Rattle.tokens.specs.Forms.{All, marks, Among, Form, size_of, most_of, quote}
use Rattle.tokens.specs.Forms as forms
use Rattle.tokens.specs.declared.classes.Sort.TheVariants.{Blanks, StringBytes}
use Rattle.tokens.proofs.TokenLaws.{every, and_left, and_right}
use Rattle.tokens.proofs.KindLaws.{word_high}
use Rattle.tokens.proofs.FormLaws.{mark_passes}
use Rattle.tokens.proofs.ReadLaws.{reads}
use Rattle.tokens.proofs.Told.{token_told}
use Rattle.numbers.proofs.NumberTokens.{token_is_number}
use Rattle.reading.specs.Lexemes.{Lexeme, lexeme, choose, tokens_after, tokens_up_to, tokens_from, tokens_of}
use Rattle.grammar.specs.Policies.{span}
use Rattle.grammar.specs.Rules.{inside, span_of, is_text}
use Rattle.placing.specs.Placed.{bytes_at, quoted_at, IsName, a_name, StringPlaced, NumberPlaced}

-- the bytes of a text from one place up to another
abbrev pub between : List ℕ → ℕ → ℕ → List ℕ
between t a b = take (b - a) (drop a t)

-- ---- a form by its kind

abbrev plain_mark : ℕ → List ℕ → Bool
plain_mark kind l = not (eqb kind kinds.string) && (not (eqb kind kinds.name) && (not (eqb kind kinds.dot) || same l (kinds.dot ∷ [])))

mark_told : {kind : ℕ} {l : List ℕ} → Among marks kind l → plain_mark kind l ≡ true
unfolding every marks same
mark_told m = mark_passes plain_mark m refl

no_string_mark : {kind : ℕ} {l : List ℕ} → Among marks kind l → kind ≡ kinds.string → ⊥
no_string_mark {kind} m e = eqb-false kind kinds.string (not-true _ (and_left _ _ (mark_told m))) e

no_name_mark : {kind : ℕ} {l : List ℕ} → Among marks kind l → kind ≡ kinds.name → ⊥
no_name_mark {kind} m e = eqb-false kind kinds.name (not-true _ (and_left _ _ (and_right (not (eqb kind kinds.string)) _ (mark_told m)))) e

dot_mark : {kind : ℕ} {l : List ℕ} → Among marks kind l → kind ≡ kinds.dot → l ≡ kinds.dot ∷ []
dot_mark {kind} {l} m e =
    (same_decides l (kinds.dot ∷ [])).sound (rw e at (and_right (not (eqb kind kinds.name)) _ (and_right (not (eqb kind kinds.string)) _ (mark_told m))))

-- a name's bytes, a string's, a dot's
pub name_form : {kind : ℕ} {l : List ℕ} → Form kind l → kind ≡ kinds.name → IsName l
name_form (forms.Form.a_word e a) k = a_name e a k
name_form (forms.Form.a_string a) k = absurd (omega arith)
name_form (forms.Form.a_number n) k = absurd (omega arith)
name_form (forms.Form.a_mark m) k = absurd (no_name_mark m k)

pub dot_form : {kind : ℕ} {l : List ℕ} → Form kind l → kind ≡ kinds.dot → l ≡ kinds.dot ∷ []
dot_form (forms.Form.a_word {b} {rest} e a) k = absurd (omega (arith, word_high (b ∷ rest)))
dot_form (forms.Form.a_string a) k = absurd (omega arith)
dot_form (forms.Form.a_number n) k = absurd (omega arith)
dot_form (forms.Form.a_mark m) k = dot_mark m k

pub data Quoted : List ℕ → Type 0 where
  quoted : {inside : List ℕ} → All StringBytes inside → Quoted (quote ∷ (inside ++ quote ∷ []))

string_form : {kind : ℕ} {l : List ℕ} → Form kind l → kind ≡ kinds.string → Quoted l
string_form (forms.Form.a_word {b} {rest} e a) k = absurd (omega (arith, word_high (b ∷ rest)))
string_form (forms.Form.a_string a) k = quoted a
string_form (forms.Form.a_number n) k = absurd (omega arith)
string_form (forms.Form.a_mark m) k = absurd (no_string_mark m k)

-- ---- a token of a text

-- a token x of a text, read at a place; a number is one in the text
pub record Lexed (text : List ℕ) (at : ℕ) (x : Lexeme) : Type 0 where
  pub low : at ≤ x.start
  pub some : x.start < x.end
  pub high : x.end ≤ length text
  pub bytes : x.bytes ≡ bytes_at text (span_of x)
  pub gap : 6 < x.kind → All Blanks (between text at x.start)
  pub form : 6 < x.kind → Form x.kind x.bytes
  pub few : 6 < x.kind → size_of x.kind x.bytes ≤ most_of x.kind
  pub number : x.kind ≡ kinds.number → NumberPlaced text (span_of x)

lexed : (text : List ℕ) (at : ℕ) → at ≤ length text → ((token_at text at).kind ≡ 0 → ⊥) → Lexed text at (lexeme text (token_at text at))
lexed text at h n =
    let t = token_at text at in
    let lies = reads text at h in
    let some = lies.some n in
    let all = token_told text at h in
    record {
      low = lies.low;
      some = some;
      high = lies.high;
      bytes = refl;
      gap = λ k. (all k).gap;
      form = λ k. (all k).form;
      few = λ k. (all k).few;
      number = λ k. record { lies = record { some = some; high = lies.high }; number = token_is_number text at h k };
    }

-- tokens of a text one after the other, from a place on
pub data Running (text : List ℕ) : ℕ → List Lexeme → Type 0 where
  no_more : {at : ℕ} → Running text at []
  token : {at : ℕ} {x : Lexeme} {i : List Lexeme} → Lexed text at x → Running text x.end i → Running text at (x ∷ i)

running : (text : List ℕ) (n at : ℕ) → at ≤ length text → Running text at (tokens_up_to n text at)
unfolding tokens_up_to tokens_after choose
running text zero at h = no_more
running text (suc n) at h = go (eqb (token_at text at).kind 0) refl (running text n (token_at text at).end (reads text at h).high)
  where
    go : (b : Bool) → eqb (token_at text at).kind 0 ≡ b → Running text (token_at text at).end (tokens_up_to n text (token_at text at).end)
        → Running text at (choose b (λ _. []) (λ _. lexeme text (token_at text at) ∷ tokens_up_to n text (token_at text at).end))
    go true e r = no_more
    go false e r = token (lexed text at h (eqb-false _ _ e)) r

-- the same, from some place on
pub record FromText (text : List ℕ) (i : List Lexeme) : Type 0 where
  pub at : ℕ
  pub running : Running text at i

pub all_from_text : (text : List ℕ) → FromText text (tokens_of text)
unfolding tokens_from
all_from_text text = record { at = 0; running = running text (suc (length text)) 0 (omega arith) }

pub head_of : {text : List ℕ} {x : Lexeme} {i : List Lexeme} (f : FromText text (x ∷ i)) → Lexed text f.at x
head_of f = go f.running
  where
    go : {text : List ℕ} {at : ℕ} {x : Lexeme} {i : List Lexeme} → Running text at (x ∷ i) → Lexed text at x
    go (token l r) = l

pub tail_of : {text : List ℕ} {x : Lexeme} {i : List Lexeme} → FromText text (x ∷ i) → FromText text i
tail_of f = go f.running
  where
    go : {text : List ℕ} {at : ℕ} {x : Lexeme} {i : List Lexeme} → Running text at (x ∷ i) → FromText text i
    go (token l r) = record { at = _; running = r }

-- ---- strings

module _ (text : List ℕ) (start end : ℕ) where
  pub length_between : end ≤ length text → length (between text start end) ≡ end - start
  length_between h = length-take-le (end - start) (drop start text) (simp length-drop (omega arith))

  byte_at : (i : ℕ) → i < end - start → get_or text (start + i) 0 ≡ get_or (between text start end) i 0
  byte_at i h = rw (get_or-take, get_or-drop)

within_front : (n k : ℕ) (l : List ℕ) → k < n → take k (drop 1 (take n l)) ≡ take k (drop 1 l)
within_front zero k l h = absurd (omega arith)
within_front (suc n) k [] h = refl
within_front (suc n) k (b ∷ l) h = take-take k n l (omega arith)

-- the bytes between a string's quotes, from the string's bytes and from the text
pub inside_text : (text : List ℕ) (start end : ℕ) → start + 2 ≤ end → take (end - start - 2) (drop 1 (between text start end)) ≡ quoted_at text (span start end)
inside_text text start end h =
    within_front (end - start) (end - start - 2) (drop start text) (omega arith) ∙ ap (take (end - start - 2)) (drop-drop 1 start text)

string_placed : (text : List ℕ) (start end : ℕ) {l : List ℕ} → start < end → end ≤ length text → between text start end ≡ l → Quoted l → length l - 2 ≤ 127
    → (start + 2 ≤ end → utf8 (quoted_at text (span start end)) ≡ true) → StringPlaced text (span start end)
string_placed text start end o h e (quoted {inside} a) few u =
    let size : length inside + 2 ≡ end - start = omega (arith, ap length e, length_between text start end h, length-append inside (quote ∷ [])) in
    let last : end - 1 ≡ start + suc (length inside) = omega arith in
    let all : end - start - 2 ≡ length inside = omega arith in
    record {
      lies = record { some = o; high = h };
      two = omega arith;
      few = omega (arith, length-append inside (quote ∷ []));
      opened = rw (add-zero start) at (byte_at text start end 0 (omega arith)) ∙ rw e;
      inside = rw (← inside_text text start end (omega arith), e, all, take-append_seam inside (quote ∷ [])) a;
      characters = u (omega arith);
      closed = rw (last, byte_at text start end (suc (length inside)) (omega arith), e) (get_or-append_seam inside quote [] 0);
    }

-- a string's bytes that are UTF-8, where the token keeps that limit
string_text : (x : Lexeme) → x.kind ≡ kinds.string → is_text x ≡ true → utf8 (inside x) ≡ true
string_text x k e = rw k at e

pub string_of : {text : List ℕ} {at : ℕ} {x : Lexeme} → Lexed text at x → x.kind ≡ kinds.string → is_text x ≡ true → StringPlaced text (span_of x)
string_of {text} {at} {x} l k u =
    string_placed text x.start x.end l.some l.high (sym l.bytes) (string_form (l.form (omega arith)) k) (rw k at (l.few (omega arith)))
    (λ two. rw (← inside_text text x.start x.end two, ← l.bytes) (string_text x k u))
