-- A text as blanks and tokens one after the other; such a text has these tokens, and a text whose tokens are all well formed is such a text. Assumes nothing.
use mathlib.Core.Path.{◌≡◌, refl, ap, ◌∙◌, sym, subst}
use mathlib.Core.Bool.{Bool, true, false, cond}
use mathlib.Core.List.{List, [], ◌∷◌, ◌++◌, append_assoc, append-nil}
use Prim.Native.Nat.{ℕ, ◌+◌, ◌-◌, ◌≤◌}
use native.Mathlib.Omega.{arith}
use lib.Dec.{leb}
use lib.ListN.{length, take, drop, length-append, take-append-drop}
use lib.Seq.{take-append_seam, drop-append_seam, length-take-le}
use borrow.Author.Tests.{le-leb, leb-true, leb-false}
use Rattle.tokens.specs.Bytes.{class_of}
use Rattle.tokens.specs.Kinds as kinds
use Rattle.tokens.specs.Runs.{is_of}
use Rattle.tokens.specs.Tokens.{token}
use Rattle.tokens.specs.Forms.{All, Form, size_of, most_of, Longest, Stands, end_of_text, a_token, a_token_too_long, a_colon, bad_byte, unended, bad_inside, StandsAt}
use Rattle.tokens.specs.declared.reader.Token.{Token}
use Rattle.tokens.specs.declared.classes.Sort.TheVariants.{Blanks}
use Rattle.reading.specs.Lexemes.{Lexeme, lexeme, tokens_of, TokensOf, ended, goes_on}
use Rattle.tokens.proofs.ReadLaws.{reads}
use Rattle.tokens.proofs.Longest.{longest_token, one_token}
use Rattle.tokens.specs.Tokens.{token_at}
use Rattle.reading.proofs.Listed.{tokens_stand, tokens_are}
use Rattle.spelling.specs.Spelling.{lexeme_at}
use Rattle.spelling.specs.Layout.{reads_as}
use Rattle.spelling.proofs.Apart.{form_first, form_kind}

-- From a place on a text is blanks; or blanks, a token within its size that is the longest there, and such a text behind it.
pub data Laid : ℕ → List ℕ → List Lexeme → Type 0 where
  blank : {at : ℕ} {b : List ℕ} → All Blanks b → Laid at b []
  before : {at kind : ℕ} {b p q : List ℕ} {ts : List Lexeme} → All Blanks b → Longest kind p (p ++ q) → size_of kind p ≤ most_of kind
      → Laid (at + length b + length p) q ts → Laid at (b ++ (p ++ q)) (lexeme_at (at + length b) kind p ∷ ts)

-- none of the tokens is a refusal
pub data Fine : List Lexeme → Type 0 where
  none : Fine []
  fine : {x : Lexeme} {ts : List Lexeme} → 7 ≤ x.kind → Fine ts → Fine (x ∷ ts)

-- the bytes of a token, by its places
own_bytes : (text pre p q : List ℕ) (start : ℕ) → text ≡ pre ++ (p ++ q) → start ≡ length pre → take (start + length p - start) (drop start text) ≡ p
own_bytes text pre p q start e h =
    let size : start + length p - start ≡ length p = omega arith in rw (size, e, h, drop-append_seam pre (p ++ q)) (take-append_seam p q)

-- ---- such a text has these tokens

-- what stands where a form is the longest: a token, or one that is too long
read_stands : {start kind : ℕ} {p l : List ℕ} → Longest kind p l → Stands start l (token (reads_as kind p) start (start + length p))
unfolding reads_as
read_stands {start} {kind} {p} {l} f = go (leb (size_of kind p) (most_of kind)) refl
  where
    go : (t : Bool) → leb (size_of kind p) (most_of kind) ≡ t → Stands start l (token (cond t kind kinds.too_long) start (start + length p))
    go true e = a_token f (leb-true (size_of kind p) (most_of kind) e)
    go false e = a_token_too_long f (leb-false (size_of kind p) (most_of kind) e)

read_some : {kind : ℕ} {p : List ℕ} → Form kind p → reads_as kind p ≡ kinds.end_of_text → ⊥
unfolding reads_as
read_some {kind} {p} f = go (leb (size_of kind p) (most_of kind))
  where
    go : (t : Bool) → cond t kind kinds.too_long ≡ 0 → ⊥
    go true e = let k = form_kind f in omega arith
    go false e = omega arith

-- within its size it is read as what it is
pub read_fitting : (kind : ℕ) (p : List ℕ) → size_of kind p ≤ most_of kind → reads_as kind p ≡ kind
unfolding reads_as
read_fitting kind p f = rw (le-leb (size_of kind p) (most_of kind) f)

-- and what is read as no refusal is within its size
pub read_sized : (kind : ℕ) (p : List ℕ) → 7 ≤ reads_as kind p → size_of kind p ≤ most_of kind
unfolding reads_as
read_sized kind p = go (leb (size_of kind p) (most_of kind)) refl
  where
    go : (t : Bool) → leb (size_of kind p) (most_of kind) ≡ t → 7 ≤ cond t kind kinds.too_long → size_of kind p ≤ most_of kind
    go true e h = leb-true (size_of kind p) (most_of kind) e
    go false e h = absurd (omega arith)

-- a form behind blanks, and the list from its end on
pub form_next : (text pre : List ℕ) {at kind : ℕ} {b p : List ℕ} (q : List ℕ) {ts : List Lexeme} → text ≡ pre ++ (b ++ (p ++ q)) → at ≡ length pre
    → All Blanks b → Longest kind p (p ++ q) → TokensOf text (at + length b + length p) ts
    → TokensOf text at (lexeme_at (at + length b) (reads_as kind p) p ∷ ts)
form_next text pre {at} {kind} {b} {p} q {ts} e h a l k =
    let start = at + length b in
    let t = token (reads_as kind p) start (start + length p) in
    let here : text ≡ (pre ++ b) ++ (p ++ q) = e ∙ sym (append_assoc pre b (p ++ q)) in
    let own = own_bytes text (pre ++ b) p q start here (omega (arith, length-append pre b)) in
    let stands : StandsAt text at t = record {
      blanks = b;
      rest = p ++ q;
      parts = rw (e, h) (drop-append_seam pre (b ++ (p ++ q)));
      passed = a;
      no_blank = form_first l.form q;
      stands = read_stands l;
    } in
    let all : TokensOf text at (lexeme text t ∷ ts) = goes_on stands (read_some l.form) k in
    rw own at all

-- a token within its size
pub token_next : (text pre : List ℕ) {at kind : ℕ} {b p : List ℕ} (q : List ℕ) {ts : List Lexeme} → text ≡ pre ++ (b ++ (p ++ q)) → at ≡ length pre
    → All Blanks b → Longest kind p (p ++ q) → size_of kind p ≤ most_of kind → TokensOf text (at + length b + length p) ts
    → TokensOf text at (lexeme_at (at + length b) kind p ∷ ts)
token_next text pre {kind = kind} {p = p} q e h a l f k = rw (read_fitting kind p f) at (form_next text pre q e h a l k)

-- what is before the rest of a text, behind a token
pub behind_token : (text pre b p q : List ℕ) → text ≡ pre ++ (b ++ (p ++ q)) → text ≡ ((pre ++ b) ++ p) ++ q
behind_token text pre b p q e = e ∙ simp append_assoc

pub laid_stand : (text pre : List ℕ) {at : ℕ} {rest : List ℕ} {ts : List Lexeme} → text ≡ pre ++ rest → at ≡ length pre → Laid at rest ts → TokensOf text at ts
unfolding class_of
laid_stand text pre {at} e h (blank {b = b} a) =
    let stands : StandsAt text at (token 0 (at + length b) (at + length b)) = record {
      blanks = b;
      rest = [];
      parts = rw (e, h, drop-append_seam pre b) (sym (append-nil b));
      passed = a;
      no_blank = refl;
      stands = end_of_text;
    } in
    ended stands refl
laid_stand text pre {at} e h (before {b = b} {p = p} {q = q} a l f k) =
    token_next text pre q e h a l f
    (laid_stand text ((pre ++ b) ++ p) (behind_token text pre b p q e) (omega (arith, length-append (pre ++ b) p, length-append pre b)) k)

-- a laid text has the tokens that it is laid with
pub laid_tokens : {text : List ℕ} {ts : List Lexeme} → Laid 0 text ts → tokens_of text ≡ ts
laid_tokens {text} k = tokens_are text (laid_stand text [] refl refl k)

-- ---- a text whose tokens are all well formed is such a text

-- at the text's end nothing is left
none_left : {start : ℕ} {rest : List ℕ} {t : Token} → Stands start rest t → t.kind ≡ 0 → rest ≡ []
none_left end_of_text e = refl
none_left (a_token l f) e = absurd (let k = form_kind l.form in omega arith)
none_left (a_token_too_long l f) e = absurd (omega arith)
none_left (a_colon n) e = absurd (omega arith)
none_left (bad_byte n c q) e = absurd (omega arith)
none_left (unended n a) e = absurd (omega arith)
none_left (bad_inside l n a o) e = absurd (omega arith)

module _ (text : List ℕ) {at : ℕ} (h : at ≤ length text) {b : List ℕ} (a : All Blanks b) where
  -- the text by a token behind the blanks b
  next_laid : {rest : List ℕ} {t : Token} {ts : List Lexeme} → drop at text ≡ b ++ rest → Stands (at + length b) rest t → 7 ≤ t.kind
      → Laid t.end (drop t.end text) ts
      → Laid at (drop at text) (lexeme text t ∷ ts)
  next_laid e end_of_text g k = absurd (omega arith)
  next_laid {rest} {ts = ts} e (a_token {kind} {p} l f) g k =
      let q = l.begins.rest in
      let pre = take at text ++ b in
      let start = at + length b in
      let parts : rest ≡ p ++ q = l.begins.is in
      let here : text ≡ pre ++ (p ++ q) =
      sym (take-append-drop at text) ∙ (ap (λ (m : List ℕ). take at text ++ m) (e ∙ ap (λ (m : List ℕ). b ++ m) parts)
      ∙ sym (append_assoc (take at text) b (p ++ q))) in
      let behind : text ≡ (pre ++ p) ++ q = here ∙ sym (append_assoc pre p q) in
      let place : start ≡ length pre = omega (arith, length-append (take at text) b, length-take-le at text h) in
      let end : start + length p ≡ length (pre ++ p) = omega (arith, length-append pre p) in
      let own = own_bytes text pre p q start here place in
      let left : drop (start + length p) text ≡ q =
      ap (λ (n : ℕ). drop n text) end ∙ (ap (drop (length (pre ++ p))) behind ∙ drop-append_seam (pre ++ p) q) in
      let whole : Laid at (b ++ (p ++ q)) (lexeme_at start kind p ∷ ts) =
      before a (subst (Longest kind p) parts l) f (subst (λ (m : List ℕ). Laid (start + length p) m ts) left k) in
      rw (e, parts, own) whole
  next_laid e (a_token_too_long l f) g k = absurd (omega arith)
  next_laid e (a_colon n) g k = absurd (omega arith)
  next_laid e (bad_byte n c q) g k = absurd (omega arith)
  next_laid e (unended n a') g k = absurd (omega arith)
  next_laid e (bad_inside l n a' o) g k = absurd (omega arith)

fine_laid : (text : List ℕ) {at : ℕ} {ts : List Lexeme} → at ≤ length text → TokensOf text at ts → Fine ts → Laid at (drop at text) ts
fine_laid text {at} h (ended s e) none =
    rw (s.parts, none_left s.stands e, append-nil s.blanks) (blank s.passed)
fine_laid text {at} h (goes_on {t = t} s n k) (fine g j) =
    let r = reads text at h in
    let high : t.end ≤ length text = rw (one_token text at t (token_at text at) s (longest_token text at h)) r.high in
    next_laid text h s.passed s.parts s.stands g (fine_laid text high k j)

pub tokens_laid : (text : List ℕ) → Fine (tokens_of text) → Laid 0 text (tokens_of text)
tokens_laid text f = fine_laid text (omega arith) (tokens_stand text) f
