-- A text that is laid out token by token has these tokens, also one of them with single blanks between, and every text of well formed tokens can be spelled so.
-- Assumes nothing.
use mathlib.Core.Path.{◌≡◌, refl, ap, ◌∙◌, subst}
use mathlib.Core.List.{List, [], ◌∷◌, ◌++◌, append-nil, map}
use Prim.Native.Nat.{ℕ, ◌+◌}
use native.Mathlib.Omega.{arith}
use lib.ListN.{length, length-append}
use Rattle.tokens.specs.Bytes.{class_of}
use Rattle.tokens.specs.Forms.{All, empty, next}
use Rattle.tokens.specs.declared.classes.Sort.TheVariants.{Blanks}
use Rattle.reading.specs.Lexemes.{Lexeme, tokens_of, TokensOf}
use Rattle.reading.proofs.Listed.{tokens_are, one_list}
use Rattle.grammar.specs.Policies.{Policy}
use Rattle.grammar.specs.Grammar.{RuleText, sizes, SaysPolicies}
use Rattle.placing.specs.Placed.{Each, none_left, and_each}
use Rattle.spelling.specs.Spelling.{Spelling, lexeme_says, spelling_says, calm}
use Rattle.spelling.specs.Layout.{WrittenToken, laid_out, standing, WellWritten, none, one, Sized, singly, spelled}
use Rattle.spelling.proofs.Apart.{form_longest, calm_apart}
use Rattle.spelling.proofs.Laid.{Laid, Laid.blank, Laid.before, Fine, fine, read_fitting, read_sized, form_next, behind_token, laid_stand, tokens_laid}
use Rattle.spelling.proofs.Pieced.{text_fine}

-- ---- a text that is laid out has the tokens that it is laid out with

-- from a place on
well_stand : (text pre : List ℕ) {at : ℕ} {xs : List WrittenToken} → text ≡ pre ++ laid_out xs → at ≡ length pre → WellWritten xs [] → TokensOf text at (standing at xs)
unfolding laid_out standing
well_stand text pre e h none = laid_stand text pre e h (Laid.blank empty)
well_stand text pre e h (one {x = x} {xs = xs} a f n w) =
    let b = x.blanks in
    let p = x.bytes in
    let q = laid_out xs in
    form_next text pre q e h a (form_longest f q (rw (append-nil q) at n))
    (well_stand text ((pre ++ b) ++ p) (behind_token text pre b p q e) (omega (arith, length-append (pre ++ b) p, length-append pre b)) w)

-- a text that is laid out of tokens has these tokens and no other, on paper
pub laid_out_stand : {xs : List WrittenToken} → WellWritten xs [] → TokensOf (laid_out xs) 0 (standing 0 xs)
laid_out_stand {xs} w = well_stand (laid_out xs) [] refl refl w

-- so they are what is read of it
pub tokens_laid_out : {xs : List WrittenToken} → WellWritten xs [] → tokens_of (laid_out xs) ≡ standing 0 xs
tokens_laid_out {xs} w = tokens_are (laid_out xs) (laid_out_stand w)

-- where none of them is refused, each is within its size
fine_sized : (at : ℕ) (xs : List WrittenToken) → Fine (standing at xs) → Each Sized xs
unfolding standing
fine_sized at [] f = none_left
fine_sized at (x ∷ xs) (fine h f) =
    and_each (record { within = read_sized x.kind x.bytes h }) (fine_sized (at + length x.blanks + length x.bytes) xs f)

-- as where they are a rule text
pub text_sized : {xs : List WrittenToken} {ps : List Policy} → WellWritten xs [] → SaysPolicies (laid_out xs) ps → Each Sized xs
text_sized {xs} {ps} w s =
    let same : s.tokens ≡ standing 0 xs = one_list (laid_out xs) s.listed (laid_out_stand w) in
    fine_sized 0 xs (text_fine (subst (λ (l : List Lexeme). RuleText sizes l ps) same s.belongs))

-- ---- with single blanks

singly_well : {b : List ℕ} → All Blanks b → (xs : List Spelling) → WellWritten (singly b xs) []
unfolding singly laid_out calm class_of
singly_well a [] = none
singly_well a (x ∷ []) = one a x.form (calm_apart x.bytes 0 refl) none
singly_well a (x ∷ y ∷ xs) = one a x.form (calm_apart x.bytes 32 refl) (singly_well (next refl empty) (y ∷ xs))

-- the tokens of a spelled text are those that it is spelled with, each one byte behind the one before
pub tokens_spelled : (xs : List Spelling) → tokens_of (spelled xs) ≡ standing 0 (singly [] xs)
tokens_spelled xs = tokens_laid_out (singly_well empty xs)

said_standing : (at : ℕ) (b : List ℕ) (xs : List Spelling) → map lexeme_says (standing at (singly b xs)) ≡ map spelling_says xs
unfolding standing singly
said_standing at b [] = refl
said_standing at b (x ∷ xs) =
    rw (read_fitting x.kind x.bytes x.fits)
    (ap (λ (l : List (ℕ × List ℕ)). spelling_says x ∷ l) (said_standing (at + length b + length x.bytes) (32 ∷ []) xs))

-- apart from their places: with these kinds and bytes
pub said_spelled : (xs : List Spelling) → map lexeme_says (tokens_of (spelled xs)) ≡ map spelling_says xs
said_spelled xs = ap (map lexeme_says) (tokens_spelled xs) ∙ said_standing 0 [] xs

-- ---- the spellings of a text

spell : {at : ℕ} {text : List ℕ} {ts : List Lexeme} → Laid at text ts → (xs : List Spelling) × (map lexeme_says ts ≡ map spelling_says xs)
spell (Laid.blank a) = ([], refl)
spell (Laid.before {kind = kind} {p = p} a l f k) =
    let r = spell k in
    (record { kind = kind; bytes = p; form = l.form; fits = f } ∷ r.0, ap (λ (l : List (ℕ × List ℕ)). (kind, p) ∷ l) r.1)

-- a text without refused tokens has spellings, and with single blanks between them it says the same tokens
pub spellings : (text : List ℕ) → Fine (tokens_of text) → (xs : List Spelling) × (map lexeme_says (tokens_of text) ≡ map spelling_says xs)
spellings text f = spell (tokens_laid text f)
