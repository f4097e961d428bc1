-- The values and numbers of tests as tokens: a value may stand in a string, and a number has few bytes more than digits. Assumes nothing.
use mathlib.Core.Path.{◌≡◌, refl}
use mathlib.Core.Bool.{Bool, true, false, cond, ◌||◌}
use mathlib.Core.List.{List, [], ◌∷◌, ◌++◌}
use mathlib.Core.Logic.{⊎_elim}
use Prim.Native.Nat.{ℕ, suc, ◌+◌, ◌≤◌}
use native.Mathlib.Omega.{arith}
use lib.Dec.{eqb, leb, ltb}
use lib.ListN.{length, length-append}
use borrow.Author.Tests.{eqb-true, ne_eqb, leb-true, le-leb}
use Rattle.slices.specs.Ascii.{bytes}
use Rattle.utf8.specs.Characters.{OnlyAscii, no_byte, and_byte}
use Rattle.utf8.specs.Reading.{utf8}
use Rattle.utf8.proofs.Counting.{ascii_utf8}
use Rattle.tokens.specs.Bytes.{class_of, within, one_of, letter, digit, mark, blank, text_only}
use Rattle.tokens.specs.Runs.{is_of}
use Rattle.tokens.specs.Forms.{All, empty, next, SomeDigits, digits_from, Unsigned, whole, pointed, Number, signless, minus, digits}
use Rattle.tokens.specs.declared.classes.Sort.TheVariants.{Digits, Letters, WordBytes, StringBytes}
use Rattle.tokens.proofs.TokenLaws.{never, and_left, and_right, or_cases, digit_byte, mark_bytes}

-- ---- bytes of words are bytes of strings

-- of the tests of `class_of` in turn a letter passed the first
letter_tells : (l d w m n : Bool) → eqb (cond l letter (cond d digit (cond w blank (cond m mark (cond n 0 text_only))))) letter ≡ true → l ≡ true
letter_tells true d w m n e = refl
letter_tells false true w m n e = absurd (never e)
letter_tells false false true m n e = absurd (never e)
letter_tells false false false true n e = absurd (never e)
letter_tells false false false false true e = absurd (never e)
letter_tells false false false false false e = absurd (never e)

letter_byte : (b : ℕ) → is_of Letters b ≡ true → (65 ≤ b) × (b ≤ 122)
unfolding class_of
letter_byte b e =
    let l = letter_tells (within 65 90 b || within 97 122 b) (within 48 57 b) (one_of (bytes " \t\n\r") b) (one_of mark_bytes b) (ltb b 0x20 || eqb b 0x7f) e in
    ⊎_elim
    (λ (h : within 65 90 b ≡ true). (leb-true 65 b (and_left (leb 65 b) (leb b 90) h), between_le (leb-true b 90 (and_right (leb 65 b) (leb b 90) h))))
    (λ (h : within 97 122 b ≡ true). (le_between (leb-true 97 b (and_left (leb 97 b) (leb b 122) h)), leb-true b 122 (and_right (leb 97 b) (leb b 122) h)))
    (or_cases (within 65 90 b) (within 97 122 b) l)
  where
    between_le : b ≤ 90 → b ≤ 122
    between_le h = omega arith

    le_between : 97 ≤ b → 65 ≤ b
    le_between h = omega arith

word_range : (b : ℕ) → is_of WordBytes b ≡ true → (45 ≤ b) × (b ≤ 122)
word_range b e = go (is_of Letters b) (is_of Digits b) (eqb b 95) refl refl refl e
  where
    go : (l d u : Bool) → is_of Letters b ≡ l → is_of Digits b ≡ d → eqb b 95 ≡ u → (l || d || u || eqb b 45) ≡ true → (45 ≤ b) × (b ≤ 122)
    go true d u p q r h = let t = letter_byte b p in (omega arith, omega arith)
    go false true u p q r h = let t = digit_byte b q in (omega arith, omega arith)
    go false false true p q r h = let t = eqb-true b 95 r in (omega arith, omega arith)
    go false false false p q r h = let t = eqb-true b 45 h in (omega arith, omega arith)

word_string : (b : ℕ) → is_of WordBytes b ≡ true → is_of StringBytes b ≡ true
word_string b e =
    let r = word_range b e in
    rw (le-leb 32 b (omega arith), ne_eqb b 127 (λ z. omega arith), ne_eqb b 34 (λ z. omega arith))

-- bytes of words are ASCII
pub words_text : {v : List ℕ} → All WordBytes v → utf8 v ≡ true
words_text a = ascii_utf8 (plain a)
  where
    plain : {v : List ℕ} → All WordBytes v → OnlyAscii v
    plain empty = no_byte
    plain (next {b} e a) = let r = word_range b e in and_byte {x = b} (omega arith) (plain a)

pub words_string : {v : List ℕ} → All WordBytes v → All StringBytes v
words_string empty = empty
words_string (next {b} e a) = next (word_string b e) (words_string a)

-- ---- a number has at most two bytes that are no digits

all_digits : {l : List ℕ} → All Digits l → digits l ≡ length l
unfolding digits
all_digits empty = refl
all_digits (next e a) = rw (e, all_digits a)

some_digits : {l : List ℕ} → SomeDigits l → digits l ≡ length l
some_digits (digits_from e a) = all_digits (next e a)

digits_append : (a b : List ℕ) → digits (a ++ b) ≡ digits a + digits b
unfolding digits
digits_append [] b = omega arith
digits_append (c ∷ a) b = go (is_of Digits c) (digits_append a b)
  where
    go : (t : Bool) → digits (a ++ b) ≡ digits a + digits b → cond t (suc (digits (a ++ b))) (digits (a ++ b)) ≡ cond t (suc (digits a)) (digits a) + digits b
    go true e = omega arith
    go false e = e

unsigned_long : {l : List ℕ} → Unsigned l → length l ≤ digits l + 1
unfolding digits class_of
unsigned_long (whole s) = let d = some_digits s in omega arith
unsigned_long (pointed {w} {f} s t) = omega (arith, some_digits s, some_digits t, digits_append w (46 ∷ f), length-append w (46 ∷ f))

pub number_long : {l : List ℕ} → Number l → length l ≤ digits l + 2
unfolding digits class_of
number_long (signless u) = let h = unsigned_long u in omega arith
number_long (minus u) = let h = unsigned_long u in omega arith
