-- The bytes of a number token are a number literal: they have the form that document 01 gives numbers, and that is a literal's. Assumes nothing.
use mathlib.Core.Path.{◌≡◌, refl}
use mathlib.Core.Bool.{Bool, true, false, not}
use mathlib.Core.List.{List, [], ◌∷◌, ◌++◌, append-nil}
use Prim.Native.Nat.{ℕ, ◌-◌, ◌≤◌, ◌<◌}
use native.Mathlib.Omega.{arith}
use borrow.Author.Tests.{eqb-false, not-true}
use lib.Dec.{eqb}
use lib.ListN.{length, take, drop}
use Rattle.tokens.specs.Bytes.{class_of}
use Rattle.tokens.specs.Kinds.{number}
use Rattle.tokens.specs.Tokens.{token_at}
use Rattle.tokens.specs.Forms.{All, empty, next, SomeDigits, digits_from, Unsigned, whole, pointed as with_point, Number, signless, minus as with_minus, marks, Form, a_word, a_string, a_number, a_mark, digits}
use Rattle.tokens.specs.declared.classes.Sort.TheVariants.{Digits as digitBytes}
use Rattle.tokens.proofs.TokenLaws.{every, digit_byte}
use Rattle.tokens.proofs.KindLaws.{word_high}
use Rattle.tokens.proofs.FormLaws.{some_all, mark_passes}
use Rattle.tokens.proofs.Longest.{digits_append, digits_all}
use Rattle.tokens.proofs.Told.{token_told}
use Rattle.numbers.specs.Literals.{Digits, none, more, minus, pointed, IsNumber}
use Rattle.numbers.proofs.Spelled.{spells}

all_digits : {l : List ℕ} → All digitBytes l → Digits l
all_digits empty = none
all_digits (next {b} e a) = more (digit_byte b e).0 (digit_byte b e).1 (all_digits a)

some_length : {l : List ℕ} → SomeDigits l → 0 < length l
some_length (digits_from e a) = omega arith

pointed_some : {l : List ℕ} → SomeDigits l → pointed l ≡ 46 ∷ l
pointed_some (digits_from e a) = refl

-- neither a point nor a minus is a digit
point_none : (l : List ℕ) → digits (46 ∷ l) ≡ digits l
unfolding digits class_of
point_none l = refl

minus_none : (l : List ℕ) → digits (45 ∷ l) ≡ digits l
unfolding digits class_of
minus_none l = refl

unsigned_number : (negative : Bool) {l : List ℕ} → Unsigned l → digits l ≤ 15 → IsNumber (minus negative ++ l)
unsigned_number negative (whole {w} s) few =
    rw append-nil at (spells negative w [] (all_digits (some_all s)) none (some_length s) (omega (arith, digits_all (some_all s))))
unsigned_number negative (with_point {w} {f} s t) few =
    rw (pointed_some t) at
    (spells negative w f (all_digits (some_all s)) (all_digits (some_all t)) (some_length s)
    (omega (arith, digits_append w (46 ∷ f), point_none f, digits_all (some_all s), digits_all (some_all t))))

form_number : {l : List ℕ} → Number l → digits l ≤ 15 → IsNumber l
form_number (signless u) few = unsigned_number false u few
form_number (with_minus {l} u) few = unsigned_number true u (omega (arith, minus_none l))

-- only a number's form has the kind of numbers
by_kind : {kind : ℕ} {l : List ℕ} → Form kind l → kind ≡ number → Number l
unfolding every marks
by_kind (a_word {b} {rest} e a) k = absurd (omega (arith, word_high (b ∷ rest)))
by_kind (a_string a) k = absurd (omega arith)
by_kind (a_number n) k = n
by_kind (a_mark {kind} m) k = absurd (eqb-false kind number (not-true _ (mark_passes (λ kind l. not (eqb kind number)) m refl)) k)

-- the bytes of every number token are a number literal
pub token_is_number : (text : List ℕ) (at : ℕ) → at ≤ length text → (token_at text at).kind ≡ number
    → IsNumber (take ((token_at text at).end - (token_at text at).start) (drop (token_at text at).start text))
token_is_number text at h k = let t = token_told text at h (omega arith) in form_number (by_kind t.form k) (rw k at t.few)
