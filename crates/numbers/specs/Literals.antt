-- Number literals: an optional minus, digits, and optionally a point and digits; and the number that one stands for. Definitions only.
-- "A number literal of digits N with k after the point: its value is N divided by ten to the k, rounded once to binary64, negated under a minus."
use Rattle.std.specs.Prelude.{◌≡◌, Bool, true, false, ◌&&◌, cond, List, [], ◌∷◌, ◌++◌, ℕ, ◌+◌, ◌-◌, ◌*◌, ◌^◌, ◌≤◌, ◌<◌, leb, eqb, length, get_or, Float}
use Prim.Native.Char.{code}
use Rattle.std.specs.Float.{binary64}
use Rattle.std.specs.Float.Ieee.{round, neg}
use Rattle.tokens.specs.Sizes.{most_digits}

-- the bytes `0` to `9`
pub data Digits : List ℕ → Type 0 where
  none : Digits []
  more : {d : ℕ} {ds : List ℕ} → code "0" ≤ d → d ≤ code "9" → Digits ds → Digits (d ∷ ds)

-- the whole number whose decimal digits are those of n and then ds
abbrev pub decimal_after : ℕ → List ℕ → ℕ
decimal_after n [] = n
decimal_after n (d ∷ ds) = decimal_after (n * 10 + (d - code "0")) ds

-- N divided by ten to the k, rounded once to binary64
abbrev pub quotient : ℕ → ℕ → Float
quotient n k = round binary64 false n (10 ^ k)

-- negated under a minus
abbrev pub signed : Bool → Float → Float
signed true x = neg x
signed false x = x

-- ---- a literal by its parts

-- whether a minus stands first, the digits before the point, and those after it: none where there is no point
pub record NumberLiteral : Type 0 where
  pub negative : Bool
  pub whole : List ℕ
  pub fraction : List ℕ

-- at least one digit before the point, and at most 15 in all
pub record WellFormed (l : NumberLiteral) : Type 0 where
  pub whole_digits : Digits l.whole
  pub fraction_digits : Digits l.fraction
  pub some : 0 < length l.whole
  pub few : length l.whole + length l.fraction ≤ most_digits

-- the minus, where there is one
abbrev pub minus : Bool → List ℕ
minus true = code "-" ∷ []
minus false = []

-- the point and the digits after it, where there are any
abbrev pub pointed : List ℕ → List ℕ
pointed [] = []
pointed (d ∷ ds) = code "." ∷ d ∷ ds

-- the bytes of a literal
abbrev pub literal_bytes : NumberLiteral → List ℕ
literal_bytes l = minus l.negative ++ (l.whole ++ pointed l.fraction)

-- N, which all the digits spell
abbrev pub all_digits : NumberLiteral → ℕ
all_digits l = decimal_after 0 (l.whole ++ l.fraction)

-- k, how many of them stand after the point
abbrev pub places : NumberLiteral → ℕ
places l = length l.fraction

-- the number that a literal stands for
abbrev pub value_of : NumberLiteral → Float
value_of l = signed l.negative (quotient (all_digits l) (places l))

-- the text is a literal's
pub record IsNumber (text : List ℕ) : Type 0 where
  pub literal : NumberLiteral
  pub well_formed : WellFormed literal
  pub spelled : text ≡ literal_bytes literal

-- ---- the same number, from the bytes of the text

-- its digits, without a minus and a point
unfoldable pub digits_of : List ℕ → List ℕ
digits_of [] = []
digits_of (c ∷ cs) = cond (leb (code "0") c && leb c (code "9")) (c ∷ []) [] ++ digits_of cs

-- what stands after the point
unfoldable pub after_point : List ℕ → List ℕ
after_point [] = []
after_point (c ∷ cs) = cond (eqb c (code ".")) cs (after_point cs)

-- the number without its sign
unfoldable pub magnitude_in : List ℕ → Float
magnitude_in text = quotient (decimal_after 0 (digits_of text)) (length (after_point text))

-- the number that the text stands for
unfoldable pub number_in : List ℕ → Float
number_in text = signed (eqb (get_or text 0 0) (code "-")) (magnitude_in text)
