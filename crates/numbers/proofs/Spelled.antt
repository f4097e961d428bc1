-- The bytes of a literal: the number that they give is the one that the literal stands for, and it is finite. Assumes nothing.
use mathlib.Core.Path.{◌≡◌, refl, sym, ap, ◌∙◌}
use mathlib.Core.Bool.{Bool, true, false}
use mathlib.Core.List.{List, [], ◌∷◌, ◌++◌, append-nil}
use Prim.Native.Nat.{ℕ, suc, ◌+◌, ◌-◌, ◌*◌, ◌^◌, ◌≤◌, ◌<◌}
use native.Mathlib.Nat.{pow-succ', mul_assoc, one-mul, mul-le-mul_right, le_trans, le_of_eq}
use native.Mathlib.Omega.{arith}
use borrow.Author.Tests.{le-leb, ne_eqb}
use lib.Dec.{T, eqb}
use lib.ListN.{length, get_or, length-append}
use lib.Ieee.{Float}
use lib.Ieee.Scale.{finite}
use Rattle.numbers.specs.Literals.{Digits, none, more, decimal_after, quotient, NumberLiteral, WellFormed, minus, pointed, literal_bytes, all_digits, places, value_of, IsNumber, digits_of, after_point, magnitude_in, number_in}
use Rattle.numbers.proofs.Rounded.{power_small, quotient_finite, signed_finite}

-- digits, with or without a minus before them and a point and digits after them, at most 15 in all, are a number
pub spells :
    (negative : Bool) (whole fraction : List ℕ) → Digits whole → Digits fraction → 0 < length whole → length whole + length fraction ≤ 15
    → IsNumber (minus negative ++ (whole ++ pointed fraction))
spells negative whole fraction w f some few = record {
  literal = record { negative = negative; whole = whole; fraction = fraction };
  well_formed = record { whole_digits = w; fraction_digits = f; some = some; few = few };
  spelled = refl;
}

-- ---- the digits, those after the point, and the minus

digits_of_join : {w : List ℕ} (x : List ℕ) → Digits w → digits_of (w ++ x) ≡ w ++ digits_of x
unfolding digits_of
digits_of_join x none = refl
digits_of_join x (more {d} l h r) = simp (le-leb 48 d l, le-leb d 57 h, digits_of_join x r)

digits_of_pointed : (f : List ℕ) → Digits f → digits_of (pointed f) ≡ f
unfolding digits_of
digits_of_pointed [] h = refl
digits_of_pointed (d ∷ f) h = ap digits_of (sym (append-nil (d ∷ f))) ∙ digits_of_join [] h ∙ append-nil (d ∷ f)

digits_of_minus : (b : Bool) (x : List ℕ) → digits_of (minus b ++ x) ≡ digits_of x
unfolding digits_of
digits_of_minus true x = refl
digits_of_minus false x = refl

after_join : {w : List ℕ} (x : List ℕ) → Digits w → after_point (w ++ x) ≡ after_point x
unfolding after_point
after_join x none = refl
after_join x (more {d} l h r) = let n : d ≡ 46 → ⊥ = λ e. omega arith in simp (ne_eqb d 46 n, after_join x r)

after_pointed : (f : List ℕ) → after_point (pointed f) ≡ f
unfolding after_point
after_pointed [] = refl
after_pointed (d ∷ f) = refl

after_minus : (b : Bool) (x : List ℕ) → after_point (minus b ++ x) ≡ after_point x
unfolding after_point
after_minus true x = refl
after_minus false x = refl

minus_first : {w : List ℕ} (b : Bool) (x : List ℕ) → Digits w → 0 < length w → eqb (get_or (minus b ++ (w ++ x)) 0 0) 45 ≡ b
minus_first true x h some = refl
minus_first false x none some = absurd (omega arith)
minus_first false x (more {d} l h r) some = ne_eqb d 45 (λ e. omega arith)

-- ---- 15 digits are below ten to the 15

digits_join : {a b : List ℕ} → Digits a → Digits b → Digits (a ++ b)
digits_join none q = q
digits_join (more l h r) q = more l h (digits_join r q)

decimal_below : (n : ℕ) {ds : List ℕ} → Digits ds → suc (decimal_after n ds) ≤ suc n * 10 ^ length ds
decimal_below n none = omega arith
decimal_below n (more {d} {ds} l h r) =
    let m = n * 10 + (d - 48) in
    let step : suc m ≤ suc n * 10 = omega arith in
    le_trans (decimal_below m r) (le_trans (mul-le-mul_right (10 ^ length ds) step) (le_of_eq (rw (pow-succ', mul_assoc))))

-- ---- a literal, and a text that is one's

module _ (l : NumberLiteral) (h : WellFormed l) where
  pub digits_small : all_digits l ≤ 10 ^ 15
  digits_small =
      omega (
        arith,
        rw (one-mul, length-append) at (decimal_below 0 (digits_join h.whole_digits h.fraction_digits)),
        power_small (length l.whole + length l.fraction) h.few,
      )

  magnitude_written : magnitude_in (literal_bytes l) ≡ quotient (all_digits l) (places l)
  unfolding magnitude_in
  magnitude_written =
      rw (
        digits_of_minus,
        digits_of_join (pointed l.fraction) h.whole_digits,
        digits_of_pointed l.fraction h.fraction_digits,
        after_minus,
        after_join (pointed l.fraction) h.whole_digits,
        after_pointed,
      )

  -- the bytes of a literal give its value
  pub written_value : number_in (literal_bytes l) ≡ value_of l
  unfolding number_in
  written_value = rw (minus_first l.negative (pointed l.fraction) h.whole_digits h.some, magnitude_written)

module _ {text : List ℕ} (is : IsNumber text) where
  pub has_first : 0 < length text
  has_first = rw is.spelled (simp length-append (omega (arith, is.well_formed.some)))

  pub magnitude_is : magnitude_in text ≡ quotient (all_digits is.literal) (places is.literal)
  magnitude_is = ap magnitude_in is.spelled ∙ magnitude_written is.literal is.well_formed

  pub number_finite : T (finite (number_in text))
  number_finite =
      let l = is.literal in
      rw (is.spelled, written_value l is.well_formed)
      (signed_finite l.negative _ (quotient_finite _ (places l) (digits_small l is.well_formed)))

  -- what `number` promises, from the equation alone
  pub promised : {r : Float} → r ≡ number_in text → (r ≡ number_in text) × T (finite r)
  promised e = (e, rw e number_finite)
