-- The loop over a literal's bytes, one byte at a time: it ends with the literal's digits N and ten to the k. Assumes nothing.
use mathlib.Core.Path.{◌≡◌, refl, ap, sym, ◌∙◌}
use mathlib.Core.Logic.{◌≢◌}
use mathlib.Core.Bool.{Bool, true, false, cond}
use mathlib.Core.List.{List, [], ◌∷◌, ◌++◌, append-nil}
use Prim.Native.Nat.{ℕ, zero, suc, ◌+◌, ◌-◌, ◌*◌, ◌^◌, ◌<◌, ◌≤◌}
use native.Mathlib.Nat.{pow-zero, pow-succ', mul_assoc, mul-one, one-mul, le-mul_of_pos_right, le_trans}
use native.Mathlib.Omega.{arith}
use borrow.Author.Tests.{le-leb, lt-leb, eq-eqb, ne_eqb}
use lib.Dec.{eqb, leb, lit<}
use lib.ListN.{length, get_or, drop, drop_of_length-le}
use lib.IntN.{pos}
use lib.Ieee.{binary64, of_int, div}
use Rattle.slices.proofs.Rest.{rest_at}
use Rattle.numbers.specs.Literals.{Digits, none, more, decimal_after, NumberLiteral, WellFormed, minus, pointed, literal_bytes, all_digits, places, IsNumber, magnitude_in}
use Rattle.numbers.proofs.Rounded.{power_small, rounded_once}
use Rattle.numbers.proofs.Spelled.{digits_small, magnitude_is}

-- the digits and the power of ten at the end, from those so far and from the scale, which is 10 once the point has passed
unfoldable pub read : ℕ → ℕ → ℕ → List ℕ → ℕ × ℕ
read n p s [] = (n, p)
read n p s (c ∷ cs) = cond (eqb c 46) (read n p 10 cs) (cond (leb 48 c) (read (n * 10 + (c - 48)) (p * s) s cs) (read n p s cs))

-- ---- neither number ever falls

record Above (n p : ℕ) (x : ℕ × ℕ) : Type 0 where
  digits : n ≤ x.0
  power : p ≤ x.1

one_of : {n p : ℕ} {x y z : ℕ × ℕ} (a b : Bool) → Above n p x → Above n p y → Above n p z → Above n p (cond a x (cond b y z))
one_of true b x y z = x
one_of false true x y z = y
one_of false false x y z = z

read_above : (n p s : ℕ) (l : List ℕ) → 0 < s → Above n p (read n p s l)
unfolding read
read_above n p s [] h = record { digits = omega arith; power = omega arith }
read_above n p s (c ∷ cs) h =
    one_of (eqb c 46) (leb 48 c) (read_above n p 10 cs (lit< tt)) (go (read_above (n * 10 + (c - 48)) (p * s) s cs h)) (read_above n p s cs h)
  where
    go : {x : ℕ × ℕ} → Above (n * 10 + (c - 48)) (p * s) x → Above n p x
    go a = record { digits = omega arith; power = le_trans (le-mul_of_pos_right p h) a.power }

-- ---- a literal's bytes

read_digits : (n p s : ℕ) {w : List ℕ} (x : List ℕ) → Digits w → read n p s (w ++ x) ≡ read (decimal_after n w) (p * s ^ length w) s x
unfolding read
read_digits n p s x none = rw (pow-zero, mul-one)
read_digits n p s x (more {d} l h r) =
    let e : d ≢ 46 = λ z. omega arith in
    simp (ne_eqb d 46 e, le-leb 48 d l) (read_digits (n * 10 + (d - 48)) (p * s) s x r ∙ rw (pow-succ', mul_assoc))

read_pointed : (n : ℕ) (f : List ℕ) → Digits f → read n 1 1 (pointed f) ≡ (decimal_after n f, 10 ^ length f)
unfolding read
read_pointed n [] h = refl
read_pointed n (d ∷ f) h = ap (read n 1 10) (sym (append-nil (d ∷ f))) ∙ read_digits n 1 10 [] h ∙ rw one-mul

read_minus : (b : Bool) (x : List ℕ) → read 0 1 1 (minus b ++ x) ≡ read 0 1 1 x
unfolding read
read_minus true x = refl
read_minus false x = refl

one_to : (k : ℕ) → 1 * 1 ^ k ≡ 1
one_to zero = refl
one_to (suc k) = rw (pow-succ', one-mul) (one_to k)

decimal_join : (n : ℕ) (a b : List ℕ) → decimal_after n (a ++ b) ≡ decimal_after (decimal_after n a) b
decimal_join n [] b = refl
decimal_join n (d ∷ a) b = decimal_join (n * 10 + (d - 48)) a b

read_written : (l : NumberLiteral) → WellFormed l → read 0 1 1 (literal_bytes l) ≡ (all_digits l, 10 ^ places l)
read_written l h =
    read_minus l.negative (l.whole ++ pointed l.fraction)
    ∙ read_digits 0 1 1 (pointed l.fraction) h.whole_digits
    ∙ rw (one_to, read_pointed (decimal_after 0 l.whole) l.fraction h.fraction_digits, decimal_join)

-- ---- the loop

-- i bytes are read: what the rest gives, after the digits, the power and the scale so far, is what the whole text gives
pub record SoFar (text : List ℕ) (n p s i : ℕ) : Type 0 where
  pub high : i ≤ length text
  pub scaled : 0 < s
  pub rest : read n p s (drop i text) ≡ read 0 1 1 text

pub at_start : (text : List ℕ) → SoFar text 0 1 1 0
at_start text = record { high = omega arith; scaled = lit< tt; rest = refl }

module _ {text : List ℕ} {n p s i : ℕ} (so : SoFar text n p s i) (h : i < length text) where
  pub after_point : get_or text i 0 ≡ 46 → SoFar text n p 10 (i + 1)
  unfolding read
  after_point e = record {
    high = omega arith;
    scaled = lit< tt;
    rest = simp (rest_at text i h, eq-eqb (get_or text i 0) 46 e) at so.rest;
  }

  pub after_digit : get_or text i 0 ≢ 46 → 48 ≤ get_or text i 0 → SoFar text (n * 10 + (get_or text i 0 - 48)) (p * s) s (i + 1)
  unfolding read
  after_digit e l = record {
    high = omega arith;
    scaled = so.scaled;
    rest = simp (rest_at text i h, ne_eqb (get_or text i 0) 46 e, le-leb 48 (get_or text i 0) l) at so.rest;
  }

  pub after_other : get_or text i 0 ≢ 46 → get_or text i 0 < 48 → SoFar text n p s (i + 1)
  unfolding read
  after_other e l = record {
    high = omega arith;
    scaled = so.scaled;
    rest = simp (rest_at text i h, ne_eqb (get_or text i 0) 46 e, lt-leb 48 (get_or text i 0) l) at so.rest;
  }

pub record Small (n p : ℕ) : Type 0 where
  pub digits : n ≤ 10 ^ 15
  pub power : p ≤ 10 ^ 15

module _ {text : List ℕ} (is : IsNumber text) where
  read_text : read 0 1 1 text ≡ (all_digits is.literal, 10 ^ places is.literal)
  read_text = ap (read 0 1 1) is.spelled ∙ read_written is.literal is.well_formed

  few : places is.literal ≤ 15
  few = omega (arith, is.well_formed.few)

  module _ {n p s i : ℕ} (so : SoFar text n p s i) where
    pub small : Small n p
    small =
        let l = is.literal in
        let a : Above n p (all_digits l, 10 ^ places l) = rw (so.rest, read_text) at (read_above n p s (drop i text) so.scaled) in
        record { digits = le_trans a.digits (digits_small l is.well_formed); power = le_trans a.power (power_small (places l) few) }

    pub at_end : length text ≤ i → div binary64 (of_int binary64 (pos n)) (of_int binary64 (pos p)) ≡ magnitude_in text
    unfolding read
    at_end e =
        let l = is.literal in
        let z : ◌≡◌ {A = ℕ × ℕ} (n, p) (all_digits l, 10 ^ places l) = (rw (drop_of_length-le text e) at so.rest) ∙ read_text in
        rw (ap (λ (x : ℕ × ℕ). x.0) z, ap (λ (x : ℕ × ℕ). x.1) z, magnitude_is is) (rounded_once (all_digits l) (places l) (digits_small l is.well_formed) few)
