-- The quotient of a literal: one division of two whole numbers gives N / 10 ^ k rounded once, and it is finite. Assumes nothing.
use mathlib.Core.Path.{◌≡◌, refl, sym, ◌∙◌}
use mathlib.Core.Bool.{Bool, true, false, true≢false}
use Prim.Native.Nat.{ℕ, ◌*◌, ◌^◌, ◌<◌, ◌≤◌}
use native.Mathlib.Nat.{mul-one, mul_assoc, mul_comm, mul_left_comm, mul-pos, pow-le-pow_right, one-le-pow}
use native.Mathlib.Omega.{arith}
use lib.Dec.{T, lit<, le→leb}
use lib.IntN.{pos}
use lib.Ieee.{Float, nan, inf, fin, binary64, in_float, of_int, div, neg, up, down, eq, le, round, of_bits}
use lib.Ieee.Fits.{up_pos, down_pos}
use lib.Ieee.Positive.{first_pos}
use lib.Ieee.Exact.{HasValue}
use lib.Ieee.Back.{round_whole}
use lib.Ieee.Order.{round_mono}
use lib.Ieee.Scale.{round_same, finite}
use borrow.Author.Tests.{ne_eqb}
use Rattle.slices.specs.Ascii.{bytes}
use Rattle.numbers.specs.Literals.{quotient, signed, digits_of, after_point, magnitude_in, number_in}

pub power_small : (k : ℕ) → k ≤ 15 → 10 ^ k ≤ 10 ^ 15
power_small k h = pow-le-pow_right (lit< tt) h

power_above : (k : ℕ) → 0 < 10 ^ k
power_above k = one-le-pow k 10 (lit< tt)

-- a whole number up to 10 ^ 15 is cast without loss
pub whole_cast : (n : ℕ) → n ≤ 10 ^ 15 → T (in_float binary64 (pos n))
unfolding in_float
whole_cast n h = le→leb n (2 ^ 53) (omega arith)

-- `0.1` is the number with bits 0x3FB999999999999A
pub tenth : number_in (bytes "0.1") ≡ of_bits binary64 0x3FB999999999999A
unfolding number_in magnitude_in digits_of after_point round of_bits
tenth = refl

-- -0 equals 0
pub zeros_equal : eq (number_in (bytes "-0")) (number_in (bytes "0")) ≡ true
unfolding number_in magnitude_in digits_of after_point round eq neg
zeros_equal = refl

-- ---- the quotient of two whole numbers is their fraction, rounded once

div_at : (x y : Float) (a b : ℕ) → HasValue x false a 1 → HasValue y false b 1 → 0 < b → div binary64 x y ≡ round binary64 false a b
unfolding div
div_at nan y a b hx hy B = absurd hx
div_at (inf s) y a b hx hy B = absurd hx
div_at (fin true m e) y a b hx hy B = absurd (true≢false hx.0)
div_at (fin false m e) nan a b hx hy B = absurd hy
div_at (fin false m e) (inf t) a b hx hy B = absurd hy
div_at (fin false m e) (fin true n d) a b hx hy B = absurd (true≢false hy.0)
div_at (fin false m e) (fin false n d) a b hx hy B =
    let x : m * up e ≡ a * down e = sym (mul-one (m * up e)) ∙ hx.1 in
    let y : n * up d ≡ b * down d = sym (mul-one (n * up d)) ∙ hy.1 in
    let some : 0 < n = first_pos n (up d) (rw y (mul-pos B (down_pos d))) in
    let cross : m * up e * down d * b ≡ a * (n * up d * down e) = rw (x, y) (simp (mul_assoc, mul_comm, mul_left_comm)) in
    rw (ne_eqb n 0 (λ z. omega arith))
    (round_same binary64 false (m * up e * down d) (n * up d * down e) a b (mul-pos (mul-pos some (up_pos d)) (down_pos e)) B cross)

-- the division of the whole numbers, each exact as a binary64, is the fraction rounded once
pub rounded_once : (n k : ℕ) → n ≤ 10 ^ 15 → k ≤ 15 → div binary64 (of_int binary64 (pos n)) (of_int binary64 (pos (10 ^ k))) ≡ quotient n k
unfolding of_int
rounded_once n k hn hk =
    div_at (round binary64 false n 1) (round binary64 false (10 ^ k) 1) n (10 ^ k)
    (round_whole binary64 false n (omega arith))
    (round_whole binary64 false (10 ^ k) (omega (arith, power_small k hk)))
    (power_above k)

-- ---- it is finite

within : (lo x hi : Float) → T (finite lo) → T (finite hi) → T (le lo x) → T (le x hi) → T (finite x)
unfolding le
within lo nan hi f g a b = b
within nan (inf s) hi f g a b = absurd f
within (inf r) (inf s) hi f g a b = absurd f
within (fin r k c) (inf true) hi f g a b = a
within (fin r k c) (inf false) nan f g a b = absurd g
within (fin r k c) (inf false) (inf t) f g a b = absurd g
within (fin r k c) (inf false) (fin t n d) f g a b = b
within lo (fin s m e) hi f g a b = tt

pub quotient_finite : (n k : ℕ) → n ≤ 10 ^ 15 → T (finite (quotient n k))
unfolding round
quotient_finite n k hn =
    within (round binary64 false 0 1) (quotient n k) (round binary64 false (10 ^ 15) 1) tt tt
    (round_mono binary64 0 1 n (10 ^ k) (lit< tt) (power_above k) (omega arith))
    (round_mono binary64 n (10 ^ k) (10 ^ 15) 1 (power_above k) (lit< tt) (omega (arith, power_above k)))

pub signed_finite : (b : Bool) (x : Float) → T (finite x) → T (finite (signed b x))
unfolding neg
signed_finite false x h = h
signed_finite true nan h = h
signed_finite true (inf s) h = h
signed_finite true (fin s m e) h = tt
