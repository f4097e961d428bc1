-- Which bits are a finite number's: those whose exponent's field is not all ones. Assumes nothing.
use mathlib.Core.Path.{◌≡◌, refl, sym}
use mathlib.Core.Bool.{Bool, true, false, not, cond}
use Prim.Native.Nat.{ℕ, zero, suc, ◌+◌, ◌/◌, ◌%◌, ◌^◌}
use lib.Bits.{bit_and}
use lib.Dec.{T, leb, eqb}
use lib.Ieee.{Float, nan, inf, fin, binary64, is_nan, nan_bits, odd, of_bits, of_fields}
use lib.Ieee.Bits.{nan_bits_is}
use lib.Ieee.Scale.{finite}
use Rattle.std.proofs.lemmas.Nat.{and_mask, field_of}

odd_finite : (d : ℕ) (s : Bool) (q k l : ℕ) → finite (odd d s q k l) ≡ true
unfolding odd
odd_finite d s zero k l = refl
odd_finite d s (suc q) k l = refl

fields_finite : (s : Bool) (x t : ℕ) → finite (of_fields binary64 s x t) ≡ not (eqb x 2047)
unfolding of_fields
fields_finite s zero t = odd_finite 53 s t 0 1074
fields_finite s (suc x) t = go (eqb (suc x) 2047) (eqb t 0)
  where
    go : (b z : Bool) → finite (cond b (cond z (inf s) nan) (odd 53 s (2 ^ 52 + t) x 1074)) ≡ not b
    go true true = refl
    go true false = refl
    go false z = odd_finite 53 s (2 ^ 52 + t) x 1074

-- the exponent's field is not all ones
abbrev pub finite_bits : ℕ → Bool
finite_bits b = not (eqb (b % 2 ^ 63 / 2 ^ 52) 2047)

pub finite_by_bits : (b : ℕ) → finite (of_bits binary64 b) ≡ finite_bits b
unfolding of_bits
finite_by_bits b = fields_finite (leb (2 ^ 63) b) (b % 2 ^ 63 / 2 ^ 52) (b % 2 ^ 52)

-- the field, cut out by a shift and a mask
pub by_field : (b : ℕ) → not (eqb (bit_and (b / 2 ^ 52) 2047) 2047) ≡ finite (of_bits binary64 b)
by_field b = rw (and_mask (b / 2 ^ 52) 11, ← field_of b 11 52) (sym (finite_by_bits b))

-- a finite number is no NaN
pub not_nan : (x : Float) → T (finite x) → T (not (is_nan x))
unfolding is_nan
not_nan nan h = h
not_nan (inf s) h = absurd h
not_nan (fin s m e) h = tt

pub no_nan_bits : (b : ℕ) → T (finite (of_bits binary64 b)) → T (not (nan_bits binary64 b))
no_nan_bits b h = rw nan_bits_is (not_nan (of_bits binary64 b) h)
