-- The number that the desk's look-up answers is finite. Assumes nothing.
use mathlib.Core.Path.{◌≡◌, refl}
use mathlib.Core.List.{List}
use Prim.Native.Nat.{ℕ}
use lib.Dec.{T}
use lib.Ieee.Scale.{finite}
use Rattle.numbers.proofs.Exponent.{finite_by_bits}
use Rattle.lookups.specs.Lookups.{lookup_of, lookup_said}
use Rattle.lookups.specs.declared.values.Value.{Value}
use Rattle.std.specs.Prelude.{Result, Ok, Err}
use Rattle.lookups.proofs.Answers.{found_finite}
use Rattle.desk.specs.Answers.{lookup_says, found_as}
use Rattle.desk.specs.declared.DeskValue.{DeskValue}

module _ (bag : List ℕ) (root : ℕ) (path : List ℕ) where
  said_finite : (a : Result Value ℕ) → lookup_of bag root path ≡ a → T (finite (lookup_said a).number)
  said_finite (Ok v) e = found_finite bag root path v e
  said_finite (Err n) e = rw (finite_by_bits 0) tt

  pub value_finite : {v : DeskValue} → v ≡ lookup_says bag root path → T (finite v.number)
  unfolding lookup_says
  value_finite e = rw e (said_finite (lookup_of bag root path) refl)
