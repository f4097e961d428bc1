-- Worked examples of look-ups. Assumes nothing.
use Prim.Native.Nat.{ℕ}
use mathlib.Core.List.{List, [], ◌∷◌, ◌++◌}
use mathlib.Core.Path.{◌≡◌, refl}
use lib.Ieee.{binary64, of_bits}
use Rattle.slices.specs.Ascii.{bytes}
use Rattle.lookups.specs.Values.{absent}
use Rattle.lookups.specs.Lookups.{lookup_of, lookup_said, start_of, length_of}
use Rattle.lookups.specs.declared.values.Value.{Value}
use Rattle.std.specs.Prelude.{Result, Ok, Err}
use Rattle.lookups.proofs.Opened.{lookups_opened}

-- principal.grade is -0, resource.name is "A1", env.on is true
abbrev bag : List ℕ
bag = 1 ∷ 5 ∷ (bytes "grade" ++ (2 ∷ 0 ∷ 0 ∷ 0 ∷ 0 ∷ 0 ∷ 0 ∷ 0 ∷ 128 ∷ 1 ∷ 4 ∷ (bytes "name" ++ (1 ∷ 2 ∷ (bytes "A1" ++ (1 ∷ 2 ∷ (bytes "on" ++ (3 ∷ 1 ∷ []))))))))

abbrev value : ℕ → ℕ → ℕ → Result Value ℕ
value kind bits place = Ok (record { kind = kind; number = of_bits binary64 bits; place = place })

pub lookups :
    (lookup_of bag 1 (bytes "grade") ≡ value 2 0x8000000000000000 8)
    × (lookup_of bag 2 (bytes "name") ≡ value 1 0 23)
    × (start_of (lookup_of bag 2 (bytes "name")) ≡ 24)
    × (length_of bag (lookup_of bag 2 (bytes "name")) ≡ 2)
    × (lookup_of bag 3 (bytes "on") ≡ value 3 0x3FF0000000000000 31)
    × (lookup_of bag 1 (bytes "grad") ≡ Ok absent)
    × (lookup_of bag 2 (bytes "grade") ≡ Ok absent)
    × (lookup_of bag 2 (bytes "na me") ≡ Ok absent)
    × (lookup_of bag 4 (bytes "on") ≡ Ok absent)
    × (start_of (lookup_of bag 3 (bytes "on")) ≡ 0)
    × (lookup_of (0 ∷ 0 ∷ []) 9 (bytes "a") ≡ Err 24)
    × (lookup_said (lookup_of (0 ∷ 0 ∷ []) 9 (bytes "a")) ≡ record { refusal = 24; kind = 0; number = of_bits binary64 0; place = 0 })
unfolding lookups_opened
lookups = (refl, refl, refl, refl, refl, refl, refl, refl, refl, refl, refl, refl)
