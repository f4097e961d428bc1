-- Document 01's cases A to F, the limit of nesting, the room and the versions, computed from bytes to answers. Assumes nothing.
use mathlib.Core.Path.{◌≡◌, refl}
use mathlib.Core.Bool.{true, false}
use mathlib.Core.List.{List, [], ◌∷◌, ◌++◌}
use Prim.Native.Nat.{ℕ, zero, suc}
use Rattle.slices.specs.Ascii.{bytes}
use Rattle.compiling.specs.Outcome.{spot, nowhere, compiled_to, refused, compiled_of, begins_of}
use Rattle.compiling_promise.proofs.Opened.{compiling_opened}

abbrev times : ℕ → List ℕ → List ℕ
times zero l = []
times (suc n) l = l ++ times n l

abbrev nested : ℕ → List ℕ
nested n = bytes "permit(principal,action,resource)when{" ++ times n (bytes "(") ++ bytes "true" ++ times n (bytes ")") ++ bytes "};"

pub cases :
    (compiled_of 1 (bytes "") 0 ≡ compiled_to 0 0)
    × (compiled_of 1 (bytes "permit(principal,action,resource);") 272 ≡ compiled_to 1 20)
    × (compiled_of 1 (bytes "permit(principal,action,resource)") 264 ≡ refused 10 (spot 1 34 0))
    × (compiled_of 1 (bytes "permit(principal,action,resource)when{principal.a};") 408 ≡ refused 8 (spot 1 50 1))
    × (compiled_of 1 (bytes "permit(principal,action,resource)when{principal.if==1};") 440 ≡ refused 7 (spot 1 49 2))
    × (compiled_of 1 (bytes "permit(principal,action,resource)when{action.kind==\"x\"};") 448 ≡ refused 11 (spot 1 46 4))
    × (compiled_of 1 (bytes "permit(principal,action,resource);") 271 ≡ refused 2 nowhere)
unfolding compiling_opened
cases = (refl, refl, refl, refl, refl, refl, refl)

-- 31 brackets pass, and each has its entry; the 32nd is refused
pub brackets : (compiled_of 1 (nested 31) 848 ≡ compiled_to 1 180) × (compiled_of 1 (nested 32) 864 ≡ refused 12 (spot 1 70 1))
unfolding compiling_opened
brackets = (refl, refl)

-- a table cut to its used bytes begins right, and a shorter one does not
pub cut :
    (begins_of (bytes "permit(principal,action,resource);") (29 ∷ 0 ∷ 0 ∷ 0 ∷ 0 ∷ 32 ∷ 0 ∷ 0 ∷ 0 ∷ 0 ∷ 29 ∷ 0 ∷ 0 ∷ 0 ∷ 0 ∷ 34 ∷ 0 ∷ 0 ∷ 3 ∷ 0 ∷ []) ≡ true)
    × (begins_of (bytes "permit(principal,action,resource);") (29 ∷ 0 ∷ 0 ∷ 0 ∷ 0 ∷ 32 ∷ 0 ∷ 0 ∷ 0 ∷ 0 ∷ 29 ∷ 0 ∷ 0 ∷ 0 ∷ 0 ∷ 34 ∷ 0 ∷ 0 ∷ 3 ∷ []) ≡ false)
    × (begins_of (bytes " ") [] ≡ true)
unfolding compiling_opened
cut = (refl, refl, refl)

-- numbers that name no version are refused before all; 2 has its own table, and a table of neither version begins wrong
pub versions :
    (compiled_of 2 (bytes "permit(principal,action,resource);") 272 ≡ compiled_to 1 20)
    × (compiled_of 2 (bytes "permit(principal,action,resource);") 271 ≡ refused 2 nowhere)
    × (compiled_of 0 (bytes "permit(principal,action,resource);") 271 ≡ refused 30 nowhere)
    × (compiled_of 3 (bytes "") 0 ≡ refused 30 nowhere)
    × (compiled_of 257 (bytes "") 0 ≡ refused 30 nowhere)
    × (begins_of (bytes "permit(principal,action,resource);") (36 ∷ 0 ∷ 0 ∷ 0 ∷ 0 ∷ 32 ∷ 0 ∷ 0 ∷ 0 ∷ 0 ∷ 29 ∷ 0 ∷ 0 ∷ 0 ∷ 0 ∷ 34 ∷ 0 ∷ 0 ∷ 3 ∷ 0 ∷ []) ≡ true)
    × (begins_of (bytes "permit(principal,action,resource);") (43 ∷ 0 ∷ 0 ∷ 0 ∷ 0 ∷ 32 ∷ 0 ∷ 0 ∷ 0 ∷ 0 ∷ 29 ∷ 0 ∷ 0 ∷ 0 ∷ 0 ∷ 34 ∷ 0 ∷ 0 ∷ 3 ∷ 0 ∷ []) ≡ false)
unfolding compiling_opened
versions = (refl, refl, refl, refl, refl, refl, refl)
