-- The test `same` decides equality, and needs no look at byte strings of different lengths. Assumes nothing.
use mathlib.Core.Path.{◌≡◌, refl, ap}
use mathlib.Core.Bool.{Bool, true, false, ◌&&◌}
use mathlib.Core.List.{List, [], ◌∷◌}
use Prim.Native.Nat.{ℕ}
use native.Mathlib.Omega.{arith}
use lib.Dec.{eqb}
use lib.ListN.{length}
use borrow.Author.Tests.{eqb-true, eqb-false}
use Rattle.slices.specs.Decides.{Decides}
use Rattle.slices.proofs.Decided.{yes_to, no_to, refuted, one_answer}
use Rattle.slices.specs.Same.{same}

-- equal heads and tails, exactly where the whole lists are equal
split : {x y : ℕ} {s t : List ℕ} (b : Bool) → (b ≡ true → x ≡ y) → (b ≡ false → x ≡ y → ⊥) → (r : Bool) → Decides (s ≡ t) r
    → Decides (x ∷ s ≡ y ∷ t) (b && r)
split true e n true d = let h = d.sound refl in let k = e refl in yes_to (cc)
split true e n false d = no_to (λ h. refuted d refl (cc))
split false e n r d = no_to (λ h. n refl (cc))

pub same_decides : (a b : List ℕ) → Decides (a ≡ b) (same a b)
unfolding same
same_decides [] [] = yes_to refl
same_decides [] (y ∷ ys) = no_to (λ e. let z : ◌≡◌ {A = ℕ} 0 1 = cc in omega arith)
same_decides (x ∷ xs) [] = no_to (λ e. let z : ◌≡◌ {A = ℕ} 0 1 = cc in omega arith)
same_decides (x ∷ xs) (y ∷ ys) = split (eqb x y) (eqb-true x y) (eqb-false x y) (same xs ys) (same_decides xs ys)

-- an answer that decides equality is that of the test
pub same_is : {r : Bool} (a b : List ℕ) → Decides (a ≡ b) r → r ≡ same a b
same_is {r} a b d = one_answer r (same a b) d (same_decides a b)

pub same_itself : (a : List ℕ) → same a a ≡ true
same_itself a = (same_decides a a).complete refl

pub other_length : (a b : List ℕ) → (length a ≡ length b → ⊥) → same a b ≡ false
other_length a b n = one_answer (same a b) false (same_decides a b) (no_to (λ e. n (ap length e)))
