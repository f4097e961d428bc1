-- The test `distinct` decides that no two are the same. Assumes nothing.
use Prim.Native.Nat.{ℕ}
use mathlib.Core.List.{List, [], ◌∷◌, map}
use mathlib.Core.Bool.{Bool, true, false, not, ◌||◌}
use mathlib.Core.Path.{◌≡◌, refl, ap}
use Rattle.slices.specs.Decides.{Decides}
use Rattle.slices.specs.Same.{same}
use Rattle.slices.proofs.Decided.{yes_to, no_to, refuted, both, carried}
use Rattle.slices.proofs.Equal.{same_decides}
use Rattle.questions.specs.Distinct.{among, distinct}
use Rattle.questions.specs.Forms.{NoneOf, none, other, Distinct, empty, new}

apart : {A : Type 0} {x y : A} {ys : List A} → NoneOf x (y ∷ ys) → (x ≡ y → ⊥) × NoneOf x ys
apart (other n r) = (n, r)

news : {A : Type 0} {x : A} {xs : List A} → Distinct (x ∷ xs) → NoneOf x xs × Distinct xs
news (new n d) = (n, d)

step : (x y : List ℕ) (ys : List (List ℕ)) (b a : Bool) → Decides (x ≡ y) b → Decides (NoneOf x ys) (not a) → Decides (NoneOf x (y ∷ ys)) (not (b || a))
step x y ys true a e d = no_to (λ n. (apart n).0 (e.sound refl))
step x y ys false true e d = no_to (λ n. refuted d refl (apart n).1)
step x y ys false false e d = yes_to (other (refuted e refl) (d.sound refl))

none_decides : (x : List ℕ) (ys : List (List ℕ)) → Decides (NoneOf x ys) (not (among x ys))
unfolding among
none_decides x [] = yes_to none
none_decides x (y ∷ ys) = step x y ys (same x y) (among x ys) (same_decides x y) (none_decides x ys)

pub distinct_decides : (xs : List (List ℕ)) → Decides (Distinct xs) (distinct xs)
unfolding distinct
distinct_decides [] = yes_to empty
distinct_decides (x ∷ xs) = carried (news, λ w. new w.0 w.1) (both (not (among x xs)) (distinct xs) (none_decides x xs) (distinct_decides xs))

-- ---- the same of what a function makes of them, where it makes different things of different ones

module _ {A B : Type 0} (f : A → B) (apart_kept : (x y : A) → f x ≡ f y → x ≡ y) where
  none_mapped : (x : A) {ys : List A} → NoneOf x ys → NoneOf (f x) (map f ys)
  none_mapped x none = none
  none_mapped x (other {y} n r) = other (λ e. n (apart_kept x y e)) (none_mapped x r)

  pub distinct_mapped : {xs : List A} → Distinct xs → Distinct (map f xs)
  distinct_mapped empty = empty
  distinct_mapped (new {x} n d) = new (none_mapped x n) (distinct_mapped d)

module _ {A B : Type 0} (f : A → B) where
  none_before : (x : A) (ys : List A) → NoneOf (f x) (map f ys) → NoneOf x ys
  none_before x [] n = none
  none_before x (y ∷ ys) n = let w = apart n in other (λ e. w.0 (ap f e)) (none_before x ys w.1)

  pub distinct_before : (xs : List A) → Distinct (map f xs) → Distinct xs
  distinct_before [] d = empty
  distinct_before (x ∷ xs) d = let w = news d in new (none_before x xs w.0) (distinct_before xs w.1)
