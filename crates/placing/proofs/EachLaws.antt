-- Laws of `Each`. Assumes nothing.
use mathlib.Core.Path.{◌≡◌, refl}
use mathlib.Core.List.Memᴰ
use mathlib.Core.List.{List, [], ◌∷◌, ◌++◌, Memᴰ}
use mathlib.Core.Logic.{⊎_elim}
use Rattle.placing.specs.Placed.{Each, none_left, and_each}

module _ {A : Type 0} {P : A → Type 0} where
  -- the first, and the others
  pub each_first : {x : A} {l : List A} → Each P (x ∷ l) → P x
  each_first (and_each p h) = p

  pub each_rest : {x : A} {l : List A} → Each P (x ∷ l) → Each P l
  each_rest (and_each p h) = h

  -- two lists, one after the other
  pub each_left : (a b : List A) → Each P (a ++ b) → Each P a
  each_left [] b h = none_left
  each_left (x ∷ a) b (and_each p h) = and_each p (each_left a b h)

  pub each_right : (a b : List A) → Each P (a ++ b) → Each P b
  each_right [] b h = h
  each_right (x ∷ a) b (and_each p h) = each_right a b h

  pub each_append : (a b : List A) → Each P a → Each P b → Each P (a ++ b)
  each_append [] b h k = k
  each_append (x ∷ a) b (and_each p h) k = and_each p (each_append a b h k)

pub each_as : {A : Type 0} {P Q : A → Type 0} {l : List A} → ((x : A) → P x → Q x) → Each P l → Each Q l
each_as f none_left = none_left
each_as f (and_each p h) = and_each (f _ p) (each_as f h)

-- of two properties a third
pub each_both : {A : Type 0} {P Q R : A → Type 0} {l : List A} → ((x : A) → P x → Q x → R x) → Each P l → Each Q l → Each R l
each_both f none_left h = none_left
each_both f (and_each p k) h = and_each (f _ p (each_first h)) (each_both f k (each_rest h))

-- by the members of the list
pub each_in : {A : Type 0} {P : A → Type 0} (l : List A) → ((x : A) → Memᴰ x l → P x) → Each P l
each_in [] f = none_left
each_in (x ∷ l) f = and_each (f x (Memᴰ.head refl)) (each_in l (λ y m. f y (Memᴰ.tail m)))

pub each_of : {A : Type 0} {P : A → Type 0} {l : List A} → Each P l → (x : A) → Memᴰ x l → P x
each_of none_left x m = absurd (Memᴰ.not-nil m)
each_of (and_each {a = a} {l = l} p h) x m = ⊎_elim (λ (e : x ≡ a). rw e p) (λ (n : Memᴰ x l). each_of h x n) (Memᴰ.cases_cons m)
