-- Laws of the search among a row's columns. Assumes nothing.
use Prim.Native.Nat.{ℕ, zero, suc, ◌+◌, ◌-◌, ◌<◌, ◌≤◌}
use mathlib.Core.List.{List}
use mathlib.Core.Bool.{Bool, true, false, ◌&&◌, cond}
use mathlib.Core.Path.{◌≡◌, refl}
use borrow.Author.Tests.{eq-eqb, ne_eqb}
use native.Mathlib.Numerals.{add-one}
use native.Mathlib.Omega.{arith}
use lib.Dec.{eqb}
use Rattle.slices.specs.Same.{same}
use Rattle.tokens.specs.Table.{values_from}
use Rattle.views.specs.Meaning.{Chosen, columns_first}

-- what two rules list alike is the same list
pub listed_alike : {A : Type 0} (f g : ℕ → A) (first n : ℕ) → ((i : ℕ) → i < n → f (first + i) ≡ g (first + i)) → values_from f first n ≡ values_from g first n
listed_alike f g first zero h = refl
listed_alike f g first (suc n) h =
    let z : first + 0 ≡ first = omega arith in
    let here : f first ≡ g first = rw z at (h 0 (omega arith)) in
    let rest = listed_alike f g (suc first) n (λ i l. let e : suc first + i ≡ first + suc i = omega arith in rw e (h (suc i) (omega arith))) in
    rw (here, rest)

-- ---- the columns from number i on

module _ {A : Type 0} (f : ℕ → Chosen A) (view : ℕ → List ℕ → A) (root : ℕ) (path : List ℕ) where
  pub columns_none : (n i : ℕ) → n ≤ 0 → columns_first (values_from f i n) view root path ≡ view root path
  unfolding columns_first
  columns_none zero i h = refl
  columns_none (suc n) i h = absurd (omega arith)

  pub columns_here : (n i : ℕ) → 0 < n → (eqb (f i).root root && same (f i).path path) ≡ true → (f i).value ≡ columns_first (values_from f i n) view root path
  unfolding columns_first
  columns_here zero i h t = absurd (omega arith)
  columns_here (suc n) i h t = simp t

  pub columns_on : (n i : ℕ) → 0 < n → (eqb (f i).root root && same (f i).path path) ≡ false
      → columns_first (values_from f (i + 1) (n - 1)) view root path ≡ columns_first (values_from f i n) view root path
  unfolding columns_first
  columns_on zero i h t = absurd (omega arith)
  columns_on (suc n) i h t = let m : suc n - 1 ≡ n = omega arith in rw (m, add-one i) (simp t)

  -- what every choice and the view have, the row has
  pub columns_have : (P : A → Type 0) → P (view root path) → (n i : ℕ) → ((j : ℕ) → j < n → P (f (i + j)).value) → P (columns_first (values_from f i n) view root path)
  unfolding columns_first
  columns_have P v zero i h = v
  columns_have P v (suc n) i h =
      go (eqb (f i).root root && same (f i).path path)
      (columns_have P v n (suc i) (λ j l. let e : suc i + j ≡ i + suc j = omega arith in rw e (h (suc j) (omega arith))))
    where
      here : P (f i).value
      here = let z : i + 0 ≡ i = omega arith in rw z at (h 0 (omega arith))

      go : (b : Bool) → P (columns_first (values_from f (suc i) n) view root path) → P (cond b (f i).value (columns_first (values_from f (suc i) n) view root path))
      go true y = here
      go false y = y

-- ---- whether a column names an attribute

module _ (b root : ℕ) (t : Bool) where
  pub names_it : b ≡ root → t ≡ (eqb b root && t)
  names_it e = simp (eq-eqb _ _ e)

  pub names_other : (b ≡ root → ⊥) → false ≡ (eqb b root && t)
  names_other n = simp (ne_eqb _ _ n)
