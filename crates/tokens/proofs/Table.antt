-- A table that lists a rule's values at 0, 1, 2, .. has the rule's value at each entry.
-- A proof that cites `entry` for a constant array has antt compute the rule at every entry and compare it with the array's: one test over the whole table.
-- Assumes nothing.
use mathlib.Core.Path.{◌≡◌, ◌∙◌, sym, ap}
use mathlib.Core.List.{List}
use Prim.Native.Nat.{ℕ, zero, suc, ◌+◌, ◌<◌}
use native.Mathlib.Nat.{add-zero, zero-add, add-suc, suc-add, le_of_suc-le-suc, not-suc-le-zero}
use lib.ListN.{get_or}
use Rattle.tokens.specs.Table.{values_from}

module _ {A : Type 0} (rule : ℕ → A) where
  from : (d : A) (first count k : ℕ) → k < count → get_or (values_from rule first count) k d ≡ rule (first + k)
  from d first zero k h = absurd (not-suc-le-zero h)
  from d first (suc count) zero h = ap rule (sym (add-zero first))
  from d first (suc count) (suc k) h = from d (suc first) count k (le_of_suc-le-suc h) ∙ ap rule (suc-add first k ∙ sym (add-suc first k))

  pub entry : (d : A) (count k : ℕ) → k < count → get_or (values_from rule 0 count) k d ≡ rule k
  entry d count k h = from d 0 count k h ∙ ap rule (zero-add k)

-- two rules that list the same values below `count`, which `refl` shows where antt can compute them, agree there
pub agree : {A : Type 0} (f g : ℕ → A) (count k : ℕ) → values_from f 0 count ≡ values_from g 0 count → k < count → f k ≡ g k
agree f g count k e h = sym (entry f (f 0) count k h) ∙ (ap (λ (l : List _). get_or l k (f 0)) e ∙ entry g (f 0) count k h)
