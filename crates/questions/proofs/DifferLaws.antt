-- Laws of elements of which no two have the same name, for any reader and any name. Assumes nothing.
use Rattle.std.specs.Prelude.{None, Option, Some}
use Prim.Native.Nat.{ℕ, ◌-◌, ◌<◌, ◌≤◌}
use mathlib.Core.List.{List}
use mathlib.Core.Bool.{Bool, true, false}
use mathlib.Core.Path.{◌≡◌, sym}
use Rattle.slices.specs.Same.{same}
use Rattle.bags.specs.Reading.{only, each}
use Rattle.bags.proofs.ReadLaws.{only_bad, each_done, each_more}
use Rattle.questions.specs.Distinct.{among, distinct}

module _ (next : ℕ → Option ℕ) (name : ℕ → ℕ → List ℕ) (n at : ℕ) where
  pub among_done : (x : List ℕ) → n ≤ 0 → false ≡ among x (each n next name at)
  unfolding among
  among_done x h = rw (each_done next name n at h)

  pub differ_done : n ≤ 0 → true ≡ distinct (each n next name at)
  unfolding distinct
  differ_done h = rw (each_done next name n at h)

  module _ (h : 0 < n) (e : ℕ) (q : next at ≡ Some e) where
    pub among_here : (x : List ℕ) → same x (name at e) ≡ true → true ≡ among x (each n next name at)
    unfolding among
    among_here x t = rw (each_more next name n at e h q) (simp t)

    pub among_on : (x : List ℕ) → same x (name at e) ≡ false → among x (each (n - 1) next name e) ≡ among x (each n next name at)
    unfolding among
    among_on x t = rw (each_more next name n at e h q) (simp t)

    pub differ_twice : among (name at e) (each (n - 1) next name e) ≡ true → false ≡ distinct (each n next name at)
    unfolding distinct
    differ_twice t = rw (each_more next name n at e h q) (simp t)

    pub differ_on : among (name at e) (each (n - 1) next name e) ≡ false → distinct (each (n - 1) next name e) ≡ distinct (each n next name at)
    unfolding distinct
    differ_on t = rw (each_more next name n at e h q) (simp t)

-- things that end, with different names
module _ (d : Bool) (m : Option ℕ) where
  pub none_ends : m ≡ None → None ≡ only d m
  none_ends h = rw h (sym (only_bad d))

  pub all_end : (e : ℕ) → m ≡ Some e → d ≡ true → Some e ≡ only d m
  all_end e h t = simp (h, t)

  pub two_agree : d ≡ false → None ≡ only d m
  two_agree t = simp t
