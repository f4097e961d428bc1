-- The answers of a look-up by their cases, the part that a string's bytes are, and that a call has one answer. Assumes nothing.
use Rattle.std.specs.Prelude.{Some, Result, Ok, Err}
use Prim.Native.Nat.{ℕ, ◌+◌, ◌≤◌}
use mathlib.Core.List.{List}
use mathlib.Core.Bool.{Bool, true, false, cond}
use mathlib.Core.Path.{◌≡◌, sym, ◌∙◌, ap}
use borrow.Author.Tests.{ne_eqb}
use native.Mathlib.Omega.{arith}
use lib.Dec.{T}
use lib.Ieee.Scale.{finite}
use lib.ListN.{length}
use Rattle.bags.specs.Reading.{byte}
use Rattle.bags.specs.Paths.{is_path}
use Rattle.bags.specs.Sections.{sections_of, is_bag}
use Rattle.bags.specs.declared.sections.Sections.{Sections}
use Rattle.tokens.specs.Blanks.{unblanked}
use Rattle.lookups.specs.Values.{absent}
use Rattle.lookups.specs.Lookups.{look_in, base_of, bag_of, lookup_of, lookup_said, start_of, length_of, stretch_of}
use Rattle.lookups.specs.declared.values.Value.{Value}
use Rattle.lookups.specs.declared.Stretch.{Stretch}
use Rattle.lookups.proofs.StepLaws.{as_string}
use Rattle.lookups.proofs.FindLaws.{bag_is_base}
use Rattle.lookups.proofs.BagLaws.{path_clear, bag_whole, bag_finite, impossible_path}

-- ---- the cases

module _ (s : List ℕ) (root : ℕ) (path : List ℕ) where
  pub refused : is_bag s ≡ false → Err 24 ≡ lookup_of s root path
  unfolding lookup_of
  refused b = simp b

  module _ (b : is_bag s ≡ true) where
    pub found : Ok (look_in absent (bag_of s root) path) ≡ lookup_of s root path
    unfolding lookup_of
    found = simp b

    pub found_under : (p : Sections) (v : Value) → sections_of s ≡ Some p → is_path path ≡ true → v ≡ look_in absent (base_of s p root) (unblanked path) → Ok v ≡ lookup_of s root path
    found_under p v d t e =
        ap Ok (e ∙ ap (look_in absent (base_of s p root)) (path_clear path t) ∙ ap (λ es. look_in absent es path) (sym (bag_is_base s p root d))) ∙ found

    pub found_nowhere : (v : Value) → is_path path ≡ false → v ≡ absent → Ok v ≡ lookup_of s root path
    found_nowhere v t e = ap Ok (e ∙ sym (impossible_path s path t root)) ∙ found

  -- what is found is what the bag has
  found_is : (v : Value) → lookup_of s root path ≡ Ok v → look_in absent (bag_of s root) path ≡ v
  unfolding lookup_of
  found_is v h = go (is_bag s) h
    where
      go : (b : Bool) → cond {A = Result Value ℕ} b (Ok (look_in absent (bag_of s root) path)) (Err 24) ≡ Ok v → look_in absent (bag_of s root) path ≡ v
      go false q = absurd (let z : ◌≡◌ {A = ℕ} 0 1 = cc in omega arith)
      go true q = cc

  -- a string that is found lies in the bag
  pub string_inside : (v : Value) → lookup_of s root path ≡ Ok v → v.kind ≡ 1 → v.place + 1 + byte s v.place ≤ length s
  string_inside v h k =
      let w = rw (found_is v h) at (bag_whole s path root) in
      let e = w (λ z. omega arith) in
      (as_string v.kind s v.place e.0 e.1 k).fits

  -- a number that is found is finite
  pub found_finite : (v : Value) → lookup_of s root path ≡ Ok v → T (finite v.number)
  found_finite v h = rw (found_is v h) at (bag_finite s path root)

-- ---- where a string's bytes lie, and how many they are

module _ (s : List ℕ) (answer : Result Value ℕ) (v : Value) (is : answer ≡ Ok v) where
  pub string_stretch : v.kind ≡ 1 → ◌≡◌ {A = Stretch} (record { start = v.place + 1; length = byte s v.place }) (stretch_of s answer)
  unfolding start_of length_of
  string_stretch k = simp (is, k)

  pub other_stretch : (v.kind ≡ 1 → ⊥) → ◌≡◌ {A = Stretch} (record { start = 0; length = 0 }) (stretch_of s answer)
  unfolding start_of length_of
  other_stretch k = simp (is, ne_eqb _ _ k)

pub refused_stretch : (s : List ℕ) (answer : Result Value ℕ) (n : ℕ) → answer ≡ Err n → ◌≡◌ {A = Stretch} (record { start = 0; length = 0 }) (stretch_of s answer)
unfolding start_of length_of
refused_stretch s answer n is = simp is

-- ---- one answer

-- any two answers that the contract of `lookup` allows are the same, and so is what they say
pub one_lookup : (s : List ℕ) (root : ℕ) (path : List ℕ) {r r' : Result Value ℕ} → r ≡ lookup_of s root path → r' ≡ lookup_of s root path → (r ≡ r') × (lookup_said r ≡ lookup_said r')
one_lookup s root path p q = (p ∙ sym q, ap lookup_said (p ∙ sym q))
