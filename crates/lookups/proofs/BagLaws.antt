-- What is found in a bag: a value that is whole, with a finite number, and under a path only. Assumes nothing.
use Rattle.std.specs.Prelude.{None, Option, Some}
use Prim.Native.Nat.{ℕ, zero, suc, ◌+◌, ◌-◌}
use mathlib.Core.List.{List, [], ◌∷◌}
use mathlib.Core.Bool.{Bool, true, false, ◌&&◌, ◌||◌, cond, false≢true, and-eq-true_iff}
use mathlib.Core.Path.{◌≡◌, refl, sym, ◌∙◌, ap}
use borrow.Author.Tests.{ne_eqb, eqb-true, eqb-false}
use native.Mathlib.Omega.{arith}
use lib.Dec.{T, eqb}
use lib.Ieee.Scale.{finite}
use Rattle.slices.specs.Same.{same}
use Rattle.slices.proofs.Equal.{same_decides}
use Rattle.tokens.specs.Bytes.{class_of}
use Rattle.tokens.specs.Runs.{is_of}
use Rattle.tokens.specs.declared.classes.Sort.TheVariants.{Blanks, WordBytes}
use Rattle.numbers.specs.Bits.{number_at}
use Rattle.numbers.proofs.Exponent.{finite_by_bits}
use Rattle.bags.specs.Reading.{byte, many, each}
use Rattle.bags.specs.Paths.{every, is_path}
use Rattle.bags.specs.Values.{value_end}
use Rattle.bags.specs.Sections.{path_at, kind_at, entry_end, section_end, sections_of, Sectioned}
use Rattle.bags.specs.declared.sections.Sections.{Sections}
use Rattle.bags.proofs.ReadLaws.{First, first}
use Rattle.bags.proofs.PathLaws.{path_byte, path_bytes}
use Rattle.bags.proofs.SectionLaws.{entry_at, section_at_lem, sections_at}
use Rattle.tokens.specs.Blanks.{unblanked}
use Rattle.lookups.specs.Values.{nought, unit, absent, value_number, value_at, Valued, ValueWhole}
use Rattle.lookups.specs.Lookups.{look_in, bag_entry_at, section_at, base_of, bag_of}
use Rattle.lookups.specs.declared.values.Value.{Value}
use Rattle.lookups.proofs.StepLaws.{as_number, told}
use Rattle.lookups.proofs.FindLaws.{look_done, look_here, look_on, base_none, base_cases, bag_is_base}

-- ---- a path has no blanks

no_blank : (b : ℕ) → is_of WordBytes b ≡ true → is_of Blanks b ≡ false
unfolding class_of
no_blank b h = ne_eqb (class_of b) 2 (λ e. go (eqb b 95) (eqb b 45) refl refl e)
  where
    go : (u m : Bool) → eqb b 95 ≡ u → eqb b 45 ≡ m → class_of b ≡ 2 → ⊥
    go true m p q e = let x : ◌≡◌ {A = ℕ} 3 2 = ap class_of (sym (eqb-true b 95 p)) ∙ e in omega arith
    go false true p q e = let x : ◌≡◌ {A = ℕ} 3 2 = ap class_of (sym (eqb-true b 45 q)) ∙ e in omega arith
    go false false p q e = absurd (false≢true (sym (other (class_of b) (eqb b 95) (eqb b 45) e p q) ∙ h))
      where
        other : (c : ℕ) (u m : Bool) → c ≡ 2 → u ≡ false → m ≡ false → (eqb c 5 || eqb c 4 || u || m) ≡ false
        other c u m x y z = simp (x, y, z)

dot : {b : ℕ} → b ≡ 46 → is_of Blanks b ≡ false
unfolding class_of
dot e = rw e

clear : (l : List ℕ) → every path_byte l ≡ true → unblanked l ≡ l
unfolding unblanked every
clear [] h = refl
clear (b ∷ rest) h =
    let t = (and-eq-true_iff (path_byte b) (every path_byte rest)).0 h in
    simp (neither (is_of WordBytes b) refl t.0, clear rest t.1)
  where
    neither : (w : Bool) → is_of WordBytes b ≡ w → (is_of WordBytes b || eqb b 46) ≡ true → is_of Blanks b ≡ false
    neither true e k = no_blank b e
    neither false e k = dot (eqb-true b 46 (rw e at k))

-- a path is all of its bytes
pub path_clear : (p : List ℕ) → is_path p ≡ true → unblanked p ≡ p
path_clear p h = clear p (path_bytes p h)

-- ---- values: whole, and with a finite number

pub value_whole : (s : List ℕ) (k : ℕ) → Valued s k → ValueWhole s (value_at s k)
unfolding value_at
value_whole s k v n = go (eqb (byte s k) 0) refl n
  where
    go : (b : Bool) → eqb (byte s k) 0 ≡ b → ((value_at s k).kind ≡ 0 → ⊥) → (e : ℕ) × (value_end (value_at s k).kind s (value_at s k).place ≡ Some e)
    go true q n = absurd (n (simp q))
    go false q n = let w = v.whole (eqb-false (byte s k) 0 q) in (w.0, simp q w.1)

nought_finite : T (finite nought)
nought_finite = rw (finite_by_bits 0) tt

unit_finite : T (finite unit)
unit_finite = rw (finite_by_bits 0x3FF0000000000000) tt

number_finite : (kind : ℕ) (s : List ℕ) (at e : ℕ) → value_end kind s at ≡ Some e → T (finite (value_number kind s at))
unfolding value_number
number_finite kind s at e h = go (eqb kind 2) (eqb kind 3 && eqb (byte s at) 1) refl
  where
    go : (a b : Bool) → eqb kind 2 ≡ a → T (finite (cond a (number_at s at) (cond b unit nought)))
    go true b q = told (finite (number_at s at)) (as_number kind s at e h (eqb-true kind 2 q)).is
    go false true q = unit_finite
    go false false q = nought_finite

pub value_finite : (s : List ℕ) (k : ℕ) → Valued s k → T (finite (value_at s k).number)
unfolding value_at
value_finite s k v = go (eqb (byte s k) 0) refl
  where
    go : (b : Bool) → eqb (byte s k) 0 ≡ b → T (finite (value_at s k).number)
    go true q = simp q nought_finite
    go false q = let w = v.whole (eqb-false (byte s k) 0 q) in simp q (number_finite (byte s k) s (k + 1) w.0 w.1)

-- an entry that ends has a value
pub entry_valued : (s : List ℕ) (at e : ℕ) → entry_end s at ≡ Some e → Valued s (kind_at s at)
entry_valued s at e h = let w = entry_at s at e h in record { inside = w.named; whole = λ n. (e, w.valued) }

-- ---- what each entry's value has, and an absent one, what is found has

module _ (s path : List ℕ) (P : Value → Type 0) (none : P absent)
    (some : (at e : ℕ) → entry_end s at ≡ Some e → same (path_at s at) path ≡ true → P (value_at s (kind_at s at))) where
  -- of n entries, of a section, of the sections of bytes, and of a bag
  entries_have : (n at e : ℕ) → many n (entry_end s) at ≡ Some e → P (look_in absent (each n (entry_end s) (bag_entry_at s) at) path)
  entries_have zero at e h = rw (← look_done absent (entry_end s) (bag_entry_at s) path 0 at (omega arith)) none
  entries_have (suc n) at e h = go (same (path_at s at) path) refl (entries_have n f.stop e later)
    where
      f : First (entry_end s) (suc n) at e
      f = first (entry_end s) (suc n) at e (omega arith) h

      less : suc n - 1 ≡ n
      less = omega arith

      later : many n (entry_end s) f.stop ≡ Some e
      later = rw less at f.later

      go : (b : Bool) → same (path_at s at) path ≡ b → P (look_in absent (each n (entry_end s) (bag_entry_at s) f.stop) path) → P (look_in absent (each (suc n) (entry_end s) (bag_entry_at s) at) path)
      go true q w = rw (← look_here absent (entry_end s) (bag_entry_at s) path (suc n) at (omega arith) f.stop f.ends q) (some at f.stop f.ends q)
      go false q w = rw (← look_on absent (entry_end s) (bag_entry_at s) path (suc n) at (omega arith) f.stop f.ends q, less) w

  section_has : (b e : ℕ) → section_end s b ≡ Some e → P (look_in absent (section_at s b) path)
  unfolding section_at
  section_has b e h = entries_have (byte s b) (b + 1) e (section_at_lem s b e h).entries

  base_has : (p : Sections) (root : ℕ) → Sectioned s p → P (look_in absent (base_of s p root) path)
  unfolding look_in
  base_has p root w =
      base_cases s p root (λ es. P (look_in absent es path))
      (section_has 0 p.resource w.principal) (section_has p.resource p.env w.resource) (section_has p.env p.end w.env) none

  bag_has : (root : ℕ) → P (look_in absent (bag_of s root) path)
  unfolding bag_of look_in
  bag_has root = go (sections_of s) refl
    where
      go : (d : Option Sections) → sections_of s ≡ d → P (look_in absent (bag_of s root) path)
      go (Some p) q = rw (bag_is_base s p root q) (base_has p root (sections_at s p q))
      go None q = simp q none

module _ (s path : List ℕ) where
  -- what is found is whole
  pub base_whole : (p : Sections) (root : ℕ) → Sectioned s p → ValueWhole s (look_in absent (base_of s p root) path)
  base_whole = base_has s path (ValueWhole s) (λ n. absurd (n refl)) (λ at e h q. value_whole s (kind_at s at) (entry_valued s at e h))

  pub bag_whole : (root : ℕ) → ValueWhole s (look_in absent (bag_of s root) path)
  bag_whole = bag_has s path (ValueWhole s) (λ n. absurd (n refl)) (λ at e h q. value_whole s (kind_at s at) (entry_valued s at e h))

  -- and its number is finite
  pub base_finite : (p : Sections) (root : ℕ) → Sectioned s p → T (finite (look_in absent (base_of s p root) path).number)
  base_finite = base_has s path (λ v. T (finite v.number)) nought_finite (λ at e h q. value_finite s (kind_at s at) (entry_valued s at e h))

  pub bag_finite : (root : ℕ) → T (finite (look_in absent (bag_of s root) path).number)
  bag_finite = bag_has s path (λ v. T (finite v.number)) nought_finite (λ at e h q. value_finite s (kind_at s at) (entry_valued s at e h))

  -- what is no path stands in no bag
  pub impossible_path : is_path path ≡ false → (root : ℕ) → look_in absent (bag_of s root) path ≡ absent
  impossible_path p =
      bag_has s path (λ v. v ≡ absent) refl
      (λ at e h q. absurd (false≢true (sym p ∙ ap is_path (sym ((same_decides (path_at s at) path).sound q)) ∙ (entry_at s at e h).path)))

-- nor does a root byte other than 1 to 3
pub impossible_root : (s path : List ℕ) (root : ℕ) → (root ≡ 1 → ⊥) → (root ≡ 2 → ⊥) → (root ≡ 3 → ⊥) → look_in absent (bag_of s root) path ≡ absent
unfolding bag_of look_in
impossible_root s path root n1 n2 n3 = go (sections_of s) refl
  where
    go : (d : Option Sections) → sections_of s ≡ d → look_in absent (bag_of s root) path ≡ absent
    go (Some p) q = rw (bag_is_base s p root q, ← base_none s p root n1 n2 n3)
    go None q = simp q
