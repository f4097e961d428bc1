-- Laws of paths with blanks, and of the search for an entry. Assumes nothing.
use Rattle.std.specs.Prelude.{Option, Some}
use Prim.Native.Nat.{ℕ, zero, suc, ◌+◌, ◌-◌, ◌<◌, ◌≤◌}
use mathlib.Core.List.{List, [], ◌∷◌}
use mathlib.Core.Bool.{Bool, true, false, ◌||◌, cond}
use mathlib.Core.Path.{◌≡◌, refl, sym, ◌∙◌, ap}
use borrow.Author.Tests.{eq-eqb, ne_eqb, eqb-true, eqb-false}
use native.Mathlib.Numerals.{add-one}
use native.Mathlib.Omega.{arith}
use lib.Dec.{eqb}
use lib.ListN.{length, drop, length-take, length-drop, drop_of_length-le}
use lib.Seq.{drop-cons}
use Rattle.slices.specs.Same.{same}
use Rattle.slices.proofs.Decided.{one_answer, no_to}
use Rattle.slices.proofs.Equal.{same_decides, other_length}
use Rattle.tokens.specs.Bytes.{class_of}
use Rattle.tokens.specs.Runs.{is_of}
use Rattle.tokens.proofs.Table.{agree}
use Rattle.tokens.specs.declared.classes.Sort.TheVariants.{Blanks}
use Rattle.slices.specs.Parts.{part}
use Rattle.bags.specs.Reading.{byte, each}
use Rattle.bags.specs.Sections.{sections_of}
use Rattle.bags.specs.declared.sections.Sections.{Sections}
use Rattle.bags.proofs.ReadLaws.{part_cons, part_none, each_done, each_more}
use Rattle.tokens.specs.Blanks.{unblanked}
use Rattle.lookups.specs.Values.{absent}
use Rattle.lookups.specs.Lookups.{Entry, look_in, section_at, base_of, bag_of}
use Rattle.lookups.specs.declared.values.Value.{Value}

-- the blanks by their bytes, at all 256
pub blank_is : (b : ℕ) → b < 256 → (eqb b 32 || eqb b 9 || eqb b 10 || eqb b 13) ≡ is_of Blanks b
unfolding class_of
blank_is b h = agree (λ (b : ℕ). eqb b 32 || eqb b 9 || eqb b 10 || eqb b 13) (is_of Blanks) 256 b refl h

-- ---- bytes, and those of a path but its blanks

module _ (p : List ℕ) (y : ℕ) where
  pub path_end : (rest : List ℕ) → length p ≤ y → eqb (length rest) 0 ≡ same rest (unblanked (drop y p))
  unfolding unblanked same
  path_end [] h = rw (drop_of_length-le p h)
  path_end (b ∷ tail) h = rw (drop_of_length-le p h) (ne_eqb (suc (length tail)) 0 (λ e. omega arith))

  module _ (h : y < length p) where
    pub path_blank : (rest : List ℕ) → is_of Blanks (byte p y) ≡ true → same rest (unblanked (drop (y + 1) p)) ≡ same rest (unblanked (drop y p))
    unfolding unblanked
    path_blank rest b = rw (add-one, drop-cons p y 0 h) (simp b)

    module _ (n : is_of Blanks (byte p y) ≡ false) where
      pub path_short : (rest : List ℕ) → length rest ≡ 0 → false ≡ same rest (unblanked (drop y p))
      unfolding unblanked same
      path_short [] e = rw (drop-cons p y 0 h) (simp n)
      path_short (b ∷ tail) e = absurd (omega arith)

      module _ (first : ℕ) (tail : List ℕ) where
        pub path_differs : (first ≡ byte p y → ⊥) → false ≡ same (first ∷ tail) (unblanked (drop y p))
        unfolding unblanked same
        path_differs d = rw (drop-cons p y 0 h) (simp (n, ne_eqb _ _ d))

        pub path_on : first ≡ byte p y → same tail (unblanked (drop (y + 1) p)) ≡ same (first ∷ tail) (unblanked (drop y p))
        unfolding unblanked same
        path_on e = rw (drop-cons p y 0 h, add-one y) (simp (n, eq-eqb _ _ e))

-- ---- the bytes of a path that has no blanks, and those of another but its blanks

-- a part that lies in the bytes has its length
pub part_sized : (s : List ℕ) (at n : ℕ) → at + n ≤ length s → length (part s at n) ≡ n
unfolding part
part_sized s at n h = simp (length-take, length-drop) (omega arith)

-- bytes with a blank among them are fewer without it
fewer : (l : List ℕ) → (length (unblanked l) ≤ length l) × (length (unblanked l) ≡ length l → unblanked l ≡ l)
unfolding unblanked
fewer [] = (omega arith, λ e. refl)
fewer (b ∷ rest) = go (is_of Blanks b) refl (fewer rest)
  where
    go : (t : Bool) → is_of Blanks b ≡ t → (length (unblanked rest) ≤ length rest) × (length (unblanked rest) ≡ length rest → unblanked rest ≡ rest)
        → (length (unblanked (b ∷ rest)) ≤ suc (length rest)) × (length (unblanked (b ∷ rest)) ≡ suc (length rest) → unblanked (b ∷ rest) ≡ b ∷ rest)
    go true e (k, w) = simp e (omega arith, λ q. absurd (omega arith))
    go false e (k, w) = simp e (omega arith, λ q. ap (λ (l : List ℕ). b ∷ l) (w (omega arith)))

pub same_long : (p path : List ℕ) → unblanked p ≡ p → length p ≡ length path → same p path ≡ same p (unblanked path)
same_long p path c h = go (eqb (length (unblanked path)) (length path)) refl
  where
    go : (t : Bool) → eqb (length (unblanked path)) (length path) ≡ t → same p path ≡ same p (unblanked path)
    go true e = ap (same p) (sym ((fewer path).1 (eqb-true _ _ e)))
    go false e =
        let n = eqb-false (length (unblanked path)) (length path) e in
        other_answer (λ q. n (ap length (ap unblanked (sym q) ∙ c ∙ q))) ∙ sym (other_length p (unblanked path) (λ q. n (sym q ∙ h)))
      where
        other_answer : (p ≡ path → ⊥) → same p path ≡ false
        other_answer f = one_answer (same p path) false (same_decides p path) (no_to f)

-- ---- the first byte of a path but its blanks

module _ (p : List ℕ) (i : ℕ) where
  pub lead_end : length p ≤ i → 0 ≡ byte (unblanked (drop i p)) 0
  unfolding unblanked
  lead_end h = rw (drop_of_length-le p h)

  module _ (h : i < length p) where
    pub lead_blank : is_of Blanks (byte p i) ≡ true → byte (unblanked (drop (i + 1) p)) 0 ≡ byte (unblanked (drop i p)) 0
    unfolding unblanked
    lead_blank b = rw (add-one, drop-cons p i 0 h) (simp b)

    pub lead_here : is_of Blanks (byte p i) ≡ false → byte p i ≡ byte (unblanked (drop i p)) 0
    unfolding unblanked
    lead_here b = rw (drop-cons p i 0 h) (simp b)

-- a part with another first byte than some bytes is not these bytes
pub other_lead : (s : List ℕ) (at n lead : ℕ) (l : List ℕ) → 0 < n → at + n ≤ length s → lead ≡ byte l 0 → (byte s at ≡ lead → ⊥) → false ≡ same (part s at n) l
unfolding same
other_lead s at n lead [] some fits e d = rw (part_cons s at n some fits) refl
other_lead s at n lead (x ∷ l) some fits e d = let k : byte s at ≡ x → ⊥ = rw e at d in rw (part_cons s at n some fits) (simp (ne_eqb _ _ k))

-- ---- the entry with a path

module _ {A : Type 0} (none : A) (next : ℕ → Option ℕ) (what : ℕ → ℕ → Entry A) (path : List ℕ) (n at : ℕ) where
  pub look_done : n ≤ 0 → none ≡ look_in none (each n next what at) path
  unfolding look_in
  look_done h = rw (each_done next what n at h)

  module _ (h : 0 < n) (e : ℕ) (q : next at ≡ Some e) where
    pub look_here : same (what at e).path path ≡ true → (what at e).value ≡ look_in none (each n next what at) path
    unfolding look_in
    look_here t = rw (each_more next what n at e h q) (simp t)

    pub look_on : same (what at e).path path ≡ false → look_in none (each (n - 1) next what e) path ≡ look_in none (each n next what at) path
    unfolding look_in
    look_on t = rw (each_more next what n at e h q) (simp t)

-- ---- the section of a root byte

module _ (s : List ℕ) (p : Sections) (root : ℕ) where
  pub base_1 : root ≡ 1 → section_at s 0 ≡ base_of s p root
  unfolding base_of
  base_1 h = rw h

  pub base_2 : root ≡ 2 → section_at s p.resource ≡ base_of s p root
  unfolding base_of
  base_2 h = rw h

  pub base_3 : root ≡ 3 → section_at s p.env ≡ base_of s p root
  unfolding base_of
  base_3 h = rw h

  pub base_none : (root ≡ 1 → ⊥) → (root ≡ 2 → ⊥) → (root ≡ 3 → ⊥) → [] ≡ base_of s p root
  unfolding base_of
  base_none a b c = simp (ne_eqb _ _ a, ne_eqb _ _ b, ne_eqb _ _ c)

  -- what the three sections have, and no entries, the section of any root byte has
  pub base_cases : (P : List (Entry Value) → Type 0) → P (section_at s 0) → P (section_at s p.resource) → P (section_at s p.env) → P [] → P (base_of s p root)
  unfolding base_of
  base_cases P principal resource env none = go (eqb root 1) (eqb root 2) (eqb root 3)
    where
      go : (a b c : Bool) → P (cond a (section_at s 0) (cond b (section_at s p.resource) (cond c (section_at s p.env) [])))
      go true b c = principal
      go false true c = resource
      go false false true = env
      go false false false = none

  pub look_base : {es : List (Entry Value)} → es ≡ base_of s p root → (path : List ℕ) → look_in absent es path ≡ look_in absent (base_of s p root) path
  look_base e path = ap (λ (l : List (Entry Value)). look_in absent l path) e

  pub look_none : (root ≡ 1 → ⊥) → (root ≡ 2 → ⊥) → (root ≡ 3 → ⊥) → (path : List ℕ) → absent ≡ look_in absent (base_of s p root) path
  unfolding look_in
  look_none a b c path = look_base (base_none a b c) path

  pub bag_is_base : sections_of s ≡ Some p → bag_of s root ≡ base_of s p root
  unfolding bag_of
  bag_is_base h = simp h
