-- The cases of entries, sections and bags, as the code's tests tell them apart, and what they tell. Assumes nothing.
use Rattle.std.specs.Prelude.{None, Option, Some}
use Prim.Native.Nat.{ℕ, zero, suc, ◌+◌, ◌-◌, ◌<◌, ◌≤◌}
use mathlib.Core.List.{List, [], ◌∷◌}
use mathlib.Core.Bool.{Bool, true, false, ◌&&◌, cond, and-eq-true_iff, and-false}
use mathlib.Core.Path.{◌≡◌, refl, sym, ◌∙◌}
use borrow.Author.Tests.{le-leb, lt-leb, lt-ltb, le-ltb, eq-eqb, ne_eqb, ltb-true, leb-true}
use native.Mathlib.Omega.{arith}
use lib.Dec.{ltb, leb}
use lib.ListN.{length, take, drop}
use Rattle.slices.specs.Decides.{Decides}
use Rattle.slices.specs.Order.{SortsBefore, sorts_before}
use Rattle.slices.proofs.Order.{before_is}
use Rattle.slices.specs.Parts.{part}
use Rattle.bags.specs.Reading.{byte, only, many}
use Rattle.bags.specs.Paths.{is_path}
use Rattle.bags.specs.Values.{value_end}
use Rattle.bags.specs.Sections.{path_at, kind_at, entry_end, ascends, ascending, paths_of, entries_end, section_end, afterwards, from_env, from_resource, sections_of, Sectioned, is_bag}
use Rattle.bags.specs.declared.sections.Sections.{Sections}
use Rattle.bags.proofs.ReadLaws.{only_at, only_bad, many_done, many_stop, many_more, each_done, each_stop, each_more, part_to}
use Rattle.bags.proofs.PathLaws.{path_sized}

-- ---- an entry

module _ (s : List ℕ) (at : ℕ) where
  pub entry_cut : length s ≤ kind_at s at → None ≡ entry_end s at
  unfolding entry_end
  entry_cut h = simp (le-ltb _ _ h)

  pub entry_wrong : kind_at s at < length s → is_path (path_at s at) ≡ false → None ≡ entry_end s at
  unfolding entry_end
  entry_wrong h p = simp (lt-ltb _ _ h, p)

  pub entry_whole : kind_at s at < length s → is_path (path_at s at) ≡ true → value_end (byte s (kind_at s at)) s (kind_at s at + 1) ≡ entry_end s at
  unfolding entry_end
  entry_whole h p = simp (lt-ltb _ _ h, p)

-- what an entry that ends tells
pub record Entry (s : List ℕ) (at e : ℕ) : Type 0 where
  pub named : kind_at s at < length s
  pub path : is_path (path_at s at) ≡ true
  pub valued : value_end (byte s (kind_at s at)) s (kind_at s at + 1) ≡ Some e

pub entry_at : (s : List ℕ) (at e : ℕ) → entry_end s at ≡ Some e → Entry s at e
unfolding entry_end
entry_at s at e h =
    let o = only_at (ltb (kind_at s at) (length s) && is_path (path_at s at)) (value_end (byte s (kind_at s at)) s (kind_at s at + 1)) e h in
    let t = (and-eq-true_iff (ltb (kind_at s at) (length s)) _).0 o.0 in
    record { named = ltb-true _ _ t.0; path = t.1; valued = o.1 }

-- ---- entries, the first after a path `last`

-- the n entries from a place on, whose first path stands after `last`
unfoldable pub entries_after : List ℕ → ℕ → List ℕ → ℕ → Option ℕ
entries_after last n s at = only (ascends last (paths_of n s at)) (many n (entry_end s) at)

-- every path stands after the empty one
module _ (s : List ℕ) where
  before_none : (p : List ℕ) → 0 < length p → sorts_before [] p ≡ true
  unfolding sorts_before
  before_none [] h = absurd (omega arith)
  before_none (b ∷ rest) h = refl

  pub entries_first : (n at : ℕ) → entries_after [] n s at ≡ entries_end n s at
  unfolding entries_after entries_end ascends ascending
  entries_first zero at = rw (each_done (entry_end s) (λ at e. path_at s at) 0 at (omega arith))
  entries_first (suc n) at = go (entry_end s at) refl
    where
      go : (a : Option ℕ) → entry_end s at ≡ a
          → only (ascends [] (paths_of (suc n) s at)) (many (suc n) (entry_end s) at) ≡ only (ascending (paths_of (suc n) s at)) (many (suc n) (entry_end s) at)
      go None q = rw (each_stop (entry_end s) (λ at e. path_at s at) (suc n) at q)
      go (Some e) q =
          let one : sorts_before [] (path_at s at) ≡ true = before_none (path_at s at) (path_sized (path_at s at) (entry_at s at e q).path).0 in
          rw (each_more (entry_end s) (λ at e. path_at s at) (suc n) at e (omega arith) q) (simp one)

module _ (last : List ℕ) (n : ℕ) (s : List ℕ) (at : ℕ) where
  pub entries_done : n ≤ 0 → Some at ≡ entries_after last n s at
  unfolding entries_after ascends
  entries_done h = simp (each_done (entry_end s) (λ at e. path_at s at) n at h, many_done (entry_end s) n at h)

  module _ (h : 0 < n) where
    pub entries_stop : entry_end s at ≡ None → entries_after last n s at ≡ None
    unfolding entries_after
    entries_stop e = simp (many_stop (entry_end s) n at h e) (only_bad (ascends last (paths_of n s at)))

    module _ (e : ℕ) (q : entry_end s at ≡ Some e) where
      pub entries_back : sorts_before last (path_at s at) ≡ false → entries_after last n s at ≡ None
      unfolding entries_after ascends
      entries_back b = simp (each_more (entry_end s) (λ at e. path_at s at) n at e h q, b)

      pub entries_more : sorts_before last (path_at s at) ≡ true → entries_after last n s at ≡ entries_after (path_at s at) (n - 1) s e
      unfolding entries_after ascends
      entries_more b = simp (each_more (entry_end s) (λ at e. path_at s at) n at e h q, many_more (entry_end s) n at e h q, b)

-- the same, from what the comparison of the paths decides
module _ (last : List ℕ) (n : ℕ) (s : List ℕ) (at e : ℕ) (r : Bool) (h : 0 < n) (q : entry_end s at ≡ Some e)
    (d : Decides (SortsBefore last (take (kind_at s at - (at + 1)) (drop (at + 1) s))) r) where
  ordered : sorts_before last (path_at s at) ≡ r
  ordered = sym (before_is last (path_at s at) (rw (part_to s (at + 1) (byte s at)) at d))

  pub entries_on : r ≡ true → entries_after (part s (at + 1) (kind_at s at - (at + 1))) (n - 1) s e ≡ entries_after last n s at
  entries_on t =
      let size : kind_at s at - (at + 1) ≡ byte s at = omega arith in
      rw size (sym (entries_more last n s at h e q (ordered ∙ t)))

  pub entries_halt : r ≡ false → None ≡ entries_after last n s at
  entries_halt f = sym (entries_back last n s at h e q (ordered ∙ f))

-- ---- sections

module _ (s : List ℕ) (at : ℕ) where
  pub section_none : length s ≤ at → None ≡ section_end s at
  unfolding section_end
  section_none h = simp (le-ltb _ _ h)

  pub section_long : at < length s → 32 < byte s at → None ≡ section_end s at
  unfolding section_end
  section_long h n = simp (lt-ltb _ _ h, lt-leb _ _ n)

  pub section_whole : at < length s → byte s at ≤ 32 → entries_end (byte s at) s (at + 1) ≡ section_end s at
  unfolding section_end
  section_whole h n = simp (lt-ltb _ _ h, le-leb _ _ n)

-- what a section that ends tells
pub record Section (s : List ℕ) (at e : ℕ) : Type 0 where
  pub counted : at < length s
  pub few : byte s at ≤ 32
  pub ascend : ascending (paths_of (byte s at) s (at + 1)) ≡ true
  pub entries : many (byte s at) (entry_end s) (at + 1) ≡ Some e

pub section_at_lem : (s : List ℕ) (at e : ℕ) → section_end s at ≡ Some e → Section s at e
unfolding section_end entries_end
section_at_lem s at e h =
    let o = only_at (ltb at (length s) && leb (byte s at) 32) (entries_end (byte s at) s (at + 1)) e h in
    let t = (and-eq-true_iff (ltb at (length s)) _).0 o.0 in
    let p = only_at (ascending (paths_of (byte s at) s (at + 1))) (many (byte s at) (entry_end s) (at + 1)) e o.1 in
    record { counted = ltb-true _ _ t.0; few = leb-true _ _ t.1; ascend = p.0; entries = p.1 }

-- a section that is broken breaks all; after one that ends the next follows
module _ (a : Option ℕ) (next : ℕ → Option Sections) where
  pub broken_there : a ≡ None → None ≡ afterwards a next
  broken_there h = rw h

  pub goes_on : (e : ℕ) → a ≡ Some e → next e ≡ afterwards a next
  goes_on e h = rw h

  record Followed (p : Sections) : Type 0 where
    stop : ℕ
    ends : a ≡ Some stop
    rest : next stop ≡ Some p

  followed : (p : Sections) → afterwards a next ≡ Some p → Followed p
  followed p h = go a refl
    where
      go : (x : Option ℕ) → a ≡ x → Followed p
      go None q = absurd (let z : ◌≡◌ {A = ℕ} 0 1 = cc (broken_there q) in omega arith)
      go (Some e) q = record { stop = e; ends = q; rest = goes_on e q ∙ h }

pub sections_at : (s : List ℕ) (p : Sections) → sections_of s ≡ Some p → Sectioned s p
unfolding sections_of
sections_at s p h =
    let a = followed (section_end s 0) (from_resource s) p h in
    let b = followed (section_end s a.stop) (from_env s a.stop) p a.rest in
    let c = followed (section_end s b.stop) (λ end. Some (record { resource = a.stop; env = b.stop; end = end })) p b.rest in
    let w = c.rest in
    let is : record { resource = a.stop; env = b.stop; end = c.stop } ≡ p = cc in
    rw (← is) (record { principal = a.ends; resource = b.ends; env = c.ends })

-- ---- sections that are told where a test holds, and Broken where it does not

pub only_in : (b : Bool) (d : Option Sections) (p : Sections) → cond b d None ≡ Some p → (b ≡ true) × (d ≡ Some p)
only_in true d p e = (refl, e)
only_in false d p e = absurd (let z : ◌≡◌ {A = ℕ} 0 1 = cc in omega arith)

pub only_broken : (b : Bool) (d : Option Sections) → (d ≡ None → false ≡ b) → cond b d None ≡ None → false ≡ b
only_broken true d n e = n e
only_broken false d n e = refl

-- ---- a bag

no_sections : (s : List ℕ) → sections_of s ≡ None → false ≡ is_bag s
unfolding is_bag
no_sections s h = rw h (sym (and-false (leb (length s) 4096)))

-- the sections of a bag, and none of what is no bag
abbrev pub bag_only : List ℕ → Option Sections
bag_only s = cond (is_bag s) (sections_of s) None

module _ (s : List ℕ) where
  pub bag_long : 4096 < length s → None ≡ bag_only s
  unfolding is_bag
  bag_long h = simp (lt-leb _ _ h)

  pub bag_broken : length s ≤ 4096 → sections_of s ≡ None → None ≡ bag_only s
  unfolding is_bag
  bag_broken h b = simp (le-leb _ _ h, b)

  module _ (p : Sections) (h : length s ≤ 4096) (q : sections_of s ≡ Some p) where
    pub bag_followed : (p.end ≡ length s → ⊥) → None ≡ bag_only s
    unfolding is_bag
    bag_followed n = simp (le-leb _ _ h, q, ne_eqb _ _ n)

    pub bag_whole : p.end ≡ length s → Some p ≡ bag_only s
    unfolding is_bag
    bag_whole e = simp (le-leb _ _ h, q, eq-eqb _ _ e)

  pub bag_divided : (p : Sections) → bag_only s ≡ Some p → (is_bag s ≡ true) × (sections_of s ≡ Some p)
  bag_divided = only_in (is_bag s) (sections_of s)

  pub is_none : bag_only s ≡ None → false ≡ is_bag s
  is_none = only_broken (is_bag s) (sections_of s) (no_sections s)
