-- The reader `is_bag` takes exactly the bytes of bags, and bytes are those of one bag only. Assumes nothing.
use Rattle.std.specs.Prelude.{None, Option, Some}
use Prim.Native.Nat.{ℕ, ◌+◌}
use mathlib.Core.List.{List, ◌++◌}
use mathlib.Core.Bool.{Bool, true, false, and-eq-true_iff, false≢true}
use mathlib.Core.Logic.{◌↔◌}
use mathlib.Core.Path.{◌≡◌, refl, sym, ◌∙◌, ap}
use native.Mathlib.Omega.{arith}
use borrow.Author.Tests.{leb-true, le-leb, eqb-true, eq-eqb}
use lib.Dec.{leb}
use lib.ListN.{length}
use Rattle.bags.specs.Sections.{section_end, from_resource, from_env, sections_of, Sectioned, fill, is_bag}
use Rattle.bags.specs.Forms.{Contents, SectionsBytes, sections, BagBytes, NoBag}
use Rattle.bags.specs.declared.sections.Sections.{Sections}
use Rattle.bags.proofs.SectionLaws.{sections_at, goes_on}
use Rattle.bags.proofs.Laid.{Laid, laid_join, laid_split, laid_whole, whole_laid}
use Rattle.bags.proofs.Told.{Told}
use Rattle.bags.proofs.ValueForms.{section_here, section_reads}

-- ---- the three sections

-- what stands in them
abbrev pub contents_at : List ℕ → Sections → Contents
contents_at s p = record { principal = section_here s 0; resource = section_here s p.resource; env = section_here s p.env }

pub sections_sound : (s : List ℕ) (p : Sections) → Sectioned s p → Told SectionsBytes s 0 p.end (contents_at s p)
sections_sound s p w =
    let a = (section_reads s).sound 0 p.resource w.principal in
    let b = (section_reads s).sound p.resource p.env w.resource in
    let c = (section_reads s).sound p.env p.end w.env in
    record {
      bytes = a.bytes ++ (b.bytes ++ c.bytes);
      says = sections a.says b.says c.says;
      laid = laid_join a.laid (laid_join b.laid c.laid);
    }

-- the sections that are read, where their bytes stand
pub record Divides (s : List ℕ) (e : ℕ) (c : Contents) : Type 0 where
  pub places : Sections
  pub read : sections_of s ≡ Some places
  pub stop : places.end ≡ e
  pub are : c ≡ contents_at s places

pub sections_complete : {s : List ℕ} {e : ℕ} {t : List ℕ} {c : Contents} → SectionsBytes t c → Laid s 0 t e → Divides s e c
unfolding sections_of
sections_complete {s} {e} (sections {a} {b} {c} {p} {r} {n} fa fb fc) l =
    let x = laid_split a (b ++ c) l in
    let y = laid_split b c x.1 in
    let u = (section_reads s).complete fa x.0 in
    let v = (section_reads s).complete fb y.0 in
    let w = (section_reads s).complete fc y.1 in
    record {
      places = record { resource = 0 + length a; env = 0 + length a + length b; end = e };
      read =
          sym (goes_on (section_end s 0) (from_resource s) (0 + length a) u.0)
          ∙ sym (goes_on _ (from_env s (0 + length a)) (0 + length a + length b) v.0)
          ∙ sym (goes_on _ _ e w.0);
      stop = refl;
      are = rw (← u.1, ← v.1, ← w.1);
    }

-- ---- a bag

filled : (d : Option Sections) (n : ℕ) → fill d n ≡ true → (p : Sections) × ((d ≡ Some p) × (p.end ≡ n))
filled (Some p) n h = (p, (refl, eqb-true _ _ h))
filled None n h = absurd (let z : ◌≡◌ {A = ℕ} 0 1 = cc in omega arith)

fills : (d : Option Sections) (p : Sections) (n : ℕ) → d ≡ Some p → p.end ≡ n → fill d n ≡ true
fills d p n q e = rw q (eq-eqb _ _ e)

module _ (s : List ℕ) where
  bag_sound : is_bag s ≡ true → (b : Contents) × BagBytes s b
  unfolding is_bag
  bag_sound h =
      let t = (and-eq-true_iff (leb (length s) _) _).0 h in
      let f = filled (sections_of s) (length s) t.1 in
      let o = sections_sound s f.0 (sections_at s f.0 f.1.0) in
      let q = whole_laid (rw f.1.1 at o.laid) in
      (contents_at s f.0, record { most = omega (arith, leb-true _ _ t.0); all = rw (← q) at o.says })

  bag_complete : (b : Contents) → BagBytes s b → is_bag s ≡ true
  unfolding is_bag
  bag_complete b w =
      let d = sections_complete w.all (laid_whole s) in
      (and-eq-true_iff (leb (length s) _) _).1 (le-leb _ _ (omega (arith, w.most)), fills (sections_of s) d.places (length s) d.read d.stop)

  -- the reader takes the bytes of a bag, and no others
  pub bag_exactly : (is_bag s ≡ true) ↔ ((b : Contents) × BagBytes s b)
  bag_exactly = (bag_sound, λ w. bag_complete w.0 w.1)

  -- it refuses all others
  pub not_a_bag : (is_bag s ≡ false) ↔ NoBag s
  not_a_bag = ((λ e b w. false≢true (sym e ∙ bag_complete b w)), go (is_bag s) refl)
    where
      go : (b : Bool) → is_bag s ≡ b → NoBag s → is_bag s ≡ false
      go true e n = let w = bag_sound e in absurd (n w.0 w.1)
      go false e n = e

-- what the bytes say is what the reader's places hold
pub bag_is : {s : List ℕ} {b : Contents} (p : Sections) → sections_of s ≡ Some p → SectionsBytes s b → b ≡ contents_at s p
bag_is {s} {b} p q w =
    let d = sections_complete w (laid_whole s) in
    let r : d.places ≡ p = same d.read q in
    d.are ∙ ap (contents_at s) r
  where
    same : {x : Option Sections} {a c : Sections} → x ≡ Some a → x ≡ Some c → a ≡ c
    same h k = cc

-- bytes are those of one bag
pub one_bag : {s : List ℕ} {b c : Contents} → BagBytes s b → BagBytes s c → b ≡ c
one_bag {s} v w =
    let d = sections_complete v.all (laid_whole s) in
    bag_is d.places d.read v.all ∙ sym (bag_is d.places d.read w.all)
