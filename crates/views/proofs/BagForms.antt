-- What is looked up in a bag's bytes is what the bag has that the bytes say. Assumes nothing.
use Rattle.std.specs.Prelude.{Some}
use Prim.Native.Nat.{ℕ, ◌+◌}
use mathlib.Core.List.{List, [], map}
use mathlib.Core.Bool.{Bool, true, false, cond}
use mathlib.Core.Path.{◌≡◌, refl, ◌∙◌, ap}
use lib.Dec.{eqb}
use Rattle.bags.specs.Reading.{byte}
use Rattle.bags.specs.Sections.{path_at, kind_at, entry_end, sections_of}
use Rattle.bags.specs.Data.{Datum}
use Rattle.bags.specs.Forms.{Contents, BagBytes}
use Rattle.bags.specs.declared.sections.Sections.{Sections}
use Rattle.bags.proofs.SectionLaws.{entry_at}
use Rattle.bags.proofs.Told.{map_each, each_agree}
use Rattle.bags.proofs.ValueForms.{entry_here, section_here}
use Rattle.bags.proofs.Exactly.{contents_at, bag_is}
use Rattle.lookups.specs.Lookups.{bag_entry_at, section_at, base_of}
use Rattle.views.specs.Meaning.{as_bag, look}
use Rattle.views.specs.Values.{entry_meant, base_bag}
use Rattle.views.proofs.ReadLaws.{reads_it}

module _ (s : List ℕ) where
  -- an entry's value stands for what its bytes say
  entry_means : (at e : ℕ) → entry_end s at ≡ Some e → entry_meant s (bag_entry_at s at e) ≡ entry_here s at
  entry_means at e h =
      let w = entry_at s at e h in
      ap (λ (d : Datum). record { path = path_at s at; value = d }) (reads_it s (kind_at s at) (record { inside = w.named; whole = λ n. (e, w.valued) }))

  section_means : (b : ℕ) → map (entry_meant s) (section_at s b) ≡ section_here s b
  unfolding section_at section_here
  section_means b =
      map_each (entry_meant s) (byte s b) (entry_end s) (bag_entry_at s) (b + 1)
      ∙ each_agree (byte s b) (entry_end s) (λ at e. entry_meant s (bag_entry_at s at e)) (λ at e. entry_here s at) entry_means (b + 1)

  -- the base that is read from the bytes is what they hold
  pub base_holds : (p : Sections) (root : ℕ) → base_bag s p root ≡ as_bag (contents_at s p) root
  unfolding base_bag base_of as_bag
  base_holds p root = go (eqb root 1) (eqb root 2) (eqb root 3)
    where
      go : (a b c : Bool) → map (entry_meant s) (cond a (section_at s 0) (cond b (section_at s p.resource) (cond c (section_at s p.env) [])))
          ≡ cond a (section_here s 0) (cond b (section_here s p.resource) (cond c (section_here s p.env) []))
      go true b c = section_means 0
      go false true c = section_means p.resource
      go false false true = section_means p.env
      go false false false = refl

-- each attribute of the base that is read is that of what the bytes hold
pub base_shows : (s : List ℕ) (p : Sections) (c : Contents) → c ≡ contents_at s p → (root : ℕ) (path : List ℕ)
    → look (base_bag s p) root path ≡ look (as_bag c) root path
base_shows s p c q root path = rw (q, base_holds s p root)

-- of a bag it is that of the bag that the bytes say
pub bag_shows : {s : List ℕ} {c : Contents} (p : Sections) → sections_of s ≡ Some p → BagBytes s c → (root : ℕ) (path : List ℕ)
    → look (base_bag s p) root path ≡ look (as_bag c) root path
bag_shows {s} {c} p q w = base_shows s p c (bag_is p q w.all)
