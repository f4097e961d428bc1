-- What a read value stands for is what the bytes say; and what is found stands for what the bag has. Assumes nothing.
use Rattle.std.specs.Prelude.{Some}
use Prim.Native.Nat.{ℕ, zero, suc, ◌+◌, ◌-◌}
use mathlib.Core.List.{List, [], ◌∷◌, map}
use mathlib.Core.Bool.{Bool, true, false, ◌&&◌, cond}
use mathlib.Core.Path.{◌≡◌, refl, ap}
use borrow.Author.Tests.{eqb-true, eqb-false}
use native.Mathlib.Omega.{arith}
use lib.Dec.{eqb}
use lib.Ieee.{of_bits, eq}
use Rattle.slices.specs.Same.{same}
use Rattle.bags.specs.Reading.{byte, many, each}
use Rattle.bags.specs.Paths.{every}
use Rattle.bags.specs.Sections.{kind_at, entry_end, section_end, Sectioned}
use Rattle.bags.specs.declared.sections.Sections.{Sections}
use Rattle.bags.proofs.ReadLaws.{first, each_done, each_more}
use Rattle.bags.proofs.ValueLaws.{Ended, string, number, flag, list, value_at_lem}
use Rattle.bags.proofs.SectionLaws.{entry_at, section_at_lem}
use Rattle.lookups.specs.Values.{nought, unit, absent as absent_value, value_number, value_at, Valued}
use Rattle.lookups.specs.Lookups.{Entry, look_in, bag_entry_at, section_at}
use Rattle.lookups.specs.declared.values.Value.{Value}
use Rattle.lookups.proofs.FindLaws.{base_cases}
use Rattle.views.specs.Meaning.{Datum, flag as switch, absent, present, Chosen, columns_first}
use Rattle.views.specs.Values.{datum_at, datum_of, datum_in, entry_meant, base_bag, chosen_meant}
use Rattle.views.proofs.RowBag.{filled}

-- ---- a value

one_flag : (b : Bool) → eq (cond b unit nought) unit ≡ b
unfolding eq of_bits
one_flag true = refl
one_flag false = refl

reads_kind : (s : List ℕ) (k e : ℕ) → Ended (byte s k) s (k + 1) e → datum_in s (value_at s k) ≡ datum_at s k
unfolding value_at datum_of datum_at value_number
reads_kind s k e (string j x) = rw j
reads_kind s k e (number j x) = rw j
reads_kind s k e (flag j x) = rw j (ap switch (one_flag (eqb (byte s (k + 1)) 1)))
reads_kind s k e (list j x) = rw j

-- the value read after a kind byte stands for what the bytes say
pub reads_it : (s : List ℕ) (k : ℕ) → Valued s k → datum_in s (value_at s k) ≡ datum_at s k
unfolding value_at datum_of datum_at
reads_it s k w = go (eqb (byte s k) 0) refl
  where
    go : (b : Bool) → eqb (byte s k) 0 ≡ b → datum_in s (value_at s k) ≡ datum_at s k
    go true q = rw (eqb-true (byte s k) 0 q)
    go false q = let v = w.whole (eqb-false (byte s k) 0 q) in reads_kind s k v.0 (value_at_lem (byte s k) s (k + 1) v.0 v.1)

present_kind : (s : List ℕ) (k e : ℕ) → Ended (byte s k) s (k + 1) e → present (datum_in s (value_at s k)) ≡ true
unfolding value_at datum_of
present_kind s k e (string j x) = rw j
present_kind s k e (number j x) = rw j
present_kind s k e (flag j x) = rw j
present_kind s k e (list j x) = rw j

-- ---- what is found, and what is chosen

pub look_means : (s : List ℕ) (es : List (Entry Value)) (path : List ℕ) → datum_in s (look_in absent_value es path) ≡ look_in absent (map (entry_meant s) es) path
unfolding look_in datum_of
look_means s [] path = refl
look_means s (e ∷ es) path = go (same e.path path) (look_means s es path)
  where
    go : (b : Bool) → datum_in s (look_in absent_value es path) ≡ look_in absent (map (entry_meant s) es) path
        → datum_in s (cond b e.value (look_in absent_value es path)) ≡ cond b (datum_in s e.value) (look_in absent (map (entry_meant s) es) path)
    go true ih = refl
    go false ih = ih

pub columns_mean : (s : List ℕ) (cs : List (Chosen Value)) (view : ℕ → List ℕ → Value) (seen : ℕ → List ℕ → Datum) (root : ℕ) (path : List ℕ)
    → datum_in s (view root path) ≡ seen root path → datum_in s (columns_first cs view root path) ≡ columns_first (map (chosen_meant s) cs) seen root path
unfolding columns_first
columns_mean s [] view seen root path h = h
columns_mean s (c ∷ cs) view seen root path h = go (eqb c.root root && same c.path path) (columns_mean s cs view seen root path h)
  where
    go : (b : Bool) → datum_in s (columns_first cs view root path) ≡ columns_first (map (chosen_meant s) cs) seen root path
        → datum_in s (cond b c.value (columns_first cs view root path)) ≡ cond b (datum_in s c.value) (columns_first (map (chosen_meant s) cs) seen root path)
    go true ih = refl
    go false ih = ih

-- ---- each entry of the base has a value that is there

entries_filled : (n : ℕ) (s : List ℕ) (at e : ℕ) → many n (entry_end s) at ≡ Some e → filled (map (entry_meant s) (each n (entry_end s) (bag_entry_at s) at)) ≡ true
unfolding every
entries_filled zero s at e h = rw (each_done (entry_end s) (bag_entry_at s) 0 at (omega arith))
entries_filled (suc n) s at e h =
    let f = first (entry_end s) (suc n) at e (omega arith) h in
    let m : suc n - 1 ≡ n = omega arith in
    let later = rw m at f.later in
    let w = entry_at s at f.stop f.ends in
    rw (each_more (entry_end s) (bag_entry_at s) (suc n) at f.stop (omega arith) f.ends, m)
    (simp (present_kind s (kind_at s at) f.stop (value_at_lem (byte s (kind_at s at)) s (kind_at s at + 1) f.stop w.valued), entries_filled n s f.stop e later))

section_filled : (s : List ℕ) (b e : ℕ) → section_end s b ≡ Some e → filled (map (entry_meant s) (section_at s b)) ≡ true
unfolding section_at
section_filled s b e h = entries_filled (byte s b) s (b + 1) e (section_at_lem s b e h).entries

pub base_filled : (s : List ℕ) (p : Sections) (root : ℕ) → Sectioned s p → filled (base_bag s p root) ≡ true
unfolding base_bag every
base_filled s p root w =
    base_cases s p root (λ es. filled (map (entry_meant s) es) ≡ true)
    (section_filled s 0 p.resource w.principal) (section_filled s p.resource p.env w.resource) (section_filled s p.env p.end w.env) refl
