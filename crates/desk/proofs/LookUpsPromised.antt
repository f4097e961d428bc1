-- What the desk promises of look-ups: what is found is the attribute that deciding sees, and where a string's bytes lie. Assumes nothing.
use Rattle.std.specs.Prelude.{None, Option, Some, Result, Ok, Err}
use mathlib.Core.Path.{◌≡◌, refl, sym, ◌∙◌}
use mathlib.Core.Bool.{Bool, true, false, cond}
use mathlib.Core.List.{List, [], ◌∷◌}
use Prim.Native.Nat.{ℕ, zero, suc, ◌+◌, ◌≤◌}
use native.Mathlib.Omega.{arith}
use borrow.Author.Tests.{eqb-true, eqb-false, ne_eqb}
use lib.Dec.{eqb}
use lib.Ieee.{Float, of_bits, eq}
use lib.ListN.{length}
use denote.Ref.{Bor}
use Rattle.slices.specs.Same.{same}
use Rattle.slices.specs.Parts.{part, IsPart}
use Rattle.slices.proofs.Equal.{same_decides}
use Rattle.bags.specs.Reading.{byte, each, following}
use Rattle.bags.specs.Sections.{path_at, kind_at, entry_end, sections_of, Sectioned, is_bag}
use Rattle.bags.specs.declared.sections.Sections.{Sections}
use Rattle.bags.proofs.SectionLaws.{entry_at, sections_at}
use Rattle.bags.proofs.ValueLaws.{Ended, string, number, flag, list, value_at_lem}
use Rattle.lookups.specs.Values.{nought, unit, value_number, value_at, ValueWhole}
use Rattle.lookups.specs.Values as values
use Rattle.lookups.specs.Lookups as lookups
use Rattle.lookups.specs.Lookups.{look_in, bag_entry_at, section_at, base_of, bag_of, divided, lookup_of, start_of, length_of, EntryOf, the_first, a_later}
use Rattle.lookups.specs.declared.values.Value.{Value}
use Rattle.lookups.proofs.Answers.{refused, found, string_inside}
use Rattle.lookups.proofs.BagLaws.{bag_whole}
use Rattle.lookups.proofs.FindLaws.{bag_is_base}
use Rattle.slots.proofs.SlotLaws.{found_section}
use Rattle.views.specs.Meaning.{text}
use Rattle.views.specs.Values.{datum_of, datum_in, string_at, base_bag}
use Rattle.views.proofs.ReadLaws.{look_means}
use Rattle.deciding.specs.Answers.{view_in, view_of}
use Rattle.desk.specs.Answers.{found_as, lookup_says, string_says}
use Rattle.desk.specs.declared.DeskString.{DeskString}
use Rattle.desk.specs.Promises.{StringAllows, Means, a_string, a_number, flag_off, flag_on, a_list, none_found, SectionOf, principal, resource, env, StandsIn}

-- ---- the number and the place of what is read

-- the number is that of the kind, and what is absent has place 0
record Told (bag : List ℕ) (v : Value) : Type 0 where
  counted : v.number ≡ value_number v.kind bag v.place
  nowhere_then : v.kind ≡ 0 → v.place ≡ 0

module _ (bag : List ℕ) where
  absent_told : Told bag values.absent
  unfolding value_number
  absent_told = record { counted = refl; nowhere_then = λ k. refl }

  value_told : (k : ℕ) → Told bag (value_at bag k)
  unfolding value_at
  value_told k = go (eqb (byte bag k) 0) refl
    where
      go : (b : Bool) → eqb (byte bag k) 0 ≡ b → Told bag (cond b values.absent (record { kind = byte bag k; number = value_number (byte bag k) bag (k + 1); place = k + 1 }))
      go true q = absent_told
      go false q = record { counted = refl; nowhere_then = λ z. absurd (eqb-false (byte bag k) 0 q z) }

  -- a value that is not absent has its kind byte's kind, and stands after it
  value_there : (k : ℕ) → ((value_at bag k).kind ≡ 0 → ⊥) → ((value_at bag k).kind ≡ byte bag k) × ((value_at bag k).place ≡ k + 1)
  unfolding value_at
  value_there k = go (eqb (byte bag k) 0)
    where
      go : (b : Bool) → ((cond b values.absent (record { kind = byte bag k; number = value_number (byte bag k) bag (k + 1); place = k + 1 })).kind ≡ 0 → ⊥)
          → ((cond b values.absent (record { kind = byte bag k; number = value_number (byte bag k) bag (k + 1); place = k + 1 })).kind ≡ byte bag k)
          × ((cond b values.absent (record { kind = byte bag k; number = value_number (byte bag k) bag (k + 1); place = k + 1 })).place ≡ k + 1)
      go true n = absurd (n refl)
      go false n = (refl, refl)

  -- no entry's value is absent
  entry_there : (at e : ℕ) → entry_end bag at ≡ Some e → (value_at bag (kind_at bag at)).kind ≡ 0 → ⊥
  unfolding value_at
  entry_there at e q = rw (ne_eqb (byte bag (kind_at bag at)) 0 (some (value_at_lem (byte bag (kind_at bag at)) bag (kind_at bag at + 1) e (entry_at bag at e q).valued))) (some (value_at_lem (byte bag (kind_at bag at)) bag (kind_at bag at + 1) e (entry_at bag at e q).valued))
    where
      some : {kind at e : ℕ} → Ended kind bag at e → kind ≡ 0 → ⊥
      some (string j w) z = omega arith
      some (number j w) z = omega arith
      some (flag j w) z = omega arith
      some (list j w) z = omega arith

-- ---- what is found is the value of an entry with the path, or nothing

module _ (bag path : List ℕ) where
  -- of the n entries from a place on
  data Among (n at : ℕ) : Value → Type 0 where
    none_there : Among n at values.absent
    one_there : {entry : ℕ} → EntryOf bag n at entry → path_at bag entry ≡ path → Among n at (value_at bag (kind_at bag entry))

  -- of the section of a root
  data Under (root : ℕ) : Value → Type 0 where
    nowhere : Under root values.absent
    somewhere : {p : Sections} {start entry : ℕ} → sections_of bag ≡ Some p → SectionOf p root start → EntryOf bag (byte bag start) (start + 1) entry → path_at bag entry ≡ path
        → Under root (value_at bag (kind_at bag entry))

  among_entries : (n at : ℕ) → Among n at (look_in values.absent (each n (entry_end bag) (bag_entry_at bag) at) path)
  unfolding each look_in
  among_entries zero at = none_there
  among_entries (suc n) at = go (entry_end bag at) refl (among_entries n)
    where
      later : {v : Value} {e : ℕ} → entry_end bag at ≡ Some e → Among n e v → Among (suc n) at v
      later q none_there = none_there
      later q (one_there m k) = one_there (a_later q m) k

      pick : {v : Value} {e : ℕ} → entry_end bag at ≡ Some e → (b : Bool) → same (path_at bag at) path ≡ b → Among (suc n) at v → Among (suc n) at (cond b (value_at bag (kind_at bag at)) v)
      pick q true k rest = one_there (the_first q) ((same_decides (path_at bag at) path).sound k)
      pick q false k rest = rest

      go : (a : Option ℕ) → entry_end bag at ≡ a → ((e : ℕ) → Among n e (look_in values.absent (each n (entry_end bag) (bag_entry_at bag) e) path))
          → Among (suc n) at (look_in values.absent (following a λ e. bag_entry_at bag at e ∷ each n (entry_end bag) (bag_entry_at bag) e) path)
      go (Some e) q rest = pick q (same (path_at bag at) path) refl (later q (rest e))
      go None q rest = none_there

  among_section : (b : ℕ) → Among (byte bag b) (b + 1) (look_in values.absent (section_at bag b) path)
  unfolding section_at
  among_section b = among_entries (byte bag b) (b + 1)

  under : {p : Sections} {root start : ℕ} {v : Value} → sections_of bag ≡ Some p → SectionOf p root start → Among (byte bag start) (start + 1) v → Under root v
  under d s none_there = nowhere
  under d s (one_there m k) = somewhere d s m k

  under_base : (p : Sections) → sections_of bag ≡ Some p → (root : ℕ) → Under root (look_in values.absent (base_of bag p root) path)
  unfolding base_of look_in
  under_base p d root = go (eqb root 1) refl (eqb root 2) refl (eqb root 3) refl
    where
      go : (a : Bool) → eqb root 1 ≡ a → (b : Bool) → eqb root 2 ≡ b → (c : Bool) → eqb root 3 ≡ c
          → Under root (look_in values.absent (cond a (section_at bag 0) (cond b (section_at bag p.resource) (cond c (section_at bag p.env) []))) path)
      go true i b j c k = under d (rw (eqb-true root 1 i) principal) (among_section 0)
      go false i true j c k = under d (rw (eqb-true root 2 j) resource) (among_section p.resource)
      go false i false j true k = under d (rw (eqb-true root 3 k) env) (among_section p.env)
      go false i false j false k = nowhere

  under_bag : (root : ℕ) → Under root (look_in values.absent (bag_of bag root) path)
  unfolding bag_of look_in
  under_bag root = go (sections_of bag) refl
    where
      go : (d : Option Sections) → sections_of bag ≡ d → Under root (look_in values.absent (divided d λ p. base_of bag p root) path)
      go (Some p) q = under_base p q root
      go None q = nowhere

  -- with its kind and its place
  stands_in : {root : ℕ} {v : Value} → Under root v → (v.kind ≡ 0 → ⊥) → StandsIn bag root path v.kind v.place
  stands_in nowhere n = absurd (n refl)
  stands_in (somewhere {p} {start} {entry} d s m k) n =
      let w = value_there bag (kind_at bag entry) n in
      record { sections = p; divided = d; start = start; section = s; entry = entry; among = m; path_is = k; kind_is = w.0; place_is = w.1 }

  found_base : {p : Sections} {root start entry : ℕ} → Sectioned bag p → SectionOf p root start → EntryOf bag (byte bag start) (start + 1) entry
      → path_at bag entry ≡ path → look_in values.absent (base_of bag p root) path ≡ value_at bag (kind_at bag entry)
  unfolding base_of
  found_base {p} w principal = found_section bag path 0 p.resource w.principal
  found_base {p} w resource = found_section bag path p.resource p.env w.resource
  found_base {p} w env = found_section bag path p.env p.end w.env

  -- an entry's value is there
  stands_there : {n at entry : ℕ} → EntryOf bag n at entry → (value_at bag (kind_at bag entry)).kind ≡ 0 → ⊥
  stands_there {at = at} (the_first {next = e} q) = entry_there bag at e q
  stands_there (a_later q m) = stands_there m

  told : {root : ℕ} {v : Value} → Under root v → Told bag v
  told nowhere = absent_told bag
  told (somewhere {entry = entry} d s m k) = value_told bag (kind_at bag entry)

  -- it stands for what deciding sees
  bag_means : (root : ℕ) → datum_in bag (look_in values.absent (bag_of bag root) path) ≡ view_of bag root path
  unfolding bag_of look_in view_in base_bag datum_of
  bag_means root = go (sections_of bag)
    where
      go : (d : Option Sections) → datum_in bag (look_in values.absent (divided d λ p. base_of bag p root) path) ≡ view_in bag d root path
      go (Some p) = look_means bag (base_of bag p root) path
      go None = refl

-- ---- what is found, by its kind

module _ (bag : List ℕ) (kind : ℕ) (x : Float) (place : ℕ) where
  by_kind : (e : ℕ) → x ≡ value_number kind bag place → Ended kind bag place e
      → Means bag (record { refusal = 0; kind = kind; number = x; place = place }) (datum_in bag (record { kind = kind; number = x; place = place }))
  unfolding datum_of value_number eq of_bits
  by_kind e c (string j w) = rw j (a_string refl (c ∙ rw j))
  by_kind e c (number j w) = rw j (a_number refl (c ∙ rw j))
  by_kind e c (flag j w) = rw (c, j) (go (eqb (byte bag place) 1))
    where
      go : (b : Bool) → Means bag (record { refusal = 0; kind = 3; number = cond b unit nought; place = place }) (datum_in bag (record { kind = 3; number = cond b unit nought; place = place }))
      go true = flag_on refl refl
      go false = flag_off refl refl
  by_kind e c (list j w) = rw j (a_list refl (c ∙ rw j))

  absent_means : kind ≡ 0 → x ≡ value_number kind bag place → place ≡ 0
      → Means bag (record { refusal = 0; kind = kind; number = x; place = place }) (datum_in bag (record { kind = kind; number = x; place = place }))
  unfolding datum_of value_number
  absent_means k c p = rw k (none_found refl (c ∙ rw k) p)

means : (bag : List ℕ) (v : Value) → Told bag v → ValueWhole bag v → Means bag (found_as (lookups.lookup_said (Ok v))) (datum_in bag v)
means bag v t w = go (eqb v.kind 0) refl
  where
    go : (b : Bool) → eqb v.kind 0 ≡ b → Means bag (found_as (lookups.lookup_said (Ok v))) (datum_in bag v)
    go true q = let k = eqb-true v.kind 0 q in absent_means bag v.kind v.number v.place k t.counted (t.nowhere_then k)
    go false q = let e = w (eqb-false v.kind 0 q) in by_kind bag v.kind v.number v.place e.0 t.counted (value_at_lem v.kind bag v.place e.0 e.1)

module _ (bag : List ℕ) (root : ℕ) (path : List ℕ) where
  pub looked_rightly : is_bag bag ≡ true → Means bag (lookup_says bag root path) (view_of bag root path)
  unfolding lookup_says
  looked_rightly form =
      rw (← found bag root path form, ← bag_means bag path root) (means bag (look_in values.absent (bag_of bag root) path) (told bag path (under_bag bag path root)) (bag_whole bag path root))

  pub found_rightly : ((lookup_says bag root path).kind ≡ 0 → ⊥) → StandsIn bag root path (lookup_says bag root path).kind (lookup_says bag root path).place
  unfolding lookup_says lookup_of
  found_rightly = go (is_bag bag)
    where
      v : Value
      v = look_in values.absent (bag_of bag root) path

      go : (b : Bool) → ((found_as (lookups.lookup_said (cond {A = Result Value ℕ} b (Ok v) (Err 24)))).kind ≡ 0 → ⊥)
          → StandsIn bag root path (found_as (lookups.lookup_said (cond {A = Result Value ℕ} b (Ok v) (Err 24)))).kind (found_as (lookups.lookup_said (cond {A = Result Value ℕ} b (Ok v) (Err 24)))).place
      go true n = stands_in bag path (under_bag bag path root) n
      go false n = absurd (n refl)

  pub found_where_it_stands : (kind place : ℕ) → is_bag bag ≡ true → StandsIn bag root path kind place
      → ((lookup_says bag root path).kind ≡ kind) × ((lookup_says bag root path).place ≡ place)
  unfolding lookup_says
  found_where_it_stands kind place form w =
      let f = found_base bag path (sections_at bag w.sections w.divided) w.section w.among w.path_is in
      let v = value_there bag (kind_at bag w.entry) (stands_there bag path w.among) in
      rw (← found bag root path form, bag_is_base bag w.sections root w.divided, f) (v.0 ∙ sym w.kind_is, v.1 ∙ sym w.place_is)

  pub stands_once : (kind kind' place place' : ℕ) → is_bag bag ≡ true → StandsIn bag root path kind place → StandsIn bag root path kind' place'
      → (kind ≡ kind') × (place ≡ place')
  stands_once kind kind' place place' form v w =
      let a = found_where_it_stands kind place form v in
      let b = found_where_it_stands kind' place' form w in
      (sym a.0 ∙ b.0, sym a.1 ∙ b.1)

  -- ---- a string's bytes

  pub string_none : is_bag bag ≡ false → string_says bag root path ≡ record { start = 0; length = 0 }
  unfolding string_says start_of length_of
  string_none e = rw (← refused bag root path e)

  pub string_empty : ((lookup_says bag root path).kind ≡ 1 → ⊥) → string_says bag root path ≡ record { start = 0; length = 0 }
  unfolding lookup_says string_says start_of length_of
  string_empty = go (lookup_of bag root path)
    where
      go : (a : Result Value ℕ) → ((found_as (lookups.lookup_said a)).kind ≡ 1 → ⊥) → ◌≡◌ {A = DeskString} (record { start = start_of a; length = length_of bag a }) (record { start = 0; length = 0 })
      go (Ok v) n = rw (ne_eqb v.kind 1 n)
      go (Err m) n = refl

  pub string_rightly : (lookup_says bag root path).kind ≡ 1
      → (view_of bag root path ≡ text (part bag (string_says bag root path).start (string_says bag root path).length))
      × ((string_says bag root path).start + (string_says bag root path).length ≤ length bag)
  unfolding lookup_says string_says start_of length_of lookup_of datum_of string_at
  string_rightly = go (is_bag bag) refl
    where
      v : Value
      v = look_in values.absent (bag_of bag root) path

      go : (b : Bool) → is_bag bag ≡ b → (found_as (lookups.lookup_said (cond {A = Result Value ℕ} b (Ok v) (Err 24)))).kind ≡ 1
          → (view_of bag root path ≡ text (part bag (start_of (cond {A = Result Value ℕ} b (Ok v) (Err 24))) (length_of bag (cond {A = Result Value ℕ} b (Ok v) (Err 24)))))
          × (start_of (cond {A = Result Value ℕ} b (Ok v) (Err 24)) + length_of bag (cond {A = Result Value ℕ} b (Ok v) (Err 24)) ≤ length bag)
      go true form k = rw (← bag_means bag path root, k) (refl, string_inside bag root path v (sym (found bag root path form)) k)
      go false form k = absurd (omega arith)

  pub string_placed : (lookup_says bag root path).kind ≡ 1
      → ((string_says bag root path).start ≡ (lookup_says bag root path).place + 1) × ((string_says bag root path).length ≡ byte bag (lookup_says bag root path).place)
  unfolding lookup_says string_says start_of length_of
  string_placed = go (lookup_of bag root path)
    where
      go : (a : Result Value ℕ) → (found_as (lookups.lookup_said a)).kind ≡ 1 → (start_of a ≡ (found_as (lookups.lookup_said a)).place + 1) × (length_of bag a ≡ byte bag (found_as (lookups.lookup_said a)).place)
      go (Ok v) k = let e : v.kind ≡ 1 = k in rw e (refl, refl)
      go (Err n) k = absurd (omega arith)

pub part_rightly : (bag : Bor (List ℕ)) (root : ℕ) (path : List ℕ) (r : Bor (List ℕ)) → StringAllows bag root path r
    → IsPart bag r (string_says bag.now root path).start (string_says bag.now root path).length
unfolding string_says
part_rightly bag root path r allowed = allowed
