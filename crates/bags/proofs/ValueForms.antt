-- The readers of strings, values, entries and sections take the bytes that the forms name, and read what they say. Assumes nothing.
use Rattle.std.specs.Prelude.{Some}
use Prim.Native.Nat.{ℕ, zero, suc, ◌+◌, ◌<◌, ◌≤◌}
use mathlib.Core.List.{List, [], ◌∷◌, ◌++◌, map}
use mathlib.Core.Bool.{true, ◌&&◌, and-eq-true_iff}
use mathlib.Core.Path.{◌≡◌, refl, sym, ◌∙◌, ap}
use native.Mathlib.Omega.{arith}
use borrow.Author.Tests.{leb-true, ltb-true}
use lib.Dec.{ltb, leb, eqb}
use lib.ListN.{length}
use Rattle.slices.specs.Parts.{part}
use Rattle.numbers.specs.Bits.{number_at}
use Rattle.bags.specs.Reading.{byte, many, each}
use Rattle.bags.specs.Values.{string_end, list_end, value_end}
use Rattle.bags.specs.Sections.{path_at, kind_at, entry_end, ascending, Ascending, paths_of, entries_end, section_end}
use Rattle.bags.specs.Data.{Datum, text, number, flag, texts, Entry, string_at, list_at, datum_at}
use Rattle.bags.specs.Forms.{StringBytes, a_string, ValueBytes, string, eight, off, on, list, EntryBytes, entry, paths_in, SectionBytes, section}
use Rattle.bags.proofs.ReadLaws.{only_at, same_end}
use Rattle.bags.proofs.ValueLaws as values
use Rattle.bags.proofs.ValueLaws.{string_whole, number_whole, flag_whole, list_whole, value_string, value_number, value_flag, value_list}
use Rattle.bags.proofs.ValueLaws.{value_at_lem, value_inside, Ended}
use Rattle.bags.proofs.SectionLaws.{entry_at, entry_whole, section_at_lem, section_whole}
use Rattle.bags.proofs.Ascent.{ascending_decides}
use Rattle.bags.proofs.Laid.{Laid, laid_none, laid_cons, laid_part, laid_join, laid_split, laid_head, laid_is, number_in}
use Rattle.bags.proofs.Told.{Told, told_as, Reads, many_sound, many_complete, map_each}

module _ (s : List ℕ) where
  -- ---- strings

  record Short (at e : ℕ) : Type 0 where
    fits : at + 1 + byte s at ≤ length s
    few : byte s at ≤ 127
    stop : Some (at + 1 + byte s at) ≡ Some e

  short : (at e : ℕ) → string_end s at ≡ Some e → Short at e
  unfolding string_end
  short at e h =
      let o = only_at (leb (at + 1 + byte s at) (length s) && leb (byte s at) 127) (Some (at + 1 + byte s at)) e h in
      let t = (and-eq-true_iff (leb (at + 1 + byte s at) (length s)) _).0 o.0 in
      record { fits = leb-true _ _ t.0; few = leb-true _ _ t.1; stop = o.1 }

  string_sound : (at e : ℕ) → string_end s at ≡ Some e → Told StringBytes s at e (string_at s at)
  unfolding string_at
  string_sound at e h =
      let w = short at e h in
      let q : at + 1 + byte s at ≡ e = same_end refl w.stop in
      let p = laid_part s (at + 1) (byte s at) w.fits in
      let n : length (part s (at + 1) (byte s at)) ≡ byte s at = p.1 in
      let few : length (part s (at + 1) (byte s at)) ≤ 127 = omega (arith, w.few) in
      record {
        bytes = length (part s (at + 1) (byte s at)) ∷ part s (at + 1) (byte s at);
        says = a_string few;
        laid = laid_cons s at _ _ e (omega (arith, w.fits)) (sym n) (rw q at p.0);
      }

  string_complete : {at e : ℕ} {b x : List ℕ} → StringBytes b x → Laid s at b e → (string_end s at ≡ Some e) × (x ≡ string_at s at)
  unfolding string_at
  string_complete {at} {e} (a_string {x} few) l =
      let h = laid_head l in
      let n : byte s at ≡ length x = h.first in
      let o = h.others in
      let q : at + 1 + byte s at ≡ e = omega (arith, o.stop, n) in
      (sym (string_whole s at (omega (arith, o.inside)) (omega arith)) ∙ ap Some q, rw n (sym (laid_is o)))

  pub string_reads : Reads StringBytes s (string_end s) (λ at e. string_at s at)
  string_reads = record { sound = string_sound; complete = string_complete }

  -- ---- values, by their kinds

  module _ (k : ℕ) where
    datum_string : byte s k ≡ 1 → datum_at s k ≡ text (string_at s (k + 1))
    unfolding datum_at
    datum_string j = rw j

    datum_number : byte s k ≡ 2 → datum_at s k ≡ number (number_at s (k + 1))
    unfolding datum_at
    datum_number j = rw j

    datum_flag : byte s k ≡ 3 → datum_at s k ≡ flag (eqb (byte s (k + 1)) 1)
    unfolding datum_at
    datum_flag j = rw j

    datum_list : byte s k ≡ 4 → datum_at s k ≡ texts (list_at s (k + 1))
    unfolding datum_at
    datum_list j = rw j

  -- a list's count is small
  list_few : (at e : ℕ) → list_end s at ≡ Some e → (byte s at ≤ 16) × (at < length s) × (many (byte s at) (string_end s) (at + 1) ≡ Some e)
  unfolding list_end
  list_few at e h =
      let o = only_at (ltb at (length s) && leb (byte s at) 16) (many (byte s at) (string_end s) (at + 1)) e h in
      let t = (and-eq-true_iff (ltb at (length s)) _).0 o.0 in
      (leb-true _ _ t.1, ltb-true _ _ t.0, o.1)

  value_sound : (k e : ℕ) → value_end (byte s k) s (k + 1) ≡ Some e → Told ValueBytes s k e (datum_at s k)
  unfolding list_at
  value_sound k e h = go (value_at_lem (byte s k) s (k + 1) e h)
    where
      within : k < length s
      within = let i = value_inside (byte s k) s (k + 1) e h in omega arith

      flag_laid : (b : ℕ) → byte s k ≡ 3 → byte s (k + 1) ≡ b → k + 1 < length s → e ≡ k + 1 + 1 → Laid s k (3 ∷ b ∷ []) e
      flag_laid b j c i q = laid_cons s k 3 _ e within j (laid_cons s (k + 1) b [] e i c (rw q (laid_none s (k + 1 + 1) (omega arith))))

      flagged : (b : ℕ) → byte s k ≡ 3 → byte s (k + 1) ≡ b → b ≤ 1 → k + 1 < length s → e ≡ k + 1 + 1 → Told ValueBytes s k e (flag (eqb b 1))
      flagged zero j c m i q = record { bytes = 3 ∷ 0 ∷ []; says = off; laid = flag_laid 0 j c i q }
      flagged (suc zero) j c m i q = record { bytes = 3 ∷ 1 ∷ []; says = on; laid = flag_laid 1 j c i q }
      flagged (suc (suc b)) j c m i q = absurd (omega arith)

      go : Ended (byte s k) s (k + 1) e → Told ValueBytes s k e (datum_at s k)
      go (values.string j w) =
          let t = string_sound (k + 1) e (value_string (byte s k) s (k + 1) j ∙ h) in
          told_as (sym (datum_string k j)) (record { bytes = 1 ∷ t.bytes; says = string t.says; laid = laid_cons s k 1 _ e within j t.laid })
      go (values.number j w) =
          let p = laid_part s (k + 1) 8 w.fits in
          let n = number_in p.0 p.1 in
          told_as (ap number (sym n) ∙ sym (datum_number k j))
          (record { bytes = 2 ∷ part s (k + 1) 8; says = eight p.1 (rw n at w.is); laid = laid_cons s k 2 _ e within j (rw w.stop p.0) })
      go (values.flag j w) = told_as (sym (datum_flag k j)) (flagged (byte s (k + 1)) j refl w.is w.fits w.stop)
      go (values.list j w) =
          let f = list_few (k + 1) e (value_list (byte s k) s (k + 1) j ∙ h) in
          let m = many_sound StringBytes s (string_end s) (λ at e. string_at s at) string_reads (byte s (k + 1)) (k + 1 + 1) e (omega (arith, f.1)) f.2 in
          let n = m.1 in
          told_as (sym (datum_list k j))
          (record {
            bytes = 4 ∷ length (list_at s (k + 1)) ∷ m.0.bytes;
            says = list (rw n f.0) m.0.says;
            laid = laid_cons s k 4 _ e within j (laid_cons s (k + 1) _ _ e f.1 (sym n) m.0.laid);
          })

  value_complete : {k e : ℕ} {b : List ℕ} {v : Datum} → ValueBytes b v → Laid s k b e → (value_end (byte s k) s (k + 1) ≡ Some e) × (v ≡ datum_at s k)
  unfolding list_at
  value_complete {k} {e} (string f) l =
      let h = laid_head l in
      let o = string_complete f h.others in
      (sym (value_string (byte s k) s (k + 1) h.first) ∙ o.0, ap text o.1 ∙ sym (datum_string k h.first))
  value_complete {k} {e} (eight {b} n f) l =
      let h = laid_head l in
      let o = h.others in
      let q : k + 1 + 8 ≡ e = omega (arith, o.stop) in
      let i : k + 1 + 8 ≤ length s = omega (arith, o.inside) in
      let m = number_in o n in (
        sym (value_number (byte s k) s (k + 1) h.first) ∙ sym (number_whole s (k + 1) i (rw m f)) ∙ ap Some q,
        ap number (sym m) ∙ sym (datum_number k h.first),
      )
  value_complete {k} {e} off l =
      let h = laid_head l in
      let g = laid_head h.others in
      let c : byte s (k + 1) ≡ 0 = g.first in
      let q : k + 1 + 1 ≡ e = omega (arith, g.others.stop) in
      (sym (value_flag (byte s k) s (k + 1) h.first) ∙ sym (flag_whole s (k + 1) g.within (omega arith)) ∙ ap Some q, sym (datum_flag k h.first ∙ rw c))
  value_complete {k} {e} on l =
      let h = laid_head l in
      let g = laid_head h.others in
      let c : byte s (k + 1) ≡ 1 = g.first in
      let q : k + 1 + 1 ≡ e = omega (arith, g.others.stop) in
      (sym (value_flag (byte s k) s (k + 1) h.first) ∙ sym (flag_whole s (k + 1) g.within (omega arith)) ∙ ap Some q, sym (datum_flag k h.first ∙ rw c))
  value_complete {k} {e} (list {b} {xs} few f) l =
      let h = laid_head l in
      let g = laid_head h.others in
      let c : byte s (k + 1) ≡ length xs = g.first in
      let m = many_complete StringBytes s (string_end s) (λ at e. string_at s at) string_reads f g.others in (
        sym (value_list (byte s k) s (k + 1) h.first) ∙ sym (list_whole s (k + 1) g.within (rw c few)) ∙ rw c m.0,
        ap texts (rw c m.1) ∙ sym (datum_list k h.first),
      )

  pub value_reads : Reads ValueBytes s (λ k. value_end (byte s k) s (k + 1)) (λ k e. datum_at s k)
  value_reads = record { sound = value_sound; complete = value_complete }

  -- ---- entries

  -- the entry at a place
  abbrev pub entry_here : ℕ → Entry Datum
  entry_here at = record { path = path_at s at; value = datum_at s (kind_at s at) }

  entry_sound : (at e : ℕ) → entry_end s at ≡ Some e → Told EntryBytes s at e (entry_here at)
  entry_sound at e h =
      let w = entry_at s at e h in
      let t = value_sound (kind_at s at) e w.valued in
      let p = laid_part s (at + 1) (byte s at) (omega (arith, w.named)) in
      record {
        bytes = length (path_at s at) ∷ (path_at s at ++ t.bytes);
        says = entry w.path t.says;
        laid = laid_cons s at _ _ e (omega (arith, w.named)) (sym p.1) (laid_join p.0 t.laid);
      }

  entry_complete : {at e : ℕ} {b : List ℕ} {x : Entry Datum} → EntryBytes b x → Laid s at b e → (entry_end s at ≡ Some e) × (x ≡ entry_here at)
  entry_complete {at} {e} (entry {p} {b} {v} ok f) l =
      let h = laid_head l in
      let n : byte s at ≡ length p = h.first in
      let y = laid_split p b h.others in
      let o = value_complete f y.1 in
      let i = value_inside (byte s (at + 1 + length p)) s (at + 1 + length p + 1) e o.0 in
      let q : path_at s at ≡ p = rw n (laid_is y.0) in
      let z : at + 1 + length p < length s = omega arith in
      (sym (entry_whole s at (rw n z) (rw q ok)) ∙ rw n o.0, rw (q, n) (ap (λ (d : Datum). record { path = p; value = d }) o.1))

  pub entry_reads : Reads EntryBytes s (entry_end s) (λ at e. entry_here at)
  entry_reads = record { sound = entry_sound; complete = entry_complete }

  -- ---- sections

  -- the entries of the section at a place
  unfoldable pub section_here : ℕ → List (Entry Datum)
  section_here at = each (byte s at) (entry_end s) (λ at e. entry_here at) (at + 1)

  section_sound : (at e : ℕ) → section_end s at ≡ Some e → Told SectionBytes s at e (section_here at)
  unfolding section_here
  section_sound at e h =
      let w = section_at_lem s at e h in
      let m = many_sound EntryBytes s (entry_end s) (λ at e. entry_here at) entry_reads (byte s at) (at + 1) e (omega (arith, w.counted)) w.entries in
      let n = m.1 in
      let p = map_each (λ (x : Entry Datum). x.path) (byte s at) (entry_end s) (λ at e. entry_here at) (at + 1) in
      let few : length (section_here at) ≤ 32 = rw n w.few in
      let asc : Ascending (paths_in (section_here at)) = rw p ((ascending_decides (paths_of (byte s at) s (at + 1))).sound w.ascend) in
      record {
        bytes = length (section_here at) ∷ m.0.bytes;
        says = section few asc m.0.says;
        laid = laid_cons s at _ _ e w.counted (sym n) m.0.laid;
      }

  entries_whole : (n at e : ℕ) → ascending (paths_of n s at) ≡ true → many n (entry_end s) at ≡ Some e → entries_end n s at ≡ Some e
  unfolding entries_end
  entries_whole n at e a h = rw a h

  section_complete : {at e : ℕ} {b : List ℕ} {es : List (Entry Datum)} → SectionBytes b es → Laid s at b e → (section_end s at ≡ Some e) × (es ≡ section_here at)
  unfolding section_here
  section_complete {at} {e} (section {b} {es} few asc f) l =
      let h = laid_head l in
      let n : byte s at ≡ length es = h.first in
      let m = many_complete EntryBytes s (entry_end s) (λ at e. entry_here at) entry_reads f h.others in
      let p = map_each (λ (x : Entry Datum). x.path) (length es) (entry_end s) (λ at e. entry_here at) (at + 1) in
      let u : paths_in es ≡ paths_of (length es) s (at + 1) = ap (λ (l : List (Entry Datum)). map (λ x. x.path) l) m.1 ∙ p in
      let a : ascending (paths_of (byte s at) s (at + 1)) ≡ true = rw n ((ascending_decides _).complete (rw u at asc)) in
      (sym (section_whole s at h.within (rw n few)) ∙ entries_whole (byte s at) (at + 1) e a (rw n m.0), rw n m.1)

  pub section_reads : Reads SectionBytes s (section_end s) (λ at e. section_here at)
  section_reads = record { sound = section_sound; complete = section_complete }
