-- Laws of kept places: what putting one more keeps, and what an empty slot and a slot with the path tell of a section. Assumes nothing.
use Rattle.std.specs.Prelude.{None, Option, Some}
use Prim.Native.Nat.{ℕ, zero, suc, ◌+◌, ◌-◌, ◌*◌, ◌%◌, ◌<◌, ◌≤◌}
use mathlib.Core.List.{List, ◌∷◌}
use mathlib.Core.Bool.{Bool, true, false, false≢true}
use mathlib.Core.Logic.{◌⊎◌, inl, inr}
use mathlib.Core.Path.{◌≡◌, refl, sym, ◌∙◌, ap, subst}
use borrow.Author.Tests.{ne_eqb, eqb-true, eqb-false, ltb-true, ltb-false}
use native.Mathlib.Omega.{arith}
use lib.Dec.{eqb, ltb}
use native.Mathlib.Numerals.{add-one}
use lib.ListN.{length, get_or, set, replicate, take, drop, length-set, drop_of_length-le}
use lib.Seq.{drop-cons, get_or-set_same, get_or-set_other}
use Rattle.slices.specs.Order.{SortsBefore}
use Rattle.slices.specs.Parts.{part}
use Rattle.slices.specs.Same.{same}
use Rattle.slices.proofs.Decided.{one_answer, no_to}
use Rattle.slices.proofs.Equal.{same_decides, other_length}
use Rattle.slices.proofs.Order.{not_before_itself, before_trans}
use Rattle.bags.specs.Reading.{byte, many, each, following}
use Rattle.bags.specs.Sections.{path_at, kind_at, entry_end, paths_of, Ascending, none, one, more, section_end, Sectioned}
use Rattle.bags.specs.declared.sections.Sections.{Sections}
use Rattle.bags.proofs.Ascent.{ascending_decides}
use Rattle.bags.proofs.ReadLaws.{many_more, many_inside, part_to}
use Rattle.bags.proofs.PathLaws.{path_sized}
use Rattle.bags.proofs.SectionLaws.{entry_at, section_at_lem}
use Rattle.bags.proofs.ValueLaws.{value_inside}
use Rattle.tokens.specs.Blanks.{unblanked}
use Rattle.tokens.specs.Runs.{is_of}
use Rattle.tokens.specs.declared.classes.Sort.TheVariants.{Blanks}
use Rattle.lookups.specs.Values.{absent, value_at}
use Rattle.lookups.specs.Lookups.{Entry, look_in, bag_entry_at, section_at, EntryOf, the_first, a_later, base_of}
use Rattle.slots.specs.Slots.{kept_sections, start_slot, slot_at, EntryIn, MetFrom, SlotsHold, Indexed, FirstFree, some, SlotPut, Filled}
use Rattle.slots.specs.Slots as index
use Rattle.lookups.specs.declared.values.Value.{Value}
use Rattle.lookups.proofs.BagLaws.{path_clear}
use Rattle.lookups.proofs.FindLaws.{blank_is, base_1, base_2, base_3, part_sized}

-- ---- the first empty slot

-- what holds below a number and of it, holds below the next
pub one_more : (P : ℕ → Type 0) (n : ℕ) → ((j : ℕ) → j < n → P j) → P n → (j : ℕ) → j < n + 1 → P j
one_more P n before here j h = go (ltb j n) refl
  where
    go : (t : Bool) → ltb j n ≡ t → P j
    go true z = before j (ltb-true j n z)
    go false z = let l = ltb-false j n z in let e : n ≡ j = omega arith in subst P e here

-- within as many tries as there are slots no slot comes twice
other_slot : (base start i j : ℕ) → i < 64 → j < 64 → (i ≡ j → ⊥) → base + (start + i) % 64 ≡ base + (start + j) % 64 → ⊥
other_slot base start i j h k n e = n (omega arith)

module _ (places : List ℕ) (base start x : ℕ) (sized : length places ≡ 202) (fits : base + 64 ≤ 202) (low : 0 < x) where
  -- put into the first empty slot
  there : (d : ℕ) → d < 64 → slot_at places base (start + d) ≡ 0 → ((j : ℕ) → j < d → slot_at places base (start + j) ≡ 0 → ⊥)
      → SlotPut places (set places (base + (start + d) % 64) x) base start x
  there d few empty full = record {
    sized = simp length-set sized;
    met = record { before = λ e f z. go e f z (ltb e d) (eqb e d) refl refl };
    full = λ i n. other i (λ q. n (ap (λ (m : ℕ). get_or places m 0) q ∙ empty));
    same = λ i n. other i (λ q. n (ap (λ (m : ℕ). get_or (set places (base + (start + d) % 64) x) m 0) q ∙ here));
    below = λ i l. other i (λ q. omega arith);
    above = λ i l. other i (λ q. omega arith);
  }
    where
      here : get_or (set places (base + (start + d) % 64) x) (base + (start + d) % 64) 0 ≡ x
      here = get_or-set_same places (base + (start + d) % 64) x 0 (omega arith)

      other : (i : ℕ) → (i ≡ base + (start + d) % 64 → ⊥) → get_or (set places (base + (start + d) % 64) x) i 0 ≡ get_or places i 0
      other i n = get_or-set_other places (base + (start + d) % 64) i x 0 n

      go : (e : ℕ) → e < 64 → slot_at (set places (base + (start + d) % 64) x) base (start + e) ≡ 0 → (t u : Bool) → ltb e d ≡ t → eqb e d ≡ u
          → (j : ℕ) × ((j < e) × (slot_at (set places (base + (start + d) % 64) x) base (start + j) ≡ x))
      go e f z true u p q =
          let l = ltb-true e d p in
          absurd (full e l (sym (other (base + (start + e) % 64) (other_slot base start e d f few (λ w. omega arith))) ∙ z))
      go e f z false true p q = absurd (let w : e ≡ d = eqb-true e d q in let y = rw w at z in let v = sym here ∙ y in omega arith)
      go e f z false false p q = let l = ltb-false e d p in let n = eqb-false e d q in (d, ((omega arith), here))

  pub put_there : {r : Option ℕ} → FirstFree places base start r → (k : ℕ) → r ≡ Some k → SlotPut places (set places k x) base start x
  put_there (index.none full) k e = absurd (let z : ◌≡◌ {A = ℕ} 0 1 = cc in omega arith)
  put_there (some {d} few empty full) k e = let q : base + (start + d) % 64 ≡ k = cc in rw (← q) (there d few empty full)

  -- there was none: whatever comes to an empty slot has come to it before
  pub put_nowhere : {r : Option ℕ} → FirstFree places base start r → r ≡ None → SlotPut places places base start x
  put_nowhere (some {d} few empty full) e = absurd (let z : ◌≡◌ {A = ℕ} 0 1 = cc in omega arith)
  put_nowhere (index.none full) e = record {
    sized = sized;
    met = record { before = λ e f z. absurd (full e f z) };
    full = λ i n. refl;
    same = λ i n. refl;
    below = λ i l. refl;
    above = λ i l. refl;
  }

-- what was met before one more is put, is met after it
met_kept : {before after : List ℕ} {base start x : ℕ} → SlotPut before after base start x → (from y : ℕ) → 0 < y → MetFrom before base from y → MetFrom after base from y
met_kept {before} {after} {base} p from y low m = record { before = λ d h z. go d h z (eqb (slot_at before base (from + d)) 0) refl }
  where
    go : (d : ℕ) → d < 64 → slot_at after base (from + d) ≡ 0 → (t : Bool) → eqb (slot_at before base (from + d)) 0 ≡ t → (j : ℕ) × ((j < d) × (slot_at after base (from + j) ≡ y))
    go d h z true e =
        let w = m.before d h (eqb-true _ _ e) in
        (w.0, (w.1.0, p.full (base + (from + w.0) % 64) (λ q. omega (arith, sym w.1.1 ∙ q)) ∙ w.1.1))
    go d h z false e = let n = eqb-false (slot_at before base (from + d)) 0 e in absurd (n (sym (p.full (base + (from + d) % 64) n) ∙ z))

-- ---- a path without blanks

module _ (p : List ℕ) (i : ℕ) where
  pub plain_end : length p ≤ i → unblanked (drop i p) ≡ drop i p
  unfolding unblanked
  plain_end h = rw (drop_of_length-le p h)

  -- a byte above a space is no blank
  pub plain_on : i < length p → byte p i < 256 → 32 < byte p i → unblanked (drop (i + 1) p) ≡ drop (i + 1) p → unblanked (drop i p) ≡ drop i p
  unfolding unblanked
  plain_on h low high rest =
      let b : is_of Blanks (byte p i) ≡ false = rw (← blank_is (byte p i) low) (simp (ne_eqb (byte p i) 32 (λ e. omega arith), ne_eqb (byte p i) 9 (λ e. omega arith), ne_eqb (byte p i) 10 (λ e. omega arith), ne_eqb (byte p i) 13 (λ e. omega arith))) in
      rw (drop-cons p i 0 h) (simp b (ap (λ (l : List ℕ). byte p i ∷ l) (rw add-one at rest)))

-- ---- whether an entry has a path

module _ (s path : List ℕ) (at : ℕ) where
  pub named_same : byte s at ≡ length path → (r : Bool) → r ≡ same (take (at + 1 + length path - (at + 1)) (drop (at + 1) s)) path → r ≡ same (path_at s at) path
  named_same e r h = h ∙ ap (λ (l : List ℕ). same l path) (part_to s (at + 1) (length path) ∙ ap (part s (at + 1)) (sym e))

  pub named_other : kind_at s at < length s → (byte s at ≡ length path → ⊥) → false ≡ same (path_at s at) path
  named_other h n = sym (other_length (path_at s at) path (λ q. n (sym (part_sized s (at + 1) (byte s at) (omega arith)) ∙ q)))

-- ---- entries

module _ (s : List ℕ) where
  -- an entry takes at least its length byte and its kind byte
  entry_on : (at e : ℕ) → entry_end s at ≡ Some e → at < e
  entry_on at e q = let w = value_inside _ s _ e (entry_at s at e q).valued in omega arith

  entry_inside : (at e : ℕ) → entry_end s at ≡ Some e → (at ≤ e) × (e ≤ length s)
  entry_inside at e q = let w = value_inside _ s _ e (entry_at s at e q).valued in (omega arith, w.1)

  -- a section starts and ends in the bytes
  pub section_inside : (b e : ℕ) → section_end s b ≡ Some e → (b < length s) × (e ≤ length s)
  section_inside b e h =
      let w = section_at_lem s b e h in
      (w.counted, (many_inside (entry_end s) (length s) entry_inside (byte s b) (b + 1) e (omega arith) w.entries).1)

  pub entry_low : {n at x : ℕ} → EntryOf s n at x → 0 < at → 0 < x
  entry_low (the_first q) l = l
  entry_low (a_later {at = at} {next = e} q m) l = let g = entry_on at e q in entry_low m (omega arith)

  pub entry_ends : {n at x : ℕ} → EntryOf s n at x → (e : ℕ) × (entry_end s x ≡ Some e)
  entry_ends (the_first {next = e} q) = (e, q)
  entry_ends (a_later q m) = entry_ends m

  entry_some : {n at x : ℕ} → EntryOf s n at x → 0 < n
  entry_some (the_first q) = omega arith
  entry_some (a_later q m) = omega arith

  -- it is the first, or one of those after it
  entry_cases : {n at x e : ℕ} → entry_end s at ≡ Some e → EntryOf s (suc n) at x → (x ≡ at) ⊎ EntryOf s n e x
  entry_cases q (the_first r) = inl refl
  entry_cases {n} {at} {x} {e} q (a_later {next = f} r m) = inr (let w : f ≡ e = cc in subst (λ (y : ℕ). EntryOf s n y x) w m)

module _ (s : List ℕ) (at e : ℕ) (q : entry_end s at ≡ Some e) where
  -- its path as code lends it, and how long that is
  pub lent_path : take (at + 1 + byte s at - (at + 1)) (drop (at + 1) s) ≡ path_at s at
  lent_path = part_to s (at + 1) (byte s at)

  pub lent_sized :
      (0 < length (take (at + 1 + byte s at - (at + 1)) (drop (at + 1) s))) × (length (take (at + 1 + byte s at - (at + 1)) (drop (at + 1) s)) ≤ 64)
  lent_sized = rw lent_path (path_sized (path_at s at) (entry_at s at e q).path)

-- ---- the entries of a section put one after the other

-- those before `next` have been put, `left` from it on are left
pub record Filling (s before after : List ℕ) (base b left next : ℕ) : Type 0 where
  pub sized : length after ≡ 202
  pub low : 0 < next
  pub ends : many left (entry_end s) next ≡ many (byte s b) (entry_end s) (b + 1)
  pub later : (x : ℕ) → EntryOf s left next x → EntryIn s b x
  pub passed : (x : ℕ) → EntryIn s b x → MetFrom after base (start_slot (path_at s x)) x ⊎ EntryOf s left next x
  pub held : (k : ℕ) → k < 64 → (get_or after (base + k) 0 ≡ 0 → ⊥) → EntryIn s b (get_or after (base + k) 0)
  pub below : (k : ℕ) → k < base → get_or after k 0 ≡ get_or before k 0
  pub above : (k : ℕ) → base + 64 ≤ k → get_or after k 0 ≡ get_or before k 0

module _ (s before : List ℕ) (base b : ℕ) where
  pub filling_starts : length before ≡ 202 → ((k : ℕ) → base ≤ k → k < base + 64 → get_or before k 0 ≡ 0) → Filling s before before base b (byte s b) (b + 1)
  filling_starts sized empty = record {
    sized = sized;
    low = omega arith;
    ends = refl;
    later = λ x m. m;
    passed = λ x m. inr m;
    held = λ k h n. absurd (n (empty (base + k) (omega arith) (omega arith)));
    below = λ k h. refl;
    above = λ k h. refl;
  }

  module _ (after : List ℕ) (left next : ℕ) (f : Filling s before after base b left next) where
    pub filled : left ≤ 0 → Filled s before after base b
    filled h = record {
      sized = f.sized;
      kept = record { held = f.held; met = λ x m. go x (f.passed x m) };
      below = f.below;
      above = f.above;
    }
      where
        go : (x : ℕ) → MetFrom after base (start_slot (path_at s x)) x ⊎ EntryOf s left next x → MetFrom after base (start_slot (path_at s x)) x
        go x (inl w) = w
        go x (inr m) = let l = entry_some s m in absurd (omega arith)

    pub filling_on : (after' : List ℕ) (e : ℕ) → 0 < left → entry_end s next ≡ Some e → SlotPut after after' base (start_slot (path_at s next)) next
        → Filling s before after' base b (left - 1) e
    filling_on after' e h q p = record {
      sized = p.sized;
      low = let g = entry_on s next e q in omega arith;
      ends = sym (many_more (entry_end s) left next e h q) ∙ f.ends;
      later = λ x m. f.later x (rw is (a_later q m));
      passed = λ x m. pass x m (f.passed x m);
      held = λ k l n. hold k l n (eqb (get_or after' (base + k) 0) next) refl;
      below = λ k l. p.below k l ∙ f.below k l;
      above = λ k l. p.above k l ∙ f.above k l;
    }
      where
        is : left ≡ suc (left - 1)
        is = omega arith

        first : EntryOf s left next next
        first = rw is (the_first q)

        pass : (x : ℕ) → EntryIn s b x → MetFrom after base (start_slot (path_at s x)) x ⊎ EntryOf s left next x → MetFrom after' base (start_slot (path_at s x)) x ⊎ EntryOf s (left - 1) e x
        pass x m (inl w) = inl (met_kept p _ x (entry_low s m (omega arith)) w)
        pass x m (inr w) = turn (entry_cases s q (rw is at w))
          where
            turn : (x ≡ next) ⊎ EntryOf s (left - 1) e x → MetFrom after' base (start_slot (path_at s x)) x ⊎ EntryOf s (left - 1) e x
            turn (inl y) = inl (rw y p.met)
            turn (inr y) = inr y

        hold : (k : ℕ) → k < 64 → (get_or after' (base + k) 0 ≡ 0 → ⊥) → (t : Bool) → eqb (get_or after' (base + k) 0) next ≡ t → EntryIn s b (get_or after' (base + k) 0)
        hold k l n true y = let w : get_or after' (base + k) 0 ≡ next = eqb-true _ _ y in rw w (f.later next first)
        hold k l n false y = let w = p.same (base + k) (eqb-false _ _ y) in rw w (f.held k l (λ z. n (w ∙ z)))

-- ---- what the slots tell of a section

apart : {p q : List ℕ} {ps : List (List ℕ)} → Ascending (p ∷ q ∷ ps) → SortsBefore p q × Ascending (q ∷ ps)
apart (more b r) = (b, r)

another : {p q path : List ℕ} → SortsBefore p q → q ≡ path → p ≡ path → ⊥
another {p} {q} b k s = let z : q ≡ p = k ∙ sym s in not_before_itself (rw z at b)

behind : {p : List ℕ} {ps : List (List ℕ)} → Ascending (p ∷ ps) → Ascending ps
behind one = none
behind (more b r) = r

module _ (s path : List ℕ) where
  -- an entry behind a path stands after it
  later_after : {p : List ℕ} {n at entry : ℕ} → EntryOf s n at entry → Ascending (p ∷ paths_of n s at) → SortsBefore p (path_at s entry)
  unfolding each
  later_after (the_first q) a = (apart (rw q at a)).0
  later_after {p = p} (a_later {n = n} {at = at} {next = next} {entry = entry} q m) a =
      let w = apart (rw q at a) in before_trans w.0 (later_after {p = path_at s at} m w.1)

  -- where an entry with the path stands, its value is found: no other entry of the section has this path
  found_among : {n at entry : ℕ} → EntryOf s n at entry → path_at s entry ≡ path → Ascending (paths_of n s at)
      → look_in absent (each n (entry_end s) (bag_entry_at s) at) path ≡ value_at s (kind_at s entry)
  unfolding each look_in
  found_among {at = at} (the_first {next = e} q) k a = rw (q, (same_decides (path_at s at) path).complete k)
  found_among {at = at} (a_later {n = n} {next = e} q m) k a =
      let w : Ascending (path_at s at ∷ paths_of n s e) = rw q at a in
      let b = later_after m w in
      let other = one_answer (same (path_at s at) path) false (same_decides (path_at s at) path) (no_to (another b k)) in
      rw (q, other) (found_among m k (behind w))

  -- where no entry has the path, nothing is found
  nothing_among : (n at : ℕ) → ((x : ℕ) → EntryOf s n at x → path_at s x ≡ path → ⊥) → look_in absent (each n (entry_end s) (bag_entry_at s) at) path ≡ absent
  unfolding each look_in
  nothing_among zero at empty = refl
  nothing_among (suc n) at empty = go (entry_end s at) refl (nothing_among n)
    where
      go : (a : Option ℕ) → entry_end s at ≡ a → ((e : ℕ) → ((x : ℕ) → EntryOf s n e x → path_at s x ≡ path → ⊥) → look_in absent (each n (entry_end s) (bag_entry_at s) e) path ≡ absent)
          → look_in absent (following a λ e. bag_entry_at s at e ∷ each n (entry_end s) (bag_entry_at s) e) path ≡ absent
      go None q rest = refl
      go (Some e) q rest =
          let other = one_answer (same (path_at s at) path) false (same_decides (path_at s at) path) (no_to (empty at (the_first q))) in
          rw other (rest e (λ x m. empty x (a_later q m)))

  module _ (b : ℕ) where
    pub found_section : (e : ℕ) {x : ℕ} → section_end s b ≡ Some e → EntryIn s b x → path_at s x ≡ path → look_in absent (section_at s b) path ≡ value_at s (kind_at s x)
    unfolding section_at
    found_section e h m k = found_among m k ((ascending_decides (paths_of (byte s b) s (b + 1))).sound (section_at_lem s b e h).ascend)

    -- an empty slot, and no slot before it with the path: no entry has it
    pub nothing_section : (places : List ℕ) (base d : ℕ) → SlotsHold s places base b → d < 64 → slot_at places base (start_slot path + d) ≡ 0
        → ((j : ℕ) → j < d → path_at s (slot_at places base (start_slot path + j)) ≡ path → ⊥) → look_in absent (section_at s b) path ≡ absent
    unfolding section_at
    nothing_section places base d k h z before = nothing_among (byte s b) (b + 1) (λ x m q. empty x q (k.met x m))
      where
        empty : (x : ℕ) → path_at s x ≡ path → MetFrom places base (start_slot (path_at s x)) x → ⊥
        empty x q m =
            let w = (rw q at m).before d h z in
            before w.0 w.1.0 (ap (path_at s) w.1.1 ∙ q)

-- ---- the slots of a root byte

-- a root byte's section and slots
pub record Rooted (s places : List ℕ) (root : ℕ) : Type 0 where
  pub count : ℕ
  pub stop : ℕ
  pub section : section_end s count ≡ Some stop
  pub kept : SlotsHold s places (64 * (root - 1)) count
  pub is : section_at s count ≡ base_of s (kept_sections places) root

module _ (s places : List ℕ) (root : ℕ) where
  pub rooted : Sectioned s (kept_sections places) → Indexed s places → 0 < root → root ≤ 3 → Rooted s places root
  rooted w i l h = go (eqb root 1) (eqb root 2) refl refl
    where
      go : (a b : Bool) → eqb root 1 ≡ a → eqb root 2 ≡ b → Rooted s places root
      go true b p q =
          let e : root ≡ 1 = eqb-true root 1 p in
          rw e (record { count = 0; stop = (kept_sections places).resource; section = w.principal; kept = i.principal; is = base_1 s (kept_sections places) 1 refl })
      go false true p q =
          let e : root ≡ 2 = eqb-true root 2 q in
          rw e (record { count = (kept_sections places).resource; stop = (kept_sections places).env; section = w.resource; kept = i.resource; is = base_2 s (kept_sections places) 2 refl })
      go false false p q =
          let n = eqb-false root 1 p in
          let m = eqb-false root 2 q in
          let e : root ≡ 3 = omega arith in
          rw e (record { count = (kept_sections places).env; stop = (kept_sections places).end; section = w.env; kept = i.env; is = base_3 s (kept_sections places) 3 refl })

  module _ (r : Rooted s places root) (path : List ℕ) where
    -- an empty slot, and no slot before it with the path: the attribute is absent
    pub absent_in : (start d : ℕ) → start ≡ start_slot path → d < 64 → slot_at places (64 * (root - 1)) (start + d) ≡ 0
        → ((j : ℕ) → j < d → path_at s (slot_at places (64 * (root - 1)) (start + j)) ≡ path → ⊥) → unblanked path ≡ path
        → absent ≡ look_in absent (base_of s (kept_sections places) root) (unblanked path)
    absent_in start d is h z before plain =
        sym (nothing_section s path r.count places (64 * (root - 1)) d r.kept h (rw is at z) (rw is at before))
        ∙ ap (look_in absent (section_at s r.count)) (sym plain) ∙ ap (λ (es : List (Entry Value)). look_in absent es (unblanked path)) r.is

    module _ (k x : ℕ) (is : x ≡ slot_at places (64 * (root - 1)) k) (n : x ≡ 0 → ⊥) where
      slot_held : EntryIn s r.count x
      slot_held = rw is (r.kept.held (k % 64) (omega arith) (λ z. n (is ∙ z)))

      -- a slot that is not empty has an entry
      pub slot_ends : (e : ℕ) × (entry_end s x ≡ Some e)
      slot_ends = entry_ends s slot_held

      -- a slot with the path: the attribute is its entry's value
      pub found_in : same (path_at s x) path ≡ true
          → (x + 1 + length path ≡ kind_at s x) × (value_at s (kind_at s x) ≡ look_in absent (base_of s (kept_sections places) root) (unblanked path))
      found_in t =
          let q : path_at s x ≡ path = (same_decides (path_at s x) path).sound t in
          let w = entry_at s x slot_ends.0 slot_ends.1 in
          let plain : unblanked path ≡ path = rw q at (path_clear (path_at s x) w.path) in
          let size : length path ≡ byte s x = sym (ap length q) ∙ part_sized s (x + 1) (byte s x) (omega arith) in (
            ap (λ (m : ℕ). x + 1 + m) size,
            sym (found_section s path r.count r.stop r.section slot_held q)
                ∙ ap (look_in absent (section_at s r.count)) (sym plain) ∙ ap (λ (es : List (Entry Value)). look_in absent es (unblanked path)) r.is,
          )

      pub other_in : same (path_at s x) path ≡ false → path_at s (slot_at places (64 * (root - 1)) k) ≡ path → ⊥
      other_in t q = false≢true (sym t ∙ (same_decides (path_at s x) path).complete (ap (path_at s) is ∙ q))

-- ---- numbers behind the slots

-- a root's slots hold a section's entries by their numbers alone
kept_by_slots : (s old new : List ℕ) (base b : ℕ) → ((k : ℕ) → k < 64 → get_or new (base + k) 0 ≡ get_or old (base + k) 0) → SlotsHold s old base b → SlotsHold s new base b
kept_by_slots s old new base b same w = record {
  held = λ k h n. rw (same k h) (w.held k h (λ z. n (same k h ∙ z)));
  met = λ x m. record { before = λ d h z. go x d ((w.met x m).before d h (sym (same ((start_slot (path_at s x) + d) % 64) (omega arith)) ∙ z)) };
}
  where
    go : (x d : ℕ) → (j : ℕ) × ((j < d) × (slot_at old base (start_slot (path_at s x) + j) ≡ x)) → (j : ℕ) × ((j < d) × (slot_at new base (start_slot (path_at s x) + j) ≡ x))
    go x d (j, (l, q)) = (j, (l, same ((start_slot (path_at s x) + j) % 64) (omega arith) ∙ q))

module _ (s old new : List ℕ) (same : (k : ℕ) → k < 195 → get_or new k 0 ≡ get_or old k 0) where
  -- what the first 195 numbers say does not go by those after them
  pub sections_by_slots : kept_sections new ≡ kept_sections old
  sections_by_slots = rw (same 192 (omega arith), same 193 (omega arith), same 194 (omega arith))

  pub indexed_by_slots : Indexed s old → Indexed s new
  indexed_by_slots w = record {
    principal = kept_by_slots s old new 0 0 (λ k h. same (0 + k) (omega arith)) w.principal;
    resource = rw (same 192 (omega arith)) (kept_by_slots s old new 64 _ (λ k h. same (64 + k) (omega arith)) w.resource);
    env = rw (same 193 (omega arith)) (kept_by_slots s old new 128 _ (λ k h. same (128 + k) (omega arith)) w.env);
  }

-- ---- the three sections

-- before anything is put all slots are empty
pub all_empty : (n k : ℕ) → get_or {A = ℕ} (replicate n 0) k 0 ≡ 0
all_empty zero k = refl
all_empty (suc n) zero = refl
all_empty (suc n) (suc k) = all_empty n k

-- three numbers set behind the slots
abbrev with_one : List ℕ → Sections → List ℕ
with_one places p = set places 192 p.resource

abbrev with_two : List ℕ → Sections → List ℕ
with_two places p = set (with_one places p) 193 p.env

abbrev pub with_sections : List ℕ → Sections → List ℕ
with_sections places p = set (with_two places p) 194 p.end

module _ (places : List ℕ) (p : Sections) (sized : length places ≡ 202) where
  with_sized : length (with_sections places p) ≡ 202
  with_sized = simp length-set sized

  with_other : (k : ℕ) → (k ≡ 192 → ⊥) → (k ≡ 193 → ⊥) → (k ≡ 194 → ⊥) → get_or (with_sections places p) k 0 ≡ get_or places k 0
  with_other k a b c = get_or-set_other (with_two places p) 194 k p.end 0 c ∙ get_or-set_other (with_one places p) 193 k p.env 0 b ∙ get_or-set_other places 192 k p.resource 0 a

  with_resource : get_or (with_sections places p) 192 0 ≡ p.resource
  with_resource =
      get_or-set_other (with_two places p) 194 192 p.end 0 (λ e. omega arith)
      ∙ get_or-set_other (with_one places p) 193 192 p.env 0 (λ e. omega arith) ∙ get_or-set_same places 192 p.resource 0 (omega arith)

  with_env : get_or (with_sections places p) 193 0 ≡ p.env
  with_env = get_or-set_other (with_two places p) 194 193 p.end 0 (λ e. omega arith) ∙ get_or-set_same (with_one places p) 193 p.env 0 (simp length-set (omega arith))

  with_end : get_or (with_sections places p) 194 0 ≡ p.end
  with_end = get_or-set_same (with_two places p) 194 p.end 0 (simp length-set (omega arith))

module _ (s a b c d : List ℕ) (p : Sections) (none : (k : ℕ) → get_or a k 0 ≡ 0) (one : Filled s a b 0 0) (two : Filled s b c 64 p.resource) (three : Filled s c d 128 p.env) where
  pub index_sections : kept_sections (with_sections d p) ≡ p
  index_sections = rw (with_resource d p three.sized, with_env d p three.sized, with_end d p three.sized)

  pub index_sized : length (with_sections d p) ≡ 202
  index_sized = with_sized d p three.sized

  pub index_free : (i : ℕ) → 195 ≤ i → get_or (with_sections d p) i 0 ≡ 0
  index_free i h =
      with_other d p three.sized i (λ e. omega arith) (λ e. omega arith) (λ e. omega arith)
      ∙ three.above i (omega arith) ∙ two.above i (omega arith) ∙ one.above i (omega arith) ∙ none i

  pub indexed : Indexed s (with_sections d p)
  indexed = record {
    principal = kept_by_slots s b (with_sections d p) 0 0 (λ k h. slots (0 + k) (omega arith) ∙ three.below (0 + k) (omega arith) ∙ two.below (0 + k) (omega arith)) one.kept;
    resource = rw (with_resource d p three.sized) (kept_by_slots s c (with_sections d p) 64 p.resource (λ k h. slots (64 + k) (omega arith) ∙ three.below (64 + k) (omega arith)) two.kept);
    env = rw (with_env d p three.sized) (kept_by_slots s d (with_sections d p) 128 p.env (λ k h. slots (128 + k) (omega arith)) three.kept);
  }
    where
      slots : (k : ℕ) → k < 192 → get_or (with_sections d p) k 0 ≡ get_or d k 0
      slots k h = with_other d p three.sized k (λ e. omega arith) (λ e. omega arith) (λ e. omega arith)
