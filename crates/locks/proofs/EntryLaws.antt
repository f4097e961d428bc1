-- Laws of a vocabulary's entries, and of words and strings. Assumes nothing.
use mathlib.Core.Path.{◌≡◌, refl, sym, ap, ◌∙◌}
use mathlib.Core.Bool.{Bool, true, false, cond, ◌&&◌}
use mathlib.Core.List.{List, [], ◌∷◌}
use Prim.Native.Nat.{ℕ, zero, suc, ◌+◌, ◌-◌, ◌≤◌, ◌<◌}
use native.Mathlib.Omega.{arith}
use lib.Dec.{eqb, leb}
use lib.ListN.{length, get_or, take, drop, length-drop}
use lib.Seq.{length-take-le}
use borrow.Author.Tests.{le-ltb, lt-ltb, le-leb, lt-leb, eq-eqb, ne_eqb, eqb-true, eqb-false, leb-true}
use Rattle.slices.specs.Decides.{Decides}
use Rattle.slices.specs.Parts.{part}
use Rattle.slices.specs.Same.{same}
use Rattle.slices.proofs.Decided.{one_answer}
use Rattle.slices.proofs.Equal.{same_is}
use Rattle.utf8.specs.Characters.{Utf8}
use Rattle.utf8.specs.Reading.{utf8}
use Rattle.utf8.proofs.Readings.{utf8_decides}
use Rattle.tokens.specs.Bytes.{class_of}
use Rattle.tokens.specs.Runs.{is_of, run, run_end}
use Rattle.tokens.specs.declared.classes.Sort.{Sort}
use Rattle.tokens.specs.declared.classes.Sort.TheVariants.{Letters, WordBytes, StringBytes}
use Rattle.bags.specs.Paths.{every}
use Rattle.bags.specs.Reading.{byte}
use Rattle.placing.specs.Said.{Word}
use Rattle.locks.specs.Reading.{no_entry, word_end, path_end, entry_places_at, word_of, find_from, is_short_word, is_entry, entries_from, is_rule_string, EntryLies, EntryIs, action_at, ActionIs}
use Rattle.std.specs.Prelude.{Some, None}
use Rattle.locks.specs.declared.Piece.{Piece}
use Rattle.locks.specs.declared.vocabulary.EntryPlaces.{EntryPlaces}

-- ---- an entry

pub lies_none : (v : List ℕ) → EntryLies v no_entry
lies_none v =
    record { word_low = omega arith; word_high = omega arith; path_low = omega arith; path_high = omega arith; path_few = omega arith; next_high = omega arith }

pub none_is : (v : List ℕ) (r e : EntryPlaces) → r ≡ no_entry → no_entry ≡ e → EntryIs v r e
none_is v r e p q = record { answer = p ∙ q; lies = rw p (lies_none v) }

module _ (v : List ℕ) (at : ℕ) where
  pub cut : length v ≤ path_end v at → no_entry ≡ entry_places_at v at
  unfolding entry_places_at
  cut h = simp (le-ltb _ _ h)

  -- the entry that is there
  abbrev pub entry_here : EntryPlaces
  entry_here =
      record { sort = byte v (path_end v at); word = at + 1; stop = word_end v at; path = word_end v at + 1; end = path_end v at; next = path_end v at + 1 }

  pub whole : path_end v at < length v → entry_here ≡ entry_places_at v at
  unfolding entry_places_at
  whole h = simp (lt-ltb _ _ h)

  pub entry_whole : byte v (word_end v at) < 256 → path_end v at < length v → EntryIs v entry_here (entry_places_at v at)
  entry_whole b h =
      record {
        answer = whole h;
        lies =
            record {
              word_low = omega arith;
              word_high = omega arith;
              path_low = omega arith;
              path_high = omega arith;
              path_few = omega arith;
              next_high = omega arith;
            };
      }

-- ---- the entry that has a word

module _ (v : List ℕ) (w : Word) (at : ℕ) (e : EntryPlaces) (q : e ≡ entry_places_at v at) where
  pub find_stop : (n : ℕ) → 0 < n → e.sort ≡ 0 → no_entry ≡ find_from n v at w
  unfolding find_from
  find_stop zero h z = absurd (omega arith)
  find_stop (suc n) h z = rw (← q, eq-eqb _ _ z)

  module _ (some : e.sort ≡ 0 → ⊥) {r : Bool} (d : Decides (take (e.stop - e.word) (drop e.word v) ≡ w) r) where
    alike : same (word_of v e) w ≡ r
    unfolding word_of part
    alike = sym (same_is _ _ d)

    pub find_here : (n : ℕ) → 0 < n → r ≡ true → e ≡ find_from n v at w
    unfolding find_from
    find_here zero h t = absurd (omega arith)
    find_here (suc n) h t = rw (← q, ne_eqb _ _ some, alike, t)

    pub find_on : (n : ℕ) → 0 < n → r ≡ false → find_from (n - 1) v e.next w ≡ find_from n v at w
    unfolding find_from
    find_on zero h f = absurd (omega arith)
    find_on (suc n) h f = let m : suc n - 1 ≡ n = omega arith in rw (m, ← q, ne_eqb _ _ some, alike, f)

pub find_done : (v : List ℕ) (w : Word) (at n : ℕ) → n ≤ 0 → no_entry ≡ find_from n v at w
unfolding find_from
find_done v w at zero h = refl
find_done v w at (suc n) h = absurd (omega arith)

-- ---- a word, a string

eqb_suc : (a b : ℕ) → eqb (suc a) (suc b) ≡ eqb a b
eqb_suc a b = go (eqb a b) refl
  where
    go : (t : Bool) → eqb a b ≡ t → eqb (suc a) (suc b) ≡ eqb a b
    go true e = eq-eqb (suc a) (suc b) (ap suc (eqb-true a b e)) ∙ sym e
    go false e = ne_eqb (suc a) (suc b) (λ z. eqb-false a b e (omega arith)) ∙ sym e

-- all bytes are of a sort where the run of them is all
pub every_run : (sort : Sort) (w : List ℕ) → eqb (run sort w) (length w) ≡ every (is_of sort) w
unfolding every run
every_run sort [] = refl
every_run sort (b ∷ rest) = go (is_of sort b) (every_run sort rest)
  where
    go : (t : Bool) → eqb (run sort rest) (length rest) ≡ every (is_of sort) rest
        → eqb (cond t (suc (run sort rest)) 0) (suc (length rest)) ≡ (t && every (is_of sort) rest)
    go true ih = eqb_suc (run sort rest) (length rest) ∙ ih
    go false ih = ne_eqb 0 (suc (length rest)) (λ z. omega arith)

pub run_all : (sort : Sort) (w : List ℕ) (end : ℕ) → end ≡ run_end sort w 0 → eqb end (length w) ≡ every (is_of sort) w
run_all sort w end e = let z : end ≡ run sort w = omega arith in rw z (every_run sort w)

pub short_none : (w : Word) → length w ≡ 0 → false ≡ is_short_word w
unfolding is_short_word every class_of
short_none [] h = refl
short_none (b ∷ rest) h = absurd (omega arith)

pub short_long : (w : Word) → 64 < length w → false ≡ is_short_word w
unfolding is_short_word
short_long w h = simp (lt-leb _ _ h)

pub short_is : (w : Word) (a : Bool) (end : ℕ) → length w ≤ 64 → a ≡ is_of Letters (get_or w 0 0) → end ≡ run_end WordBytes w 0
    → (a && eqb end (length w)) ≡ is_short_word w
unfolding is_short_word
short_is w a end h p q = rw (p, run_all WordBytes w end q, le-leb _ _ h)

pub string_is : (s : List ℕ) (end : ℕ) (u : Bool) → end ≡ run_end StringBytes s 0 → Decides (Utf8 s) u → (leb (length s) 127 && eqb end (length s) && u) ≡ is_rule_string s
unfolding is_rule_string
string_is s end u q d = rw (run_all StringBytes s end q, one_answer u (utf8 s) d (utf8_decides s))

-- ---- a vocabulary

module _ (v : List ℕ) where
  pub entries_end : (n at : ℕ) → length v ≤ at → true ≡ entries_from n v at
  unfolding entries_from
  entries_end zero at h = sym (le-leb _ _ h)
  entries_end (suc n) at h = rw (le-leb _ _ h)

  pub entries_none : (n at : ℕ) → n ≤ 0 → leb (length v) at ≡ entries_from n v at
  unfolding entries_from
  entries_none zero at h = refl
  entries_none (suc n) at h = absurd (omega arith)

  module _ (at : ℕ) (e : EntryPlaces) (q : e ≡ entry_places_at v at) (h : at < length v) where
    pub entries_bad : (n : ℕ) → (n ≡ 0 → ⊥) → is_entry v e ≡ false → false ≡ entries_from n v at
    unfolding entries_from
    entries_bad zero s b = absurd (s refl)
    entries_bad (suc n) s b = rw (lt-leb _ _ h, ← q, b)

    pub entries_on : (n : ℕ) → (n ≡ 0 → ⊥) → is_entry v e ≡ true → entries_from (n - 1) v e.next ≡ entries_from n v at
    unfolding entries_from
    entries_on zero s b = absurd (s refl)
    entries_on (suc n) s b = let m : suc n - 1 ≡ n = omega arith in rw (m, lt-leb _ _ h, ← q, b)

-- ---- an action

-- a string is short
pub short_string : (s : List ℕ) → is_rule_string s ≡ true → length s ≤ 127
unfolding is_rule_string
short_string s h = go (leb (length s) 127) refl h
  where
    go : (t : Bool) → leb (length s) 127 ≡ t → (t && every (is_of StringBytes) s && utf8 s) ≡ true → length s ≤ 127
    go true e w = leb-true _ _ e
    go false e w = absurd (let z : ◌≡◌ {A = ℕ} 0 1 = cc in omega arith)

-- no part is some part
pub no_part : {p : Piece} → None ≡ Some p → ⊥
no_part e = let z : ◌≡◌ {A = ℕ} 0 1 = cc in omega arith

module _ (a : List ℕ) (at : ℕ) where
  action_none : None ≡ action_at a at → ActionIs a None (action_at a at)
  action_none q = record { answer = q; order = λ x e. absurd (no_part e); high = λ x e. absurd (no_part e); few = λ x e. absurd (no_part e) }

  pub action_past : length a ≤ at → ActionIs a None (action_at a at)
  unfolding action_at
  action_past h = action_none (simp (le-ltb _ _ h))

  pub action_cut : at < length a → length a < at + 1 + byte a at → ActionIs a None (action_at a at)
  unfolding action_at
  action_cut h k = action_none (simp (lt-ltb _ _ h, lt-leb _ _ k))

  pub action_bad : at < length a → at + 1 + byte a at ≤ length a → is_rule_string (take (at + 1 + byte a at - (at + 1)) (drop (at + 1) a)) ≡ false
      → ActionIs a None (action_at a at)
  unfolding action_at part
  action_bad h k b =
      let n : at + 1 + byte a at - (at + 1) ≡ byte a at = omega arith in
      action_none (simp (lt-ltb _ _ h, le-leb _ _ k, rw n at b))

  pub action_good : at < length a → at + 1 + byte a at ≤ length a → is_rule_string (take (at + 1 + byte a at - (at + 1)) (drop (at + 1) a)) ≡ true
      → ActionIs a (Some (record { start = at + 1; end = at + 1 + byte a at })) (action_at a at)
  unfolding action_at part
  action_good h k b =
      let n : at + 1 + byte a at - (at + 1) ≡ byte a at = omega arith in
      let s = short_string _ (rw n at b) in
      let l : length (take (byte a at) (drop (at + 1) a)) ≡ byte a at = length-take-le (byte a at) (drop (at + 1) a) (omega (arith, length-drop (at + 1) a)) in
      let r : Piece = record { start = at + 1; end = at + 1 + byte a at } in
      let same_part : (x : Piece) → Some r ≡ Some x → r ≡ x = λ x e. cc in
      record {
        answer = simp (lt-ltb _ _ h, le-leb _ _ k, rw n at b);
        order = λ x e. rw (← same_part x e) (omega arith);
        high = λ x e. rw (← same_part x e) (omega arith);
        few = λ x e. rw (← same_part x e) (omega arith);
      }
