-- The reader of vocabularies takes the bytes of entries and no others, and finds each word's entry. Assumes nothing.
use mathlib.Core.Path.{◌≡◌, refl, sym, ap, ◌∙◌}
use mathlib.Core.Bool.{Bool, true, false, cond, ◌&&◌, ◌||◌, and-eq-true_iff, false≢true}
use mathlib.Core.List.Memᴰ
use mathlib.Core.List.{List, [], ◌∷◌, ◌++◌, Memᴰ}
use mathlib.Core.Logic.{⊎_elim}
use mathlib.Core.Option.{Option, none, some}
use Prim.Native.Nat.{ℕ, zero, suc, ◌+◌, ◌-◌, ◌≤◌, ◌<◌}
use native.Mathlib.Omega.{arith}
use lib.Dec.{eqb, leb, ltb}
use lib.ListN.{length}
use borrow.Author.Tests.{lt-ltb, le-leb, lt-leb, eq-eqb, ltb-true, ltb-false, leb-true, eqb-true, eqb-false}
use Rattle.slices.specs.Parts.{part}
use Rattle.slices.specs.Same.{same}
use Rattle.slices.proofs.Equal.{same_decides, same_itself}
use Rattle.slices.proofs.Decided.{refuted}
use Rattle.bags.specs.Forms.{InTurn, none as no_more, more}
use Rattle.bags.specs.Paths.{is_path}
use Rattle.bags.specs.Reading.{byte}
use Rattle.bags.proofs.Laid.{Laid, laid_none, laid_cons, laid_part, laid_join, laid_split, laid_head, laid_is}
use Rattle.questions.specs.Forms.{NoneOf, none as no_other, other, Distinct, empty, new}
use Rattle.placing.specs.Said.{Word}
use Rattle.locks.specs.Reading.{no_entry, word_end, path_end, entry_places_at, word_of, path_of, found_in, find_from, is_short_word, is_entry, entries_from, most}
use Rattle.locks.specs.Forms.{WordSort, equality, membership, numbers, sort_byte, VocabularyEntry, AWord, VocabularyEntryBytes, entry, vocabulary_words}
use Rattle.locks.specs.declared.vocabulary.EntryPlaces.{EntryPlaces}
use Rattle.locks.proofs.EntryLaws.{cut, entry_here, whole}
use Rattle.locks.proofs.Strings.{word_short, short_word}

-- ---- sorts

unfoldable pub sort_of : ℕ → WordSort
sort_of b = cond (eqb b 1) equality (cond (eqb b 2) membership numbers)

pub sort_of_lem : (s : WordSort) → sort_of (sort_byte s) ≡ s
unfolding sort_of sort_byte
sort_of_lem equality = refl
sort_of_lem membership = refl
sort_of_lem numbers = refl

either : (a b : Bool) → b ≡ true → (a || b) ≡ true
either true b h = refl
either false b h = h

-- a byte that is the byte of a sort
pub sort_byte_lem : (b : ℕ) → (eqb b 0 || ltb 3 b) ≡ false → sort_byte (sort_of b) ≡ b
unfolding sort_of sort_byte
sort_byte_lem zero h = absurd (let z : ◌≡◌ {A = ℕ} 0 1 = cc in omega arith)
sort_byte_lem (suc zero) h = refl
sort_byte_lem (suc (suc zero)) h = refl
sort_byte_lem (suc (suc (suc zero))) h = refl
sort_byte_lem (suc (suc (suc (suc b)))) h =
    absurd (false≢true (sym h ∙ either (eqb (suc (suc (suc (suc b)))) 0) _ (lt-ltb 3 (suc (suc (suc (suc b)))) (omega arith))))

sort_good : (s : WordSort) → (eqb (sort_byte s) 0 || ltb 3 (sort_byte s)) ≡ false
unfolding sort_byte
sort_good equality = refl
sort_good membership = refl
sort_good numbers = refl

pub sort_some : (s : WordSort) → eqb (sort_byte s) 0 ≡ false
unfolding sort_byte
sort_some equality = refl
sort_some membership = refl
sort_some numbers = refl

-- ---- a word among entries

-- the first entry that has the word
unfoldable pub lookup_in : Word → List VocabularyEntry → Option VocabularyEntry
lookup_in w [] = none
lookup_in w (x ∷ xs) = cond (same x.word w) (some x) (lookup_in w xs)

pub lookup_some : (w : Word) (es : List VocabularyEntry) (x : VocabularyEntry) → lookup_in w es ≡ some x → Memᴰ x es × (x.word ≡ w)
unfolding lookup_in
lookup_some w [] x h = absurd (let z : ◌≡◌ {A = ℕ} 0 1 = cc in omega arith)
lookup_some w (y ∷ ys) x h = go (same y.word w) refl h (lookup_some w ys x)
  where
    go : (t : Bool) → same y.word w ≡ t → cond t (some y) (lookup_in w ys) ≡ some x → (lookup_in w ys ≡ some x → Memᴰ x ys × (x.word ≡ w))
        → Memᴰ x (y ∷ ys) × (x.word ≡ w)
    go true e q ih = let r : x ≡ y = cc in (Memᴰ.head r, ap (λ (z : VocabularyEntry). z.word) r ∙ (same_decides y.word w).sound e)
    go false e q ih = let r = ih q in (Memᴰ.tail r.0, r.1)

pub lookup_none : (w : Word) (es : List VocabularyEntry) → lookup_in w es ≡ none → NoneOf w (vocabulary_words es)
unfolding lookup_in
lookup_none w [] h = no_other
lookup_none w (y ∷ ys) h = go (same y.word w) refl h (lookup_none w ys)
  where
    go : (t : Bool) → same y.word w ≡ t → cond t (some y) (lookup_in w ys) ≡ none → (lookup_in w ys ≡ none → NoneOf w (vocabulary_words ys)) → NoneOf w (vocabulary_words (y ∷ ys))
    go true e q ih = absurd (let z : ◌≡◌ {A = ℕ} 0 1 = cc in omega arith)
    go false e q ih = other (λ r. refuted (same_decides y.word w) e (sym r)) (ih q)

pub none_lookup : (w : Word) (es : List VocabularyEntry) → NoneOf w (vocabulary_words es) → lookup_in w es ≡ none
unfolding lookup_in
none_lookup w [] h = refl
none_lookup w (y ∷ ys) (other n r) = rw (differ, none_lookup w ys r)
  where
    go : (t : Bool) → same y.word w ≡ t → same y.word w ≡ false
    go false e = e
    go true e = absurd (n (sym ((same_decides y.word w).sound e)))

    differ : same y.word w ≡ false
    differ = go (same y.word w) refl

none_mem : (w : Word) (es : List VocabularyEntry) (x : VocabularyEntry) → NoneOf w (vocabulary_words es) → Memᴰ x es → x.word ≡ w → ⊥
none_mem w [] x n m e = Memᴰ.not-nil m
none_mem w (y ∷ ys) x (other n r) m e =
    ⊎_elim (λ (q : x ≡ y). n (sym (ap (λ (z : VocabularyEntry). z.word) (sym q) ∙ e))) (λ (k : Memᴰ x ys). none_mem w ys x r k e) (Memᴰ.cases_cons m)

pub lookup_mem : (es : List VocabularyEntry) (x : VocabularyEntry) → Distinct (vocabulary_words es) → Memᴰ x es → lookup_in x.word es ≡ some x
unfolding lookup_in
lookup_mem [] x d m = absurd (Memᴰ.not-nil m)
lookup_mem (y ∷ ys) x (new n d) m = ⊎_elim first (λ (k : Memᴰ x ys). later k (lookup_mem ys x d k)) (Memᴰ.cases_cons m)
  where
    first : x ≡ y → cond (same y.word x.word) (some y) (lookup_in x.word ys) ≡ some x
    first q = rw (q, same_itself y.word)

    go : (k : Memᴰ x ys) (t : Bool) → same y.word x.word ≡ t → same y.word x.word ≡ false
    go k false e = e
    go k true e = absurd (none_mem y.word ys x n k (sym ((same_decides y.word x.word).sound e)))

    later : (k : Memᴰ x ys) → lookup_in x.word ys ≡ some x → cond (same y.word x.word) (some y) (lookup_in x.word ys) ≡ some x
    later k ih = rw (go k (same y.word x.word) refl, ih)

-- ---- the entries of a vocabulary

find_on : (v : List ℕ) (w : Word) (at j : ℕ) → find_from (suc j) v at w ≡ found_in v w (entry_places_at v at) (find_from j v (entry_places_at v at).next w)
unfolding find_from
find_on v w at j = refl

-- each entry has a word and a path
pub entry_forms : {b : List ℕ} {es : List VocabularyEntry} → InTurn VocabularyEntryBytes b es → (x : VocabularyEntry) → Memᴰ x es → AWord x.word × (is_path x.path ≡ true)
entry_forms no_more x m = absurd (Memᴰ.not-nil m)
entry_forms (more {x = y} (entry aw ip) r) x m =
    ⊎_elim (λ (q : x ≡ y). rw q (aw, ip)) (λ (k : Memᴰ x _). entry_forms r x k) (Memᴰ.cases_cons m)

module _ (v : List ℕ) where
  -- the entry at its places
  abbrev pub entry_there : EntryPlaces → VocabularyEntry
  entry_there e = record { word = word_of v e; path = path_of v e; sort = sort_of e.sort }

  -- as many as n, from a place on
  unfoldable pub entries_in : ℕ → ℕ → List VocabularyEntry
  entries_in zero at = []
  entries_in (suc n) at = cond (leb (length v) at) [] (entry_there (entry_places_at v at) ∷ entries_in n (entry_places_at v at).next)

  -- what is found of an entry
  abbrev pub found_as : EntryPlaces → Option VocabularyEntry
  found_as e = cond (eqb e.sort 0) none (some (entry_there e))

  -- what an entry of a vocabulary is
  record Good (at : ℕ) : Type 0 where
    inside : path_end v at < length v
    here : entry_places_at v at ≡ entry_here v at
    sort : (eqb (entry_places_at v at).sort 0 || ltb 3 (entry_places_at v at).sort) ≡ false
    word : is_short_word (word_of v (entry_places_at v at)) ≡ true
    path : is_path (path_of v (entry_places_at v at)) ≡ true
    later : (find_from most v (entry_places_at v at).next (word_of v (entry_places_at v at))).sort ≡ 0

  or_left : (a b : Bool) → (a || b) ≡ false → a ≡ false
  or_left false b h = refl
  or_left true b h = h

  good : (at : ℕ) → is_entry v (entry_places_at v at) ≡ true → Good at
  unfolding is_entry
  good at h = go (eqb (entry_places_at v at).sort 0 || ltb 3 (entry_places_at v at).sort) refl h
    where
      e : EntryPlaces
      e = entry_places_at v at

      there : (t : Bool) → ltb (path_end v at) (length v) ≡ t → eqb e.sort 0 ≡ false → path_end v at < length v
      there true q n = ltb-true _ _ q
      there false q n =
          absurd (eqb-false e.sort 0 n (ap (λ (x : EntryPlaces). x.sort) (sym (cut v at (ltb-false _ _ q)))))

      go : (t : Bool) → (eqb e.sort 0 || ltb 3 e.sort) ≡ t
          → cond t false (is_short_word (word_of v e) && is_path (path_of v e) && eqb (find_from most v e.next (word_of v e)).sort 0) ≡ true → Good at
      go true q h = absurd (let z : ◌≡◌ {A = ℕ} 0 1 = cc in omega arith)
      go false q h =
          let x = (and-eq-true_iff _ (eqb (find_from most v e.next (word_of v e)).sort 0)).0 h in
          let y = (and-eq-true_iff (is_short_word (word_of v e)) (is_path (path_of v e))).0 x.0 in
          let i = there (ltb (path_end v at) (length v)) refl (or_left _ _ q) in
          record { inside = i; here = sym (whole v at i); sort = q; word = y.0; path = y.1; later = eqb-true _ _ x.1 }

  -- where its bytes lie
  entry_laid : (at : ℕ) → Good at
      → Laid v at (length (word_of v (entry_places_at v at)) ∷ (word_of v (entry_places_at v at) ++ (length (path_of v (entry_places_at v at)) ∷ (path_of v (entry_places_at v at) ++ (entry_places_at v at).sort ∷ []))))
      (entry_places_at v at).next
  unfolding word_of path_of
  entry_laid at g =
      let n : word_end v at - (at + 1) ≡ byte v at = omega arith in
      let m : path_end v at - (word_end v at + 1) ≡ byte v (word_end v at) = omega arith in
      let i = g.inside in
      let w = laid_part v (at + 1) (byte v at) (omega arith) in
      let p = laid_part v (word_end v at + 1) (byte v (word_end v at)) (omega arith) in
      rw (g.here, n, m)
      (laid_cons v at _ _ _ (omega arith) (sym w.1)
      (laid_join w.0
      (laid_cons v (word_end v at) _ _ _ (omega arith) (sym p.1)
      (laid_join p.0 (laid_cons v (path_end v at) _ [] _ (omega arith) refl (laid_none v (path_end v at + 1) (omega arith)))))))

  -- ---- the word's entry is found

  find_past : (m at : ℕ) (w : Word) → length v ≤ at → find_from m v at w ≡ no_entry
  unfolding find_from
  find_past zero at w h = refl
  find_past (suc m) at w h = rw (← cut v at (omega arith))

  pub find_is : (n at m : ℕ) (w : Word) → entries_from n v at ≡ true → n ≤ m → found_as (find_from m v at w) ≡ lookup_in w (entries_in n at)
  unfolding entries_from entries_in lookup_in
  find_is zero at m w h k = rw (find_past m at w (leb-true _ _ h))
  find_is (suc n) at m w h k = go (leb (length v) at) refl h (find_is n)
    where
      e : EntryPlaces
      e = entry_places_at v at

      step : (t : Bool) (j : ℕ) → same (word_of v e) w ≡ t → eqb e.sort 0 ≡ false
          → found_as (find_from j v e.next w) ≡ lookup_in w (entries_in n e.next)
          → found_as (found_in v w e (find_from j v e.next w)) ≡ cond (same (word_of v e) w) (some (entry_there e)) (lookup_in w (entries_in n e.next))
      step true j s z ih =
          let f : found_in v w e (find_from j v e.next w) ≡ e = rw (z, s) in
          rw (f, z, s)
      step false j s z ih =
          let f : found_in v w e (find_from j v e.next w) ≡ find_from j v e.next w = rw (z, s) in
          rw (f, s) ih

      here : (j : ℕ) → n ≤ j → Good at → entries_from n v e.next ≡ true
          → ((at m : ℕ) (w : Word) → entries_from n v at ≡ true → n ≤ m → found_as (find_from m v at w) ≡ lookup_in w (entries_in n at))
          → found_as (find_from (suc j) v at w) ≡ cond (same (word_of v e) w) (some (entry_there e)) (lookup_in w (entries_in n e.next))
      here j k g r ih = unfold find_from in step (same (word_of v e) w) j refl (or_left _ _ g.sort) (ih e.next j w r k)

      fuel : (m : ℕ) → suc n ≤ m → Good at → entries_from n v e.next ≡ true
          → ((at m : ℕ) (w : Word) → entries_from n v at ≡ true → n ≤ m → found_as (find_from m v at w) ≡ lookup_in w (entries_in n at))
          → found_as (find_from m v at w) ≡ cond (same (word_of v e) w) (some (entry_there e)) (lookup_in w (entries_in n e.next))
      fuel zero k g r ih = absurd (omega arith)
      fuel (suc j) k g r ih = here j (omega arith) g r ih

      go : (t : Bool) → leb (length v) at ≡ t → (t || is_entry v e && entries_from n v e.next) ≡ true
          → ((at m : ℕ) (w : Word) → entries_from n v at ≡ true → n ≤ m → found_as (find_from m v at w) ≡ lookup_in w (entries_in n at))
          → found_as (find_from m v at w) ≡ lookup_in w (cond t [] (entry_there e ∷ entries_in n e.next))
      go true q h ih = rw (find_past m at w (leb-true _ _ q))
      go false q h ih = let x = (and-eq-true_iff (is_entry v e) (entries_from n v e.next)).0 h in fuel m k (good at x.0) x.1 ih

  -- the sort of what is found is one of the three
  pub find_sort : (n at m : ℕ) (w : Word) → entries_from n v at ≡ true → n ≤ m → eqb (find_from m v at w).sort 0 ≡ false
      → (eqb (find_from m v at w).sort 0 || ltb 3 (find_from m v at w).sort) ≡ false
  unfolding entries_from
  find_sort zero at m w h k s = absurd (false≢true (sym s ∙ rw (find_past m at w (leb-true _ _ h))))
  find_sort (suc n) at m w h k s = go (leb (length v) at) refl h (find_sort n)
    where
      e : EntryPlaces
      e = entry_places_at v at

      step : (t : Bool) (x : EntryPlaces) → same (word_of v e) w ≡ t → (eqb e.sort 0 || ltb 3 e.sort) ≡ false
          → (eqb x.sort 0 ≡ false → (eqb x.sort 0 || ltb 3 x.sort) ≡ false)
          → eqb (found_in v w e x).sort 0 ≡ false → (eqb (found_in v w e x).sort 0 || ltb 3 (found_in v w e x).sort) ≡ false
      step true x q z ih r = let f : found_in v w e x ≡ e = rw (or_left (eqb e.sort 0) (ltb 3 e.sort) z, q) in rw f z
      step false x q z ih r = let f : found_in v w e x ≡ x = rw (or_left (eqb e.sort 0) (ltb 3 e.sort) z, q) in rw f (ih (rw f at r))

      fuel : (m : ℕ) → suc n ≤ m → Good at → entries_from n v e.next ≡ true → eqb (find_from m v at w).sort 0 ≡ false
          → ((at m : ℕ) (w : Word) → entries_from n v at ≡ true → n ≤ m → eqb (find_from m v at w).sort 0 ≡ false
          → (eqb (find_from m v at w).sort 0 || ltb 3 (find_from m v at w).sort) ≡ false)
          → (eqb (find_from m v at w).sort 0 || ltb 3 (find_from m v at w).sort) ≡ false
      fuel zero k g r s ih = absurd (omega arith)
      fuel (suc j) k g r s ih =
          let u = find_on v w at j in
          rw u (step (same (word_of v e) w) (find_from j v e.next w) refl g.sort (λ z. ih e.next j w r (omega arith) z) (rw u at s))

      go : (t : Bool) → leb (length v) at ≡ t → (t || is_entry v e && entries_from n v e.next) ≡ true
          → ((at m : ℕ) (w : Word) → entries_from n v at ≡ true → n ≤ m → eqb (find_from m v at w).sort 0 ≡ false
          → (eqb (find_from m v at w).sort 0 || ltb 3 (find_from m v at w).sort) ≡ false)
          → (eqb (find_from m v at w).sort 0 || ltb 3 (find_from m v at w).sort) ≡ false
      go true q h ih = absurd (false≢true (sym s ∙ rw (find_past m at w (leb-true _ _ q))))
      go false q h ih = let x = (and-eq-true_iff (is_entry v e) (entries_from n v e.next)).0 h in fuel m k (good at x.0) x.1 s ih

  found_none : (e : EntryPlaces) → e.sort ≡ 0 → found_as e ≡ none
  found_none e h = rw (eq-eqb _ _ h)

  pub none_found : (e : EntryPlaces) → found_as e ≡ none → e.sort ≡ 0
  none_found e h = go (eqb e.sort 0) refl h
    where
      go : (t : Bool) → eqb e.sort 0 ≡ t → cond t none (some (entry_there e)) ≡ none → e.sort ≡ 0
      go true q h = eqb-true _ _ q
      go false q h = absurd (let z : ◌≡◌ {A = ℕ} 0 1 = cc in omega arith)

  pub some_found : (e : EntryPlaces) (x : VocabularyEntry) → found_as e ≡ some x → (eqb e.sort 0 ≡ false) × (entry_there e ≡ x)
  some_found e x h = go (eqb e.sort 0) refl h
    where
      go : (t : Bool) → eqb e.sort 0 ≡ t → cond t none (some (entry_there e)) ≡ some x → (eqb e.sort 0 ≡ false) × (entry_there e ≡ x)
      go true q h = absurd (let z : ◌≡◌ {A = ℕ} 0 1 = cc in omega arith)
      go false q h = (q, cc)

  -- ---- what is read says its entries

  pub record EntriesSaid (at n : ℕ) : Type 0 where
    pub bytes : List ℕ
    pub says : InTurn VocabularyEntryBytes bytes (entries_in n at)
    pub laid : Laid v at bytes (length v)
    pub few : length (entries_in n at) ≤ n
    pub distinct : Distinct (vocabulary_words (entries_in n at))

  entries_over : (at n : ℕ) → at ≤ length v → length v ≤ at → entries_in n at ≡ [] → EntriesSaid at n
  entries_over at n h k q =
      let z : at ≡ length v = omega arith in
      record {
        bytes = [];
        says = rw q no_more;
        laid = rw z (laid_none v (length v) (omega arith));
        few = rw q (omega arith);
        distinct = rw q empty;
      }

  pub entries_sound : (n at : ℕ) → n ≤ 16 → at ≤ length v → entries_from n v at ≡ true → EntriesSaid at n
  unfolding entries_from entries_in
  entries_sound zero at c h e = entries_over at zero h (leb-true _ _ e) refl
  entries_sound (suc n) at c h e = go (leb (length v) at) refl e (entries_sound n)
    where
      x : EntryPlaces
      x = entry_places_at v at

      here : Good at → entries_from n v x.next ≡ true → EntriesSaid x.next n → leb (length v) at ≡ false → EntriesSaid at (suc n)
      here g r s q =
          let b : sort_byte (sort_of x.sort) ≡ x.sort = sort_byte_lem x.sort g.sort in
          let f = entry {s = sort_of x.sort} (short_word _ g.word) g.path in
          let none_later = lookup_none (word_of v x) (entries_in n x.next) (sym (find_is n x.next most (word_of v x) r (omega arith)) ∙ found_none _ g.later) in
          let all : entries_in (suc n) at ≡ entry_there x ∷ entries_in n x.next = rw q in
          record {
            bytes = (length (word_of v x) ∷ (word_of v x ++ (length (path_of v x) ∷ (path_of v x ++ x.sort ∷ [])))) ++ s.bytes;
            says = rw all (more (rw b at f) s.says);
            laid = laid_join (entry_laid at g) s.laid;
            few = rw all (omega (arith, s.few));
            distinct = rw all (new none_later s.distinct);
          }

      go : (t : Bool) → leb (length v) at ≡ t → (t || is_entry v x && entries_from n v x.next) ≡ true
          → ((at : ℕ) → n ≤ 16 → at ≤ length v → entries_from n v at ≡ true → EntriesSaid at n) → EntriesSaid at (suc n)
      go true q e ih = entries_over at (suc n) h (leb-true _ _ q) (rw q)
      go false q e ih =
          let y = (and-eq-true_iff (is_entry v x) (entries_from n v x.next)).0 e in
          let g = good at y.0 in
          here g y.1 (ih x.next (omega arith) (rw g.here (omega (arith, g.inside))) y.1) q

  -- ---- and what says entries is read

  record Stood (at : ℕ) (w p : Word) (s : WordSort) (e : ℕ) : Type 0 where
    here : entry_places_at v at ≡ entry_here v at
    word : word_of v (entry_places_at v at) ≡ w
    path : path_of v (entry_places_at v at) ≡ p
    sort : (entry_places_at v at).sort ≡ sort_byte s
    next : (entry_places_at v at).next ≡ e
    within : at < length v

  stood : {at e : ℕ} {w p : Word} {s : WordSort} → Laid v at (length w ∷ (w ++ (length p ∷ (p ++ sort_byte s ∷ [])))) e → Stood at w p s e
  unfolding word_of path_of
  stood {at} {e} {w} {p} {s} l =
      let a = laid_head l in
      let b = laid_split w (length p ∷ (p ++ sort_byte s ∷ [])) a.others in
      let c = laid_head b.1 in
      let d = laid_split p (sort_byte s ∷ []) c.others in
      let f = laid_head d.1 in
      let we : word_end v at ≡ at + 1 + length w = omega (arith, a.first) in
      let bp : byte v (word_end v at) ≡ length p = ap (byte v) we ∙ c.first in
      let pe : path_end v at ≡ at + 1 + length w + 1 + length p = omega (arith, we, bp) in
      let i : path_end v at < length v = omega (arith, pe, f.within) in
      let n : word_end v at - (at + 1) ≡ length w = omega (arith, we) in
      let m : path_end v at - (word_end v at + 1) ≡ length p = omega (arith, pe, we) in
      let h = sym (whole v at i) in
      record {
        here = h;
        word = rw (h, n) (laid_is b.0);
        path = rw (h, m) (ap (λ (k : ℕ). part v (k + 1) (length p)) we ∙ laid_is d.0);
        sort = rw h (ap (byte v) pe ∙ f.first);
        next = rw h (omega (arith, pe, f.others.stop));
        within = a.within;
      }

  is_entry_lem : (e : EntryPlaces) {w p : Word} (s : WordSort) → AWord w → is_path p ≡ true → word_of v e ≡ w → path_of v e ≡ p → e.sort ≡ sort_byte s
      → (find_from most v e.next (word_of v e)).sort ≡ 0 → is_entry v e ≡ true
  unfolding is_entry
  is_entry_lem e s aw ip qw qp qs f =
      let c : (eqb e.sort 0 || ltb 3 e.sort) ≡ false = rw qs (sort_good s) in
      let x : is_short_word (word_of v e) ≡ true = rw qw (word_short aw) in
      let y : is_path (path_of v e) ≡ true = rw qp ip in
      ap (λ (t : Bool). cond t false (is_short_word (word_of v e) && is_path (path_of v e) && eqb (find_from most v e.next (word_of v e)).sort 0)) c
      ∙ (and-eq-true_iff (is_short_word (word_of v e) && is_path (path_of v e)) _).1 ((and-eq-true_iff (is_short_word (word_of v e)) _).1 (x, y), eq-eqb _ _ f)

  from_on : (n at : ℕ) → at < length v → is_entry v (entry_places_at v at) ≡ true → entries_from n v (entry_places_at v at).next ≡ true → entries_from (suc n) v at ≡ true
  unfolding entries_from
  from_on n at h i r = rw (lt-leb _ _ h, i, r)

  in_on : (n at : ℕ) {x : VocabularyEntry} {xs : List VocabularyEntry} → at < length v → entry_there (entry_places_at v at) ≡ x → entries_in n (entry_places_at v at).next ≡ xs → entries_in (suc n) at ≡ x ∷ xs
  unfolding entries_in
  in_on n at {x} {xs} h q r = ap (λ (t : Bool). cond t [] (entry_there (entry_places_at v at) ∷ entries_in n (entry_places_at v at).next)) (lt-leb _ _ h) ∙ ap (λ (y : VocabularyEntry). y ∷ entries_in n (entry_places_at v at).next) q ∙ ap (λ (ys : List VocabularyEntry). x ∷ ys) r

  pub entries_complete : {b : List ℕ} {es : List VocabularyEntry} → InTurn VocabularyEntryBytes b es → (at n : ℕ) → Laid v at b (length v) → length es ≤ n → n ≤ 16 → Distinct (vocabulary_words es)
      → (entries_from n v at ≡ true) × (entries_in n at ≡ es)
  entries_complete no_more at n l h k d = at_end n (omega (arith, l.stop))
    where
      at_end : (n : ℕ) → length v ≤ at → (entries_from n v at ≡ true) × (entries_in n at ≡ [])
      at_end zero z = unfold entries_from entries_in in (le-leb _ _ z, refl)
      at_end (suc n) z = unfold entries_from entries_in in (rw (le-leb _ _ z), rw (le-leb _ _ z))
  entries_complete (more {b = b} {xs = xs} (entry {w} {p} {s} aw ap') r) at zero l h k d = absurd (omega arith)
  entries_complete (more {b = b} {xs = xs} (entry {w} {p} {s} aw ip) r) at (suc n) l h k (new nw d) =
      let y = laid_split (length w ∷ (w ++ (length p ∷ (p ++ sort_byte s ∷ [])))) b l in
      let t = stood {at = at} {w = w} {p = p} {s = s} y.0 in
      let ih = entries_complete r (at + length (length w ∷ (w ++ (length p ∷ (p ++ sort_byte s ∷ []))))) n y.1 (omega arith) (omega arith) d in
      step t (rw (← t.next) at ih.0) (rw (← t.next) at ih.1)
    where
      step : {e : ℕ} → Stood at w p s e → entries_from n v (entry_places_at v at).next ≡ true → entries_in n (entry_places_at v at).next ≡ xs
          → (entries_from (suc n) v at ≡ true) × (entries_in (suc n) at ≡ record { word = w; path = p; sort = s } ∷ xs)
      step t i j =
          let f : (find_from most v (entry_places_at v at).next (word_of v (entry_places_at v at))).sort ≡ 0 =
          none_found _ (find_is n (entry_places_at v at).next most (word_of v (entry_places_at v at)) i (omega arith) ∙ rw (t.word, j) (none_lookup w xs nw)) in (
            from_on n at t.within (is_entry_lem (entry_places_at v at) s aw ip t.word t.path t.sort f) i,
            in_on n at t.within (rw (t.word, t.path, t.sort, sort_of_lem s)) j,
          )
