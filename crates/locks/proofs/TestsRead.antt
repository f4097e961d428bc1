-- One test of a lock: what is read at a place says it, and what says it is read. Assumes nothing.
use mathlib.Core.Path.{◌≡◌, refl, sym, ap, ◌∙◌}
use mathlib.Core.Bool.{Bool, true, false, cond, ◌&&◌, ◌||◌, and-eq-true_iff, false≢true}
use mathlib.Core.List.Memᴰ
use mathlib.Core.List.{List, [], ◌∷◌, ◌++◌, append_assoc, Memᴰ}
use mathlib.Core.Logic.{◌⊎◌, inl, inr, ⊎_elim}
use mathlib.Core.Option.{some}
use Prim.Native.Nat.{ℕ, ◌-◌, ◌≤◌, ◌<◌}
use native.Mathlib.Omega.{arith}
use native.Mathlib.Nat.{min-le_left, le_trans}
use lib.Dec.{eqb, leb, ltb}
use lib.ListN.{length, take, length-take}
use borrow.Author.Tests.{eq-eqb, ltb-true, leb-true, eqb-true}
use Rattle.slices.specs.Ascii.{bytes}
use Rattle.slices.specs.Parts.{part}
use Rattle.tokens.specs.Kinds as kinds
use Rattle.tokens.specs.Runs.{run_end}
use Rattle.tokens.specs.Tokens.{token_at}
use Rattle.tokens.specs.Forms.{All, next, Number, digits}
use Rattle.tokens.specs.declared.classes.Sort.TheVariants.{Blanks, WordBytes}
use Rattle.tokens.proofs.ReadLaws.{reads}
use Rattle.tokens.proofs.RunLaws.{high}
use Rattle.spelling.specs.Printing.{mark_kind}
use Rattle.bags.proofs.Laid.{Laid, laid_join, laid_bytes}
use Rattle.grammar.specs.Policies.{Comparator}
use Rattle.placing.specs.Said.{Word}
use Rattle.permits.specs.Permits.{Test, sign_of}
use Rattle.permits.specs.Meaning.{Orders, more, at_least, less, at_most, AValue, Fits, equal_fits, member_fits, order_fits}
use Rattle.locks.specs.Reading.{find_from, most, goes_with, value_behind, number_behind, operand_at, ends_test, test_of, test_with, test_at, no_test, path_of, comparator_for, test_by, test_in, is_vocabulary, word_from, word_up_to, word_in, mark_in, operand_in}
use Rattle.std.specs.Prelude.{Some, None}
use Rattle.std.specs.Prelude as prelude
use Rattle.locks.specs.Forms.{WordSort, VocabularyEntry, AWord, WrittenTest, valued, compared, TestBytes, value_test, number_test, Meant, an_equality, a_membership, a_comparison}
use Rattle.locks.specs.declared.Piece.{Piece}
use Rattle.locks.specs.declared.vocabulary.EntryPlaces.{EntryPlaces}
use Rattle.locks.specs.declared.tests.TestPlaces.{TestPlaces}
use Rattle.locks.proofs.EntryLaws.{no_part}
use Rattle.locks.proofs.Entries.{sort_of, entries_in, entry_there, found_as, find_is, find_sort, lookup_some}
use Rattle.locks.proofs.TestsSaid.{RunLaid, run_laid, token_laid, colon_laid, order_form, number_form}

-- ---- marks

-- the kinds of the comparators
pub data OrderKind : ℕ → Type 0 where
  of : {c : Comparator} → Orders c → OrderKind (mark_kind c)

or_cases : (a b : Bool) → (a || b) ≡ true → (a ≡ true) ⊎ (b ≡ true)
or_cases true b h = inl refl
or_cases false b h = inr h

order_kind : (k : ℕ) → (eqb k 62 || eqb k 190 || eqb k 60 || eqb k 188) ≡ true → OrderKind k
unfolding mark_kind
order_kind k h =
    ⊎_elim
    (λ (x : (eqb k 62 || eqb k 190 || eqb k 60) ≡ true).
    ⊎_elim
    (λ (y : (eqb k 62 || eqb k 190) ≡ true).
    ⊎_elim (λ (z : eqb k 62 ≡ true). rw (eqb-true k 62 z) (of more)) (λ (z : eqb k 190 ≡ true). rw (eqb-true k 190 z) (of at_least))
    (or_cases (eqb k 62) (eqb k 190) y))
    (λ (z : eqb k 60 ≡ true). rw (eqb-true k 60 z) (of less)) (or_cases (eqb k 62 || eqb k 190) (eqb k 60) x))
    (λ (z : eqb k 188 ≡ true). rw (eqb-true k 188 z) (of at_most)) (or_cases (eqb k 62 || eqb k 190 || eqb k 60) (eqb k 188) h)

pub comparator_of : {c : Comparator} → Orders c → comparator_for (mark_kind c) ≡ c
unfolding comparator_for mark_kind
comparator_of more = refl
comparator_of at_least = refl
comparator_of less = refl
comparator_of at_most = refl

pub order_goes : {c : Comparator} → Orders c → (goes_with 3 (mark_kind c) ≡ true) × (eqb (mark_kind c) kinds.colon_outside ≡ false) × (6 < mark_kind c)
unfolding goes_with mark_kind
order_goes more = (refl, refl, omega arith)
order_goes at_least = (refl, refl, omega arith)
order_goes less = (refl, refl, omega arith)
order_goes at_most = (refl, refl, omega arith)

-- what a mark goes with
data Goes (sort mark : ℕ) : Type 0 where
  with_value : (sort ≡ 1) ⊎ (sort ≡ 2) → mark ≡ kinds.colon_outside → Goes sort mark
  with_number : sort ≡ 3 → OrderKind mark → Goes sort mark

goes : (sort mark : ℕ) → goes_with sort mark ≡ true → Goes sort mark
unfolding goes_with
goes sort mark h =
    ⊎_elim
    (λ (x : ((eqb sort 1 || eqb sort 2) && eqb mark 4) ≡ true).
    let y = (and-eq-true_iff (eqb sort 1 || eqb sort 2) (eqb mark 4)).0 x in
    with_value
    (⊎_elim (λ (z : eqb sort 1 ≡ true). inl (eqb-true sort 1 z)) (λ (z : eqb sort 2 ≡ true). inr (eqb-true sort 2 z)) (or_cases (eqb sort 1) (eqb sort 2) y.0))
    (eqb-true mark 4 y.1))
    (λ (x : (eqb sort 3 && (eqb mark 62 || eqb mark 190 || eqb mark 60 || eqb mark 188)) ≡ true).
    let y = (and-eq-true_iff (eqb sort 3) _).0 x in
    with_number (eqb-true sort 3 y.0) (order_kind mark y.1))
    (or_cases ((eqb sort 1 || eqb sort 2) && eqb mark 4) _ h)

-- ---- operands, where they lie

record OperandLaid (l : List ℕ) (from : ℕ) (o : Piece) (P : Word → Type 0) : Type 0 where
  blanks : List ℕ
  value : Word
  passed : All Blanks blanks
  is_one : P value
  laid : Laid l from (blanks ++ value) o.end
  there : part l o.start (o.end - o.start) ≡ value

-- a part that is there by a test passed it
by_test : (t : Bool) (r o : Piece) → cond t (Some r) None ≡ Some o → (t ≡ true) × (r ≡ o)
by_test true r o q = let e : r ≡ o = cc in (refl, e)
by_test false r o q = absurd (no_part q)

value_laid : (l : List ℕ) (from : ℕ) (o : Piece) → from ≤ length l → value_behind l from ≡ Some o → OperandLaid l from o AValue
unfolding value_behind
value_laid l from o h q =
    let b = run_laid Blanks l from h in
    let x = run_laid WordBytes l (run_end Blanks l from) b.laid.inside in
    let p = by_test (ltb (run_end Blanks l from) (run_end WordBytes l (run_end Blanks l from))) _ o q in
    let k : run_end Blanks l from < run_end WordBytes l (run_end Blanks l from) = ltb-true _ _ p.0 in
    rw (← p.1)
    (record {
      blanks = b.bytes;
      value = x.bytes;
      passed = b.all;
      is_one = record { some = omega (arith, x.laid.stop, k); all = x.all };
      laid = laid_join b.laid x.laid;
      there = laid_bytes x.laid;
    })

-- a number of 15 digits at most
record ANumber (n : Word) : Type 0 where
  form : Number n
  few : digits n ≤ 15

number_laid : (l : List ℕ) (from : ℕ) (o : Piece) → from ≤ length l → number_behind l from ≡ Some o → OperandLaid l from o ANumber
unfolding number_behind
number_laid l from o h q =
    let p = by_test (eqb (token_at l from).kind kinds.number) _ o q in
    let t = token_laid l from kinds.number h (eqb-true _ _ p.0) (omega arith) in
    rw (← p.1)
    (record {
      blanks = t.blanks;
      value = t.bytes;
      passed = t.passed;
      is_one = record { form = number_form t.form refl; few = t.few };
      laid = laid_join t.before t.laid;
      there = laid_bytes t.laid;
    })

entry_same : {w u p : Word} {s t : WordSort} → w ≡ u → s ≡ t → ◌≡◌ {A = VocabularyEntry} (record { word = w; path = p; sort = s }) (record { word = u; path = p; sort = t })
entry_same {w} {u} {p} {s} {t} q r =
    ap {B = VocabularyEntry} (λ (x : Word). record { word = x; path = p; sort = s }) q ∙ ap {B = VocabularyEntry} (λ (x : WordSort). record { word = u; path = p; sort = x }) r

-- ---- what is read says a test

module _ (v l : List ℕ) (good : is_vocabulary v ≡ true) where
  -- the entries of the vocabulary
  abbrev pub entries : List VocabularyEntry
  entries = entries_in v most 0

  pub record TestSaid (at : ℕ) (t : Test) (e : ℕ) : Type 0 where
    pub written : WrittenTest
    pub front : List ℕ
    pub test : List ℕ
    pub back : List ℕ
    pub front_blank : All Blanks front
    pub says : TestBytes test written
    pub back_blank : All Blanks back
    pub laid : Laid l at (front ++ (test ++ back)) e
    pub meant : Meant entries written t
    pub fits : Fits t

  -- the entry of a word that is found
  record WordFound (w : Word) (e : EntryPlaces) : Type 0 where
    is_in : Memᴰ (record { word = w; path = path_of v e; sort = sort_of e.sort }) entries
    sort : (eqb e.sort 0 || ltb 3 e.sort) ≡ false

  word_found : (w : Word) → eqb (find_from most v 0 w).sort 0 ≡ false → WordFound w (find_from most v 0 w)
  word_found w h =
      let e = find_from most v 0 w in
      let f : found_as v e ≡ some (entry_there v e) = rw h in
      let k = lookup_some w entries (entry_there v e) (sym (find_is v most 0 most w good (omega arith)) ∙ f) in
      record { is_in = rw k.1 at k.0; sort = find_sort v most 0 most w good (omega arith) h }

  -- the parts of what is asked
  record Asked (e : EntryPlaces) (mark : ℕ) (o : Piece) (n : ℕ) : Type 0 where
    small : o.end - o.start ≤ 127
    goes_with_lem : Goes e.sort mark
    goes_on : ends_test l n ≡ true

  asked_is : (e : EntryPlaces) (mark : ℕ) (o : Piece) (n : ℕ) → (leb (o.end - o.start) 127 && goes_with e.sort mark && ends_test l n) ≡ true → Asked e mark o n
  asked_is e mark o n h =
      let x = (and-eq-true_iff _ (ends_test l n)).0 h in
      let y = (and-eq-true_iff _ (goes_with e.sort mark)).0 x.0 in
      record { small = leb-true _ _ y.0; goes_with_lem = goes e.sort mark y.1; goes_on = x.1 }

  -- ---- the test at a place

  module _ (at : ℕ) (h : at ≤ length l) (aw : (x : VocabularyEntry) → Memᴰ x entries → AWord x.word)
      (o : Piece) (there : operand_in l at ≡ Some o) where
    abbrev found : EntryPlaces
    found = find_from most v 0 (word_in l at)

    abbrev behind : ℕ
    behind = run_end Blanks l o.end

    -- where the word lies
    front : RunLaid Blanks l at
    front = run_laid Blanks l at h

    word : RunLaid WordBytes l (word_from l at)
    word = run_laid WordBytes l (word_from l at) front.laid.inside

    the_word : word_in l at ≡ word.bytes
    the_word = laid_bytes word.laid

    mark_high : (mark_in l at).end ≤ length l
    mark_high = (reads l (word_up_to l at) word.laid.inside).high

    -- what is read
    abbrev read : TestPlaces
    read =
        record {
          sort = found.sort;
          path = found.path;
          stop = found.end;
          mark = (mark_in l at).kind;
          value = o.start;
          end = o.end;
          next = behind;
        }

    is_word : WordFound (word_in l at) found → AWord word.bytes
    is_word w = rw (the_word) at (aw _ w.is_in)

    back : o.end ≤ length l → RunLaid Blanks l o.end
    back k = run_laid Blanks l o.end k

    -- what it means, and that it fits
    module _ (w : WordFound (word_in l at) found) where
      here : {x : WordSort} → sort_of found.sort ≡ x → Memᴰ (record { word = word.bytes; path = path_of v found; sort = x }) entries
      here q = Memᴰ.cast (entry_same (sym the_word) (sym q)) w.is_in

      by_value : {value : Word} → (found.sort ≡ 1) ⊎ (found.sort ≡ 2) → part l o.start (o.end - o.start) ≡ value
          → Meant entries (valued word.bytes value) (test_in v l read)
      unfolding test_in test_by path_of sort_of
      by_value (inl s) q = rw (s, q) (an_equality (here (rw s)))
      by_value (inr s) q = rw (s, q) (a_membership (here (rw s)))

      by_number : {value : Word} → found.sort ≡ 3 → {c : Comparator} → Orders c → (mark_in l at).kind ≡ mark_kind c
          → part l o.start (o.end - o.start) ≡ value → Meant entries (compared word.bytes c value) (test_in v l read)
      unfolding test_in test_by path_of sort_of
      by_number s u k q = rw (s, q, k, comparator_of u) (a_comparison (here (rw s)))

    take_small : (i : ℕ) (x : List ℕ) → length (take i x) ≤ i
    take_small i x = omega (arith, length-take i x, min-le_left i (length x))

    value_fits : (found.sort ≡ 1) ⊎ (found.sort ≡ 2) → o.end - o.start ≤ 127 → Fits (test_in v l read)
    unfolding test_in test_by part
    value_fits (inl s) k = rw s (equal_fits (le_trans (take_small _ _) k))
    value_fits (inr s) k = rw s (member_fits (le_trans (take_small _ _) k))

    number_fits : {value : Word} → found.sort ≡ 3 → {c : Comparator} → Orders c → (mark_in l at).kind ≡ mark_kind c
        → part l o.start (o.end - o.start) ≡ value → digits value ≤ 15 → Fits (test_in v l read)
    unfolding test_in test_by
    number_fits s u k q d = rw (s, q) (order_fits d)

    operand_is : operand_at l (mark_in l at).kind (mark_in l at).end ≡ Some o
    operand_is = there

    operand_high : o.end ≤ length l
    unfolding operand_at
    operand_high = go (eqb (mark_in l at).kind kinds.colon_outside) operand_is
      where
        go : (t : Bool) → cond t (value_behind l (mark_in l at).end) (number_behind l (mark_in l at).end) ≡ Some o → o.end ≤ length l
        go true q = (value_laid l (mark_in l at).end o mark_high q).laid.inside
        go false q = (number_laid l (mark_in l at).end o mark_high q).laid.inside

    value_said : WordFound (word_in l at) found → (found.sort ≡ 1) ⊎ (found.sort ≡ 2) → (mark_in l at).kind ≡ kinds.colon_outside
        → Asked found (mark_in l at).kind o behind → TestSaid at (test_in v l read) behind
    unfolding operand_at
    value_said w s k a =
        let q : value_behind l (mark_in l at).end ≡ Some o = rw (eq-eqb _ _ k) at operand_is in
        let c = colon_laid l (word_up_to l at) word.laid.inside k in
        let x = value_laid l (mark_in l at).end o mark_high q in
        let r = back x.laid.inside in
        let t : word.bytes ++ ((c.blanks ++ 58 ∷ []) ++ (x.blanks ++ x.value)) ≡ word.bytes ++ (c.blanks ++ 58 ∷ (x.blanks ++ x.value)) =
        ap (λ (y : List ℕ). word.bytes ++ y) (append_assoc c.blanks (58 ∷ []) (x.blanks ++ x.value)) in
        record {
          written = valued word.bytes x.value;
          front = front.bytes;
          test = word.bytes ++ (c.blanks ++ 58 ∷ (x.blanks ++ x.value));
          back = r.bytes;
          front_blank = front.all;
          says = value_test (is_word w) c.passed x.passed x.is_one;
          back_blank = r.all;
          laid = laid_join front.laid (laid_join (rw t at (laid_join word.laid (laid_join c.laid x.laid))) r.laid);
          meant = by_value w s x.there;
          fits = value_fits s a.small;
        }

    by_mark : eqb (mark_in l at).kind kinds.colon_outside ≡ false → operand_at l (mark_in l at).kind (mark_in l at).end ≡ Some o
        → number_behind l (mark_in l at).end ≡ Some o
    unfolding operand_at
    by_mark n q = rw n at q

    number_said : WordFound (word_in l at) found → found.sort ≡ 3 → {c : Comparator} → Orders c → (mark_in l at).kind ≡ mark_kind c
        → Asked found (mark_in l at).kind o behind → TestSaid at (test_in v l read) behind
    unfolding operand_at
    number_said w s {c} u k a =
        let g = order_goes u in
        let q : number_behind l (mark_in l at).end ≡ Some o = by_mark (rw k g.1) operand_is in
        let m = token_laid l (word_up_to l at) (mark_kind c) word.laid.inside k g.2 in
        let f : m.bytes ≡ sign_of c = order_form u m.form refl in
        let x = number_laid l (mark_in l at).end o mark_high q in
        let r = back x.laid.inside in
        let t : word.bytes ++ ((m.blanks ++ m.bytes) ++ (x.blanks ++ x.value)) ≡ word.bytes ++ (m.blanks ++ (sign_of c ++ (x.blanks ++ x.value))) =
        ap (λ (y : List ℕ). word.bytes ++ y)
        (append_assoc m.blanks m.bytes (x.blanks ++ x.value) ∙ ap (λ (y : List ℕ). m.blanks ++ (y ++ (x.blanks ++ x.value))) f) in
        record {
          written = compared word.bytes c x.value;
          front = front.bytes;
          test = word.bytes ++ (m.blanks ++ (sign_of c ++ (x.blanks ++ x.value)));
          back = r.bytes;
          front_blank = front.all;
          says = number_test (is_word w) m.passed x.passed u x.is_one.form;
          back_blank = r.all;
          laid = laid_join front.laid (laid_join (rw t at (laid_join word.laid (laid_join (laid_join m.before m.laid) x.laid))) r.laid);
          meant = by_number w s u k x.there;
          fits = number_fits s u k x.there x.is_one.few;
        }

    -- what is read where the operand is there
    abbrev made : TestPlaces
    made = test_of l found (mark_in l at).kind o behind

    operand_sound : eqb made.sort 0 ≡ false → TestSaid at (test_in v l made) made.next × (ends_test l made.next ≡ true) × (made.next ≤ length l)
    unfolding test_of
    operand_sound z = go (leb (o.end - o.start) 127 && goes_with found.sort (mark_in l at).kind && ends_test l behind) refl z
      where
        one : (x : WordFound (word_in l at) found) (a : Asked found (mark_in l at).kind o behind) → Goes found.sort (mark_in l at).kind → TestSaid at (test_in v l read) behind
        one x a (with_value s k) = value_said x s k a
        one x a (with_number s k) = number_kind x a s k refl
          where
            number_kind : (x : WordFound (word_in l at) found) (a : Asked found (mark_in l at).kind o behind) → found.sort ≡ 3 → {k : ℕ} → OrderKind k → (mark_in l at).kind ≡ k
                → TestSaid at (test_in v l read) behind
            number_kind x a s (of u) k = number_said x s u k a

        some_sort : Goes found.sort (mark_in l at).kind → eqb found.sort 0 ≡ false
        some_sort (with_value (inl s) k) = rw s
        some_sort (with_value (inr s) k) = rw s
        some_sort (with_number s k) = rw s

        go : (t : Bool) → (leb (o.end - o.start) 127 && goes_with found.sort (mark_in l at).kind && ends_test l behind) ≡ t
            → eqb (cond t read no_test).sort 0 ≡ false
            → TestSaid at (test_in v l (cond t read no_test)) (cond t read no_test).next × (ends_test l (cond t read no_test).next ≡ true) × ((cond t read no_test).next ≤ length l)
        go false q z = absurd (false≢true (sym z))
        go true q z =
            let a = asked_is found (mark_in l at).kind o behind q in
            (one (word_found (word_in l at) (some_sort a.goes_with_lem)) a a.goes_with_lem, a.goes_on, high Blanks l o.end operand_high)

  -- what the test is read as says a test
  pub test_sound : (at : ℕ) → at ≤ length l → ((x : VocabularyEntry) → Memᴰ x entries → AWord x.word) → eqb (test_at v l at).sort 0 ≡ false
      → TestSaid at (test_in v l (test_at v l at)) (test_at v l at).next × (ends_test l (test_at v l at).next ≡ true) × ((test_at v l at).next ≤ length l)
  unfolding test_at test_with
  test_sound at h aw z = go (operand_in l at) refl z
    where
      go : (p : prelude.Option Piece) → operand_in l at ≡ p → eqb (test_with l (find_from most v 0 (word_in l at)) (mark_in l at).kind p).sort 0 ≡ false
          → TestSaid at (test_in v l (test_with l (find_from most v 0 (word_in l at)) (mark_in l at).kind p)) (test_with l (find_from most v 0 (word_in l at)) (mark_in l at).kind p).next × (ends_test l (test_with l (find_from most v 0 (word_in l at)) (mark_in l at).kind p).next ≡ true) × ((test_with l (find_from most v 0 (word_in l at)) (mark_in l at).kind p).next ≤ length l)
      go None q z = absurd (false≢true (sym z))
      go (Some o) q z = operand_sound at h aw o q z
