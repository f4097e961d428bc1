-- One test of a lock: what says it is read as it is meant. Assumes nothing.
use mathlib.Core.Path.{◌≡◌, refl, sym, ap, ◌∙◌}
use mathlib.Core.Bool.{Bool, true, false, not, ◌&&◌, and-eq-true_iff, false≢true}
use mathlib.Core.List.{List, [], ◌∷◌, ◌++◌, append_assoc, Memᴰ}
use mathlib.Core.Logic.{◌⊎◌, inl, inr}
use mathlib.Core.Option.{some}
use Prim.Native.Nat.{ℕ, ◌+◌, ◌-◌, ◌≤◌, ◌<◌}
use native.Mathlib.Omega.{arith}
use lib.Dec.{eqb, leb}
use lib.ListN.{length, get_or, drop, drop_of_length-le}
use lib.Seq.{get_or-drop}
use borrow.Author.Tests.{lt-ltb, le-leb, lt-leb, ne_eqb, eqb-true, not-true}
use Rattle.slices.specs.Parts.{part}
use Rattle.slices.specs.Same.{same}
use Rattle.tokens.specs.Bytes.{class_of}
use Rattle.tokens.specs.Kinds as kinds
use Rattle.tokens.specs.Runs.{is_of, run_end}
use Rattle.tokens.specs.Tokens.{token, token_at}
use Rattle.tokens.specs.Forms.{All, empty, next, a_number, a_mark, Number, signless, minus, whole, pointed, digits_from, marks, digits}
use Rattle.tokens.specs.declared.classes.Sort.TheVariants.{Blanks, Digits, WordBytes}
use Rattle.tokens.specs.declared.reader.Token.{Token}
use Rattle.tokens.proofs.FormLaws.{is_among, is_among_lem}
use Rattle.tokens.proofs.TokenLaws.{digit_byte}
use Rattle.spelling.proofs.Apart.{calm_apart, blank_calm}
use Rattle.spelling.specs.Spelling.{apart, calm}
use Rattle.spelling.specs.Printing.{mark_kind}
use Rattle.bags.proofs.Laid.{Laid, laid_split, laid_bytes}
use Rattle.grammar.specs.Policies.{Comparator}
use Rattle.placing.specs.Said.{Word}
use Rattle.permits.specs.Permits.{Test, sign_of}
use Rattle.permits.specs.Meaning.{Orders, more, at_least, less, at_most, AValue, Fits, equal_fits, member_fits, order_fits}
use Rattle.permits.proofs.Values.{number_long}
use Rattle.questions.specs.Forms.{Distinct}
use Rattle.locks.specs.Reading.{find_from, most, goes_with, value_behind, number_behind, operand_at, ends_test, test_of, test_with, test_at, path_of, test_by, test_in, is_vocabulary, word_from, word_up_to, word_in, mark_in, operand_in}
use Rattle.std.specs.Prelude.{Some}
use Rattle.std.specs.Prelude as prelude
use Rattle.locks.specs.Forms.{WordSort, equality, membership, numbers, sort_byte, VocabularyEntry, AWord, a_word, WrittenTest, TestBytes, value_test, number_test, Meant, an_equality, a_membership, a_comparison, vocabulary_words}
use Rattle.locks.specs.declared.Piece.{Piece}
use Rattle.locks.specs.declared.tests.TestPlaces.{TestPlaces}
use Rattle.locks.proofs.Entries.{sort_byte_lem, entries_in, find_is, find_sort, some_found, lookup_mem}
use Rattle.locks.proofs.TestsSaid.{run_reads, token_reads, colon_reads}
use Rattle.locks.proofs.TestsRead.{comparator_of, order_goes}
use Rattle.locks.proofs.Strings.{word_bytes}

-- ---- the byte behind a thing

-- a lock ends at a place, or a `&` stands there
pub data Stop (l : List ℕ) (e : ℕ) : Type 0 where
  at_end : e ≡ length l → Stop l e
  at_and : (r : List ℕ) → e < length l → drop e l ≡ 38 ∷ r → Stop l e

-- the byte there
stop_byte : {l : List ℕ} {e : ℕ} → Stop l e → (get_or (drop e l) 0 0 ≡ 0) ⊎ (get_or (drop e l) 0 0 ≡ 38)
stop_byte {l} {e} (at_end q) = let h : length l ≤ e = omega arith in inl (ap (λ (x : List ℕ). get_or x 0 0) (drop_of_length-le l h))
stop_byte {l} {e} (at_and r h q) = inr (ap (λ (x : List ℕ). get_or x 0 0) q)

pub stop_goes : {l : List ℕ} {e : ℕ} → Stop l e → ends_test l e ≡ true
unfolding ends_test
stop_goes {l} {e} (at_end q) = let h : length l ≤ e = omega arith in rw (le-leb _ _ h)
stop_goes {l} {e} (at_and r h q) =
    let z : e + 0 ≡ e = omega arith in
    let b : get_or l e 0 ≡ 38 = ap (λ (k : ℕ). get_or l k 0) (sym z) ∙ sym (get_or-drop e l 0 0) ∙ ap (λ (x : List ℕ). get_or x 0 0) q in
    rw (lt-leb _ _ h, b)

stop_calm : {b : ℕ} → (b ≡ 0) ⊎ (b ≡ 38) → (calm b ≡ true) × (is_of Blanks b ≡ false)
unfolding calm class_of
stop_calm (inl q) = rw q (refl, refl)
stop_calm (inr q) = rw q (refl, refl)

calm_not_word : (b : ℕ) → calm b ≡ true → is_of WordBytes b ≡ false
unfolding calm
calm_not_word b h = not-true (is_of WordBytes b) ((and-eq-true_iff (not (is_of WordBytes b)) _).0 h).0

blank_not_word : (b : ℕ) → is_of Blanks b ≡ true → is_of WordBytes b ≡ false
blank_not_word b h = calm_not_word b (blank_calm b h)

word_not_blank : (b : ℕ) → is_of WordBytes b ≡ true → is_of Blanks b ≡ false
word_not_blank b h = go (is_of Blanks b) refl
  where
    go : (t : Bool) → is_of Blanks b ≡ t → is_of Blanks b ≡ false
    go false e = e
    go true e = absurd (false≢true (sym (blank_not_word b e) ∙ h))

-- behind blanks stands what they are before, or a blank
first_calm : {a : List ℕ} → All Blanks a → (d : List ℕ) → calm (get_or d 0 0) ≡ true → calm (get_or (a ++ d) 0 0) ≡ true
first_calm empty d h = h
first_calm (next {b} e a) d h = blank_calm b e

first_not_word : {a : List ℕ} → All Blanks a → (c : ℕ) (r d : List ℕ) → is_of WordBytes c ≡ false → is_of WordBytes (get_or ((a ++ c ∷ r) ++ d) 0 0) ≡ false
first_not_word empty c r d h = h
first_not_word (next {b} e a) c r d h = blank_not_word b e

-- the first byte of a number
data NumberFirst (b : ℕ) : Type 0 where
  a_digit : is_of Digits b ≡ true → NumberFirst b
  a_minus : b ≡ 45 → NumberFirst b

number_first : {n : List ℕ} → Number n → (d : List ℕ) → NumberFirst (get_or (n ++ d) 0 0)
number_first (signless (whole (digits_from e a))) d = a_digit e
number_first (signless (pointed (digits_from e a) f)) d = a_digit e
number_first (minus u) d = a_minus refl

number_not_blank : (b : ℕ) → NumberFirst b → is_of Blanks b ≡ false
unfolding class_of
number_not_blank b (a_digit e) = rw (eqb_true' e)
  where
    eqb_true' : eqb (class_of b) 4 ≡ true → class_of b ≡ 4
    eqb_true' h = eqb-true (class_of b) 4 h
number_not_blank b (a_minus e) = rw e

number_no_equals : (b : ℕ) → NumberFirst b → eqb b 61 ≡ false
number_no_equals b (a_digit e) = let k = digit_byte b e in ne_eqb b 61 (λ z. omega (arith, k.0, k.1))
number_no_equals b (a_minus e) = rw e

no_equals : {a n : List ℕ} → All Blanks a → Number n → (d : List ℕ) → eqb (get_or ((a ++ n) ++ d) 0 0) 61 ≡ false
unfolding calm
no_equals empty u d = number_no_equals _ (number_first u d)
no_equals (next {b} e a) u d =
    let h = blank_calm b e in
    not-true (eqb b 61) ((and-eq-true_iff (not (eqb b 46)) _).0 ((and-eq-true_iff (not (is_of WordBytes b)) _).0 h).1).1

-- the same bytes, put together otherwise
laid_as : {s : List ℕ} {at : ℕ} {b c : List ℕ} {e : ℕ} → b ≡ c → Laid s at b e → Laid s at c e
laid_as {s} {at} {b} {c} {e} q d =
    record { is = d.is ∙ ap (λ (x : List ℕ). x ++ drop e s) q; stop = d.stop ∙ ap (λ (x : List ℕ). at + length x) q; inside = d.inside }

-- what has a byte ends further on
longer : {s : List ℕ} {at : ℕ} {b : List ℕ} {e : ℕ} → Laid s at b e → 1 ≤ length b → at < e
longer d h = omega (arith, d.stop)

-- ---- the test at a place, by its parts

module _ (v l : List ℕ) where
  test_at_is : (at : ℕ) {w : Word} {m : Token} {o : Piece} {n : ℕ} → word_in l at ≡ w → mark_in l at ≡ m → operand_in l at ≡ Some o → run_end Blanks l o.end ≡ n
      → test_at v l at ≡ test_of l (find_from most v 0 w) m.kind o n
  unfolding test_at test_with
  test_at_is at {w} {m} {o} {n} qw qm qo qn =
      ap (λ (x : Word). test_with l (find_from most v 0 x) (mark_in l at).kind (operand_in l at)) qw
      ∙ ap (λ (x : Token). test_with l (find_from most v 0 w) x.kind (operand_in l at)) qm
      ∙ ap (λ (x : prelude.Option Piece). test_with l (find_from most v 0 w) m.kind x) qo
      ∙ ap (λ (x : ℕ). test_of l (find_from most v 0 w) m.kind o x) qn

  -- a test that is met at a place
  pub record Met (at : ℕ) (t : Test) (e : ℕ) : Type 0 where
    pub some_sort : eqb (test_at v l at).sort 0 ≡ false
    pub behind : (test_at v l at).next ≡ e
    pub is_it : test_in v l (test_at v l at) ≡ t

  module _ (good : is_vocabulary v ≡ true) (distinct : Distinct (vocabulary_words (entries_in v most 0))) where
    -- the entry of a word that is in the vocabulary
    record Entered (w p : Word) (s : WordSort) : Type 0 where
      some_sort : eqb (find_from most v 0 w).sort 0 ≡ false
      path : path_of v (find_from most v 0 w) ≡ p
      sort : (find_from most v 0 w).sort ≡ sort_byte s

    entered : {w p : Word} {s : WordSort} → Memᴰ (record { word = w; path = p; sort = s }) (entries_in v most 0) → Entered w p s
    entered {w} {p} {s} m =
        let e = find_from most v 0 w in
        let x : VocabularyEntry = record { word = w; path = p; sort = s } in
        let f = some_found v e x (find_is v most 0 most w good (omega arith) ∙ lookup_mem (entries_in v most 0) x distinct m) in
        record {
          some_sort = f.0;
          path = ap (λ (y : VocabularyEntry). y.path) f.1;
          sort = sym (sort_byte_lem e.sort (find_sort v most 0 most w good (omega arith) f.0)) ∙ ap (λ (y : VocabularyEntry). sort_byte y.sort) f.1;
        }

    -- all that is asked of a test holds
    met : (at : ℕ) {w p x : Word} {s : WordSort} {m : Token} {o : Piece} {n : ℕ} → Entered w p s → word_in l at ≡ w → mark_in l at ≡ m → operand_in l at ≡ Some o
        → run_end Blanks l o.end ≡ n → o.end - o.start ≤ 127 → goes_with (sort_byte s) m.kind ≡ true → ends_test l n ≡ true
        → part l o.start (o.end - o.start) ≡ x → Met at (test_by (sort_byte s) m.kind p x) n
    unfolding test_of test_in path_of
    met at {w} {p} {x} {s} {m} {o} {n} e qw qm qo qn k a b y =
        let f = find_from most v 0 w in
        let c : (leb (o.end - o.start) 127 && goes_with f.sort m.kind && ends_test l n) ≡ true = rw (le-leb _ _ k, e.sort, a, b) in
        let t = test_at_is at qw qm qo qn in
        let r : test_at v l at ≡ record { sort = f.sort; path = f.path; stop = f.end; mark = m.kind; value = o.start; end = o.end; next = n } = t ∙ rw c in
        record {
          some_sort = ap (λ (z : TestPlaces). eqb z.sort 0) r ∙ e.some_sort;
          behind = ap (λ (z : TestPlaces). z.next) r;
          is_it = ap (test_in v l) r ∙ rw (e.sort, e.path, y);
        }

    -- where the parts of a test lie: its word, and behind it the place from which on the mark stands
    record WordThere (at : ℕ) (w : Word) (from : ℕ) : Type 0 where
      word : word_in l at ≡ w
      to : word_up_to l at ≡ from

    word_there : {at s from : ℕ} {a w : List ℕ} → All Blanks a → AWord w → Laid l at a s → Laid l s w from → is_of WordBytes (get_or (drop from l) 0 0) ≡ false → WordThere at w from
    word_there {at} {s} {from} {a} {w} ba aw la lw n =
        let wf : word_from l at ≡ s = run_reads ba la (letter_first aw lw) in
        let wt : word_up_to l at ≡ from = ap (run_end WordBytes l) wf ∙ run_reads (word_bytes aw) lw n in
        record {
          word = ap (λ (x : ℕ). part l x (word_up_to l at - x)) wf ∙ ap (λ (y : ℕ). part l s (y - s)) wt ∙ laid_bytes lw;
          to = wt;
        }
      where
        letter_first : {w : Word} {s from : ℕ} → AWord w → Laid l s w from → is_of Blanks (get_or (drop s l) 0 0) ≡ false
        letter_first (a_word {b} {rest} e r h) d =
            ap (λ (x : List ℕ). is_of Blanks (get_or x 0 0)) d.is ∙ ap (λ (c : ℕ). eqb c 2) (eqb-true (class_of b) 5 e)

    behind_value : {xe e : ℕ} {b : List ℕ} → All Blanks b → Laid l xe b e → Stop l e → run_end Blanks l xe ≡ e
    behind_value ab lb st = run_reads ab lb (stop_calm (stop_byte st)).1

    -- the byte behind a value or a number
    after_calm : {xe e : ℕ} {b : List ℕ} → All Blanks b → Laid l xe b e → Stop l e → calm (get_or (drop xe l) 0 0) ≡ true
    after_calm {xe} {e} ab lb st = ap (λ (x : List ℕ). calm (get_or x 0 0)) lb.is ∙ first_calm ab (drop e l) (stop_calm (stop_byte st)).0

    value_op : {me xs xe : ℕ} {b x : List ℕ} → All Blanks b → All WordBytes x → 1 ≤ length x → Laid l me b xs → Laid l xs x xe → is_of WordBytes (get_or (drop xe l) 0 0) ≡ false
        → operand_at l kinds.colon_outside me ≡ Some (record { start = xs; end = xe })
    unfolding operand_at value_behind
    value_op {me} {xs} {xe} {b} {x} ab ax one lb lx n =
        let r : run_end Blanks l me ≡ xs = run_reads ab lb (first_word ax one lx) in
        let q : run_end WordBytes l xs ≡ xe = run_reads ax lx n in
        rw (r, q, lt-ltb _ _ (longer lx one))
      where
        first_word : {x : List ℕ} {xs xe : ℕ} → All WordBytes x → 1 ≤ length x → Laid l xs x xe → is_of Blanks (get_or (drop xs l) 0 0) ≡ false
        first_word empty h d = absurd (omega arith)
        first_word (next {b} e a) h d = ap (λ (y : List ℕ). is_of Blanks (get_or y 0 0)) d.is ∙ word_not_blank b e

    number_op : (mark : ℕ) {me xe : ℕ} {b n : List ℕ} → eqb mark kinds.colon_outside ≡ false → All Blanks b → Number n → digits n ≤ 15 → Laid l me (b ++ n) xe
        → calm (get_or (drop xe l) 0 0) ≡ true → operand_at l mark me ≡ Some (record { start = me + length b; end = xe })
    unfolding operand_at number_behind
    number_op mark {me} {xe} {b} {n} k ab u d ln c =
        let t : token_at l me ≡ token kinds.number (me + length b) xe = token_reads ab (a_number u) d ln (calm_apart n _ c) in
        rw (k, t)

    -- a mark that stands there
    mark_reads : {c : Comparator} → Orders c → {from me : ℕ} {a : List ℕ} → All Blanks a → Laid l from (a ++ sign_of c) me → eqb (get_or (drop me l) 0 0) 61 ≡ false
        → token_at l from ≡ token (mark_kind c) (from + length a) me
    unfolding mark_kind sign_of apart marks is_among class_of same
    mark_reads more ab d n = token_reads ab (a_mark (is_among_lem marks 62 (62 ∷ []) refl)) (omega arith) d (rw n)
    mark_reads at_least ab d n = token_reads ab (a_mark (is_among_lem marks 190 (62 ∷ 61 ∷ []) refl)) (omega arith) d refl
    mark_reads less ab d n = token_reads ab (a_mark (is_among_lem marks 60 (60 ∷ []) refl)) (omega arith) d (rw n)
    mark_reads at_most ab d n = token_reads ab (a_mark (is_among_lem marks 188 (60 ∷ 61 ∷ []) refl)) (omega arith) d refl

    mark_no_word : {c : Comparator} → Orders c → {a : List ℕ} → All Blanks a → (d e : List ℕ) → is_of WordBytes (get_or ((a ++ (sign_of c ++ d)) ++ e) 0 0) ≡ false
    unfolding sign_of class_of
    mark_no_word more ab d e = first_not_word ab 62 d e refl
    mark_no_word at_least ab d e = first_not_word ab 62 (61 ∷ d) e refl
    mark_no_word less ab d e = first_not_word ab 60 d e refl
    mark_no_word at_most ab d e = first_not_word ab 60 (61 ∷ d) e refl

    goes_value : (s : WordSort) → (s ≡ equality) ⊎ (s ≡ membership) → goes_with (sort_byte s) kinds.colon_outside ≡ true
    unfolding goes_with sort_byte
    goes_value s (inl q) = rw q
    goes_value s (inr q) = rw q

    -- a word with a value
    value_met : (at : ℕ) {e : ℕ} {a w a₂ b₂ x b p : List ℕ} {s : WordSort} → (s ≡ equality) ⊎ (s ≡ membership)
        → Memᴰ (record { word = w; path = p; sort = s }) (entries_in v most 0) → All Blanks a → AWord w → All Blanks a₂ → All Blanks b₂ → AValue x → All Blanks b
        → length x ≤ 127 → Laid l at (a ++ ((w ++ (a₂ ++ 58 ∷ (b₂ ++ x))) ++ b)) e → Stop l e → Met at (test_by (sort_byte s) kinds.colon_outside p x) e
    unfolding class_of
    value_met at {e} {a} {w} {a₂} {b₂} {x} {b} {p} {s} kind m ba aw ba₂ bb₂ ax bb few d st =
        let d₁ = laid_split a ((w ++ (a₂ ++ 58 ∷ (b₂ ++ x))) ++ b) d in
        let d₂ = laid_split (w ++ (a₂ ++ 58 ∷ (b₂ ++ x))) b d₁.1 in
        let d₃ = laid_split w (a₂ ++ 58 ∷ (b₂ ++ x)) d₂.0 in
        let d₄ = laid_split (a₂ ++ 58 ∷ []) (b₂ ++ x) (laid_as (sym (append_assoc a₂ (58 ∷ []) (b₂ ++ x))) d₃.1) in
        let d₅ = laid_split b₂ x d₄.1 in
        let c = after_calm bb d₂.1 st in
        let no_word = ap (λ (y : List ℕ). is_of WordBytes (get_or y 0 0)) d₃.1.is ∙ first_not_word ba₂ 58 (b₂ ++ x) _ refl in
        let t = word_there ba aw d₁.0 d₃.0 no_word in
        let qm = ap (token_at l) t.to ∙ colon_reads ba₂ d₄.0 in
        let qo = ap (λ (y : Token). operand_at l y.kind y.end) qm ∙ value_op bb₂ ax.all ax.some d₅.0 d₅.1 (calm_not_word _ c) in
        let z = d₅.1.stop in
        met at (entered m) t.word qm qo (behind_value bb d₂.1 st) (omega (arith, z)) (goes_value s kind) (stop_goes st)
        (laid_bytes d₅.1)

    -- a word with a number
    number_met : (at : ℕ) {e : ℕ} {a w a₂ b₂ n b p : List ℕ} {c : Comparator} → Orders c
        → Memᴰ (record { word = w; path = p; sort = numbers }) (entries_in v most 0) → All Blanks a → AWord w → All Blanks a₂ → All Blanks b₂ → Number n → All Blanks b
        → digits n ≤ 15 → Laid l at (a ++ ((w ++ (a₂ ++ (sign_of c ++ (b₂ ++ n)))) ++ b)) e → Stop l e → Met at (test_by (sort_byte numbers) (mark_kind c) p n) e
    unfolding sort_byte
    number_met at {e} {a} {w} {a₂} {b₂} {n} {b} {p} {c} o m ba aw ba₂ bb₂ u bb few d st =
        let d₁ = laid_split a ((w ++ (a₂ ++ (sign_of c ++ (b₂ ++ n)))) ++ b) d in
        let d₂ = laid_split (w ++ (a₂ ++ (sign_of c ++ (b₂ ++ n)))) b d₁.1 in
        let d₃ = laid_split w (a₂ ++ (sign_of c ++ (b₂ ++ n))) d₂.0 in
        let d₄ = laid_split (a₂ ++ sign_of c) (b₂ ++ n) (laid_as (sym (append_assoc a₂ (sign_of c) (b₂ ++ n))) d₃.1) in
        let d₅ = laid_split b₂ n d₄.1 in
        let k = after_calm bb d₂.1 st in
        let no_word = ap (λ (y : List ℕ). is_of WordBytes (get_or y 0 0)) d₃.1.is ∙ mark_no_word o ba₂ (b₂ ++ n) _ in
        let t = word_there ba aw d₁.0 d₃.0 no_word in
        let equals = ap (λ (y : List ℕ). eqb (get_or y 0 0) 61) d₄.1.is ∙ no_equals bb₂ u _ in
        let qm = ap (token_at l) t.to ∙ mark_reads o ba₂ d₄.0 equals in
        let g = order_goes o in
        let qo = ap (λ (y : Token). operand_at l y.kind y.end) qm ∙ number_op (mark_kind c) g.1 bb₂ u few d₄.1 k in
        let z = d₅.1.stop in
        met at (entered m) t.word qm qo (behind_value bb d₂.1 st) (omega (arith, z, number_long u)) g.0 (stop_goes st) (laid_bytes d₅.1)

    -- a test as it is meant
    pub test_met : (at : ℕ) {e : ℕ} {a t b : List ℕ} {w : WrittenTest} {u : Test} → All Blanks a → TestBytes t w → All Blanks b → Meant (entries_in v most 0) w u → Fits u
        → Laid l at (a ++ (t ++ b)) e → Stop l e → Met at u e
    unfolding test_by sort_byte
    test_met at ba (value_test aw ba₂ bb₂ ax) bb (an_equality m) (equal_fits f) d st = value_met at (inl refl) m ba aw ba₂ bb₂ ax bb f d st
    test_met at ba (value_test aw ba₂ bb₂ ax) bb (a_membership m) (member_fits f) d st = value_met at (inr refl) m ba aw ba₂ bb₂ ax bb f d st
    test_met at ba (number_test aw ba₂ bb₂ o u) bb (a_comparison m) (order_fits f) d st = rw (comparator_of o) at (number_met at o m ba aw ba₂ bb₂ u bb f d st)
