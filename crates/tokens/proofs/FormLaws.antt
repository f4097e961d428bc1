-- Laws of the forms of tokens: how far a form can reach into a text, and its kind. Assumes nothing.
use mathlib.Core.Path.{◌≡◌, refl, ap, ◌∙◌, sym}
use mathlib.Core.Bool.{Bool, true, false, cond, not, ◌&&◌, ◌||◌}
use mathlib.Core.List.{List, [], ◌∷◌, ◌++◌, append_assoc}
use mathlib.Core.Logic.{⊎_elim}
use Prim.Native.Nat.{ℕ, suc, ◌+◌, ◌≤◌, ◌<◌, zero-le, suc-le-suc}
use Prim.Native.String.{String}
use native.Mathlib.Omega.{arith}
use lib.Dec.{eqb, leb}
use lib.ListN.{length, get_or, take, drop, length-append}
use lib.Seq.{take_at, drop-append_seam}
use borrow.Author.Tests.{eqb-true, leb-true, not-true}
use Rattle.slices.specs.Ascii.{bytes}
use Rattle.slices.specs.Same.{same}
use Rattle.slices.proofs.Equal.{same_decides}
use Rattle.tokens.specs.Bytes.{class_of, letter, digit, mark}
use Rattle.slices.specs.Parts.{Begins}
use Rattle.tokens.specs.Runs.{is_of, run}
use Rattle.tokens.specs.Words.{word_kind}
use Rattle.tokens.specs.Tokens.{doubled, before_equals}
use Rattle.tokens.specs.Forms.{All, empty, next, SomeDigits, digits_from, Unsigned, whole, pointed, Number, signless, minus, marks, Among, first, later, Form, a_word, a_string, a_number, a_mark, NoForm, Longest, size_of, most_of}
use Rattle.tokens.specs.declared.classes.Sort.{Sort}
use Rattle.tokens.specs.declared.classes.Sort.TheVariants.{Blanks, Marks, Digits, Letters, WordBytes, StringBytes, LoneMarks}
use Rattle.tokens.proofs.TokenLaws.{never, and_left, and_right, or_cases, every}

-- ---- runs

-- bytes of a sort that begin a list are no more than its run
run_covers : {sort : Sort} {p : List ℕ} → All sort p → (q : List ℕ) → length p ≤ run sort (p ++ q)
unfolding run
run_covers empty q = zero-le
run_covers (next e a) q = rw e (suc-le-suc (run_covers a q))

-- and just as many where no byte of the sort comes next
pub run_is : {sort : Sort} {p : List ℕ} → All sort p → (q : List ℕ) → is_of sort (get_or q 0 0) ≡ false → run sort (p ++ q) ≡ length p
unfolding run
run_is empty [] n = refl
run_is empty (b ∷ q) n = rw n
run_is (next e a) q n = rw e (ap suc (run_is a q n))

-- a list by its run, and what comes next
pub data Split (sort : Sort) : List ℕ → Type 0 where
  split : {p : List ℕ} → All sort p → (q : List ℕ) → is_of sort (get_or q 0 0) ≡ false → Split sort (p ++ q)

past_the_end : (sort : Sort) → is_of sort 0 ≡ false
unfolding class_of
past_the_end Blanks = refl
past_the_end Marks = refl
past_the_end Digits = refl
past_the_end Letters = refl
past_the_end WordBytes = refl
past_the_end StringBytes = refl
past_the_end LoneMarks = refl

split_next : {sort : Sort} {l : List ℕ} (b : ℕ) (t : Bool) → is_of sort b ≡ t → Split sort l → Split sort (b ∷ l)
split_next b true e (split a q n) = split (next e a) q n
split_next {l} b false e s = split empty (b ∷ l) e

pub split_run : (sort : Sort) (l : List ℕ) → Split sort l
split_run sort [] = split empty [] (past_the_end sort)
split_run sort (b ∷ l) = split_next b (is_of sort b) refl (split_run sort l)

-- the byte behind a list's beginning
pub at_seam : (p q : List ℕ) → get_or (p ++ q) (length p) 0 ≡ get_or q 0 0
at_seam [] q = refl
at_seam (b ∷ p) q = at_seam p q

-- ---- the reach of a list: how many bytes the longest form has that begins it, and 0 where none does

-- a point and a digit come first
abbrev pub has_fraction : List ℕ → Bool
has_fraction l = eqb (get_or l 0 0) 46 && is_of Digits (get_or l 1 0)

-- of a fraction, and of a number without its minus
abbrev pub fraction_reach : List ℕ → ℕ
fraction_reach l = cond (has_fraction l) (suc (run Digits (drop 1 l))) 0

unfoldable pub digits_reach : List ℕ → ℕ
digits_reach l = run Digits l + fraction_reach (drop (run Digits l) l)

-- of a string, whose bytes behind its first quote these are
unfoldable pub string_reach : List ℕ → ℕ
string_reach l = cond (eqb (get_or l (run StringBytes l) 0) 34) (suc (suc (run StringBytes l))) 0

-- of a mark, by its first byte and the next
unfoldable pub mark_reach : ℕ → ℕ → ℕ
mark_reach b c =
    cond (doubled b) (cond (eqb c b) 2 0)
    (cond (before_equals b && eqb c 61) 2
    (cond (eqb b 95) 0 1))

-- of any token
unfoldable pub reach : List ℕ → ℕ
reach [] = 0
reach (b ∷ l) =
    cond (eqb (class_of b) letter) (run WordBytes (b ∷ l))
    (cond (eqb (class_of b) digit) (digits_reach (b ∷ l))
    (cond (eqb (class_of b) mark)
    (cond (eqb b 34) (string_reach l) (cond (eqb b 45) (cond (is_of Digits (get_or l 0 0)) (suc (digits_reach l)) 0) (mark_reach b (get_or l 0 0)))) 0))

-- ---- numbers

pub some_all : {l : List ℕ} → SomeDigits l → All Digits l
some_all (digits_from e a) = next e a

pub some_first : {l : List ℕ} → SomeDigits l → (q : List ℕ) → is_of Digits (get_or (l ++ q) 0 0) ≡ true
some_first (digits_from e a) q = e

unsigned_first : {l : List ℕ} → Unsigned l → (q : List ℕ) → is_of Digits (get_or (l ++ q) 0 0) ≡ true
unsigned_first (whole s) q = some_first s q
unsigned_first (pointed {w} {f} s t) q = rw (append_assoc w (46 ∷ f) q) (some_first s (46 ∷ f ++ q))

unsigned_covers : {l : List ℕ} → Unsigned l → (q : List ℕ) → length l ≤ digits_reach (l ++ q)
unfolding digits_reach class_of
unsigned_covers (whole {w} s) q = let h = run_covers (some_all s) q in omega arith
unsigned_covers (pointed {w} {f} s t) q =
    let r : run Digits (w ++ 46 ∷ (f ++ q)) ≡ length w = run_is (some_all s) (46 ∷ (f ++ q)) refl in
    let h = run_covers (some_all t) q in
    rw (append_assoc w (46 ∷ f) q, r, drop-append_seam w (46 ∷ (f ++ q)), some_first t q) (omega (arith, length-append w (46 ∷ f)))

pub reach_digits : (l : List ℕ) → is_of Digits (get_or l 0 0) ≡ true → reach l ≡ digits_reach l
unfolding reach class_of
reach_digits [] e = absurd (never e)
reach_digits (b ∷ l) e = rw (eqb-true (class_of b) digit e)

-- ---- marks

-- a test by kind and bytes that each of some marks passes, one of them passes
pub mark_passes : (test : ℕ → List ℕ → Bool) {ms : List (String × ℕ)} {kind : ℕ} {l : List ℕ} → Among ms kind l
    → every (λ (m : String × ℕ). test m.1 (bytes m.0)) ms ≡ true → test kind l ≡ true
unfolding every
mark_passes test first v = and_left _ _ v
mark_passes test (later {m} m') v = mark_passes test m' (and_right (test m.1 (bytes m.0)) _ v)

-- `Among` as a test that computes
unfoldable pub is_among : List (String × ℕ) → ℕ → List ℕ → Bool
is_among [] kind l = false
is_among (m ∷ ms) kind l = (eqb kind m.1 && same l (bytes m.0)) || is_among ms kind l

pub is_among_lem : (ms : List (String × ℕ)) (kind : ℕ) (l : List ℕ) → is_among ms kind l ≡ true → Among ms kind l
unfolding is_among
is_among_lem [] kind l e = absurd (never e)
is_among_lem (m ∷ ms) kind l e =
    ⊎_elim
    (λ (h : (eqb kind m.1 && same l (bytes m.0)) ≡ true).
    rw (eqb-true kind m.1 (and_left _ _ h), (same_decides l (bytes m.0)).sound (and_right (eqb kind m.1) _ h)) first)
    (λ (h : is_among ms kind l ≡ true). later (is_among_lem ms kind l h))
    (or_cases _ _ e)

-- the kind of bytes that have a form
kind_of : List ℕ → ℕ
kind_of l =
    cond (eqb (class_of (get_or l 0 0)) letter) (word_kind l)
    (cond (eqb (class_of (get_or l 0 0)) digit) 48
    (cond (eqb (get_or l 0 0) 34) 34
    (cond (eqb (get_or l 0 0) 45) 48
    (get_or l 0 0 + cond (eqb (get_or l 1 0) 61 && not (eqb (get_or l 0 0) 61)) 128 0))))

-- what all marks have
marked : List ℕ → Bool
marked [] = false
marked (b ∷ []) = eqb (class_of b) mark && (not (eqb b 34) && (not (eqb b 45) && (not (doubled b) && not (eqb b 95))))
marked (b ∷ c ∷ []) = eqb (class_of b) mark && (not (eqb b 34) && (not (eqb b 45) && eqb (mark_reach b c) 2))
marked (b ∷ c ∷ d ∷ l) = false

all_marked : {kind : ℕ} {l : List ℕ} → Among marks kind l → marked l ≡ true
unfolding every marked marks class_of mark_reach
all_marked m = mark_passes (λ kind l. marked l) m refl

mark_kind : {kind : ℕ} {l : List ℕ} → Among marks kind l → kind ≡ kind_of l
unfolding every kind_of marks class_of
mark_kind {kind} {l} m = eqb-true kind (kind_of l) (mark_passes (λ kind l. eqb kind (kind_of l)) m refl)

pub mark_small : {kind : ℕ} {l : List ℕ} → Among marks kind l → size_of kind l ≤ most_of kind
unfolding every marks
mark_small {kind} {l} m = leb-true (size_of kind l) (most_of kind) (mark_passes (λ kind l. leb (size_of kind l) (most_of kind)) m refl)

one_at_least : (t : Bool) → 1 ≤ cond t 2 1
one_at_least true = omega arith
one_at_least false = omega arith

mark_covers : (l : List ℕ) → marked l ≡ true → (q : List ℕ) → length l ≤ reach (l ++ q)
unfolding marked reach
mark_covers [] e q = zero-le
mark_covers (b ∷ []) e q =
    let after_class = and_right (eqb (class_of b) mark) _ e in
    let after_quote = and_right (not (eqb b 34)) _ after_class in
    let after_minus = and_right (not (eqb b 45)) _ after_quote in
    unfold mark_reach in
    simp (
      eqb-true (class_of b) mark (and_left _ _ e),
      not-true (eqb b 34) (and_left _ _ after_class),
      not-true (eqb b 45) (and_left _ _ after_quote),
      not-true (doubled b) (and_left _ _ after_minus),
      not-true (eqb b 95) (and_right (not (doubled b)) _ after_minus),
    ) (one_at_least (before_equals b && eqb (get_or q 0 0) 61))
mark_covers (b ∷ c ∷ []) e q =
    let after_class = and_right (eqb (class_of b) mark) _ e in
    let after_quote = and_right (not (eqb b 34)) _ after_class in
    simp (
      eqb-true (class_of b) mark (and_left _ _ e),
      not-true (eqb b 34) (and_left _ _ after_class),
      not-true (eqb b 45) (and_left _ _ after_quote),
      eqb-true (mark_reach b c) 2 (and_right (not (eqb b 45)) _ after_quote),
    ) (omega arith)
mark_covers (b ∷ c ∷ d ∷ l) e q = absurd (never e)

-- ---- forms

number_covers : {l : List ℕ} → Number l → (q : List ℕ) → length l ≤ reach (l ++ q)
unfolding reach class_of
number_covers (signless {l} u) q = rw (reach_digits (l ++ q) (unsigned_first u q)) (unsigned_covers u q)
number_covers (minus {l} u) q = rw (unsigned_first u q) (suc-le-suc (unsigned_covers u q))

-- a form that begins a list is no longer than the list's reach
covers : {kind : ℕ} {l : List ℕ} → Form kind l → (q : List ℕ) → length l ≤ reach (l ++ q)
unfolding reach class_of string_reach
covers (a_word {b} {rest} e a) q = rw e (run_covers (next {b = b} (rw e) a) q)
covers (a_string {inside} a) q =
    rw (append_assoc inside (34 ∷ []) q, run_is a (34 ∷ q) refl, at_seam inside (34 ∷ q)) (omega (arith, length-append inside (34 ∷ [])))
covers (a_number n) q = number_covers n q
covers (a_mark {l} m) q = mark_covers l (all_marked m) q

unsigned_kind : {l : List ℕ} → Unsigned l → 48 ≡ kind_of l
unfolding kind_of
unsigned_kind (whole (digits_from {b} e a)) = rw (eqb-true (class_of b) digit e)
unsigned_kind (pointed (digits_from {b} e a) t) = rw (eqb-true (class_of b) digit e)

kind_is : {kind : ℕ} {l : List ℕ} → Form kind l → kind ≡ kind_of l
unfolding kind_of class_of
kind_is (a_word e a) = rw e
kind_is (a_string a) = refl
kind_is (a_number (signless u)) = unsigned_kind u
kind_is (a_number (minus u)) = refl
kind_is (a_mark m) = mark_kind m

-- bytes have the form of one kind only
one_kind : {j k : ℕ} {l : List ℕ} → Form j l → Form k l → j ≡ k
one_kind f g = kind_is f ∙ sym (kind_is g)

some_bytes : {kind : ℕ} {l : List ℕ} → Form kind l → 0 < length l
unfolding marked
some_bytes (a_word e a) = omega arith
some_bytes (a_string a) = omega arith
some_bytes (a_number (signless (whole (digits_from e a)))) = omega arith
some_bytes (a_number (signless (pointed (digits_from e a) t))) = omega arith
some_bytes (a_number (minus u)) = omega arith
some_bytes (a_mark {l} m) = go l (all_marked m)
  where
    go : (l : List ℕ) → marked l ≡ true → 0 < length l
    go [] e = absurd (never e)
    go (b ∷ l) e = omega arith

-- a list that no form reaches into
pub no_form : (l : List ℕ) → reach l ≡ 0 → NoForm l
no_form l e = record { none = λ f b. omega (arith, some_bytes f, covers f b.rest, ap reach b.is) }

-- a form that reaches as far as any
pub longest : {kind : ℕ} {p : List ℕ} → Form kind p → (q : List ℕ) → reach (p ++ q) ≡ length p → Longest kind p (p ++ q)
longest f q e = record {
  form = f;
  begins = record { rest = q; is = refl };
  none_longer = λ g b. omega (arith, covers g b.rest, ap reach b.is);
}

-- the one longest form that begins a list
pub one_longest : {j k : ℕ} {o p l : List ℕ} → Longest j o l → Longest k p l → (j ≡ k) × (o ≡ p)
one_longest {o} {p} {l} f g =
    let size : length o ≡ length p = omega (arith, f.none_longer g.form g.begins, g.none_longer f.form f.begins) in
    let same : o ≡ p = cut f.begins (length p) size ∙ sym (cut g.begins (length p) refl) in
    (one_kind f.form (rw (← same) at g.form), same)
  where
    cut : {p l : List ℕ} → Begins p l → (n : ℕ) → length p ≡ n → p ≡ take n l
    cut {p} b n e = sym (ap (take n) b.is ∙ take_at p b.rest n e)
