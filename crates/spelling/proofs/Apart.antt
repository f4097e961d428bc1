-- A form stays the longest one where the byte behind it makes it no longer. Assumes nothing.
use mathlib.Core.Path.{◌≡◌, refl, ap, ◌∙◌, sym}
use mathlib.Core.Bool.{Bool, true, false, cond, not, ◌&&◌, ◌||◌}
use mathlib.Core.List.{List, [], ◌∷◌, ◌++◌, append_assoc, append-nil}
use Prim.Native.Nat.{ℕ, suc, ◌+◌, ◌≤◌}
use native.Mathlib.Omega.{arith}
use lib.Dec.{eqb, leb}
use lib.ListN.{length, get_or, drop, length-append}
use lib.Seq.{drop-append_seam}
use borrow.Author.Tests.{eqb-true, ne_eqb, leb-true, not-true}
use Rattle.slices.specs.Same.{same}
use Rattle.tokens.specs.declared.classes.Sort.{Sort}
use Rattle.tokens.specs.Bytes.{class_of, letter, digit, mark, blank}
use Rattle.tokens.specs.Runs.{is_of, run}
use Rattle.tokens.specs.Tokens.{doubled, before_equals}
use Rattle.tokens.specs.Forms.{All, empty, next, SomeDigits, digits_from, Unsigned, whole, pointed, Number, signless, minus, marks, Among, Form, a_word}
use Rattle.tokens.specs.Forms.{a_string, a_number, a_mark, Longest}
use Rattle.tokens.specs.declared.classes.Sort.TheVariants.{Blanks, Digits, Letters, WordBytes}
use Rattle.tokens.proofs.TokenLaws.{never, and_left, and_right, every}
use Rattle.tokens.proofs.KindLaws.{word_high}
use Rattle.tokens.proofs.FormLaws.{run_is, at_seam, digits_reach, string_reach, mark_reach, reach, reach_digits, some_all, some_first, mark_passes, is_among}
use Rattle.tokens.proofs.FormLaws.{is_among_lem, longest}
use Rattle.spelling.specs.Spelling.{apart, calm}

-- ---- how far a form reaches

unsigned_first : {l : List ℕ} → Unsigned l → (q : List ℕ) → is_of Digits (get_or (l ++ q) 0 0) ≡ true
unsigned_first (whole s) q = some_first s q
unsigned_first (pointed {w} {f} s t) q = rw (append_assoc w (46 ∷ f) q) (some_first s (46 ∷ f ++ q))

unsigned_reach : {l : List ℕ} → Unsigned l → (q : List ℕ) → is_of Digits (get_or q 0 0) ≡ false → eqb (get_or q 0 0) 46 ≡ false → digits_reach (l ++ q) ≡ length l
unfolding digits_reach class_of
unsigned_reach (whole {w} s) q d n = rw (run_is (some_all s) q d, drop-append_seam w q, n) (omega arith)
unsigned_reach (pointed {w} {f} s t) q d n =
    let r : run Digits (w ++ 46 ∷ (f ++ q)) ≡ length w = run_is (some_all s) (46 ∷ (f ++ q)) refl in
    rw (append_assoc w (46 ∷ f) q, r, drop-append_seam w (46 ∷ (f ++ q)), some_first t q, run_is (some_all t) q d) (omega (arith, length-append w (46 ∷ f)))

-- a digit is no letter
digit_no_letter : (b : ℕ) → is_of Digits b ≡ true → is_of Letters b ≡ false
digit_no_letter b e = rw (eqb-true (class_of b) digit e)

-- what is asked behind a number
number_asks : (p : List ℕ) (b : ℕ) → is_of Letters (get_or p 0 0) ≡ false → (is_of Digits (get_or p 0 0) || eqb (get_or p 0 0) 45) ≡ true → apart p b ≡ true
    → (is_of Digits b ≡ false) × (eqb b 46 ≡ false)
unfolding apart
number_asks p b l d e =
    let h : (not (is_of Digits b) && not (eqb b 46)) ≡ true = rw (l, d) at e in
    (not-true _ (and_left _ _ h), not-true _ (and_right (not (is_of Digits b)) _ h))

number_reach : {l : List ℕ} → Number l → (q : List ℕ) → apart l (get_or q 0 0) ≡ true → reach (l ++ q) ≡ length l
unfolding reach class_of
number_reach (signless {l} u) q e =
    let d : is_of Digits (get_or l 0 0) ≡ true = rw (append-nil l) at (unsigned_first u []) in
    let n = number_asks l (get_or q 0 0) (digit_no_letter (get_or l 0 0) d) (rw d) e in
    reach_digits (l ++ q) (unsigned_first u q) ∙ unsigned_reach u q n.0 n.1
number_reach (minus {l} u) q e = let n = number_asks (45 ∷ l) (get_or q 0 0) refl refl e in rw (unsigned_first u q) (ap suc (unsigned_reach u q n.0 n.1))

-- what all marks have
marked : List ℕ → Bool
marked [] = false
marked (b ∷ []) = eqb (class_of b) mark && (not (eqb b 34) && (not (eqb b 45) && (not (doubled b) && not (eqb b 95))))
marked (b ∷ c ∷ []) = eqb (class_of b) mark && (not (eqb b 34) && (not (eqb b 45) && eqb (mark_reach b c) 2))
marked (b ∷ c ∷ d ∷ l) = false

all_marked : {kind : ℕ} {l : List ℕ} → Among marks kind l → marked l ≡ true
unfolding every marked marks class_of mark_reach
all_marked m = mark_passes (λ kind l. marked l) m refl

lone_reach : (b c : ℕ) → doubled b ≡ false → eqb b 95 ≡ false → (before_equals b && eqb c 61) ≡ false → mark_reach b c ≡ 1
unfolding mark_reach
lone_reach b c d u n = rw (d, n, u)

mark_reach_lem : (l : List ℕ) → marked l ≡ true → (q : List ℕ) → apart l (get_or q 0 0) ≡ true → reach (l ++ q) ≡ length l
unfolding marked reach apart
mark_reach_lem [] e q a = absurd (never e)
mark_reach_lem (b ∷ []) e q a =
    let class : class_of b ≡ mark = eqb-true (class_of b) mark (and_left _ _ e) in
    let after_class = and_right (eqb (class_of b) mark) _ e in
    let after_quote = and_right (not (eqb b 34)) _ after_class in
    let after_minus = and_right (not (eqb b 45)) _ after_quote in
    let no_quote : eqb b 34 ≡ false = not-true _ (and_left _ _ after_class) in
    let no_minus : eqb b 45 ≡ false = not-true _ (and_left _ _ after_quote) in
    let no_pair : doubled b ≡ false = not-true (doubled b) (and_left _ _ after_minus) in
    let no_line : eqb b 95 ≡ false = not-true _ (and_right (not (doubled b)) _ after_minus) in
    let alone : (before_equals b && eqb (get_or q 0 0) 61) ≡ false = not-true _ (rw (class, no_minus) at a) in
    rw (class, no_quote, no_minus) (lone_reach b (get_or q 0 0) no_pair no_line alone)
mark_reach_lem (b ∷ c ∷ []) e q a =
    let after_class = and_right (eqb (class_of b) mark) _ e in
    let after_quote = and_right (not (eqb b 34)) _ after_class in
    simp (
      eqb-true (class_of b) mark (and_left _ _ e),
      not-true (eqb b 34) (and_left _ _ after_class),
      not-true (eqb b 45) (and_left _ _ after_quote),
      eqb-true (mark_reach b c) 2 (and_right (not (eqb b 45)) _ after_quote),
    )
mark_reach_lem (b ∷ c ∷ d ∷ l) e q a = absurd (never e)

form_reach : {kind : ℕ} {p : List ℕ} → Form kind p → (q : List ℕ) → apart p (get_or q 0 0) ≡ true → reach (p ++ q) ≡ length p
unfolding reach class_of string_reach apart
form_reach (a_word {b} {rest} e a) q h =
    let n : is_of WordBytes (get_or q 0 0) ≡ false = not-true _ (rw e at h) in rw e (run_is (next {b = b} (rw e) a) q n)
form_reach (a_string {inside} a) q h =
    rw (append_assoc inside (34 ∷ []) q, run_is a (34 ∷ q) refl, at_seam inside (34 ∷ q)) (omega (arith, length-append inside (34 ∷ [])))
form_reach (a_number n) q h = number_reach n q h
form_reach (a_mark {l} m) q h = mark_reach_lem l (all_marked m) q h

-- a form is the longest where what follows makes it no longer
pub form_longest : {kind : ℕ} {p : List ℕ} → Form kind p → (q : List ℕ) → apart p (get_or q 0 0) ≡ true → Longest kind p (p ++ q)
form_longest f q h = longest f q (form_reach f q h)

-- ---- the longest form has no byte behind it that makes it longer, but for a point

all_more : {sort : Sort} {l : List ℕ} (b : ℕ) → All sort l → is_of sort b ≡ true → All sort (l ++ b ∷ [])
all_more b empty h = next h empty
all_more b (next e a) h = next e (all_more b a h)

some_more : {l : List ℕ} (b : ℕ) → SomeDigits l → is_of Digits b ≡ true → SomeDigits (l ++ b ∷ [])
some_more b (digits_from e a) h = digits_from e (all_more b a h)

unsigned_more : {l : List ℕ} (b : ℕ) → Unsigned l → is_of Digits b ≡ true → Unsigned (l ++ b ∷ [])
unsigned_more b (whole s) h = whole (some_more b s h)
unsigned_more b (pointed {w} {f} s t) h = rw (append_assoc w (46 ∷ f) (b ∷ [])) (pointed s (some_more b t h))

number_more : {l : List ℕ} (b : ℕ) → Number l → is_of Digits b ≡ true → Number (l ++ b ∷ [])
number_more b (signless u) h = signless (unsigned_more b u h)
number_more b (minus u) h = minus (unsigned_more b u h)

-- `=` behind a mark that may have one is a mark
equals_listed : {kind : ℕ} {l : List ℕ} → Among marks kind l → before_equals (get_or l 0 0) ≡ true → Among marks (get_or l 0 0 + 128) (get_or l 0 0 ∷ 61 ∷ [])
unfolding every is_among marks same
equals_listed {l = l} m d =
    let c = get_or l 0 0 in
    let passed : (not (before_equals c) || is_among marks (c + 128) (c ∷ 61 ∷ [])) ≡ true =
    mark_passes (λ kind l. not (before_equals (get_or l 0 0)) || is_among marks (get_or l 0 0 + 128) (get_or l 0 0 ∷ 61 ∷ [])) m refl in
    is_among_lem marks (c + 128) (c ∷ 61 ∷ []) (rw d at passed)

never_both : (a : Bool) → (a && false) ≡ false
never_both true = refl
never_both false = refl

-- a test that cannot hold
fails : (t : Bool) → (t ≡ true → ⊥) → t ≡ false
fails true n = absurd (n refl)
fails false n = refl

-- no form goes on with b behind p
record Stops (b : ℕ) (p : List ℕ) : Type 0 where
  no_longer : {kind : ℕ} → Form kind (p ++ b ∷ []) → ⊥

module _ (b : ℕ) (no_point : eqb b 46 ≡ false) where
  number_apart : (l : List ℕ) → is_of Letters (get_or l 0 0) ≡ false → (is_of Digits (get_or l 0 0) || eqb (get_or l 0 0) 45) ≡ true → is_of Digits b ≡ false
      → apart l b ≡ true
  unfolding apart
  number_apart l e d h = rw (e, d, h, no_point)

  mark_apart : {kind : ℕ} (l : List ℕ) → Among marks kind l → marked l ≡ true → Stops b l → apart l b ≡ true
  unfolding marked apart
  mark_apart [] m e n = absurd (never e)
  mark_apart (c ∷ []) m e n =
      let class : class_of c ≡ mark = eqb-true (class_of c) mark (and_left _ _ e) in
      let after_class = and_right (eqb (class_of c) mark) _ e in
      let no_minus : eqb c 45 ≡ false = not-true _ (and_left _ _ (and_right (not (eqb c 34)) _ after_class)) in
      let alone : (before_equals c && eqb b 61) ≡ false = fails (before_equals c && eqb b 61) (λ h. n.no_longer (longer h)) in
      rw (class, no_minus, alone)
    where
      longer : (before_equals c && eqb b 61) ≡ true → Form (c + 128) (c ∷ b ∷ [])
      longer h = rw (eqb-true b 61 (and_right (before_equals c) _ h)) (a_mark (equals_listed m (and_left _ _ h)))
  mark_apart (c ∷ d ∷ []) m e n =
      let class : class_of c ≡ mark = eqb-true (class_of c) mark (and_left _ _ e) in
      let after_class = and_right (eqb (class_of c) mark) _ e in
      let no_minus : eqb c 45 ≡ false = not-true _ (and_left _ _ (and_right (not (eqb c 34)) _ after_class)) in
      rw (class, no_minus)
  mark_apart (c ∷ d ∷ f ∷ l) m e n = absurd (never e)

  form_apart : {kind : ℕ} {p : List ℕ} → Form kind p → Stops b p → apart p b ≡ true
  unfolding apart class_of
  form_apart (a_word {b = c} e a) n = rw (e, fails (is_of WordBytes b) (λ h. n.no_longer (a_word e (all_more b a h))))
  form_apart (a_string {inside} a) n = rw (never_both (eqb (length (34 ∷ (inside ++ 34 ∷ []))) 1))
  form_apart (a_number (signless {l} u)) n =
      let d : is_of Digits (get_or l 0 0) ≡ true = rw (append-nil l) at (unsigned_first u []) in
      number_apart l (digit_no_letter (get_or l 0 0) d) (rw d) (fails (is_of Digits b) (λ h. n.no_longer (a_number (number_more b (signless u) h))))
  form_apart (a_number (minus {l} u)) n = number_apart (45 ∷ l) refl refl (fails (is_of Digits b) (λ h. n.no_longer (a_number (number_more b (minus u) h))))
  form_apart (a_mark {l = l} m) n = mark_apart l m (all_marked m) n

-- so the test holds of the byte behind the longest form, if there is one and it is no point
pub longest_apart : {kind : ℕ} {p : List ℕ} (b : ℕ) (q : List ℕ) → Longest kind p (p ++ b ∷ q) → eqb b 46 ≡ false → apart p b ≡ true
longest_apart {p = p} b q l e =
    form_apart b e l.form (record {
      no_longer = λ f. let h = l.none_longer f (record { rest = q; is = sym (append_assoc p (b ∷ []) q) }) in omega (arith, length-append p (b ∷ []));
    })

-- ---- bytes that make no token longer

calm_or : (l d : Bool) (b : ℕ) → (not (l || d || eqb b 95 || eqb b 45) && (not (eqb b 46) && not (eqb b 61))) ≡ true → not d ≡ true
calm_or l true b h = absurd (never (go l h))
  where
    go : (l : Bool) → (not (l || true || eqb b 95 || eqb b 45) && (not (eqb b 46) && not (eqb b 61))) ≡ true → false ≡ true
    go true h = h
    go false h = h
calm_or l false b h = refl

pub calm_apart : (p : List ℕ) (b : ℕ) → calm b ≡ true → apart p b ≡ true
unfolding apart calm
calm_apart p b h = go (is_of Letters (get_or p 0 0)) (is_of Digits (get_or p 0 0) || eqb (get_or p 0 0) 45) (eqb (length p) 1) (before_equals (get_or p 0 0))
  where
    word : not (is_of WordBytes b) ≡ true
    word = and_left _ _ h

    point : not (eqb b 46) ≡ true
    point = and_left _ _ (and_right (not (is_of WordBytes b)) _ h)

    equals : eqb b 61 ≡ false
    equals = not-true _ (and_right (not (eqb b 46)) _ (and_right (not (is_of WordBytes b)) _ h))

    digit_none : not (is_of Digits b) ≡ true
    digit_none = calm_or (is_of Letters b) (is_of Digits b) b h

    go : (l d n e : Bool) → cond l (not (is_of WordBytes b)) (cond d (not (is_of Digits b) && not (eqb b 46)) (not (n && (e && eqb b 61)))) ≡ true
    go true d n e = word
    go false true n e = rw (digit_none, point)
    go false false true true = rw equals
    go false false true false = refl
    go false false false e = refl

pub calm_no_point : (b : ℕ) → calm b ≡ true → eqb b 46 ≡ false
unfolding calm
calm_no_point b h = not-true _ (and_left _ _ (and_right (not (is_of WordBytes b)) _ h))

-- blanks are such
pub blank_calm : (b : ℕ) → is_of Blanks b ≡ true → calm b ≡ true
unfolding calm class_of
blank_calm b e =
    let class : class_of b ≡ blank = eqb-true (class_of b) blank e in
    let other : (c : ℕ) → is_of Blanks c ≡ false → eqb b c ≡ false = λ c n. ne_eqb b c (λ q. never (rw (q, n) at e)) in
    rw (class, other 95 refl, other 45 refl, other 46 refl, other 61 refl)

-- ---- the first byte and the kind of a form

pub form_first : {kind : ℕ} {p : List ℕ} → Form kind p → (q : List ℕ) → is_of Blanks (get_or (p ++ q) 0 0) ≡ false
unfolding class_of marked
form_first (a_word {b} e a) q = rw (eqb-true (class_of b) letter e)
form_first (a_string a) q = refl
form_first (a_number (signless {l} u)) q = rw (eqb-true (class_of (get_or (l ++ q) 0 0)) digit (unsigned_first u q))
form_first (a_number (minus u)) q = refl
form_first (a_mark {l} m) q = go l (all_marked m)
  where
    go : (l : List ℕ) → marked l ≡ true → is_of Blanks (get_or (l ++ q) 0 0) ≡ false
    go [] e = absurd (never e)
    go (b ∷ []) e = rw (eqb-true (class_of b) mark (and_left _ _ e))
    go (b ∷ c ∷ []) e = rw (eqb-true (class_of b) mark (and_left _ _ e))
    go (b ∷ c ∷ d ∷ l) e = absurd (never e)

pub form_kind : {kind : ℕ} {p : List ℕ} → Form kind p → 7 ≤ kind
unfolding every marks
form_kind (a_word {b} {rest} e a) = let h = word_high (b ∷ rest) in omega arith
form_kind (a_string a) = omega arith
form_kind (a_number n) = omega arith
form_kind (a_mark {kind} m) = leb-true 7 kind (mark_passes (λ kind l. leb 7 kind) m refl)

-- the form that begins with a point is the dot
pub dot_is : {kind : ℕ} {p : List ℕ} → Form kind p → (q : List ℕ) → eqb (get_or (p ++ q) 0 0) 46 ≡ true → kind ≡ 46
unfolding every marks class_of marked
dot_is (a_word {b} e a) q h = absurd (never (rw (eqb-true b 46 h) at e))
dot_is (a_string a) q h = absurd (never h)
dot_is (a_number (signless {l} u)) q h = absurd (never (rw (eqb-true (get_or (l ++ q) 0 0) 46 h) at (unsigned_first u q)))
dot_is (a_number (minus u)) q h = absurd (never h)
dot_is (a_mark {kind} {l} m) q h = go l (all_marked m) passed h
  where
    passed : (not (eqb (get_or l 0 0) 46) || eqb kind 46) ≡ true
    passed = mark_passes (λ kind l. not (eqb (get_or l 0 0) 46) || eqb kind 46) m refl

    go : (l : List ℕ) → marked l ≡ true → (not (eqb (get_or l 0 0) 46) || eqb kind 46) ≡ true → eqb (get_or (l ++ q) 0 0) 46 ≡ true → kind ≡ 46
    go [] e f g = absurd (never e)
    go (b ∷ l) e f g = eqb-true kind 46 (rw g at f)
