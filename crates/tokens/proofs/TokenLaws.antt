-- Laws of tests, of the classes of bytes, and of places inside a text, on which the laws of tokens rest. Assumes nothing.
use mathlib.Core.Path.{◌≡◌, refl}
use mathlib.Core.Bool.{Bool, true, false, cond, ◌&&◌, ◌||◌, false≢true, and-eq-true_iff}
use mathlib.Core.List.{List, [], ◌∷◌}
use mathlib.Core.Logic.{◌⊎◌, inl, inr, ⊎_elim}
use Prim.Native.Nat.{ℕ, zero, suc, ◌≤◌, ◌<◌, zero-le, suc-le-suc}
use native.Mathlib.Omega.{arith}
use lib.Dec.{eqb, leb, ltb}
use lib.ListN.{length, get_or}
use borrow.Author.Tests.{eqb-true, leb-true}
use Rattle.slices.specs.Ascii.{bytes}
use Rattle.tokens.specs.Bytes.{within, one_of, class_of, text_only, blank, mark, digit, letter}
use Rattle.tokens.specs.Runs.{is_of}
use Rattle.tokens.specs.Tokens.{fraction, before_equals}
use Rattle.tokens.specs.declared.classes.Sort.TheVariants.{Digits}

pub never : false ≡ true → ⊥
never e = false≢true e

pub and_left : (a b : Bool) → (a && b) ≡ true → a ≡ true
and_left a b e = ((and-eq-true_iff a b).0 e).0

pub and_right : (a b : Bool) → (a && b) ≡ true → b ≡ true
and_right a b e = ((and-eq-true_iff a b).0 e).1

pub or_cases : (a b : Bool) → (a || b) ≡ true → (a ≡ true) ⊎ (b ≡ true)
or_cases true b e = inl refl
or_cases false b e = inr e

-- a test that each of some passes
unfoldable pub every : {A : Type 0} → (A → Bool) → List A → Bool
every test [] = true
every test (x ∷ xs) = test x && every test xs

-- one of them passes it
pub one_passes : (test : ℕ → Bool) (xs : List ℕ) (b : ℕ) → every test xs ≡ true → one_of xs b ≡ true → test b ≡ true
unfolding every
one_passes test [] b v e = absurd (never e)
one_passes test (x ∷ xs) b v e =
    ⊎_elim
    (λ (f : eqb b x ≡ true). rw (eqb-true b x f) (and_left _ _ v))
    (λ (f : one_of xs b ≡ true). one_passes test xs b (and_right (test x) (every test xs) v) f)
    (or_cases (eqb b x) (one_of xs b) e)

-- a place at which a test holds that 0 fails is inside the text
pub inside : (test : ℕ → Bool) (text : List ℕ) (i : ℕ) → (test 0 ≡ true → ⊥) → test (get_or text i 0) ≡ true → i < length text
inside test [] i n e = absurd (n e)
inside test (b ∷ rest) zero n e = suc-le-suc zero-le
inside test (b ∷ rest) (suc i) n e = suc-le-suc (inside test rest i n e)

pub point_inside : (text : List ℕ) (i : ℕ) → fraction text i ≡ true → i < length text
point_inside text i e = inside (λ (b : ℕ). eqb b 46) text i never (and_left _ _ e)

pub digit_inside : (text : List ℕ) (i : ℕ) → is_of Digits (get_or text i 0) ≡ true → i < length text
unfolding class_of
digit_inside text i e = inside (is_of Digits) text i never e

-- of the tests of `class_of` in turn, a digit passed the second and a byte of the class of the marks the fourth
class_tells : (l d w m n : Bool) (class : ℕ) → cond l letter (cond d digit (cond w blank (cond m mark (cond n 0 text_only)))) ≡ class
    → (class ≡ digit → d ≡ true) × (class ≡ mark → m ≡ true)
class_tells true d w m n class e = ((λ f. absurd (omega arith)), (λ f. absurd (omega arith)))
class_tells false true w m n class e = ((λ f. refl), (λ f. absurd (omega arith)))
class_tells false false true m n class e = ((λ f. absurd (omega arith)), (λ f. absurd (omega arith)))
class_tells false false false true n class e = ((λ f. absurd (omega arith)), (λ f. refl))
class_tells false false false false true class e = ((λ f. absurd (omega arith)), (λ f. absurd (omega arith)))
class_tells false false false false false class e = ((λ f. absurd (omega arith)), (λ f. absurd (omega arith)))

-- the bytes of the class of the marks
abbrev pub mark_bytes : List ℕ
mark_bytes = bytes "(){}[],;.!&|=<>\"-_"

-- a digit is one of the bytes `0` to `9`, and a byte of the class of the marks is one of those
pub told_by_class : (b : ℕ) → (eqb (class_of b) digit ≡ true → within 48 57 b ≡ true) × (eqb (class_of b) mark ≡ true → one_of mark_bytes b ≡ true)
unfolding class_of
told_by_class b =
    let t = class_tells (within 65 90 b || within 97 122 b) (within 48 57 b) (one_of (bytes " \t\n\r") b) (one_of mark_bytes b) (ltb b 0x20 || eqb b 0x7f) (class_of b) refl in
    (λ e. t.0 (eqb-true (class_of b) digit e), λ e. t.1 (eqb-true (class_of b) mark e))

pub digit_byte : (b : ℕ) → is_of Digits b ≡ true → (48 ≤ b) × (b ≤ 57)
digit_byte b e =
    let h = (told_by_class b).0 e in
    (leb-true 48 b (and_left (leb 48 b) (leb b 57) h), leb-true b 57 (and_right (leb 48 b) (leb b 57) h))

-- a mark before `=` leaves room for 128
pub small : (b : ℕ) → before_equals b ≡ true → b ≤ 62
small b e =
    ⊎_elim
    (λ (l : (eqb b 33 || eqb b 60) ≡ true).
    ⊎_elim (λ (f : eqb b 33 ≡ true). omega (arith, eqb-true b 33 f)) (λ (f : eqb b 60 ≡ true). omega (arith, eqb-true b 60 f)) (or_cases _ _ l))
    (λ (f : eqb b 62 ≡ true). omega (arith, eqb-true b 62 f))
    (or_cases _ _ e)
