-- Words and strings by their forms, and the tests for them. Assumes nothing.
use mathlib.Core.Path.{◌≡◌, refl}
use mathlib.Core.Bool.{true, ◌&&◌, and-eq-true_iff}
use mathlib.Core.List.{List, [], ◌∷◌}
use Prim.Native.Nat.{ℕ}
use native.Mathlib.Omega.{arith}
use lib.Dec.{leb}
use lib.ListN.{length}
use borrow.Author.Tests.{le-leb, leb-true}
use Rattle.utf8.specs.Reading.{utf8}
use Rattle.utf8.proofs.Readings.{utf8_decides}
use Rattle.tokens.specs.Bytes.{class_of}
use Rattle.tokens.specs.Forms.{All, empty, next}
use Rattle.tokens.specs.Runs.{is_of}
use Rattle.tokens.specs.declared.classes.Sort.{Sort}
use Rattle.tokens.specs.declared.classes.Sort.TheVariants.{Letters, WordBytes, StringBytes}
use Rattle.bags.specs.Paths.{every}
use Rattle.placing.specs.Said.{Word}
use Rattle.permits.specs.Meaning.{AString}
use Rattle.locks.specs.Reading.{is_short_word, is_rule_string}
use Rattle.locks.specs.Forms.{AWord, a_word}

-- ---- bytes of a sort

pub all_every : {sort : Sort} {w : List ℕ} → All sort w → every (is_of sort) w ≡ true
unfolding every
all_every empty = refl
all_every (next e a) = rw (e, all_every a)

pub every_all : (sort : Sort) (w : List ℕ) → every (is_of sort) w ≡ true → All sort w
unfolding every
every_all sort [] e = empty
every_all sort (b ∷ rest) e = let t = (and-eq-true_iff (is_of sort b) (every (is_of sort) rest)).0 e in next t.0 (every_all sort rest t.1)

-- ---- a word

-- a letter is a byte of words
pub letter_word : (b : ℕ) → is_of Letters b ≡ true → is_of WordBytes b ≡ true
letter_word b e = rw e

pub word_bytes : {w : Word} → AWord w → All WordBytes w
word_bytes (a_word {b} e a s) = next (letter_word b e) a

pub word_short : {w : Word} → AWord w → is_short_word w ≡ true
unfolding is_short_word
word_short (a_word {b} {rest} e a s) = rw (le-leb _ _ s, e, all_every (next (letter_word b e) a))

pub short_word : (w : Word) → is_short_word w ≡ true → AWord w
unfolding is_short_word every class_of
short_word [] h = absurd (let z : ◌≡◌ {A = ℕ} 0 1 = cc in omega arith)
short_word (b ∷ rest) h =
    let t = (and-eq-true_iff (leb (length (b ∷ rest)) 64) (is_of Letters b && every (is_of WordBytes) (b ∷ rest))).0 h in
    let u = (and-eq-true_iff (is_of Letters b) (every (is_of WordBytes) (b ∷ rest))).0 t.1 in
    let x = (and-eq-true_iff (is_of WordBytes b) (every (is_of WordBytes) rest)).0 u.1 in
    a_word u.0 (every_all WordBytes rest x.1) (leb-true _ _ t.0)

-- ---- a string

pub string_test : {s : Word} → AString s → is_rule_string s ≡ true
unfolding is_rule_string
string_test {s} a = rw (le-leb _ _ a.size, all_every a.all, (utf8_decides s).complete a.text)

pub test_string : (s : Word) → is_rule_string s ≡ true → AString s
unfolding is_rule_string
test_string s h =
    let u = (and-eq-true_iff (leb (length s) 127 && every (is_of StringBytes) s) (utf8 s)).0 h in
    let t = (and-eq-true_iff (leb (length s) 127) (every (is_of StringBytes) s)).0 u.0 in
    record { all = every_all StringBytes s t.1; size = leb-true _ _ t.0; text = (utf8_decides s).sound u.1 }
