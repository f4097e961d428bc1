-- The sorts of bytes, and the longest run of bytes of one sort from a place on. Definitions only.
use Rattle.std.specs.Prelude.{◌≡◌, ℕ, suc, ◌+◌, ◌≤◌, Bool, cond, not, ◌&&◌, ◌||◌, List, [], ◌∷◌, leb, eqb, length, drop}
use Prim.Native.Char.{code}
use Rattle.slices.specs.Ascii.{bytes}
use Rattle.tokens.specs.Bytes.{one_of, class_of, blank, mark, digit, letter}
use Rattle.tokens.specs.declared.classes.Sort.{Sort}
use Rattle.tokens.specs.declared.classes.Sort.TheVariants.{Blanks, Marks, Digits, Letters, WordBytes, StringBytes, LoneMarks}

-- a byte that a word may go on with: a letter, a digit, `_` or `-`
abbrev pub word_byte : ℕ → Bool
word_byte b = eqb (class_of b) letter || eqb (class_of b) digit || eqb b (code "_") || eqb b (code "-")

-- a byte that may stand in a string: 0x20 to 0x7E and 0x80 up, but no quote
abbrev pub string_byte : ℕ → Bool
string_byte b = leb 0x20 b && not (eqb b 0x7f) && not (eqb b (code "\""))

-- a mark that no second byte makes longer
abbrev pub lone_mark : ℕ → Bool
lone_mark b = one_of (bytes "(){}[],;.") b

-- whether a byte is of a sort
abbrev pub is_of : Sort → ℕ → Bool
is_of Blanks b = eqb (class_of b) blank
is_of Marks b = eqb (class_of b) mark
is_of Digits b = eqb (class_of b) digit
is_of Letters b = eqb (class_of b) letter
is_of WordBytes b = word_byte b
is_of StringBytes b = string_byte b
is_of LoneMarks b = lone_mark b

-- how many bytes there are up to the first that is not of the sort
unfoldable pub run : Sort → List ℕ → ℕ
run sort [] = 0
run sort (b ∷ rest) = cond (is_of sort b) (suc (run sort rest)) 0

-- the place of the first byte from `at` on that is not of the sort, or the text's end
abbrev pub run_end : Sort → List ℕ → ℕ → ℕ
run_end sort text at = at + run sort (drop at text)

-- what a caller may know of a run's end: which place it is, and that this lies in the text, not before `at`
pub record RunsTo (sort : Sort) (text : List ℕ) (at end : ℕ) : Type 0 where
  pub place : end ≡ run_end sort text at
  pub low : at ≤ end
  pub high : end ≤ length text
