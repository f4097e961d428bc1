-- What a bit of the table's entries says of a byte. Assumes nothing.
use mathlib.Core.Path.{◌≡◌, refl, ◌∙◌, ap, sym}
use mathlib.Core.Bool.{Bool, true, false, not}
use mathlib.Core.List.{List}
use Prim.Native.Nat.{ℕ, ◌<◌}
use lib.Bits.{bit_and}
use lib.Dec.{eqb}
use lib.ListN.{get_or}
use borrow.Author.Tests.{eq-eqb, ne_eqb}
use Rattle.tokens.specs.Bytes.{class_of}
use Rattle.tokens.specs.Runs.{is_of}
use Rattle.tokens.specs.Table.{values_from, entry_of, class_table}
use Rattle.tokens.specs.declared.classes.Sort.{Sort}
use Rattle.tokens.specs.declared.classes.Sort.TheVariants.{Blanks, Marks, Digits, Letters, WordBytes, StringBytes, LoneMarks}
use Rattle.tokens.specs.declared.classes.TheConstants.{CLASSES}
use Rattle.tokens.proofs.Table.{entry, agree}

abbrev pub has_bit : ℕ → ℕ → Bool
has_bit bit n = not (eqb (bit_and n bit) 0)

-- the entries of just the bytes of a sort have a bit
abbrev pub Tells : ℕ → Sort → Type 0
Tells bit sort = values_from (λ (k : ℕ). has_bit bit (entry_of k)) 0 256 ≡ values_from (is_of sort) 0 256

-- each sort has such a bit: antt computes both lists
pub blank_tells : Tells 2 Blanks
unfolding entry_of class_of
blank_tells = refl

pub mark_tells : Tells 4 Marks
unfolding entry_of class_of
mark_tells = refl

pub digit_tells : Tells 8 Digits
unfolding entry_of class_of
digit_tells = refl

pub letter_tells : Tells 16 Letters
unfolding entry_of class_of
letter_tells = refl

pub word_tells : Tells 32 WordBytes
unfolding entry_of class_of
word_tells = refl

pub string_tells : Tells 64 StringBytes
unfolding entry_of class_of
string_tells = refl

pub lone_tells : Tells 128 LoneMarks
unfolding entry_of class_of
lone_tells = refl

-- the table of the code lists each byte's entry: antt computes the rule at every byte and compares it with the table
pub table_is : CLASSES ≡ class_table
unfolding class_table entry_of class_of
table_is = refl

-- so it has each byte's entry
pub entry_at : (b : ℕ) → b < 256 → get_or CLASSES b 0 ≡ entry_of b
unfolding class_table
entry_at b h = ap (λ (table : List ℕ). get_or table b 0) table_is ∙ entry entry_of 0 256 b h

-- past the text's end there is no byte, and the entry of 0 is 0
pub no_entry : 0 ≡ entry_of 0
unfolding entry_of class_of
no_entry = refl

module _ (bit : ℕ) (sort : Sort) (all : Tells bit sort) where
  module _ (b n : ℕ) (h : b < 256) (e : n ≡ entry_of b) where
    -- such a bit of a byte's entry tells its sort
    pub bit_tells : has_bit bit n ≡ is_of sort b
    bit_tells = ap (has_bit bit) e ∙ agree (λ (k : ℕ). has_bit bit (entry_of k)) (is_of sort) 256 b all h

    -- whether the bit is set, as a test of the code says it
    pub bit_set : (bit_and n bit ≡ 0 → ⊥) → is_of sort b ≡ true
    bit_set f = sym bit_tells ∙ ap not (ne_eqb (bit_and n bit) 0 f)

    pub bit_clear : bit_and n bit ≡ 0 → is_of sort b ≡ false
    bit_clear f = sym bit_tells ∙ ap not (eq-eqb (bit_and n bit) 0 f)
