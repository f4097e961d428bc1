-- What starts at a place, by the bits of the entry that the table has for the byte there. Assumes nothing.
use mathlib.Core.Path.{◌≡◌, refl, sym, ◌∙◌}
use mathlib.Core.Bool.{Bool, true, false, cond}
use mathlib.Core.List.{List}
use Prim.Native.Nat.{ℕ, ◌+◌, ◌<◌}
use lib.Bits.{bit_and}
use lib.Dec.{leb, ltb}
use lib.ListN.{length, get_or}
use borrow.Author.Tests.{lt-leb, ltb-true, ltb-false, eqb-true}
use Rattle.tokens.specs.Bytes.{class_of, letter}
use Rattle.tokens.specs.Kinds.{end_of_text}
use Rattle.tokens.specs.Runs.{is_of, run_end}
use Rattle.tokens.specs.Table.{entry_of}
use Rattle.tokens.specs.Tokens.{token, word_token, number_token, mark_at, stray_byte, token_from}
use Rattle.tokens.specs.declared.classes.Sort.{Sort}
use Rattle.tokens.specs.declared.classes.Sort.TheVariants.{Blanks, Marks, Digits, Letters, WordBytes, StringBytes, LoneMarks}
use Rattle.tokens.proofs.ClassLaws.{bit_set, bit_clear, blank_tells, mark_tells, digit_tells, letter_tells, lone_tells}
use Rattle.tokens.proofs.LoneLaws.{lone_token}
use Rattle.tokens.proofs.RunLaws.{stops, ends}
use Rattle.tokens.proofs.TokenLaws.{never, inside}

-- 0, which is read past the text's end, is of no sort
no_sort : (sort : Sort) → is_of sort 0 ≡ false
unfolding class_of
no_sort Blanks = refl
no_sort Marks = refl
no_sort Digits = refl
no_sort Letters = refl
no_sort WordBytes = refl
no_sort StringBytes = refl
no_sort LoneMarks = refl

-- a letter may go on a word
pub letter_goes_on : (b : ℕ) → is_of Letters b ≡ true → is_of WordBytes b ≡ true
letter_goes_on b e = rw (eqb-true (class_of b) letter e)

module _ (text : List ℕ) (start : ℕ) where
  within_text : (sort : Sort) → is_of sort (get_or text start 0) ≡ true → start < length text
  within_text sort h = inside (is_of sort) text start (λ t. never (sym (no_sort sort) ∙ t)) h

  module _ (n : ℕ) (u : get_or text start 0 < 256) (e : n ≡ entry_of (get_or text start 0)) where
    -- blanks are passed, and end where no blank stands
    pub blank_here : (bit_and n 2 ≡ 0 → ⊥) → (start < length text) × (is_of Blanks (get_or text start 0) ≡ true)
    blank_here f = let h = bit_set 2 Blanks blank_tells (get_or text start 0) n u e f in (within_text Blanks h, h)

    pub blanks_end : bit_and n 2 ≡ 0 → start ≡ run_end Blanks text start
    blanks_end f = go (ltb start (length text)) refl
      where
        go : (t : Bool) → ltb start (length text) ≡ t → start ≡ run_end Blanks text start
        go true h = sym (stops Blanks text start (ltb-true start (length text) h) (bit_clear 2 Blanks blank_tells (get_or text start 0) n u e f))
        go false h = sym (ends Blanks text start (ltb-false start (length text) h))

    -- a mark that stands by itself
    pub lone_here : (bit_and n 128 ≡ 0 → ⊥) → (start < length text) × (token (get_or text start 0) start (start + 1) ≡ token_from text start)
    lone_here f =
        let h = bit_set 128 LoneMarks lone_tells (get_or text start 0) n u e f in
        let i = within_text LoneMarks h in
        (i, sym (rw (lt-leb (length text) start i) (lone_token text start h)))

    pub letter_here : (bit_and n 16 ≡ 0 → ⊥) → (start < length text) × (is_of Letters (get_or text start 0) ≡ true) × (word_token text start ≡ token_from text start)
    letter_here f =
        let h = bit_set 16 Letters letter_tells (get_or text start 0) n u e f in
        let i = within_text Letters h in
        (i, h, simp (lt-leb (length text) start i, h))

    module _ (a : bit_and n 16 ≡ 0) where
      no_letter : is_of Letters (get_or text start 0) ≡ false
      no_letter = bit_clear 16 Letters letter_tells (get_or text start 0) n u e a

      pub digit_here : (bit_and n 8 ≡ 0 → ⊥) → (start < length text) × (number_token text start start ≡ token_from text start)
      digit_here f =
          let h = bit_set 8 Digits digit_tells (get_or text start 0) n u e f in
          let i = within_text Digits h in
          (i, simp (lt-leb (length text) start i, no_letter, h))

      module _ (b : bit_and n 8 ≡ 0) where
        no_digit : is_of Digits (get_or text start 0) ≡ false
        no_digit = bit_clear 8 Digits digit_tells (get_or text start 0) n u e b

        pub mark_here : (bit_and n 4 ≡ 0 → ⊥) → (start < length text) × (mark_at text start ≡ token_from text start)
        mark_here f =
            let h = bit_set 4 Marks mark_tells (get_or text start 0) n u e f in
            let i = within_text Marks h in
            (i, simp (lt-leb (length text) start i, no_letter, no_digit, h))

        -- no token starts here
        pub none_here : bit_and n 4 ≡ 0
            → cond (leb (length text) start) (token end_of_text start start) (stray_byte start (get_or text start 0)) ≡ token_from text start
        none_here f = simp (no_letter, no_digit, bit_clear 4 Marks mark_tells (get_or text start 0) n u e f)
