-- The place one byte further, the end of a string, and that a character takes one column. Assumes nothing.
use mathlib.Core.Path.{◌≡◌, refl, sym, ◌∙◌, ap}
use mathlib.Core.Bool.{Bool, true, false, cond, not}
use mathlib.Core.List.{List, [], ◌∷◌}
use Prim.Native.Nat.{ℕ, suc, ◌+◌, ◌-◌, ◌≤◌, ◌<◌}
use Prim.Native.Char.{code}
use native.Mathlib.Numerals.{add-one}
use native.Mathlib.Omega.{arith}
use borrow.Author.Tests.{ne_eqb, le-leb, lt-leb, ltb-false}
use lib.Dec.{eqb, ltb}
use lib.ListN.{length, take, drop, get_or}
use lib.Seq.{drop-cons}
use Rattle.std.proofs.Common.{Option, Some, None}
use Rattle.std.specs.List.{position_or_len}
use Rattle.std.specs.Option.{unwrap_or}
use Rattle.std.proofs.lemmas.List.Sums.{prefix_len-le-length}
use Rattle.utf8.specs.Characters.{Bits, one, two, three, four}
use Rattle.utf8.specs.Reading.{goes_on_character}
use Rattle.places.specs.Places.{place, up_to_quote, behind_byte, columns_taken, past, past_all, OneColumn}
use Rattle.places.specs.declared.Counting.{Counting}
use Rattle.places.specs.declared.Counting.TheVariants.{Characters}
use Rattle.places.specs.declared.Place.{Place}

-- ---- the walk

left_of : (at i : ℕ) → i < at → at - i ≡ suc (at - (i + 1))
left_of at i h = omega arith

pub one_further : (text : List ℕ) (at i : ℕ) (k : Counting) (p : Place) → i < at → at ≤ length text
    → past_all (at - i) (drop i text) k p ≡ past_all (at - (i + 1)) (drop (i + 1) text) (behind_byte (get_or text i 0) (drop (i + 1) text) k) (past k (get_or text i 0) p)
unfolding past_all
one_further text at i k p h l = rw (left_of at i h, drop-cons text i 0 (omega arith), add-one) refl

-- so does a walk that goes on from there with the counting and the place that follow
pub walked_on : (text : List ℕ) (at i : ℕ) (k k' : Counting) (p p' end : Place) → i < at → at ≤ length text
    → k' ≡ behind_byte (get_or text i 0) (drop (i + 1) text) k → p' ≡ past k (get_or text i 0) p
    → past_all (at - i) (drop i text) k p ≡ end → past_all (at - (i + 1)) (drop (i + 1) text) k' p' ≡ end
walked_on text at i k k' p p' end h l e f w = rw (e, f) (sym (one_further text at i k p h l) ∙ w)

pub from_the_first : (text : List ℕ) (at : ℕ) (k : Counting) (p : Place) → past_all (at - 0) text k p ≡ past_all at text k p
from_the_first text at k p = rw (all_left at) refl
  where
    all_left : (n : ℕ) → n - 0 ≡ n
    all_left n = omega arith

none_left : (at i : ℕ) → at ≤ i → at - i ≡ 0
none_left at i h = omega arith

pub no_further : (text : List ℕ) (at i : ℕ) (k : Counting) (p : Place) → at ≤ i → past_all (at - i) (drop i text) k p ≡ p
unfolding past_all
no_further text at i k p h = rw (none_left at i h) refl

-- ---- the end of a string

unfoldable pub is_quote : ℕ → Bool
is_quote b = eqb b (code "\"")

one_plus : {n : ℕ} → 1 + n ≡ suc n
one_plus = omega arith

-- it ends where the first quote stands, or with the text
pub string_cut : (text : List ℕ) → take (position_or_len is_quote text) text ≡ up_to_quote text
unfolding up_to_quote is_quote
string_cut [] = refl
string_cut (b ∷ rest) = go (string_cut rest) (eqb b (code "\"")) refl
  where
    go : take (position_or_len is_quote rest) rest ≡ up_to_quote rest → (q : Bool) → eqb b (code "\"") ≡ q
        → take (position_or_len is_quote (b ∷ rest)) (b ∷ rest) ≡ cond q [] (b ∷ up_to_quote rest)
    go ih true e = rw e refl
    go ih false e = rw (e, one_plus) (ap (λ (r : List ℕ). b ∷ r) ih)

-- the place of the first quote, or else the text's length
pub first_or_length : (text : List ℕ) (r : Option ℕ) → r ≡ cond (ltb (position_or_len is_quote text) (length text)) (Some (position_or_len is_quote text)) None
    → unwrap_or r (length text) ≡ position_or_len is_quote text
first_or_length text r e = go (ltb (position_or_len is_quote text) (length text)) refl e
  where
    go : (b : Bool) → ltb (position_or_len is_quote text) (length text) ≡ b → r ≡ cond b (Some (position_or_len is_quote text)) None
        → unwrap_or r (length text) ≡ position_or_len is_quote text
    go true f e = rw e refl
    go false f e = rw e (omega (arith, ltb-false (position_or_len is_quote text) (length text) f, prefix_len-le-length (λ (b : ℕ). not (is_quote b)) text))

-- ---- characters

-- a byte that neither ends a line nor opens or ends a string takes its columns, and the counting stays
a_byte : (b n : ℕ) (rest : List ℕ) (k : Counting) (p : Place) → (b ≡ code "\"" → ⊥) → (b ≡ code "\n" → ⊥)
    → past_all (suc n) (b ∷ rest) k p ≡ past_all n rest k (place p.line (p.column + columns_taken k b))
unfolding past_all past behind_byte
a_byte b n rest k p q l = rw (ne_eqb b (code "\"") q, ne_eqb b (code "\n") l) refl

-- the first byte of a character takes one, the bytes that go on none
first_byte : (b n : ℕ) (rest : List ℕ) (p : Place) → goes_on_character b ≡ false → (b ≡ code "\"" → ⊥) → (b ≡ code "\n" → ⊥)
    → past_all (suc n) (b ∷ rest) Characters p ≡ past_all n rest Characters (place p.line (p.column + 1))
unfolding columns_taken
first_byte b n rest p g q l = rw (a_byte b n rest Characters p q l, g) refl

plus_none : (n : ℕ) → n + 0 ≡ n
plus_none n = omega arith

later_byte : (b n : ℕ) (rest : List ℕ) (p : Place) → goes_on_character b ≡ true → (b ≡ code "\"" → ⊥) → (b ≡ code "\n" → ⊥)
    → past_all (suc n) (b ∷ rest) Characters p ≡ past_all n rest Characters p
unfolding columns_taken
later_byte b n rest p g q l = rw (a_byte b n rest Characters p q l, g, plus_none p.column) refl

low_begins : (b : ℕ) → b ≤ 0x7F → goes_on_character b ≡ false
unfolding goes_on_character
low_begins b h = rw (lt-leb 0x80 b (omega arith)) refl

high_begins : (b : ℕ) → 0xC0 ≤ b → goes_on_character b ≡ false
unfolding goes_on_character
high_begins b h = rw (le-leb 0x80 b (omega arith), lt-leb b 0xBF (omega arith)) refl

between_goes_on : (b : ℕ) → 0x80 ≤ b → b < 0xC0 → goes_on_character b ≡ true
unfolding goes_on_character
between_goes_on b h l = rw (le-leb 0x80 b h, le-leb b 0xBF (omega arith)) refl

-- the first byte of a character of more bytes, and one that goes on
lead : (b n : ℕ) (rest : List ℕ) (p : Place) → 0xC0 ≤ b → past_all (suc n) (b ∷ rest) Characters p ≡ past_all n rest Characters (place p.line (p.column + 1))
lead b n rest p h = first_byte b n rest p (high_begins b h) (λ e. omega arith) (λ e. omega arith)

on : {a b : ℕ} (n : ℕ) (rest : List ℕ) (p : Place) → Bits 0x80 0x40 a b → past_all (suc n) (b ∷ rest) Characters p ≡ past_all n rest Characters p
on {a} {b} n rest p bits =
    let room = bits.fits in
    let is = bits.is in
    later_byte b n rest p (between_goes_on b (omega arith) (omega arith)) (λ e. omega arith) (λ e. omega arith)

plus_one : (n : ℕ) → 1 + n ≡ suc n
plus_one n = omega arith

plus_two : (n : ℕ) → 2 + n ≡ suc (suc n)
plus_two n = omega arith

plus_three : (n : ℕ) → 3 + n ≡ suc (suc (suc n))
plus_three n = omega arith

plus_four : (n : ℕ) → 4 + n ≡ suc (suc (suc (suc n)))
plus_four n = omega arith

pub one_column : OneColumn
unfolding OneColumn
one_column _ number n rest p (one h) q l = rw (plus_one n) (first_byte _ n rest p (low_begins _ h) q l)
one_column _ number n rest p (two f g e low) q l = rw (plus_two n) (lead _ _ _ p (omega (arith, f.is)) ∙ on n rest _ g)
one_column _ number n rest p (three f g h e low out) q l = rw (plus_three n) (lead _ _ _ p (omega (arith, f.is)) ∙ (on _ _ _ g ∙ on n rest _ h))
one_column _ number n rest p (four f g h i e low high) q l =
    rw (plus_four n) (lead _ _ _ p (omega (arith, f.is)) ∙ (on _ _ _ g ∙ (on _ _ _ h ∙ on n rest _ i)))
