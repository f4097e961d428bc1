-- Laws of lines of decimal numbers that are put into a lent buffer. Assumes nothing.
use mathlib.Core.Path.{◌≡◌, refl, sym, ap, ◌∙◌}
use mathlib.Core.Bool.{Bool, true, false, cond}
use mathlib.Core.List.{List, [], ◌∷◌, ◌++◌, append_assoc, append-nil}
use Prim.Native.Nat.{ℕ, zero, suc, ◌+◌, ◌*◌, ◌/◌, ◌%◌, ◌^◌, ◌≤◌, ◌<◌}
use Prim.Native.Char.{code}
use native.Mathlib.Omega.{arith}
use lib.ListN.{length, take, drop, get_or, length-append, length-drop, drop_of_length-le}
use lib.Seq.{drop-drop, get_or-drop}
use Rattle.std.specs.Prelude.{decimal, ◌==◌}
use borrow.Author.Tests.{eqb-false}
use Rattle.std.proofs.Math.Nat.{pow-suc}
use Rattle.std.specs.Fmt.{digits, digits_onto, digit_glyph}
use Rattle.folder.specs.Added.{Added}
use Rattle.folder.specs.Decimals.{numbers_line}

-- digits put before others, of a number below a power of ten
few_onto : (most k n : ℕ) (acc : List ℕ) → n < 10 ^ suc k → length (digits_onto most 10 false n acc) ≤ length acc + suc k
few_onto zero k n acc h = omega arith
few_onto (suc most) k n acc h = go k h (λ k. few_onto most k (n / 10) (digit_glyph false (n % 10) ∷ acc)) (n / 10 == 0) refl
  where
    go : (k : ℕ) → n < 10 ^ suc k → ((k : ℕ) → n / 10 < 10 ^ suc k → length (digits_onto most 10 false (n / 10) (digit_glyph false (n % 10) ∷ acc)) ≤ suc (length acc) + suc k)
        → (t : Bool) → (n / 10 == 0) ≡ t
        → length (cond t (digit_glyph false (n % 10) ∷ acc) (digits_onto most 10 false (n / 10) (digit_glyph false (n % 10) ∷ acc))) ≤ length acc + suc k
    go k h rest true e = omega arith
    go zero h rest false e = let some = eqb-false (n / 10) 0 e in absurd (omega (arith, some, h))
    go (suc k) h rest false e =
        let ten : 10 ^ suc (suc k) ≡ 10 ^ suc k * 10 = pow-suc 10 (suc k) in
        let less : n / 10 < 10 ^ suc k = omega (arith, h, ten) in
        omega (arith, rest k less)

-- a number below a power of ten has no more digits than the power says
pub few_digits : (k n : ℕ) → n < 10 ^ suc k → length (decimal n) ≤ suc k
unfolding digits
few_digits k n h = omega (arith, few_onto 64 k n [] h)

-- a row number of four bytes, two bytes and a mark of eight take at most 40 bytes
pub four_long : (x y z w : ℕ) → x < 4294967296 → y < 256 → z < 256 → w < 18446744073709551616 → length (numbers_line (x ∷ y ∷ z ∷ w ∷ [])) ≤ 40
unfolding numbers_line
four_long x y z w f g h k =
    simp length-append (omega (arith, few_digits 9 x (omega arith), few_digits 2 y (omega arith), few_digits 2 z (omega arith), few_digits 19 w (omega arith)))

-- ---- a line, number for number

-- what is left of a line before these numbers
unfoldable pub line_left : List ℕ → List ℕ
line_left [] = []
line_left (n ∷ rest) = numbers_line (n ∷ rest)

-- the buffer has all of these bytes but those that are left
pub record PutBut (old : List ℕ) (at : ℕ) (bytes left new : List ℕ) (next : ℕ) : Type 0 where
  pub counted : next + length left ≡ at + length bytes
  pub filled : take next new ++ left ≡ take at old ++ bytes
  pub long : length new ≡ length old

module _ (numbers : List ℕ) where
  pub line_begun : {a b word : List ℕ} {at next : ℕ} → 0 < length numbers → Added a at word b next → PutBut a at (word ++ numbers_line numbers) (line_left numbers) b next
  unfolding line_left
  line_begun h p = go numbers h p
    where
      go : (l : List ℕ) {a b word : List ℕ} {at next : ℕ} → 0 < length l → Added a at word b next → PutBut a at (word ++ numbers_line l) (line_left l) b next
      go [] h p = absurd (omega arith)
      go (n ∷ rest) {a} {word = word} {at} h p = record {
        counted = omega (arith, p.counted, length-append word (numbers_line (n ∷ rest)));
        filled = ap (λ (l : List ℕ). l ++ numbers_line (n ∷ rest)) p.filled ∙ append_assoc (take at a) word (numbers_line (n ∷ rest));
        long = p.long;
      }

-- the number at a place, and those behind it
number_next : (l : List ℕ) → 1 < length l → line_left l ≡ decimal (get_or l 0 0) ++ (code " " ∷ line_left (drop 1 l))
unfolding line_left numbers_line
number_next [] h = absurd (omega arith)
number_next (n ∷ []) h = absurd (omega arith)
number_next (n ∷ m ∷ rest) h = refl

number_last : (l : List ℕ) → length l ≡ 1 → line_left l ≡ decimal (get_or l 0 0) ++ (code "\n" ∷ [])
unfolding line_left numbers_line
number_last [] h = absurd (omega arith)
number_last (n ∷ []) h = refl
number_last (n ∷ m ∷ rest) h = absurd (omega arith)

module _ (l : List ℕ) (i : ℕ) where
  number_here : get_or (drop i l) 0 0 ≡ get_or l i 0
  number_here = let z : i + 0 ≡ i = omega arith in get_or-drop i l 0 0 ∙ ap (λ (k : ℕ). get_or l k 0) z

  pub number_then : {e : ℕ} → i + 1 < length l → e ≡ code " " → line_left (drop i l) ≡ decimal (get_or l i 0) ++ (e ∷ line_left (drop (i + 1) l))
  number_then h is =
      rw is (number_next (drop i l) (omega (arith, length-drop i l))
      ∙ ap (λ (n : ℕ). decimal n ++ (code " " ∷ line_left (drop 1 (drop i l)))) number_here
      ∙ ap (λ (r : List ℕ). decimal (get_or l i 0) ++ (code " " ∷ line_left r)) (drop-drop 1 i l))

  pub number_at_last : {e : ℕ} → i < length l → length l ≤ i + 1 → e ≡ code "\n" → line_left (drop i l) ≡ decimal (get_or l i 0) ++ (e ∷ line_left (drop (i + 1) l))
  unfolding line_left
  number_at_last h g is =
      let none : drop (i + 1) l ≡ [] = drop_of_length-le l {i = i + 1} (omega arith) in
      rw (number_last (drop i l) (omega (arith, length-drop i l)), number_here, none, is) refl

pub number_put : {a b c bytes : List ℕ} {at next next' : ℕ} (n e : ℕ) {left left' : List ℕ} → PutBut a at bytes left b next → left ≡ decimal n ++ (e ∷ left')
    → Added b next (decimal n ++ (e ∷ [])) c next' → PutBut a at bytes left' c next'
number_put {b = b} {c = c} {next = next} n e {left' = left'} p is q = record {
  counted = omega (arith, p.counted, q.counted, ap length is, length-append (decimal n) (e ∷ left'), length-append (decimal n) (e ∷ []));
  filled = ap (λ (l : List ℕ). l ++ left') q.filled ∙ append_assoc (take next b) (decimal n ++ (e ∷ [])) left'
      ∙ ap (λ (l : List ℕ). take next b ++ l) (append_assoc (decimal n) (e ∷ []) left' ∙ sym is) ∙ p.filled;
  long = q.long ∙ p.long;
}

pub line_done : (l : List ℕ) (i : ℕ) {a b bytes : List ℕ} {at next : ℕ} → length l ≤ i → PutBut a at bytes (line_left (drop i l)) b next → Added a at bytes b next
unfolding line_left
line_done l i {b = b} {next = next} h p =
    let none : line_left (drop i l) ≡ [] = rw (drop_of_length-le l {i = i} h) refl in
    record {
      counted = omega (arith, p.counted, ap length none);
      filled = sym (append-nil (take next b)) ∙ ap (λ (r : List ℕ). take next b ++ r) (sym none) ∙ p.filled;
      long = p.long;
    }
