-- Where a token lies. Assumes nothing.
use mathlib.Core.Path.{◌≡◌, refl, sym, ◌∙◌, ap, subst}
use mathlib.Core.Bool.{Bool, true, false, cond, ◌&&◌}
use mathlib.Core.List.{List}
use Prim.Native.Nat.{ℕ, ◌+◌, ◌-◌, ◌≤◌, ◌<◌}
use native.Mathlib.Omega.{arith}
use lib.Dec.{leb, eqb}
use lib.ListN.{length, get_or}
use borrow.Author.Tests.{leb-false, eqb-true}
use Rattle.tokens.specs.Bytes.{class_of, letter, digit, mark}
use Rattle.tokens.specs.Runs.{is_of, run_end}
use Rattle.tokens.specs.Tokens.{token, sized, word_token, string_token, fraction, number_token, doubled, before_equals, mark_token, mark_at, token_by, token_from, token_at, Reads}
use Rattle.tokens.specs.declared.classes.Sort.TheVariants.{Blanks, WordBytes, Digits, StringBytes}
use Rattle.tokens.specs.declared.reader.Token.{Token}
use Rattle.tokens.proofs.RunLaws.{high, some}
use Rattle.tokens.proofs.TokenLaws.{never, and_right, inside, point_inside, digit_inside}

-- a token of at least one byte that lies in the text from a place on
pub record Spans (text : List ℕ) (from : ℕ) (t : Token) : Type 0 where
  pub low : from ≤ t.start
  pub some : t.start < t.end
  pub high : t.end ≤ length text

-- what both cases of a test have, their choice has
pub either : (P : Token → Type 0) (test : Bool) (a b : Token) → (test ≡ true → P a) → (test ≡ false → P b) → P (cond test a b)
either P true a b f g = f refl
either P false a b f g = g refl

module _ (text : List ℕ) (from : ℕ) where
  here : (kind start end : ℕ) → from ≤ start → start < end → end ≤ length text → Spans text from (token kind start end)
  here kind start end l s h = record { low = l; some = s; high = h }

  sized_spans : (kind most size start end : ℕ) → from ≤ start → start < end → end ≤ length text → Spans text from (sized kind most size start end)
  unfolding sized
  sized_spans kind most size start end l s h =
      either (Spans text from) (leb size most) _ _ (λ _. here kind start end l s h) (λ _. here 6 start end l s h)

  word_spans : (start : ℕ) → from ≤ start → start < length text → is_of WordBytes (get_or text start 0) ≡ true → Spans text from (word_token text start)
  unfolding word_token
  word_spans start l h e =
      sized_spans _ _ _ start (run_end WordBytes text start) l (some WordBytes text start h e) (high WordBytes text start (omega arith))

  string_spans : (start : ℕ) → from ≤ start → start < length text → Spans text from (string_token text start)
  unfolding string_token
  string_spans start l h =
      let end = run_end StringBytes text (start + 1) in
      let top : end ≤ length text = high StringBytes text (start + 1) (omega arith) in
      either (Spans text from) (leb (length text) end) _ _ (λ e. here 5 start end l (omega arith) top)
      (λ e.
      let inside : end < length text = leb-false (length text) end e in
      either (Spans text from) (eqb (get_or text end 0) 34) _ _
      (λ _. sized_spans 34 127 (end - (start + 1)) start (end + 1) l (omega arith) (omega arith))
      (λ _. here 3 end (end + 1) (omega arith) (omega arith) (omega arith)))

  number_spans : (start first : ℕ) → from ≤ start → start ≤ first → first < length text → is_of Digits (get_or text first 0) ≡ true
      → Spans text from (number_token text start first)
  unfolding number_token
  number_spans start first l s h e =
      let whole = run_end Digits text first in
      let more : first < whole = some Digits text first h e in
      let top : whole ≤ length text = high Digits text first (omega arith) in
      either (Spans text from) (fraction text whole) _ _
      (λ f.
      let point : whole < length text = point_inside text whole f in
      let end = run_end Digits text (whole + 1) in
      sized_spans 48 15 (end - first - 1) start end l (omega arith) (high Digits text (whole + 1) (omega arith)))
      (λ _. sized_spans 48 15 (whole - first) start whole l (omega arith) top)

  mark_of_spans : (start first next : ℕ) → from ≤ start → start < length text → next ≡ get_or text (start + 1) 0 → Spans text from (mark_token start first next)
  unfolding mark_token
  mark_of_spans start first next l h e =
      either (Spans text from) (doubled first) _ _
      (λ d.
      either (Spans text from) (eqb next first) _ _
      (λ f. two first (inside doubled text (start + 1) never (ap doubled (sym e ∙ eqb-true next first f) ∙ d)))
      (λ _. one 3))
      (λ _.
      either (Spans text from) (before_equals first && eqb next 61) _ _
      (λ f. two (first + 128) (inside equals text (start + 1) never (ap equals (sym e) ∙ and_right (before_equals first) (eqb next 61) f)))
      (λ _. either (Spans text from) (eqb first 95) _ _ (λ _. one 3) (λ _. one first)))
    where
      equals : ℕ → Bool
      equals b = eqb b 61

      one : (kind : ℕ) → Spans text from (token kind start (start + 1))
      one kind = here kind start (start + 1) l (omega arith) (omega arith)

      two : (kind : ℕ) → start + 1 < length text → Spans text from (token kind start (start + 2))
      two kind i = here kind start (start + 2) l (omega arith) (omega arith)

  pub mark_spans : (start : ℕ) → from ≤ start → start < length text → Spans text from (mark_at text start)
  unfolding mark_at
  mark_spans start l h =
      let first = get_or text start 0 in
      let next = get_or text (start + 1) 0 in
      either (Spans text from) (eqb first 34) _ _ (λ _. string_spans start l h)
      (λ _.
      either (Spans text from) (eqb first 45) _ _
      (λ _.
      either (Spans text from) (is_of Digits next) _ _
      (λ d. number_spans start (start + 1) l (omega arith) (digit_inside text (start + 1) d) d)
      (λ _. here 3 start (start + 1) l (omega arith) (omega arith)))
      (λ _. mark_of_spans start first next l h refl))

  token_spans : (start : ℕ) → from ≤ start → start < length text → Spans text from (token_by text start (get_or text start 0) (class_of (get_or text start 0)))
  token_spans start l h =
      let first = get_or text start 0 in
      let one : (kind : ℕ) → Spans text from (token kind start (start + 1)) = λ kind. here kind start (start + 1) l (omega arith) (omega arith) in
      either (Spans text from) (eqb (class_of first) letter) _ _
      (λ e. word_spans start l h (rw (eqb-true (class_of first) letter e)))
      (λ _.
      either (Spans text from) (eqb (class_of first) digit) _ _ (λ e. number_spans start start l (omega arith) h e)
      (λ _.
      either (Spans text from) (eqb (class_of first) mark) _ _ (λ _. mark_spans start l h)
      (λ _. either (Spans text from) (eqb first 58) _ _ (λ _. one 4) (λ _. one 3))))

pub reads : (text : List ℕ) (at : ℕ) → at ≤ length text → Reads text at (token_at text at)
unfolding token_at
reads text at h =
    let start = run_end Blanks text at in
    let top : start ≤ length text = high Blanks text at h in
    either (Reads text at) (leb (length text) start) _ _
    (λ e. record { low = omega arith; order = omega arith; high = top; some = λ n. absurd (n refl) })
    (λ e.
    let s = token_spans text at start (omega arith) (leb-false (length text) start e) in
    record { low = s.low; order = omega arith; high = s.high; some = λ n. s.some })

-- what starts at the blanks' end is the token
pub after_blanks : (text : List ℕ) (at start : ℕ) (t : Token) → at ≤ length text → start ≡ run_end Blanks text at → t ≡ token_from text start
    → (t ≡ token_at text at) × Reads text at t
unfolding token_at
after_blanks text at start t h s e =
    let right = e ∙ ap (token_from text) s in
    (right, subst (Reads text at) (sym right) (reads text at h))
