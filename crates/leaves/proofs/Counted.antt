-- The characters of a pattern counted byte by byte: those that do not go on one. Assumes nothing.
use mathlib.Core.Path.{◌≡◌, refl, sym, ap, ◌∙◌}
use mathlib.Core.Bool.{Bool, true, false, cond, not}
use mathlib.Core.List.{List, [], ◌∷◌}
use Prim.Native.Nat.{ℕ, suc, ◌+◌, ◌-◌, ◌≤◌, ◌<◌}
use native.Mathlib.Omega.{arith}
use native.Mathlib.Nat.{zero-add}
use lib.Dec.{ltb}
use lib.ListN.{length, drop, get_or, length-drop}
use lib.Seq.{length-take-le}
use borrow.Author.Tests.{le-ltb}
use mir.Val.{bool_byte}
use Rattle.utf8.specs.Reading.{utf8, points, goes_on_character, beginning_count}
use Rattle.utf8.proofs.Readings.{utf8_decides}
use Rattle.utf8.proofs.Counting.{points_counted}
use Rattle.tokens.specs.declared.reader.Token.{Token}
use Rattle.reading.specs.Lexemes.{lexeme}
use Rattle.grammar.specs.Rules.{inside}
use Rattle.parts.proofs.Texts.{between, inside_is}
use Rattle.leaves.proofs.Wildcards.{byte_next}
use Rattle.std.proofs.Math.ListN.{drop_of_length-le}

begin_few : (s : List ℕ) → beginning_count s ≤ length s
unfolding beginning_count
begin_few [] = omega arith
begin_few (x ∷ s) = go (goes_on_character x) (begin_few s)
  where
    go : (b : Bool) → beginning_count s ≤ length s → cond b (beginning_count s) (suc (beginning_count s)) ≤ suc (length s)
    go true h = omega arith
    go false h = omega arith

-- what was counted of a string, up to i
pub record Counted (s : List ℕ) (n i : ℕ) : Type 0 where
  pub few : n ≤ i
  pub count : beginning_count s ≡ n + beginning_count (drop i s)

pub counted_none : (s : List ℕ) → Counted s 0 0
counted_none s = record { few = omega arith; count = sym (zero-add _) }

module _ {s : List ℕ} {n i : ℕ} (k : Counted s n i) where
  -- one byte more
  pub counted_more : i < length s → Counted s (n + bool_byte (not (goes_on_character (get_or s i 0)))) (i + 1)
  unfolding beginning_count
  counted_more h = record {
    few = few_more (not (goes_on_character (get_or s i 0))) k.few;
    count = k.count ∙ rw (byte_next s i h) (step (goes_on_character (get_or s i 0)) (beginning_count (drop (i + 1) s)));
  }
    where
      few_more : (b : Bool) → n ≤ i → n + bool_byte b ≤ i + 1
      few_more true h = omega arith
      few_more false h = omega arith

      step : (b : Bool) (m : ℕ) → n + cond b m (suc m) ≡ n + bool_byte (not b) + m
      step true m = omega arith
      step false m = omega arith

  -- all bytes were counted
  pub counted_all : length s ≤ i → utf8 s ≡ true → ltb 100 n ≡ ltb 100 (length (points s))
  unfolding beginning_count
  counted_all h u =
      let n_is : n + 0 ≡ n = omega arith in
      rw (points_counted s ((utf8_decides s).sound u), k.count, drop_of_length-le s h, n_is)

-- a string of at most so many bytes has no more characters
pub counted_few : (s : List ℕ) → length s ≤ 100 → utf8 s ≡ true → false ≡ ltb 100 (length (points s))
counted_few s h u = sym (rw (points_counted s ((utf8_decides s).sound u)) (le-ltb _ _ (let x = begin_few s in omega arith)))

-- ---- of what a string has between its quotes

module _ (text : List ℕ) (t : Token) (u : utf8 (inside (lexeme text t)) ≡ true) where
  same_text : utf8 (between text t.end (t.start + 1)) ≡ true
  same_text = rw (inside_is text t) at u

  pub inside_few : t.end ≤ length text → t.end - t.start ≤ 102 → false ≡ ltb 100 (length (points (inside (lexeme text t))))
  inside_few l h =
      let short : length (between text t.end (t.start + 1)) ≤ 100 = rw (length-take-le (t.end - 1 - (t.start + 1)) (drop (t.start + 1) text) (rw (length-drop (t.start + 1) text) (omega arith))) (omega arith) in
      rw (inside_is text t) (counted_few (between text t.end (t.start + 1)) short same_text)

  pub inside_counted : {n i : ℕ} → Counted (between text t.end (t.start + 1)) n i → length (between text t.end (t.start + 1)) ≤ i → ltb 100 n ≡ ltb 100 (length (points (inside (lexeme text t))))
  inside_counted c h = rw (inside_is text t) (counted_all c h same_text)
