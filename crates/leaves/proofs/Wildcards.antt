-- A pattern looked at byte by byte. Assumes nothing.
use mathlib.Core.Path.{◌≡◌, refl, sym, ◌∙◌}
use mathlib.Core.Bool.{Bool, true, false, cond, not, ◌&&◌, ◌||◌}
use mathlib.Core.List.{List, [], ◌∷◌}
use Prim.Native.Nat.{ℕ, zero, suc, ◌+◌, ◌-◌, ◌≤◌, ◌<◌}
use native.Mathlib.Omega.{arith}
use native.Mathlib.Nat.{zero-add}
use native.Mathlib.Numerals.{add-one}
use lib.Dec.{eqb, leb, ltb}
use lib.ListN.{length, drop, get_or}
use lib.Seq.{drop-cons}
use Rattle.std.proofs.Math.ListN.{drop_of_length-le}
use borrow.Author.Tests.{lt-leb, le-leb, ltb-true, ltb-false}
use mir.Val.{bool_byte}
use Rattle.tokens.proofs.TokenLaws.{never}
use Rattle.utf8.specs.Reading.{points}
use Rattle.grammar.specs.Rules.{is_wildcard, wildcards, plain_pattern, is_pattern}
use Rattle.table.proofs.Holding.{and_true, and_false}

pub byte_next : (s : List ℕ) (i : ℕ) → i < length s → drop i s ≡ get_or s i 0 ∷ drop (i + 1) s
byte_next s i h = rw (drop-cons s i 0 h, add-one i)

-- what was seen of a pattern, up to i
pub record Seen (s : List ℕ) (many : ℕ) (star : Bool) (i : ℕ) : Type 0 where
  pub few : many ≤ i
  pub wild : wildcards s ≡ many + wildcards (drop i s)
  pub plainly : plain_pattern false s ≡ plain_pattern star (drop i s)

pub seen_none : (s : List ℕ) → Seen s 0 false 0
seen_none s = record { few = omega arith; wild = sym (zero-add _); plainly = refl }

module _ {s : List ℕ} {many : ℕ} {star : Bool} {i : ℕ} (k : Seen s many star i) where
  -- one byte more
  pub seen_more : i < length s → (eqb (get_or s i 0) 91 || eqb (get_or s i 0) 123 || star && eqb (get_or s i 0) 42) ≡ false
      → Seen s (many + bool_byte (is_wildcard (get_or s i 0))) (eqb (get_or s i 0) 42) (i + 1)
  unfolding wildcards plain_pattern
  seen_more h e = record {
    few = few_more (is_wildcard (get_or s i 0)) k.few;
    wild = k.wild ∙ rw (byte_next s i h) (count (is_wildcard (get_or s i 0)) (wildcards (drop (i + 1) s)));
    plainly = k.plainly ∙ rw (byte_next s i h) (goes (eqb (get_or s i 0) 91) (eqb (get_or s i 0) 123) (star && eqb (get_or s i 0) 42) _ e);
  }
    where
      few_more : (b : Bool) → many ≤ i → many + bool_byte b ≤ i + 1
      few_more true h = omega arith
      few_more false h = omega arith

      count : (b : Bool) (n : ℕ) → many + cond b (suc n) n ≡ many + bool_byte b + n
      count true n = omega arith
      count false n = omega arith

      goes : (a b d f : Bool) → (a || b || d) ≡ false → not a && not b && not d && f ≡ f
      goes false false false f e = refl
      goes true b d f e = absurd (never (sym e))
      goes false true d f e = absurd (never (sym e))
      goes false false true f e = absurd (never (sym e))

  -- a byte that no pattern has there
  pub seen_bad : i < length s → (eqb (get_or s i 0) 91 || eqb (get_or s i 0) 123 || star && eqb (get_or s i 0) 42) ≡ true → false ≡ is_pattern s
  unfolding is_pattern plain_pattern
  seen_bad h e =
      rw (k.plainly, byte_next s i h, stops (eqb (get_or s i 0) 91) (eqb (get_or s i 0) 123) (star && eqb (get_or s i 0) 42) (plain_pattern (eqb (get_or s i 0) 42) (drop (i + 1) s)) e)
      (sym (and_false (leb (length (points s)) 100 && leb (wildcards s) 5)))
    where
      stops : (a b d f : Bool) → (a || b || d) ≡ true → not a && not b && not d && f ≡ false
      stops true b d f e = refl
      stops false true d f e = refl
      stops false false true f e = refl
      stops false false false f e = absurd (never e)

  -- all bytes were seen
  pub seen_all : length s ≤ i → ltb 100 (length (points s)) ≡ false → leb many 5 ≡ is_pattern s
  unfolding is_pattern plain_pattern wildcards
  seen_all h l =
      let many_is : many + 0 ≡ many = omega arith in
      sym (rw (k.plainly, k.wild, drop_of_length-le s h, le-leb _ _ (ltb-false 100 (length (points s)) l), many_is) (and_true (leb many 5)))

pub too_long : (s : List ℕ) → ltb 100 (length (points s)) ≡ true → false ≡ is_pattern s
unfolding is_pattern
too_long s h = rw (lt-leb _ _ (ltb-true 100 (length (points s)) h))
