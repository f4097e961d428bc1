-- What stands before and after the first colon, and the type's number of what has the form of a subject or resource. Assumes nothing.
use mathlib.Core.Path.{◌≡◌, refl, sym}
use mathlib.Core.Bool.{Bool, true, false, cond, not, ◌&&◌, and-false}
use mathlib.Core.List.{List, [], ◌∷◌}
use Prim.Native.Nat.{ℕ, zero, suc, ◌+◌, ◌-◌, ◌≤◌, ◌<◌}
use Prim.Native.Char.{code}
use native.Mathlib.Omega.{arith}
use lib.Dec.{eqb, leb, ltb}
use Rattle.std.specs.Prelude.{Option, Some, None}
use Rattle.std.specs.Option.{unwrap_or}
use Rattle.std.specs.List.{position_or_len}
use Rattle.std.proofs.lemmas.List.Recursion.{is_position_or_len}
use lib.ListN.{length, take, drop}
use borrow.Author.Tests.{eq-eqb, ne_eqb, le-ltb, lt-ltb, le-leb, lt-leb, ltb-false}
use Rattle.meaning.specs.Targets.{before_colon, after_colon, type_in, is_typed}

-- ---- before it and after it

pub kind_is : (s : List ℕ) → take (length (before_colon s)) s ≡ before_colon s
unfolding before_colon
kind_is [] = refl
kind_is (b ∷ s) = go (eqb b (code ":")) (kind_is s)
  where
    go : (c : Bool) → take (length (before_colon s)) s ≡ before_colon s → take (length (cond c [] (b ∷ before_colon s))) (b ∷ s) ≡ cond c [] (b ∷ before_colon s)
    go true h = refl
    go false h = rw h

-- `&s[0..n]`, where the first colon stands at n
pub cut_there : (s : List ℕ) (n : ℕ) → n ≡ length (before_colon s) → take (n - 0) (drop 0 s) ≡ before_colon s
cut_there s n e = let k : n - 0 ≡ length (before_colon s) = omega arith in rw k (kind_is s)

pub kind_short : (s : List ℕ) → length (before_colon s) ≤ length s
unfolding before_colon
kind_short [] = omega arith
kind_short (b ∷ s) = go (eqb b (code ":")) (kind_short s)
  where
    go : (c : Bool) → length (before_colon s) ≤ length s → length (cond c [] (b ∷ before_colon s)) ≤ length (b ∷ s)
    go true h = omega arith
    go false h = omega arith

-- the first colon is the first byte that is one
colon_at : (s : List ℕ) → length (before_colon s) ≡ position_or_len (λ b. eqb b (code ":")) s
unfolding before_colon
colon_at s = is_position_or_len (λ s. length (before_colon s)) (λ b. eqb b (code ":")) refl (λ x xs. go (eqb x (code ":")) x (before_colon xs)) s
  where
    go : (c : Bool) (x : ℕ) (r : List ℕ) → length (cond c [] (x ∷ r)) ≡ cond c 0 (1 + length r)
    go true x r = refl
    go false x r = omega arith

pub type_ends : (s : List ℕ) (o : Option ℕ) → o ≡ cond (ltb (position_or_len (λ b. eqb b (code ":")) s) (length s)) (Some (position_or_len (λ b. eqb b (code ":")) s)) None
    → unwrap_or o (length s) ≡ length (before_colon s)
type_ends s o e = rw (e, ← colon_at s) (go (ltb (length (before_colon s)) (length s)) refl)
  where
    go : (b : Bool) → ltb (length (before_colon s)) (length s) ≡ b → unwrap_or (cond b (Some (length (before_colon s))) None) (length s) ≡ length (before_colon s)
    go true h = refl
    go false h = omega (arith, ltb-false _ _ h, kind_short s)

pub id_length : (s : List ℕ) → length (after_colon s) ≡ length s - length (before_colon s) - 1
unfolding before_colon after_colon
id_length [] = refl
id_length (b ∷ s) = go (eqb b (code ":")) (id_length s)
  where
    go : (c : Bool) → length (after_colon s) ≡ length s - length (before_colon s) - 1 → length (cond c s (after_colon s)) ≡ length (b ∷ s) - length (cond c [] (b ∷ before_colon s)) - 1
    go true h = omega arith
    go false h = omega arith

-- ---- subjects and resources

number_or_none : (n : ℕ) → cond (not (eqb n 0) && true) n 0 ≡ n
number_or_none zero = refl
number_or_none (suc n) = rw (ne_eqb (suc n) 0 (λ (e : suc n ≡ 0). omega arith))

module _ (types : List (List ℕ)) (s : List ℕ) where
  pub too_long : 100 < length s → 0 ≡ cond (is_typed types s) (type_in types s) 0
  unfolding is_typed
  too_long l = rw (lt-leb (length s) 100 l)

  pub no_id : length s ≤ length (before_colon s) + 1 → 0 ≡ cond (is_typed types s) (type_in types s) 0
  unfolding is_typed
  no_id l = let h = id_length s in rw (le-ltb 0 (length (after_colon s)) (omega arith), and-false (leb (length s) 100 && not (eqb (type_in types s) 0)))

  pub its_type : length s ≤ 100 → length (before_colon s) + 1 < length s → type_in types s ≡ cond (is_typed types s) (type_in types s) 0
  unfolding is_typed
  its_type l k = let h = id_length s in rw (lt-ltb 0 (length (after_colon s)) (omega arith), le-leb (length s) 100 l) (sym (number_or_none (type_in types s)))
