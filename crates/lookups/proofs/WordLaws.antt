-- Bytes compared four at a time, as one number. Assumes nothing.
use Prim.Native.Nat.{ℕ, ◌+◌, ◌<◌, ◌≤◌}
use mathlib.Core.List.{List}
use mathlib.Core.Bool.{Bool, true, false}
use mathlib.Core.Path.{◌≡◌, refl, sym, ap, subst}
use borrow.Author.Tests.{eqb-true, eqb-false, ltb-true, ltb-false}
use native.Mathlib.Omega.{arith}
use lib.Dec.{eqb, ltb}
use lib.ListN.{length}
use lib.Seq.{ext_get_or}
use Rattle.slices.specs.Same.{same}
use Rattle.slices.specs.Decides.{Decides}
use Rattle.slices.specs.Standing.{joined_of}
use Rattle.slices.proofs.Decided.{yes_to, no_to, refuted}
use Rattle.slices.proofs.Equal.{same_is}
use Rattle.slices.proofs.PieceLaws.{joined_bytes}
use Rattle.bags.specs.Reading.{byte}

-- ---- four bytes as one number

-- what holds at four places, one after the other, holds from the first up to the last
of_four : (P : ℕ → Type 0) (i : ℕ) → P i → P (i + 1) → P (i + 2) → P (i + 3) → (k : ℕ) → i ≤ k → k < i + 4 → P k
of_four P i p q r s k l u = go (eqb k i) (eqb k (i + 1)) (eqb k (i + 2)) refl refl refl
  where
    go : (a b c : Bool) → eqb k i ≡ a → eqb k (i + 1) ≡ b → eqb k (i + 2) ≡ c → P k
    go true b c e f g = subst P (sym (eqb-true k i e)) p
    go false true c e f g = subst P (sym (eqb-true k (i + 1) f)) q
    go false false true e f g = subst P (sym (eqb-true k (i + 2) g)) r
    go false false false e f g =
        let d = eqb-false k i e in let d2 = eqb-false k (i + 1) f in let d3 = eqb-false k (i + 2) g in
        let z : k ≡ i + 3 = omega arith in subst P (sym z) s

module _ (a b : List ℕ) (i x y : ℕ) (u : (k : ℕ) → byte a k < 256) (v : (k : ℕ) → byte b k < 256)
    (p : x ≡ joined_of (byte a i) (byte a (i + 1)) (byte a (i + 2)) (byte a (i + 3)))
    (q : y ≡ joined_of (byte b i) (byte b (i + 1)) (byte b (i + 2)) (byte b (i + 3))) where
  -- two such numbers are equal exactly where the bytes are
  pub four_decides : Decides ((k : ℕ) → i ≤ k → k < i + 4 → byte a k ≡ byte b k) (eqb x y)
  four_decides = go (eqb x y) refl
    where
      go : (r : Bool) → eqb x y ≡ r → Decides ((k : ℕ) → i ≤ k → k < i + 4 → byte a k ≡ byte b k) r
      go true e =
          let n = eqb-true x y e in
          let h = joined_bytes (byte a i) (byte a (i + 1)) (byte a (i + 2)) (byte a (i + 3)) (byte b i) (byte b (i + 1)) (byte b (i + 2)) (byte b (i + 3))
          (u i) (u (i + 1)) (u (i + 2)) (u (i + 3)) (v i) (v (i + 1)) (v (i + 2)) (v (i + 3)) (omega arith) in
          yes_to (of_four (λ (k : ℕ). byte a k ≡ byte b k) i h.0 h.1 h.2 h.3)
      go false e =
          no_to (λ h.
          let k1 = h i (omega arith) (omega arith) in let k2 = h (i + 1) (omega arith) (omega arith) in
          let k3 = h (i + 2) (omega arith) (omega arith) in let k4 = h (i + 3) (omega arith) (omega arith) in
          eqb-false x y e (omega arith))

-- ---- all bytes, four at a time

module _ (a b : List ℕ) where
  -- other bytes somewhere
  pub four_other : (i : ℕ) (r : Bool) → Decides ((k : ℕ) → i ≤ k → k < i + 4 → byte a k ≡ byte b k) r → r ≡ false → false ≡ same a b
  four_other i r d n = same_is a b (no_to (λ e. refuted d n (λ k l u. ap (λ (s : List ℕ). byte s k) e)))

  -- the same bytes up to i and in the last four, from which i is not far
  pub fours_same : length a ≡ length b → (last i : ℕ) → last + 4 ≡ length a → last ≤ i → ((k : ℕ) → k < i → byte a k ≡ byte b k)
      → (r : Bool) → Decides ((k : ℕ) → last ≤ k → k < last + 4 → byte a k ≡ byte b k) r → r ≡ true → true ≡ same a b
  fours_same e last i f l before r d y = same_is a b (yes_to (ext_get_or 0 a b e (λ k h. go k h (ltb k i) refl)))
    where
      go : (k : ℕ) → k < length a → (t : Bool) → ltb k i ≡ t → byte a k ≡ byte b k
      go k h true z = before k (ltb-true k i z)
      go k h false z = let n = ltb-false k i z in d.sound y k (omega arith) (omega arith)

  pub four_more : (i : ℕ) → ((k : ℕ) → k < i → byte a k ≡ byte b k) → (r : Bool) → Decides ((k : ℕ) → i ≤ k → k < i + 4 → byte a k ≡ byte b k) r → r ≡ true
      → (k : ℕ) → k < i + 4 → byte a k ≡ byte b k
  four_more i before r d y k h = go (ltb k i) refl
    where
      go : (t : Bool) → ltb k i ≡ t → byte a k ≡ byte b k
      go true z = before k (ltb-true k i z)
      go false z = let n = ltb-false k i z in d.sound y k (omega arith) h
