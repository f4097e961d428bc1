-- Four bytes as one number; bytes that stand at a place, one part after the other. Assumes nothing.
use Prim.Native.Nat.{ℕ, zero, suc, ◌+◌, ◌-◌, ◌*◌, ◌<◌, ◌≤◌}
use mathlib.Core.Bool.{Bool, true, false, ◌&&◌}
use mathlib.Core.List.{List, [], ◌∷◌, ◌++◌}
use mathlib.Core.Path.{◌≡◌, refl, sym, ap, ◌∙◌}
use native.Mathlib.Omega.{arith}
use lib.Dec.{eqb}
use lib.ListN.{length, get_or, take, drop}
use lib.Pointwise.{pointwise}
use borrow.Author.Tests.{eqb-true, eqb-false, eq-eqb, ne_eqb}
use Rattle.slices.specs.Same.{same}
use Rattle.slices.specs.Standing.{stands_at, joined_of}
use Rattle.slices.proofs.Rest.{rest_at}

-- ---- four bytes as one number

-- a number says its low byte, and the rest of it
low_byte : (x y m n : ℕ) → x < 256 → y < 256 → x + 256 * m ≡ y + 256 * n → (x ≡ y) × (m ≡ n)
low_byte x y m n h k e = (omega arith, omega arith)

module _ (p q r s a b c d : ℕ) (hp : p < 256) (hq : q < 256) (hr : r < 256) (hs : s < 256) (ha : a < 256) (hb : b < 256) (hc : c < 256) (hd : d < 256) where
  -- such a number says its bytes
  pub joined_bytes : joined_of p q r s ≡ joined_of a b c d → (p ≡ a) × (q ≡ b) × (r ≡ c) × (s ≡ d)
  joined_bytes e =
      let h1 = low_byte p a (q + 256 * (r + 256 * s)) (b + 256 * (c + 256 * d)) hp ha (omega arith) in
      let h2 = low_byte q b (r + 256 * s) (c + 256 * d) hq hb h1.1 in
      let h3 = low_byte r c s d hr hc h2.1 in
      (h1.0, h2.0, h3.0, h3.1)

-- ---- bytes at a place

eqb_turned : (x y : ℕ) → eqb x y ≡ eqb y x
eqb_turned x y = go (eqb y x) refl
  where
    go : (t : Bool) → eqb y x ≡ t → eqb x y ≡ t
    go true e = eq-eqb x y (sym (eqb-true y x e))
    go false e = ne_eqb x y (λ h. eqb-false y x e (sym h))

-- the bytes that begin what is left from a place on stand there
pub begin_stand : (w t : List ℕ) (at : ℕ) → at + length w ≤ length t → pointwise eqb w (take (length w) (drop at t)) ≡ stands_at w t at
unfolding stands_at
begin_stand [] t at h = refl
begin_stand (x ∷ w) t at h =
    let here : at < length t = omega arith in
    rw (rest_at t at here, eqb_turned x (get_or t at 0)) (ap (λ (b : Bool). eqb (get_or t at 0) x && b) (begin_stand w t (at + 1) (omega arith)))

-- so do those that begin as many bytes as they have, cut out there
pub starts_stand : (w t : List ℕ) (at n : ℕ) → length w ≡ n → at + n ≤ length t → pointwise eqb w (take (length w) (take (at + n - at) (drop at t))) ≡ stands_at w t at
starts_stand w t at n e h =
    let size : at + n - at ≡ length w = omega arith in
    rw (size, take_take (length w) (drop at t)) (begin_stand w t at (omega arith))
  where
    take_take : (k : ℕ) (l : List ℕ) → take k (take k l) ≡ take k l
    take_take zero l = refl
    take_take (suc k) [] = refl
    take_take (suc k) (x ∷ l) = ap (λ (r : List ℕ). x ∷ r) (take_take k l)

-- bytes that begin others of the same length are these
pub starts_same : (w s : List ℕ) → length s ≡ length w → pointwise eqb w (take (length w) s) ≡ same s w
unfolding same
starts_same [] [] h = refl
starts_same [] (y ∷ s) h = absurd (omega arith)
starts_same (x ∷ w) [] h = absurd (omega arith)
starts_same (x ∷ w) (y ∷ s) h = rw (eqb_turned x y) (ap (λ (b : Bool). eqb y x && b) (starts_same w s (omega arith)))

-- ---- one part after the other

pub and_assoc : (a b c : Bool) → (a && (b && c)) ≡ ((a && b) && c)
and_assoc true b c = refl
and_assoc false b c = refl

-- bytes stand at a place where the first of them stand there and the others behind these
pub stand_parts : (u w t : List ℕ) (at : ℕ) → stands_at (u ++ w) t at ≡ (stands_at u t at && stands_at w t (at + length u))
unfolding stands_at
stand_parts [] w t at = ap (stands_at w t) (omega arith)
stand_parts (x ∷ u) w t at =
    let place : at + 1 + length u ≡ at + length (x ∷ u) = omega arith in
    ap (λ (b : Bool). eqb (get_or t at 0) x && b) (stand_parts u w t (at + 1))
    ∙ (and_assoc (eqb (get_or t at 0) x) (stands_at u t (at + 1)) _ ∙ ap (λ (k : ℕ). (eqb (get_or t at 0) x && stands_at u t (at + 1)) && stands_at w t k) place)
