-- The character that stands at a place, and UTF-8 from a place on. Assumes nothing.
use mathlib.Core.Path.{◌≡◌, refl, sym, ◌∙◌, ap}
use mathlib.Core.Logic.{◌↔◌}
use mathlib.Core.Bool.{Bool, true, false, cond}
use mathlib.Core.List.{List, [], ◌∷◌}
use Prim.Native.Nat.{ℕ, zero, suc, ◌+◌, ◌<◌, ◌≤◌}
use native.Mathlib.Omega.{arith}
use lib.ListN.{length, get_or, drop, length-take, length-drop, take-append-drop, drop_of_length-le}
use lib.Seq.{drop-drop}
use Rattle.slices.proofs.Rest.{rest_at}
use Rattle.utf8.specs.Characters.{nothing, Utf8}
use Rattle.utf8.specs.Reading.{bytes_by_first, followed, width, point}
use Rattle.utf8.proofs.Bytes.{rows_one}
use Rattle.utf8.proofs.OneCharacter.{read, there}
use Rattle.utf8.proofs.Readings.{first, says_more}

-- ---- how many bytes the character at `at` has

pub nothing_there : (s : List ℕ) (at : ℕ) → length s ≤ at → 0 ≡ width (drop at s)
unfolding width
nothing_there s at h = rw (drop_of_length-le s)

module _ (s : List ℕ) (at k : ℕ) (h : at < length s) (e : k ≡ bytes_by_first (get_or s at 0)) where
  by_ranges : width (drop at s) ≡ cond (followed k (get_or s at 0) (drop (at + 1) s)) k 0
  unfolding width
  by_ranges = rw (rest_at s at, e)

  pub whole : {r : Bool} → r ≡ followed k (get_or s at 0) (drop (at + 1) s) → r ≡ true → k ≡ width (drop at s)
  whole f t = rw (by_ranges, ← f, t) refl

  pub cut : {r : Bool} → r ≡ followed k (get_or s at 0) (drop (at + 1) s) → r ≡ false → 0 ≡ width (drop at s)
  cut f t = rw (by_ranges, ← f, t) refl

pub ascii : (s : List ℕ) (at : ℕ) → at < length s → get_or s at 0 ≤ 0x7F → 1 ≡ width (drop at s)
unfolding followed
ascii s at h l = whole s at 1 h (sym (rows_one (get_or s at 0) l)) refl refl

-- where a character stands its first byte says how many it has
pub by_first : (s : List ℕ) (at : ℕ) → at < length s → 0 < width (drop at s) → bytes_by_first (get_or s at 0) ≡ width (drop at s)
by_first s at h l = go (followed (bytes_by_first (get_or s at 0)) (get_or s at 0) (drop (at + 1) s)) (width (drop at s)) (by_ranges s at (bytes_by_first (get_or s at 0)) h refl) l
  where
    go : (b : Bool) (w : ℕ) → w ≡ cond b (bytes_by_first (get_or s at 0)) 0 → 0 < w → bytes_by_first (get_or s at 0) ≡ w
    go true w e l = sym e
    go false w e l = absurd (omega arith)

-- ---- a character ends no later than the bytes

pub width_in : (s : List ℕ) → width s ≤ length s
width_in s = go (width s) refl
  where
    go : (w : ℕ) → width s ≡ w → width s ≤ length s
    go zero e = omega arith
    go (suc w) e =
        let r = read (there s (omega arith)) (drop (width s) s) in
        omega (arith, sym r.width_is ∙ ap width (take-append-drop (width s) s), length-take (width s) s)

-- ---- UTF-8 from a place on

pub utf8_end : (s : List ℕ) (i : ℕ) → length s ≤ i → Utf8 (drop i s)
utf8_end s i h = rw (drop_of_length-le s) (record { numbers = []; says = nothing })

pub utf8_stops : (s : List ℕ) (i : ℕ) → i < length s → width (drop i s) ≡ 0 → Utf8 (drop i s) → ⊥
utf8_stops s i h e u = omega (arith, (first u.says (omega (arith, length-drop i s))).some)

pub utf8_on : (s : List ℕ) (i n : ℕ) → i < length s → n ≡ width (drop i s) → 0 < n → Utf8 (drop i s) ↔ Utf8 (drop (i + n) s)
utf8_on s i n h e l = (
  (λ u. let f = first u.says (omega (arith, length-drop i s)) in record { numbers = f.rest; says = rw (← drop-drop n i s, e) f.says }),
  (λ u. record { numbers = point (drop i s) ∷ u.numbers; says = says_more (drop i s) u.numbers (omega arith) (rw (← e, drop-drop n i s) u.says) }),
)

pub stays_in : (s : List ℕ) (i n : ℕ) → i < length s → n ≡ width (drop i s) → i + n ≤ length s
stays_in s i n h e = omega (arith, width_in (drop i s), length-drop i s)
