-- The reader of whole lists says yes exactly to UTF-8, and gives the numbers; these are the only ones, and have no other bytes. Assumes nothing.
use mathlib.Core.Path.{◌≡◌, refl, sym, ◌∙◌}
use mathlib.Core.Logic.{◌↔◌}
use mathlib.Core.Bool.{true, ◌&&◌, false≢true}
use mathlib.Core.List.{List, [], ◌∷◌, ◌++◌}
use Prim.Native.Nat.{ℕ, zero, suc, ◌<◌, ◌≤◌}
use native.Mathlib.Omega.{arith}
use lib.ListN.{length, drop, length-append, take-append-drop}
use lib.Seq.{drop_at}
use Rattle.slices.specs.Decides.{Decides}
use Rattle.utf8.specs.Characters.{Spells, nothing, more, Utf8}
use Rattle.utf8.specs.Reading.{width, point, is_some, less_one, utf8_after, points_after, utf8, points}
use Rattle.utf8.proofs.OneCharacter.{read, there, some_bytes, one_spelling}

-- ---- the first character of bytes that are UTF-8

pub record First (s ns : List ℕ) : Type 0 where
  pub some : 0 < width s
  pub whole : width s ≤ length s
  pub rest : List ℕ
  pub numbers : ns ≡ point s ∷ rest
  pub says : Spells (drop (width s) s) rest

pub first : {s ns : List ℕ} → Spells s ns → 0 < length s → First s ns
first nothing h = absurd (omega arith)
first (more {c} {s} {ns} {n} ch m) h =
    let r = read ch s in
    record {
      some = omega (arith, r.width_is, some_bytes ch);
      whole = omega (arith, r.width_is, length-append c s);
      rest = ns;
      numbers = rw r.point_is;
      says = rw (r.width_is, drop_at c s (length c) refl) m;
    }

pub says_more : (s ns : List ℕ) → 0 < width s → Spells (drop (width s) s) ns → Spells s (point s ∷ ns)
says_more s ns h m = rw take-append-drop at (more (there s h) m)

-- ---- the reader

skip_goes : (c s : List ℕ) → utf8_after (length c) (c ++ s) ≡ utf8_after 0 s
unfolding utf8_after
skip_goes [] s = refl
skip_goes (x ∷ c) s = skip_goes c s

skip_points : (c s : List ℕ) → points_after (length c) (c ++ s) ≡ points_after 0 s
unfolding points_after
skip_points [] s = refl
skip_points (x ∷ c) s = skip_points c s

goes_on : (c s : List ℕ) → 0 < length c → width (c ++ s) ≡ length c → utf8_after 0 (c ++ s) ≡ utf8_after 0 s
unfolding utf8_after
goes_on [] s h e = absurd (omega arith)
goes_on (x ∷ c) s h e = rw e (skip_goes c s)

points_on : (c s : List ℕ) → 0 < length c → width (c ++ s) ≡ length c → points_after 0 (c ++ s) ≡ point (c ++ s) ∷ points_after 0 s
unfolding points_after
points_on [] s h e = absurd (omega arith)
points_on (x ∷ c) s h e = rw (e, skip_points c s)

says_goes : {s ns : List ℕ} → Spells s ns → (utf8_after 0 s ≡ true) × (points_after 0 s ≡ ns)
unfolding utf8_after points_after
says_goes nothing = (refl, refl)
says_goes (more {c} {s} ch m) =
    let r = read ch s in
    let i = says_goes m in
    (goes_on c s (some_bytes ch) r.width_is ∙ i.0, points_on c s (some_bytes ch) r.width_is ∙ rw (r.point_is, i.1))

goes_says : (k : ℕ) (s : List ℕ) → utf8_after k s ≡ true → Spells (drop k s) (points_after k s)
unfolding utf8_after points_after
goes_says zero [] t = nothing
goes_says (suc k) [] t = absurd (false≢true t)
goes_says (suc k) (x ∷ s) t = goes_says k s t
goes_says zero (x ∷ s) t = go (λ k. goes_says k s) (width (x ∷ s)) refl t
  where
    go : ((k : ℕ) → utf8_after k s ≡ true → Spells (drop k s) (points_after k s)) → (w : ℕ) → width (x ∷ s) ≡ w → (is_some w && utf8_after (less_one w) s) ≡ true
        → Spells (x ∷ s) (point (x ∷ s) ∷ points_after (less_one w) s)
    go ih zero e t = absurd (false≢true t)
    go ih (suc w) e t = says_more (x ∷ s) (points_after w s) (omega arith) (rw e (ih w t))

-- bytes say numbers exactly when the reader says yes, and gives these
pub says_exactly : (s ns : List ℕ) → Spells s ns ↔ ((utf8 s ≡ true) × (ns ≡ points s))
unfolding utf8 points
says_exactly s ns = ((λ m. ((says_goes m).0, sym (says_goes m).1)), (λ h. rw h.1 (goes_says 0 s h.0)))

pub utf8_decides : (s : List ℕ) → Decides (Utf8 s) (utf8 s)
unfolding utf8
utf8_decides s = record { sound = λ t. record { numbers = points_after 0 s; says = goes_says 0 s t }; complete = λ u. (says_goes u.says).0 }

-- ---- only one reading, and only one spelling

pub one_reading : {s ns ms : List ℕ} → Spells s ns → Spells s ms → ns ≡ ms
one_reading m k = sym (says_goes m).1 ∙ (says_goes k).1

pub one_text : {s t ns : List ℕ} → Spells s ns → Spells t ns → s ≡ t
one_text nothing nothing = refl
one_text (more ch m) (more dh k) = rw (one_spelling ch dh, one_text m k)
