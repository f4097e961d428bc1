-- The rule of first bytes, tested at all 256; RFC 3629's own examples; forms that it refuses. Assumes nothing.
use mathlib.Core.Path.{◌≡◌, refl}
use mathlib.Core.Bool.{Bool, true, false, ◌&&◌, false≢true}
use mathlib.Core.List.{[], ◌∷◌}
use Prim.Native.Nat.{ℕ, zero, suc, ◌<◌}
use native.Mathlib.Omega.{arith}
use lib.Dec.{eqb}
use lib.ListN.{get_or}
use borrow.Author.Tests.{eqb-true, eqb-false}
use Rattle.slices.proofs.Decided.{refuted}
use Rattle.utf8.specs.Characters.{Spells, Utf8}
use Rattle.utf8.specs.Reading.{bytes_by_first, first_byte_table, lowest_second, highest_second, may_stand_second, goes_on_character, followed, width, number_said, point, utf8_after, points_after, utf8, points}
use Rattle.utf8.proofs.Readings.{says_exactly, utf8_decides}

-- ---- first bytes

every : (ℕ → Bool) → ℕ → Bool
every f zero = true
every f (suc n) = f n && every f n

at_each : (f : ℕ → Bool) (n k : ℕ) → every f n ≡ true → k < n → f k ≡ true
unfolding every
at_each f zero k e h = absurd (omega arith)
at_each f (suc n) k e h = go (at_each f n k) (f n) refl (every f n) refl e (eqb k n) refl
  where
    go : (every f n ≡ true → k < n → f k ≡ true) → (a : Bool) → f n ≡ a → (b : Bool) → every f n ≡ b → (a && b) ≡ true → (c : Bool) → eqb k n ≡ c → f k ≡ true
    go ih false p b q e c r = absurd (false≢true e)
    go ih true p false q e c r = absurd (false≢true e)
    go ih true p true q e true r = rw (eqb-true k n r) p
    go ih true p true q e false r = ih q (omega (arith, eqb-false k n r))

pub first_bytes : (x : ℕ) → x < 256 → bytes_by_first x ≡ get_or first_byte_table x 0
unfolding bytes_by_first first_byte_table every
first_bytes x h = eqb-true (bytes_by_first x) (get_or first_byte_table x 0) (at_each (λ (k : ℕ). eqb (bytes_by_first k) (get_or first_byte_table k 0)) 256 x refl h)

-- ---- RFC 3629, section 7

not_identical_to_alpha : Spells (0x41 ∷ 0xE2 ∷ 0x89 ∷ 0xA2 ∷ 0xCE ∷ 0x91 ∷ 0x2E ∷ []) (0x41 ∷ 0x2262 ∷ 0x391 ∷ 0x2E ∷ [])
unfolding bytes_by_first lowest_second highest_second may_stand_second goes_on_character followed width number_said point utf8_after points_after utf8 points
not_identical_to_alpha = (says_exactly _ _).1 (refl, refl)

hangugeo : Spells (0xED ∷ 0x95 ∷ 0x9C ∷ 0xEA ∷ 0xB5 ∷ 0xAD ∷ 0xEC ∷ 0x96 ∷ 0xB4 ∷ []) (0xD55C ∷ 0xAD6D ∷ 0xC5B4 ∷ [])
unfolding bytes_by_first lowest_second highest_second may_stand_second goes_on_character followed width number_said point utf8_after points_after utf8 points
hangugeo = (says_exactly _ _).1 (refl, refl)

stump_of_tree : Spells (0xEF ∷ 0xBB ∷ 0xBF ∷ 0xF0 ∷ 0xA3 ∷ 0x8E ∷ 0xB4 ∷ []) (0xFEFF ∷ 0x233B4 ∷ [])
unfolding bytes_by_first lowest_second highest_second may_stand_second goes_on_character followed width number_said point utf8_after points_after utf8 points
stump_of_tree = (says_exactly _ _).1 (refl, refl)

-- `Süd`
sued : Spells (0x53 ∷ 0xC3 ∷ 0xBC ∷ 0x64 ∷ []) (0x53 ∷ 0xFC ∷ 0x64 ∷ [])
unfolding bytes_by_first lowest_second highest_second may_stand_second goes_on_character followed width number_said point utf8_after points_after utf8 points
sued = (says_exactly _ _).1 (refl, refl)

-- ---- no longer form of 0, no surrogates for 233B4, nothing above 10FFFF, no character without its end

overlong : Utf8 (0xC0 ∷ 0x80 ∷ []) → ⊥
unfolding bytes_by_first lowest_second highest_second may_stand_second goes_on_character followed width number_said point utf8_after points_after utf8 points
overlong = refuted (utf8_decides (0xC0 ∷ 0x80 ∷ [])) refl

surrogates : Utf8 (0xED ∷ 0xA1 ∷ 0x8C ∷ 0xED ∷ 0xBE ∷ 0xB4 ∷ []) → ⊥
unfolding bytes_by_first lowest_second highest_second may_stand_second goes_on_character followed width number_said point utf8_after points_after utf8 points
surrogates = refuted (utf8_decides (0xED ∷ 0xA1 ∷ 0x8C ∷ 0xED ∷ 0xBE ∷ 0xB4 ∷ [])) refl

above : Utf8 (0xF4 ∷ 0x90 ∷ 0x80 ∷ 0x80 ∷ []) → ⊥
unfolding bytes_by_first lowest_second highest_second may_stand_second goes_on_character followed width number_said point utf8_after points_after utf8 points
above = refuted (utf8_decides (0xF4 ∷ 0x90 ∷ 0x80 ∷ 0x80 ∷ [])) refl

cut_off : Utf8 (0x53 ∷ 0xC3 ∷ []) → ⊥
unfolding bytes_by_first lowest_second highest_second may_stand_second goes_on_character followed width number_said point utf8_after points_after utf8 points
cut_off = refuted (utf8_decides (0x53 ∷ 0xC3 ∷ [])) refl
