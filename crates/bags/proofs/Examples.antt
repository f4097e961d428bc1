-- Worked examples: bags, and bytes that are none, each for one rule. Assumes nothing.
use Prim.Native.Nat.{ℕ, zero, suc}
use mathlib.Core.Bool.{true, false}
use mathlib.Core.List.{List, [], ◌∷◌, ◌++◌}
use mathlib.Core.Path.{◌≡◌, refl}
use lib.ListN.{length, replicate}
use Prim.Native.String.{String}
use Rattle.slices.specs.Ascii.{bytes}
use Rattle.bags.specs.Paths.{is_path}
use Rattle.bags.specs.Sections.{is_bag}
use Rattle.bags.proofs.Opened.{bags_opened}

pub paths :
    (is_path (bytes "grade") ≡ true)
    × (is_path (bytes "a.b-2.c_") ≡ true)
    × (is_path (bytes "a.iff") ≡ true)
    × (is_path (bytes "") ≡ false)
    × (is_path (bytes "a.") ≡ false)
    × (is_path (bytes "a..b") ≡ false)
    × (is_path (bytes "2a") ≡ false)
    × (is_path (bytes "a b") ≡ false)
    × (is_path (bytes "a.if") ≡ false)
    × (is_path (bytes "a123456789b123456789c123456789d123456789e123456789f123456789.123") ≡ false)
    × (is_path (bytes "a123456789b123456789c123456789d123456789e123456789f123456789.abc") ≡ true)
    × (is_path (bytes "a123456789b123456789c123456789d123456789e123456789f123456789.abcd") ≡ false)
unfolding bags_opened
paths = (refl, refl, refl, refl, refl, refl, refl, refl, refl, refl, refl, refl)

-- a bag with one entry of the section principal
abbrev one : String → List ℕ → List ℕ
one path value = 1 ∷ length (bytes path) ∷ (bytes path ++ (value ++ (0 ∷ 0 ∷ [])))

-- two flags of the section env
abbrev two : String → String → List ℕ
two p q = 0 ∷ 0 ∷ 2 ∷ length (bytes p) ∷ (bytes p ++ (3 ∷ 0 ∷ length (bytes q) ∷ (bytes q ++ (3 ∷ 1 ∷ []))))

pub bags :
    (is_bag (0 ∷ 0 ∷ 0 ∷ []) ≡ true)
    × (is_bag (0 ∷ 0 ∷ []) ≡ false)
    × (is_bag (0 ∷ 0 ∷ 0 ∷ 0 ∷ []) ≡ false)
    × (is_bag (one "grade" (2 ∷ 0 ∷ 0 ∷ 0 ∷ 0 ∷ 0 ∷ 0 ∷ 8 ∷ 64 ∷ [])) ≡ true)
    × (is_bag (one "grade" (2 ∷ 0 ∷ 0 ∷ 0 ∷ 0 ∷ 0 ∷ 0 ∷ 240 ∷ 127 ∷ [])) ≡ false)
    × (is_bag (one "grade" (2 ∷ 1 ∷ 0 ∷ 0 ∷ 0 ∷ 0 ∷ 0 ∷ 240 ∷ 255 ∷ [])) ≡ false)
    × (is_bag (one "on" (3 ∷ 1 ∷ [])) ≡ true)
    × (is_bag (one "on" (3 ∷ 2 ∷ [])) ≡ false)
    × (is_bag (one "on" (0 ∷ [])) ≡ false)
    × (is_bag (one "on" (5 ∷ 0 ∷ [])) ≡ false)
    × (is_bag (one "hired" (1 ∷ 3 ∷ bytes "own")) ≡ true)
    × (is_bag (one "hired" (1 ∷ 0 ∷ [])) ≡ true)
    × (is_bag (one "hired" (1 ∷ 6 ∷ bytes "own")) ≡ false)
    × (is_bag (one "tags" (4 ∷ 2 ∷ 1 ∷ 120 ∷ 0 ∷ [])) ≡ true)
    × (is_bag (one "" (3 ∷ 1 ∷ [])) ≡ false)
    × (is_bag (one "if" (3 ∷ 1 ∷ [])) ≡ false)
    × (is_bag (two "a" "a-b") ≡ true)
    × (is_bag (two "a-b" "a.b") ≡ true)
    × (is_bag (two "a.b" "a0") ≡ true)
    × (is_bag (two "a0" "aA") ≡ true)
    × (is_bag (two "aA" "a_") ≡ true)
    × (is_bag (two "a_" "aa") ≡ true)
    × (is_bag (two "b" "a") ≡ false)
    × (is_bag (two "a" "a") ≡ false)
unfolding bags_opened
bags = (refl, refl, refl, refl, refl, refl, refl, refl, refl, refl, refl, refl, refl, refl, refl, refl, refl, refl, refl, refl, refl, refl, refl, refl)

-- n flags, whose paths are k times a, once more each time
abbrev many_flags : ℕ → ℕ → List ℕ
many_flags zero k = 0 ∷ 0 ∷ []
many_flags (suc n) k = k ∷ (replicate k 97 ++ (3 ∷ 0 ∷ many_flags n (suc k)))

-- n strings of 127 bytes
abbrev many_strings : ℕ → List ℕ
many_strings zero = []
many_strings (suc n) = 127 ∷ (replicate 127 120 ++ many_strings n)

-- two lists of 16 strings, all of 127 bytes but the last
abbrev full : ℕ → List ℕ
full n = 2 ∷ 1 ∷ 97 ∷ 4 ∷ 16 ∷ (many_strings 16 ++ (2 ∷ 97 ∷ 97 ∷ 4 ∷ 16 ∷ (many_strings 15 ++ (n ∷ (replicate n 120 ++ (0 ∷ 0 ∷ []))))))

-- a string, a list, a section and a bag at their limits, and one above
pub limits :
    (is_bag (one "a" (1 ∷ 127 ∷ replicate 127 120)) ≡ true)
    × (is_bag (one "a" (1 ∷ 128 ∷ replicate 128 120)) ≡ false)
    × (is_bag (one "a" (4 ∷ 16 ∷ replicate 16 0)) ≡ true)
    × (is_bag (one "a" (4 ∷ 17 ∷ replicate 17 0)) ≡ false)
    × (is_bag (32 ∷ many_flags 32 1) ≡ true)
    × (is_bag (33 ∷ many_flags 33 1) ≡ false)
    × (length (full 115) ≡ 4096)
    × (is_bag (full 115) ≡ true)
    × (is_bag (full 116) ≡ false)
unfolding bags_opened
limits = (refl, refl, refl, refl, refl, refl, refl, refl, refl)
