-- How many characters UTF-8 has: as many as it has bytes that do not go on a character. ASCII is UTF-8, and its bytes are their own numbers. Assumes nothing.
use mathlib.Core.Path.{◌≡◌, refl, sym, ◌∙◌, ap}
use mathlib.Core.Bool.{Bool, true, false}
use mathlib.Core.List.{List, [], ◌∷◌, ◌++◌}
use Prim.Native.Nat.{ℕ, zero, suc, ◌<◌, ◌≤◌}
use native.Mathlib.Omega.{arith}
use lib.ListN.{length, get_or, drop}
use Rattle.utf8.specs.Characters.{Character, one, two, three, four, Spells, nothing, more, Utf8, OnlyAscii, no_byte, and_byte}
use Rattle.utf8.specs.Reading.{goes_on_character, beginning_count, utf8, points}
use Rattle.utf8.proofs.Bytes.{tail_decides}
use Rattle.utf8.proofs.OneCharacter.{tail_of}
use Rattle.utf8.proofs.Readings.{says_exactly}

-- ---- bytes that do not go on a character

begins : (x : ℕ) → (0x80 ≤ x → x ≤ 0xBF → ⊥) → goes_on_character x ≡ false
begins x f = go (goes_on_character x) refl
  where
    go : (b : Bool) → goes_on_character x ≡ b → goes_on_character x ≡ false
    go true e = let t = (tail_decides x).sound e in absurd (f t.low t.high)
    go false e = e

one_counted : {c : List ℕ} {n : ℕ} → Character c n → (s : List ℕ) → beginning_count (c ++ s) ≡ suc (beginning_count s)
unfolding beginning_count
one_counted (one {n} h) s = rw (begins n (λ l m. omega arith))
one_counted (two {x} p q e l) s = rw (begins x (λ l m. omega arith), tail_of q)
one_counted (three {x} p q r e l o) s = rw (begins x (λ l m. omega arith), tail_of q, tail_of r)
one_counted (four {x} p q r u e l o) s = rw (begins x (λ l m. omega arith), tail_of q, tail_of r, tail_of u)

spelt_counted : {s ns : List ℕ} → Spells s ns → length ns ≡ beginning_count s
unfolding beginning_count
spelt_counted nothing = refl
spelt_counted (more {c} {s} ch m) = ap suc (spelt_counted m) ∙ sym (one_counted ch s)

pub points_counted : (s : List ℕ) → Utf8 s → length (points s) ≡ beginning_count s
points_counted s u = rw (← ((says_exactly s u.numbers).0 u.says).1) (spelt_counted u.says)

-- ---- ASCII

pub ascii_spells : {s : List ℕ} → OnlyAscii s → Spells s s
ascii_spells no_byte = nothing
ascii_spells (and_byte h a) = more (one h) (ascii_spells a)

pub ascii_utf8 : {s : List ℕ} → OnlyAscii s → utf8 s ≡ true
ascii_utf8 {s} a = ((says_exactly s s).0 (ascii_spells a)).0

pub ascii_points : {s : List ℕ} → OnlyAscii s → points s ≡ s
ascii_points {s} a = sym ((says_exactly s s).0 (ascii_spells a)).1

pub ascii_byte : (s : List ℕ) (i : ℕ) → OnlyAscii s → i < length s → get_or s i 0 ≤ 0x7F
ascii_byte [] i no_byte h = absurd (omega arith)
ascii_byte (x ∷ s) zero (and_byte l a) h = l
ascii_byte (x ∷ s) (suc i) (and_byte l a) h = ascii_byte s i a (omega arith)

pub ascii_rest : (s : List ℕ) (i : ℕ) → OnlyAscii s → OnlyAscii (drop i s)
ascii_rest s zero a = a
ascii_rest [] (suc i) a = a
ascii_rest (x ∷ s) (suc i) (and_byte l a) = ascii_rest s i a
