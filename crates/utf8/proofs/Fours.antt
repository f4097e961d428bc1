-- Four bytes of ASCII at once: the bits of all of them, put together, say whether one is above 7F. Assumes nothing.
use mathlib.Core.Path.{◌≡◌}
use mathlib.Core.Logic.Iff
use mathlib.Core.Logic.{◌↔◌}
use mathlib.Core.Bool.{Bool, true, false}
use mathlib.Core.List.{List, [], ◌∷◌}
use Prim.Native.Nat.{ℕ, zero, suc, ◌+◌, ◌<◌, ◌≤◌}
use native.Mathlib.Omega.{arith}
use lib.Bits.{bit_or, or_add_and, and_le_l, and_le_r}
use lib.ListN.{length, get_or, drop}
use Rattle.std.specs.Bool.{MatchBool}
use Rattle.std.specs.Str.{IsAscii, IsNotAscii}
use Rattle.slices.specs.Decides.{Decides}
use Rattle.slices.proofs.Decided.{yes_to, no_to}
use Rattle.utf8.specs.Characters.{OnlyAscii, no_byte, and_byte, Utf8}
use Rattle.utf8.proofs.Places.{ascii, utf8_on}

two_ascii : {a b : ℕ} → bit_or a b ≤ 0x7F → (a ≤ 0x7F) × (b ≤ 0x7F)
two_ascii {a} {b} h = (omega (arith, or_add_and a b, and_le_r a b), omega (arith, or_add_and a b, and_le_l a b))

pub four_told : (a b c d : ℕ) → bit_or (bit_or (bit_or a b) c) d ≤ 0x7F → (a ≤ 0x7F) × (b ≤ 0x7F) × (c ≤ 0x7F) × (d ≤ 0x7F)
four_told a b c d h =
    let u = two_ascii {a = bit_or (bit_or a b) c} {b = d} h in
    let v = two_ascii {a = bit_or a b} {b = c} u.0 in
    let w = two_ascii {a = a} {b = b} v.0 in
    (w.0, w.1, v.1, u.1)

-- what holds from a byte of ASCII on exactly when it holds from the next byte on holds so past four of them
pub past_four : (P : List ℕ → Type 0) (s : List ℕ) (i : ℕ) → ((k : ℕ) → k < length s → get_or s k 0 ≤ 0x7F → P (drop k s) ↔ P (drop (k + 1) s)) → i + 4 ≤ length s
    → bit_or (bit_or (bit_or (get_or s i 0) (get_or s (i + 1) 0)) (get_or s (i + 2) 0)) (get_or s (i + 3) 0) ≤ 0x7F → P (drop i s) ↔ P (drop (i + 4) s)
past_four P s i step h f =
    let l = four_told (get_or s i 0) (get_or s (i + 1) 0) (get_or s (i + 2) 0) (get_or s (i + 3) 0) f in
    Iff.trans (next i (i + 1) (omega arith) (omega arith) l.0) (Iff.trans (next (i + 1) (i + 2) (omega arith) (omega arith) l.1) (Iff.trans (next (i + 2) (i + 3) (omega arith) (omega arith) l.2) (next (i + 3) (i + 4) (omega arith) (omega arith) l.3)))
  where
    next : (k j : ℕ) → j ≡ k + 1 → k < length s → get_or s k 0 ≤ 0x7F → P (drop k s) ↔ P (drop j s)
    next k j e m l = rw e (step k m l)

-- ---- ASCII by each of its bytes

each_ascii : (s : List ℕ) → ((i : ℕ) → get_or s i 0 < 0x80) → OnlyAscii s
each_ascii [] f = no_byte
each_ascii (x ∷ s) f = and_byte (omega (arith, f 0)) (each_ascii s (λ i. f (suc i)))

none_above : (s : List ℕ) (i : ℕ) → 0x80 ≤ get_or s i 0 → OnlyAscii s → ⊥
none_above [] i h a = absurd (omega arith)
none_above (x ∷ s) zero h (and_byte l a) = omega arith
none_above (x ∷ s) (suc i) h (and_byte l a) = none_above s i h a

-- what std says of its test decides it
pub by_bytes : (s : List ℕ) (r : Bool) → MatchBool r (IsAscii s) (IsNotAscii s) → Decides (OnlyAscii s) r
by_bytes s true h = yes_to (each_ascii s h)
by_bytes s false (i, h) = no_to (none_above s i h)

-- ---- UTF-8 from a place on, past a byte of ASCII

pub utf8_past : (s : List ℕ) (i : ℕ) → i < length s → get_or s i 0 ≤ 0x7F → Utf8 (drop i s) ↔ Utf8 (drop (i + 1) s)
utf8_past s i h l = utf8_on s i 1 h (ascii s i h l) (omega arith)
