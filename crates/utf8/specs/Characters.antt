-- UTF-8 as RFC 3629 has it: the table of its section 3, which gives each character number its one sequence of bytes. Definitions only.
use Rattle.std.specs.Prelude.{◌≡◌, List, [], ◌∷◌, ◌++◌, ℕ, ◌+◌, ◌*◌, ◌<◌, ◌≤◌}

-- a byte that is fixed bits and then, in its lower end, bits of the character number: `110xxxxx` is `Bits 0xC0 0x20`
pub record Bits (fixed room bits byte : ℕ) : Type 0 where
  pub fits : bits < room
  pub is : byte ≡ fixed + bits

-- the bytes of one character, and its number. The number's range rules longer forms of it out; the numbers of the UTF-16 surrogates are no
-- characters, nor is any above 10FFFF.
pub data Character : List ℕ → ℕ → Type 0 where
  -- 0000-007F: 0xxxxxxx
  one : {n : ℕ} → n ≤ 0x7F → Character (n ∷ []) n
  -- 0080-07FF: 110xxxxx 10xxxxxx
  two : {a b x y n : ℕ} → Bits 0xC0 0x20 a x → Bits 0x80 0x40 b y → n ≡ a * 64 + b → 0x80 ≤ n → Character (x ∷ y ∷ []) n
  -- 0800-FFFF: 1110xxxx 10xxxxxx 10xxxxxx
  three : {a b c x y z n : ℕ} → Bits 0xE0 0x10 a x → Bits 0x80 0x40 b y → Bits 0x80 0x40 c z → n ≡ (a * 64 + b) * 64 + c
      → 0x800 ≤ n → (0xD800 ≤ n → n ≤ 0xDFFF → ⊥) → Character (x ∷ y ∷ z ∷ []) n
  -- 10000-10FFFF: 11110xxx 10xxxxxx 10xxxxxx 10xxxxxx
  four : {a b c d x y z w n : ℕ} → Bits 0xF0 0x08 a x → Bits 0x80 0x40 b y → Bits 0x80 0x40 c z → Bits 0x80 0x40 d w
      → n ≡ ((a * 64 + b) * 64 + c) * 64 + d → 0x10000 ≤ n → n ≤ 0x10FFFF → Character (x ∷ y ∷ z ∷ w ∷ []) n

-- bytes that are one character after another, and the numbers of these
pub data Spells : List ℕ → List ℕ → Type 0 where
  nothing : Spells [] []
  more : {c s ns : List ℕ} {n : ℕ} → Character c n → Spells s ns → Spells (c ++ s) (n ∷ ns)

-- bytes that are UTF-8
pub record Utf8 (s : List ℕ) : Type 0 where
  pub numbers : List ℕ
  pub says : Spells s numbers

-- bytes that are ASCII: none is above 7F
pub data OnlyAscii : List ℕ → Type 0 where
  no_byte : OnlyAscii []
  and_byte : {x : ℕ} {s : List ℕ} → x ≤ 0x7F → OnlyAscii s → OnlyAscii (x ∷ s)
