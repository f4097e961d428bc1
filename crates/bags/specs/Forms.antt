-- Bags as document 01 words them: which bytes say which values, entries, sections and bags. That the reader `is_bag` takes these bytes and no others,
-- and that bytes say one bag only, is proved in proofs/Exactly.antt. Definitions only.
use Rattle.std.specs.Prelude.{ℕ, ◌≤◌, List, [], ◌∷◌, ◌++◌, map, ◌≡◌, true, false, length}
use Rattle.std.specs.Float.Ieee.Scale.{finite}
use Rattle.tokens.specs.Sizes.{most_string_bytes}
use Rattle.numbers.specs.Bits.{number_at}
use Rattle.bags.specs.Paths.{is_path}
use Rattle.bags.specs.Sections.{Ascending}
use Rattle.bags.specs.Data.{Datum, text, number, flag, texts, Entry}
use Rattle.bags.specs.Sizes.{most_bag_bytes, most_entries, most_strings}

-- things one after the other, where R says which bytes say which thing
pub data InTurn {A : Type 0} (R : List ℕ → A → Type 0) : List ℕ → List A → Type 0 where
  none : InTurn R [] []
  more : {a b : List ℕ} {x : A} {xs : List A} → R a x → InTurn R b xs → InTurn R (a ++ b) (x ∷ xs)

-- a string: a length byte of 0 to 127, and any bytes
pub data StringBytes : List ℕ → List ℕ → Type 0 where
  a_string : {x : List ℕ} → length x ≤ most_string_bytes → StringBytes (length x ∷ x) x

-- a kind byte and a value: 1 string; 2 number, 8 bytes that are a finite binary64; 3 flag, a byte 0 or 1; 4 list, a count byte of 0 to 16 and strings
pub data ValueBytes : List ℕ → Datum → Type 0 where
  string : {b x : List ℕ} → StringBytes b x → ValueBytes (1 ∷ b) (text x)
  eight : {b : List ℕ} → length b ≡ 8 → finite (number_at b 0) ≡ true → ValueBytes (2 ∷ b) (number (number_at b 0))
  off : ValueBytes (3 ∷ 0 ∷ []) (flag false)
  on : ValueBytes (3 ∷ 1 ∷ []) (flag true)
  list : {b : List ℕ} {xs : List (List ℕ)} → length xs ≤ most_strings → InTurn StringBytes b xs → ValueBytes (4 ∷ length xs ∷ b) (texts xs)

-- an entry: a path length byte, the path (names joined by dots, 64 bytes at most), and a kind byte with its value
pub data EntryBytes : List ℕ → Entry Datum → Type 0 where
  entry : {p b : List ℕ} {v : Datum} → is_path p ≡ true → ValueBytes b v → EntryBytes (length p ∷ (p ++ b)) (record { path = p; value = v })

-- the paths of entries
abbrev pub paths_in : List (Entry Datum) → List (List ℕ)
paths_in = map (λ e. e.path)

-- a section: a count byte of 0 to 32, and that many entries, which ascend strictly by path bytes
pub data SectionBytes : List ℕ → List (Entry Datum) → Type 0 where
  section : {b : List ℕ} {es : List (Entry Datum)} → length es ≤ most_entries → Ascending (paths_in es) → InTurn EntryBytes b es → SectionBytes (length es ∷ b) es

-- what a bag holds: the entries of its sections principal, resource and env
pub record Contents : Type 0 where
  pub principal : List (Entry Datum)
  pub resource : List (Entry Datum)
  pub env : List (Entry Datum)

-- the three sections, in that order
pub data SectionsBytes : List ℕ → Contents → Type 0 where
  sections : {a b c : List ℕ} {p r n : List (Entry Datum)} → SectionBytes a p → SectionBytes b r → SectionBytes c n
      → SectionsBytes (a ++ (b ++ c)) (record { principal = p; resource = r; env = n })

-- a bag: the three sections, with nothing after them, 4,096 bytes at most
pub record BagBytes (s : List ℕ) (b : Contents) : Type 0 where
  pub most : length s ≤ most_bag_bytes
  pub all : SectionsBytes s b

-- bytes of a bag
abbrev pub ABag : List ℕ → Type 0
ABag s = (b : Contents) × BagBytes s b

-- bytes of no bag
abbrev pub NoBag : List ℕ → Type 0
NoBag s = (b : Contents) → BagBytes s b → ⊥
