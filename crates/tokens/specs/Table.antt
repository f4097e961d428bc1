-- The table of all bytes: the class of each, and what else the token reader asks of a byte. Definitions only.
use Rattle.std.specs.Prelude.{ℕ, zero, suc, ◌+◌, cond, List, [], ◌∷◌, get_or}
use Rattle.tokens.specs.Bytes.{class_of}
use Rattle.tokens.specs.Runs.{word_byte, string_byte, lone_mark}

-- a rule's values at `first`, `first + 1`, .., as many as `count`
abbrev pub values_from : {A : Type 0} → (ℕ → A) → ℕ → ℕ → List A
values_from rule first zero = []
values_from rule first (suc count) = rule first ∷ values_from rule (suc first) count

-- the number that stands for a class in an entry: never, text only, blank, mark, digit, letter
abbrev pub class_bit : ℕ → ℕ
class_bit class = get_or (0 ∷ 1 ∷ 2 ∷ 4 ∷ 8 ∷ 16 ∷ []) class 0

-- a byte's entry: its class, 32 where a word may go on with it, 64 where it may stand in a string, 128 where it is a mark that no second byte makes longer
unfoldable pub entry_of : ℕ → ℕ
entry_of b = class_bit (class_of b) + cond (word_byte b) 32 0 + cond (string_byte b) 64 0 + cond (lone_mark b) 128 0

-- the entries of all 256 bytes
unfoldable pub class_table : List ℕ
class_table = values_from entry_of 0 256
