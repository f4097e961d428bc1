-- What a `like` pattern matches, as document 01 has it with request 5: the whole string, `*` any run without `:`, maybe empty, `?` one character
-- but `:`, any other character itself. A character is its number (utf8/specs/Characters). Definitions only.
use Rattle.std.specs.Prelude.{◌≢◌, List, [], ◌∷◌, ℕ}
use Prim.Native.Char.{code}

-- any run without a colon
abbrev pub star : ℕ
star = code "*"

-- one character but a colon
abbrev pub question_mark : ℕ
question_mark = code "?"

-- what no wildcard stands for
abbrev pub colon : ℕ
colon = code ":"

-- a pattern's character that is no star, and a character that it stands for
pub data Admits : ℕ → ℕ → Type 0 where
  itself : {x : ℕ} → x ≢ star → x ≢ question_mark → Admits x x
  any : {c : ℕ} → c ≢ colon → Admits question_mark c

-- a pattern, and a string that it matches whole
pub data Matches : List ℕ → List ℕ → Type 0 where
  ends : Matches [] []
  one : {x c : ℕ} {p s : List ℕ} → Admits x c → Matches p s → Matches (x ∷ p) (c ∷ s)
  none : {p s : List ℕ} → Matches p s → Matches (star ∷ p) s
  more : {c : ℕ} {p s : List ℕ} → c ≢ colon → Matches (star ∷ p) s → Matches (star ∷ p) (c ∷ s)
