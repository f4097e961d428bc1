-- Questions as document 01 words them: which bytes say which candidates, columns and questions. That the reader `is_question` takes these bytes and no others,
-- and that bytes say one question only, is proved in proofs/Exactly.antt. Definitions only.
use Rattle.std.specs.Prelude.{ℕ, ◌≤◌, List, [], ◌∷◌, ◌++◌, map, ◌≡◌, true, length}
use Rattle.bags.specs.Paths.{is_path}
use Rattle.bags.specs.Data.{Datum, absent}
use Rattle.bags.specs.Forms.{InTurn, ValueBytes, Contents, SectionsBytes}
use Rattle.questions.specs.Sizes.{most_question_bytes, most_columns, most_candidates}

-- x is none of them
pub data NoneOf {A : Type 0} (x : A) : List A → Type 0 where
  none : NoneOf x []
  other : {y : A} {ys : List A} → (x ≡ y → ⊥) → NoneOf x ys → NoneOf x (y ∷ ys)

-- no two of them are the same
pub data Distinct {A : Type 0} : List A → Type 0 where
  empty : Distinct []
  new : {x : A} {xs : List A} → NoneOf x xs → Distinct xs → Distinct (x ∷ xs)

-- a candidate: what it is, and its bytes
pub record Choice : Type 0 where
  pub is : Datum
  pub bytes : List ℕ

-- a candidate's bytes: a kind byte and a value; kind 0 with no value is absent
pub data ChoiceBytes : List ℕ → Choice → Type 0 where
  nothing : ChoiceBytes (0 ∷ []) (record { is = absent; bytes = 0 ∷ [] })
  something : {b : List ℕ} {v : Datum} → ValueBytes b v → ChoiceBytes b (record { is = v; bytes = b })

-- the attribute that a column names: by root byte and path
pub record Named : Type 0 where
  pub root : ℕ
  pub path : List ℕ

-- a column: what it names, and its candidates
pub record Column : Type 0 where
  pub names : Named
  pub choices : List Choice

-- a column's bytes: a root byte (1 principal, 2 resource, 3 env), path length, path, a count byte of 1 to 8, and candidates, no two with the same bytes
pub data ColumnBytes : List ℕ → Column → Type 0 where
  column : {root : ℕ} {p b : List ℕ} {cs : List Choice} → 1 ≤ root → root ≤ 3 → is_path p ≡ true → 1 ≤ length cs → length cs ≤ most_candidates
      → InTurn ChoiceBytes b cs → Distinct (map (λ c. c.bytes) cs)
      → ColumnBytes (root ∷ length p ∷ (p ++ (length cs ∷ b))) (record { names = record { root = root; path = p }; choices = cs })

-- a count byte of 0 to 6, and that many columns, no two of which name the same root and path
pub data ColumnsBytes : List ℕ → List Column → Type 0 where
  columns : {b : List ℕ} {cs : List Column} → length cs ≤ most_columns → InTurn ColumnBytes b cs
      → Distinct (map (λ c. c.names) cs) → ColumnsBytes (length cs ∷ b) cs

-- the base, then the columns
pub data Parts : List ℕ → Contents → List Column → Type 0 where
  parts : {a b : List ℕ} {base : Contents} {cs : List Column} → SectionsBytes a base → ColumnsBytes b cs → Parts (a ++ b) base cs

-- a question: the three sections and the columns, with nothing after them, 4,096 bytes at most
pub record QuestionBytes (s : List ℕ) (base : Contents) (cs : List Column) : Type 0 where
  pub most : length s ≤ most_question_bytes
  pub all : Parts s base cs

-- bytes of a question
abbrev pub AQuestion : List ℕ → Type 0
AQuestion s = (base : Contents) × ((cs : List Column) × QuestionBytes s base cs)

-- bytes of no question
abbrev pub NoQuestion : List ℕ → Type 0
NoQuestion s = (base : Contents) (cs : List Column) → QuestionBytes s base cs → ⊥
