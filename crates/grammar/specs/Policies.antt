-- What a rule text says: its policies, over what a word (a path, a string or a number) is to them: its place in the text, as they are read, or its bytes.
-- Definitions only.
use Rattle.std.specs.Prelude.{Bool, List, ℕ}
use Rattle.std.proofs.Math.Option.{Option}

-- where something lies, from its first byte up to the byte after its last: a path from its first name to its last, a string with its quotes
pub record Span : Type 0 where
  pub start : ℕ
  pub end : ℕ

-- the span from one place up to another
abbrev pub span : ℕ → ℕ → Span
span start end = record { start = start; end = end }

-- what an attribute is of
pub data Root : Type 0 where
  Principal Resource Env Action : Root

-- the root bytes of document 01, and 4 for action, which is no root of a bag
abbrev pub root_byte : Root → ℕ
root_byte Principal = 1
root_byte Resource = 2
root_byte Env = 3
root_byte Action = 4

-- `==`, `!=`, `>`, `>=`, `<`, `<=`
pub data Comparator : Type 0 where
  Equal NotEqual More AtLeast Less AtMost : Comparator

-- a string or a number, by its word, or true or false
pub data LiteralOf (W : Type 0) : Type 0 where
  text : W → LiteralOf W
  number : W → LiteralOf W
  truth : Bool → LiteralOf W

-- an attribute, by its root and its path, or a literal
pub data OperandOf (W : Type 0) : Type 0 where
  attribute : Root → W → OperandOf W
  literal : LiteralOf W → OperandOf W

-- containsAll, containsAny
pub data Which : Type 0 where
  All Any : Which

-- a condition; brackets are kept
pub data TreeOf (W : Type 0) : Type 0 where
  -- bare true or false
  constant : Bool → TreeOf W
  -- two operands with a comparator
  compare : Comparator → OperandOf W → OperandOf W → TreeOf W
  -- an operand `like` a string
  like : OperandOf W → W → TreeOf W
  -- an operand `in` a list, an operand `in` an attribute
  among : OperandOf W → List (LiteralOf W) → TreeOf W
  within : OperandOf W → Root → W → TreeOf W
  -- containsAll or containsAny of an attribute, with a list
  contains : Which → Root → W → List (LiteralOf W) → TreeOf W
  -- a root, `has` and a path
  has : Root → W → TreeOf W
  -- `!`, brackets
  not : TreeOf W → TreeOf W
  brackets : TreeOf W → TreeOf W
  -- `&&`, `||`
  both either : TreeOf W → TreeOf W → TreeOf W
  -- `if`, `then`, `else`
  choice : TreeOf W → TreeOf W → TreeOf W → TreeOf W

-- what the principal part or the resource part asks: nothing, a type, by its number among that part's types from 1 on, or a string
pub data PartOf (W : Type 0) : Type 0 where
  any : PartOf W
  typed : ℕ → PartOf W
  pinned : W → PartOf W

-- what the action part asks: nothing, or one of these strings
pub data ActionsOf (W : Type 0) : Type 0 where
  every : ActionsOf W
  one_of : List (LiteralOf W) → ActionsOf W

-- a policy: permit or forbid, what its three parts ask, and its condition, if it has one
pub record PolicyOf (W : Type 0) : Type 0 where
  pub permits : Bool
  pub principal : PartOf W
  pub action : ActionsOf W
  pub resource : PartOf W
  pub condition : Option (TreeOf W)

-- ---- as a text is read: a word is its place (by its bytes: placing/specs/Said.antt)

abbrev pub Literal : Type 0
Literal = LiteralOf Span

abbrev pub Operand : Type 0
Operand = OperandOf Span

abbrev pub Tree : Type 0
Tree = TreeOf Span

abbrev pub Part : Type 0
Part = PartOf Span

abbrev pub Actions : Type 0
Actions = ActionsOf Span

abbrev pub Policy : Type 0
Policy = PolicyOf Span
