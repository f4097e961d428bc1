-- What operands are: attributes of a view, and literals (document 01, 'Deciding'). Definitions only.
use Rattle.std.specs.Prelude.{Bool, true, false, cond, not, List, ℕ, eqb, Float}
use Rattle.slices.specs.Ascii.{bytes}
use Rattle.slices.specs.Same.{same}
use Rattle.numbers.specs.Literals.{number_in}
use Rattle.numbers.specs.Comparing.{holds}
use Rattle.numbers.specs.declared.comparing.Comparator.TheVariants as numbers
use Rattle.grammar.specs.Policies.{Root, root_byte, Root.Principal, Root.Resource, Root.Env, Root.Action, Comparator, Comparator.Equal, Comparator.NotEqual, Comparator.More, Comparator.AtLeast, Comparator.Less, Comparator.AtMost, LiteralOf, text as text_literal, number as number_literal, truth, OperandOf, attribute, literal}
use Rattle.placing.specs.Said.{Word}
use Rattle.views.specs.Meaning.{Datum, text, number, flag, texts, absent, View}

-- the action root holds only `name`, the request's action
unfoldable pub with_action : List ℕ → View → View
with_action action view root path = cond (eqb root (root_byte Action)) (cond (same path (bytes "name")) (text action) absent) (view root path)

-- a literal: the bytes between a string's quotes, the number that its digits spell, or a flag
unfoldable pub literal_value : LiteralOf Word → Datum
literal_value (text_literal w) = text w
literal_value (number_literal w) = number (number_in w)
literal_value (truth b) = flag b

-- an attribute: what the view has for its root and its path
unfoldable pub attribute_value : View → Root → Word → Datum
attribute_value view root w = view (root_byte root) w

-- an operand: an attribute or a literal
unfoldable pub operand_value : View → OperandOf Word → Datum
operand_value view (attribute root w) = attribute_value view root w
operand_value view (literal l) = literal_value l

-- ---- what holds of a value of one kind, and is false of every other

abbrev pub if_text : Datum → (List ℕ → Bool) → Bool
if_text (text x) f = f x
if_text (number x) f = false
if_text (flag x) f = false
if_text (texts x) f = false
if_text absent f = false

abbrev pub if_number : Datum → (Float → Bool) → Bool
if_number (text x) f = false
if_number (number x) f = f x
if_number (flag x) f = false
if_number (texts x) f = false
if_number absent f = false

abbrev pub if_flag : Datum → (Bool → Bool) → Bool
if_flag (text x) f = false
if_flag (number x) f = false
if_flag (flag x) f = f x
if_flag (texts x) f = false
if_flag absent f = false

abbrev pub if_texts : Datum → (List (List ℕ) → Bool) → Bool
if_texts (text x) f = false
if_texts (number x) f = false
if_texts (flag x) f = false
if_texts (texts x) f = f x
if_texts absent f = false

-- ---- comparing

-- `==` and `!=` for strings and flags, by whether they are the same; the other comparators are only for numbers
abbrev pub equality : Comparator → Bool → Bool
equality Equal same = same
equality NotEqual same = not same
equality More same = false
equality AtLeast same = false
equality Less same = false
equality AtMost same = false

-- whether two flags are the same
abbrev pub same_flag : Bool → Bool → Bool
same_flag true b = b
same_flag false b = not b

-- numbers, as IEEE 754 compares them: -0 equals 0
abbrev pub ordered : Comparator → Float → Float → Bool
ordered Equal x y = holds numbers.Same x y
ordered NotEqual x y = holds numbers.Other x y
ordered More x y = holds numbers.More x y
ordered AtLeast x y = holds numbers.AtLeast x y
ordered Less x y = holds numbers.Less x y
ordered AtMost x y = holds numbers.AtMost x y

-- two strings, two numbers or two flags; a kind mismatch and a list on either side make it false
unfoldable pub compares : Comparator → Datum → Datum → Bool
compares c (text a) d = if_text d λ b. equality c (same a b)
compares c (number x) d = if_number d λ y. ordered c x y
compares c (flag a) d = if_flag d λ b. equality c (same_flag a b)
compares c (texts l) d = false
compares c absent d = false
