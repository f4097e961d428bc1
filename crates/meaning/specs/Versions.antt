-- What version 2 of the rules changes (document 02, request 7), said by what is met, and where a part decides what is met next by what it is
-- under version 1; not by version 2's own verdicts. Definitions only.
use Rattle.std.specs.Prelude.{◌≡◌, ◌↔◌, ◌≢◌, true, List}
use Rattle.std.proofs.Math.Option.{Option, some}
use Rattle.grammar.specs.Policies.{Root, Comparator, LiteralOf, OperandOf, Which, TreeOf, PolicyOf, compare, like, among, within, contains, not, brackets, both, either, choice}
use Rattle.grammar.specs.declared.Version.TheVariants.{First, Second}
use Rattle.placing.specs.Said.{Word}
use Rattle.views.specs.Meaning.{absent, View}
use Rattle.meaning.specs.Values.{attribute_value, operand_value, with_action}
use Rattle.meaning.specs.Conditions.{settles, verdict}
use Rattle.meaning.specs.Targets.{Request}
use Rattle.meaning.specs.Decisions.{under, satisfied}
use Rattle.meaning.specs.declared.Verdict.TheVariants.{Yes, No, Missing}

-- An absent attribute is met in a condition by an operator other than `has`. An operator meets all its operands. Parts are met from left to right: the right
-- part of `&&` only after a true left one, that of `||` only after a false one, and of `if` only the branch that is chosen.
pub data MeetsAbsent (view : View) : TreeOf Word → Type 0 where
  compared_left : {c : Comparator} {a b : OperandOf Word} → operand_value view a ≡ absent → MeetsAbsent view (compare c a b)
  compared_right : {c : Comparator} {a b : OperandOf Word} → operand_value view b ≡ absent → MeetsAbsent view (compare c a b)
  likened : {a : OperandOf Word} {s : Word} → operand_value view a ≡ absent → MeetsAbsent view (like a s)
  in_a_list : {a : OperandOf Word} {ls : List (LiteralOf Word)} → operand_value view a ≡ absent → MeetsAbsent view (among a ls)
  in_an_attribute : {a : OperandOf Word} {root : Root} {s : Word} → operand_value view a ≡ absent → MeetsAbsent view (within a root s)
  in_none : {a : OperandOf Word} {root : Root} {s : Word} → attribute_value view root s ≡ absent → MeetsAbsent view (within a root s)
  containing : {w : Which} {root : Root} {s : Word} {ls : List (LiteralOf Word)} → attribute_value view root s ≡ absent
      → MeetsAbsent view (contains w root s ls)
  in_not : {a : TreeOf Word} → MeetsAbsent view a → MeetsAbsent view (not a)
  in_brackets : {a : TreeOf Word} → MeetsAbsent view a → MeetsAbsent view (brackets a)
  left_of_both : {a b : TreeOf Word} → MeetsAbsent view a → MeetsAbsent view (both a b)
  right_of_both : {a b : TreeOf Word} → verdict true view a ≡ Yes → MeetsAbsent view b → MeetsAbsent view (both a b)
  left_of_either : {a b : TreeOf Word} → MeetsAbsent view a → MeetsAbsent view (either a b)
  right_of_either : {a b : TreeOf Word} → verdict true view a ≡ No → MeetsAbsent view b → MeetsAbsent view (either a b)
  asked_by_if : {c a b : TreeOf Word} → MeetsAbsent view c → MeetsAbsent view (choice c a b)
  in_then : {c a b : TreeOf Word} → verdict true view c ≡ Yes → MeetsAbsent view a → MeetsAbsent view (choice c a b)
  in_else : {c a b : TreeOf Word} → verdict true view c ≡ No → MeetsAbsent view b → MeetsAbsent view (choice c a b)

-- Under version 2 a condition is missing exactly where an absent attribute is met in it.
unfoldable pub MissingExactly : Type 0
MissingExactly = (view : View) (c : TreeOf Word) → (verdict (settles Second) view c ≡ Missing) ↔ MeetsAbsent view c

-- Version 2 says yes exactly where version 1 says yes and nothing that was met is absent; and no, likewise.
unfoldable pub SecondExactly : Type 0
SecondExactly = (view : View) (c : TreeOf Word)
    → ((verdict (settles Second) view c ≡ Yes) ↔ ((verdict (settles First) view c ≡ Yes) × (MeetsAbsent view c → ⊥)))
    × ((verdict (settles Second) view c ≡ No) ↔ ((verdict (settles First) view c ≡ No) × (MeetsAbsent view c → ⊥)))

-- Under version 1 no condition is missing.
unfoldable pub NeverMissing : Type 0
NeverMissing = (view : View) (c : TreeOf Word) → verdict (settles First) view c ≢ Missing

-- ---- policies

-- an absent attribute is met in the condition, where there is one
pub data MeetsIn (view : View) : Option (TreeOf Word) → Type 0 where
  in_the_condition : {c : TreeOf Word} → MeetsAbsent view c → MeetsIn view (some c)

-- A policy is satisfied under version 2 exactly when it is under version 1 and no absent attribute is met in its condition.
unfoldable pub SatisfiedSecond : Type 0
SatisfiedSecond = (view : View) (q : Request) (p : PolicyOf Word)
    → (satisfied (under Second view) q p ≡ true)
    ↔ ((satisfied (under First view) q p ≡ true) × (MeetsIn (with_action q.action view) p.condition → ⊥))
