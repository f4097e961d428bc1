-- When a condition is true (document 01, 'Deciding'; document 02, request 7), rule by rule. Definitions only.
use Rattle.std.specs.Prelude.{Bool, true, false, cond, ◌&&◌, ◌||◌, List, [], ◌∷◌, ℕ}
use Rattle.slices.specs.Same.{same}
use Rattle.patterns.specs.Likes.{likes_text}
use Rattle.grammar.specs.Policies.{Comparator, Comparator.Equal, LiteralOf, Which, Which.All, Which.Any, TreeOf, constant, compare, like, among, within, contains, has, not, brackets, both, either, choice}
use Rattle.grammar.specs.declared.Version.{Version}
use Rattle.grammar.specs.declared.Version.TheVariants.{First, Second}
use Rattle.placing.specs.Said.{Word}
use Rattle.views.specs.Meaning.{Datum, text, number, flag, texts, absent, present, View}
use Rattle.meaning.specs.Values.{literal_value, attribute_value, operand_value, if_text, if_texts, compares}
use Rattle.meaning.specs.declared.Verdict.{Verdict}
use Rattle.meaning.specs.declared.Verdict.TheVariants.{Yes, No, Missing}

-- ---- verdicts

-- yes where a test passes, else no
unfoldable pub told : Bool → Verdict
told true = Yes
told false = No

-- what an operator that met this value says by its test; missing where the value is absent
unfoldable pub given : Datum → Bool → Verdict
given (text x) b = told b
given (number x) b = told b
given (flag x) b = told b
given (texts x) b = told b
given absent b = Missing

-- the same of an operator that met two values
unfoldable pub given_both : Datum → Datum → Bool → Verdict
given_both d e b = cond (present d) (given e b) Missing

-- an absent attribute makes its comparison, `like`, `in` or contains false
unfoldable pub settled : Verdict → Verdict
settled Yes = Yes
settled No = No
settled Missing = No

-- so it is under version 1; under version 2 it makes the policy unsatisfied
unfoldable pub settles : Version → Bool
settles First = true
settles Second = false

-- what an operator's verdict counts as: false for missing where that settles it, else missing it stays
unfoldable pub settled_if : Bool → Verdict → Verdict
settled_if true v = settled v
settled_if false v = v

-- `!`
unfoldable pub negated : Verdict → Verdict
negated Yes = No
negated No = Yes
negated Missing = Missing

-- `&&`, its parts met from left to right: false stops it
unfoldable pub both_of : Verdict → Verdict → Verdict
both_of Yes v = v
both_of No v = No
both_of Missing v = Missing

-- `||`, likewise: true stops it
unfoldable pub either_of : Verdict → Verdict → Verdict
either_of Yes v = Yes
either_of No v = v
either_of Missing v = Missing

-- `if`: only the part that it chooses is met
unfoldable pub choice_of : Verdict → Verdict → Verdict → Verdict
choice_of Yes a b = a
choice_of No a b = b
choice_of Missing a b = Missing

-- ---- lists

-- one of a list passes the test
unfoldable pub some : {A : Type 0} → (A → Bool) → List A → Bool
some test [] = false
some test (x ∷ xs) = test x || some test xs

-- each of a list passes the test
unfoldable pub all : {A : Type 0} → (A → Bool) → List A → Bool
all test [] = true
all test (x ∷ xs) = test x && all test xs

-- containsAll asks for each, containsAny for one
abbrev pub asked : {A : Type 0} → Which → (A → Bool) → List A → Bool
asked All test xs = all test xs
asked Any test xs = some test xs

-- a string among the strings of a list
abbrev pub among_strings : List (List ℕ) → List ℕ → Bool
among_strings l x = some (same x) l

-- ---- operators, by the values that they met

-- two operands with a comparator
abbrev pub compared : Comparator → Datum → Datum → Verdict
compared c d e = given_both d e (compares c d e)

-- `like` matches the whole string, character by character; a string that is no UTF-8 matches no pattern
abbrev pub likened : Datum → List ℕ → Verdict
likened d pattern = given d (if_text d (likes_text pattern))

-- `in` a list: equal to some literal of the same kind
abbrev pub in_list : Datum → List (LiteralOf Word) → Verdict
in_list d ls = given d (some (λ l. compares Equal d (literal_value l)) ls)

-- `in` an attribute: a string among a list of strings
abbrev pub in_attribute : Datum → Datum → Verdict
in_attribute d e = given_both d e (if_text d λ x. if_texts e λ l. among_strings l x)

-- containsAll: each literal is a string of the list; containsAny: one is
abbrev pub contained : Which → Datum → List (LiteralOf Word) → Verdict
contained w d ls = given d (if_texts d λ l. asked w (λ x. if_text (literal_value x) (among_strings l)) ls)

-- `has`: there is such an entry
abbrev pub had : Datum → Verdict
had d = told (present d)

-- ---- conditions

-- what a condition is found to be, where the attributes are those of the view; `settles` says whether an absent attribute makes an operator false
unfoldable pub verdict : Bool → View → TreeOf Word → Verdict
verdict settles view (constant b) = told b
verdict settles view (compare c a b) = settled_if settles (compared c (operand_value view a) (operand_value view b))
verdict settles view (like a s) = settled_if settles (likened (operand_value view a) s)
verdict settles view (among a ls) = settled_if settles (in_list (operand_value view a) ls)
verdict settles view (within a root s) = settled_if settles (in_attribute (operand_value view a) (attribute_value view root s))
verdict settles view (contains w root s ls) = settled_if settles (contained w (attribute_value view root s) ls)
verdict settles view (has root s) = had (attribute_value view root s)
verdict settles view (not a) = negated (verdict settles view a)
verdict settles view (brackets a) = verdict settles view a
verdict settles view (both a b) = both_of (verdict settles view a) (verdict settles view b)
verdict settles view (either a b) = either_of (verdict settles view a) (verdict settles view b)
verdict settles view (choice c a b) = choice_of (verdict settles view c) (verdict settles view a) (verdict settles view b)

-- the condition is true
abbrev pub is_yes : Verdict → Bool
is_yes Yes = true
is_yes No = false
is_yes Missing = false
