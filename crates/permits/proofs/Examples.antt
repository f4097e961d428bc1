-- The worked permit of docs/LOCKS.md: its text, and what is read of that, computed from the definitions. Assumes nothing.
use mathlib.Core.Path.{◌≡◌, refl}
use mathlib.Core.List.{List, [], ◌∷◌}
use Prim.Native.Nat.{ℕ}
use Rattle.slices.specs.Ascii.{bytes}
use Rattle.reading.specs.Lexemes.{tokens_of}
use Rattle.reading.specs.Reader.{Answer, took, refuse}
use Rattle.grammar.specs.Policies.{Comparator.More, Comparator.AtLeast, Comparator.Less, Comparator.AtMost, PolicyOf, Policy}
use Rattle.grammar.specs.Parser.{read_text}
use Rattle.placing.specs.Said.{Word, words_of}
use Rattle.meaning.proofs.Opened.{meaning_opened}
use Rattle.spelling.specs.Printed.{closely, printed_by}
use Rattle.spelling.proofs.Plain.{printed_opened}
use Rattle.permits.specs.Permits.{Test, equal, member, order, sign_of, between, test_text, permit_text, test_tree, joined_to, permit_policy}

-- two actions on a shaft, for the own firm's people who are taught and of grade 3 at least
abbrev pub actions : List Word
actions = bytes "teach" ∷ bytes "read" ∷ []

abbrev pub own : Test
own = equal (bytes "firm") (bytes "own")

abbrev pub others : List Test
others = member (bytes "flags") (bytes "taught") ∷ order (bytes "grade") AtLeast (bytes "3") ∷ []

abbrev pub permit : List ℕ
permit =
    bytes "permit(principal, action in [\"teach\", \"read\"], resource == \"shaft:A\") when { principal.firm == \"own\" && \"taught\" in principal.flags && principal.grade >= 3 };"

-- what the policies that were read say
abbrev words_in : List ℕ → Answer (List Policy) → List (PolicyOf Word)
words_in t (took ps r) = words_of t ps
words_in t (refuse n r) = []

pub worked_text : permit_text actions (bytes "shaft:A") (own ∷ others) ≡ permit
unfolding permit_text between test_text sign_of
worked_text = refl

pub worked_words : words_in permit (read_text (tokens_of permit)) ≡ permit_policy actions (bytes "shaft:A") own others ∷ []
unfolding meaning_opened permit_policy joined_to test_tree
worked_words = refl

-- it is what is printed of its policy
pub worked_printed : printed_by closely (permit_policy actions (bytes "shaft:A") own others ∷ []) ≡ permit
unfolding printed_opened permit_policy joined_to test_tree
worked_printed = refl

-- one action, one test; an empty resource, a name with dots, every order
pub small_text :
    permit_text (bytes "" ∷ []) (bytes "") (order (bytes "lift.load") Less (bytes "-2.50") ∷ [])
    ≡ bytes "permit(principal, action in [\"\"], resource == \"\") when { principal.lift.load < -2.50 };"
unfolding permit_text between test_text sign_of
small_text = refl

pub orders :
    (test_text (order (bytes "n") More (bytes "1")) ≡ bytes "principal.n > 1")
    × (test_text (order (bytes "n") AtLeast (bytes "1")) ≡ bytes "principal.n >= 1")
    × (test_text (order (bytes "n") Less (bytes "1")) ≡ bytes "principal.n < 1")
    × (test_text (order (bytes "n") AtMost (bytes "1")) ≡ bytes "principal.n <= 1")
unfolding test_text sign_of
orders = (refl, refl, refl, refl)
