-- The permit that a lock is written as: its one spelling (docs/LOCKS.md) and the policy that this says (document 02, request 2). Definitions only.
use Rattle.std.specs.Prelude.{true, List, [], ◌∷◌, ◌++◌, map, ℕ}
use Rattle.std.proofs.Math.Option.{some}
use Rattle.slices.specs.Ascii.{bytes}
use Rattle.grammar.specs.Policies.{Root.Principal, Comparator, Comparator.Equal}
use Rattle.grammar.specs.Policies.{text, number, attribute, literal, TreeOf, compare, within, both, any, pinned, one_of, PolicyOf}
use Rattle.placing.specs.Said.{Word}
-- a string with its quotes, and a comparator's sign
pub use Rattle.spelling.specs.Marks.{quoted}
unfoldable pub use Rattle.spelling.specs.Marks.{sign_of}

-- A test of the principal's attribute with this path: it is that string, a list of strings that has that one, or a number that compares so with that one.
pub data Test : Type 0 where
  equal : Word → Word → Test
  member : Word → Word → Test
  order : Word → Comparator → Word → Test

-- ---- the spelling

-- some byte strings, with another between each two
unfoldable pub between : List ℕ → List (List ℕ) → List ℕ
between sep [] = []
between sep (x ∷ []) = x
between sep (x ∷ y ∷ xs) = x ++ (sep ++ between sep (y ∷ xs))

-- the attribute of the principal with this path
abbrev pub of_principal : Word → List ℕ
of_principal path = bytes "principal." ++ path

-- a test as a condition
unfoldable pub test_text : Test → List ℕ
test_text (equal path value) = of_principal path ++ (bytes " == " ++ quoted value)
test_text (member path value) = quoted value ++ (bytes " in " ++ of_principal path)
test_text (order path c n) = of_principal path ++ (bytes " " ++ (sign_of c ++ (bytes " " ++ n)))

-- the permit, for these actions on this resource where all these tests hold
unfoldable pub permit_text : List Word → Word → List Test → List ℕ
permit_text actions resource tests =
    bytes "permit(principal, action in [" ++ (between (bytes ", ") (map quoted actions)
    ++ (bytes "], resource == " ++ (quoted resource
    ++ (bytes ") when { " ++ (between (bytes " && ") (map test_text tests) ++ bytes " };")))))

-- ---- the policy

-- a test as a condition
unfoldable pub test_tree : Test → TreeOf Word
test_tree (equal path value) = compare Equal (attribute Principal path) (literal (text value))
test_tree (member path value) = within (literal (text value)) Principal path
test_tree (order path c n) = compare c (attribute Principal path) (literal (number n))

-- conditions joined by `&&`, behind one that is read already
unfoldable pub joined_to : TreeOf Word → List Test → TreeOf Word
joined_to c [] = c
joined_to c (t ∷ ts) = joined_to (both c (test_tree t)) ts

-- a permit for any principal, these actions and this resource alone, where the first test and all others hold
unfoldable pub permit_policy : List Word → Word → Test → List Test → PolicyOf Word
permit_policy actions resource t ts =
    record { permits = true; principal = any; action = one_of (map text actions); resource = pinned resource; condition = some (joined_to (test_tree t) ts) }
