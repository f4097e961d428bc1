-- What a lock means, test by test, over the attributes of a bag or a row; and what its permit is made of (document 02, request 2). Definitions only.
use Rattle.std.specs.Prelude.{◌≡◌, true, ℕ, ◌≤◌, Float, length}
use mathlib.Core.List.{List, Memᴰ}
use Rattle.utf8.specs.Characters.{Utf8}
use Rattle.tokens.specs.Forms.{All, Number, digits}
use Rattle.tokens.specs.declared.classes.Sort.TheVariants.{StringBytes, WordBytes}
use Rattle.numbers.specs.Literals.{number_in}
use Rattle.bags.specs.Paths.{is_path}
use Rattle.views.specs.Meaning.{View}
use Rattle.views.specs.Meaning as views
use Rattle.grammar.specs.Policies.{Comparator, Comparator.More, Comparator.AtLeast, Comparator.Less, Comparator.AtMost}
use Rattle.placing.specs.Said.{Word}
use Rattle.meaning.specs.Targets.{Request}
use Rattle.meaning.specs.Values.{ordered}
use Rattle.permits.specs.Permits.{Test, equal, member, order}

-- the root byte of the principal
abbrev pub principal : ℕ
principal = 1

-- a test holds: the attribute is there and is that string, a list of strings that has that one, or a number that compares so with that one
pub data TestHolds (view : View) : Test → Type 0 where
  is_that : {path value : Word} → view principal path ≡ views.text value → TestHolds view (equal path value)
  has_that : {path value : Word} {l : List (List ℕ)} → view principal path ≡ views.texts l → Memᴰ value l → TestHolds view (member path value)
  compares_so : {path n : Word} {c : Comparator} {x : Float} → view principal path ≡ views.number x → ordered c x (number_in n) ≡ true
      → TestHolds view (order path c n)

-- a lock holds: its request is for one of the actions on that resource, and every test holds
pub record LockHolds (view : View) (q : Request) (actions : List Word) (resource : Word) (tests : List Test) : Type 0 where
  pub action_among : Memᴰ q.action actions
  pub resource_is : q.resource ≡ resource
  pub every_test : (t : Test) → Memᴰ t tests → TestHolds view t

-- ---- what a permit is made of

-- `>`, `>=`, `<`, `<=`
pub data Orders : Comparator → Type 0 where
  more : Orders More
  at_least : Orders AtLeast
  less : Orders Less
  at_most : Orders AtMost

-- letters, digits, `_` and `-`, at least one
pub record AValue (v : Word) : Type 0 where
  pub some : 1 ≤ length v
  pub all : All WordBytes v

-- a string of document 01, which is UTF-8 (document 02, request 5)
pub record AString (s : Word) : Type 0 where
  pub all : All StringBytes s
  pub size : length s ≤ 127
  pub text : Utf8 s

-- a test of a path as in document 01, with a value or a number of the form that a lock gives it, of any size
pub data Formed : Test → Type 0 where
  equality : {path value : Word} → is_path path ≡ true → AValue value → Formed (equal path value)
  membership : {path value : Word} → is_path path ≡ true → AValue value → Formed (member path value)
  comparison : {path n : Word} {c : Comparator} → is_path path ≡ true → Orders c → Number n → Formed (order path c n)

-- its string has at most 127 bytes, its number at most 15 digits
pub data Fits : Test → Type 0 where
  equal_fits : {path value : Word} → length value ≤ 127 → Fits (equal path value)
  member_fits : {path value : Word} → length value ≤ 127 → Fits (member path value)
  order_fits : {path n : Word} {c : Comparator} → digits n ≤ 15 → Fits (order path c n)

-- all that a permit is made of but for the sizes of values and numbers: 1 to 16 actions and a resource that are strings of document 01, and 1 to 16 tests
pub record Made (actions : List Word) (resource : Word) (tests : List Test) : Type 0 where
  pub some_actions : 1 ≤ length actions
  pub few_actions : length actions ≤ 16
  pub actions_are : (a : Word) → Memᴰ a actions → AString a
  pub resource_is : AString resource
  pub some_tests : 1 ≤ length tests
  pub few_tests : length tests ≤ 16
  pub tests_are : (t : Test) → Memᴰ t tests → Formed t
