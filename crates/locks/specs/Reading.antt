-- The readers of a lock, its vocabulary and its action list: what stands at a place, and what all of it says. Definitions only;
-- specs/Forms.antt has the same as document 02 words it.
use Rattle.std.specs.Prelude.{◌≡◌, Bool, true, false, cond, ◌&&◌, ◌||◌, List, [], ◌∷◌, ◌++◌, map, ℕ, zero, suc, ◌+◌, ◌-◌, ◌≤◌, ltb, leb, eqb, length, get_or}
use Rattle.std.specs.Prelude.{Some, None}
use Rattle.std.specs.Prelude as prelude
use Rattle.std.proofs.Math.Option.{Option, none, some}
use Prim.Native.Char.{code}
use Rattle.slices.specs.Ascii.{bytes}
use Rattle.slices.specs.Parts.{part}
use Rattle.slices.specs.Same.{same}
use Rattle.utf8.specs.Reading.{utf8}
use Rattle.tokens.specs.Kinds as kinds
use Rattle.tokens.specs.Runs.{is_of, run_end}
use Rattle.tokens.specs.Tokens.{token_at}
use Rattle.tokens.specs.declared.classes.Sort.TheVariants.{Blanks, WordBytes, StringBytes}
use Rattle.tokens.specs.declared.reader.Token.{Token}
use Rattle.bags.specs.Paths.{every, is_word_bytes, is_path}
use Rattle.bags.specs.Reading.{byte}
use Rattle.grammar.specs.Policies.{Comparator, Comparator.More, Comparator.AtLeast, Comparator.Less, Comparator.AtMost}
use Rattle.placing.specs.Said.{Word}
use Rattle.permits.specs.Permits.{Test, equal, member, order, between, quoted, sign_of, test_text}
use Rattle.locks.specs.declared.Piece.{Piece}
use Rattle.locks.specs.declared.vocabulary.EntryPlaces.{EntryPlaces}
use Rattle.locks.specs.declared.tests.TestPlaces.{TestPlaces}

-- ---- the vocabulary

-- the sort bytes: equality, membership in a list, number
abbrev pub equality_byte : ℕ
equality_byte = 1

abbrev pub membership_byte : ℕ
membership_byte = 2

abbrev pub number_byte : ℕ
number_byte = 3

-- no entry
abbrev pub no_entry : EntryPlaces
no_entry = record { sort = 0; word = 0; stop = 0; path = 0; end = 0; next = 0 }

-- of the entry at a place: where its word ends, and where its path ends, which is the place of its sort
abbrev pub word_end : List ℕ → ℕ → ℕ
word_end v at = at + 1 + byte v at

abbrev pub path_end : List ℕ → ℕ → ℕ
path_end v at = word_end v at + 1 + byte v (word_end v at)

-- the entry at a place: a length byte, the word, a length byte, the path, a byte for the sort
unfoldable pub entry_places_at : List ℕ → ℕ → EntryPlaces
entry_places_at v at =
    cond (ltb (path_end v at) (length v))
    (record { sort = byte v (path_end v at); word = at + 1; stop = word_end v at; path = word_end v at + 1; end = path_end v at; next = path_end v at + 1 })
    no_entry

-- the word and the path of an entry
unfoldable pub word_of : List ℕ → EntryPlaces → Word
word_of v e = part v e.word (e.stop - e.word)

unfoldable pub path_of : List ℕ → EntryPlaces → Word
path_of v e = part v e.path (e.end - e.path)

-- this entry if it has the word, else a later one; none behind what is no entry
abbrev pub found_in : List ℕ → Word → EntryPlaces → EntryPlaces → EntryPlaces
found_in v w e later = cond (eqb e.sort 0) no_entry (cond (same (word_of v e) w) e later)

-- the first of n entries from a place on that has the word
unfoldable pub find_from : ℕ → List ℕ → ℕ → Word → EntryPlaces
find_from zero v at w = no_entry
find_from (suc n) v at w = found_in v w (entry_places_at v at) (find_from n v (entry_places_at v at).next w)

-- how many words a vocabulary has at most, how many actions a list, how many tests a lock
abbrev pub most : ℕ
most = 16

-- a word of document 01: 64 bytes at most
unfoldable pub is_short_word : Word → Bool
is_short_word w = leb (length w) 64 && is_word_bytes w

-- an entry of a vocabulary, whose word no later one has
unfoldable pub is_entry : List ℕ → EntryPlaces → Bool
is_entry v e =
    cond (eqb e.sort 0 || ltb number_byte e.sort) false
    (is_short_word (word_of v e) && is_path (path_of v e) && eqb (find_from most v e.next (word_of v e)).sort 0)

-- at most n entries from a place on, up to the end
unfoldable pub entries_from : ℕ → List ℕ → ℕ → Bool
entries_from zero v at = leb (length v) at
entries_from (suc n) v at = leb (length v) at || is_entry v (entry_places_at v at) && entries_from n v (entry_places_at v at).next

-- a vocabulary
abbrev pub is_vocabulary : List ℕ → Bool
is_vocabulary v = entries_from most v 0

-- what a caller may know of an entry's places: they lie in the vocabulary
pub record EntryLies (v : List ℕ) (e : EntryPlaces) : Type 0 where
  pub word_low : e.word ≤ e.stop
  pub word_high : e.stop ≤ length v
  pub path_low : e.path ≤ e.end
  pub path_high : e.end ≤ length v
  pub path_few : e.end ≤ e.path + 255
  pub next_high : e.next ≤ length v

-- which entry is answered, and that it lies in the vocabulary
pub record EntryIs (v : List ℕ) (e is_of : EntryPlaces) : Type 0 where
  pub answer : e ≡ is_of
  pub lies : EntryLies v e

-- ---- a test

-- no test
abbrev pub no_test : TestPlaces
no_test = record { sort = 0; path = 0; stop = 0; mark = 0; value = 0; end = 0; next = 0 }

-- a mark goes with a word's sort: `:` with equality and membership, `>`, `>=`, `<` and `<=` with numbers
unfoldable pub goes_with : ℕ → ℕ → Bool
goes_with sort mark =
    (eqb sort equality_byte || eqb sort membership_byte) && eqb mark kinds.colon_outside
    || eqb sort number_byte && (eqb mark kinds.more || eqb mark kinds.at_least || eqb mark kinds.less || eqb mark kinds.at_most)

-- a value from `start` up to `end`
abbrev pub value_to : List ℕ → ℕ → ℕ → prelude.Option Piece
value_to l start end = cond (ltb start end) (Some (record { start = start; end = end })) None

-- the longest run of word bytes from a place on
abbrev pub value_from : List ℕ → ℕ → prelude.Option Piece
value_from l start = value_to l start (run_end WordBytes l start)

-- the value behind the blanks at a place
unfoldable pub value_behind : List ℕ → ℕ → prelude.Option Piece
value_behind l at = value_from l (run_end Blanks l at)

-- a token as a number
abbrev pub number_from : Token → prelude.Option Piece
number_from t = cond (eqb t.kind kinds.number) (Some (record { start = t.start; end = t.end })) None

-- the number behind the blanks at a place
unfoldable pub number_behind : List ℕ → ℕ → prelude.Option Piece
number_behind l at = number_from (token_at l at)

-- what stands behind a mark: a value behind `:`, a number behind the others
unfoldable pub operand_at : List ℕ → ℕ → ℕ → prelude.Option Piece
operand_at l mark at = cond (eqb mark kinds.colon_outside) (value_behind l at) (number_behind l at)

-- a lock ends at a place, or a `&` stands there
unfoldable pub ends_test : List ℕ → ℕ → Bool
ends_test l at = leb (length l) at || eqb (get_or l at 0) (code "&")

-- what a part that is found in some bytes lies between
pub record LiesFrom (l : List ℕ) (at : ℕ) (p : Piece) : Type 0 where
  pub from : at ≤ p.start
  pub order : p.start ≤ p.end
  pub high : p.end ≤ length l

-- which part is answered, and that it lies in the bytes from a place on
pub record PieceIs (l : List ℕ) (at : ℕ) (p is_of : prelude.Option Piece) : Type 0 where
  pub answer : p ≡ is_of
  pub lies : (x : Piece) → p ≡ Some x → LiesFrom l at x

-- a test of a word's entry, the mark behind the word, the operand, and the place behind the blanks behind that
unfoldable pub test_of : List ℕ → EntryPlaces → ℕ → Piece → ℕ → TestPlaces
test_of l e mark o next =
    cond (leb (o.end - o.start) 127 && goes_with e.sort mark && ends_test l next)
    (record { sort = e.sort; path = e.path; stop = e.end; mark = mark; value = o.start; end = o.end; next = next })
    no_test

-- the same where there is an operand; no test where there is none
unfoldable pub test_with : List ℕ → EntryPlaces → ℕ → prelude.Option Piece → TestPlaces
test_with l e mark None = no_test
test_with l e mark (Some o) = test_of l e mark o (run_end Blanks l o.end)

-- of the test at a place: where its word starts and ends, the mark's token, its operand
abbrev pub word_from : List ℕ → ℕ → ℕ
word_from l at = run_end Blanks l at

abbrev pub word_up_to : List ℕ → ℕ → ℕ
word_up_to l at = run_end WordBytes l (word_from l at)

abbrev pub word_in : List ℕ → ℕ → Word
word_in l at = part l (word_from l at) (word_up_to l at - word_from l at)

abbrev pub mark_in : List ℕ → ℕ → Token
mark_in l at = token_at l (word_up_to l at)

abbrev pub operand_in : List ℕ → ℕ → prelude.Option Piece
operand_in l at = operand_at l (mark_in l at).kind (mark_in l at).end

-- the test at a place
unfoldable pub test_at : List ℕ → List ℕ → ℕ → TestPlaces
test_at v l at = test_with l (find_from most v 0 (word_in l at)) (mark_in l at).kind (operand_in l at)

-- what a caller may know of a test's places
pub record TestLies (v l : List ℕ) (t : TestPlaces) : Type 0 where
  pub path_low : t.path ≤ t.stop
  pub path_high : t.stop ≤ length v
  pub path_few : t.stop ≤ t.path + 255
  pub value_low : t.value ≤ t.end
  pub value_high : t.end ≤ length l
  pub value_few : t.end ≤ t.value + 127
  pub next_high : t.next ≤ length l

-- which test is answered, and that it lies in vocabulary and lock
pub record TestIs (v l : List ℕ) (t is_of : TestPlaces) : Type 0 where
  pub answer : t ≡ is_of
  pub lies : TestLies v l t

-- the comparator of a mark
unfoldable pub comparator_for : ℕ → Comparator
comparator_for mark = cond (eqb mark kinds.more) More (cond (eqb mark kinds.less) Less (cond (eqb mark kinds.at_least) AtLeast AtMost))

-- its mark, with a blank on either side
abbrev pub mark_text : ℕ → List ℕ
mark_text mark = bytes " " ++ (sign_of (comparator_for mark) ++ bytes " ")

-- a test by its sort and its mark, of a path and a value
unfoldable pub test_by : ℕ → ℕ → Word → Word → Test
test_by sort mark path value =
    cond (eqb sort equality_byte) (equal path value) (cond (eqb sort membership_byte) (member path value) (order path (comparator_for mark) value))

-- how many bytes a test has in a permit
unfoldable pub test_size : TestPlaces → ℕ
test_size t =
    (t.stop - t.path) + (t.end - t.value)
    + cond (eqb t.sort equality_byte || eqb t.sort membership_byte) 16 (cond (eqb t.mark kinds.more || eqb t.mark kinds.less) 13 14)

-- the test that stands at its places
unfoldable pub test_in : List ℕ → List ℕ → TestPlaces → Test
test_in v l t = test_by t.sort t.mark (part v t.path (t.stop - t.path)) (part l t.value (t.end - t.value))

-- ---- an action

-- a string of document 01, which is UTF-8
unfoldable pub is_rule_string : List ℕ → Bool
is_rule_string s = leb (length s) 127 && every (is_of StringBytes) s && utf8 s

-- the string behind the length byte at a place
unfoldable pub action_at : List ℕ → ℕ → prelude.Option Piece
action_at a at =
    cond (ltb at (length a) && leb (at + 1 + byte a at) (length a) && is_rule_string (part a (at + 1) (byte a at)))
    (Some (record { start = at + 1; end = at + 1 + byte a at }))
    None

-- which action is answered, and what a caller may know of its places
pub record ActionIs (a : List ℕ) (p is_of : prelude.Option Piece) : Type 0 where
  pub answer : p ≡ is_of
  pub order : (x : Piece) → p ≡ Some x → x.start ≤ x.end
  pub high : (x : Piece) → p ≡ Some x → x.end ≤ length a
  pub few : (x : Piece) → p ≡ Some x → x.end ≤ x.start + 127

-- ---- one thing after the other

-- what stands at a place: nothing of the form; the last thing; a thing, and the place where the next one stands
pub data ThingStep (A : Type 0) : Type 0 where
  wrong : ThingStep A
  last : A → ThingStep A
  on : A → ℕ → ThingStep A

-- a thing before others
abbrev pub in_front : {A : Type 0} → A → Option (List A) → Option (List A)
in_front x none = none
in_front x (some xs) = some (x ∷ xs)

-- what stands at a place, and the rest from the place where the next thing stands
abbrev pub stepped : {A : Type 0} → ThingStep A → (ℕ → Option (List A)) → Option (List A)
stepped wrong rest = none
stepped (last x) rest = some (x ∷ [])
stepped (on x at) rest = in_front x (rest at)

-- at most n things from a place on, up to the last
unfoldable pub things_from : {A : Type 0} → ℕ → (ℕ → ThingStep A) → ℕ → Option (List A)
things_from zero next at = none
things_from (suc n) next at = stepped (next at) (things_from n next)

-- a step by what is wrong with it, and whether it is the last
unfoldable pub step_by : {A : Type 0} → Bool → Bool → A → ℕ → ThingStep A
step_by bad end x at = cond bad wrong (cond end (last x) (on x at))

-- a test and what follows it: the next one stands behind the `&`
abbrev pub test_step_of : List ℕ → List ℕ → TestPlaces → ThingStep Test
test_step_of v l t = step_by (eqb t.sort 0) (eqb t.next (length l)) (test_in v l t) (t.next + 1)

unfoldable pub test_step : List ℕ → List ℕ → ℕ → ThingStep Test
test_step v l at = test_step_of v l (test_at v l at)

-- an action and what follows it
abbrev pub action_step_of : List ℕ → prelude.Option Piece → ThingStep Word
action_step_of a None = wrong
action_step_of a (Some p) = step_by false (eqb p.end (length a)) (part a p.start (p.end - p.start)) p.end

unfoldable pub action_step : List ℕ → ℕ → ThingStep Word
action_step a at = action_step_of a (action_at a at)

-- the tests of a lock
abbrev pub tests_read : List ℕ → List ℕ → Option (List Test)
tests_read v l = things_from most (test_step v l) 0

-- the strings of an action list
abbrev pub actions_read : List ℕ → Option (List Word)
actions_read a = things_from most (action_step a) 0

-- ---- what they are in a permit

-- things as bytes, with others between them; nothing where there are none
unfoldable pub text_of : {A : Type 0} → List ℕ → (A → List ℕ) → Option (List A) → List ℕ
text_of sep text none = []
text_of sep text (some xs) = between sep (map text xs)

-- so many bytes and how many these are
unfoldable pub size_with : {A : Type 0} → ℕ → List ℕ → (A → List ℕ) → Option (List A) → prelude.Option ℕ
size_with k sep text none = None
size_with k sep text (some xs) = Some (k + length (between sep (map text xs)))

-- which size is answered, and that it is no more than this
pub record SizeIs (r is_of : prelude.Option ℕ) (few : ℕ) : Type 0 where
  pub answer : r ≡ is_of
  pub small : (n : ℕ) → r ≡ Some n → n ≤ few

-- whether there are some
abbrev pub are_some : {A : Type 0} → Option A → Bool
are_some none = false
are_some (some x) = true

-- what stands between two actions, and between two tests
abbrev pub between_actions : List ℕ
between_actions = bytes ", "

abbrev pub between_tests : List ℕ
between_tests = bytes " && "

-- the text of the tests, and of the actions
abbrev pub tests_text : List ℕ → List ℕ → List ℕ
tests_text v l = text_of between_tests test_text (tests_read v l)

abbrev pub actions_text : List ℕ → List ℕ
actions_text a = text_of between_actions quoted (actions_read a)
