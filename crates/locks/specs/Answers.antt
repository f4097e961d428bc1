-- What the call answers and leaves in the room, as functions of what it is lent (document 02, request 2). Definitions only.
use Rattle.std.specs.Prelude.{◌≡◌, Bool, true, cond, ◌&&◌, List, ◌++◌, ℕ, ◌+◌, ◌≤◌, leb, length, take, drop}
use Rattle.std.specs.Prelude.{Some, None, Result, Ok, Err}
use Rattle.std.specs.Prelude as prelude
use Rattle.std.proofs.Math.Option.{Option, none, some}
use Rattle.slices.specs.Ascii.{bytes}
use Rattle.placing.specs.Said.{Word}
use Rattle.permits.specs.Permits.{Test, quoted, permit_text}
use Rattle.locks.specs.Reading.{is_vocabulary, is_rule_string, tests_read, actions_read, are_some, tests_text, actions_text}

-- ---- bytes put over others

-- bytes over those from a place on
unfoldable pub put_over : List ℕ → ℕ → List ℕ → List ℕ
put_over room at b = take at room ++ (b ++ drop (at + length b) room)

-- they are put there, and the place behind them is answered
pub record PutOver (old : List ℕ) (at : ℕ) (b new : List ℕ) (next : ℕ) : Type 0 where
  pub is : new ≡ put_over old at b
  pub end : next ≡ at + length b

-- ---- the call

-- what a lock is read as: the strings of its action list, and its tests
pub record Read : Type 0 where
  pub actions : List Word
  pub tests : List Test

-- both, where both are there
abbrev pub together : Option (List Word) → Option (List Test) → Option Read
together none ts = none
together (some acts) none = none
together (some acts) (some ts) = some (record { actions = acts; tests = ts })

-- nothing where the vocabulary or the resource is not of its form
abbrev pub only_if : {A : Type 0} → Bool → Option A → Option A
only_if b o = cond b o none

-- what vocabulary, lock, action list and resource are read as
unfoldable pub read_of : List ℕ → List ℕ → List ℕ → List ℕ → Option Read
read_of v l a r = only_if (is_vocabulary v && is_rule_string r) (together (actions_read a) (tests_read v l))

-- the permit's bytes, by those of its actions, its resource and its tests
unfoldable pub framed : List ℕ → List ℕ → List ℕ → List ℕ
framed acts r ts =
    bytes "permit(principal, action in [" ++ (acts ++ (bytes "], resource == " ++ (quoted r ++ (bytes ") when { " ++ (ts ++ bytes " };")))))

-- the permit's length
unfoldable pub size_for : List ℕ → Option Read → prelude.Option ℕ
size_for r none = None
size_for r (some x) = Some (length (permit_text x.actions r x.tests))

-- what the call answers: the permit's length, or the refusal's number
abbrev pub LockAnswer : Type 0
LockAnswer = Result ℕ ℕ

-- the refusals: no lock, no room
abbrev pub no_lock_refusal : ℕ
no_lock_refusal = 28

abbrev pub no_room_refusal : ℕ
no_room_refusal = 29

-- a permit's length, if it fits
abbrev pub length_in : List ℕ → List ℕ → LockAnswer
length_in permit room = cond (leb (length permit) (length room)) (Ok (length permit)) (Err no_room_refusal)

-- a permit over the start of a room, if it fits
abbrev pub over_start : List ℕ → List ℕ → List ℕ
over_start permit room = cond (leb (length permit) (length room)) (permit ++ drop (length permit) room) room

-- what is answered, by what is read
unfoldable pub answer_for : List ℕ → List ℕ → Option Read → LockAnswer
answer_for r room none = Err no_lock_refusal
answer_for r room (some x) = length_in (permit_text x.actions r x.tests) room

-- the room afterwards, by what is read
unfoldable pub room_by : List ℕ → List ℕ → Option Read → List ℕ
room_by r room none = room
room_by r room (some x) = over_start (permit_text x.actions r x.tests) room

-- what is answered
abbrev pub answer_of : List ℕ → List ℕ → List ℕ → List ℕ → List ℕ → LockAnswer
answer_of v l a r room = answer_for r room (read_of v l a r)

-- the room afterwards
abbrev pub room_after : List ℕ → List ℕ → List ℕ → List ℕ → List ℕ → List ℕ
room_after v l a r room = room_by r room (read_of v l a r)

-- all that the contract says: one answer, one content of the room
pub record Locked (v l a r before : List ℕ) (answer : LockAnswer) (after : List ℕ) : Type 0 where
  pub answered : answer ≡ answer_of v l a r before
  pub bytes : after ≡ room_after v l a r before

-- a permit can be written: there are actions and tests, and room for it
pub record Writable (v l a r room : List ℕ) : Type 0 where
  pub actions : are_some (actions_read a) ≡ true
  pub tests : are_some (tests_read v l) ≡ true
  pub fits : length (framed (actions_text a) r (tests_text v l)) ≤ length room
