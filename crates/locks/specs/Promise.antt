-- When the call gets which refusal, and that bytes say one lock only. Definitions only.
use Rattle.std.specs.Prelude.{◌≡◌, ◌↔◌, Ok, Err, List, ◌++◌, ℕ, ◌≤◌, ◌<◌, length, drop}
use Rattle.placing.specs.Said.{Word}
use Rattle.permits.specs.Permits.{Test, permit_text}
use Rattle.locks.specs.Forms.{Lockable, NoLock}
use Rattle.locks.specs.Answers.{LockAnswer, answer_of, room_after, no_lock_refusal, no_room_refusal}

-- what the call is lent: vocabulary, lock, action list, resource, and the room for the permit
pub record LockCall : Type 0 where
  pub vocabulary : List ℕ
  pub lock : List ℕ
  pub actions : List ℕ
  pub resource : List ℕ
  pub room : List ℕ

-- they say these actions and these tests, in a permit that would compile
abbrev pub CallSays : LockCall → List Word → List Test → Type 0
CallSays c = Lockable c.vocabulary c.lock c.actions c.resource

-- the permit for these actions and tests
abbrev pub permit_for : LockCall → List Word → List Test → List ℕ
permit_for c actions tests = permit_text actions c.resource tests

-- When a call gets which answer: 28 where it says no lock; 29 where it says one whose permit is longer than its room; else the permit's length.
pub data Answers (c : LockCall) : LockAnswer → Type 0 where
  no_lock : NoLock c.vocabulary c.lock c.actions c.resource → Answers c (Err no_lock_refusal)
  no_room : {actions : List Word} {tests : List Test} → CallSays c actions tests → length c.room < length (permit_for c actions tests)
      → Answers c (Err no_room_refusal)
  permit : {actions : List Word} {tests : List Test} → CallSays c actions tests → length (permit_for c actions tests) ≤ length c.room
      → Answers c (Ok (length (permit_for c actions tests)))

-- what is answered, and the room afterwards
abbrev pub answer_to : LockCall → LockAnswer
answer_to c = answer_of c.vocabulary c.lock c.actions c.resource c.room

abbrev pub room_left : LockCall → List ℕ
room_left c = room_after c.vocabulary c.lock c.actions c.resource c.room

-- Each answer is given exactly when document 02 says.
unfoldable pub AnsweredExactly : Type 0
AnsweredExactly = (c : LockCall) (answer : LockAnswer) → (answer_to c ≡ answer) ↔ Answers c answer

-- A refusal changes nothing.
unfoldable pub RoomUnchanged : Type 0
RoomUnchanged = (c : LockCall) (number : ℕ) → answer_to c ≡ Err number → room_left c ≡ c.room

-- Where the permit has room it stands over the room's start, and all other bytes stay.
unfoldable pub PermitStands : Type 0
PermitStands = (c : LockCall) (actions : List Word) (tests : List Test) → CallSays c actions tests → length (permit_for c actions tests) ≤ length c.room
    → room_left c ≡ permit_for c actions tests ++ drop (length (permit_for c actions tests)) c.room

-- Bytes say one lock: the actions and the tests are determined.
unfoldable pub OneLock : Type 0
OneLock = (v l a r : List ℕ) (actions actions' : List Word) (tests tests' : List Test)
    → Lockable v l a r actions tests → Lockable v l a r actions' tests' → (actions ≡ actions') × (tests ≡ tests')
