-- What is promised of the call: each answer exactly when document 02 says, and what stays. Assumes nothing.
use mathlib.Core.Path.{◌≡◌, refl, sym, ap, ◌∙◌}
use mathlib.Core.Bool.{Bool, true, false, cond}
use mathlib.Core.List.{List, ◌++◌}
use mathlib.Core.Option.{Option, none, some}
use Prim.Native.Nat.{ℕ}
use native.Mathlib.Omega.{arith}
use lib.Dec.{leb}
use lib.ListN.{length, drop}
use borrow.Author.Tests.{le-leb, lt-leb, leb-true, leb-false}
use Rattle.locks.specs.Answers.{Read, read_of, answer_for, room_by, no_lock_refusal, no_room_refusal, Locked}
use Rattle.locks.specs.Promise.{LockCall, permit_for, Answers, no_lock, no_room, permit, answer_to, AnsweredExactly, RoomUnchanged, PermitStands, OneLock}
use Rattle.locks.specs.Answers.{LockAnswer}
use Rattle.std.specs.Prelude.{Ok, Err}
use Rattle.locks.proofs.Exactly.{read_sound, read_complete}

-- what a call is read as
abbrev read_by : LockCall → Option Read
read_by c = read_of c.vocabulary c.lock c.actions c.resource

none_some : {A : Type 0} {o : Option A} {x : A} → o ≡ none → o ≡ some x → ⊥
none_some p q = let z : ◌≡◌ {A = ℕ} 0 1 = cc in omega arith

-- the answer that is given is right
answers : (c : LockCall) → Answers c (answer_to c)
unfolding answer_for
answers c = go (read_by c) refl
  where
    fits : (x : Read) → read_by c ≡ some x → (t : Bool) → leb (length (permit_for c x.actions x.tests)) (length c.room) ≡ t
        → Answers c (cond t (Ok (length (permit_for c x.actions x.tests))) (Err no_room_refusal))
    fits x q true e = permit (read_sound c.vocabulary c.lock c.actions c.resource x q) (leb-true _ _ e)
    fits x q false e = no_room (read_sound c.vocabulary c.lock c.actions c.resource x q) (leb-false _ _ e)

    go : (o : Option Read) → read_by c ≡ o → Answers c (answer_for c.resource c.room (read_by c))
    go none q = rw q (no_lock (λ acts ts k. none_some q (read_complete c.vocabulary c.lock c.actions c.resource acts ts k)))
    go (some x) q = rw q (fits x q (leb (length (permit_for c x.actions x.tests)) (length c.room)) refl)

-- and no other is
only_answer : (c : LockCall) {answer : LockAnswer} → Answers c answer → answer_to c ≡ answer
unfolding answer_for
only_answer c (no_lock n) = go (read_by c) refl
  where
    go : (o : Option Read) → read_by c ≡ o → answer_for c.resource c.room (read_by c) ≡ Err no_lock_refusal
    go none q = rw q
    go (some x) q = absurd (n x.actions x.tests (read_sound c.vocabulary c.lock c.actions c.resource x q))
only_answer c (no_room {actions = acts} {tests = ts} s h) = rw (read_complete c.vocabulary c.lock c.actions c.resource acts ts s, lt-leb _ _ h)
only_answer c (permit {actions = acts} {tests = ts} s h) = rw (read_complete c.vocabulary c.lock c.actions c.resource acts ts s, le-leb _ _ h)

pub answered_exactly : AnsweredExactly
unfolding AnsweredExactly
answered_exactly c answer = ((λ q. rw q at (answers c)), only_answer c)

pub nothing_changed : RoomUnchanged
unfolding RoomUnchanged answer_for room_by
nothing_changed c number h = go (read_by c) refl h
  where
    written_refused : {n m : ℕ} → Ok n ≡ Err m → ⊥
    written_refused q = let z : ◌≡◌ {A = ℕ} 0 1 = cc in omega arith

    fits : (x : Read) (t : Bool) → leb (length (permit_for c x.actions x.tests)) (length c.room) ≡ t
        → cond t (Ok (length (permit_for c x.actions x.tests))) (Err no_room_refusal) ≡ Err number
        → cond t (permit_for c x.actions x.tests ++ drop (length (permit_for c x.actions x.tests)) c.room) c.room ≡ c.room
    fits x true e q = absurd (written_refused q)
    fits x false e q = refl

    go : (o : Option Read) → read_by c ≡ o → answer_for c.resource c.room (read_by c) ≡ Err number → room_by c.resource c.room (read_by c) ≡ c.room
    go none q h = rw q
    go (some x) q h = rw q (fits x (leb (length (permit_for c x.actions x.tests)) (length c.room)) refl (rw q at h))

pub permit_stands : PermitStands
unfolding PermitStands room_by
permit_stands c acts ts s h = rw (read_complete c.vocabulary c.lock c.actions c.resource acts ts s, le-leb _ _ h)

pub one_lock : OneLock
unfolding OneLock
one_lock v l a r acts acts' ts ts' s t =
    let q = sym (read_complete v l a r acts ts s) ∙ read_complete v l a r acts' ts' t in
    let e : ◌≡◌ {A = Read} (record { actions = acts; tests = ts }) (record { actions = acts'; tests = ts' }) = same q in
    (ap (λ (x : Read). x.actions) e, ap (λ (x : Read). x.tests) e)
  where
    same : {x y : Read} → some x ≡ some y → x ≡ y
    same q = cc

-- two answers that the contract allows, with two rooms, are the same
pub one_result : {v l a r before : List ℕ} {x y : LockAnswer} {s t : List ℕ} → Locked v l a r before x s → Locked v l a r before y t → (x ≡ y) × (s ≡ t)
one_result p q = (p.answered ∙ sym q.answered, p.bytes ∙ sym q.bytes)
