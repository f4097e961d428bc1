-- Laws of what the call answers and leaves. Assumes nothing.
use mathlib.Core.Path.{◌≡◌, refl, sym, ap, ◌∙◌}
use mathlib.Core.Bool.{Bool, true, false, ◌&&◌}
use mathlib.Core.List.{List, ◌++◌}
use mathlib.Core.Option.{Option, none, some}
use Prim.Native.Nat.{ℕ, ◌+◌, ◌≤◌, ◌<◌}
use native.Mathlib.Omega.{arith}
use lib.ListN.{length, length-append}
use borrow.Author.Tests.{le-leb, lt-leb}
use Rattle.slices.specs.Ascii.{bytes}
use Rattle.placing.specs.Said.{Word}
use Rattle.permits.specs.Permits.{Test, quoted, test_text, permit_text}
use Rattle.locks.specs.Reading.{is_vocabulary, is_rule_string, tests_read, actions_read, are_some, text_of, size_with, between_actions, between_tests, tests_text, actions_text}
use Rattle.locks.specs.Answers.{PutOver, Read, together, read_of, framed, size_for, answer_for, room_by, Locked, Writable, no_lock_refusal, no_room_refusal}
use Rattle.std.specs.Prelude.{Some, None}
use Rattle.std.specs.Prelude.{Ok, Err}
use Rattle.locks.proofs.PutLaws.{put_both, room_left, over_start}

-- the permit's length, by those of its actions, its resource and its tests
pub framed_long : (x r y : List ℕ) → length (framed x r y) ≡ 58 + length r + length x + length y
unfolding framed
framed_long x r y = simp length-append (omega arith)

-- its parts, put one behind the other
pub put_frame : (acts r ts : List ℕ) {o m₁ m₂ m₃ m₄ m₅ m₆ m₇ : List ℕ} {n₁ n₂ n₃ n₄ n₅ n₆ n₇ : ℕ}
    → PutOver o 0 (bytes "permit(principal, action in [") m₁ n₁ → PutOver m₁ n₁ acts m₂ n₂ → PutOver m₂ n₂ (bytes "], resource == ") m₃ n₃
    → PutOver m₃ n₃ (quoted r) m₄ n₄ → PutOver m₄ n₄ (bytes ") when { ") m₅ n₅ → PutOver m₅ n₅ ts m₆ n₆ → PutOver m₆ n₆ (bytes " };") m₇ n₇
    → length (framed acts r ts) ≤ length o → PutOver o 0 (framed acts r ts) m₇ n₇
unfolding framed
put_frame acts r ts {o} p₁ p₂ p₃ p₄ p₅ p₆ p₇ h =
    let r₆ = bytes " };" in
    let r₅ = ts ++ r₆ in
    let r₄ = bytes ") when { " ++ r₅ in
    let r₃ = quoted r ++ r₄ in
    let r₂ = bytes "], resource == " ++ r₃ in
    let r₁ = acts ++ r₂ in
    let h₁ : 0 + length (framed acts r ts) ≤ length o = omega arith in
    let h₂ = room_left r₁ p₁ h₁ in
    let h₃ = room_left r₂ p₂ h₂ in
    let h₄ = room_left r₃ p₃ h₃ in
    let h₅ = room_left r₄ p₄ h₄ in
    let h₆ = room_left r₅ p₅ h₅ in
    put_both p₁ (put_both p₂ (put_both p₃ (put_both p₄ (put_both p₅ (put_both p₆ p₇ h₆) h₅) h₄) h₃) h₂) h₁

-- ---- the permit's length

module _ (v l a r : List ℕ) where
  pub size_no_vocabulary : is_vocabulary v ≡ false → None ≡ size_for r (read_of v l a r)
  unfolding read_of size_for
  size_no_vocabulary h = rw h

  pub size_no_resource : is_vocabulary v ≡ true → is_rule_string r ≡ false → None ≡ size_for r (read_of v l a r)
  unfolding read_of size_for
  size_no_resource h k = rw (h, k)

  module _ (h : is_vocabulary v ≡ true) (k : is_rule_string r ≡ true) where
    is_read : read_of v l a r ≡ together (actions_read a) (tests_read v l)
    unfolding read_of
    is_read = rw (h, k)

    pub size_no_actions : None ≡ size_with 0 between_actions quoted (actions_read a) → None ≡ size_for r (read_of v l a r)
    unfolding size_with size_for
    size_no_actions e = rw is_read (go (actions_read a) e)
      where
        go : (o : Option (List Word)) → None ≡ size_with 0 between_actions quoted o → None ≡ size_for r (together o (tests_read v l))
        go none e = refl
        go (some x) e = absurd (let z : ◌≡◌ {A = ℕ} 0 1 = cc in omega arith)

    pub size_no_tests : (x : ℕ) → Some x ≡ size_with 0 between_actions quoted (actions_read a) → None ≡ size_with 0 between_tests test_text (tests_read v l) → None ≡ size_for r (read_of v l a r)
    unfolding size_with size_for
    size_no_tests n e f = rw is_read (go (actions_read a) (tests_read v l) e f)
      where
        go : (o : Option (List Word)) (p : Option (List Test)) → Some n ≡ size_with 0 between_actions quoted o → None ≡ size_with 0 between_tests test_text p → None ≡ size_for r (together o p)
        go none p e f = refl
        go (some x) none e f = refl
        go (some x) (some y) e f = absurd (let z : ◌≡◌ {A = ℕ} 0 1 = cc in omega arith)

    pub size_of_both : (x y : ℕ) → Some x ≡ size_with 0 between_actions quoted (actions_read a) → Some y ≡ size_with 0 between_tests test_text (tests_read v l)
        → Some (58 + length r + x + y) ≡ size_for r (read_of v l a r)
    unfolding size_with size_for permit_text framed text_of
    size_of_both n m e f = rw is_read (go (actions_read a) (tests_read v l) e f)
      where
        go : (o : Option (List Word)) (p : Option (List Test)) → Some n ≡ size_with 0 between_actions quoted o → Some m ≡ size_with 0 between_tests test_text p
            → Some (58 + length r + n + m) ≡ size_for r (together o p)
        go none p e f = absurd (let z : ◌≡◌ {A = ℕ} 0 1 = cc in omega arith)
        go (some x) none e f = absurd (let z : ◌≡◌ {A = ℕ} 0 1 = cc in omega arith)
        go (some x) (some y) e f =
            let i : n ≡ 0 + length (text_of between_actions quoted (some x)) = of_same e in
            let j : m ≡ 0 + length (text_of between_tests test_text (some y)) = of_same f in
            ap Some (omega (arith, framed_long (text_of between_actions quoted (some x)) r (text_of between_tests test_text (some y))))
          where
            of_same : {i j : ℕ} → Some i ≡ Some j → i ≡ j
            of_same q = cc

-- ---- what is answered, by the permit's length

-- what is read where the permit has a length
record Has (v l a r : List ℕ) (n : ℕ) : Type 0 where
  read : Read
  is : read_of v l a r ≡ some read
  actions : actions_read a ≡ some read.actions
  tests : tests_read v l ≡ some read.tests
  size : n ≡ length (permit_text read.actions r read.tests)

module _ (v l a r : List ℕ) (n : ℕ) (e : size_for r (read_of v l a r) ≡ Some n) where
  has : Has v l a r n
  unfolding read_of size_for
  has = go (is_vocabulary v && is_rule_string r) refl
    where
      both : (o : Option (List Word)) (p : Option (List Test)) → actions_read a ≡ o → tests_read v l ≡ p → read_of v l a r ≡ together o p → Has v l a r n
      both none p x y q = absurd (let z : None ≡ Some n = bad q in let k : ◌≡◌ {A = ℕ} 0 1 = cc in omega arith)
        where
          bad : read_of v l a r ≡ none → None ≡ Some n
          bad q = ap (size_for r) (sym q) ∙ e
      both (some s) none x y q = absurd (let z : None ≡ Some n = bad q in let k : ◌≡◌ {A = ℕ} 0 1 = cc in omega arith)
        where
          bad : read_of v l a r ≡ none → None ≡ Some n
          bad q = ap (size_for r) (sym q) ∙ e
      both (some s) (some t) x y q = record { read = record { actions = s; tests = t }; is = q; actions = x; tests = y; size = size (ap (size_for r) (sym q) ∙ e) }
        where
          size : size_for r (some (record { actions = s; tests = t })) ≡ Some n → n ≡ length (permit_text s r t)
          size q = cc

      go : (b : Bool) → (is_vocabulary v && is_rule_string r) ≡ b → Has v l a r n
      go false q = absurd (let z : None ≡ Some n = ap (size_for r) (sym none_read) ∙ e in let k : ◌≡◌ {A = ℕ} 0 1 = cc in omega arith)
        where
          none_read : read_of v l a r ≡ none
          none_read = rw q
      go true q = both (actions_read a) (tests_read v l) refl refl (rw q)

  framed_is : framed (actions_text a) r (tests_text v l) ≡ permit_text has.read.actions r has.read.tests
  unfolding text_of framed permit_text
  framed_is = rw (has.actions, has.tests)

  module _ (room : List ℕ) where
    pub ready : n ≤ length room → Writable v l a r room
    ready h =
        record {
          actions = ap are_some has.actions;
          tests = ap are_some has.tests;
          fits = omega (arith, ap length framed_is, has.size);
        }

    pub no_room : length room < n → Locked v l a r room (Err no_room_refusal) room
    unfolding answer_for room_by
    no_room h =
        let k : length room < length (permit_text has.read.actions r has.read.tests) = omega (arith, has.size) in
        record { answered = rw (has.is, lt-leb _ _ k); bytes = rw (has.is, lt-leb _ _ k) }

    pub written : (new : List ℕ) (m : ℕ) → n ≤ length room → PutOver room 0 (framed (actions_text a) r (tests_text v l)) new m → Locked v l a r room (Ok n) new
    unfolding answer_for room_by
    written new m h p =
        let k : length (permit_text has.read.actions r has.read.tests) ≤ length room = omega (arith, has.size) in
        record { answered = rw (has.is, le-leb _ _ k, ← has.size); bytes = over_start p ∙ rw (framed_is, has.is, le-leb _ _ k) }

pub no_lock : (v l a r room : List ℕ) → size_for r (read_of v l a r) ≡ None → Locked v l a r room (Err no_lock_refusal) room
unfolding answer_for room_by size_for
no_lock v l a r room e = go (read_of v l a r) refl
  where
    go : (o : Option Read) → read_of v l a r ≡ o → Locked v l a r room (Err no_lock_refusal) room
    go none q = record { answered = rw q; bytes = rw q }
    go (some x) q = absurd (let z : Some (length (permit_text x.actions r x.tests)) ≡ None = of_some q in let k : ◌≡◌ {A = ℕ} 0 1 = cc in omega arith)
      where
        of_some : read_of v l a r ≡ some x → Some (length (permit_text x.actions r x.tests)) ≡ None
        of_some q = ap (size_for r) (sym q) ∙ e
