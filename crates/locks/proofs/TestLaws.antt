-- Laws of the tests of a lock and of the strings of an action list: what stands at a place, and how many bytes it has in a permit. Assumes nothing.
use mathlib.Core.Path.{◌≡◌, refl, sym, ap, ◌∙◌}
use mathlib.Core.Bool.{Bool, true, false, cond, ◌&&◌, ◌||◌, and-eq-true_iff, false≢true}
use mathlib.Core.List.{List, [], ◌++◌, append_assoc}
use Prim.Native.Nat.{ℕ, ◌+◌, ◌-◌, ◌≤◌, ◌<◌}
use native.Mathlib.Omega.{arith}
use lib.Dec.{eqb, leb}
use lib.ListN.{length, take, drop, length-append, length-drop}
use lib.Seq.{length-take-le}
use borrow.Author.Tests.{lt-ltb, le-ltb, eq-eqb, ne_eqb, leb-true}
use Rattle.slices.specs.Ascii.{bytes}
use Rattle.slices.specs.Parts.{part}
use Rattle.tokens.specs.Kinds as kinds
use Rattle.tokens.specs.Runs.{RunsTo}
use Rattle.tokens.specs.Tokens.{token_at, Reads}
use Rattle.tokens.specs.declared.classes.Sort.TheVariants.{Blanks, WordBytes}
use Rattle.tokens.specs.declared.reader.Token.{Token}
use Rattle.grammar.specs.Policies.{Comparator, Comparator.More, Comparator.AtLeast, Comparator.Less, Comparator.AtMost}
use Rattle.placing.specs.Said.{Word}
use Rattle.permits.specs.Permits.{equal, member, order, quoted, of_principal, sign_of, test_text}
use Rattle.locks.specs.Reading.{find_from, most, EntryIs, no_test, goes_with, value_behind, number_behind, operand_at, ends_test, LiesFrom, PieceIs, test_of, test_with, test_at, TestLies, TestIs, comparator_for, mark_text, equality_byte, membership_byte, test_by, test_size, test_in, ActionIs, action_at}
use Rattle.locks.specs.Reading.{ThingStep, things_from, step_by, test_step_of, test_step, action_step, size_with, text_of, are_some, between_tests, between_actions}
use Rattle.locks.specs.declared.Piece.{Piece}
use Rattle.std.specs.Prelude.{Some, None}
use Rattle.std.specs.Prelude as prelude
use Rattle.locks.specs.declared.vocabulary.EntryPlaces.{EntryPlaces}
use Rattle.locks.specs.declared.tests.TestPlaces.{TestPlaces}
use Rattle.locks.proofs.EntryLaws.{no_part}
use Rattle.locks.proofs.ListedLaws.{none_left, not_wrong, size_wrong, size_last, size_on, text_last, text_on, text_first, some_on}

-- ---- operands

-- the part that is there
some_part : {l : List ℕ} {at : ℕ} {r : Piece} → LiesFrom l at r → (x : Piece) → Some r ≡ Some x → LiesFrom l at x
some_part {l} {at} {r} h x e = let q : r ≡ x = cc in rw (← q) h

pub value_some : {l : List ℕ} {at s e : ℕ} → RunsTo Blanks l at s → RunsTo WordBytes l s e → s < e
    → PieceIs l at (Some (record { start = s; end = e })) (value_behind l at)
unfolding value_behind
value_some {l} {at} {s} {e} a b h =
    record { answer = rw (← a.place, ← b.place, lt-ltb _ _ h); lies = some_part (record { from = a.low; order = b.low; high = b.high }) }

pub value_none : {l : List ℕ} {at s e : ℕ} → RunsTo Blanks l at s → RunsTo WordBytes l s e → e ≤ s → PieceIs l at None (value_behind l at)
unfolding value_behind
value_none {l} {at} {s} {e} a b h = record { answer = rw (← a.place, ← b.place, le-ltb _ _ h); lies = λ x q. absurd (no_part q) }

pub number_some : {l : List ℕ} {at : ℕ} {t : Token} → t ≡ token_at l at → Reads l at t → t.kind ≡ kinds.number
    → PieceIs l at (Some (record { start = t.start; end = t.end })) (number_behind l at)
unfolding number_behind
number_some {l} {at} {t} q r k =
    record { answer = rw (← q, eq-eqb _ _ k); lies = some_part (record { from = r.low; order = r.order; high = r.high }) }

pub number_none : {l : List ℕ} {at : ℕ} {t : Token} → t ≡ token_at l at → (t.kind ≡ kinds.number → ⊥) → PieceIs l at None (number_behind l at)
unfolding number_behind
number_none {l} {at} {t} q k = record { answer = rw (← q, ne_eqb _ _ k); lies = λ x e. absurd (no_part e) }

pub operand_value : {l : List ℕ} {mark at : ℕ} {p : prelude.Option Piece} → mark ≡ kinds.colon_outside → PieceIs l at p (value_behind l at) → PieceIs l at p (operand_at l mark at)
unfolding operand_at
operand_value {l} {mark} {at} {p} h q = record { answer = q.answer ∙ rw (eq-eqb _ _ h); lies = q.lies }

pub operand_number : {l : List ℕ} {mark at : ℕ} {p : prelude.Option Piece} → (mark ≡ kinds.colon_outside → ⊥) → PieceIs l at p (number_behind l at) → PieceIs l at p (operand_at l mark at)
unfolding operand_at
operand_number {l} {mark} {at} {p} h q = record { answer = q.answer ∙ rw (ne_eqb _ _ h); lies = q.lies }

-- ---- a test

-- all that is asked of it
abbrev pub asked : List ℕ → EntryPlaces → ℕ → Piece → ℕ → Bool
asked l e mark o next = leb (o.end - o.start) 127 && goes_with e.sort mark && ends_test l next

-- no test is one of no length
none_lies : (v l : List ℕ) (r : TestPlaces) → r ≡ no_test → TestLies v l r
none_lies v l r q =
    rw q
    (record {
      path_low = omega arith;
      path_high = omega arith;
      path_few = omega arith;
      value_low = omega arith;
      value_high = omega arith;
      value_few = omega arith;
      next_high = omega arith;
    })

-- where no operand stands behind the mark
pub test_bare : {v l : List ℕ} {at s w : ℕ} {e : EntryPlaces} {m : Token} {o : prelude.Option Piece} → RunsTo Blanks l at s → RunsTo WordBytes l s w
    → EntryIs v e (find_from most v 0 (take (w - s) (drop s l))) → m ≡ token_at l w → PieceIs l m.end o (operand_at l m.kind m.end) → o ≡ None
    → (r : TestPlaces) → r ≡ no_test → TestIs v l r (test_at v l at)
unfolding test_at test_with part
test_bare {v} {l} {at} {s} {w} {e} {m} {o} a b f t p z r q =
    let k : test_with l e m.kind None ≡ test_at v l at = rw (← a.place, ← b.place, ← f.answer, ← t, ← p.answer, z) in
    record { answer = q ∙ k; lies = none_lies v l r q }

module _ {v l : List ℕ} {at s w : ℕ} {e : EntryPlaces} {m : Token} {u : prelude.Option Piece} {o : Piece} {n : ℕ} (a : RunsTo Blanks l at s) (b : RunsTo WordBytes l s w)
    (f : EntryIs v e (find_from most v 0 (take (w - s) (drop s l)))) (t : m ≡ token_at l w) (p : PieceIs l m.end u (operand_at l m.kind m.end))
    (there : u ≡ Some o) (x : RunsTo Blanks l o.end n) where
  test_of_lem : test_of l e m.kind o n ≡ test_at v l at
  unfolding test_at test_with part
  test_of_lem = rw (← a.place, ← b.place, ← f.answer, ← t, ← p.answer, there, ← x.place)

  pub test_found : asked l e m.kind o n ≡ true
      → TestIs v l (record { sort = e.sort; path = e.path; stop = e.end; mark = m.kind; value = o.start; end = o.end; next = n }) (test_at v l at)
  unfolding test_of
  test_found y =
      let z = (and-eq-true_iff _ (ends_test l n)).0 y in
      let z' = (and-eq-true_iff _ (goes_with e.sort m.kind)).0 z.0 in
      let k = leb-true (o.end - o.start) 127 z'.0 in
      let d = p.lies o there in
      let q : o.start ≤ o.end = d.order in
      record {
        answer = sym (rw y) ∙ test_of_lem;
        lies =
            record {
              path_low = f.lies.path_low;
              path_high = f.lies.path_high;
              path_few = f.lies.path_few;
              value_low = d.order;
              value_high = d.high;
              value_few = omega arith;
              next_high = x.high;
            };
      }

  pub test_none : (r : TestPlaces) → r ≡ no_test → asked l e m.kind o n ≡ false → TestIs v l r (test_at v l at)
  unfolding test_of
  test_none r q y = record { answer = q ∙ sym (rw y) ∙ test_of_lem; lies = none_lies v l r q }

-- ---- how many bytes a test has

part_long : (s : List ℕ) (a e : ℕ) → a ≤ e → e ≤ length s → length (part s a (e - a)) ≡ e - a
unfolding part
part_long s a e h k = length-take-le (e - a) (drop a s) (omega (arith, length-drop a s))

mark_long : (a b c : Bool) → length (sign_of (cond a More (cond b Less (cond c AtLeast AtMost)))) ≡ cond (a || b) 1 2
unfolding sign_of
mark_long true b c = refl
mark_long false true c = refl
mark_long false false true = refl
mark_long false false false = refl

by_long : (a b m : Bool) (c : Comparator) (p w : Word) → length (sign_of c) ≡ cond m 1 2
    → length (test_text (cond a (equal p w) (cond b (member p w) (order p c w)))) ≡ length p + length w + cond (a || b) 16 (cond m 13 14)
unfolding test_text
by_long true b m c p w h = simp length-append (omega arith)
by_long false true m c p w h = simp length-append (omega arith)
by_long false false true c p w h = simp length-append (omega arith)
by_long false false false c p w h = simp length-append (omega arith)

pub test_long : {v l : List ℕ} {t : TestPlaces} → TestLies v l t → length (test_text (test_in v l t)) ≡ test_size t
unfolding test_in test_by test_size comparator_for
test_long {v} {l} {t} h =
    by_long (eqb t.sort 1) (eqb t.sort 2) (eqb t.mark kinds.more || eqb t.mark kinds.less) (comparator_for t.mark) _ _
    (mark_long (eqb t.mark kinds.more) (eqb t.mark kinds.less) (eqb t.mark kinds.at_least))
    ∙ rw (part_long v t.path t.stop h.path_low h.path_high, part_long l t.value t.end h.value_low h.value_high)

-- ---- what a test is in a permit, by its sort

module _ (sort mark : ℕ) (p w : Word) where
  pub text_equal : sort ≡ equality_byte → test_text (test_by sort mark p w) ≡ of_principal p ++ (bytes " == " ++ quoted w)
  unfolding test_by test_text
  text_equal h = rw (eq-eqb _ _ h)

  module _ (n : sort ≡ equality_byte → ⊥) where
    pub text_member : sort ≡ membership_byte → test_text (test_by sort mark p w) ≡ quoted w ++ (bytes " in " ++ of_principal p)
    unfolding test_by test_text
    text_member h = rw (ne_eqb _ _ n, eq-eqb _ _ h)

    pub text_order : (sort ≡ membership_byte → ⊥) → test_text (test_by sort mark p w) ≡ of_principal p ++ (mark_text mark ++ w)
    unfolding test_by test_text
    text_order h =
        rw (ne_eqb _ _ n, ne_eqb _ _ h)
        (ap (λ (l : List ℕ). of_principal p ++ (bytes " " ++ l)) (sym (append_assoc (sign_of (comparator_for mark)) (bytes " ") w)))

-- ---- how many bytes all have

pub few_of : (n k m : ℕ) → n ≤ k → Some n ≡ Some m → m ≤ k
few_of n k m h e = let q : n ≡ m = cc in omega arith

pub none_of : (k m : ℕ) → None ≡ Some m → m ≤ k
none_of k m e = absurd (let z : ◌≡◌ {A = ℕ} 0 1 = cc in omega arith)

module _ {A : Type 0} (sep : List ℕ) (text : A → List ℕ) (next : ℕ → ThingStep A) where
  pub size_none : (n k at : ℕ) → n ≤ 0 → None ≡ size_with k sep text (things_from n next at)
  unfolding size_with
  size_none n k at h = rw (none_left next n at h)

module _ (v l : List ℕ) (n at : ℕ) (t : TestPlaces) (a : TestIs v l t (test_at v l at)) where
  -- the step is the test's
  step_is : test_step v l at ≡ test_step_of v l t
  unfolding test_step
  step_is = rw (← a.answer)

  module _ (k r : ℕ) (s : r ≡ test_size t) (h : 0 < n) where
    long : length (test_text (test_in v l t)) ≡ r
    long = test_long a.lies ∙ sym s

    pub tests_wrong : t.sort ≡ 0 → None ≡ size_with k between_tests test_text (things_from n (test_step v l) at)
    tests_wrong z = size_wrong between_tests test_text (test_step v l) n at _ _ _ _ step_is k h (eq-eqb _ _ z)

    module _ (z : t.sort ≡ 0 → ⊥) where
      pub tests_last : t.next ≡ length l → Some (k + r) ≡ size_with k between_tests test_text (things_from n (test_step v l) at)
      tests_last e =
          ap (λ (x : ℕ). Some (k + x)) (sym long)
          ∙ size_last between_tests test_text (test_step v l) n at _ _ _ _ step_is k h (ne_eqb _ _ z) (eq-eqb _ _ e)

      pub tests_on : (t.next ≡ length l → ⊥)
          → size_with (k + r + 4) between_tests test_text (things_from (n - 1) (test_step v l) (t.next + 1)) ≡ size_with k between_tests test_text (things_from n (test_step v l) at)
      tests_on e =
          ap (λ (x : ℕ). size_with (k + x + 4) between_tests test_text (things_from (n - 1) (test_step v l) (t.next + 1))) (sym long)
          ∙ size_on between_tests test_text (test_step v l) n at _ _ _ _ step_is k h (ne_eqb _ _ z) (ne_eqb _ _ e)

  -- ---- what they are

  module _ (h : are_some (things_from n (test_step v l) at) ≡ true) where
    pub tests_first : length (test_text (test_in v l t)) ≤ length (text_of between_tests test_text (things_from n (test_step v l) at))
    tests_first = text_first between_tests test_text (test_step v l) n at _ _ _ _ step_is h

    pub tests_end : t.next ≡ length l → text_of between_tests test_text (things_from n (test_step v l) at) ≡ test_text (test_in v l t)
    tests_end e = text_last between_tests test_text (test_step v l) n at _ _ _ _ step_is h (eq-eqb _ _ e)

    module _ (e : t.next ≡ length l → ⊥) where
      pub tests_more : text_of between_tests test_text (things_from n (test_step v l) at)
          ≡ test_text (test_in v l t) ++ (between_tests ++ text_of between_tests test_text (things_from (n - 1) (test_step v l) (t.next + 1)))
      tests_more = text_on between_tests test_text (test_step v l) n at _ _ _ _ step_is h (ne_eqb _ _ e)

      pub tests_left : are_some (things_from (n - 1) (test_step v l) (t.next + 1)) ≡ true
      tests_left = some_on between_tests test_text (test_step v l) n at _ _ _ _ step_is h (ne_eqb _ _ e)

-- ---- actions

-- where no string stands
module _ (a : List ℕ) (n at : ℕ) (r : prelude.Option Piece) (w : ActionIs a r (action_at a at)) (z : r ≡ None) where
  wrong_step : action_step a at ≡ step_by true false [] 0
  unfolding action_step step_by
  wrong_step = rw (← w.answer, z)

  pub actions_wrong : (k : ℕ) → 0 < n → None ≡ size_with k between_actions quoted (things_from n (action_step a) at)
  actions_wrong k h = size_wrong between_actions quoted (action_step a) n at _ _ _ _ wrong_step k h refl

  pub actions_there : are_some (things_from n (action_step a) at) ≡ true → ⊥
  actions_there h = false≢true (sym (not_wrong between_actions quoted (action_step a) n at _ _ _ _ wrong_step h))

module _ (a : List ℕ) (n at : ℕ) (r : prelude.Option Piece) (w : ActionIs a r (action_at a at)) (p : Piece) (is : r ≡ Some p) where
  -- the string there
  abbrev pub string_of : Word
  string_of = part a p.start (p.end - p.start)

  action_step_lem : action_step a at ≡ step_by false (eqb p.end (length a)) (part a p.start (p.end - p.start)) p.end
  unfolding action_step
  action_step_lem = rw (← w.answer, is)

  quoted_long : length (quoted string_of) ≡ p.end - p.start + 2
  quoted_long = simp length-append (omega (arith, part_long a p.start p.end (w.order p is) (w.high p is)))

  module _ (k : ℕ) (h : 0 < n) where
    pub actions_last : p.end ≡ length a → Some (k + (p.end - p.start) + 2) ≡ size_with k between_actions quoted (things_from n (action_step a) at)
    actions_last e =
        let q : k + (p.end - p.start) + 2 ≡ k + length (quoted string_of) = omega (arith, quoted_long) in
        ap Some q ∙ size_last between_actions quoted (action_step a) n at _ _ _ _ action_step_lem k h refl (eq-eqb _ _ e)

    pub actions_on : (p.end ≡ length a → ⊥)
        → size_with (k + (p.end - p.start) + 2 + 2) between_actions quoted (things_from (n - 1) (action_step a) p.end) ≡ size_with k between_actions quoted (things_from n (action_step a) at)
    actions_on e =
        let q : k + (p.end - p.start) + 2 + 2 ≡ k + length (quoted string_of) + 2 = omega (arith, quoted_long) in
        ap (λ (x : ℕ). size_with x between_actions quoted (things_from (n - 1) (action_step a) p.end)) q
        ∙ size_on between_actions quoted (action_step a) n at _ _ _ _ action_step_lem k h refl (ne_eqb _ _ e)

  module _ (h : are_some (things_from n (action_step a) at) ≡ true) where
    pub actions_first : length (quoted string_of) ≤ length (text_of between_actions quoted (things_from n (action_step a) at))
    actions_first = text_first between_actions quoted (action_step a) n at _ _ _ _ action_step_lem h

    pub actions_end : p.end ≡ length a → text_of between_actions quoted (things_from n (action_step a) at) ≡ quoted string_of
    actions_end e = text_last between_actions quoted (action_step a) n at _ _ _ _ action_step_lem h (eq-eqb _ _ e)

    module _ (e : p.end ≡ length a → ⊥) where
      pub actions_more : text_of between_actions quoted (things_from n (action_step a) at) ≡ quoted string_of ++ (between_actions ++ text_of between_actions quoted (things_from (n - 1) (action_step a) p.end))
      actions_more = text_on between_actions quoted (action_step a) n at _ _ _ _ action_step_lem h (ne_eqb _ _ e)

      pub actions_left : are_some (things_from (n - 1) (action_step a) p.end) ≡ true
      actions_left = some_on between_actions quoted (action_step a) n at _ _ _ _ action_step_lem h (ne_eqb _ _ e)
