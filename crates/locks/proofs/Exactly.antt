-- What vocabulary, lock, action list and resource are read as is what they say, both ways, and they say one lock only. Assumes nothing.
use mathlib.Core.Path.{◌≡◌, refl, sym, ap, ◌∙◌}
use mathlib.Core.Bool.{Bool, true, false, cond, ◌&&◌, and-eq-true_iff}
use mathlib.Core.List.Memᴰ
use mathlib.Core.List.{List, [], ◌∷◌, ◌++◌, append_assoc, Memᴰ}
use mathlib.Core.Logic.{⊎_elim, ◌↔◌}
use mathlib.Core.Option.{Option, none, some}
use Prim.Native.Nat.{ℕ, zero, suc, ◌+◌, ◌-◌, ◌≤◌, ◌<◌}
use native.Mathlib.Omega.{arith}
use lib.Dec.{eqb}
use lib.ListN.{length, get_or, drop}
use borrow.Author.Tests.{lt-leb, eq-eqb, ne_eqb, eqb-true, eqb-false}
use Rattle.slices.proofs.Rest.{rest_at}
use Rattle.bags.specs.Forms.{InTurn, none as no_more, more as and_more}
use Rattle.bags.specs.Paths.{is_path}
use Rattle.bags.proofs.Laid.{Laid, laid_whole, whole_laid, laid_join, laid_split, laid_head}
use Rattle.questions.specs.Forms.{Distinct}
use Rattle.placing.specs.Said.{Word}
use Rattle.permits.specs.Permits.{Test, permit_text}
use Rattle.permits.specs.Meaning.{AString, Formed, equality, membership, comparison, Made}
use Rattle.permits.specs.Promise.{AllFit, PermitSays, OnlySizes}
use Rattle.permits.proofs.Says.{permit_says, only_sizes}
use Rattle.locks.specs.Reading.{most, last, on, in_front, things_from, step_by, ends_test, test_at, test_in, test_step, is_vocabulary, is_rule_string, tests_read, actions_read}
use Rattle.locks.specs.Answers.{Read, together, read_of}
use Rattle.locks.specs.Forms.{VocabularyEntry, AWord, vocabulary_words, WrittenTest, TestBytes, value_test, number_test, LockBytes, one, more, Meant, an_equality, a_membership, a_comparison, AllMeant, none as none_meant, next, ActionBytes, action, Compiles, LockSays, Lockable}
use Rattle.locks.proofs.ListedLaws.{at_last, at_on}
use Rattle.locks.proofs.Strings.{string_test, test_string}
use Rattle.locks.proofs.Entries.{entries_in, entries_sound, entries_complete, entry_forms}
use Rattle.locks.proofs.ActionsSaid.{Steps, ends, goes, steps, actions_sound, actions_complete}
use Rattle.locks.proofs.TestsRead.{TestSaid, test_sound}
use Rattle.locks.proofs.TestsMet.{at_end, at_and, Met, test_met}

-- ---- the lock that is read

module _ (v l : List ℕ) (good : is_vocabulary v ≡ true) (aw : (x : VocabularyEntry) → Memᴰ x (entries_in v most 0) → AWord x.word) where
  record LockSaid (at n : ℕ) (ts : List Test) : Type 0 where
    written : List WrittenTest
    bytes : List ℕ
    says : LockBytes bytes written
    laid : Laid l at bytes (length l)
    few : length written ≤ n
    meant : AllMeant (entries_in v most 0) written ts
    fit : AllFit ts

  -- what a step tells of the test there
  record LastTold (at : ℕ) (t : Test) : Type 0 where
    test : TestSaid v l good at t (length l)

  record OnTold (at : ℕ) (t : Test) (m : ℕ) : Type 0 where
    stop : ℕ
    test : TestSaid v l good at t stop
    and_there : Laid l stop (38 ∷ []) m

  step_cases : (at : ℕ) → test_step v l at ≡ step_by (eqb (test_at v l at).sort 0) (eqb (test_at v l at).next (length l)) (test_in v l (test_at v l at)) ((test_at v l at).next + 1)
  unfolding test_step
  step_cases at = refl

  last_told : (at : ℕ) → at ≤ length l → (t : Test) → test_step v l at ≡ last t → LastTold at t
  unfolding step_by
  last_told at h t q = go (eqb (test_at v l at).sort 0) (eqb (test_at v l at).next (length l)) refl refl (sym (step_cases at) ∙ q)
    where
      go : (a b : Bool) → eqb (test_at v l at).sort 0 ≡ a → eqb (test_at v l at).next (length l) ≡ b
          → step_by a b (test_in v l (test_at v l at)) ((test_at v l at).next + 1) ≡ last t → LastTold at t
      go true b x y z = absurd (let k : ◌≡◌ {A = ℕ} 0 1 = cc in omega arith)
      go false false x y z = absurd (let k : ◌≡◌ {A = ℕ} 0 1 = cc in omega arith)
      go false true x y z =
          let s = test_sound v l good at h aw x in
          let r : test_in v l (test_at v l at) ≡ t = cc in
          record { test = rw (r, eqb-true (test_at v l at).next (length l) y) at s.0 }

  and_at : (e : ℕ) → e ≤ length l → ends_test l e ≡ true → (e ≡ length l → ⊥) → Laid l e (38 ∷ []) (e + 1)
  unfolding ends_test
  and_at e h g n =
      let i : e < length l = omega (arith, n) in
      let b : eqb (get_or l e 0) 38 ≡ true = rw (lt-leb _ _ i) at g in
      record { is = rest_at l e i ∙ rw (eqb-true (get_or l e 0) 38 b); stop = refl; inside = omega arith }

  on_told : (at : ℕ) → at ≤ length l → (t : Test) (m : ℕ) → test_step v l at ≡ on t m → OnTold at t m
  unfolding step_by
  on_told at h t m q = go (eqb (test_at v l at).sort 0) (eqb (test_at v l at).next (length l)) refl refl (sym (step_cases at) ∙ q)
    where
      go : (a b : Bool) → eqb (test_at v l at).sort 0 ≡ a → eqb (test_at v l at).next (length l) ≡ b
          → step_by a b (test_in v l (test_at v l at)) ((test_at v l at).next + 1) ≡ on t m → OnTold at t m
      go true b x y z = absurd (let k : ◌≡◌ {A = ℕ} 0 1 = cc in omega arith)
      go false true x y z = absurd (let k : ◌≡◌ {A = ℕ} 0 1 = cc in omega arith)
      go false false x y z =
          let s = test_sound v l good at h aw x in
          let r : test_in v l (test_at v l at) ≡ t = cc in
          let k : (test_at v l at).next + 1 ≡ m = cc in
          record { stop = (test_at v l at).next; test = rw r at s.0; and_there = rw k at (and_at (test_at v l at).next s.2 s.1 (eqb-false _ _ y)) }

  lock_sound : (n at : ℕ) → at ≤ length l → (ts : List Test) → things_from n (test_step v l) at ≡ some ts → LockSaid at n ts
  unfolding things_from
  lock_sound zero at h ts q = absurd (let z : ◌≡◌ {A = ℕ} 0 1 = cc in omega arith)
  lock_sound (suc n) at h ts q = go (steps (test_step v l) n at ts q) (lock_sound n)
    where
      go : {ts : List Test} → Steps (test_step v l) n at ts → ((m : ℕ) → m ≤ length l → (us : List Test) → things_from n (test_step v l) m ≡ some us → LockSaid m n us)
          → LockSaid at (suc n) ts
      go (ends {x} q) ih =
          let s = (last_told at h x q).test in
          record {
            written = s.written ∷ [];
            bytes = s.front ++ (s.test ++ s.back);
            says = one s.front_blank s.says s.back_blank;
            laid = s.laid;
            few = omega arith;
            meant = next s.meant none_meant;
            fit = λ t m. ⊎_elim (λ (q : t ≡ x). rw q s.fits) (λ (k : Memᴰ t []). absurd (Memᴰ.not-nil k)) (Memᴰ.cases_cons m);
          }
      go (goes {x} {m} {xs = ys} q r) ih =
          let o = on_told at h x m q in
          let s = o.test in
          let i = ih m o.and_there.inside ys r in
          record {
            written = s.written ∷ i.written;
            bytes = s.front ++ (s.test ++ (s.back ++ 38 ∷ i.bytes));
            says = more s.front_blank s.says s.back_blank i.says;
            laid = lay s.front s.test s.back i.bytes (laid_join s.laid (laid_join o.and_there i.laid));
            few = omega (arith, i.few);
            meant = next s.meant i.meant;
            fit = λ t m. ⊎_elim (λ (q : t ≡ x). rw q s.fits) (λ (k : Memᴰ t ys). i.fit t k) (Memᴰ.cases_cons m);
          }
        where
          lay : (a t b r : List ℕ) → Laid l at ((a ++ (t ++ b)) ++ (38 ∷ [] ++ r)) (length l) → Laid l at (a ++ (t ++ (b ++ 38 ∷ r))) (length l)
          lay a t b r d = rw (append_assoc a (t ++ b) (38 ∷ r), append_assoc t b (38 ∷ r)) at d

  -- ---- the lock that is said

  -- what a test that is met steps to
  met_last : (at : ℕ) {t : Test} → Met v l at t (length l) → test_step v l at ≡ last t
  unfolding step_by test_in
  met_last at m = step_cases at ∙ rw (m.some_sort, m.behind, eq-eqb (length l) (length l) refl, m.is_it)

  met_on : (at : ℕ) {t : Test} {e : ℕ} → Met v l at t e → (e ≡ length l → ⊥) → test_step v l at ≡ on t (e + 1)
  unfolding step_by test_in
  met_on at {t} {e} m n = step_cases at ∙ rw (m.some_sort, m.behind, ne_eqb e (length l) n, m.is_it)

  lock_complete : Distinct (vocabulary_words (entries_in v most 0)) → {b : List ℕ} {ws : List WrittenTest} {ts : List Test} → LockBytes b ws → AllMeant (entries_in v most 0) ws ts → AllFit ts
      → (at n : ℕ) → Laid l at b (length l) → length ws ≤ n → things_from n (test_step v l) at ≡ some ts
  lock_complete ds (one {a} {t} {b} ba tb bb) (next {t = u} m none_meant) f at n d k =
      at_last (test_step v l) n at u 0 (omega arith) (met_last at (test_met v l good ds at ba tb bb m (f u (Memᴰ.head refl)) d (at_end refl)))
  lock_complete ds (more {a} {t} {b} {l = r} {ws = ws} ba tb bb lr) (next {t = u} {ts = us} m ms) f at n d k =
      let d₁ = laid_split (a ++ (t ++ b)) (38 ∷ r) (lay a t b r d) in
      let h = laid_head d₁.1 in
      let e = at + length (a ++ (t ++ b)) in
      let x = test_met v l good ds at ba tb bb m (f u (Memᴰ.head refl)) d₁.0 (at_and (r ++ drop (length l) l) h.within d₁.1.is) in
      at_on (test_step v l) n at u (e + 1) (omega arith) (met_on at x (λ q. omega (arith, h.within)))
      ∙ ap (in_front u) (lock_complete ds lr ms (λ t m. f t (Memᴰ.tail m)) (e + 1) (n - 1) h.others (omega arith))
    where
      lay : (a t b r : List ℕ) → Laid l at (a ++ (t ++ (b ++ 38 ∷ r))) (length l) → Laid l at ((a ++ (t ++ b)) ++ 38 ∷ r) (length l)
      lay a t b r d = rw (← append_assoc t b (38 ∷ r), ← append_assoc a (t ++ b) (38 ∷ r)) at d

-- ---- what a permit is made of

formed : {es : List VocabularyEntry} → ((x : VocabularyEntry) → Memᴰ x es → AWord x.word × (is_path x.path ≡ true)) → {b : List ℕ} {w : WrittenTest} {t : Test} → TestBytes b w → Meant es w t → Formed t
formed ps (value_test aw a b x) (an_equality m) = equality (ps _ m).1 x
formed ps (value_test aw a b x) (a_membership m) = membership (ps _ m).1 x
formed ps (number_test aw a b o n) (a_comparison m) = comparison (ps _ m).1 o n

all_formed : {es : List VocabularyEntry} → ((x : VocabularyEntry) → Memᴰ x es → AWord x.word × (is_path x.path ≡ true)) → {b : List ℕ} {ws : List WrittenTest} {ts : List Test}
    → LockBytes b ws → AllMeant es ws ts → ((t : Test) → Memᴰ t ts → Formed t) × (length ws ≡ length ts) × (1 ≤ length ts)
all_formed ps (one ba tb bb) (next {t = u} m none_meant) =
    ((λ t k. ⊎_elim (λ (q : t ≡ u). rw q (formed ps tb m)) (λ (x : Memᴰ t []). absurd (Memᴰ.not-nil x)) (Memᴰ.cases_cons k)), refl, omega arith)
all_formed ps (more ba tb bb lr) (next {t = u} {ts = us} m ms) =
    let r = all_formed ps lr ms in
    ((λ t k. ⊎_elim (λ (q : t ≡ u). rw q (formed ps tb m)) (λ (x : Memᴰ t us). r.0 t x) (Memᴰ.cases_cons k)), ap suc r.1, omega arith)

each_string : {b : List ℕ} {xs : List Word} → InTurn ActionBytes b xs → (s : Word) → Memᴰ s xs → AString s
each_string no_more s m = absurd (Memᴰ.not-nil m)
each_string (and_more {x = y} (action a) r) s m = ⊎_elim (λ (q : s ≡ y). rw q a) (λ (k : Memᴰ s _). each_string r s k) (Memᴰ.cases_cons m)

-- what says a lock has all that a permit is made of
pub made : {v l a r : List ℕ} {acts : List Word} {ts : List Test} → LockSays v l a r acts ts → Made acts r ts
made s =
    let f = all_formed (entry_forms s.vocabulary_says.in_turn) s.lock_says s.meant in
    record {
      some_actions = s.some_actions;
      few_actions = s.few_actions;
      actions_are = each_string s.actions_say;
      resource_is = s.resource_is;
      some_tests = f.2;
      few_tests = omega (arith, f.1, s.few_tests);
      tests_are = f.0;
    }

-- there is a first test
split_tests : {A : Type 0} (P : List A → Type 0) → ((x : A) (xs : List A) → P (x ∷ xs)) → (xs : List A) → 1 ≤ length xs → P xs
split_tests P f [] h = absurd (omega arith)
split_tests P f (x ∷ xs) h = f x xs

pub compiles : {acts : List Word} {r : Word} {ts : List Test} → Made acts r ts → AllFit ts → Compiles (permit_text acts r ts)
unfolding PermitSays
compiles {acts} {r} {ts} m f =
    split_tests (λ (us : List Test). Made acts r us → AllFit us → Compiles (permit_text acts r us))
    (λ t us m f. let p = permit_says acts r t us m f in record { policies = p.policies; says = p.says; short = p.short }) ts m.some_tests m f

pub all_fit : {acts : List Word} {r : Word} {ts : List Test} → Made acts r ts → Compiles (permit_text acts r ts) → AllFit ts
unfolding OnlySizes
all_fit {acts} {r} {ts} m c =
    split_tests (λ (us : List Test). Made acts r us → Compiles (permit_text acts r us) → AllFit us) (λ t us m c. only_sizes acts r t us c.policies m c.says) ts m.some_tests m c

-- ---- all that is read

module _ (v l a r : List ℕ) where
  record ReadParts (x : Read) : Type 0 where
    vocabulary : is_vocabulary v ≡ true
    resource : is_rule_string r ≡ true
    actions : actions_read a ≡ some x.actions
    tests : tests_read v l ≡ some x.tests

  read_parts : (x : Read) → read_of v l a r ≡ some x → ReadParts x
  unfolding read_of
  read_parts x h = go (is_vocabulary v && is_rule_string r) refl h
    where
      both : (o : Option (List Word)) (p : Option (List Test)) → actions_read a ≡ o → tests_read v l ≡ p → is_vocabulary v ≡ true → is_rule_string r ≡ true → together o p ≡ some x → ReadParts x
      both none p qo qp i j h = absurd (let z : ◌≡◌ {A = ℕ} 0 1 = cc in omega arith)
      both (some acts) none qo qp i j h = absurd (let z : ◌≡◌ {A = ℕ} 0 1 = cc in omega arith)
      both (some acts) (some ts) qo qp i j h =
          let q : record { actions = acts; tests = ts } ≡ x = cc in
          record { vocabulary = i; resource = j; actions = qo ∙ ap (λ (y : Read). some y.actions) q; tests = qp ∙ ap (λ (y : Read). some y.tests) q }

      go : (t : Bool) → (is_vocabulary v && is_rule_string r) ≡ t → cond t (together (actions_read a) (tests_read v l)) none ≡ some x → ReadParts x
      go false q h = absurd (let z : ◌≡◌ {A = ℕ} 0 1 = cc in omega arith)
      go true q h = let y = (and-eq-true_iff (is_vocabulary v) (is_rule_string r)).0 q in both (actions_read a) (tests_read v l) refl refl y.0 y.1 h

  -- what is read is said, in a permit that would compile
  pub read_sound : (x : Read) → read_of v l a r ≡ some x → Lockable v l a r x.actions x.tests
  read_sound x h =
      let p = read_parts x h in
      let es = entries_sound v most 0 (omega arith) (omega arith) p.vocabulary in
      let whole_v : v ≡ es.bytes = whole_laid es.laid in
      let s = lock_sound v l p.vocabulary (λ y m. (entry_forms es.says y m).0) most 0 (omega arith) x.tests p.tests in
      let whole_l : l ≡ s.bytes = whole_laid s.laid in
      let t = actions_sound a most 0 x.actions p.actions in
      let whole_a : a ≡ t.bytes = whole_laid t.laid in
      let all : LockSays v l a r x.actions x.tests =
      record {
        entries = entries_in v most 0;
        vocabulary_says = record { in_turn = rw (← whole_v) at es.says; few = es.few; no_word_twice = es.distinct };
        written = s.written;
        lock_says = rw (← whole_l) at s.says;
        few_tests = s.few;
        meant = s.meant;
        actions_say = rw (← whole_a) at t.says;
        some_actions = t.some_one;
        few_actions = t.few;
        resource_is = test_string r p.resource;
      } in
      record { says = all; compiles = compiles (made all) s.fit }

  -- what is said, in a permit that would compile, is read
  pub read_complete : (acts : List Word) (ts : List Test) → Lockable v l a r acts ts → read_of v l a r ≡ some (record { actions = acts; tests = ts })
  unfolding read_of
  read_complete acts ts k =
      let s = k.says in
      let f = all_fit (made s) k.compiles in
      let e = entries_complete v s.vocabulary_says.in_turn 0 most (laid_whole v) s.vocabulary_says.few (omega arith) s.vocabulary_says.no_word_twice in
      let es : s.entries ≡ entries_in v most 0 = sym e.1 in
      let t : tests_read v l ≡ some ts =
      lock_complete v l e.0 (λ y m. (entry_forms s.vocabulary_says.in_turn y (rw e.1 at m)).0) (rw es at s.vocabulary_says.no_word_twice) s.lock_says
      (rw es at s.meant) f 0 most (laid_whole l) s.few_tests in
      let u : actions_read a ≡ some acts = actions_complete a s.actions_say 0 most (laid_whole a) s.some_actions s.few_actions in
      rw (e.0, string_test s.resource_is, u, t)

  -- they are read exactly as they say
  pub read_exactly : (acts : List Word) (ts : List Test) → (read_of v l a r ≡ some (record { actions = acts; tests = ts })) ↔ Lockable v l a r acts ts
  read_exactly acts ts = (read_sound (record { actions = acts; tests = ts }), read_complete acts ts)
