-- What the desk promises of locks. Assumes nothing.
use mathlib.Core.Path.{◌≡◌, refl, sym, ap, ◌∙◌, subst}
use mathlib.Core.Logic.Iff
use mathlib.Core.Logic.{◌⊎◌, inl, inr, ⊎_elim, ◌↔◌}
use mathlib.Core.Bool.{Bool, true, false, false≢true}
use mathlib.Core.List.{List, [], ◌∷◌, ◌++◌, map, Memᴰ}
use Prim.Native.Nat.{ℕ, suc, ◌≤◌, ◌<◌}
use native.Mathlib.Omega.{arith}
use lib.ListN.{length, drop}
use Rattle.grammar.specs.Policies.{Policy, PolicyOf, text, one_of, pinned, any}
use Rattle.grammar.specs.declared.Version.{Version}
use Rattle.grammar.specs.declared.Version.TheVariants.{First, Second}
use Rattle.placing.specs.Said.{Word, words_of}
use Rattle.table.specs.Recorded.{recorded}
use Rattle.compiling.specs.Outcome.{room_for}
use Rattle.tokens.specs.Sizes.{most_text_bytes}
use Rattle.bags.specs.Forms.{Contents, BagBytes}
use Rattle.bags.proofs.Exactly.{one_bag}
use Rattle.views.specs.Meaning.{View, as_bag, look}
use Rattle.meaning.specs.Targets.{Request, is_system}
use Rattle.meaning.specs.Decisions.{Terms, under, satisfied, Numbered, first, later, SatisfiedAs, SomeSatisfied}
use Rattle.deciding.specs.Promise.{DecideCall}
use Rattle.permits.specs.Permits.{Test, permit_text, permit_policy}
use Rattle.permits.specs.Meaning.{LockHolds, Made}
use Rattle.permits.specs.Promise.{AllFit, PermitSays, PermitMeans}
use Rattle.permits.proofs.Says.{permit_says}
use Rattle.permits.proofs.Means.{permit_means}
use Rattle.locks.specs.Forms.{Lockable}
use Rattle.locks.specs.Promise.{LockCall, Answers, no_lock, no_room, permit, answer_to, room_left, permit_for, AnsweredExactly, RoomUnchanged, PermitStands, OneLock}
use Rattle.locks.specs.Answers.{LockAnswer}
use Rattle.std.specs.Prelude.{Ok, Err}
use Rattle.locks.proofs.Exactly.{made, all_fit}
use Rattle.locks.proofs.Promised as locks
use Rattle.desk.specs.Answers.{locked_as, lock_says, lock_for, lock_room, decide_says, compile_says}
use Rattle.desk.specs.Promises.{Says, Belongs, Yes, allowed, system, Granted, OutcomeIs, by_permit, by_forbid, by_none, by_system, SaysLock, TheLock, LockRefused}
use Rattle.desk.specs.Promises as promises
use Rattle.desk.proofs.TextsPromised as texts
use Rattle.desk.proofs.RequestsPromised as requests

-- ---- refusals

-- what is answered, in the desk's numbers
answers : (c : LockCall) → Answers c (answer_to c)
unfolding AnsweredExactly
answers c = (locks.answered_exactly c (answer_to c)).0 refl

numbered : (c : LockCall) {a : LockAnswer} → Answers c a → LockRefused c (locked_as a).refusal
unfolding locked_as
numbered c (no_lock n) = promises.no_lock n
numbered c (no_room s h) = promises.longer_than_its_room s h
numbered c (permit s h) = promises.none_wrong s h

refused_is : (c : LockCall) {number : ℕ} → LockRefused c number → (lock_for c).refusal ≡ number
unfolding lock_says locked_as AnsweredExactly
refused_is c (promises.no_lock n) = ap (λ (a : LockAnswer). (locked_as a).refusal) ((locks.answered_exactly c _).1 (no_lock n))
refused_is c (promises.longer_than_its_room s h) = ap (λ (a : LockAnswer). (locked_as a).refusal) ((locks.answered_exactly c _).1 (no_room s h))
refused_is c (promises.none_wrong s h) = ap (λ (a : LockAnswer). (locked_as a).refusal) ((locks.answered_exactly c _).1 (permit s h))

pub lock_exactly : (c : LockCall) (number : ℕ) → ((lock_for c).refusal ≡ number) ↔ LockRefused c number
unfolding lock_says
lock_exactly c number = ((λ q. rw q at (numbered c (answers c))), refused_is c)

pub lock_refusals : (c : LockCall) → Memᴰ (lock_for c).refusal (0 ∷ 28 ∷ 29 ∷ [])
lock_refusals c = go ((lock_exactly c (lock_for c).refusal).0 refl)
  where
    go : {n : ℕ} → LockRefused c n → Memᴰ n (0 ∷ 28 ∷ 29 ∷ [])
    go (promises.no_lock n) = Memᴰ.tail (Memᴰ.head refl)
    go (promises.longer_than_its_room s h) = Memᴰ.tail (Memᴰ.tail (Memᴰ.head refl))
    go (promises.none_wrong s h) = Memᴰ.head refl

-- an answer that is a refusal
refused : (a : LockAnswer) → ((locked_as a).refusal ≡ 0 → ⊥) → (number : ℕ) × (a ≡ Err number)
unfolding locked_as
refused (Ok n) h = absurd (h refl)
refused (Err n) h = (n, refl)

pub lock_stays : (c : LockCall) → ((lock_for c).refusal ≡ 0 → ⊥) → lock_room c ≡ c.room
unfolding lock_says RoomUnchanged
lock_stays c h = let r = refused (answer_to c) h in locks.nothing_changed c r.0 r.1

pub lock_zeros : (c : LockCall) → ((lock_for c).refusal ≡ 0 → ⊥) → (lock_for c).length ≡ 0
unfolding lock_says locked_as
lock_zeros c h = let r = refused (answer_to c) h in ap (λ (a : LockAnswer). (locked_as a).length) r.1

pub one_lock : (c : LockCall) (actions actions' : List Word) (tests tests' : List Test) → SaysLock c actions tests → SaysLock c actions' tests'
    → (actions ≡ actions') × (tests ≡ tests')
unfolding OneLock
one_lock c acts acts' ts ts' = locks.one_lock c.vocabulary c.lock c.actions c.resource acts acts' ts ts'

-- ---- one policy that is a permit

module _ (terms : Terms) (q : Request) (p : PolicyOf Word) (is_permit : p.permits ≡ true) where
  one_satisfied : SomeSatisfied terms q (p ∷ []) true → satisfied terms q p ≡ true
  one_satisfied s = go s.satisfied_as.numbered s.satisfied_as.satisfied_there
    where
      go : {n : ℕ} {r : PolicyOf Word} → Numbered n r (p ∷ []) → satisfied terms q r ≡ true → satisfied terms q p ≡ true
      go first e = e
      go (later m) e = elim m [ ]

  satisfied_one : satisfied terms q p ≡ true → SomeSatisfied terms q (p ∷ []) true
  satisfied_one e = record { number = 1; satisfied_as = record { policy = p; numbered = first; effect = is_permit; satisfied_there = e } }

  none_forbids : SomeSatisfied terms q (p ∷ []) false → ⊥
  none_forbids s = go s.satisfied_as.numbered s.satisfied_as.effect
    where
      go : {n : ℕ} {r : PolicyOf Word} → Numbered n r (p ∷ []) → r.permits ≡ false → ⊥
      go first e = false≢true (sym e ∙ is_permit)
      go (later m) e = elim m [ ]

-- a text with one permit: what is decided over a bag
module _ (t : List ℕ) (ps : List Policy) (says : Says t ps) (p : PolicyOf Word) (one : words_of t ps ≡ p ∷ []) (is_permit : p.permits ≡ true) where
  decided_by_one : (table bag : List ℕ) (contents : Contents) (q : Request) → (decide_says t table bag q).refusal ≡ 0 → BagBytes bag contents → is_system q.subject ≡ false
      → ((decide_says t table bag q).outcome ≡ 1) ↔ (satisfied (under (recorded table) (look (as_bag contents))) q p ≡ true)
  decided_by_one table bag contents q r w n = (to, from)
    where
      c : DecideCall
      c = record { text = t; table = table; bag = bag; request = q }

      terms : Terms
      terms = under (recorded table) (look (as_bag contents))

      granted : Granted (recorded table) t bag q → satisfied terms q p ≡ true
      granted g =
          let e : g.policies ≡ ps = texts.one_reading t g.policies ps g.says says in
          let b : g.contents ≡ contents = one_bag g.bag_says w in
          one_satisfied terms q p is_permit (rw (e, one, b) at g.permit)

      to : (decide_says t table bag q).outcome ≡ 1 → satisfied terms q p ≡ true
      to h = ⊎_elim (λ (s : is_system q.subject ≡ true). absurd (false≢true (sym n ∙ s))) granted ((requests.yes_exactly c r).0 (allowed h))

      only_one : {o k : ℕ} → OutcomeIs t terms q o k → Yes o → o ≡ 1
      only_one (by_permit a b x y) h = refl
      only_one (by_forbid a b x) (allowed h) = h
      only_one (by_forbid a b x) (system h) = absurd (omega arith)
      only_one (by_none a b x y) (allowed h) = h
      only_one (by_none a b x y) (system h) = absurd (omega arith)
      only_one (by_system s) h = absurd (false≢true (sym n ∙ s))

      grants : satisfied terms q p ≡ true → Granted (recorded table) t bag q
      grants e =
          record {
            policies = ps;
            says = says;
            contents = contents;
            bag_says = w;
            permit = rw one (satisfied_one terms q p is_permit e);
            no_forbid = λ s. none_forbids terms q p is_permit (rw one at s);
          }

      from : satisfied terms q p ≡ true → (decide_says t table bag q).outcome ≡ 1
      from e = only_one (requests.outcome_rightly c contents r w) ((requests.yes_exactly c r).1 (inr (grants e)))

-- two tests that are passed exactly when the same holds are the same
same_truth : {P : Type 0} (a b : Bool) → (a ≡ true) ↔ P → (b ≡ true) ↔ P → a ≡ b
same_truth true b f g = sym (g.1 (f.0 refl))
same_truth false true f g = f.1 (g.0 refl)
same_truth false false f g = refl

-- ---- the lock

module _ (c : LockCall) where
  the_lock_of : (actions : List Word) (t : Test) (ts : List Test) → (lock_for c).refusal ≡ 0 → SaysLock c actions (t ∷ ts) → TheLock c actions (t ∷ ts)
  unfolding PermitSays PermitMeans PermitStands permit_policy AnsweredExactly lock_says locked_as
  the_lock_of actions t ts h s =
      let m = made s.says in
      let k = permit_says actions c.resource t ts m (all_fit m s.compiles) in
      let p : PolicyOf Word = permit_policy actions c.resource t ts in
      let y : Says (permit_for c actions (t ∷ ts)) k.policies = record { short = k.short; belongs = k.says } in
      let i = fits s ((lock_exactly c 0).0 h) in
      let e : (version : Version) (view : View) (q : Request) → (satisfied (under version view) q p ≡ true) ↔ LockHolds view q actions c.resource (t ∷ ts) =
      λ version view q. permit_means version view q actions c.resource t ts in
      record {
        long = ap (λ (a : LockAnswer). (locked_as a).length) ((locks.answered_exactly c _).1 (permit s i));
        written = locks.permit_stands c actions (t ∷ ts) s i;
        compiles = λ version table r. (texts.accepted_exactly version (permit_for c actions (t ∷ ts)) table r).1 (record { policies = k.policies; says = y });
        policies = k.policies;
        says = y;
        policy = p;
        one_policy = k.words;
        permits = refl;
        any_principal = refl;
        these_actions = refl;
        pinned_there = refl;
        satisfied_exactly = e;
        over_bag = λ version contents q. e version (look (as_bag contents)) q;
        over_row = λ version base columns choices q. e version (promises.attributes base columns choices) q;
        agree = λ view q. same_truth _ _ (e First view q) (e Second view q);
        decided = λ table bag contents q r w n.
            Iff.trans (decided_by_one (permit_for c actions (t ∷ ts)) k.policies y p k.words refl table bag contents q r w n) (e (recorded table) (look (as_bag contents)) q);
      }
    where
      fits : {us : List Test} → SaysLock c actions us → LockRefused c 0 → length (permit_for c actions us) ≤ length c.room
      fits s (promises.none_wrong u i) = let e = one_lock c _ _ _ _ u s in rw (e.0, e.1) at i

  pub the_lock : (actions : List Word) (tests : List Test) → (lock_for c).refusal ≡ 0 → SaysLock c actions tests → TheLock c actions tests
  the_lock actions [] h s = absurd (omega (arith, (made s.says).some_tests))
  the_lock actions (t ∷ ts) h s = the_lock_of actions t ts h s
