-- What is promised of deciding. Assumes nothing.
use Rattle.meaning.specs.declared.Marked.{Marked}
use Rattle.std.specs.Prelude.{Err, Ok, Result}
use mathlib.Core.Path.{◌≡◌, refl, subst}
use mathlib.Core.Bool.{Bool, true, false}
use mathlib.Core.List.{List}
use Prim.Native.Nat.{ℕ}
use native.Mathlib.Omega.{arith}
use Rattle.compiling.specs.Outcome.{begins_of}
use Rattle.compiling_promise.specs.Promise.{Begun, BeginsExactly}
use Rattle.compiling_promise.proofs.Promised.{begins_exactly}
use Rattle.bags.proofs.Exactly.{bag_exactly, not_a_bag}
use Rattle.bags.specs.Sections.{is_bag}
use Rattle.meaning.specs.Targets.{Request, is_system, is_subject, is_action, is_resource}
use Rattle.deciding.specs.Answers.{decide_answer, decide_said}
use Rattle.deciding.specs.Promise.{DecideCall, RequestRefused, bad_subject, bad_action, bad_resource, DecideRefused, never_the_system, bad_request, no_bag, not_compiled, none_wrong, DecideRefusedExactly, AnsweredAlike}
use Rattle.deciding.proofs.Answering.{the_system, refused_21, refused_22, refused_23, refused_24, refused_20, decided_then}

-- ---- a text and its table

module _ (text table : List ℕ) where
  pub begun : begins_of text table ≡ true → Begun text table
  unfolding BeginsExactly
  begun e = (begins_exactly text table).0 e

  pub begins_then : Begun text table → begins_of text table ≡ true
  unfolding BeginsExactly
  begins_then b = (begins_exactly text table).1 b

  pub not_begun : (Begun text table → ⊥) → begins_of text table ≡ false
  not_begun n = go (begins_of text table) refl
    where
      go : (b : Bool) → begins_of text table ≡ b → b ≡ false
      go true e = absurd (n (begun e))
      go false e = refl

  pub begins_not : begins_of text table ≡ false → Begun text table → ⊥
  begins_not e b = let k = begins_then b in let z : ◌≡◌ {A = ℕ} 0 1 = cc in omega arith

-- ---- refusals

module _ (text table bag : List ℕ) (q : Request) where
  abbrev call : DecideCall
  call = record { text = text; table = table; bag = bag; request = q }

  told : DecideRefused call (decide_said (decide_answer text table bag q)).refusal
  unfolding decide_said
  told =
      go (is_system q.subject) (is_subject q.subject) (is_action q.action) (is_resource q.resource) (is_bag bag) (begins_of text table) refl refl refl refl refl refl
    where
      go : (a b c d e f : Bool) → is_system q.subject ≡ a → is_subject q.subject ≡ b → is_action q.action ≡ c → is_resource q.resource ≡ d → is_bag bag ≡ e
          → begins_of text table ≡ f → DecideRefused call (decide_said (decide_answer text table bag q)).refusal
      go true b c d e f s t u v w x = rw (← the_system text table bag q s) (never_the_system s)
      go false false c d e f s t u v w x = rw (← refused_21 text table bag q s t) (bad_request (bad_subject s t))
      go false true false d e f s t u v w x = rw (← refused_22 text table bag q s t u) (bad_request (bad_action s t u))
      go false true true false e f s t u v w x = rw (← refused_23 text table bag q s t u v) (bad_request (bad_resource s t u v))
      go false true true true false f s t u v w x =
          rw (← refused_24 text table bag q s t u v w) (no_bag (record { other = s; subject_is = t; action_is = u; resource_is = v }) ((not_a_bag bag).0 w))
      go false true true true true false s t u v w x =
          rw (← refused_20 text table bag q s t u v w x)
          (not_compiled (record { other = s; subject_is = t; action_is = u; resource_is = v }) ((bag_exactly bag).0 w) (begins_not text table x))
      go false true true true true true s t u v w x =
          rw (← decided_then text table bag q s t u v w x)
          (none_wrong (record { other = s; subject_is = t; action_is = u; resource_is = v }) ((bag_exactly bag).0 w) (begun text table x))

  bad_request_told : {n : ℕ} → RequestRefused q n → (decide_said (decide_answer text table bag q)).refusal ≡ n
  unfolding decide_said
  bad_request_told (bad_subject s t) = rw (← refused_21 text table bag q s t)
  bad_request_told (bad_action s t u) = rw (← refused_22 text table bag q s t u)
  bad_request_told (bad_resource s t u v) = rw (← refused_23 text table bag q s t u v)

  refusal_is : {n : ℕ} → DecideRefused call n → (decide_said (decide_answer text table bag q)).refusal ≡ n
  unfolding decide_said
  refusal_is (never_the_system s) = rw (← the_system text table bag q s)
  refusal_is (bad_request r) = bad_request_told r
  refusal_is (no_bag f w) = rw (← refused_24 text table bag q f.other f.subject_is f.action_is f.resource_is ((not_a_bag bag).1 w))
  refusal_is (not_compiled f w b) =
      rw (← refused_20 text table bag q f.other f.subject_is f.action_is f.resource_is ((bag_exactly bag).1 w) (not_begun text table b))
  refusal_is (none_wrong f w b) =
      rw (← decided_then text table bag q f.other f.subject_is f.action_is f.resource_is ((bag_exactly bag).1 w) (begins_then text table b))

pub decide_refused_exactly : DecideRefusedExactly
unfolding DecideRefusedExactly
decide_refused_exactly c number =
    ((λ e. subst (DecideRefused c) e (told c.text c.table c.bag c.request)), refusal_is c.text c.table c.bag c.request)

-- a refusal gives its number, and zeros elsewhere
pub zeros_elsewhere : (a : Result Marked ℕ) → ((decide_said a).refusal ≡ 0 → ⊥) → ((decide_said a).outcome ≡ 0) × ((decide_said a).policy ≡ 0) × ((decide_said a).mark ≡ 0)
unfolding decide_said
zeros_elsewhere (Ok m) n = absurd (n refl)
zeros_elsewhere (Err number) n = (refl, refl, refl)

-- ---- what a text says

pub answered_alike : AnsweredAlike
unfolding AnsweredAlike decide_answer
answered_alike text text' table table' bag q same version b b' = rw (begins_then text table b, begins_then text' table' b', same, version)
