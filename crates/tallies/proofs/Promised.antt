-- What is promised of the tally's requests and refusals holds. Assumes nothing.
use mathlib.Core.Path.{◌≡◌, refl, sym, ap, ◌∙◌, subst}
use mathlib.Core.Bool.{Bool, true, false, cond, ◌&&◌}
use mathlib.Core.List.{List, [], ◌∷◌, ◌++◌}
use Prim.Native.Nat.{ℕ, zero, suc, ◌≤◌, ◌<◌}
use native.Mathlib.Omega.{arith}
use borrow.Author.Tests.{leb-true, leb-false, le-leb, lt-leb}
use lib.Dec.{leb}
use lib.ListN.{length, get_or, take, drop, length-append, take-append-drop}
use lib.Seq.{length-take-le, take-append_seam, drop-append_seam}
use Rattle.compiling.specs.Outcome.{begins_of}
use Rattle.bags.specs.Forms.{Contents}
use Rattle.questions.specs.Questions.{is_question}
use Rattle.questions.specs.Forms.{Column, QuestionBytes}
use Rattle.questions.proofs.Exactly.{question_exactly, not_a_question}
use Rattle.meaning.specs.Targets.{Request, is_system, is_subject, is_action, is_resource}
use Rattle.deciding.specs.Promise.{Wellformed, RequestRefused, bad_subject, bad_action, bad_resource}
use Rattle.deciding.proofs.Promised.{begun, begins_then, not_begun, begins_not}
use Rattle.meaning.specs.Decisions.{Numbered, first, later}
use Rattle.sheets.specs.Sheets.{sections_in, request_refusal, unless}
use Rattle.tallies.specs.Lent.{lent_part, behind_lent_part, requests_of}
use Rattle.tallies.specs.Tallies.{group_count, first_refusal, tallied_of, tally_refusal, counts_after}
use Rattle.tallies.specs.Promise as promise
use Rattle.tallies.specs.Promise.{TallyCall, PartLent, whole, missing, Lent, more, Passes, the_system, none_wrong, FirstRefused, none_refused, passed, bad_request, not_compiled}
use Rattle.tallies.specs.Promise.{TallyRefused, no_request, too_many, no_question, by_request, TallyRefusedExactly, OneLent}

-- ---- how requests are lent

part_by : (n : ℕ) (bytes : List ℕ) (b : Bool) → leb n (length bytes) ≡ b → PartLent (n ∷ bytes) (cond b (take n bytes) []) (cond b (drop n bytes) [])
part_by n bytes true e =
    let long : length (take n bytes) ≡ n = length-take-le n bytes (leb-true n (length bytes) e) in
    subst (λ (k : ℕ). PartLent (k ∷ bytes) (take n bytes) (drop n bytes)) long
    (subst (λ (l : List ℕ). PartLent (length (take n bytes) ∷ l) (take n bytes) (drop n bytes)) (take-append-drop n bytes) whole)
part_by n bytes false e = missing (λ part rest q.
    let l : length bytes < n = leb-false n (length bytes) e in
    let a : n ≡ length part = ap (λ (l : List ℕ). get_or l 0 0) q in
    let b : bytes ≡ part ++ rest = ap (drop 1) q in
    omega (arith, ap length b ∙ length-append part rest))

-- what is read is a part, and what stands behind it
part_read : (bytes : List ℕ) → PartLent bytes (lent_part bytes) (behind_lent_part bytes)
unfolding lent_part behind_lent_part
part_read [] = missing {bytes = []} (λ part rest q. let z = ap length q in omega (arith, z))
part_read (n ∷ bytes) = part_by n bytes (leb n (length bytes)) refl

there_or_not : (n : ℕ) (bytes : List ℕ) → ((part rest : List ℕ) → n ∷ bytes ≡ length part ∷ part ++ rest → ⊥) → (b : Bool) → leb n (length bytes) ≡ b → b ≡ false
there_or_not n bytes h false e = refl
there_or_not n bytes h true e =
    let long : length (take n bytes) ≡ n = length-take-le n bytes (leb-true n (length bytes) e) in
    let all : take n bytes ++ drop n bytes ≡ bytes = take-append-drop n bytes in
    absurd (h (take n bytes) (drop n bytes) (rw (long, all)))

-- there is one
part_one : {bytes part rest : List ℕ} → PartLent bytes part rest → (part ≡ lent_part bytes) × (rest ≡ behind_lent_part bytes)
unfolding lent_part behind_lent_part
part_one (whole {part = part} {rest = rest}) =
    let l : length part ≤ length (part ++ rest) = omega (arith, length-append part rest) in
    rw (le-leb (length part) (length (part ++ rest)) l) (sym (take-append_seam part rest), sym (drop-append_seam part rest))
part_one (missing {bytes = []} h) = (refl, refl)
part_one (missing {bytes = n ∷ bytes} h) = rw (there_or_not n bytes h (leb n (length bytes)) refl) (refl, refl)

lent_read : (n : ℕ) (bytes : List ℕ) → Lent n bytes (requests_of n bytes)
unfolding requests_of
lent_read zero bytes = promise.none
lent_read (suc n) bytes =
    more (part_read bytes) (part_read (behind_lent_part bytes)) (part_read (behind_lent_part (behind_lent_part bytes))) (lent_read n (behind_lent_part (behind_lent_part (behind_lent_part bytes))))

both : {x y : Request} {xs ys : List Request} → x ≡ y → xs ≡ ys → x ∷ xs ≡ y ∷ ys
both p q = cc

pub lent_once : {n : ℕ} {bytes : List ℕ} {qs : List Request} → Lent n bytes qs → qs ≡ requests_of n bytes
unfolding requests_of
lent_once promise.none = refl
lent_once (more {n = n} {bytes = bytes} {behind = behind} {behind' = behind'} s a r l) =
    let e = part_one s in
    let f = part_one a in
    let g = part_one r in
    let b : behind ≡ behind_lent_part bytes = e.1 in
    let b' : behind' ≡ behind_lent_part (behind_lent_part bytes) = f.1 ∙ ap behind_lent_part b in
    let action = f.0 ∙ ap lent_part b in
    let resource = g.0 ∙ ap lent_part b' in
    both (λ i. record { subject = e.0 i; action = action i; resource = resource i }) (lent_once l ∙ ap (requests_of n) (g.1 ∙ ap behind_lent_part b'))

pub one_lent : OneLent
unfolding OneLent
one_lent n bytes = (requests_of n bytes, lent_read n bytes, λ others l. lent_once l)

-- ---- the refusals

module _ (text table : List ℕ) where
  module _ (q : Request) (qs : List Request) (m : ℕ) (others : FirstRefused text table qs m) where
    by_table : Wellformed q → (b : Bool) → begins_of text table ≡ b → FirstRefused text table (q ∷ qs) (unless (cond b 0 20) m (λ n. n))
    unfolding unless
    by_table form true e = passed (none_wrong form (begun text table e)) others
    by_table form false e = not_compiled form (begins_not text table e)

    by_tests : (a : Bool) → is_system q.subject ≡ a → (b : Bool) → is_subject q.subject ≡ b → (c : Bool) → is_action q.action ≡ c → (d : Bool) → is_resource q.resource ≡ d
        → FirstRefused text table (q ∷ qs) (unless (cond a 0 (cond b (cond c (cond d (cond (begins_of text table) 0 20) 23) 22) 21)) m (λ n. n))
    unfolding unless
    by_tests true e b f c g d h = passed (the_system e) others
    by_tests false e false f c g d h = bad_request (bad_subject e f)
    by_tests false e true f false g d h = bad_request (bad_action e f g)
    by_tests false e true f true g false h = bad_request (bad_resource e f g h)
    by_tests false e true f true g true h = by_table (record { other = e; subject_is = f; action_is = g; resource_is = h }) (begins_of text table) refl

    first_more : FirstRefused text table (q ∷ qs) (unless (request_refusal text table q) m (λ n. n))
    unfolding request_refusal
    first_more = by_tests (is_system q.subject) refl (is_subject q.subject) refl (is_action q.action) refl (is_resource q.resource) refl

  first_read : (qs : List Request) → FirstRefused text table qs (first_refusal text table qs)
  unfolding first_refusal
  first_read [] = none_refused
  first_read (q ∷ qs) = first_more q qs (first_refusal text table qs) (first_read qs)

  pub accepted_none : {q : Request} → Passes text table q → request_refusal text table q ≡ 0
  unfolding request_refusal
  accepted_none (the_system e) = rw e
  accepted_none (none_wrong f b) = rw (f.other, f.subject_is, f.action_is, f.resource_is, begins_then text table b)

  request_told : {q : Request} {n : ℕ} (m : ℕ) → RequestRefused q n → unless (request_refusal text table q) m (λ n. n) ≡ n
  unfolding request_refusal unless
  request_told m (bad_subject e f) = rw (e, f)
  request_told m (bad_action e f g) = rw (e, f, g)
  request_told m (bad_resource e f g h) = rw (e, f, g, h)

  pub first_told : {qs : List Request} {n : ℕ} → FirstRefused text table qs n → first_refusal text table qs ≡ n
  unfolding first_refusal unless request_refusal
  first_told none_refused = refl
  first_told (passed a f) = rw (accepted_none a) (first_told f)
  first_told (bad_request {qs = qs} r) = request_told (first_refusal text table qs) r
  first_told (not_compiled f n) = rw (f.other, f.subject_is, f.action_is, f.resource_is, not_begun text table n)

module _ (c : TallyCall) where
  abbrev refusal : ℕ
  refusal = tally_refusal c.text c.table c.question c.many c.requests

  none_lent : c.many < 1 → TallyRefused c 27
  none_lent h = no_request (omega arith)

  refused_as : TallyRefused c refusal
  unfolding tally_refusal
  refused_as = go (leb 1 c.many) refl (leb c.many group_count) refl (is_question c.question) refl
    where
      go : (a : Bool) → leb 1 c.many ≡ a → (b : Bool) → leb c.many group_count ≡ b → (d : Bool) → is_question c.question ≡ d
          → TallyRefused c (cond (a && b) (cond d (first_refusal c.text c.table (requests_of c.many c.requests)) 24) 27)
      go false e b f d g = none_lent (leb-false 1 c.many e)
      go true e false f d g = too_many (leb-false c.many group_count f)
      go true e true f false g = no_question (leb-true 1 c.many e) (leb-true c.many group_count f) ((not_a_question c.question).0 g)
      go true e true f true g =
          let w = (question_exactly c.question).0 g in
          by_request (leb-true 1 c.many e) (leb-true c.many group_count f) w.1.1 (lent_read c.many c.requests)
          (first_read c.text c.table (requests_of c.many c.requests))

  told : {n : ℕ} → TallyRefused c n → refusal ≡ n
  unfolding tally_refusal
  told (no_request e) = let h : c.many < 1 = omega arith in rw (lt-leb 1 c.many h)
  told (too_many h) = let l : 1 ≤ c.many = omega arith in rw (le-leb 1 c.many l, lt-leb c.many group_count h)
  told (no_question h l e) = rw (le-leb 1 c.many h, le-leb c.many group_count l, (not_a_question c.question).1 e)
  told (by_request {base = base} {columns = columns} {qs = qs} h l w q f) =
      rw (le-leb 1 c.many h, le-leb c.many group_count l, (question_exactly c.question).1 (base, (columns, w)), ← lent_once q)
      (first_told c.text c.table f)

pub tally_refused_exactly : TallyRefusedExactly
unfolding TallyRefusedExactly
tally_refused_exactly c number = (λ e. subst (TallyRefused c) e (refused_as c), told c)

-- ---- a call that is not refused

pub requests_many : (n : ℕ) (bytes : List ℕ) → length (requests_of n bytes) ≡ n
unfolding requests_of
requests_many zero bytes = refl
requests_many (suc n) bytes = ap suc (requests_many n (behind_lent_part (behind_lent_part (behind_lent_part bytes))))

-- every request is accepted
pub all_accepted : {text table : List ℕ} {qs : List Request} {n : ℕ} → FirstRefused text table qs n → n ≡ 0 → {k : ℕ} {q : Request} → Numbered k q qs → Passes text table q
all_accepted (passed a f) z first = a
all_accepted (passed a f) z (later i) = all_accepted f z i
all_accepted (bad_request (bad_subject e f)) z i = absurd (omega arith)
all_accepted (bad_request (bad_action e f g)) z i = absurd (omega arith)
all_accepted (bad_request (bad_resource e f g h)) z i = absurd (omega arith)
all_accepted (not_compiled f n) z i = absurd (omega arith)
all_accepted none_refused z i = elim i [ ]

-- what it is about
pub record TallyHeard (c : TallyCall) : Type 0 where
  pub few : c.many ≤ group_count
  pub base : Contents
  pub columns : List Column
  pub question_says : QuestionBytes c.question base columns
  pub lent : Lent c.many c.requests (requests_of c.many c.requests)
  pub accepted : {k : ℕ} {q : Request} → Numbered k q (requests_of c.many c.requests) → Passes c.text c.table q

heard_by : (c : TallyCall) {n : ℕ} → n ≡ 0 → TallyRefused c n → TallyHeard c
heard_by c z (no_request e) = absurd (omega arith)
heard_by c z (too_many h) = absurd (omega arith)
heard_by c z (no_question h l e) = absurd (omega arith)
heard_by c z (by_request {base = base} {columns = columns} h l w q f) = record {
  few = l;
  base = base;
  columns = columns;
  question_says = w;
  lent = lent_read c.many c.requests;
  accepted = λ i. all_accepted f z (rw (← lent_once q) at i);
}

pub tally_heard : (c : TallyCall) → tally_refusal c.text c.table c.question c.many c.requests ≡ 0 → TallyHeard c
tally_heard c e = heard_by c e (refused_as c)

pub counts_there : (text table s : List ℕ) (many : ℕ) (requests counts : List ℕ) → tally_refusal text table s many requests ≡ 0
    → counts_after text table s many requests counts ≡ tallied_of text table s (sections_in s) (requests_of many requests)
unfolding counts_after unless
counts_there text table s many requests counts e = rw e

-- ---- a refusal changes nothing

stays_by : (n : ℕ) (a b : List ℕ) → (n ≡ 0 → ⊥) → unless n a (λ _. b) ≡ b
unfolding unless
stays_by zero a b h = absurd (h refl)
stays_by (suc n) a b h = refl

pub nothing_changed : (text table s : List ℕ) (many : ℕ) (requests counts : List ℕ) → (tally_refusal text table s many requests ≡ 0 → ⊥)
    → counts_after text table s many requests counts ≡ counts
unfolding counts_after
nothing_changed text table s many requests counts h = stays_by (tally_refusal text table s many requests) _ counts h
