-- Demand 2: who gets yes, and which policy the answer names. Assumes nothing.
use mathlib.Core.Path.{◌≡◌, refl, sym, ◌∙◌, ap}
use mathlib.Core.Logic.{◌⊎◌, inl, inr, ⊎_elim, ◌↔◌}
use mathlib.Core.Bool.{Bool, true, false, cond, not, false≢true, and-eq-true_iff}
use mathlib.Core.List.{List, [], ◌∷◌}
use Prim.Native.Nat.{ℕ, zero, suc, ◌+◌, ◌<◌, ◌≤◌}
use native.Mathlib.Omega.{arith}
use lib.ListN.{length}
use borrow.Author.Tests.{not-true}
use Rattle.grammar.specs.Policies.{PolicyOf}
use Rattle.placing.specs.Said.{Word}
use Rattle.meaning.specs.Targets.{Request, is_system}
use Rattle.meaning.specs.Decisions.{Terms, satisfied, first_of, by_numbers, forbids, permits, policies_decide, decision_of, policy_of, is_allowed, Numbered, first, later, SatisfiedAs, SomeSatisfied, LowestSatisfied, YesExactly, NamesPolicy, the_system, a_forbid, a_permit, none_named, NamedRightly, OneName}
use Rattle.meaning.specs.declared.Decision.{Decision}
use Rattle.meaning.specs.declared.Decision.TheVariants.{Allowed, Forbidden, Nothing, System}

pub never : {b : Bool} → b ≡ false → b ≡ true → ⊥
never e f = false≢true (sym e ∙ f)

-- ---- the first policy that passes a test

split : {A : Type 0} {m : ℕ} {p q : A} {ps : List A} → Numbered m q (p ∷ ps) → (q ≡ p) ⊎ ((l : ℕ) × (m ≡ suc l) × Numbered l q ps)
split first = inl refl
split (later {n} h) = inr (n, refl, h)

-- a policy's number is from 1 on, up to how many there are
pub numbered_some : {A : Type 0} {m : ℕ} {p : A} {ps : List A} → Numbered m p ps → 0 < m
numbered_some first = omega arith
numbered_some (later h) = omega arith

pub numbered_few : {A : Type 0} {m : ℕ} {p : A} {ps : List A} → Numbered m p ps → m ≤ length ps
numbered_few first = omega arith
numbered_few (later h) = let l = numbered_few h in omega arith

pub nowhere : {A : Type 0} {m : ℕ} {p : A} → Numbered m p [] → ⊥
nowhere = elim [ ]

module _ {A : Type 0} (test : A → Bool) where
  -- k is 0 where no policy of ps passes, else n and the lowest number of one that does
  data First (n : ℕ) (ps : List A) (k : ℕ) : Type 0 where
    nobody : k ≡ 0 → ((m : ℕ) (p : A) → Numbered m p ps → test p ≡ true → ⊥) → First n ps k
    somebody : (m : ℕ) (p : A) → k ≡ n + m → Numbered m p ps → test p ≡ true → ((l : ℕ) (q : A) → Numbered l q ps → test q ≡ true → m ≤ l) → First n ps k

  -- a policy more before the others, which does not pass
  passed_over : {n k : ℕ} {p : A} {ps : List A} → test p ≡ false → First (suc n) ps k → First n (p ∷ ps) k
  passed_over e (nobody z f) =
      nobody z (λ m q h t. ⊎_elim (λ (s : q ≡ _). never e (ap test (sym s) ∙ t)) (λ w. f w.0 q w.2 t) (split h))
  passed_over {p = p} {ps = ps} e (somebody m r k h t low) = somebody (suc m) r (omega arith) (later h) t (λ l q g u. lowest l q (split g) u)
    where
      lowest : (l : ℕ) (q : A) → (q ≡ p) ⊎ ((j : ℕ) × (l ≡ suc j) × Numbered j q ps) → test q ≡ true → suc m ≤ l
      lowest l q (inl s) u = absurd (never e (ap test (sym s) ∙ u))
      lowest l q (inr w) u = let j : m ≤ w.0 = low w.0 q w.2 u in let s : l ≡ suc w.0 = w.1 in omega arith

  first_of_lem : (n : ℕ) (ps : List A) → First n ps (first_of test (suc n) ps)
  unfolding first_of
  first_of_lem n [] = nobody refl (λ m p h t. nowhere h)
  first_of_lem n (p ∷ ps) = go (test p) refl (first_of_lem (suc n) ps)
    where
      go : (b : Bool) → test p ≡ b → First (suc n) ps (first_of test (suc (suc n)) ps) → First n (p ∷ ps) (cond b (suc n) (first_of test (suc (suc n)) ps))
      go true e f = somebody 1 p (omega arith) first e (λ l q h t. numbered_some h)
      go false e f = passed_over e f

-- ---- satisfied forbids and permits

module _ (terms : Terms) (q : Request) (ps : List (PolicyOf Word)) where
  -- a test that says: a policy of this effect, and satisfied
  record Tells (permits : Bool) (test : PolicyOf Word → Bool) : Type 0 where
    tells : (p : PolicyOf Word) → test p ≡ true → (p.permits ≡ permits) × (satisfied terms q p ≡ true)
    sees : (p : PolicyOf Word) → p.permits ≡ permits → satisfied terms q p ≡ true → test p ≡ true

  forbids_tell : Tells false (forbids terms q)
  forbids_tell = record {
    tells = λ p e. let w = (and-eq-true_iff (not p.permits) (satisfied terms q p)).0 e in (not-true p.permits w.0, w.1);
    sees = λ p e f. (and-eq-true_iff (not p.permits) (satisfied terms q p)).1 (ap not e, f);
  }

  permits_tell : Tells true (permits terms q)
  permits_tell = record {
    tells = λ p e. (and-eq-true_iff p.permits (satisfied terms q p)).0 e;
    sees = λ p e f. (and-eq-true_iff p.permits (satisfied terms q p)).1 (e, f);
  }

  module _ {effect : Bool} {test : PolicyOf Word → Bool} (w : Tells effect test) where
    satisfied_as : {m : ℕ} {p : PolicyOf Word} → Numbered m p ps → test p ≡ true → SatisfiedAs terms q ps effect m
    satisfied_as {p = p} h e = record { policy = p; numbered = h; effect = (w.tells p e).0; satisfied_there = (w.tells p e).1 }

    -- no policy of the effect is satisfied, or there is a lowest number of one
    none_bites : ((m : ℕ) (p : PolicyOf Word) → Numbered m p ps → test p ≡ true → ⊥) → SomeSatisfied terms q ps effect → ⊥
    none_bites f s = let b = s.satisfied_as in f s.number b.policy b.numbered (w.sees b.policy b.effect b.satisfied_there)

    lowest_bites : {m : ℕ} {p : PolicyOf Word} → Numbered m p ps → test p ≡ true → ((l : ℕ) (r : PolicyOf Word) → Numbered l r ps → test r ≡ true → m ≤ l) → LowestSatisfied terms q ps effect m
    lowest_bites h e low =
        record { satisfied_as = satisfied_as h e; lowest = λ l b. low l b.policy b.numbered (w.sees b.policy b.effect b.satisfied_there) }

-- ---- the decision

pub by_none : (f g : ℕ) → f ≡ 0 → g ≡ 0 → by_numbers f g ≡ Nothing
unfolding by_numbers
by_none zero zero e h = refl
by_none zero (suc g) e h = absurd (omega arith)
by_none (suc f) g e h = absurd (omega arith)

pub by_permit : (f g : ℕ) → f ≡ 0 → 0 < g → by_numbers f g ≡ Allowed g
unfolding by_numbers
by_permit zero zero e h = absurd (omega arith)
by_permit zero (suc g) e h = refl
by_permit (suc f) g e h = absurd (omega arith)

pub by_forbid : (f g : ℕ) → 0 < f → by_numbers f g ≡ Forbidden f
unfolding by_numbers
by_forbid zero g h = absurd (omega arith)
by_forbid (suc f) g h = refl

-- what is decided, and why
data Decided (terms : Terms) (q : Request) (ps : List (PolicyOf Word)) (d : Decision) : Type 0 where
  by_system : is_system q.subject ≡ true → d ≡ System → Decided terms q ps d
  by_a_forbid : (n : ℕ) → is_system q.subject ≡ false → LowestSatisfied terms q ps false n → d ≡ Forbidden n → Decided terms q ps d
  by_a_permit : (n : ℕ) → is_system q.subject ≡ false → (SomeSatisfied terms q ps false → ⊥) → LowestSatisfied terms q ps true n → d ≡ Allowed n → Decided terms q ps d
  by_nobody : is_system q.subject ≡ false → (SomeSatisfied terms q ps false → ⊥) → (SomeSatisfied terms q ps true → ⊥) → d ≡ Nothing → Decided terms q ps d

module _ (terms : Terms) (q : Request) (ps : List (PolicyOf Word)) where
  others : (f g : ℕ) → is_system q.subject ≡ false → First (forbids terms q) 0 ps f → First (permits terms q) 0 ps g → Decided terms q ps (by_numbers f g)
  others f g s (somebody m p k h e low) r = by_a_forbid m s (lowest_bites terms q ps (forbids_tell terms q ps) h e low)
      (let z = numbered_some h in let l : f ≡ m = omega arith in by_forbid f g (omega arith) ∙ ap Forbidden l)
  others f g s (nobody z n) (somebody m p k h e low) =
      by_a_permit m s (none_bites terms q ps (forbids_tell terms q ps) n) (lowest_bites terms q ps (permits_tell terms q ps) h e low)
      (let y = numbered_some h in let l : g ≡ m = omega arith in by_permit f g z (omega arith) ∙ ap Allowed l)
  others f g s (nobody z n) (nobody y o) =
      by_nobody s (none_bites terms q ps (forbids_tell terms q ps) n) (none_bites terms q ps (permits_tell terms q ps) o) (by_none f g z y)

  decided : Decided terms q ps (decision_of terms q ps)
  unfolding decision_of policies_decide
  decided = go (is_system q.subject) refl
    where
      go : (b : Bool) → is_system q.subject ≡ b
          → Decided terms q ps (cond b System (by_numbers (first_of (forbids terms q) 1 ps) (first_of (permits terms q) 1 ps)))
      go true e = by_system e refl
      go false e = others _ _ e (first_of_lem (forbids terms q) 0 ps) (first_of_lem (permits terms q) 0 ps)

-- ---- demand 2

-- the lowest number is one
same_lowest : {terms : Terms} {q : Request} {ps : List (PolicyOf Word)} {effect : Bool} {m n : ℕ} → LowestSatisfied terms q ps effect m → LowestSatisfied terms q ps effect n → m ≡ n
same_lowest {m = m} {n = n} a b = let x : m ≤ n = a.lowest n b.satisfied_as in let y : n ≤ m = b.lowest m a.satisfied_as in omega arith

some_of : {terms : Terms} {q : Request} {ps : List (PolicyOf Word)} {effect : Bool} {n : ℕ} → LowestSatisfied terms q ps effect n → SomeSatisfied terms q ps effect
some_of {n = n} l = record { number = n; satisfied_as = l.satisfied_as }

pub yes_exactly : YesExactly
unfolding YesExactly is_allowed
yes_exactly terms q ps = go (decision_of terms q ps) (decided terms q ps)
  where
    go : (d : Decision) → Decided terms q ps d → (is_allowed d ≡ true) ↔ ((is_system q.subject ≡ true) ⊎ (SomeSatisfied terms q ps true × (SomeSatisfied terms q ps false → ⊥)))
    go d (by_system s e) = rw e ((λ _. inl s), (λ _. refl))
    go d (by_a_forbid n s l e) = rw e ((λ z. absurd (never refl z)), (λ w. ⊎_elim (λ z. absurd (never s z)) (λ z. absurd (z.1 (some_of l))) w))
    go d (by_a_permit n s f l e) = rw e ((λ _. inr (some_of l, f)), (λ _. refl))
    go d (by_nobody s f g e) = rw e ((λ z. absurd (never refl z)), (λ w. ⊎_elim (λ z. absurd (never s z)) (λ z. absurd (g z.0)) w))

pub named_rightly : NamedRightly
unfolding NamedRightly policy_of
named_rightly terms q ps = go (decision_of terms q ps) (decided terms q ps)
  where
    go : (d : Decision) → Decided terms q ps d → NamesPolicy terms q ps (policy_of d)
    go d (by_system s e) = rw e (the_system s)
    go d (by_a_forbid n s l e) = rw e (a_forbid s l)
    go d (by_a_permit n s f l e) = rw e (a_permit s f l)
    go d (by_nobody s f g e) = rw e (none_named s f g)

pub one_name : OneName
unfolding OneName
one_name terms q ps m n (the_system s) (the_system z) = refl
one_name terms q ps m n (the_system s) (a_forbid z l) = absurd (never z s)
one_name terms q ps m n (the_system s) (a_permit z f l) = absurd (never z s)
one_name terms q ps m n (the_system s) (none_named z f g) = refl
one_name terms q ps m n (a_forbid s k) (the_system z) = absurd (never s z)
one_name terms q ps m n (a_forbid s k) (a_forbid z l) = same_lowest k l
one_name terms q ps m n (a_forbid s k) (a_permit z f l) = absurd (f (some_of k))
one_name terms q ps m n (a_forbid s k) (none_named z f g) = absurd (f (some_of k))
one_name terms q ps m n (a_permit s e k) (the_system z) = absurd (never s z)
one_name terms q ps m n (a_permit s e k) (a_forbid z l) = absurd (e (some_of l))
one_name terms q ps m n (a_permit s e k) (a_permit z f l) = same_lowest k l
one_name terms q ps m n (a_permit s e k) (none_named z f g) = absurd (g (some_of k))
one_name terms q ps m n (none_named s d e) (the_system z) = refl
one_name terms q ps m n (none_named s d e) (a_forbid z l) = absurd (d (some_of l))
one_name terms q ps m n (none_named s d e) (a_permit z f l) = absurd (e (some_of l))
one_name terms q ps m n (none_named s d e) (none_named z f g) = refl
