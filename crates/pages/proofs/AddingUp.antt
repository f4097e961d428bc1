-- What the counts of a group add up to: those of the outcomes to the number of rows, those of the policies to outcomes 1 and 2. Assumes nothing.
use mathlib.Core.Path.{◌≡◌, refl, sym, ap, ◌∙◌}
use mathlib.Core.Bool.{Bool, true, false, cond}
use mathlib.Core.List.{List, [], ◌∷◌}
use Prim.Native.Nat.{ℕ, zero, suc, ◌+◌, ◌-◌, ◌≤◌, ◌<◌}
use native.Mathlib.Decide.{ℕ_discrete}
use native.Mathlib.Omega.{arith}
use borrow.Author.Tests.{eq-eqb, ne_eqb, le-ltb}
use lib.Dec.{eqb, ltb}
use lib.ListN.{get_or, take, drop}
use Rattle.meaning.specs.Decisions.{outcome_of, policy_of}
use Rattle.meaning.specs.declared.Decision.{Decision}
use Rattle.meaning.specs.declared.Decision.TheVariants.{Allowed, Forbidden, Nothing, System}
use Rattle.pages.specs.Tally.{sum_of, how_many, from_on, group_size, counts_at, tally_of, least_policy, Countable}

-- 1 where a decision counts at a place
abbrev hit : ℕ → Decision → ℕ
hit k e = cond (counts_at k e) 1 0

-- ---- the four outcomes

one_outcome : (e : Decision) → hit 0 e + (hit 1 e + (hit 2 e + (hit 3 e + 0))) ≡ 1
unfolding counts_at outcome_of
one_outcome (Allowed n) = refl
one_outcome (Forbidden n) = refl
one_outcome Nothing = refl
one_outcome System = refl

-- each row has one of them
pub outcomes_add_up : (d : ℕ → Decision) (n : ℕ) → sum_of (take 4 (tally_of d n)) ≡ n
unfolding tally_of from_on how_many sum_of
outcomes_add_up d zero = refl
outcomes_add_up d (suc n) = omega (arith, outcomes_add_up d n, one_outcome (d n))

-- ---- the policies

sum_same : (f g : ℕ → ℕ) (k m : ℕ) → ((j : ℕ) → k ≤ j → f j ≡ g j) → sum_of (from_on f k m) ≡ sum_of (from_on g k m)
unfolding from_on sum_of
sum_same f g k zero h = refl
sum_same f g k (suc m) h = rw (h k (omega arith), sum_same f g (suc k) m (λ j l. h j (omega arith)))

sum_add : (f g : ℕ → ℕ) (k m : ℕ) → sum_of (from_on (λ j. f j + g j) k m) ≡ sum_of (from_on f k m) + sum_of (from_on g k m)
unfolding from_on sum_of
sum_add f g k zero = refl
sum_add f g k (suc m) = omega (arith, sum_add f g (suc k) m)

sum_none : (k m : ℕ) → sum_of (from_on (λ j. 0) k m) ≡ 0
unfolding from_on sum_of
sum_none k zero = refl
sum_none k (suc m) = omega (arith, sum_none (suc k) m)

sum_past : (i k m : ℕ) → i < k → sum_of (from_on (λ j. cond (eqb i j) 1 0) k m) ≡ 0
unfolding from_on sum_of
sum_past i k zero h = refl
sum_past i k (suc m) h = rw (ne_eqb i k (λ e. omega arith)) (omega (arith, sum_past i (suc k) m (omega arith)))

-- a number among them is there once
sum_once : (i k m : ℕ) → k ≤ i → i < k + m → sum_of (from_on (λ j. cond (eqb i j) 1 0) k m) ≡ 1
unfolding from_on sum_of
sum_once i k zero l h = absurd (omega arith)
sum_once i k (suc m) l h = elim (ℕ_discrete i k) [
  | yes e ↦ rw (eq-eqb i k e) (omega (arith, sum_past i (suc k) m (omega arith)))
  | no e ↦ rw (ne_eqb i k e) (omega (arith, sum_once i (suc k) m (omega arith) (omega arith)))
]

-- from place 4 on a decision counts at its policy's number
by_number : (b : Bool) (n j : ℕ) → 4 ≤ j → ◌≡◌ {A = ℕ} (cond (cond (ltb j 4) b (eqb n (j - 3))) 1 0) (cond (eqb (3 + n) j) 1 0)
by_number b n j h = elim (ℕ_discrete (3 + n) j) [
  | yes e ↦ rw (le-ltb j 4 h, eq-eqb (3 + n) j e, eq-eqb n (j - 3) (omega arith))
  | no e ↦ rw (le-ltb j 4 h, ne_eqb (3 + n) j e, ne_eqb n (j - 3) (λ q. e (omega arith)))
]

policy_once : (e : Decision) → Countable e → sum_of (from_on (λ k. hit k e) 4 64) ≡ hit 0 e + hit 1 e
unfolding counts_at outcome_of policy_of least_policy
policy_once (Allowed n) c = let low : 1 ≤ n = c.some in let high : n ≤ 64 = c.few in
    sum_same (λ k. hit k (Allowed n)) (λ j. cond (eqb (3 + n) j) 1 0) 4 64 (λ j. by_number (eqb 1 (j + 1)) n j) ∙ sum_once (3 + n) 4 64 (omega arith) (omega arith)
policy_once (Forbidden n) c = let low : 1 ≤ n = c.some in let high : n ≤ 64 = c.few in
    sum_same (λ k. hit k (Forbidden n)) (λ j. cond (eqb (3 + n) j) 1 0) 4 64 (λ j. by_number (eqb 2 (j + 1)) n j) ∙ sum_once (3 + n) 4 64 (omega arith) (omega arith)
policy_once Nothing c =
    sum_same (λ k. hit k Nothing) (λ j. cond (eqb 3 j) 1 0) 4 64 (λ j. by_number (eqb 3 (j + 1)) 0 j) ∙ sum_past 3 4 64 (omega arith)
policy_once System c =
    sum_same (λ k. hit k System) (λ j. cond (eqb 3 j) 1 0) 4 64 (λ j. by_number (eqb 4 (j + 1)) 0 j) ∙ sum_past 3 4 64 (omega arith)

by_policies : (d : ℕ → Decision) (n : ℕ) → ((row : ℕ) → Countable (d row))
    → sum_of (from_on (λ k. how_many (λ row. counts_at k (d row)) n) 4 64) ≡ how_many (λ row. counts_at 0 (d row)) n + how_many (λ row. counts_at 1 (d row)) n
unfolding how_many
by_policies d zero c = sum_none 4 64
by_policies d (suc n) c =
    omega (arith, sum_add (λ k. how_many (λ row. counts_at k (d row)) n) (λ k. hit k (d n)) 4 64, by_policies d n c, policy_once (d n) (c n))

-- a policy decides each row with outcome 1 or 2, and no other
pub policies_add_up : (d : ℕ → Decision) (n : ℕ) → ((row : ℕ) → Countable (d row))
    → sum_of (drop 4 (tally_of d n)) ≡ get_or (tally_of d n) 0 0 + get_or (tally_of d n) 1 0
unfolding tally_of from_on
policies_add_up d n c = by_policies d n c
