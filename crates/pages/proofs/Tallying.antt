-- A group of counts: what stands at each place, a row more, and what the counts add up to. Assumes nothing.
use mathlib.Core.Path.{◌≡◌, refl, sym, ap, ◌∙◌}
use mathlib.Core.Logic.{◌↔◌}
use mathlib.Core.Bool.{Bool, true, false, cond}
use mathlib.Core.List.{List, [], ◌∷◌}
use Prim.Native.Nat.{ℕ, zero, suc, ◌+◌, ◌-◌, ◌≤◌, ◌<◌, zero-le}
use native.Mathlib.Decide.{dec_lt, ℕ_discrete}
use native.Mathlib.Numerals.{add-one}
use native.Mathlib.Omega.{arith}
use borrow.Author.Tests.{eq-eqb, ne_eqb, lt-ltb, le-ltb}
use lib.Dec.{eqb, ltb}
use lib.ListN.{length, get_or, set, replicate, length-set, length-replicate, get_or-replicate, get_or-eq_default}
use lib.Seq.{get_or-set_same, get_or-set_other, ext_get_or}
use Rattle.meaning.specs.Decisions.{outcome_of, policy_of}
use Rattle.meaning.specs.declared.Decision.{Decision}
use Rattle.meaning.specs.declared.Decision.TheVariants.{Allowed, Forbidden, Nothing, System}
use Rattle.pages.specs.Tally.{how_many, from_on, group_size, counts_at, tally_of, bumped, counted_in, least_policy, Countable}

-- ---- lists by number

pub from_on_long : (f : ℕ → ℕ) (k n : ℕ) → length (from_on f k n) ≡ n
unfolding from_on
from_on_long f k zero = refl
from_on_long f k (suc n) = ap suc (from_on_long f (suc k) n)

pub from_on_at : (f : ℕ → ℕ) (k n i : ℕ) → i < n → get_or (from_on f k n) i 0 ≡ f (k + i)
unfolding from_on
from_on_at f k zero i h = absurd (omega arith)
from_on_at f k (suc n) zero h = let e : k + 0 ≡ k = omega arith in ap f (sym e)
from_on_at f k (suc n) (suc i) h = let e : suc k + i ≡ k + suc i = omega arith in from_on_at f (suc k) n i (omega arith) ∙ ap f e

-- ---- how many

one_few : (b : Bool) → cond b 1 0 ≤ 1
one_few true = omega arith
one_few false = omega arith

pub how_many_few : (test : ℕ → Bool) (n : ℕ) → how_many test n ≤ n
unfolding how_many
how_many_few test zero = zero-le
how_many_few test (suc n) = omega (arith, how_many_few test n, one_few (test n))

-- the same tests pass as often
pub how_many_same : (test test' : ℕ → Bool) (n : ℕ) → ((row : ℕ) → row < n → test row ≡ test' row) → how_many test n ≡ how_many test' n
unfolding how_many
how_many_same test test' zero h = refl
how_many_same test test' (suc n) h = rw (how_many_same test test' n (λ row l. h row (omega arith)), h n (omega arith))

-- ---- a group

pub group_long : (d : ℕ → Decision) (n : ℕ) → length (tally_of d n) ≡ group_size
unfolding tally_of
group_long d n = from_on_long (λ k. how_many (λ row. counts_at k (d row)) n) 0 group_size

pub group_at : (d : ℕ → Decision) (n k : ℕ) → k < group_size → get_or (tally_of d n) k 0 ≡ how_many (λ row. counts_at k (d row)) n
unfolding tally_of
group_at d n k h =
    let e : 0 + k ≡ k = omega arith in
    from_on_at (λ k. how_many (λ row. counts_at k (d row)) n) 0 group_size k h ∙ ap (λ (k : ℕ). how_many (λ row. counts_at k (d row)) n) e

-- no count is above the number of rows
pub group_few : (d : ℕ → Decision) (n k : ℕ) → get_or (tally_of d n) k 0 ≤ n
group_few d n k = elim (dec_lt k group_size) [
  | yes h ↦ rw (group_at d n k h) (how_many_few (λ row. counts_at k (d row)) n)
  | no h ↦ let l = group_long d n in rw (get_or-eq_default (tally_of d n) 0 {n = k} (omega arith)) zero-le
]

-- before the first row
pub group_none : (d : ℕ → Decision) → replicate {A = ℕ} group_size 0 ≡ tally_of d 0
unfolding how_many
group_none d =
    ext_get_or 0 (replicate group_size 0) (tally_of d 0) (length-replicate {A = ℕ} group_size 0 ∙ sym (group_long d 0))
    (λ i h. let l : i < group_size = rw (← length-replicate {A = ℕ} group_size 0) h in get_or-replicate group_size i 0 0 l ∙ sym (group_at d 0 i l))

-- ---- a row more

bumped_at : (l : List ℕ) (j k : ℕ) → j < length l → get_or (bumped l j) k 0 ≡ get_or l k 0 + cond (eqb k j) 1 0
bumped_at l j k h = elim (ℕ_discrete k j) [
  | yes e ↦ rw (e, get_or-set_same l j (get_or l j 0 + 1) 0 h, eq-eqb j j refl) refl
  | no e ↦ rw (get_or-set_other l j k (get_or l j 0 + 1) 0 e, ne_eqb k j e) (omega arith)
]

eqb_alike : (a b c d : ℕ) → (a ≡ b → c ≡ d) → (c ≡ d → a ≡ b) → eqb a b ≡ eqb c d
eqb_alike a b c d to from = elim (ℕ_discrete a b) [
  | yes e ↦ rw (eq-eqb a b e, eq-eqb c d (to e))
  | no e ↦ rw (ne_eqb a b e, ne_eqb c d (λ q. e (from q)))
]

-- at the outcome o and at the policy n
twice_at : (l : List ℕ) (o n k : ℕ) → o < 4 → 1 ≤ n → n ≤ 64 → length l ≡ group_size
    → get_or (bumped (bumped l o) (3 + n)) k 0 ≡ get_or l k 0 + cond (cond (ltb k 4) (eqb (o + 1) (k + 1)) (eqb n (k - 3))) 1 0
twice_at l o n k ho some few long =
    bumped_at (bumped l o) (3 + n) k (rw (length-set l o (get_or l o 0 + 1)) (omega arith))
    ∙ ap (λ (x : ℕ). x + cond (eqb k (3 + n)) 1 0) (bumped_at l o k (omega arith))
    ∙ elim (dec_lt k 4) [
      | yes h ↦ rw (lt-ltb k 4 h, ne_eqb k (3 + n) (λ e. omega arith), eqb_alike k o (o + 1) (k + 1) (λ e. omega arith) (λ e. omega arith)) (omega arith)
      | no h ↦ rw (le-ltb k 4 (omega arith), ne_eqb k o (λ e. omega arith), eqb_alike k (3 + n) n (k - 3) (λ e. omega arith) (λ e. omega arith)) (omega arith)
    ]

-- at the outcome o, where no policy decides
once_at : (l : List ℕ) (o k : ℕ) → o < 4 → length l ≡ group_size
    → get_or (bumped l o) k 0 ≡ get_or l k 0 + cond (cond (ltb k 4) (eqb (o + 1) (k + 1)) (eqb 0 (k - 3))) 1 0
once_at l o k ho long =
    bumped_at l o k (omega arith)
    ∙ elim (dec_lt k 4) [
      | yes h ↦ rw (lt-ltb k 4 h, eqb_alike k o (o + 1) (k + 1) (λ e. omega arith) (λ e. omega arith))
      | no h ↦ rw (le-ltb k 4 (omega arith), ne_eqb k o (λ e. omega arith), ne_eqb 0 (k - 3) (λ e. omega arith))
    ]

counted_at : (e : Decision) → Countable e → (l : List ℕ) (k : ℕ) → length l ≡ group_size → get_or (counted_in e l) k 0 ≡ get_or l k 0 + cond (counts_at k e) 1 0
unfolding counted_in counts_at outcome_of policy_of least_policy
counted_at (Allowed n) c l k long = twice_at l 0 n k (omega arith) c.some c.few long
counted_at (Forbidden n) c l k long = twice_at l 1 n k (omega arith) c.some c.few long
counted_at Nothing c l k long = once_at l 2 k (omega arith) long
counted_at System c l k long = once_at l 3 k (omega arith) long

counted_long : (e : Decision) (l : List ℕ) → length (counted_in e l) ≡ length l
unfolding counted_in
counted_long (Allowed n) l = length-set (bumped l 0) (3 + n) (get_or (bumped l 0) (3 + n) 0 + 1) ∙ length-set l 0 (get_or l 0 0 + 1)
counted_long (Forbidden n) l = length-set (bumped l 1) (3 + n) (get_or (bumped l 1) (3 + n) 0 + 1) ∙ length-set l 1 (get_or l 1 0 + 1)
counted_long Nothing l = length-set l 2 (get_or l 2 0 + 1)
counted_long System l = length-set l 3 (get_or l 3 0 + 1)

pub group_more : (d : ℕ → Decision) (n : ℕ) → Countable (d n) → counted_in (d n) (tally_of d n) ≡ tally_of d (n + 1)
unfolding how_many
group_more d n c = rw (add-one n)
    (ext_get_or 0 (counted_in (d n) (tally_of d n)) (tally_of d (suc n)) (counted_long (d n) (tally_of d n) ∙ group_long d n ∙ sym (group_long d (suc n)))
    (λ k h.
    let l : k < group_size = rw (← group_long d n, ← counted_long (d n) (tally_of d n)) h in
    counted_at (d n) c (tally_of d n) k (group_long d n) ∙ ap (λ (x : ℕ). x + cond (counts_at k (d n)) 1 0) (group_at d n k l) ∙ sym (group_at d (suc n) k l)))
