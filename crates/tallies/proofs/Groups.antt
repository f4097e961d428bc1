-- Groups of counts one behind the other: a group more, their sums, and that no count is too large. Assumes nothing.
use mathlib.Core.Path.{◌≡◌, refl, sym, ap, ◌∙◌}
use mathlib.Core.List.{List, [], ◌∷◌, ◌++◌, append-nil, append_assoc}
use Prim.Native.Nat.{ℕ, zero, suc, ◌+◌, ◌-◌, ◌*◌, ◌≤◌, ◌<◌, zero-le}
use native.Mathlib.Decide.{dec_lt}
use native.Mathlib.Numerals.{add-one}
use native.Mathlib.Omega.{arith}
use borrow.Rule.Slice.PartMut.{put_mid}
use lib.ListN.{length, get_or, set, take, drop, replicate, length-append, length-set, length-drop, length-replicate, get_or-replicate, replicate-append-replicate}
use lib.ListN.{take-append-drop, get_or-append, get_or-eq_default}
use lib.Seq.{take_at, drop_at, take_all, drop-append-add, get_or-append-add, get_or-take, get_or-drop, take-suc-set, length-take-le, take-take}
use Rattle.meaning.specs.Targets.{Request}
use Rattle.meaning.specs.Decisions.{Numbered, first, later}
use Rattle.meaning.proofs.Deciding.{numbered_some}
use Rattle.pages.specs.Tally.{group_size, from_on, sum_of}
use Rattle.pages.proofs.Tallying.{from_on_at}
use Rattle.tallies.specs.Tallies.{group_count, groups_of, sum_from, sums_of, with_sums}
use Rattle.tallies.specs.Counted.{CountsFew}

-- ---- zeros

zero_on : (n : ℕ) → replicate {A = ℕ} n 0 ++ (0 ∷ []) ≡ replicate (n + 1) 0
zero_on n = replicate-append-replicate n 1 0

-- one more is cleared
pub cleared : (counts : List ℕ) (i : ℕ) → i < length counts → take i counts ≡ replicate i 0 → take (i + 1) (set counts i 0) ≡ replicate (i + 1) 0
cleared counts i h e = ap (λ (n : ℕ). take n (set counts i 0)) (add-one i) ∙ take-suc-set counts i 0 h ∙ ap (λ (l : List ℕ). l ++ (0 ∷ [])) e ∙ zero_on i

-- ---- groups

-- so far: the groups of the requests passed stand in the counts, and zeros behind them
pub record Filled (group : Request → List ℕ) (all : List Request) (counts : List ℕ) (k : ℕ) (rest : List Request) : Type 0 where
  pub whole : length counts ≡ 612
  pub filled : groups_of group_count group all ≡ take (group_size * k) counts ++ groups_of (group_count - k) group rest
  pub zeros : drop (group_size * k) counts ≡ replicate (612 - group_size * k) 0

module _ (group : Request → List ℕ) (long : (q : Request) → length (group q) ≡ group_size) where
  pub groups_long : (n : ℕ) (qs : List Request) → length (groups_of n group qs) ≡ group_size * n
  unfolding groups_of
  groups_long zero qs = refl
  groups_long (suc n) [] = omega (arith, length-append (replicate group_size 0) (groups_of n group []), length-replicate {A = ℕ} group_size 0, groups_long n [])
  groups_long (suc n) (q ∷ qs) = omega (arith, length-append (group q) (groups_of n group qs), long q, groups_long n qs)

  -- those that were not lent are zeros
  pub groups_none : (n : ℕ) → groups_of n group [] ≡ replicate (group_size * n) 0
  unfolding groups_of
  groups_none zero = refl
  groups_none (suc n) =
      let e : group_size + group_size * n ≡ group_size * suc n = omega arith in
      ap (λ (l : List ℕ). replicate group_size 0 ++ l) (groups_none n) ∙ replicate-append-replicate group_size (group_size * n) 0 ∙ ap (λ (m : ℕ). replicate m 0) e

  -- no count is larger than those of the requests
  module _ (most : ℕ) (few : (q : Request) (k : ℕ) → get_or (group q) k 0 ≤ most) where
    head_few : (a b : List ℕ) → length a ≡ group_size → ((k : ℕ) → get_or a k 0 ≤ most) → ((k : ℕ) → get_or b k 0 ≤ most) → (k : ℕ) → get_or (a ++ b) k 0 ≤ most
    head_few a b l ha hb k = elim (dec_lt k group_size) [
      | yes h ↦ rw (get_or-append a b 0 k (omega arith)) (ha k)
      | no h ↦
          let e : length a + (k - group_size) ≡ k = omega arith in
          rw (ap (λ (m : ℕ). get_or (a ++ b) m 0) (sym e) ∙ get_or-append-add a b (k - group_size) 0) (hb (k - group_size))
    ]

    zeros_few : (n k : ℕ) → get_or (replicate n 0) k 0 ≤ most
    zeros_few n k = elim (dec_lt k n) [
      | yes h ↦ rw (get_or-replicate {A = ℕ} n k 0 0 h) zero-le
      | no h ↦ let l = length-replicate {A = ℕ} n 0 in rw (get_or-eq_default {A = ℕ} (replicate n 0) 0 {n = k} (omega arith)) zero-le
    ]

    pub groups_few : (n : ℕ) (qs : List Request) (k : ℕ) → get_or (groups_of n group qs) k 0 ≤ most
    unfolding groups_of
    groups_few zero qs k = zero-le
    groups_few (suc n) [] k = head_few (replicate group_size 0) (groups_of n group []) (length-replicate {A = ℕ} group_size 0) (zeros_few group_size) (groups_few n []) k
    groups_few (suc n) (q ∷ qs) k = head_few (group q) (groups_of n group qs) (long q) (few q) (groups_few n qs) k

  pub filled_none : (all : List Request) → Filled group all (replicate 612 0) 0 all
  filled_none all = record { whole = length-replicate {A = ℕ} 612 0; filled = refl; zeros = refl }

  -- the group that is lent on has zeros
  pub filled_lent : {all rest : List Request} {counts : List ℕ} {k : ℕ} → Filled group all counts k rest → k < group_count
      → take group_size (drop (group_size * k) counts) ≡ replicate group_size 0
  filled_lent {counts = counts} {k = k} f h =
      let e : 612 - group_size * k ≡ group_size + (544 - group_size * k) = omega arith in
      ap (take group_size) (f.zeros ∙ ap (λ (n : ℕ). replicate n 0) e ∙ sym (replicate-append-replicate group_size (544 - group_size * k) 0))
      ∙ take_at (replicate group_size 0) (replicate (544 - group_size * k) 0) group_size (length-replicate {A = ℕ} group_size 0)

  -- with the group of one more request
  filled_by : {all rest : List Request} {counts : List ℕ} {k : ℕ} {q : Request} → Filled group all counts k (q ∷ rest) → k < group_count → (after : List ℕ) → after ≡ group q
      → Filled group all (put_mid (group_size * k) group_size counts after) (k + 1) rest
  unfolding groups_of
  filled_by {all} {rest} {counts} {k} {q} f h after e =
      let at = group_size * k in
      let here : length (take at counts) ≡ at = length-take-le at counts (omega (arith, f.whole)) in
      let before : length (take at counts ++ after) ≡ group_size * (k + 1) = omega (arith, length-append (take at counts) after, here, ap length e ∙ long q) in
      let now : put_mid at group_size counts after ≡ (take at counts ++ after) ++ drop group_size (drop at counts) =
      sym (append_assoc (take at counts) after (drop group_size (drop at counts))) in
      let left : group_count - k ≡ suc (group_count - (k + 1)) = omega arith in
      let others : 612 - group_size * k ≡ group_size + (612 - group_size * (k + 1)) = omega arith in
      record {
        whole =
            ap length now ∙ length-append (take at counts ++ after) (drop group_size (drop at counts))
            ∙ (let a = length-drop group_size (drop at counts) in let b = length-drop at counts in omega (arith, a, b, before, f.whole));
        filled =
            f.filled ∙ ap (λ (n : ℕ). take at counts ++ groups_of n group (q ∷ rest)) left
            ∙ sym (append_assoc (take at counts) (group q) (groups_of (group_count - (k + 1)) group rest))
            ∙ ap (λ (l : List ℕ). l ++ groups_of (group_count - (k + 1)) group rest)
            (ap (λ (l : List ℕ). take at counts ++ l) (sym e)
            ∙ sym (ap (take (group_size * (k + 1))) now ∙ take_at (take at counts ++ after) (drop group_size (drop at counts)) (group_size * (k + 1)) before));
        zeros =
            ap (drop (group_size * (k + 1))) now ∙ drop_at (take at counts ++ after) (drop group_size (drop at counts)) (group_size * (k + 1)) before
            ∙ ap (drop group_size) (f.zeros ∙ ap (λ (n : ℕ). replicate n 0) others ∙ sym (replicate-append-replicate group_size (612 - group_size * (k + 1)) 0))
            ∙ drop_at (replicate group_size 0) (replicate (612 - group_size * (k + 1)) 0) group_size (length-replicate {A = ℕ} group_size 0);
      }

  pub filled_more : {all rest : List Request} {counts : List ℕ} {k : ℕ} {q : Request} → Filled group all counts k (q ∷ rest) → k < group_count → (n : ℕ) → n ≡ group_size
      → (after : List ℕ) → after ≡ group q → Filled group all (put_mid (group_size * k) n counts after) (k + 1) rest
  filled_more f h n size after e = rw size (filled_by f h after e)

  -- and when no request is left
  pub filled_all : {all : List Request} {counts : List ℕ} {k : ℕ} → Filled group all counts k [] → k ≤ group_count → counts ≡ groups_of group_count group all ++ replicate group_size 0
  filled_all {all} {counts} {k} f h =
      let at = group_size * k in
      let others : group_size * (group_count - k) + group_size ≡ 612 - group_size * k = omega arith in
      sym (take-append-drop at counts)
      ∙ ap (λ (l : List ℕ). take at counts ++ l)
      (f.zeros ∙ ap (λ (n : ℕ). replicate n 0) (sym others) ∙ sym (replicate-append-replicate (group_size * (group_count - k)) group_size 0))
      ∙ sym (append_assoc (take at counts) (replicate (group_size * (group_count - k)) 0) (replicate group_size 0))
      ∙ ap (λ (l : List ℕ). l ++ replicate group_size 0)
      (ap (λ (l : List ℕ). take at counts ++ l) (sym (groups_none (group_count - k))) ∙ sym f.filled)

-- ---- the sums

-- they are no larger than so many counts
pub sum_few : (n : ℕ) (counts : List ℕ) (at : ℕ) → CountsFew counts → at + group_size * n ≤ 544 + group_size - 1 → sum_from n counts at ≤ 262144 * n
unfolding sum_from
sum_few zero counts at f h = zero-le
sum_few (suc n) counts at f h = omega (arith, f.few at (omega arith), sum_few n counts (at + group_size) f (omega arith))

-- and rest on the eight groups alone
pub sum_taken : (n : ℕ) (counts : List ℕ) (at : ℕ) → at + group_size * n ≤ 544 + group_size - 1 → sum_from n (take 544 counts) at ≡ sum_from n counts at
unfolding sum_from
sum_taken zero counts at h = refl
sum_taken (suc n) counts at h = rw (get_or-take 544 counts at 0 (omega arith), sum_taken n counts (at + group_size) (omega arith))

from_on_same : (f g : ℕ → ℕ) (k n : ℕ) → ((j : ℕ) → k ≤ j → j < k + n → f j ≡ g j) → from_on f k n ≡ from_on g k n
unfolding from_on
from_on_same f g k zero h = refl
from_on_same f g k (suc n) h = rw (h k (omega arith) (omega arith), from_on_same f g (suc k) n (λ j a b. h j (omega arith) (omega arith)))

from_on_more : (f : ℕ → ℕ) (k n : ℕ) → from_on f k n ++ (f (k + n) ∷ []) ≡ from_on f k (suc n)
unfolding from_on
from_on_more f k zero = let e : k + 0 ≡ k = omega arith in rw e
from_on_more f k (suc n) =
    let e : k + suc n ≡ suc k + n = omega arith in
    ap (λ (l : List ℕ). f k ∷ l) (ap (λ (j : ℕ). from_on f (suc k) n ++ (f j ∷ [])) e ∙ from_on_more f (suc k) n)

-- the sums so far stand behind the eight groups
pub record Summed (before counts : List ℕ) (i : ℕ) : Type 0 where
  pub whole : length counts ≡ 612
  pub so_far : take (544 + i) counts ≡ take 544 before ++ from_on (sum_from group_count before) 0 i

pub summed_none : (counts : List ℕ) → length counts ≡ 612 → Summed counts counts 0
unfolding from_on
summed_none counts e = record { whole = e; so_far = sym (append-nil (take 544 counts)) }

module _ {before counts : List ℕ} {i : ℕ} (long : length before ≡ 612) (s : Summed before counts i) where
  here : length (take 544 before) ≡ 544
  here = length-take-le 544 before (omega arith)

  -- the eight groups stay
  pub eight_stay : take 544 counts ≡ take 544 before
  eight_stay =
      sym (take-take 544 (544 + i) counts (omega arith)) ∙ ap (take 544) s.so_far
      ∙ take_at (take 544 before) (from_on (sum_from group_count before) 0 i) 544 here

  pub still_few : CountsFew before → CountsFew counts
  still_few f = record {
    few = λ k h. rw (sym (get_or-take 544 counts k 0 h) ∙ ap (λ (l : List ℕ). get_or l k 0) eight_stay ∙ get_or-take 544 before k 0 h) (f.few k h);
  }

  pub summed_more : i < group_size → {sum : ℕ} → sum ≡ sum_from group_count counts i → Summed before (set counts (544 + i) sum) (i + 1)
  summed_more h {sum} e =
      let there : 544 + i < length counts = omega (arith, s.whole) in
      let next : 544 + (i + 1) ≡ suc (544 + i) = omega arith in
      let same : sum ≡ sum_from group_count before (0 + i) =
      e ∙ sym (sum_taken group_count counts i (omega arith)) ∙ ap (λ (l : List ℕ). sum_from group_count l i) eight_stay ∙ sum_taken group_count before i (omega arith)
      ∙ (let z : i ≡ 0 + i = omega arith in ap (sum_from group_count before) z) in
      record {
        whole = length_set_is ∙ s.whole;
        so_far =
            ap (λ (n : ℕ). take n (set counts (544 + i) sum)) next ∙ take-suc-set counts (544 + i) sum there ∙ ap (λ (l : List ℕ). l ++ (sum ∷ [])) s.so_far
            ∙ append_assoc (take 544 before) (from_on (sum_from group_count before) 0 i) (sum ∷ [])
            ∙ ap (λ (l : List ℕ). take 544 before ++ l)
            (ap (λ (n : ℕ). from_on (sum_from group_count before) 0 i ++ (n ∷ [])) same ∙ from_on_more (sum_from group_count before) 0 i
            ∙ ap (from_on (sum_from group_count before) 0) (sym (add-one i)));
      }
    where
      length_set_is : length (set counts (544 + i) sum) ≡ length counts
      length_set_is = length-set counts (544 + i) sum

pub summed_all : {before counts : List ℕ} → Summed before counts group_size → counts ≡ take 544 before ++ sums_of before
summed_all {before} {counts} s = sym (take_all 612 counts (omega (arith, s.whole))) ∙ s.so_far

-- eight groups with zeros behind them, when the sums are there
pub sums_behind : (groups : List ℕ) → length groups ≡ 544
    → take 544 (groups ++ replicate group_size 0) ++ sums_of (groups ++ replicate group_size 0) ≡ with_sums groups
unfolding with_sums
sums_behind groups e =
    let t : take 544 (groups ++ replicate group_size 0) ≡ groups = take_at groups (replicate group_size 0) 544 e in
    rw t
    (ap (λ (l : List ℕ). groups ++ l)
    (from_on_same (sum_from group_count (groups ++ replicate group_size 0)) (sum_from group_count groups) 0 group_size
    (λ j a b. sym (sum_taken group_count (groups ++ replicate group_size 0) j (omega arith)) ∙ ap (λ (l : List ℕ). sum_from group_count l j) t)))

-- eight groups with zeros behind them
pub groups_small : (group : Request → List ℕ) → ((q : Request) → length (group q) ≡ group_size) → (most : ℕ) → ((q : Request) (k : ℕ) → get_or (group q) k 0 ≤ most) → most ≤ 262144
    → (qs : List Request) {counts : List ℕ} → counts ≡ groups_of group_count group qs ++ replicate group_size 0 → (length counts ≡ 612) × CountsFew counts
groups_small group long most few small qs {counts} e =
    let groups = groups_of group_count group qs in
    let l = groups_long group long group_count qs in (
      ap length e ∙ length-append groups (replicate group_size 0) ∙ (let z = length-replicate {A = ℕ} group_size 0 in omega arith),
      record {
        few = λ k h.
            let there : get_or counts k 0 ≡ get_or groups k 0 = ap (λ (c : List ℕ). get_or c k 0) e ∙ get_or-append groups (replicate group_size 0) 0 k (omega arith) in
            let m = groups_few group long most few group_count qs k in
            omega arith;
      },
    )

-- ---- one count more

pub sum_on : (left : ℕ) (counts : List ℕ) (at : ℕ) → 0 < left → sum_from left counts at ≡ get_or counts at 0 + sum_from (left - 1) counts (at + group_size)
unfolding sum_from
sum_on zero counts at h = absurd (omega arith)
sum_on (suc n) counts at h = let e : suc n - 1 ≡ n = omega arith in rw e

pub sum_none : (left : ℕ) (counts : List ℕ) (at : ℕ) → left ≡ 0 → sum_from left counts at ≡ 0
unfolding sum_from
sum_none zero counts at e = refl
sum_none (suc n) counts at e = absurd (omega arith)

-- ---- the groups in the counts

module _ (group : Request → List ℕ) (long : (q : Request) → length (group q) ≡ group_size) where
  past_first : (k : ℕ) (a b : List ℕ) → length a ≡ group_size → drop (group_size * suc k) (a ++ b) ≡ drop (group_size * k) b
  past_first k a b e =
      let n : group_size * suc k ≡ length a + group_size * k = omega arith in
      ap (λ (m : ℕ). drop m (a ++ b)) n ∙ drop-append-add a b (group_size * k)

  -- each request's is its own
  pub group_there : {k : ℕ} {q : Request} {qs : List Request} → Numbered k q qs → (n j : ℕ) → k ≡ suc j → j < n → (rest : List ℕ)
      → take group_size (drop (group_size * j) (groups_of n group qs ++ rest)) ≡ group q
  unfolding groups_of
  group_there i zero j e h rest = absurd (omega arith)
  group_there (first {p = q} {ps = qs}) (suc n) zero e h rest =
      ap (take group_size) (append_assoc (group q) (groups_of n group qs) rest) ∙ take_at (group q) (groups_of n group qs ++ rest) group_size (long q)
  group_there first (suc n) (suc j) e h rest = absurd (omega arith)
  group_there (later {n = m} i) (suc n) zero e h rest = absurd (omega (arith, numbered_some i))
  group_there (later {q = p} {ps = qs} i) (suc n) (suc j) e h rest =
      ap (λ (l : List ℕ). take group_size (drop (group_size * suc j) l)) (append_assoc (group p) (groups_of n group qs) rest)
      ∙ ap (take group_size) (past_first j (group p) (groups_of n group qs ++ rest) (long p)) ∙ group_there i n j (omega arith) (omega arith) rest

  -- and those behind the last are zeros
  pub group_behind : (qs : List Request) (n j : ℕ) → length qs ≤ j → j < n → (rest : List ℕ)
      → take group_size (drop (group_size * j) (groups_of n group qs ++ rest)) ≡ replicate group_size 0
  unfolding groups_of
  group_behind qs zero j l h rest = absurd (omega arith)
  group_behind (q ∷ qs) (suc n) zero l h rest = absurd (omega arith)
  group_behind (q ∷ qs) (suc n) (suc j) l h rest =
      ap (λ (x : List ℕ). take group_size (drop (group_size * suc j) x)) (append_assoc (group q) (groups_of n group qs) rest)
      ∙ ap (take group_size) (past_first j (group q) (groups_of n group qs ++ rest) (long q)) ∙ group_behind qs n j (omega arith) (omega arith) rest
  group_behind [] (suc n) zero l h rest =
      ap (take group_size) (append_assoc (replicate group_size 0) (groups_of n group []) rest)
      ∙ take_at (replicate group_size 0) (groups_of n group [] ++ rest) group_size (length-replicate {A = ℕ} group_size 0)
  group_behind [] (suc n) (suc j) l h rest =
      ap (λ (x : List ℕ). take group_size (drop (group_size * suc j) x)) (append_assoc (replicate group_size 0) (groups_of n group []) rest)
      ∙ ap (take group_size) (past_first j (replicate group_size 0) (groups_of n group [] ++ rest) (length-replicate {A = ℕ} group_size 0))
      ∙ group_behind [] n j (omega arith) (omega arith) rest

-- a count of a group
pub count_in : (counts : List ℕ) (k i : ℕ) → i < group_size → get_or (take group_size (drop (group_size * k) counts)) i 0 ≡ get_or counts (group_size * k + i) 0
count_in counts k i h = get_or-take group_size (drop (group_size * k) counts) i 0 h ∙ get_or-drop (group_size * k) counts i 0

module _ (groups : List ℕ) (long : length groups ≡ 544) where
  sums_by : (n k i : ℕ) → k + n ≤ group_count → i < group_size
      → sum_from n groups (group_size * k + i) ≡ sum_of (from_on (λ j. get_or (take group_size (drop (group_size * j) (with_sums groups))) i 0) k n)
  unfolding sum_from from_on sum_of with_sums
  sums_by zero k i l h = refl
  sums_by (suc n) k i l h =
      let at : group_size * k + i + group_size ≡ group_size * suc k + i = omega arith in
      let here : get_or (take group_size (drop (group_size * k) (groups ++ sums_of groups))) i 0 ≡ get_or groups (group_size * k + i) 0 =
      count_in (groups ++ sums_of groups) k i h ∙ get_or-append groups (sums_of groups) 0 (group_size * k + i) (omega arith) in
      rw (at, here, sums_by n (suc k) i (omega arith) h)

  -- each of the ninth group is the sum of the eight
  pub sums_there : (i : ℕ) → i < group_size
      → get_or (take group_size (drop (group_size * group_count) (with_sums groups))) i 0
      ≡ sum_of (from_on (λ j. get_or (take group_size (drop (group_size * j) (with_sums groups))) i 0) 0 group_count)
  unfolding with_sums
  sums_there i h =
      let z : length groups + i ≡ group_size * group_count + i = omega arith in
      let zero_on_left : 0 + i ≡ i = omega arith in
      count_in (groups ++ sums_of groups) group_count i h ∙ ap (λ (m : ℕ). get_or (groups ++ sums_of groups) m 0) (sym z)
      ∙ get_or-append-add groups (sums_of groups) i 0 ∙ from_on_at (sum_from group_count groups) 0 group_size i h
      ∙ sums_by group_count 0 i (omega arith) h
