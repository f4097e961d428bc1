-- Laws of the lines of a tally. Assumes nothing.
use mathlib.Core.Path.{◌≡◌}
use mathlib.Core.List.{List, [], ◌∷◌, ◌++◌}
use Prim.Native.Nat.{ℕ, ◌+◌, ◌*◌}
use native.Mathlib.Numerals.{add-one}
use native.Mathlib.Omega.{arith}
use lib.ListN.{get_or}
use Rattle.folder.specs.Added.{Added}
use Rattle.folder.specs.Decimals.{numbers_line}
use Rattle.counts.specs.Tallied.{rows_word, request_word, outcome_word, policy_word, sums_line, count_lines, group_lines, request_lines, tally_lines}
use Rattle.folder.proofs.PutLaws.{none_added, both_added}

-- nothing is put yet
nothing_yet : (a : List ℕ) (at : ℕ) → Added a at [] a at
nothing_yet a at = let e : at + 0 ≡ at = omega arith in rw e at (none_added a at)

-- ---- counts

module _ (word counts : List ℕ) (from : ℕ) where
  pub no_count : (a : List ℕ) (at : ℕ) → Added a at (count_lines word counts from 0) a at
  unfolding count_lines
  no_count a at = nothing_yet a at

  -- one line more
  pub count_on : {a b c : List ℕ} {at filled next count : ℕ} (n : ℕ) → Added a at (count_lines word counts from n) b filled → count ≡ get_or counts (from + n) 0
      → Added b filled (word ++ numbers_line ((n + 1) ∷ count ∷ [])) c next → Added a at (count_lines word counts from (n + 1)) c next
  unfolding count_lines
  count_on n p e q = rw (add-one n) (both_added p (rw (add-one n, e) at q))

-- ---- groups

pub group_put : (counts : List ℕ) (from policies : ℕ) {a b c : List ℕ} {at mid next : ℕ} → Added a at (count_lines outcome_word counts from 4) b mid
    → Added b mid (count_lines policy_word counts (from + 4) policies) c next → Added a at (group_lines counts from policies) c next
unfolding group_lines
group_put counts from policies p q = both_added p q

module _ (counts : List ℕ) (policies : ℕ) where
  pub no_request : (a : List ℕ) (at : ℕ) → Added a at (request_lines counts policies 0) a at
  unfolding request_lines
  no_request a at = nothing_yet a at

  -- one request more
  pub request_on : {a b c d : List ℕ} {at filled mid next : ℕ} (k : ℕ) → Added a at (request_lines counts policies k) b filled
      → Added b filled (request_word ++ numbers_line ((k + 1) ∷ [])) c mid → Added c mid (group_lines counts (68 * k) policies) d next
      → Added a at (request_lines counts policies (k + 1)) d next
  unfolding request_lines
  request_on k p q r = rw (add-one k) (both_added p (both_added (rw (add-one k) at q) r))

-- ---- the tally

pub tally_put : (counts : List ℕ) (rows many policies : ℕ) {a b c d e : List ℕ} {first groups sums next : ℕ}
    → Added a 0 (rows_word ++ numbers_line (rows ∷ [])) b first → Added b first (request_lines counts policies many) c groups
    → Added c groups sums_line d sums → Added d sums (group_lines counts 544 policies) e next → Added a 0 (tally_lines counts rows many policies) e next
unfolding tally_lines
tally_put counts rows many policies p q r s = both_added p (both_added q (both_added r s))
