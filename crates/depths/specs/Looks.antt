-- What is found of each policy before the rows of a question: which of a row's choices can matter to it, whether its target matches, and where its entries end.
-- Definitions only.
use Rattle.std.specs.Prelude.{◌≡◌, Bool, List, ℕ, ◌+◌, ◌-◌, ◌*◌, ◌<◌, eqb, get_or}
use Rattle.tokens.specs.Sizes.{most_policies}
use Rattle.grammar.specs.Policies.{Policy}
use Rattle.grammar.specs.declared.Version.{Version}
use Rattle.bags.specs.declared.sections.Sections.{Sections}
use Rattle.table.specs.Layout.{entry_at}
use Rattle.stored.specs.ReadBack.{policy_at}
use Rattle.stored.specs.Ready.{Last}
use Rattle.questions.specs.Sizes.{most_columns}
use Rattle.views.specs.Rows.{row_view}
use Rattle.placing.specs.Said.{policy_words}
use Rattle.meaning.specs.Targets.{Request}
use Rattle.meaning.specs.Decisions.{under, target_matches, satisfied, Numbered}

-- ---- which choices matter

-- two rows choose alike in the columns before number `low`
pub record Alike (low : ℕ) (u v : List ℕ) : Type 0 where
  pub alike : (j : ℕ) → j < low → get_or u j 0 ≡ get_or v j 0

-- only the columns before number `low`, and this column, matter to the policy
pub record Steady (t s : List ℕ) (n : ℕ) (heads : List ℕ) (policy : Policy) (column low : ℕ) : Type 0 where
  pub same : (version : Version) (p : Sections) (q : Request) (u v : List ℕ) → Alike low u v → get_or u column 0 ≡ get_or v column 0
      → satisfied (under version (row_view s p n heads u)) q (policy_words t policy) ≡ satisfied (under version (row_view s p n heads v)) q (policy_words t policy)

-- What is found of each policy, in five parts of 64 numbers: its own column, from 0 on; a number such that beside it only the columns before that number
-- can matter; 1 where its target matches; and the low and the high byte of the number before which its entries end.
abbrev pub own_of : List ℕ → ℕ → ℕ
own_of looks number = get_or looks (number - 1) 0

abbrev pub other_of : List ℕ → ℕ → ℕ
other_of looks number = get_or looks (most_policies + (number - 1)) 0

abbrev pub aim_of : List ℕ → ℕ → Bool
aim_of looks number = eqb (get_or looks (2 * most_policies + (number - 1)) 0) 1

-- of policy i, from 0 on
abbrev pub end_at : List ℕ → ℕ → ℕ
end_at looks i = get_or looks (3 * most_policies + i) 0 + 256 * get_or looks (4 * most_policies + i) 0

-- of each policy its own column matters, and those before the number that stands for it in the second part
pub record Depths (t s : List ℕ) (n : ℕ) (heads : List ℕ) (ps : List Policy) (looks : List ℕ) : Type 0 where
  pub few : (i : ℕ) → i < most_policies → get_or looks i 0 < most_columns
  pub steady : (number : ℕ) (policy : Policy) → Numbered number policy ps → Steady t s n heads policy (own_of looks number) (other_of looks number)

-- the targets that match a request
pub record Aims (t : List ℕ) (q : Request) (ps : List Policy) (looks : List ℕ) : Type 0 where
  pub aimed : (number : ℕ) (policy : Policy) → Numbered number policy ps → aim_of looks number ≡ target_matches q (policy_words t policy)

-- the policy whose entries end before number `end`, and that it can be evaluated from its last entry
abbrev pub policy_ending : List ℕ → ℕ → Policy
policy_ending table end = policy_at table end (entry_at table (end - 1))

abbrev pub LastEnding : List ℕ → List ℕ → ℕ → Type 0
LastEnding t table end = Last t table end (entry_at table (end - 1))

-- the entries of a policy end before number `end`
pub record PolicyEnds (t table : List ℕ) (end : ℕ) (policy : Policy) : Type 0 where
  pub last : LastEnding t table end
  pub is : policy_ending table end ≡ policy

-- so it is for each policy
pub record Ends (t table : List ℕ) (ps : List Policy) (looks : List ℕ) : Type 0 where
  pub ended : (number : ℕ) (policy : Policy) → Numbered number policy ps → PolicyEnds t table (end_at looks (number - 1)) policy
