-- The lines of a tally: how many rows there are, and the counts of each request and of the sums. Definitions only.
use Rattle.std.specs.Prelude.{List, [], ◌∷◌, ◌++◌, ℕ, zero, suc, ◌+◌, ◌*◌, get_or}
use Prim.Native.Char.{code}
use Rattle.folder.specs.Decimals.{numbers_line}

-- the word `rows` and a blank
abbrev pub rows_word : List ℕ
rows_word = code "r" ∷ code "o" ∷ code "w" ∷ code "s" ∷ code " " ∷ []

-- the word `request` and a blank
abbrev pub request_word : List ℕ
request_word = code "r" ∷ code "e" ∷ code "q" ∷ code "u" ∷ code "e" ∷ code "s" ∷ code "t" ∷ code " " ∷ []

-- the word `outcome` and a blank
abbrev pub outcome_word : List ℕ
outcome_word = code "o" ∷ code "u" ∷ code "t" ∷ code "c" ∷ code "o" ∷ code "m" ∷ code "e" ∷ code " " ∷ []

-- the word `policy` and a blank
abbrev pub policy_word : List ℕ
policy_word = code "p" ∷ code "o" ∷ code "l" ∷ code "i" ∷ code "c" ∷ code "y" ∷ code " " ∷ []

-- the line `sums`
abbrev pub sums_line : List ℕ
sums_line = code "s" ∷ code "u" ∷ code "m" ∷ code "s" ∷ code "\n" ∷ []

-- of so many counts from a place on: for each a word, its number from 1, and the count
unfoldable pub count_lines : List ℕ → List ℕ → ℕ → ℕ → List ℕ
count_lines word counts from zero = []
count_lines word counts from (suc n) = count_lines word counts from n ++ (word ++ numbers_line (suc n ∷ get_or counts (from + n) 0 ∷ []))

-- of the group from a place on: its four outcomes, and so many policies
unfoldable pub group_lines : List ℕ → ℕ → ℕ → List ℕ
group_lines counts from policies = count_lines outcome_word counts from 4 ++ count_lines policy_word counts (from + 4) policies

-- of the first so many requests: for each its number from 1, and its group; a group has 68 counts
unfoldable pub request_lines : List ℕ → ℕ → ℕ → List ℕ
request_lines counts policies zero = []
request_lines counts policies (suc k) = request_lines counts policies k ++ ((request_word ++ numbers_line (suc k ∷ [])) ++ group_lines counts (68 * k) policies)

-- of a tally: the rows, so many requests, and the sums, which stand behind eight groups
unfoldable pub tally_lines : List ℕ → ℕ → ℕ → ℕ → List ℕ
tally_lines counts rows many policies =
    (rows_word ++ numbers_line (rows ∷ [])) ++ (request_lines counts policies many ++ (sums_line ++ group_lines counts 544 policies))
