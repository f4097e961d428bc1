-- The cases that the bytes of cases.bin have: one after the other, each of four parts, each part behind its length in two bytes;
-- what is missing at the end is empty. Definitions only.
use Rattle.std.specs.Prelude.{◌≡◌, List, [], ◌∷◌, ℕ, zero, suc, ◌+◌, ◌-◌, ◌*◌, ◌≤◌, ◌<◌, length, get_or, take, drop}
use Rattle.cases.specs.declared.CasePart.{CasePart}

-- the length of the first part, the low byte first; a byte that is missing counts as 0
abbrev pub part_size : List ℕ → ℕ
part_size s = get_or s 0 0 + 256 * get_or s 1 0

-- the first part: so many bytes behind its length, or as many as there are
unfoldable pub part_of : List ℕ → List ℕ
part_of s = take (part_size s) (drop 2 s)

-- the bytes behind it
unfoldable pub behind_part : List ℕ → List ℕ
behind_part s = drop (2 + part_size s) s

-- what is asked: a request of three parts, over a bag
pub record Case : Type 0 where
  pub subject : List ℕ
  pub action : List ℕ
  pub resource : List ℕ
  pub bag : List ℕ

-- the first case: its parts in this order
unfoldable pub case_of : List ℕ → Case
case_of s = record {
  subject = part_of s;
  action = part_of (behind_part s);
  resource = part_of (behind_part (behind_part s));
  bag = part_of (behind_part (behind_part (behind_part s)));
}

-- the bytes behind it
unfoldable pub past_case : List ℕ → List ℕ
past_case s = behind_part (behind_part (behind_part (behind_part s)))

-- the cases one after the other, as long as there are bytes, and at most so many
unfoldable pub cases_in : ℕ → List ℕ → List Case
cases_in zero s = []
cases_in (suc n) [] = []
cases_in (suc n) (b ∷ s) = case_of (b ∷ s) ∷ cases_in n (past_case (b ∷ s))

-- all of them: each takes a byte at least
unfoldable pub cases_of : List ℕ → List Case
cases_of s = cases_in (length s) s

-- the part that starts at a place lies inside the bytes, and the bytes behind it are those from its end on
pub record PartAt (s : List ℕ) (at : ℕ) (p : CasePart) : Type 0 where
  pub bytes : take (p.end - p.start) (drop p.start s) ≡ part_of (drop at s)
  pub rest : drop p.end s ≡ behind_part (drop at s)
  pub low : at ≤ p.start
  pub within : p.start ≤ p.end
  pub high : p.end ≤ length s
  pub goes_on : at < length s → at < p.end
