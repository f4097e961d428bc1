-- The requests as they are lent, as a reader takes them: subject, action and resource of each, each behind its length byte. Definitions only.
use Rattle.std.specs.Prelude.{◌≡◌, cond, List, [], ◌∷◌, ℕ, zero, suc, ◌-◌, ◌≤◌, leb, length, take, drop}
use Rattle.meaning.specs.Targets.{Request}
use Rattle.targets.specs.Matching.{request}
use Rattle.tallies.specs.declared.lent.LentSpan.{LentSpan}
use Rattle.tallies.specs.declared.lent.LentSpans.{LentSpans}

-- the part at the start of bytes, and what stands behind it: both empty where the part is not wholly there
unfoldable pub lent_part : List ℕ → List ℕ
lent_part [] = []
lent_part (n ∷ bytes) = cond (leb n (length bytes)) (take n bytes) []

unfoldable pub behind_lent_part : List ℕ → List ℕ
behind_lent_part [] = []
behind_lent_part (n ∷ bytes) = cond (leb n (length bytes)) (drop n bytes) []

-- the request at the start of bytes, and what stands behind it
abbrev pub request_of : List ℕ → Request
request_of bytes = request (lent_part bytes) (lent_part (behind_lent_part bytes)) (lent_part (behind_lent_part (behind_lent_part bytes)))

abbrev pub behind_request : List ℕ → List ℕ
behind_request bytes = behind_lent_part (behind_lent_part (behind_lent_part bytes))

-- so many requests
unfoldable pub requests_of : ℕ → List ℕ → List Request
requests_of zero bytes = []
requests_of (suc n) bytes = request_of bytes ∷ requests_of n (behind_request bytes)

-- ---- where code finds them

-- the bytes of a span
abbrev pub span_bytes : List ℕ → LentSpan → List ℕ
span_bytes bytes span = take (span.end - span.start) (drop span.start bytes)

-- the part at a place lies there
pub record PartFound (bytes : List ℕ) (at : ℕ) (span : LentSpan) : Type 0 where
  pub ordered : span.start ≤ span.end
  pub inside : span.end ≤ length bytes
  pub part : span_bytes bytes span ≡ lent_part (drop at bytes)
  pub behind : drop span.end bytes ≡ behind_lent_part (drop at bytes)

-- the parts of the request at a place lie there
pub record RequestFound (bytes : List ℕ) (at : ℕ) (spans : LentSpans) : Type 0 where
  pub subject_found : PartFound bytes at spans.subject
  pub action_found : PartFound bytes spans.subject.end spans.action
  pub resource_found : PartFound bytes spans.action.end spans.resource
