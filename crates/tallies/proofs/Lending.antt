-- The requests as they are lent: where their parts lie, and what stands behind them. Assumes nothing.
use mathlib.Core.Path.{◌≡◌, refl, sym, ap, ◌∙◌}
use mathlib.Core.List.{List, [], ◌∷◌}
use Prim.Native.Nat.{ℕ, zero, suc, ◌+◌, ◌-◌, ◌≤◌, ◌<◌}
use native.Mathlib.Nat.{le_refl}
use native.Mathlib.Numerals.{add-one}
use native.Mathlib.Omega.{arith}
use borrow.Author.Tests.{le-leb, lt-leb}
use lib.ListN.{length, get_or, drop, length-drop, drop_of_length-le}
use lib.Seq.{drop-cons, drop-drop, drop-length}
use Rattle.targets.specs.Matching.{request}
use Rattle.tallies.specs.Lent.{lent_part, behind_lent_part, request_of, behind_request, requests_of, span_bytes, PartFound, RequestFound}
use Rattle.tallies.specs.declared.lent.LentSpans.{LentSpans}

module _ (bytes : List ℕ) (at : ℕ) where
  -- a part that is wholly there
  pub part_whole : at < length bytes → get_or bytes at 0 ≤ length bytes - (at + 1)
      → PartFound bytes at (record { start = at + 1; end = at + 1 + get_or bytes at 0 })
  unfolding lent_part behind_lent_part
  part_whole h l =
      let size = get_or bytes at 0 in
      let on : drop at bytes ≡ size ∷ drop (at + 1) bytes = rw (add-one at) (drop-cons bytes at 0 h) in
      let there : size ≤ length (drop (at + 1) bytes) = rw (length-drop (at + 1) bytes) l in
      let many : at + 1 + size - (at + 1) ≡ size = omega arith in
      record {
        ordered = omega arith;
        inside = omega arith;
        part = rw (on, le-leb size (length (drop (at + 1) bytes)) there, many);
        behind = rw (on, le-leb size (length (drop (at + 1) bytes)) there) (sym (drop-drop size (at + 1) bytes));
      }

  -- one that is not
  pub part_short : at < length bytes → length bytes - (at + 1) < get_or bytes at 0 → PartFound bytes at (record { start = length bytes; end = length bytes })
  unfolding lent_part behind_lent_part
  part_short h l =
      let size = get_or bytes at 0 in
      let on : drop at bytes ≡ size ∷ drop (at + 1) bytes = rw (add-one at) (drop-cons bytes at 0 h) in
      let short : length (drop (at + 1) bytes) < size = rw (length-drop (at + 1) bytes) l in
      let none : length bytes - length bytes ≡ 0 = omega arith in
      record {
        ordered = le_refl (length bytes);
        inside = le_refl (length bytes);
        part = rw (on, lt-leb size (length (drop (at + 1) bytes)) short, none);
        behind = rw (on, lt-leb size (length (drop (at + 1) bytes)) short) (drop-length bytes);
      }

  -- and one without a length byte
  pub part_none : length bytes ≤ at → PartFound bytes at (record { start = length bytes; end = length bytes })
  unfolding lent_part behind_lent_part
  part_none h =
      let on : drop at bytes ≡ [] = drop_of_length-le bytes {i = at} h in
      let none : length bytes - length bytes ≡ 0 = omega arith in
      record { ordered = le_refl (length bytes); inside = le_refl (length bytes); part = rw (on, none); behind = rw on (drop-length bytes) }

  -- a request whose parts lie there
  module _ {spans : LentSpans} (f : RequestFound bytes at spans) where
    pub behind_found : drop spans.resource.end bytes ≡ behind_request (drop at bytes)
    behind_found =
        f.resource_found.behind ∙ ap behind_lent_part f.action_found.behind ∙ ap (λ (b : List ℕ). behind_lent_part (behind_lent_part b)) f.subject_found.behind

    pub request_found : request (span_bytes bytes spans.subject) (span_bytes bytes spans.action) (span_bytes bytes spans.resource) ≡ request_of (drop at bytes)
    request_found =
        let a : span_bytes bytes spans.action ≡ lent_part (behind_lent_part (drop at bytes)) = f.action_found.part ∙ ap lent_part f.subject_found.behind in
        let r : span_bytes bytes spans.resource ≡ lent_part (behind_lent_part (behind_lent_part (drop at bytes))) =
        f.resource_found.part ∙ ap lent_part (f.action_found.behind ∙ ap behind_lent_part f.subject_found.behind) in
        λ i. record { subject = f.subject_found.part i; action = a i; resource = r i }

    -- the requests that are left
    pub requests_found : (left : ℕ) → 0 < left → requests_of left (drop at bytes)
        ≡ request (span_bytes bytes spans.subject) (span_bytes bytes spans.action) (span_bytes bytes spans.resource) ∷ requests_of (left - 1) (drop spans.resource.end bytes)
    unfolding requests_of
    requests_found zero h = absurd (omega arith)
    requests_found (suc n) h = let e : suc n - 1 ≡ n = omega arith in rw (request_found, behind_found, e)

-- none is left
pub requests_none : (left : ℕ) (bytes : List ℕ) → left ≡ 0 → requests_of left bytes ≡ []
unfolding requests_of
requests_none zero bytes e = refl
requests_none (suc n) bytes e = absurd (omega arith)
