-- Laws of the parts and cases of cases.bin. Assumes nothing.
use mathlib.Core.Path.{◌≡◌, refl, sym, ap, ◌∙◌}
use mathlib.Core.List.{List, [], ◌∷◌}
use Prim.Native.Nat.{ℕ, zero, suc, ◌+◌, ◌-◌, ◌*◌, ◌≤◌, ◌<◌}
use native.Mathlib.Omega.{arith}
use lib.ListN.{length, get_or, take, drop, length-drop, drop_of_length-le}
use lib.Seq.{drop-drop, take-nil, take_all, get_or-drop}
use Rattle.cases.specs.declared.CasePart.{CasePart}
use Rattle.cases.specs.Cases.{part_size, part_of, behind_part, Case, case_of, past_case, cases_in, cases_of, PartAt}

-- ---- a part

module _ (s : List ℕ) (at : ℕ) where
  -- the bytes behind its length
  past_length : drop 2 (drop at s) ≡ drop (at + 2) s
  past_length = drop-drop 2 at s

  -- the bytes behind it
  past_part : (size : ℕ) → drop (2 + size) (drop at s) ≡ drop (at + 2 + size) s
  past_part size = let e : at + (2 + size) ≡ at + 2 + size = omega arith in drop-drop (2 + size) at s ∙ ap (λ (n : ℕ). drop n s) e

  size_there : {size : ℕ} → size ≡ get_or s at 0 + 256 * get_or s (at + 1) 0 → part_size (drop at s) ≡ size
  size_there {size} e =
      let z : at + 0 ≡ at = omega arith in
      let g : get_or (drop at s) 0 0 ≡ get_or s at 0 = get_or-drop at s 0 0 ∙ ap (λ (n : ℕ). get_or s n 0) z in
      let h : get_or (drop at s) 1 0 ≡ get_or s (at + 1) 0 = get_or-drop at s 1 0 in
      omega (arith, e, g, h)

  -- where less than a length is left, the part is empty
  pub no_part : at ≤ length s → length s - at < 2 → PartAt s at (record { start = length s; end = length s })
  unfolding part_of behind_part
  no_part h short =
      let none : drop 2 (drop at s) ≡ [] = past_length ∙ drop_of_length-le s {i = at + 2} (omega arith) in
      let size : ℕ = part_size (drop at s) in
      let gone : drop (2 + size) (drop at s) ≡ [] = past_part size ∙ drop_of_length-le s {i = at + 2 + size} (omega arith) in
      let here : drop (length s) s ≡ [] = drop_of_length-le s {i = length s} (omega arith) in
      record {
        bytes = ap (take (length s - length s)) here ∙ take-nil (length s - length s) ∙ sym (ap (take size) none ∙ take-nil size);
        rest = here ∙ sym gone;
        low = h;
        within = omega arith;
        high = omega arith;
        goes_on = λ g. g;
      }

  module _ {size : ℕ} (e : size ≡ get_or s at 0 + 256 * get_or s (at + 1) 0) (room : 2 ≤ length s - at) where
    -- a part that is cut short ends where the bytes end
    pub part_cut : length s - at - 2 < size → PartAt s at (record { start = at + 2; end = length s })
    unfolding part_of behind_part
    part_cut short =
        let is = size_there e in
        let here : drop (length s) s ≡ [] = drop_of_length-le s {i = length s} (omega arith) in
        let gone : drop (2 + size) (drop at s) ≡ [] = past_part size ∙ drop_of_length-le s {i = at + 2 + size} (omega arith) in
        record {
          bytes = take_all (length s - (at + 2)) (drop (at + 2) s) (omega (arith, length-drop (at + 2) s))
              ∙ sym (rw (is, past_length) (take_all size (drop (at + 2) s) (omega (arith, length-drop (at + 2) s))));
          rest = here ∙ sym (rw is gone);
          low = omega arith;
          within = omega arith;
          high = omega arith;
          goes_on = λ g. g;
        }

    -- a whole one
    pub part_whole : size ≤ length s - at - 2 → PartAt s at (record { start = at + 2; end = at + 2 + size })
    unfolding part_of behind_part
    part_whole long =
        let is = size_there e in
        let n : at + 2 + size - (at + 2) ≡ size = omega arith in
        record {
          bytes = rw (n, is, past_length);
          rest = rw is (sym (past_part size));
          low = omega arith;
          within = omega arith;
          high = omega arith;
          goes_on = λ g. omega arith;
        }

-- ---- cases

-- the bytes behind a case are fewer
shorter : (s : List ℕ) → length (behind_part s) ≤ length s - 2
unfolding behind_part
shorter s = omega (arith, length-drop (2 + part_size s) s)

fewer : (s : List ℕ) → length (past_case s) ≤ length s - 2
unfolding past_case
fewer s = omega (arith, shorter s, shorter (behind_part s), shorter (behind_part (behind_part s)), shorter (behind_part (behind_part (behind_part s))))

-- more turns than bytes make no difference
same_cases : (turns more : ℕ) (s : List ℕ) → length s ≤ turns → length s ≤ more → cases_in turns s ≡ cases_in more s
unfolding cases_in
same_cases zero zero s h g = refl
same_cases zero (suc more) [] h g = refl
same_cases zero (suc more) (b ∷ s) h g = absurd (omega arith)
same_cases (suc turns) zero [] h g = refl
same_cases (suc turns) zero (b ∷ s) h g = absurd (omega arith)
same_cases (suc turns) (suc more) [] h g = refl
same_cases (suc turns) (suc more) (b ∷ s) h g =
    ap (λ (cs : List Case). case_of (b ∷ s) ∷ cs) (same_cases turns more (past_case (b ∷ s)) (omega (arith, fewer (b ∷ s))) (omega (arith, fewer (b ∷ s))))

-- the first case, and those behind it
pub first_case : (s : List ℕ) → 0 < length s → cases_of s ≡ case_of s ∷ cases_of (past_case s)
unfolding cases_of cases_in
first_case [] h = absurd (omega arith)
first_case (b ∷ s) h =
    ap (λ (cs : List Case). case_of (b ∷ s) ∷ cs) (same_cases (length s) (length (past_case (b ∷ s))) (past_case (b ∷ s)) (omega (arith, fewer (b ∷ s))) (omega arith))

-- no bytes, no case
pub no_case : (s : List ℕ) → length s ≤ 0 → cases_of s ≡ []
unfolding cases_of cases_in
no_case [] h = refl
no_case (b ∷ s) h = absurd (omega arith)

-- the bytes of a part
abbrev pub cut_out : List ℕ → CasePart → List ℕ
cut_out s p = take (p.end - p.start) (drop p.start s)

-- the four parts that are cut, one behind the other, are the case at a place
module _ {s : List ℕ} {at : ℕ} {p q r t : CasePart} (subject : PartAt s at p) (action : PartAt s p.end q) (resource : PartAt s q.end r) (bag : PartAt s r.end t) where
  pub case_cut : ◌≡◌ {A = Case} (record { subject = cut_out s p; action = cut_out s q; resource = cut_out s r; bag = cut_out s t }) (case_of (drop at s))
  unfolding case_of
  case_cut = rw (subject.bytes, action.bytes, resource.bytes, bag.bytes, resource.rest, action.rest, subject.rest) refl

  pub case_past : drop t.end s ≡ past_case (drop at s)
  unfolding past_case
  case_past = bag.rest ∙ ap behind_part (resource.rest ∙ ap behind_part (action.rest ∙ ap behind_part subject.rest))
