-- What is decided by marks, and the room for a mark with one bit more. Assumes nothing.
use mathlib.Core.Path.{◌≡◌, sym, ◌∙◌, ap, ap₂}
use mathlib.Core.Bool.{Bool, true, false, cond}
use mathlib.Core.List.{List}
use Prim.Native.Nat.{ℕ, suc, ◌+◌, ◌-◌, ◌*◌, ◌%◌, ◌^◌, ◌≤◌, ◌<◌}
use native.Mathlib.Nat.{lt_of_lt_of_le, mod-eq_of_lt, one-le-pow, pow-le-pow_right}
use native.Mathlib.Omega.{arith}
use lib.Bits.{bit_and, bit_or, or_shifted}
use lib.ListN.{length}
use Rattle.grammar.specs.Policies.{PolicyOf, Policy}
use Rattle.placing.specs.Said.{Word, words_of}
use Rattle.meaning.specs.Targets.{Request}
use Rattle.meaning.specs.Decisions.{Terms, satisfied, by_numbers, forbids, permits, policies_decide, mark_by, mark_of}
use Rattle.meaning.proofs.WordLaws.{mark_words}
use Rattle.marks.specs.Marks.{lowest_of, permits_of}
use Rattle.marks.proofs.Bits.{and_marks, sum_marks, lowest_first}

-- ---- the decision by the marks of the satisfied policies and of the permits

pub marks_decide : (terms : Terms) (q : Request) (ps : List (PolicyOf Word)) {mark allowed f g : ℕ} → length ps ≤ 64 → mark ≡ mark_of terms q ps → allowed ≡ permits_of ps
    → f ≡ lowest_of (mark - bit_and mark allowed) → g ≡ lowest_of (bit_and mark allowed) → by_numbers f g ≡ policies_decide terms q ps
unfolding policies_decide
marks_decide terms q ps {mark} {allowed} {f} {g} few m a e h =
    let meet : bit_and mark allowed ≡ mark_by (permits terms q) ps = ap₂ (λ (x y : ℕ). bit_and x y) m a ∙ and_marks (satisfied terms q) (λ p. p.permits) ps in
    let rest : mark - bit_and mark allowed ≡ mark_by (forbids terms q) ps =
    ap₂ (λ (x y : ℕ). x - y) m meet ∙ (let s = sum_marks (satisfied terms q) (λ p. p.permits) ps in omega arith) in
    ap₂ by_numbers (e ∙ ap lowest_of rest ∙ lowest_first (forbids terms q) ps few) (h ∙ ap lowest_of meet ∙ lowest_first (permits terms q) ps few)

-- the mark of the permits, by what they say
pub permits_words : (t : List ℕ) (ps : List Policy) → permits_of ps ≡ permits_of (words_of t ps)
permits_words t ps = sym (mark_words t (λ p. p.permits) ps)

-- ---- the mark's size: where `number` of 64 policies are left it has a bit for each of the others, and there is room for one more

bit_more : (hit : Bool) (mark k : ℕ) → mark < 2 ^ k → cond hit 1 0 + 2 * mark < 2 ^ suc k
bit_more true mark k h = omega arith
bit_more false mark k h = omega arith

module _ (hit : Bool) (mark number : ℕ) (some : 1 ≤ number) (few : number ≤ 64) (h : mark < 2 ^ (64 - number)) where
  pub bit_there : cond hit 1 0 + 2 * mark < 2 ^ (64 - (number - 1))
  bit_there = let e : 64 - (number - 1) ≡ suc (64 - number) = omega arith in rw e (bit_more hit mark (64 - number) h)

  pub bit_fits : cond hit 1 0 + 2 * mark < 2 ^ 64
  bit_fits = let few_bits : 64 - (number - 1) ≤ 64 = omega arith in lt_of_lt_of_le bit_there (pow-le-pow_right (omega arith) few_bits)

-- a bit behind a mark that is shifted by one has its place to itself
bit_small : (hit : Bool) → cond hit 1 0 < 2
bit_small true = omega arith
bit_small false = omega arith

pub shifted_or : (hit : Bool) (mark : ℕ) {bit : ℕ} → bit ≡ cond hit 1 0 → cond hit 1 0 + 2 * mark < 2 ^ 64
    → bit_or (mark * 2 ^ 1 % 2 ^ 64) bit ≡ cond hit 1 0 + 2 * mark
shifted_or hit mark {bit} e h =
    let few : mark * 2 ^ 1 < 2 ^ 64 = omega arith in
    let small : bit < 2 ^ 1 = rw e (bit_small hit) in
    rw (mod-eq_of_lt few) (or_shifted mark 1 bit small ∙ omega arith)

-- no bit is set before the first policy is met
pub no_bits : (number : ℕ) → 0 < 2 ^ (64 - number)
no_bits number = one-le-pow (64 - number) 2 (omega arith)
