-- What is found of policies, from the last to the first. Assumes nothing.
use mathlib.Core.Path.{◌≡◌, refl, sym, ap, ap₂, ◌∙◌, subst}
use mathlib.Core.Bool.{Bool, true, false, cond}
use mathlib.Core.List.{List}
use Prim.Native.Nat.{ℕ, ◌+◌, ◌-◌, ◌*◌, ◌/◌, ◌%◌, ◌≤◌, ◌<◌}
use native.Mathlib.Omega.{arith}
use borrow.Author.Tests.{ltb-true, ltb-false, eqb-true, eqb-false}
use lib.Dec.{eqb, ltb}
use lib.ListN.{length, get_or, set, replicate, length-set, length-replicate, get_or-replicate, get_or-eq_default}
use lib.Seq.{get_or-set_same, get_or-set_other}
use Rattle.grammar.specs.Policies.{Policy}
use Rattle.table.specs.Layout.{entry_at}
use Rattle.table.specs.declared.Entry.{Entry}
use Rattle.stored.specs.ReadBack.{policy_at}
use Rattle.stored.specs.Ready.{Last}
use Rattle.placing.specs.Said.{policy_words}
use Rattle.meaning.specs.Targets.{Request}
use Rattle.meaning.specs.Decisions.{target_matches, Numbered}
use Rattle.meaning.proofs.Deciding.{numbered_some, numbered_few}
use Rattle.meaning.proofs.Marking.{numbered_one}
use Rattle.depths.specs.Looks.{Steady, own_of, other_of, aim_of, end_at, PolicyEnds}

-- a number in each of the five parts
module _ (looks : List ℕ) (i own other aim low high : ℕ) (long : length looks ≡ 320) (small : i < 64) where
  abbrev two : List ℕ
  two = set (set looks i own) (64 + i) other

  abbrev four : List ℕ
  four = set (set two (128 + i) aim) (192 + i) low

  abbrev five : List ℕ
  five = set four (256 + i) high

  two_long : length two ≡ 320
  two_long = length-set (set looks i own) (64 + i) other ∙ length-set looks i own ∙ long

  four_long : length four ≡ 320
  four_long = length-set (set two (128 + i) aim) (192 + i) low ∙ length-set two (128 + i) aim ∙ two_long

  five_long : length five ≡ 320
  five_long = length-set four (256 + i) high ∙ four_long

  -- below the third part
  five_two : (j : ℕ) → j < 128 → get_or five j 0 ≡ get_or two j 0
  five_two j h =
      get_or-set_other four (256 + i) j high 0 (λ e. omega arith) ∙ get_or-set_other (set two (128 + i) aim) (192 + i) j low 0 (λ e. omega arith)
      ∙ get_or-set_other two (128 + i) j aim 0 (λ e. omega arith)

  five_own : get_or five i 0 ≡ own
  five_own = five_two i (omega arith) ∙ get_or-set_other (set looks i own) (64 + i) i other 0 (λ e. omega arith) ∙ get_or-set_same looks i own 0 (omega arith)

  five_other : get_or five (64 + i) 0 ≡ other
  five_other = five_two (64 + i) (omega arith) ∙ get_or-set_same (set looks i own) (64 + i) other 0 (omega (arith, length-set looks i own))

  five_aim : get_or five (128 + i) 0 ≡ aim
  five_aim =
      get_or-set_other four (256 + i) (128 + i) high 0 (λ e. omega arith) ∙ get_or-set_other (set two (128 + i) aim) (192 + i) (128 + i) low 0 (λ e. omega arith)
      ∙ get_or-set_same two (128 + i) aim 0 (omega (arith, two_long))

  five_low : get_or five (192 + i) 0 ≡ low
  five_low =
      get_or-set_other four (256 + i) (192 + i) high 0 (λ e. omega arith)
      ∙ get_or-set_same (set two (128 + i) aim) (192 + i) low 0 (omega (arith, length-set two (128 + i) aim, two_long))

  five_high : get_or five (256 + i) 0 ≡ high
  five_high = get_or-set_same four (256 + i) high 0 (omega (arith, four_long))

  five_kept : (j : ℕ) → (j ≡ i → ⊥) → (j ≡ 64 + i → ⊥) → (j ≡ 128 + i → ⊥) → (j ≡ 192 + i → ⊥) → (j ≡ 256 + i → ⊥) → get_or five j 0 ≡ get_or looks j 0
  five_kept j a b c d e =
      get_or-set_other four (256 + i) j high 0 e ∙ get_or-set_other (set two (128 + i) aim) (192 + i) j low 0 d ∙ get_or-set_other two (128 + i) j aim 0 c
      ∙ get_or-set_other (set looks i own) (64 + i) j other 0 b ∙ get_or-set_other looks i j own 0 a

module _ (t table s : List ℕ) (n : ℕ) (heads : List ℕ) (q : Request) (ps : List Policy) where
  -- what is found of the policies above a number is right
  pub record Found (number : ℕ) (looks : List ℕ) : Type 0 where
    pub long : length looks ≡ 320
    pub few : (i : ℕ) → i < 64 → get_or looks i 0 < 6
    pub steady : (m : ℕ) (policy : Policy) → Numbered m policy ps → number < m → Steady t s n heads policy (own_of looks m) (other_of looks m)
    pub aimed : (m : ℕ) (policy : Policy) → Numbered m policy ps → number < m → aim_of looks m ≡ target_matches q (policy_words t policy)
    pub ended : (m : ℕ) (policy : Policy) → Numbered m policy ps → number < m → PolicyEnds t table (end_at looks (m - 1)) policy

  module _ (number : ℕ) (looks : List ℕ) (policy : Policy) (own other : ℕ) (aimed : Bool) (end : ℕ) (some : 1 ≤ number) (most : length ps ≤ 64) (here : Numbered number policy ps)
      (f : Found number looks) where
    abbrev after : List ℕ
    after = set (set (set (set (set looks (number - 1) own) (64 + (number - 1)) other) (128 + (number - 1)) (cond aimed 1 0)) (192 + (number - 1)) (end % 256)) (256 + (number - 1)) (end / 256)

    small : number - 1 < 64
    small = omega (arith, numbered_few here)

    -- another policy's numbers stay
    others_kept : (m : ℕ) {policy' : Policy} → Numbered m policy' ps → (m ≡ number → ⊥)
        → (own_of after m ≡ own_of looks m) × (other_of after m ≡ other_of looks m) × (aim_of after m ≡ aim_of looks m) × (end_at after (m - 1) ≡ end_at looks (m - 1))
    others_kept m h d =
        let some' = numbered_some h in let few = numbered_few h in let low = small in
        let stays = five_kept looks (number - 1) own other (cond aimed 1 0) (end % 256) (end / 256) f.long small in (
          stays (m - 1) (λ e. d (omega arith)) (λ e. omega arith) (λ e. omega arith) (λ e. omega arith) (λ e. omega arith),
          stays (64 + (m - 1)) (λ e. omega arith) (λ e. d (omega arith)) (λ e. omega arith) (λ e. omega arith) (λ e. omega arith),
          ap (λ (x : ℕ). eqb x 1) (stays (128 + (m - 1)) (λ e. omega arith) (λ e. omega arith) (λ e. d (omega arith)) (λ e. omega arith) (λ e. omega arith)),
          ap₂ (λ (x y : ℕ). x + 256 * y)
              (stays (192 + (m - 1)) (λ e. omega arith) (λ e. omega arith) (λ e. omega arith) (λ e. d (omega arith)) (λ e. omega arith))
              (stays (256 + (m - 1)) (λ e. omega arith) (λ e. omega arith) (λ e. omega arith) (λ e. omega arith) (λ e. d (omega arith))),
        )

    aim_is : (b : Bool) → eqb (cond b 1 0) 1 ≡ b
    aim_is true = refl
    aim_is false = refl

    end_is : end_at after (number - 1) ≡ end
    end_is =
        ap₂ (λ (x y : ℕ). x + 256 * y) (five_low looks (number - 1) own other (cond aimed 1 0) (end % 256) (end / 256) f.long small)
        (five_high looks (number - 1) own other (cond aimed 1 0) (end % 256) (end / 256) f.long small)
        ∙ omega arith

    pub found_more : own < 6 → Steady t s n heads policy own other → aimed ≡ target_matches q (policy_words t policy) → PolicyEnds t table end policy → Found (number - 1) after
    found_more low st a ends = record {
      long = five_long looks (number - 1) own other (cond aimed 1 0) (end % 256) (end / 256) f.long small;
      few = λ i l. few_there i l (eqb i (number - 1)) refl;
      steady = λ m policy' h l. steady_there m policy' h l (eqb m number) refl;
      aimed = λ m policy' h l. aimed_there m policy' h l (eqb m number) refl;
      ended = λ m policy' h l. ended_there m policy' h l (eqb m number) refl;
    }
      where
        few_there : (i : ℕ) → i < 64 → (b : Bool) → eqb i (number - 1) ≡ b → get_or after i 0 < 6
        few_there i l true e = rw (eqb-true i (number - 1) e, five_own looks (number - 1) own other (cond aimed 1 0) (end % 256) (end / 256) f.long small) low
        few_there i l false e =
            rw (five_kept looks (number - 1) own other (cond aimed 1 0) (end % 256) (end / 256) f.long small i (eqb-false i (number - 1) e) (λ e. omega arith) (λ e. omega arith) (λ e. omega arith) (λ e. omega arith)) (f.few i l)

        is_that : (m : ℕ) (policy' : Policy) → Numbered m policy' ps → m ≡ number → policy ≡ policy'
        is_that m policy' h k = numbered_one here (subst (λ (k : ℕ). Numbered k policy' ps) k h)

        steady_there : (m : ℕ) (policy' : Policy) → Numbered m policy' ps → number - 1 < m → (b : Bool) → eqb m number ≡ b
            → Steady t s n heads policy' (own_of after m) (other_of after m)
        steady_there m policy' h l true e =
            let k : m ≡ number = eqb-true m number e in
            rw (← is_that m policy' h k, k, five_own looks (number - 1) own other (cond aimed 1 0) (end % 256) (end / 256) f.long small, five_other looks (number - 1) own other (cond aimed 1 0) (end % 256) (end / 256) f.long small) st
        steady_there m policy' h l false e =
            let d = eqb-false m number e in
            let k = others_kept m h d in
            rw (k.0, k.1) (f.steady m policy' h (let z : number < m = omega arith in z))

        aimed_there : (m : ℕ) (policy' : Policy) → Numbered m policy' ps → number - 1 < m → (b : Bool) → eqb m number ≡ b → aim_of after m ≡ target_matches q (policy_words t policy')
        aimed_there m policy' h l true e =
            let k : m ≡ number = eqb-true m number e in
            rw (← is_that m policy' h k, k, five_aim looks (number - 1) own other (cond aimed 1 0) (end % 256) (end / 256) f.long small) (aim_is aimed ∙ a)
        aimed_there m policy' h l false e =
            let d = eqb-false m number e in
            (others_kept m h d).2 ∙ f.aimed m policy' h (let z : number < m = omega arith in z)

        ended_there : (m : ℕ) (policy' : Policy) → Numbered m policy' ps → number - 1 < m → (b : Bool) → eqb m number ≡ b → PolicyEnds t table (end_at after (m - 1)) policy'
        ended_there m policy' h l true e =
            let k : m ≡ number = eqb-true m number e in
            rw (← is_that m policy' h k, k) (subst (λ (x : ℕ). PolicyEnds t table x policy) (sym end_is) ends)
        ended_there m policy' h l false e =
            let d = eqb-false m number e in
            subst (λ (x : ℕ). PolicyEnds t table x policy') (sym (others_kept m h d).3) (f.ended m policy' h (let z : number < m = omega arith in z))

-- a list of zeros has no other number
pub zeros_say : (n i : ℕ) → ◌≡◌ {A = ℕ} (get_or (replicate n 0) i 0) 0
zeros_say n i = go (ltb i n) refl
  where
    go : (b : Bool) → ltb i n ≡ b → ◌≡◌ {A = ℕ} (get_or (replicate n 0) i 0) 0
    go true e = get_or-replicate {A = ℕ} n i 0 0 (ltb-true i n e)
    go false e = get_or-eq_default {A = ℕ} (replicate n 0) 0 {n = i} (rw (length-replicate {A = ℕ} n 0) (ltb-false i n e))

-- the entries of the policy whose last entry is read
pub ends_there : (t table : List ℕ) {end : ℕ} {x : Entry} → x ≡ entry_at table (end - 1) → Last t table end x → PolicyEnds t table end (policy_at table end x)
ends_there t table e l = record { last = rw (← e) l; is = rw (← e) }
