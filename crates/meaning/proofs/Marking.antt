-- The mark: its bits, that there is one such number, and that outcome and policy follow from it and the effects. Assumes nothing.
use mathlib.Core.Path.{◌≡◌, refl, sym, ◌∙◌, ap}
use mathlib.Core.Logic.{◌↔◌}
use mathlib.Core.Bool.{Bool, true, false, cond, not, ◌&&◌}
use mathlib.Core.List.{List, [], ◌∷◌, ◌++◌}
use Prim.Native.Nat.{ℕ, zero, suc, ◌+◌, ◌-◌, ◌*◌, ◌/◌, ◌%◌, ◌^◌, ◌≤◌, ◌<◌}
use native.Mathlib.Nat.{div-div-eq-div-mul, pow-succ', mod-lt}
use native.Mathlib.Decide.{ℕ_discrete}
use native.Mathlib.Omega.{arith}
use lib.Dec.{eqb}
use lib.ListN.{length}
use Rattle.grammar.specs.Policies.{PolicyOf}
use Rattle.placing.specs.Said.{Word}
use Rattle.meaning.specs.Targets.{Request, is_system}
use Rattle.meaning.specs.Decisions.{Terms, satisfied, first_of, policies_decide, decision_of, Numbered, first, later, mark_by, mark_of, decided_mark, effects_of, first_marked, decided_by, BitSet, SatisfiedAt, MarksExactly, for_the_system, for_another, MarkedRightly, OneMark, MarkDecides}
use Rattle.meaning.proofs.Deciding.{never, numbered_some}

-- ---- numbers of a list

-- a number is that of one of a list
same_number : {A : Type 0} {n m : ℕ} {p : A} {ps : List A} → n ≡ m → Numbered n p ps → Numbered m p ps
same_number e h = rw e at h

behind : {A : Type 0} {n m : ℕ} {p q : A} {ps : List A} → Numbered n p (q ∷ ps) → n ≡ suc m → 0 < m → Numbered m p ps
behind first e l = absurd (omega arith)
behind (later h) e l = same_number (omega arith) h

front : {A : Type 0} {n : ℕ} {p q : A} {ps : List A} → Numbered n p (q ∷ ps) → n ≡ 1 → p ≡ q
front first e = refl
front (later h) e = let l = numbered_some h in absurd (omega arith)

pub numbered_one : {A : Type 0} {n : ℕ} {p q : A} {ps : List A} → Numbered n p ps → Numbered n q ps → p ≡ q
numbered_one first k = sym (front k refl)
numbered_one (later h) k = numbered_one h (behind k refl (numbered_some h))

-- ---- bits

-- a number's lowest bit, and the others
low_bit : (b : Bool) (m : ℕ) → (cond b 1 0 + 2 * m) % 2 ≡ cond b 1 0
low_bit true m = omega arith
low_bit false m = omega arith

others : (b : Bool) (m : ℕ) → (cond b 1 0 + 2 * m) / 2 ≡ m
others true m = omega arith
others false m = omega arith

next_bit : (m k : ℕ) → m / 2 ^ suc k ≡ m / 2 / 2 ^ k
next_bit m k = ap (λ (n : ℕ). m / n) (pow-succ' 2 k) ∙ sym (div-div-eq-div-mul m 2 (2 ^ k))

bit_true : (b : Bool) → ◌≡◌ {A = ℕ} (cond b 1 0) 1 → b ≡ true
bit_true true e = refl
bit_true false e = absurd (omega arith)

-- two numbers with the same bits are the same
same_bits : (most m n : ℕ) → m ≤ most → n ≤ most → ((k : ℕ) → m / 2 ^ k % 2 ≡ n / 2 ^ k % 2) → m ≡ n
same_bits zero m n h l e = omega arith
same_bits (suc most) m n h l e =
    let low : m / 1 % 2 ≡ n / 1 % 2 = e 0 in
    let high : m / 2 ≡ n / 2 = same_bits most (m / 2) (n / 2) (omega arith) (omega arith) (λ k. rw (← next_bit m k, ← next_bit n k) (e (suc k))) in
    omega arith

both_set : (a b : ℕ) → a < 2 → b < 2 → (a ≡ 1 → b ≡ 1) → (b ≡ 1 → a ≡ 1) → a ≡ b
both_set a b h l f g = elim (ℕ_discrete a 1) [
  | yes e ↦ let k = f e in omega arith
  | no e ↦ elim (ℕ_discrete b 1) [ yes k ↦ absurd (e (g k)) | no k ↦ omega arith ]
]

-- ---- the mark of a list

module _ {A : Type 0} (test : A → Bool) where
  -- bit k is set where number k + 1 passes the test
  pub set_then : (ps : List A) (k : ℕ) → mark_by test ps / 2 ^ k % 2 ≡ 1 → (p : A) × Numbered (suc k) p ps × (test p ≡ true)
  unfolding mark_by
  set_then [] k e = absurd (let z : 0 / 2 ^ k ≡ 0 = none k in let y : ◌≡◌ {A = ℕ} (0 % 2) 1 = rw z at e in omega arith)
    where
      none : (k : ℕ) → 0 / 2 ^ k ≡ 0
      none zero = refl
      none (suc k) = next_bit 0 k ∙ none k
  set_then (p ∷ ps) zero e =
      let low : (cond (test p) 1 0 + 2 * mark_by test ps) / 1 % 2 ≡ 1 = e in
      (p, first, bit_true (test p) (sym (low_bit (test p) (mark_by test ps)) ∙ omega arith))
  set_then (p ∷ ps) (suc k) e =
      let r = set_then ps k (rw (next_bit (cond (test p) 1 0 + 2 * mark_by test ps) k, others (test p) (mark_by test ps)) at e) in
      (r.0, later r.1, r.2)

  -- and not elsewhere
  pub then_set : (ps : List A) (k : ℕ) (p : A) → Numbered (suc k) p ps → test p ≡ true → mark_by test ps / 2 ^ k % 2 ≡ 1
  unfolding mark_by
  then_set [] k p h e = absurd (nowhere h)
    where
      nowhere : {m : ℕ} → Numbered m p [] → ⊥
      nowhere = elim [ ]
  then_set (q ∷ ps) zero p h e =
      let same : test q ≡ true = ap test (sym (front h refl)) ∙ e in
      let low : (cond (test q) 1 0 + 2 * mark_by test ps) % 2 ≡ 1 = low_bit (test q) (mark_by test ps) ∙ rw same in
      let one : (cond (test q) 1 0 + 2 * mark_by test ps) / 1 % 2 ≡ 1 = omega arith in
      one
  then_set (q ∷ ps) (suc k) p h e = rw (next_bit (cond (test q) 1 0 + 2 * mark_by test ps) k, others (test q) (mark_by test ps)) (then_set ps k p (behind h refl (omega arith)) e)

  -- no bit is set beyond the last
  pub mark_below : (ps : List A) → mark_by test ps < 2 ^ length ps
  unfolding mark_by
  mark_below [] = omega arith
  mark_below (p ∷ ps) = go (test p) (mark_below ps)
    where
      go : (b : Bool) → mark_by test ps < 2 ^ length ps → cond b 1 0 + 2 * mark_by test ps < 2 ^ suc (length ps)
      go true l = omega arith
      go false l = omega arith

  -- ---- met from the last to the first: `m` is the mark of those met, and `ps` are left

  unfoldable pub mark_after : List A → ℕ → ℕ
  mark_after [] m = m
  mark_after (p ∷ ps) m = cond (test p) 1 0 + 2 * mark_after ps m

  pub none_met : (ps : List A) → mark_after ps 0 ≡ mark_by test ps
  unfolding mark_after mark_by
  none_met [] = refl
  none_met (p ∷ ps) = rw (none_met ps)

  pub met_more : (ps : List A) (p : A) (m : ℕ) → mark_after (ps ++ p ∷ []) m ≡ mark_after ps (cond (test p) 1 0 + 2 * m)
  unfolding mark_after
  met_more [] p m = refl
  met_more (q ∷ ps) p m = rw (met_more ps p m)

  pub met_most : (ps : List A) (m : ℕ) → m ≤ mark_after ps m
  unfolding mark_after
  met_most [] m = omega arith
  met_most (p ∷ ps) m = let l = met_most ps m in omega arith

-- ---- a decision's mark

module _ (terms : Terms) (q : Request) (ps : List (PolicyOf Word)) where
  exactly : (n : ℕ) → BitSet (mark_of terms q ps) n ↔ SatisfiedAt terms q ps n
  exactly n = (to n, from n)
    where
      to : (n : ℕ) → BitSet (mark_of terms q ps) n → SatisfiedAt terms q ps n
      to zero b = absurd (let h = b.some in omega arith)
      to (suc k) b =
          let here : suc k - 1 ≡ k = omega arith in
          let r = set_then (satisfied terms q) ps k (rw here at b.set) in
          record { policy = r.0; numbered = r.1; satisfied_there = r.2 }

      from : (n : ℕ) → SatisfiedAt terms q ps n → BitSet (mark_of terms q ps) n
      from zero s = absurd (let h = numbered_some s.numbered in omega arith)
      from (suc k) s =
          let here : suc k - 1 ≡ k = omega arith in
          record { some = omega arith; set = rw here (then_set (satisfied terms q) ps k s.policy s.numbered s.satisfied_there) }

pub marked_rightly : MarkedRightly
unfolding MarkedRightly decided_mark
marked_rightly terms q ps = go (is_system q.subject) refl
  where
    go : (b : Bool) → is_system q.subject ≡ b → MarksExactly terms q ps (cond b 0 (mark_of terms q ps))
    go true e = for_the_system e
    go false e = for_another e (exactly terms q ps)

-- the bits of two such numbers are the same
alike : {terms : Terms} {q : Request} {ps : List (PolicyOf Word)} (m n : ℕ) → ((k : ℕ) → BitSet m k ↔ SatisfiedAt terms q ps k) → ((k : ℕ) → BitSet n k ↔ SatisfiedAt terms q ps k)
    → m ≡ n
alike m n f g = same_bits (m + n) m n (omega arith) (omega arith) (λ k. both_set (m / 2 ^ k % 2) (n / 2 ^ k % 2) (mod-lt _ (omega arith)) (mod-lt _ (omega arith)) (there m n f g k) (there n m g f k))
  where
    there : {terms : Terms} {q : Request} {ps : List (PolicyOf Word)} (m n : ℕ) → ((k : ℕ) → BitSet m k ↔ SatisfiedAt terms q ps k) → ((k : ℕ) → BitSet n k ↔ SatisfiedAt terms q ps k)
        → (k : ℕ) → m / 2 ^ k % 2 ≡ 1 → n / 2 ^ k % 2 ≡ 1
    there m n f g k e =
        let here : suc k - 1 ≡ k = omega arith in
        rw here at ((g (suc k)).1 ((f (suc k)).0 (record { some = omega arith; set = rw here e }))).set

pub one_mark : OneMark
unfolding OneMark
one_mark terms q ps m n (for_the_system s) (for_the_system z) = refl
one_mark terms q ps m n (for_the_system s) (for_another z g) = absurd (never z s)
one_mark terms q ps m n (for_another s f) (for_the_system z) = absurd (never s z)
one_mark terms q ps m n (for_another s f) (for_another z g) = alike m n f g

-- ---- outcome and policy follow

the_bit : (b : Bool) → eqb (cond b 1 0) 1 ≡ b
the_bit true = refl
the_bit false = refl

module _ (terms : Terms) (q : Request) where
  first_marked_lem : (effect : Bool → Bool) (n : ℕ) (ps : List (PolicyOf Word))
      → first_of (λ p. effect p.permits && satisfied terms q p) n ps ≡ first_marked effect n (effects_of ps) (mark_of terms q ps)
  unfolding first_of first_marked mark_by
  first_marked_lem effect n [] = refl
  first_marked_lem effect n (p ∷ ps) =
      rw (low_bit (satisfied terms q p) (mark_of terms q ps), others (satisfied terms q p) (mark_of terms q ps), the_bit (satisfied terms q p), first_marked_lem effect (suc n) ps)

  by_the_mark : (ps : List (PolicyOf Word)) → policies_decide terms q ps ≡ decided_by (effects_of ps) (mark_of terms q ps)
  unfolding policies_decide decided_by
  by_the_mark ps = rw (first_marked_lem not 1 ps, first_marked_lem (λ b. b) 1 ps)

pub mark_decides : MarkDecides
unfolding MarkDecides MarkedRightly OneMark decided_mark decision_of
mark_decides terms q ps mark s m = go (one_mark terms q ps _ _ m (marked_rightly terms q ps))
  where
    go : mark ≡ decided_mark terms q ps → decision_of terms q ps ≡ decided_by (effects_of ps) mark
    go e = let k : mark ≡ mark_of terms q ps = e ∙ rw s in rw (s, k) (by_the_mark terms q ps)
