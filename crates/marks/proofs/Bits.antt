-- The bits of a mark: what setting and clearing one does, the lowest that is set, and a mark without the bits of another. Assumes nothing.
use mathlib.Core.Path.{◌≡◌, refl, sym, ap, ap₂, ◌∙◌}
use mathlib.Core.Bool.{Bool, true, false, cond, not, ◌&&◌}
use mathlib.Core.List.{List, [], ◌∷◌}
use Prim.Native.Nat.{ℕ, zero, suc, ◌+◌, ◌-◌, ◌*◌, ◌/◌, ◌%◌, ◌^◌, ◌≤◌, ◌<◌, min}
use native.Mathlib.Nat.{mod-lt, zero-add}
use native.Mathlib.Omega.{arith}
use borrow.Author.Tests.{eqb-true, eqb-false, eq-eqb, ne_eqb}
use lib.Bits.{bit_and, and_step, and_le_l}
use lib.Count.{under, count_trailing_zeros}
use lib.Dec.{eqb}
use lib.ListN.{length}
use Rattle.meaning.specs.Decisions.{Numbered, first, later, first_of, mark_by}
use Rattle.meaning.proofs.Deciding.{numbered_some}
use Rattle.marks.specs.Marks.{is_set, lowest_of}

-- ---- a number by its lowest bit and the others

low_bit : (b : Bool) (m : ℕ) → (cond b 1 0 + 2 * m) % 2 ≡ cond b 1 0
low_bit true m = omega arith
low_bit false m = omega arith

others : (b : Bool) (m : ℕ) → (cond b 1 0 + 2 * m) / 2 ≡ m
others true m = omega arith
others false m = omega arith

the_bit : (b : Bool) → eqb (cond b 1 0) 1 ≡ b
the_bit true = refl
the_bit false = refl

pub bit_first : (b : Bool) (m : ℕ) → is_set (cond b 1 0 + 2 * m) 0 ≡ b
unfolding is_set
bit_first b m = rw (low_bit b m) (the_bit b)

pub bit_behind : (b : Bool) (m k : ℕ) → is_set (cond b 1 0 + 2 * m) (suc k) ≡ is_set m k
unfolding is_set
bit_behind b m k = rw (others b m)

pub none_set : (k : ℕ) → is_set 0 k ≡ false
unfolding is_set
none_set zero = refl
none_set (suc k) = none_set k

even : (m : ℕ) → eqb (m % 2) 1 ≡ false → m % 2 ≡ 0
even m e = let d = eqb-false (m % 2) 1 e in go (m % 2) refl d
  where
    go : (x : ℕ) → m % 2 ≡ x → (x ≡ 1 → ⊥) → x ≡ 0
    go zero h d = refl
    go (suc zero) h d = absurd (d refl)
    go (suc (suc x)) h d = absurd (omega arith)

-- ---- a bit that is set

pub added_same : (i m : ℕ) → is_set m i ≡ false → is_set (m + 2 ^ i) i ≡ true
unfolding is_set
added_same zero m e = let z : (m + 1) % 2 ≡ 1 = omega (arith, even m e) in rw z
added_same (suc i) m e = let h : (m + 2 ^ suc i) / 2 ≡ m / 2 + 2 ^ i = omega arith in rw h (added_same i (m / 2) e)

pub added_other : (i k m : ℕ) → (k ≡ i → ⊥) → is_set m i ≡ false → is_set (m + 2 ^ i) k ≡ is_set m k
unfolding is_set
added_other zero zero m d e = absurd (d refl)
added_other zero (suc k) m d e = let h : (m + 1) / 2 ≡ m / 2 = omega (arith, even m e) in rw h
added_other (suc i) zero m d e = let h : (m + 2 ^ suc i) % 2 ≡ m % 2 = omega arith in rw h
added_other (suc i) (suc k) m d e = let h : (m + 2 ^ suc i) / 2 ≡ m / 2 + 2 ^ i = omega arith in rw h (added_other i k (m / 2) (λ s. d (ap suc s)) e)

-- no bit is set beyond the last
pub added_below : (n i m : ℕ) → i < n → m < 2 ^ n → is_set m i ≡ false → m + 2 ^ i < 2 ^ n
unfolding is_set
added_below zero i m h l e = absurd (omega arith)
added_below (suc n) zero m h l e = omega (arith, even m e)
added_below (suc n) (suc i) m h l e = let r = added_below n i (m / 2) (omega arith) (omega arith) e in omega arith

pub set_below : (n k m : ℕ) → m < 2 ^ n → is_set m k ≡ true → k < n
unfolding is_set
set_below zero k m l e = absurd (let z : m ≡ 0 = omega arith in let f : false ≡ true = sym (none_set k) ∙ (rw z at e) in let y : ◌≡◌ {A = ℕ} 0 1 = ap (λ (b : Bool). cond b 1 0) f in omega arith)
set_below (suc n) zero m l e = omega arith
set_below (suc n) (suc k) m l e = let r = set_below n k (m / 2) (omega arith) e in omega arith

-- ---- a bit that is cleared

pub taken_fits : (i m : ℕ) → is_set m i ≡ true → 2 ^ i ≤ m
unfolding is_set
taken_fits zero m e = omega (arith, eqb-true (m % 2) 1 e)
taken_fits (suc i) m e = let r = taken_fits i (m / 2) e in omega arith

pub taken_same : (i m : ℕ) → is_set m i ≡ true → is_set (m - 2 ^ i) i ≡ false
unfolding is_set
taken_same zero m e = let z : (m - 1) % 2 ≡ 0 = omega (arith, eqb-true (m % 2) 1 e) in rw z
taken_same (suc i) m e = let r = taken_fits i (m / 2) e in let h : (m - 2 ^ suc i) / 2 ≡ m / 2 - 2 ^ i = omega arith in rw h (taken_same i (m / 2) e)

pub taken_other : (i k m : ℕ) → (k ≡ i → ⊥) → is_set m i ≡ true → is_set (m - 2 ^ i) k ≡ is_set m k
unfolding is_set
taken_other zero zero m d e = absurd (d refl)
taken_other zero (suc k) m d e = let h : (m - 1) / 2 ≡ m / 2 = omega (arith, eqb-true (m % 2) 1 e) in rw h
taken_other (suc i) zero m d e = let r = taken_fits i (m / 2) e in let h : (m - 2 ^ suc i) % 2 ≡ m % 2 = omega arith in rw h
taken_other (suc i) (suc k) m d e =
    let r = taken_fits i (m / 2) e in let h : (m - 2 ^ suc i) / 2 ≡ m / 2 - 2 ^ i = omega arith in rw h (taken_other i k (m / 2) (λ s. d (ap suc s)) e)

-- ---- the lowest bit that is set

trailing_set : (n m : ℕ) → 0 < m → m < 2 ^ n → is_set m (count_trailing_zeros n m) ≡ true
unfolding is_set count_trailing_zeros
trailing_set zero m s l = absurd (omega arith)
trailing_set (suc n) m s l = go (m % 2) refl (λ h. trailing_set n (m / 2) h (omega arith))
  where
    go : (d : ℕ) → m % 2 ≡ d → (0 < m / 2 → is_set (m / 2) (count_trailing_zeros n (m / 2)) ≡ true) → is_set m (under d (count_trailing_zeros n (m / 2))) ≡ true
    go zero e rest = rest (omega arith)
    go (suc d) e rest = let z : m % 2 ≡ 1 = omega arith in rw z

pub lowest_none : (m : ℕ) → m ≡ 0 → 0 ≡ lowest_of m
unfolding lowest_of
lowest_none m e = rw (eq-eqb m 0 e)

pub lowest_there : (m : ℕ) → (m ≡ 0 → ⊥) → count_trailing_zeros 64 m + 1 ≡ lowest_of m
unfolding lowest_of
lowest_there m d = rw (ne_eqb m 0 d)

-- a mark that is not 0 has a lowest bit
pub lowest_some : (m : ℕ) → 0 < m → 1 ≤ lowest_of m
unfolding lowest_of
lowest_some m s = rw (ne_eqb m 0 (λ e. omega arith)) (omega arith)

pub lowest_set : (m : ℕ) → 0 < m → m < 2 ^ 64 → is_set m (lowest_of m - 1) ≡ true
unfolding lowest_of
lowest_set m s l =
    let e : eqb m 0 ≡ false = ne_eqb m 0 (λ e. omega arith) in
    let h : count_trailing_zeros 64 m + 1 - 1 ≡ count_trailing_zeros 64 m = omega arith in
    rw (e, h) (trailing_set 64 m s l)

-- ---- a mark without the bits of another

less_bit : (m a x y : ℕ) → m % 2 ≡ x → x < 2 → y < 2 → a ≤ m / 2 → eqb ((m - (a * 2 + min x y)) % 2) 1 ≡ eqb x 1 && not (eqb y 1)
less_bit m a zero zero e h l f = let z : (m - (a * 2 + 0)) % 2 ≡ 0 = omega arith in rw z
less_bit m a zero (suc zero) e h l f = let z : (m - (a * 2 + 0)) % 2 ≡ 0 = omega arith in rw z
less_bit m a (suc zero) zero e h l f = let z : (m - (a * 2 + 0)) % 2 ≡ 1 = omega arith in rw z
less_bit m a (suc zero) (suc zero) e h l f = let z : (m - (a * 2 + 1)) % 2 ≡ 0 = omega arith in rw z
less_bit m a (suc (suc x)) y e h l f = absurd (omega arith)
less_bit m a zero (suc (suc y)) e h l f = absurd (omega arith)
less_bit m a (suc zero) (suc (suc y)) e h l f = absurd (omega arith)

less_half : (m a x y : ℕ) → m % 2 ≡ x → x < 2 → y < 2 → a ≤ m / 2 → (m - (a * 2 + min x y)) / 2 ≡ m / 2 - a
less_half m a zero zero e h l f = omega arith
less_half m a zero (suc zero) e h l f = omega arith
less_half m a (suc zero) zero e h l f = omega arith
less_half m a (suc zero) (suc zero) e h l f = omega arith
less_half m a (suc (suc x)) y e h l f = absurd (omega arith)
less_half m a zero (suc (suc y)) e h l f = absurd (omega arith)
less_half m a (suc zero) (suc (suc y)) e h l f = absurd (omega arith)

pub without_bit : (k m l : ℕ) → is_set (m - bit_and m l) k ≡ is_set m k && not (is_set l k)
unfolding is_set
without_bit zero m l =
    ap (λ (n : ℕ). eqb ((m - n) % 2) 1) (and_step m l)
    ∙ less_bit m (bit_and (m / 2) (l / 2)) (m % 2) (l % 2) refl (mod-lt m (omega arith)) (mod-lt l (omega arith)) (and_le_l (m / 2) (l / 2))
without_bit (suc k) m l =
    ap (λ (n : ℕ). is_set n k)
    (ap (λ (n : ℕ). (m - n) / 2) (and_step m l)
    ∙ less_half m (bit_and (m / 2) (l / 2)) (m % 2) (l % 2) refl (mod-lt m (omega arith)) (mod-lt l (omega arith)) (and_le_l (m / 2) (l / 2)))
    ∙ without_bit k (m / 2) (l / 2)

-- ---- the mark of a list by its bits

split : (m : ℕ) → m ≡ cond (eqb (m % 2) 1) 1 0 + 2 * (m / 2)
split m = go (eqb (m % 2) 1) refl
  where
    go : (b : Bool) → eqb (m % 2) 1 ≡ b → m ≡ cond b 1 0 + 2 * (m / 2)
    go true e = omega (arith, eqb-true (m % 2) 1 e)
    go false e = omega (arith, even m e)

module _ {A : Type 0} (test : A → Bool) where
  pub bits_are : (ps : List A) (m : ℕ) → m < 2 ^ length ps → ((k : ℕ) (p : A) → Numbered (suc k) p ps → is_set m k ≡ test p) → m ≡ mark_by test ps
  unfolding is_set mark_by
  bits_are [] m l f = omega arith
  bits_are (p ∷ ps) m l f =
      let low = f 0 p first in
      let small : m < 2 ^ suc (length ps) = l in
      let rest = bits_are ps (m / 2) (omega arith) (λ k r h. f (suc k) r (later h)) in
      split m ∙ ap₂ (λ (b : Bool) (n : ℕ). cond b 1 0 + 2 * n) low rest

  pub marked_bit : {ps : List A} {n : ℕ} {p : A} → Numbered n p ps → is_set (mark_by test ps) (n - 1) ≡ test p
  unfolding mark_by
  marked_bit {ps = []} m = elim m [ ]
  marked_bit {ps = p ∷ ps} first = bit_first (test p) (mark_by test ps)
  marked_bit {ps = p ∷ ps} {n = suc n} (later h) =
      let some = numbered_some h in
      let e : suc n - 1 ≡ suc (n - 1) = omega arith in
      rw e (bit_behind (test p) (mark_by test ps) (n - 1) ∙ marked_bit h)

-- number k + 1 of a list that is long enough
pub numbered_there : {A : Type 0} (ps : List A) (k : ℕ) → k < length ps → (p : A) × Numbered (suc k) p ps
numbered_there [] k h = absurd (omega arith)
numbered_there (p ∷ ps) zero h = (p, first)
numbered_there (p ∷ ps) (suc k) h = let r = numbered_there ps k (omega arith) in (r.0, later r.1)

-- ---- the first of a list that passes a test, by the mark

module _ {A : Type 0} (test : A → Bool) where
  first_lowest : (k n : ℕ) (ps : List A) → length ps ≤ k → first_of test (suc n) ps ≡ cond (eqb (mark_by test ps) 0) 0 (count_trailing_zeros k (mark_by test ps) + suc n)
  unfolding first_of mark_by count_trailing_zeros
  first_lowest k n [] h = refl
  first_lowest zero n (p ∷ ps) h = absurd (omega arith)
  first_lowest (suc k) n (p ∷ ps) h = go (test p) (eqb (mark_by test ps) 0) refl (first_lowest k (suc n) ps (omega arith))
    where
      go : (b c : Bool) → eqb (mark_by test ps) 0 ≡ c → first_of test (suc (suc n)) ps ≡ cond (eqb (mark_by test ps) 0) 0 (count_trailing_zeros k (mark_by test ps) + suc (suc n))
          → cond b (suc n) (first_of test (suc (suc n)) ps)
          ≡ cond (eqb (cond b 1 0 + 2 * mark_by test ps) 0) 0 (under ((cond b 1 0 + 2 * mark_by test ps) % 2) (count_trailing_zeros k ((cond b 1 0 + 2 * mark_by test ps) / 2)) + suc n)
      go true c e r = rw (low_bit true (mark_by test ps), ne_eqb (1 + 2 * mark_by test ps) 0 (λ z. omega arith)) (sym (zero-add (suc n)))
      go false true e r =
          let z : mark_by test ps ≡ 0 = eqb-true (mark_by test ps) 0 e in
          rw (r, e, eq-eqb (0 + 2 * mark_by test ps) 0 (omega arith))
      go false false e r =
          let d = eqb-false (mark_by test ps) 0 e in
          let some : 0 < mark_by test ps = positive (mark_by test ps) d in
          let s : count_trailing_zeros k (mark_by test ps) + suc (suc n) ≡ suc (count_trailing_zeros k (mark_by test ps)) + suc n = omega arith in
          rw (r, e, low_bit false (mark_by test ps), others false (mark_by test ps), ne_eqb (0 + 2 * mark_by test ps) 0 (λ z. omega arith), s)
        where
          positive : (m : ℕ) → (m ≡ 0 → ⊥) → 0 < m
          positive zero f = absurd (f refl)
          positive (suc m) f = omega arith

  pub lowest_first : (ps : List A) → length ps ≤ 64 → lowest_of (mark_by test ps) ≡ first_of test 1 ps
  unfolding lowest_of
  lowest_first ps h = sym (first_lowest 64 0 ps h)

-- ---- two tests of a list

module _ {A : Type 0} (a b : A → Bool) where
  both : (x y : Bool) (m n r : ℕ) → bit_and m n ≡ r → bit_and (cond x 1 0 + 2 * m) (cond y 1 0 + 2 * n) ≡ cond (y && x) 1 0 + 2 * r
  both x y m n r e =
      and_step (cond x 1 0 + 2 * m) (cond y 1 0 + 2 * n)
      ∙ ap₂ (λ (u v : ℕ). u * 2 + v) (ap₂ (λ (u v : ℕ). bit_and u v) (others x m) (others y n) ∙ e)
      (ap₂ (λ (u v : ℕ). min u v) (low_bit x m) (low_bit y n) ∙ least x y)
      ∙ omega arith
    where
      least : (x y : Bool) → min (cond x 1 0) (cond y 1 0) ≡ cond (y && x) 1 0
      least true true = refl
      least true false = refl
      least false true = refl
      least false false = refl

  pub and_marks : (ps : List A) → bit_and (mark_by a ps) (mark_by b ps) ≡ mark_by (λ p. b p && a p) ps
  unfolding mark_by
  and_marks [] = refl
  and_marks (p ∷ ps) = both (a p) (b p) (mark_by a ps) (mark_by b ps) (mark_by (λ p. b p && a p) ps) (and_marks ps)

  pub sum_marks : (ps : List A) → mark_by (λ p. b p && a p) ps + mark_by (λ p. not (b p) && a p) ps ≡ mark_by a ps
  unfolding mark_by
  sum_marks [] = refl
  sum_marks (p ∷ ps) = go (a p) (b p) (sum_marks ps)
    where
      go : (x y : Bool) → mark_by (λ p. b p && a p) ps + mark_by (λ p. not (b p) && a p) ps ≡ mark_by a ps
          → (cond (y && x) 1 0 + 2 * mark_by (λ p. b p && a p) ps) + (cond (not y && x) 1 0 + 2 * mark_by (λ p. not (b p) && a p) ps) ≡ cond x 1 0 + 2 * mark_by a ps
      go true true e = omega arith
      go true false e = omega arith
      go false true e = omega arith
      go false false e = omega arith
