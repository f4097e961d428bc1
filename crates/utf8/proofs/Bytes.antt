-- What the tests of single bytes say. Assumes nothing.
use mathlib.Core.Path.{◌≡◌, refl}
use mathlib.Core.Bool.{Bool, true, false, cond}
use Prim.Native.Nat.{ℕ, ◌<◌, ◌≤◌}
use native.Mathlib.Omega.{arith}
use lib.Dec.{eqb, ltb, leb}
use borrow.Author.Tests.{eqb-true, eqb-false, ltb-false, leb-true, leb-false, le-leb, lt-leb, lt-ltb, le-ltb}
use Rattle.slices.specs.Decides.{Decides}
use Rattle.slices.proofs.Decided.{both}
use Rattle.utf8.specs.Reading.{bytes_by_first, lowest_second, highest_second, may_stand_second, goes_on_character}

-- ---- the first byte

pub data Row (x : ℕ) : ℕ → Type 0 where
  none : Row x 0
  one : x ≤ 0x7F → Row x 1
  two : 0xC2 ≤ x → x ≤ 0xDF → Row x 2
  three : 0xE0 ≤ x → x ≤ 0xEF → Row x 3
  four : 0xF0 ≤ x → x ≤ 0xF4 → Row x 4

pub row : (x : ℕ) → Row x (bytes_by_first x)
unfolding bytes_by_first
row x = go (leb x 0x7F) refl (ltb x 0xC2) refl (leb x 0xDF) refl (leb x 0xEF) refl (leb x 0xF4) refl
  where
    go : (a : Bool) → leb x 0x7F ≡ a → (b : Bool) → ltb x 0xC2 ≡ b → (c : Bool) → leb x 0xDF ≡ c → (d : Bool) → leb x 0xEF ≡ d → (e : Bool) → leb x 0xF4 ≡ e
        → Row x (cond a 1 (cond b 0 (cond c 2 (cond d 3 (cond e 4 0)))))
    go true p b q c r d s e t = one (leb-true x 0x7F p)
    go false p true q c r d s e t = none
    go false p false q true r d s e t = two (ltb-false x 0xC2 q) (leb-true x 0xDF r)
    go false p false q false r true s e t = three (leb-false x 0xDF r) (leb-true x 0xEF s)
    go false p false q false r false s true t = four (leb-false x 0xEF s) (leb-true x 0xF4 t)
    go false p false q false r false s false t = none

pub rows_one : (x : ℕ) → x ≤ 0x7F → bytes_by_first x ≡ 1
unfolding bytes_by_first
rows_one x h = rw (le-leb x 0x7F h)

-- no character begins so
pub rows_between : (x : ℕ) → 0x7F < x → x < 0xC2 → bytes_by_first x ≡ 0
unfolding bytes_by_first
rows_between x l h = rw (lt-leb x 0x7F l, lt-ltb x 0xC2 h)

pub rows_above : (x : ℕ) → 0xF4 < x → bytes_by_first x ≡ 0
unfolding bytes_by_first
rows_above x h = rw (lt-leb x 0x7F (omega arith), le-ltb x 0xC2 (omega arith), lt-leb x 0xDF (omega arith), lt-leb x 0xEF (omega arith), lt-leb x 0xF4 h)

module _ (x : ℕ) (l : 0xC2 ≤ x) where
  pub rows_two : x ≤ 0xDF → bytes_by_first x ≡ 2
  unfolding bytes_by_first
  rows_two h = rw (lt-leb x 0x7F (omega arith), le-ltb x 0xC2 l, le-leb x 0xDF h)

  pub rows_three : 0xE0 ≤ x → x ≤ 0xEF → bytes_by_first x ≡ 3
  unfolding bytes_by_first
  rows_three l3 h = rw (lt-leb x 0x7F (omega arith), le-ltb x 0xC2 l, lt-leb x 0xDF l3, le-leb x 0xEF h)

  pub rows_four : 0xF0 ≤ x → x ≤ 0xF4 → bytes_by_first x ≡ 4
  unfolding bytes_by_first
  rows_four l4 h = rw (lt-leb x 0x7F (omega arith), le-ltb x 0xC2 l, lt-leb x 0xDF (omega arith), lt-leb x 0xEF l4, le-leb x 0xF4 h)

-- the first byte of a character: its size by its highest bits
pub record Known (x k : ℕ) : Type 0 where
  pub one : x ≤ 0x7F → 1 ≡ k
  pub two : 0x7F < x → x ≤ 0xDF → 2 ≡ k
  pub three : 0xDF < x → x ≤ 0xEF → 3 ≡ k
  pub four : 0xEF < x → 4 ≡ k

by_row : {x k : ℕ} → Row x k → 0 < k → Known x k
by_row none h = absurd (omega arith)
by_row (one l) h = record { one = λ _. refl; two = λ m _. absurd (omega arith); three = λ m _. absurd (omega arith); four = λ m. absurd (omega arith) }
by_row (two l n) h = record { one = λ m. absurd (omega arith); two = λ _ _. refl; three = λ m _. absurd (omega arith); four = λ m. absurd (omega arith) }
by_row (three l n) h = record { one = λ m. absurd (omega arith); two = λ _ m. absurd (omega arith); three = λ _ _. refl; four = λ m. absurd (omega arith) }
by_row (four l n) h = record { one = λ m. absurd (omega arith); two = λ _ m. absurd (omega arith); three = λ _ m. absurd (omega arith); four = λ _. refl }

pub known : (x : ℕ) → 0 < bytes_by_first x → Known x (bytes_by_first x)
known x h = by_row (row x) h

-- ---- the second byte, and those after it

pub record Second (x y : ℕ) : Type 0 where
  pub low : 0x80 ≤ y
  pub high : y ≤ 0xBF
  pub e0 : x ≡ 0xE0 → 0xA0 ≤ y
  pub ed : x ≡ 0xED → y ≤ 0x9F
  pub f0 : x ≡ 0xF0 → 0x90 ≤ y
  pub f4 : x ≡ 0xF4 → y ≤ 0x8F

low_decides : (x y : ℕ) → Decides ((0x80 ≤ y) × (x ≡ 0xE0 → 0xA0 ≤ y) × (x ≡ 0xF0 → 0x90 ≤ y)) (leb (lowest_second x) y)
unfolding lowest_second
low_decides x y = go (eqb x 0xE0) refl (eqb x 0xF0) refl
  where
    go : (a : Bool) → eqb x 0xE0 ≡ a → (b : Bool) → eqb x 0xF0 ≡ b
        → Decides ((0x80 ≤ y) × (x ≡ 0xE0 → 0xA0 ≤ y) × (x ≡ 0xF0 → 0x90 ≤ y)) (leb (cond a 0xA0 (cond b 0x90 0x80)) y)
    go true p b q =
        let e = eqb-true x 0xE0 p in
        record { sound = λ t. let h = leb-true 0xA0 y t in (omega arith, (λ _. h), (λ f. omega arith)); complete = λ h. le-leb 0xA0 y (h.1 e) }
    go false p true q =
        let e = eqb-true x 0xF0 q in
        record { sound = λ t. let h = leb-true 0x90 y t in (omega arith, (λ f. omega arith), (λ _. h)); complete = λ h. le-leb 0x90 y (h.2 e) }
    go false p false q =
        record { sound = λ t. (leb-true 0x80 y t, (λ f. absurd (eqb-false x 0xE0 p f)), (λ f. absurd (eqb-false x 0xF0 q f))); complete = λ h. le-leb 0x80 y h.0 }

high_decides : (x y : ℕ) → Decides ((y ≤ 0xBF) × (x ≡ 0xED → y ≤ 0x9F) × (x ≡ 0xF4 → y ≤ 0x8F)) (leb y (highest_second x))
unfolding highest_second
high_decides x y = go (eqb x 0xED) refl (eqb x 0xF4) refl
  where
    go : (a : Bool) → eqb x 0xED ≡ a → (b : Bool) → eqb x 0xF4 ≡ b
        → Decides ((y ≤ 0xBF) × (x ≡ 0xED → y ≤ 0x9F) × (x ≡ 0xF4 → y ≤ 0x8F)) (leb y (cond a 0x9F (cond b 0x8F 0xBF)))
    go true p b q =
        let e = eqb-true x 0xED p in
        record { sound = λ t. let h = leb-true y 0x9F t in (omega arith, (λ _. h), (λ f. omega arith)); complete = λ h. le-leb y 0x9F (h.1 e) }
    go false p true q =
        let e = eqb-true x 0xF4 q in
        record { sound = λ t. let h = leb-true y 0x8F t in (omega arith, (λ f. omega arith), (λ _. h)); complete = λ h. le-leb y 0x8F (h.2 e) }
    go false p false q =
        record { sound = λ t. (leb-true y 0xBF t, (λ f. absurd (eqb-false x 0xED p f)), (λ f. absurd (eqb-false x 0xF4 q f))); complete = λ h. le-leb y 0xBF h.0 }

pub second_decides : (x y : ℕ) → Decides (Second x y) (may_stand_second x y)
unfolding may_stand_second
second_decides x y =
    let d = both (leb (lowest_second x) y) (leb y (highest_second x)) (low_decides x y) (high_decides x y) in
    record {
      sound = λ t. let h = d.sound t in record { low = h.0.0; high = h.1.0; e0 = h.0.1; ed = h.1.1; f0 = h.0.2; f4 = h.1.2 };
      complete = λ h. d.complete ((h.low, h.e0, h.f0), (h.high, h.ed, h.f4));
    }

pub record Tail (y : ℕ) : Type 0 where
  pub low : 0x80 ≤ y
  pub high : y ≤ 0xBF

pub tail_decides : (y : ℕ) → Decides (Tail y) (goes_on_character y)
unfolding goes_on_character
tail_decides y =
    let d = both (leb 0x80 y) (leb y 0xBF) (record { sound = leb-true 0x80 y; complete = le-leb 0x80 y }) (record { sound = leb-true y 0xBF; complete = le-leb y 0xBF }) in
    record { sound = λ t. record { low = (d.sound t).0; high = (d.sound t).1 }; complete = λ h. d.complete (h.low, h.high) }
