-- The reader finds a character exactly where RFC 3629's table has one, with its number; a number has one sequence of bytes only. Assumes nothing.
use mathlib.Core.Path.{◌≡◌, refl}
use mathlib.Core.Bool.{Bool, true, false, cond, ◌&&◌}
use mathlib.Core.List.{List, [], ◌∷◌, ◌++◌}
use Prim.Native.Nat.{ℕ, ◌+◌, ◌-◌, ◌*◌, ◌<◌, ◌≤◌}
use native.Mathlib.Omega.{arith}
use lib.Dec.{eqb, leb}
use lib.ListN.{length, get_or, take}
use borrow.Author.Tests.{eqb-true, eqb-false, leb-true, leb-false}
use Rattle.utf8.specs.Characters.{Bits, Character, one, two, three, four}
use Rattle.utf8.specs.Reading.{bytes_by_first, may_stand_second, goes_on_character, followed, width, number_said, point}
use Rattle.utf8.proofs.Bytes as b
use Rattle.utf8.proofs.Bytes.{Row, row, rows_one, rows_two, rows_three, rows_four, Second, second_decides, tail_decides}

-- ---- from the table to the reader

pub record Read (c : List ℕ) (n : ℕ) (s : List ℕ) : Type 0 where
  pub width_is : width (c ++ s) ≡ length c
  pub point_is : point (c ++ s) ≡ n

pub tail_of : {bits y : ℕ} → Bits 0x80 0x40 bits y → goes_on_character y ≡ true
tail_of {bits} {y} h = (tail_decides y).complete (record { low = omega arith; high = omega arith })

pub read : {c : List ℕ} {n : ℕ} → Character c n → (s : List ℕ) → Read c n s
unfolding width followed point number_said
read (one {n} h) s = record { width_is = rw (rows_one n h); point_is = rw (rows_one n h) }
read (two {a} {b} {x} {y} {n} p q e l) s =
    let k : bytes_by_first x ≡ 2 = rows_two x (omega arith) (omega arith) in
    let t : may_stand_second x y ≡ true =
    (second_decides x y).complete (record { low = omega arith; high = omega arith; e0 = λ f. omega arith; ed = λ f. omega arith; f0 = λ f. omega arith; f4 = λ f. omega arith }) in
    record { width_is = rw (k, t); point_is = rw k (omega arith) }
read (three {a} {b} {c} {x} {y} {z} {n} p q r e l out) s =
    let k : bytes_by_first x ≡ 3 = rows_three x (omega arith) (omega arith) (omega arith) in
    let ed : x ≡ 0xED → y ≤ 0x9F = λ f. below_surrogates (leb y 0x9F) refl f in
    let t : may_stand_second x y ≡ true = (second_decides x y).complete (record { low = omega arith; high = omega arith; e0 = λ f. omega arith; ed = ed; f0 = λ f. omega arith; f4 = λ f. omega arith }) in
    record { width_is = rw (k, t, tail_of r); point_is = rw k (omega arith) }
  where
    below_surrogates : (d : Bool) → leb y 0x9F ≡ d → x ≡ 0xED → y ≤ 0x9F
    below_surrogates true g f = omega (arith, leb-true y 0x9F g)
    below_surrogates false g f = let h = leb-false y 0x9F g in absurd (out (omega arith) (omega arith))
read (four {a} {b} {c} {d} {x} {y} {z} {w} {n} p q r u e l m) s =
    let k : bytes_by_first x ≡ 4 = rows_four x (omega arith) (omega arith) (omega arith) in
    let t : may_stand_second x y ≡ true =
    (second_decides x y).complete (record { low = omega arith; high = omega arith; e0 = λ f. omega arith; ed = λ f. omega arith; f0 = λ f. omega arith; f4 = λ f. omega arith }) in
    record { width_is = rw (k, t, tail_of r, tail_of u); point_is = rw k (omega arith) }

-- ---- from the reader to the table

bits_of : (fixed room x : ℕ) → fixed ≤ x → x < fixed + room → Bits fixed room (x - fixed) x
bits_of fixed room x l h = record { fits = omega arith; is = omega arith }

six : {y : ℕ} → 0x80 ≤ y → y ≤ 0xBF → Bits 0x80 0x40 (y - 0x80) y
six {y} l h = bits_of 0x80 0x40 y l (omega arith)

two_there : (x : ℕ) → 0xC2 ≤ x → x ≤ 0xDF → (s : List ℕ) (b : Bool) → may_stand_second x (get_or s 0 0) ≡ b → 0 < cond (b && true) 2 0
    → Character (take (cond (b && true) 2 0) (x ∷ s)) ((x - 0xC0) * 64 + (get_or s 0 0 - 0x80))
two_there x l m s false e h = absurd (omega arith)
two_there x l m [] true e h = absurd (omega (arith, ((second_decides x 0).sound e).low))
two_there x l m (y ∷ s) true e h =
    let t = (second_decides x y).sound e in
    two (bits_of 0xC0 0x20 x (omega arith) (omega arith)) (six t.low t.high) refl (omega arith)

module _ (x y z : ℕ) (l : 0xE0 ≤ x) (t : Second x y) where
  none_longer_three : 0x800 ≤ ((x - 0xE0) * 64 + (y - 0x80)) * 64 + (z - 0x80)
  none_longer_three = go (eqb x 0xE0) refl
    where
      go : (b : Bool) → eqb x 0xE0 ≡ b → 0x800 ≤ ((x - 0xE0) * 64 + (y - 0x80)) * 64 + (z - 0x80)
      go true e = omega (arith, t.e0 (eqb-true x 0xE0 e), eqb-true x 0xE0 e)
      go false e = omega (arith, eqb-false x 0xE0 e)

  no_surrogate : x ≤ 0xEF → z ≤ 0xBF → 0xD800 ≤ ((x - 0xE0) * 64 + (y - 0x80)) * 64 + (z - 0x80) → ((x - 0xE0) * 64 + (y - 0x80)) * 64 + (z - 0x80) ≤ 0xDFFF → ⊥
  no_surrogate m k p q = let e : x ≡ 0xED = omega arith in omega (arith, t.ed e)

three_there : (x : ℕ) → 0xE0 ≤ x → x ≤ 0xEF → (s : List ℕ) (b : Bool) → may_stand_second x (get_or s 0 0) ≡ b → (c : Bool) → goes_on_character (get_or s 1 0) ≡ c → 0 < cond (b && (c && true)) 3 0
    → Character (take (cond (b && (c && true)) 3 0) (x ∷ s)) (((x - 0xE0) * 64 + (get_or s 0 0 - 0x80)) * 64 + (get_or s 1 0 - 0x80))
three_there x l m s false e c f h = absurd (omega arith)
three_there x l m s true e false f h = absurd (omega arith)
three_there x l m [] true e true f h = absurd (omega (arith, ((second_decides x 0).sound e).low))
three_there x l m (y ∷ []) true e true f h = absurd (omega (arith, ((tail_decides 0).sound f).low))
three_there x l m (y ∷ z ∷ s) true e true f h =
    let t = (second_decides x y).sound e in
    let u = (tail_decides z).sound f in
    three (bits_of 0xE0 0x10 x l (omega arith)) (six t.low t.high) (six u.low u.high) refl (none_longer_three x y z l t) (no_surrogate x y z l t m u.high)

module _ (x y z w : ℕ) (l : 0xF0 ≤ x) (t : Second x y) where
  none_longer_four : 0x10000 ≤ (((x - 0xF0) * 64 + (y - 0x80)) * 64 + (z - 0x80)) * 64 + (w - 0x80)
  none_longer_four = go (eqb x 0xF0) refl
    where
      go : (b : Bool) → eqb x 0xF0 ≡ b → 0x10000 ≤ (((x - 0xF0) * 64 + (y - 0x80)) * 64 + (z - 0x80)) * 64 + (w - 0x80)
      go true e = omega (arith, t.f0 (eqb-true x 0xF0 e), eqb-true x 0xF0 e)
      go false e = omega (arith, eqb-false x 0xF0 e)

  none_above : x ≤ 0xF4 → z ≤ 0xBF → w ≤ 0xBF → (((x - 0xF0) * 64 + (y - 0x80)) * 64 + (z - 0x80)) * 64 + (w - 0x80) ≤ 0x10FFFF
  none_above m k i = go (eqb x 0xF4) refl
    where
      go : (b : Bool) → eqb x 0xF4 ≡ b → (((x - 0xF0) * 64 + (y - 0x80)) * 64 + (z - 0x80)) * 64 + (w - 0x80) ≤ 0x10FFFF
      go true e = omega (arith, t.f4 (eqb-true x 0xF4 e), eqb-true x 0xF4 e)
      go false e = omega (arith, eqb-false x 0xF4 e)

four_there : (x : ℕ) → 0xF0 ≤ x → x ≤ 0xF4 → (s : List ℕ) (b : Bool) → may_stand_second x (get_or s 0 0) ≡ b → (c : Bool) → goes_on_character (get_or s 1 0) ≡ c → (d : Bool) → goes_on_character (get_or s 2 0) ≡ d
    → 0 < cond (b && (c && d)) 4 0
    → Character (take (cond (b && (c && d)) 4 0) (x ∷ s)) ((((x - 0xF0) * 64 + (get_or s 0 0 - 0x80)) * 64 + (get_or s 1 0 - 0x80)) * 64 + (get_or s 2 0 - 0x80))
four_there x l m s false e c f d g h = absurd (omega arith)
four_there x l m s true e false f d g h = absurd (omega arith)
four_there x l m s true e true f false g h = absurd (omega arith)
four_there x l m [] true e true f true g h = absurd (omega (arith, ((second_decides x 0).sound e).low))
four_there x l m (y ∷ []) true e true f true g h = absurd (omega (arith, ((tail_decides 0).sound f).low))
four_there x l m (y ∷ z ∷ []) true e true f true g h = absurd (omega (arith, ((tail_decides 0).sound g).low))
four_there x l m (y ∷ z ∷ w ∷ s) true e true f true g h =
    let t = (second_decides x y).sound e in
    let u = (tail_decides z).sound f in
    let v = (tail_decides w).sound g in
    four (bits_of 0xF0 0x08 x l (omega arith)) (six t.low t.high) (six u.low u.high) (six v.low v.high) refl (none_longer_four x y z w l t)
    (none_above x y z w l t m u.high v.high)

found : (x k : ℕ) → Row x k → (s : List ℕ) → 0 < cond (followed k x s) k 0
    → Character (take (cond (followed k x s) k 0) (x ∷ s)) (number_said k x (get_or s 0 0) (get_or s 1 0) (get_or s 2 0))
unfolding followed number_said
found x k b.none s h = absurd (omega arith)
found x k (b.one l) s h = one l
found x k (b.two l m) s h = two_there x l m s (may_stand_second x (get_or s 0 0)) refl h
found x k (b.three l m) s h = three_there x l m s (may_stand_second x (get_or s 0 0)) refl (goes_on_character (get_or s 1 0)) refl h
found x k (b.four l m) s h = four_there x l m s (may_stand_second x (get_or s 0 0)) refl (goes_on_character (get_or s 1 0)) refl (goes_on_character (get_or s 2 0)) refl h

pub there : (s : List ℕ) → 0 < width s → Character (take (width s) s) (point s)
unfolding width point
there [] h = absurd (omega arith)
there (x ∷ s) h = found x (bytes_by_first x) (row x) s h

-- ---- one sequence of bytes for each number

pub some_bytes : {c : List ℕ} {n : ℕ} → Character c n → 0 < length c
some_bytes (one _) = omega arith
some_bytes (two _ _ _ _) = omega arith
some_bytes (three _ _ _ _ _ _) = omega arith
some_bytes (four _ _ _ _ _ _ _) = omega arith

-- bytes whose bits are the same are the same
same_byte : {f r i j x y : ℕ} → Bits f r i x → Bits f r j y → i ≡ j → x ≡ y
same_byte p q e = omega arith

pub one_spelling : {c d : List ℕ} {n : ℕ} → Character c n → Character d n → c ≡ d
one_spelling (one h) (one i) = refl
one_spelling (two {a} {b} p q e l) (two {a = a'} {b = b'} p' q' e' l') =
    rw (same_byte p p' (omega arith), same_byte q q' (omega arith))
one_spelling (three {a} {b} {c} p q r e l o) (three {a = a'} {b = b'} {c = c'} p' q' r' e' l' o') =
    rw (same_byte p p' (omega arith), same_byte q q' (omega arith), same_byte r r' (omega arith))
one_spelling (four {a} {b} {c} {d} p q r u e l o) (four {a = a'} {b = b'} {c = c'} {d = d'} p' q' r' u' e' l' o') =
    rw (same_byte p p' (omega arith), same_byte q q' (omega arith), same_byte r r' (omega arith), same_byte u u' (omega arith))
one_spelling (one h) (two p q e l) = absurd (omega arith)
one_spelling (one h) (three p q r e l o) = absurd (omega arith)
one_spelling (one h) (four p q r u e l o) = absurd (omega arith)
one_spelling (two p q e l) (one h) = absurd (omega arith)
one_spelling (two p q e l) (three p' q' r' e' l' o') = absurd (omega arith)
one_spelling (two p q e l) (four p' q' r' u' e' l' o') = absurd (omega arith)
one_spelling (three p q r e l o) (one h) = absurd (omega arith)
one_spelling (three p q r e l o) (two p' q' e' l') = absurd (omega arith)
one_spelling (three p q r e l o) (four p' q' r' u' e' l' o') = absurd (omega arith)
one_spelling (four p q r u e l o) (one h) = absurd (omega arith)
one_spelling (four p q r u e l o) (two p' q' e' l') = absurd (omega arith)
one_spelling (four p q r u e l o) (three p' q' r' e' l' o') = absurd (omega arith)
