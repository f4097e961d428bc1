-- Steps over characters, and characters told by their bytes: what a pattern's character matches is told by the first bytes, and where these are the
-- same by all. Assumes nothing.
use mathlib.Core.Path.{◌≡◌, refl, sym, ◌∙◌, ap}
use mathlib.Core.Logic.{◌↔◌}
use mathlib.Core.Bool.{Bool, not}
use mathlib.Core.List.{List, [], ◌∷◌, ◌++◌}
use Prim.Native.Nat.{ℕ, ◌+◌, ◌-◌, ◌<◌, ◌≤◌}
use native.Mathlib.Omega.{arith}
use lib.ListN.{length, get_or, take, drop, length-drop, take-append-drop, drop_of_length-le}
use lib.Seq.{drop-drop}
use borrow.Author.Tests.{ne_eqb}
use Rattle.slices.specs.Decides.{Decides}
use Rattle.slices.proofs.Decided.{carried}
use Rattle.slices.proofs.Rest.{rest_at}
use Rattle.patterns.specs.Like.{star, Admits, itself, any}
use Rattle.patterns.proofs.Laws.{never_star, same_admits}
use Rattle.utf8.specs.Characters.{Character, one, two, three, four, Spells, nothing, Utf8}
use Rattle.utf8.specs.Reading.{width, point, points}
use Rattle.utf8.proofs.OneCharacter.{read, there, one_spelling}
use Rattle.utf8.proofs.Places.{ascii}
use Rattle.utf8.proofs.Readings.{first, says_exactly}
use Rattle.patterns.specs.Steps.{Stepped}

-- ---- a step

says_points : {s ns : List ℕ} → Spells s ns → ns ≡ points s
says_points {s} {ns} m = ((says_exactly s ns).0 m).1

pub no_points : (s : List ℕ) (i : ℕ) → length s ≤ i → points (drop i s) ≡ []
no_points s i h = rw (drop_of_length-le s) (sym (says_points nothing))

pub step : (s : List ℕ) (at w : ℕ) → at < length s → Utf8 (drop at s) → w ≡ width (drop at s) → Stepped s at (at + w)
step s at w h u e =
    let f = first u.says (omega (arith, length-drop at s)) in
    let left : Spells (drop (at + w) s) f.rest = rw (← drop-drop w at s, e) f.says in
    record {
      is = ap (λ (k : ℕ). at + k) e;
      low = omega (arith, f.some);
      high = omega (arith, f.whole, length-drop at s);
      good = record { numbers = f.rest; says = left };
      says = sym (says_points u.says) ∙ (f.numbers ∙ ap (λ (l : List ℕ). point (drop at s) ∷ l) (says_points left));
    }

pub some_width : (s : List ℕ) (at : ℕ) → at < length s → Utf8 (drop at s) → 0 < width (drop at s)
some_width s at h u = (first u.says (omega (arith, length-drop at s))).some

-- ---- a character of one byte is that byte, and no other character begins with it

pub record SameAscii (x n : ℕ) : Type 0 where
  pub to : x ≤ 0x7F → n ≡ x
  pub back : n ≤ 0x7F → x ≡ n

same_ascii : {c : List ℕ} {n : ℕ} → Character c n → (s : List ℕ) → SameAscii (get_or (c ++ s) 0 0) n
same_ascii (one h) s = record { to = λ _. refl; back = λ _. refl }
same_ascii (two p q e l) s = record { to = λ i. omega arith; back = λ i. omega arith }
same_ascii (three p q r e l o) s = record { to = λ i. omega arith; back = λ i. omega arith }
same_ascii (four p q r u e l o) s = record { to = λ i. omega arith; back = λ i. omega arith }

pub ascii_at : (s : List ℕ) (i : ℕ) → i < length s → Utf8 (drop i s) → SameAscii (get_or s i 0) (point (drop i s))
ascii_at s i h u =
    let f = first u.says (omega (arith, length-drop i s)) in
    let e : get_or (drop i s) 0 0 ≡ get_or s i 0 = rw (rest_at s i) in
    rw (← e) (rw take-append-drop at (same_ascii (there (drop i s) f.some) (drop (width (drop i s)) (drop i s))))

-- a step over a byte of ASCII
pub ascii_step : (s : List ℕ) (i : ℕ) → i < length s → Utf8 (drop i s) → get_or s i 0 ≤ 0x7F → Stepped s i (i + 1)
ascii_step s i h u l = step s i 1 h u (ascii s i h l)

-- ---- Admits, of two characters n and m that begin with the bytes x and c

pub ascii_admits : {x c : ℕ} → Admits x c → c ≤ 0x7F → x ≤ 0x7F
ascii_admits (itself k l) h = h
ascii_admits (any k) h = omega arith

-- where the string's is ASCII the bytes tell all
bytes_admit : {x c n m : ℕ} → SameAscii x n → SameAscii c m → c ≤ 0x7F → Admits n m ↔ Admits x c
bytes_admit {x} {c} {n} {m} a b h =
    let e : m ≡ c = b.to h in
    ((λ t. rw (a.back (ascii_admits t (omega arith)), ← e) t), (λ t. rw (a.to (ascii_admits t h), e) t))

-- else the first bytes must match too
firsts_admit : {x c n m : ℕ} → SameAscii x n → SameAscii c m → (n ≡ m → x ≡ c) → Admits n m → Admits x c
firsts_admit a b f (itself k l) = rw (← f refl) (itself (λ e. k (a.to (omega arith) ∙ e)) (λ e. l (a.to (omega arith) ∙ e)))
firsts_admit a b f (any k) = rw (a.back (omega arith)) (any (λ e. k (b.to (omega arith) ∙ e)))

-- where they differ that is enough
pub others_admit : {x c n m : ℕ} → SameAscii x n → SameAscii c m → (x ≡ c → ⊥) → Admits x c → Admits n m
others_admit a b f (itself k l) = absurd (f refl)
others_admit a b f (any k) = rw (a.to (omega arith)) (any (λ e. k (b.back (omega arith) ∙ e)))

-- and where they are the same the characters must be
one_point : {x c n m : ℕ} → SameAscii x n → SameAscii c m → x ≡ c → Admits n m → n ≡ m
one_point a b e (itself k l) = refl
one_point a b e (any k) = omega (arith, a.back (omega arith), b.to (omega (arith, a.back (omega arith))))

point_admits : {x c n m : ℕ} → SameAscii x n → Admits x c → n ≡ m → Admits n m
point_admits {n = n} a t e = rw (← e) ((same_admits n).sound (ap not (ne_eqb n star (λ f. never_star t (a.back (omega arith) ∙ f)))))

-- the bytes of a character tell it
one_number : {c : List ℕ} {n m : ℕ} → Character c n → Character c m → n ≡ m
one_number p q = sym (read p []).point_is ∙ (read q []).point_is

same_number : {c d : List ℕ} {n m : ℕ} → Character c n → Character d m → c ≡ d → n ≡ m
same_number {c} {d} {n} {m} p q e = one_number (rw e at p) q

same_bytes : {c d : List ℕ} {n m : ℕ} → Character c n → Character d m → n ≡ m → c ≡ d
same_bytes p q e = one_spelling (rw e at p) q

first_byte : {c : List ℕ} {n : ℕ} → Character c n → (s t : List ℕ) → get_or (c ++ s) 0 0 ≡ get_or (c ++ t) 0 0
first_byte (one h) s t = refl
first_byte (two p q e l) s t = refl
first_byte (three p q r e l o) s t = refl
first_byte (four p q r u e l o) s t = refl

same_first : {c d : List ℕ} {n m : ℕ} → Character c n → Character d m → (s t : List ℕ) → n ≡ m → get_or (c ++ s) 0 0 ≡ get_or (d ++ t) 0 0
same_first {c} {d} p q s t e = rw (same_bytes p q e) (first_byte q s t)

-- ---- the same of the characters at two places

module _ (p s : List ℕ) (i j : ℕ) (hi : i < length p) (u : Utf8 (drop i p)) (hj : j < length s) (v : Utf8 (drop j s)) where
  pub admits_firsts : Admits (point (drop i p)) (point (drop j s)) → Admits (get_or p i 0) (get_or s j 0)
  admits_firsts =
      let g = step p i (width (drop i p)) hi u refl in
      let k = step s j (width (drop j s)) hj v refl in
      let x : get_or (drop i p) 0 0 ≡ get_or p i 0 = rw (rest_at p i) in
      let y : get_or (drop j s) 0 0 ≡ get_or s j 0 = rw (rest_at s j) in
      firsts_admit (ascii_at p i hi u) (ascii_at s j hj v)
      (λ e. sym x ∙ (rw (take-append-drop, take-append-drop) at (same_first (there (drop i p) (omega (arith, g.low))) (there (drop j s) (omega (arith, k.low))) (drop (width (drop i p)) (drop i p)) (drop (width (drop j s)) (drop j s)) e)) ∙ y)

  -- where the string's is ASCII, who decides it of the bytes decides it of the characters
  pub by_bytes : {r : Bool} → get_or s j 0 ≤ 0x7F → Decides (Admits (get_or p i 0) (get_or s j 0)) r → Decides (Admits (point (drop i p)) (point (drop j s))) r
  by_bytes l d = carried (bytes_admit (ascii_at p i hi u) (ascii_at s j hj v) l) d

  pub same_firsts : {e f : ℕ} → Stepped p i e → Stepped s j f → get_or p i 0 ≡ get_or s j 0 → Admits (get_or p i 0) (get_or s j 0)
      → Admits (point (drop i p)) (point (drop j s)) ↔ take (e - i) (drop i p) ≡ take (f - j) (drop j s)
  same_firsts {e} {f} g k q t =
      let a = there (drop i p) (omega (arith, g.is, g.low)) in
      let b = there (drop j s) (omega (arith, k.is, k.low)) in
      let x : e - i ≡ width (drop i p) = omega (arith, g.is) in
      let y : f - j ≡ width (drop j s) = omega (arith, k.is) in
      let m = ascii_at p i hi u in
      let n = ascii_at s j hj v in
      rw (x, y) ((λ h. same_bytes a b (one_point m n q h)), (λ h. point_admits m t (same_number a b h)))
