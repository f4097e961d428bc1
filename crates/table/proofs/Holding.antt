-- Entries put into a table one after another, and a table compared with them. Assumes nothing.
use mathlib.Core.Path.{◌≡◌, refl, sym, ◌∙◌, ap}
use mathlib.Core.Bool.{Bool, true, false, ◌&&◌}
use mathlib.Core.List.{List, [], ◌∷◌, ◌++◌, append_assoc, append-nil}
use Prim.Native.Nat.{ℕ, suc, ◌+◌, ◌*◌, ◌/◌, ◌%◌, ◌≤◌, ◌<◌}
use native.Mathlib.Nat.{le-div_iff_mul-le}
use native.Mathlib.Omega.{arith}
use native.Mathlib.Nat.{add-zero}
use native.Mathlib.Numerals.{towards_suc}
use lib.ListN.{length, drop, get_or, length-append, length-drop}
use lib.Seq.{sets-eq, drop-cons, drop-drop, take_at, drop-append-add}
use lib.Dec.{eqb}
use borrow.Author.Tests.{eqb-true, eqb-false, eq-eqb, le-leb, leb-true, leb-false}
use Rattle.tokens.proofs.TokenLaws.{and_left, and_right}
use Rattle.table.specs.declared.Entry.{Entry}
use Rattle.slices.specs.Parts.{Begins}
use Rattle.table.specs.Layout.{entry_size, entry_bytes, bytes_of, entries_in, fits, put_at, puts, of_two_bytes, entry_at, entry_is, held, starts_with}
use Rattle.slices.specs.Decides.{Decides}
use Rattle.slices.proofs.Decided.{yes_to, no_to, refuted}

-- ---- one list of entries after another

pub puts_append : (T : List ℕ) (e : ℕ) (a b : List Entry) → puts T e (a ++ b) ≡ puts (puts T e a) (e + length a) b
unfolding puts
puts_append T e [] b = rw add-zero
puts_append T e (x ∷ a) b =
    let q : e + suc (length a) ≡ e + 1 + length a = omega arith in
    rw q (puts_append (put_at T e x) (e + 1) a b)

pub and_assoc : (a b c : Bool) → (a && b) && c ≡ a && (b && c)
and_assoc true b c = refl
and_assoc false b c = refl

pub and_true : (a : Bool) → a && true ≡ a
and_true true = refl
and_true false = refl

pub and_false : (a : Bool) → a && false ≡ false
and_false true = refl
and_false false = refl

pub held_append : (T : List ℕ) (e : ℕ) (a b : List Entry) → held T e (a ++ b) ≡ held T e a && held T (e + length a) b
unfolding held
held_append T e [] b = rw add-zero
held_append T e (x ∷ a) b =
    let q : e + suc (length a) ≡ e + 1 + length a = omega arith in
    rw (q, held_append T (e + 1) a b, and_assoc (entry_is T e x))

pub length_bytes_of : (es : List Entry) → length (bytes_of es) ≡ entry_size * length es
unfolding bytes_of entry_bytes
length_bytes_of [] = refl
length_bytes_of (x ∷ es) = let h = length_bytes_of es in omega arith

length_next : (e : ℕ) (x : Entry) → entry_size * e + length (entry_bytes x) ≡ entry_size * (e + 1)
unfolding entry_bytes
length_next e x = omega arith

-- ---- a table that holds entries begins with their bytes there, and no other does

starts_append : (a b s : List ℕ) → starts_with (a ++ b) s ≡ starts_with a s && starts_with b (drop (length a) s)
unfolding starts_with
starts_append [] b s = refl
starts_append (x ∷ a) b [] = refl
starts_append (x ∷ a) b (y ∷ s) = rw (starts_append a b s) (sym (and_assoc (eqb y x) (starts_with a s) (starts_with b (drop (length a) s))))

too_short : (a s : List ℕ) → length s < length a → starts_with a s ≡ false
unfolding starts_with
too_short [] s h = absurd (omega arith)
too_short (x ∷ a) [] h = refl
too_short (x ∷ a) (y ∷ s) h = rw (too_short a s (omega arith)) (and_false (eqb y x))

pub starts_itself : (a s : List ℕ) → starts_with a (a ++ s) ≡ true
unfolding starts_with
starts_itself [] s = refl
starts_itself (x ∷ a) s = rw (eq-eqb x x refl) (starts_itself a s)

-- the test says whether the bytes begin so
pub starts_decides : (a s : List ℕ) → Decides (Begins a s) (starts_with a s)
unfolding starts_with
starts_decides [] s = yes_to (record { rest = s; is = refl })
starts_decides (x ∷ a) [] = no_to (λ b. let e = ap length b.is in omega arith)
starts_decides (x ∷ a) (y ∷ s) = go (eqb y x) (starts_with a s) refl (starts_decides a s)
  where
    go : (p q : Bool) → eqb y x ≡ p → Decides (Begins a s) q → Decides (Begins (x ∷ a) (y ∷ s)) (p && q)
    go true true e d = let b = d.sound refl in let h = b.is in let k = eqb-true y x e in yes_to (record { rest = b.rest; is = cc })
    go true false e d = no_to (λ b. let h = b.is in refuted d refl (record { rest = b.rest; is = cc }))
    go false q e d = no_to (λ b. let h = b.is in eqb-false y x e (cc))

starts_nil : (s : List ℕ) → starts_with [] s ≡ true
unfolding starts_with
starts_nil s = refl

module _ (T : List ℕ) where
  starts_one : (i b : ℕ) (bs : List ℕ) → i < length T → starts_with (b ∷ bs) (drop i T) ≡ eqb (get_or T i 0) b && starts_with bs (drop (i + 1) T)
  unfolding starts_with
  starts_one i b bs h = rw (drop-cons T i 0 h) (simp towards_suc)

  entry_starts : (e : ℕ) (x : Entry) → entry_is T e x ≡ starts_with (entry_bytes x) (drop (entry_size * e) T)
  unfolding entry_is entry_bytes
  entry_starts e x = go (fits T e) refl
    where
      go : (b : Bool) → fits T e ≡ b → entry_is T e x ≡ starts_with (entry_bytes x) (drop (entry_size * e) T)
      go true h =
          let l = leb-true (entry_size * e + entry_size) (length T) h in
          let i₂ : entry_size * e + 1 + 1 ≡ entry_size * e + 2 = omega arith in
          let i₃ : entry_size * e + 2 + 1 ≡ entry_size * e + 3 = omega arith in
          let i₄ : entry_size * e + 3 + 1 ≡ entry_size * e + 4 = omega arith in
          sym (rw (
            starts_one (entry_size * e) _ _ (omega arith),
            starts_one (entry_size * e + 1) _ _ (omega arith),
            i₂,
            starts_one (entry_size * e + 2) _ _ (omega arith),
            i₃,
            starts_one (entry_size * e + 3) _ _ (omega arith),
            i₄,
            starts_one (entry_size * e + 4) _ _ (omega arith),
            starts_nil,
            h,
          ) (simp (and_assoc, and_true)))
      go false h =
          let l = leb-false (entry_size * e + entry_size) (length T) h in
          let short : length (drop (entry_size * e) T) < 5 = rw (length-drop (entry_size * e) T) (omega arith) in
          rw h (sym (too_short _ (drop (entry_size * e) T) short))

  -- the table holds entries from number e on exactly where their bytes stand at their place
  pub held_starts : (e : ℕ) (es : List Entry) → held T e es ≡ starts_with (bytes_of es) (drop (entry_size * e) T)
  unfolding held bytes_of
  held_starts e [] = sym (starts_nil (drop (entry_size * e) T))
  held_starts e (x ∷ es) =
      let next : entry_size * e + length (entry_bytes x) ≡ entry_size * (e + 1) = length_next e x in
      rw (entry_starts e x, held_starts (e + 1) es)
      (sym (starts_append (entry_bytes x) (bytes_of es) (drop (entry_size * e) T) ∙ rw (drop-drop (length (entry_bytes x)) (entry_size * e) T, next)))

-- ---- what a table gives back

-- a field below 65,536 comes back from its bytes
field_back : (a b n : ℕ) → n < 65536 → a ≡ n % 256 → b ≡ n / 256 % 256 → of_two_bytes a b ≡ n
field_back a b n h e f = omega arith

parted : (a b : Bool) → a && b ≡ true → (a ≡ true) × (b ≡ true)
parted a b h = (and_left a b h, and_right a b h)

-- an entry that the table has is the entry that it gives, where both fields fit into two bytes
pub entry_back : (T : List ℕ) (e : ℕ) (x : Entry) → x.first < 65536 → x.second < 65536 → entry_is T e x ≡ true → entry_at T e ≡ x
unfolding entry_is entry_at
entry_back T e x f s h =
    let (h₅, d) = parted _ _ h in let (h₄, c) = parted _ _ h₅ in let (h₃, b) = parted _ _ h₄ in let (h₂, a) = parted _ _ h₃ in let (r, k) = parted _ _ h₂ in
    let room : fits T e ≡ true = r in
    let kind = eqb-true (get_or T (entry_size * e) 0) x.kind k in
    let first = field_back (get_or T (entry_size * e + 1) 0) (get_or T (entry_size * e + 2) 0) x.first f (eqb-true _ _ a) (eqb-true _ _ b) in
    let second = field_back (get_or T (entry_size * e + 3) 0) (get_or T (entry_size * e + 4) 0) x.second s (eqb-true _ _ c) (eqb-true _ _ d) in
    rw (room, kind, first, second)

-- the parts of a list that a table holds
pub held_left : (T : List ℕ) (e : ℕ) (a b : List Entry) → held T e (a ++ b) ≡ true → held T e a ≡ true
held_left T e a b h = and_left (held T e a) (held T (e + length a) b) (sym (held_append T e a b) ∙ h)

pub held_right : (T : List ℕ) (e : ℕ) (a b : List Entry) → held T e (a ++ b) ≡ true → held T (e + length a) b ≡ true
held_right T e a b h = and_right (held T e a) (held T (e + length a) b) (sym (held_append T e a b) ∙ h)

-- one entry of such a list
pub held_entry : (T : List ℕ) (e : ℕ) (x : Entry) (es : List Entry) → x.first < 65536 → x.second < 65536 → held T e (x ∷ es) ≡ true → entry_at T e ≡ x
unfolding held
held_entry T e x es f s h = entry_back T e x f s (and_left (entry_is T e x) (held T (e + 1) es) h)

-- ---- a table with room for all

put_front : (x : Entry) (T a : List ℕ) (e : ℕ) → length a ≡ entry_size * e → entry_size ≤ length T → put_at (a ++ T) e x ≡ (a ++ entry_bytes x) ++ drop (length (entry_bytes x)) T
unfolding put_at
put_front x T a e h l =
    let n = length_next e x in
    let whole = length-append a T in
    let room : entry_size * e + entry_size ≤ length (a ++ T) = omega arith in
    let room' : entry_size * e + length (entry_bytes x) ≤ length (a ++ T) = omega arith in
    let place : entry_size * e + length (entry_bytes x) ≡ length a + length (entry_bytes x) = omega arith in
    rw (le-leb _ _ room) (sets-eq (entry_bytes x) (a ++ T) (entry_size * e) room' ∙ rw (take_at a T (entry_size * e) h, place, drop-append-add a T (length (entry_bytes x))))

-- entries put behind the bytes a: their bytes, and then what was there
puts_behind : (es : List Entry) (T a : List ℕ) (e : ℕ) → length a ≡ entry_size * e → length (bytes_of es) ≤ length T → puts (a ++ T) e es ≡ (a ++ bytes_of es) ++ drop (length (bytes_of es)) T
unfolding puts bytes_of
puts_behind [] T a e h l = rw (append-nil a)
puts_behind (x ∷ es) T a e h l =
    let n = length_next e x in
    let m = length-append (entry_bytes x) (bytes_of es) in
    let k = length-append a (entry_bytes x) in
    let d = length-drop (length (entry_bytes x)) T in
    rw (
      put_front x T a e h (omega arith),
      puts_behind es (drop (length (entry_bytes x)) T) (a ++ entry_bytes x) (e + 1) (omega arith) (omega arith),
      append_assoc a (entry_bytes x) (bytes_of es),
      drop-drop (length (bytes_of es)) (length (entry_bytes x)) T,
      m,
    )

-- a table into which entries were put from its first byte on: their bytes, and then what was there
pub puts_front : (es : List Entry) (T : List ℕ) → length (bytes_of es) ≤ length T → puts T 0 es ≡ bytes_of es ++ drop (length (bytes_of es)) T
puts_front es T l = puts_behind es T [] 0 refl l

-- ---- the entries that a table has room for, and its bytes

pub many_room : (T : List ℕ) (n : ℕ) → n ≤ entries_in T → entry_size * n ≤ length T
unfolding entries_in
many_room T n h = let b = (le-div_iff_mul-le {k = entry_size} {x = n} {y = length T} (omega arith)).0 h in omega arith

pub room_many : (T : List ℕ) (n : ℕ) → entry_size * n ≤ length T → n ≤ entries_in T
unfolding entries_in
room_many T n h = (le-div_iff_mul-le {k = entry_size} {x = n} {y = length T} (omega arith)).1 (omega arith)

pub many_few : (T : List ℕ) → entries_in T ≤ length T
many_few T = let l = many_room T (entries_in T) (omega arith) in omega arith

-- a table that has some entries is long enough for them
entry_fits : (T : List ℕ) (e : ℕ) (x : Entry) → entry_is T e x ≡ true → entry_size * e + entry_size ≤ length T
unfolding entry_is
entry_fits T e x h = leb-true (entry_size * e + entry_size) (length T) (and_left _ _ (and_left _ _ (and_left _ _ (and_left _ _ (and_left _ _ h)))))

pub held_room : (T : List ℕ) (e : ℕ) (es : List Entry) → 0 < length es → held T e es ≡ true → entry_size * (e + length es) ≤ length T
unfolding held
held_room T e [] n h = absurd (omega arith)
held_room T e (x ∷ []) n h = let f = entry_fits T e x (and_left (entry_is T e x) true h) in omega arith
held_room T e (x ∷ y ∷ ys) n h =
    let f = held_room T (e + 1) (y ∷ ys) (omega arith) (and_right (entry_is T e x) (held T (e + 1) (y ∷ ys)) h) in omega arith
