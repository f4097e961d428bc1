-- Parts that are lent on: a shared part is one part only, and a `&mut` tail comes back behind what stands before it. Assumes nothing.
use mathlib.Core.Path.{◌≡◌, sym, ◌∙◌, ap}
use mathlib.Core.List.{List, ◌++◌, append-nil}
use Prim.Native.Nat.{ℕ, ◌+◌, ◌-◌}
use native.Mathlib.Omega.{arith}
use lib.ListN.{length, take, drop, length-drop, drop_of_length-le}
use lib.Seq.{take_all}
use borrow.Rule.Slice.PartMut.{put_mid}
use denote.Ref.{Bor}
use Rattle.slices.specs.Parts.{part, IsPart}

-- any two slices that are the same part of a slice coincide, in their bytes and in where they lie
pub one_part : {s r r' : Bor (List ℕ)} {a n : ℕ} → IsPart s r a n → IsPart s r' a n → (r.now ≡ r'.now) × (r.ref_ptr.0 ≡ r'.ref_ptr.0) × (r.ref_ptr.1 ≡ r'.ref_ptr.1)
one_part p q = (p.bytes ∙ sym q.bytes, p.block ∙ sym q.block, p.offset ∙ sym q.offset)

-- `&s[a..e]` is the part from a of e - a bytes
pub part_is : (s r : Bor (List ℕ)) (a e start n : ℕ) → start ≡ a → n ≡ e - a
    → r.now ≡ take (e - a) (drop a s.now) → r.ref_ptr ≡ (s.ref_ptr.0, a + s.ref_ptr.1) → IsPart s r start n
unfolding part
part_is s r a e start n p q b o = record { bytes = simp (p, q) b; block = ap (λ (x : ℕ × ℕ). x.0) o; offset = rw p (ap (λ (x : ℕ × ℕ). x.1) o) }

-- what is lent by `&s[a..]` and `&mut s[a..]`
pub tail_lent : (a : ℕ) (xs : List ℕ) → take (length xs - a) (drop a xs) ≡ drop a xs
tail_lent a xs = take_all (length xs - a) (drop a xs) (omega (arith, length-drop a xs))

-- the slice when that tail is back, as the bytes ys
pub tail_back : (a : ℕ) (xs ys : List ℕ) → put_mid a (length xs - a) xs ys ≡ take a xs ++ ys
tail_back a xs ys = rw (drop_of_length-le (drop a xs) {i = length xs - a} (omega (arith, length-drop a xs)), append-nil)
