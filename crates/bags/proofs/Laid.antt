-- Bytes that stand at a place among others. Assumes nothing.
use Prim.Native.Nat.{ℕ, ◌+◌, ◌-◌, ◌<◌, ◌≤◌}
use mathlib.Core.List.{List, [], ◌∷◌, ◌++◌, append_assoc, append-nil}
use mathlib.Core.Path.{◌≡◌, refl, sym, ◌∙◌, ap}
use native.Mathlib.Omega.{arith}
use lib.ListN.{length, get_or, take, drop, length-append, length-drop, take-append-drop, get_or-append}
use lib.Seq.{drop-drop, drop-length, length-take-le, take-append_seam, drop-append_seam, get_or-drop}
use Rattle.slices.specs.Parts.{part}
use Rattle.slices.proofs.Rest.{rest_at}
use Rattle.numbers.specs.Bits.{number_at}
use Rattle.bags.specs.Reading.{byte}

-- from a place of s to another stand the bytes b
pub record Laid (s : List ℕ) (at : ℕ) (b : List ℕ) (e : ℕ) : Type 0 where
  pub is : drop at s ≡ b ++ drop e s
  pub stop : e ≡ at + length b
  pub inside : e ≤ length s

-- ---- how they are put together

pub laid_none : (s : List ℕ) (at : ℕ) → at ≤ length s → Laid s at [] at
laid_none s at h = record { is = refl; stop = omega arith; inside = h }

pub laid_cons : (s : List ℕ) (at x : ℕ) (b : List ℕ) (e : ℕ) → at < length s → byte s at ≡ x → Laid s (at + 1) b e → Laid s at (x ∷ b) e
laid_cons s at x b e h q l = record { is = rest_at s at h ∙ rw q (ap (λ (t : List ℕ). x ∷ t) l.is); stop = omega (arith, l.stop); inside = l.inside }

part_length : (s : List ℕ) (at n : ℕ) → at + n ≤ length s → length (part s at n) ≡ n
unfolding part
part_length s at n h = length-take-le n (drop at s) (omega (arith, length-drop at s))

pub laid_part : (s : List ℕ) (at n : ℕ) → at + n ≤ length s → (Laid s at (part s at n) (at + n)) × (length (part s at n) ≡ n)
unfolding part
laid_part s at n h =
    let k : length (part s at n) ≡ n = part_length s at n h in
    (record { is = sym (take-append-drop n (drop at s)) ∙ ap (λ (t : List ℕ). take n (drop at s) ++ t) (drop-drop n at s); stop = omega arith; inside = h }, k)

pub laid_join : {s : List ℕ} {at : ℕ} {b : List ℕ} {m : ℕ} {c : List ℕ} {e : ℕ} → Laid s at b m → Laid s m c e → Laid s at (b ++ c) e
laid_join {s} {at} {b} {m} {c} {e} l k =
    record {
      is = l.is ∙ ap (λ (t : List ℕ). b ++ t) k.is ∙ sym (append_assoc b c (drop e s));
      stop = omega (arith, l.stop, k.stop, length-append b c);
      inside = k.inside;
    }

pub laid_whole : (s : List ℕ) → Laid s 0 s (length s)
laid_whole s = record { is = rw (drop-length s) (sym (append-nil s)); stop = omega arith; inside = omega arith }

-- ---- and taken apart

pub laid_split : {s : List ℕ} {at : ℕ} (b c : List ℕ) {e : ℕ} → Laid s at (b ++ c) e → Laid s at b (at + length b) × Laid s (at + length b) c e
laid_split {s} {at} b c {e} l =
    let front : drop at s ≡ b ++ (c ++ drop e s) = l.is ∙ append_assoc b c (drop e s) in
    let cut = ap (λ (t : List ℕ). drop (length b) t) front ∙ drop-append_seam b (c ++ drop e s) in
    let back : drop (at + length b) s ≡ c ++ drop e s = sym (drop-drop (length b) at s) ∙ cut in
    let n = length-append b c in (
      record { is = front ∙ ap (λ (t : List ℕ). b ++ t) (sym back); stop = refl; inside = omega (arith, l.stop, l.inside) },
      record { is = back; stop = omega (arith, l.stop); inside = l.inside },
    )

-- the first byte, and the others
pub record Headed (s : List ℕ) (at x : ℕ) (b : List ℕ) (e : ℕ) : Type 0 where
  pub within : at < length s
  pub first : byte s at ≡ x
  pub others : Laid s (at + 1) b e

pub laid_head : {s : List ℕ} {at x : ℕ} {b : List ℕ} {e : ℕ} → Laid s at (x ∷ b) e → Headed s at x b e
laid_head {s} {at} {x} {b} {e} l =
    let w : at < length s = omega (arith, l.stop, l.inside) in
    let front : get_or s at 0 ∷ drop (at + 1) s ≡ x ∷ (b ++ drop e s) = sym (rest_at s at w) ∙ l.is in
    record { within = w; first = cc; others = record { is = cc; stop = omega (arith, l.stop); inside = l.inside } }

pub laid_is : {s : List ℕ} {at : ℕ} {b : List ℕ} {e : ℕ} → Laid s at b e → part s at (length b) ≡ b
unfolding part
laid_is {s} {at} {b} {e} l = ap (λ (t : List ℕ). take (length b) t) l.is ∙ take-append_seam b (drop e s)

pub laid_bytes : {s : List ℕ} {at : ℕ} {b : List ℕ} {e : ℕ} → Laid s at b e → part s at (e - at) ≡ b
laid_bytes {s} {at} {b} {e} l = let n : e - at ≡ length b = omega (arith, l.stop) in rw n (laid_is l)

pub whole_laid : {s b : List ℕ} → Laid s 0 b (length s) → s ≡ b
whole_laid {s} {b} l = l.is ∙ rw (drop-length s) (append-nil b)

-- the bytes are those of s
module _ {s : List ℕ} {at : ℕ} {b : List ℕ} {e : ℕ} (l : Laid s at b e) where
  byte_in : (i : ℕ) → i < length b → get_or s (at + i) 0 ≡ get_or b i 0
  byte_in i h = sym (get_or-drop at s i 0) ∙ ap (λ (t : List ℕ). get_or t i 0) l.is ∙ get_or-append b (drop e s) 0 i h

  pub number_in : length b ≡ 8 → number_at s at ≡ number_at b 0
  unfolding number_at
  number_in n =
      let z : at + 0 ≡ at = omega arith in
      let f : get_or s at 0 ≡ get_or b 0 0 = rw z at (byte_in 0 (omega arith)) in
      let i : (k : ℕ) → k < 8 → get_or s (at + k) 0 ≡ get_or b k 0 = λ k h. byte_in k (omega arith) in
      rw (f, i 1 (omega arith), i 2 (omega arith), i 3 (omega arith), i 4 (omega arith), i 5 (omega arith), i 6 (omega arith), i 7 (omega arith))
