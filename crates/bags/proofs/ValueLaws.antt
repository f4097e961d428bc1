-- The cases of a value's end, as the code's tests tell them apart, and what a value that ends tells. Assumes nothing.
use Rattle.std.specs.Prelude.{None, Some}
use Prim.Native.Nat.{ℕ, ◌+◌, ◌<◌, ◌≤◌}
use mathlib.Core.List.{List}
use mathlib.Core.Bool.{Bool, true, false, ◌&&◌, and-eq-true_iff}
use mathlib.Core.Path.{◌≡◌, refl, ◌∙◌}
use borrow.Author.Tests.{le-leb, lt-leb, lt-ltb, le-ltb, ne_eqb, ltb-true, leb-true, eqb-true, eqb-false}
use native.Mathlib.Omega.{arith}
use lib.Dec.{ltb, leb, eqb}
use lib.Ieee.Scale.{finite}
use lib.ListN.{length}
use Rattle.numbers.specs.Bits.{number_at}
use Rattle.bags.specs.Reading.{byte, many}
use Rattle.bags.specs.Values.{string_end, number_end, flag_end, list_end, value_end}
use Rattle.bags.proofs.ReadLaws.{bad_at, only_at, many_inside}

-- ---- the cases

module _ (s : List ℕ) (at : ℕ) where
  pub string_cut : length s < at + 1 + byte s at → None ≡ string_end s at
  unfolding string_end
  string_cut h = simp (lt-leb _ _ h)

  pub string_long : at + 1 + byte s at ≤ length s → 127 < byte s at → None ≡ string_end s at
  unfolding string_end
  string_long h n = simp (le-leb _ _ h, lt-leb _ _ n)

  pub string_whole : at + 1 + byte s at ≤ length s → byte s at ≤ 127 → Some (at + 1 + byte s at) ≡ string_end s at
  unfolding string_end
  string_whole h n = simp (le-leb _ _ h, le-leb _ _ n)

  pub number_cut : length s < at + 8 → None ≡ number_end s at
  unfolding number_end
  number_cut h = simp (lt-leb _ _ h)

  pub number_infinite : at + 8 ≤ length s → finite (number_at s at) ≡ false → None ≡ number_end s at
  unfolding number_end
  number_infinite h f = simp (le-leb _ _ h, f)

  pub number_whole : at + 8 ≤ length s → finite (number_at s at) ≡ true → Some (at + 8) ≡ number_end s at
  unfolding number_end
  number_whole h f = simp (le-leb _ _ h, f)

  pub flag_none : length s ≤ at → None ≡ flag_end s at
  unfolding flag_end
  flag_none h = simp (le-ltb _ _ h)

  pub flag_high : at < length s → 1 < byte s at → None ≡ flag_end s at
  unfolding flag_end
  flag_high h n = simp (lt-ltb _ _ h, lt-leb _ _ n)

  pub flag_whole : at < length s → byte s at ≤ 1 → Some (at + 1) ≡ flag_end s at
  unfolding flag_end
  flag_whole h n = simp (lt-ltb _ _ h, le-leb _ _ n)

  pub list_none : length s ≤ at → None ≡ list_end s at
  unfolding list_end
  list_none h = simp (le-ltb _ _ h)

  pub list_long : at < length s → 16 < byte s at → None ≡ list_end s at
  unfolding list_end
  list_long h n = simp (lt-ltb _ _ h, lt-leb _ _ n)

  pub list_whole : at < length s → byte s at ≤ 16 → many (byte s at) (string_end s) (at + 1) ≡ list_end s at
  unfolding list_end
  list_whole h n = simp (lt-ltb _ _ h, le-leb _ _ n)

-- ---- the kinds

module _ (kind : ℕ) (s : List ℕ) (at : ℕ) where
  pub value_string : kind ≡ 1 → string_end s at ≡ value_end kind s at
  unfolding value_end
  value_string h = rw h

  pub value_number : kind ≡ 2 → number_end s at ≡ value_end kind s at
  unfolding value_end
  value_number h = rw h

  pub value_flag : kind ≡ 3 → flag_end s at ≡ value_end kind s at
  unfolding value_end
  value_flag h = rw h

  pub value_list : kind ≡ 4 → list_end s at ≡ value_end kind s at
  unfolding value_end
  value_list h = rw h

  pub value_none : (kind ≡ 1 → ⊥) → (kind ≡ 2 → ⊥) → (kind ≡ 3 → ⊥) → (kind ≡ 4 → ⊥) → None ≡ value_end kind s at
  unfolding value_end
  value_none a b c d = simp (ne_eqb _ _ a, ne_eqb _ _ b, ne_eqb _ _ c, ne_eqb _ _ d)

-- ---- a value that ends

pub record String (s : List ℕ) (at e : ℕ) : Type 0 where
  pub fits : at + 1 + byte s at ≤ length s
  pub stop : e ≡ at + 1 + byte s at

pub record Number (s : List ℕ) (at e : ℕ) : Type 0 where
  pub fits : at + 8 ≤ length s
  pub is : finite (number_at s at) ≡ true
  pub stop : e ≡ at + 8

pub record Flag (s : List ℕ) (at e : ℕ) : Type 0 where
  pub fits : at < length s
  pub is : byte s at ≤ 1
  pub stop : e ≡ at + 1

pub record Strings (s : List ℕ) (at e : ℕ) : Type 0 where
  pub counted : at < length s
  pub are : many (byte s at) (string_end s) (at + 1) ≡ Some e

ends : {a b : ℕ} → Some a ≡ Some b → b ≡ a
ends p = cc

module _ (s : List ℕ) (at e : ℕ) where
  pub string_at_lem : string_end s at ≡ Some e → String s at e
  unfolding string_end
  string_at_lem h =
      let o = only_at (leb (at + 1 + byte s at) (length s) && leb (byte s at) 127) (Some (at + 1 + byte s at)) e h in
      record { fits = leb-true _ _ ((and-eq-true_iff (leb (at + 1 + byte s at) (length s)) _).0 o.0).0; stop = ends o.1 }

  number_at_lem : number_end s at ≡ Some e → Number s at e
  unfolding number_end
  number_at_lem h =
      let o = only_at (leb (at + 8) (length s) && finite (number_at s at)) (Some (at + 8)) e h in
      let t = (and-eq-true_iff (leb (at + 8) (length s)) _).0 o.0 in
      record { fits = leb-true _ _ t.0; is = t.1; stop = ends o.1 }

  flag_at : flag_end s at ≡ Some e → Flag s at e
  unfolding flag_end
  flag_at h =
      let o = only_at (ltb at (length s) && leb (byte s at) 1) (Some (at + 1)) e h in
      let t = (and-eq-true_iff (ltb at (length s)) _).0 o.0 in
      record { fits = ltb-true _ _ t.0; is = leb-true _ _ t.1; stop = ends o.1 }

  list_at : list_end s at ≡ Some e → Strings s at e
  unfolding list_end
  list_at h =
      let o = only_at (ltb at (length s) && leb (byte s at) 16) (many (byte s at) (string_end s) (at + 1)) e h in
      record { counted = ltb-true _ _ ((and-eq-true_iff (ltb at (length s)) _).0 o.0).0; are = o.1 }

-- which kind it is, and what that tells
pub data Ended (kind : ℕ) (s : List ℕ) (at e : ℕ) : Type 0 where
  string : kind ≡ 1 → String s at e → Ended kind s at e
  number : kind ≡ 2 → Number s at e → Ended kind s at e
  flag : kind ≡ 3 → Flag s at e → Ended kind s at e
  list : kind ≡ 4 → Strings s at e → Ended kind s at e

pub value_at_lem : (kind : ℕ) (s : List ℕ) (at e : ℕ) → value_end kind s at ≡ Some e → Ended kind s at e
value_at_lem kind s at e h = go (eqb kind 1) (eqb kind 2) (eqb kind 3) (eqb kind 4) refl refl refl refl
  where
    go : (a b c d : Bool) → eqb kind 1 ≡ a → eqb kind 2 ≡ b → eqb kind 3 ≡ c → eqb kind 4 ≡ d → Ended kind s at e
    go true b c d p q r t = let k = eqb-true kind 1 p in string k (string_at_lem s at e (value_string kind s at k ∙ h))
    go false true c d p q r t = let k = eqb-true kind 2 q in number k (number_at_lem s at e (value_number kind s at k ∙ h))
    go false false true d p q r t = let k = eqb-true kind 3 r in flag k (flag_at s at e (value_flag kind s at k ∙ h))
    go false false false true p q r t = let k = eqb-true kind 4 t in list k (list_at s at e (value_list kind s at k ∙ h))
    go false false false false p q r t =
        absurd (bad_at (value_none kind s at (eqb-false kind 1 p) (eqb-false kind 2 q) (eqb-false kind 3 r) (eqb-false kind 4 t) ∙ h))

string_inside : (s : List ℕ) (at e : ℕ) → string_end s at ≡ Some e → (at ≤ e) × (e ≤ length s)
string_inside s at e h = let w = string_at_lem s at e h in (omega arith, omega arith)

-- a value lies inside the bytes
pub value_inside : (kind : ℕ) (s : List ℕ) (at e : ℕ) → value_end kind s at ≡ Some e → (at ≤ e) × (e ≤ length s)
value_inside kind s at e h = go (value_at_lem kind s at e h)
  where
    go : Ended kind s at e → (at ≤ e) × (e ≤ length s)
    go (string k w) = (omega arith, omega arith)
    go (number k w) = (omega arith, omega arith)
    go (flag k w) = (omega arith, omega arith)
    go (list k w) = let i = many_inside (string_end s) (length s) (string_inside s) (byte s at) (at + 1) e (omega arith) w.are in (omega arith, i.1)
