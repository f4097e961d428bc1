-- What a value that is whole tells of the step over it and of its number. Assumes nothing.
use Rattle.std.specs.Prelude.{Option, Some}
use Prim.Native.Nat.{ℕ, ◌+◌, ◌-◌, ◌<◌, ◌≤◌}
use mathlib.Core.List.{List}
use mathlib.Core.Bool.{Bool, true}
use mathlib.Core.Path.{◌≡◌, sym, ◌∙◌, ap, subst}
use borrow.Author.Tests.{eq-eqb, ne_eqb}
use native.Mathlib.Omega.{arith}
use lib.Dec.{T}
use lib.Ieee.{Float}
use lib.ListN.{length, get_or-eq_default}
use Rattle.numbers.specs.Bits.{number_at}
use Rattle.bags.specs.Reading.{byte, many}
use Rattle.bags.specs.Values.{string_end, value_end}
use Rattle.bags.proofs.ReadLaws.{same_end, first, many_more}
use Rattle.bags.proofs.ValueLaws.{String, Number, Flag, Strings, string_at_lem, Ended, string, number, flag, list, value_at_lem}
use Rattle.lookups.specs.Values.{nought, unit, absent, value_number, value_at, ShownAt}
use Rattle.lookups.specs.declared.values.Value.{Value}

-- ---- strings

-- the first of n strings, and those after it
pub record StringFirst (s : List ℕ) (n at e : ℕ) : Type 0 where
  pub fits : at + 1 + byte s at ≤ length s
  pub later : many (n - 1) (string_end s) (at + 1 + byte s at) ≡ Some e

pub string_first : (s : List ℕ) (n at e : ℕ) → 0 < n → many n (string_end s) at ≡ Some e → StringFirst s n at e
string_first s n at e h p =
    let f = first (string_end s) n at e h p in
    let w = string_at_lem s at f.stop f.ends in
    record { fits = w.fits; later = rw w.stop at f.later }

-- a string that is whole lies in the bytes, and ends after its length byte and as many bytes
pub string_fits : (s : List ℕ) (at e : ℕ) → string_end s at ≡ Some e → at + 1 + byte s at ≤ length s
string_fits s at e p = (string_at_lem s at e p).fits

pub string_stop : (s : List ℕ) (at e : ℕ) → string_end s at ≡ Some e → string_end s at ≡ Some (at + 1 + byte s at)
string_stop s at e p = rw (string_at_lem s at e p).stop at p

-- two of n, one after the other, and those after them
pub two_more : (next : ℕ → Option ℕ) (n at x y : ℕ) → 1 < n → next at ≡ Some x → next x ≡ Some y → many (n - 2) next y ≡ many n next at
two_more next n at x y h p q =
    let e : n - 2 ≡ n - 1 - 1 = omega arith in ap (λ (m : ℕ). many m next y) e ∙ sym (many_more next n at x (omega arith) p ∙ many_more next (n - 1) x y (omega arith) q)

-- ---- values

module _ (kind : ℕ) (s : List ℕ) (at e : ℕ) (h : value_end kind s at ≡ Some e) where
  pub some_kind : 0 < kind
  some_kind = go (value_at_lem kind s at e h)
    where
      go : Ended kind s at e → 0 < kind
      go (string j w) = omega arith
      go (number j w) = omega arith
      go (flag j w) = omega arith
      go (list j w) = omega arith

  pub as_string : kind ≡ 1 → String s at e
  as_string k = go (value_at_lem kind s at e h)
    where
      go : Ended kind s at e → String s at e
      go (string _ w) = w
      go (number j w) = absurd (omega arith)
      go (flag j w) = absurd (omega arith)
      go (list j w) = absurd (omega arith)

  pub as_number : kind ≡ 2 → Number s at e
  as_number k = go (value_at_lem kind s at e h)
    where
      go : Ended kind s at e → Number s at e
      go (string j w) = absurd (omega arith)
      go (number _ w) = w
      go (flag j w) = absurd (omega arith)
      go (list j w) = absurd (omega arith)

  pub as_flag : kind ≡ 3 → Flag s at e
  as_flag k = go (value_at_lem kind s at e h)
    where
      go : Ended kind s at e → Flag s at e
      go (string j w) = absurd (omega arith)
      go (number j w) = absurd (omega arith)
      go (flag _ w) = w
      go (list j w) = absurd (omega arith)

  pub as_list : (kind ≡ 1 → ⊥) → (kind ≡ 2 → ⊥) → (kind ≡ 3 → ⊥) → Strings s at e
  as_list n1 n2 n3 = go (value_at_lem kind s at e h)
    where
      go : Ended kind s at e → Strings s at e
      go (string j w) = absurd (n1 j)
      go (number j w) = absurd (n2 j)
      go (flag j w) = absurd (n3 j)
      go (list _ w) = w

  pub string_next : kind ≡ 1 → value_end kind s at ≡ Some (at + 1 + byte s at)
  string_next k = rw (as_string k).stop at h

  pub number_next : kind ≡ 2 → value_end kind s at ≡ Some (at + 8)
  number_next k = rw (as_number k).stop at h

  pub flag_next : kind ≡ 3 → value_end kind s at ≡ Some (at + 1)
  flag_next k = rw (as_flag k).stop at h

  pub list_next : (kind ≡ 1 → ⊥) → (kind ≡ 2 → ⊥) → (kind ≡ 3 → ⊥) → (x : ℕ) → many (byte s at) (string_end s) (at + 1) ≡ Some x → value_end kind s at ≡ Some x
  list_next n1 n2 n3 x q = rw (same_end (as_list n1 n2 n3).are q) at h

-- ---- numbers

pub told : (b : Bool) → b ≡ true → T b
told b h = subst T (sym h) tt

module _ (kind : ℕ) (s : List ℕ) (at : ℕ) where
  pub number_is : (x : Float) → kind ≡ 2 → x ≡ number_at s at → x ≡ value_number kind s at
  unfolding value_number
  number_is x k p = simp (k, p)

  pub flag_on : kind ≡ 3 → byte s at ≡ 1 → unit ≡ value_number kind s at
  unfolding value_number
  flag_on k b = simp (k, eq-eqb _ _ b)

  pub flag_off : kind ≡ 3 → (byte s at ≡ 1 → ⊥) → nought ≡ value_number kind s at
  unfolding value_number
  flag_off k b = simp (k, ne_eqb _ _ b)

  pub no_number : (kind ≡ 2 → ⊥) → (kind ≡ 3 → ⊥) → nought ≡ value_number kind s at
  unfolding value_number
  no_number a b = simp (ne_eqb _ _ a, ne_eqb _ _ b)

module _ (s : List ℕ) (k : ℕ) where
  pub value_absent : byte s k ≡ 0 → absent ≡ value_at s k
  unfolding value_at
  value_absent e = simp (eq-eqb _ _ e)

  pub value_is : (x : Float) → (byte s k ≡ 0 → ⊥) → x ≡ value_number (byte s k) s (k + 1) → record { kind = byte s k; number = x; place = k + 1 } ≡ value_at s k
  unfolding value_at
  value_is x n e = simp (ne_eqb _ _ n, e)

-- ---- past the end of the bytes nothing stands, and an attribute is absent

pub past_the_end : (s : List ℕ) (k : ℕ) → length s ≤ k → absent ≡ value_at s k
past_the_end s k h = value_absent s k (get_or-eq_default s 0 h)

pub past_end : (s : List ℕ) → value_at s (length s) ≡ absent
past_end s = sym (past_the_end s (length s) (omega arith))

-- what shows a value shows the same by another name; the end of the bytes shows that it is absent
pub shown_as : (s : List ℕ) (k : ℕ) {v w : Value} → ShownAt s k v → v ≡ w → ShownAt s k w
shown_as s k h e = record { is = h.is ∙ e; valued = h.valued }

pub none_shown : (s : List ℕ) {w : Value} → absent ≡ w → ShownAt s (length s) w
none_shown s e = record { is = past_end s ∙ e; valued = λ h. absurd (omega arith) }
