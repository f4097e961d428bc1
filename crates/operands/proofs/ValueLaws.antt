-- What a read value stands for, by its kind, and comparators on two of them. Assumes nothing.
use Prim.Native.Nat.{ℕ}
use mathlib.Core.List.{List, [], ◌∷◌}
use mathlib.Core.Bool.{Bool, true, false, ◌&&◌, cond, beq}
use mathlib.Core.Path.{◌≡◌, refl, sym, ◌∙◌, ap}
use borrow.Author.Tests.{ne_eqb, eqb-true, eqb-false, lt-leb, leb-true}
use native.Mathlib.Omega.{arith}
use lib.Dec.{eqb, leb}
use lib.Pointwise.{pointwise}
use lib.Ieee.{Float, eq}
use Rattle.slices.specs.Same.{same}
use Rattle.lookups.specs.Values.{unit}
use Rattle.lookups.specs.declared.values.Value.{Value}
use Rattle.views.specs.Meaning.{text, number, flag, texts, absent, present}
use Rattle.views.specs.Values.{datum_of}
use Rattle.grammar.specs.Policies.{Comparator, Comparator.Equal, Comparator.NotEqual, Comparator.More, Comparator.AtLeast, Comparator.Less, Comparator.AtMost}
use Rattle.stored.specs.ReadBack.{comparator_of_kind}
use Rattle.meaning.specs.Values.{if_text, if_number, if_flag, if_texts, ordered, equality, same_flag, compares}

-- ---- the comparators

module _ (k : ℕ) where
  pub equal_13 : k ≡ 13 → Equal ≡ comparator_of_kind k
  unfolding comparator_of_kind
  equal_13 h = rw h

  pub not_equal_14 : k ≡ 14 → NotEqual ≡ comparator_of_kind k
  unfolding comparator_of_kind
  not_equal_14 h = rw h

  pub more_15 : k ≡ 15 → More ≡ comparator_of_kind k
  unfolding comparator_of_kind
  more_15 h = rw h

  pub at_least_16 : k ≡ 16 → AtLeast ≡ comparator_of_kind k
  unfolding comparator_of_kind
  at_least_16 h = rw h

  pub less_17 : k ≡ 17 → Less ≡ comparator_of_kind k
  unfolding comparator_of_kind
  less_17 h = rw h

  pub at_most : (k ≡ 13 → ⊥) → (k ≡ 14 → ⊥) → (k ≡ 15 → ⊥) → (k ≡ 16 → ⊥) → (k ≡ 17 → ⊥) → AtMost ≡ comparator_of_kind k
  unfolding comparator_of_kind
  at_most a b c d e = simp (ne_eqb _ _ a, ne_eqb _ _ b, ne_eqb _ _ c, ne_eqb _ _ d, ne_eqb _ _ e)

  -- the others say nothing of strings and flags
  pub no_equality : (b : Bool) → (k ≡ 13 → ⊥) → (k ≡ 14 → ⊥) → false ≡ equality (comparator_of_kind k) b
  unfolding comparator_of_kind
  no_equality b n m = simp (ne_eqb _ _ n, ne_eqb _ _ m) (go (eqb k 15) (eqb k 16) (eqb k 17))
    where
      go : (c d e : Bool) → false ≡ equality (cond c More (cond d AtLeast (cond e Less AtMost))) b
      go true d e = refl
      go false true e = refl
      go false false true = refl
      go false false false = refl

pub ordered_by : (k : ℕ) (c : Comparator) (x y : Float) (r : Bool) → c ≡ comparator_of_kind k → r ≡ ordered c x y → r ≡ ordered (comparator_of_kind k) x y
ordered_by k c x y r h e = e ∙ ap (λ (c : Comparator). ordered c x y) h

pub equality_by : (k : ℕ) (c : Comparator) (b r : Bool) → c ≡ comparator_of_kind k → r ≡ equality c b → r ≡ equality (comparator_of_kind k) b
equality_by k c b r h e = e ∙ ap (λ (c : Comparator). equality c b) h

-- ---- the kinds

data Kinds (k : ℕ) : Type 0 where
  k1 : k ≡ 1 → Kinds k
  k2 : k ≡ 2 → Kinds k
  k3 : k ≡ 3 → Kinds k
  k4 : k ≡ 4 → Kinds k
  k0 : (k ≡ 1 → ⊥) → (k ≡ 2 → ⊥) → (k ≡ 3 → ⊥) → (k ≡ 4 → ⊥) → Kinds k

kinds : (k : ℕ) → Kinds k
kinds k = go (eqb k 1) (eqb k 2) (eqb k 3) (eqb k 4) refl refl refl refl
  where
    go : (a b c d : Bool) → eqb k 1 ≡ a → eqb k 2 ≡ b → eqb k 3 ≡ c → eqb k 4 ≡ d → Kinds k
    go true b c d p q r s = k1 (eqb-true k 1 p)
    go false true c d p q r s = k2 (eqb-true k 2 q)
    go false false true d p q r s = k3 (eqb-true k 3 r)
    go false false false true p q r s = k4 (eqb-true k 4 s)
    go false false false false p q r s = k0 (eqb-false k 1 p) (eqb-false k 2 q) (eqb-false k 3 r) (eqb-false k 4 s)

module _ (v : Value) (x : List ℕ) (l : List (List ℕ)) where
  pub datum_text : v.kind ≡ 1 → datum_of v x l ≡ text x
  unfolding datum_of
  datum_text k = rw k

  datum_number : v.kind ≡ 2 → datum_of v x l ≡ number v.number
  unfolding datum_of
  datum_number k = rw k

  datum_flag : v.kind ≡ 3 → datum_of v x l ≡ flag (eq v.number unit)
  unfolding datum_of
  datum_flag k = rw k

  pub datum_texts : v.kind ≡ 4 → datum_of v x l ≡ texts l
  unfolding datum_of
  datum_texts k = rw k

  datum_absent : (v.kind ≡ 1 → ⊥) → (v.kind ≡ 2 → ⊥) → (v.kind ≡ 3 → ⊥) → (v.kind ≡ 4 → ⊥) → datum_of v x l ≡ absent
  unfolding datum_of
  datum_absent a b c d = simp (ne_eqb _ _ a, ne_eqb _ _ b, ne_eqb _ _ c, ne_eqb _ _ d)

  pub present_is : (leb 1 v.kind && leb v.kind 4) ≡ present (datum_of v x l)
  present_is = go (kinds v.kind)
    where
      outside : (k : ℕ) → (k ≡ 1 → ⊥) → (k ≡ 2 → ⊥) → (k ≡ 3 → ⊥) → (k ≡ 4 → ⊥) → (b : Bool) → leb 1 k ≡ b → b && leb k 4 ≡ false
      outside k n1 n2 n3 n4 false e = refl
      outside k n1 n2 n3 n4 true e = lt-leb k 4 (omega (arith, leb-true 1 k e))

      go : Kinds v.kind → (leb 1 v.kind && leb v.kind 4) ≡ present (datum_of v x l)
      go (k1 k) = rw (datum_text k, k)
      go (k2 k) = rw (datum_number k, k)
      go (k3 k) = rw (datum_flag k, k)
      go (k4 k) = rw (datum_texts k, k)
      go (k0 a b c d) = rw (datum_absent a b c d) (outside v.kind a b c d (leb 1 v.kind) refl)

  -- what is said of a value of one kind is false of the others
  pub not_text : (f : List ℕ → Bool) → (v.kind ≡ 1 → ⊥) → if_text (datum_of v x l) f ≡ false
  not_text f n = go (kinds v.kind)
    where
      go : Kinds v.kind → if_text (datum_of v x l) f ≡ false
      go (k1 k) = absurd (n k)
      go (k2 k) = rw (datum_number k)
      go (k3 k) = rw (datum_flag k)
      go (k4 k) = rw (datum_texts k)
      go (k0 a b c d) = rw (datum_absent a b c d)

  not_number : (f : Float → Bool) → (v.kind ≡ 2 → ⊥) → if_number (datum_of v x l) f ≡ false
  not_number f n = go (kinds v.kind)
    where
      go : Kinds v.kind → if_number (datum_of v x l) f ≡ false
      go (k1 k) = rw (datum_text k)
      go (k2 k) = absurd (n k)
      go (k3 k) = rw (datum_flag k)
      go (k4 k) = rw (datum_texts k)
      go (k0 a b c d) = rw (datum_absent a b c d)

  not_flag : (f : Bool → Bool) → (v.kind ≡ 3 → ⊥) → if_flag (datum_of v x l) f ≡ false
  not_flag f n = go (kinds v.kind)
    where
      go : Kinds v.kind → if_flag (datum_of v x l) f ≡ false
      go (k1 k) = rw (datum_text k)
      go (k2 k) = rw (datum_number k)
      go (k3 k) = absurd (n k)
      go (k4 k) = rw (datum_texts k)
      go (k0 a b c d) = rw (datum_absent a b c d)

  pub not_texts : (f : List (List ℕ) → Bool) → (v.kind ≡ 4 → ⊥) → if_texts (datum_of v x l) f ≡ false
  not_texts f n = go (kinds v.kind)
    where
      go : Kinds v.kind → if_texts (datum_of v x l) f ≡ false
      go (k1 k) = rw (datum_text k)
      go (k2 k) = rw (datum_number k)
      go (k3 k) = rw (datum_flag k)
      go (k4 k) = absurd (n k)
      go (k0 a b c d) = rw (datum_absent a b c d)

-- ---- a comparator on two values

module _ (c : Comparator) (v : Value) (x : List ℕ) (l : List (List ℕ)) (w : Value) (y : List ℕ) (m : List (List ℕ)) where
  pub mixed_kinds : (v.kind ≡ w.kind → ⊥) → false ≡ compares c (datum_of v x l) (datum_of w y m)
  unfolding compares
  mixed_kinds n = go (kinds v.kind)
    where
      go : Kinds v.kind → false ≡ compares c (datum_of v x l) (datum_of w y m)
      go (k1 k) = rw (datum_text v x l k) (sym (not_text w y m (λ b. equality c (same x b)) (λ q. n (k ∙ sym q))))
      go (k2 k) = rw (datum_number v x l k) (sym (not_number w y m (λ z. ordered c v.number z) (λ q. n (k ∙ sym q))))
      go (k3 k) = rw (datum_flag v x l k) (sym (not_flag w y m (λ b. equality c (same_flag (eq v.number unit) b)) (λ q. n (k ∙ sym q))))
      go (k4 k) = rw (datum_texts v x l k)
      go (k0 a b d e) = rw (datum_absent v x l a b d e)

  pub two_strings : (b r : Bool) → v.kind ≡ 1 → v.kind ≡ w.kind → b ≡ same x y → r ≡ equality c b → r ≡ compares c (datum_of v x l) (datum_of w y m)
  unfolding compares
  two_strings b r k q d e = rw (datum_text v x l k, datum_text w y m (sym q ∙ k)) (e ∙ ap (equality c) d)

  pub two_numbers : (r : Bool) → v.kind ≡ 2 → v.kind ≡ w.kind → r ≡ ordered c v.number w.number → r ≡ compares c (datum_of v x l) (datum_of w y m)
  unfolding compares
  two_numbers r k q e = rw (datum_number v x l k, datum_number w y m (sym q ∙ k)) e

  pub two_flags : (b r : Bool) → v.kind ≡ 3 → v.kind ≡ w.kind → b ≡ same_flag (eq v.number unit) (eq w.number unit) → r ≡ equality c b
      → r ≡ compares c (datum_of v x l) (datum_of w y m)
  unfolding compares
  two_flags b r k q d e = rw (datum_flag v x l k, datum_flag w y m (sym q ∙ k)) (e ∙ ap (equality c) d)

  pub no_kind : (v.kind ≡ 1 → ⊥) → (v.kind ≡ 2 → ⊥) → (v.kind ≡ 3 → ⊥) → false ≡ compares c (datum_of v x l) (datum_of w y m)
  unfolding compares
  no_kind n1 n2 n3 = go (kinds v.kind)
    where
      go : Kinds v.kind → false ≡ compares c (datum_of v x l) (datum_of w y m)
      go (k1 k) = absurd (n1 k)
      go (k2 k) = absurd (n2 k)
      go (k3 k) = absurd (n3 k)
      go (k4 k) = rw (datum_texts v x l k)
      go (k0 a b d e) = rw (datum_absent v x l a b d e)

-- ---- the library's equality

pointwise_same : (xs ys : List ℕ) → pointwise eqb xs ys ≡ same xs ys
unfolding same
pointwise_same [] [] = refl
pointwise_same [] (y ∷ ys) = refl
pointwise_same (x ∷ xs) [] = refl
pointwise_same (x ∷ xs) (y ∷ ys) = ap (λ (b : Bool). eqb x y && b) (pointwise_same xs ys)

pub same_is : (r : Bool) (xs ys : List ℕ) → r ≡ pointwise eqb xs ys → r ≡ same xs ys
same_is r xs ys h = h ∙ pointwise_same xs ys

pub flags_same : (a b : Bool) → beq a b ≡ same_flag a b
flags_same true true = refl
flags_same true false = refl
flags_same false true = refl
flags_same false false = refl
