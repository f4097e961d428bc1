-- Entries that stand one after another: those of a part, the first and the last. Assumes nothing.
use mathlib.Core.Path.{◌≡◌, refl, sym, ◌∙◌, ap, subst}
use mathlib.Core.List.{List, [], ◌∷◌, ◌++◌}
use Prim.Native.Nat.{ℕ, ◌+◌, ◌-◌}
use native.Mathlib.Omega.{arith}
use lib.ListN.{length, length-append}
use Rattle.table.specs.declared.Entry.{Entry}
use Rattle.stored.specs.Stored.{StandFrom, none_left, one_more, EntriesStand}

module _ {at : ℕ → Entry} where
  from_left : {e : ℕ} (a b : List Entry) → StandFrom at e (a ++ b) → StandFrom at e a
  from_left [] b s = none_left
  from_left {e} (x ∷ a) b (one_more h s) = one_more h (from_left {e = e + 1} a b s)

  from_right : {e : ℕ} (a b : List Entry) → StandFrom at e (a ++ b) → StandFrom at (e + length a) b
  from_right {e} [] b s = let place : e ≡ e + 0 = omega arith in subst (λ (m : ℕ). StandFrom at m b) place s
  from_right {e} (x ∷ a) b (one_more h s) =
      let place : e + 1 + length a ≡ e + length (x ∷ a) = omega arith in
      subst (λ (m : ℕ). StandFrom at m b) place (from_right {e = e + 1} a b s)

  from_head : {e : ℕ} {x : Entry} {es : List Entry} → StandFrom at e (x ∷ es) → at e ≡ x
  from_head (one_more h s) = h

module _ {at : ℕ → Entry} {first end : ℕ} where
  -- two lists of entries, one after the other
  pub stands_left : (a b : List Entry) → EntriesStand at first end (a ++ b) → EntriesStand at first (first + length a) a
  stands_left a b s =
      let n = length-append a b in let e = s.ends in let few = s.few in
      record { from = from_left a b s.from; ends = refl; few = omega arith }

  pub stands_right : (a b : List Entry) → EntriesStand at first end (a ++ b) → EntriesStand at (first + length a) end b
  stands_right a b s =
      let n = length-append a b in let e = s.ends in
      record { from = from_right a b s.from; ends = omega arith; few = s.few }

  -- the first entry, and those behind it
  pub stands_head : (x : Entry) (es : List Entry) → EntriesStand at first end (x ∷ es) → at first ≡ x
  stands_head x es s = from_head s.from

  pub stands_tail : (x : Entry) (es : List Entry) → EntriesStand at first end (x ∷ es) → EntriesStand at (first + 1) end es
  stands_tail x es s = stands_right (x ∷ []) es s

  -- the last entry, and those before it
  pub stands_before : (a : List Entry) (x : Entry) → EntriesStand at first end (a ++ x ∷ []) → EntriesStand at first (end - 1) a
  stands_before a x s =
      let n = length-append a (x ∷ []) in let e = s.ends in
      let place : first + length a ≡ end - 1 = omega arith in
      subst (λ (m : ℕ). EntriesStand at first m a) place (stands_left a (x ∷ []) s)

pub stands_last : {at : ℕ → Entry} {first end : ℕ} (a : List Entry) (x : Entry) → EntriesStand at first end (a ++ x ∷ []) → at (end - 1) ≡ x
stands_last {at} {first} {end} a x s =
    let n = length-append a (x ∷ []) in let e = s.ends in
    let place : first + length a ≡ end - 1 = omega arith in
    sym (ap at place) ∙ stands_head x [] (stands_right a (x ∷ []) s)

-- entries at another number
pub stands_from : {at : ℕ → Entry} {first end m : ℕ} {es : List Entry} → first ≡ m → EntriesStand at first end es → EntriesStand at m end es
stands_from {at} {end = end} {es = es} e s = subst (λ (m : ℕ). EntriesStand at m end es) e s
