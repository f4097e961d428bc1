-- A row's ghost field says no more than that there is a proof of what stands in its bytes; here is that proof. Assumes nothing.
use Rattle.std.specs.Prelude.{Option, Some, None}
use Prim.Native.Nat.{ℕ, zero, suc, ◌+◌, ◌≤◌, ◌<◌}
use mathlib.Core.List.{List}
use mathlib.Core.Bool.{Bool, true, false, false≢true}
use mathlib.Core.Path.{◌≡◌, refl, sym, ◌∙◌, ap, subst}
use Rattle.std.proofs.Math.Logic.{∥∥₁_elim, ∥∥₁_map}
use Rattle.std.proofs.Math.Nat.{ℕ_set}
use Rattle.std.proofs.Math.Bridge.{le_prop}
use borrow.Author.Tests.{eq-eqb, eqb-true, eqb-false}
use native.Mathlib.Omega.{arith}
use lib.Dec.{eqb}
use lib.ListN.{length, get_or}
use Rattle.bags.specs.Sections.{Sectioned, entry_end}
use Rattle.bags.specs.declared.sections.Sections.{Sections}
use Rattle.lookups.specs.Lookups.{EntryOf, the_first, a_later}
use Rattle.lookups.specs.Values.{Valued}
use Rattle.slots.specs.Slots.{slot_at, MetFrom, SlotsHold, Indexed}
use Rattle.views.specs.Rows.{RowStands}
use Rattle.views.specs.Places.{RowAt}

no : IsProp ⊥
no x y = absurd x

-- ---- ends

some_is : {a b : ℕ} → ◌≡◌ {A = Option ℕ} (Some a) (Some b) → a ≡ b
some_is h = cc

none_some : {a : ℕ} → ◌≡◌ {A = Option ℕ} None (Some a) → ⊥
none_some h = cc

an_end : (o : Option ℕ) → ∥ ((e : ℕ) × (o ≡ Some e)) ∥₁ → (e : ℕ) × (o ≡ Some e)
an_end (Some e) h = (e, refl)
an_end None h = absurd (∥∥₁_elim h no (λ w. none_some w.1))

the_end : (o : Option ℕ) (e : ℕ) → ∥ o ≡ Some e ∥₁ → o ≡ Some e
the_end (Some n) e h = ap Some (∥∥₁_elim h (ℕ_set n e) some_is)
the_end None e h = absurd (∥∥₁_elim h no none_some)

-- ---- entries

module _ (s : List ℕ) where
  some_left : {n at x : ℕ} → EntryOf s n at x → 0 < n
  some_left (the_first f) = omega arith
  some_left (a_later f r) = omega arith

  ends : {n at x : ℕ} → entry_end s at ≡ None → EntryOf s n at x → ⊥
  ends e (the_first f) = none_some (sym e ∙ f)
  ends e (a_later f r) = none_some (sym e ∙ f)

  later : {n at next x : ℕ} → (at ≡ x → ⊥) → entry_end s at ≡ Some next → EntryOf s (suc n) at x → EntryOf s n next x
  later q e (the_first f) = absurd (q refl)
  later {n} {at} {next} {x} q e (a_later f r) = subst (λ (k : ℕ). EntryOf s n k x) (some_is (sym f ∙ e)) r

  an_entry : (n at x : ℕ) → ∥ EntryOf s n at x ∥₁ → EntryOf s n at x
  an_entry zero at x h = let l : 0 < 0 = absurd (∥∥₁_elim h no (λ w. let k = some_left w in omega arith)) in absurd (omega arith)
  an_entry (suc n) at x h = go (λ next. an_entry n next x) (entry_end s at) refl (eqb at x) refl
    where
      go : ((next : ℕ) → ∥ EntryOf s n next x ∥₁ → EntryOf s n next x) → (o : Option ℕ) → entry_end s at ≡ o → (b : Bool) → eqb at x ≡ b → EntryOf s (suc n) at x
      go more None e b q = absurd (∥∥₁_elim h no (ends e))
      go more (Some next) e true q = subst (λ (k : ℕ). EntryOf s (suc n) at k) (eqb-true at x q) (the_first e)
      go more (Some next) e false q = a_later e (more next (∥∥₁_map h (later (eqb-false at x q) e)))

-- ---- slots

-- a number below d at which a test holds
module _ (test : ℕ → Bool) where
  below : (d : ℕ) → test d ≡ false → (j : ℕ) → j < suc d → test j ≡ true → j < d
  below d f j l t = go (eqb j d) refl
    where
      go : (b : Bool) → eqb j d ≡ b → j < d
      go true e = absurd (false≢true (sym f ∙ ap test (sym (eqb-true j d e)) ∙ t))
      go false e = let n = eqb-false j d e in omega arith

  found : (d : ℕ) → ∥ ((j : ℕ) × ((j < d) × (test j ≡ true))) ∥₁ → (j : ℕ) × ((j < d) × (test j ≡ true))
  found zero h = absurd (∥∥₁_elim h no (λ w. let l = w.1.0 in omega arith))
  found (suc d) h = go (found d) (test d) refl
    where
      go : (∥ ((j : ℕ) × ((j < d) × (test j ≡ true))) ∥₁ → (j : ℕ) × ((j < d) × (test j ≡ true))) → (b : Bool) → test d ≡ b → (j : ℕ) × ((j < suc d) × (test j ≡ true))
      go less true e = (d, (omega arith, e))
      go less false e =
          let r = less (∥∥₁_map h (λ w. (w.0, (below d e w.0 w.1.0 w.1.1, w.1.1)))) in
          let l = r.1.0 in (r.0, (omega arith, r.1.1))

module _ (places : List ℕ) where
  a_slot : (base start x : ℕ) → ∥ MetFrom places base start x ∥₁ → MetFrom places base start x
  a_slot base start x h = record {
    before = λ d l z.
        let r = found (λ j. eqb (slot_at places base (start + j)) x) d (∥∥₁_map h (λ m. let w = m.before d l z in (w.0, (w.1.0, eq-eqb _ _ w.1.1)))) in
        (r.0, (r.1.0, eqb-true _ _ r.1.1));
  }

  slots : (s : List ℕ) (base b : ℕ) → ∥ SlotsHold s places base b ∥₁ → SlotsHold s places base b
  slots s base b h = record {
    held = λ k l n. an_entry s _ _ _ (∥∥₁_map h (λ w. w.held k l n));
    met = λ x i. a_slot base _ x (∥∥₁_map h (λ w. w.met x i));
  }

-- ---- the row

sections : (s : List ℕ) (p : Sections) → ∥ Sectioned s p ∥₁ → Sectioned s p
sections s p h = record {
  principal = the_end _ _ (∥∥₁_map h (λ w. w.principal));
  resource = the_end _ _ (∥∥₁_map h (λ w. w.resource));
  env = the_end _ _ (∥∥₁_map h (λ w. w.env));
}

a_value : (s : List ℕ) (k : ℕ) → ∥ Valued s k ∥₁ → Valued s k
a_value s k h = record {
  inside = ∥∥₁_elim h le_prop (λ w. w.inside);
  whole = λ n. an_end _ (∥∥₁_map h (λ w. w.whole n));
}

columns : (s : List ℕ) (p : Sections) (n : ℕ) (heads values : List ℕ) → ∥ RowStands s p n heads values ∥₁ → RowStands s p n heads values
columns s p n heads values h = record {
  sections = sections s p (∥∥₁_map h (λ w. w.sections));
  few = ∥∥₁_elim h le_prop (λ w. w.few);
  named = λ i l. ∥∥₁_elim h le_prop (λ w. w.named i l);
  valued = λ i l. a_value s _ (∥∥₁_map h (λ w. w.valued i l));
}

pub row_stands : {s places values : List ℕ} → ∥ RowAt s places values ∥₁ → RowAt s places values
row_stands {s} {places} {values} h = record {
  stands = columns s _ _ _ values (∥∥₁_map h (λ w. w.stands));
  indexed = record {
    principal = slots places s 0 0 (∥∥₁_map h (λ w. w.indexed.principal));
    resource = slots places s 64 _ (∥∥₁_map h (λ w. w.indexed.resource));
    env = slots places s 128 _ (∥∥₁_map h (λ w. w.indexed.env));
  };
}
