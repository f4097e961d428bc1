-- Laws of things read one after the other, for any reader. Assumes nothing.
use Rattle.std.specs.Prelude.{None, Option, Some}
use Prim.Native.Nat.{ℕ, zero, suc, ◌+◌, ◌-◌, ◌<◌, ◌≤◌}
use mathlib.Core.List.{List, [], ◌∷◌}
use mathlib.Core.Bool.{Bool, true, false}
use mathlib.Core.Path.{◌≡◌, refl, sym, ◌∙◌}
use native.Mathlib.Omega.{arith}
use native.Mathlib.Numerals.{add-one}
use lib.Dec.{ltb}
use lib.ListN.{length, take, drop, get_or}
use lib.Seq.{drop-cons}
use borrow.Author.Tests.{ltb-true, ltb-false}
use Rattle.std.proofs.lemmas.Grind.{get_or_default_zero}
use Rattle.slices.specs.Parts.{part}
use Rattle.bags.specs.Reading.{◌then◌, only, many, each, byte}

pub bad_at : {e : ℕ} → None ≡ Some e → ⊥
bad_at h = let z : ◌≡◌ {A = ℕ} 0 1 = cc in omega arith

pub same_end : {a : Option ℕ} {x y : ℕ} → a ≡ Some x → a ≡ Some y → x ≡ y
same_end p q = cc

pub only_at : (b : Bool) (a : Option ℕ) (e : ℕ) → only b a ≡ Some e → (b ≡ true) × (a ≡ Some e)
only_at true a e h = (refl, h)
only_at false a e h = absurd (bad_at h)

pub only_bad : (b : Bool) → only b None ≡ None
only_bad true = refl
only_bad false = refl

-- ---- many things

module _ (next : ℕ → Option ℕ) where
  pub many_done : (n at : ℕ) → n ≤ 0 → many n next at ≡ Some at
  unfolding many
  many_done zero at h = refl
  many_done (suc n) at h = absurd (omega arith)

  pub many_stop : (n at : ℕ) → 0 < n → next at ≡ None → many n next at ≡ None
  unfolding many
  many_stop zero at h e = absurd (omega arith)
  many_stop (suc n) at h e = simp e

  pub many_more : (n at e : ℕ) → 0 < n → next at ≡ Some e → many n next at ≡ many (n - 1) next e
  unfolding many
  many_more zero at e h q = absurd (omega arith)
  many_more (suc n) at e h q = let m : suc n - 1 ≡ n = omega arith in simp (q, m)

  -- the first of n that end, and the others
  pub record First (n at e : ℕ) : Type 0 where
    pub stop : ℕ
    pub ends : next at ≡ Some stop
    pub later : many (n - 1) next stop ≡ Some e

  pub first : (n at e : ℕ) → 0 < n → many n next at ≡ Some e → First n at e
  first n at e h p = go (next at) refl
    where
      go : (a : Option ℕ) → next at ≡ a → First n at e
      go None q = absurd (bad_at (sym (many_stop n at h q) ∙ p))
      go (Some x) q = record { stop = x; ends = q; later = sym (many_more n at x h q) ∙ p }

  -- they end where the last one ends, no later than any bound that each of them keeps
  pub many_inside : (most : ℕ) → ((at e : ℕ) → next at ≡ Some e → (at ≤ e) × (e ≤ most)) → (n at e : ℕ) → at ≤ most → many n next at ≡ Some e → (at ≤ e) × (e ≤ most)
  many_inside most one zero at e l h = let q : at ≡ e = same_end (many_done 0 at (omega arith)) h in (omega arith, omega arith)
  many_inside most one (suc n) at e l h =
      let f = first (suc n) at e (omega arith) h in
      let i = one at f.stop f.ends in
      let m : suc n - 1 ≡ n = omega arith in
      let j = many_inside most one n f.stop e i.1 (rw m at f.later) in
      (omega arith, j.1)

  many_step : (n at e : ℕ) → next at ≡ Some e → many (suc n) next at ≡ many n next e
  unfolding many
  many_step n at e h = simp h

  many_one : (at : ℕ) → many (suc 0) next at ≡ next at
  unfolding many
  many_one at = go (next at) refl
    where
      go : (a : Option ℕ) → next at ≡ a → (next at then λ e. Some e) ≡ next at
      go (Some e) q = simp q
      go None q = simp q

  -- the last one after the others
  pub many_last : (n at x : ℕ) → many n next at ≡ Some x → many (n + 1) next at ≡ next x
  many_last zero at x h =
      let e : at ≡ x = same_end (many_done 0 at (omega arith)) h in
      let l : 0 + 1 ≡ suc 0 = omega arith in
      rw (l, e) (many_one x)
  many_last (suc n) at x h =
      let f = first (suc n) at x (omega arith) h in
      let l : suc n + 1 ≡ suc (n + 1) = omega arith in
      rw l (many_step (n + 1) at f.stop f.ends ∙ many_last n f.stop x (sym (many_step n at f.stop f.ends) ∙ h))

  -- of n that end, number j starts somewhere and ends
  pub record Nth (j at : ℕ) : Type 0 where
    pub start : ℕ
    pub stop : ℕ
    pub starts : many j next at ≡ Some start
    pub stops : next start ≡ Some stop

  pub nth : (n j at e : ℕ) → j < n → many n next at ≡ Some e → Nth j at
  nth n zero at e l h = let f = first n at e l h in record { start = at; stop = f.stop; starts = many_done 0 at (omega arith); stops = f.ends }
  nth zero (suc j) at e l h = absurd (omega arith)
  nth (suc n) (suc j) at e l h =
      let f = first (suc n) at e (omega arith) h in
      let r = nth n j f.stop e (omega arith) (sym (many_step n at f.stop f.ends) ∙ h) in
      record { start = r.start; stop = r.stop; starts = many_step j at f.stop f.ends ∙ r.starts; stops = r.stops }

-- ---- what they are

module _ {A : Type 0} (next : ℕ → Option ℕ) (what : ℕ → ℕ → A) where
  pub each_done : (n at : ℕ) → n ≤ 0 → each n next what at ≡ []
  unfolding each
  each_done zero at h = refl
  each_done (suc n) at h = absurd (omega arith)

  pub each_stop : (n at : ℕ) → next at ≡ None → each n next what at ≡ []
  unfolding each
  each_stop zero at e = refl
  each_stop (suc n) at e = simp e

  pub each_more : (n at e : ℕ) → 0 < n → next at ≡ Some e → each n next what at ≡ what at e ∷ each (n - 1) next what e
  unfolding each
  each_more zero at e h q = absurd (omega arith)
  each_more (suc n) at e h q = let m : suc n - 1 ≡ n = omega arith in simp (q, m)

-- ---- a part

-- what `s.get(at)?` tells of the byte at a place
module _ (s : List ℕ) (at : ℕ) where
  pub got : (x : ℕ) → true ≡ ltb at (length s) → x ≡ get_or s at x → (at < length s) × (x ≡ byte s at)
  got x i h =
      let inside : at < length s = ltb-true _ _ (sym i) in
      (inside, h ∙ get_or_default_zero s at x inside)

  pub not_got : false ≡ ltb at (length s) → length s ≤ at
  not_got i = ltb-false _ _ (sym i)

-- a part of n bytes, n not 0: its first byte, and the part of the others
pub part_cons : (s : List ℕ) (x n : ℕ) → 0 < n → x + n ≤ length s → part s x n ≡ byte s x ∷ part s (x + 1) (n - 1)
unfolding part
part_cons s x zero h f = absurd (omega arith)
part_cons s x (suc n) h f =
    let e : suc n - 1 ≡ n = omega arith in
    let b : x < length s = omega arith in
    rw (e, drop-cons s x 0, add-one)

pub part_none : (s : List ℕ) (x : ℕ) → part s x 0 ≡ []
unfolding part
part_none s x = refl

-- the part from a place to a later one, as code lends it
pub part_to : (s : List ℕ) (a n : ℕ) → take (a + n - a) (drop a s) ≡ part s a n
unfolding part
part_to s a n = let e : a + n - a ≡ n = omega arith in rw e
