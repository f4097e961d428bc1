-- Readers that take the bytes of a form and no others, and what they read. Assumes nothing.
use Rattle.std.specs.Prelude.{None, Option, Some}
use Prim.Native.Nat.{ℕ, zero, suc, ◌+◌, ◌-◌, ◌<◌, ◌≤◌}
use mathlib.Core.List.{List, [], ◌∷◌, ◌++◌, map}
use mathlib.Core.Path.{◌≡◌, refl, sym, ◌∙◌, ap}
use native.Mathlib.Omega.{arith}
use lib.ListN.{length, get_or}
use Rattle.bags.specs.Reading.{many, each, following}
use Rattle.bags.specs.Forms.{InTurn, none, more}
use Rattle.bags.proofs.ReadLaws.{same_end, first, many_done, many_more, each_done, each_more}
use Rattle.bags.proofs.Laid.{Laid, laid_none, laid_join, laid_split}

-- from a place of s to another stand bytes that say x
pub record Told {A : Type 0} (R : List ℕ → A → Type 0) (s : List ℕ) (at e : ℕ) (x : A) : Type 0 where
  pub bytes : List ℕ
  pub says : R bytes x
  pub laid : Laid s at bytes e

pub told_as : {A : Type 0} {R : List ℕ → A → Type 0} {s : List ℕ} {at e : ℕ} {x y : A} → x ≡ y → Told R s at e x → Told R s at e y
told_as {A} {R} q t = record { bytes = t.bytes; says = rw (← q) t.says; laid = t.laid }

-- a reader of s that ends where the bytes of the form end, and is Bad at others; what it reads is what they say
pub record Reads {A : Type 0} (R : List ℕ → A → Type 0) (s : List ℕ) (next : ℕ → Option ℕ) (what : ℕ → ℕ → A) : Type 0 where
  pub sound : (at e : ℕ) → next at ≡ Some e → Told R s at e (what at e)
  pub complete : {at e : ℕ} {b : List ℕ} {x : A} → R b x → Laid s at b e → (next at ≡ Some e) × (x ≡ what at e)

-- ---- many things

module _ {A : Type 0} (R : List ℕ → A → Type 0) (s : List ℕ) (next : ℕ → Option ℕ) (what : ℕ → ℕ → A) (r : Reads R s next what) where
  pub many_sound : (n at e : ℕ) → at ≤ length s → many n next at ≡ Some e → (Told (InTurn R) s at e (each n next what at)) × (length (each n next what at) ≡ n)
  many_sound zero at e i h =
      let q : at ≡ e = same_end (many_done next 0 at (omega arith)) h in
      rw (← q, each_done next what 0 at (omega arith)) (record { bytes = []; says = none; laid = laid_none s at i }, refl)
  many_sound (suc n) at e i h =
      let f = first next (suc n) at e (omega arith) h in
      let m : suc n - 1 ≡ n = omega arith in
      let t = r.sound at f.stop f.ends in
      let u = many_sound n f.stop e t.laid.inside (rw m at f.later) in
      rw (each_more next what (suc n) at f.stop (omega arith) f.ends, m)
      (record { bytes = t.bytes ++ u.0.bytes; says = more t.says u.0.says; laid = laid_join t.laid u.0.laid }, ap suc u.1)

  pub many_complete : {at e : ℕ} {b : List ℕ} {xs : List A} → InTurn R b xs → Laid s at b e
      → (many (length xs) next at ≡ Some e) × (xs ≡ each (length xs) next what at)
  many_complete {at = at} {e = e} none l =
      let q : e ≡ at = omega (arith, l.stop) in
      (many_done next 0 at (omega arith) ∙ ap Some (sym q), sym (each_done next what 0 at (omega arith)))
  many_complete {at = at} {e = e} (more {a} {b} {x} {xs} ra rb) l =
      let p = laid_split a b l in
      let o = r.complete ra p.0 in
      let u = many_complete {at = at + length a} {e = e} rb p.1 in
      let m : suc (length xs) - 1 ≡ length xs = omega arith in (
        many_more next (suc (length xs)) at (at + length a) (omega arith) o.0 ∙ rw m u.0,
        sym (each_more next what (suc (length xs)) at (at + length a) (omega arith) o.0 ∙ rw (m, ← u.1, ← o.1)),
      )

-- what each thing is, by what another function makes of it
pub map_each : {A B : Type 0} (f : A → B) (n : ℕ) (next : ℕ → Option ℕ) (what : ℕ → ℕ → A) (at : ℕ)
    → map f (each n next what at) ≡ each n next (λ at e. f (what at e)) at
unfolding each
map_each f zero next what at = refl
map_each {A} {B} f (suc n) next what at = go (next at) (map_each f n next what)
  where
    go : (a : Option ℕ) → ((e : ℕ) → map f (each n next what e) ≡ each n next (λ at e. f (what at e)) e)
        → map f (following a λ e. what at e ∷ each n next what e) ≡ following a λ e. f (what at e) ∷ each n next (λ at e. f (what at e)) e
    go (Some e) ih = ap (λ (l : List B). f (what at e) ∷ l) (ih e)
    go None ih = refl

-- what each thing is, by two functions that agree where a thing stands
pub each_agree : {A : Type 0} (n : ℕ) (next : ℕ → Option ℕ) (what other : ℕ → ℕ → A) → ((at e : ℕ) → next at ≡ Some e → what at e ≡ other at e) → (at : ℕ)
    → each n next what at ≡ each n next other at
unfolding each
each_agree zero next what other h at = refl
each_agree (suc n) next what other h at = go (next at) refl (each_agree n next what other h)
  where
    go : (a : Option ℕ) → next at ≡ a → ((e : ℕ) → each n next what e ≡ each n next other e)
        → following a (λ e. what at e ∷ each n next what e) ≡ following a λ e. other at e ∷ each n next other e
    go (Some e) q ih = rw (h at e q, ih e)
    go None q ih = refl

-- number j of n things, by where it starts and ends
pub each_nth : {A : Type 0} (next : ℕ → Option ℕ) (what : ℕ → ℕ → A) (d : A) (n j at x y : ℕ) → j < n → many j next at ≡ Some x → next x ≡ Some y
    → get_or (each n next what at) j d ≡ what x y
each_nth next what d zero j at x y l p q = absurd (omega arith)
each_nth next what d (suc n) zero at x y l p q =
    let e : at ≡ x = same_end (many_done next 0 at (omega arith)) p in
    rw (e, each_more next what (suc n) x y (omega arith) q)
each_nth next what d (suc n) (suc j) at x y l p q =
    let f = first next (suc j) at x (omega arith) p in
    let m : suc j - 1 ≡ j = omega arith in
    let k : suc n - 1 ≡ n = omega arith in
    rw (each_more next what (suc n) at f.stop (omega arith) f.ends, k) (each_nth next what d n j f.stop x y (omega arith) (rw m at f.later) q)
