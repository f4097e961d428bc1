-- Laws of `Matches`. Assumes nothing.
use mathlib.Core.Path.{◌≡◌, refl, ap}
use mathlib.Core.Logic.{◌≢◌}
use mathlib.Core.List.{List, [], ◌∷◌}
use Prim.Native.Nat.{ℕ}
use native.Mathlib.Omega.{arith}
use mathlib.Core.Bool.{Bool, true, false, not}
use lib.Dec.{eqb}
use borrow.Author.Tests.{eqb-true, eqb-false, eq-eqb, ne_eqb, not-true}
use Rattle.slices.specs.Decides.{Decides}
use Rattle.slices.proofs.Decided.{yes_to}
use Rattle.patterns.specs.Like.{star, question_mark, colon, Admits, itself, any, Matches, one, none, more}

-- ---- Admits

pub mark_not : {c : ℕ} → Admits question_mark c → c ≢ colon
mark_not (itself n m) = absurd (m refl)
mark_not (any n) = n

pub mark_admits : (c : ℕ) → Decides (Admits question_mark c) (not (eqb c colon))
mark_admits c = record {
  sound = λ t. any (eqb-false c colon (not-true (eqb c colon) t));
  complete = λ a. ap not (ne_eqb c colon (mark_not a));
}

pub only_itself : {x c : ℕ} → x ≢ question_mark → Admits x c → x ≡ c
only_itself n (itself _ _) = refl
only_itself n (any _) = absurd (n refl)

pub never_star : {x c : ℕ} → Admits x c → x ≢ star
never_star (itself n m) = n
never_star (any n) = λ e. omega arith

pub same_admits : (x : ℕ) → Decides (Admits x x) (not (eqb x star))
same_admits x = go (eqb x question_mark) refl
  where
    go : (b : Bool) → eqb x question_mark ≡ b → Decides (Admits x x) (not (eqb x star))
    go true e = rw (eqb-true x question_mark e) (yes_to (any (λ e. omega arith)))
    go false e = record {
      sound = λ t. itself (eqb-false x star (not-true (eqb x star) t)) (eqb-false x question_mark e);
      complete = λ a. ap not (ne_eqb x star (never_star a));
    }

pub itself_admits : (x c : ℕ) → x ≢ star → x ≢ question_mark → Decides (Admits x c) (eqb x c)
itself_admits x c n m = record {
  sound = λ t. rw (← eqb-true x c t) (itself n m);
  complete = λ a. eq-eqb x c (only_itself m a);
}

-- ---- Matches, by the heads of its lists

pub no_star_admits : {c : ℕ} → Admits star c → ⊥
no_star_admits a = never_star a refl

pub nothing_left : {x : ℕ} {p : List ℕ} → x ≢ star → Matches (x ∷ p) [] → ⊥
nothing_left n (none m) = n refl

pub head_admits : {x c : ℕ} {p s : List ℕ} → x ≢ star → Matches (x ∷ p) (c ∷ s) → Admits x c
head_admits n (one a m) = a
head_admits n (none m) = absurd (n refl)
head_admits n (more c m) = absurd (n refl)

pub tails_match : {x c : ℕ} {p s : List ℕ} → x ≢ star → Matches (x ∷ p) (c ∷ s) → Matches p s
tails_match n (one a m) = m
tails_match n (none m) = absurd (n refl)
tails_match n (more c m) = absurd (n refl)

pub star_ends : {p : List ℕ} → Matches (star ∷ p) [] → Matches p []
star_ends (none m) = m

pub star_takes : {c : ℕ} {p s : List ℕ} → (Matches p (c ∷ s) → ⊥) → Matches (star ∷ p) (c ∷ s) → (c ≢ colon) × Matches (star ∷ p) s
star_takes f (one a m) = absurd (no_star_admits a)
star_takes f (none m) = absurd (f m)
star_takes f (more n m) = (n, m)
