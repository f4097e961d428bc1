-- Why it is enough to go back to the last star. Where the characters between two stars match at a place, a later place at which they match too
-- lies past no further colon: each of those characters matches a colon at both places or at neither. So the second star can run from the first place
-- to the second. Assumes nothing.
use mathlib.Core.Logic.{◌≢◌}
use mathlib.Core.List.{List, ◌∷◌}
use Prim.Native.Nat.{ℕ, ◌+◌, ◌*◌, ◌<◌, ◌≤◌}
use native.Mathlib.Nat.{suc-mul, mul-le-mul_right}
use native.Mathlib.Omega.{arith}
use Rattle.patterns.specs.Like.{star, colon, Admits, itself, any, Matches, one, none, more}
use Rattle.patterns.proofs.Laws.{no_star_admits, never_star, mark_not, tails_match}

-- p and s lose one character after another, each of p's matching that of s, and become q and t
pub data Walk : List ℕ → List ℕ → List ℕ → List ℕ → Type 0 where
  here : {p s : List ℕ} → Walk p s p s
  on : {x c : ℕ} {p s q t : List ℕ} → Admits x c → Walk p s q t → Walk (x ∷ p) (c ∷ s) q t

-- s loses a run of characters without a colon, and becomes t
data Run : List ℕ → List ℕ → Type 0 where
  stay : {s : List ℕ} → Run s s
  pass : {c : ℕ} {s t : List ℕ} → c ≢ colon → Run s t → Run (c ∷ s) t

pub walked_more : {p s q t : List ℕ} {x c : ℕ} → Admits x c → Walk p s (x ∷ q) (c ∷ t) → Walk p s q t
walked_more a here = on a here
walked_more a (on b w) = on b (walked_more a w)

pub walk_back : {p s q t : List ℕ} → Walk p s q t → Matches q t → Matches p s
walk_back here m = m
walk_back (on a w) m = one a (walk_back w m)

pub walk_on : {p s q t : List ℕ} → Walk p s q t → Matches p s → Matches q t
walk_on here m = m
walk_on (on a w) m = walk_on w (tails_match (never_star a) m)

star_runs : {p s : List ℕ} → Matches (star ∷ p) s → (t : List ℕ) × Run s t × Matches p t
star_runs (one a m) = absurd (no_star_admits a)
star_runs (none {s = s} m) = (s, stay, m)
star_runs (more n m) = let r = star_runs m in (r.0, pass n r.1, r.2)

absorbed : {s t q : List ℕ} → Run s t → Matches (star ∷ q) t → Matches (star ∷ q) s
absorbed stay m = m
absorbed (pass n r) m = more n (absorbed r m)

-- a character of a pattern matches two characters: if the first is no colon, neither is the second
no_colon : {x c d : ℕ} → Admits x c → Admits x d → c ≢ colon → d ≢ colon
no_colon (itself n m) (itself _ _) h = h
no_colon (itself n m) (any k) h = k
no_colon (any n) b h = mark_not b

run_more : {s t : List ℕ} {d : ℕ} → d ≢ colon → Run s (d ∷ t) → Run s t
run_more n stay = pass n stay
run_more n (pass k r) = pass k (run_more n r)

run_tails : {x c d : ℕ} {s t : List ℕ} → Admits x c → Admits x d → Run (c ∷ s) (d ∷ t) → Run s t
run_tails a b stay = stay
run_tails a b (pass n r) = run_more (no_colon a b n) r

-- what is left after a walk, with a star before it, matches wherever the whole does
later_place : {p s q t u : List ℕ} → Walk p s q t → Run s u → Matches p u → Matches (star ∷ q) t
later_place here r m = absorbed r (none m)
later_place (on a w) r (one b m) = later_place w (run_tails a b r) m
later_place (on a w) r (none m) = absurd (no_star_admits a)
later_place (on a w) r (more n m) = absurd (no_star_admits a)

pub last_star_enough : {p s q t : List ℕ} → Walk p s q t → Matches (star ∷ p) s → Matches (star ∷ q) t
last_star_enough w m = let r = star_runs m in later_place w r.1 r.2

-- two stars are as good as one
pub one_star : {q t : List ℕ} → Matches (star ∷ star ∷ q) t → Matches (star ∷ q) t
one_star (one a m) = absurd (no_star_admits a)
one_star (none m) = m
one_star (more n m) = more n (one_star m)

-- ---- a number of two digits, the lower of them below k, falls where the higher falls, and where the lower falls and the higher does not rise

pub higher_falls : (k a b x y : ℕ) → a < b → x < k → a * k + x < b * k + y
higher_falls k a b x y h l = omega (arith, suc-mul a k, mul-le-mul_right k h)

pub lower_falls : (k a b x y : ℕ) → a ≤ b → x < y → a * k + x < b * k + y
lower_falls k a b x y h l = omega (arith, mul-le-mul_right k h)
