-- How far the loop after a star is: the last star met stands before `from`, its run ends at `run`, and from there the two went on to p and s. Assumes nothing.
use mathlib.Core.Path.{◌≡◌, refl, ◌∙◌}
use mathlib.Core.Bool.{Bool, true, false}
use mathlib.Core.Logic.Iff
use mathlib.Core.Logic.{◌≢◌, ◌↔◌}
use mathlib.Core.List.{List, [], ◌∷◌}
use Prim.Native.Nat.{ℕ, ◌+◌, ◌<◌, ◌≤◌}
use native.Mathlib.Omega.{arith}
use lib.Dec.{eqb}
use lib.ListN.{length, get_or, drop}
use borrow.Author.Tests.{eqb-true, eqb-false}
use Rattle.slices.specs.Decides.{Decides}
use Rattle.slices.proofs.Decided.{yes_to, no_to}
use Rattle.patterns.specs.Like.{star, colon, Admits, Matches, ends, one, none, more}
use Rattle.patterns.proofs.Laws.{nothing_left, head_admits, tails_match, star_ends, star_takes}
use Rattle.patterns.proofs.LastStar.{Walk, here, walked_more, walk_back, walk_on, last_star_enough, one_star}
use Rattle.utf8.specs.Characters.{Utf8}
use Rattle.utf8.specs.Reading.{width, point, points}
use Rattle.patterns.specs.Steps.{Stepped}
use Rattle.patterns.proofs.Texts.{no_points, step, ascii_step, ascii_at}

-- ---- a star at a place of the pattern, and what is no star

pub star_step : (p : List ℕ) (i : ℕ) → i < length p → Utf8 (drop i p) → get_or p i 0 ≡ star → Stepped p i (i + 1)
star_step p i h u e = ascii_step p i h u (omega arith)

pub star_at : (p : List ℕ) (i : ℕ) → i < length p → Utf8 (drop i p) → get_or p i 0 ≡ star → points (drop i p) ≡ star ∷ points (drop (i + 1) p)
star_at p i h u e = (star_step p i h u e).says ∙ rw ((ascii_at p i h u).to (omega arith) ∙ e)

-- a character of a place that is not the ASCII character b, as its first byte is not
pub point_not : (s : List ℕ) (i b : ℕ) → b ≤ 0x7F → i < length s → Utf8 (drop i s) → (get_or s i 0 ≡ b → ⊥) → point (drop i s) ≢ b
point_not s i b l h u f e = f ((ascii_at s i h u).back (omega arith) ∙ e)

-- ---- a match of what is left of a pattern from i on with what is left of a string from j on

empty : {t : List ℕ} {n : ℕ} {ns : List ℕ} → t ≡ n ∷ ns → Matches [] t → ⊥
empty {t} {n} {ns} e m = go (rw e at m)
  where
    go : Matches [] (n ∷ ns) → ⊥
    go = elim [ ]

pub text_end : (p s : List ℕ) (i j : ℕ) → length p ≤ i → j ≤ length s → Utf8 (drop j s) → Decides (Matches (points (drop i p)) (points (drop j s))) (eqb j (length s))
text_end p s i j hi hj u = go (eqb j (length s)) refl
  where
    go : (b : Bool) → eqb j (length s) ≡ b → Decides (Matches (points (drop i p)) (points (drop j s))) b
    go true e = yes_to (rw (no_points p i hi, no_points s j (omega (arith, eqb-true j (length s) e))) ends)
    go false e = no_to (λ m. empty (step s j (width (drop j s)) (omega (arith, eqb-false j (length s) e)) u refl).says (rw (no_points p i hi) at m))

module _ (p s : List ℕ) (i j : ℕ) (hi : i < length p) (u : Utf8 (drop i p)) (n : get_or p i 0 ≡ star → ⊥) where
  pub text_past : length s ≤ j → Matches (points (drop i p)) (points (drop j s)) → ⊥
  text_past hj = rw ((step p i (width (drop i p)) hi u refl).says, no_points s j hj) (nothing_left (point_not p i star (omega arith) hi u n))

  pub text_here : j < length s → Utf8 (drop j s) → (Admits (point (drop i p)) (point (drop j s)) → ⊥) → Matches (points (drop i p)) (points (drop j s)) → ⊥
  text_here hj v f = rw ((step p i (width (drop i p)) hi u refl).says, (step s j (width (drop j s)) hj v refl).says) (λ m. f (head_admits (point_not p i star (omega arith) hi u n) m))

  pub text_on : {e f : ℕ} → Stepped p i e → Stepped s j f → Admits (point (drop i p)) (point (drop j s))
      → Matches (points (drop i p)) (points (drop j s)) ↔ Matches (points (drop e p)) (points (drop f s))
  text_on g k a = rw (g.says, k.says) (tails_match (point_not p i star (omega arith) hi u n), one a)

-- ---- after a star

pub record Tried (rest string : List ℕ) (from run p s : ℕ) : Type 0 where
  pub from_in : from ≤ p
  pub run_in : run ≤ s
  pub p_in : p ≤ length rest
  pub s_in : s ≤ length string
  pub from_good : Utf8 (drop from rest)
  pub run_good : Utf8 (drop run string)
  pub p_good : Utf8 (drop p rest)
  pub s_good : Utf8 (drop s string)
  pub left : Matches (star ∷ points rest) (points string) ↔ Matches (star ∷ points (drop from rest)) (points (drop run string))
  pub walked : Walk (points (drop from rest)) (points (drop run string)) (points (drop p rest)) (points (drop s string))

pub tried_none : {rest string : List ℕ} → Utf8 rest → Utf8 string → Tried rest string 0 0 0 0
tried_none u v = record {
  from_in = omega arith;
  run_in = omega arith;
  p_in = omega arith;
  s_in = omega arith;
  from_good = u;
  run_good = v;
  p_good = u;
  s_good = v;
  left = Iff.rfl;
  walked = here;
}

star_on : {p s t : List ℕ} {c : ℕ} → s ≡ c ∷ t → (Matches p s → ⊥) → c ≢ colon → Matches (star ∷ p) s ↔ Matches (star ∷ p) t
star_on e f n = rw e ((λ m. (star_takes (rw e at f) m).1), more n)

star_stops : {p s t : List ℕ} {c : ℕ} → s ≡ c ∷ t → (Matches p s → ⊥) → c ≡ colon → Matches (star ∷ p) s → ⊥
star_stops e f n = rw e (λ m. (star_takes (rw e at f) m).0 n)

module _ {rest string : List ℕ} {from run p s : ℕ} (h : Tried rest string from run p s) where
  pub tried_star : p < length rest → get_or rest p 0 ≡ star → Tried rest string (p + 1) s (p + 1) s
  tried_star hp e =
      let k = star_step rest p hp h.p_good e in
      let w = rw (star_at rest p hp h.p_good e) at h.walked in
      record {
        from_in = omega arith;
        run_in = omega arith;
        p_in = omega arith;
        s_in = h.s_in;
        from_good = k.good;
        run_good = h.s_good;
        p_good = k.good;
        s_good = h.s_good;
        left = Iff.trans h.left ((λ m. one_star (last_star_enough w m)), (λ m. none (walk_back w m)));
        walked = here;
      }

  pub tried_one : {e f : ℕ} → Stepped rest p e → Stepped string s f → Admits (point (drop p rest)) (point (drop s string)) → Tried rest string from run e f
  tried_one g k a = record {
    from_in = omega (arith, g.low);
    run_in = omega (arith, k.low);
    p_in = g.high;
    s_in = k.high;
    from_good = h.from_good;
    run_good = h.run_good;
    p_good = g.good;
    s_good = k.good;
    left = h.left;
    walked = walked_more a (rw (g.says, k.says) at h.walked);
  }

  pub tried_all : length rest ≤ p → s ≡ length string → Matches (star ∷ points rest) (points string)
  tried_all hp hs = h.left.1 (none (walk_back h.walked (rw (no_points rest p hp, no_points string s (omega arith)) ends)))

  -- the string ends where the pattern wants one character more: after a longer run it ends no later
  pub tried_past : p < length rest → (get_or rest p 0 ≡ star → ⊥) → length string ≤ s → Matches (star ∷ points rest) (points string) → ⊥
  tried_past hp n hs m =
      let k = step rest p (width (drop p rest)) hp h.p_good refl in
      nothing_left (point_not rest p star (omega arith) hp h.p_good n) (star_ends (last_star_enough (rw (k.says, no_points string s hs) at h.walked) (h.left.0 m)))

  -- what is left of the pattern does not match what is left of the string: only a longer run can help
  module _ (stuck : Matches (points (drop p rest)) (points (drop s string)) → ⊥) where
    pub tried_longer : {r : ℕ} → run < length string → (get_or string run 0 ≡ colon → ⊥) → Stepped string run r → Tried rest string from r from r
    tried_longer hr n k = record {
      from_in = omega arith;
      run_in = omega arith;
      p_in = omega arith;
      s_in = k.high;
      from_good = h.from_good;
      run_good = k.good;
      p_good = h.from_good;
      s_good = k.good;
      left = Iff.trans h.left (star_on k.says (λ m. stuck (walk_on h.walked m)) (point_not string run colon (omega arith) hr h.run_good n));
      walked = here;
    }

    pub tried_at_colon : run < length string → get_or string run 0 ≡ colon → Matches (star ∷ points rest) (points string) → ⊥
    tried_at_colon hr e m =
        let k = step string run (width (drop run string)) hr h.run_good refl in
        star_stops k.says (λ m. stuck (walk_on h.walked m)) ((ascii_at string run hr h.run_good).to (omega arith) ∙ e) (h.left.0 m)
