-- The test `likes` decides the relation `Matches`, and `likes_text` what `like` asks of bytes. Assumes nothing.
use mathlib.Core.Path.{◌≡◌, refl}
use mathlib.Core.Logic.{◌≢◌}
use mathlib.Core.Bool.{Bool, true, false, not, ◌&&◌, ◌||◌, cond}
use mathlib.Core.List.{List, [], ◌∷◌}
use Prim.Native.Nat.{ℕ}
use lib.Dec.{eqb}
use borrow.Author.Tests.{eqb-true, eqb-false}
use Rattle.slices.specs.Decides.{Decides}
use Rattle.slices.proofs.Decided.{one_answer, yes_to, no_to, refuted, both}
use Rattle.utf8.specs.Characters.{Utf8}
use Rattle.utf8.specs.Reading.{utf8, points}
use Rattle.utf8.proofs.Readings.{utf8_decides}
use Rattle.patterns.specs.Like.{star, question_mark, colon, Admits, Matches, ends, one, none, more}
use Rattle.patterns.specs.Likes.{stands, steps, runs, likes, likes_text}
use Rattle.patterns.proofs.Laws.{mark_admits, itself_admits, head_admits, tails_match, nothing_left, star_ends, star_takes}

stands_decides : (x c : ℕ) → x ≢ star → Decides (Admits x c) (stands x c)
unfolding stands
stands_decides x c n = go (eqb x question_mark) refl
  where
    go : (b : Bool) → eqb x question_mark ≡ b → Decides (Admits x c) (cond b (not (eqb c colon)) (eqb x c))
    go true e = rw (eqb-true x question_mark e) (mark_admits c)
    go false e = itself_admits x c n (eqb-false x question_mark e)

-- ---- a test f that decides what the rest p of a pattern matches

module _ (p : List ℕ) (f : List ℕ → Bool) (d : (s : List ℕ) → Decides (Matches p s) (f s)) where
  runs_decide : (s : List ℕ) → Decides (Matches (star ∷ p) s) (runs f s)
  unfolding runs
  runs_decide [] = record { sound = λ t. none ((d []).sound t); complete = λ m. (d []).complete (star_ends m) }
  runs_decide (c ∷ s) = go (runs_decide s) (f (c ∷ s)) refl (eqb c colon) refl
    where
      go : Decides (Matches (star ∷ p) s) (runs f s) → (a : Bool) → f (c ∷ s) ≡ a → (b : Bool) → eqb c colon ≡ b
          → Decides (Matches (star ∷ p) (c ∷ s)) (a || (not b && runs f s))
      go r true e b q = yes_to (none ((d (c ∷ s)).sound e))
      go r false e true q = no_to (λ m. (star_takes (refuted (d (c ∷ s)) e) m).0 (eqb-true c colon q))
      go r false e false q = record {
        sound = λ t. more (eqb-false c colon q) (r.sound t);
        complete = λ m. r.complete (star_takes (refuted (d (c ∷ s)) e) m).1;
      }

  steps_decide : (x : ℕ) → x ≢ star → (s : List ℕ) → Decides (Matches (x ∷ p) s) (steps x f s)
  unfolding steps
  steps_decide x n [] = no_to (nothing_left n)
  steps_decide x n (c ∷ s) =
      let t = both (stands x c) (f s) (stands_decides x c n) (d s) in
      record { sound = λ e. one (t.sound e).0 (t.sound e).1; complete = λ m. t.complete (head_admits n m, tails_match n m) }

pub likes_decides : (p s : List ℕ) → Decides (Matches p s) (likes p s)
unfolding likes
likes_decides [] [] = yes_to ends
likes_decides [] (c ∷ s) = no_to (elim [ ])
likes_decides (x ∷ p) s = go (likes_decides p) (eqb x star) refl
  where
    go : ((s : List ℕ) → Decides (Matches p s) (likes p s)) → (b : Bool) → eqb x star ≡ b
        → Decides (Matches (x ∷ p) s) (cond b (runs (likes p) s) (steps x (likes p) s))
    go d true e = rw (eqb-true x star e) (runs_decide p (likes p) d s)
    go d false e = steps_decide p (likes p) d x (eqb-false x star e) s

pub text_decides : (p s : List ℕ) → Decides (Utf8 s × Matches (points p) (points s)) (likes_text p s)
unfolding likes_text
text_decides p s = both (utf8 s) (likes (points p) (points s)) (utf8_decides s) (likes_decides (points p) (points s))

-- an answer that decides the relation is that of the test
pub like_is : {r : Bool} (p s : List ℕ) → Decides (Utf8 s × Matches (points p) (points s)) r → r ≡ likes_text p s
like_is {r} p s d = one_answer r (likes_text p s) d (text_decides p s)
