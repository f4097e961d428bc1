-- Laws of things that stand one after the other, for any step: how many bytes they have in a permit, and which. Assumes nothing.
use mathlib.Core.Path.{◌≡◌, refl, sym, ap, ◌∙◌}
use mathlib.Core.Bool.{Bool, true, false}
use mathlib.Core.List.{List, [], ◌∷◌, ◌++◌}
use mathlib.Core.Option.{Option, none, some}
use Prim.Native.Nat.{ℕ, zero, suc, ◌+◌, ◌-◌, ◌≤◌, ◌<◌}
use native.Mathlib.Omega.{arith}
use lib.ListN.{length, length-append}
use Rattle.permits.specs.Permits.{between}
use Rattle.locks.specs.Reading.{ThingStep, wrong, last, on, in_front, stepped, things_from, step_by, text_of, size_with, are_some}
use Rattle.std.specs.Prelude.{Some, None}

module _ {A : Type 0} (next : ℕ → ThingStep A) where
  stepped_some : (s : ThingStep A) (rest : ℕ → Option (List A)) → stepped s rest ≡ some [] → ⊥
  stepped_some wrong rest e = let z : ◌≡◌ {A = ℕ} 0 1 = cc in omega arith
  stepped_some (last x) rest e = let z : ◌≡◌ {A = ℕ} 0 1 = cc in omega arith
  stepped_some (on x m) rest e = go (rest m) e
    where
      go : (o : Option (List A)) → in_front x o ≡ some [] → ⊥
      go none e = let z : ◌≡◌ {A = ℕ} 0 1 = cc in omega arith
      go (some xs) e = let z : ◌≡◌ {A = ℕ} 0 1 = cc in omega arith

  -- what is listed has a first thing
  pub never_empty : (n at : ℕ) → things_from n next at ≡ some [] → ⊥
  unfolding things_from
  never_empty zero at e = let z : ◌≡◌ {A = ℕ} 0 1 = cc in omega arith
  never_empty (suc n) at e = stepped_some (next at) (things_from n next) e

  -- nothing is listed where no thing is left
  pub none_left : (n at : ℕ) → n ≤ 0 → things_from n next at ≡ none
  unfolding things_from
  none_left zero at h = refl
  none_left (suc n) at h = absurd (omega arith)

  pub some_left : (n at : ℕ) → are_some (things_from n next at) ≡ true → 0 < n
  unfolding things_from
  some_left zero at h = absurd (let z : ◌≡◌ {A = ℕ} 0 1 = cc in omega arith)
  some_left (suc n) at h = omega arith

  -- what is listed, by the step there
  module _ (n at : ℕ) (x : A) (m : ℕ) (h : 0 < n) where
    pub at_wrong : next at ≡ wrong → things_from n next at ≡ none
    unfolding things_from
    at_wrong = go n h
      where
        go : (k : ℕ) → 0 < k → next at ≡ wrong → things_from k next at ≡ none
        go zero h e = absurd (omega arith)
        go (suc k) h e = rw e

    pub at_last : next at ≡ last x → things_from n next at ≡ some (x ∷ [])
    unfolding things_from
    at_last = go n h
      where
        go : (k : ℕ) → 0 < k → next at ≡ last x → things_from k next at ≡ some (x ∷ [])
        go zero h e = absurd (omega arith)
        go (suc k) h e = rw e

    pub at_on : next at ≡ on x m → things_from n next at ≡ in_front x (things_from (n - 1) next m)
    unfolding things_from
    at_on = go n h
      where
        go : (k : ℕ) → 0 < k → next at ≡ on x m → things_from k next at ≡ in_front x (things_from (k - 1) next m)
        go zero h e = absurd (omega arith)
        go (suc k) h e = let q : suc k - 1 ≡ k = omega arith in rw (e, q)

-- ---- what they are in a permit

module _ {A : Type 0} (sep : List ℕ) (text : A → List ℕ) (next : ℕ → ThingStep A) (n at : ℕ) (bad end : Bool) (x : A) (m : ℕ) (q : next at ≡ step_by bad end x m) where
  pub size_wrong : (k : ℕ) → 0 < n → bad ≡ true → None ≡ size_with k sep text (things_from n next at)
  unfolding size_with step_by
  size_wrong k h b = rw (at_wrong next n at x m h (q ∙ rw b))

  pub size_last : (k : ℕ) → 0 < n → bad ≡ false → end ≡ true → Some (k + length (text x)) ≡ size_with k sep text (things_from n next at)
  unfolding size_with between step_by
  size_last k h b e = rw (at_last next n at x m h (q ∙ rw (b, e)))

  before_size : (k : ℕ) (o : Option (List A)) → (o ≡ some [] → ⊥)
      → size_with (k + length (text x) + length sep) sep text o ≡ size_with k sep text (in_front x o)
  unfolding size_with between
  before_size k none w = refl
  before_size k (some []) w = absurd (w refl)
  before_size k (some (y ∷ ys)) w = ap Some (simp length-append (omega arith))

  pub size_on : (k : ℕ) → 0 < n → bad ≡ false → end ≡ false
      → size_with (k + length (text x) + length sep) sep text (things_from (n - 1) next m) ≡ size_with k sep text (things_from n next at)
  unfolding step_by
  size_on k h b e = rw (at_on next n at x m h (q ∙ rw (b, e))) (before_size k (things_from (n - 1) next m) (never_empty next (n - 1) m))

  module _ (h : are_some (things_from n next at) ≡ true) where
    pub not_wrong : bad ≡ false
    unfolding step_by
    not_wrong = go bad refl
      where
        go : (b : Bool) → bad ≡ b → bad ≡ false
        go false e = e
        go true e = absurd (let o = at_wrong next n at x m (some_left next n at h) (q ∙ rw e) in let z : ◌≡◌ {A = ℕ} 0 1 = none_some o in omega arith)
          where
            none_some : things_from n next at ≡ none → ◌≡◌ {A = ℕ} 0 1
            none_some o = let w : false ≡ true = ap are_some (sym o) ∙ h in cc

    pub text_last : end ≡ true → text_of sep text (things_from n next at) ≡ text x
    unfolding text_of between step_by
    text_last e = rw (at_last next n at x m (some_left next n at h) (q ∙ rw (not_wrong, e)))

    listed_on : end ≡ false → things_from n next at ≡ in_front x (things_from (n - 1) next m)
    unfolding step_by
    listed_on e = at_on next n at x m (some_left next n at h) (q ∙ rw (not_wrong, e))

    pub some_on : end ≡ false → are_some (things_from (n - 1) next m) ≡ true
    some_on e = go (things_from (n - 1) next m) (ap are_some (sym (listed_on e)) ∙ h)
      where
        go : (o : Option (List A)) → are_some (in_front x o) ≡ true → are_some o ≡ true
        go none w = w
        go (some xs) w = refl

    before_text : (o : Option (List A)) → (o ≡ some [] → ⊥) → are_some o ≡ true → text_of sep text (in_front x o) ≡ text x ++ (sep ++ text_of sep text o)
    unfolding text_of between
    before_text none w s = absurd (let z : ◌≡◌ {A = ℕ} 0 1 = cc in omega arith)
    before_text (some []) w s = absurd (w refl)
    before_text (some (y ∷ ys)) w s = refl

    pub text_on : end ≡ false → text_of sep text (things_from n next at) ≡ text x ++ (sep ++ text_of sep text (things_from (n - 1) next m))
    text_on e = rw (listed_on e) (before_text (things_from (n - 1) next m) (never_empty next (n - 1) m) (some_on e))

    -- the first thing's bytes are not more than all
    pub text_first : length (text x) ≤ length (text_of sep text (things_from n next at))
    text_first = go end refl
      where
        go : (b : Bool) → end ≡ b → length (text x) ≤ length (text_of sep text (things_from n next at))
        go true e = rw (text_last e) (omega arith)
        go false e = rw (text_on e) (simp length-append (omega arith))
