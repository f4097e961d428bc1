-- The reader of action lists takes the bytes of some strings and no others. Assumes nothing.
use mathlib.Core.Path.{◌≡◌, refl, sym, ap, ◌∙◌}
use mathlib.Core.Bool.{Bool, true, false, ◌&&◌, and-eq-true_iff}
use mathlib.Core.List.{List, [], ◌∷◌, ◌++◌}
use mathlib.Core.Option.{Option, none, some}
use Prim.Native.Nat.{ℕ, zero, suc, ◌+◌, ◌-◌, ◌≤◌, ◌<◌}
use native.Mathlib.Omega.{arith}
use lib.Dec.{eqb, leb, ltb}
use lib.ListN.{length}
use borrow.Author.Tests.{lt-ltb, le-leb, eq-eqb, ne_eqb, ltb-true, leb-true, eqb-true}
use Rattle.slices.specs.Parts.{part}
use Rattle.bags.specs.Forms.{InTurn, none as no_more, more}
use Rattle.bags.specs.Reading.{byte}
use Rattle.bags.proofs.Laid.{Laid, laid_none, laid_cons, laid_part, laid_join, laid_split, laid_head, laid_is}
use Rattle.placing.specs.Said.{Word}
use Rattle.permits.specs.Meaning.{AString}
use Rattle.locks.specs.Reading.{ThingStep, wrong, last, on, in_front, stepped, things_from, step_by, is_rule_string, action_at, action_step}
use Rattle.std.specs.Prelude.{Some, None}
use Rattle.locks.specs.Forms.{ActionBytes, action}
use Rattle.locks.proofs.Strings.{string_test, test_string}
use Rattle.locks.proofs.ListedLaws.{at_last, at_on}

-- ---- what is listed, by its first step

pub data Steps {A : Type 0} (next : ℕ → ThingStep A) (n at : ℕ) : List A → Type 0 where
  ends : {x : A} → next at ≡ last x → Steps next n at (x ∷ [])
  goes : {x : A} {m : ℕ} {xs : List A} → next at ≡ on x m → things_from n next m ≡ some xs → Steps next n at (x ∷ xs)

pub steps : {A : Type 0} (next : ℕ → ThingStep A) (n at : ℕ) (xs : List A) → things_from (suc n) next at ≡ some xs → Steps next n at xs
unfolding things_from
steps {A} next n at xs h = go (next at) refl h
  where
    to : {x : List A} {y : List A} → x ≡ y → Steps next n at x → Steps next n at y
    to q s = rw (← q) s

    before_some : (x : A) (m : ℕ) → next at ≡ on x m → (o : Option (List A)) → things_from n next m ≡ o → in_front x o ≡ some xs → Steps next n at xs
    before_some x m q none e h = absurd (let z : ◌≡◌ {A = ℕ} 0 1 = cc in omega arith)
    before_some x m q (some ys) e h = let r : x ∷ ys ≡ xs = cc in to r (goes q e)

    go : (s : ThingStep A) → next at ≡ s → stepped s (things_from n next) ≡ some xs → Steps next n at xs
    go wrong q h = absurd (let z : ◌≡◌ {A = ℕ} 0 1 = cc in omega arith)
    go (last x) q h = let r : x ∷ [] ≡ xs = cc in to r (ends q)
    go (on x m) q h = before_some x m q (things_from n next m) refl h

-- ---- a string behind its length byte

module _ (a : List ℕ) (at : ℕ) where
  -- the string that stands there
  abbrev pub here : Word
  here = part a (at + 1) (byte a at)

  pub record Acts (x : Word) (e : ℕ) : Type 0 where
    pub string : AString x
    pub laid : Laid a at (length x ∷ x) e

  acts : at < length a → at + 1 + byte a at ≤ length a → is_rule_string here ≡ true → Acts here (at + 1 + byte a at)
  acts h k s =
      let p = laid_part a (at + 1) (byte a at) k in
      record { string = test_string here s; laid = laid_cons a at (length here) here _ h (sym p.1) p.0 }

  -- the piece there is bad, or a string
  data Found : Type 0 where
    bad : action_at a at ≡ None → Found
    good : Acts here (at + 1 + byte a at) → action_at a at ≡ Some (record { start = at + 1; end = at + 1 + byte a at }) → Found

  found : Found
  unfolding action_at
  found = go (ltb at (length a) && leb (at + 1 + byte a at) (length a) && is_rule_string here) refl
    where
      go : (t : Bool) → (ltb at (length a) && leb (at + 1 + byte a at) (length a) && is_rule_string here) ≡ t → Found
      go false e = bad (rw e)
      go true e =
          let x = (and-eq-true_iff _ (is_rule_string here)).0 e in
          let y = (and-eq-true_iff (ltb at (length a)) _).0 x.0 in
          good (acts (ltb-true _ _ y.0) (leb-true _ _ y.1) x.1) (rw e)

  string_of : (k : ℕ) → k ≡ at + 1 + byte a at → part a (at + 1) (k - (at + 1)) ≡ here
  string_of k q = let z : k - (at + 1) ≡ byte a at = omega arith in rw z

  step_good : action_at a at ≡ Some (record { start = at + 1; end = at + 1 + byte a at })
      → action_step a at ≡ step_by false (eqb (at + 1 + byte a at) (length a)) here (at + 1 + byte a at)
  unfolding action_step
  step_good q = rw (q, string_of (at + 1 + byte a at) refl)

  step_bad : action_at a at ≡ None → action_step a at ≡ wrong
  unfolding action_step step_by
  step_bad q = rw q

  -- what a step tells of the string there
  pub last_acts : (x : Word) → action_step a at ≡ last x → Acts x (length a)
  unfolding step_by
  last_acts x h = go found
    where
      pick : (t : Bool) → eqb (at + 1 + byte a at) (length a) ≡ t → Acts here (at + 1 + byte a at) → step_by false t here (at + 1 + byte a at) ≡ last x → Acts x (length a)
      pick true e w q = let r : here ≡ x = cc in rw (← r, ← eqb-true (at + 1 + byte a at) (length a) e) w
      pick false e w q = absurd (let z : ◌≡◌ {A = ℕ} 0 1 = cc in omega arith)

      go : Found → Acts x (length a)
      go (bad q) = absurd (let z : ◌≡◌ {A = ℕ} 0 1 = cc (step_bad q) in omega arith)
      go (good w q) = pick (eqb (at + 1 + byte a at) (length a)) refl w (sym (step_good q) ∙ h)

  pub on_acts : (x : Word) (m : ℕ) → action_step a at ≡ on x m → Acts x m
  unfolding step_by
  on_acts x m h = go found
    where
      pick : (t : Bool) → Acts here (at + 1 + byte a at) → step_by false t here (at + 1 + byte a at) ≡ on x m → Acts x m
      pick true w q = absurd (let z : ◌≡◌ {A = ℕ} 0 1 = cc in omega arith)
      pick false w q = let r : here ≡ x = cc in let s : at + 1 + byte a at ≡ m = cc in rw (← r, ← s) w

      go : Found → Acts x m
      go (bad q) = absurd (let z : ◌≡◌ {A = ℕ} 0 1 = cc (step_bad q) in omega arith)
      go (good w q) = pick (eqb (at + 1 + byte a at) (length a)) w (sym (step_good q) ∙ h)

  -- a string that stands there is found
  module _ (x : Word) (e : ℕ) (s : AString x) (l : Laid a at (length x ∷ x) e) where
    is_here : (here ≡ x) × (e ≡ at + 1 + byte a at)
    is_here =
        let h = laid_head l in
        (rw h.first (laid_is h.others), omega (arith, l.stop, h.first))

    pub acts_step : action_step a at ≡ step_by false (eqb e (length a)) x e
    unfolding action_at
    acts_step =
        let h = laid_head l in
        let i = is_here in
        let k : at + 1 + byte a at ≤ length a = omega (arith, l.inside, i.1) in
        let g : is_rule_string here ≡ true = rw i.0 (string_test s) in
        step_good (rw (lt-ltb _ _ h.within, le-leb _ _ k, g)) ∙ rw (i.0, ← i.1)

-- ---- the list

pub record ActionsSaid (a : List ℕ) (at n : ℕ) (xs : List Word) : Type 0 where
  pub bytes : List ℕ
  pub says : InTurn ActionBytes bytes xs
  pub laid : Laid a at bytes (length a)
  pub few : length xs ≤ n
  pub some_one : 1 ≤ length xs

pub actions_sound : (a : List ℕ) (n at : ℕ) (xs : List Word) → things_from n (action_step a) at ≡ some xs → ActionsSaid a at n xs
unfolding things_from
actions_sound a zero at xs h = absurd (let z : ◌≡◌ {A = ℕ} 0 1 = none_listed in omega arith)
  where
    none_listed : ◌≡◌ {A = ℕ} 0 1
    none_listed = cc
actions_sound a (suc n) at xs h = go (steps (action_step a) n at xs h) (actions_sound a n)
  where
    go : {xs : List Word} → Steps (action_step a) n at xs → ((m : ℕ) (ys : List Word) → things_from n (action_step a) m ≡ some ys → ActionsSaid a m n ys)
        → ActionsSaid a at (suc n) xs
    go (ends {x} q) ih =
        let w = last_acts a at x q in
        record {
          bytes = (length x ∷ x) ++ [];
          says = more (action w.string) no_more;
          laid = laid_join w.laid (laid_none a (length a) (omega arith));
          few = omega arith;
          some_one = omega arith;
        }
    go (goes {x} {m} {xs = ys} q h) ih =
        let w = on_acts a at x m q in
        let r = ih m ys h in
        record {
          bytes = (length x ∷ x) ++ r.bytes;
          says = more (action w.string) r.says;
          laid = laid_join w.laid r.laid;
          few = omega (arith, r.few);
          some_one = omega arith;
        }

pub actions_complete : (a : List ℕ) {b : List ℕ} {xs : List Word} → InTurn ActionBytes b xs → (at n : ℕ) → Laid a at b (length a) → 1 ≤ length xs → length xs ≤ n
    → things_from n (action_step a) at ≡ some xs
unfolding step_by
actions_complete a no_more at n l h k = absurd (omega arith)
actions_complete a (more (action {s} w) no_more) at n l h k =
    let p = laid_split (length s ∷ s) [] l in
    let e : at + length (length s ∷ s) ≡ length a = omega (arith, p.1.stop) in
    at_last (action_step a) n at s 0 (omega arith) (acts_step a at s _ w p.0 ∙ last_is e)
  where
    last_is : {e : ℕ} → e ≡ length a → step_by false (eqb e (length a)) s e ≡ last s
    last_is q = rw (eq-eqb _ _ q)
actions_complete a (more {b = b} (action {s} w) (more {a = a'} {b = b'} {x} {xs} u r)) at n l h k =
    let p = laid_split (length s ∷ s) (a' ++ b') l in
    let q = laid_split a' b' p.1 in
    let f : at + length (length s ∷ s) ≡ length a → ⊥ = λ e. omega (arith, q.0.stop, q.0.inside, some_byte u) in
    at_on (action_step a) n at s (at + length (length s ∷ s)) (omega arith) (acts_step a at s _ w p.0 ∙ on_is f)
    ∙ ap (in_front s) (actions_complete a (more u r) (at + length (length s ∷ s)) (n - 1) p.1 (omega arith) (omega arith))
  where
    some_byte : {b : List ℕ} {x : Word} → ActionBytes b x → 1 ≤ length b
    some_byte (action w) = omega arith

    on_is : {e : ℕ} → (e ≡ length a → ⊥) → step_by false (eqb e (length a)) s e ≡ on s e
    on_is q = rw (ne_eqb _ _ q)
