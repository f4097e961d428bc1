-- What holds of the answers of readers that are built of others, and a loop's equation with no bound on its turns. Assumes nothing.
use mathlib.Core.Path.{◌≡◌, refl}
use mathlib.Core.Bool.{Bool, true, false, cond}
use mathlib.Core.List.{List, [], ◌∷◌}
use Prim.Native.Nat.{ℕ, zero, suc, ◌≤◌, ◌<◌}
use native.Mathlib.Omega.{arith}
use lib.Dec.{ltb}
use lib.ListN.{length}
use borrow.Author.Tests.{eqb-true, ltb-true}
use Rattle.reading.specs.Lexemes.{Lexeme, is, choose}
use Rattle.reading.specs.Reads.{Reading, Chain, Chain.alone, Chain.more, Onto, Onto.onto, Before, Before.ended}
use Rattle.reading.specs.Reader.{Answer, took, refuse, Reader, numbered, refuse_by, bind, on, need, ten, up_to, onwards}

-- ---- what `on` does with the next token

-- What follows does not begin with a token that passes the test.
unfoldable pub Without : (Lexeme → Bool) → List Lexeme → Type 0
Without k [] = Unit {0}
Without k (x ∷ r) = k x ≡ false

pub on_without : {A : Type 0} (k : Lexeme → Bool) (f : Lexeme → Reader A) (g : Reader A) (i : List Lexeme) → Without k i → on k f g i ≡ g i
unfolding on choose Without
on_without k f g [] h = refl
on_without k f g (x ∷ r) h = rw h

pub on_token : {A : Type 0} (k : Lexeme → Bool) (f : Lexeme → Reader A) (g : Reader A) (x : Lexeme) (r : List Lexeme) → k x ≡ true → on k f g (x ∷ r) ≡ f x r
unfolding on choose
on_token k f g x r h = rw h

pub on_other : {A : Type 0} (k : Lexeme → Bool) (f : Lexeme → Reader A) (g : Reader A) (x : Lexeme) (r : List Lexeme) → k x ≡ false → on k f g (x ∷ r) ≡ g (x ∷ r)
unfolding on choose
on_other k f g x r h = rw h

-- ---- what holds of an answer

-- P of what is taken and the tokens after it, Q of a refusal's number and the tokens from the refused one on
pub data Goes {A : Type 0} (P : A → List Lexeme → Type 0) (Q : ℕ → List Lexeme → Type 0) : Answer A → Type 0 where
  good : {a : A} {r : List Lexeme} → P a r → Goes P Q (took a r)
  stops : {n : ℕ} {r : List Lexeme} → Q n r → Goes P Q (refuse n r)

pub goes_took : {A : Type 0} {P : A → List Lexeme → Type 0} {Q : ℕ → List Lexeme → Type 0} {a : A} {r : List Lexeme} → Goes P Q (took a r) → P a r
goes_took (good h) = h

pub goes_refused : {A : Type 0} {P : A → List Lexeme → Type 0} {Q : ℕ → List Lexeme → Type 0} {n : ℕ} {r : List Lexeme} → Goes P Q (refuse n r) → Q n r
goes_refused (stops h) = h

pub goes_weaker : {A : Type 0} {P P' : A → List Lexeme → Type 0} {Q Q' : ℕ → List Lexeme → Type 0} {x : Answer A}
    → Goes P Q x → ((a : A) (r : List Lexeme) → P a r → P' a r) → ((n : ℕ) (r : List Lexeme) → Q n r → Q' n r) → Goes P' Q' x
goes_weaker (good h) k q = good (k _ _ h)
goes_weaker (stops h) k q = stops (q _ _ h)

pub goes_refuse_by : {A : Type 0} {P : A → List Lexeme → Type 0} {Q : ℕ → List Lexeme → Type 0} (number : Lexeme → ℕ) (i : List Lexeme)
    → (i ≡ [] → Q 10 i) → ((x : Lexeme) (r : List Lexeme) → i ≡ x ∷ r → Q (numbered number x) i) → Goes P Q (refuse_by number i)
unfolding refuse_by
goes_refuse_by number [] h k = stops (h refl)
goes_refuse_by number (x ∷ r) h k = stops (k x r refl)

-- what is no token has a number below 7
pub number_below : (number : Lexeme → ℕ) (x : Lexeme) → number x < 11 → numbered number x < 11
unfolding numbered
number_below number x l = go (ltb x.kind 7) refl
  where
    go : (b : Bool) → ltb x.kind 7 ≡ b → cond b x.kind (number x) < 11
    go true e = let m = ltb-true x.kind 7 e in omega arith
    go false e = l

-- a refusal by a number of no limit
pub goes_below : {A : Type 0} {P : A → List Lexeme → Type 0} {Q : ℕ → List Lexeme → Type 0} (number : Lexeme → ℕ) → ((x : Lexeme) → number x < 11)
    → (i : List Lexeme) → ((n : ℕ) → n < 11 → Q n i) → Goes P Q (refuse_by number i)
goes_below number l i h = goes_refuse_by number i (λ e. h 10 (omega arith)) (λ x r e. h _ (number_below number x (l x)))

pub goes_ten : {A : Type 0} {P : A → List Lexeme → Type 0} {Q : ℕ → List Lexeme → Type 0} (i : List Lexeme) → ((n : ℕ) → n < 11 → Q n i) → Goes P Q (refuse_by ten i)
goes_ten i h = goes_below ten (λ x. omega arith) i h

pub goes_bind : {A B : Type 0} {P : A → List Lexeme → Type 0} {Q Q' : ℕ → List Lexeme → Type 0} {P' : B → List Lexeme → Type 0} {x : Answer A}
    (f : A → Reader B) → Goes P Q x → ((n : ℕ) (r : List Lexeme) → Q n r → Q' n r) → ((a : A) (r : List Lexeme) → P a r → Goes P' Q' (f a r)) → Goes P' Q' (bind x f)
unfolding bind
goes_bind f (good h) q k = k _ _ h
goes_bind f (stops h) q k = stops (q _ _ h)

pub goes_on_lem : {A : Type 0} (P : A → List Lexeme → Type 0) (Q : ℕ → List Lexeme → Type 0) (k : Lexeme → Bool) (f : Lexeme → Reader A) (g : Reader A) (i : List Lexeme)
    → ((x : Lexeme) (r : List Lexeme) → i ≡ x ∷ r → k x ≡ true → Goes P Q (f x r)) → Goes P Q (g i) → Goes P Q (on k f g i)
unfolding on choose
goes_on_lem P Q k f g [] hf hg = hg
goes_on_lem P Q k f g (x ∷ r) hf hg = go (k x) refl
  where
    go : (o : Bool) → k x ≡ o → Goes P Q (choose o (λ _. f x r) (λ _. g (x ∷ r)))
    go false e = hg
    go true e = hf x r refl e

pub goes_need : {A : Type 0} (P : A → List Lexeme → Type 0) (Q : ℕ → List Lexeme → Type 0) (k : ℕ) (f : Reader A) (i : List Lexeme)
    → ((n : ℕ) → n < 11 → Q n i) → ((x : Lexeme) (r : List Lexeme) → i ≡ x ∷ r → x.kind ≡ k → Goes P Q (f r)) → Goes P Q (need k f i)
unfolding need
goes_need P Q k f i q h = goes_on_lem P Q (is k) (λ _. f) (refuse_by ten) i (λ x r e t. h x r e (eqb-true _ _ t)) (goes_ten i q)

-- a token, and after it what p reads and then f
pub need_bind : {A B : Type 0} (k : ℕ) (g : Reader B) (p : Reader A) (f : A → Reader B) → ((j : List Lexeme) → g j ≡ bind (p j) f) → (i : List Lexeme) → need k g i ≡ bind (need k p i) f
unfolding need on choose refuse_by bind
need_bind k g p f h [] = refl
need_bind k g p f h (x ∷ i) = go (is k x)
  where
    go : (o : Bool) → choose o (λ _. g i) (λ _. refuse_by ten (x ∷ i)) ≡ bind (choose o (λ _. p i) (λ _. refuse_by ten (x ∷ i))) f
    go true = h i
    go false = refl

pub goes_need_bind : {A B : Type 0} {P : A → List Lexeme → Type 0} {Q Q' : ℕ → List Lexeme → Type 0} {P' : B → List Lexeme → Type 0} (k : ℕ) (p : Reader A) (f : A → Reader B) (i : List Lexeme)
    → Goes P Q (need k p i) → ((n : ℕ) (r : List Lexeme) → Q n r → Q' n r) → ((a : A) (r : List Lexeme) → P a r → Goes P' Q' (f a r)) → Goes P' Q' (need k (λ j. bind (p j) f) i)
goes_need_bind k p f i h q g = rw (need_bind k (λ j. bind (p j) f) p f (λ j. refl) i) (goes_bind f h q g)

-- what holds before a loop and after each of its turns holds where it ends
pub goes_onwards : {A : Type 0} (P : A → List Lexeme → Type 0) (Q : ℕ → List Lexeme → Type 0) (sep : A → Lexeme → Bool) (q : A → Lexeme → Reader A)
    → ((a : A) (x : Lexeme) (m : List Lexeme) → P a (x ∷ m) → sep a x ≡ true → Goes P Q (q a x m)) → (a : A) (m : List Lexeme) → P a m → Goes P Q (onwards sep q a m)
unfolding onwards up_to
goes_onwards {A = A} P Q sep q s a m h = go (length m) a m h
  where
    go : (n : ℕ) (a : A) (m : List Lexeme) → P a m → Goes P Q (up_to n sep q a m)
    go zero a m h = good h
    go (suc n) a m h = goes_on_lem P Q _ _ _ m (λ x r e t. goes_bind _ (s a x r (rw e at h) t) (λ n r z. z) (go n)) (good h)

-- ---- what has a token

-- What R reads has one.
pub record Shrinks {A : Type 0} (R : Reading A) : Type 0 where
  pub at : {i r : List Lexeme} {a : A} → R i r a → length r < length i

pub shrinks_onto : {A B : Type 0} {f : A → B} {R : Reading A} → Shrinks R → Shrinks (Onto f R)
shrinks_onto {A = A} {B = B} {f = f} {R = R} s = record { at = go }
  where
    go : {i r : List Lexeme} {b : B} → Onto f R i r b → length r < length i
    go (onto h) = s.at h

pub shrinks_before : {A : Type 0} {k : ℕ} {R : Reading A} → Shrinks R → Shrinks (Before k R)
shrinks_before {A = A} {k = k} {R = R} s = record { at = go }
  where
    go : {i r : List Lexeme} {b : A} → Before k R i r b → length r < length i
    go (ended h e) = let x = s.at h in omega arith

pub shrinks_chain : {A : Type 0} {sep : A → Lexeme → Bool} {R : Reading A} {Q : A → Lexeme → Reading A} → Shrinks R → ((a : A) (x : Lexeme) → Shrinks (Q a x)) → Shrinks (Chain sep R Q)
shrinks_chain {A = A} {sep = sep} {R = R} {Q = Q} s t = record { at = go }
  where
    go : {i r : List Lexeme} {b : A} → Chain sep R Q i r b → length r < length i
    go (alone h) = s.at h
    go (more {x = x} {a = a} j e h) = let y = go j in let z = (t a x).at h in omega arith

-- What p takes has one.
pub record Takes {A : Type 0} (p : Reader A) : Type 0 where
  pub at : (i r : List Lexeme) (a : A) → p i ≡ took a r → length r < length i

pub takes : {A : Type 0} {p : Reader A} {R : Reading A} {Q : List Lexeme → ℕ → List Lexeme → Type 0} → ((i : List Lexeme) → Goes (λ a r. R i r a) (Q i) (p i)) → Shrinks R → Takes p
takes s t = record { at = λ i r a e. t.at (goes_took (rw e at (s i))) }

-- ---- a chain's loop, with no bound on its turns: what a proof of code cites

module _ {A : Type 0} (sep : A → Lexeme → Bool) (q : A → Lexeme → Reader A) (t : (a : A) (x : Lexeme) → Takes (q a x)) where
  -- one turn, and then F or G: they need only agree on what is left
  turn : (F G : A → Reader A) (a : A) (i : List Lexeme) → ((b : A) (r : List Lexeme) → length r < length i → F b r ≡ G b r)
      → on (sep a) (λ x m. bind (q a x m) F) (took a) i ≡ on (sep a) (λ x m. bind (q a x m) G) (took a) i
  unfolding on choose bind
  turn F G a [] h = refl
  turn F G a (x ∷ i) h = go (sep a x) (q a x i) refl
    where
      go : (o : Bool) (y : Answer A) → q a x i ≡ y → choose o (λ _. bind y F) (λ _. took a (x ∷ i)) ≡ choose o (λ _. bind y G) (λ _. took a (x ∷ i))
      go false y e = refl
      go true (took b r) e = let z = (t a x).at i r b e in h b r (omega arith)
      go true (refuse m r) e = refl

  enough : (n k : ℕ) (a : A) (i : List Lexeme) → length i ≤ n → length i ≤ k → up_to n sep q a i ≡ up_to k sep q a i
  unfolding up_to on
  enough zero zero a i l m = refl
  enough zero (suc k) a [] l m = refl
  enough zero (suc k) a (x ∷ i) l m = absurd (omega arith)
  enough (suc n) zero a [] l m = refl
  enough (suc n) zero a (x ∷ i) l m = absurd (omega arith)
  enough (suc n) (suc k) a i l m = turn _ _ a i (λ b r z. enough n k b r (omega arith) (omega arith))

  pub onwards_step : (a : A) (i : List Lexeme) → onwards sep q a i ≡ on (sep a) (λ x m. bind (q a x m) (onwards sep q)) (took a) i
  unfolding onwards up_to on
  onwards_step a [] = refl
  onwards_step a (x ∷ i) = turn _ _ a (x ∷ i) (λ b r z. enough (length i) (length r) b r (omega arith) (omega arith))
