-- A reader takes what a relation reads, but for refusals that are excused. Assumes nothing.
use mathlib.Core.Path.{◌≡◌, refl, ◌∙◌}
use mathlib.Core.Bool.{Bool, true, false}
use mathlib.Core.List.{List, ◌∷◌}
use Prim.Native.Nat.{ℕ, zero, suc, ◌≤◌}
use native.Mathlib.Omega.{arith}
use lib.ListN.{length}
use borrow.Author.Tests.{eq-eqb}
use Rattle.reading.specs.Lexemes.{Lexeme, is, choose}
use Rattle.reading.specs.Reads.{Reading, Chain, Chain.alone, Chain.more, Onto, Onto.onto, Before, Before.ended}
use Rattle.reading.specs.Reader.{Answer, took, refuse, Reader, numbered, refuse_by, bind, on, need, before, mapped, up_to, onwards, chain}
use Rattle.reading.proofs.Readers.{Shrinks, Without, on_without, on_token}

-- The answer is a and r, or a refusal that Z excuses by its number and place.
pub data Nearly {A : Type 0} (Z : ℕ → List Lexeme → Type 0) (a : A) (r : List Lexeme) : Answer A → Type 0 where
  exact : Nearly Z a r (took a r)
  excused : {n : ℕ} {s : List Lexeme} → Z n s → Nearly Z a r (refuse n s)

pub nearly_bind : {A B : Type 0} {Z : ℕ → List Lexeme → Type 0} {a : A} {r : List Lexeme} {b : B} {s : List Lexeme} {x : Answer A} (f : A → Reader B)
    → Nearly Z a r x → Nearly Z b s (f a r) → Nearly Z b s (bind x f)
unfolding bind
nearly_bind f exact k = k
nearly_bind f (excused z) k = excused z

-- a token that passes the test, or gets an excused refusal
pub nearly_on : {A : Type 0} {Z : ℕ → List Lexeme → Type 0} {a : A} {s : List Lexeme} (k : Lexeme → Bool) (f : Lexeme → Reader A) (number : Lexeme → ℕ) (x : Lexeme) (r : List Lexeme)
    → Nearly Z a s (f x r) → (k x ≡ false → Z (numbered number x) (x ∷ r)) → Nearly Z a s (on k f (refuse_by number) (x ∷ r))
unfolding on choose refuse_by
nearly_on {Z = Z} {a = a} {s = s} k f number x r h z = go (k x) refl
  where
    go : (o : Bool) → k x ≡ o → Nearly Z a s (choose o (λ _. f x r) (λ _. refuse (numbered number x) (x ∷ r)))
    go true e = h
    go false e = excused (z e)

-- p takes what R reads, where S holds of what follows; but for refusals that Z excuses.
pub record Complete {A : Type 0} (Z : ℕ → List Lexeme → Type 0) (S : List Lexeme → Type 0) (p : Reader A) (R : Reading A) : Type 0 where
  pub at : {i r : List Lexeme} {a : A} → R i r a → S r → Nearly Z a r (p i)

module _ {A : Type 0} {Z : ℕ → List Lexeme → Type 0} {S : List Lexeme → Type 0} {p : Reader A} {R : Reading A} (c : Complete Z S p R) where
  pub complete_mapped : {B : Type 0} (f : A → B) → Complete Z S (mapped f p) (Onto f R)
  unfolding mapped
  complete_mapped {B = B} f = record { at = go }
    where
      go : {i r : List Lexeme} {b : B} → Onto f R i r b → S r → Nearly Z b r (mapped f p i)
      go (onto h) e = nearly_bind _ (c.at h e) exact

  pub complete_before : (k : ℕ) → ((x : Lexeme) (m : List Lexeme) → x.kind ≡ k → S (x ∷ m)) → {i r : List Lexeme} {a : A} → Before k R i r a → Nearly Z a r (before k p i)
  unfolding before need
  complete_before k f {r = r} (ended {x = x} h e) = nearly_bind _ (c.at h (f x r e)) (rw (on_token (is k) _ _ x r (eq-eqb _ _ e)) exact)

module _ {A : Type 0} {Z : ℕ → List Lexeme → Type 0} {S : List Lexeme → Type 0} (sep : A → Lexeme → Bool) (p : Reader A) (q : A → Lexeme → Reader A) {R : Reading A} {Q : A → Lexeme → Reading A}
    (c : Complete Z S p R) (d : (a : A) (x : Lexeme) → Complete Z S (q a x) (Q a x)) (s : (a : A) (x : Lexeme) → Shrinks (Q a x))
    (k : (a : A) (x : Lexeme) (m : List Lexeme) → sep a x ≡ true → S (x ∷ m)) where
  -- the reader of a chain comes to r, with turns enough left; or its refusal is excused
  data Reached (i r : List Lexeme) (a : A) : Type 0 where
    there : (n : ℕ) → length r ≤ n → chain sep p q i ≡ up_to n sep q a r → Reached i r a
    lost : {n : ℕ} {t : List Lexeme} → Z n t → chain sep p q i ≡ refuse n t → Reached i r a

  one_more : (i : List Lexeme) (x : Lexeme) {m r : List Lexeme} {a b : A} → sep a x ≡ true → Q a x m r b → S r → Reached i (x ∷ m) a → Reached i r b
  unfolding up_to bind
  one_more i x e h f (lost z j) = lost z j
  one_more i x e h f (there zero l j) = absurd (omega arith)
  one_more i x {m} {r} {a} {b} e h f (there (suc n) l j) = go (q a x m) refl ((d a x).at h f)
    where
      go : (y : Answer A) → q a x m ≡ y → Nearly Z b r y → Reached i r b
      go (took b r) u exact = let y = (s a x).at h in there n (omega arith) (j ∙ on_token (sep a) _ _ x m e ∙ rw u refl)
      go (refuse n t) u (excused z) = lost z (j ∙ on_token (sep a) _ _ x m e ∙ rw u refl)

  reach : {i r : List Lexeme} {a : A} → Chain sep R Q i r a → S r → Reached i r a
  unfolding chain onwards bind
  reach {i = i} {r = r} {a = a} (alone h) f = go (p i) refl (c.at h f)
    where
      go : (y : Answer A) → p i ≡ y → Nearly Z a r y → Reached i r a
      go (took a r) u exact = there (length r) (omega arith) (rw u refl)
      go (refuse n t) u (excused z) = lost z (rw u refl)
  reach {i} (more {x = x} {a = a} j e h) f = one_more i x e h f (reach j (k a x _ e))

  ends : (n : ℕ) (a : A) (r : List Lexeme) → Without (sep a) r → up_to n sep q a r ≡ took a r
  unfolding up_to
  ends zero a r w = refl
  ends (suc n) a r w = on_without (sep a) _ _ r w

  pub complete_chain : {i r : List Lexeme} {a : A} → Chain sep R Q i r a → S r → Without (sep a) r → Nearly Z a r (chain sep p q i)
  complete_chain {i = i} {r = r} {a = a} j f w = go (reach j f)
    where
      go : Reached i r a → Nearly Z a r (chain sep p q i)
      go (there n l e) = rw (e ∙ ends n a r w) exact
      go (lost z e) = rw e (excused z)
