-- A reader's answer goes by the tokens that it took and the one token after them. Assumes nothing.
use mathlib.Core.Path.{◌≡◌, refl, ap, ◌∙◌}
use mathlib.Core.Bool.{Bool, true, false}
use mathlib.Core.List.{List, [], ◌∷◌, ◌++◌, append_assoc}
use Prim.Native.Nat.{ℕ, zero, suc, ◌<◌}
use native.Mathlib.Omega.{arith}
use lib.ListN.{length}
use Rattle.reading.specs.Lexemes.{Lexeme, choose}
use Rattle.reading.specs.Reader.{Answer, took, refuse, Reader, refuse_by, numbered, bind, on, need, before, mapped, onwards, chain}
use Rattle.reading.proofs.Readers.{Takes, onwards_step}

abbrev pub rest : {A : Type 0} → Answer A → List Lexeme
rest (took a r) = r
rest (refuse n r) = r

abbrev pub put : {A : Type 0} → List Lexeme → Answer A → Answer A
put s (took a r) = took a s
put s (refuse n r) = refuse n s

-- both empty, or with the same first token
pub data Alike : List Lexeme → List Lexeme → Type 0 where
  ends : Alike [] []
  same : {x : Lexeme} {r s : List Lexeme} → Alike (x ∷ r) (x ∷ s)

-- What p took of i, and that it answers alike wherever that stands before the same next token.
pub record Near {A : Type 0} (p : Reader A) (i : List Lexeme) : Type 0 where
  pub before : List Lexeme
  pub split : i ≡ before ++ rest (p i)
  pub again : (s : List Lexeme) → Alike (rest (p i)) s → p (before ++ s) ≡ put s (p i)

alike_after : (b : List Lexeme) {r s : List Lexeme} → Alike r s → Alike (b ++ r) (b ++ s)
alike_after [] h = h
alike_after (x ∷ b) h = same

-- i and what was put in the place of its rest begin alike
alike_whole : {A : Type 0} {p : Reader A} {i : List Lexeme} (n : Near p i) {s : List Lexeme} → Alike (rest (p i)) s → Alike i (n.before ++ s)
alike_whole n {s = s} h = rw n.split (alike_after n.before h)

pub near_took : {A : Type 0} (a : A) (i : List Lexeme) → Near (took a) i
near_took a i = record { before = []; split = refl; again = λ s h. refl }

pub near_refuse_by : {A : Type 0} (number : Lexeme → ℕ) (i : List Lexeme) → Near {A = A} (refuse_by number) i
unfolding refuse_by
near_refuse_by {A = A} number [] = record { before = []; split = refl; again = λ s h. go s h }
  where
    go : (s : List Lexeme) → Alike [] s → refuse_by {A = A} number s ≡ refuse 10 s
    go [] ends = refl
    go (_ ∷ _) h = elim h [ ]
near_refuse_by {A = A} number (x ∷ r) = record { before = []; split = refl; again = λ s h. go s h }
  where
    go : (s : List Lexeme) → Alike (x ∷ r) s → refuse_by {A = A} number s ≡ refuse (numbered number x) s
    go (y ∷ s) same = refl
    go [] h = elim h [ ]

pub near_bind : {A B : Type 0} (p : Reader A) (f : A → Reader B) (i : List Lexeme)
    → Near p i → ((a : A) (r : List Lexeme) → p i ≡ took a r → Near (f a) r) → Near (λ j. bind (p j) f) i
unfolding bind
near_bind {A = A} p f i n k = go (p i) refl
  where
    go : (x : Answer A) → p i ≡ x → Near (λ j. bind (p j) f) i
    go (refuse m r) e = record { before = n.before; split = rw e (rw e at n.split); again = λ s h. rw (n.again s (rw e (rw e at h)), e) }
    go (took a r) e =
        let m = k a r e in
        record {
          before = n.before ++ m.before;
          split = rw (append_assoc, e) ((rw e at n.split) ∙ ap (λ (l : List Lexeme). n.before ++ l) m.split);
          again = λ s h. rw (append_assoc, n.again (m.before ++ s) (rw e (alike_whole m (rw e at h))), e) (m.again s (rw e at h));
        }

pub near_on : {A : Type 0} (k : Lexeme → Bool) (f : Lexeme → Reader A) (g : Reader A) (i : List Lexeme)
    → ((x : Lexeme) (r : List Lexeme) → i ≡ x ∷ r → Near (f x) r) → Near g i → Near (on k f g) i
unfolding on choose
near_on {A = A} k f g [] hf n = record { before = n.before; split = n.split; again = λ s h. go (n.before ++ s) (alike_whole n h) ∙ n.again s h }
  where
    go : (j : List Lexeme) → Alike [] j → on k f g j ≡ g j
    go [] ends = refl
    go (_ ∷ _) h = elim h [ ]
near_on {A = A} k f g (x ∷ r) hf n = go (k x) refl
  where
    other : k x ≡ false → (j : List Lexeme) → Alike (x ∷ r) j → on k f g j ≡ g j
    other e (y ∷ j) same = rw e
    other e [] h = elim h [ ]

    go : (o : Bool) → k x ≡ o → Near (on k f g) (x ∷ r)
    go false e = record {
      before = n.before;
      split = rw e n.split;
      again = λ s h. rw e (other e (n.before ++ s) (alike_whole n (rw e at h)) ∙ n.again s (rw e at h));
    }
    go true e =
        let m = hf x r refl in
        record { before = x ∷ m.before; split = rw e (ap (λ (l : List Lexeme). x ∷ l) m.split); again = λ s h. rw e (m.again s (rw e at h)) }

pub near_need : {A : Type 0} (k : ℕ) (f : Reader A) (i : List Lexeme) → ((r : List Lexeme) → Near f r) → Near (need k f) i
unfolding need
near_need k f i h = near_on _ _ _ i (λ _ r e. h r) (near_refuse_by _ i)

pub near_mapped : {A B : Type 0} (f : A → B) (p : Reader A) (i : List Lexeme) → Near p i → Near (mapped f p) i
unfolding mapped
near_mapped f p i n = near_bind p _ i n (λ a r e. near_took _ r)

pub near_before : {A : Type 0} (k : ℕ) (p : Reader A) (i : List Lexeme) → Near p i → Near (before k p) i
unfolding before
near_before k p i n = near_bind p _ i n (λ a r e. near_need k _ r (λ m. near_took a m))

near_equal : {A : Type 0} (p q : Reader A) (i : List Lexeme) → ((j : List Lexeme) → p j ≡ q j) → Near q i → Near p i
near_equal p q i e n = record { before = n.before; split = rw (e i) n.split; again = λ s h. rw (e (n.before ++ s), e i) (n.again s (rw (e i) at h)) }

module _ {A : Type 0} (sep : A → Lexeme → Bool) (q : A → Lexeme → Reader A) (t : (a : A) (x : Lexeme) → Takes (q a x)) (k : (a : A) (x : Lexeme) (i : List Lexeme) → Near (q a x) i) where
  near_loop : (n : ℕ) (a : A) (i : List Lexeme) → length i < n → Near (onwards sep q a) i
  near_loop zero a i l = absurd (omega arith)
  near_loop (suc n) a i l =
      near_equal _ _ i (onwards_step sep q t a)
      (near_on _ _ _ i
      (λ x r e. near_bind (q a x) _ r (k a x r) (λ b m e'. let y = (t a x).at r m b e' in let z = ap (λ (l : List Lexeme). length l) e in near_loop n b m (omega arith)))
      (near_took a i))

  pub near_onwards : (a : A) (i : List Lexeme) → Near (onwards sep q a) i
  near_onwards a i = near_loop (suc (length i)) a i (omega arith)

  pub near_chain : (p : Reader A) → ((i : List Lexeme) → Near p i) → (i : List Lexeme) → Near (chain sep p q) i
  unfolding chain
  near_chain p h i = near_bind p _ i (h i) (λ a r e. near_onwards a r)
