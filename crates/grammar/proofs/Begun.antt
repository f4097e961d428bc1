-- What stands before a refused token begins something that the grammar reads: laws of its parts. Assumes nothing.
use mathlib.Core.Path.{◌≡◌, refl}
use mathlib.Core.Bool.{Bool, true}
use mathlib.Core.List.{List, [], ◌∷◌, ◌++◌}
use mathlib.Core.Logic.{inl}
use Prim.Native.Nat.{ℕ, suc, ◌+◌, ◌≤◌, ◌<◌}
use native.Mathlib.Omega.{arith}
use lib.ListN.{length}
use Rattle.tokens.specs.Sizes.{most_inside}
use Rattle.reading.specs.Lexemes.{Lexeme}
use Rattle.reading.specs.Reads.{Reading, Chain, Chain.alone, Chain.more, Onto, Onto.onto, Before, Before.ended, After, After.begun}
use Rattle.reading.specs.Reader.{Reader, need, before, mapped, onwards, chain}
use Rattle.reading.proofs.Local.{Alike}
use Rattle.reading.proofs.Readers.{Goes, good, goes_weaker, goes_bind, goes_need, goes_onwards}
use Rattle.grammar.specs.Grammar.{Limit, Limits, sizes_to, lifting}
use Rattle.grammar.specs.Lowest.{rank}

-- What the grammar reads, under each limits.
abbrev pub Family : Type 0 → Type 1
Family A = Limits → Reading A

-- a token of the kind k that no text gave
abbrev pub made : ℕ → Lexeme
made k = record { kind = k; start = 0; end = 0; bytes = [] }

-- ---- another rest, and less asked

-- The list i ends in r, and j is i with s in the place of r.
pub data Swap (r s : List Lexeme) : List Lexeme → List Lexeme → Type 0 where
  here : Swap r s r s
  step : {x : Lexeme} {i j : List Lexeme} → Swap r s i j → Swap r s (x ∷ i) (x ∷ j)

swap_behind : (ts : List Lexeme) {r s i j : List Lexeme} → Swap r s i j → Swap r s (ts ++ i) (ts ++ j)
swap_behind [] w = w
swap_behind (x ∷ ts) w = step (swap_behind ts w)

-- With s in the place of r, M asks no more than L.
pub record Eases (L M : Limits) (r s : List Lexeme) : Type 0 where
  pub asks : {m n : List Lexeme} → Swap r s m n → (l : Limit) → L.Asks l m → M.Asks l n
  pub levels : L.levels ≡ M.levels

-- ---- which limits are asked of what

-- document 01's, with k levels more
abbrev pub taken : ℕ → Limits
taken k = sizes_to (most_inside + k)

-- The limit m is not asked of a token with r behind it: the token stands in s. But where a limit n refused the first token of s, those that go before n are asked of it.
pub record Exempt (n : ℕ) (s : List Lexeme) (m : ℕ) (r : List Lexeme) : Type 0 where
  pub behind : length r < length s
  pub first : rank m < rank n → 11 ≤ n → suc (length r) < length s

-- the same, with k levels more, where what is refused by n is gone on with by s
abbrev pub beyond : ℕ → ℕ → List Lexeme → Limits
beyond k n s = lifting (most_inside + k) (Exempt n s)

-- Where a limit refused the first token of r, it stands first in s too; for 12 that takes one level more.
abbrev pub Kept : ℕ → ℕ → List Lexeme → List Lexeme → Type 0
Kept k n r s = 11 ≤ n → (n ≡ 12 → 1 ≤ k) → Alike r s

pub eased : (k n : ℕ) (on : List Lexeme) {r s : List Lexeme} → Eases (taken k) (beyond k n on) r s
eased k n on = record { asks = λ w l h. inl h; levels = refl }

-- with s in the place of r, i is a list that R reads up to n
abbrev pub Moved : {A : Type 0} → Reading A → (r s i n : List Lexeme) → A → Type 0
Moved R r s i n a = (j : List Lexeme) × Swap r s i j × R j n a

-- What R reads it reads before any other rest, where no more is asked.
pub record Framed {A : Type 0} (R : Family A) : Type 1 where
  pub at : {L M : Limits} {r s i m n : List Lexeme} {a : A} → Eases L M r s → R L i m a → Swap r s m n → Moved (R M) r s i n a

module _ {A : Type 0} {R : Family A} (f : Framed R) where
  pub framed_onto : {B : Type 0} (g : A → B) → Framed (λ L. Onto g (R L))
  framed_onto {B = B} g = record { at = go }
    where
      go : {L M : Limits} {r s i m n : List Lexeme} {b : B} → Eases L M r s → Onto g (R L) i m b → Swap r s m n → Moved (Onto g (R M)) r s i n b
      go e (onto h) w = let q = f.at e h w in (q.0, q.1, onto q.2)

  pub framed_before : (k : ℕ) → Framed (λ L. Before k (R L))
  framed_before k = record { at = go }
    where
      go : {L M : Limits} {r s i m n : List Lexeme} {a : A} → Eases L M r s → Before k (R L) i m a → Swap r s m n → Moved (Before k (R M)) r s i n a
      go e (ended h t) w = let q = f.at e h (step w) in (q.0, q.1, ended q.2 t)

  pub framed_after : (k : ℕ) → Framed (λ L. After k (R L))
  framed_after k = record { at = go }
    where
      go : {L M : Limits} {r s i m n : List Lexeme} {a : A} → Eases L M r s → After k (R L) i m a → Swap r s m n → Moved (After k (R M)) r s i n a
      go e (begun t h) w = let q = f.at e h w in (_, step q.1, begun t q.2)

pub framed_chain : {A : Type 0} {sep : A → Lexeme → Bool} {R : Family A} {Q : A → Lexeme → Family A} → Framed R → ((a : A) (x : Lexeme) → Framed (Q a x)) → Framed (λ L. Chain sep (R L) (λ a x. Q a x L))
framed_chain {A = A} {sep = sep} {R = R} {Q = Q} f g = record { at = go }
  where
    go : {L M : Limits} {r s i m n : List Lexeme} {a : A} → Eases L M r s → Chain sep (R L) (λ a x. Q a x L) i m a → Swap r s m n → Moved (Chain sep (R M) (λ a x. Q a x M)) r s i n a
    go e (alone h) w = let q = f.at e h w in (q.0, q.1, alone q.2)
    go e (more {x = x} {a = a} j t h) w = let q = (g a x).at e h w in let p = go e j (step q.1) in (p.0, p.1, more p.2 t q.2)

-- what R reads and then what S reads
pub data Then {A B : Type 0} (R : Reading A) (S : Reading B) : List Lexeme → List Lexeme → A × B → Type 0 where
  followed : {i m r : List Lexeme} {a : A} {b : B} → R i m a → S m r b → Then R S i r (a, b)

-- ---- what can stand at a place

-- Something that R reads can stand before any rest w.
pub record Possible (k : ℕ) {A : Type 0} (R : Family A) : Type 0 where
  pub text : List Lexeme → List Lexeme
  pub tree : A
  pub reads : (n : ℕ) (s w : List Lexeme) → R (beyond k n s) (text w) w tree

module _ {k : ℕ} {A : Type 0} {R : Family A} (p : Possible k R) where
  pub possible_onto : {B : Type 0} (f : A → B) → Possible k (λ L. Onto f (R L))
  possible_onto f = record { text = p.text; tree = f p.tree; reads = λ n s w. onto (p.reads n s w) }

  pub possible_before : (kind : ℕ) → Possible k (λ L. Before kind (R L))
  possible_before kind = record { text = λ w. p.text (made kind ∷ w); tree = p.tree; reads = λ n s w. ended (p.reads n s (made kind ∷ w)) refl }

  pub possible_after : (kind : ℕ) → Possible k (λ L. After kind (R L))
  possible_after kind = record { text = λ w. made kind ∷ p.text w; tree = p.tree; reads = λ n s w. begun refl (p.reads n s w) }

  pub possible_then : {B : Type 0} {S : Family B} → Possible k S → Possible k (λ L. Then (R L) (S L))
  possible_then q = record { text = λ w. p.text (q.text w); tree = (p.tree, q.tree); reads = λ n s w. followed (p.reads n s (q.text w)) (q.reads n s w) }

  pub possible_chain : {sep : A → Lexeme → Bool} {Q : A → Lexeme → Family A} → Possible k (λ L. Chain sep (R L) (λ a x. Q a x L))
  possible_chain = record { text = p.text; tree = p.tree; reads = λ n s w. alone (p.reads n s w) }

-- ---- what has begun

-- Where i is refused by n at r: its tokens before r can be gone on with by some s so that R reads them, whatever w is to follow.
pub record Begun (k : ℕ) {A : Type 0} (R : Family A) (i : List Lexeme) (n : ℕ) (r : List Lexeme) : Type 0 where
  pub at : (w : List Lexeme) → (s : List Lexeme) × (j : List Lexeme) × (a : A) × Swap r s i j × Kept k n r s × R (beyond k n s) j w a

-- a number of no limit
pub few : {k n : ℕ} {r s : List Lexeme} → n < 11 → Kept k n r s
few l = λ h e. absurd (omega arith)

pub beyond_few : {m n : ℕ} {s w : List Lexeme} → n < 11 → length w < length s → Exempt n s m w
beyond_few l h = record { behind = h; first = λ d e. absurd (omega arith) }

module _ {k n : ℕ} where
  pub begun_weaker : {A : Type 0} {R R' : Family A} {i r : List Lexeme} → Begun k R i n r
      → ((s j w : List Lexeme) (a : A) → R (beyond k n s) j w a → R' (beyond k n s) j w a) → Begun k R' i n r
  begun_weaker h f = record { at = λ w. let q = h.at w in (q.0, q.1, q.2, q.3, q.4, f q.0 q.1 w q.2 q.5) }

  -- behind the tokens ts
  pub begun_first : {B : Type 0} {R' : Family B} (ts : List Lexeme) {i : List Lexeme}
      → ((w : List Lexeme) → (j : List Lexeme) × (b : B) × Kept k n i j × R' (beyond k n j) (ts ++ j) w b) → Begun k R' (ts ++ i) n i
  begun_first ts f = record { at = λ w. let c = f w in (c.0, ts ++ c.0, c.1, swap_behind ts here, c.2, c.3) }

  pub begun_start : {A : Type 0} {R : Family A} {i : List Lexeme} → Possible k R → n < 11 → Begun k R i n i
  begun_start p l = begun_first [] (λ w. (p.text w, p.tree, few l, p.reads n (p.text w) w))

  -- behind the tokens ts, in what R reads; `u w` goes on behind that
  pub begun_more : {A B : Type 0} {R : Family A} {R' : Family B} (ts : List Lexeme) (u : List Lexeme → List Lexeme) {i r : List Lexeme} → Begun k R i n r
      → ((s j w : List Lexeme) (a : A) → R (beyond k n s) j (u w) a → (b : B) × R' (beyond k n s) (ts ++ j) w b) → Begun k R' (ts ++ i) n r
  begun_more ts u h f = record {
    at = λ w.
        let q = h.at (u w) in let c = f q.0 q.1 w q.2 q.5 in (q.0, ts ++ q.1, c.0, swap_behind ts q.3, q.4, c.1);
  }

  -- behind what R read and the tokens ts; `u w` goes on
  pub begun_next : {A B : Type 0} {R : Family A} {R' : Family B} (ts : List Lexeme) (u : List Lexeme → List Lexeme) {i m : List Lexeme} {a : A} → Framed R → R (taken k) i (ts ++ m) a
      → ((w : List Lexeme) → Kept k n m (u w)) → ((j w : List Lexeme) → R (beyond k n (u w)) j (ts ++ u w) a → (b : B) × R' (beyond k n (u w)) j w b) → Begun k R' i n m
  begun_next ts u f h g c = record {
    at = λ w. let q = f.at (eased k n (u w)) h (swap_behind ts here) in let d = c q.0 w q.2 in (u w, q.0, d.0, q.1, g w, d.1);
  }

  -- behind what R read and the tokens ts, in what R₂ reads
  pub begun_inside : {A B C : Type 0} {R : Family A} {R₂ : Family B} {R' : Family C} (ts : List Lexeme) {i m r : List Lexeme} {a : A}
      → Framed R → R (taken k) i (ts ++ m) a → Begun k R₂ m n r
      → ((s j l w : List Lexeme) (b : B) → R (beyond k n s) j (ts ++ l) a → R₂ (beyond k n s) l w b → (c : C) × R' (beyond k n s) j w c) → Begun k R' i n r
  begun_inside ts f h g c = record {
    at = λ w.
        let q = g.at w in let p = f.at (eased k n q.0) h (swap_behind ts q.3) in let d = c q.0 p.0 q.1 w q.2 p.2 q.5 in
        (q.0, p.0, d.0, p.1, q.4, d.1);
  }

  pub begun_left : {A B : Type 0} {R : Family A} {S : Family B} {i r : List Lexeme} → Possible k S → Begun k R i n r → Begun k (λ L. Then (R L) (S L)) i n r
  begun_left p b = begun_more [] p.text b (λ s j w a h. (_, followed h (p.reads n s w)))

  pub begun_right : {A B : Type 0} {R : Family A} {S : Family B} {i m r : List Lexeme} {a : A} → Framed R → R (taken k) i m a → Begun k S m n r → Begun k (λ L. Then (R L) (S L)) i n r
  begun_right f h b = begun_inside [] f h b (λ s j l w b h' k. (_, followed h' k))

-- ---- readers

-- What p takes R reads, and what stands before what it refuses begins something that R reads.
pub record Viable (k : ℕ) {A : Type 0} (p : Reader A) (R : Family A) : Type 0 where
  pub at : (i : List Lexeme) → Goes (λ a r. R (taken k) i r a) (Begun k R i) (p i)

module _ {k : ℕ} {A : Type 0} {p : Reader A} {R : Family A} (v : Viable k p R) where
  pub viable_mapped : {B : Type 0} (f : A → B) → Viable k (mapped f p) (λ L. Onto f (R L))
  unfolding mapped
  viable_mapped f = record { at = λ i. goes_bind _ (v.at i) (λ n r b. begun_more [] (λ w. w) b (λ s j w a h. (_, onto h))) (λ a r h. good (onto h)) }

  pub viable_before : Framed R → (kind : ℕ) → Viable k (before kind p) (λ L. Before kind (R L))
  unfolding before
  viable_before f kind = record {
    at = λ i.
        goes_bind _ (v.at i) (λ n r b. begun_more [] (λ w. made kind ∷ w) b (λ s j w a h. (_, ended h refl))) (λ a r h.
        goes_need _ _ _ _ r (λ n l. begun_next [] (λ w. made kind ∷ w) f h (λ w. few l) (λ j w h'. (_, ended h' refl))) (λ x m e t. good (ended (rw e at h) t)));
  }

  pub viable_after : Possible k R → (kind : ℕ) → Viable k (need kind p) (λ L. After kind (R L))
  viable_after q kind = record {
    at = λ i.
        goes_need _ _ _ _ i (λ n l. begun_start (possible_after q kind) l) (λ x m e t. rw e
        (goes_weaker (v.at m) (λ a r h. begun t h) (λ n r b. begun_more (x ∷ []) (λ w. w) b (λ s j w a h. (_, begun t h)))));
  }

-- a loop, of which a was read
pub viable_onwards : {k : ℕ} {A : Type 0} (sep Sep : A → Lexeme → Bool) (q : A → Lexeme → Reader A) {R : Family A} {Q : A → Lexeme → Family A}
    → Framed R → ((a : A) (x : Lexeme) → Framed (Q a x)) → ((a : A) (x : Lexeme) → sep a x ≡ true → (Sep a x ≡ true) × Viable k (q a x) (Q a x))
    → {i : List Lexeme} (a : A) (m : List Lexeme) → Chain Sep (R (taken k)) (λ a x. Q a x (taken k)) i m a
    → Goes (λ b r. Chain Sep (R (taken k)) (λ a x. Q a x (taken k)) i r b) (Begun k (λ L. Chain Sep (R L) (λ a x. Q a x L)) i) (onwards sep q a m)
viable_onwards sep Sep q f g v a m h = goes_onwards _ _ sep q (λ a x m h t. goes_weaker ((v a x t).1.at m) (λ b r k. more h (v a x t).0 k)
    (λ n r b. begun_inside (x ∷ []) (framed_chain f g) h b (λ s j n w c h' k. (_, more h' (v a x t).0 k)))) a m h

pub viable_chain : {k : ℕ} {A : Type 0} (sep : A → Lexeme → Bool) (p : Reader A) (q : A → Lexeme → Reader A) {R : Family A} {Q : A → Lexeme → Family A}
    → Framed R → ((a : A) (x : Lexeme) → Framed (Q a x)) → Viable k p R → ((a : A) (x : Lexeme) → Viable k (q a x) (Q a x))
    → Viable k (chain sep p q) (λ L. Chain sep (R L) (λ a x. Q a x L))
unfolding chain
viable_chain sep p q f g u v = record {
  at = λ i.
      goes_bind _ (u.at i) (λ n r b. begun_weaker b (λ s j w a h. alone h)) (λ a r h. viable_onwards sep sep q f g (λ a x t. (t, v a x)) a r (alone h));
}
