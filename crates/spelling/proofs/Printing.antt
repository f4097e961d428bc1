-- Tokens one behind the other, what a text has from a place on, and what is printed alone, before or behind a token, and with another. Assumes nothing.
use mathlib.Core.Path.{◌≡◌, refl, ap, ◌∙◌, sym, subst}
use mathlib.Core.List.{List, [], ◌∷◌, ◌++◌, append_assoc}
use Prim.Native.Nat.{ℕ, ◌+◌}
use native.Mathlib.Omega.{arith}
use lib.ListN.{length, drop, length-append}
use lib.Seq.{drop-append_seam, drop-drop}
use Rattle.reading.specs.Lexemes.{Lexeme}
use Rattle.reading.specs.Reads.{Reading, Before, Before.ended, After, After.begun}
use Rattle.spelling.specs.Layout.{WrittenToken, laid_out, lexeme_of, standing, WellWritten, none, one}
use Rattle.spelling.specs.Printing.{HasAt, OfKind, PrintsAt, Prints}

-- ---- tokens one behind the other

-- the text of them
pub laid_append : (xs ys : List WrittenToken) → laid_out (xs ++ ys) ≡ laid_out xs ++ laid_out ys
unfolding laid_out
laid_append [] ys = refl
laid_append (x ∷ xs) ys = rw (laid_append xs ys) (simp append_assoc)

-- the place behind some tokens
abbrev pub past : ℕ → List WrittenToken → ℕ
past at xs = at + length (laid_out xs)

-- they as they are read
pub standing_append : (at : ℕ) (xs ys : List WrittenToken) → standing at (xs ++ ys) ≡ standing at xs ++ standing (past at xs) ys
unfolding standing laid_out
standing_append at [] ys = let e : at ≡ at + 0 = omega arith in ap (λ (n : ℕ). standing n ys) e
standing_append at (x ∷ xs) ys =
    let here = at + length x.blanks + length x.bytes in
    let e : here + length (laid_out xs) ≡ at + length (x.blanks ++ (x.bytes ++ laid_out xs)) =
    omega (arith, length-append x.blanks (x.bytes ++ laid_out xs), length-append x.bytes (laid_out xs)) in
    ap (λ (l : List Lexeme). lexeme_of at x ∷ l) (standing_append here xs ys ∙ ap (λ (n : ℕ). standing here xs ++ standing n ys) e)

-- with tokens r behind them
pub standing_then : (at : ℕ) (xs ys : List WrittenToken) (r : List Lexeme) → standing at (xs ++ ys) ++ r ≡ standing at xs ++ (standing (past at xs) ys ++ r)
standing_then at xs ys r = ap (λ (l : List Lexeme). l ++ r) (standing_append at xs ys) ∙ append_assoc (standing at xs) (standing (past at xs) ys) r

well_append_to : {xs ys : List WrittenToken} {q p : List ℕ} → WellWritten xs p → p ≡ laid_out ys ++ q → WellWritten ys q → WellWritten (xs ++ ys) q
well_append_to none g w = w
well_append_to {ys = ys} {q = q} (one {xs = xs} a f n v) g w =
    let e : laid_out (xs ++ ys) ++ q ≡ laid_out xs ++ (laid_out ys ++ q) =
    ap (λ (l : List ℕ). l ++ q) (laid_append xs ys) ∙ append_assoc (laid_out xs) (laid_out ys) q in
    one {xs = xs ++ ys} {q = q} a f (rw (e, ← g) n) (well_append_to v g w)

-- they may be written so, where the first may before the others
pub well_append : {xs ys : List WrittenToken} {q : List ℕ} → WellWritten xs (laid_out ys ++ q) → WellWritten ys q → WellWritten (xs ++ ys) q
well_append u w = well_append_to u refl w

-- ---- what a text has from a place on

module _ {text : List ℕ} {at : ℕ} where
  -- two parts of it
  has_left : (a b : List ℕ) → HasAt text at (a ++ b) → HasAt text at a
  has_left a b h = record { rest = b ++ h.rest; is = h.is ∙ append_assoc a b h.rest }

  pub has_right : (a b : List ℕ) → HasAt text at (a ++ b) → HasAt text (at + length a) b
  has_right a b h = record {
    rest = h.rest;
    is = sym (drop-drop (length a) at text) ∙ (ap (drop (length a)) (h.is ∙ append_assoc a b h.rest) ∙ drop-append_seam a (b ++ h.rest));
  }

  -- of tokens one behind the other
  pub has_first : (xs ys : List WrittenToken) → HasAt text at (laid_out (xs ++ ys)) → HasAt text at (laid_out xs)
  has_first xs ys h = has_left (laid_out xs) (laid_out ys) (subst (HasAt text at) (laid_append xs ys) h)

  pub has_then : (xs ys : List WrittenToken) → HasAt text at (laid_out (xs ++ ys)) → HasAt text (past at xs) (laid_out ys)
  has_then xs ys h = has_right (laid_out xs) (laid_out ys) (subst (HasAt text at) (laid_append xs ys) h)

module _ {text : List ℕ} {at : ℕ} (x : WrittenToken) (xs : List WrittenToken) (h : HasAt text at (laid_out (x ∷ xs))) where
  -- a token's bytes, and what is behind it
  pub has_token : HasAt text (at + length x.blanks) x.bytes
  unfolding laid_out
  has_token = has_left x.bytes (laid_out xs) (has_right x.blanks (x.bytes ++ laid_out xs) h)

  pub has_behind : HasAt text (at + length x.blanks + length x.bytes) (laid_out xs)
  unfolding laid_out
  has_behind = has_right x.bytes (laid_out xs) (has_right x.blanks (x.bytes ++ laid_out xs) h)

-- ---- what is printed, alone, before or behind a token, and with another

-- what stands behind a token in the middle
module _ (xs : List WrittenToken) (x : WrittenToken) (ys : List WrittenToken) where
  -- the place behind it, and the tokens
  abbrev pub past_token : ℕ → ℕ
  past_token at = past at xs + length x.blanks + length x.bytes

  pub tokens_around : (at : ℕ) (r : List Lexeme)
      → standing at (xs ++ (x ∷ ys)) ++ r ≡ standing at xs ++ (lexeme_of (past at xs) x ∷ (standing (past_token at) ys ++ r))
  unfolding standing
  tokens_around at r = standing_then at xs (x ∷ ys) r

  pub has_last : {t : List ℕ} {at : ℕ} → HasAt t at (laid_out (xs ++ (x ∷ ys))) → HasAt t (past_token at) (laid_out ys)
  has_last h = has_behind x ys (has_then xs (x ∷ ys) h)

module _ {A B C D : Type 0} {R : Reading A} {S : Reading C} {words : List ℕ → A → B} {words_in : List ℕ → C → D} (f : A → C) (g : B → D)
    (said : (t : List ℕ) (a : A) → words_in t (f a) ≡ g (words t a)) {xs : List WrittenToken} {w : B} (p : Prints R words xs w) where
  -- what R reads is read by S as f of it
  pub prints_onto : ((i r : List Lexeme) (a : A) → R i r a → S i r (f a)) → Prints S words_in xs (g w)
  prints_onto h = record { anywhere = go }
    where
      go : (at : ℕ) (r : List Lexeme) → PrintsAt S words_in xs (g w) at r
      go at r =
          let here = p.anywhere at r in
          record { what = f here.what; reads = h _ r _ here.reads; says = λ t b. said t here.what ∙ ap g (here.says t b) }

  -- the same behind a token of the kind k
  pub prints_led : {k : ℕ} {x : WrittenToken} → OfKind k x → ((y : Lexeme) (i r : List Lexeme) (a : A) → y.kind ≡ k → R i r a → S (y ∷ i) r (f a))
      → Prints S words_in (x ∷ xs) (g w)
  unfolding standing
  prints_led {k} {x} e h = record { anywhere = go }
    where
      go : (at : ℕ) (r : List Lexeme) → PrintsAt S words_in (x ∷ xs) (g w) at r
      go at r =
          let here = p.anywhere (at + length x.blanks + length x.bytes) r in
          record {
            what = f here.what;
            reads = h (lexeme_of at x) _ r _ e.read_as here.reads;
            says = λ t b. said t here.what ∙ ap g (here.says t (has_behind x xs b));
          }

-- two of them with a token of the kind k between
pub prints_around : {A B C D E F : Type 0} {R : Reading A} {S : Reading C} {T : Reading E} {words₁ : List ℕ → A → B} {words₂ : List ℕ → C → D}
    {words : List ℕ → E → F} (f : A → C → E) (g : B → D → F) → ((t : List ℕ) (a : A) (c : C) → words t (f a c) ≡ g (words₁ t a) (words₂ t c))
    → {xs ys : List WrittenToken} {x : WrittenToken} {v : B} {w : D} {k : ℕ} → Prints R words₁ xs v → OfKind k x → Prints S words₂ ys w
    → ((y : Lexeme) (i m r : List Lexeme) (a : A) (c : C) → y.kind ≡ k → R i (y ∷ m) a → S m r c → T i r (f a c))
    → Prints T words (xs ++ (x ∷ ys)) (g v w)
prints_around {T = T} {words = words} f g said {xs} {ys} {x} {v} {w} p e q h = record { anywhere = go }
  where
    go : (at : ℕ) (r : List Lexeme) → PrintsAt T words (xs ++ (x ∷ ys)) (g v w) at r
    go at r =
        let sign = lexeme_of (past at xs) x in
        let right = q.anywhere (past_token xs x ys at) r in
        let left = p.anywhere at (sign ∷ (standing (past_token xs x ys at) ys ++ r)) in
        record {
          what = f left.what right.what;
          reads = rw (tokens_around xs x ys at r) (h sign _ _ r _ _ e.read_as left.reads right.reads);
          says = λ t b.
              said t left.what right.what ∙ rw (left.says t (has_first xs (x ∷ ys) b), right.says t (has_last xs x ys b));
        }

module _ {A B : Type 0} {R : Reading A} {words : List ℕ → A → B} {xs : List WrittenToken} {w : B} (p : Prints R words xs w) where
  -- a token of the kind k behind it, or before it
  pub prints_before : {k : ℕ} {x : WrittenToken} → OfKind k x → Prints (Before k R) words (xs ++ x ∷ []) w
  unfolding standing
  prints_before {k} {x} e = record { anywhere = go }
    where
      go : (at : ℕ) (r : List Lexeme) → PrintsAt (Before k R) words (xs ++ x ∷ []) w at r
      go at r =
          let here = p.anywhere at (lexeme_of (past at xs) x ∷ r) in
          record {
            what = here.what;
            reads = rw (standing_then at xs (x ∷ []) r) (ended here.reads e.read_as);
            says = λ t h. here.says t (has_first xs (x ∷ []) h);
          }

  pub prints_after : {k : ℕ} {x : WrittenToken} → OfKind k x → Prints (After k R) words (x ∷ xs) w
  prints_after e = prints_led (λ a. a) (λ b. b) (λ t a. refl) p e (λ y i r a. begun)

  -- what R reads is what S does
  pub prints_as : {S : Reading A} → ((i r : List Lexeme) (a : A) → R i r a → S i r a) → Prints S words xs w
  prints_as h = prints_onto (λ a. a) (λ b. b) (λ t a. refl) p h

-- what R reads, and then what S does
pub record Twice {A B : Type 0} (R : Reading A) (S : Reading B) (i r : List Lexeme) (p : A × B) : Type 0 where
  pub between : List Lexeme
  pub first : R i between p.0
  pub second : S between r p.1

-- the words of both
abbrev pub twice_words : {A B C D : Type 0} → (List ℕ → A → B) → (List ℕ → C → D) → List ℕ → A × C → B × D
twice_words words₁ words₂ t p = (words₁ t p.0, words₂ t p.1)

-- one behind the other
pub prints_then : {A B C D : Type 0} {R : Reading A} {S : Reading C} {words₁ : List ℕ → A → B} {words₂ : List ℕ → C → D} {xs ys : List WrittenToken} {v : B} {w : D}
    → Prints R words₁ xs v → Prints S words₂ ys w → Prints (Twice R S) (twice_words words₁ words₂) (xs ++ ys) (v, w)
prints_then {R = R} {S = S} {words₁ = words₁} {words₂ = words₂} {xs = xs} {ys = ys} {v = v} {w = w} p q = record { anywhere = go }
  where
    go : (at : ℕ) (r : List Lexeme) → PrintsAt (Twice R S) (twice_words words₁ words₂) (xs ++ ys) (v, w) at r
    go at r =
        let right = q.anywhere (past at xs) r in
        let left = p.anywhere at (standing (past at xs) ys ++ r) in
        record {
          what = (left.what, right.what);
          reads = rw (standing_then at xs ys r) (record { between = standing (past at xs) ys ++ r; first = left.reads; second = right.reads });
          says = λ t b. rw (left.says t (has_first xs ys b), right.says t (has_then xs ys b));
        }
