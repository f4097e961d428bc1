-- The bytes of a path without blanks are its names, joined by dots. Assumes nothing.
use mathlib.Core.Path.{◌≡◌, refl, sym, ap, ◌∙◌}
use mathlib.Core.Bool.{Bool, true, false, cond}
use mathlib.Core.List.{List, [], ◌∷◌, ◌++◌}
use Prim.Native.Nat.{ℕ, ◌+◌, ◌-◌, ◌≤◌, ◌<◌}
use Prim.Native.Char.{code}
use native.Mathlib.Omega.{arith}
use lib.Dec.{eqb}
use lib.ListN.{length, length-append}
use lib.Seq.{take-add, drop-drop}
use borrow.Author.Tests.{eqb-true, leb-true}
use Rattle.slices.specs.Ascii.{bytes}
use Rattle.slices.proofs.Equal.{same_decides}
use Rattle.tokens.specs.Bytes.{class_of, letter, digit}
use Rattle.tokens.specs.Kinds as kinds
use Rattle.tokens.specs.Runs.{is_of}
use Rattle.tokens.specs.Forms.{All, empty, next}
use Rattle.tokens.specs.declared.classes.Sort.TheVariants.{Blanks, Letters, WordBytes}
use Rattle.tokens.proofs.TokenLaws.{and_left, and_right}
use Rattle.reading.specs.Lexemes.{Lexeme, size}
use Rattle.reading.specs.Reads.{Chain.alone, Chain.more}
use Rattle.grammar.specs.Policies.{span, Root, Root.Principal, Root.Resource, Root.Env, Root.Action}
use Rattle.grammar.specs.Rules.{span_of, admitted}
use Rattle.grammar.specs.Grammar.{sizes, Path, first_path, longer_path, spanned, first, NextName, APath}
use Rattle.grammar.specs.Grammar as grammar
use Rattle.tokens.specs.Blanks.{unblanked}
use Rattle.placing.specs.Placed.{unblanked_at, IsName, a_name, one_name, one_more, PathPlaced}
use Rattle.placing.proofs.Standing.{between, length_between, name_form, dot_form, Lexed, Running, token}

-- ---- without blanks

blankless : (b : ℕ) (l : List ℕ) → is_of Blanks b ≡ false → unblanked (b ∷ l) ≡ b ∷ unblanked l
unfolding unblanked
blankless b l e = rw e

pub unblanked_append : (a b : List ℕ) → unblanked (a ++ b) ≡ unblanked a ++ unblanked b
unfolding unblanked
unblanked_append [] b = refl
unblanked_append (c ∷ a) b = go (is_of Blanks c) (unblanked_append a b)
  where
    go : (t : Bool) → unblanked (a ++ b) ≡ unblanked a ++ unblanked b
        → cond t (unblanked (a ++ b)) (c ∷ unblanked (a ++ b)) ≡ cond t (unblanked a) (c ∷ unblanked a) ++ unblanked b
    go true e = e
    go false e = rw e

pub unblanked_blanks : {l : List ℕ} → All Blanks l → unblanked l ≡ []
unfolding unblanked
unblanked_blanks empty = refl
unblanked_blanks (next e a) = rw e (unblanked_blanks a)

letter_no_blank : (b : ℕ) → is_of Letters b ≡ true → is_of Blanks b ≡ false
letter_no_blank b e = rw (eqb-true (class_of b) letter e)

word_no_blank : (b : ℕ) → is_of WordBytes b ≡ true → is_of Blanks b ≡ false
unfolding class_of
word_no_blank b e = go (eqb (class_of b) letter) (eqb (class_of b) digit) (eqb b (code "_")) refl refl refl
  where
    go : (l d u : Bool) → eqb (class_of b) letter ≡ l → eqb (class_of b) digit ≡ d → eqb b (code "_") ≡ u → is_of Blanks b ≡ false
    go true d u p q r = letter_no_blank b p
    go false true u p q r = rw (eqb-true (class_of b) digit q)
    go false false true p q r = rw (eqb-true b (code "_") r)
    go false false false p q r = rw (eqb-true b (code "-") (rw (p, q, r) at e))

unblanked_word : {l : List ℕ} → All WordBytes l → unblanked l ≡ l
unblanked_word empty = unfold unblanked in refl
unblanked_word (next {b} {rest} e a) = blankless b rest (word_no_blank b e) ∙ ap (λ (l : List ℕ). b ∷ l) (unblanked_word a)

pub unblanked_name : {l : List ℕ} → IsName l → unblanked l ≡ l
unblanked_name (a_name {b} {rest} e a k) = blankless b rest (letter_no_blank b e) ∙ ap (λ (l : List ℕ). b ∷ l) (unblanked_word a)

pub lone_dot : unblanked (kinds.dot ∷ []) ≡ kinds.dot ∷ []
unfolding unblanked class_of
lone_dot = refl

-- ---- in the text

between_joins : (t : List ℕ) (a b c : ℕ) → a ≤ b → b ≤ c → between t a c ≡ between t a b ++ between t b c
between_joins t a b c h k =
    let e : c - a ≡ (b - a) + (c - b) = omega arith in
    let f : a + (b - a) ≡ b = omega arith in
    rw (e, take-add, drop-drop, f)

-- the blanks before a token go
unblanked_token : {text : List ℕ} {at : ℕ} {x : Lexeme} → Lexed text at x → 6 < x.kind → unblanked (between text at x.end) ≡ unblanked x.bytes
unblanked_token {text} {at} {x} l k =
    let some = l.some in
    rw (between_joins text at x.start x.end l.low (omega arith), unblanked_append, unblanked_blanks (l.gap k), ← l.bytes)

size_is : {text : List ℕ} {at : ℕ} {x : Lexeme} → Lexed text at x → length x.bytes ≡ size x
size_is {text} {at} {x} l = ap length l.bytes ∙ length_between text x.start x.end l.high

-- ---- sizes

admitted_action : (used : ℕ) (x : Lexeme) → admitted Action used x ≡ true → (used ≡ 0) × (x.bytes ≡ bytes "name")
unfolding admitted
admitted_action used x e = (eqb-true used 0 (and_left _ _ e), (same_decides x.bytes (bytes "name")).sound (and_right (eqb used 0) _ e))

admitted_few : (root : Root) (used : ℕ) (x : Lexeme) → admitted root used x ≡ true → length x.bytes ≡ size x → used + size x ≤ 64
unfolding admitted
admitted_few Principal used x e s = leb-true _ _ e
admitted_few Resource used x e s = leb-true _ _ e
admitted_few Env used x e s = leb-true _ _ e
admitted_few Action used x e s = let a = admitted_action used x e in omega (arith, ap length a.1)

-- ---- a path that is read

-- it lies in the text, and its bytes are counted
pub record Walked (text : List ℕ) (root : Root) (p : Path) : Type 0 where
  pub placed : PathPlaced text root (spanned p)
  pub counted : p.used ≡ length (unblanked_at text (spanned p))

module _ {text : List ℕ} {root : Root} where
  first_walked : {at : ℕ} {x : Lexeme} → Lexed text at x → x.kind ≡ kinds.name → admitted root 0 x ≡ true → Walked text root (first_path x)
  first_walked {at} {x} l k a =
      let name = name_form (l.form (omega arith)) k in
      let here : unblanked_at text (span_of x) ≡ x.bytes = rw (← l.bytes) (unblanked_name name) in
      record {
        placed = record {
          lies = record { some = l.some; high = l.high };
          path = rw here (one_name name);
          few = rw here (omega (arith, size_is l, admitted_few root 0 x a (size_is l)));
          action = λ e. here ∙ (admitted_action 0 x (rw e at a)).1;
        };
        counted = sym (ap length here ∙ size_is l);
      }

  next_walked : {p : Path} {d x : Lexeme} → Walked text root p → Lexed text p.end d → d.kind ≡ kinds.dot → Lexed text d.end x → x.kind ≡ kinds.name
      → admitted root (p.used + 1) x ≡ true → Walked text root (longer_path p x)
  next_walked {p} {d} {x} w ld kd l k a =
      let name = name_form (l.form (omega arith)) k in
      let before = w.placed in
      let lies = before.lies in
      let dot : unblanked d.bytes ≡ kinds.dot ∷ [] = rw (dot_form (ld.form (omega arith)) kd) lone_dot in
      let two : unblanked (between text p.end x.end) ≡ kinds.dot ∷ x.bytes =
      rw (
        between_joins text p.end d.end x.end (omega arith) (omega arith),
        unblanked_append,
        unblanked_token ld (omega arith),
        unblanked_token l (omega arith),
        dot,
        unblanked_name name,
      ) in
      let here : unblanked_at text (span p.start x.end) ≡ unblanked_at text (spanned p) ++ kinds.dot ∷ x.bytes =
      rw (between_joins text p.start p.end x.end (omega arith) (omega arith), unblanked_append, two) in
      let size : length (unblanked_at text (span p.start x.end)) ≡ p.used + 1 + size x =
      omega (arith, ap length here, length-append (unblanked_at text (spanned p)) (kinds.dot ∷ x.bytes), size_is l, w.counted) in
      record {
        placed = record {
          lies = record { some = omega arith; high = l.high };
          path = rw here (one_more before.path name);
          few = omega (arith, admitted_few root (p.used + 1) x a (size_is l));
          action = λ e. absurd (omega (arith, (admitted_action (p.used + 1) x (rw e at a)).0));
        };
        counted = sym size;
      }

  step : {p : Path} {d x : Lexeme} {r : List Lexeme} → Walked text root p × Running text p.end (d ∷ x ∷ r) → d.kind ≡ kinds.dot → x.kind ≡ kinds.name
      → admitted root (p.used + 1) x ≡ true → Walked text root (longer_path p x) × Running text x.end r
  step (w, token ld (token l rest)) kd k a = (next_walked w ld kd l k a, rest)

  -- a path that the grammar reads
  pub walked : {i r : List Lexeme} {p : Path} {at : ℕ} → APath sizes root i r p → Running text at i → Walked text root p × Running text p.end r
  walked (alone (first k a)) (token l rest) = (first_walked l k a, rest)
  walked (more {x = d} j t (grammar.NextName.next k a)) f = step (walked j f) (eqb-true d.kind kinds.dot t) k a
