-- A reserved word that stands at a place of a text is the word there. Assumes nothing.
use mathlib.Core.Path.{◌≡◌, refl, sym, ◌∙◌, ap}
use mathlib.Core.Bool.{Bool, true, false, cond, not, ◌&&◌}
use mathlib.Core.List.{List, [], ◌∷◌, ◌++◌}
use mathlib.Core.Logic.{◌⊎◌, inl, inr, ⊎_elim, ◌≢◌}
use Prim.Native.Nat.{ℕ, suc, ◌+◌, ◌-◌, ◌≤◌, ◌<◌}
use native.Mathlib.Omega.{arith}
use lib.Dec.{eqb, leb, ltb}
use lib.ListN.{length, get_or, take, drop, length-append, length-take}
use borrow.Author.Tests.{ne_eqb, leb-true, le-leb, ltb-true, ltb-false}
use Rattle.std.specs.Prelude.{Option, Some, None}
use Rattle.slices.specs.Same.{same}
use Rattle.slices.specs.Standing.{stands_at}
use Rattle.slices.proofs.Equal.{same_decides}
use Rattle.slices.proofs.PieceLaws.{and_assoc, stand_parts}
use Rattle.slices.proofs.Rest.{rest_at}
use Rattle.tokens.specs.Bytes.{class_of}
use Rattle.tokens.specs.Kinds.{name, permit_word}
use Rattle.tokens.specs.Runs.{word_byte, run, run_end}
use Rattle.tokens.specs.Tokens.{token, sized, word_token}
use Rattle.tokens.specs.Words.{reserved, kind_among, word_kind}
use Rattle.tokens.specs.declared.classes.Sort.TheVariants.{WordBytes}
use Rattle.tokens.specs.declared.reader.Token.{Token}
use Rattle.tokens.proofs.RunLaws.{short, stops, ends}
use Rattle.tokens.proofs.TokenLaws.{never, and_left, and_right, every, inside}
use Rattle.words.specs.Standing.{ends_in, reserved_among, reserved_at}

-- words whose first bytes differ are not the same
pub first_apart : (s w : List ℕ) → 0 < length s → 0 < length w → (get_or s 0 0 ≡ get_or w 0 0 → ⊥) → eqb (get_or s 0 0) (get_or w 0 0) ≡ same s w
unfolding same
first_apart [] w hs hw n = absurd (omega arith)
first_apart (x ∷ s) [] hs hw n = absurd (omega arith)
first_apart (x ∷ s) (y ∷ w) hs hw n = rw (ne_eqb x y n) refl

-- ---- bytes that end a word, one part after the other

pub ends_parts : (u w text : List ℕ) (at : ℕ) → ends_in (u ++ w) text at ≡ (stands_at u text at && ends_in w text (at + length u))
unfolding ends_in
ends_parts u w text at =
    let place : at + length (u ++ w) ≡ at + length u + length w = omega (arith, length-append u w) in
    ap (λ (k : ℕ). stands_at (u ++ w) text at && not (word_byte (get_or text k 0))) place
    ∙ (ap (λ (b : Bool). b && not (word_byte (get_or text (at + length u + length w) 0))) (stand_parts u w text at)
    ∙ sym (and_assoc (stands_at u text at) (stands_at w text (at + length u)) (not (word_byte (get_or text (at + length u + length w) 0)))))

-- the same for one byte
and_true : (a : Bool) → (a && true) ≡ a
and_true true = refl
and_true false = refl

pub ends_byte : (x : ℕ) (w text : List ℕ) (at : ℕ) → ends_in (x ∷ w) text at ≡ (eqb (get_or text at 0) x && ends_in w text (at + 1))
unfolding stands_at
ends_byte x w text at = ends_parts (x ∷ []) w text at ∙ ap (λ (b : Bool). b && ends_in w text (at + 1)) (and_true (eqb (get_or text at 0) x))

-- ---- the word at a place

-- the longest run of word bytes from a place on
unfoldable pub word_at : List ℕ → ℕ → List ℕ
word_at text at = take (run WordBytes (drop at text)) (drop at text)

module _ (text : List ℕ) (at : ℕ) where
  word_length : length (word_at text at) ≡ run WordBytes (drop at text)
  unfolding word_at
  word_length = length-take (run WordBytes (drop at text)) (drop at text) ∙ omega (arith, short WordBytes (drop at text))

  no_word : word_byte (get_or text at 0) ≡ false → word_at text at ≡ []
  unfolding word_at
  no_word e = ap (λ (n : ℕ). take n (drop at text)) (go (ltb at (length text)) refl)
    where
      go : (t : Bool) → ltb at (length text) ≡ t → run WordBytes (drop at text) ≡ 0
      go true h = omega (arith, stops WordBytes text at (ltb-true at (length text) h) e)
      go false h = omega (arith, ends WordBytes text at (ltb-false at (length text) h))

  some_word : word_byte (get_or text at 0) ≡ true → word_at text at ≡ get_or text at 0 ∷ word_at text (at + 1)
  unfolding word_at run class_of
  some_word e = rw (rest_at text at (inside word_byte text at never e)) (simp e)

pub no_bytes : (text : List ℕ) (at : ℕ) → ends_in [] text at ≡ not (word_byte (get_or text at 0))
unfolding ends_in stands_at
no_bytes text at = ap (λ (k : ℕ). not (word_byte (get_or text k 0))) (omega arith)

-- bytes of words that stand at a place, with no word byte behind them, are the word there
pub ends_same : (w : List ℕ) → every word_byte w ≡ true → (text : List ℕ) (at : ℕ) → ends_in w text at ≡ same (word_at text at) w
unfolding every same
ends_same [] v text at = no_bytes text at ∙ go (word_byte (get_or text at 0)) refl
  where
    go : (t : Bool) → word_byte (get_or text at 0) ≡ t → not (word_byte (get_or text at 0)) ≡ same (word_at text at) []
    go true e = ap not e ∙ sym (ap (λ (l : List ℕ). same l []) (some_word text at e))
    go false e = ap not e ∙ sym (ap (λ (l : List ℕ). same l []) (no_word text at e))
ends_same (x ∷ w) v text at = ends_byte x w text at ∙ go (word_byte (get_or text at 0)) refl (ends_same w (and_right (word_byte x) (every word_byte w) v) text (at + 1))
  where
    go : (t : Bool) → word_byte (get_or text at 0) ≡ t → ends_in w text (at + 1) ≡ same (word_at text (at + 1)) w
        → (eqb (get_or text at 0) x && ends_in w text (at + 1)) ≡ same (word_at text at) (x ∷ w)
    go true e h = ap (λ (r : Bool). eqb (get_or text at 0) x && r) h ∙ sym (ap (λ (l : List ℕ). same l (x ∷ w)) (some_word text at e))
    go false e h =
        let other : eqb (get_or text at 0) x ≡ false = ne_eqb (get_or text at 0) x (λ q. never (sym e ∙ (ap word_byte q ∙ and_left (word_byte x) (every word_byte w) v))) in
        ap (λ (r : Bool). r && ends_in w text (at + 1)) other ∙ sym (ap (λ (l : List ℕ). same l (x ∷ w)) (no_word text at e))

-- ---- the first of some words that stands at a place

-- every byte of a word is a word byte, and it is no longer than a word may be
unfoldable plain : List ℕ → Bool
plain w = every word_byte w && leb (length w) 64

-- what the answer r, of which reserved word stands at a place of a text, says of the kind k of the word there: there is none and this is a name, or it is the word there
abbrev Found : List ℕ → ℕ → Option Token → ℕ → Type 0
Found text at r k =
    ((r ≡ None) × (k ≡ name)) ⊎ ((r ≡ Some (token k at (run_end WordBytes text at))) × (run WordBytes (drop at text) ≤ 64) × (name < k))

module _ (text : List ℕ) (at : ℕ) where
  found_among : (words : List (List ℕ)) → every plain words ≡ true → (first : ℕ) → name < first
      → Found text at (reserved_among words first text at) (kind_among words first (word_at text at))
  unfolding every plain reserved_among kind_among
  found_among [] v first h = inl (refl, refl)
  found_among (w ∷ more) v first h =
      rw (ends_same w (and_left _ _ (and_left (plain w) (every plain more) v)) text at)
      (go (same (word_at text at) w) refl (found_among more (and_right (plain w) (every plain more) v) (suc first) (omega arith)))
    where
      go : (t : Bool) → same (word_at text at) w ≡ t → Found text at (reserved_among more (suc first) text at) (kind_among more (suc first) (word_at text at))
          → Found text at (cond t (Some (token first at (at + length w))) (reserved_among more (suc first) text at)) (cond t first (kind_among more (suc first) (word_at text at)))
      go true e f =
          let is : length (word_at text at) ≡ length w = ap length ((same_decides (word_at text at) w).sound e) in
          let size : length w ≡ run WordBytes (drop at text) = sym is ∙ word_length text at in
          let small = leb-true (length w) 64 (and_right (every word_byte w) _ (and_left (plain w) (every plain more) v)) in
          inr (ap (λ (n : ℕ). Some (token first at (at + n))) size, omega arith, h)
      go false e f = f

-- all reserved words are such
module _ (text : List ℕ) (at : ℕ) where
  found : Found text at (reserved_at text at) (word_kind (word_at text at))
  unfolding every plain reserved class_of
  found = found_among text at reserved refl permit_word (omega arith)

  -- the word from a place up to its end
  word_here : take (run_end WordBytes text at - at) (drop at text) ≡ word_at text at
  unfolding word_at
  word_here =
      let size : run_end WordBytes text at - at ≡ run WordBytes (drop at text) = omega arith in
      ap (λ (n : ℕ). take n (drop at text)) size

  -- a reserved word that is found is the token there
  pub found_word : {t : Token} → reserved_at text at ≡ Some t → t ≡ word_token text at
  unfolding word_token sized
  found_word {t} e =
      ⊎_elim
      (λ (h : (reserved_at text at ≡ None) × (word_kind (word_at text at) ≡ name)). let never : ◌≡◌ {A = Option Token} None (Some t) = sym h.0 ∙ e in absurd (cc))
      (λ (h : (reserved_at text at ≡ Some (token (word_kind (word_at text at)) at (run_end WordBytes text at))) × (run WordBytes (drop at text) ≤ 64) × (name < word_kind (word_at text at))).
      let same : Some t ≡ Some (token (word_kind (word_at text at)) at (run_end WordBytes text at)) = sym e ∙ h.0 in
      let here : t ≡ token (word_kind (word_at text at)) at (run_end WordBytes text at) = cc in
      rw (word_here, le-leb (run_end WordBytes text at - at) 64 (omega (arith, h.1))) here)
      found

  -- where none is found, the word is a name
  pub name_word : reserved_at text at ≡ None → word_kind (take (run_end WordBytes text at - at) (drop at text)) ≡ name
  name_word e =
      ap word_kind word_here
      ∙ ⊎_elim
      (λ (h : (reserved_at text at ≡ None) × (word_kind (word_at text at) ≡ name)). h.1)
      (λ (h : (reserved_at text at ≡ Some (token (word_kind (word_at text at)) at (run_end WordBytes text at))) × (run WordBytes (drop at text) ≤ 64) × (name < word_kind (word_at text at))).
      let never : ◌≡◌ {A = Option Token} None (Some (token (word_kind (word_at text at)) at (run_end WordBytes text at))) = sym e ∙ h.0 in absurd (cc))
      found

-- ---- the words that begin with a byte

-- `reserved_among` where a byte is known to stand at the place: only the words that begin with it are looked at
unfoldable pub from_among : ℕ → List (List ℕ) → ℕ → List ℕ → ℕ → Option Token
from_among b [] first text at = None
from_among b ([] ∷ more) first text at = cond (ends_in [] text at) (Some (token first at (at + 0))) (from_among b more (suc first) text at)
from_among b ((x ∷ w) ∷ more) first text at =
    cond (eqb b x && ends_in w text (at + 1)) (Some (token first at (at + suc (length w)))) (from_among b more (suc first) text at)

by_byte : (text : List ℕ) (at : ℕ) (words : List (List ℕ)) (first : ℕ) → reserved_among words first text at ≡ from_among (get_or text at 0) words first text at
unfolding reserved_among from_among
by_byte text at [] first = refl
by_byte text at ([] ∷ more) first = ap (λ (t : Option Token). cond (ends_in [] text at) (Some (token first at (at + 0))) t) (by_byte text at more (suc first))
by_byte text at ((x ∷ w) ∷ more) first =
    ap (λ (b : Bool). cond b (Some (token first at (at + suc (length w)))) (reserved_among more (suc first) text at)) (ends_byte x w text at)
    ∙ ap (λ (t : Option Token). cond (eqb (get_or text at 0) x && ends_in w text (at + 1)) (Some (token first at (at + suc (length w)))) t) (by_byte text at more (suc first))

module _ (text : List ℕ) (at : ℕ) where
  pub from_byte : (b : ℕ) → get_or text at 0 ≡ b → reserved_at text at ≡ from_among b reserved permit_word text at
  from_byte b e = by_byte text at reserved permit_word ∙ ap (λ (x : ℕ). from_among x reserved permit_word text at) e

  -- no reserved word begins with any other byte
  pub from_none : (b : ℕ) → (b ≢ 97) → (b ≢ 99) → (b ≢ 101) → (b ≢ 102) → (b ≢ 104) → (b ≢ 105) → (b ≢ 108) → (b ≢ 112) → (b ≢ 114) → (b ≢ 116) → (b ≢ 119)
      → from_among b reserved permit_word text at ≡ None
  unfolding from_among reserved
  from_none b na nc ne nf nh ni nl np nr nt nw =
      simp (
        ne_eqb b 97 na,
        ne_eqb b 99 nc,
        ne_eqb b 101 ne,
        ne_eqb b 102 nf,
        ne_eqb b 104 nh,
        ne_eqb b 105 ni,
        ne_eqb b 108 nl,
        ne_eqb b 112 np,
        ne_eqb b 114 nr,
        ne_eqb b 116 nt,
        ne_eqb b 119 nw,
      )

-- a choice among words whose test has been answered
pub here : {p : Bool} {t : Option Token} (rest : Option Token) → true ≡ p → cond p t rest ≡ t
here {p} {t} rest e = ap (λ (b : Bool). cond b t rest) (sym e)

pub not_here : {p : Bool} {rest last : Option Token} (t : Option Token) → false ≡ p → rest ≡ last → cond p t rest ≡ last
not_here {p} {rest} t e l = ap (λ (b : Bool). cond b t rest) (sym e) ∙ l

-- where no reserved word is found, the word up to its end is a name
pub name_token : (text : List ℕ) (at end : ℕ) → reserved_at text at ≡ None → end ≡ run_end WordBytes text at → sized name 64 (end - at) at end ≡ word_token text at
unfolding word_token
name_token text at end n e = rw (e, name_word text at n)
