-- The numbers that a refused text can get for a token, 3 to 17, since no token of a text has a kind below 3; and the token's length. Assumes nothing.
use mathlib.Core.Path.{◌≡◌, refl, sym, ap, ◌∙◌}
use mathlib.Core.Logic.{⊎_elim}
use mathlib.Core.Bool.{Bool, true, false}
use mathlib.Core.List.{List, [], ◌∷◌}
use Prim.Native.Nat.{ℕ, zero, suc, ◌+◌, ◌-◌, ◌≤◌, ◌<◌}
use native.Mathlib.Omega.{arith}
use borrow.Author.Tests.{eqb-false, leb-true}
use lib.Dec.{eqb, leb}
use lib.ListN.{length, drop, length-append, length-drop}
use lib.Seq.{length-take-le}
use Rattle.tokens.specs.Kinds as kinds
use Rattle.tokens.specs.Words as words
use Rattle.tokens.specs.Words.{word_kind}
use Rattle.tokens.specs.Tokens.{token_at}
use Rattle.tokens.specs.Forms.{marks, Form, a_word, a_string, a_number, a_mark, Stands, end_of_text, a_token, a_token_too_long, a_colon, bad_byte, unended, bad_inside}
use Rattle.tokens.specs.declared.reader.Token.{Token}
use Rattle.tokens.proofs.TokenLaws.{every}
use Rattle.tokens.proofs.FormLaws.{mark_passes}
use Rattle.tokens.proofs.KindLaws.{kind_among_lem}
use Rattle.tokens.proofs.ReadLaws.{reads}
use Rattle.tokens.proofs.Longest.{longest_token}
use Rattle.reading.specs.Lexemes.{Lexeme, lexeme, size, choose, tokens_after, tokens_up_to, tokens_from, tokens_of}
use Rattle.reading.proofs.Listed.{tokens_are}
use Rattle.grammar.specs.Lowest.{Applies, no_token, reserved, bare, no_type, not_admitted, limit, AppliesAt, token, end}
use Rattle.placing.specs.Placed.{Each, none_left, and_each}
use Rattle.placing.proofs.EachLaws.{each_right}
use Rattle.compiling_promise.specs.Promise.{token_start, first_length, RefusedThere, Lengths}
use Rattle.compiling.specs.declared.Spot.{Spot}

-- ---- the kinds of a text's tokens, and their bytes

form_kind : {kind : ℕ} {l : List ℕ} → Form kind l → 7 ≤ kind
unfolding every marks
form_kind (a_word {b} {rest} h a) =
    ⊎_elim (λ (e : word_kind (b ∷ rest) ≡ kinds.name). omega arith) (λ (h : 201 ≤ word_kind (b ∷ rest)). omega arith) (kind_among_lem words.reserved 201 (b ∷ rest))
form_kind (a_string a) = omega arith
form_kind (a_number n) = omega arith
form_kind (a_mark {kind} m) = leb-true 7 kind (mark_passes (λ kind l. leb 7 kind) m refl)

stands_kind : {start : ℕ} {l : List ℕ} {t : Token} → Stands start l t → (t.kind ≡ 0 → ⊥) → 3 ≤ t.kind
stands_kind end_of_text n = absurd (n refl)
stands_kind (a_token f h) n = let k = form_kind f.form in omega arith
stands_kind (a_token_too_long f h) n = omega arith
stands_kind (a_colon f) n = omega arith
stands_kind (bad_byte f c q) n = omega arith
stands_kind (unended f a) n = omega arith
stands_kind (bad_inside l f a o) n = omega arith

-- 3 and 4 are single bytes
stands_single : {start : ℕ} {l : List ℕ} {t : Token} → Stands start l t → (t.kind ≡ 0 → ⊥) → t.kind ≤ 4 → t.end - t.start ≡ 1
stands_single end_of_text n h = absurd (n refl)
stands_single (a_token f m) n h = absurd (let k = form_kind f.form in omega arith)
stands_single (a_token_too_long f m) n h = absurd (omega arith)
stands_single (a_colon f) n h = omega arith
stands_single (bad_byte f c q) n h = omega arith
stands_single (unended f a) n h = absurd (omega arith)
stands_single (bad_inside l f a o) n h = omega arith

-- 5 goes to the end
stands_last : {start : ℕ} {l : List ℕ} {t : Token} → Stands start l t → t.kind ≡ 5 → t.end ≡ start + length l
stands_last end_of_text h = absurd (omega arith)
stands_last (a_token f m) h = absurd (let k = form_kind f.form in omega arith)
stands_last (a_token_too_long f m) h = absurd (omega arith)
stands_last (a_colon f) h = absurd (omega arith)
stands_last (bad_byte f c q) h = absurd (omega arith)
stands_last (unended f a) h = omega arith
stands_last (bad_inside l f a o) h = absurd (omega arith)

-- a token of a text: a kind from 3 on, and its bytes
record Kinded (text : List ℕ) (x : Lexeme) : Type 0 where
  low : 3 ≤ x.kind
  some : x.start < x.end
  counted : size x ≡ length x.bytes
  single : x.kind ≤ 4 → size x ≡ 1
  last : x.kind ≡ 5 → x.end ≡ length text

module _ (text : List ℕ) (at : ℕ) (h : at ≤ length text) where
  its_last : (token_at text at).kind ≡ 5 → (token_at text at).end ≡ length text
  its_last e =
      let w = longest_token text at h in
      omega (arith, stands_last w.stands e, simp (length-drop, length-append) at (ap length w.parts))

  its_bytes : ((token_at text at).kind ≡ 0 → ⊥) → Kinded text (lexeme text (token_at text at))
  its_bytes n =
      let r = reads text at h in
      let s = (longest_token text at h).stands in
      record {
        low = stands_kind s n;
        some = r.some n;
        counted = sym (length-take-le _ (drop (token_at text at).start text) (simp length-drop (omega arith)));
        single = stands_single s n;
        last = its_last;
      }

kinded : (text : List ℕ) (n at : ℕ) → at ≤ length text → Each (Kinded text) (tokens_up_to n text at)
unfolding tokens_up_to tokens_after choose
kinded text zero at h = none_left
kinded text (suc n) at h = go (eqb (token_at text at).kind 0) refl (kinded text n (token_at text at).end (reads text at h).high)
  where
    go : (b : Bool) → eqb (token_at text at).kind 0 ≡ b → Each (Kinded text) (tokens_up_to n text (token_at text at).end)
        → Each (Kinded text) (choose b (λ _. []) (λ _. lexeme text (token_at text at) ∷ tokens_up_to n text (token_at text at).end))
    go true e r = none_left
    go false e r = and_each (its_bytes text at h (eqb-false _ _ e)) r

all_kinded : (text : List ℕ) → Each (Kinded text) (tokens_of text)
unfolding tokens_from
all_kinded text = kinded text (suc (length text)) 0 (omega arith)

-- ---- the numbers

abbrev Between : ℕ → Type 0
Between n = (3 ≤ n) × (n ≤ 17)

-- a row that applies to a token
row_number : {text : List ℕ} {b : List Lexeme} {x : Lexeme} {n : ℕ} → Kinded text x → Applies b x n → Between n
row_number k (no_token l) = (k.low, omega arith)
row_number k (reserved a p q) = (omega arith, omega arith)
row_number k (bare a p q) = (omega arith, omega arith)
row_number k (no_type a p q) = (omega arith, omega arith)
row_number k (not_admitted a) = (omega arith, omega arith)
row_number k (limit low high a m) = (omega arith, high)

number_between : {text : List ℕ} {b r : List Lexeme} {n : ℕ} → Each (Kinded text) r → AppliesAt b r n → Between n
number_between (and_each k h) (token a) = row_number k a
number_between h end = (omega arith, omega arith)

-- the tokens from the refused one on
rest_kinded : {text : List ℕ} {number : ℕ} {at : Spot} (r : RefusedThere text number at) → Each (Kinded text) r.rest
rest_kinded {text} r =
    let p = r.refused.rightly in
    each_right p.before r.rest (rw (tokens_are text r.listed, p.split) at (all_kinded text))

-- a refused token's number
pub token_number : {text : List ℕ} {number : ℕ} {at : Spot} → RefusedThere text number at → Between number
token_number r = number_between (rest_kinded r) r.refused.lowest.applies

-- ---- the length

-- a number up to 6 is the token's kind
row_kind : {b : List Lexeme} {x : Lexeme} {n : ℕ} → Applies b x n → n ≤ 6 → n ≡ x.kind
row_kind (no_token l) h = refl
row_kind (reserved a p q) h = absurd (omega arith)
row_kind (bare a p q) h = absurd (omega arith)
row_kind (no_type a p q) h = absurd (omega arith)
row_kind (not_admitted a) h = absurd (omega arith)
row_kind (limit low high a m) h = absurd (omega arith)

length_said : {b : List Lexeme} {number count : ℕ} (t : List ℕ) (rest : List Lexeme) → Each (Kinded t) rest → AppliesAt b rest number
    → count ≡ first_length rest → Lengths t number count rest
unfolding first_length token_start
length_said t [] none_left end e = record {
  counts = λ x on q. absurd (let z : ◌≡◌ {A = ℕ} 0 1 = cc in omega arith);
  single = ⊎_elim (λ q. absurd (omega arith)) (λ q. absurd (omega arith));
  to_the_end = λ q. absurd (omega arith);
  none_exactly = (λ q. refl, λ q. e);
}
length_said t (x ∷ on) (and_each k h) (token a) e = record {
  counts = λ y ys q. let z : x ≡ y = cc in rw (← z) (e ∙ k.counted);
  single = ⊎_elim (λ q. e ∙ k.single (omega (arith, row_kind a (omega arith)))) (λ q. e ∙ k.single (omega (arith, row_kind a (omega arith))));
  to_the_end = λ q. let l = k.last (sym (row_kind a (omega arith)) ∙ q) in omega (arith, e, l, k.some);
  none_exactly = (λ q. absurd (omega (arith, e, k.some)), λ q. absurd (let z : ◌≡◌ {A = ℕ} 0 1 = cc in omega arith));
}

pub lengths : {text : List ℕ} {number : ℕ} {at : Spot} (r : RefusedThere text number at) → Lengths text number at.length r.rest
lengths {text} r =
    length_said text r.rest (rest_kinded r) r.refused.lowest.applies (sym (ap (λ (s : Spot). s.length) r.place_is))
