-- Texts one after the other: where the border lets them, the tokens are those of both. Assumes nothing.
use mathlib.Core.Path.{◌≡◌, refl, ap, ◌∙◌, sym, subst}
use mathlib.Core.Bool.{Bool, true, false, cond, not, ◌&&◌, ◌||◌}
use mathlib.Core.List.{List, [], ◌∷◌, ◌++◌, append_assoc, map}
use mathlib.Core.Logic.{◌⊎◌, inl, inr, ⊎_elim}
use Prim.Native.Nat.{ℕ, ◌+◌, ◌-◌, ◌≤◌, ◌<◌}
use native.Mathlib.Nat.{add-zero}
use native.Mathlib.Omega.{arith}
use lib.Dec.{eqb, ltb}
use lib.ListN.{length, get_or, take, drop, length-append}
use lib.Seq.{take-append_seam, drop-append_seam, drop-append-add}
use borrow.Author.Tests.{eqb-true, eq-eqb, ltb-true, ltb-false, not-true}
use Rattle.slices.specs.Parts.{Begins}
use Rattle.slices.specs.Same.{same}
use Rattle.slices.proofs.Equal.{same_decides}
use Rattle.tokens.specs.Bytes.{class_of}
use Rattle.tokens.specs.Kinds as kinds
use Rattle.tokens.specs.Runs.{is_of}
use Rattle.tokens.specs.Tokens.{token, token_at}
use Rattle.tokens.specs.Words.{reserved}
use Rattle.tokens.specs.Forms.{All, empty, next, marks, Form, a_word, a_string, a_number, a_mark, whole, pointed, signless, minus, digits_from, size_of, most_of}
use Rattle.tokens.specs.Forms.{Longest, Stands, end_of_text, a_token, a_token_too_long, a_colon, bad_byte, unended, bad_inside, StandsAt}
use Rattle.tokens.specs.declared.reader.Token.{Token}
use Rattle.tokens.specs.declared.classes.Sort.TheVariants.{Blanks}
use Rattle.tokens.proofs.TokenLaws.{never, and_left, and_right, or_cases, every}
use Rattle.tokens.proofs.KindLaws.{kind_among_lem}
use Rattle.tokens.proofs.KeepLaws.{token_kept}
use Rattle.tokens.proofs.Longest.{longest_token, one_token}
use Rattle.tokens.proofs.ReadLaws.{reads}
use Rattle.tokens.proofs.ShiftLaws.{token_further}
use Rattle.tokens.proofs.ShiftLaws as shift
use Rattle.tokens.proofs.FormLaws.{mark_passes}
use Rattle.reading.specs.Lexemes.{Lexeme, lexeme, tokens_of, TokensOf, ended, goes_on}
use Rattle.reading.proofs.Listed.{tokens_stand, tokens_are}
use Rattle.spelling.specs.Spelling.{lexeme_at, apart, calm, closed, border}
use Rattle.grammar.specs.Moves.{further}
use Rattle.spelling.specs.Moves.{moved_lexeme}
use Rattle.spelling.proofs.Apart.{form_longest, form_first, form_kind, longest_apart, calm_apart, calm_no_point, blank_calm, dot_is}
use Rattle.spelling.proofs.Laid.{Laid, Laid.blank, Laid.before, Fine, tokens_laid, token_next, behind_token}

-- ---- a token with two bytes behind it stays where more is put behind

-- the token that stands at a place where a form is the longest
same_length : {p o l : List ℕ} → Begins p l → Begins o l → length p ≡ length o → p ≡ o
same_length {p} {o} a b e =
    sym (take-append_seam p a.rest) ∙ (ap (take (length p)) (sym a.is ∙ b.is) ∙ (ap (λ (n : ℕ). take n (o ++ b.rest)) e ∙ take-append_seam o b.rest))

stands_longest : {start kind : ℕ} {p l : List ℕ} {t : Token} → Form kind p → Begins p l → Stands start l t → t ≡ token kind start (start + length p)
    → Longest kind p l
stands_longest f b end_of_text e = absurd (let k = form_kind f in let z = ap (λ (x : Token). x.kind) e in omega arith)
stands_longest {start} {kind} {p} {l} f b (a_token {kind = k} {p = o} g h) e =
    let z : k ≡ kind = ap (λ (x : Token). x.kind) e in
    let size : start + length o ≡ start + length p = ap (λ (x : Token). x.end) e in
    let s : o ≡ p = same_length g.begins b (omega arith) in
    rw (z, s) at g
stands_longest f b (a_token_too_long g h) e = absurd (let k = form_kind f in let z = ap (λ (x : Token). x.kind) e in omega arith)
stands_longest f b (a_colon n) e = absurd (let k = form_kind f in let z = ap (λ (x : Token). x.kind) e in omega arith)
stands_longest f b (bad_byte n c q) e = absurd (let k = form_kind f in let z = ap (λ (x : Token). x.kind) e in omega arith)
stands_longest f b (unended n a) e = absurd (let k = form_kind f in let z = ap (λ (x : Token). x.kind) e in omega arith)
stands_longest f b (bad_inside l n a o) e = absurd (let k = form_kind f in let z = ap (λ (x : Token). x.kind) e in omega arith)

-- no blanks are passed where a form begins
no_blanks : {kind : ℕ} {p : List ℕ} → Form kind p → (q : List ℕ) {b : List ℕ} (rest : List ℕ) → p ++ q ≡ b ++ rest → All Blanks b → b ≡ []
no_blanks f q rest e empty = refl
no_blanks {p = p} f q rest e (next {b = c} h a) = absurd (never (sym (form_first f q) ∙ (ap (λ (l : List ℕ). is_of Blanks (get_or l 0 0)) e ∙ h)))

longest_more : {kind : ℕ} {p : List ℕ} (q u : List ℕ) → Longest kind p (p ++ q) → size_of kind p ≤ most_of kind → 2 ≤ length q → Longest kind p (p ++ (q ++ u))
longest_more {kind} {p} q u l f h =
    let text = p ++ q in
    let t = token kind 0 (0 + length p) in
    let s : StandsAt text 0 t = record { blanks = []; rest = text; parts = refl; passed = empty; no_blank = form_first l.form q; stands = a_token l f } in
    let here : token_at text 0 ≡ t = one_token text 0 (token_at text 0) t (longest_token text 0 (omega arith)) s in
    let end : (token_at text 0).end ≡ 0 + length p = ap (λ (x : Token). x.end) here in
    let kept : token_at (text ++ u) 0 ≡ t = token_kept text u 0 (omega arith) (omega (arith, length-append p q)) ∙ here in
    let stands = longest_token (text ++ u) 0 (omega arith) in
    let split : p ++ (q ++ u) ≡ stands.blanks ++ stands.rest = sym (append_assoc p q u) ∙ stands.parts in
    let none : stands.blanks ≡ [] = no_blanks l.form (q ++ u) stands.rest split stands.passed in
    let rest : stands.rest ≡ p ++ (q ++ u) = sym (rw none at split) in
    let at : Stands 0 (p ++ (q ++ u)) (token_at (text ++ u) 0) = rw (none, rest) at stands.stands in
    stands_longest l.form (record { rest = q ++ u; is = refl }) at kept

-- ---- what may stand at the border of two texts

-- what may stand behind `;`, anything may
pub closed_border : (ts : List Lexeme) (c : ℕ) → closed ts ≡ true → border ts c ≡ true
unfolding closed border
closed_border [] c e = refl
closed_border (x ∷ []) c e = rw e
closed_border (x ∷ y ∷ ts) c e = closed_border (y ∷ ts) c e

border_rest : (x : Lexeme) (ts : List Lexeme) (c : ℕ) → border (x ∷ ts) c ≡ true → border ts c ≡ true
unfolding border
border_rest x [] c e = refl
border_rest x (y ∷ ts) c e = e

pub form_some : {kind : ℕ} {p : List ℕ} → Form kind p → 0 < length p
unfolding every marks
form_some (a_word e a) = omega arith
form_some (a_string a) = omega arith
form_some (a_number (signless (whole (digits_from e a)))) = omega arith
form_some (a_number (signless (pointed (digits_from e a) t))) = omega arith
form_some (a_number (minus u)) = omega arith
form_some (a_mark {l = l} m) = ltb-true 0 (length l) (mark_passes (λ kind l. ltb 0 (length l)) m refl)

-- `;` has one spelling
semicolon_is : {kind : ℕ} {p : List ℕ} → Form kind p → kind ≡ kinds.semicolon → p ≡ kinds.semicolon ∷ []
unfolding every marks same
semicolon_is (a_word {b} {rest} e a) h = absurd (elim (kind_among_lem reserved 201 (b ∷ rest)) [ inl z ↦ omega arith | inr z ↦ omega arith ])
semicolon_is (a_string a) h = absurd (omega arith)
semicolon_is (a_number n) h = absurd (omega arith)
semicolon_is (a_mark {kind} {l} m) h =
    let passed : (not (eqb kind 59) || same l (59 ∷ [])) ≡ true = mark_passes (λ kind l. not (eqb kind 59) || same l (59 ∷ [])) m refl in
    (same_decides l (59 ∷ [])).sound (rw (eq-eqb kind 59 h) at passed)

-- the last token: `;`, or no dot, and what follows makes none longer
last_border : (x : Lexeme) (c : ℕ) → border (x ∷ []) c ≡ true → (x.kind ≡ kinds.semicolon) ⊎ ((eqb x.kind kinds.dot ≡ false) × (calm c ≡ true))
unfolding border
last_border x c e =
    ⊎_elim (λ (h : eqb x.kind 59 ≡ true). inl (eqb-true x.kind 59 h))
    (λ (h : (not (eqb x.kind 46) && calm c) ≡ true). inr (not-true _ (and_left _ _ h), and_right (not (eqb x.kind 46)) _ h))
    (or_cases (eqb x.kind 59) (not (eqb x.kind 46) && calm c) e)

-- a byte that no point is
no_dot : {kind : ℕ} {p : List ℕ} → Form kind p → (q : List ℕ) → (kind ≡ kinds.semicolon) ⊎ (eqb kind kinds.dot ≡ false)
    → eqb (get_or (p ++ q) 0 0) kinds.dot ≡ false
no_dot {kind} {p} f q h = go (eqb (get_or (p ++ q) 0 0) 46) refl h
  where
    go : (t : Bool) → eqb (get_or (p ++ q) 0 0) 46 ≡ t → (kind ≡ 59) ⊎ (eqb kind 46 ≡ false) → t ≡ false
    go true e (inl z) = absurd (let y = dot_is f q e in omega arith)
    go true e (inr z) = absurd (never (sym z ∙ eq-eqb kind 46 (dot_is f q e)))
    go false e z = refl

-- what stands behind a token, where it is short: nothing, or a byte that is no point
short_behind : {at : ℕ} {q : List ℕ} {ts : List Lexeme} (x : Lexeme) (c : ℕ) → Laid at q ts → border (x ∷ ts) c ≡ true → length q ≤ 1
    → ((length q ≡ 0) × (border (x ∷ []) c ≡ true)) ⊎ ((0 < length q) × (eqb (get_or q 0 0) kinds.dot ≡ false))
unfolding border
short_behind x c (Laid.blank empty) e h = inl (refl, e)
short_behind x c (Laid.blank (next {b = b} n a)) e h = inr (omega arith, calm_no_point b (blank_calm b n))
short_behind x c (Laid.before (next {b = b} n a) l f k) e h = inr (omega arith, calm_no_point b (blank_calm b n))
short_behind x c (Laid.before {at = at} {kind = kind} {p = p} {q = q} empty l f k) e h =
    let some = form_some l.form in
    let size = length-append p q in
    let y = lexeme_at (at + 0) kind p in
    elim (short_behind y c k e (omega arith)) [
      | inl z ↦ inr (omega arith, no_dot l.form q (elim (last_border y c z.1) [ inl w ↦ inl w | inr w ↦ inr w.0 ]))
      | inr z ↦ absurd (let w = z.0 in omega arith)
    ]

-- the token stays, where such a text is put behind
longest_kept : {at kind : ℕ} {p : List ℕ} (q u : List ℕ) {ts : List Lexeme} (start : ℕ) → Longest kind p (p ++ q) → size_of kind p ≤ most_of kind → Laid at q ts
    → border (lexeme_at start kind p ∷ ts) (get_or u 0 0) ≡ true → Longest kind p (p ++ (q ++ u))
unfolding apart class_of
longest_kept {kind = kind} {p = p} q u start l f k e = go (ltb 1 (length q)) refl
  where
    at_end : (q : List ℕ) → length q ≡ 0 → border (lexeme_at start kind p ∷ []) (get_or u 0 0) ≡ true → apart p (get_or (q ++ u) 0 0) ≡ true
    at_end [] z b =
        elim (last_border (lexeme_at start kind p) (get_or u 0 0) b) [ inl w ↦ rw (semicolon_is l.form w) | inr w ↦ calm_apart p (get_or u 0 0) w.1 ]
    at_end (c ∷ q) z b = absurd (omega arith)

    in_text : (q : List ℕ) → 0 < length q → eqb (get_or q 0 0) 46 ≡ false → Longest kind p (p ++ q) → apart p (get_or (q ++ u) 0 0) ≡ true
    in_text [] h z l' = absurd (omega arith)
    in_text (c ∷ q) h z l' = longest_apart c q l' z

    go : (b : Bool) → ltb 1 (length q) ≡ b → Longest kind p (p ++ (q ++ u))
    go true t = longest_more q u l f (ltb-true 1 (length q) t)
    go false t = elim (short_behind (lexeme_at start kind p) (get_or u 0 0) k e (ltb-false 1 (length q) t)) [
      | inl z ↦ form_longest l.form (q ++ u) (at_end q z.0 z.1)
      | inr z ↦ form_longest l.form (q ++ u) (in_text q z.0 z.1 l)
    ]

-- ---- texts one after the other

all_append : {b c : List ℕ} → All Blanks b → All Blanks c → All Blanks (b ++ c)
all_append empty d = d
all_append (next e a) d = next e (all_append a d)

-- blanks before a laid text
pub laid_blanks : {at : ℕ} {b u : List ℕ} {us : List Lexeme} → All Blanks b → Laid (at + length b) u us → Laid at (b ++ u) us
laid_blanks a (Laid.blank c) = Laid.blank (all_append a c)
laid_blanks {at} {b} a (Laid.before {kind = kind} {b = c} {p = p} {q = q} {ts = ts} d l f k) =
    let place : at + length b + length c ≡ at + length (b ++ c) = omega (arith, length-append b c) in
    rw (← append_assoc b c (p ++ q), place) (Laid.before (all_append a d) l f (rw place at k))

-- the tokens of two texts together are those of the first and those of the second
pub laid_join : {at : ℕ} {t u : List ℕ} {ts us : List Lexeme} → Laid at t ts → border ts (get_or u 0 0) ≡ true → Laid (at + length t) u us
    → Laid at (t ++ u) (ts ++ us)
laid_join (Laid.blank a) e m = laid_blanks a m
laid_join {at} {u = u} {us = us} (Laid.before {kind = kind} {b = b} {p = p} {q = q} {ts = ts} a l f k) e m =
    let place : at + length (b ++ (p ++ q)) ≡ at + length b + length p + length q = omega (arith, length-append b (p ++ q), length-append p q) in
    let split : (b ++ (p ++ q)) ++ u ≡ b ++ (p ++ (q ++ u)) = simp append_assoc in
    rw split
    (Laid.before a (longest_kept q u (at + length b) l f k e) f (laid_join k (border_rest (lexeme_at (at + length b) kind p) ts (get_or u 0 0) e) (rw place at m)))

-- ---- a text falls into two behind each of its tokens

longest_less : {kind : ℕ} {p : List ℕ} (q u : List ℕ) → Longest kind p (p ++ (q ++ u)) → Longest kind p (p ++ q)
longest_less {p = p} q u l = record {
  form = l.form;
  begins = record { rest = q; is = refl };
  none_longer = λ {o = o} f b.
      l.none_longer f (record {
        rest = b.rest ++ u;
        is = sym (append_assoc p q u) ∙ (ap (λ (m : List ℕ). m ++ u) b.is ∙ append_assoc o b.rest u);
      });
}

regroup : (b p q u : List ℕ) → b ++ (p ++ (q ++ u)) ≡ (b ++ (p ++ q)) ++ u
regroup b p q u = simp append_assoc

pub record TwoLaid (at : ℕ) (text : List ℕ) (ts us : List Lexeme) : Type 0 where
  pub first : List ℕ
  pub second : List ℕ
  pub parts : text ≡ first ++ second
  pub first_laid : Laid at first ts
  pub second_laid : Laid (at + length first) second us

laid_cut_to : {at : ℕ} {text : List ℕ} {ws : List Lexeme} (ts us : List Lexeme) → Laid at text ws → ws ≡ ts ++ us → TwoLaid at text ts us
laid_cut_to {at} {text} [] us k e = record {
  first = [];
  second = text;
  parts = refl;
  first_laid = Laid.blank empty;
  second_laid = subst (λ (i : ℕ). Laid i text us) (sym (add-zero at)) (subst (λ (l : List Lexeme). Laid at text l) e k);
}
laid_cut_to (x ∷ ts) us (Laid.blank a) e = absurd (grind arith)
laid_cut_to (x ∷ ts) us (Laid.before {at = at} {kind = kind} {b = b} {p = p} {q = q} {ts = vs} a l f k) e =
    let r = laid_cut_to {at = at + length b + length p} {text = q} {ws = vs} ts us k (grind arith) in
    let here = b ++ (p ++ r.first) in
    let place : at + length b + length p + length r.first ≡ at + length here = omega (arith, length-append b (p ++ r.first), length-append p r.first) in
    let same : lexeme_at (at + length b) kind p ≡ x = grind arith in
    record {
      first = here;
      second = r.second;
      parts = ap (λ (m : List ℕ). b ++ (p ++ m)) r.parts ∙ regroup b p r.first r.second;
      first_laid = subst (λ (y : Lexeme). Laid at here (y ∷ ts)) same (Laid.before a (longest_less r.first r.second (subst (λ (m : List ℕ). Longest kind p (p ++ m)) r.parts l)) f r.first_laid);
      second_laid = subst (λ (i : ℕ). Laid i r.second us) place r.second_laid;
    }

-- the first without blanks behind its last token
pub laid_cut : {at : ℕ} {text : List ℕ} (ts us : List Lexeme) → Laid at text (ts ++ us) → TwoLaid at text ts us
laid_cut ts us k = laid_cut_to ts us k refl

-- ---- the tokens of a text behind another, whatever it is

-- blanks before a list of tokens
module _ (text : List ℕ) {at : ℕ} {b : List ℕ} (a : All Blanks b) (e : drop at text ≡ b ++ drop (at + length b) text) where
  blanks_stand : {t : Token} → StandsAt text (at + length b) t → StandsAt text at t
  blanks_stand {t} s =
      let c = s.blanks in
      let place : at + length b + length c ≡ at + length (b ++ c) = omega (arith, length-append b c) in
      record {
        blanks = b ++ c;
        rest = s.rest;
        parts = e ∙ (ap (λ (l : List ℕ). b ++ l) s.parts ∙ sym (append_assoc b c s.rest));
        passed = all_append a s.passed;
        no_blank = s.no_blank;
        stands = rw place at s.stands;
      }

  blanks_list : {us : List Lexeme} → TokensOf text (at + length b) us → TokensOf text at us
  blanks_list (ended s z) = ended (blanks_stand s) z
  blanks_list (goes_on s n k) = goes_on (blanks_stand s) n k

then_list : (text pre u : List ℕ) {at : ℕ} {t : List ℕ} {ts us : List Lexeme} → text ≡ pre ++ (t ++ u) → at ≡ length pre → Laid at t ts
    → border ts (get_or u 0 0) ≡ true
    → TokensOf text (at + length t) us → TokensOf text at (ts ++ us)
then_list text pre u {at} e h (Laid.blank {b = b} a) c k =
    let here : drop at text ≡ b ++ u = rw (e, h) (drop-append_seam pre (b ++ u)) in
    let split : text ≡ (pre ++ b) ++ u = e ∙ sym (append_assoc pre b u) in
    let place : at + length b ≡ length (pre ++ b) = omega (arith, length-append pre b) in
    let behind : drop (at + length b) text ≡ u = rw (split, place) (drop-append_seam (pre ++ b) u) in
    blanks_list text a (here ∙ ap (λ (l : List ℕ). b ++ l) (sym behind)) k
then_list text pre u {at} {us = us} e h (Laid.before {kind = kind} {b = b} {p = p} {q = q} {ts = ts} a l f j) c k =
    let start = at + length b in
    let split : text ≡ pre ++ (b ++ (p ++ (q ++ u))) = e ∙ simp append_assoc in
    let behind : text ≡ ((pre ++ b) ++ p) ++ (q ++ u) = behind_token text pre b p (q ++ u) split in
    let place : at + length (b ++ (p ++ q)) ≡ start + length p + length q = omega (arith, length-append b (p ++ q), length-append p q) in
    let size : start + length p ≡ length ((pre ++ b) ++ p) = omega (arith, length-append (pre ++ b) p, length-append pre b) in
    token_next text pre (q ++ u) split h a (longest_kept q u start l f j c) f
    (then_list text ((pre ++ b) ++ p) u behind size j (border_rest (lexeme_at start kind p) ts (get_or u 0 0) c) (rw place at k))

-- ---- the same tokens, further on

module _ (pre u : List ℕ) where
  stands_further : {at : ℕ} {t : Token} → at ≤ length u → StandsAt u at t → StandsAt (pre ++ u) (length pre + at) (shift.further (length pre) t)
  stands_further {at} {t} h s =
      let same : token_at u at ≡ t = one_token u at (token_at u at) t (longest_token u at h) s in
      let there = longest_token (pre ++ u) (length pre + at) (omega (arith, length-append pre u)) in
      subst (StandsAt (pre ++ u) (length pre + at)) (token_further pre u at ∙ ap (shift.further (length pre)) same) there

  lexeme_further : (t : Token) → lexeme (pre ++ u) (shift.further (length pre) t) ≡ moved_lexeme (further (length pre)) (lexeme u t)
  unfolding shift.further
  lexeme_further t =
      let size : length pre + t.end - (length pre + t.start) ≡ t.end - t.start = omega arith in rw (size, drop-append-add pre u t.start)

  list_further : {at : ℕ} {us : List Lexeme} → at ≤ length u → TokensOf u at us
      → TokensOf (pre ++ u) (length pre + at) (map (moved_lexeme (further (length pre))) us)
  unfolding shift.further
  list_further h (ended {t = t} s e) = ended (stands_further h s) e
  list_further {at} h (goes_on {t = t} {ts = ts} s n k) =
      let r = reads u at h in
      let high : t.end ≤ length u = rw (one_token u at t (token_at u at) s (longest_token u at h)) r.high in
      let all : TokensOf (pre ++ u) (length pre + at) (lexeme (pre ++ u) (shift.further (length pre) t) ∷ map (moved_lexeme (further (length pre))) ts) =
      goes_on (stands_further h s) n (list_further high k) in
      rw (lexeme_further t) at all

-- where no token of t is a refusal and u may stand behind them: the tokens of t, and then those of u, so much further on; u may be any text
pub tokens_join : (t u : List ℕ) → Fine (tokens_of t) → border (tokens_of t) (get_or u 0 0) ≡ true
    → tokens_of (t ++ u) ≡ tokens_of t ++ map (moved_lexeme (further (length t))) (tokens_of u)
tokens_join t u f c =
    let behind : TokensOf (t ++ u) (0 + length t) (map (moved_lexeme (further (length t))) (tokens_of u)) =
    subst (λ (i : ℕ). TokensOf (t ++ u) i (map (moved_lexeme (further (length t))) (tokens_of u))) (omega arith)
    (list_further t u {at = 0} (omega arith) (tokens_stand u)) in
    tokens_are (t ++ u) (then_list (t ++ u) [] u refl refl (tokens_laid t f) c behind)

-- behind `;` always
pub tokens_closed : (t u : List ℕ) → Fine (tokens_of t) → closed (tokens_of t) ≡ true
    → tokens_of (t ++ u) ≡ tokens_of t ++ map (moved_lexeme (further (length t))) (tokens_of u)
tokens_closed t u f c = tokens_join t u f (closed_border (tokens_of t) (get_or u 0 0) c)
