-- The reader of locks takes the bytes of tests joined by `&` and no others, and reads each test as it is meant. Assumes nothing.
use mathlib.Core.Path.{◌≡◌, refl, sym, ap, ◌∙◌}
use mathlib.Core.Bool.{true, false, not, ◌||◌}
use mathlib.Core.List.{List, [], ◌∷◌, ◌++◌, append_assoc}
use mathlib.Core.Logic.{⊎_elim}
use Prim.Native.Nat.{ℕ, ◌+◌, ◌-◌, ◌≤◌, ◌<◌}
use native.Mathlib.Omega.{arith}
use lib.Dec.{eqb}
use lib.ListN.{length, get_or, take, drop, length-append}
use lib.Seq.{drop-drop, drop-append_seam}
use borrow.Author.Tests.{eq-eqb, eqb-false, not-true}
use Rattle.slices.specs.Ascii.{bytes}
use Rattle.slices.specs.Parts.{part}
use Rattle.slices.specs.Same.{same}
use Rattle.slices.proofs.Equal.{same_decides}
use Rattle.tokens.specs.Bytes.{class_of}
use Rattle.tokens.specs.Kinds as kinds
use Rattle.tokens.specs.Runs.{is_of, run, run_end}
use Rattle.tokens.specs.Tokens.{token, token_at}
use Rattle.tokens.specs.Words.{word_kind}
use Rattle.tokens.specs.Forms.{All, Form, a_word, a_string, a_number, a_mark, Number, Among, marks, size_of, most_of, Stands, end_of_text, a_token, a_token_too_long, a_colon, bad_byte, unended, bad_inside}
use Rattle.tokens.specs.declared.classes.Sort.{Sort}
use Rattle.tokens.specs.declared.classes.Sort.TheVariants.{Blanks}
use Rattle.tokens.specs.declared.reader.Token.{Token}
use Rattle.tokens.proofs.FormLaws.{run_is, Split, split, split_run, reach, no_form, mark_passes}
use Rattle.tokens.proofs.KindLaws.{kind_among_lem, word_high}
use Rattle.tokens.proofs.Longest.{longest_token, one_token}
use Rattle.tokens.proofs.ReadLaws.{reads}
use Rattle.tokens.proofs.RunLaws.{high}
use Rattle.tokens.proofs.Told.{token_told}
use Rattle.tokens.proofs.TokenLaws.{every}
use Rattle.spelling.proofs.Apart.{form_longest, form_first, form_kind}
use Rattle.spelling.specs.Spelling.{apart}
use Rattle.spelling.specs.Printing.{mark_kind}
use Rattle.bags.proofs.Laid.{Laid, laid_part}
use Rattle.grammar.specs.Policies.{Comparator}
use Rattle.permits.specs.Permits.{order, sign_of}
use Rattle.permits.specs.Meaning.{Orders, more, at_least, less, at_most}

-- ---- runs, where they lie

pub record RunLaid (sort : Sort) (l : List ℕ) (at : ℕ) : Type 0 where
  pub bytes : List ℕ
  pub all : All sort bytes
  pub laid : Laid l at bytes (run_end sort l at)

pub run_laid : (sort : Sort) (l : List ℕ) (at : ℕ) → at ≤ length l → RunLaid sort l at
run_laid sort l at h = go (drop at l) (split_run sort (drop at l)) refl
  where
    go : (x : List ℕ) → Split sort x → drop at l ≡ x → RunLaid sort l at
    go x (split {p} a q n) e =
        let r : run sort (drop at l) ≡ length p = ap (run sort) e ∙ run_is a q n in
        let k : drop (at + length p) l ≡ q = sym (drop-drop (length p) at l) ∙ ap (drop (length p)) e ∙ drop-append_seam p q in
        let z : run_end sort l at ≡ at + length p = omega arith in
        record {
          bytes = p;
          all = a;
          laid = record { is = e ∙ ap (λ (t : List ℕ). p ++ t) (sym (ap (λ (m : ℕ). drop m l) z ∙ k)); stop = z; inside = high sort l at h };
        }

-- a run that stands there is read to its end
pub run_reads : {sort : Sort} {l p : List ℕ} {at e : ℕ} → All sort p → Laid l at p e → is_of sort (get_or (drop e l) 0 0) ≡ false → run_end sort l at ≡ e
run_reads {sort} {l} {p} {at} {e} a d n = let r : run sort (drop at l) ≡ length p = ap (run sort) d.is ∙ run_is a (drop e l) n in omega (arith, d.stop)

-- ---- tokens, where they lie

pub record TokenLaid (l : List ℕ) (at kind : ℕ) (t : Token) : Type 0 where
  pub blanks : List ℕ
  pub bytes : List ℕ
  pub passed : All Blanks blanks
  pub form : Form kind bytes
  pub few : size_of kind bytes ≤ most_of kind
  pub before : Laid l at blanks t.start
  pub laid : Laid l t.start bytes t.end

part_laid : (l : List ℕ) (a e : ℕ) → a ≤ e → e ≤ length l → Laid l a (take (e - a) (drop a l)) e
unfolding part
part_laid l a e h k = let z : a + (e - a) ≡ e = omega arith in rw z at (laid_part l a (e - a) (omega arith)).0

pub token_laid : (l : List ℕ) (at kind : ℕ) → at ≤ length l → (token_at l at).kind ≡ kind → 6 < kind → TokenLaid l at kind (token_at l at)
token_laid l at kind h q k =
    let t = token_told l at h (rw q k) in
    let r = reads l at h in
    record {
      blanks = _;
      bytes = _;
      passed = t.gap;
      form = rw q at t.form;
      few = rw q at t.few;
      before = part_laid l at (token_at l at).start r.low (omega (arith, r.order, r.high));
      laid = part_laid l (token_at l at).start (token_at l at).end r.order r.high;
    }

-- a colon
pub record ColonLaid (l : List ℕ) (at : ℕ) (t : Token) : Type 0 where
  pub blanks : List ℕ
  pub passed : All Blanks blanks
  pub laid : Laid l at (blanks ++ 58 ∷ []) t.end

pub colon_laid : (l : List ℕ) (at : ℕ) → at ≤ length l → (token_at l at).kind ≡ kinds.colon_outside → ColonLaid l at (token_at l at)
colon_laid l at h q = let s = longest_token l at h in go s.blanks s.rest s.parts s.passed s.stands q (reads l at h).high
  where
    go : (b rest : List ℕ) {t : Token} → drop at l ≡ b ++ rest → All Blanks b → Stands (at + length b) rest t → t.kind ≡ 4 → t.end ≤ length l → ColonLaid l at t
    go b rest e a end_of_text z k = absurd (let y : ◌≡◌ {A = ℕ} 0 1 = cc in omega arith)
    go b rest e a (a_token f s) z k = absurd (omega (arith, form_kind f.form))
    go b rest e a (a_token_too_long f s) z k = absurd (omega arith)
    go b rest e a (a_colon {l = r} f) z k =
        let d : drop (at + length b) l ≡ 58 ∷ r = sym (drop-drop (length b) at l) ∙ ap (drop (length b)) e ∙ drop-append_seam b (58 ∷ r) in
        let d' : drop (at + length b + 1) l ≡ r = sym (drop-drop 1 (at + length b) l) ∙ ap (drop 1) d in
        record {
          blanks = b;
          passed = a;
          laid =
              record {
                is = e ∙ sym (append_assoc b (58 ∷ []) _ ∙ ap (λ (x : List ℕ). b ++ 58 ∷ x) d');
                stop = omega (arith, length-append b (58 ∷ []));
                inside = k;
              };
        }
    go b rest e a (bad_byte f c q) z k = absurd (omega arith)
    go b rest e a (unended f s) z k = absurd (omega arith)
    go b rest e a (bad_inside r f s o) z k = absurd (omega arith)

-- a token that stands there is read
stands_there : (l : List ℕ) (at : ℕ) {b : List ℕ} {t : Token} → All Blanks b → (rest : List ℕ) → drop at l ≡ b ++ rest → at ≤ length l → is_of Blanks (get_or rest 0 0) ≡ false → Stands (at + length b) rest t → token_at l at ≡ t
stands_there l at {b} a rest q h n s =
    one_token l at _ _ (longest_token l at h) (record { blanks = b; rest = rest; parts = q; passed = a; no_blank = n; stands = s })

module _ {l b : List ℕ} {at e : ℕ} (a : All Blanks b) where
  pub token_reads : {kind : ℕ} {p : List ℕ} → Form kind p → size_of kind p ≤ most_of kind → Laid l at (b ++ p) e → apart p (get_or (drop e l) 0 0) ≡ true
      → token_at l at ≡ token kind (at + length b) e
  token_reads {kind} {p} f s d n =
      let z : at + length b + length p ≡ e = omega (arith, d.stop, length-append b p) in
      rw (← z)
      (stands_there l at a (p ++ drop e l) (d.is ∙ append_assoc b p (drop e l)) (omega (arith, d.stop, d.inside)) (form_first f (drop e l))
      (a_token (form_longest f (drop e l) n) s))

  pub colon_reads : Laid l at (b ++ 58 ∷ []) e → token_at l at ≡ token kinds.colon_outside (at + length b) e
  unfolding reach class_of
  colon_reads d =
      let z : at + length b + 1 ≡ e = omega (arith, d.stop, length-append b (58 ∷ [])) in
      rw (← z)
      (stands_there l at a (58 ∷ drop e l) (d.is ∙ append_assoc b (58 ∷ []) (drop e l)) (omega (arith, d.stop, d.inside)) refl
      (a_colon (no_form (58 ∷ drop e l) refl)))

-- ---- comparators and numbers by their kinds

word_kind_not : (w : List ℕ) (k : ℕ) → k < 201 → (k ≡ 110 → ⊥) → word_kind w ≡ k → ⊥
word_kind_not w k h n e = ⊎_elim (λ (q : word_kind w ≡ 110). n (sym e ∙ q)) (λ (q : 201 ≤ word_kind w). omega arith) (kind_among_lem _ 201 w)

-- a form of a comparator's kind is its mark
pub order_form : {c : Comparator} → Orders c → {kind : ℕ} {p : List ℕ} → Form kind p → kind ≡ mark_kind c → p ≡ sign_of c
unfolding mark_kind sign_of marks every same
order_form o {kind} {p} f q = go o f q
  where
    among : {c : Comparator} {k : ℕ} {p : List ℕ} → Orders c → Among marks k p → k ≡ mark_kind c → p ≡ sign_of c
    among more m q = pass (mark_passes (λ k p. not (eqb k 62) || same p (bytes ">")) m refl) q
      where
        pass : {k : ℕ} {p : List ℕ} → (not (eqb k 62) || same p (62 ∷ [])) ≡ true → k ≡ 62 → p ≡ 62 ∷ []
        pass {k} {p} h q = (same_decides p _).sound (rw (eq-eqb k 62 q) at h)
    among at_least m q = pass (mark_passes (λ k p. not (eqb k 190) || same p (bytes ">=")) m refl) q
      where
        pass : {k : ℕ} {p : List ℕ} → (not (eqb k 190) || same p (62 ∷ 61 ∷ [])) ≡ true → k ≡ 190 → p ≡ 62 ∷ 61 ∷ []
        pass {k} {p} h q = (same_decides p _).sound (rw (eq-eqb k 190 q) at h)
    among less m q = pass (mark_passes (λ k p. not (eqb k 60) || same p (bytes "<")) m refl) q
      where
        pass : {k : ℕ} {p : List ℕ} → (not (eqb k 60) || same p (60 ∷ [])) ≡ true → k ≡ 60 → p ≡ 60 ∷ []
        pass {k} {p} h q = (same_decides p _).sound (rw (eq-eqb k 60 q) at h)
    among at_most m q = pass (mark_passes (λ k p. not (eqb k 188) || same p (bytes "<=")) m refl) q
      where
        pass : {k : ℕ} {p : List ℕ} → (not (eqb k 188) || same p (60 ∷ 61 ∷ [])) ≡ true → k ≡ 188 → p ≡ 60 ∷ 61 ∷ []
        pass {k} {p} h q = (same_decides p _).sound (rw (eq-eqb k 188 q) at h)

    small : {c : Comparator} → Orders c → (mark_kind c < 201) × (mark_kind c ≡ 110 → ⊥) × (mark_kind c ≡ 34 → ⊥) × (mark_kind c ≡ 48 → ⊥)
    small more = (omega arith, (λ z. omega arith), (λ z. omega arith), (λ z. omega arith))
    small at_least = (omega arith, (λ z. omega arith), (λ z. omega arith), (λ z. omega arith))
    small less = (omega arith, (λ z. omega arith), (λ z. omega arith), (λ z. omega arith))
    small at_most = (omega arith, (λ z. omega arith), (λ z. omega arith), (λ z. omega arith))

    go : {c : Comparator} {k : ℕ} {p : List ℕ} → Orders c → Form k p → k ≡ mark_kind c → p ≡ sign_of c
    go o (a_word {b} {rest} e a) q = let s = small o in absurd (word_kind_not (b ∷ rest) _ s.0 s.1 q)
    go o (a_string a) q = let s = small o in absurd (s.2 (sym q))
    go o (a_number n) q = let s = small o in absurd (s.3 (sym q))
    go o (a_mark m) q = among o m q

pub number_form : {kind : ℕ} {p : List ℕ} → Form kind p → kind ≡ kinds.number → Number p
unfolding marks every
number_form (a_word {b} {rest} e a) q = absurd (omega (arith, word_high (b ∷ rest)))
number_form (a_string a) q = absurd (let y : ◌≡◌ {A = ℕ} 34 48 = q in omega arith)
number_form (a_number n) q = n
number_form (a_mark {kind} m) q =
    absurd (eqb-false kind 48 (not-true (eqb kind 48) (mark_passes (λ k p. not (eqb k 48)) m refl)) q)
