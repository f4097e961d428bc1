-- The token reader follows the paper of specs/Forms.antt, and the paper leaves one token at each place. Assumes nothing.
use mathlib.Core.Path.{◌≡◌, refl, ap, ◌∙◌, sym, subst}
use mathlib.Core.Bool.{Bool, true, false, cond, not, ◌&&◌, ◌||◌}
use mathlib.Core.List.{List, [], ◌∷◌, ◌++◌, append_assoc, append-nil}
use mathlib.Core.Logic.{◌⊎◌, inl, inr, ◌≢◌}
use Prim.Native.Nat.{ℕ, suc, ◌+◌, ◌-◌, ◌≤◌, ◌<◌}
use native.Mathlib.Nat.{add_assoc, add-zero, zero-add}
use native.Mathlib.Omega.{arith}
use lib.Dec.{leb, eqb}
use lib.ListN.{length, get_or, take, drop, length-append, take-append-drop}
use lib.Seq.{take-append_seam, drop-append_seam, drop-append-add, get_or-append-add, length-take-le}
use borrow.Author.Tests.{eqb-true, eqb-false, leb-true, leb-false, le-leb, lt-leb, ne_eqb}
use Rattle.slices.specs.Same.{same}
use Rattle.tokens.specs.Bytes.{class_of, letter, digit, mark}
use Rattle.tokens.specs.Runs.{is_of, run, run_end}
use Rattle.tokens.specs.Words.{word_kind}
use Rattle.tokens.specs.Tokens.{token, bad_byte_token, sized, word_token, string_token, number_token, doubled, before_equals, mark_token, mark_at, token_from, token_at}
use Rattle.tokens.specs.Forms.{All, empty, next, SomeDigits, digits_from, Unsigned, whole, pointed, signless, minus, marks, Among, Form, a_word, a_string, a_number, a_mark, digits, size_of, most_of, NoForm, Longest, Stands, end_of_text, a_token, a_token_too_long, a_colon, bad_byte, unended, bad_inside, StandsAt}
use Rattle.tokens.specs.declared.classes.Sort.TheVariants.{Blanks, Digits, Letters, WordBytes, StringBytes}
use Rattle.tokens.specs.declared.reader.Token.{Token}
use Rattle.tokens.proofs.TokenLaws.{never, and_left, and_right, every, one_passes, mark_bytes, told_by_class}
use Rattle.tokens.proofs.ReadLaws.{either}
use Rattle.tokens.proofs.KindLaws.{word_high}
use Rattle.tokens.proofs.ShiftLaws.{further, from_further}
use Rattle.tokens.proofs.FormLaws.{run_is, Split, split, split_run, at_seam, has_fraction, fraction_reach, digits_reach, string_reach, mark_reach, reach, some_all, some_first, reach_digits, is_among, is_among_lem, mark_small, no_form, longest, one_longest}

-- ---- a form and its size

sized_stands : {kind : ℕ} {p : List ℕ} → Form kind p → (q : List ℕ) → reach (p ++ q) ≡ length p → (most size end : ℕ) → most ≡ most_of kind
    → size ≡ size_of kind p → end ≡ 0 + length p → Stands 0 (p ++ q) (sized kind most size 0 end)
unfolding sized
sized_stands {kind} {p} f q r most size end m s e =
    let l = longest f q r in
    rw (m, s, e)
    (either (Stands 0 (p ++ q)) (leb (size_of kind p) (most_of kind)) _ _ (λ t. a_token l (leb-true _ _ t)) (λ t. a_token_too_long l (leb-false _ _ t)))

-- ---- words

word_stands : (b : ℕ) {l : List ℕ} → is_of Letters b ≡ true → Split WordBytes l → Stands 0 (b ∷ l) (word_token (b ∷ l) 0)
unfolding word_token reach
word_stands b e (split {p} a q n) =
    let r : run WordBytes (b ∷ (p ++ q)) ≡ suc (length p) = run_is (next {b = b} (rw e) a) q n in
    let z : 0 + suc (length p) - 0 ≡ suc (length p) = omega arith in
    let above = word_high (b ∷ p) in
    let no_string : eqb (word_kind (b ∷ p)) 34 ≡ false = ne_eqb (word_kind (b ∷ p)) 34 (omega arith) in
    let no_number : eqb (word_kind (b ∷ p)) 48 ≡ false = ne_eqb (word_kind (b ∷ p)) 48 (omega arith) in
    rw (r, z, take-append_seam p q)
    (sized_stands (a_word e a) q (rw e r) 64 (suc (length p)) (0 + suc (length p)) (rw (no_string, no_number)) (rw (no_string, no_number)) refl)

-- ---- strings

string_reach_lem : {p : List ℕ} → All StringBytes p → (q : List ℕ) → is_of StringBytes (get_or q 0 0) ≡ false
    → reach (34 ∷ (p ++ q)) ≡ cond (eqb (get_or q 0 0) 34) (suc (suc (length p))) 0
unfolding reach string_reach class_of
string_reach_lem {p} a q n = rw (run_is a q n, at_seam p q)

-- a byte that may not stand in a string, and is no quote
barred : (b : ℕ) → is_of StringBytes b ≡ false → eqb b 34 ≡ false → (b < 0x20) ⊎ (b ≡ 0x7f)
barred b e q = go (leb 0x20 b) refl (eqb b 0x7f) refl (rw q at e)
  where
    go : (t : Bool) → leb 0x20 b ≡ t → (u : Bool) → eqb b 0x7f ≡ u → (t && not u && true) ≡ false → (b < 0x20) ⊎ (b ≡ 0x7f)
    go true f true g h = inr (eqb-true b 0x7f g)
    go true f false g h = absurd (never (sym h))
    go false f u g h = inl (leb-false 0x20 b f)

string_stands : {l : List ℕ} → Split StringBytes l → Stands 0 (34 ∷ l) (string_token (34 ∷ l) 0)
unfolding string_token
string_stands (split {p} a [] n) =
    let r = string_reach_lem a [] n in
    rw (run_is a [] n, append-nil p, le-leb (suc (length p)) (1 + length p) (omega arith)) (unended (no_form (34 ∷ p) (rw (append-nil p) at r)) a)
string_stands (split {p} a (c ∷ q) n) =
    let size = length-append p (c ∷ q) in
    let longer : leb (length (34 ∷ (p ++ c ∷ q))) (1 + length p) ≡ false = lt-leb (length (34 ∷ (p ++ c ∷ q))) (1 + length p) (omega arith) in
    let behind : 1 + length p ≡ suc (length p) = omega arith in
    let here : get_or (34 ∷ (p ++ c ∷ q)) (1 + length p) 0 ≡ c = rw behind (at_seam p (c ∷ q)) in
    let r = string_reach_lem a (c ∷ q) n in
    rw (run_is a (c ∷ q) n, longer, here)
    (either (Stands 0 (34 ∷ (p ++ c ∷ q))) (eqb c 34) _ _ ended (λ t. bad_inside q (no_form (34 ∷ (p ++ c ∷ q)) (r ∙ rw t)) a (barred c n t)))
  where
    ended : eqb c 34 ≡ true → Stands 0 (34 ∷ (p ++ c ∷ q)) (sized 34 127 (1 + length p - 1) 0 (1 + length p + 1))
    ended t =
        let size = length-append p (34 ∷ []) in
        let split_up = append_assoc p (34 ∷ []) q in
        rw (eqb-true c 34 t, ← split_up)
        (sized_stands (a_string a) q (ap (λ (l : List ℕ). reach (34 ∷ l)) split_up ∙ (string_reach_lem a (34 ∷ q) refl ∙ omega arith)) 127 (1 + length p - 1) (1 + length p + 1) refl
        (omega arith) (omega arith))

-- ---- numbers

-- how many digits two lists have together, and digits alone
pub digits_append : (p q : List ℕ) → digits (p ++ q) ≡ digits p + digits q
unfolding digits
digits_append [] q = sym (zero-add (digits q))
digits_append (b ∷ p) q = go (is_of Digits b) (digits_append p q)
  where
    go : (t : Bool) → digits (p ++ q) ≡ digits p + digits q
        → cond t (suc (digits (p ++ q))) (digits (p ++ q)) ≡ cond t (suc (digits p)) (digits p) + digits q
    go true e = omega arith
    go false e = e

pub digits_all : {p : List ℕ} → All Digits p → digits p ≡ length p
unfolding digits
digits_all empty = refl
digits_all (next e a) = rw e (ap suc (digits_all a))

-- a point and digits, and what comes next
data Fraction : List ℕ → Type 0 where
  fraction : {f : List ℕ} → SomeDigits f → (r : List ℕ) → is_of Digits (get_or r 0 0) ≡ false → Fraction (46 ∷ (f ++ r))

split_fraction : {l : List ℕ} → Split Digits l → is_of Digits (get_or l 0 0) ≡ true → Fraction (46 ∷ l)
split_fraction (split empty q n) e = absurd (never (sym n ∙ e))
split_fraction (split (next d a) q n) e = fraction (digits_from d a) q n

has_fraction_lem : (l : List ℕ) → has_fraction l ≡ true → Fraction l
has_fraction_lem [] e = absurd (never e)
has_fraction_lem (c ∷ l) e = rw (eqb-true c 46 (and_left _ _ e)) (split_fraction (split_run Digits l) (and_right (eqb c 46) _ e))

-- what may stand before a number's digits
data Sign : List ℕ → Type 0 where
  no_sign : Sign []
  minus_sign : Sign (45 ∷ [])

sign_form : {sign l : List ℕ} → Sign sign → Unsigned l → Form 48 (sign ++ l)
sign_form no_sign u = a_number (signless u)
sign_form minus_sign u = a_number (minus u)

sign_digits : {sign : List ℕ} → Sign sign → digits sign ≡ 0
unfolding digits class_of
sign_digits no_sign = refl
sign_digits minus_sign = refl

sign_reach : {sign : List ℕ} → Sign sign → (l : List ℕ) → is_of Digits (get_or l 0 0) ≡ true → reach (sign ++ l) ≡ length sign + digits_reach l
unfolding reach class_of
sign_reach no_sign l e = reach_digits l e ∙ sym (zero-add (digits_reach l))
sign_reach minus_sign l e = rw e (omega arith)

module _ {sign w : List ℕ} (g : Sign sign) (s : SomeDigits w) where
  number_reach : (q : List ℕ) → is_of Digits (get_or q 0 0) ≡ false → reach (sign ++ (w ++ q)) ≡ length sign + (length w + fraction_reach q)
  unfolding digits_reach
  number_reach q n = sign_reach g (w ++ q) (some_first s q) ∙ rw (run_is (some_all s) q n, drop-append_seam w q)

  whole_stands : (q : List ℕ) → is_of Digits (get_or q 0 0) ≡ false → has_fraction q ≡ false
      → Stands 0 (sign ++ w ++ q) (sized 48 15 (length (sign ++ w) - length sign) 0 (length (sign ++ w)))
  whole_stands q n e =
      let long = length-append sign w in
      let r : reach (sign ++ w ++ q) ≡ length (sign ++ w) = ap reach (append_assoc sign w q) ∙ (number_reach q n ∙ rw e (omega arith)) in
      sized_stands (sign_form g (whole s)) q r 15 (length (sign ++ w) - length sign) (length (sign ++ w)) refl
      (omega (arith, digits_append sign w, sign_digits g, digits_all (some_all s))) (omega arith)

  fraction_stands : {q : List ℕ} → Fraction q
      → Stands 0 (sign ++ w ++ q)
      (sized 48 15 (length (sign ++ w) + 1 + run Digits (drop 1 q) - length sign - 1) 0 (length (sign ++ w) + 1 + run Digits (drop 1 q)))
  unfolding digits class_of
  fraction_stands (fraction {f} t r n) =
      let long = length-append sign w in
      let longer = length-append sign (w ++ 46 ∷ f) in
      let behind = length-append w (46 ∷ f) in
      let split_up : sign ++ w ++ 46 ∷ (f ++ r) ≡ sign ++ (w ++ 46 ∷ f) ++ r = simp append_assoc in
      let d : run Digits (f ++ r) ≡ length f = run_is (some_all t) r n in
      let far : reach (sign ++ (w ++ 46 ∷ f) ++ r) ≡ length (sign ++ (w ++ 46 ∷ f)) =
      ap reach (sym split_up ∙ append_assoc sign w (46 ∷ (f ++ r))) ∙ (number_reach (46 ∷ (f ++ r)) refl ∙ rw (some_first t r, d) (omega arith)) in
      rw (split_up, d)
      (sized_stands (sign_form g (pointed s t)) r far 15 (length (sign ++ w) + 1 + length f - length sign - 1) (length (sign ++ w) + 1 + length f) refl
      (omega (arith, digits_append sign (w ++ 46 ∷ f), sign_digits g, digits_append w (46 ∷ f), digits_all (some_all s), digits_all (some_all t))) (omega arith))

  number_stands : (q : List ℕ) → is_of Digits (get_or q 0 0) ≡ false → Stands 0 (sign ++ (w ++ q)) (number_token (sign ++ (w ++ q)) 0 (length sign))
  unfolding number_token
  number_stands q n =
      let r : run Digits (w ++ q) ≡ length w = run_is (some_all s) q n in
      let size : length sign + length w ≡ length (sign ++ w) = sym (length-append sign w) in
      rw (drop-append_seam sign (w ++ q), r, size, ← append_assoc sign w q)
      (rw (at_seam (sign ++ w) q, get_or-append-add (sign ++ w) q 1 0, drop-append-add (sign ++ w) q 1)
      (either (Stands 0 (sign ++ w ++ q)) (has_fraction q) _ _ (λ e. fraction_stands (has_fraction_lem q e)) (whole_stands q n)))

-- a number at its first digit
digits_stand : {sign l : List ℕ} → Sign sign → Split Digits l → is_of Digits (get_or l 0 0) ≡ true → Stands 0 (sign ++ l) (number_token (sign ++ l) 0 (length sign))
digits_stand g (split empty q n) e = absurd (never (sym n ∙ e))
digits_stand g (split (next d a) q n) e = number_stands g (digits_from d a) q n

-- ---- marks

-- a test that each byte of the class of the marks passes, which `refl` shows
byte_passes : (test : ℕ → Bool) → every test mark_bytes ≡ true → (b : ℕ) → eqb (class_of b) mark ≡ true → test b ≡ true
byte_passes test v b e = one_passes test mark_bytes b v ((told_by_class b).1 e)

-- two bytes that are a mark
pair_stands : {kind : ℕ} (b c : ℕ) (l : List ℕ) → Among marks kind (b ∷ c ∷ []) → reach (b ∷ l) ≡ 2 → get_or l 0 0 ≡ c → c ≢ 0 → Stands 0 (b ∷ l) (token kind 0 2)
pair_stands b c [] m r e n = absurd (n (sym e))
pair_stands b c (x ∷ l) m r e n = rw e (a_token (longest (a_mark m) l (rw e at r)) (mark_small m))

module _ (b : ℕ) (class : eqb (class_of b) mark ≡ true) where
  doubled_listed : doubled b ≡ true → Among marks b (b ∷ b ∷ [])
  unfolding every is_among marks same
  doubled_listed d =
      let passed = byte_passes (λ (b : ℕ). not (doubled b) || is_among marks b (b ∷ b ∷ [])) refl b class in
      is_among_lem marks b (b ∷ b ∷ []) (rw d at passed)

  equals_listed : before_equals b ≡ true → Among marks (b + 128) (b ∷ 61 ∷ [])
  unfolding every is_among marks same
  equals_listed d =
      let passed = byte_passes (λ (b : ℕ). not (before_equals b) || is_among marks (b + 128) (b ∷ 61 ∷ [])) refl b class in
      is_among_lem marks (b + 128) (b ∷ 61 ∷ []) (rw d at passed)

  no_colon : b ≢ 58
  unfolding class_of
  no_colon e = never (rw e at class)

  module _ (no_quote : eqb b 34 ≡ false) (no_minus : eqb b 45 ≡ false) where
    single_listed : doubled b ≡ false → eqb b 95 ≡ false → Among marks b (b ∷ [])
    unfolding every is_among marks same
    single_listed d u =
        let passed = byte_passes (λ (b : ℕ). eqb b 34 || (eqb b 45 || (doubled b || (eqb b 95 || is_among marks b (b ∷ []))))) refl b class in
        is_among_lem marks b (b ∷ []) (rw (no_quote, no_minus, d, u) at passed)

    mark_far : (l : List ℕ) → reach (b ∷ l) ≡ mark_reach b (get_or l 0 0)
    unfolding reach
    mark_far l = rw (eqb-true (class_of b) mark class, no_quote, no_minus)

    mark_stands : (l : List ℕ) → Stands 0 (b ∷ l) (mark_token 0 b (get_or l 0 0))
    unfolding mark_token mark_reach
    mark_stands l =
        let P = Stands 0 (b ∷ l) in
        let c = get_or l 0 0 in
        let none : reach (b ∷ l) ≡ 0 → P (bad_byte_token 0) = λ e. bad_byte (no_form (b ∷ l) e) no_colon (eqb-false b 34 no_quote) in
        either P (doubled b) _ _
        (λ d.
        either P (eqb c b) _ _
        (λ e. pair_stands b b l (doubled_listed d) (mark_far l ∙ rw (d, e)) (eqb-true c b e) (λ z. never (rw z at d)))
        (λ e. none (mark_far l ∙ rw (d, e))))
        (λ d.
        either P (before_equals b && eqb c 61) _ _
        (λ e.
        pair_stands b 61 l (equals_listed (and_left _ _ e)) (mark_far l ∙ rw (d, e)) (eqb-true c 61 (and_right (before_equals b) _ e)) (omega arith))
        (λ e.
        either P (eqb b 95) _ _ (λ u. none (mark_far l ∙ rw (d, e, u)))
        (λ u. let m = single_listed d u in a_token (longest (a_mark m) l (mark_far l ∙ rw (d, e, u))) (mark_small m))))

-- ---- the token at the beginning of a list

minus_stands : (l : List ℕ) → Stands 0 (45 ∷ l) (cond (is_of Digits (get_or l 0 0)) (number_token (45 ∷ l) 0 1) (bad_byte_token 0))
unfolding reach class_of
minus_stands l =
    either (Stands 0 (45 ∷ l)) (is_of Digits (get_or l 0 0)) _ _ (digits_stand minus_sign (split_run Digits l))
    (λ e. bad_byte (no_form (45 ∷ l) (rw e)) (omega arith) (omega arith))

token_stands : (l : List ℕ) → Stands 0 l (token_from l 0)
unfolding reach mark_at class_of
token_stands [] = end_of_text
token_stands (b ∷ l) =
    let P = Stands 0 (b ∷ l) in
    rw (lt-leb (suc (length l)) 0 (omega arith))
    (either P (eqb (class_of b) letter) _ _ (λ e. word_stands b e (split_run WordBytes l))
    (λ nl.
    either P (eqb (class_of b) digit) _ _ (λ e. digits_stand no_sign (split_run Digits (b ∷ l)) e)
    (λ nd.
    either P (eqb (class_of b) mark) _ _
    (λ class.
    either P (eqb b 34) _ _ (λ e. rw (eqb-true b 34 e) (string_stands (split_run StringBytes l)))
    (λ no_quote.
    either P (eqb b 45) _ _ (λ e. rw (eqb-true b 45 e) (minus_stands l))
    (λ no_minus. mark_stands b class no_quote no_minus l)))
    (λ nm.
    let none : NoForm (b ∷ l) = no_form (b ∷ l) (rw (nl, nd, nm)) in
    either P (eqb b 58) _ _ (λ e. rw (eqb-true b 58 e) (a_colon (rw (eqb-true b 58 e) at none))) (λ e. bad_byte none (eqb-false b 58 e) (other_quote nm))))))
  where
    other_quote : eqb (class_of b) mark ≡ false → b ≢ 34
    other_quote nm e = never (sym (rw e at nm))

-- the same, further on in a text
stands_further : {start : ℕ} {l : List ℕ} {t : Token} (n : ℕ) → Stands start l t → Stands (n + start) l (further n t)
unfolding further
stands_further n end_of_text = end_of_text
stands_further n (a_token f h) = simp (← add_assoc) (a_token f h)
stands_further n (a_token_too_long f h) = simp (← add_assoc) (a_token_too_long f h)
stands_further n (a_colon f) = simp (← add_assoc) (a_colon f)
stands_further n (bad_byte f c q) = simp (← add_assoc) (bad_byte f c q)
stands_further n (unended f a) = simp (← add_assoc) (unended f a)
stands_further n (bad_inside l f a o) = simp (← add_assoc) (bad_inside l f a o)

stands_behind : (text : List ℕ) (at : ℕ) → at ≤ length text → {l : List ℕ} → drop at text ≡ l → Split Blanks l → StandsAt text at (token_at text at)
unfolding token_at
stands_behind text at h e (split {p} a q n) =
    let pre = take at text ++ p in
    let start = at + length p in
    let parts : text ≡ pre ++ q = sym (take-append-drop at text) ∙ (ap (λ (l : List ℕ). take at text ++ l) e ∙ sym (append_assoc (take at text) p q)) in
    let size : length pre ≡ start = length-append (take at text) p ∙ ap (λ (n : ℕ). n + length p) (length-take-le at text h) in
    let place : run_end Blanks text at ≡ start = ap (λ (l : List ℕ). at + run Blanks l) e ∙ ap (λ (n : ℕ). at + n) (run_is a q n) in
    let here : token_from text start ≡ further start (token_from q 0) =
    ap (λ (l : List ℕ). token_from l start) parts
    ∙ (ap (token_from (pre ++ q)) (sym size ∙ sym (add-zero (length pre))) ∙ (from_further pre q 0 ∙ ap (λ (n : ℕ). further n (token_from q 0)) size)) in
    let stands : Stands (start + 0) q (further start (token_from q 0)) = stands_further start (token_stands q) in
    record {
      blanks = p;
      rest = q;
      parts = e;
      passed = a;
      no_blank = n;
      stands = subst (Stands start q) (sym (ap (token_from text) place ∙ here)) (rw (add-zero start) at stands);
    }

-- the token reader reads the longest possible token: its token, or its refusal, is the one that document 01 has at that place
pub longest_token : (text : List ℕ) (at : ℕ) → at ≤ length text → StandsAt text at (token_at text at)
longest_token text at h = stands_behind text at h refl (split_run Blanks (drop at text))

-- ---- one token

-- what stands where a form begins
accepted : {start kind : ℕ} {p l : List ℕ} {t : Token} → Longest kind p l → Stands start l t → t ≡ sized kind (most_of kind) (size_of kind p) start (start + length p)
unfolding sized reach
accepted f end_of_text = absurd ((no_form [] refl).none f.form f.begins)
accepted f (a_token {kind} {p} g h) = let e = one_longest f g in rw (e.0, e.1, le-leb (size_of kind p) (most_of kind) h)
accepted f (a_token_too_long {kind} {p} g h) = let e = one_longest f g in rw (e.0, e.1, lt-leb (size_of kind p) (most_of kind) h)
accepted f (a_colon n) = absurd (n.none f.form f.begins)
accepted f (bad_byte n c q) = absurd (n.none f.form f.begins)
accepted f (unended n a) = absurd (n.none f.form f.begins)
accepted f (bad_inside l n a o) = absurd (n.none f.form f.begins)

-- what stands where none does
refusal : ℕ → List ℕ → Token
refusal start [] = token 0 start start
refusal start (b ∷ l) =
    cond (eqb b 34)
    (cond (leb (length l) (run StringBytes l)) (token 5 start (start + 1 + run StringBytes l)) (bad_byte_token (start + 1 + run StringBytes l)))
    (cond (eqb b 58) (token 4 start (start + 1)) (bad_byte_token start))

not_inside : (b : ℕ) → (b < 0x20) ⊎ (b ≡ 0x7f) → is_of StringBytes b ≡ false
not_inside b (inl h) = rw (lt-leb 0x20 b h)
not_inside b (inr e) = rw e

refused : {start : ℕ} {l : List ℕ} {t : Token} → NoForm l → Stands start l t → t ≡ refusal start l
unfolding refusal
refused n end_of_text = refl
refused n (a_token f h) = absurd (n.none f.form f.begins)
refused n (a_token_too_long f h) = absurd (n.none f.form f.begins)
refused n (a_colon f) = refl
refused n (bad_byte {b} f c q) = rw (ne_eqb b 34 q, ne_eqb b 58 c)
refused n (unended {inside} f a) =
    let r = rw (append-nil inside) at (run_is a [] refl) in rw (r, le-leb (length inside) (length inside) (omega arith))
refused n (bad_inside {inside} {b} l f a o) =
    rw (run_is a (b ∷ l) (not_inside b o), lt-leb (length (inside ++ b ∷ l)) (length inside) (omega (arith, length-append inside (b ∷ l))))

one_stands : {start : ℕ} {l : List ℕ} {t u : Token} → Stands start l t → Stands start l u → t ≡ u
unfolding reach refusal
one_stands end_of_text e = sym (refused (no_form [] refl) e)
one_stands (a_token f h) e = accepted f (a_token f h) ∙ sym (accepted f e)
one_stands (a_token_too_long f h) e = accepted f (a_token_too_long f h) ∙ sym (accepted f e)
one_stands (a_colon n) e = refused n (a_colon n) ∙ sym (refused n e)
one_stands (bad_byte n c q) e = refused n (bad_byte n c q) ∙ sym (refused n e)
one_stands (unended n a) e = refused n (unended n a) ∙ sym (refused n e)
one_stands (bad_inside l n a o) e = refused n (bad_inside l n a o) ∙ sym (refused n e)

behind_blanks : (text : List ℕ) (at : ℕ) {t : Token} → StandsAt text at t → Stands (run_end Blanks text at) (drop (run Blanks (drop at text)) (drop at text)) t
behind_blanks text at s =
    let size : run Blanks (drop at text) ≡ length s.blanks = ap (run Blanks) s.parts ∙ run_is s.passed s.rest s.no_blank in
    rw (size, s.parts, drop-append_seam s.blanks s.rest) s.stands

-- two tokens that may stand at one place are one token, or one refusal
pub one_token : (text : List ℕ) (at : ℕ) (t u : Token) → StandsAt text at t → StandsAt text at u → t ≡ u
one_token text at t u s v = one_stands (behind_blanks text at s) (behind_blanks text at v)
