-- The number of a refusal is the lowest of the rows that apply to the token. Assumes nothing.
use mathlib.Core.Path.{◌≡◌, refl, sym, ◌∙◌}
use mathlib.Core.Logic.{inl, inr, ⊎_elim}
use mathlib.Core.Bool.{Bool, true, false, cond, ◌&&◌, ◌||◌}
use mathlib.Core.List.{List, [], ◌∷◌, ◌++◌, reverse, append_cancel_right}
use Prim.Native.Nat.{ℕ, ◌+◌, ◌≤◌, ◌<◌}
use native.Mathlib.Omega.{arith}
use lib.Dec.{eqb, ltb}
use borrow.Author.Tests.{eqb-true, eq-eqb, ne_eqb, ltb-true, ltb-false, lt-ltb}
use Rattle.tokens.specs.Kinds as kinds
use Rattle.tokens.specs.Sizes.{most_literals}
use Rattle.reading.specs.Lexemes.{Lexeme, is}
use Rattle.reading.specs.Reader.{Answer, took, refuse}
use Rattle.reading.proofs.Readers.{goes_took}
use Rattle.grammar.specs.Policies.{Policy}
use Rattle.grammar.specs.Rules.{is_effect, is_reserved, ends_bare, deepens, is_text}
use Rattle.grammar.specs.Parser.{read_text}
use Rattle.grammar.specs.Numbers.{at_name, after_left, at_type, at_condition, at_pattern, after_policy, after_action, one_more, at_text, number_of_token, number_of_first, NumberedRightly}
use Rattle.grammar.specs.Promise.{Sofar, RefusedRightly, OnePlace}
use Rattle.grammar.specs.Lowest.{Admitted, Applies, no_token, reserved, bare, no_type, not_admitted, limit, AppliesAt, token, end, NumberedLowest, rank, OneNumber, RefusedBy, TokensRefusedExactly}
use Rattle.grammar.proofs.Viable.{viable_text}
use Rattle.grammar.proofs.Theorems.{refused_rightly, no_text_refused, one_place}
use Rattle.grammar.proofs.Excess.{goes_on_nowhere}
use Rattle.grammar.proofs.Numbered.{numbered_rightly}
use Rattle.grammar.proofs.Admitting.{less_under, goes_on_else, name_stands, stands_name, type_stands, stands_type, left_stands, stands_left}

-- ---- the rows of numberOf

-- what a number of the table says of the place and the token
data Row (c : List Lexeme) (x : Lexeme) : ℕ → Type 0 where
  own : x.kind < 7 → Row c x x.kind
  seven : at_name c ≡ true → is_reserved x ≡ true → Row c x 7
  eight : after_left c ≡ true → ends_bare x ≡ true → Row c x 8
  nine : at_type c ≡ true → is kinds.name x ≡ true → Row c x 9
  ten : Row c x 10
  limited : {n : ℕ} → 11 ≤ n → n ≤ 17 → Row c x n

-- a test of two, and else what holds of the next row
either_row : {c : List Lexeme} {x : Lexeme} (a b : Bool) (n m : ℕ) → (a ≡ true → b ≡ true → Row c x n) → Row c x m → Row c x (cond (a && b) n m)
either_row true true n m f h = f refl refl
either_row true false n m f h = h
either_row false b n m f h = h

limit_row : {c : List Lexeme} {x : Lexeme} (a : Bool) (n m : ℕ) → 11 ≤ n → n ≤ 17 → Row c x m → Row c x (cond a n m)
limit_row true n m l k h = limited l k
limit_row false n m l k h = h

own_row : {c : List Lexeme} (x : Lexeme) (m : ℕ) → Row c x m → Row c x (cond (ltb x.kind 7) x.kind m)
own_row {c = c} x m h = go (ltb x.kind 7) refl
  where
    go : (o : Bool) → ltb x.kind 7 ≡ o → Row c x (cond o x.kind m)
    go true e = own (ltb-true _ _ e)
    go false e = h

row_of : (c : List Lexeme) (x : Lexeme) → Row c x (number_of_token c x)
unfolding number_of_token
row_of c x =
    own_row x _
    (either_row (at_name c) (is_reserved x) 7 _ seven
    (either_row (after_left c) (ends_bare x) 8 _ eight
    (either_row (at_type c) (is kinds.name x) 9 _ nine
    (limit_row (at_name c && is kinds.name x && after_action c) 11 _ (omega arith) (omega arith)
    (limit_row (at_condition c && deepens x) 12 _ (omega arith) (omega arith)
    (limit_row (one_more most_literals c x) 14 _ (omega arith) (omega arith)
    (limit_row (after_policy c && is_effect x) 15 _ (omega arith) (omega arith)
    (limit_row (at_name c && is kinds.name x) 16 _ (omega arith) (omega arith)
    (limit_row (at_pattern c && is kinds.string x && is_text x) 13 _ (omega arith) (omega arith)
    (limit_row ((at_condition c || at_pattern c || at_text c) && is kinds.string x) 17 10 (omega arith) (omega arith) ten))))))))))

-- a row that applies bounds the number
first_bound : (x : Lexeme) (m n : ℕ) → 6 ≤ n → m ≤ n → cond (ltb x.kind 7) x.kind m ≤ n
first_bound x m n l k = go (ltb x.kind 7) refl
  where
    go : (o : Bool) → ltb x.kind 7 ≡ o → cond o x.kind m ≤ n
    go true e = let y = ltb-true x.kind 7 e in omega arith
    go false e = k

next_bound : (a : Bool) (l m n : ℕ) → l ≤ n → m ≤ n → cond a l m ≤ n
next_bound true l m n h k = h
next_bound false l m n h k = k

module _ (c : List Lexeme) (x : Lexeme) where
  own_bound : x.kind < 7 → number_of_token c x ≤ x.kind
  unfolding number_of_token
  own_bound l = rw (lt-ltb x.kind 7 l) (omega arith)

  seven_bound : at_name c ≡ true → is_reserved x ≡ true → number_of_token c x ≤ 7
  unfolding number_of_token
  seven_bound e f = first_bound x _ 7 (omega arith) (rw (e, f) (omega arith))

  eight_bound : after_left c ≡ true → ends_bare x ≡ true → number_of_token c x ≤ 8
  unfolding number_of_token
  eight_bound e f = first_bound x _ 8 (omega arith) (next_bound (at_name c && is_reserved x) 7 _ 8 (omega arith) (rw (e, f) (omega arith)))

  nine_bound : at_type c ≡ true → x.kind ≡ kinds.name → number_of_token c x ≤ 9
  unfolding number_of_token
  nine_bound e f =
      first_bound x _ 9 (omega arith)
      (next_bound (at_name c && is_reserved x) 7 _ 9 (omega arith)
      (next_bound (after_left c && ends_bare x) 8 _ 9 (omega arith) (rw (e, eq-eqb x.kind kinds.name f) (omega arith))))

-- ---- the order of the numbers

rank_is : (n : ℕ) → n < 13 → rank n ≡ n
rank_is n l = rw (ne_eqb n 13 (λ q. omega arith))

-- numbers up to 12 go in their own order
in_order : (n m : ℕ) → n ≤ m → m < 13 → rank n ≤ rank m
in_order n m l h = rw (rank_is n (omega arith), rank_is m h) l

rank_high : (n : ℕ) → n ≤ 17 → n ≤ rank n
rank_high n l = go (eqb n 13) refl
  where
    go : (o : Bool) → eqb n 13 ≡ o → n ≤ rank n
    go true e = rw e (omega arith)
    go false e = rw e (omega arith)

-- what a limit goes before is a limit
behind_limit : (m n : ℕ) → 11 ≤ m → m ≤ 17 → rank m < rank n → 11 ≤ n
behind_limit m n l h d = go (ltb n 11) refl
  where
    go : (o : Bool) → ltb n 11 ≡ o → 11 ≤ n
    go true e = let k = ltb-true n 11 e in let r = rank_is n (omega arith) in let s = rank_high m h in omega (arith, d, r, s)
    go false e = ltb-false n 11 e

-- 18 is no number of the table, so one rank has one number
one_rank : (n m : ℕ) → n ≤ 17 → m ≤ 17 → rank n ≡ rank m → n ≡ m
one_rank n m l h e = go (eqb n 13) (eqb m 13) refl refl
  where
    go : (o p : Bool) → eqb n 13 ≡ o → eqb m 13 ≡ p → n ≡ m
    go true true q r = eqb-true n 13 q ∙ sym (eqb-true m 13 r)
    go true false q r = absurd (let f : 18 ≡ m = rw (q, r) at e in omega arith)
    go false true q r = absurd (let f : n ≡ 18 = rw (q, r) at e in omega arith)
    go false false q r = rw (q, r) at e

-- ---- the theorem

module _ (b : List Lexeme) (x : Lexeme) (s : List Lexeme) (n : ℕ) (e : read_text (b ++ x ∷ s) ≡ refuse n (x ∷ s)) (q : n ≡ number_of_token (reverse b) x) where
  -- what stands before x breaks no rule
  alive : Sofar b
  unfolding RefusedRightly
  alive =
      let w = refused_rightly (b ++ x ∷ s) (x ∷ s) n e in
      let same : b ≡ w.before = append_cancel_right b w.before (x ∷ s) w.split in
      rw (← same) at w.alive

  none_admitted : n < 11 → ¬ Admitted b x
  none_admitted l a = goes_on_nowhere (λ m. ⊥) b x s n e (inl l) a.under

  is_admitted : 11 ≤ n → Admitted b x
  is_admitted l = record { under = less_under (λ m a. absurd a) (goes_on_else b x s n e l) }

  applies : {m : ℕ} → n ≡ m → Row (reverse b) x m → Applies b x m
  applies p (own l) = no_token l
  applies p (seven c t) = reserved (none_admitted (omega arith)) (name_stands b alive c) t
  applies p (eight c t) = bare (none_admitted (omega arith)) (left_stands b alive c) t
  applies p (nine c t) = no_type (none_admitted (omega arith)) (type_stands b alive c) (eqb-true _ _ t)
  applies p ten = not_admitted (none_admitted (omega arith))
  applies {m = m} p (limited l h) = limit l h (is_admitted (omega arith)) (λ k. goes_on_nowhere (λ j. j ≡ m) b x s n e (inr p) k.under)

  least : (m : ℕ) → Applies b x m → rank n ≤ rank m
  least m (no_token l) = let y = own_bound (reverse b) x l in in_order n x.kind (omega arith) (omega arith)
  least m (reserved f c t) = let y = seven_bound (reverse b) x (stands_name b c) t in in_order n 7 (omega arith) (omega arith)
  least m (bare f c t) = let y = eight_bound (reverse b) x (stands_left b c) t in in_order n 8 (omega arith) (omega arith)
  least m (no_type f c t) =
      ⊎_elim (λ k. absurd (f ((name_stands b alive k).any_name x t))) (λ k. let y = nine_bound (reverse b) x k t in in_order n 9 (omega arith) (omega arith)) (stands_type b c)
  least m (not_admitted f) = in_order n 10 (go (ltb 10 n) refl) (omega arith)
    where
      go : (o : Bool) → ltb 10 n ≡ o → n ≤ 10
      go true d = absurd (f (is_admitted (ltb-true 10 n d)))
      go false d = ltb-false 10 n d
  least m (limit l h a k) = go (ltb (rank m) (rank n)) refl
    where
      go : (o : Bool) → ltb (rank m) (rank n) ≡ o → rank n ≤ rank m
      go true d = let y = ltb-true (rank m) (rank n) d in absurd (k (record { under = less_under (λ j g. rw g y) (goes_on_else b x s n e (behind_limit m n l h y)) }))
      go false d = ltb-false (rank m) (rank n) d

pub numbered_lowest : NumberedLowest
unfolding NumberedLowest NumberedRightly number_of_first
numbered_lowest b [] n e = rw (numbered_rightly b [] n e) (record { applies = end; least = λ m h. at_end m h })
  where
    at_end : (m : ℕ) → AppliesAt b [] m → rank 10 ≤ rank m
    at_end m end = omega arith
numbered_lowest b (x ∷ s) n e = record { applies = token own_row_applies; least = λ m h. at_token m h }
  where
    q : n ≡ number_of_token (reverse b) x
    q = numbered_rightly b (x ∷ s) n e

    own_row_applies : Applies b x n
    own_row_applies = rw q (applies b x s n e q q (row_of (reverse b) x))

    at_token : (m : ℕ) → AppliesAt b (x ∷ s) m → rank n ≤ rank m
    at_token m (token h) = least b x s n e q m h

pub one_number : OneNumber
unfolding OneNumber
one_number b r n m h k = let x = h.least m k.applies in let y = k.least n h.applies in one_rank n m (table_number h.applies) (table_number k.applies) (omega (arith, x, y))
  where
    row_number : {x : Lexeme} {n : ℕ} → Applies b x n → n ≤ 17
    row_number (no_token l) = omega arith
    row_number (reserved f c t) = omega arith
    row_number (bare f c t) = omega arith
    row_number (no_type f c t) = omega arith
    row_number (not_admitted f) = omega arith
    row_number (limit l h a k) = h

    table_number : {r : List Lexeme} {n : ℕ} → AppliesAt b r n → n ≤ 17
    table_number (token a) = row_number a
    table_number end = omega arith

-- ---- refusal, exactly

pub tokens_refused_exactly : TokensRefusedExactly
unfolding TokensRefusedExactly NumberedLowest OneNumber OnePlace RefusedRightly
tokens_refused_exactly i r n = (by, λ t. back t (read_text i) refl)
  where
    by : read_text i ≡ refuse n r → RefusedBy i r n
    by e = let w = refused_rightly i r n e in record { rightly = w; lowest = numbered_lowest w.before r n (rw (← w.split) e) }

    back : RefusedBy i r n → (y : Answer (List Policy)) → read_text i ≡ y → read_text i ≡ refuse n r
    back t (took ps q) e = absurd (no_text_refused i r ps t.rightly (goes_took (rw e at (viable_text 0 i))).1)
    back t (refuse m q) e =
        let p : q ≡ r = one_place i q r (refused_rightly i q m e) t.rightly in
        let d : read_text i ≡ refuse m r = e ∙ rw p in
        let k : m ≡ n = one_number t.rightly.before r m n (numbered_lowest t.rightly.before r m (rw (← t.rightly.split) d)) t.lowest in
        d ∙ rw k
