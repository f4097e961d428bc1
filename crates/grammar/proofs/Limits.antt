-- The number of each limit, by the token that breaks it, and what goes on where a limit refuses. Assumes nothing.
use mathlib.Core.Path.{◌≡◌, refl, sym, ap, ◌∙◌}
use mathlib.Core.Bool.{Bool, true, false, cond, ◌||◌}
use mathlib.Core.List.{List, ◌∷◌}
use Prim.Native.Nat.{ℕ, zero, suc, ◌≤◌, ◌<◌}
use native.Mathlib.Omega.{arith}
use lib.Dec.{ltb}
use lib.ListN.{length}
use borrow.Author.Tests.{ltb-true}
use Rattle.tokens.specs.Kinds as kinds
use Rattle.tokens.proofs.TokenLaws.{never}
use Rattle.reading.specs.Lexemes.{Lexeme, is}
use Rattle.reading.specs.Reader.{numbered, refuse_by}
use Rattle.reading.proofs.Local.{same}
use Rattle.reading.proofs.Readers.{Goes, goes_refuse_by, number_below}
use Rattle.tokens.specs.Sizes.{most_literals}
use Rattle.grammar.specs.Policies.{Root, Root.Principal, Root.Resource, Root.Env, Root.Action, Literal}
use Rattle.grammar.specs.Rules.{is_effect, is_reserved, is_literal, ends_bare, deepens, is_text}
use Rattle.grammar.specs.Grammar.{Limit, a_name, a_pattern, a_string, a_literal, a_policy, path_number, limit_number}
use Rattle.grammar.specs.Lowest.{rank}
use Rattle.grammar.specs.Parser.{no_name, no_operator, no_type, no_text, no_level, no_pattern, no_element, no_policy}
use Rattle.grammar.proofs.Begun.{made, Exempt, Kept, few}

-- ---- the number of each limit

-- a test that no kind of what is no token passes
abbrev Tokens : (ℕ → Bool) → Type 0
Tokens test =
    (test 0 ≡ false) × (test 1 ≡ false) × (test 2 ≡ false) × (test 3 ≡ false) × (test 4 ≡ false) × (test 5 ≡ false) × (test 6 ≡ false)

is_token : (test : ℕ → Bool) → Tokens test → (k : ℕ) → test k ≡ true → ltb k 7 ≡ false
is_token test f k t = go (ltb k 7) refl
  where
    no : (k : ℕ) → k < 7 → test k ≡ true → ⊥
    no zero l t = never (sym f.0 ∙ t)
    no (suc zero) l t = never (sym f.1 ∙ t)
    no (suc (suc zero)) l t = never (sym f.2 ∙ t)
    no (suc (suc (suc zero))) l t = never (sym f.3 ∙ t)
    no (suc (suc (suc (suc zero)))) l t = never (sym f.4 ∙ t)
    no (suc (suc (suc (suc (suc zero))))) l t = never (sym f.5 ∙ t)
    no (suc (suc (suc (suc (suc (suc zero)))))) l t = never (sym f.6 ∙ t)
    no (suc (suc (suc (suc (suc (suc (suc k))))))) l t = omega arith

    go : (b : Bool) → ltb k 7 ≡ b → ltb k 7 ≡ false
    go true e = absurd (no k (ltb-true _ _ e) t)
    go false e = e

pub name_number : (root : Root) (x : Lexeme) → x.kind ≡ kinds.name → numbered (no_name root) x ≡ path_number root
unfolding numbered no_name
name_number root x e = rw e

path_limit : (root : Root) → 11 ≤ path_number root
path_limit Principal = omega arith
path_limit Resource = omega arith
path_limit Env = omega arith
path_limit Action = omega arith

-- limits have the numbers from 11 on
pub limit_low : (l : Limit) → 11 ≤ limit_number l
limit_low (a_name root used x) = path_limit root
limit_low (a_pattern x) = omega arith
limit_low (a_string x) = omega arith
limit_low (a_literal k) = omega arith
limit_low (a_policy k) = omega arith

pub string_number : (x : Lexeme) → is kinds.string x ≡ true → numbered no_pattern x ≡ cond (is_text x) 13 17
unfolding numbered no_pattern
string_number x t = rw (is_token (λ k. is kinds.string (made k)) (refl, refl, refl, refl, refl, refl, refl) x.kind t, t)

pub text_number : (x : Lexeme) → is kinds.string x ≡ true → numbered no_text x ≡ 17
unfolding numbered no_text
text_number x t = rw (is_token (λ k. is kinds.string (made k)) (refl, refl, refl, refl, refl, refl, refl) x.kind t, t)

pub literal_number : (sort : Lexeme → Bool) (ls : List Literal) (x : Lexeme) → is_literal x ≡ true → sort x ≡ true → numbered (no_element sort ls) x ≡ cond (ltb (length ls) most_literals) 17 14
unfolding numbered no_element
literal_number sort ls x t e = rw (is_token (λ k. is_literal (made k)) (refl, refl, refl, refl, refl, refl, refl) x.kind t, e)

pub effect_number : (x : Lexeme) → is_effect x ≡ true → numbered no_policy x ≡ 15
unfolding numbered no_policy
effect_number x t = rw (is_token (λ k. is_effect (made k)) (refl, refl, refl, refl, refl, refl, refl) x.kind t, t)

pub level_number : (x : Lexeme) → deepens x ≡ true → numbered no_level x ≡ 12
unfolding numbered no_level
level_number x t = rw (is_token (λ k. deepens (made k)) (refl, refl, refl, refl, refl, refl, refl) x.kind t, t)

-- where no level is left, a token is refused by the levels, or by the string
abbrev pub level_or_text : Lexeme → Bool
level_or_text x = deepens x || is kinds.string x

pub level_or_text_lem : (x : Lexeme) → level_or_text x ≡ true → numbered no_level x ≡ cond (deepens x) 12 17
unfolding numbered no_level no_text
level_or_text_lem x t = go (deepens x) refl
  where
    go : (d : Bool) → deepens x ≡ d → numbered no_level x ≡ cond (deepens x) 12 17
    go true e = rw (is_token (λ k. level_or_text (made k)) (refl, refl, refl, refl, refl, refl, refl) x.kind t, e)
    go false e = let s : is kinds.string x ≡ true = rw e at t in rw (is_token (λ k. level_or_text (made k)) (refl, refl, refl, refl, refl, refl, refl) x.kind t, e, s)

-- ---- other numbers

one_below : (b : Bool) (m n : ℕ) → m < 11 → n < 11 → cond b m n < 11
one_below true m n l k = l
one_below false m n l k = k

pub bare_below : (x : Lexeme) → no_operator x < 11
unfolding no_operator
bare_below x = one_below (ends_bare x) 8 10 (omega arith) (omega arith)

pub type_below : (x : Lexeme) → no_type x < 11
unfolding no_type
type_below x = one_below (is kinds.name x) 9 10 (omega arith) (omega arith)

pub name_below : (root : Root) (x : Lexeme) → is kinds.name x ≡ false → no_name root x < 11
unfolding no_name
name_below root x e = rw e (one_below (is_reserved x) 7 10 (omega arith) (omega arith))

pub pattern_below : (x : Lexeme) → is kinds.string x ≡ false → no_pattern x < 11
unfolding no_pattern
pattern_below x e = rw e (omega arith)

pub text_below : (x : Lexeme) → is kinds.string x ≡ false → no_text x < 11
unfolding no_text
text_below x e = rw e (omega arith)

pub literal_below : (sort : Lexeme → Bool) (ls : List Literal) (x : Lexeme) → sort x ≡ false → no_element sort ls x < 11
unfolding no_element
literal_below sort ls x e = rw e (omega arith)

pub effect_below : (x : Lexeme) → is_effect x ≡ false → no_policy x < 11
unfolding no_policy
effect_below x e = rw e (omega arith)

pub level_below : (x : Lexeme) → level_or_text x ≡ false → no_level x < 11
unfolding no_level no_text
level_below x e = go (deepens x) refl
  where
    go : (d : Bool) → deepens x ≡ d → no_level x < 11
    go true f = absurd (never (sym (rw f at e)))
    go false f = let s : is kinds.string x ≡ false = rw f at e in rw (f, s) (omega arith)

-- ---- what goes on where a limit refuses

-- Where i is refused by n at a place of limits whose number m has for a token: a token that passes the test and can go on. It is the refused one where n is that number; else n is of no limit.
pub record Chosen (k : ℕ) (test : Lexeme → Bool) (m : Lexeme → ℕ) (n : ℕ) (i : List Lexeme) : Type 0 where
  pub token : Lexeme
  pub passes : test token ≡ true
  pub only : (m token ≡ n → ⊥) → 11 ≤ n → ⊥
  pub kept : (w : List Lexeme) → Kept k n i (token ∷ w)

-- That limit is not asked of it, nor one that goes behind that.
pub chosen_beyond : {k n : ℕ} {test : Lexeme → Bool} {m : Lexeme → ℕ} {i : List Lexeme} (c : Chosen k test m n i) (o : ℕ) → rank (m c.token) ≤ rank o → (w : List Lexeme) → Exempt n (c.token ∷ w) o w
chosen_beyond {n = n} {m = m} c o g w = record { behind = omega arith; first = λ d l. absurd (c.only (λ e. let f : rank (m c.token) ≡ rank n = ap rank e in omega (arith, d, f, g)) l) }

pub goes_limit : {k : ℕ} {A : Type 0} {P : A → List Lexeme → Type 0} {Q : ℕ → List Lexeme → Type 0} (number : Lexeme → ℕ) (test : Lexeme → Bool) (m : Lexeme → ℕ) (y : Lexeme) → test y ≡ true
    → ((x : Lexeme) → test x ≡ true → numbered number x ≡ m x) → ((x : Lexeme) → test x ≡ false → number x < 11)
    → (i : List Lexeme) → ((n : ℕ) → Chosen k test m n i → Q n i) → Goes P Q (refuse_by number i)
goes_limit {k = k} {Q = Q} number test m y fit is_m below i f = goes_refuse_by number i (λ e. f 10 (other 10 (omega arith))) (λ x r e. go x r e (test x) refl)
  where
    other : (n : ℕ) → n < 11 → Chosen k test m n i
    other n l = record { token = y; passes = fit; only = λ d h. omega arith; kept = λ w. few l }

    go : (x : Lexeme) (r : List Lexeme) → i ≡ x ∷ r → (b : Bool) → test x ≡ b → Q (numbered number x) i
    go x r e true t = f _ (record { token = x; passes = t; only = λ d h. d (sym (is_m x t)); kept = λ w h z. rw e same })
    go x r e false t = f _ (other _ (number_below number x (below x t)))
