-- What a token's kind alone tells. Assumes nothing.
use mathlib.Core.Path.{◌≡◌, refl}
use mathlib.Core.Bool.{Bool, true, false, cond, ◌||◌}
use mathlib.Core.List.{List, []}
use Prim.Native.Nat.{ℕ}
use native.Mathlib.Omega.{arith}
use lib.Dec.{eqb}
use Rattle.std.specs.Prelude.{Option, Some, None}
use Rattle.tokens.specs.Kinds as kinds
use Rattle.tokens.specs.declared.reader.Token.{Token}
use Rattle.tokens.proofs.TokenLaws.{never}
use Rattle.reading.specs.Lexemes.{Lexeme, lexeme}
use Rattle.grammar.specs.Policies.{Which}
use Rattle.grammar.specs.Rules.{is_root, is_literal, literal_of, which_of, is_comparator}
use Rattle.table.specs.Entries.{which_kind}
use Rattle.parts.specs.Names.{exit_of, call_of, sort_of}

-- ---- the end of the text is none of these

pub literal_some : (x : Lexeme) → is_literal x ≡ true → x.kind ≡ 0 → ⊥
literal_some x e z = never (rw z at e)

pub root_some : (x : Lexeme) → is_root x ≡ true → x.kind ≡ 0 → ⊥
root_some x e z = never (rw z at e)

pub comparator_some : (x : Lexeme) → is_comparator x ≡ true → x.kind ≡ 0 → ⊥
comparator_some x e z = never (rw z at e)

pub exit_some : (left : Bool) (x : Lexeme) → exit_of left x ≡ true → x.kind ≡ 0 → ⊥
unfolding exit_of
exit_some true x e z = never (rw z at e)
exit_some false x e z = never e

pub sort_some : (strings : Bool) (x : Lexeme) → sort_of strings x ≡ true → x.kind ≡ 0 → ⊥
unfolding sort_of
sort_some true x e z = never (rw z at e)
sort_some false x e z = literal_some x e z

-- ---- lists

pub sort_of_lem : (strings : Bool) (text : List ℕ) (t : Token) → sort_of strings (lexeme [] t) ≡ sort_of strings (lexeme text t)
unfolding sort_of
sort_of_lem true text t = refl
sort_of_lem false text t = refl

pub literal_of_lem : (text : List ℕ) (t : Token) → literal_of (lexeme [] t) ≡ literal_of (lexeme text t)
unfolding literal_of
literal_of_lem text t = refl

-- ---- calls

-- the kind of a call's entry, by whether the word is containsAll and whether it is containsAny
abbrev kind_by : Bool → Bool → Option ℕ
kind_by all any = cond all (Some (which_kind Which.All)) (cond any (Some (which_kind Which.Any)) None)

-- a word begins a call exactly where it ends a path
pub no_call : (left : Bool) (x : Lexeme) → call_of left x.kind ≡ None → exit_of left x ≡ false
unfolding call_of exit_of
no_call false x e = refl
no_call true x e = go (eqb x.kind kinds.contains_all_word) (eqb x.kind kinds.contains_any_word) e
  where
    go : (a b : Bool) → kind_by a b ≡ None → (a || b) ≡ false
    go true b e = cc
    go false true e = cc
    go false false e = refl

pub calls : (left : Bool) (x : Lexeme) {k : ℕ} → call_of left x.kind ≡ Some k → exit_of left x ≡ true
unfolding call_of exit_of
calls false x e = cc
calls true x {k} e = go (eqb x.kind kinds.contains_all_word) (eqb x.kind kinds.contains_any_word) e
  where
    go : (a b : Bool) → kind_by a b ≡ Some k → (a || b) ≡ true
    go true b e = refl
    go false true e = refl
    go false false e = cc

pub call_is : (left : Bool) (x : Lexeme) {k : ℕ} → call_of left x.kind ≡ Some k → Some (which_kind (which_of x)) ≡ call_of left x.kind
unfolding call_of which_of
call_is false x e = cc
call_is true x {k} e = go (eqb x.kind kinds.contains_all_word) (eqb x.kind kinds.contains_any_word) e
  where
    go : (a b : Bool) → kind_by a b ≡ Some k → Some (which_kind (cond a Which.All Which.Any)) ≡ kind_by a b
    go true b e = refl
    go false true e = refl
    go false false e = cc
