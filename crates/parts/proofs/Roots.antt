-- What goes by a root: only action's paths differ from the others'. Assumes nothing.
use mathlib.Core.Path.{◌≡◌, refl}
use mathlib.Core.Bool.{Bool, true, false, cond}
use mathlib.Core.List.{List, []}
use Prim.Native.Nat.{ℕ, ◌+◌, ◌≤◌}
use native.Mathlib.Omega.{arith}
use lib.Dec.{eqb, leb}
use borrow.Author.Tests.{ne_eqb}
use Rattle.tokens.specs.Kinds as kinds
use Rattle.tokens.specs.declared.reader.Token.{Token}
use Rattle.reading.specs.Lexemes.{Lexeme, lexeme, is, size}
use Rattle.grammar.specs.Policies.{Root, root_byte, Root.Principal, Root.Resource, Root.Env, Root.Action}
use Rattle.grammar.specs.Rules.{root_of, is_reserved, admitted}
use Rattle.grammar.specs.Parser.{no_name}
use Rattle.table.specs.Entries.{has_kind}
use Rattle.parts.specs.Names.{root_from}

pub other_root : (P : Root → Type 0) (k : ℕ) → (k ≡ kinds.action_word → ⊥) → P Principal → P Resource → P Env → P (root_from k)
unfolding root_of
other_root P k n p r e = go (eqb k kinds.principal_word) (eqb k kinds.resource_word) (eqb k kinds.action_word) (ne_eqb _ _ n)
  where
    go : (a b c : Bool) → c ≡ false → P (cond a Principal (cond b Resource (cond c Action Env)))
    go true b c h = p
    go false true c h = r
    go false false c h = rw h e

pub no_name_lem : (r : Root) (x : Lexeme) → is kinds.name x ≡ false → no_name r x ≡ cond (is_reserved x) 7 10
unfolding no_name
no_name_lem Principal x h = rw h
no_name_lem Resource x h = rw h
no_name_lem Env x h = rw h
no_name_lem Action x h = rw h

pub other_name : (k : ℕ) → (k ≡ kinds.action_word → ⊥) → (x : Lexeme) → is kinds.name x ≡ true → no_name (root_from k) x ≡ 16
unfolding no_name
other_name k n x h = other_root (λ r. no_name r x ≡ 16) k n (rw h) (rw h) (rw h)

pub other_admitted : (k : ℕ) → (k ≡ kinds.action_word → ⊥) → (used : ℕ) (x : Lexeme) → admitted (root_from k) used x ≡ leb (used + size x) 64
unfolding admitted
other_admitted k n used x = other_root (λ r. admitted r used x ≡ leb (used + size x) 64) k n refl refl refl

-- a token's number goes by its kind
pub no_name_of : (r : Root) (text : List ℕ) (t : Token) → no_name r (lexeme [] t) ≡ no_name r (lexeme text t)
unfolding no_name
no_name_of Principal text t = refl
no_name_of Resource text t = refl
no_name_of Env text t = refl
no_name_of Action text t = refl

pub root_of_lem : (text : List ℕ) (t : Token) → root_of (lexeme text t) ≡ root_from t.kind
unfolding root_of
root_of_lem text t = refl

pub root_small : (n : ℕ) (r : Root) → n ≡ root_byte r → n ≤ 4
root_small n Principal e = omega arith
root_small n Resource e = omega arith
root_small n Env e = omega arith
root_small n Action e = omega arith

pub has_is : (r : Root) → root_byte r + 4 ≡ has_kind r
has_is Principal = refl
has_is Resource = refl
has_is Env = refl
has_is Action = refl
