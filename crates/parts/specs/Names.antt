-- What the code tells by a token's kind alone, or by a flag. Definitions only.
use Rattle.std.specs.Prelude.{Bool, true, false, cond, ◌&&◌, List, [], ℕ, eqb, Option, Some, None}
use Rattle.tokens.specs.Kinds as kinds
use Rattle.reading.specs.Lexemes.{Lexeme, is}
use Rattle.grammar.specs.Policies.{Root, Comparator, Which.All, Which.Any}
use Rattle.grammar.specs.Rules.{root_of, comparator_of, is_literal, is_comparator, is_contains, principal_types, resource_types}
use Rattle.grammar.specs.Parser.{no_exit}
use Rattle.table.specs.Entries.{comparator_kind, which_kind}

-- a token of which only the kind is looked at
abbrev pub of_kind : ℕ → Lexeme
of_kind kind = record { kind = kind; start = 0; end = 0; bytes = [] }

-- the root that a token of this kind is
abbrev pub root_from : ℕ → Root
root_from kind = root_of (of_kind kind)

-- the comparator that a token of this kind is
abbrev pub comparator_from : ℕ → Comparator
comparator_from kind = comparator_of (of_kind kind)

-- which words end a path: a left operand's, or another's
unfoldable pub exit_of : Bool → Lexeme → Bool
exit_of true = is_contains
exit_of false = no_exit

-- the kind of the entry of the call that a word begins, if it begins one
unfoldable pub call_of : Bool → ℕ → Option ℕ
call_of left word =
    cond (left && eqb word kinds.contains_all_word) (Some (which_kind All)) (cond (left && eqb word kinds.contains_any_word) (Some (which_kind Any)) None)

-- the kind of a comparator's entry, if a token is one
unfoldable pub comparing : ℕ → Option ℕ
comparing kind = cond (is_comparator (of_kind kind)) (Some (comparator_kind (comparator_from kind))) None

-- which literals a list may have: strings only, or any
unfoldable pub sort_of : Bool → Lexeme → Bool
sort_of true = is kinds.string
sort_of false = is_literal

-- the types of the resource, or of the principal
unfoldable pub types_of : Bool → List (List ℕ)
types_of true = resource_types
types_of false = principal_types
