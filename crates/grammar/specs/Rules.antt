-- Rules of document 01 about single tokens and their bytes: which are roots, literals, comparators, types, names that may go on a path,
-- patterns. Definitions only.
use Rattle.std.specs.Prelude.{Bool, true, false, cond, not, ◌&&◌, ◌||◌, List, [], ◌∷◌, map, ℕ, suc, ◌+◌, ◌-◌, eqb, leb, length, take, drop}
use Prim.Native.Char.{code}
use Rattle.slices.specs.Ascii.{bytes}
use Rattle.slices.specs.Same.{same}
use Rattle.utf8.specs.Reading.{utf8, points}
use Rattle.tokens.specs.Kinds as kinds
use Rattle.tokens.specs.Sizes.{most_path_bytes, most_pattern_characters, most_wildcards}
use Rattle.reading.specs.Listed.{Lexeme, is, size}
use Rattle.grammar.specs.Policies.{Span, span, Root, Root.Principal, Root.Resource, Root.Env, Root.Action, Comparator, Comparator.Equal}
use Rattle.grammar.specs.Policies.{Comparator.NotEqual, Comparator.More, Comparator.AtLeast, Comparator.Less, Comparator.AtMost, Literal, text, number}
use Rattle.grammar.specs.Policies.{truth, Which, Which.All, Which.Any}

-- a string's bytes without its quotes
abbrev pub inside : Lexeme → List ℕ
inside x = take (size x - 2) (drop 1 x.bytes)

-- where a token lies
abbrev pub span_of : Lexeme → Span
span_of x = span x.start x.end

-- ---- kinds

-- permit, forbid
abbrev pub is_effect : Lexeme → Bool
is_effect x = is kinds.permit_word x || is kinds.forbid_word x

-- a reserved word: no other token has so high a kind
abbrev pub is_reserved : Lexeme → Bool
is_reserved x = leb kinds.permit_word x.kind

-- principal, resource, action, env
abbrev pub is_root : Lexeme → Bool
is_root x = leb kinds.principal_word x.kind && leb x.kind kinds.env_word

-- which root it is
unfoldable pub root_of : Lexeme → Root
root_of x = cond (is kinds.principal_word x) Principal (cond (is kinds.resource_word x) Resource (cond (is kinds.action_word x) Action Env))

-- true, false
abbrev pub is_truth : Lexeme → Bool
is_truth x = is kinds.true_word x || is kinds.false_word x

-- a string, a number, true or false
abbrev pub is_literal : Lexeme → Bool
is_literal x = is kinds.string x || is kinds.number x || is_truth x

-- which literal it is
unfoldable pub literal_of : Lexeme → Literal
literal_of x = cond (is kinds.string x) (text (span_of x)) (cond (is kinds.number x) (number (span_of x)) (truth (is kinds.true_word x)))

-- `==`, `!=`, `>`, `>=`, `<`, `<=`
abbrev pub is_comparator : Lexeme → Bool
is_comparator x =
    is kinds.equal x || is kinds.not_equal x || is kinds.more x || is kinds.at_least x || is kinds.less x || is kinds.at_most x

-- which comparator it is
unfoldable pub comparator_of : Lexeme → Comparator
comparator_of x =
    cond (is kinds.equal x) Equal
    (cond (is kinds.not_equal x) NotEqual
    (cond (is kinds.more x) More
    (cond (is kinds.at_least x) AtLeast
    (cond (is kinds.less x) Less AtMost))))

-- containsAll, containsAny
abbrev pub is_contains : Lexeme → Bool
is_contains x = is kinds.contains_all_word x || is kinds.contains_any_word x

-- which of the two it is
unfoldable pub which_of : Lexeme → Which
which_of x = cond (is kinds.contains_all_word x) All Any

-- what stands behind a bare attribute: `&&`, `||`, `)`, `}`, then, else
abbrev pub ends_bare : Lexeme → Bool
ends_bare x = is kinds.and x || is kinds.or x || is kinds.right_round x || is kinds.right_brace x || is kinds.then_word x || is kinds.else_word x

-- what puts a condition one level deeper: `!`, `(`, if
abbrev pub deepens : Lexeme → Bool
deepens x = is kinds.bang x || is kinds.left_round x || is kinds.if_word x

-- ---- strings

-- what stands between a string's quotes is UTF-8; any other token passes
abbrev pub is_text : Lexeme → Bool
is_text x = not (is kinds.string x) || utf8 (inside x)

-- ---- types

-- a type's number is its place among the types of its part, from 1 on
unfoldable pub principal_types : List (List ℕ)
principal_types = map bytes ("person" ∷ "tool" ∷ [])

unfoldable pub resource_types : List (List ℕ)
resource_types = map bytes ("controller" ∷ "shaft" ∷ "parameter" ∷ "record" ∷ [])

-- the number of a name among types that count from `first` on, and 0 where it is none of them
unfoldable pub type_among : List (List ℕ) → ℕ → List ℕ → ℕ
type_among [] first name = 0
type_among (t ∷ types) first name = cond (same name t) first (type_among types (suc first) name)

-- a token's number among types, and 0 where it is none of them
abbrev pub type_of : List (List ℕ) → Lexeme → ℕ
type_of types x = type_among types 1 x.bytes

-- a name that is one of the types
abbrev pub is_type : List (List ℕ) → Lexeme → Bool
is_type types x = is kinds.name x && not (eqb (type_of types x) 0)

-- ---- paths

-- the name x may go on a path after the root, behind `used` bytes of it: after action only `name` makes a path; any other path has at most so many bytes
unfoldable pub admitted : Root → ℕ → Lexeme → Bool
admitted Principal used x = leb (used + size x) most_path_bytes
admitted Resource used x = leb (used + size x) most_path_bytes
admitted Env used x = leb (used + size x) most_path_bytes
admitted Action used x = eqb used 0 && same x.bytes (bytes "name")

-- ---- patterns

-- `*`, `?`
abbrev pub is_wildcard : ℕ → Bool
is_wildcard b = eqb b (code "*") || eqb b (code "?")

-- how many of some bytes are wildcards
unfoldable pub wildcards : List ℕ → ℕ
wildcards [] = 0
wildcards (b ∷ rest) = cond (is_wildcard b) (suc (wildcards rest)) (wildcards rest)

-- none of `[`, `{`, and no `*` after a `*`; `star`: one stands before
unfoldable pub plain_pattern : Bool → List ℕ → Bool
plain_pattern star [] = true
plain_pattern star (b ∷ rest) = not (eqb b (code "[")) && not (eqb b (code "{")) && not (star && eqb b (code "*")) && plain_pattern (eqb b (code "*")) rest

-- at most so many characters and so many wildcards, without `[`, `{` or `**`
unfoldable pub is_pattern : List ℕ → Bool
is_pattern s = leb (length (points s)) most_pattern_characters && leb (wildcards s) most_wildcards && plain_pattern false s
