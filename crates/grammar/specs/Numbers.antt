-- Which number a refused token gets, by the token and what stands before it: document 01's table, row by row, computed. What stands before is given as a list
-- with the last token first; it breaks no rule, and the refused token breaks one. When a row applies is said, by productions, in Lowest.antt. Definitions only.
use Rattle.std.specs.Prelude.{◌≡◌, Bool, false, cond, not, ◌&&◌, ◌||◌, List, [], ◌∷◌, ◌++◌, reverse, ℕ, zero, suc, ltb}
use Rattle.tokens.specs.Kinds as kinds
use Rattle.tokens.specs.Sizes.{most_literals}
use Rattle.reading.specs.Listed.{Lexeme, is}
use Rattle.reading.specs.Reader.{refuse}
use Rattle.grammar.specs.Rules.{is_effect, is_reserved, is_root, is_literal, is_comparator, is_contains, ends_bare, deepens, is_text}
use Rattle.grammar.specs.Parser.{read_text}

-- ---- places

-- behind a token that passes the test
unfoldable pub last_passes : (Lexeme → Bool) → List Lexeme → Bool
last_passes test [] = false
last_passes test (y ∷ c) = test y

-- where a name of a path must stand
abbrev pub at_name : List Lexeme → Bool
at_name = last_passes (λ y. is kinds.dot y || is kinds.has_word y)

-- where a type must stand
abbrev pub at_type : List Lexeme → Bool
at_type = last_passes (is kinds.is_word)

-- where a pattern must stand
abbrev pub at_pattern : List Lexeme → Bool
at_pattern = last_passes (is kinds.like_word)

-- behind a policy
abbrev pub after_policy : List Lexeme → Bool
after_policy = last_passes (is kinds.semicolon)

-- where a condition must begin: what stands there is a bracket, but not a target's or a call's, the brace of `when`, `!`, `if`, `then`, `else`, `&&` or `||`
unfoldable pub at_condition : List Lexeme → Bool
at_condition [] = false
at_condition (y ∷ c) =
    (is kinds.left_round y && not (last_passes (λ z. is_effect z || is_contains z) c)) || is kinds.left_brace y || is kinds.bang y
    || is kinds.if_word y || is kinds.then_word y || is kinds.else_word y || is kinds.and y || is kinds.or y

-- a root that begins a left operand
unfoldable pub left_root : List Lexeme → Bool
left_root [] = false
left_root (x ∷ c) = is_root x && at_condition c

-- behind an attribute as left operand: a root and names, each after a dot
unfoldable pub after_left : List Lexeme → Bool
after_left [] = false
after_left (n ∷ []) = false
after_left (n ∷ d ∷ c) = is kinds.name n && is kinds.dot d && (left_root c || after_left c)

-- the last root is action
unfoldable pub after_action : List Lexeme → Bool
after_action [] = false
after_action (x ∷ c) = cond (is_root x) (is kinds.action_word x) (after_action c)

-- action and `in`
unfoldable pub action_in : List Lexeme → Bool
action_in [] = false
action_in (w ∷ []) = false
action_in (w ∷ a ∷ c) = is kinds.in_word w && is kinds.action_word a

-- x would be a literal more in a list behind k literals, each with its comma; in the action part it is a string
unfoldable pub one_more : ℕ → List Lexeme → Lexeme → Bool
one_more zero [] x = false
one_more zero (s ∷ c) x = is kinds.left_square s && cond (action_in c) (is kinds.string x) (is_literal x)
one_more (suc k) [] x = false
one_more (suc k) (y ∷ []) x = false
one_more (suc k) (y ∷ l ∷ c) x = is kinds.comma y && is_literal l && one_more k c x

-- in a list, where a literal may stand
unfoldable pub at_literal : List Lexeme → Bool
at_literal [] = false
at_literal (y ∷ c) = is kinds.left_square y || (is kinds.comma y && last_passes is_literal c)

-- where a string may stand that begins no condition and is no pattern: behind a comparator, in a list
abbrev pub at_text : List Lexeme → Bool
at_text c = last_passes is_comparator c || at_literal c

-- ---- the table, the lowest number first; of strings where a pattern must stand, 13 only those that are UTF-8

-- the number of the token x behind the tokens c
unfoldable pub number_of_token : List Lexeme → Lexeme → ℕ
number_of_token c x =
    cond (ltb x.kind 7) x.kind
    (cond (at_name c && is_reserved x) 7
    (cond (after_left c && ends_bare x) 8
    (cond (at_type c && is kinds.name x) 9
    (cond (at_name c && is kinds.name x && after_action c) 11
    (cond (at_condition c && deepens x) 12
    (cond (one_more most_literals c x) 14
    (cond (after_policy c && is_effect x) 15
    (cond (at_name c && is kinds.name x) 16
    (cond (at_pattern c && is kinds.string x && is_text x) 13
    (cond ((at_condition c || at_pattern c || at_text c) && is kinds.string x) 17 10))))))))))

-- the refusal of the first token of r, or of the end of the text
unfoldable pub number_of_first : List Lexeme → List Lexeme → ℕ
number_of_first c [] = 10
number_of_first c (x ∷ r) = number_of_token c x

-- Each refusal has the number of that table.
unfoldable pub NumberedRightly : Type 0
NumberedRightly = (b r : List Lexeme) (n : ℕ) → read_text (b ++ r) ≡ refuse n r → n ≡ number_of_first (reverse b) r
