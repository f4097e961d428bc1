-- The reader of rule texts: it finds the policies that a text's tokens say, or the token to refuse and its number. Definitions only.
use Rattle.std.specs.Prelude.{Bool, false, cond, ◌&&◌, List, [], ◌∷◌, ◌++◌, ℕ, zero, suc, ◌+◌, ltb, length}
use Rattle.std.proofs.Math.Option.{Option, none, some}
use Rattle.tokens.specs.Kinds as kinds
use Rattle.tokens.specs.Sizes.{most_literals, most_policies, most_inside}
use Rattle.reading.specs.Listed.{Lexeme, is}
use Rattle.reading.specs.Reader.{took, Reader, refuse_by, ten, bind, on, need, before, mapped, onwards, chain}
use Rattle.grammar.specs.Policies.{Span, Root, Literal, text, number, truth, Operand, attribute, literal, Which, Tree, constant, compare, like, among}
use Rattle.grammar.specs.Policies.{within, contains, has, not, brackets, both, either, choice, Part, any, typed, pinned, Actions, every, one_of, Policy}
use Rattle.grammar.specs.Rules.{inside, span_of, is_effect, is_reserved, is_root, root_of, is_literal, literal_of, is_comparator, comparator_of, is_contains}
use Rattle.grammar.specs.Rules.{which_of, ends_bare, deepens, principal_types, resource_types, type_of, is_type, admitted}
use Rattle.grammar.specs.Rules.{is_pattern, is_text}
use Rattle.grammar.specs.Grammar.{path_number, Path, first_path, longer_path, spanned}

-- ---- which number a token gets that is not admitted

-- where a name of a path must stand: 7 a reserved word, 11 a name after action, 16 any other name
unfoldable pub no_name : Root → Lexeme → ℕ
no_name root x = cond (is kinds.name x) (path_number root) (cond (is_reserved x) 7 10)

-- after an attribute as left operand: 8 where it was bare
unfoldable pub no_operator : Lexeme → ℕ
no_operator x = cond (ends_bare x) 8 10

-- where a type must stand: 9 a name that is none
unfoldable pub no_type : Lexeme → ℕ
no_type x = cond (is kinds.name x) 9 10

-- where a string may stand: 17 one that is not UTF-8
unfoldable pub no_text : Lexeme → ℕ
no_text x = cond (is kinds.string x) 17 10

-- where a condition must stand with no level left: 12 what would go one deeper, 17 a string
unfoldable pub no_level : Lexeme → ℕ
no_level x = cond (deepens x) 12 (no_text x)

-- where a pattern must stand: 17 a string that is not UTF-8, 13 any other string that is none
unfoldable pub no_pattern : Lexeme → ℕ
no_pattern x = cond (is kinds.string x) (cond (is_text x) 13 17) 10

-- where a literal of some sort must stand behind ls: 14 one too many, 17 a string that is not UTF-8
unfoldable pub no_element : (Lexeme → Bool) → List Literal → Lexeme → ℕ
no_element sort ls x = cond (sort x) (cond (ltb (length ls) most_literals) 17 14) 10

-- where a policy may begin: 15 one too many
unfoldable pub no_policy : Lexeme → ℕ
no_policy x = cond (is_effect x) 15 10

-- ---- paths

-- a path and, where it is a left operand and a call follows, which of containsAll and containsAny
pub data Way : Type 0 where
  uncalled : Path → Way
  calling : Path → Which → Way

-- a name that may go on a path after the root, of which so many bytes are used
unfoldable pub name_fits : Root → ℕ → Lexeme → Bool
name_fits root used x = is kinds.name x && admitted root used x

-- a path's first name
unfoldable pub read_first_name : Root → Reader Way
read_first_name root = on (name_fits root 0) (λ x. took (uncalled (first_path x))) (refuse_by (no_name root))

-- a dot goes on a path
unfoldable pub goes_on : Way → Lexeme → Bool
goes_on (uncalled p) x = is kinds.dot x
goes_on (calling p w) x = false

-- after a path's dot, where the test says which word ends it
unfoldable pub read_next_name : (Lexeme → Bool) → Root → Way → Reader Way
read_next_name exit root (uncalled p) =
    on exit (λ x. took (calling p (which_of x))) (on (name_fits root (p.used + 1)) (λ x. took (uncalled (longer_path p x))) (refuse_by (no_name root)))
read_next_name exit root (calling p w) = refuse_by ten

-- a path after the root, and the word that ends it, if one does
unfoldable pub read_way : (Lexeme → Bool) → Root → Reader Way
read_way exit root = chain goes_on (read_first_name root) (λ w x. read_next_name exit root w)

-- no word ends a path that is no left operand
abbrev pub no_exit : Lexeme → Bool
no_exit x = false

-- where its path lies
unfoldable pub spanned_by : Way → Span
spanned_by (uncalled p) = spanned p
spanned_by (calling p w) = spanned p

-- a path that is no left operand's
unfoldable pub read_path : Root → Reader Span
read_path root i = bind (read_way no_exit root i) (λ w. took (spanned_by w))

-- ---- operands and lists

-- after the root of an attribute that is no left operand
unfoldable pub read_attribute : {A : Type 0} → Root → (Root → Span → A) → Reader A
read_attribute root f = need kinds.dot (λ i. bind (read_path root i) (λ p. took (f root p)))

-- a token of the sort that is UTF-8 where it is a string
unfoldable pub is_text_of : (Lexeme → Bool) → Lexeme → Bool
is_text_of sort x = sort x && is_text x

-- an operand that is no left operand
unfoldable pub read_operand : Reader Operand
read_operand =
    on (is_text_of is_literal) (λ x. took (literal (literal_of x))) (on is_root (λ x. read_attribute (root_of x) attribute) (refuse_by no_text))

-- such a token, where ls has room for one more
unfoldable pub is_element : (Lexeme → Bool) → List Literal → Lexeme → Bool
is_element sort ls x = ltb (length ls) most_literals && is_text_of sort x

-- one literal more after ls
unfoldable pub read_element : (Lexeme → Bool) → List Literal → Reader (List Literal)
read_element sort ls = on (is_element sort ls) (λ x. took (ls ++ literal_of x ∷ [])) (refuse_by (no_element sort ls))

-- after `[`
unfoldable pub read_list : (Lexeme → Bool) → Reader (List Literal)
read_list sort = before kinds.right_square (chain (λ ls. is kinds.comma) (read_element sort []) (λ ls comma. read_element sort ls))

-- ---- conditions that hold no other

-- after a left operand that no operator follows: a condition only where it is true or false
unfoldable pub read_bare : Operand → Reader Tree
read_bare (literal (truth b)) = took (constant b)
read_bare (literal (text s)) = refuse_by ten
read_bare (literal (number s)) = refuse_by ten
read_bare (attribute root p) = refuse_by no_operator

-- after `in`
unfoldable pub read_in : Operand → Reader Tree
read_in a =
    on (is kinds.left_square) (λ _. mapped (among a) (read_list is_literal))
    (on is_root (λ x. read_attribute (root_of x) (within a)) (refuse_by ten))

-- a string that is UTF-8 and a pattern
unfoldable pub is_like : Lexeme → Bool
is_like x = is_text_of (is kinds.string) x && is_pattern (inside x)

-- after `like`
unfoldable pub read_pattern : Operand → Reader Tree
read_pattern a = on is_like (λ x. took (like a (span_of x))) (refuse_by no_pattern)

-- after the left operand a
unfoldable pub read_operator : Operand → Reader Tree
read_operator a =
    on is_comparator (λ x. mapped (compare (comparator_of x) a) read_operand)
    (on (is kinds.like_word) (λ _. read_pattern a)
    (on (is kinds.in_word) (λ _. read_in a) (read_bare a)))

-- after containsAll or containsAny
unfoldable pub read_call : Which → Root → Span → Reader Tree
read_call w root p = need kinds.left_round (need kinds.left_square (before kinds.right_round (mapped (contains w root p) (read_list is_literal))))

-- after the path of a left operand, or after the word that ends it
unfoldable pub read_rest : Root → Way → Reader Tree
read_rest root (uncalled p) = read_operator (attribute root (spanned p))
read_rest root (calling p w) = read_call w root (spanned p)

-- after a root: a left operand, or `has` and a path
unfoldable pub read_rooted : Root → Reader Tree
read_rooted root =
    on (is kinds.dot) (λ _ i. bind (read_way is_contains root i) (read_rest root)) (need kinds.has_word (mapped (has root) (read_path root)))

-- a condition that holds no other, or else what `deeper` reads
unfoldable pub read_simple : Reader Tree → Reader Tree
read_simple deeper = on (is_text_of is_literal) (λ x. read_operator (literal (literal_of x))) (on is_root (λ x. read_rooted (root_of x)) deeper)

-- ---- conditions

-- one or more of what p reads, joined from the left
unfoldable pub read_joined : ℕ → (Tree → Tree → Tree) → Reader Tree → Reader Tree
read_joined sep join p = chain (λ a. is sep) p (λ a x. mapped (join a) p)

-- joined by `&&`, and these by `||`
unfoldable pub read_conjunction : Reader Tree → Reader Tree
read_conjunction p = read_joined kinds.and both p

unfoldable pub read_disjunction : Reader Tree → Reader Tree
read_disjunction p = read_joined kinds.or either (read_conjunction p)

-- after `!`, `(` and `if`
unfoldable pub read_negated : Reader Tree → Reader Tree
read_negated inner = mapped not inner

unfoldable pub read_bracketed : Reader Tree → Reader Tree
read_bracketed inner = mapped brackets (before kinds.right_round (read_disjunction inner))

unfoldable pub read_conditional : Reader Tree → Reader Tree
read_conditional inner i =
    bind (before kinds.then_word inner i) (λ c m. bind (before kinds.else_word inner m) (λ a. mapped (choice c a) inner))

-- a condition that holds others, which `inner` reads
unfoldable pub read_deeper : Reader Tree → Reader Tree
read_deeper inner =
    on (is kinds.bang) (λ _. read_negated inner)
    (on (is kinds.left_round) (λ _. read_bracketed inner)
    (on (is kinds.if_word) (λ _. read_conditional inner) (refuse_by no_text)))

-- a condition with at most d levels inside it
unfoldable pub read_condition : ℕ → Reader Tree
read_condition zero = read_simple (refuse_by no_level)
read_condition (suc d) = read_simple (read_deeper (read_condition d))

-- after the `{` of `when`
unfoldable pub read_conditions : Reader Tree
read_conditions = read_disjunction (read_condition most_inside)

-- ---- policies

-- after `is`
unfoldable pub read_type : List (List ℕ) → Reader Part
read_type types = on (is_type types) (λ x. took (typed (type_of types x))) (refuse_by no_type)

-- after principal
unfoldable pub read_principal : Reader Part
read_principal = on (is kinds.is_word) (λ _. read_type principal_types) (took any)

-- after action
unfoldable pub read_action : Reader Actions
read_action = on (is kinds.in_word) (λ _. need kinds.left_square (mapped one_of (read_list (is kinds.string)))) (took every)

-- after resource
unfoldable pub read_resource : Reader Part
read_resource =
    on (is kinds.is_word) (λ _. read_type resource_types)
    (on (is kinds.equal) (λ _. on (is_text_of (is kinds.string)) (λ x. took (pinned (span_of x))) (refuse_by no_text)) (took any))

-- after the target's `)`
unfoldable pub read_when : Reader (Option Tree)
read_when = on (is kinds.when_word) (λ _. need kinds.left_brace (mapped some (before kinds.right_brace read_conditions))) (took none)

-- after the effect
unfoldable pub read_policy : Bool → Reader Policy
read_policy permits =
    need kinds.left_round (need kinds.principal_word (λ i. bind (before kinds.comma read_principal i) (λ p.
    need kinds.action_word (λ j. bind (before kinds.comma read_action j) (λ a.
    need kinds.resource_word (λ k. bind (before kinds.right_round read_resource k) (λ s l. bind (before kinds.semicolon read_when l) (λ c.
    took (record { permits = permits; principal = p; action = a; resource = s; condition = c })))))))))

-- after the policies ps another may begin
unfoldable pub may_begin : List Policy → Lexeme → Bool
may_begin ps x = is_effect x && ltb (length ps) most_policies

-- one policy more after ps, after its effect x
unfoldable pub read_next_policy : List Policy → Lexeme → Reader (List Policy)
read_next_policy ps x = mapped (λ p. ps ++ p ∷ []) (read_policy (is kinds.permit_word x))

-- after all policies the text must end
unfoldable pub at_end : List Policy → Reader (List Policy)
at_end ps [] = took ps []
at_end ps (x ∷ r) = refuse_by no_policy (x ∷ r)

-- a whole text
unfoldable pub read_text : Reader (List Policy)
read_text i = bind (onwards may_begin read_next_policy [] i) at_end
