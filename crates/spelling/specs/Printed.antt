-- The tokens that policies are printed as, by their words alone, and their text with blanks between the tokens by a test. Definitions only.
use Rattle.std.specs.Prelude.{Bool, true, false, cond, ◌&&◌, ◌||◌, List, [], ◌∷◌, ◌++◌, ℕ, ◌-◌, eqb, get_or}
use Rattle.std.proofs.Math.Option.{Option, none, some}
use Prim.Native.Char.{code}
use Rattle.slices.specs.Ascii.{bytes}
use Rattle.tokens.specs.Bytes as byte_classes
use Rattle.tokens.specs.Kinds as kinds
use Rattle.grammar.specs.Policies.{Root, Root.Principal, Root.Resource, Root.Env, Root.Action, Which, Which.All, Which.Any, Comparator}
use Rattle.grammar.specs.Policies.{LiteralOf, text, number, truth, OperandOf, attribute, literal}
use Rattle.grammar.specs.Policies.{TreeOf, constant, compare, like, among, within, contains, has, not, brackets, both, either, choice}
use Rattle.grammar.specs.Policies.{PartOf, any, typed, pinned, ActionsOf, every, one_of, PolicyOf}
use Rattle.grammar.specs.Rules.{principal_types, resource_types}
use Rattle.placing.specs.Said.{Word}
use Rattle.spelling.specs.Spelling.{apart}
use Rattle.spelling.specs.Layout.{WrittenToken, written, laid_out}
use Rattle.spelling.specs.Marks.{quoted, sign_of}
use Rattle.spelling.specs.Printing.{mark_kind, root_kind, truth_kind, call_kind, effect_word}

-- a token by its kind and its bytes, without its place and the blanks before it
abbrev pub PlainToken : Type 0
PlainToken = ℕ × List ℕ

-- a written token so
abbrev pub plainly : WrittenToken → PlainToken
plainly x = (x.kind, x.bytes)

-- ---- words and marks

-- true, false
unfoldable pub truth_token : Bool → PlainToken
truth_token true = (truth_kind true, bytes "true")
truth_token false = (truth_kind false, bytes "false")

-- permit, forbid
unfoldable pub effect_token : Bool → PlainToken
effect_token true = (effect_word true, bytes "permit")
effect_token false = (effect_word false, bytes "forbid")

-- the four roots
unfoldable pub root_token : Root → PlainToken
root_token Principal = (root_kind Principal, bytes "principal")
root_token Resource = (root_kind Resource, bytes "resource")
root_token Env = (root_kind Env, bytes "env")
root_token Action = (root_kind Action, bytes "action")

-- containsAll, containsAny
unfoldable pub which_token : Which → PlainToken
which_token All = (call_kind All, bytes "containsAll")
which_token Any = (call_kind Any, bytes "containsAny")

-- a comparator
abbrev pub comparator_token : Comparator → PlainToken
comparator_token c = (mark_kind c, sign_of c)

-- ---- paths

-- a byte more at the front of the first token
unfoldable pub into_first : ℕ → List PlainToken → List PlainToken
into_first b [] = []
into_first b (t ∷ ts) = (t.0, b ∷ t.1) ∷ ts

-- a path: its names with the dots between them
unfoldable pub path_tokens : Word → List PlainToken
path_tokens [] = (kinds.name, []) ∷ []
path_tokens (b ∷ p) = cond (eqb b (code ".")) ((kinds.name, []) ∷ (kinds.dot, bytes ".") ∷ path_tokens p) (into_first b (path_tokens p))

-- an attribute: a root, a dot and a path
abbrev pub attribute_tokens : Root → Word → List PlainToken
attribute_tokens root p = root_token root ∷ (kinds.dot, bytes ".") ∷ path_tokens p

-- ---- literals, lists, operands

-- a literal
unfoldable pub literal_token : LiteralOf Word → PlainToken
literal_token (text s) = (kinds.string, quoted s)
literal_token (number n) = (kinds.number, n)
literal_token (truth b) = truth_token b

-- literals, each behind a comma
unfoldable pub comma_tokens : List (LiteralOf Word) → List PlainToken
comma_tokens [] = []
comma_tokens (l ∷ ls) = (kinds.comma, bytes ",") ∷ literal_token l ∷ comma_tokens ls

-- literals with commas between them
unfoldable pub literal_tokens : List (LiteralOf Word) → List PlainToken
literal_tokens [] = []
literal_tokens (l ∷ ls) = literal_token l ∷ comma_tokens ls

-- in square brackets
abbrev pub list_tokens : List (LiteralOf Word) → List PlainToken
list_tokens ls = (kinds.left_square, bytes "[") ∷ (literal_tokens ls ++ (kinds.right_square, bytes "]") ∷ [])

-- an operand
unfoldable pub operand_tokens : OperandOf Word → List PlainToken
operand_tokens (attribute root p) = attribute_tokens root p
operand_tokens (literal l) = literal_token l ∷ []

-- ---- conditions

-- a condition; brackets stand where the tree has them, and nowhere else
unfoldable pub tree_tokens : TreeOf Word → List PlainToken
tree_tokens (constant b) = truth_token b ∷ []
tree_tokens (compare c a b) = operand_tokens a ++ comparator_token c ∷ operand_tokens b
tree_tokens (like a s) = operand_tokens a ++ (kinds.like_word, bytes "like") ∷ (kinds.string, quoted s) ∷ []
tree_tokens (among a ls) = operand_tokens a ++ (kinds.in_word, bytes "in") ∷ list_tokens ls
tree_tokens (within a root p) = operand_tokens a ++ (kinds.in_word, bytes "in") ∷ attribute_tokens root p
tree_tokens (contains w root p ls) =
    attribute_tokens root p
    ++ (kinds.dot, bytes ".") ∷ which_token w ∷ (kinds.left_round, bytes "(") ∷ (list_tokens ls ++ (kinds.right_round, bytes ")") ∷ [])
tree_tokens (has root p) = root_token root ∷ (kinds.has_word, bytes "has") ∷ path_tokens p
tree_tokens (not a) = (kinds.bang, bytes "!") ∷ tree_tokens a
tree_tokens (brackets a) = (kinds.left_round, bytes "(") ∷ (tree_tokens a ++ (kinds.right_round, bytes ")") ∷ [])
tree_tokens (both a b) = tree_tokens a ++ (kinds.and, bytes "&&") ∷ tree_tokens b
tree_tokens (either a b) = tree_tokens a ++ (kinds.or, bytes "||") ∷ tree_tokens b
tree_tokens (choice c a b) =
    (kinds.if_word, bytes "if") ∷ ((tree_tokens c ++ (kinds.then_word, bytes "then") ∷ [])
    ++ ((tree_tokens a ++ (kinds.else_word, bytes "else") ∷ []) ++ tree_tokens b))

-- ---- policies

-- the name of the type with this number
abbrev pub type_name : List (List ℕ) → ℕ → List ℕ
type_name types n = get_or types (n - 1) []

-- what a part asks, where its types have these names
unfoldable pub part_tokens : List (List ℕ) → PartOf Word → List PlainToken
part_tokens types any = []
part_tokens types (typed n) = (kinds.is_word, bytes "is") ∷ (kinds.name, type_name types n) ∷ []
part_tokens types (pinned s) = (kinds.equal, bytes "==") ∷ (kinds.string, quoted s) ∷ []

-- what the action part asks
unfoldable pub action_tokens : ActionsOf Word → List PlainToken
action_tokens every = []
action_tokens (one_of ls) = (kinds.in_word, bytes "in") ∷ list_tokens ls

-- `when` and a condition in braces, if there is one
unfoldable pub when_tokens : Option (TreeOf Word) → List PlainToken
when_tokens none = []
when_tokens (some c) = (kinds.when_word, bytes "when") ∷ (kinds.left_brace, bytes "{") ∷ (tree_tokens c ++ (kinds.right_brace, bytes "}") ∷ [])

-- a policy behind its effect: the three parts of its target, and its condition
unfoldable pub rest_tokens : PolicyOf Word → List PlainToken
rest_tokens p =
    ((kinds.left_round, bytes "(") ∷ (kinds.principal_word, bytes "principal") ∷ (part_tokens principal_types p.principal ++ (kinds.comma, bytes ",") ∷ []))
    ++ (((kinds.action_word, bytes "action") ∷ (action_tokens p.action ++ (kinds.comma, bytes ",") ∷ []))
    ++ (((kinds.resource_word, bytes "resource") ∷ (part_tokens resource_types p.resource ++ (kinds.right_round, bytes ")") ∷ []))
    ++ (when_tokens p.condition ++ (kinds.semicolon, bytes ";") ∷ [])))

-- a policy
abbrev pub policy_tokens : PolicyOf Word → List PlainToken
policy_tokens p = effect_token p.permits ∷ rest_tokens p

-- policies one behind the other
unfoldable pub policies_tokens : List (PolicyOf Word) → List PlainToken
policies_tokens [] = []
policies_tokens (p ∷ ps) = policy_tokens p ++ policies_tokens ps

-- ---- a text of them

-- what stands between two tokens: nothing where the test says so and the second does not make the first longer, else a blank
unfoldable pub blank_between : (PlainToken → PlainToken → Bool) → PlainToken → PlainToken → List ℕ
blank_between hugs t u = cond (hugs t u && apart t.1 (get_or u.1 0 0)) [] (code " " ∷ [])

-- tokens written so behind another
unfoldable pub laid_behind : (PlainToken → PlainToken → Bool) → PlainToken → List PlainToken → List WrittenToken
laid_behind hugs t [] = []
laid_behind hugs t (u ∷ us) = written (blank_between hugs t u) u.0 u.1 ∷ laid_behind hugs u us

-- the first of them with no blank before it
unfoldable pub laid_by : (PlainToken → PlainToken → Bool) → List PlainToken → List WrittenToken
laid_by hugs [] = []
laid_by hugs (t ∷ ts) = written [] t.0 t.1 ∷ laid_behind hugs t ts

-- the text of policies so
unfoldable pub printed_by : (PlainToken → PlainToken → Bool) → List (PolicyOf Word) → List ℕ
printed_by hugs ps = laid_out (laid_by hugs (policies_tokens ps))

-- as docs/LOCKS.md spells a permit: no blank before `,` `;` `)` `]` `.`, behind `(` `[` `.` `!`, and between permit, forbid, containsAll, containsAny and `(`
unfoldable pub closely : PlainToken → PlainToken → Bool
closely t u =
    byte_classes.one_of (kinds.comma ∷ kinds.semicolon ∷ kinds.right_round ∷ kinds.right_square ∷ kinds.dot ∷ []) u.0
    || byte_classes.one_of (kinds.left_round ∷ kinds.left_square ∷ kinds.dot ∷ kinds.bang ∷ []) t.0
    || (eqb u.0 kinds.left_round && byte_classes.one_of (kinds.permit_word ∷ kinds.forbid_word ∷ kinds.contains_all_word ∷ kinds.contains_any_word ∷ []) t.0)
