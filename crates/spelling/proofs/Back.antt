-- What a text says can be printed: its policies, by their words, keep the grammar and the limits. Assumes nothing.
use mathlib.Core.Path.{◌≡◌, refl, ap, subst}
use mathlib.Core.Bool.{Bool, true, false}
use mathlib.Core.List.{List, [], ◌∷◌, ◌++◌, append-nil}
use mathlib.Core.Option.{Option, none, some}
use Prim.Native.Nat.{ℕ, zero, suc, ◌+◌, ◌-◌, ◌≤◌, ◌<◌}
use native.Mathlib.Nat.{min-le_left}
use native.Mathlib.Omega.{arith}
use lib.ListN.{length, drop, length-take}
use borrow.Author.Tests.{le-leb, lt-leb}
use Rattle.utf8.proofs.Readings.{utf8_decides}
use Rattle.tokens.specs.Bytes.{class_of}
use Rattle.tokens.specs.Runs.{is_of}
use Rattle.tokens.specs.Forms.{All, empty, next, SomeDigits, digits_from, Unsigned, whole, Number, signless, digits}
use Rattle.tokens.specs.Forms as forms
use Rattle.tokens.specs.declared.classes.Sort.TheVariants.{Digits as digitBytes}
use Rattle.tokens.specs.Sizes.{most_inside}
use Rattle.tokens.proofs.Longest.{digits_append, digits_all}
use Rattle.numbers.specs.Literals.{Digits, minus, pointed, IsNumber}
use Rattle.numbers.specs.Literals as literals
use Rattle.reading.specs.Lexemes.{Lexeme}
use Rattle.reading.specs.Reads.{Reading, Chain.alone, Chain.more, Onto.onto, Before.ended, After.begun}
use Rattle.grammar.specs.Policies.{Root, Span, LiteralOf, Literal, Operand, TreeOf, Tree, both, Part, Actions, Policy}
use Rattle.grammar.specs.Rules.{principal_types, resource_types}
use Rattle.grammar.specs.Grammar.{sizes, Simple, comparison, likeness, listed, held, call, having, Conjunction, Disjunction, ConditionOver, simple}
use Rattle.grammar.specs.Grammar.{negation, bracketed, conditional, Nothing, Condition, When, PolicyRest, Policies}
use Rattle.grammar.specs.Grammar as grammar
use Rattle.grammar.proofs.Exactly.{says_exactly}
use Rattle.placing.specs.Placed.{quoted_at, Each, none_left, and_each, StringPlaced, LiteralPlaced, ActionPlaced, OperandPlaced, Listed, TreePlaced, PathPlaced}
use Rattle.placing.specs.Placed.{PrincipalPlaced, ResourcePlaced, ActionsPlaced, ConditionPlaced, PolicyPlaced}
use Rattle.placing.specs.Placed as placed
use Rattle.placing.specs.Said.{Word, literal_words, list_words, operand_words, tree_words, part_words, action_words, condition_words, policy_words, words_of}
use Rattle.placing.proofs.EachLaws.{each_append, each_both}
use Rattle.placing.proofs.Theorems.{policies_placed}
use Rattle.spelling.specs.Printed.{closely, printed_by}
use Rattle.spelling.specs.Printable.{PrintableString, PrintableNumber, PrintablePath, PrintableLiteral}
use Rattle.spelling.specs.Printable.{of_string, of_number, of_truth, PrintableAction, of_action}
use Rattle.spelling.specs.Printable.{PrintableOperand, of_attribute, of_literal, PrintableList, PrintableSimple, of_constant, of_comparison, of_likeness}
use Rattle.spelling.specs.Printable.{of_list, of_member, of_call, of_presence}
use Rattle.spelling.specs.Printable.{PrintableJoined, PrintableDisjunction, PrintableOver, of_simple, of_negation}
use Rattle.spelling.specs.Printable.{of_brackets, of_choice, NoneDeeper, PrintableCondition, PrintableWhen}
use Rattle.spelling.specs.Printable.{without, of_when, PrintableTyped, of_any, of_type}
use Rattle.spelling.specs.Printable.{PrintableResource, of_sort, of_pin, PrintableActions, of_every, of_some, PrintablePolicy, PrintablePolicies}
use Rattle.spelling.specs.Printable as printable
use Rattle.spelling.specs.Promise.{PrintedByIsSaid, SaidIsPrintable, PrintableExactly}
use Rattle.spelling.proofs.Theorems.{printed_by_is_said}

-- ---- numbers

digit_is : (b : ℕ) → 48 ≤ b → b ≤ 57 → is_of digitBytes b ≡ true
unfolding class_of
digit_is b l h = rw (lt-leb 65 b (omega arith), lt-leb 97 b (omega arith), le-leb 48 b l, le-leb b 57 h)

digits_are : {l : List ℕ} → Digits l → All digitBytes l
digits_are literals.Digits.none = empty
digits_are (literals.Digits.more {d} l h r) = next (digit_is d l h) (digits_are r)

some_digits : {l : List ℕ} → Digits l → 0 < length l → SomeDigits l
some_digits literals.Digits.none s = absurd (omega arith)
some_digits (literals.Digits.more {d} l h r) s = digits_from (digit_is d l h) (digits_are r)

-- a number without its minus
unsigned_is : (w f : List ℕ) → Digits w → Digits f → 0 < length w → Unsigned (w ++ pointed f) × (digits (w ++ pointed f) ≡ length w + length f)
unfolding digits class_of
unsigned_is w [] d e s = (rw (append-nil w) (whole (some_digits d s)), rw (append-nil w, digits_all (digits_are d)) (omega arith))
unsigned_is w (b ∷ f) d e s = (
  forms.Unsigned.pointed (some_digits d s) (some_digits e (omega arith)),
  rw (digits_append w (46 ∷ b ∷ f), digits_all (digits_are d)) (ap (λ (n : ℕ). length w + n) (digits_all (digits_are e))),
)

number_said : {l : List ℕ} → IsNumber l → PrintableNumber l
unfolding digits class_of
number_said n = rw n.spelled (go n.literal.negative)
  where
    w : List ℕ
    w = n.literal.whole

    f : List ℕ
    f = n.literal.fraction

    parts : Unsigned (w ++ pointed f) × (digits (w ++ pointed f) ≡ length w + length f)
    parts = let o = n.well_formed in unsigned_is w f o.whole_digits o.fraction_digits o.some

    go : (negative : Bool) → PrintableNumber (minus negative ++ (w ++ pointed f))
    go true = record { form = forms.Number.minus parts.0; size = omega (arith, parts.1, n.well_formed.few) }
    go false = record { form = signless parts.0; size = omega (arith, parts.1, n.well_formed.few) }

-- ---- words, lists and operands, by their places

list_length : (t : List ℕ) (ls : List Literal) → length (list_words t ls) ≡ length ls
unfolding list_words
list_length t [] = refl
list_length t (l ∷ ls) = ap suc (list_length t ls)

module _ (t : List ℕ) where
  string_said : {s : Span} → StringPlaced t s → PrintableString (quoted_at t s)
  string_said {s} h = record {
    all = h.inside;
    size =
        let n = s.end - s.start - 2 in
        let behind = drop (s.start + 1) t in
        let few = h.few in omega (arith, length-take n behind, min-le_left n (length behind));
    characters = (utf8_decides (quoted_at t s)).sound h.characters;
  }

  literal_said : {l : Literal} → LiteralPlaced t l → PrintableLiteral (literal_words t l)
  unfolding literal_words
  literal_said (placed.LiteralPlaced.a_string h) = of_string (string_said h)
  literal_said (placed.LiteralPlaced.a_number h) = of_number (number_said h.number)
  literal_said placed.LiteralPlaced.a_truth = of_truth

  action_said : {l : Literal} → ActionPlaced t l → PrintableAction (literal_words t l)
  unfolding literal_words
  action_said (placed.ActionPlaced.an_action h) = of_action (string_said h)

  path_said : {root : Root} {s : Span} → PathPlaced t root s → PrintablePath root (placed.unblanked_at t s)
  path_said h = record { path = h.path; few = h.few; action = h.action }

  operand_said : {a : Operand} → OperandPlaced t a → PrintableOperand (operand_words t a)
  unfolding operand_words
  operand_said (placed.OperandPlaced.an_attribute h) = of_attribute (path_said h)
  operand_said (placed.OperandPlaced.a_literal h) = of_literal (literal_said h)

  -- a list of 1 to 16
  module _ {P : Literal → Type 0} {Q : LiteralOf Word → Type 0} (one : (l : Literal) → P l → Q (literal_words t l)) where
    each_said : {ls : List Literal} → Each P ls → Each Q (list_words t ls)
    unfolding list_words
    each_said none_left = none_left
    each_said (and_each {a = l} p h) = and_each (one l p) (each_said h)

    list_said : {ls : List Literal} → Listed P ls → PrintableList Q (list_words t ls)
    list_said {ls} h =
        let n = list_length t ls in
        record { some = omega (arith, h.some); few = omega (arith, h.few); each = each_said h.each }

  literals_said : {ls : List Literal} → Listed (LiteralPlaced t) ls → PrintableList PrintableLiteral (list_words t ls)
  literals_said h = list_said (λ l k. literal_said k) h

  -- ---- conditions, as they are read

  simple_said : {i r : List Lexeme} {c : Tree} → Simple sizes i r c → TreePlaced t c → PrintableSimple (tree_words t c)
  unfolding tree_words
  simple_said (grammar.Simple.bare e) placed.TreePlaced.a_constant = of_constant
  simple_said (comparison a e b) (placed.TreePlaced.a_comparison h k) = of_comparison (operand_said h) (operand_said k)
  simple_said (likeness a e f u g) (placed.TreePlaced.a_likeness h k q) = of_likeness (operand_said h) (string_said k) q
  simple_said (listed a e b) (placed.TreePlaced.in_list h k) = of_list (operand_said h) (literals_said k)
  simple_said (held a e b) (placed.TreePlaced.in_an_attribute h k) = of_member (operand_said h) (path_said k)
  simple_said (call a d e f b) (placed.TreePlaced.a_call h k) = of_call (path_said h) (literals_said k)
  simple_said (having e f a) (placed.TreePlaced.a_presence h) = of_presence (path_said h)

  module _ {R : Reading Tree} {C : TreeOf Word → Type 0}
      (one : (i r : List Lexeme) (c : Tree) → R i r c → TreePlaced t c → C (tree_words t c)) where
    conjunction_said : {i r : List Lexeme} {c : Tree} → Conjunction R i r c → TreePlaced t c → PrintableJoined both C (tree_words t c)
    unfolding tree_words
    conjunction_said (alone a) h = printable.PrintableJoined.alone (one _ _ _ a h)
    conjunction_said (more a e (onto b)) (placed.TreePlaced.a_conjunction h k) =
        printable.PrintableJoined.more (conjunction_said a h) (one _ _ _ b k)

    disjunction_said : {i r : List Lexeme} {c : Tree} → Disjunction R i r c → TreePlaced t c → PrintableDisjunction C (tree_words t c)
    unfolding tree_words
    disjunction_said (alone a) h = printable.PrintableJoined.alone (conjunction_said a h)
    disjunction_said (more a e (onto b)) (placed.TreePlaced.a_disjunction h k) =
        printable.PrintableJoined.more (disjunction_said a h) (conjunction_said b k)

    over_said : {i r : List Lexeme} {c : Tree} → ConditionOver sizes R i r c → TreePlaced t c → PrintableOver C (tree_words t c)
    unfolding tree_words
    over_said (simple a) h = of_simple (simple_said a h)
    over_said (negation e a) (placed.TreePlaced.a_negation h) = of_negation (one _ _ _ a h)
    over_said (bracketed e (ended a f)) (placed.TreePlaced.in_brackets h) = of_brackets (disjunction_said a h)
    over_said (conditional e (ended a f) (ended b g) d) (placed.TreePlaced.a_choice h k l) = of_choice (one _ _ _ a h) (one _ _ _ b k) (one _ _ _ d l)

  condition_said : (d : ℕ) (i r : List Lexeme) (c : Tree) → Condition sizes d i r c → TreePlaced t c → PrintableCondition d (tree_words t c)
  condition_said zero i r c a h = over_said {R = Nothing} {C = NoneDeeper} (λ i r c k. elim k [ ]) a h
  condition_said (suc d) i r c a h = over_said (condition_said d) a h

  when_said : {i r : List Lexeme} {c : Option Tree} → When sizes i r c → ConditionPlaced t c → PrintableWhen (condition_words t c)
  unfolding condition_words
  when_said grammar.When.bare h = without
  when_said (grammar.When.braces e (begun f (ended a g))) (placed.ConditionPlaced.a_condition h d) =
      of_when (disjunction_said (condition_said most_inside) a h)

  -- ---- policies

  principal_said : {p : Part} → PrincipalPlaced p → PrintableTyped principal_types (part_words t p)
  unfolding part_words principal_types
  principal_said placed.PrincipalPlaced.any_principal = of_any
  principal_said (placed.PrincipalPlaced.principal_type s f) = of_type s f

  resource_said : {p : Part} → ResourcePlaced t p → PrintableResource (part_words t p)
  unfolding part_words resource_types
  resource_said placed.ResourcePlaced.any_resource = of_sort of_any
  resource_said (placed.ResourcePlaced.resource_type s f) = of_sort (of_type s f)
  resource_said (placed.ResourcePlaced.one_resource h) = of_pin (string_said h)

  actions_said : {a : Actions} → ActionsPlaced t a → PrintableActions (action_words t a)
  unfolding action_words
  actions_said placed.ActionsPlaced.any_action = of_every
  actions_said (placed.ActionsPlaced.one_of_placed h) = of_some (list_said (λ l k. action_said k) h)

  rest_said : {permits : Bool} {i r : List Lexeme} {p : Policy} → PolicyRest sizes permits i r p → PolicyPlaced t p → PrintablePolicy (policy_words t p)
  rest_said (grammar.PolicyRest.rest a b c (ended d e)) h = record {
    principal = principal_said h.principal;
    action = actions_said h.action;
    resource = resource_said h.resource;
    condition = when_said d h.condition;
  }

-- a policy that can be printed wherever it lies in a text
record SaidAnywhere (t : List ℕ) (p : Policy) : Type 0 where
  printable : PolicyPlaced t p → PrintablePolicy (policy_words t p)

-- the policies of a text are such, behind others that are
policies_said : (t : List ℕ) {i : List Lexeme} {ps qs : List Policy} → Policies sizes ps i qs → Each (SaidAnywhere t) ps → Each (SaidAnywhere t) qs
policies_said t grammar.Policies.end h = h
policies_said t (grammar.Policies.policy {p = p} {ps = ps} e n a b) h =
    policies_said t b (each_append ps (p ∷ []) h (and_each (record { printable = λ k. rest_said t a k }) none_left))

words_each : (t : List ℕ) {ps : List Policy} → Each (λ p. PrintablePolicy (policy_words t p)) ps → Each PrintablePolicy (words_of t ps)
unfolding words_of
words_each t none_left = none_left
words_each t (and_each h hs) = and_each h (words_each t hs)

words_length : (t : List ℕ) (ps : List Policy) → length (words_of t ps) ≡ length ps
unfolding words_of
words_length t [] = refl
words_length t (p ∷ ps) = ap suc (words_length t ps)

-- ---- what is promised

pub said_is_printable : SaidIsPrintable
unfolding SaidIsPrintable
said_is_printable text ps s =
    let lies = policies_placed text ps ((says_exactly text ps).1 s) in
    record {
      few = rw (words_length text ps) lies.few;
      each = words_each text (each_both (λ p h k. h.printable k) (policies_said text s.belongs none_left) lies.each);
    }

pub printable_exactly : PrintableExactly
unfolding PrintableExactly PrintedByIsSaid SaidIsPrintable
printable_exactly ws = (
  λ h. record { text = printed_by closely ws; says = printed_by_is_said closely ws h },
  λ s. let said = s.says in subst PrintablePolicies said.words (said_is_printable s.text said.policies said.says),
)
