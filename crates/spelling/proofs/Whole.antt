-- Words, lists and whole conditions are printed as their tokens: conditions by their nesting. Assumes nothing.
use mathlib.Core.Path.{◌≡◌, refl, sym, subst}
use mathlib.Core.Bool.{Bool, true, false, cond}
use mathlib.Core.List.{List, [], ◌∷◌, ◌++◌, append_assoc, append-nil}
use mathlib.Core.Option.{Option, none, some}
use Prim.Native.Nat.{ℕ, zero, suc, ◌+◌, ◌≤◌, ◌<◌}
use Prim.Native.Char.{code}
use native.Mathlib.Omega.{arith}
use lib.Dec.{eqb}
use lib.ListN.{length}
use borrow.Author.Tests.{ne_eqb}
use Rattle.slices.specs.Ascii.{bytes}
use Rattle.utf8.proofs.Readings.{utf8_decides}
use Rattle.tokens.specs.Bytes.{class_of}
use Rattle.tokens.specs.Kinds as kinds
use Rattle.tokens.specs.Runs.{is_of}
use Rattle.tokens.specs.Forms.{All, empty, next, Form, a_word, a_string, a_number}
use Rattle.tokens.specs.Sizes.{most_inside}
use Rattle.tokens.specs.declared.classes.Sort.TheVariants.{WordBytes}
use Rattle.reading.specs.Lexemes.{Lexeme, is}
use Rattle.reading.specs.Reads.{Reading}
use Rattle.grammar.specs.Policies.{Root, Root.Principal, Root.Resource, Root.Env, Root.Action, Which, Comparator, LiteralOf, OperandOf}
use Rattle.grammar.specs.Policies.{literal, TreeOf, Tree, constant, like, both}
use Rattle.grammar.specs.Policies as policies
use Rattle.grammar.specs.Rules.{is_literal, is_pattern}
use Rattle.grammar.specs.Grammar.{sizes, APath, AnOperand, Listing, Simple, Conjunction, Disjunction, ConditionOver, Nothing, Condition}
use Rattle.grammar.specs.Grammar.{When}
use Rattle.grammar.specs.Grammar as grammar
use Rattle.placing.specs.Placed.{IsName, a_name, IsPath, one_name, one_more, Each, none_left, and_each}
use Rattle.placing.specs.Said.{Word, list_words, operand_words, tree_words, condition_words}
use Rattle.placing.proofs.EachLaws.{each_append}
use Rattle.spelling.specs.Layout.{WrittenToken, written}
use Rattle.spelling.specs.Marks.{quoted, sign_of}
use Rattle.spelling.specs.Printing.{Prints, PrintsLiteral, PrintsList, PrintsPath, mark_kind, root_kind, truth_kind, call_kind, effect_word, path_words}
use Rattle.spelling.specs.Printing.{RootedPath, rooted_words}
use Rattle.spelling.specs.Printing as printing
use Rattle.spelling.specs.Printed.{PlainToken, truth_token, effect_token, root_token, which_token, comparator_token, into_first, path_tokens, attribute_tokens}
use Rattle.spelling.specs.Printed.{literal_token, comma_tokens, literal_tokens, list_tokens, operand_tokens, tree_tokens, when_tokens}
use Rattle.spelling.specs.Printable.{PrintableString, PrintablePath, PrintableLiteral, of_string, of_number, of_truth, PrintableAction, of_action}
use Rattle.spelling.specs.Printable.{PrintableOperand, of_attribute, of_literal, PrintableList, PrintableSimple, of_constant, of_comparison, of_likeness}
use Rattle.spelling.specs.Printable.{of_list, of_member, of_call, of_presence}
use Rattle.spelling.specs.Printable.{PrintableJoined, PrintableDisjunction, PrintableOver, of_simple, of_negation}
use Rattle.spelling.specs.Printable.{of_brackets, of_choice, NoneDeeper, PrintableCondition, PrintableWhen, without, of_when}
use Rattle.spelling.specs.Printable as printable
use Rattle.spelling.proofs.Fixed.{written_opened, FormedToken, FixedToken, fixed}
use Rattle.spelling.proofs.Printing.{prints_as}
use Rattle.spelling.proofs.Productions.{prints_string, prints_number, string_literal, prints_literal, prints_path, prints_name, prints_rooted}
use Rattle.spelling.proofs.Productions.{prints_presence, prints_given, prints_comparison, prints_within, prints_alone, prints_both}
use Rattle.spelling.proofs.Productions.{Elements, prints_elements, prints_when}
use Rattle.spelling.proofs.Conditions.{prints_truth, prints_constant, prints_likeness, prints_among, prints_call, prints_negation, prints_brackets}
use Rattle.spelling.proofs.Conditions.{prints_choice, prints_either}
use Rattle.spelling.proofs.Policies.{prints_without}
use Rattle.spelling.proofs.Plain.{LaidAs, none_laid, and_laid, Parts, parts, laid_parts, PrintedAs, printed_as, printed_led, printed_behind}
use Rattle.spelling.proofs.Plain.{printed_then, printed_around, printed_before, printed_after, kind_of}

-- ---- words and marks

root_token_lem : (root : Root) → FixedToken (root_kind root) (root_token root)
unfolding written_opened root_kind root_token
root_token_lem Principal = fixed refl
root_token_lem Resource = fixed refl
root_token_lem Env = fixed refl
root_token_lem Action = fixed refl

truth_token_lem : (b : Bool) → FixedToken (truth_kind b) (truth_token b)
unfolding written_opened truth_kind truth_token
truth_token_lem true = fixed refl
truth_token_lem false = fixed refl

pub effect_token_lem : (b : Bool) → FixedToken (effect_word b) (effect_token b)
unfolding written_opened effect_word effect_token
effect_token_lem true = fixed refl
effect_token_lem false = fixed refl

call_token : (w : Which) → FixedToken (call_kind w) (which_token w)
unfolding written_opened call_kind which_token
call_token policies.Which.All = fixed refl
call_token policies.Which.Any = fixed refl

mark_token : (c : Comparator) → FixedToken (mark_kind c) (comparator_token c)
unfolding written_opened mark_kind sign_of
mark_token policies.Comparator.Equal = fixed refl
mark_token policies.Comparator.NotEqual = fixed refl
mark_token policies.Comparator.More = fixed refl
mark_token policies.Comparator.AtLeast = fixed refl
mark_token policies.Comparator.Less = fixed refl
mark_token policies.Comparator.AtMost = fixed refl

-- those that say nothing else
dot_token : FixedToken kinds.dot (kinds.dot, bytes ".")
unfolding written_opened
dot_token = fixed refl

comma_token : FixedToken kinds.comma (kinds.comma, bytes ",")
unfolding written_opened
comma_token = fixed refl

-- ---- paths

-- a word has no dot
no_dot : (b : ℕ) → is_of WordBytes b ≡ true → eqb b (code ".") ≡ false
unfolding class_of
no_dot b h = ne_eqb b (code ".") (λ e. let z : false ≡ true = rw e at h in let k : ◌≡◌ {A = ℕ} 0 1 = cc in omega arith)

-- a path has a first name
path_some : (p : Word) → (t : PlainToken) × (ts : List PlainToken) × (path_tokens p ≡ t ∷ ts)
unfolding path_tokens into_first
path_some [] = ((kinds.name, []), [], refl)
path_some (b ∷ p) = go (eqb b (code ".")) (path_some p)
  where
    go : (d : Bool) → (t : PlainToken) × (ts : List PlainToken) × (path_tokens p ≡ t ∷ ts) → (t : PlainToken) × (ts : List PlainToken)
        × (cond d ((kinds.name, []) ∷ (kinds.dot, bytes ".") ∷ path_tokens p) (into_first b (path_tokens p)) ≡ t ∷ ts)
    go true f = ((kinds.name, []), (kinds.dot, bytes ".") ∷ path_tokens p, refl)
    go false f = ((f.0.0, b ∷ f.0.1), f.1, rw f.2)

-- a name more
path_more : (p n : Word) → path_tokens (p ++ kinds.dot ∷ n) ≡ path_tokens p ++ (kinds.dot, bytes ".") ∷ path_tokens n
unfolding path_tokens into_first
path_more [] n = refl
path_more (b ∷ p) n = go (eqb b (code ".")) (path_more p n) (path_some p)
  where
    go : (d : Bool) → path_tokens (p ++ kinds.dot ∷ n) ≡ path_tokens p ++ (kinds.dot, bytes ".") ∷ path_tokens n
        → (t : PlainToken) × (ts : List PlainToken) × (path_tokens p ≡ t ∷ ts)
        → cond d ((kinds.name, []) ∷ (kinds.dot, bytes ".") ∷ path_tokens (p ++ kinds.dot ∷ n)) (into_first b (path_tokens (p ++ kinds.dot ∷ n)))
        ≡ cond d ((kinds.name, []) ∷ (kinds.dot, bytes ".") ∷ path_tokens p) (into_first b (path_tokens p)) ++ (kinds.dot, bytes ".") ∷ path_tokens n
    go true e f = rw e
    go false e f = rw (e, f.2)

-- words of a name
word_tokens : {l : List ℕ} → All WordBytes l → path_tokens l ≡ (kinds.name, l) ∷ []
unfolding path_tokens into_first
word_tokens empty = refl
word_tokens (next {b} e a) = rw (no_dot b e, word_tokens a)

name_tokens : {n : Word} → IsName n → path_tokens n ≡ (kinds.name, n) ∷ []
name_tokens (a_name {b} l a k) = word_tokens (next {b = b} (simp l) a)

-- a name has a form
name_formed : {n : Word} → IsName n → FormedToken (kinds.name, n)
name_formed (a_name {b} {rest} l a k) = record { form = subst (λ (i : ℕ). Form i (b ∷ rest)) k (a_word l a) }

-- its tokens, written, with the blanks before the first
record PathWritten (xs : List WrittenToken) (p : Word) : Type 0 where
  blanks : List ℕ
  prints : PrintsPath blanks xs p

one_written : {n : Word} {xs : List WrittenToken} → IsName n → LaidAs ((kinds.name, n) ∷ []) xs → PathWritten xs n
one_written i (and_laid {b = b} a none_laid) = record { blanks = b; prints = printing.PrintsPath.first a i }

more_written : {p n : Word} {ts : List PlainToken} {xs : List WrittenToken} → ((ys : List WrittenToken) → LaidAs ts ys → PathWritten ys p) → IsName n
    → Parts ts ((kinds.dot, bytes ".") ∷ (kinds.name, n) ∷ []) xs → PathWritten xs (p ++ kinds.dot ∷ n)
more_written f i (parts {xs = ys} h (and_laid a (and_laid c none_laid))) =
    let before = f ys h in record { blanks = before.blanks; prints = printing.PrintsPath.more before.prints a c i }

path_written : {p : Word} → IsPath p → {xs : List WrittenToken} → LaidAs (path_tokens p) xs → PathWritten xs p
path_written (one_name i) h = one_written i (rw (name_tokens i) at h)
path_written (one_more {p} {n} k i) h = more_written (λ ys g. path_written k g) i (laid_parts (path_tokens p) (rw (path_more p n, name_tokens i) at h))

path_formed : {p : Word} → IsPath p → Each FormedToken (path_tokens p)
path_formed (one_name i) = rw (name_tokens i) (and_each (name_formed i) none_left)
path_formed (one_more {p} {n} k i) =
    rw (path_more p n, name_tokens i)
    (each_append (path_tokens p) _ (path_formed k) (and_each dot_token.formed (and_each (name_formed i) none_left)))

-- a path after a root
printed_path : (root : Root) {p : Word} → PrintablePath root p → PrintedAs (APath sizes root) path_words (path_tokens p) p
unfolding path_tokens into_first
printed_path root {p} h = record { laid = go root h.action; formed = path_formed h.path }
  where
    plain : (root : Root) → (root ≡ Action → ⊥) → {xs : List WrittenToken} → LaidAs (path_tokens p) xs → Prints (APath sizes root) path_words xs p
    plain root n k = prints_path n (path_written h.path k).prints h.few

    named : {xs : List WrittenToken} → LaidAs ((kinds.name, bytes "name") ∷ []) xs → Prints (APath sizes Action) path_words xs (bytes "name")
    named (and_laid a none_laid) = prints_name a

    go : (root : Root) → (root ≡ Action → p ≡ bytes "name") → {xs : List WrittenToken} → LaidAs (path_tokens p) xs → Prints (APath sizes root) path_words xs p
    go Principal f k = plain Principal (λ e. let z : ◌≡◌ {A = ℕ} 0 1 = cc in omega arith) k
    go Resource f k = plain Resource (λ e. let z : ◌≡◌ {A = ℕ} 0 1 = cc in omega arith) k
    go Env f k = plain Env (λ e. let z : ◌≡◌ {A = ℕ} 0 1 = cc in omega arith) k
    go Action f {xs} k =
        let e = f refl in
        subst (λ (w : Word). Prints (APath sizes Action) path_words xs w) (sym e) (named (subst (λ (w : Word). LaidAs (path_tokens w) xs) e k))

-- an attribute
printed_attribute : {root : Root} {p : Word} → PrintablePath root p → PrintedAs RootedPath rooted_words (attribute_tokens root p) (root, p)
printed_attribute {root} h = printed_behind (root_token_lem root) dot_token (λ x y xs e f k. prints_rooted e k f) (printed_path root h)

-- ---- literals

-- a literal of a sort is printed as its token
pub record PrintedLiteral (sort : Lexeme → Bool) (l : LiteralOf Word) : Type 0 where
  prints : (b : List ℕ) → PrintsLiteral sort (written b (literal_token l).0 (literal_token l).1) l
  formed : FormedToken (literal_token l)

printed_literal : {l : LiteralOf Word} → PrintableLiteral l → PrintedLiteral is_literal l
unfolding literal_token
printed_literal (of_string {s} h) = record { prints = λ b. string_literal (prints_string s h.size ((utf8_decides s).complete h.characters)); formed = record { form = a_string h.all } }
printed_literal (of_number {n} h) = record { prints = λ b. prints_number n h.size; formed = record { form = a_number h.form } }
printed_literal (of_truth {b}) = record { prints = λ c. prints_truth (kind_of c (truth_token_lem b)); formed = (truth_token_lem b).formed }

pub printed_action : {l : LiteralOf Word} → PrintableAction l → PrintedLiteral (is kinds.string) l
unfolding literal_token
printed_action (of_action {s} h) = record { prints = λ b. prints_string s h.size ((utf8_decides s).complete h.characters); formed = record { form = a_string h.all } }

-- the first two of laid tokens
record TwoOff (t u : PlainToken) (ts : List PlainToken) (xs : List WrittenToken) : Type 0 where
  pub b : List ℕ
  pub c : List ℕ
  pub behind : List WrittenToken
  pub is : xs ≡ written b t.0 t.1 ∷ written c u.0 u.1 ∷ behind
  pub laid : LaidAs ts behind

two_off : {t u : PlainToken} {ts : List PlainToken} {xs : List WrittenToken} → LaidAs (t ∷ u ∷ ts) xs → TwoOff t u ts xs
two_off (and_laid {b = b} a (and_laid {b = c} {xs = ys} d k)) = record { b = b; c = c; behind = ys; is = refl; laid = k }

module _ {sort : Lexeme → Bool} {P : LiteralOf Word → Type 0} (one : (l : LiteralOf Word) → P l → PrintedLiteral sort l) where
  -- literals behind others, with commas
  more_literals : {xs ys : List WrittenToken} {ls ks : List (LiteralOf Word)} → PrintsList sort xs ls → Each P ks → LaidAs (comma_tokens ks) ys
      → PrintsList sort (xs ++ ys) (ls ++ ks)
  unfolding comma_tokens
  more_literals {xs} {ls = ls} j none_left none_laid = rw (append-nil xs, append-nil ls) j
  more_literals {xs} {ls = ls} j (and_each {a = l} {l = ks} p h) w =
      let w' = two_off w in
      let b = w'.b in
      let c = w'.c in
      let ys = w'.behind in
      let two = written b kinds.comma (bytes ",") ∷ written c (literal_token l).0 (literal_token l).1 ∷ [] in
      let more : PrintsList sort (xs ++ two) (ls ++ l ∷ []) = printing.PrintsList.more j (kind_of b comma_token) ((one l p).prints c) in
      rw w'.is (rw (append_assoc xs two ys, append_assoc ls (l ∷ []) ks) at (more_literals {xs = xs ++ two} {ys = ys} {ls = ls ++ l ∷ []} more h w'.laid))

  commas_formed : {ks : List (LiteralOf Word)} → Each P ks → Each FormedToken (comma_tokens ks)
  unfolding comma_tokens
  commas_formed none_left = none_left
  commas_formed (and_each {a = l} p h) = and_each comma_token.formed (and_each (one l p).formed (commas_formed h))

  -- 1 to 16 of them
  printed_elements : {ls : List (LiteralOf Word)} → Each P ls → 0 < length ls → length ls ≤ 16 → PrintedAs (Elements sort) list_words (literal_tokens ls) ls
  unfolding literal_tokens
  printed_elements none_left s f = absurd (omega arith)
  printed_elements (and_each {a = l} {l = ls} p h) s f = record { laid = go; formed = and_each (one l p).formed (commas_formed h) }
    where
      go : {xs : List WrittenToken} → LaidAs (literal_token l ∷ comma_tokens ls) xs → Prints (Elements sort) list_words xs (l ∷ ls)
      go (and_laid {b = b} a k) = prints_elements (more_literals (printing.PrintsList.first ((one l p).prints b)) h k) f

  -- in brackets
  pub printed_list : {ls : List (LiteralOf Word)} → PrintableList P ls → PrintedAs (Listing sizes sort) list_words (list_tokens ls) ls
  unfolding written_opened
  printed_list h = printed_after (fixed refl) (printed_before (fixed refl) (printed_elements h.each h.some h.few))

-- ---- operands

printed_operand : {a : OperandOf Word} → PrintableOperand a → PrintedAs (AnOperand sizes) operand_words (operand_tokens a) a
unfolding operand_tokens
printed_operand (of_attribute h) = printed_as (λ xs k. prints_given k) (printed_attribute h)
printed_operand (of_literal {l} h) = record { laid = go; formed = and_each (printed_literal h).formed none_left }
  where
    go : {xs : List WrittenToken} → LaidAs (literal_token l ∷ []) xs → Prints (AnOperand sizes) operand_words xs (literal l)
    go (and_laid {b = b} a none_laid) = prints_literal ((printed_literal h).prints b)

-- ---- conditions that hold no other

-- true or false
printed_constant : (b : Bool) → PrintedAs (Simple sizes) tree_words (truth_token b ∷ []) (constant b)
printed_constant b = record { laid = go; formed = and_each (truth_token_lem b).formed none_left }
  where
    go : {xs : List WrittenToken} → LaidAs (truth_token b ∷ []) xs → Prints (Simple sizes) tree_words xs (constant b)
    go (and_laid {b = c} a none_laid) = prints_constant (kind_of c (truth_token_lem b))

-- an operand `like` a pattern
printed_likeness : {a : OperandOf Word} {s : Word} {t : PlainToken} → FixedToken kinds.like_word t → PrintableOperand a → PrintableString s
    → is_pattern s ≡ true → PrintedAs (Simple sizes) tree_words (operand_tokens a ++ t ∷ (kinds.string, quoted s) ∷ []) (like a s)
printed_likeness {a} {s} {t} f h k q = record {
  laid = λ l. go (laid_parts (operand_tokens a) l);
  formed = each_append (operand_tokens a) _ operand.formed (and_each f.formed (and_each (record { form = a_string k.all }) none_left));
}
  where
    operand : PrintedAs (AnOperand sizes) operand_words (operand_tokens a) a
    operand = printed_operand h

    go : {xs : List WrittenToken} → Parts (operand_tokens a) (t ∷ (kinds.string, quoted s) ∷ []) xs → Prints (Simple sizes) tree_words xs (like a s)
    go (parts l (and_laid {b = b} m (and_laid {b = c} n none_laid))) = prints_likeness (operand.laid l) c s (kind_of b f) k.size ((utf8_decides s).complete k.characters) q

printed_simple : {c : TreeOf Word} → PrintableSimple c → PrintedAs (Simple sizes) tree_words (tree_tokens c) c
unfolding written_opened tree_tokens
printed_simple (of_constant {b}) = printed_constant b
printed_simple (of_comparison {c} h k) =
    printed_around (mark_token c) (λ xs ys x p e q. prints_comparison p e q) (printed_operand h) (printed_operand k)
printed_simple (of_likeness h k q) = printed_likeness (fixed refl) h k q
printed_simple (of_list h k) =
    printed_around (fixed refl) (λ xs ys x p e q. prints_among p e q) (printed_operand h) (printed_list (λ l p. printed_literal p) k)
printed_simple (of_member h k) = printed_around (fixed refl) (λ xs ys x p e q. prints_within p e q) (printed_operand h) (printed_attribute k)
printed_simple (of_call {w} h k) =
    printed_around dot_token (λ xs ys x p e q. prints_call p e q) (printed_attribute h)
    (printed_after (call_token w) (printed_after (fixed refl) (printed_before (fixed refl) (printed_list (λ l p. printed_literal p) k))))
printed_simple (of_presence {root} h) = printed_behind (root_token_lem root) (fixed refl) (λ x y xs e f k. prints_presence e k f) (printed_path root h)

-- ---- conditions

module _ {C : TreeOf Word → Type 0} {R : Reading Tree} (one : (c : TreeOf Word) → C c → PrintedAs R tree_words (tree_tokens c) c) where
  -- joined by `&&`, and then by `||`
  printed_conjunction : {c : TreeOf Word} → PrintableJoined both C c → PrintedAs (Conjunction R) tree_words (tree_tokens c) c
  unfolding written_opened tree_tokens
  printed_conjunction (printable.PrintableJoined.alone {c} h) = printed_as (λ xs p. prints_alone p) (one c h)
  printed_conjunction (printable.PrintableJoined.more {b = b} h k) =
      printed_around (fixed refl) (λ xs ys x p e q. prints_both p e q) (printed_conjunction h) (one b k)

  printed_disjunction : {c : TreeOf Word} → PrintableDisjunction C c → PrintedAs (Disjunction R) tree_words (tree_tokens c) c
  unfolding written_opened tree_tokens
  printed_disjunction (printable.PrintableJoined.alone h) = printed_as (λ xs p. prints_alone p) (printed_conjunction h)
  printed_disjunction (printable.PrintableJoined.more h k) =
      printed_around (fixed refl) (λ xs ys x p e q. prints_either p e q) (printed_disjunction h) (printed_conjunction k)

  -- one that may hold others
  printed_over : {c : TreeOf Word} → PrintableOver C c → PrintedAs (ConditionOver sizes R) tree_words (tree_tokens c) c
  unfolding written_opened tree_tokens
  printed_over (of_simple h) = printed_as (λ xs p. prints_as p (λ i r a. grammar.ConditionOver.simple)) (printed_simple h)
  printed_over (of_negation {c} h) = printed_led (fixed refl) (λ x xs e p. prints_negation e p) (one c h)
  printed_over (of_brackets h) = printed_led (fixed refl) (λ x xs e p. prints_brackets e p) (printed_before (fixed refl) (printed_disjunction h))
  printed_over (of_choice {c} {a} {b} h k l) =
      printed_led (fixed refl) (λ x xs e p. prints_choice e p)
      (printed_then (printed_before (fixed refl) (one c h)) (printed_then (printed_before (fixed refl) (one a k)) (one b l)))

-- one with at most d levels inside it
printed_condition : (d : ℕ) (c : TreeOf Word) → PrintableCondition d c → PrintedAs (Condition sizes d) tree_words (tree_tokens c) c
printed_condition zero c h = printed_over {C = NoneDeeper} {R = Nothing} (λ a k. elim k [ ]) h
printed_condition (suc d) c h = printed_over (printed_condition d) h

-- in braces
pub printed_when : {c : Option (TreeOf Word)} → PrintableWhen c → PrintedAs (When sizes) condition_words (when_tokens c) c
unfolding written_opened when_tokens
printed_when without = record { laid = go; formed = none_left }
  where
    go : {xs : List WrittenToken} → LaidAs [] xs → Prints (When sizes) condition_words xs none
    go none_laid = prints_without
printed_when (of_when h) =
    printed_led (fixed refl) (λ x xs e p. prints_when e p)
    (printed_after (fixed refl) (printed_before (fixed refl) (printed_disjunction (printed_condition most_inside) h)))
