-- What follows a left operand, by the token that stands next. Assumes nothing.
use mathlib.Core.Path.{◌≡◌, refl, sym, ap}
use mathlib.Core.Bool.{Bool, true, false, cond}
use mathlib.Core.List.{List, [], ◌∷◌}
use Prim.Native.Nat.{ℕ, ◌≤◌, ◌<◌}
use native.Mathlib.Omega.{arith}
use borrow.Author.Tests.{eq-eqb, ne_eqb}
use Rattle.std.specs.Prelude.{Option, Some, None}
use Rattle.tokens.specs.Kinds as kinds
use Rattle.tokens.specs.declared.reader.Token.{Token}
use Rattle.reading.specs.Lexemes.{Lexeme, lexeme, is}
use Rattle.reading.specs.Reader.{took, refuse_by, ten}
use Rattle.grammar.specs.Policies.{Span, Root, Comparator, text, number, truth, Operand, attribute, literal, Which, constant}
use Rattle.grammar.specs.Rules.{is_comparator, comparator_of, is_pattern, is_text, inside}
use Rattle.grammar.specs.Parser.{Way, uncalled, calling, spanned_by, no_operator, no_pattern, is_like, read_bare, read_operator, read_call, read_rest}
use Rattle.grammar.proofs.Completeness.{text_of, no_text_of, no_sort_of}
use Rattle.table.specs.declared.Entry.{Entry}
use Rattle.table.specs.Entries.{comparator_kind, which_kind, literal_entry, operand_entry, tree_entries}
use Rattle.parts.specs.Names.{of_kind, comparing}
use Rattle.parts.specs.Answers.{call_after}
use Rattle.parts.proofs.Roots.{root_small}

-- ---- comparators

module _ (x : Lexeme) {k : ℕ} where
  pub compares : comparing x.kind ≡ Some k → is_comparator x ≡ true
  unfolding comparing
  compares e = go (is_comparator x) e
    where
      go : (b : Bool) → cond b (Some (comparator_kind (comparator_of (of_kind x.kind)))) None ≡ Some k → b ≡ true
      go true e = refl
      go false e = cc

  pub compare_is : comparing x.kind ≡ Some k → comparator_kind (comparator_of x) ≡ k
  unfolding comparing comparator_of
  compare_is e = go (is_comparator x) e
    where
      go : (b : Bool) → cond b (Some (comparator_kind (comparator_of x))) None ≡ Some k → comparator_kind (comparator_of x) ≡ k
      go true e = cc
      go false e = absurd cc

pub no_compare : (x : Lexeme) → comparing x.kind ≡ None → is_comparator x ≡ false
unfolding comparing
no_compare x e = go (is_comparator x) e
  where
    go : (b : Bool) → cond b (Some (comparator_kind (comparator_of (of_kind x.kind)))) None ≡ None → b ≡ false
    go true e = absurd cc
    go false e = refl

-- ---- patterns

module _ (s : List ℕ) (t : Token) where
  pub no_string : (t.kind ≡ kinds.string → ⊥) → is_like (lexeme s t) ≡ false
  unfolding is_like
  no_string n = rw (no_sort_of (is kinds.string) (lexeme s t) (ne_eqb _ _ n))

  pub no_text : is_text (lexeme s t) ≡ false → is_like (lexeme s t) ≡ false
  unfolding is_like
  no_text u = rw (no_text_of (is kinds.string) (lexeme s t) u)

  pub string_like : t.kind ≡ kinds.string → is_text (lexeme s t) ≡ true → is_like (lexeme s t) ≡ is_pattern (inside (lexeme s t))
  unfolding is_like
  string_like e u = rw (text_of (is kinds.string) (lexeme s t) (eq-eqb _ _ e) u)

  pub ten_for : (t.kind ≡ kinds.string → ⊥) → no_pattern (lexeme s t) ≡ 10
  unfolding no_pattern
  ten_for n = rw (ne_eqb _ _ n)

  pub seventeen_for : t.kind ≡ kinds.string → is_text (lexeme s t) ≡ false → no_pattern (lexeme s t) ≡ 17
  unfolding no_pattern
  seventeen_for e u = string_number (is kinds.string (lexeme s t)) (is_text (lexeme s t)) 17 (eq-eqb _ _ e) u
    where
      string_number : (b u : Bool) (n : ℕ) → b ≡ true → u ≡ false → cond b (cond u 13 n) 10 ≡ n
      string_number b u n e f = rw (e, f)

  pub thirteen_for : t.kind ≡ kinds.string → is_text (lexeme s t) ≡ true → no_pattern (lexeme s t) ≡ 13
  unfolding no_pattern
  thirteen_for e u = string_number (is kinds.string (lexeme s t)) (is_text (lexeme s t)) 13 (eq-eqb _ _ e) u
    where
      string_number : (b u : Bool) (n : ℕ) → b ≡ true → u ≡ true → cond b (cond u n 17) 10 ≡ n
      string_number b u n e f = rw (e, f)

-- ---- left operands, by the kinds of their entries

module _ {left : Entry} where
  pub bare_attribute : (a : Operand) → operand_entry a ≡ left → left.kind ≤ 4 → read_bare a ≡ refuse_by no_operator
  unfolding read_bare operand_entry literal_entry
  bare_attribute (attribute root p) e h = refl
  bare_attribute (literal (text s)) e h = absurd (let k = ap (λ (x : Entry). x.kind) e in omega arith)
  bare_attribute (literal (number s)) e h = absurd (let k = ap (λ (x : Entry). x.kind) e in omega arith)
  bare_attribute (literal (truth true)) e h = absurd (let k = ap (λ (x : Entry). x.kind) e in omega arith)
  bare_attribute (literal (truth false)) e h = absurd (let k = ap (λ (x : Entry). x.kind) e in omega arith)

  pub bare_other : (a : Operand) → operand_entry a ≡ left → 4 < left.kind → left.kind ≤ 10 → read_bare a ≡ refuse_by ten
  unfolding read_bare operand_entry literal_entry
  bare_other (attribute root p) e l h = absurd (let k = ap (λ (x : Entry). x.kind) e in let n = root_small _ root refl in omega arith)
  bare_other (literal (text s)) e l h = refl
  bare_other (literal (number s)) e l h = refl
  bare_other (literal (truth true)) e l h = absurd (let k = ap (λ (x : Entry). x.kind) e in omega arith)
  bare_other (literal (truth false)) e l h = absurd (let k = ap (λ (x : Entry). x.kind) e in omega arith)

-- true or false, alone
pub record Alone (left : Entry) (a : Operand) : Type 0 where
  pub value : Bool
  pub reads : read_bare a ≡ took (constant value)
  pub entries : (e : ℕ) → tree_entries e (constant value) ≡ left ∷ []

pub bare_truth : {left : Entry} (a : Operand) → operand_entry a ≡ left → 10 < left.kind → Alone left a
unfolding read_bare operand_entry literal_entry tree_entries
bare_truth (attribute root p) e h = absurd (let k = ap (λ (x : Entry). x.kind) e in let n = root_small _ root refl in omega arith)
bare_truth (literal (text s)) e h = absurd (let k = ap (λ (x : Entry). x.kind) e in omega arith)
bare_truth (literal (number s)) e h = absurd (let k = ap (λ (x : Entry). x.kind) e in omega arith)
bare_truth (literal (truth true)) e h = record { value = true; reads = refl; entries = λ n. ap (λ (x : Entry). x ∷ []) e }
bare_truth (literal (truth false)) e h = record { value = false; reads = refl; entries = λ n. ap (λ (x : Entry). x ∷ []) e }

-- ---- what follows an attribute as left operand

pub rest_plain : (root : Root) (way : Way) {s : Span} → spanned_by way ≡ s → call_after way ≡ None → read_rest root way ≡ read_operator (attribute root s)
unfolding spanned_by call_after read_rest
rest_plain root (uncalled p) e h = ap (λ (s : Span). read_operator (attribute root s)) e
rest_plain root (calling p w) e h = absurd cc

pub record Called (root : Root) (way : Way) (s : Span) (kind : ℕ) : Type 0 where
  pub which : Which
  pub kind_is : which_kind which ≡ kind
  pub reads : read_rest root way ≡ read_call which root s

pub rest_call : (root : Root) (way : Way) {s : Span} {kind : ℕ} → spanned_by way ≡ s → call_after way ≡ Some kind → Called root way s kind
unfolding spanned_by call_after read_rest
rest_call root (uncalled p) e h = absurd cc
rest_call root (calling p w) e h = record { which = w; kind_is = cc; reads = ap (read_call w root) e }
