-- How further conditions are printed: true and false, `like`, `in` a list, calls, `!`, brackets, `if` and `||`. Assumes nothing.
use mathlib.Core.Path.{◌≡◌, refl, ap}
use mathlib.Core.Bool.{Bool, true, false}
use mathlib.Core.List.{List, [], ◌∷◌, ◌++◌}
use Prim.Native.Nat.{ℕ, ◌+◌, ◌-◌, ◌≤◌}
use native.Mathlib.Omega.{arith}
use lib.ListN.{length, length-append}
use lib.Seq.{take-append_seam}
use Rattle.utf8.specs.Reading.{utf8}
use Rattle.tokens.specs.Kinds as kinds
use Rattle.tokens.specs.Forms.{quote}
use Rattle.reading.specs.Lexemes.{Lexeme, is}
use Rattle.reading.specs.Reads.{Reading, Before, After, After.begun}
use Rattle.grammar.specs.Policies.{Span, Root, Which, LiteralOf, truth, OperandOf, TreeOf, Tree, constant, like, among, contains, not, brackets, either, choice}
use Rattle.grammar.specs.Policies as policies
use Rattle.grammar.specs.Rules.{inside, span_of, is_truth, is_literal, literal_of, is_contains, which_of, is_pattern, is_text}
use Rattle.grammar.specs.Grammar.{sizes, AnOperand, Listing, Simple, likeness, listed, call, ConditionOver, negation, bracketed, conditional}
use Rattle.grammar.specs.Grammar.{Conjunction, Disjunction}
use Rattle.grammar.specs.Grammar as grammar
use Rattle.placing.specs.Said.{Word, literal_words, list_words, operand_words, tree_words}
use Rattle.spelling.specs.Layout.{WrittenToken, written, reads_as, lexeme_of, standing}
use Rattle.spelling.specs.Printing.{PrintsAt, Prints, OfKind, PrintsLiteral, truth_kind, call_kind, RootedPath, rooted_words}
use Rattle.spelling.specs.Marks.{quoted}
use Rattle.spelling.proofs.Printing.{past, has_first, has_token, has_last, past_token, tokens_around, prints_led, Twice, twice_words}
use Rattle.spelling.proofs.Printing.{prints_around}
use Rattle.spelling.proofs.Productions.{string_bytes, string_fits, string_text, prints_joined}

-- ---- true and false

truth_is : (b : Bool) (x : Lexeme) → x.kind ≡ truth_kind b → (is_truth x ≡ true) × (is kinds.true_word x ≡ b) × (is_literal x ≡ true) × (literal_of x ≡ truth b)
unfolding truth_kind literal_of
truth_is true x e = (rw e, rw e, rw e, rw e)
truth_is false x e = (rw e, rw e, rw e, rw e)

-- it is no string
truth_text : (b : Bool) (x : Lexeme) → x.kind ≡ truth_kind b → is_text x ≡ true
unfolding truth_kind
truth_text true x e = rw e
truth_text false x e = rw e

module _ {b : Bool} {x : WrittenToken} (e : OfKind (truth_kind b) x) where
  -- as a literal
  pub prints_truth : PrintsLiteral is_literal x (truth b)
  unfolding literal_words
  prints_truth = record {
    of_sort = λ at. (truth_is b (lexeme_of at x) e.read_as).2;
    is_a_text = λ at. truth_text b (lexeme_of at x) e.read_as;
    says = λ at t h. ap (literal_words t) (truth_is b (lexeme_of at x) e.read_as).3;
  }

  -- as a condition
  pub prints_constant : Prints (Simple sizes) tree_words (x ∷ []) (constant b)
  unfolding standing tree_words
  prints_constant = record { anywhere = go }
    where
      go : (at : ℕ) (r : List Lexeme) → PrintsAt (Simple sizes) tree_words (x ∷ []) (constant b) at r
      go at r =
          let y = lexeme_of at x in
          let word = truth_is b y e.read_as in
          record {
            what = constant (is kinds.true_word y);
            reads = grammar.Simple.bare word.0;
            says = λ t h. ap constant word.1;
          }

-- ---- an operand and what it is like, or in

-- a string as a token has it inside
inside_quoted : (at : ℕ) (b : List ℕ) (s : Word) → inside (lexeme_of at (written b kinds.string (quoted s))) ≡ s
inside_quoted at b s =
    let start = at + length b in
    let many : start + length (quoted s) - start - 2 ≡ length s = omega (arith, length-append s (quote ∷ [])) in
    rw many (take-append_seam s (quote ∷ []))

module _ {xs : List WrittenToken} {x : WrittenToken} {a : OperandOf Word} (p : Prints (AnOperand sizes) operand_words xs a) where
  -- an operand `like` a pattern
  pub prints_likeness : (b : List ℕ) (s : Word) → OfKind kinds.like_word x → length s ≤ 127 → utf8 s ≡ true → is_pattern s ≡ true
      → Prints (Simple sizes) tree_words (xs ++ (x ∷ written b kinds.string (quoted s) ∷ [])) (like a s)
  unfolding standing tree_words
  prints_likeness b s e h u q = record { anywhere = go }
    where
      y : WrittenToken
      y = written b kinds.string (quoted s)

      go : (at : ℕ) (r : List Lexeme) → PrintsAt (Simple sizes) tree_words (xs ++ (x ∷ y ∷ [])) (like a s) at r
      go at r =
          let next = past_token xs x (y ∷ []) at in
          let z = lexeme_of next y in
          let left = p.anywhere at (lexeme_of (past at xs) x ∷ z ∷ r) in
          let pattern : is_pattern (inside z) ≡ true = rw (inside_quoted next b s) q in
          record {
            what = like left.what (span_of z);
            reads = rw (tokens_around xs x (y ∷ []) at r) (likeness left.reads e.read_as (string_fits s h) (string_text s u (next + length b) (reads_as kinds.string (quoted s))) pattern);
            says = λ t k.
                rw (
                  left.says t (has_first xs (x ∷ y ∷ []) k),
                  string_bytes t (next + length b) s (has_token y [] (has_last xs x (y ∷ []) k)),
                );
          }

  -- an operand `in` a list
  pub prints_among : {ys : List WrittenToken} {ls : List (LiteralOf Word)} → OfKind kinds.in_word x → Prints (Listing sizes is_literal) list_words ys ls
      → Prints (Simple sizes) tree_words (xs ++ (x ∷ ys)) (among a ls)
  unfolding tree_words
  prints_among e q = prints_around among among (λ t a ls. refl) p e q (λ y i m r a ls h j k. listed j h k)

-- ---- calls

call_is : (w : Which) (x : Lexeme) → x.kind ≡ call_kind w → (is_contains x ≡ true) × (which_of x ≡ w)
unfolding call_kind which_of
call_is policies.Which.All x e = (rw e, rw e)
call_is policies.Which.Any x e = (rw e, rw e)

-- an attribute, a dot, and a call's word with a list in brackets
pub prints_call : {w : Which} {xs ys : List WrittenToken} {x : WrittenToken} {root : Root} {p : Word} {ls : List (LiteralOf Word)}
    → Prints RootedPath rooted_words xs (root, p) → OfKind kinds.dot x
    → Prints (After (call_kind w) (After kinds.left_round (Before kinds.right_round (Listing sizes is_literal)))) list_words ys ls
    → Prints (Simple sizes) tree_words (xs ++ (x ∷ ys)) (contains w root p ls)
unfolding tree_words
prints_call {w} p e q =
    prints_around (λ (a : Root × Span) ls. contains w a.0 a.1 ls) (λ (a : Root × Word) ls. contains w a.0 a.1 ls) (λ t a ls. refl) p e q reads
  where
    reads : (y : Lexeme) (i m r : List Lexeme) (a : Root × Span) (ls : List policies.Literal) → y.kind ≡ kinds.dot → RootedPath i (y ∷ m) a
        → After (call_kind w) (After kinds.left_round (Before kinds.right_round (Listing sizes is_literal))) m r ls
        → Simple sizes i r (contains w a.0 a.1 ls)
    reads y i m r a ls h j (begun {x = z} f (begun g k)) = let word = call_is w z f in rw word.1 at (call j h word.0 g k)

-- ---- conditions that hold others

module _ {Inner : Reading Tree} where
  -- `!`
  pub prints_negation : {x : WrittenToken} {xs : List WrittenToken} {c : TreeOf Word} → OfKind kinds.bang x → Prints Inner tree_words xs c
      → Prints (ConditionOver sizes Inner) tree_words (x ∷ xs) (not c)
  unfolding tree_words
  prints_negation e p = prints_led not not (λ t a. refl) p e (λ y i r a. negation)

  -- brackets
  pub prints_brackets : {x : WrittenToken} {xs : List WrittenToken} {c : TreeOf Word} → OfKind kinds.left_round x
      → Prints (Before kinds.right_round (Disjunction Inner)) tree_words xs c → Prints (ConditionOver sizes Inner) tree_words (x ∷ xs) (brackets c)
  unfolding tree_words
  prints_brackets e p = prints_led brackets brackets (λ t a. refl) p e (λ y i r a. bracketed)

  -- `if`, with what is before `then`, what is before `else`, and the rest
  pub prints_choice : {x : WrittenToken} {xs : List WrittenToken} {c a b : TreeOf Word} → OfKind kinds.if_word x
      → Prints (Twice (Before kinds.then_word Inner) (Twice (Before kinds.else_word Inner) Inner)) (twice_words tree_words (twice_words tree_words tree_words)) xs
      (c, (a, b))
      → Prints (ConditionOver sizes Inner) tree_words (x ∷ xs) (choice c a b)
  unfolding tree_words
  prints_choice e p =
      prints_led (λ (a : Tree × (Tree × Tree)). choice a.0 a.1.0 a.1.1)
      (λ (a : TreeOf Word × (TreeOf Word × TreeOf Word)). choice a.0 a.1.0 a.1.1) (λ t a. refl) p e
      (λ y i r a h k. conditional h k.first k.second.first k.second.second)

-- joined by `||`
pub prints_either : {C : Reading Tree} {xs ys : List WrittenToken} {x : WrittenToken} {a b : TreeOf Word} → Prints (Disjunction C) tree_words xs a → OfKind kinds.or x
    → Prints (Conjunction C) tree_words ys b → Prints (Disjunction C) tree_words (xs ++ (x ∷ ys)) (either a b)
unfolding tree_words
prints_either p e q = prints_joined either (λ t c d. refl) p e q
