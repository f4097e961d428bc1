-- How words are printed, production by production of the grammar. Assumes nothing.
use mathlib.Core.Path.{◌≡◌, refl, ap, ◌∙◌, sym, subst}
use mathlib.Core.Bool.{Bool, true, false, not, or-true}
use mathlib.Core.List.{List, [], ◌∷◌, ◌++◌, append_assoc, append-nil}
use mathlib.Core.Option.{Option, some}
use Prim.Native.Nat.{ℕ, zero, suc, ◌+◌, ◌-◌, ◌≤◌, ◌<◌}
use Prim.Native.Char.{code}
use native.Mathlib.Omega.{arith}
use lib.Dec.{eqb}
use lib.ListN.{length, drop, length-append}
use lib.Seq.{take-append_seam, drop-drop}
use borrow.Author.Tests.{eq-eqb, le-leb, lt-ltb}
use Rattle.slices.specs.Ascii.{bytes}
use Rattle.slices.specs.Same.{same}
use Rattle.utf8.specs.Reading.{utf8}
use Rattle.tokens.specs.Blanks.{unblanked}
use Rattle.tokens.specs.Kinds as kinds
use Rattle.tokens.specs.Forms.{All, empty, next, quote, digits}
use Rattle.tokens.specs.declared.classes.Sort.TheVariants.{Blanks}
use Rattle.tokens.proofs.Opened.{tokens_opened}
use Rattle.reading.specs.Lexemes.{Lexeme, is, size}
use Rattle.reading.specs.Reads.{Reading, Chain, Chain.alone, Chain.more, Onto.onto, Before, After}
use Rattle.grammar.specs.Policies.{Comparator.Equal, Comparator.NotEqual, Comparator.More, Comparator.AtLeast, Comparator.Less, Comparator.AtMost}
use Rattle.grammar.specs.Policies.{Span, span, Root, Root.Principal, Root.Resource, Root.Env, Root.Action, Comparator, LiteralOf, Literal, text, number}
use Rattle.grammar.specs.Policies.{attribute, literal, TreeOf, Tree}
use Rattle.grammar.specs.Policies.{OperandOf, Operand, compare, within, has, both, PartOf, Part, any, pinned, ActionsOf, Actions, one_of, PolicyOf}
use Rattle.grammar.specs.Rules.{is_root, root_of, is_literal, literal_of, is_comparator, comparator_of, admitted, is_effect, span_of, principal_types, is_text}
use Rattle.grammar.specs.Grammar.{sizes, Path, spanned, APath, rooted, AnOperand, given, Element, element, Listing, Simple, comparison, held, having, Joined}
use Rattle.grammar.specs.Grammar.{Condition, Conjunction, Conditions}
use Rattle.grammar.specs.Grammar.{Typed, ResourceRest, ActionRest, When, PolicyRest}
use Rattle.grammar.specs.Grammar as grammar
use Rattle.placing.specs.Placed.{bytes_at, quoted_at, unblanked_at, IsName, a_name}
use Rattle.placing.specs.Said.{Word, literal_words, list_words, operand_words, tree_words, part_words, action_words, condition_words, policy_words, words_of}
use Rattle.placing.proofs.Paths.{unblanked_append, unblanked_blanks, unblanked_name, lone_dot}
use Rattle.spelling.specs.Spelling.{lexeme_at}
use Rattle.spelling.specs.Layout.{WrittenToken, written, laid_out, reads_as, lexeme_of, standing}
use Rattle.spelling.specs.Printing.{HasAt, OfKind, PrintsAt, Prints, PrintsLiteral, PrintsList, PrintsPath, mark_kind, root_kind}
use Rattle.spelling.specs.Printing.{effect_word, path_words, RootedPath, rooted_words, PrintsText}
use Rattle.spelling.specs.Printing as printing
use Rattle.spelling.specs.Marks.{quoted, sign_of}
use Rattle.spelling.proofs.Laid.{read_fitting}
use Rattle.spelling.proofs.Fixed.{is_fixed, written_opened}
use Rattle.spelling.proofs.Printing.{past, standing_then, has_right, has_first, has_token, has_behind, past_token, tokens_around, has_last}
use Rattle.spelling.proofs.Printing.{laid_append, prints_onto, prints_led, prints_around, prints_before, prints_after, prints_as, Twice, twice_words, prints_then}

-- ---- literals

-- a string between its quotes
pub string_bytes : (t : List ℕ) (start : ℕ) (s : List ℕ) → HasAt t start (quoted s) → quoted_at t (span start (start + length (quoted s))) ≡ s
string_bytes t start s h =
    let size : start + length (quoted s) - start - 2 ≡ length s = omega (arith, length-append s (quote ∷ [])) in
    let here : drop (start + 1) t ≡ s ++ (quote ∷ h.rest) =
    sym (drop-drop 1 start t) ∙ (ap (drop 1) h.is ∙ append_assoc s (quote ∷ []) h.rest) in
    rw (size, here) (take-append_seam s (quote ∷ h.rest))

-- the bytes of a token
own_bytes : (t : List ℕ) (start : ℕ) (p : List ℕ) → HasAt t start p → bytes_at t (span start (start + length p)) ≡ p
own_bytes t start p h = let size : start + length p - start ≡ length p = omega arith in rw (size, h.is) (take-append_seam p h.rest)

-- a string within its size
pub string_fits : (s : List ℕ) → length s ≤ 127 → reads_as kinds.string (quoted s) ≡ kinds.string
string_fits s h = read_fitting kinds.string (quoted s) (omega (arith, length-append s (quote ∷ [])))

-- a string that is UTF-8
pub string_text : (s : List ℕ) → utf8 s ≡ true → (start kind : ℕ) → is_text (lexeme_at start kind (quoted s)) ≡ true
string_text s u start kind =
    let size : start + length (quoted s) - start - 2 ≡ length s = omega (arith, length-append s (quote ∷ [])) in
    rw (size, take-append_seam s (quote ∷ []), u) (or-true (not (eqb kind kinds.string)))

-- a string, and a number
pub prints_string : {b : List ℕ} (s : List ℕ) → length s ≤ 127 → utf8 s ≡ true → PrintsLiteral (is kinds.string) (written b kinds.string (quoted s)) (text s)
unfolding literal_of literal_words
prints_string {b} s h u = record {
  of_sort = λ at. rw (string_fits s h);
  is_a_text = λ at. string_text s u (at + length b) (reads_as kinds.string (quoted s));
  says = λ at t k. rw (string_fits s h) (ap text (string_bytes t (at + length b) s k));
}

pub prints_number : {b : List ℕ} (n : List ℕ) → digits n ≤ 15 → PrintsLiteral is_literal (written b kinds.number n) (number n)
unfolding literal_of literal_words
prints_number {b} n h =
    let e : reads_as kinds.number n ≡ kinds.number = read_fitting kinds.number n h in
    record { of_sort = λ at. rw e; is_a_text = λ at. rw e; says = λ at t k. rw e (ap number (own_bytes t (at + length b) n k)) }

-- a string is a literal
pub string_literal : {x : WrittenToken} {l : LiteralOf Word} → PrintsLiteral (is kinds.string) x l → PrintsLiteral is_literal x l
string_literal p = record { of_sort = λ at. rw (p.of_sort at); is_a_text = p.is_a_text; says = p.says }

-- ---- operands

-- a literal
pub prints_literal : {x : WrittenToken} {l : LiteralOf Word} → PrintsLiteral is_literal x l → Prints (AnOperand sizes) operand_words (x ∷ []) (literal l)
unfolding standing operand_words
prints_literal {x} {l} p = record { anywhere = go }
  where
    go : (at : ℕ) (r : List Lexeme) → PrintsAt (AnOperand sizes) operand_words (x ∷ []) (literal l) at r
    go at r = record {
      what = literal (literal_of (lexeme_of at x));
      reads = grammar.AnOperand.literally (p.of_sort at) (p.is_a_text at);
      says = λ t h. ap literal (p.says at t (has_token x [] h));
    }

-- the path that is read of printed tokens
abbrev path_from : ℕ → List ℕ → List WrittenToken → Word → Path
path_from at b xs p = record { start = at + length b; end = past at xs; used = length p }

-- a name within its size
name_fits : (n : Word) → length n ≤ 64 → reads_as kinds.name n ≡ kinds.name
name_fits n h = read_fitting kinds.name n h

-- any root but the action's takes any path of at most 64 bytes
admits : (root : Root) → (root ≡ Action → ⊥) → (used : ℕ) (x : Lexeme) → used + size x ≤ 64 → admitted root used x ≡ true
unfolding admitted
admits Principal n used x h = le-leb (used + size x) 64 h
admits Resource n used x h = le-leb (used + size x) 64 h
admits Env n used x h = le-leb (used + size x) 64 h
admits Action n used x h = absurd (n refl)

-- paths that end at the same place, with as many bytes
paths_same : (start : ℕ) {end end' used used' : ℕ} → end ≡ end' → used ≡ used'
    → ◌≡◌ {A = Path} (record { start = start; end = end; used = used }) (record { start = start; end = end'; used = used' })
paths_same start e u = rw (e, u)

module _ {root : Root} (n : root ≡ Action → ⊥) {b : List ℕ} where
  -- the path is read so
  path_read : {xs : List WrittenToken} {p : Word} → PrintsPath b xs p → length p ≤ 64 → (at : ℕ) (r : List Lexeme)
      → APath sizes root (standing at xs ++ r) r (path_from at b xs p)
  unfolding standing laid_out reads_as
  path_read (printing.PrintsPath.first {n = m} a i) h at r =
      let start = at + length b in
      let x = lexeme_of at (written b kinds.name m) in
      subst (APath sizes root (x ∷ r) r)
      (paths_same start (omega (arith, length-append b (m ++ []), length-append m [])) (omega arith))
      (alone (grammar.FirstName.first (name_fits m h) (admits root n 0 x (omega arith))))
  path_read (printing.PrintsPath.more {xs = xs} {p = p} {n = m} {c = c} {d = d} k e f i) h at r =
      let y = written c kinds.dot (bytes ".") in
      let z = written d kinds.name m in
      let ys = y ∷ z ∷ [] in
      let here = past at xs in
      let dot = lexeme_of here y in
      let next = here + length c + 1 in
      let x = lexeme_of next z in
      let many = length-append p (kinds.dot ∷ m) in
      let end : next + length d + length m ≡ past at (xs ++ ys) =
      omega (
        arith,
        ap length (laid_append xs ys),
        length-append (laid_out xs) (laid_out ys),
        length-append c (46 ∷ (d ++ (m ++ []))),
        length-append d (m ++ []),
        length-append m [],
      ) in
      let before : APath sizes root (standing at xs ++ (dot ∷ x ∷ r)) (dot ∷ x ∷ r) (path_from at b xs p) = path_read k (omega arith) at (dot ∷ x ∷ r) in
      rw (standing_then at xs ys r)
      (subst (APath sizes root (standing at xs ++ (dot ∷ x ∷ r)) r)
      (paths_same (at + length b) end (omega arith))
      (more before refl (grammar.NextName.next (name_fits m (omega arith)) (admits root n (length p + 1) x (omega arith)))))

-- its bytes begin with the blanks before it
path_starts : {b : List ℕ} {xs : List WrittenToken} {p : Word} → PrintsPath b xs p → (l : List ℕ) × (laid_out xs ≡ b ++ l)
unfolding laid_out
path_starts (printing.PrintsPath.first {n = m} a i) = (m ++ [], refl)
path_starts {b} (printing.PrintsPath.more {xs = xs} {n = m} {c = c} {d = d} k e f i) =
    let ys = written c kinds.dot (bytes ".") ∷ written d kinds.name m ∷ [] in
    let s = path_starts k in
    (s.0 ++ laid_out ys, laid_append xs ys ∙ (ap (λ (l : List ℕ). l ++ laid_out ys) s.1 ∙ append_assoc b s.0 (laid_out ys)))

-- without blanks they are the path
path_bytes : {b : List ℕ} {xs : List WrittenToken} {p : Word} → PrintsPath b xs p → unblanked (laid_out xs) ≡ p
unfolding laid_out
path_bytes {b} (printing.PrintsPath.first {n = m} a i) = rw (append-nil m, unblanked_append b m, unblanked_blanks a) (unblanked_name i)
path_bytes (printing.PrintsPath.more {xs = xs} {p = p} {n = m} {c = c} {d = d} k e f i) =
    let ys = written c kinds.dot (bytes ".") ∷ written d kinds.name m ∷ [] in
    let last : unblanked (laid_out ys) ≡ kinds.dot ∷ m =
    rw (
      append-nil m,
      unblanked_append c (kinds.dot ∷ (d ++ m)),
      unblanked_blanks e,
      unblanked_append (kinds.dot ∷ []) (d ++ m),
      lone_dot,
      unblanked_append d m,
      unblanked_blanks f,
      unblanked_name i,
    ) in
    rw (laid_append xs ys, unblanked_append (laid_out xs) (laid_out ys), last, path_bytes k)

-- so they are in every text that has them
path_says : {b : List ℕ} {xs : List WrittenToken} {p : Word} (t : List ℕ) (at : ℕ) → PrintsPath b xs p → HasAt t at (laid_out xs)
    → unblanked_at t (span (at + length b) (past at xs)) ≡ p
path_says {b} {xs} t at k h =
    let s = path_starts k in
    let l = s.0 in
    let end : past at xs ≡ at + length b + length l = omega (arith, ap length s.1, length-append b l) in
    let own = own_bytes t (at + length b) l (has_right b l (subst (HasAt t at) s.1 h)) in
    let blanks : All Blanks b = leading k in
    let clear : unblanked (laid_out xs) ≡ unblanked l = rw (s.1, unblanked_append b l, unblanked_blanks blanks) in
    rw (end, own) (sym clear ∙ path_bytes k)
  where
    leading : {ys : List WrittenToken} {p : Word} → PrintsPath b ys p → All Blanks b
    leading (printing.PrintsPath.first a i) = a
    leading (printing.PrintsPath.more k e f i) = leading k

-- a path after any root but the action's
pub prints_path : {root : Root} {b : List ℕ} {xs : List WrittenToken} {p : Word} → (root ≡ Action → ⊥) → PrintsPath b xs p → length p ≤ 64
    → Prints (APath sizes root) path_words xs p
prints_path {b = b} {xs = xs} {p = p} n k h =
    record { anywhere = λ at r. record { what = path_from at b xs p; reads = path_read n k h at r; says = λ t q. path_says t at k q } }

-- the action's one path
name_word : IsName (bytes "name")
unfolding tokens_opened
name_word = a_name refl (next refl (next refl (next refl empty))) refl

pub prints_name : {b : List ℕ} → All Blanks b → Prints (APath sizes Action) path_words (written b kinds.name (bytes "name") ∷ []) (bytes "name")
unfolding standing laid_out reads_as admitted same
prints_name {b} a = record { anywhere = go }
  where
    y : WrittenToken
    y = written b kinds.name (bytes "name")

    go : (at : ℕ) (r : List Lexeme) → PrintsAt (APath sizes Action) path_words (y ∷ []) (bytes "name") at r
    go at r = record {
      what = path_from at b (y ∷ []) (bytes "name");
      reads =
          subst (APath sizes Action (lexeme_of at y ∷ r) r)
          (paths_same (at + length b) (omega (arith, length-append b (bytes "name"))) (omega arith))
          (alone (grammar.FirstName.first refl refl));
      says = λ t q. path_says t at (printing.PrintsPath.first a name_word) q;
    }

-- a root's word
root_is : (root : Root) (x : Lexeme) → x.kind ≡ root_kind root → (is_root x ≡ true) × (root_of x ≡ root)
unfolding root_kind root_of
root_is Principal x e = (rw e, rw e)
root_is Resource x e = (rw e, rw e)
root_is Env x e = (rw e, rw e)
root_is Action x e = (rw e, rw e)

module _ {root : Root} {x y : WrittenToken} {xs : List WrittenToken} {p : Word} (e : OfKind (root_kind root) x) (k : Prints (APath sizes root) path_words xs p) where
  -- a root's word, a token of the kind s, and a path
  prints_after_root : {A B : Type 0} {R : Reading A} {words : List ℕ → A → B} (f : Root → Span → A) (g : Root → Word → B) {s : ℕ}
      → ((t : List ℕ) (c : Span) → words t (f root c) ≡ g root (unblanked_at t c))
      → ((l m : Lexeme) (i r : List Lexeme) (q : Path) → is_root l ≡ true → m.kind ≡ s → APath sizes (root_of l) i r q
      → R (l ∷ m ∷ i) r (f (root_of l) (spanned q)))
      → OfKind s y → Prints R words (x ∷ y ∷ xs) (g root p)
  unfolding standing
  prints_after_root {R = R} {words = words} f g {s} said read u = record { anywhere = go }
    where
      go : (at : ℕ) (r : List Lexeme) → PrintsAt R words (x ∷ y ∷ xs) (g root p) at r
      go at r =
          let next = at + length x.blanks + length x.bytes in
          let start = next + length y.blanks + length y.bytes in
          let lead = lexeme_of at x in
          let is_root_lem = root_is root lead e.read_as in
          let here = k.anywhere start r in
          let path : APath sizes (root_of lead) (standing start xs ++ r) r here.what =
          subst (λ (o : Root). APath sizes o (standing start xs ++ r) r here.what) (sym is_root_lem.1) here.reads in
          record {
            what = f root (spanned here.what);
            reads =
                subst (λ (o : Root). R (standing at (x ∷ y ∷ xs) ++ r) r (f o (spanned here.what))) is_root_lem.1
                (read lead (lexeme_of next y) (standing start xs ++ r) r here.what is_root_lem.0 u.read_as path);
            says = λ t q. said t (spanned here.what) ∙ ap (g root) (here.says t (has_behind y xs (has_behind x (y ∷ xs) q)));
          }

  -- an attribute: with a dot between
  pub prints_rooted : OfKind kinds.dot y → Prints RootedPath rooted_words (x ∷ y ∷ xs) (root, p)
  prints_rooted = prints_after_root (λ o c. (o, c)) (λ o w. (o, w)) (λ t c. refl) (λ l m i r q. rooted)

  -- with `has` between
  pub prints_presence : OfKind kinds.has_word y → Prints (Simple sizes) tree_words (x ∷ y ∷ xs) (has root p)
  unfolding tree_words
  prints_presence = prints_after_root has has (λ t c. refl) (λ l m i r q. having)

-- an attribute of another root than the action
pub prints_attribute : {root : Root} {x d : WrittenToken} {b : List ℕ} {xs : List WrittenToken} {p : Word} → (root ≡ Action → ⊥) → OfKind (root_kind root) x
    → OfKind kinds.dot d → PrintsPath b xs p → length p ≤ 64 → Prints RootedPath rooted_words (x ∷ d ∷ xs) (root, p)
prints_attribute n e f k h = prints_rooted e (prints_path n k h) f

-- an attribute is an operand
pub prints_given : {xs : List WrittenToken} {root : Root} {p : Word} → Prints RootedPath rooted_words xs (root, p)
    → Prints (AnOperand sizes) operand_words xs (attribute root p)
unfolding operand_words
prints_given k =
    prints_onto (λ (a : Root × Span). attribute a.0 a.1) (λ (a : Root × Word). attribute a.0 a.1) (λ t a. refl) k (λ i r a h. given h)

-- ---- conditions that hold no other

-- a comparator's mark
mark_is : (c : Comparator) (x : Lexeme) → x.kind ≡ mark_kind c → (is_comparator x ≡ true) × (comparator_of x ≡ c)
unfolding mark_kind comparator_of
mark_is Equal x e = (rw e, rw e)
mark_is NotEqual x e = (rw e, rw e)
mark_is More x e = (rw e, rw e)
mark_is AtLeast x e = (rw e, rw e)
mark_is Less x e = (rw e, rw e)
mark_is AtMost x e = (rw e, rw e)

-- it is a token, before a blank, and is read as what it is
pub comparator_fixed : (c : Comparator) → is_fixed (written (bytes " ") (mark_kind c) (sign_of c)) (code " ") ≡ true
unfolding written_opened sign_of mark_kind
comparator_fixed Equal = refl
comparator_fixed NotEqual = refl
comparator_fixed More = refl
comparator_fixed AtLeast = refl
comparator_fixed Less = refl
comparator_fixed AtMost = refl

pub comparator_kind : {b : List ℕ} (c : Comparator) → OfKind (mark_kind c) (written b (mark_kind c) (sign_of c))
unfolding reads_as sign_of mark_kind
comparator_kind Equal = record { read_as = refl }
comparator_kind NotEqual = record { read_as = refl }
comparator_kind More = record { read_as = refl }
comparator_kind AtLeast = record { read_as = refl }
comparator_kind Less = record { read_as = refl }
comparator_kind AtMost = record { read_as = refl }

module _ {xs ys : List WrittenToken} {x : WrittenToken} {a : OperandOf Word} (p : Prints (AnOperand sizes) operand_words xs a) where
  -- two operands with a comparator
  pub prints_comparison : {c : Comparator} {b : OperandOf Word} → OfKind (mark_kind c) x → Prints (AnOperand sizes) operand_words ys b
      → Prints (Simple sizes) tree_words (xs ++ (x ∷ ys)) (compare c a b)
  unfolding tree_words
  prints_comparison {c} e q = prints_around (compare c) (compare c) (λ t a b. refl) p e q reads
    where
      reads : (y : Lexeme) (i m r : List Lexeme) (a b : Operand) → y.kind ≡ mark_kind c → AnOperand sizes i (y ∷ m) a → AnOperand sizes m r b
          → Simple sizes i r (compare c a b)
      reads y i m r a b h j k = let sign = mark_is c y h in rw sign.1 at (comparison j sign.0 k)

  -- an operand `in` an attribute
  pub prints_within : {root : Root} {s : Word} → OfKind kinds.in_word x → Prints RootedPath rooted_words ys (root, s)
      → Prints (Simple sizes) tree_words (xs ++ (x ∷ ys)) (within a root s)
  unfolding tree_words
  prints_within e q =
      prints_around (λ a (d : Root × Span). within a d.0 d.1) (λ a (d : Root × Word). within a d.0 d.1) (λ t a d. refl) p e q
      (λ y i m r a d h j k. held j h k)

-- ---- conditions

-- one that holds no other
pub prints_simple : (d : ℕ) {xs : List WrittenToken} {c : TreeOf Word} → Prints (Simple sizes) tree_words xs c → Prints (Condition sizes d) tree_words xs c
prints_simple zero p = prints_as p (λ i r a h. grammar.ConditionOver.simple h)
prints_simple (suc d) p = prints_as p (λ i r a h. grammar.ConditionOver.simple h)

-- the first of a chain
pub prints_alone : {A B : Type 0} {Sep : A → Lexeme → Bool} {First : Reading A} {Next : A → Lexeme → Reading A} {words : List ℕ → A → B}
    {xs : List WrittenToken} {w : B} → Prints First words xs w → Prints (Chain Sep First Next) words xs w
prints_alone p = prints_as p (λ i r a h. alone h)

-- one more, joined from the left
pub prints_joined : {sep : ℕ} {join : Tree → Tree → Tree} (joined : TreeOf Word → TreeOf Word → TreeOf Word) {C : Reading Tree}
    {xs ys : List WrittenToken} {x : WrittenToken} {a b : TreeOf Word} → ((t : List ℕ) (c d : Tree) → tree_words t (join c d) ≡ joined (tree_words t c) (tree_words t d))
    → Prints (Joined sep join C) tree_words xs a → OfKind sep x → Prints C tree_words ys b → Prints (Joined sep join C) tree_words (xs ++ (x ∷ ys)) (joined a b)
prints_joined {sep} {join} joined said p e q = prints_around join joined said p e q (λ y i m r a b h j k. more j (eq-eqb y.kind sep h) (onto k))

-- joined by `&&`
pub prints_both : {C : Reading Tree} {xs ys : List WrittenToken} {x : WrittenToken} {a b : TreeOf Word} → Prints (Conjunction C) tree_words xs a → OfKind kinds.and x
    → Prints C tree_words ys b → Prints (Conjunction C) tree_words (xs ++ (x ∷ ys)) (both a b)
unfolding tree_words
prints_both p e q = prints_joined both (λ t c d. refl) p e q

-- ---- lists

-- words of literals one behind the other
list_words_lem : (t : List ℕ) (ls ks : List Literal) → list_words t (ls ++ ks) ≡ list_words t ls ++ list_words t ks
unfolding list_words
list_words_lem t [] ks = refl
list_words_lem t (l ∷ ls) ks = ap (λ (m : List (LiteralOf Word)). literal_words t l ∷ m) (list_words_lem t ls ks)

-- literals with commas between them, as they are read
abbrev pub Elements : (Lexeme → Bool) → Reading (List Literal)
Elements sort = Chain (λ ls. is kinds.comma) (Element sizes sort []) (λ ls comma. Element sizes sort ls)

-- what is read of them, as many as there are
record ListRead (sort : Lexeme → Bool) (xs : List WrittenToken) (ls : List (LiteralOf Word)) (at : ℕ) (r : List Lexeme) : Type 0 where
  printed : PrintsAt (Elements sort) list_words xs ls at r
  many : length printed.what ≡ length ls

list_read : {sort : Lexeme → Bool} {xs : List WrittenToken} {ls : List (LiteralOf Word)} → PrintsList sort xs ls → length ls ≤ 16 → (at : ℕ) (r : List Lexeme)
    → ListRead sort xs ls at r
unfolding standing list_words
list_read (printing.PrintsList.first {x = x} {l = l} p) h at r = record {
  printed = record {
    what = literal_of (lexeme_of at x) ∷ [];
    reads = alone (element (p.of_sort at) refl (p.is_a_text at));
    says = λ t k. ap (λ (m : LiteralOf Word). m ∷ []) (p.says at t (has_token x [] k));
  };
  many = refl;
}
list_read (printing.PrintsList.more {xs = xs} {c = c} {x = x} {ls = ls} {l = l} k e p) h at r =
    let next = past_token xs c (x ∷ []) at in
    let y = lexeme_of next x in
    let sizes_add = length-append ls (l ∷ []) in
    let before = list_read k (omega arith) at (lexeme_of (past at xs) c ∷ y ∷ r) in
    let few : length before.printed.what < 16 = let m = before.many in omega arith in
    record {
      printed = record {
        what = before.printed.what ++ literal_of y ∷ [];
        reads =
            rw (tokens_around xs c (x ∷ []) at r)
            (more before.printed.reads (eq-eqb _ kinds.comma e.read_as) (element (p.of_sort next) (lt-ltb _ 16 few) (p.is_a_text next)));
        says = λ t j.
            list_words_lem t before.printed.what (literal_of y ∷ [])
            ∙ rw (before.printed.says t (has_first xs (c ∷ x ∷ []) j), p.says next t (has_token x [] (has_last xs c (x ∷ []) j)));
      };
      many = length-append before.printed.what (literal_of y ∷ []) ∙ (let m = before.many in omega arith);
    }

-- 1 to 16 literals
pub prints_elements : {sort : Lexeme → Bool} {xs : List WrittenToken} {ls : List (LiteralOf Word)} → PrintsList sort xs ls → length ls ≤ 16
    → Prints (Elements sort) list_words xs ls
prints_elements k h = record { anywhere = λ at r. (list_read k h at r).printed }

-- in their brackets
pub prints_list : {sort : Lexeme → Bool} {xs : List WrittenToken} {ls : List (LiteralOf Word)} {x y : WrittenToken} → OfKind kinds.left_square x → PrintsList sort xs ls
    → length ls ≤ 16 → OfKind kinds.right_square y → Prints (Listing sizes sort) list_words (x ∷ (xs ++ y ∷ [])) ls
prints_list {x = x} {y = y} e k h f = prints_after (prints_before (prints_elements k h) {x = y} f) {x = x} e

-- ---- policies

-- a part that is bare
pub prints_bare : {types : List (List ℕ)} → Prints (Typed types) part_words [] any
unfolding standing part_words
prints_bare {types} = record { anywhere = λ at r. record { what = any; reads = grammar.Typed.bare; says = λ t h. refl } }

-- the resource part that is pinned to a string
pub prints_pinned : {x : WrittenToken} {b : List ℕ} (s : Word) → OfKind kinds.equal x → length s ≤ 127 → utf8 s ≡ true
    → Prints (ResourceRest sizes) part_words (x ∷ written b kinds.string (quoted s) ∷ []) (pinned s)
unfolding standing part_words
prints_pinned {x} {b} s e h u = record { anywhere = go }
  where
    y : WrittenToken
    y = written b kinds.string (quoted s)

    go : (at : ℕ) (r : List Lexeme) → PrintsAt (ResourceRest sizes) part_words (x ∷ y ∷ []) (pinned s) at r
    go at r =
        let next = at + length x.blanks + length x.bytes in
        record {
          what = pinned (span_of (lexeme_of next y));
          reads = grammar.ResourceRest.string e.read_as (string_fits s h) (string_text s u (next + length b) (reads_as kinds.string (quoted s)));
          says = λ t k. ap pinned (string_bytes t (next + length b) s (has_token y [] (has_behind x (y ∷ []) k)));
        }

-- the action part that is `in` a list of strings
pub prints_actions : {x : WrittenToken} {xs : List WrittenToken} {ls : List (LiteralOf Word)} → OfKind kinds.in_word x
    → Prints (Listing sizes (is kinds.string)) list_words xs ls → Prints (ActionRest sizes) action_words (x ∷ xs) (one_of ls)
unfolding standing action_words
prints_actions e p = prints_led one_of one_of (λ t a. refl) p e (λ y i r a. grammar.ActionRest.list)

-- `when` and a condition in braces
pub prints_when : {x : WrittenToken} {xs : List WrittenToken} {c : TreeOf Word} → OfKind kinds.when_word x
    → Prints (After kinds.left_brace (Before kinds.right_brace (Conditions sizes))) tree_words xs c → Prints (When sizes) condition_words (x ∷ xs) (some c)
unfolding standing condition_words
prints_when e p = prints_led (λ a. some a) (λ a. some a) (λ t a. refl) p e (λ y i r a. grammar.When.braces)

-- the three parts of a policy's target, and its condition, one behind the other
abbrev pub PolicyParts : Reading (Part × (Actions × (Part × Option Tree)))
PolicyParts =
    Twice (After kinds.left_round (After kinds.principal_word (Before kinds.comma (Typed principal_types))))
    (Twice (After kinds.action_word (Before kinds.comma (ActionRest sizes)))
    (Twice (After kinds.resource_word (Before kinds.right_round (ResourceRest sizes))) (Before kinds.semicolon (When sizes))))

abbrev pub parts_words : List ℕ → Part × (Actions × (Part × Option Tree)) → PartOf Word × (ActionsOf Word × (PartOf Word × Option (TreeOf Word)))
parts_words = twice_words part_words (twice_words action_words (twice_words part_words condition_words))

-- a policy behind its effect
pub prints_parts : {permits : Bool} {xs : List WrittenToken} {p s : PartOf Word} {a : ActionsOf Word} {c : Option (TreeOf Word)}
    → Prints PolicyParts parts_words xs (p, (a, (s, c)))
    → Prints (PolicyRest sizes permits) policy_words xs (record { permits = permits; principal = p; action = a; resource = s; condition = c })
prints_parts {permits} k = prints_onto (made Span) (made Word) (λ t a. refl) k
    (λ i r a h. grammar.PolicyRest.rest h.first h.second.first h.second.second.first h.second.second.second)
  where
    made : (W : Type 0) → PartOf W × (ActionsOf W × (PartOf W × Option (TreeOf W))) → PolicyOf W
    made W a = record { permits = permits; principal = a.0; action = a.1.0; resource = a.1.1.0; condition = a.1.1.1 }

-- by each of them
pub prints_policy : {permits : Bool} {ps os rs cs : List WrittenToken} {p s : PartOf Word} {a : ActionsOf Word} {c : Option (TreeOf Word)}
    → Prints (After kinds.left_round (After kinds.principal_word (Before kinds.comma (Typed principal_types)))) part_words ps p
    → Prints (After kinds.action_word (Before kinds.comma (ActionRest sizes))) action_words os a
    → Prints (After kinds.resource_word (Before kinds.right_round (ResourceRest sizes))) part_words rs s
    → Prints (Before kinds.semicolon (When sizes)) condition_words cs c
    → Prints (PolicyRest sizes permits) policy_words (ps ++ (os ++ (rs ++ cs)))
    (record { permits = permits; principal = p; action = a; resource = s; condition = c })
prints_policy k₁ k₂ k₃ k₄ = prints_parts (prints_then k₁ (prints_then k₂ (prints_then k₃ k₄)))

-- an effect's word
pub effect_is : (permits : Bool) (x : Lexeme) → x.kind ≡ effect_word permits → (is_effect x ≡ true) × (is kinds.permit_word x ≡ permits)
unfolding effect_word
effect_is true x e = (rw e, rw e)
effect_is false x e = (rw e, rw e)

-- a text of one policy
pub prints_text : {permits : Bool} {x : WrittenToken} {xs : List WrittenToken} {p : PolicyOf Word} → OfKind (effect_word permits) x
    → Prints (PolicyRest sizes permits) policy_words xs p → PrintsText (x ∷ xs) (p ∷ [])
unfolding standing words_of
prints_text {permits} {x} {xs} {p} e k =
    let lead = lexeme_of 0 x in
    let is_effect_lem = effect_is permits lead e.read_as in
    let start = 0 + length x.blanks + length x.bytes in
    let here = k.anywhere start [] in
    let rest : PolicyRest sizes (is kinds.permit_word lead) (standing start xs) [] here.what =
    subst (λ (b : Bool). PolicyRest sizes b (standing start xs) [] here.what) (sym is_effect_lem.1) (rw (append-nil (standing start xs)) at here.reads) in
    record {
      policies = here.what ∷ [];
      belongs = grammar.Policies.policy is_effect_lem.0 refl rest grammar.Policies.end;
      says = let all = laid_out (x ∷ xs) in ap (λ (w : PolicyOf Word). w ∷ []) (here.says all (has_behind x xs (record { rest = []; is = sym (append-nil all) })));
    }
