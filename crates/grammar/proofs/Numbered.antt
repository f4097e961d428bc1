-- Each refusal of the reader of rule texts has the number that the table says. Assumes nothing.
use mathlib.Core.Path.{◌≡◌, refl, ap, ◌∙◌}
use mathlib.Core.Bool.{Bool, true, false, ◌&&◌, ◌||◌, and-true, and-false, or-true}
use mathlib.Core.List.{List, [], ◌∷◌, ◌++◌, reverse, reverse_aux}
use Prim.Native.Nat.{ℕ, zero, suc, ◌≤◌}
use native.Mathlib.Omega.{arith}
use lib.Dec.{eqb, ltb}
use lib.ListN.{length, length-append}
use borrow.Author.Tests.{eqb-true, ltb-true}
use Rattle.tokens.specs.Kinds as kinds
use Rattle.tokens.proofs.TokenLaws.{never, and_left, and_right}
use Rattle.tokens.specs.Sizes.{most_literals}
use Rattle.reading.specs.Lexemes.{Lexeme, is}
use Rattle.reading.specs.Reader.{took, refuse, Reader, numbered, refuse_by, ten, bind, on, before, onwards}
use Rattle.reading.proofs.Readers.{Without}
use Rattle.grammar.specs.Policies.{Span, Root, Literal, text, number, truth, Operand, attribute, literal, Which, Tree, among, within, contains, both, either, Policy}
use Rattle.grammar.specs.Rules.{is_effect, is_root, root_of, is_literal, literal_of, is_comparator, is_contains, principal_types, resource_types, inside, is_pattern, is_text}
use Rattle.grammar.specs.Grammar.{Path}
use Rattle.grammar.specs.Parser.{Way, uncalled, calling, no_name, no_operator, no_type, no_text, no_level, no_pattern, no_element, no_policy, name_fits, read_first_name, goes_on, read_next_name, read_way, no_exit, read_path, read_attribute, read_operand, is_text_of, is_element, read_element, read_list, read_bare, read_in, is_like, read_pattern, read_operator, read_call, read_rest, read_rooted, read_simple, read_joined, read_conjunction, read_disjunction, read_negated, read_bracketed, read_conditional, read_deeper, read_condition, read_conditions, read_type, read_principal, read_action, read_resource, read_when, read_policy, may_begin, read_next_policy, at_end, read_text}
use Rattle.grammar.specs.Numbers.{last_passes, at_condition, after_left, action_in, one_more, at_literal, number_of_token, number_of_first, NumberedRightly}
use Rattle.grammar.proofs.Begun.{made}
use Rattle.grammar.proofs.Completeness.{other_kind}
use Rattle.grammar.proofs.Steps.{policies_step}
use Rattle.grammar.proofs.Telling.{Past, here, step, Places, Told, good, stops, Tells, tells_weaker, tells_took, tells_refuse_by, tells_bind, Stepped, stepped, tells_on, Plain, tells_ten, tells_need, tells_before, tells_mapped, tells_onwards, tells_chain}
use Rattle.grammar.proofs.Spots.{TestsAt, Quiet, AtCondition, AtText, Left, quiet_ten, begins_deepest, begins_text, text_at, admits, left_bare, type_number, pattern_number, policy_number, opens, at_kind, quiet_root, quiet_literal, text_comparator, quiet_contains, quiet_effect, quiet_round, quiet_comma, at_left, begins_round, OnPath, dotted, had, longer, path_number, Named, named, named_place, InList, opened, further, element_number}

-- places by what stands before them
abbrev At : (List Lexeme → Type 0) → Places
At K c i = K c

abbrev Ends : {A : Type 0} → (List Lexeme → Type 0) → A → Places
Ends K a c i = K c

quietly : Plain (At Quiet)
quietly = record { at = λ c i h x. quiet_ten h x }

-- behind a token of the kind k, which is no name, no comma and no `(`
behind_kind : (k : ℕ) → (eqb k kinds.name ≡ false) × (eqb k kinds.comma ≡ false) × (eqb k kinds.left_round ≡ false) → {P : Places} {x : Lexeme} {c i : List Lexeme} → x.kind ≡ k → Stepped x P c i
    → TestsAt (eqb k kinds.dot || eqb k kinds.has_word) false (eqb k kinds.is_word) (opens k) (eqb k kinds.like_word) (eqb k kinds.semicolon) (admits k) c
behind_kind k h e (stepped q) = at_kind k h _ _ e

-- ---- paths

-- behind a path after the root, or behind the word of a call
data AfterWay (left : Bool) (root : Root) : Way → List Lexeme → Type 0 where
  plainly : {p : Path} {c : List Lexeme} → Named left root c → AfterWay left root (uncalled p) c
  called : {p : Path} {w : Which} {x : Lexeme} {c : List Lexeme} → is_contains x ≡ true → AfterWay left root (calling p w) (x ∷ c)

module _ (left : Bool) (root : Root) where
  tells_first : Tells (At (OnPath left root)) (read_first_name root) (λ w c r. AfterWay left root w c)
  unfolding read_first_name name_fits
  tells_first = tells_on _ _ _ (λ x t. tells_took _ (λ c i h. go (eqb-true _ _ (and_left _ _ t)) h)) (tells_refuse_by (no_name root) (λ c r x h. path_number h.0 x))
    where
      go : {x : Lexeme} {p : Path} {c i : List Lexeme} → x.kind ≡ kinds.name → Stepped x (At (OnPath left root)) c i → AfterWay left root (uncalled p) c
      go e (stepped h) = plainly (named h e)

  tells_next : (exit : Lexeme → Bool) → ((x : Lexeme) → exit x ≡ true → is_contains x ≡ true) → (w : Way) (d : Lexeme) → goes_on w d ≡ true
      → Tells (Stepped d (λ c r. AfterWay left root w c)) (read_next_name exit root w) (λ w c r. AfterWay left root w c)
  unfolding read_next_name name_fits goes_on
  tells_next exit f (uncalled p) d e = tells_weaker {Pre = At (OnPath left root)}
      (tells_on _ _ _ (λ x t. tells_took _ (λ c i h. exits (f x t) h))
      (tells_on _ _ _ (λ x t. tells_took _ (λ c i h. go (eqb-true _ _ (and_left _ _ t)) h)) (tells_refuse_by (no_name root) (λ c r x h. path_number h.0.0 x))))
      (λ c i h. on_path (eqb-true _ _ e) h) (λ w c i h. h)
    where
      exits : {x : Lexeme} {p : Path} {w : Which} {c i : List Lexeme} → is_contains x ≡ true → Stepped x (At (OnPath left root)) c i → AfterWay left root (calling p w) c
      exits t (stepped h) = called t

      go : {x : Lexeme} {p : Path} {c i : List Lexeme} → x.kind ≡ kinds.name → Stepped x (λ c i. OnPath left root c × Without exit i) c i → AfterWay left root (uncalled p) c
      go k (stepped h) = plainly (named h.0 k)

      on_path : {d : Lexeme} {c i : List Lexeme} → d.kind ≡ kinds.dot → Stepped d (λ c r. AfterWay left root (uncalled p) c) c i → OnPath left root c
      on_path k (stepped (plainly (named h q))) = longer h q k
  tells_next exit f (calling p w) d e = absurd (never e)

  tells_way : (exit : Lexeme → Bool) → ((x : Lexeme) → exit x ≡ true → is_contains x ≡ true) → Tells (At (OnPath left root)) (read_way exit root) (λ w c r. AfterWay left root w c)
  unfolding read_way
  tells_way exit f = tells_chain goes_on _ (tells_next exit f) _ tells_first

tells_path : (root : Root) → Tells (At (OnPath false root)) (read_path root) (Ends Quiet)
unfolding read_path
tells_path root = tells_bind _ (tells_way false root no_exit (λ x e. absurd (never e))) (λ w. tells_took _ (λ c i h. go h))
  where
    go : {w : Way} {c : List Lexeme} → AfterWay false root w c → Quiet c
    go (plainly h) = named_place h
    go (called {x = x} t) = quiet_contains x _ t

-- ---- operands and lists

-- behind a root that begins no left operand
data RightRoot : Root → List Lexeme → Type 0 where
  right : {x : Lexeme} {c : List Lexeme} → is_root x ≡ true → at_condition c ≡ false → RightRoot (root_of x) (x ∷ c)

tells_attribute : {A : Type 0} (root : Root) (f : Root → Span → A) → Tells (At (RightRoot root)) (read_attribute root f) (Ends Quiet)
unfolding read_attribute
tells_attribute root f =
    tells_need kinds.dot _ (record { at = λ c i h x. quiet_ten (quiet h) x }) (λ d e. tells_bind _ (tells_weaker (tells_path root) (λ c i h. go e h) (λ p c i h. h)) (λ p. tells_took _ (λ c i h. h)))
  where
    quiet : {root : Root} {c : List Lexeme} → RightRoot root c → Quiet c
    quiet (right {x = x} t h) = quiet_root x _ t

    go : {root : Root} {d : Lexeme} {c i : List Lexeme} → d.kind ≡ kinds.dot → Stepped d (At (RightRoot root)) c i → OnPath false root c
    go e (stepped (right t h)) = dotted t e h

tells_operand : Tells (At AtText) read_operand (Ends Quiet)
unfolding read_operand is_text_of
tells_operand =
    tells_on _ _ _ (λ x t. tells_took _ (λ c i h. go t h))
    (tells_on _ _ _ (λ x t. tells_weaker (tells_attribute (root_of x) attribute) (λ c i h. root t h) (λ a c i h. h))
    (tells_refuse_by no_text (λ c r x h. text_at h.0.0 x)))
  where
    go : {x : Lexeme} {c i : List Lexeme} → (is_literal x && is_text x) ≡ true → Stepped x (At AtText) c i → Quiet c
    go t (stepped h) = quiet_literal _ _ (and_left _ _ t)

    root : {x : Lexeme} {c i : List Lexeme} → is_root x ≡ true → Stepped x (λ c i. AtText c × Without (is_text_of is_literal) i) c i → RightRoot (root_of x) c
    root t (stepped h) = right t h.0.begins

-- behind one part of a target, or a list
abbrev BehindPart : List Lexeme → Type 0
BehindPart c = Quiet c × (last_passes is_literal c ≡ false)

-- behind a literal of a list that so has the literals ls
data Listed (sort : Lexeme → Bool) (ls : List Literal) : List Lexeme → Type 0 where
  listed : {k : ℕ} {l : Lexeme} {c : List Lexeme} → InList sort k c → length ls ≡ suc k → suc k ≤ most_literals → is_literal l ≡ true → Listed sort ls (l ∷ c)

module _ (sort : Lexeme → Bool) (sorts : (x : Lexeme) → sort x ≡ true → is_literal x ≡ true) (strings : (x : Lexeme) → is kinds.string x ≡ true → sort x ≡ true) where
  tells_element : (ls : List Literal) → Tells (λ c i. InList sort (length ls) c × (length ls ≤ most_literals)) (read_element sort ls) (λ ks c r. Listed sort ks c)
  unfolding read_element is_element is_text_of Without
  tells_element ls = tells_on _ _ _ (λ x t. tells_took _ (λ c i h. go t h)) (tells_refuse_by (no_element sort ls) (λ c r x h. element_number ls strings h.0.0 h.0.1 x h.1))
    where
      go : {x : Lexeme} {c i : List Lexeme} → (ltb (length ls) most_literals && (sort x && is_text x)) ≡ true → Stepped x (λ c i. InList sort (length ls) c × (length ls ≤ most_literals)) c i → Listed sort (ls ++ literal_of x ∷ []) c
      go {x = x} t (stepped h) =
          let a = length-append ls (literal_of x ∷ []) in let b = ltb-true (length ls) most_literals (and_left _ _ t) in
          listed h.0 (omega arith) (omega arith) (sorts x (and_left _ _ (and_right (ltb (length ls) most_literals) _ t)))

  tells_list : Tells (At (InList sort 0)) (read_list sort) (Ends BehindPart)
  unfolding read_list last_passes
  tells_list = tells_before kinds.right_square _
      (tells_chain (λ ls. is kinds.comma) _ (λ ls y e. tells_weaker (tells_element ls) (λ c i h. go (eqb-true _ _ e) h) (λ ks c i h. h)) _
      (tells_weaker (tells_element []) (λ c i h. (h, omega arith)) (λ ks c i h. h)))
      (λ ls. record { at = λ c i h x. quiet_ten (quiet h) x })
      (λ ls x c r e h. (at_kind kinds.right_square (refl, refl, refl) x c e, rw e))
    where
      go : {ls : List Literal} {y : Lexeme} {c i : List Lexeme} → y.kind ≡ kinds.comma → Stepped y (λ c i. Listed sort ls c) c i → InList sort (length ls) c × (length ls ≤ most_literals)
      go e (stepped (listed h q l t)) = (rw q (further h t e), omega arith)

      quiet : {ls : List Literal} {c : List Lexeme} → Listed sort ls c → Quiet c
      quiet (listed {l = l} h q m t) = quiet_literal l _ t

-- ---- conditions that hold no other

string_literal : (x : Lexeme) → is kinds.string x ≡ true → is_literal x ≡ true
string_literal x e = rw e

tells_in : (a : Operand) → Tells (λ c i. Quiet c × (action_in c ≡ false)) (read_in a) (Ends Quiet)
unfolding read_in
tells_in a =
    tells_on _ _ _ (λ x t. tells_mapped (among a) _ (tells_weaker (tells_list is_literal (λ x e. e) string_literal) (λ c i h. list (eqb-true _ _ t) h) (λ ls c i h. h.0)))
    (tells_on _ _ _ (λ x t. tells_weaker (tells_attribute (root_of x) (within a)) (λ c i h. root t h) (λ v c i h. h))
    (tells_ten (record { at = λ c i h x. quiet_ten h.0.0.0 x })))
  where
    list : {x : Lexeme} {c i : List Lexeme} → x.kind ≡ kinds.left_square → Stepped x (λ c i. Quiet c × (action_in c ≡ false)) c i → InList is_literal 0 c
    list e (stepped {c = c} h) = opened {c = c} e (λ x. rw h.1)

    root : {x : Lexeme} {c i : List Lexeme} → is_root x ≡ true → Stepped x (λ c i. (Quiet c × (action_in c ≡ false)) × Without (is kinds.left_square) i) c i → RightRoot (root_of x) c
    root t (stepped h) = right t h.0.0.begins

-- the last token is not action
abbrev NoAction : List Lexeme → Type 0
NoAction c = last_passes (is kinds.action_word) c ≡ false

no_action_in : (w : Lexeme) (c : List Lexeme) → NoAction c → action_in (w ∷ c) ≡ false
unfolding last_passes action_in
no_action_in w [] e = refl
no_action_in w (a ∷ c) e = rw e (and-false (is kinds.in_word w))

tells_operator : (a : Operand) (K : List Lexeme → Type 0) → Tells (At K) (read_bare a) (Ends Quiet) → Tells (λ c i. K c × NoAction c) (read_operator a) (Ends Quiet)
unfolding read_operator read_pattern is_like is_text_of
tells_operator a K b =
    tells_on _ _ _ (λ x t. tells_mapped _ _ (tells_weaker tells_operand (λ c i h. compared t h) (λ v c i h. h)))
    (tells_on _ _ _
    (λ x t. tells_on _ _ _ (λ y u. tells_took _ (λ c i h. behind_kind kinds.string (refl, refl, refl) (eqb-true _ _ (and_left _ _ (and_left (is kinds.string y && is_text y) (is_pattern (inside y)) u))) h)) (tells_refuse_by no_pattern (λ c r y h. pattern_number (behind_kind kinds.like_word (refl, refl, refl) (eqb-true _ _ t) h.0) y)))
    (tells_on _ _ _ (λ x t. tells_weaker (tells_in a) (λ c i h. held (eqb-true _ _ t) h) (λ v c i h. h))
    (tells_weaker b (λ c i h. h.0.0.0.0) (λ v c i h. h))))
  where
    compared : {x : Lexeme} {P : Places} {c i : List Lexeme} → is_comparator x ≡ true → Stepped x P c i → AtText c
    compared t (stepped h) = text_comparator _ _ t

    held : {x : Lexeme} {c i : List Lexeme} → x.kind ≡ kinds.in_word → Stepped x (λ c i. ((K c × NoAction c) × Without is_comparator i) × Without (is kinds.like_word) i) c i → Quiet c × (action_in c ≡ false)
    held {x = x} e (stepped h) = (at_kind kinds.in_word (refl, refl, refl) x _ e, no_action_in x _ h.0.0.1)

-- behind containsAll or containsAny
data Called : List Lexeme → Type 0 where
  word : {x : Lexeme} {c : List Lexeme} → is_contains x ≡ true → Called (x ∷ c)

tells_call : (w : Which) (root : Root) (p : Span) → Tells (At Called) (read_call w root p) (Ends Quiet)
unfolding read_call last_passes action_in
tells_call w root p =
    tells_need kinds.left_round _ (record { at = λ c i h x. quiet_ten (quiet h) x }) (λ o e.
    tells_need kinds.left_square _ (record { at = λ c i h x. quiet_ten (round e h) x }) (λ l e'.
    tells_before kinds.right_round _ (tells_mapped (contains w root p) _ (tells_weaker (tells_list is_literal (λ x e. e) string_literal) (λ c i h. list e e' h) (λ ls c i h. h.0))) (λ t. quietly)
    (λ t x c r k h. at_kind kinds.right_round (refl, refl, refl) x c k)))
  where
    quiet : {c : List Lexeme} → Called c → Quiet c
    quiet (word t) = quiet_contains _ _ t

    round : {o : Lexeme} {c i : List Lexeme} → o.kind ≡ kinds.left_round → Stepped o (At Called) c i → Quiet c
    round {o = o} e (stepped (word {x = x} t)) = quiet_round o _ e (rw t (or-true (is_effect x)))

    list : {o l : Lexeme} {c i : List Lexeme} → o.kind ≡ kinds.left_round → l.kind ≡ kinds.left_square → Stepped l (Stepped o (At Called)) c i → InList is_literal 0 c
    list {o = o} e e' (stepped (stepped (word {x = x} {c = c} t))) = opened {c = o ∷ x ∷ c} e' (λ y. rw e)

tells_rest : (root : Root) (w : Way) → Tells (λ c i. AfterWay true root w c) (read_rest root w) (Ends Quiet)
unfolding read_rest read_bare last_passes
tells_rest root (uncalled p) = tells_weaker (tells_operator _ Left (tells_refuse_by no_operator (λ c r x h. left_bare h x))) (λ c i h. go h) (λ t c i h. h)
  where
    go : {p : Path} {c : List Lexeme} → AfterWay true root (uncalled p) c → Left c × NoAction c
    go (plainly (named h e)) = (named_place (named h e), rw e)
tells_rest root (calling p w) = tells_weaker (tells_call w root _) (λ c i h. go h) (λ t c i h. h)
  where
    go : {p : Path} {w : Which} {c : List Lexeme} → AfterWay true root (calling p w) c → Called c
    go (called t) = word t

-- behind a root where a condition begins
data LeftRoot : Root → List Lexeme → Type 0 where
  leads : {x : Lexeme} {c : List Lexeme} → is_root x ≡ true → AtCondition c → LeftRoot (root_of x) (x ∷ c)

tells_rooted : (root : Root) → Tells (At (LeftRoot root)) (read_rooted root) (Ends Quiet)
unfolding read_rooted
tells_rooted root =
    tells_on _ _ _ (λ d e. tells_bind _ (tells_weaker (tells_way true root is_contains (λ x t. t)) (λ c i h. dot (eqb-true _ _ e) h) (λ w c i h. h)) (tells_rest root))
    (tells_need kinds.has_word _ (record { at = λ c i h x. quiet_ten (quiet h.0) x }) (λ k e.
    tells_mapped _ _ (tells_weaker (tells_path root) (λ c i h. has_path e h) (λ p c i h. h))))
  where
    quiet : {root : Root} {c : List Lexeme} → LeftRoot root c → Quiet c
    quiet (leads {x = x} t h) = quiet_root x _ t

    dot : {root : Root} {d : Lexeme} {c i : List Lexeme} → d.kind ≡ kinds.dot → Stepped d (At (LeftRoot root)) c i → OnPath true root c
    dot e (stepped (leads t h)) = dotted t e h.begins

    has_path : {root : Root} {d : Lexeme} {c i : List Lexeme} → d.kind ≡ kinds.has_word → Stepped d (λ c i. LeftRoot root c × Without (is kinds.dot) i) c i → OnPath false root c
    has_path e (stepped h) = go e h.0
      where
        go : {root : Root} {d : Lexeme} {c : List Lexeme} → d.kind ≡ kinds.has_word → LeftRoot root c → OnPath false root (d ∷ c)
        go e (leads t h) = had t e refl

-- ---- conditions

tells_bare : (l : Literal) → Tells (At Quiet) (read_bare (literal l)) (Ends Quiet)
unfolding read_bare
tells_bare (truth b) = tells_took _ (λ c i h. h)
tells_bare (text s) = tells_ten quietly
tells_bare (number s) = tells_ten quietly

tells_simple : (deeper : Reader Tree) → Tells (λ c i. (AtCondition c × Without (is_text_of is_literal) i) × Without is_root i) deeper (Ends Quiet) → Tells (At AtCondition) (read_simple deeper) (Ends Quiet)
unfolding read_simple is_text_of last_passes
tells_simple deeper d =
    tells_on _ _ _ (λ x t. tells_weaker (tells_operator _ Quiet (tells_bare (literal_of x))) (λ c i h. go t h) (λ u c i h. h))
    (tells_on _ _ _ (λ x t. tells_weaker (tells_rooted (root_of x)) (λ c i h. root t h) (λ u c i h. h)) d)
  where
    go : {x : Lexeme} {c i : List Lexeme} → (is_literal x && is_text x) ≡ true → Stepped x (At AtCondition) c i → Quiet c × NoAction c
    go {x = x} t (stepped h) = (quiet_literal x _ (and_left _ _ t), other_kind (λ k. is_literal (made k)) x.kind kinds.action_word (and_left _ _ t) refl)

    root : {x : Lexeme} {c i : List Lexeme} → is_root x ≡ true → Stepped x (λ c i. AtCondition c × Without (is_text_of is_literal) i) c i → LeftRoot (root_of x) c
    root t (stepped h) = leads t h.0

module _ {p : Reader Tree} (t : Tells (At AtCondition) p (Ends Quiet)) where
  -- at any place that a condition begins at
  here_begins : {P : Places} → ((c i : List Lexeme) → P c i → AtCondition c) → Tells P p (Ends Quiet)
  here_begins f = tells_weaker t f (λ u c i h. h)

  tells_conjunction : Tells (At AtCondition) (read_conjunction p) (Ends Quiet)
  unfolding read_conjunction read_joined
  tells_conjunction = tells_chain (λ a. is kinds.and) _ (λ a x e. tells_mapped (both a) p (here_begins (λ c i h. behind_kind kinds.and (refl, refl, refl) (eqb-true _ _ e) h))) _ t

  tells_disjunction : Tells (At AtCondition) (read_disjunction p) (Ends Quiet)
  unfolding read_disjunction read_joined
  tells_disjunction =
      tells_chain (λ a. is kinds.or) _
      (λ a x e. tells_mapped (either a) _ (tells_weaker tells_conjunction (λ c i h. behind_kind kinds.or (refl, refl, refl) (eqb-true _ _ e) h) (λ u c i h. h))) _ tells_conjunction

  tells_conditional : {P : Places} → ((c i : List Lexeme) → P c i → AtCondition c) → Tells P (read_conditional p) (Ends Quiet)
  unfolding read_conditional
  tells_conditional f =
      tells_bind _ (tells_before kinds.then_word p {Mid = Ends Quiet} {Post = Ends AtCondition} (here_begins f) (λ a. quietly) (λ a x c r e h. at_kind kinds.then_word (refl, refl, refl) x c e)) (λ c.
      tells_bind _ (tells_before kinds.else_word p {Mid = Ends Quiet} {Post = Ends AtCondition} t (λ a. quietly) (λ a x c r e h. at_kind kinds.else_word (refl, refl, refl) x c e)) (λ a.
      tells_mapped _ p t))

  tells_deeper : Tells (At AtCondition) (read_deeper p) (Ends Quiet)
  unfolding read_deeper read_negated read_bracketed Without
  tells_deeper =
      tells_on _ _ _ (λ x e. tells_mapped _ p (here_begins (λ c i h. behind_kind kinds.bang (refl, refl, refl) (eqb-true _ _ e) h)))
      (tells_on _ _ _
      (λ x e. tells_mapped _ _ (tells_before kinds.right_round _ {Mid = Ends Quiet} (tells_weaker tells_disjunction (λ c i h. bracket (eqb-true _ _ e) h) (λ u c i h. h)) (λ u. quietly)
      (λ u x c r e h. at_kind kinds.right_round (refl, refl, refl) x c e)))
      (tells_on _ _ _ (λ x e. tells_conditional (λ c i h. behind_kind kinds.if_word (refl, refl, refl) (eqb-true _ _ e) h))
      (tells_refuse_by no_text (λ c r x h. begins_text h.0.0.0 x (rw (h.0.0.1, h.0.1, h.1))))))
    where
      bracket : {x : Lexeme} {c i : List Lexeme} → x.kind ≡ kinds.left_round → Stepped x (λ c i. AtCondition c × Without (is kinds.bang) i) c i → AtCondition c
      bracket e (stepped h) = begins_round _ e h.0

tells_condition : (d : ℕ) → Tells (At AtCondition) (read_condition d) (Ends Quiet)
unfolding read_condition
tells_condition zero = tells_simple _ (tells_refuse_by no_level (λ c r x h. begins_deepest h.0.0 x))
tells_condition (suc d) = tells_simple _ (tells_weaker (tells_deeper (tells_condition d)) (λ c i h. h.0.0) (λ u c i h. h))

-- ---- policies

-- behind a token of the kind k
data Behind (k : ℕ) : List Lexeme → Type 0 where
  after : {x : Lexeme} {c : List Lexeme} → x.kind ≡ k → Behind k (x ∷ c)

stepped_after : {k : ℕ} {P : Places} {x : Lexeme} {c i : List Lexeme} → x.kind ≡ k → Stepped x P c i → Behind k c
stepped_after e (stepped h) = after e

-- behind a token of this kind there is no literal, and nothing to tell
after_part : (k : ℕ) → is_literal (made k) ≡ false → ((x : Lexeme) (c : List Lexeme) → x.kind ≡ k → Quiet (x ∷ c)) → {c : List Lexeme} → Behind k c → BehindPart c
unfolding last_passes
after_part k f q (after {x = x} e) = (q x _ e, rw e f)

tells_type : (types : List (List ℕ)) → Tells (At (Behind kinds.is_word)) (read_type types) (Ends BehindPart)
unfolding read_type last_passes after_left
tells_type types = tells_on _ _ _ (λ x t. tells_took _ (λ c i h. go (eqb-true _ _ (and_left _ _ t)) h)) (tells_refuse_by no_type (λ c r x h. type_number (place h.0) x))
  where
    place : {c : List Lexeme} → Behind kinds.is_word c → TestsAt false false true false false false false c
    place (after e) = at_kind kinds.is_word (refl, refl, refl) _ _ e

    go : {x : Lexeme} {c i : List Lexeme} → x.kind ≡ kinds.name → Stepped x (At (Behind kinds.is_word)) c i → BehindPart c
    go {x = x} e (stepped (after {x = y} {c = c} k)) = (at_left false x (y ∷ c) e (rw (e, k)), rw e)

tells_principal : Tells (At BehindPart) read_principal (Ends BehindPart)
unfolding read_principal
tells_principal = tells_on _ _ _ (λ x e. tells_weaker (tells_type principal_types) (λ c i h. stepped_after (eqb-true _ _ e) h) (λ p c i h. h)) (tells_took _ (λ c i h. h.0))

tells_action : Tells (At (Behind kinds.action_word)) read_action (Ends BehindPart)
unfolding read_action action_in
tells_action =
    tells_on _ _ _ (λ w e. tells_need kinds.left_square _ (record { at = λ c i h x. quiet_ten (behind_kind kinds.in_word (refl, refl, refl) (eqb-true _ _ e) h) x }) (λ s k.
    tells_mapped _ _ (tells_weaker (tells_list (is kinds.string) string_literal (λ x e. e)) (λ c i h. list (eqb-true _ _ e) k h) (λ ls c i h. h))))
    (tells_took _ (λ c i h. after_part kinds.action_word refl (at_kind kinds.action_word (refl, refl, refl)) h.0))
  where
    list : {w s : Lexeme} {c i : List Lexeme} → w.kind ≡ kinds.in_word → s.kind ≡ kinds.left_square → Stepped s (Stepped w (At (Behind kinds.action_word))) c i → InList (is kinds.string) 0 c
    list {w = w} e k (stepped (stepped (after {x = x} {c = c} q))) = opened {c = w ∷ x ∷ c} k (λ y. rw (e, q))

tells_resource : Tells (At Quiet) read_resource (Ends Quiet)
unfolding read_resource is_text_of
tells_resource =
    tells_on _ _ _ (λ x e. tells_weaker (tells_type resource_types) (λ c i h. stepped_after (eqb-true _ _ e) h) (λ p c i h. h.0))
    (tells_on _ _ _
    (λ x e. tells_on _ _ _ (λ s t. tells_took _ (λ c i h. behind_kind kinds.string (refl, refl, refl) (eqb-true _ _ (and_left _ _ t)) h)) (tells_refuse_by no_text (λ c r x h. text_at (behind_kind kinds.equal (refl, refl, refl) (eqb-true _ _ e) h.0) x)))
    (tells_took _ (λ c i h. h.0.0)))

tells_when : Tells (At Quiet) read_when (Ends Quiet)
unfolding read_when read_conditions
tells_when =
    tells_on _ _ _ (λ x e. tells_need kinds.left_brace _ (record { at = λ c i h x. quiet_ten (behind_kind kinds.when_word (refl, refl, refl) (eqb-true _ _ e) h) x }) (λ y k.
    tells_mapped _ _ (tells_before kinds.right_brace _ {Mid = Ends Quiet}
    (tells_weaker (tells_disjunction (tells_condition 31)) (λ c i h. behind_kind kinds.left_brace (refl, refl, refl) k h) (λ u c i h. h)) (λ u. quietly)
    (λ u x c r e h. at_kind kinds.right_brace (refl, refl, refl) x c e))))
    (tells_took _ (λ c i h. h.0))

-- behind an effect
data Effect : List Lexeme → Type 0 where
  effect : {x : Lexeme} {c : List Lexeme} → is_effect x ≡ true → Effect (x ∷ c)

-- behind a policy
abbrev Policed : List Lexeme → Type 0
Policed = TestsAt false false false false false true false

tells_policy : (permits : Bool) → Tells (At Effect) (read_policy permits) (Ends Policed)
unfolding read_policy last_passes
tells_policy permits =
    tells_need kinds.left_round _ (record { at = λ c i h x. quiet_ten (effect_quiet h) x }) (λ x e.
    tells_need kinds.principal_word _ (record { at = λ c i h x. quiet_ten (round e h) x }) (λ x e.
    tells_bind _ (comma tells_principal (λ c i h. principal e h)) (λ p.
    tells_need kinds.action_word _ quietly (λ x e.
    tells_bind _ (comma tells_action (λ c i h. stepped_after e h)) (λ a.
    tells_need kinds.resource_word _ quietly (λ x e.
    tells_bind _ (tells_before kinds.right_round _ {Mid = Ends Quiet} {Post = Ends Quiet} (tells_weaker tells_resource (λ c i h. behind_kind kinds.resource_word (refl, refl, refl) e h) (λ s c i h. h)) (λ s. quietly) (λ s x c r e h. at_kind kinds.right_round (refl, refl, refl) x c e)) (λ s.
    tells_bind _ (tells_before kinds.semicolon _ {Mid = Ends Quiet} {Post = Ends Policed} tells_when (λ c. quietly) (λ c x d r e h. at_kind kinds.semicolon (refl, refl, refl) x d e)) (λ c.
    tells_took _ (λ c i h. h)))))))))
  where
    effect_quiet : {c : List Lexeme} → Effect c → Quiet c
    effect_quiet (effect t) = quiet_effect _ _ t

    round : {x : Lexeme} {c i : List Lexeme} → x.kind ≡ kinds.left_round → Stepped x (At Effect) c i → Quiet c
    round e (stepped (effect t)) = quiet_round _ _ e (rw t)

    principal : {P : Places} {x : Lexeme} {c i : List Lexeme} → x.kind ≡ kinds.principal_word → Stepped x P c i → BehindPart c
    principal e h = after_part kinds.principal_word refl (at_kind kinds.principal_word (refl, refl, refl)) (stepped_after e h)

    comma : {A : Type 0} {P Q : Places} {p : Reader A} → Tells P p (Ends BehindPart) → ((c i : List Lexeme) → Q c i → P c i) → Tells Q (before kinds.comma p) (Ends Quiet)
    comma {p = p} t f = tells_before kinds.comma p {Mid = Ends BehindPart} (tells_weaker t f (λ a c i h. h)) (λ a. record { at = λ c i h x. quiet_ten h.0 x }) (λ a x c r e h. quiet_comma x c e h.1)

-- ---- texts

-- at the start of a text where no policy begins, or behind a policy
data Between : List Policy → List Lexeme → List Lexeme → Type 0 where
  none : {i : List Lexeme} → Without (may_begin []) i → Between [] [] i
  policed : {ps : List Policy} {c i : List Lexeme} → Policed c → Between ps c i

tells_next_policy : {P : Places} (ps : List Policy) (x : Lexeme) → may_begin ps x ≡ true → Tells (Stepped x P) (read_next_policy ps x) (Ends Policed)
unfolding read_next_policy may_begin
tells_next_policy {P = P} ps x t = tells_mapped _ _ (tells_weaker (tells_policy (is kinds.permit_word x)) (λ c i h. go (and_left _ _ t) h) (λ p c i h. h))
  where
    go : {x : Lexeme} {c i : List Lexeme} → is_effect x ≡ true → Stepped x P c i → Effect c
    go t (stepped h) = effect t

tells_policies : Tells (λ c i. c ≡ []) (onwards may_begin read_next_policy []) Between
tells_policies = record { at = λ c i h. rw (policies_step [] i) (first.at c i h) }
  where
    first : Tells (λ c i. c ≡ []) (on (may_begin []) (λ x m. bind (read_next_policy [] x m) (onwards may_begin read_next_policy)) (took [])) Between
    first = tells_on _ _ _
        (λ x t. tells_bind _ (tells_next_policy [] x t) (λ ps. tells_weaker (tells_onwards may_begin read_next_policy {Inv = Ends Policed} tells_next_policy ps) (λ c i h. h) (λ qs c i h. policed h)))
        (tells_took [] (λ c i h. rw h.0 (none h.1)))

no_policy_first : (x : Lexeme) → may_begin [] x ≡ false → numbered no_policy x ≡ number_of_token [] x
unfolding numbered no_policy number_of_token may_begin last_passes after_left at_condition at_literal one_more
no_policy_first x f = rw (rw (and-true (is_effect x)) at f)

tells_end : (ps : List Policy) → Tells (Between ps) (at_end ps) (λ qs c i. Unit {0})
unfolding at_end refuse_by number_of_first Without
tells_end ps = record { at = go }
  where
    go : {ps : List Policy} (c i : List Lexeme) → Between ps c i → Told (λ qs c i. Unit {0}) c i (at_end ps i)
    go c [] h = good here tt
    go c (x ∷ r) (none w) = stops here (no_policy_first x w)
    go c (x ∷ r) (policed h) = stops here (policy_number h x)

tells_text : Tells (λ c i. c ≡ []) read_text (λ ps c i. Unit {0})
unfolding read_text
tells_text = tells_bind _ tells_policies tells_end

-- ---- the theorem

past_length : {d r c i : List Lexeme} → Past d r c i → length r ≤ length i
past_length here = omega arith
past_length (step w) = let x = past_length w in omega arith

pub past_is : (b : List Lexeme) {d r c i : List Lexeme} → Past d r c i → i ≡ b ++ r → d ≡ reverse_aux b c
past_is [] here e = refl
past_is (x ∷ b) {r = r} here e = absurd (let y = ap (λ (l : List Lexeme). length l) e in let z = length-append b r in omega arith)
past_is [] {r = r} (step w) e = absurd (let y = ap (λ (l : List Lexeme). length l) e in let z = past_length w in omega arith)
past_is (x ∷ b) {r = r} (step {x = y} {i = i} w) e = let f : y ≡ x = cc in rw (← f) (past_is b w (cc))

pub numbered_rightly : NumberedRightly
unfolding NumberedRightly
numbered_rightly b r n e = go b (rw e at (tells_text.at [] (b ++ r) refl))
  where
    go : {r : List Lexeme} {n : ℕ} (b : List Lexeme) → Told {A = List Policy} (λ ps c i. Unit {0}) [] (b ++ r) (refuse n r) → n ≡ number_of_first (reverse b) r
    go {r = r} b (stops w q) = q ∙ ap (λ (c : List Lexeme). number_of_first c r) (past_is b w refl)
